use Rattle.std.proofs.Common.{◌≡◌, ◌∙◌, pos, [], rules}
use Rattle.std.specs.Prelude.{int_lt, unsigned_abs}
use Rattle.sp_setup.specs.Reading.{number_reading}
use Rattle.sp_setup.proofs.ReadingLemmas.{data_reading-integer, data_reading-boolean, data_reading-text, data_reading-other}
use Rattle.sp_setup.proofs.reading.read_value.Goals as goal

pub returns-in-Some : goal.returns-in-Some
returns-in-Some c =
    let read : c.read_integer.result ≡ number_reading c.args.ty (int_lt c.in-Some.number (pos 0)) (unsigned_abs c.in-Some.number) [] = search rules in
    read ∙ data_reading-integer _ _ _ c.in-Some.ensures

pub returns-in-Some-as_bool : goal.returns-in-Some-as_bool
returns-in-Some-as_bool c = c.read_boolean.ensures ∙ data_reading-boolean _ _ _ c.in-Some-as_bool.ensures

pub returns-in-Some-as_str : goal.returns-in-Some-as_str
returns-in-Some-as_str c = rw (← data_reading-text _ _ _ c.in-Some-as_str.ensures) c.read_str.ensures

pub returns-in-None : goal.returns-in-None
returns-in-None c = data_reading-other _ _ c.in_default.ensures c.in_default-as_bool.ensures c.in-None.ensures
