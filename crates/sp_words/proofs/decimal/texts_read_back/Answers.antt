use Rattle.std.proofs.Math.Nat.{mod-lt}
use Rattle.std.proofs.lemmas.Nat.{pow_pos}
use Rattle.std.specs.Prelude.{◌%◌, ◌^◌, unsigned_abs}
use Rattle.sp_words.specs.Types.{frac_of}
use Rattle.sp_words.specs.Words.{value_of}
use Rattle.sp_words.proofs.DecimalLemmas.{no_last_zero}
use Rattle.sp_words.proofs.NumberTextLemmas.{one_reading, printed, read_exactly, read_again, same_word}
use Rattle.sp_words.proofs.decimal.texts_read_back.Goals as goal

pub returns-clause-one_reading : goal.returns-clause-one_reading
returns-clause-one_reading c = one_reading

pub returns-clause-printed : goal.returns-clause-printed
returns-clause-printed c = printed

pub returns-clause-exact : goal.returns-clause-exact
returns-clause-exact c = read_exactly

pub returns-clause-read : goal.returns-clause-read
returns-clause-read c = read_again

pub returns-clause-no_last_zero : goal.returns-clause-no_last_zero
returns-clause-no_last_zero c ty w digits =
    let size = unsigned_abs (value_of ty w) in
    no_last_zero (frac_of ty) (size % 2 ^ frac_of ty) digits (mod-lt size (pow_pos (frac_of ty)))

pub returns-clause-one_word : goal.returns-clause-one_word
returns-clause-one_word c = same_word
