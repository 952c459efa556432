use Rattle.std.proofs.Common.{rules}
use Rattle.sp_types.specs.Types.{type_of}
use Rattle.sp_typed.proofs.types.type_of.Goals as goal

pub returns-in-Int : goal.returns-in-Int
unfolding type_of
returns-in-Int c = search rules

pub returns-in-Bit : goal.returns-in-Bit
unfolding type_of
returns-in-Bit c = search rules

pub returns-in-FixPt : goal.returns-in-FixPt
unfolding type_of
returns-in-FixPt c = search rules
