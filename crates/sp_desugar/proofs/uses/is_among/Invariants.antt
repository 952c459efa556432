use Rattle.std.proofs.Common.{◌≡◌, drop}
use Rattle.sp_desugar.specs.Names.{among}
use Rattle.sp_desugar.proofs.uses.is_among.Given as goal

abbrev pub invariant-loop-name : goal.invariant-loop-name
invariant-loop-name l = among (drop l.name-index l.names) l.v ≡ among l.names l.v
