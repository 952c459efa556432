use Rattle.std.proofs.Common.{◌≡◌, ◌++◌, drop, map}
use Rattle.sp_unroll.specs.Entries.{number_in}
use Rattle.sp_unroll.proofs.renamed.numbers_in.Given as goal

abbrev pub invariant-loop-m : goal.invariant-loop-m
invariant-loop-m l = l.numbers.items ++ map (number_in l.order l.w.names.items) (drop l.m-index l.mems) ≡ map (number_in l.order l.w.names.items) l.mems
