use Rattle.std.proofs.Common.{◌≡◌, ◌++◌, drop, map}
use Rattle.sp_unroll.specs.Words.{move_of}
use Rattle.sp_unroll.proofs.moved.places_in.Given as goal

abbrev pub invariant-loop-k : goal.invariant-loop-k
invariant-loop-k l = l.moved.items ++ map (move_of l.m l.ended l.places) (drop l.k-index l.args) ≡ map (move_of l.m l.ended l.places) l.args
