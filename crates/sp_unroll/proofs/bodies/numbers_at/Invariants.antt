use Rattle.std.proofs.Common.{◌≡◌, ◌++◌, drop, map}
use Rattle.std.specs.Prelude.{slice_index}
use Rattle.sp_unroll.proofs.bodies.numbers_at.Given as goal

abbrev pub invariant-loop-place : goal.invariant-loop-place
invariant-loop-place l = l.found.items ++ map (slice_index l.numbers) (drop l.place-index l.all) ≡ map (slice_index l.numbers) l.all
