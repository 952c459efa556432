use Rattle.std.proofs.Common.{ℕ, ◌<◌, map}
use Rattle.sp_words.specs.Ports.{plain_port}
use Rattle.sp_sim.specs.Given.{ArgGiven}
use Rattle.sp_sim.proofs.given.first_arg.Given as goal

abbrev pub invariant-loop-place : goal.invariant-loop-place
invariant-loop-place l = (place : ℕ) → place < l.place → ArgGiven (map plain_port l.ports) l.args place
