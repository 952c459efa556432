use Rattle.std.proofs.Common.{ℕ, ◌<◌, map}
use Rattle.std.specs.Global.{Vec}
use Rattle.sp_words.specs.Ports.{plain_port}
use Rattle.sp_sim.specs.Given.{DramGiven}
use Rattle.sp_sim.proofs.given.first_dram.Given as goal

abbrev pub invariant-loop-place : goal.invariant-loop-place
invariant-loop-place l = (place : ℕ) → place < l.place → DramGiven (map plain_port l.ports) (map (λ (v : Vec ℕ). v.items) l.drams) place
