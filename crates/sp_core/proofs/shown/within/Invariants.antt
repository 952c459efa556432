use Rattle.std.proofs.Common.{◌≡◌, ℕ, map, take}
use Rattle.sp_core.specs.Around.{lanes_of}
use Rattle.sp_core.specs.PartsPlain.{near_of}
use Rattle.sp_core.specs.Plain.{plain_counter}
use Rattle.sp_core.specs.Around as plain
use Rattle.sp_core.specs.PlainCore.{PlainCounter}
use Rattle.sp_core.proofs.shown.within.Given as goal

abbrev near_by : ℕ → PlainCounter → plain.Near
near_by lanes c = record { number = c.number; lanes = lanes }

abbrev pub invariant-loop-counter : goal.invariant-loop-counter
invariant-loop-counter l = map near_of l.near.items ≡ map (near_by l.lanes) (map plain_counter (take l.counter-index l.counters))
