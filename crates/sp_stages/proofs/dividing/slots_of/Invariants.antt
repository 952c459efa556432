use Rattle.std.proofs.Common.{◌≡◌, map}
use Rattle.sp_core.specs.CoreParts.{plain_core}
use Rattle.sp_core.specs.Elements.{numbers_below}
use Rattle.sp_core.specs.Plain.{plain_counter}
use Rattle.sp_plan.specs.Slots.{stage_of}
use Rattle.sp_stages.specs.Divided.{is_joined, slot_of}
use Rattle.sp_plan.specs.Runs.{plain_run}
use Rattle.sp_stages.proofs.dividing.slots_of.Given as goal

abbrev pub invariant-loop-p : goal.invariant-loop-p
invariant-loop-p l = l.slots.items ≡ map (λ p. slot_of (is_joined (plain_core l.core) l.meets (map plain_counter l.counters) l.fn.style l.owned (map plain_run l.runs)) (stage_of (map plain_run l.runs) p)) (numbers_below l.p)
