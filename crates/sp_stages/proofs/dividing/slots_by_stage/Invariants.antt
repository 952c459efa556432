use Rattle.std.proofs.Common.{◌≡◌, ◌+◌, ◌≤◌, ◌&&◌, ◌||◌, not, map}
use Rattle.std.specs.List.{list_any}
use Rattle.sp_core.specs.Elements.{numbers_below}
use Rattle.sp_stages.specs.Divided.{slot_of}
use Rattle.sp_stages.specs.Parts.{covers}
use Rattle.sp_stages.proofs.dividing.slots_by_stage.Given as goal

abbrev pub invariant-loop-k : goal.invariant-loop-k
invariant-loop-k l =
    (l.slots.items ≡ map (slot_of (λ i. l.one || (not l.once && list_any (covers i) l.held))) (numbers_below (l.k + 1)))
    × (l.slot ≡ slot_of (λ i. l.one || (not l.once && list_any (covers i) l.held)) l.k)
    × (l.slot ≤ l.k)
