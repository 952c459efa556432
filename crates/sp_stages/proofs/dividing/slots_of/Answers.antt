use Rattle.std.proofs.Common.{◌≡◌, ℕ, Bool, List, ◌+◌, ◌<◌, ◌&&◌, ◌||◌, not, ◌∷◌, ◌++◌, [], map, length, ap, ◌∙◌, arith}
use Rattle.std.specs.List.{list_any}
use Rattle.std.proofs.lemmas.List.{length-map}
use Rattle.std.proofs.lemmas.Grind.{get_or_default_zero}
use Rattle.sp_core.specs.CoreParts.{plain_core}
use Rattle.sp_core.specs.Elements.{numbers_below}
use Rattle.sp_core.specs.Plain.{plain_counter}
use Rattle.sp_plan.specs.Slots.{stage_of}
use Rattle.sp_stages.specs.Divided.{is_joined, slot_of}
use Rattle.sp_plan.specs.declared.runs.Run.{Run}
use Rattle.sp_plan.specs.Runs.{plain_run}
use Rattle.sp_stages.specs.Parts.{covers}
use Rattle.sp_stages.proofs.Below.{length-numbers}
use Rattle.sp_stages.proofs.Numbered.{pushed_number, stage_few, slot_found, joined_like}
use Rattle.sp_stages.proofs.dividing.slots_of.Goals as goal

few_slots : (joined : ℕ → Bool) (by_stage : List ℕ) (runs : List Run) (p k : ℕ) → by_stage ≡ map (slot_of joined) (numbers_below (length runs + 1)) → p < length runs → k ≡ stage_of (map plain_run runs) p → k < length by_stage
few_slots joined by_stage runs p k e lt is =
    let same = length-map runs plain_run in
    let few = stage_few (map plain_run runs) p (omega arith) in
    let many = ap length e in
    omega (arith, many, length-map (numbers_below (length runs + 1)) (slot_of joined), length-numbers (length runs + 1))

pub index-requires : goal.index-requires
index-requires c =
    let lt = few_slots _ c.in_ok-by_stage.by_stage.items c.args.runs.now c.loop-p.p c.stage_of.result c.in_ok-by_stage.ensures c.loop-p-test.true c.stage_of.ensures in
    omega (arith, lt)

pub loop-p-preserved : goal.loop-p-preserved
loop-p-preserved c =
    let runs = length-map c.args.runs.now plain_run in
    let few = stage_few (map plain_run c.args.runs.now) c.loop-p.p (omega arith) in
    let f = λ (k : ℕ). c.has_one_slot-one.result || (not c.is_once.result && list_any (covers k) c.deref.result.now) in
    let g = is_joined (plain_core c.args.core.now) c.args.meets.now (map plain_counter c.args.counters.now) c.args.style c.args.owned.now (map plain_run c.args.runs.now) in
    let same : (k : ℕ) → f k ≡ g k = λ k. joined_like _ _ _ _ _ _ c.has_one_slot-one.ensures c.is_once.ensures (ap (list_any (covers k)) c.deref.ensures.value ∙ c.in_ok-held.ensures k) in
    let found = slot_found f g same c.in_ok-by_stage.by_stage.items (length c.args.runs.now) c.stage_of.result c.in_ok-by_stage.ensures (omega arith) in
    let at = c.index.ensures ∙ get_or_default_zero c.in_ok-by_stage.by_stage.items c.stage_of.result _ (few_slots f c.in_ok-by_stage.by_stage.items c.args.runs.now c.loop-p.p c.stage_of.result c.in_ok-by_stage.ensures c.loop-p-test.true c.stage_of.ensures) ∙ found ∙ ap (slot_of g) c.stage_of.ensures in
    pushed_number (λ p. slot_of g (stage_of (map plain_run c.args.runs.now) p)) c.loop-p.p _ _ c.loop-p.invariant (c.in_ok-push.ensures.items ∙ ap (λ x. c.loop-p.slots.items ++ x ∷ []) at)
