-- A loop in beats is told whether a group comes.
use Rattle.std.proofs.Common.{◌≡◌, ℕ, suc, ◌≤◌, nat_lt, Bool, List, map, length, sym, ap, subst, ◌∙◌, arith}
use Rattle.std.specs.List.{Contains}
use Rattle.sp_words.specs.declared.kind.Style.{Style}
use Rattle.sp_gates.specs.Tested.{is_on}
use Rattle.sp_core.specs.PlainCore.{PlainCounter, PlainStages, outer, PlainCore}
use Rattle.sp_core.specs.Scope.{group_values}
use Rattle.sp_counters.specs.Laws.{AreLoopsAt}
use Rattle.sp_plan.specs.PlainPlan.{PlainPlan}
use Rattle.sp_machine.specs.Transfers.{Delays}
use Rattle.sp_part_runs.specs.BodiesRuns.{IsOnAt}
use Rattle.sp_part_runs.specs.ControlParts.{Ran, Begins}
use Rattle.sp_part_runs.specs.SequencesChains.{At}
use Rattle.sp_part_runs.specs.SequencesRuns.{shape_of}
use Rattle.sp_part_runs.proofs.SequencesCycles.{mapped, unmapped, on_same}
use Rattle.sp_part_runs.specs.BeatsLaws.{LoopsAreInTimeline, TellsMore}
use Rattle.sp_part_runs.specs.BeatsRuns.{BeatsRan, AreInTurn}
use Rattle.sp_part_runs.specs.StepsLaws.{AreInSteps, CountersStep}
use Rattle.sp_node_runs.specs.Runs.{Placed}
use Rattle.sp_node_runs.specs.ControlBeating.{beats_ran}
use Rattle.sp_node_runs.specs.ControlRuns.{ran_of}
use Rattle.sp_node_runs.proofs.ControlBeatRuns.{in_turn}
use Rattle.sp_node_runs.specs.BodiesSteps.{LoopsTell}

module _ (core : PlainCore) (plan : PlainPlan) (delays : Delays) (k n : ℕ) (counters : List PlainCounter) (style : Style) (owned : List ℕ) (stages : PlainStages) (places : List (List (List ℕ))) where
  abbrev ran : Placed → BeatsRan
  ran r = beats_ran core plan delays k n counters owned stages places r

  abbrev whole : Placed → Ran
  whole r = ran_of core plan delays (outer counters style owned stages) k n r

  -- the loop begins in the cycles of its runs
  begun : (wire : ℕ → Bool) (runs : List Placed) (last : ℕ) → IsOnAt wire (Begins (map whole runs)) last → IsOnAt wire (At (λ (r : BeatsRan). r.cycle) (map ran runs)) last
  begun wire runs last h =
      on_same wire (Begins (map whole runs)) (At (λ (r : BeatsRan). r.cycle) (map ran runs)) last
      (λ t (x, i, e). let q = unmapped whole runs x i in let f = ap (λ (r : Ran). r.cycle) q.2 in (ran q.0, mapped ran runs q.0 q.1, omega (arith, e, f)))
      (λ t (x, i, e). let q = unmapped ran runs x i in let f = ap (λ (r : BeatsRan). r.cycle) q.2 in (whole q.0, mapped whole runs q.0 q.1, omega (arith, e, f))) h

  -- what holds of each run of the node
  of_each : (P : BeatsRan → Type 0) (runs : List Placed) → ((r : Placed) → Contains runs r → P (ran r)) → (b : BeatsRan) → Contains (map ran runs) b → P b
  of_each P runs h b c = let q = unmapped ran runs b c in subst P q.2 (h q.0 q.1)

pub loops_tell : (core : PlainCore) (plan : PlainPlan) (delays : Delays) → LoopsAreInTimeline → CountersStep → LoopsTell core plan delays
loops_tell core plan delays timeline stepping s part nets slots last k n counters style owned stages places from until runs loops counts outers turns arranged shaped takes started steps are all = (at, tells)
  where
    at : AreInSteps s part nets loops (shape_of slots) (map (beats_ran core plan delays k n counters owned stages places) runs) (suc last)
    at =
        stepping s part nets (shape_of slots) (map (beats_ran core plan delays k n counters owned stages places) runs) loops last counts
        (subst (λ shape. AreInTurn shape (map (beats_ran core plan delays k n counters owned stages places) runs)) (sym shaped) (in_turn core plan delays k n counters owned stages places timeline arranged runs takes style outers from until turns))
        (begun core plan delays k n counters style owned stages places (is_on s part.start) runs last started) steps
        (λ b c le. of_each core plan delays k n counters style owned stages places (λ b. b.cycle ≤ last → AreLoopsAt s b.cycle part.counters.items (loops b)) runs are b c le)

    tells : TellsMore s nets.more slots (suc last) (map (beats_ran core plan delays k n counters owned stages places) runs)
    tells r b c below le = (at r b c below le).more ∙ ap (nat_lt b) (sym (of_each core plan delays k n counters style owned stages places (λ (b : BeatsRan). b.groups ≡ length (group_values (loops b))) runs all r c))
