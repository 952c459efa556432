-- Whether a group comes, as a loop in beats is told in its steps, as a statement.
use Rattle.std.specs.Prelude.{◌≡◌, ℕ, suc, ◌≤◌, List, map, length}
use Rattle.std.specs.List.{Contains}
use Rattle.sp_words.specs.declared.kind.Style.{Style}
use Rattle.sp_netlist.specs.Signals.{Signals}
use Rattle.sp_gates.specs.Tested.{is_on}
use Rattle.sp_core.specs.PlainCore.{PlainCounter, PlainStages, outer, PlainCore}
use Rattle.sp_core.specs.Scope.{Loop, group_values}
use Rattle.sp_counters.specs.declared.part.Counters.{Counters}
use Rattle.sp_counters.specs.declared.part.Counted.{Counted}
use Rattle.sp_counters.specs.Counting.{CountsGroups}
use Rattle.sp_counters.specs.Laws.{AreLoopsAt}
use Rattle.sp_plan.specs.PlainPlan.{PlainPlan, node_plan}
use Rattle.sp_machine.specs.Timeline.{slots_of}
use Rattle.sp_machine.specs.Transfers.{Delays}
use Rattle.sp_part_runs.specs.BodiesRuns.{IsOnAt}
use Rattle.sp_part_runs.specs.SequencesChains.{At}
use Rattle.sp_part_runs.specs.SequencesPlaces.{sizes, AreArranged}
use Rattle.sp_sequence.specs.declared.part.Slot.{Slot}
use Rattle.sp_part_runs.specs.SequencesRuns.{shape_of}
use Rattle.sp_part_runs.specs.BeatsLaws.{TellsMore}
use Rattle.sp_part_runs.specs.BeatsRuns.{BeatsRan, steps_in, step_cycle}
use Rattle.sp_part_runs.specs.StepsLaws.{AreInSteps}
use Rattle.sp_node_runs.specs.Runs.{Placed, AreWithin}
use Rattle.sp_node_runs.specs.ControlBeating.{AreOuters, rows_of, beats_ran, TakeTime}
use Rattle.sp_node_runs.specs.ControlLaws.{IsStarted}
use Rattle.sp_node_runs.specs.ControlRuns.{rans}

module _ (core : PlainCore) (plan : PlainPlan) (delays : Delays) where
  -- Where, up to a cycle, counters are started in the cycles of a loop's runs, with the bounds of the loops there, and go on in its
  -- steps, and each run has all of its groups, they are in each step up to the cycle after it those of the group that comes, and tell
  -- whether there is one.
  abbrev pub LoopsTell : Type 0
  LoopsTell =
      (s : Signals) (part : Counters) (nets : Counted) (slots : List Slot) (last k n : ℕ) (counters : List PlainCounter) (style : Style) (owned : List ℕ) (stages : PlainStages) (places : List (List (List ℕ))) (from until : ℕ) (runs : List Placed) (loops : BeatsRan → List Loop)
      → CountsGroups s part nets → AreOuters runs → AreWithin core plan delays (outer counters style owned stages) k n from until runs → AreArranged places (slots_of (node_plan plan k)) → shape_of slots ≡ sizes places → TakeTime core plan delays k n counters owned stages places runs
      → IsStarted s part.start (rans core plan delays (outer counters style owned stages) k n runs) last
      → IsOnAt (is_on s part.step) (At (step_cycle (shape_of slots)) (steps_in (shape_of slots) (map (beats_ran core plan delays k n counters owned stages places) runs))) last
      → ((r : Placed) → Contains runs r → r.cycle ≤ last → AreLoopsAt s r.cycle part.counters.items (loops (beats_ran core plan delays k n counters owned stages places r)))
      → ((r : Placed) → Contains runs r → length (rows_of core plan delays k n counters owned stages places r) ≡ length (group_values (loops (beats_ran core plan delays k n counters owned stages places r))))
      → AreInSteps s part nets loops (shape_of slots) (map (beats_ran core plan delays k n counters owned stages places) runs) (suc last)
      × TellsMore s nets.more slots (suc last) (map (beats_ran core plan delays k n counters owned stages places) runs)
