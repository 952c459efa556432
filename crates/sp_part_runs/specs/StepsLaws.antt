-- What a loop in beats does over all of its runs with the counters that it steps, as statements.
use Rattle.std.specs.Prelude.{◌≡◌, ℕ, suc, ◌≤◌, List, length, map}
use Rattle.std.specs.List.{Contains}
use Rattle.sp_netlist.specs.Signals.{Signals}
use Rattle.sp_gates.specs.Tested.{is_on}
use Rattle.sp_core.specs.Scope.{Loop, group_values}
use Rattle.sp_counters.specs.declared.part.Counters.{Counters}
use Rattle.sp_counters.specs.declared.part.Counted.{Counted}
use Rattle.sp_counters.specs.Counting.{CountsGroups}
use Rattle.sp_counters.specs.Laws.{AreLoopsAt, AreAtGroup}
use Rattle.sp_part_runs.specs.BodiesRuns.{IsOnAt}
use Rattle.sp_part_runs.specs.ControlParts.{Begins}
use Rattle.sp_sequence.specs.declared.part.Slot.{Slot}
use Rattle.sp_beats.specs.Beats.{RunsBeats}
use Rattle.sp_part_runs.specs.SequencesChains.{At}
use Rattle.sp_part_runs.specs.SequencesRuns.{shape_of}
use Rattle.sp_part_runs.specs.BeatsLaws.{SlotsDo, BeatsWork}
use Rattle.sp_part_runs.specs.BeatsRuns.{BeatsRan, beats_of, beat_cycle, whole_run, AreInTurn, steps_in, step_cycle}

-- in each run that begins by a cycle the bounds of the counters are those of its loops, which have as many groups as the run
abbrev pub AreLoopsOf : Signals → Counters → (loops : BeatsRan → List Loop) → List BeatsRan → (last : ℕ) → Type 0
AreLoopsOf s part loops runs last = (r : BeatsRan) → Contains runs r → r.cycle ≤ last → AreLoopsAt s r.cycle part.counters.items (loops r) × (r.groups ≡ length (group_values (loops r)))

-- in each step of a run the counters are those of the group that comes, if there is one
abbrev pub AreInSteps : Signals → Counters → Counted → (loops : BeatsRan → List Loop) → (shape : List (List ℕ)) → List BeatsRan → (last : ℕ) → Type 0
AreInSteps s part nets loops shape runs last = (r : BeatsRan) (b : ℕ) → Contains runs r → b ≤ beats_of shape r → beat_cycle shape b r ≤ last → AreAtGroup s part nets (loops r) b (beat_cycle shape b r)

-- Where up to a cycle counters and a loop that steps them are started in the cycles of its runs, with the bounds of their loops, and
-- members do their runs as long as the counters are right, the counters are, and the loop does its runs.
abbrev pub CountedLoopsWork : Type 0
CountedLoopsWork =
    (s : Signals) (part : Counters) (nets : Counted) (slots : List Slot) (firsts : List ℕ) (done last : ℕ) (runs : List BeatsRan) (loops : BeatsRan → List Loop) → CountsGroups s part nets
    → RunsBeats s (is_on s part.start) (is_on s nets.more) (is_on s part.step) slots firsts (is_on s done) → AreInTurn (shape_of slots) runs → IsOnAt (is_on s part.start) (Begins (map (whole_run (shape_of slots)) runs)) last
    → AreLoopsOf s part loops runs last → ((n : ℕ) → n ≤ last → AreInSteps s part nets loops (shape_of slots) runs n → SlotsDo s slots n runs)
    → AreInSteps s part nets loops (shape_of slots) runs last × BeatsWork s part.step slots firsts done last runs

-- Where up to a cycle counters are started in the cycles of the runs, with the bounds of their loops there, and go on in their steps,
-- they are right in each step up to the cycle after it.
abbrev pub CountersStep : Type 0
CountersStep =
    (s : Signals) (part : Counters) (nets : Counted) (shape : List (List ℕ)) (runs : List BeatsRan) (loops : BeatsRan → List Loop) (last : ℕ) → CountsGroups s part nets → AreInTurn shape runs
    → IsOnAt (is_on s part.start) (At (λ (r : BeatsRan). r.cycle) runs) last → IsOnAt (is_on s part.step) (At (step_cycle shape) (steps_in shape runs)) last
    → ((r : BeatsRan) → Contains runs r → r.cycle ≤ last → AreLoopsAt s r.cycle part.counters.items (loops r)) → AreInSteps s part nets loops shape runs (suc last)
