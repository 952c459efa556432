-- What a loop in beats does over all of its runs, as statements.
use Rattle.std.specs.Prelude.{◌≡◌, ℕ, ◌≤◌, nat_lt, List, map}
use Rattle.std.specs.List.{Contains}
use Rattle.sp_netlist.specs.Signals.{Signals}
use Rattle.sp_gates.specs.Tested.{is_on}
use Rattle.sp_part_runs.specs.BodiesRuns.{IsOnAt}
use Rattle.sp_part_runs.specs.ControlParts.{Begins, Ends}
use Rattle.sp_sequence.specs.declared.part.Slot.{Slot}
use Rattle.sp_time.specs.Beats.{Slot as Place}
use Rattle.sp_beats.specs.Beats.{RunsBeats}
use Rattle.sp_part_runs.specs.SequencesChains.{Numbered, At, ChainsDo, ChainsBegin}
use Rattle.sp_part_runs.specs.SequencesPlaces.{AreArranged}
use Rattle.sp_part_runs.specs.SequencesRuns.{shape_of}
use Rattle.sp_part_runs.specs.BeatsRuns.{BeatsRan, beats_of, beat_cycle, whole_run, AreInTurn, slot_cycle, slot_found, groups_in, steps_in, step_cycle}
use Rattle.sp_part_runs.specs.BeatsTimelines.{TookAsStages, IsInTimeline}

-- in each step of a run it is told whether one more group comes
abbrev pub TellsMore : Signals → (more : ℕ) → List Slot → (last : ℕ) → List BeatsRan → Type 0
TellsMore s more slots last runs = (r : BeatsRan) (b : ℕ) → Contains runs r → b ≤ beats_of (shape_of slots) r → beat_cycle (shape_of slots) b r ≤ last → is_on s more (beat_cycle (shape_of slots) b r) ≡ nat_lt b r.groups

-- the members of each slot do their runs, from its first cycle in each group on
abbrev pub SlotsDo : Signals → List Slot → (last : ℕ) → List BeatsRan → Type 0
SlotsDo s slots last runs = Numbered (λ k (slot : Slot). ChainsDo s (slot_cycle (shape_of slots) k) (slot_found k) (groups_in runs) last slot.chains.items) 0 slots

-- Up to a cycle, there is a step in the first cycle of each beat and at the end, the first cycles of slots and the starts of their
-- members are those of the groups, and the whole is done where its runs are over.
pub record BeatsWork (s : Signals) (step : ℕ) (slots : List Slot) (firsts : List ℕ) (done last : ℕ) (runs : List BeatsRan) : Type 0 where
  pub steps : IsOnAt (is_on s step) (At (step_cycle (shape_of slots)) (steps_in (shape_of slots) runs)) last
  pub first_cycles : Numbered (λ k first. IsOnAt (is_on s first) (At (slot_cycle (shape_of slots) k) (groups_in runs)) last) 0 firsts
  pub starts : Numbered (λ k (slot : Slot). ChainsBegin s (slot_cycle (shape_of slots) k) (slot_found k) (groups_in runs) last slot.chains.items) 0 slots
  pub ends : IsOnAt (is_on s done) (Ends (map (whole_run (shape_of slots)) runs)) last

-- where its starts are those of its runs, each step is told whether a group comes, and its members do their runs
abbrev pub LoopsWork : Type 0
LoopsWork =
    (s : Signals) (start more step : ℕ) (slots : List Slot) (firsts : List ℕ) (done last : ℕ) (runs : List BeatsRan) → RunsBeats s (is_on s start) (is_on s more) (is_on s step) slots firsts (is_on s done) → AreInTurn (shape_of slots) runs
    → IsOnAt (is_on s start) (Begins (map (whole_run (shape_of slots)) runs)) last → TellsMore s more slots last runs → SlotsDo s slots last runs → BeatsWork s step slots firsts done last runs

-- a run of a loop takes as long as the timeline says, and its beats and members begin as they do there
abbrev pub LoopsAreInTimeline : Type 0
LoopsAreInTimeline =
    (stages : List Place) (took : (group stage : ℕ) → ℕ) (places : List (List (List ℕ))) (r : BeatsRan) → AreArranged places stages → TookAsStages places took r → IsInTimeline places stages took r
