-- What a sequence does over all of its runs, as statements.
use Rattle.std.specs.Prelude.{ℕ, List, map}
use Rattle.sp_netlist.specs.Signals.{Signals}
use Rattle.sp_gates.specs.Tested.{is_on}
use Rattle.sp_part_runs.specs.BodiesRuns.{IsOnAt}
use Rattle.sp_part_runs.specs.ControlParts.{Begins, Ends}
use Rattle.sp_sequence.specs.declared.part.Slot.{Slot}
use Rattle.sp_sequence.specs.Slots.{RunsSlots}
use Rattle.sp_time.specs.Beats.{Slot as Place}
use Rattle.sp_part_runs.specs.SequencesChains.{Numbered, At, ChainsDo, ChainsBegin}
use Rattle.sp_part_runs.specs.SequencesPlaces.{AreArranged, TookAsStages, IsInTimeline}
use Rattle.sp_part_runs.specs.SequencesRuns.{SequenceRan, shape_of, first_cycle, whole_run, AreInTurn}

-- the members of each slot do their runs from its first cycles on
abbrev pub SlotsDo : Signals → List Slot → (last : ℕ) → List SequenceRan → Type 0
SlotsDo s slots last runs = Numbered (λ k (slot : Slot). ChainsDo s (first_cycle (shape_of slots) k) (λ (r : SequenceRan). r.found k) runs last slot.chains.items) 0 slots

-- Up to a cycle, the first cycle of each slot and the starts of its members are those of the runs, and the whole is done where its
-- runs are over.
pub record SequenceWorks (s : Signals) (slots : List Slot) (firsts : List ℕ) (done last : ℕ) (runs : List SequenceRan) : Type 0 where
  pub first_cycles : Numbered (λ k first. IsOnAt (is_on s first) (At (first_cycle (shape_of slots) k) runs) last) 0 firsts
  pub starts : Numbered (λ k (slot : Slot). ChainsBegin s (first_cycle (shape_of slots) k) (λ (r : SequenceRan). r.found k) runs last slot.chains.items) 0 slots
  pub ends : IsOnAt (is_on s done) (Ends (map (whole_run (shape_of slots)) runs)) last

-- where its starts are those of its runs, and its members do theirs
abbrev pub SequencesWork : Type 0
SequencesWork =
    (s : Signals) (start : ℕ) (slots : List Slot) (firsts : List ℕ) (done last : ℕ) (runs : List SequenceRan) → RunsSlots s (is_on s start) slots firsts (is_on s done) → AreInTurn (shape_of slots) runs
    → IsOnAt (is_on s start) (Begins (map (whole_run (shape_of slots)) runs)) last → SlotsDo s slots last runs → SequenceWorks s slots firsts done last runs

-- a run of a sequence takes as long as the timeline says of a loop with one group, and its slots and members begin as they do there
abbrev pub SequencesAreInTimeline : Type 0
SequencesAreInTimeline =
    (stages : List Place) (took : (group stage : ℕ) → ℕ) (places : List (List (List ℕ))) (r : SequenceRan) → AreArranged places stages → TookAsStages places took r → IsInTimeline places stages took r
