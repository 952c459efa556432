-- Runs of an outer body, in the cycles of the timeline, as those of a loop in beats; and its circuit over all of them, as a statement:
-- where its stages do the runs that the timeline gives them, it does its own.
use Rattle.std.specs.Prelude.{◌≡◌, ℕ, zero, suc, ◌+◌, ◌<◌, ◌≤◌, Bool, true, false, ℤ, List, [], ◌∷◌, length, map, Option, Some, None}
use Rattle.std.specs.List.{Contains}
use Rattle.sp_words.specs.declared.kind.Style.{Style}
use Rattle.sp_netlist.specs.Signals.{Signals}
use Rattle.sp_gates.specs.Tested.{is_on}
use Rattle.sp_part_runs.specs.BodiesRuns.{IsOnAt}
use Rattle.sp_part_runs.specs.ControlParts.{Ran, Ends}
use Rattle.sp_sequence.specs.declared.part.Chain.{Chain}
use Rattle.sp_sequence.specs.declared.part.Member.{Member}
use Rattle.sp_sequence.specs.declared.part.Slot.{Slot}
use Rattle.sp_beats.specs.Beats.{RunsBeats}
use Rattle.sp_part_runs.specs.SequencesChains.{Numbered, At, SaysWanted, turn}
use Rattle.sp_part_runs.specs.SequencesPlaces.{stage_at as stage_in, sizes, IsPlace, AreArranged}
use Rattle.sp_part_runs.specs.SequencesRuns.{MemberRan, shape_of}
use Rattle.sp_part_runs.specs.BeatsLaws.{TellsMore}
use Rattle.sp_part_runs.specs.BeatsRuns.{BeatsRan, slot_cycle, slot_found, groups_in, steps_in, step_cycle}
use Rattle.sp_core.specs.History.{History, Groups, outer_ran, no_group, more_group}
use Rattle.sp_core.specs.Numbering.{counters_size}
use Rattle.sp_core.specs.PlainCore.{PlainCounter, PlainStages, outer, PlainCore}
use Rattle.sp_core.specs.Scope.{in_lanes, loops_of, group_values}
use Rattle.sp_plan.specs.PlainPlan.{PlainPlan, node_plan}
use Rattle.sp_time.specs.Beats.{Run, took_at}
use Rattle.sp_machine.specs.Stamps.{Stamped}
use Rattle.sp_machine.specs.Timeline.{slots_of}
use Rattle.sp_machine.specs.Transfers.{Delays}
use Rattle.sp_node_runs.specs.Runs.{Placed, AreWithin, stage_at, node_at, number_at, stage_history, table, stage_runs}
use Rattle.sp_node_runs.specs.ControlLaws.{Does, IsStarted}
use Rattle.sp_node_runs.specs.ControlRuns.{rans}

-- whether a stage has a lane in a group
abbrev pub is_some : Option History → Bool
is_some None = false
is_some (Some h) = true

abbrev pub has_lane : PlainStages → List (List ℤ) → Groups → (group stage : ℕ) → Bool
has_lane stages (v ∷ values) (more_group row rest) zero s = is_some (stage_history stages row s)
has_lane stages (v ∷ values) (more_group row rest) (suc g) s = has_lane stages values rest g s
has_lane stages _ _ g s = false

abbrev pub groups_of : History → Groups
groups_of (outer_ran bs counts groups) = groups
groups_of h = no_group

abbrev pub values_of : List PlainCounter → History → List (List ℤ)
values_of counters (outer_ran bs counts groups) = group_values (loops_of in_lanes counters bs)
values_of counters h = []

abbrev pub IsOuter : History → Type 0
IsOuter (outer_ran bs counts groups) = Unit {0}
IsOuter h = ⊥

abbrev pub AreOuters : List Placed → Type 0
AreOuters [] = Unit {0}
AreOuters (r ∷ runs) = IsOuter r.history × AreOuters runs

module _ (core : PlainCore) (plan : PlainPlan) (delays : Delays) where
  module _ (k n : ℕ) (counters : List PlainCounter) (owned : List ℕ) (stages : PlainStages) (places : List (List (List ℕ))) where
    -- the runs of stages in a run, by group
    abbrev pub rows_of : Placed → List (List (Run Stamped))
    rows_of r = table core plan delays counters owned stages k n 0 r (values_of counters r.history) (groups_of r.history)

    -- members are stages by their places
    abbrev pub member_ran : Placed → (group slot chain member : ℕ) → MemberRan
    member_ran r g x j i =
        record { wanted = has_lane stages (values_of counters r.history) (groups_of r.history) g (stage_in places x j i); took = took_at (rows_of r) g (stage_in places x j i) }

    abbrev pub beats_ran : Placed → BeatsRan
    beats_ran r = record { cycle = r.cycle; groups = length (rows_of r); found = member_ran r }

    -- each stage that has a place takes time in each group
    abbrev pub TakeTime : List Placed → Type 0
    TakeTime runs = (r : Placed) (g x j i : ℕ) → Contains runs r → g < length (rows_of r) → IsPlace places x j i → 1 ≤ took_at (rows_of r) g (stage_in places x j i)

    abbrev pub stage_rans : (stage : ℕ) → List Placed → List Ran
    stage_rans s runs = rans core plan delays (stage_at stages s) (node_at stages (suc k) s) (number_at stages (n + counters_size counters) s) (stage_runs core plan delays counters owned stages k n s runs)

    -- where they do them, and tell where their turn is told whether their stage has a lane
    pub record MemberDoes (s : Signals) (shape : List (List ℕ)) (runs : List Placed) (last x j i : ℕ) (m : Member) : Type 0 where
      pub child : Does s m.child (stage_rans (stage_in places x j i) runs) last
      pub wanted : SaysWanted s m.wanted (turn (slot_cycle shape x) (λ q. slot_found x q j) i) (λ q. slot_found x q j i) (groups_in (map beats_ran runs)) last

    abbrev pub ChainDoes : Signals → (shape : List (List ℕ)) → List Placed → (last slot chain : ℕ) → Chain → Type 0
    ChainDoes s shape runs last x j c = Numbered (λ i m. MemberDoes s shape runs last x j i m) 0 c.members.items

    abbrev pub SlotDoes : Signals → (shape : List (List ℕ)) → List Placed → (last slot : ℕ) → Slot → Type 0
    SlotDoes s shape runs last x slot = Numbered (λ j c. ChainDoes s shape runs last x j c) 0 slot.chains.items

    abbrev pub SlotsDo : Signals → List Placed → (last : ℕ) → List Slot → Type 0
    SlotsDo s runs last slots = Numbered (λ x slot. SlotDoes s (shape_of slots) runs last x slot) 0 slots

    -- and where they are started in the cycles of these runs and in no other
    abbrev pub ChainStarts : Signals → List Placed → (last slot chain : ℕ) → Chain → Type 0
    ChainStarts s runs last x j c = Numbered (λ i (m : Member). IsStarted s m.child.start (stage_rans (stage_in places x j i) runs) last) 0 c.members.items

    abbrev pub SlotStarts : Signals → List Placed → (last slot : ℕ) → Slot → Type 0
    SlotStarts s runs last x slot = Numbered (λ j c. ChainStarts s runs last x j c) 0 slot.chains.items

    -- there is a step in the first cycle of each beat and at the end of each run, and slots have their first cycles where they get groups
    pub record LoopGoes (s : Signals) (step : ℕ) (slots : List Slot) (firsts : List ℕ) (done last : ℕ) (style : Style) (runs : List Placed) : Type 0 where
      pub steps : IsOnAt (is_on s step) (At (step_cycle (shape_of slots)) (steps_in (shape_of slots) (map beats_ran runs))) last
      pub first_cycles : Numbered (λ x first. IsOnAt (is_on s first) (At (slot_cycle (shape_of slots) x) (groups_in (map beats_ran runs))) last) 0 firsts
      pub starts : Numbered (λ x slot. SlotStarts s runs last x slot) 0 slots
      pub ends : IsOnAt (is_on s done) (Ends (rans core plan delays (outer counters style owned stages) k n runs)) last

  abbrev pub LoopsOfNodesWork : Type 0
  LoopsOfNodesWork =
      (s : Signals) (start more step : ℕ) (slots : List Slot) (firsts : List ℕ) (done last : ℕ) (k n : ℕ) (counters : List PlainCounter) (style : Style) (owned : List ℕ) (stages : PlainStages) (places : List (List (List ℕ))) (from until : ℕ) (runs : List Placed)
      → RunsBeats s (is_on s start) (is_on s more) (is_on s step) slots firsts (is_on s done) → AreOuters runs → AreWithin core plan delays (outer counters style owned stages) k n from until runs
      → AreArranged places (slots_of (node_plan plan k)) → shape_of slots ≡ sizes places → TakeTime k n counters owned stages places runs
      → TellsMore s more slots last (map (beats_ran k n counters owned stages places) runs) → SlotsDo k n counters owned stages places s runs last slots
      → (t : ℕ) → t ≤ last → IsStarted s start (rans core plan delays (outer counters style owned stages) k n runs) t → LoopGoes k n counters owned stages places s step slots firsts done t style runs
