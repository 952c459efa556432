-- A loop's circuit makes its memories fresh where the timeline does, as a statement.
use Rattle.std.specs.Prelude.{◌≡◌, ℕ, ◌<◌, ◌≤◌, true, false, List, length, map, slice_index}
use Rattle.sp_words.specs.declared.kind.Style.{Style}
use Rattle.sp_netlist.specs.Signals.{Signals}
use Rattle.sp_gates.specs.Tested.{is_on}
use Rattle.sp_core.specs.Declarations.{is_among}
use Rattle.sp_core.specs.Invariant.{owned_in}
use Rattle.sp_core.specs.PlainCore.{PlainCounter, PlainStages, outer, PlainCore}
use Rattle.sp_plan.specs.PlainPlan.{PlainPlan, mem_plan, node_plan}
use Rattle.sp_machine.specs.Stamps.{Stamped}
use Rattle.sp_machine.specs.Timeline.{slots_of, first_slot}
use Rattle.sp_machine.specs.Transfers.{Delays}
use Rattle.sp_overlap.specs.Whole.{AreTimed}
use Rattle.sp_part_runs.specs.BodiesRuns.{IsOnAt}
use Rattle.sp_part_runs.specs.SequencesChains.{At}
use Rattle.sp_part_runs.specs.SequencesPlaces.{sizes, AreArranged}
use Rattle.sp_part_runs.specs.BeatsRuns.{slot_cycle, groups_in}
use Rattle.sp_beat_words.specs.Numbers.{coming_number}
use Rattle.sp_node_runs.specs.Runs.{Placed, stage_at}
use Rattle.sp_node_runs.specs.RunsTold.{all_events}
use Rattle.sp_node_runs.specs.ControlBeating.{AreOuters, beats_ran, TakeTime}
use Rattle.sp_tree_events.specs.CopiesStanding.{CopyNets}
use Rattle.sp_tree_events.specs.CopiesLaws.{NumbersGo}
use Rattle.sp_tree_events.specs.OwnersOwning.{renewed, Shows}

-- up to a cycle a wire is 1 where a memory is made fresh and nowhere else, and a number is that of the copy which is
pub record Renews (s : Signals) (events : List Stamped) (m first : ℕ) (number : ℕ → ℕ) (last : ℕ) : Type 0 where
  pub made : (t c : ℕ) → t ≤ last → Shows events t c (renewed m) → (is_on s first t ≡ true) × (number t ≡ c)
  pub only : (t : ℕ) → t ≤ last → is_on s first t ≡ true → Shows events t (number t) (renewed m)

-- So is the wire that tells where the first slot that uses the memory gets a group, with the number that comes there, in runs of a loop
-- that owns the memory and none of whose stages does.
abbrev pub LoopsRenew : PlainCore → PlainPlan → Delays → Type 0
LoopsRenew core plan delays =
    (s : Signals) (start : ℕ) (firsts : List ℕ) (numbers : (slot : ℕ) → CopyNets) (last k n : ℕ) (counters : List PlainCounter) (style : Style) (owned : List ℕ) (stages : PlainStages) (places : List (List (List ℕ))) (around : CopyNets) (runs : List Placed) (m : ℕ)
    → AreOuters runs → AreArranged places (slots_of (node_plan plan k)) → TakeTime core plan delays k n counters owned stages places runs → AreTimed stages
    → is_among m owned ≡ true → ((i : ℕ) → is_among m (owned_in (stage_at stages i)) ≡ false) → length firsts ≤ length places → first_slot core plan delays (node_plan plan k) stages m < length firsts
    → IsOnAt (is_on s (slice_index firsts (first_slot core plan delays (node_plan plan k) stages m))) (At (slot_cycle (sizes places) (first_slot core plan delays (node_plan plan k) stages m)) (groups_in (map (beats_ran core plan delays k n counters owned stages places) runs))) last
    → NumbersGo core plan delays s start firsts numbers last k n counters owned stages places around runs
    → Renews s (all_events core plan delays (outer counters style owned stages) k n runs) m (slice_index firsts (first_slot core plan delays (node_plan plan k) stages m))
    (coming_number (is_on s start) (is_on s (slice_index firsts (first_slot core plan delays (node_plan plan k) stages m))) (mem_plan plan m).depth) last
