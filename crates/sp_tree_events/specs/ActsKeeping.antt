-- An FSM's circuit keeps its state where the timeline does, as a statement.
use Rattle.std.specs.Prelude.{◌≡◌, ℕ, suc, ◌+◌, ◌≤◌, ◌⊎◌, true, false, List, map, Option}
use Rattle.std.specs.List.{Contains}
use Rattle.sp_netlist.specs.Signals.{Signals}
use Rattle.sp_gates.specs.Tested.{is_on}
use Rattle.sp_core.specs.Declarations.{is_among}
use Rattle.sp_core.specs.History.{last_word}
use Rattle.sp_core.specs.Invariant.{owned_in}
use Rattle.sp_core.specs.PlainCore.{PlainOp, PlainNode, fsm, PlainCore}
use Rattle.sp_plan.specs.PlainPlan.{PlainPlan}
use Rattle.sp_machine.specs.Stamps.{Stamped}
use Rattle.sp_machine.specs.Transfers.{Delays}
use Rattle.sp_overlap.specs.Whole.{IsTimed}
use Rattle.sp_mem.specs.Copies.{copy_at}
use Rattle.sp_part_runs.specs.BodiesRuns.{IsOnAt}
use Rattle.sp_part_runs.specs.ControlParts.{Ends}
use Rattle.sp_node_runs.specs.RunsTold.{all_events}
use Rattle.sp_node_runs.specs.ControlRuns.{AreMachines}
use Rattle.sp_node_runs.specs.BodiesLists.{ListRun, list_ran}
use Rattle.sp_tree_runs.specs.BodiesScoped.{Scoped, placed}
use Rattle.sp_tree_runs.specs.BodiesTurns.{start_list, next_lists}
use Rattle.sp_tree_events.specs.OwnersOwning.{kept, Shows}

-- up to a cycle a wire is 1 where a run of a list is over and nowhere else; there a net has the list's word, and another one the number
-- of the copy at hand of the state
pub record GivesState (core : PlainCore) (s : Signals) (last state : ℕ) (ops : List PlainOp) (lists : List ListRun) (done word : ℕ) (copy : Option ℕ) : Type 0 where
  pub ends : IsOnAt (is_on s done) (Ends (map (list_ran core ops) lists)) last
  pub gives : (r : ListRun) (t : ℕ) → Contains lists r → suc t ≡ r.cycle + (list_ran core ops r).took → t ≤ last → (s.net t word ≡ last_word r.entries) × (copy_at s t copy ≡ r.copies state)

-- up to a cycle the state is kept where either of two wires is 1 and nowhere else, with their words at their copies
pub record Keeps (s : Signals) (events : List Stamped) (state : ℕ) (one word : ℕ) (copy : Option ℕ) (other next_word : ℕ) (next_copy : Option ℕ) (last : ℕ) : Type 0 where
  pub made : (t c w : ℕ) → t ≤ last → Shows events t c (kept state w) → ((is_on s one t ≡ true) × (copy_at s t copy ≡ c) × (s.net t word ≡ w)) ⊎ ((is_on s other t ≡ true) × (copy_at s t next_copy ≡ c) × (s.net t next_word ≡ w))
  pub first : (t : ℕ) → t ≤ last → is_on s one t ≡ true → Shows events t (copy_at s t copy) (kept state (s.net t word))
  pub next : (t : ℕ) → t ≤ last → is_on s other t ≡ true → Shows events t (copy_at s t next_copy) (kept state (s.net t next_word))

-- so is that of an FSM, whose body doesn't own its state, where its start and its next state are over
abbrev pub MachinesKeep : PlainCore → PlainPlan → Delays → Type 0
MachinesKeep core plan delays =
    (s : Signals) (last k n : ℕ) (start : List PlainOp) (state : ℕ) (test : List PlainOp) (body : PlainNode) (after : List PlainOp) (qs : List Scoped) (one word : ℕ) (copy : Option ℕ) (other next_word : ℕ) (next_copy : Option ℕ)
    → IsTimed body → is_among state (owned_in body) ≡ false → AreMachines core plan delays (placed qs)
    → GivesState core s last state start (map (start_list core plan delays k n start test body after) qs) one word copy
    → GivesState core s last state after (next_lists core plan delays k n start test body after qs) other next_word next_copy
    → Keeps s (all_events core plan delays (fsm start state test body after) k n (placed qs)) state one word copy other next_word next_copy last
