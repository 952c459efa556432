-- When what happens at a number in a whole is what happens there in a part of it.
use Rattle.std.specs.Prelude.{◌≡◌, ℕ, suc, ◌+◌, ◌<◌, ◌≤◌, true, false, List, length}
use Rattle.sp_words.specs.declared.kind.Style.{Style}
use Rattle.sp_netlist.specs.Signals.{Signals}
use Rattle.sp_core.specs.declared.operation.OpKind.{OpKind}
use Rattle.sp_core.specs.Events.{Event}
use Rattle.sp_core.specs.Numbering.{counters_size, node_count, number_count}
use Rattle.sp_core.specs.PlainCore.{PlainOp, PlainCounter, PlainNode, PlainStages, outer, fsm, branch, PlainCore}
use Rattle.sp_plan.specs.PlainPlan.{PlainPlan}
use Rattle.sp_plan.specs.Validity.{stage_count}
use Rattle.sp_machine.specs.Stamps.{Stamped}
use Rattle.sp_machine.specs.Transfers.{Delays}
use Rattle.sp_overlap.specs.Whole.{IsTimed, AreTimed}
use Rattle.sp_pipe.specs.declared.part.PipeOp.{PipeOp}
use Rattle.sp_node_runs.specs.Runs.{Placed, side_runs, body_runs, stage_at, node_at, number_at, stage_runs}
use Rattle.sp_node_runs.specs.RunsTold.{all_events}
use Rattle.sp_node_runs.specs.BodiesTold.{Happens, ActsInTime, AreAnsweredInTime}

-- an event does what another one does, to the same memory at the same indices
pub record IsLike (e f : Event) : Type 0 where
  pub mem : f.mem ≡ e.mem
  pub indices : f.indices ≡ e.indices
  pub act : f.act ≡ e.act

-- each event of the number in the one list is like one in the other, in its cycle and at its copy
abbrev pub Finds : (whole part : List Stamped) → (number : ℕ) → Type 0
Finds whole part n = (t : ℕ) (e : Event) (h : Happens whole n t e) → (f : Event) × (k : Happens part n t f) × IsLike e f × (k.copy ≡ h.copy)

pub record Agree (whole part : List Stamped) (number : ℕ) : Type 0 where
  pub into : Finds whole part number
  pub back : Finds part whole number

-- at all numbers from one on and below another one
abbrev pub AgreeIn : (whole part : List Stamped) → (low high : ℕ) → Type 0
AgreeIn whole part low high = (n : ℕ) → low ≤ n → n < high → Agree whole part n

-- what follows: lists that agree with a third one agree, an access that acts in time by the part does by the whole, and one that is
-- answered in time by the whole is by the part
pub record AgreeLaws : Type 0 where
  pub through : (a b c : List Stamped) (n : ℕ) → Agree a b n → Agree b c n → Agree a c n
  pub acts : (s : Signals) (whole part : List Stamped) (last n : ℕ) (kind : OpKind) (enable : ℕ) (operands : List ℕ) → Agree whole part n → ActsInTime s part last n kind enable operands → ActsInTime s whole last n kind enable operands
  pub answers : (s : Signals) (whole part : List Stamped) (last first : ℕ) (ops : List PlainOp) (ps : List PipeOp) → AgreeIn whole part first (first + length ops) → AreAnsweredInTime s whole last first ops ps → AreAnsweredInTime s part last first ops ps

module _ (core : PlainCore) (plan : PlainPlan) (delays : Delays) where
  -- what happens in runs of a branch is what happens in those of its sides, at the numbers of these
  abbrev pub SidesAgree : Type 0
  SidesAgree =
      (k n : ℕ) (test : List PlainOp) (first second : PlainNode) (runs : List Placed) → IsTimed first → IsTimed second
      → AgreeIn (all_events core plan delays (branch test first second) k n runs) (all_events core plan delays first (suc k) (n + length test) (side_runs core plan delays test k true runs)) (n + length test) (n + length test + number_count first)
      × AgreeIn (all_events core plan delays (branch test first second) k n runs) (all_events core plan delays second (suc k + node_count first) (n + (length test + number_count first)) (side_runs core plan delays test k false runs)) (n + (length test + number_count first)) (n + (length test + number_count first) + number_count second)

  -- so of an FSM and its body, and of an outer body and each of its stages
  abbrev pub MachinesAgree : Type 0
  MachinesAgree =
      (k n : ℕ) (start : List PlainOp) (state : ℕ) (test : List PlainOp) (body : PlainNode) (next : List PlainOp) (runs : List Placed) → IsTimed body
      → AgreeIn (all_events core plan delays (fsm start state test body next) k n runs) (all_events core plan delays body (suc k) (n + (length start + length test)) (body_runs core plan delays start test next body k n runs)) (n + (length start + length test)) (n + (length start + length test) + number_count body)

  abbrev pub StagesAgree : Type 0
  StagesAgree =
      (k n : ℕ) (counters : List PlainCounter) (style : Style) (owned : List ℕ) (stages : PlainStages) (runs : List Placed) → AreTimed stages → (i : ℕ) → i < stage_count stages
      → AgreeIn (all_events core plan delays (outer counters style owned stages) k n runs) (all_events core plan delays (stage_at stages i) (node_at stages (suc k) i) (number_at stages (n + counters_size counters) i) (stage_runs core plan delays counters owned stages k n i runs))
      (number_at stages (n + counters_size counters) i) (number_at stages (n + counters_size counters) i + number_count (stage_at stages i))
