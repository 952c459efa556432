-- What is handed on of bounds and spans is what is to be answered of their circuits: laws, as statements.
use Rattle.std.specs.Prelude.{ℕ, ◌+◌, List, [], ◌∷◌, length}
use Rattle.sp_netlist.specs.Draft.{Draft}
use Rattle.sp_netlist.specs.Signals.{Signals}
use Rattle.sp_core.specs.Around.{Near}
use Rattle.sp_core.specs.PlainCore.{PlainOp, PlainCounter, PlainSpan, PlainCore}
use Rattle.sp_counters.specs.declared.part.Count.{Count}
use Rattle.sp_pipe.specs.declared.part.PipeOp.{PipeOp}
use Rattle.sp_plan.specs.PlainPlan.{PlainPlan}
use Rattle.sp_machine.specs.Stamps.{Stamped}
use Rattle.sp_node_runs.specs.BodiesGiven.{Nets}
use Rattle.sp_node_runs.specs.BodiesSpans.{SpanNets}
use Rattle.sp_node_runs.specs.BodiesTold.{AreAnsweredInTime}
use Rattle.sp_op_nets.specs.declared.acted.ActedList.{ActedList}
use Rattle.sp_tree_circuits.specs.Answers.{EachBound, EachSpan}
use Rattle.sp_bound_nets.specs.Bounds.{bound_lists, BoundsIn}
use Rattle.sp_bound_nets.specs.Spans.{span_lists, SpansIn}

-- something holds of each list that is handed on, by its number and its operations in the core and in the circuit
module _ (P : (number : ℕ) → List PlainOp → List PipeOp → Type 0) where
  abbrev pub EachActed : (n : ℕ) → List (List PlainOp) → List ActedList → Type 0
  EachActed n [] [] = Unit {0}
  EachActed n (ops ∷ lists) (a ∷ acted) = P n ops a.ops.items × EachActed (n + length ops) lists acted
  EachActed n [] (a ∷ acted) = ⊥
  EachActed n (ops ∷ lists) [] = ⊥

-- where each list that is handed on is answered in time, so is each list of a circuit's bounds
abbrev pub BoundsAreAnswered : Type 0
BoundsAreAnswered =
    (core : PlainCore) (plan : PlainPlan) (s : Signals) (events : List Stamped) (last : ℕ) (near : List Near) (env : Nets) (d : Draft) (n : ℕ) (counters : List PlainCounter) (counts : List Count) (acted : List ActedList)
    (w : BoundsIn core plan s near env d n counters counts acted) → EachActed (AreAnsweredInTime s events last) n (bound_lists counters) acted
    → EachBound core plan s (AreAnsweredInTime s events last) near env d n counters counts w.circuits

-- and each list of the ends of a slice
abbrev pub SpansAreAnswered : Type 0
SpansAreAnswered =
    (core : PlainCore) (plan : PlainPlan) (s : Signals) (events : List Stamped) (last : ℕ) (near : List Near) (env : Nets) (d : Draft) (n : ℕ) (spans : List PlainSpan) (nets : List SpanNets) (acted : List ActedList)
    (w : SpansIn core plan s near env d n spans nets acted) → EachActed (AreAnsweredInTime s events last) n (span_lists spans) acted
    → EachSpan core plan s (AreAnsweredInTime s events last) near env d n spans nets w.circuits
