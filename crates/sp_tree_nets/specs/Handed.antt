-- The operations that are handed on for the memories are those of the circuit of a tree, list by list, in the order of their numbers.
use Rattle.std.specs.Prelude.{◌≡◌, ℕ, suc, ◌+◌, List, [], ◌∷◌, ◌++◌, length}
use Rattle.sp_netlist.specs.declared.parts.Child.{Child}
use Rattle.sp_netlist.specs.Signals.{Signals}
use Rattle.sp_core.specs.Around.{Near}
use Rattle.sp_core.specs.Numbering.{counters_size, node_count, number_count}
use Rattle.sp_core.specs.PlainCore.{PlainNode, PlainStages, inner, outer, fsm, branch, load, store, sparse, no_stage, more_stage, PlainCore}
use Rattle.sp_time.specs.Beats.{slot_at}
use Rattle.sp_plan.specs.PlainPlan.{PlainPlan, node_plan}
use Rattle.sp_machine.specs.Timeline.{slots_of}
use Rattle.sp_node_runs.specs.BodiesGiven.{Nets}
use Rattle.sp_node_runs.specs.BodiesLaws.{own_near}
use Rattle.sp_op_nets.specs.declared.acted.ActedList.{ActedList}
use Rattle.sp_op_nets.specs.Acted.{IsActed}
use Rattle.sp_tree_circuits.specs.Circuits.{slot_nets, Circuit, StageCircuits}
use Rattle.sp_bound_nets.specs.Bounds.{BoundsActed}
use Rattle.sp_bound_nets.specs.Spans.{SpansActed}
use Rattle.sp_inner_circuits.specs.Inner.{BoundsOf}

-- of a branch the list of its test, and those of both sides
pub record HandsBranch (Test : ActedList → Type 0) (First Second : List ActedList → Type 0) (acted : List ActedList) : Type 0 where
  pub test : ActedList
  pub one : List ActedList
  pub other : List ActedList
  pub all : acted ≡ test ∷ (one ++ other)
  pub tests : Test test
  pub firsts : First one
  pub seconds : Second other

-- of an FSM those of its first state and its test, those of its body, and that of its next state
pub record HandsMachine (First Test : ActedList → Type 0) (Body : List ActedList → Type 0) (Next : ActedList → Type 0) (acted : List ActedList) : Type 0 where
  pub first : ActedList
  pub test : ActedList
  pub body : List ActedList
  pub next : ActedList
  pub all : acted ≡ first ∷ test ∷ (body ++ next ∷ [])
  pub begins : First first
  pub tests : Test test
  pub goes : Body body
  pub steps : Next next

-- of a loop those of its bounds, and those of its stages or its one list
pub record HandsLoop (Bounds Inside : List ActedList → Type 0) (acted : List ActedList) : Type 0 where
  pub bounds : List ActedList
  pub inside : List ActedList
  pub all : acted ≡ bounds ++ inside
  pub bound : Bounds bounds
  pub stand : Inside inside

-- one list alone
abbrev pub HandsOne : (ActedList → Type 0) → List ActedList → Type 0
HandsOne P (a ∷ []) = P a
HandsOne P _ = ⊥

-- of two stages those of the first one, and those of the rest
pub record HandsBoth (First Rest : List ActedList → Type 0) (acted : List ActedList) : Type 0 where
  pub one : List ActedList
  pub rest : List ActedList
  pub all : acted ≡ one ++ rest
  pub first : First one
  pub others : Rest rest

module _ (core : PlainCore) (plan : PlainPlan) (s : Signals) where
  -- by the number of the first operation
  abbrev mutual
    pub AreHanded : (node : PlainNode) (near : List Near) (env : Nets) (k n : ℕ) (c : Child) → Circuit core plan s node near env k c → List ActedList → Type 0
    AreHanded (branch ops first second) near env k n c w acted =
        HandsBranch (IsActed w.tests.draft w.tests.issue n w.tests.ps) (AreHanded first near env (suc k) (n + length ops) w.chosen w.one)
        (AreHanded second near env (suc k + node_count first) (n + (length ops + number_count first)) w.left w.other) acted
    AreHanded (fsm start state ops node after) near env k n c w acted =
        HandsMachine (IsActed w.begins.draft w.begins.issue n w.begins.ps) (IsActed w.tests.draft w.tests.issue (n + length start) w.tests.ps) (AreHanded node near env (suc k) (n + (length start + length ops)) w.body w.goes)
        (IsActed w.steps.draft w.steps.issue (n + (length start + (length ops + number_count node))) w.steps.ps) acted
    AreHanded (outer counters style owned stages) near env k n c w acted =
        HandsLoop (BoundsActed core plan s near env w.draft n counters w.part.counters.items w.bounds)
        (StagesHanded stages (own_near counters near) (suc k) (n + counters_size counters) 0 (λ i. slot_nets w.nets w.rows env counters (slot_at (slots_of (node_plan plan k)) i).slot) w.child w.parts) acted
    AreHanded (inner counters owned ops comb) near env k n c w acted =
        HandsLoop (BoundsOf core plan s near env k n counters ops w.ps w.issue c w.issued) (HandsOne (IsActed w.draft w.issue (n + counters_size counters) w.ps)) acted
    AreHanded (load r m spans) near env k n c w acted = SpansActed core plan s near env w.draft n spans w.nets w.ends acted
    AreHanded (store r m spans) near env k n c w acted = SpansActed core plan s near env w.draft n spans w.nets w.ends acted
    AreHanded (sparse kind r m places spans count par) near env k n c w acted = ⊥

    pub StagesHanded : (stages : PlainStages) (near : List Near) (j n i : ℕ) (nets : (stage : ℕ) → Nets) (child : (stage : ℕ) → Child) → StageCircuits core plan s stages near j i nets child → List ActedList → Type 0
    StagesHanded no_stage near j n i nets child w acted = acted ≡ []
    StagesHanded (more_stage first last comb node rest) near j n i nets child w acted =
        HandsBoth (AreHanded node near (nets i) j n (child i) w.0) (StagesHanded rest near (j + node_count node) (n + number_count node) (suc i) nets child w.1) acted
