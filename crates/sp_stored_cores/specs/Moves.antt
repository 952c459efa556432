-- How the loads and the stores of a core stand in a run: something holds of each transfer of one direction, with what stands for it in a list.
use Rattle.std.specs.Prelude.{◌≡◌, ℕ, suc, ◌+◌, true, false, List, [], ◌∷◌, ◌++◌, length}
use Rattle.sp_netlist.specs.declared.parts.Child.{Child}
use Rattle.sp_netlist.specs.Signals.{Signals}
use Rattle.sp_core.specs.Around.{Near}
use Rattle.sp_core.specs.Numbering.{counters_size, node_count, number_count}
use Rattle.sp_core.specs.PlainCore.{PlainSpan, PlainNode, PlainStages, inner, outer, fsm, branch, load, store, sparse, no_stage, more_stage, PlainCore}
use Rattle.sp_plan.specs.PlainPlan.{PlainPlan, node_plan}
use Rattle.sp_time.specs.Beats.{slot_at}
use Rattle.sp_machine.specs.Timeline.{slots_of}
use Rattle.sp_machine.specs.Transfers.{Delays}
use Rattle.sp_node_runs.specs.BodiesGiven.{Nets}
use Rattle.sp_node_runs.specs.BodiesLaws.{own_near}
use Rattle.sp_node_runs.specs.BodiesSpans.{SpanNets}
use Rattle.sp_tree_runs.specs.BodiesScoped.{Scoped, scoped_sides, scoped_bodies, scoped_stages}
use Rattle.sp_tree_circuits.specs.Circuits.{slot_nets, Circuit, StageCircuits}
use Rattle.sp_tree_handed.specs.declared.moves.Direction.{Direction}
use Rattle.sp_tree_handed.specs.declared.moves.Direction.TheVariants.{Load, Store}
use Rattle.sp_dram_words.specs.Moves.{Move, loads, stores}

-- a transfer as a node, and as a move
abbrev pub node_of : Direction → (r m : ℕ) → List PlainSpan → PlainNode
node_of Load r m spans = load r m spans
node_of Store r m spans = store r m spans

abbrev pub move_of : Direction → (r m : ℕ) → Move
move_of Load r m = loads r m
move_of Store r m = stores r m

-- of two parts those of the one, and then those of the other
pub record OfBoth {E : Type 0} (One Other : List E → Type 0) (list : List E) : Type 0 where
  pub one : List E
  pub other : List E
  pub are : list ≡ one ++ other
  pub first : One one
  pub second : Other other

-- one transfer alone
pub record OneAlone {E : Type 0} (P : E → Type 0) (list : List E) : Type 0 where
  pub access : E
  pub are : list ≡ access ∷ []
  pub is : P access

-- a transfer of a direction stands in a list of those of one direction, and no other does
abbrev pub OneIf : {E : Type 0} → (way own : Direction) → (E → Type 0) → List E → Type 0
OneIf Load Load P list = OneAlone P list
OneIf Load Store P list = list ≡ []
OneIf Store Load P list = list ≡ []
OneIf Store Store P list = OneAlone P list

-- something holds of each transfer of a direction in a tree, with what stands for it, in the order of the tree
module _ {E : Type 0} (way : Direction) (core : PlainCore) (plan : PlainPlan) (delays : Delays) (s : Signals) (P : (r m : ℕ) (spans : List PlainSpan) (node n : ℕ) → List Scoped → Child → List SpanNets → E → Type 0) where
  abbrev mutual
    pub MovesAre : (node : PlainNode) (near : List Near) (env : Nets) (k n : ℕ) (qs : List Scoped) (c : Child) → Circuit core plan s node near env k c → List E → Type 0
    MovesAre (branch ops first second) near env k n qs c w list =
        OfBoth (MovesAre first near env (suc k) (n + length ops) (scoped_sides core plan delays ops k true qs) w.chosen w.one)
        (MovesAre second near env (suc k + node_count first) (n + (length ops + number_count first)) (scoped_sides core plan delays ops k false qs) w.left w.other) list
    MovesAre (fsm start state ops node after) near env k n qs c w list =
        MovesAre node near env (suc k) (n + (length start + length ops)) (scoped_bodies core plan delays start ops after node k n qs) w.body w.goes list
    MovesAre (outer counters style owned stages) near env k n qs c w list =
        StagesMoveSo stages (own_near counters near) (suc k) (n + counters_size counters) 0 (λ i. slot_nets w.nets w.rows env counters (slot_at (slots_of (node_plan plan k)) i).slot) (λ i. scoped_stages core plan delays counters owned stages k n i qs) w.child w.parts list
    MovesAre (inner counters owned ops comb) near env k n qs c w list = list ≡ []
    MovesAre (load r m spans) near env k n qs c w list = OneIf way Load (P r m spans k n qs c w.nets) list
    MovesAre (store r m spans) near env k n qs c w list = OneIf way Store (P r m spans k n qs c w.nets) list
    MovesAre (sparse kind r m places spans count par) near env k n qs c w list = ⊥

    pub StagesMoveSo : (stages : PlainStages) (near : List Near) (j n i : ℕ) (nets : (stage : ℕ) → Nets) (qs : (stage : ℕ) → List Scoped) (child : (stage : ℕ) → Child) → StageCircuits core plan s stages near j i nets child → List E → Type 0
    StagesMoveSo no_stage near j n i nets qs child w list = list ≡ []
    StagesMoveSo (more_stage first last comb node rest) near j n i nets qs child w list =
        OfBoth (MovesAre node near (nets i) j n (qs i) (child i) w.0) (StagesMoveSo rest near (j + node_count node) (n + number_count node) (suc i) nets qs child w.1) list
