-- What the circuit of a tree hands on of its transfers: of each the number of its node, its start and the nets of the ends of its slice. The
-- nets by which transfers are done are reserved before the tree, in a table by the numbers of nodes.
use Rattle.std.specs.Prelude.{◌≡◌, ℕ, zero, suc, ◌+◌, List, [], ◌∷◌, ◌++◌, length, All, Option, Some, None}
use Rattle.sp_netlist.specs.declared.parts.Child.{Child}
use Rattle.sp_netlist.specs.Draft.{Draft}
use Rattle.sp_netlist.specs.Signals.{Signals}
use Rattle.sp_gates.specs.Nets.{HasNet}
use Rattle.sp_core.specs.Around.{Near}
use Rattle.sp_core.specs.Numbering.{node_count}
use Rattle.sp_core.specs.PlainCore.{PlainSpan, PlainNode, PlainStages, inner, outer, fsm, branch, load, store, sparse, no_stage, more_stage, PlainCore}
use Rattle.sp_plan.specs.PlainPlan.{PlainPlan, node_plan}
use Rattle.sp_time.specs.Beats.{slot_at}
use Rattle.sp_machine.specs.Timeline.{slots_of}
use Rattle.sp_node_runs.specs.BodiesGiven.{Nets}
use Rattle.sp_node_runs.specs.BodiesLaws.{own_near}
use Rattle.sp_node_runs.specs.BodiesSpans.{SpanNets}
use Rattle.sp_tree_circuits.specs.Circuits.{slot_nets, Circuit, StageCircuits}
use Rattle.sp_bound_nets.specs.Spans.{HasEnds, nets_of_spans}
use Rattle.sp_tree_handed.specs.declared.moves.Direction.{Direction}
use Rattle.sp_tree_handed.specs.declared.moves.Direction.TheVariants.{Load, Store}
use Rattle.sp_tree_handed.specs.declared.moves.TreeMove.{TreeMove}

-- the net by which the transfer of a number is done, if it has one
abbrev pub end_at : List (Option ℕ) → (node : ℕ) → Option ℕ
end_at [] k = None
end_at (e ∷ ends) zero = e
end_at (e ∷ ends) (suc k) = end_at ends k

-- a net stands there
pub record HasEnd (d : Draft) (ends : List (Option ℕ)) (k : ℕ) : Type 0 where
  pub net : ℕ
  pub there : end_at ends k ≡ Some net
  pub has : HasNet d net 1

-- so it does for each load and each store of a part, which has no sparse transfers
abbrev mutual
  pub HaveEnds : Draft → List (Option ℕ) → PlainNode → (node : ℕ) → Type 0
  HaveEnds d ends (inner counters owned ops comb) k = Unit {0}
  HaveEnds d ends (outer counters style owned stages) k = StagesHaveEnds d ends stages (suc k)
  HaveEnds d ends (fsm start state test body next) k = HaveEnds d ends body (suc k)
  HaveEnds d ends (branch test first second) k = HaveEnds d ends first (suc k) × HaveEnds d ends second (suc k + node_count first)
  HaveEnds d ends (load r m spans) k = HasEnd d ends k
  HaveEnds d ends (store r m spans) k = HasEnd d ends k
  HaveEnds d ends (sparse kind r m places spans count par) k = ⊥

  pub StagesHaveEnds : Draft → List (Option ℕ) → PlainStages → (node : ℕ) → Type 0
  StagesHaveEnds d ends no_stage j = Unit {0}
  StagesHaveEnds d ends (more_stage first last comb node rest) j = HaveEnds d ends node j × StagesHaveEnds d ends rest (j + node_count node)

-- of two parts those of the first one, and then those of the other
pub record MovesOfBoth (One Other : List TreeMove → Type 0) (moves : List TreeMove) : Type 0 where
  pub one : List TreeMove
  pub other : List TreeMove
  pub moves_are : moves ≡ one ++ other
  pub first : One one
  pub second : Other other

-- one transfer alone, of this number, by its start, its end and the nets of its slice
pub record IsOneMove (ends : List (Option ℕ)) (k : ℕ) (c : Child) (nets : List SpanNets) (moves : List TreeMove) : Type 0 where
  pub move : TreeMove
  pub moves_are : moves ≡ move ∷ []
  pub node : move.node ≡ k
  pub start : move.start ≡ c.start
  pub nets_are : nets_of_spans move.nets.items ≡ nets
  pub end : end_at ends k ≡ Some c.done

module _ (core : PlainCore) (plan : PlainPlan) (s : Signals) (ends : List (Option ℕ)) where
  abbrev mutual
    pub AreMoves : (node : PlainNode) (near : List Near) (env : Nets) (k : ℕ) (c : Child) → Circuit core plan s node near env k c → List TreeMove → Type 0
    AreMoves (branch ops first second) near env k c w moves =
        MovesOfBoth (AreMoves first near env (suc k) w.chosen w.one) (AreMoves second near env (suc k + node_count first) w.left w.other) moves
    AreMoves (fsm start state ops node after) near env k c w moves = AreMoves node near env (suc k) w.body w.goes moves
    AreMoves (outer counters style owned stages) near env k c w moves =
        StagesMove stages (own_near counters near) (suc k) 0 (λ i. slot_nets w.nets w.rows env counters (slot_at (slots_of (node_plan plan k)) i).slot) w.child w.parts moves
    AreMoves (inner counters owned ops comb) near env k c w moves = moves ≡ []
    AreMoves (load r m spans) near env k c w moves = IsOneMove ends k c w.nets moves
    AreMoves (store r m spans) near env k c w moves = IsOneMove ends k c w.nets moves
    AreMoves (sparse kind r m places spans count par) near env k c w moves = ⊥

    pub StagesMove : (stages : PlainStages) (near : List Near) (j i : ℕ) (nets : (stage : ℕ) → Nets) (child : (stage : ℕ) → Child) → StageCircuits core plan s stages near j i nets child → List TreeMove → Type 0
    StagesMove no_stage near j i nets child w moves = moves ≡ []
    StagesMove (more_stage first last comb node rest) near j i nets child w moves =
        MovesOfBoth (AreMoves node near (nets i) j (child i) w.0) (StagesMove rest near (j + node_count node) (suc i) nets child w.1) moves

-- a transfer of a part: its direction, the number of its node, its DRAM, its memory and its slice
pub record NumberedSlice : Type 0 where
  pub direction : Direction
  pub node : ℕ
  pub dram : ℕ
  pub mem : ℕ
  pub spans : List PlainSpan

-- the transfers of a part, in order
abbrev mutual
  pub slices_in : PlainNode → (node : ℕ) → List NumberedSlice
  slices_in (inner counters owned ops comb) k = []
  slices_in (outer counters style owned stages) k = slices_in_stages stages (suc k)
  slices_in (fsm start state test body next) k = slices_in body (suc k)
  slices_in (branch test first second) k = slices_in first (suc k) ++ slices_in second (suc k + node_count first)
  slices_in (load r m spans) k = record { direction = Load; node = k; dram = r; mem = m; spans = spans } ∷ []
  slices_in (store r m spans) k = record { direction = Store; node = k; dram = r; mem = m; spans = spans } ∷ []
  slices_in (sparse kind r m places spans count par) k = []

  pub slices_in_stages : PlainStages → (node : ℕ) → List NumberedSlice
  slices_in_stages no_stage j = []
  slices_in_stages (more_stage first last comb node rest) j = slices_in node j ++ slices_in_stages rest (j + node_count node)

-- of a transfer its number, its start of one bit, and for each span the nets of its ends, of 32 bits
pub record MoveStands (d : Draft) (of : NumberedSlice) (move : TreeMove) : Type 0 where
  pub node : move.node ≡ of.node
  pub start : HasNet d move.start 1
  pub each : length move.nets.items ≡ length of.spans
  pub nets : All (HasEnds d) move.nets.items

-- transfer by transfer
abbrev pub AreMovesStanding : Draft → List NumberedSlice → List TreeMove → Type 0
AreMovesStanding d [] [] = Unit {0}
AreMovesStanding d (of ∷ slices) (move ∷ moves) = MoveStands d of move × AreMovesStanding d slices moves
AreMovesStanding d [] (move ∷ moves) = ⊥
AreMovesStanding d (of ∷ slices) [] = ⊥
