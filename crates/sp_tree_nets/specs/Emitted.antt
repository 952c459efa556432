-- When the circuit of a tree may be emitted, and what it is then.
use Rattle.std.specs.Prelude.{ℕ, ◌+◌, ◌<◌, ◌≤◌, ◌^◌, List, length, Option}
use Rattle.sp_netlist.specs.declared.parts.Child.{Child}
use Rattle.sp_netlist.specs.Draft.{Draft}
use Rattle.sp_netlist.specs.Signals.{Signals}
use Rattle.sp_gates.specs.Runs.{RunsOn}
use Rattle.sp_core.specs.Around.{Around, Near}
use Rattle.sp_core.specs.Invariant.{IsRight}
use Rattle.sp_core.specs.Numbering.{node_count, number_count}
use Rattle.sp_core.specs.PlainCore.{PlainNode, PlainStages, inner, outer, fsm, branch, load, store, sparse, no_stage, more_stage, PlainCore}
use Rattle.sp_plan.specs.PlainPlan.{PlainPlan}
use Rattle.sp_plan_times.specs.Times.{AllHaveTime}
use Rattle.sp_stage_places.specs.Planned.{AllHavePlaces}
use Rattle.sp_overlap.specs.Whole.{IsTimed}
use Rattle.sp_node_runs.specs.BodiesGiven.{Nets}
use Rattle.sp_op_nets.specs.declared.acted.ActedList.{ActedList}
use Rattle.sp_op_nets.specs.declared.table.AroundNets.{AroundNets}
use Rattle.sp_op_nets.specs.Table.{nets_at, StandAround}
use Rattle.sp_tree_circuits.specs.Circuits.{Circuit}
use Rattle.sp_tree_handed.specs.declared.owners.Keeping.{Keeping}
use Rattle.sp_tree_handed.specs.declared.owners.LoopTurns.{LoopTurns}
use Rattle.sp_tree_handed.specs.Owners.{AreTurns}
use Rattle.sp_tree_handed.specs.declared.moves.TreeMove.{TreeMove}
use Rattle.sp_tree_handed.specs.Moves.{AreMoves, HaveEnds}
use Rattle.sp_tree_nets.specs.Handed.{AreHanded}

-- no transfer stands in a part
abbrev mutual
  pub HasNoTransfer : PlainNode → Type 0
  HasNoTransfer (inner counters owned ops comb) = Unit {0}
  HasNoTransfer (outer counters style owned stages) = HaveNoTransfer stages
  HasNoTransfer (fsm start state test body next) = HasNoTransfer body
  HasNoTransfer (branch test first second) = HasNoTransfer first × HasNoTransfer second
  HasNoTransfer (load r m spans) = ⊥
  HasNoTransfer (store r m spans) = ⊥
  HasNoTransfer (sparse kind r m places spans count par) = ⊥

  pub HaveNoTransfer : PlainStages → Type 0
  HaveNoTransfer no_stage = Unit {0}
  HaveNoTransfer (more_stage first last comb node rest) = HasNoTransfer node × HaveNoTransfer rest

-- A node is right by what stands around it, the counters around stand in the table and the ends of its transfers in theirs, and the plan
-- leaves time and has places for it. It is the node of a number, in a core that is small.
pub record CanEmit (d : Draft) (core : PlainCore) (plan : PlainPlan) (table : List AroundNets) (ends : List (Option ℕ)) (node : PlainNode) (k n : ℕ) : Type 0 where
  pub around : Around
  pub earlier : List ℕ
  pub right : IsRight core around earlier node
  pub stand : StandAround d table around.counters
  pub timed : IsTimed node
  pub have_ends : HaveEnds d ends node k
  pub times : AllHaveTime core plan node k
  pub places : AllHavePlaces plan node k
  pub planned : k + node_count node ≤ length plan.nodes
  pub nodes : k + node_count node ≤ 2 ^ 30
  pub numbers : n + number_count node < 2 ^ 30

-- in a run the tree has its circuit, by the operations, the owners' nets and the transfers that are handed on
pub record TreeIn (core : PlainCore) (plan : PlainPlan) (s : Signals) (ends : List (Option ℕ)) (near : List Near) (env : Nets) (node : PlainNode) (k n : ℕ) (c : Child) (acted : List ActedList) (turns : List LoopTurns) (kept : List Keeping) (moves : List TreeMove) : Type 0 where
  pub circuit : Circuit core plan s node near env k c
  pub handed : AreHanded core plan s node near env k n c circuit acted
  pub owners : AreTurns core plan s node near env k c circuit turns kept
  pub moved : AreMoves core plan s ends node near env k c circuit moves

-- so it is in each run of what the draft became, whatever stood around by which the core has the node right
abbrev pub IsTree : (old new : Draft) → PlainCore → PlainPlan → List AroundNets → List (Option ℕ) → (node : PlainNode) → (k n : ℕ) → Child → List ActedList → List LoopTurns → List Keeping → List TreeMove → Type 0
IsTree old new core plan table ends node k n c acted turns kept moves =
    (around : Around) (earlier : List ℕ) → IsRight core around earlier node → StandAround old table around.counters → (s : Signals) → RunsOn s new.cells → TreeIn core plan s ends around.counters (nets_at table) node k n c acted turns kept moves
