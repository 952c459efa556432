-- The stages of a loop that was opened, as they are emitted one after the other.
use Rattle.std.specs.Prelude.{◌≡◌, ℕ, ◌+◌, ◌<◌, ◌≤◌, ◌^◌, List, [], ◌∷◌, length, slice_index, Contains, Option}
use Rattle.sp_netlist.specs.declared.parts.Child.{Child}
use Rattle.sp_netlist.specs.Draft.{Draft}
use Rattle.sp_netlist.specs.Signals.{Signals}
use Rattle.sp_gates.specs.Nets.{HasNet, Awaits}
use Rattle.sp_gates.specs.Runs.{RunsOn}
use Rattle.sp_core.specs.Around.{Around, Near, within, lanes_of}
use Rattle.sp_core.specs.Invariant.{IsRight, AreRight}
use Rattle.sp_core.specs.Numbering.{node_count_in, number_count_in}
use Rattle.sp_core.specs.PlainCore.{PlainCounter, PlainNode, PlainStages, PlainCore}
use Rattle.sp_beat_words.specs.Fits.{AreRows}
use Rattle.sp_part_runs.specs.WordsLaws.{AreAsLong}
use Rattle.sp_plan.specs.PlainPlan.{PlainPlan}
use Rattle.sp_plan.specs.Validity.{stage_count}
use Rattle.sp_plan_times.specs.Times.{StagesHaveTime}
use Rattle.sp_stage_places.specs.Planned.{StagesHavePlaces}
use Rattle.sp_overlap.specs.Whole.{AreTimed}
use Rattle.sp_node_runs.specs.BodiesGiven.{Nets}
use Rattle.sp_node_runs.specs.BodiesLaws.{own_near}
use Rattle.sp_op_nets.specs.declared.acted.ActedList.{ActedList}
use Rattle.sp_op_nets.specs.declared.table.AroundNets.{AroundNets}
use Rattle.sp_op_nets.specs.Acted.{answers_in}
use Rattle.sp_op_nets.specs.Reserved.{Reserves}
use Rattle.sp_op_nets.specs.Table.{nets_at, StandAround}
use Rattle.sp_tree_circuits.specs.Circuits.{first_lane, last_lane, slot_nets, StageCircuits}
use Rattle.sp_loop_nets.specs.declared.opening.OpenLoop.{OpenLoop}
use Rattle.sp_loop_nets.specs.Fits.{counted_wires}
use Rattle.sp_stage_members.specs.declared.part.StagePart.{StagePart}
use Rattle.sp_stage_members.specs.Members.{part_at, starts_in}
use Rattle.sp_tree_handed.specs.declared.owners.Keeping.{Keeping}
use Rattle.sp_tree_handed.specs.declared.owners.LoopTurns.{LoopTurns}
use Rattle.sp_tree_handed.specs.declared.moves.TreeMove.{TreeMove}
use Rattle.sp_tree_handed.specs.Lists.{lists_in, lists_in_stages}
use Rattle.sp_tree_handed.specs.Moves.{AreMovesStanding, StagesHaveEnds, StagesMove, slices_in, slices_in_stages}
use Rattle.sp_tree_handed.specs.Owners.{StagesTurn}
use Rattle.sp_tree_handed.specs.Standing.{AreListsStanding, AreTurnsStanding}
use Rattle.sp_tree_nets.specs.Emitted.{TreeIn}
use Rattle.sp_tree_nets.specs.Handed.{StagesHanded}

-- the rows of a loop are to be driven, and there is a net for each lane of its counters
pub record LoopStands (d : Draft) (begun : OpenLoop) (counters : List PlainCounter) : Type 0 where
  pub rows : AreRows d (counted_wires begun.nets) begun.rows.rows.items
  pub long : AreAsLong (length (counted_wires begun.nets)) begun.rows.rows.items
  pub masks : (c : PlainCounter) → Contains counters c → lanes_of counters ≤ length begun.nets.masks.items

-- stages are right inside of a loop, the counters around it stand in the table, and the ends of their transfers in theirs
pub record CanEmitStages (d : Draft) (core : PlainCore) (plan : PlainPlan) (table : List AroundNets) (ends : List (Option ℕ)) (counters : List PlainCounter) (stages : PlainStages) (k n : ℕ) : Type 0 where
  pub around : Around
  pub owned : List ℕ
  pub earlier : List ℕ
  pub right : AreRight core (within around counters owned) earlier stages
  pub stand : StandAround d table around.counters
  pub timed : AreTimed stages
  pub have_ends : StagesHaveEnds d ends stages k
  pub times : StagesHaveTime core plan stages k
  pub places : StagesHavePlaces plan stages k
  pub planned : k + node_count_in stages ≤ length plan.nodes
  pub nodes : k + node_count_in stages ≤ 2 ^ 30
  pub numbers : n + number_count_in stages < 2 ^ 30

-- a stage as a part of its loop, with the nets of its slot around it
pub record IsStage (old new : Draft) (core : PlainCore) (plan : PlainPlan) (table : List AroundNets) (ends : List (Option ℕ)) (begun : OpenLoop) (counters : List PlainCounter) (first last : ℕ) (node : PlainNode) (slot k n : ℕ) (part : StagePart) (acted : List ActedList) (turns : List LoopTurns) (kept : List Keeping) (moves : List TreeMove) : Type 0 where
  pub reserves : Reserves old new (part.child.start ∷ answers_in acted)
  pub first_is : first ≡ part.first
  pub last_is : last ≡ part.last
  pub start : Awaits new part.child.start 1
  pub done : HasNet new part.child.done 1
  pub lists : AreListsStanding new core (lists_in node n) acted
  pub owners : AreTurnsStanding new core turns kept
  pub moved : AreMovesStanding new (slices_in node k) moves
  pub tree : (around : Around) (earlier owned : List ℕ) → IsRight core (within around counters owned) earlier node → StandAround old table around.counters
      → (s : Signals) → RunsOn s new.cells → TreeIn core plan s ends (own_near counters around.counters) (slot_nets begun.nets begun.rows.rows.items (nets_at table) counters slot) node k n part.child acted turns kept moves

-- in a run stages have their circuits, by the operations, the owners' nets and the transfers that are handed on
pub record StagesIn (core : PlainCore) (plan : PlainPlan) (s : Signals) (ends : List (Option ℕ)) (near : List Near) (stages : PlainStages) (k n i : ℕ) (nets : (stage : ℕ) → Nets) (child : (stage : ℕ) → Child) (acted : List ActedList) (turns : List LoopTurns) (kept : List Keeping) (moves : List TreeMove) : Type 0 where
  pub circuits : StageCircuits core plan s stages near k i nets child
  pub handed : StagesHanded core plan s stages near k n i nets child circuits acted
  pub owners : StagesTurn core plan s stages near k i nets child circuits turns kept
  pub moved : StagesMove core plan s ends stages near k i nets child circuits moves

-- so they have in each run of what the draft became, as the stages from a number on: each with the nets of its slot and its part
abbrev pub AreTrees : (old new : Draft) → PlainCore → PlainPlan → List AroundNets → List (Option ℕ) → OpenLoop → List PlainCounter → PlainStages → (slots : List ℕ) → (k n : ℕ) → List StagePart → List ActedList → List LoopTurns → List Keeping → List TreeMove → Type 0
AreTrees old new core plan table ends begun counters stages slots k n parts acted turns kept moves =
    (around : Around) (earlier owned : List ℕ) → AreRight core (within around counters owned) earlier stages → StandAround old table around.counters → (s : Signals) → RunsOn s new.cells
    → (i : ℕ) (nets : (stage : ℕ) → Nets) (child : (stage : ℕ) → Child)
    → ((m at : ℕ) → at ≡ i + m → m < stage_count stages → nets at ≡ slot_nets begun.nets begun.rows.rows.items (nets_at table) counters (slice_index slots m))
    → ((m at : ℕ) → at ≡ i + m → m < stage_count stages → child at ≡ (part_at parts m).child)
    → StagesIn core plan s ends (own_near counters around.counters) stages k n i nets child acted turns kept moves

-- a list divided into two, each in its order
pub data AreDivided : (all one other : List ℕ) → Type 0 where
  no_more : AreDivided [] [] []
  to_one : {n : ℕ} {all one other : List ℕ} → AreDivided all one other → AreDivided (n ∷ all) (n ∷ one) other
  to_other : {n : ℕ} {all one other : List ℕ} → AreDivided all one other → AreDivided (n ∷ all) one (n ∷ other)

-- the parts of stages: of all that was reserved for them some are their starts, and the others the answers of their operations
pub record AreStages (old new : Draft) (core : PlainCore) (plan : PlainPlan) (table : List AroundNets) (ends : List (Option ℕ)) (begun : OpenLoop) (counters : List PlainCounter) (stages : PlainStages) (slots : List ℕ) (k n : ℕ) (parts : List StagePart) (acted : List ActedList) (turns : List LoopTurns) (kept : List Keeping) (moves : List TreeMove) : Type 0 where
  pub nets : List ℕ
  pub reserves : Reserves old new nets
  pub divided : AreDivided nets (starts_in parts) (answers_in acted)
  pub each : length parts ≡ stage_count stages
  pub firsts : (i : ℕ) → first_lane stages i ≡ (part_at parts i).first
  pub lasts : (i : ℕ) → last_lane stages i ≡ (part_at parts i).last
  pub awaits : (i : ℕ) → i < length parts → Awaits new (part_at parts i).child.start 1
  pub dones : (i : ℕ) → i < length parts → HasNet new (part_at parts i).child.done 1
  pub lists : AreListsStanding new core (lists_in_stages stages n) acted
  pub owners : AreTurnsStanding new core turns kept
  pub moved : AreMovesStanding new (slices_in_stages stages k) moves
  pub trees : AreTrees old new core plan table ends begun counters stages slots k n parts acted turns kept moves
