-- What a closed loop is: laws, as statements.
use Rattle.std.specs.Prelude.{◌≡◌, ℕ, List, ◌∷◌, ◌++◌, length, suc, ◌<◌, ◌≤◌, true, slice_index, Contains}
use Rattle.sp_words.specs.declared.kind.Style.{Style}
use Rattle.sp_netlist.specs.declared.parts.Wire.{Wire}
use Rattle.sp_netlist.specs.Draft.{Draft}
use Rattle.sp_netlist.specs.Signals.{Signals}
use Rattle.sp_gates.specs.Nets.{HasNet, Awaits}
use Rattle.sp_gates.specs.Runs.{RunsOn}
use Rattle.sp_core.specs.Around.{Near, lanes_of}
use Rattle.sp_core.specs.NodeRules.{are_lanes_right}
use Rattle.sp_core.specs.PlainCore.{PlainCounter, PlainStages, outer, PlainCore}
use Rattle.sp_counters.specs.declared.part.Counted.{Counted}
use Rattle.sp_counters.specs.Counting.{CountsGroups}
use Rattle.sp_beat_words.specs.declared.part.Row.{Row}
use Rattle.sp_beat_words.specs.Fits.{AreRows, row_nets}
use Rattle.sp_part_runs.specs.WordsLaws.{AreAsLong}
use Rattle.sp_sequence.specs.Fits.{AreApart}
use Rattle.sp_part_runs.specs.SequencesPlaces.{AreArranged}
use Rattle.sp_plan.specs.PlainPlan.{PlainPlan, node_plan}
use Rattle.sp_plan.specs.Validity.{stage_count}
use Rattle.sp_time.specs.Beats.{slot_at}
use Rattle.sp_machine.specs.Timeline.{slots_of}
use Rattle.sp_node_runs.specs.BodiesGiven.{Nets}
use Rattle.sp_node_runs.specs.BodiesLaws.{own_near}
use Rattle.sp_op_nets.specs.Reserved.{Rise}
use Rattle.sp_tree_circuits.specs.Parts.{BoundCircuits}
use Rattle.sp_tree_circuits.specs.Circuits.{slot_nets, Circuit, StageCircuits}
use Rattle.sp_loop_nets.specs.declared.opening.OpenLoop.{OpenLoop}
use Rattle.sp_loop_nets.specs.Fits.{counted_wires}
use Rattle.sp_loop_nets.specs.Laws.{IsPart}
use Rattle.sp_loop_nets.specs.Open.{LanesFit}
use Rattle.sp_stage_members.specs.declared.part.StagePart.{StagePart}
use Rattle.sp_stage_members.specs.Circuits.{masks_in, HaveLanes}
use Rattle.sp_stage_members.specs.Members.{part_at, starts_in, MasksStand, PartsFit}
use Rattle.sp_stage_members.specs.Placed.{AreOnce, StandOnce}
use Rattle.sp_loop_circuits.specs.Loops.{LoopFits, IsClosed}

module _ (core : PlainCore) (plan : PlainPlan) (s : Signals) where
  -- a loop of a core that was closed: its counters, its stages in the places of the plan, and the circuits of the stages
  pub record IsLoop (near : List Near) (env : Nets) (k : ℕ) (counters : List PlainCounter) (stages : PlainStages) (begun : OpenLoop) (parts : List StagePart) (firsts : List ℕ) (done : ℕ) : Type 0 where
    pub counted : CountsGroups s begun.part begun.nets
    pub bounded : Draft
    pub runs_bounded : RunsOn s bounded.cells
    pub bounds : BoundCircuits core plan s near env bounded counters begun.part.counters.items
    pub opened : Draft
    pub rows : AreRows opened begun.rows.before.items begun.rows.rows.items
    pub wires : begun.rows.before.items ≡ counted_wires begun.nets
    pub lanes : LanesFit counters begun.part begun.nets
    pub places : List (List (List ℕ))
    pub each : length begun.rows.rows.items ≡ length places
    pub arranged : AreArranged places (slots_of (node_plan plan k))
    pub size : length (slots_of (node_plan plan k)) ≡ stage_count stages
    pub have_lanes : HaveLanes counters stages parts
    pub draft : Draft
    pub runs : RunsOn s draft.cells
    pub closed : IsClosed draft begun parts places firsts done
    pub inside : StageCircuits core plan s stages (own_near counters near) (suc k) 0 (λ i. slot_nets begun.nets begun.rows.rows.items env counters (slot_at (slots_of (node_plan plan k)) i).slot) (λ i. (part_at parts i).child)

-- in each run such a loop has its circuit
abbrev pub ClosedLoopsAreCircuits : Type 0
ClosedLoopsAreCircuits =
    (core : PlainCore) (plan : PlainPlan) (s : Signals) (near : List Near) (env : Nets) (k : ℕ) (counters : List PlainCounter) (style : Style) (owned : List ℕ) (stages : PlainStages) (begun : OpenLoop) (parts : List StagePart)
    (firsts : List ℕ) (done : ℕ) → IsLoop core plan s near env k counters stages begun parts firsts done → Circuit core plan s (outer counters style owned stages) near env k (record { start = begun.part.start; done = done })

-- the nets for the lanes stand, where those of the counters do and the rows behind them are to be driven
abbrev pub MasksInRowsStand : Type 0
MasksInRowsStand =
    (d : Draft) (nets : Counted) (before : List Wire) (rows : List Row) → ((i : ℕ) → i < length nets.masks.items → HasNet d (slice_index nets.masks.items i) 1) → before ≡ counted_wires nets → AreRows d before rows → MasksStand d (masks_in nets rows)

-- nets that were reserved one after the other, others between them, are no other's
abbrev pub NetsAreApart : Type 0
NetsAreApart =
    (from step : ℕ) (rows starts all : List ℕ) → Rise from all → IsPart (step ∷ (rows ++ starts)) all → AreOnce starts × AreApart rows starts × (Contains rows step → ⊥) × (Contains starts step → ⊥)

-- The parts of a loop of a core fit, where its rows are to be driven: whatever list tells a stage that isn't always wanted has a net
-- for each of its lanes.
pub record ArePartsOf (d : Draft) (counters : List PlainCounter) (stages : PlainStages) (begun : OpenLoop) (parts : List StagePart) : Type 0 where
  pub right : are_lanes_right (lanes_of counters) stages ≡ true
  pub some : 1 ≤ lanes_of counters
  pub each : length parts ≡ stage_count stages
  pub lanes : HaveLanes counters stages parts
  pub fit : LanesFit counters begun.part begun.nets
  pub counted : (i : ℕ) → i < length begun.nets.masks.items → HasNet d (slice_index begun.nets.masks.items i) 1
  pub wires : begun.rows.before.items ≡ counted_wires begun.nets
  pub rows : AreRows d begun.rows.before.items begun.rows.rows.items
  pub long : AreAsLong (length begun.rows.before.items) begun.rows.rows.items
  pub starts : (i : ℕ) → i < length parts → Awaits d (part_at parts i).child.start 1
  pub dones : (i : ℕ) → i < length parts → HasNet d (part_at parts i).child.done 1

abbrev pub PartsOfLoopsFit : Type 0
PartsOfLoopsFit =
    (d : Draft) (counters : List PlainCounter) (stages : PlainStages) (begun : OpenLoop) (parts : List StagePart) → ArePartsOf d counters stages begun parts → AreOnce (starts_in parts) → PartsFit d (masks_in begun.nets begun.rows.rows.items) (length begun.rows.rows.items) parts

-- So the loop can be closed, where its step, the nets of its rows and the starts of its parts were reserved in this order, each part
-- has one place, and there is a row for each slot.
abbrev pub LoopsFit : Type 0
LoopsFit =
    (d : Draft) (counters : List PlainCounter) (stages : PlainStages) (begun : OpenLoop) (parts : List StagePart) (places : List (List (List ℕ))) (from : ℕ) (all : List ℕ) → ArePartsOf d counters stages begun parts → HasNet d begun.part.start 1
    → HasNet d begun.nets.more 1 → Awaits d begun.part.step 1 → Rise from all → IsPart (begun.part.step ∷ (row_nets begun.rows.rows.items ++ starts_in parts)) all → StandOnce (length parts) places
    → length begun.rows.rows.items ≡ length places → LoopFits d begun parts places
