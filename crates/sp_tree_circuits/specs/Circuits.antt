-- The circuit of a tree of nodes, as equations over all cycles: each node's part put together of those of its parts.
use Rattle.std.specs.Prelude.{◌≡◌, ℕ, zero, suc, ◌+◌, ◌-◌, ◌≤◌, List, [], ◌∷◌, ◌++◌, length, take, drop, slice_index, Option, Some, None}
use Rattle.sp_netlist.specs.declared.parts.Child.{Child}
use Rattle.sp_netlist.specs.declared.parts.Wire.{Wire}
use Rattle.sp_netlist.specs.Draft.{Draft}
use Rattle.sp_netlist.specs.Signals.{Signals}
use Rattle.sp_gates.specs.Runs.{RunsOn}
use Rattle.sp_gates.specs.Tested.{is_on}
use Rattle.sp_core.specs.Around.{Near, lanes_of}
use Rattle.sp_core.specs.Numbering.{node_count}
use Rattle.sp_core.specs.PlainCore.{PlainOp, PlainCounter, PlainNode, PlainStages, inner, outer, fsm, branch, load, store, sparse, no_stage, more_stage, PlainCore}
use Rattle.sp_core.specs.Scope.{is_some_up_to}
use Rattle.sp_counters.specs.declared.part.Counters.{Counters}
use Rattle.sp_counters.specs.declared.part.Counted.{Counted}
use Rattle.sp_counters.specs.Counting.{CountsGroups}
use Rattle.sp_counters.specs.Counting as counting
use Rattle.sp_ctrl.specs.Runs.{RunsBranch, RunsFsm}
use Rattle.sp_sequence.specs.declared.part.Chain.{Chain}
use Rattle.sp_sequence.specs.declared.part.Member.{Member}
use Rattle.sp_sequence.specs.declared.part.Slot.{Slot}
use Rattle.sp_beats.specs.Beats.{RunsBeats}
use Rattle.sp_beat_words.specs.declared.part.Row.{Row}
use Rattle.sp_beat_words.specs.Words.{MoveOn}
use Rattle.sp_part_runs.specs.WordsLaws.{AreAsLong}
use Rattle.sp_part_runs.specs.SequencesChains.{Numbered}
use Rattle.sp_part_runs.specs.SequencesPlaces.{stage_at as stage_in, sizes, IsPlace, AreArranged}
use Rattle.sp_part_runs.specs.SequencesRuns.{shape_of}
use Rattle.sp_plan.specs.PlainPlan.{PlainPlan, node_plan}
use Rattle.sp_plan.specs.Validity.{stage_count}
use Rattle.sp_time.specs.Beats.{slot_at}
use Rattle.sp_machine.specs.Timeline.{slots_of}
use Rattle.sp_node_runs.specs.BodiesGiven.{Nets, with_nets, values_of}
use Rattle.sp_node_runs.specs.BodiesLaws.{own_near}
use Rattle.sp_node_runs.specs.BodiesRows.{wires_of}
use Rattle.sp_tree_circuits.specs.Parts.{BoundCircuits, SliceCircuit, ListCircuit, InnerCircuit}

-- the first and the last lane of a stage
abbrev pub first_lane : PlainStages → (stage : ℕ) → ℕ
first_lane no_stage i = 0
first_lane (more_stage first last comb node rest) zero = first
first_lane (more_stage first last comb node rest) (suc i) = first_lane rest i

abbrev pub last_lane : PlainStages → (stage : ℕ) → ℕ
last_lane no_stage i = 0
last_lane (more_stage first last comb node rest) zero = last
last_lane (more_stage first last comb node rest) (suc i) = last_lane rest i

-- the nets of a row, by the number of its slot: of so many values, and behind them of masks
abbrev pub row_nets : List Row → (slot : ℕ) → List ℕ
row_nets [] x = []
row_nets (row ∷ rows) zero = wires_of row.wires.items
row_nets (row ∷ rows) (suc x) = row_nets rows x

module _ (nets : Counted) (rows : List Row) where
  -- while a slot is at work on a group
  abbrev pub row_values : (slot : ℕ) → List ℕ
  row_values x = take (length nets.counters.items) (row_nets rows x)

  abbrev pub row_masks : (slot : ℕ) → List ℕ
  row_masks x = drop (length nets.counters.items) (row_nets rows x)

  -- in the cycle in which a group comes to a slot: those of the counters, or of the slot before it
  abbrev pub masks_before : (slot : ℕ) → List ℕ
  masks_before zero = nets.masks.items
  masks_before (suc x) = row_masks x

  -- in the cycle in which the turn of a member is told: the first one of a chain is told where the group comes
  abbrev pub masks_told : (slot member : ℕ) → List ℕ
  masks_told x zero = masks_before x
  masks_told x (suc i) = row_masks x

  -- what stands around the stages of a slot
  abbrev pub slot_nets : Nets → List PlainCounter → (slot : ℕ) → Nets
  slot_nets env counters x = with_nets env counters (row_values x) (row_masks x)

module _ (s : Signals) where
  -- the counters' values and masks go along with the groups, in a row of wires for each slot; without counters there are none
  pub record TakesWords (counters : List PlainCounter) (part : Counters) (nets : Counted) (before : List Wire) (rows : List Row) (slots : ℕ) : Type 0 where
    pub lanes : lanes_of counters ≡ counting.lanes_of part.counters.items
    pub masks : lanes_of counters ≤ length nets.masks.items
    pub first : wires_of before ≡ values_of nets.counters.items ++ nets.masks.items
    pub moves : MoveOn s part.step before rows
    pub long : AreAsLong (length before) rows
    pub each : length rows ≡ slots

  abbrev pub TakeWords : List PlainCounter → Counters → Counted → List Wire → List Row → (slots : ℕ) → Type 0
  TakeWords [] part nets before rows slots = Unit {0}
  TakeWords (c ∷ counters) part nets before rows slots = TakesWords (c ∷ counters) part nets before rows slots

  -- whether a stage of these lanes is wanted is told by the masks; one with lane 0 always is, as every stage without counters, and
  -- needs no net
  abbrev pub IsToldBy : List PlainCounter → (masks : List ℕ) → (first last : ℕ) → Option ℕ → Type 0
  IsToldBy [] masks first last None = Unit {0}
  IsToldBy [] masks first last (Some w) = ⊥
  IsToldBy (c ∷ counters) masks first last None = first ≡ 0
  IsToldBy (c ∷ counters) masks first last (Some w) = (t : ℕ) → is_on s w t ≡ is_some_up_to (λ l. is_on s (slice_index masks l) t) first (last - first)

  -- a member is the stage of its place
  pub record MemberCircuit (child : (stage : ℕ) → Child) (counters : List PlainCounter) (stages : PlainStages) (nets : Counted) (rows : List Row) (places : List (List (List ℕ))) (x j i : ℕ) (m : Member) : Type 0 where
    pub place : IsPlace places x j i
    pub part : m.child ≡ child (stage_in places x j i)
    pub wanted : IsToldBy counters (masks_told nets rows x i) (first_lane stages (stage_in places x j i)) (last_lane stages (stage_in places x j i)) m.wanted

  abbrev pub MemberCircuits : (child : (stage : ℕ) → Child) → List PlainCounter → PlainStages → Counted → List Row → (places : List (List (List ℕ))) → List Slot → Type 0
  MemberCircuits child counters stages nets rows places slots =
      Numbered (λ x (slot : Slot). Numbered (λ j (c : Chain). Numbered (λ i m. MemberCircuit child counters stages nets rows places x j i m) 0 c.members.items) 0 slot.chains.items) 0 slots

module _ (core : PlainCore) (plan : PlainPlan) (s : Signals) where
  -- a branch of a test and two sides
  pub record BranchCircuit (First Second : Child → Type 0) (near : List Near) (env : Nets) (ops : List PlainOp) (whole : Child) : Type 0 where
    pub test : Child
    pub tested : ℕ
    pub chosen : Child
    pub left : Child
    pub circuit : RunsBranch s whole.start test tested chosen left whole.done
    pub tests : ListCircuit core plan s near env ops test tested
    pub one : First chosen
    pub other : Second left

  -- an FSM of three lists and a body
  pub record MachineCircuit (Body : Child → Type 0) (near : List Near) (env : Nets) (start ops after : List PlainOp) (whole : Child) : Type 0 where
    pub first : Child
    pub begun : ℕ
    pub test : Child
    pub tested : ℕ
    pub body : Child
    pub next : Child
    pub stepped : ℕ
    pub circuit : RunsFsm s whole.start first test tested body next whole.done
    pub begins : ListCircuit core plan s near env start first begun
    pub tests : ListCircuit core plan s near env ops test tested
    pub steps : ListCircuit core plan s near env after next stepped
    pub goes : Body body

  -- a loop in beats, with the counters that it steps: members are stages in places by the plan's slots
  pub record LoopCircuit (Stages : (nets : (stage : ℕ) → Nets) → (child : (stage : ℕ) → Child) → Type 0) (near : List Near) (env : Nets) (k : ℕ) (counters : List PlainCounter) (stages : PlainStages) (whole : Child) : Type 0 where
    pub part : Counters
    pub nets : Counted
    pub before : List Wire
    pub rows : List Row
    pub slots : List Slot
    pub firsts : List ℕ
    pub places : List (List (List ℕ))
    pub child : (stage : ℕ) → Child
    pub start : part.start ≡ whole.start
    pub counts : CountsGroups s part nets
    pub circuit : RunsBeats s (is_on s whole.start) (is_on s nets.more) (is_on s part.step) slots firsts (is_on s whole.done)
    pub draft : Draft
    pub runs_on : RunsOn s draft.cells
    pub bounds : BoundCircuits core plan s near env draft counters part.counters.items
    pub words : TakeWords s counters part nets before rows (length places)
    pub arranged : AreArranged places (slots_of (node_plan plan k))
    pub size : length (slots_of (node_plan plan k)) ≡ stage_count stages
    pub shaped : shape_of slots ≡ sizes places
    pub members : MemberCircuits s child counters stages nets rows places slots
    pub parts : Stages (λ i. slot_nets nets rows env counters (slot_at (slots_of (node_plan plan k)) i).slot) child

  -- by the counters around and their nets, and the number of the node; of a transfer the nets of its slice, and nothing of how words
  -- are moved
  abbrev mutual
    pub Circuit : PlainNode → List Near → Nets → (node : ℕ) → Child → Type 0
    Circuit (branch ops first second) near env k c = BranchCircuit (Circuit first near env (suc k)) (Circuit second near env (suc k + node_count first)) near env ops c
    Circuit (fsm start state ops node after) near env k c = MachineCircuit (Circuit node near env (suc k)) near env start ops after c
    Circuit (outer counters style owned stages) near env k c = LoopCircuit (λ nets child. StageCircuits stages (own_near counters near) (suc k) 0 nets child) near env k counters stages c
    Circuit (inner counters owned ops comb) near env k c = InnerCircuit core plan s near env k counters ops c
    Circuit (load r m spans) near env k c = SliceCircuit core plan s near env spans
    Circuit (store r m spans) near env k c = SliceCircuit core plan s near env spans
    Circuit (sparse kind r m places spans count par) near env k c = ⊥

    pub StageCircuits : PlainStages → List Near → (node stage : ℕ) → (nets : (stage : ℕ) → Nets) → (child : (stage : ℕ) → Child) → Type 0
    StageCircuits no_stage near j i nets child = Unit {0}
    StageCircuits (more_stage first last comb node rest) near j i nets child = Circuit node near (nets i) j (child i) × StageCircuits rest near (j + node_count node) (suc i) nets child
