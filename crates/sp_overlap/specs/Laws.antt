-- Stages of an outer body that overlap by a valid plan: their runs come one after the other where they clash.
use Rattle.std.specs.Prelude.{◌≡◌, ℕ, suc, ◌≤◌, true, false, ℤ, List, length}
use Rattle.sp_words.specs.declared.kind.Style.{Style}
use Rattle.sp_core.specs.declared.access.Meet.{Meet}
use Rattle.sp_core.specs.Around.{lanes_of}
use Rattle.sp_core.specs.Declarations.{is_among}
use Rattle.sp_core.specs.Events.{At, Standing, events_of}
use Rattle.sp_core.specs.History.{Groups}
use Rattle.sp_core.specs.Meeting.{is_group, is_in_stream, owns, are_met}
use Rattle.sp_core.specs.NodeRules.{are_lanes_right}
use Rattle.sp_core.specs.PlainCore.{PlainCounter, PlainStages, PlainCore}
use Rattle.sp_plan.specs.Copies.{are_copied}
use Rattle.sp_plan.specs.Named.{stages_names}
use Rattle.sp_plan.specs.PlainPlan.{outer_plan, PlainPlan, node_plan}
use Rattle.sp_plan.specs.Slots.{runs_of, is_once}
use Rattle.sp_plan.specs.Validity.{stage_count, are_divided_right}
use Rattle.sp_time.specs.Lists.{Each, Pairs}
use Rattle.sp_machine.specs.InOrder.{RunsPrecede}
use Rattle.sp_machine.specs.Laws.{told}
use Rattle.sp_machine.specs.Stamps.{Copies}
use Rattle.sp_machine.specs.Timeline.{group_runs, group_events, slots_of}
use Rattle.sp_machine.specs.Told.{ArePlanned}
use Rattle.sp_machine.specs.Transfers.{Delays}
use Rattle.sp_overlap.specs.Apart.{StandAt, ArePrivate, AreOfOneLane}

-- by the number of the node, and that of its stages' first operation
module _ (core : PlainCore) (plan : PlainPlan) (meets : List Meet) (k n : ℕ) (st : Standing) (counters : List PlainCounter) (style : Style) (owned : List ℕ) (stages : PlainStages) where
  -- the rules of plans, for one outer body, and the rules of cores that they lean on
  pub record IsOuterRight (slots chains : List ℕ) : Type 0 where
    -- the plan's slots and chains are right, and a memory of the loop has a copy for each slot from the first one that uses it
    -- to the last one
    pub planned : node_plan plan k ≡ outer_plan slots chains
    pub many : (length slots ≡ stage_count stages) × (length chains ≡ stage_count stages)
    pub divided : are_divided_right core meets (runs_of n stages) counters style owned slots chains ≡ true
    pub copied : is_once counters ≡ false → are_copied core plan k owned stages ≡ true
    -- how the stages stand in lanes, and what they name and own
    pub lanes : are_lanes_right (lanes_of counters) stages ≡ true
    pub apart : ArePrivate core owned stages
    pub of_one_lane : AreOfOneLane core owned stages (runs_of n stages)
    pub distinct : Pairs (λ a b. a ≡ b → ⊥) owned
    pub named : StandAt core n (stages_names core stages)
    -- no controller around is a `Stream` block
    pub around : Each (λ (a : At). (is_in_stream core a.node ≡ false) × (is_group a.when a.when ≡ true)) st.path
    pub no_stream : is_in_stream core k ≡ false
    pub owner : (m : ℕ) → is_among m owned ≡ false → owns core k m ≡ false

-- then runs that clash come one after the other in each run of the body whose events stand in the meets
abbrev pub OverlapsPrecede : PlainCore → PlainPlan → Delays → Type 0
OverlapsPrecede core plan delays =
    (meets : List Meet) (k n : ℕ) (st : Standing) (counters : List PlainCounter) (style : Style) (owned : List ℕ) (stages : PlainStages) (slots chains : List ℕ)
    → IsOuterRight core plan meets k n st counters style owned stages slots chains → ArePlanned plan (suc k) stages
    → (copies : Copies) (values : List (List ℤ)) (groups : Groups) → (is_once counters ≡ true → length values ≤ 1)
    → are_met core meets (events_of (told (group_events core plan delays (slots_of (node_plan plan k)) (group_runs core plan delays stages k n 0 st owned copies values groups) (node_plan plan k) stages copies owned 0 (group_runs core plan delays stages k n 0 st owned copies values groups)))) ≡ true
    → RunsPrecede core plan delays (slots_of (node_plan plan k)) (group_runs core plan delays stages k n 0 st owned copies values groups) (node_plan plan k) stages copies owned
