-- What a timeline needs to keep to the cost: a plan with a slot and a chain for each stage of each outer body, no `Stream`
-- block and no sparse transfer, and a history with no more groups than its counts say.
use Rattle.std.specs.Prelude.{◌≡◌, ℕ, suc, ◌+◌, ◌≤◌, false, true, length}
use Rattle.sp_core.specs.Cost.{Timing, Timings, inner_timing, outer_timing, no_timing, group_count}
use Rattle.sp_core.specs.Declarations.{is_stream}
use Rattle.sp_core.specs.History.{History, Groups, Runs, Turns, inner_ran, outer_ran, fsm_ran, branch_ran, no_group, more_group, masked_run, more_run, no_turn, more_turn}
use Rattle.sp_core.specs.Numbering.{node_count}
use Rattle.sp_core.specs.PlainCore.{PlainNode, PlainStages, inner, outer, fsm, branch, sparse, no_stage, more_stage}
use Rattle.sp_plan.specs.PlainPlan.{PlainNodePlan, inner_plan, outer_plan, other_plan, PlainPlan, node_plan}
use Rattle.sp_plan.specs.Validity.{stage_count}
use Rattle.sp_time.specs.Lists.{Each}

-- the numbers of a plan by which runs cost
abbrev pub timing_of : PlainNodePlan → Timing
timing_of (inner_plan times ii latency serial) = inner_timing ii latency
timing_of (outer_plan slots chains) = outer_timing slots chains
timing_of other_plan = no_timing

abbrev pub plan_timings : PlainPlan → Timings
plan_timings plan k = timing_of (node_plan plan k)

abbrev pub HasSlots : PlainNodePlan → (stages : ℕ) → Type 0
HasSlots (outer_plan slots chains) n = (length slots ≡ n) × (length chains ≡ n)
HasSlots _ n = ⊥

-- by the number of the node
abbrev mutual
  pub IsPlanned : PlainPlan → (node : ℕ) → PlainNode → Type 0
  IsPlanned plan k (outer counters style owned stages) =
      (is_stream style ≡ false) × HasSlots (node_plan plan k) (stage_count stages) × ArePlanned plan (suc k) stages
  IsPlanned plan k (fsm start state test body next) = IsPlanned plan (suc k) body
  IsPlanned plan k (branch test first second) = IsPlanned plan (suc k) first × IsPlanned plan (suc k + node_count first) second
  IsPlanned plan k (sparse kind r m places spans count par) = ⊥
  IsPlanned plan k _ = Unit {0}

  pub ArePlanned : PlainPlan → (node : ℕ) → PlainStages → Type 0
  ArePlanned plan k no_stage = Unit {0}
  ArePlanned plan k (more_stage first last comb node rest) = IsPlanned plan k node × ArePlanned plan (k + node_count node) rest

abbrev mutual
  pub IsCounted : PlainNode → History → Type 0
  IsCounted (inner counters owned ops comb) (inner_ran bs counts groups) = length groups ≤ group_count counters counts
  IsCounted (outer counters style owned stages) (outer_ran bs counts groups) = AreCounted stages groups
  IsCounted (fsm start state test body next) (fsm_ran first ts last) = TurnsCounted body ts
  IsCounted (branch test first second) (branch_ran es true h) = IsCounted first h
  IsCounted (branch test first second) (branch_ran es false h) = IsCounted second h
  IsCounted _ _ = Unit {0}

  pub AreCounted : PlainStages → Groups → Type 0
  AreCounted stages no_group = Unit {0}
  AreCounted stages (more_group runs rest) = RunsCounted stages runs × AreCounted stages rest

  pub RunsCounted : PlainStages → Runs → Type 0
  RunsCounted (more_stage first last comb node rest) (more_run h hs) = IsCounted node h × RunsCounted rest hs
  RunsCounted (more_stage first last comb node rest) (masked_run hs) = RunsCounted rest hs
  RunsCounted _ _ = Unit {0}

  pub TurnsCounted : PlainNode → Turns → Type 0
  TurnsCounted body no_turn = Unit {0}
  TurnsCounted body (more_turn es h ns rest) = IsCounted body h × TurnsCounted body rest

-- no operation of an inner body begins later than its latency
abbrev pub AreTimesKept : PlainNodePlan → Type 0
AreTimesKept (inner_plan times ii latency serial) = Each (λ t. t ≤ latency) times
AreTimesKept _ = Unit {0}

abbrev mutual
  pub IsKept : PlainPlan → (node : ℕ) → PlainNode → Type 0
  IsKept plan k (inner counters owned ops comb) = AreTimesKept (node_plan plan k)
  IsKept plan k (outer counters style owned stages) = AreKept plan (suc k) stages
  IsKept plan k (fsm start state test body next) = IsKept plan (suc k) body
  IsKept plan k (branch test first second) = IsKept plan (suc k) first × IsKept plan (suc k + node_count first) second
  IsKept plan k _ = Unit {0}

  pub AreKept : PlainPlan → (node : ℕ) → PlainStages → Type 0
  AreKept plan k no_stage = Unit {0}
  AreKept plan k (more_stage first last comb node rest) = IsKept plan k node × AreKept plan (k + node_count node) rest
