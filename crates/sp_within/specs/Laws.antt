-- Laws of costs, as statements.
use Rattle.std.specs.Prelude.{ℕ, suc, ◌+◌, ◌≤◌, max}
use Rattle.sp_core.specs.Cost.{Timings, ii_of, latency_of, slots_of, greatest_of, core_cost}
use Rattle.sp_core.specs.History.{History}
use Rattle.sp_core.specs.Latency.{latency_of_all, limit}
use Rattle.sp_core.specs.Numbering.{node_count}
use Rattle.sp_core.specs.PlainCore.{PlainNode, PlainStages, inner, outer, fsm, branch, sparse, no_stage, more_stage, PlainCore}
use Rattle.sp_core.specs.Shape.{shape_of}
use Rattle.sp_within.specs.Rounds.{rounds}

abbrev pub stages_in : PlainStages → ℕ
stages_in no_stage = 0
stages_in (more_stage first last comb node rest) = suc (stages_in rest)

-- No inner body takes longer than its operations one after the other, nor begins its groups further apart than it takes; no
-- slot of an outer body has a greater number than there are stages; and a transfer of several lanes has a lane.
module _ (core : PlainCore) (timings : Timings) where
  abbrev mutual
    pub IsBrisk : PlainNode → (node : ℕ) → Type 0
    IsBrisk (inner counters owned ops comb) k = (latency_of (timings k) ≤ latency_of_all core ops) × (ii_of (timings k) ≤ max 1 (latency_of (timings k)))
    IsBrisk (outer counters style owned stages) k = (greatest_of (slots_of (timings k)) ≤ stages_in stages) × AreBrisk stages (suc k)
    IsBrisk (fsm start state test body next) k = IsBrisk body (suc k)
    IsBrisk (branch test first second) k = IsBrisk first (suc k) × IsBrisk second (suc k + node_count first)
    IsBrisk (sparse kind r m places spans count par) k = 1 ≤ par
    IsBrisk _ k = Unit {0}

    pub AreBrisk : PlainStages → (node : ℕ) → Type 0
    AreBrisk no_stage k = Unit {0}
    AreBrisk (more_stage first last comb node rest) k = IsBrisk node k × AreBrisk rest (k + node_count node)

-- what is done in a run costs no more than the limit, for as many turns as it goes around
abbrev pub CostsAreWithin : PlainCore → Timings → (delay : ℕ) → Type 0
CostsAreWithin core timings d =
    IsBrisk core timings core.root 0 → (h : History) (n : ℕ) → rounds core.root (shape_of core.root h) ≤ n → core_cost core timings d (shape_of core.root h) ≤ limit n d core
