-- A group of lanes and the iterations that it has, where the last stage combines.
use Rattle.std.proofs.Common.{ℕ, ◌≡◌, ◌≤◌, ◌==◌, Bool, true, false, List, [], ◌∷◌, map, length, Option, arith}
use Rattle.sp_core.specs.Around.{lanes_of}
use Rattle.sp_core.specs.History.{Entry, Bounds, History, Runs, inner_ran, no_run, more_run}
use Rattle.sp_core.specs.PlainCore.{PlainOp, PlainCounter, PlainNode, PlainStages, inner, more_stage}
use Rattle.sp_lane_groups.specs.InnersAlike.{own_stages, own_runs, GroupAlike, together, LanesAlike, EndsAlike, combined, past}

-- the run of the stage that combines, in an iteration
pub data HasEnd : PlainStages → Runs → PlainNode → History → Type 0 where
  here : {first last : ℕ} {node : PlainNode} {rest : PlainStages} {h : History} {r : Runs} → HasEnd (more_stage first last true node rest) (more_run h r) node h
  later : {first last : ℕ} {node other : PlainNode} {rest : PlainStages} {g h : History} {r : Runs} → HasEnd rest r node h → HasEnd (more_stage first last false other rest) (more_run g r) node h

module _ (stages : PlainStages) (cs : List PlainCounter) (own : List ℕ) (ops : List PlainOp) (comb : Option ℕ) (bounds : List Bounds) (counts : List ℕ) where
  -- in each iteration it has these bounds and counts
  abbrev pub AreEnded : List Runs → Type 0
  AreEnded [] = Unit {0}
  AreEnded (r ∷ rs) = ((groups : List (List Entry)) × HasEnd stages r (inner cs own ops comb) (inner_ran bounds counts groups)) × AreEnded rs

ends_alike : (stages : PlainStages) (r : Runs) (cs : List PlainCounter) (own : List ℕ) (ops : List PlainOp) (comb : Option ℕ) (bounds : List Bounds) (counts : List ℕ) (groups others : List (List Entry))
    → HasEnd stages r (inner cs own ops comb) (inner_ran bounds counts groups) → EndsAlike stages r (more_run (inner_ran bounds counts others) no_run)
ends_alike _ _ cs own ops comb bounds counts groups others here = combined
ends_alike _ _ cs own ops comb bounds counts groups others (later {rest = rest} {r = r} x) = past (ends_alike rest r cs own ops comb bounds counts groups others x)

pub gathered : (counters : List PlainCounter) (stages : PlainStages) → (lanes_of counters == 1) ≡ false → (live : ℕ → Bool) (gs : List Runs) (y : Runs) → 1 ≤ length gs
    → (cs : List PlainCounter) (own : List ℕ) (ops : List PlainOp) (comb : Option ℕ) (bounds : List Bounds) (counts : List ℕ) (others : List (List Entry)) → AreEnded stages cs own ops comb bounds counts gs
    → LanesAlike (own_stages stages) live (more_run (inner_ran bounds counts others) no_run) 0 (lanes_of counters) (map (own_runs stages) gs) y → GroupAlike counters stages live gs y
gathered counters stages several live [] y some cs own ops comb bounds counts others ended h = absurd (omega (arith, some))
gathered counters stages several live (r ∷ rs) y some cs own ops comb bounds counts others ended h =
    together several h (ends_alike stages r cs own ops comb bounds counts ended.0.0 others ended.0.1)
