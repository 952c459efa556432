-- A group of lanes and the iterations that it has, where no stage combines.
use Rattle.std.proofs.Common.{◌≡◌, ℕ, suc, ◌≤◌, Bool, true, false, List, [], ◌∷◌, map, length, refl, sym, ◌∙◌, ap, subst, arith, ◌==◌}
use Rattle.sp_core.specs.Around.{lanes_of}
use Rattle.sp_core.specs.History.{Runs, no_run, more_run}
use Rattle.sp_core.specs.PlainCore.{PlainCounter, PlainStages, no_stage, more_stage, PlainCore}
use Rattle.sp_lane_cores.specs.LanedMarks.{NoneCombines}
use Rattle.sp_lane_groups.specs.InnersAlike.{own_stages, own_runs, GroupAlike, together, LanesAlike, all_lanes, with_one, without, LaneAlike, lane_over, stage_ran, EndsAlike, nothing, past}

-- so many lanes, of which one at least has an iteration
abbrev pub InLanes : PlainStages → (live : ℕ → Bool) → (lanes : ℕ) → List Runs → Runs → Type 0
InLanes stages live n gs y = (1 ≤ length gs) × LanesAlike stages live no_run 0 n gs y

module _ (core : PlainCore) where
  pub own_same : (stages : PlainStages) → NoneCombines core stages → own_stages stages ≡ stages
  own_same no_stage none = refl
  own_same (more_stage first last true node rest) none = absurd none
  own_same (more_stage first last false node rest) none = ap (λ xs. more_stage first last false node xs) (own_same rest none)

  own_run : (stages : PlainStages) → NoneCombines core stages → (r after y : Runs) → LaneAlike stages r after y → own_runs stages r ≡ r
  own_run _ none _ after _ lane_over = refl
  own_run _ none _ after _ (stage_ran {comb = true} g h) = absurd none
  own_run _ none _ after _ (stage_ran {comb = false} {rest = rest} {h = x} {r = r} {y = y} g h) = ap (λ q. more_run x q) (own_run rest none r after y h)

  own_all : (stages : PlainStages) → NoneCombines core stages → (live : ℕ → Bool) (tail : Runs) (l k : ℕ) (rs : List Runs) (y : Runs) → LanesAlike stages live tail l k rs y → map (own_runs stages) rs ≡ rs
  own_all stages none live tail l _ _ _ all_lanes = refl
  own_all stages none live tail l _ _ _ (with_one {k = k} {r = r} {after = after} {y = y} {rs = rs} on h q) =
      ap (λ x. x ∷ map (own_runs stages) rs) (own_run stages none r after y h) ∙ ap (λ xs. r ∷ xs) (own_all stages none live tail (suc l) k rs after q)
  own_all stages none live tail l _ _ _ (without off q) = refl

  none_ends : (stages : PlainStages) → NoneCombines core stages → (r after y : Runs) → LaneAlike stages r after y → EndsAlike stages r no_run
  none_ends _ none _ after _ lane_over = nothing
  none_ends _ none _ after _ (stage_ran {comb = true} g h) = absurd none
  none_ends _ none _ after _ (stage_ran {comb = false} {rest = rest} {r = r} {y = y} g h) = past (none_ends rest none r after y h)

  first_ends : (stages : PlainStages) → NoneCombines core stages → (live : ℕ → Bool) (tail : Runs) (l n : ℕ) (r : Runs) (rs : List Runs) (y : Runs) → LanesAlike stages live tail l n (r ∷ rs) y → EndsAlike stages r no_run
  first_ends stages none live tail l _ r rs y (with_one {after = after} on h q) = none_ends stages none r after y h

  pub grouped : (counters : List PlainCounter) (stages : PlainStages) → NoneCombines core stages → (lanes_of counters == 1) ≡ false → (live : ℕ → Bool) (gs : List Runs) (y : Runs) → InLanes stages live (lanes_of counters) gs y → GroupAlike counters stages live gs y
  grouped counters stages none several live [] y h = absurd (let few = h.0 in omega (arith, few))
  grouped counters stages none several live (r ∷ rs) y h =
      together several
      (subst (λ qs. LanesAlike (own_stages stages) live no_run 0 (lanes_of counters) qs y) (sym (own_all stages none live no_run 0 (lanes_of counters) (r ∷ rs) y h.1))
      (subst (λ xs. LanesAlike xs live no_run 0 (lanes_of counters) (r ∷ rs) y) (sym (own_same stages none)) h.1))
      (first_ends stages none live no_run 0 (lanes_of counters) r rs y h.1)
