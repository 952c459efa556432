-- No slot that is right has a greater number than there are stages.
use Rattle.std.proofs.Common.{◌≡◌, ℕ, zero, suc, ◌+◌, ◌-◌, ◌*◌, ◌<◌, ◌≤◌, Bool, true, false, cond, List, [], ◌∷◌, length, arith, refl, sym, ap, ◌∙◌}
use Rattle.std.proofs.lemmas.Bool.{eq-eqb, eqb-true, true≢false}
use Rattle.std.specs.Prelude.{◌==◌, ◌||◌, slice_index}
use Rattle.sp_core.specs.Cost.{greatest_of}
use Rattle.sp_core.specs.Numbering.{number_count}
use Rattle.sp_core.specs.PlainCore.{PlainStages, no_stage, more_stage}
use Rattle.sp_plan.specs.Slots.{StageRun, runs_of, is_of_all, run_at, lane_size, stage_of, is_next, is_slot_right}
use Rattle.sp_overlap.proofs.Lanes.{Lanes, single_stage, all_stage}
use Rattle.sp_overlap.proofs.Slots.{slots_rise}
use Rattle.sp_within.specs.Laws.{stages_in}

pub runs_length : (n : ℕ) (stages : PlainStages) → length (runs_of n stages) ≡ stages_in stages
runs_length n no_stage = refl
runs_length n (more_stage first last comb node rest) = ap suc (runs_length (n + number_count node) rest)

pub greatest_under : (ns : List ℕ) (most : ℕ) → ((i : ℕ) → i < length ns → slice_index ns i ≤ most) → greatest_of ns ≤ most
greatest_under [] most h = omega arith
greatest_under (n ∷ ns) most h =
    let a : n ≤ most = h 0 (omega arith) in
    let b : greatest_of ns ≤ most = greatest_under ns most (λ i l. h (suc i) (omega (arith, l))) in
    omega arith

module _ (runs : List StageRun) (slots chains : List ℕ) (lanes : Lanes runs) (right : (p : ℕ) → p < length runs → is_slot_right runs slots chains p ≡ true) where
  few_in_lane : lane_size runs ≤ length runs
  few_in_lane = go (lane_size runs) refl
    where
      go : (n : ℕ) → lane_size runs ≡ n → n ≤ length runs
      go zero e = omega arith
      go (suc n) e = let a : n < length runs = (lanes.lane_0 n (omega (arith, e))).0 in omega (arith, a)

  stage_under : (p : ℕ) → p < length runs → stage_of runs p ≤ length runs
  stage_under p l = go (is_of_all (run_at runs p)) refl
    where
      go : (b : Bool) → is_of_all (run_at runs p) ≡ b → stage_of runs p ≤ length runs
      go true e = let a : stage_of runs p ≡ lane_size runs = all_stage runs p e in let c : lane_size runs ≤ length runs = few_in_lane in omega arith
      go false e = let a : stage_of runs p ≡ p - (run_at runs p).first * lane_size runs = single_stage runs p e in omega (arith, a, l)

  -- the first stage is one of number 0
  first_stage : 0 < length runs → stage_of runs 0 ≡ 0
  first_stage l = go (is_of_all (run_at runs 0)) refl
    where
      go : (b : Bool) → is_of_all (run_at runs 0) ≡ b → stage_of runs 0 ≡ 0
      go false e = let a : stage_of runs 0 ≡ 0 - (run_at runs 0).first * lane_size runs = single_stage runs 0 e in omega (arith, a)
      go true e = all_stage runs 0 e ∙ none (lane_size runs) refl
        where
          none : (n : ℕ) → lane_size runs ≡ n → lane_size runs ≡ 0
          none zero q = q
          none (suc n) q = absurd (true≢false (sym e ∙ (lanes.lane_0 0 (omega (arith, q))).1))

  first_slot : 0 < length runs → slice_index slots 0 ≡ 0
  first_slot l = eqb-true _ _ (ap (λ b. cond b (slice_index slots 0 == 0) (cond (is_of_all (run_at runs 0) || ((run_at runs 0).first == 0)) (is_next runs slots chains (stage_of runs 0 - 1) 0) (slice_index slots 0 == slice_index slots (stage_of runs 0)))) (sym (eq-eqb (stage_of runs 0) 0 (first_stage l))) ∙ right 0 l)

  slot_under : (p : ℕ) → p < length runs → slice_index slots p ≤ length runs
  slot_under zero l = let a : slice_index slots 0 ≡ 0 = first_slot l in omega arith
  slot_under (suc p) l =
      let z : slice_index slots 0 ≡ 0 = first_slot (omega (arith, l)) in
      let f : stage_of runs 0 ≡ 0 = first_stage (omega (arith, l)) in
      let r : slice_index slots (suc p) ≤ slice_index slots 0 + (stage_of runs (suc p) - stage_of runs 0) = (slots_rise runs slots chains lanes right 0 (suc p) (omega (arith, l)) l (λ e. absurd (omega (arith, e))) (omega (arith, f))).1 in
      let s : stage_of runs (suc p) ≤ length runs = stage_under (suc p) l in
      omega arith

  pub slots_under : length slots ≡ length runs → greatest_of slots ≤ length runs
  slots_under e = greatest_under slots (length runs) (λ i l. slot_under i (omega (arith, e, l)))
