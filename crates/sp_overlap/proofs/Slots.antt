-- Slots that are right rise with the stages, by one at most from one to the next.
use Rattle.std.proofs.Common.{◌≡◌, ℕ, zero, suc, ◌+◌, ◌-◌, ◌*◌, ◌<◌, ◌≤◌, ◌⊎◌, inl, inr, Bool, true, false, cond, List, length, arith, refl, sym, subst, ap, ◌∙◌}
use Rattle.std.proofs.lemmas.Bool.{cases_order, cases_Bool, eq-eqb, ne_eqb, eqb-true, or_left, or_right, true≢false}
use Rattle.std.specs.Prelude.{◌==◌, ◌||◌, slice_index}
use Rattle.sp_plan.specs.Slots.{StageRun, is_of_all, run_at, lane_size, stage_of, is_next, is_slot_right}
use Rattle.sp_overlap.proofs.Lanes.{Lanes, or_choose, single_stage, all_stage}

module _ (runs : List StageRun) (slots chains : List ℕ) (lanes : Lanes runs) (right : (p : ℕ) → p < length runs → is_slot_right runs slots chains p ≡ true) where
  abbrev at : ℕ → ℕ
  at p = slice_index slots p

  abbrev of_lane_0 : ℕ → Bool
  of_lane_0 p = is_of_all (run_at runs p) || ((run_at runs p).first == 0)

  first_stage : (i : ℕ) → i < lane_size runs → stage_of runs i ≡ i
  first_stage i l =
      let h = lanes.lane_0 i l in
      single_stage runs i h.1 ∙ ap (λ f. i - f * lane_size runs) h.2 ∙ let e : i - 0 * lane_size runs ≡ i = omega arith in e

  zero_slot : (p : ℕ) → p < length runs → stage_of runs p ≡ 0 → at p ≡ 0
  zero_slot p l e =
      eqb-true _ _ (ap (λ b. cond b (at p == 0) (cond (of_lane_0 p) (is_next runs slots chains (stage_of runs p - 1) p) (at p == at (stage_of runs p)))) (sym (eq-eqb (stage_of runs p) 0 e)) ∙ right p l)

  later_slot : (p t : ℕ) → p < length runs → stage_of runs p ≡ suc t → cond (of_lane_0 p) (is_next runs slots chains (stage_of runs p - 1) p) (at p == at (stage_of runs p)) ≡ true
  later_slot p t l e =
      ap (λ b. cond b (at p == 0) (cond (of_lane_0 p) (is_next runs slots chains (stage_of runs p - 1) p) (at p == at (stage_of runs p)))) (sym (ne_eqb (stage_of runs p) 0 (λ z. absurd (omega (arith, z, e))))) ∙ right p l

  next_slot : (p t : ℕ) → p < length runs → stage_of runs p ≡ suc t → of_lane_0 p ≡ true → (at p ≡ at t) ⊎ (at p ≡ at t + 1)
  next_slot p t l e z =
      let h : is_next runs slots chains (stage_of runs p - 1) p ≡ true = ap (λ b. cond b (is_next runs slots chains (stage_of runs p - 1) p) (at p == at (stage_of runs p))) (sym z) ∙ later_slot p t l e in
      let h2 : is_next runs slots chains t p ≡ true = subst (λ x. is_next runs slots chains x p ≡ true) (let q : stage_of runs p - 1 ≡ t = omega arith in q) h in
      elim (or_choose (at p == at t) (at p == at t + 1) h2) [
        | inl x ↦ inl (eqb-true _ _ x)
        | inr x ↦ inr (eqb-true _ _ x)
      ]

  other_slot : (p t : ℕ) → p < length runs → stage_of runs p ≡ suc t → of_lane_0 p ≡ false → at p ≡ at (stage_of runs p)
  other_slot p t l e z = eqb-true _ _ (ap (λ b. cond b (is_next runs slots chains (stage_of runs p - 1) p) (at p == at (stage_of runs p))) (sym z) ∙ later_slot p t l e)

  step : (i : ℕ) → suc i < lane_size runs → (at (suc i) ≡ at i) ⊎ (at (suc i) ≡ at i + 1)
  step i l =
      let h = lanes.lane_0 (suc i) l in
      next_slot (suc i) i h.0 (first_stage (suc i) l) (or_right (is_of_all (run_at runs (suc i))) ((run_at runs (suc i)).first == 0) (eq-eqb _ 0 h.2))

  rise : (a d : ℕ) → a + d < lane_size runs → (at a ≤ at (a + d)) × (at (a + d) ≤ at a + d)
  rise a zero l = let e : at (a + 0) ≡ at a = ap at (let q : a + 0 ≡ a = omega arith in q) in (omega arith, omega arith)
  rise a (suc d) l =
      let r = rise a d (omega arith) in
      let low : at a ≤ at (a + d) = r.0 in
      let high : at (a + d) ≤ at a + d = r.1 in
      let e : at (a + suc d) ≡ at (suc (a + d)) = ap at (let q : a + suc d ≡ suc (a + d) = omega arith in q) in
      elim (step (a + d) (omega arith)) [
        | inl x ↦ (omega arith, omega arith)
        | inr x ↦ (omega arith, omega arith)
      ]

  -- the slot of a stage of one lane is that of lane 0
  at_single : (p : ℕ) → p < length runs → is_of_all (run_at runs p) ≡ false → at p ≡ at (stage_of runs p)
  at_single p l e = go (stage_of runs p) refl
    where
      go : (t : ℕ) → stage_of runs p ≡ t → at p ≡ at (stage_of runs p)
      go zero q =
          let some : stage_of runs p < lane_size runs = lanes.in_lane p l e in
          zero_slot p l q ∙ sym (ap at q ∙ zero_slot 0 (omega (arith, l)) (first_stage 0 (omega arith)))
      go (suc t) q = elim (cases_Bool (of_lane_0 p)) [
        | inl z ↦ elim (or_choose (is_of_all (run_at runs p)) ((run_at runs p).first == 0) z) [
          | inl w ↦ absurd (true≢false (sym w ∙ e))
          | inr w ↦ ap at (sym (single_stage runs p e ∙ ap (λ f. p - f * lane_size runs) (eqb-true _ _ w) ∙ (let x : p - 0 * lane_size runs ≡ p = omega arith in x)))
        ]
        | inr z ↦ other_slot p t l q z
      ]

  -- that of a stage of all lanes comes after
  at_all : (p t : ℕ) → p < length runs → is_of_all (run_at runs p) ≡ true → lane_size runs ≡ suc t → (at p ≡ at t) ⊎ (at p ≡ at t + 1)
  at_all p t l e q = next_slot p t l (all_stage runs p e ∙ q) (or_left (is_of_all (run_at runs p)) ((run_at runs p).first == 0) e)

  pub slots_rise : (p q : ℕ) → p < length runs → q < length runs → (p ≡ q → ⊥) → stage_of runs p ≤ stage_of runs q → (at p ≤ at q) × (at q ≤ at p + (stage_of runs q - stage_of runs p))
  slots_rise p q lp lq apart le = go (is_of_all (run_at runs p)) (is_of_all (run_at runs q)) refl refl
    where
      go : (a b : Bool) → is_of_all (run_at runs p) ≡ a → is_of_all (run_at runs q) ≡ b → (at p ≤ at q) × (at q ≤ at p + (stage_of runs q - stage_of runs p))
      go false false x y =
          let inside : stage_of runs q < lane_size runs = lanes.in_lane q lq y in
          let r = rise (stage_of runs p) (stage_of runs q - stage_of runs p) (omega arith) in
          let e : at (stage_of runs p + (stage_of runs q - stage_of runs p)) ≡ at (stage_of runs q) = ap at (omega arith) in
          let f : at p ≡ at (stage_of runs p) = at_single p lp x in
          let g : at q ≡ at (stage_of runs q) = at_single q lq y in
          let low : at (stage_of runs p) ≤ at (stage_of runs p + (stage_of runs q - stage_of runs p)) = r.0 in
          let high : at (stage_of runs p + (stage_of runs q - stage_of runs p)) ≤ at (stage_of runs p) + (stage_of runs q - stage_of runs p) = r.1 in
          (omega arith, omega arith)
      go false true x y =
          let inside : stage_of runs p < lane_size runs = lanes.in_lane p lp x in
          let top : stage_of runs q ≡ lane_size runs = all_stage runs q y in
          by_size (lane_size runs) refl inside top
        where
          by_size : (n : ℕ) → lane_size runs ≡ n → stage_of runs p < lane_size runs → stage_of runs q ≡ lane_size runs → (at p ≤ at q) × (at q ≤ at p + (stage_of runs q - stage_of runs p))
          by_size zero e i t = absurd (omega arith)
          by_size (suc t) e i top =
              let r = rise (stage_of runs p) (t - stage_of runs p) (omega arith) in
              let same : at (stage_of runs p + (t - stage_of runs p)) ≡ at t = ap at (omega arith) in
              let f : at p ≡ at (stage_of runs p) = at_single p lp x in
              let low : at (stage_of runs p) ≤ at (stage_of runs p + (t - stage_of runs p)) = r.0 in
              let high : at (stage_of runs p + (t - stage_of runs p)) ≤ at (stage_of runs p) + (t - stage_of runs p) = r.1 in
              elim (at_all q t lq y e) [
                | inl z ↦ (omega arith, omega arith)
                | inr z ↦ (omega arith, omega arith)
              ]
      go true false x y =
          let inside : stage_of runs q < lane_size runs = lanes.in_lane q lq y in
          let top : stage_of runs p ≡ lane_size runs = all_stage runs p x in
          absurd (omega arith)
      go true true x y = elim (cases_order p q) [
        | inl e ↦ absurd (apart e)
        | inr (inl l) ↦ absurd (true≢false (sym x ∙ lanes.only p q l lq))
        | inr (inr l) ↦ absurd (true≢false (sym y ∙ lanes.only q p l lp))
      ]
