-- Runs that stand in their lanes, and slots of theirs that are right.
use Rattle.std.proofs.Common.{◌≡◌, ℕ, zero, suc, ◌+◌, ◌-◌, ◌*◌, ◌<◌, ◌≤◌, ◌==◌, not, nat_le, ◌&&◌, ◌||◌, Bool, true, false, cond, List, [], length, slice_index, refl, ap, sym, subst, ◌∙◌, ⊎_elim, inl, inr, eq-eqb, eqb-true, ltb-true, leb-true, arith}
use Rattle.std.proofs.lemmas.Bool.{ne_eqb}
use Rattle.sp_core.specs.PlainCore.{PlainCounter}
use Rattle.sp_plan.specs.Slots.{StageRun, no_run, is_of_all, is_in_lane_0, run_at, lane_size, stage_of, is_next, is_slot_right, are_slots_right, has_one_slot}
use Rattle.sp_stages.specs.Finest.{is_in_place, are_in_place}
use Rattle.sp_stages.proofs.Below.{and_parts, or_cases, or_first, or_second, if_true, if_false, all_at, filter_most, filter_fewer}
use Rattle.sp_stages.proofs.Steps.{ArePlaces, AreSteps, IsStep}
use Rattle.sp_words.specs.declared.kind.Style.{Style}

zero_lane : (a n k : ℕ) → a * n ≤ k → k < n → a ≡ 0
zero_lane zero n k h lt = refl
zero_lane (suc a) n k h lt = absurd (omega arith)

step_from : (a b : ℕ) → ((b == a) || (b == a + 1)) ≡ true → IsStep a b
step_from a b h = ⊎_elim (λ e. inl (eqb-true b a e)) (λ e. inr (eqb-true b (a + 1) e)) (or_cases (b == a) (b == a + 1) h)

module _ (runs : List StageRun) where
  abbrev pub of_all : ℕ → Bool
  of_all p = is_of_all (run_at runs p)

  module _ (h : are_in_place runs ≡ true) where
    here : (p : ℕ) → p < length runs → is_in_place runs p ≡ true
    here p lt = all_at (is_in_place runs) (length runs) h p lt

    place_of : (p : ℕ) → p < length runs → of_all p ≡ false → ((run_at runs p).first * lane_size runs ≤ p) × (p < (run_at runs p).first * lane_size runs + lane_size runs)
    place_of p lt e =
        let k = and_parts (nat_le ((run_at runs p).first * lane_size runs) p) _ (if_false (of_all p) _ _ e (here p lt)) in
        (leb-true _ _ k.0, ltb-true _ _ k.1)

    stage_is : (p : ℕ) → of_all p ≡ false → stage_of runs p ≡ p - (run_at runs p).first * lane_size runs
    stage_is p e = ap (λ b. cond b (lane_size runs) (p - (run_at runs p).first * lane_size runs)) e

    last_of : (p : ℕ) → p < length runs → of_all p ≡ true → (p + 1 ≡ length runs) × (stage_of runs p ≡ lane_size runs)
    last_of p lt e = (
      eqb-true (p + 1) (length runs) (if_true (of_all p) _ _ e (here p lt)),
      ap (λ b. cond b (lane_size runs) (p - (run_at runs p).first * lane_size runs)) e,
    )

    low_from : (k : ℕ) → k < lane_size runs → (b : Bool) → of_all k ≡ b → of_all k ≡ false
    low_from k lt false e = e
    low_from k lt true e =
        let most = filter_most is_in_lane_0 runs in
        let end = (last_of k (omega arith) e).0 in
        let none : is_in_lane_0 (run_at runs k) ≡ false = ap (λ b. not b && ((run_at runs k).first == 0)) e in
        let fewer = filter_fewer is_in_lane_0 runs k no_run (omega arith) none in
        absurd (omega arith)

    low_single : (k : ℕ) → k < lane_size runs → of_all k ≡ false
    low_single k lt = low_from k lt (of_all k) refl

    low_first : (k : ℕ) → k < lane_size runs → (run_at runs k).first ≡ 0
    low_first k lt =
        let most = filter_most is_in_lane_0 runs in
        zero_lane (run_at runs k).first (lane_size runs) k (place_of k (omega arith) (low_single k lt)).0 lt

    lane_0 : (p : ℕ) → of_all p ≡ false → (run_at runs p).first ≡ 0 → stage_of runs p ≡ p
    lane_0 p e z = stage_is p e ∙ ap (λ x. p - x * lane_size runs) z ∙ omega arith

    pub places : ArePlaces (length runs) (lane_size runs) (stage_of runs) of_all
    places = record {
      fits = filter_most is_in_lane_0 runs;
      low = λ k lt. (lane_0 k (low_single k lt) (low_first k lt), low_single k lt);
      last = last_of;
      high = λ p lt e. let k = place_of p lt e in let s = stage_is p e in omega arith;
    }

    module _ (slots : List ℕ) (counters : List PlainCounter) (style : Style) (right : are_slots_right runs slots [] counters style ≡ true) where
      abbrev slot_at : ℕ → ℕ
      slot_at p = slice_index slots p

      parts : (p : ℕ) → p < length runs → (is_slot_right runs slots [] p ≡ true) × ((not (has_one_slot counters style) || (slot_at p == 0)) ≡ true)
      parts p lt = and_parts (is_slot_right runs slots [] p) _ (all_at (λ p. is_slot_right runs slots [] p && (not (has_one_slot counters style) || (slot_at p == 0))) (length runs) right p lt)

      begins : (p : ℕ) → p < length runs → stage_of runs p ≡ 0 → slot_at p ≡ 0
      begins p lt is = eqb-true (slot_at p) 0 (if_true (stage_of runs p == 0) _ _ (eq-eqb (stage_of runs p) 0 is) (parts p lt).0)

      abbrev leads : ℕ → Bool
      leads p = of_all p || ((run_at runs p).first == 0)

      later : (p k : ℕ) → p < length runs → stage_of runs p ≡ suc k → (cond (leads p) (is_next runs slots [] (stage_of runs p - 1) p) (slot_at p == slot_at (stage_of runs p))) ≡ true
      later p k lt is = if_false (stage_of runs p == 0) (slot_at p == 0) _ (ne_eqb (stage_of runs p) 0 (λ e. omega arith)) (parts p lt).0

      steps_up : (p k : ℕ) → p < length runs → stage_of runs p ≡ suc k → leads p ≡ true → IsStep (slot_at k) (slot_at p)
      steps_up p k lt is lead =
          let e : stage_of runs p - 1 ≡ k = omega arith in
          step_from (slot_at k) (slot_at p) (subst (λ j. is_next runs slots [] j p ≡ true) e (if_true (leads p) _ (slot_at p == slot_at (stage_of runs p)) lead (later p k lt is)))

      copied_from : (p : ℕ) → p < length runs → of_all p ≡ false → (b : Bool) → ((run_at runs p).first == 0) ≡ b → (k : ℕ) → stage_of runs p ≡ k → slot_at p ≡ slot_at (stage_of runs p)
      copied_from p lt e true z k is = ap slot_at (sym (lane_0 p e (eqb-true (run_at runs p).first 0 z)))
      copied_from p lt e false z zero is =
          let high = places.high p lt e in let fits = places.fits in
          begins p lt is ∙ sym (begins 0 (omega arith) (places.low 0 (omega arith)).0) ∙ ap slot_at (sym is)
      copied_from p lt e false z (suc k) is =
          let follows : leads p ≡ false = ap (λ b. b || ((run_at runs p).first == 0)) e ∙ z in
          eqb-true (slot_at p) (slot_at (stage_of runs p)) (if_false (leads p) (is_next runs slots [] (stage_of runs p - 1) p) _ follows (later p k lt is))

      pub steps : AreSteps (length runs) (lane_size runs) (stage_of runs) of_all slot_at
      steps = record {
        first = begins;
        next = λ k lt.
            let fits = places.fits in let low = places.low (suc k) lt in
            steps_up (suc k) k (omega arith) low.0 (or_second (of_all (suc k)) _ (eq-eqb (run_at runs (suc k)).first 0 (low_first (suc k) lt)));
        last = λ p k lt e n. steps_up p k lt ((places.last p lt e).1 ∙ sym n) (or_first (of_all p) _ e);
        same = λ p lt e. copied_from p lt e ((run_at runs p).first == 0) refl (stage_of runs p) refl;
      }

      pub one_slot : has_one_slot counters style ≡ true → (p : ℕ) → p < length runs → slot_at p ≡ 0
      one_slot one p lt = ⊎_elim
          (λ e. let no : not (has_one_slot counters style) ≡ false = ap not one in absurd (cc))
          (λ e. eqb-true (slot_at p) 0 e)
          (or_cases (not (has_one_slot counters style)) (slot_at p == 0) (parts p lt).1)
