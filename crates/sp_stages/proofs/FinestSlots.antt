-- The slots that begin after each stage that isn't joined with the next one are the finest.
use Rattle.std.proofs.Common.{◌≡◌, ℕ, zero, suc, ◌+◌, ◌-◌, ◌<◌, ◌≤◌, ◌==◌, not, nat_le, ◌||◌, Bool, true, false, cond, List, [], ◌∷◌, length, slice_index, refl, ap, sym, subst, ◌∙◌, ⊎_elim, eq-eqb, eqb-true, ltb-true, leb-true, le-leb, lt-ltb, arith}
use Rattle.std.specs.List.{list_all, list_any}
use Rattle.std.proofs.lemmas.Bool.{cases_lt, eqb-false}
use Rattle.std.proofs.lemmas.List.{get_or_past, length-map}
use Rattle.sp_core.specs.declared.access.Meet.{Meet}
use Rattle.sp_core.specs.Elements.{numbers_below}
use Rattle.sp_core.specs.PlainCore.{PlainCounter, PlainCore}
use Rattle.sp_plan.specs.Slots.{StageRun, run_at, lane_size, stage_of, is_slot_right, are_slots_right, has_one_slot, is_once, is_pair, is_held, are_held}
use Rattle.sp_stages.specs.Divided.{are_around, is_over, is_over_any, is_over_end, is_joined, slot_of, slots_of}
use Rattle.sp_stages.specs.Finest.{are_in_place, AreSlots, AreFinestSlots}
use Rattle.sp_stages.proofs.Below.{and_parts, and_both, or_cases, or_first, or_second, length-numbers, listed, all_at, all_from, any_from, any_at, if_both}
use Rattle.sp_stages.proofs.Steps.{ArePlaces, IsAcross, at_most}
use Rattle.sp_stages.proofs.Places.{of_all, places, steps, one_slot}
use Rattle.sp_words.specs.declared.kind.Style.{Style}

any_like : {A : Type 0} (f g : A → Bool) (xs : List A) → ((x : A) → f x ≡ true → g x ≡ true) → list_any f xs ≡ true → list_any g xs ≡ true
any_like f g [] h e = e
any_like f g (x ∷ xs) h e = ⊎_elim (λ a. or_first (g x) _ (h x a)) (λ a. or_second (g x) _ (any_like f g xs h a)) (or_cases (f x) (list_any f xs) e)

not_first : (a b : Bool) → (a || b) ≡ false → a ≡ false
not_first true b h = h
not_first false b h = refl

not_first_true : (a b : Bool) → a ≡ false → (a || b) ≡ true → b ≡ true
not_first_true true b e h = cc
not_first_true false b e h = h

second_false : (a b : Bool) → b ≡ true → (a || not b) ≡ true → a ≡ true
second_false true b e h = refl
second_false false true e h = h
second_false false false e h = e

not_false : (b : Bool) → not b ≡ true → b ≡ false
not_false true h = sym h
not_false false h = refl

module _ (core : PlainCore) (meets : List Meet) (counters : List PlainCounter) (style : Style) (owned : List ℕ) (runs : List StageRun) where
  abbrev ours : List ℕ
  ours = slots_of core meets counters style owned runs

  abbrev joined : ℕ → Bool
  joined = is_joined core meets counters style owned runs

  abbrev slot_number : ℕ → ℕ
  slot_number = slot_of joined

  abbrev pairs : ℕ → ℕ → Meet → Bool
  pairs p q = is_pair runs [] [] core owned p q

  ours_at : (p : ℕ) → p < length runs → slice_index ours p ≡ slot_number (stage_of runs p)
  ours_at p lt = listed (λ k. slot_number (stage_of runs k)) (length runs) p lt

  -- a stage on whose both sides runs are held together
  record IsHeldAcross (xs : List Meet) (k : ℕ) : Type 0 where
    pub after : ℕ
    pub before : ℕ
    pub after_in : after < length runs
    pub before_in : before < length runs
    pub around : are_around core owned runs k after before ≡ true
    pub held : list_any (pairs after before) xs ≡ true

  across_in : (k : ℕ) (xs : List Meet) → list_any (is_over_end core owned runs k) xs ≡ true → IsHeldAcross xs k
  across_in k [] h = absurd (cc)
  across_in k (m ∷ xs) h = ⊎_elim
      (λ e.
      let p = any_at (is_over_any core owned runs k m) (length runs) e in
      let q = any_at (is_over core owned runs k m p.place) (length runs) p.found in
      let both = and_parts (are_around core owned runs k p.place q.place) (pairs p.place q.place m) q.found in
      record { after = p.place; before = q.place; after_in = p.below; before_in = q.below; around = both.0; held = or_first _ _ both.1 })
      (λ e.
      let rest = across_in k xs e in
      record { after = rest.after; before = rest.before; after_in = rest.after_in; before_in = rest.before_in; around = rest.around; held = or_second (pairs rest.after rest.before m) _ rest.held })
      (or_cases (is_over_end core owned runs k m) (list_any (is_over_end core owned runs k) xs) h)

  -- what is held together is joined
  joins : (k p q : ℕ) → p < length runs → q < length runs → stage_of runs q ≤ k → k < stage_of runs p → is_once counters ≡ false → list_any (pairs p q) meets ≡ true → joined k ≡ true
  joins k p q lp lq begins ends once held =
      or_second (has_one_slot counters style) _ (and_both _ _ (ap not once)
      (any_like (pairs p q) (is_over_end core owned runs k) meets
      (λ m e. any_from (is_over_any core owned runs k m) (length runs) p lp
      (any_from (is_over core owned runs k m p) (length runs) q lq
      (and_both _ _ (and_both _ _ (le-leb (stage_of runs q) k begins) (lt-ltb k (stage_of runs p) ends)) e)))
      held))

  -- joined stages have one slot
  stays : (a b : ℕ) → a ≤ b → ((k : ℕ) → a ≤ k → k < b → joined k ≡ true) → slot_number b ≡ slot_number a
  stays a zero le h = let e : zero ≡ a = omega arith in ap slot_number e
  stays a (suc b) le h = ⊎_elim
      (λ lt.
      let rest = stays a b (omega arith) (λ k ge less. h k ge (omega arith)) in
      let here = ap (λ x. slot_number b + cond x 0 1) (h b (omega arith) (omega arith)) in omega arith)
      (λ ge. let e : suc b ≡ a = omega arith in ap slot_number e)
      (cases_lt a (suc b))

  module _ (h : are_in_place runs ≡ true) where
    abbrev in_place : ArePlaces (length runs) (lane_size runs) (stage_of runs) (of_all runs)
    in_place = places runs h

    stage_most : (p : ℕ) → p < length runs → (b : Bool) → of_all runs p ≡ b → stage_of runs p ≤ lane_size runs
    stage_most p lt true e = let s = (in_place.last p lt e).1 in omega arith
    stage_most p lt false e = let s = in_place.high p lt e in omega arith

    next_slot : (a b : ℕ) → b ≡ suc a → (x : Bool) → joined a ≡ x → ((slot_number b == slot_number a) || (slot_number b == slot_number a + 1)) ≡ true
    next_slot a b e true j =
        let here = ap slot_number e in let grown = ap (λ x. slot_number a + cond x 0 1) j in
        or_first _ _ (eq-eqb (slot_number b) (slot_number a) (omega arith))
    next_slot a b e false j =
        let here = ap slot_number e in let grown = ap (λ x. slot_number a + cond x 0 1) j in
        or_second (slot_number b == slot_number a) _ (eq-eqb (slot_number b) (slot_number a + 1) (omega arith))

    our_slot : (p : ℕ) → p < length runs → is_slot_right runs ours [] p ≡ true
    our_slot p lt = if_both (stage_of runs p == 0) _ _
        (λ e. eq-eqb (slice_index ours p) 0 (ours_at p lt ∙ ap slot_number (eqb-true (stage_of runs p) 0 e)))
        (λ e. if_both (of_all runs p || ((run_at runs p).first == 0)) _ _
        (λ lead.
        let most = stage_most p lt (of_all runs p) refl in let fits = in_place.fits in
        let some = eqb-false (stage_of runs p) 0 e in
        let before = ours_at (stage_of runs p - 1) (omega (arith, some)) ∙ ap slot_number (in_place.low (stage_of runs p - 1) (omega (arith, some))).0 in
        subst (λ x. ((x == slice_index ours (stage_of runs p - 1)) || (x == slice_index ours (stage_of runs p - 1) + 1)) ≡ true) (sym (ours_at p lt))
        (subst (λ y. ((slot_number (stage_of runs p) == y) || (slot_number (stage_of runs p) == y + 1)) ≡ true) (sym before)
        (next_slot (stage_of runs p - 1) (stage_of runs p) (omega (arith, some)) (joined (stage_of runs p - 1)) refl)))
        (λ follows. eq-eqb (slice_index ours p) (slice_index ours (stage_of runs p)) (
        let single = not_first (of_all runs p) _ follows in
        let high = in_place.high p lt single in let fits = in_place.fits in
        ours_at p lt ∙ sym (ours_at (stage_of runs p) (omega arith) ∙ ap slot_number (in_place.low (stage_of runs p) high).0))))

    only : (p : ℕ) → p < length runs → (b : Bool) → has_one_slot counters style ≡ b → (not (has_one_slot counters style) || (slice_index ours p == 0)) ≡ true
    only p lt true e =
        or_second (not (has_one_slot counters style)) _ (eq-eqb (slice_index ours p) 0
        (ours_at p lt ∙ stays 0 (stage_of runs p) (omega arith) (λ k ge less. or_first _ _ e)))
    only p lt false e = or_first _ _ (ap not e)

    ours_right : are_slots_right runs ours [] counters style ≡ true
    ours_right = all_from _ (length runs) (λ p lt. and_both _ _ (our_slot p lt) (only p lt (has_one_slot counters style) refl))

    our_pair : (p q : ℕ) → p < length runs → q < length runs → is_once counters ≡ false → (b : Bool) → list_any (pairs p q) meets ≡ b → is_held runs ours [] core owned meets p q ≡ true
    our_pair p q lp lq once false e = or_second (nat_le (stage_of runs p) (stage_of runs q) || (slice_index ours p == slice_index ours q)) _ (ap not e)
    our_pair p q lp lq once true e = ⊎_elim
        (λ lt. or_first _ _ (or_second (nat_le (stage_of runs p) (stage_of runs q)) _ (eq-eqb (slice_index ours p) (slice_index ours q)
        (ours_at p lp ∙ stays (stage_of runs q) (stage_of runs p) (omega arith) (λ k ge less. joins k p q lp lq ge less once e) ∙ sym (ours_at q lq)))))
        (λ ge. or_first _ _ (or_first _ _ (le-leb (stage_of runs p) (stage_of runs q) ge)))
        (cases_lt (stage_of runs q) (stage_of runs p))

    ours_held : (b : Bool) → is_once counters ≡ b → are_held runs ours [] core owned counters meets ≡ true
    ours_held true e = or_first _ _ e
    ours_held false e = or_second (is_once counters) _
        (all_from _ (length runs) (λ p lp. all_from _ (length runs) (λ q lq. our_pair p q lp lq e (list_any (pairs p q) meets) refl)))

    pub ours_may_be : AreSlots core meets counters style owned runs ours
    ours_may_be = record {
      one_each = length-map (numbers_below (length runs)) (λ p. slot_number (stage_of runs p)) ∙ length-numbers (length runs);
      right = ours_right;
      held = ours_held (is_once counters) refl;
    }

    module _ (others : List ℕ) (may : AreSlots core meets counters style owned runs others) where
      across : has_one_slot counters style ≡ false → (k : ℕ) → joined k ≡ true → IsAcross (length runs) (stage_of runs) (λ p. slice_index others p) k
      across one k j =
          let rest = and_parts (not (is_once counters)) _ (not_first_true (has_one_slot counters style) _ one j) in
          let a = across_in k meets rest.1 in
          let sides = and_parts (nat_le (stage_of runs a.before) k) _ a.around in
          let begins = leb-true (stage_of runs a.before) k sides.0 in let ends = ltb-true k (stage_of runs a.after) sides.1 in
          record {
            after = a.after;
            before = a.before;
            after_in = a.after_in;
            before_in = a.before_in;
            begins = begins;
            ends = ends;
            one_slot = (
                let each = not_first_true (is_once counters) _ (not_false (is_once counters) rest.0) may.held in
                let held = all_at (is_held runs others [] core owned meets a.after) (length runs) (all_at (λ p. list_all (is_held runs others [] core owned meets p) (numbers_below (length runs))) (length runs) each a.after a.after_in) a.before a.before_in in
                let now = second_false _ (list_any (pairs a.after a.before) meets) a.held held in
                ⊎_elim (λ e. let le = leb-true (stage_of runs a.after) (stage_of runs a.before) e in absurd (omega arith)) (λ e. eqb-true (slice_index others a.after) (slice_index others a.before) e)
                (or_cases (nat_le (stage_of runs a.after) (stage_of runs a.before)) (slice_index others a.after == slice_index others a.before) now));
          }

      below_from : (b : Bool) → has_one_slot counters style ≡ b → (p : ℕ) → p < length runs → slice_index others p ≤ slot_number (stage_of runs p)
      below_from true e p lt = let z = one_slot runs h others counters style may.right e p lt in omega arith
      below_from false e p lt =
          at_most (length runs) (lane_size runs) (stage_of runs) (of_all runs) (λ k. slice_index others k) in_place (steps runs h others counters style may.right)
          joined slot_number refl (λ k. refl) (across e) p lt

      pub others_below : (p : ℕ) → slice_index others p ≤ slice_index ours p
      others_below p = ⊎_elim
          (λ lt. let e = ours_at p lt in let b = below_from (has_one_slot counters style) refl p lt in omega arith)
          (λ ge. let z = get_or_past others p 0 (let n = may.one_each in omega arith) in omega arith)
          (cases_lt p (length runs))

    pub slots_are_finest : AreFinestSlots core meets counters style owned runs ours
    slots_are_finest = record { may_be = ours_may_be; finest = others_below }
