-- A sum with a counter that counts and has no known range has no ends, and what divides it divides the size of that counter's
-- coefficient. So with that many steps more the same numbers are values.
use Rattle.std.proofs.Common.{◌≡◌, ℕ, zero, suc, ◌+◌, ◌*◌, ◌/◌, ◌%◌, ◌≤◌, Bool, true, false, not, ◌&&◌, ℤ, pos, neg_ℤ, ◌+ℤ◌, ◌-ℤ◌, ◌*ℤ◌, List, [], ◌∷◌, refl, ap, sym, ◌∙◌, subst, arith, unsigned_abs}
use Rattle.std.specs.Prelude.{◌==◌, Option, Some, None, int_lt, is_none, if◌then◌else◌}
use Rattle.std.specs.Int.{◌∣◌}
use Rattle.std.proofs.lemmas.Int.{ints}
use Rattle.std.proofs.lemmas.Nat.Gcd.{dvd_trans, mod-eq-zero_of_dvd}
use Rattle.std.proofs.lemmas.Nat.{div-add-mod'}
use Rattle.std.proofs.lemmas.Bool.Decides.{Decides-eqb, Decides-like, same_from_decides}
use Rattle.sp_deps.specs.declared.access.LoopRange.{LoopRange}
use Rattle.sp_deps.specs.declared.sum.Term.{Term}
use Rattle.sp_deps.specs.declared.sum.Sum.{Sum}
use Rattle.sp_deps.specs.Access.{range_of, range_between}
use Rattle.sp_deps.specs.Classes.{term, own_first, own_second}
use Rattle.sp_deps.specs.Sums.{gcd, add_ends, plus, onto, is_multiple, is_from, is_up_to, may_be}
use Rattle.sp_deps.proofs.Divisors.{gcd_is}
use Rattle.sp_deps.proofs.Integers.{sub-mul_ℤ, mul_assoc_ℤ}
use Rattle.sp_deps.proofs.Multiples.{quotient, times_it}
use Rattle.sp_meets.specs.Reach.{is_unbounded, unbounded}

pub record IsSpread (p : ℕ) (s : Sum) : Type 0 where
  pub divides : s.divisor ∣ p
  pub least : s.least ≡ None
  pub greatest : s.greatest ≡ None

no_end : (e : Option ℤ) → add_ends e None ≡ None
no_end None = refl
no_end (Some z) = refl

pub plus_spread : (p : ℕ) (t : Term) (s : Sum) → IsSpread p s → IsSpread p (plus t s)
plus_spread p t s h = record {
  divides = dvd_trans (gcd (unsigned_abs t.coef) s.divisor) (gcd_is (unsigned_abs t.coef) s.divisor).1 h.divides;
  least = ap (add_ends _) h.least ∙ no_end _;
  greatest = ap (add_ends _) h.greatest ∙ no_end _;
}

pub onto_spread : (p : ℕ) (ts : List Term) (s : Sum) → IsSpread p s → IsSpread p (onto ts s)
onto_spread p [] s h = h
onto_spread p (t ∷ ts) s h = plus_spread p t (onto ts s) (onto_spread p ts s h)

-- one of two tests comes true, and then there is no end
one_of : (b d : Bool) → (b ≡ false → d ≡ false → ⊥) → (if b then None else (if d then None else Some (pos 0))) ≡ None
one_of true d h = refl
one_of false true h = refl
one_of false false h = absurd (h refl refl)

zero_between : (c : ℤ) → int_lt (pos 0) c ≡ false → int_lt c (pos 0) ≡ false → unsigned_abs c ≡ 0
zero_between c g h = ap unsigned_abs (neither c g h)
  where
    neither : (c : ℤ) → int_lt (pos 0) c ≡ false → int_lt c (pos 0) ≡ false → c ≡ pos 0
    neither c g h = grind (arith, ints)

spread_plus : (c : ℤ) (s : Sum) → (unsigned_abs c ≡ 0 → ⊥) → IsSpread (unsigned_abs c) (plus (term c (range_between None)) s)
spread_plus c s some = record {
  divides = (gcd_is (unsigned_abs c) s.divisor).0;
  least = ap (λ e. add_ends e s.least) (one_of (int_lt (pos 0) c) (int_lt c (pos 0)) (λ g h. some (zero_between c g h)));
  greatest = ap (λ e. add_ends e s.greatest) (one_of (int_lt (pos 0) c) (int_lt c (pos 0)) (λ g h. some (zero_between c g h)));
}

no : false ≡ true → ⊥
no e = cc

some_size : (n : ℕ) → not (n == 0) ≡ true → n ≡ 0 → ⊥
some_size n h e = no (sym (ap not ((Decides-eqb n 0).1 e)) ∙ h)

spread_term : (c : ℤ) (from : Option (ℤ × ℤ)) (s : Sum) → (is_none from && not (unsigned_abs c == 0)) ≡ true → IsSpread (unsigned_abs c) (plus (term c (range_between from)) s)
spread_term c (Some r) s h = absurd (no h)
spread_term c None s h = spread_plus c s (some_size (unsigned_abs c) h)

size_of_opposite : (x : ℤ) → unsigned_abs (neg_ℤ x) ≡ unsigned_abs x
size_of_opposite x = omega (arith, ints)

none_some : (p : ℕ) → None ≡ Some p → ⊥
none_some p e = cc

same_some : (n p : ℕ) → Some n ≡ Some p → n ≡ p
same_some n p e = cc

pub first_spread : (xs : List ℤ) (ls : List LoopRange) (s : Sum) (p : ℕ) → unbounded xs ls ≡ Some p → IsSpread p (onto (own_first xs ls) s)
first_spread [] ls s p h = absurd (none_some p h)
first_spread (x ∷ xs) [] s p h = absurd (none_some p h)
first_spread (x ∷ xs) (l ∷ ls) s p h = by_test (is_unbounded x l) refl (first_spread xs ls s p) h
  where
    by_test : (b : Bool) → is_unbounded x l ≡ b → (unbounded xs ls ≡ Some p → IsSpread p (onto (own_first xs ls) s)) → (if b then Some (unsigned_abs x) else unbounded xs ls) ≡ Some p → IsSpread p (onto (own_first (x ∷ xs) (l ∷ ls)) s)
    by_test true e rest h =
        let P : ℕ → Type 0 = λ n. IsSpread n (plus (term (neg_ℤ x) (range_of l)) (onto (own_first xs ls) s)) in
        subst P (size_of_opposite x ∙ same_some (unsigned_abs x) p h)
        (spread_term (neg_ℤ x) l.from (onto (own_first xs ls) s) (ap (λ k. is_none l.from && not (k == 0)) (size_of_opposite x) ∙ e))
    by_test false e rest h = plus_spread p (term (neg_ℤ x) (range_of l)) (onto (own_first xs ls) s) (rest h)

pub second_spread : (ys : List ℤ) (ls : List LoopRange) (s : Sum) (p : ℕ) → unbounded ys ls ≡ Some p → IsSpread p (onto (own_second ys ls) s)
second_spread [] ls s p h = absurd (none_some p h)
second_spread (y ∷ ys) [] s p h = absurd (none_some p h)
second_spread (y ∷ ys) (l ∷ ls) s p h = by_test (is_unbounded y l) refl (second_spread ys ls s p) h
  where
    by_test : (b : Bool) → is_unbounded y l ≡ b → (unbounded ys ls ≡ Some p → IsSpread p (onto (own_second ys ls) s)) → (if b then Some (unsigned_abs y) else unbounded ys ls) ≡ Some p → IsSpread p (onto (own_second (y ∷ ys) (l ∷ ls)) s)
    by_test true e rest h =
        let P : ℕ → Type 0 = λ n. IsSpread n (plus (term y (range_of l)) (onto (own_second ys ls) s)) in
        subst P (same_some (unsigned_abs y) p h) (spread_term y l.from (onto (own_second ys ls) s) e)
    by_test false e rest h = plus_spread p (term y (range_of l)) (onto (own_second ys ls) s) (rest h)

-- the size of such a coefficient isn't 0
pub unbounded_some : (xs : List ℤ) (ls : List LoopRange) (p : ℕ) → unbounded xs ls ≡ Some p → 1 ≤ p
unbounded_some [] ls p h = absurd (none_some p h)
unbounded_some (x ∷ xs) [] p h = absurd (none_some p h)
unbounded_some (x ∷ xs) (l ∷ ls) p h = by_test (is_unbounded x l) refl (unbounded_some xs ls p) h
  where
    right : (a b : Bool) → (a && b) ≡ true → b ≡ true
    right true b e = e
    right false b e = absurd (no e)

    one_or_more : (n : ℕ) → (n ≡ 0 → ⊥) → 1 ≤ n
    one_or_more zero h = absurd (h refl)
    one_or_more (suc n) h = omega arith

    by_test : (b : Bool) → is_unbounded x l ≡ b → (unbounded xs ls ≡ Some p → 1 ≤ p) → (if b then Some (unsigned_abs x) else unbounded xs ls) ≡ Some p → 1 ≤ p
    by_test true e rest h =
        let P : ℕ → Type 0 = λ n. 1 ≤ n in
        subst P (same_some (unsigned_abs x) p h) (one_or_more (unsigned_abs x) (some_size (unsigned_abs x) (right _ _ e)))
    by_test false e rest h = rest h

same_test : (a b : ℕ) → (a ≡ 0 → b ≡ 0) → (b ≡ 0 → a ≡ 0) → (a == 0) ≡ (b == 0)
same_test a b g h = same_from_decides _ _ (Decides-eqb a 0) (Decides-like _ h g (Decides-eqb b 0))

-- a number is its quotient times what divides it
factor : (d p : ℕ) → d ∣ p → (q : ℕ) × (p ≡ q * d)
factor d p h = (p / d, sym (whole_part (p / d * d) (p % d) p (div-add-mod' p d) (mod-eq-zero_of_dvd d h)))
  where
    whole_part : (a b c : ℕ) → a + b ≡ c → b ≡ 0 → a ≡ c
    whole_part a b c e f = omega arith

-- what divides p divides a number where it divides that number less some p
multiple_by : (d p q : ℕ) (z y k : ℤ) → 1 ≤ p → p ≡ q * d → y ≡ z -ℤ (k *ℤ pos p) → is_multiple d z ≡ is_multiple d y
multiple_by zero p q z y k some e is = absurd (none e some)
  where
    none : p ≡ q * 0 → 1 ≤ p → ⊥
    none e h = omega (arith, e, h)
multiple_by (suc d) p q z y k some e is =
    same_test (unsigned_abs z % suc d) (unsigned_abs y % suc d)
    (λ rest. let (a, is_z) = quotient z (suc d) rest in times_it y (suc d) (omega arith) (a -ℤ (k *ℤ pos q)) (less a is_z))
    (λ rest. let (a, is_y) = quotient y (suc d) rest in times_it z (suc d) (omega arith) (a -ℤ ((pos 0 -ℤ k) *ℤ pos q)) (more a is_y))
  where
    -- p times k is d times something
    whole : (k : ℤ) → k *ℤ pos p ≡ (k *ℤ pos q) *ℤ pos (suc d)
    whole k = ap (λ n. k *ℤ pos n) e ∙ sym (mul_assoc_ℤ k (pos q) (pos (suc d)))

    less : (a : ℤ) → z ≡ a *ℤ pos (suc d) → y ≡ (a -ℤ (k *ℤ pos q)) *ℤ pos (suc d)
    less a is_z = joined _ _ _ _ is is_z (whole k) (sub-mul_ℤ a (k *ℤ pos q) (pos (suc d)))
      where
        joined : (kp ad kd whole : ℤ) → y ≡ z -ℤ kp → z ≡ ad → kp ≡ kd → whole ≡ ad -ℤ kd → y ≡ whole
        joined kp ad kd w f g h i = omega (arith, ints, f, g, h, i)

    more : (a : ℤ) → y ≡ a *ℤ pos (suc d) → z ≡ (a -ℤ ((pos 0 -ℤ k) *ℤ pos q)) *ℤ pos (suc d)
    more a is_y = joined _ _ _ _ _ is is_y (whole (pos 0 -ℤ k)) (sub-mul_ℤ a ((pos 0 -ℤ k) *ℤ pos q) (pos (suc d))) (turned k)
      where
        flat : pos 0 *ℤ pos p ≡ pos 0
        flat = omega (arith, ints)

        turned : (k : ℤ) → (pos 0 -ℤ k) *ℤ pos p ≡ pos 0 -ℤ (k *ℤ pos p)
        turned k = sub-mul_ℤ (pos 0) k (pos p) ∙ ap (λ v. v -ℤ (k *ℤ pos p)) flat

        joined : (kp ad nk nd whole : ℤ) → y ≡ z -ℤ kp → y ≡ ad → nk ≡ nd → whole ≡ ad -ℤ nd → nk ≡ pos 0 -ℤ kp → z ≡ whole
        joined kp ad nk nd w f g h i j = omega (arith, ints, f, g, h, i, j)

multiple_on : (d p : ℕ) (z y k : ℤ) → 1 ≤ p → d ∣ p → y ≡ z -ℤ (k *ℤ pos p) → is_multiple d z ≡ is_multiple d y
multiple_on d p z y k some divides is = let (q, e) = factor d p divides in multiple_by d p q z y k some e is

without_ends : (s : Sum) (z : ℤ) → s.least ≡ None → s.greatest ≡ None → may_be s z ≡ is_multiple s.divisor z
without_ends s z f g = by_parts s.divisor s.least s.greatest f g
  where
    and_true : (b : Bool) → (b && true) ≡ b
    and_true true = refl
    and_true false = refl

    by_parts : (d : ℕ) (low high : Option ℤ) → low ≡ None → high ≡ None → (is_multiple d z && (is_from low z && is_up_to high z)) ≡ is_multiple d z
    by_parts d low high f g =
        ap (λ k. is_multiple d z && (is_from k z && is_up_to high z)) f ∙ ap (λ k. is_multiple d z && (is_from None z && is_up_to k z)) g ∙ and_true (is_multiple d z)

-- so many steps more do the same
pub same_on : (p : ℕ) (s : Sum) (c step : ℤ) (t : ℕ) → 1 ≤ p → IsSpread p s → may_be s (neg_ℤ (c +ℤ (step *ℤ pos (t + p)))) ≡ may_be s (neg_ℤ (c +ℤ (step *ℤ pos t)))
same_on p s c step t some h =
    without_ends s _ h.least h.greatest
    ∙ sym (multiple_on s.divisor p (neg_ℤ (c +ℤ (step *ℤ pos t))) (neg_ℤ (c +ℤ (step *ℤ pos (t + p)))) step some h.divides (further step))
    ∙ sym (without_ends s _ h.least h.greatest)
  where
    further : (step : ℤ) → neg_ℤ (c +ℤ (step *ℤ pos (t + p))) ≡ neg_ℤ (c +ℤ (step *ℤ pos t)) -ℤ (step *ℤ pos p)
    further step = joined _ _ _ (distributed step)
      where
        distributed : (step : ℤ) → step *ℤ pos (t + p) ≡ (step *ℤ pos t) +ℤ (step *ℤ pos p)
        distributed step = omega (arith, ints)

        joined : (st sp both : ℤ) → both ≡ st +ℤ sp → neg_ℤ (c +ℤ both) ≡ neg_ℤ (c +ℤ st) -ℤ sp
        joined st sp both e = omega (arith, ints, e)
