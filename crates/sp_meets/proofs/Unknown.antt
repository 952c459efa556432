-- Numbers of steps that aren't known pass 64 bits.
use Rattle.std.proofs.Common.{◌≡◌, ℕ, ◌+◌, ◌^◌, ◌≤◌, Bool, true, false, not, ◌&&◌, ℤ, List, [], ◌∷◌, refl, ap, sym, ◌∙◌, arith, unsigned_abs}
use Rattle.std.specs.Prelude.{◌==◌, Option, Some, None, is_none, if◌then◌else◌}
use Rattle.sp_deps.specs.declared.access.LoopRange.{LoopRange}
use Rattle.sp_deps.specs.Classes.{of_own}
use Rattle.sp_meets.specs.declared.steps.Tries.TheVariants.{Unknown}
use Rattle.sp_meets.specs.Bits.{PassesBits}
use Rattle.sp_meets.specs.Reach.{part_reach, both_reach, reach, unbounded}
use Rattle.sp_meets.specs.Steps.{AreTriesBy}

-- where no counter without a known range counts, it is known how far own counters reach
pub bounded_reach : (xs : List ℤ) (ls : List LoopRange) → unbounded xs ls ≡ None → (n : ℕ) × (reach xs ls ≡ Some n)
bounded_reach [] ls e = (0, refl)
bounded_reach (x ∷ xs) [] e = (0, refl)
bounded_reach (x ∷ xs) (l ∷ ls) e = by l.from (unsigned_abs x == 0) refl refl e (λ f. bounded_reach xs ls f)
  where
    joined : (m : ℕ) → part_reach (unsigned_abs x) l.from ≡ Some m → (n : ℕ) × (reach xs ls ≡ Some n) → (n : ℕ) × (both_reach (part_reach (unsigned_abs x) l.from) (reach xs ls) ≡ Some n)
    joined m f (n, g) = (m + n, ap (λ u. both_reach u (reach xs ls)) f ∙ ap (both_reach (Some m)) g)

    some_none : (m : ℕ) → ◌≡◌ {A = Option ℕ} (Some m) None → ⊥
    some_none m f = cc

    by : (from : Option (ℤ × ℤ)) (zero : Bool) → l.from ≡ from → (unsigned_abs x == 0) ≡ zero → (if (is_none l.from && not (unsigned_abs x == 0)) then Some (unsigned_abs x) else unbounded xs ls) ≡ None
        → (unbounded xs ls ≡ None → (n : ℕ) × (reach xs ls ≡ Some n)) → (n : ℕ) × (both_reach (part_reach (unsigned_abs x) l.from) (reach xs ls) ≡ Some n)
    by (Some r) zero f g h rest =
        joined _ (ap (part_reach (unsigned_abs x)) f) (rest (sym (ap (λ (o : Option (ℤ × ℤ)). if (is_none o && not (unsigned_abs x == 0)) then Some (unsigned_abs x) else unbounded xs ls) f) ∙ h))
    by None true f g h rest =
        joined 0 (ap (part_reach (unsigned_abs x)) f ∙ ap (λ b. if b then Some 0 else None) g)
        (rest (sym (ap (λ (o : Option (ℤ × ℤ)). if (is_none o && not (unsigned_abs x == 0)) then Some (unsigned_abs x) else unbounded xs ls) f ∙ ap (λ b. if not b then Some (unsigned_abs x) else unbounded xs ls) g) ∙ h))
    by None false f g h rest =
        absurd (some_none (unsigned_abs x) (sym (ap (λ (o : Option (ℤ × ℤ)). if (is_none o && not (unsigned_abs x == 0)) then Some (unsigned_abs x) else unbounded xs ls) f ∙ ap (λ b. if not b then Some (unsigned_abs x) else unbounded xs ls) g) ∙ h))

module _ (common first second : List LoopRange) (xs ys : List ℤ) (start : ℕ) where
  pub first_unknown : unbounded (of_own common first xs) first ≡ None → unbounded (of_own common second ys) second ≡ None → ((n : ℕ) → reach (of_own common first xs) first ≡ Some n → 2 ^ 128 ≤ n) → AreTriesBy common first second xs ys start Unknown
  first_unknown e f far =
      let (p, h) = bounded_reach (of_own common first xs) first e in
      let (q, k) = bounded_reach (of_own common second ys) second f in
      let more : 2 ^ 128 ≤ p = far p h in
      (p, q, h, k, omega (arith, more))

  pub second_unknown : unbounded (of_own common first xs) first ≡ None → unbounded (of_own common second ys) second ≡ None → ((n : ℕ) → reach (of_own common second ys) second ≡ Some n → 2 ^ 128 ≤ n) → AreTriesBy common first second xs ys start Unknown
  second_unknown e f far =
      let (p, h) = bounded_reach (of_own common first xs) first e in
      let (q, k) = bounded_reach (of_own common second ys) second f in
      let more : 2 ^ 128 ≤ q = far q k in
      (p, q, h, k, omega (arith, more))

  pub steps_unknown : (p q : ℕ) → reach (of_own common first xs) first ≡ Some p → reach (of_own common second ys) second ≡ Some q → PassesBits (start + (p + q) + 1) → AreTriesBy common first second xs ys start Unknown
  steps_unknown p q h k more = (p, q, h, k, more)

-- so far does what comes to a sum
pub sum_first : (u v : Option ℕ) (most p : ℕ) → ((n : ℕ) → u ≡ Some n → most ≤ n) → both_reach u v ≡ Some p → most ≤ p
sum_first (Some a) (Some b) most p far e = let more = far a refl in at a b p more (some e)
  where
    some : {m n : ℕ} → Some m ≡ Some n → m ≡ n
    some e = cc

    at : (a b p : ℕ) → most ≤ a → a + b ≡ p → most ≤ p
    at a b p h e = omega (arith, h, e)
sum_first (Some a) None most p far e = absurd (none_some e)
  where
    none_some : ◌≡◌ {A = Option ℕ} None (Some p) → ⊥
    none_some f = cc
sum_first None v most p far e = absurd (none_some e)
  where
    none_some : ◌≡◌ {A = Option ℕ} None (Some p) → ⊥
    none_some f = cc

pub sum_second : (u v : Option ℕ) (most p : ℕ) → ((n : ℕ) → v ≡ Some n → most ≤ n) → both_reach u v ≡ Some p → most ≤ p
sum_second (Some a) (Some b) most p far e = let more = far b refl in at a b p more (some e)
  where
    some : {m n : ℕ} → Some m ≡ Some n → m ≡ n
    some e = cc

    at : (a b p : ℕ) → most ≤ b → a + b ≡ p → most ≤ p
    at a b p h e = omega (arith, h, e)
sum_second (Some a) None most p far e = absurd (none_some e)
  where
    none_some : ◌≡◌ {A = Option ℕ} None (Some p) → ⊥
    none_some f = cc
sum_second None v most p far e = absurd (none_some e)
  where
    none_some : ◌≡◌ {A = Option ℕ} None (Some p) → ⊥
    none_some f = cc
