-- Sums over lanes, and which copies stand in a row.
use Rattle.std.proofs.Common.{◌≡◌, ℕ, zero, suc, ◌+◌, ◌*◌, ◌<◌, ◌≤◌, List, [], ◌∷◌, ◌++◌, refl, sym, ◌∙◌, ap, arith, ◌⊎◌, inl, inr, ◌==◌}
use Rattle.std.proofs.lemmas.Bool.{ne_eqb}
use Rattle.std.proofs.lemmas.Bool.Decides.{eqb_tells}
use Rattle.std.specs.Prelude.{flat_map}
use Rattle.sp_core.specs.Elements.{numbers_below}
use Rattle.sp_lane_rules.specs.Copies.{one_if, occurrences}
use Rattle.sp_lane_rules.proofs.CopiesCounts.{count_append}

-- the sum of a function's values below a number
abbrev pub total : (ℕ → ℕ) → ℕ → ℕ
total f zero = 0
total f (suc n) = total f n + f n

pub total_same : (f g : ℕ → ℕ) (n : ℕ) → ((l : ℕ) → l < n → f l ≡ g l) → total f n ≡ total g n
total_same f g zero h = refl
total_same f g (suc n) h = omega (arith, total_same f g n (λ l lt. h l (omega arith)), h n (omega arith))

pub total_none : (f : ℕ → ℕ) (n : ℕ) → ((l : ℕ) → l < n → f l ≡ 0) → total f n ≡ 0
total_none f zero h = refl
total_none f (suc n) h = omega (arith, total_none f n (λ l lt. h l (omega arith)), h n (omega arith))

flat_append : {A : Type 0} (f : A → List ℕ) (i : ℕ) (xs ys : List A) → occurrences i (flat_map f (xs ++ ys)) ≡ occurrences i (flat_map f xs) + occurrences i (flat_map f ys)
flat_append f i [] ys = omega arith
flat_append f i (x ∷ xs) ys = omega (arith, count_append i (f x) (flat_map f (xs ++ ys)), count_append i (f x) (flat_map f xs), flat_append f i xs ys)

-- what stands in lists of lanes
pub count_lanes : (f : ℕ → List ℕ) (i n : ℕ) → occurrences i (flat_map f (numbers_below n)) ≡ total (λ l. occurrences i (f l)) n
count_lanes f i zero = refl
count_lanes f i (suc n) = omega (arith, flat_append f i (numbers_below n) (n ∷ []), count_append i (f n) [], count_lanes f i n)

-- whether a number is one of so many from another one on
abbrev pub span : (a n k : ℕ) → ℕ
span a zero k = 0
span a (suc n) k = span a n k + one_if ((a + n) == k)

pub span_append : (a n m k : ℕ) → span a (n + m) k ≡ span a n k + span (a + n) m k
span_append a n zero k = ap (λ x. span a x k) {x = n + zero} {y = n} (omega arith) ∙ omega arith
span_append a n (suc m) k =
    ap (λ x. span a x k) {x = n + suc m} {y = suc (n + m)} (omega arith)
    ∙ (let e : one_if ((a + (n + m)) == k) ≡ one_if ((a + n + m) == k) = ap (λ x. one_if (x == k)) {x = a + (n + m)} {y = a + n + m} (omega arith) in omega (arith, e, span_append a n m k))

pub span_out : (a n k : ℕ) → a + n ≤ k → span a n k ≡ 0
span_out a zero k le = refl
span_out a (suc n) k le = let e : one_if ((a + n) == k) ≡ 0 = ap one_if (ne_eqb (a + n) k (λ e. absurd (omega (arith, e)))) in omega (arith, e, span_out a n k (omega arith))

pub span_in : (n k : ℕ) → k < n → span 0 n k ≡ 1
span_in zero k lt = absurd (omega arith)
span_in (suc n) k lt = elim (eqb_tells (0 + n) k) [
  | inl same ↦ let e : one_if ((0 + n) == k) ≡ 1 = ap one_if same.0 in omega (arith, e, span_out 0 n k (omega (arith, same.1)))
  | inr apart ↦ let e : one_if ((0 + n) == k) ≡ 0 = ap one_if apart.0 in omega (arith, e, span_in n k (less n k lt apart.1))
]
  where
    less : (n k : ℕ) → k < suc n → (0 + n ≡ k → ⊥) → k < n
    less n k lt ne = omega (arith, ne)

-- rows of one length each stand in one row
pub total_spans : (base s k n : ℕ) → total (λ l. span (base + l * s) s k) n ≡ span base (n * s) k
total_spans base s k zero = sym (ap (λ x. span base x k) {x = zero * s} {y = 0} (omega arith))
total_spans base s k (suc n) =
    ap (λ x. x + span (base + n * s) s k) (total_spans base s k n) ∙ sym (span_append base (n * s) s k)
    ∙ ap (λ x. span base x k) {x = n * s + s} {y = suc n * s} (omega arith)

-- and so do single ones
pub total_ones : (base k n : ℕ) → total (λ l. one_if ((base + l) == k)) n ≡ span base n k
total_ones base k zero = refl
total_ones base k (suc n) = ap (λ x. x + one_if ((base + n) == k)) (total_ones base k n)

-- of two rows one is empty
pub span_either : (c a b k : ℕ) → (a ≡ 0) ⊎ (b ≡ 0) → span (c * a) a k + span (c * b) b k ≡ span (c * (a + b)) (a + b) k
span_either c a b k (inl e) = ap (λ x. span (c * x) x k + span (c * b) b k) e ∙ omega arith ∙ ap (λ x. span (c * x) x k) {x = b} {y = 0 + b} (omega arith) ∙ sym (ap (λ x. span (c * (x + b)) (x + b) k) e)
span_either c a b k (inr e) = ap (λ x. span (c * a) a k + span (c * x) x k) e ∙ omega arith ∙ ap (λ x. span (c * x) x k) {x = a} {y = a + 0} (omega arith) ∙ sym (ap (λ x. span (c * (a + x)) (a + x) k) e)
