-- Sums over events: of lists end to end, of events moved, and of parts of each run.
use Rattle.std.proofs.Common.{◌≡◌, ℕ, zero, suc, ◌+◌, List, [], ◌∷◌, ◌++◌, flat_map, sum_by, refl, ◌∙◌, ap, arith}
use Rattle.std.proofs.lemmas.Grind.{flat_map-append}
use Rattle.std.proofs.lemmas.List.Sums.{sum_by-append}
use Rattle.sp_time.specs.Lists.{total}
use Rattle.sp_machine.specs.Stamps.{Stamped, later, moved}

-- events moved twice
pub later_later : (a b : ℕ) (es : List Stamped) → later a (later b es) ≡ later (a + b) es
later_later a b [] = refl
later_later a b (e ∷ es) = ap (λ c. record e { cycle = c } ∷ later a (later b es)) {x = a + (b + e.cycle)} {y = a + b + e.cycle} (omega arith) ∙ ap (λ rest. moved (a + b) e ∷ rest) (later_later a b es)

pub later_both : (a : ℕ) (es fs : List Stamped) → later a (es ++ fs) ≡ later a es ++ later a fs
later_both a [] fs = refl
later_both a (e ∷ es) fs = ap (λ rest. moved a e ∷ rest) (later_both a es fs)

pub total_same : (f g : ℕ → ℕ) → ((i : ℕ) → f i ≡ g i) → (n : ℕ) → total f n ≡ total g n
total_same f g h zero = refl
total_same f g h (suc n) = let a = total_same f g h n in let b = h n in omega (arith, a, b)

pub total_first : (f : ℕ → ℕ) (n : ℕ) → total f (suc n) ≡ f 0 + total (λ i. f (suc i)) n
total_first f zero = omega arith
total_first f (suc n) = let a = total_first f n in omega (arith, a)

pub total_none : (f : ℕ → ℕ) → ((i : ℕ) → f i ≡ 0) → (n : ℕ) → total f n ≡ 0
total_none f h zero = refl
total_none f h (suc n) = let a = total_none f h n in let b = h n in omega (arith, a, b)

pub total_sums : (f g : ℕ → ℕ) (n : ℕ) → total (λ i. f i + g i) n ≡ total f n + total g n
total_sums f g zero = refl
total_sums f g (suc n) = let a = total_sums f g n in omega (arith, a)

module _ {A : Type 0} (weigh : Stamped → ℕ) where
  -- the weights of what is listed for each of some runs
  pub parts_sum : (f g h : A → List Stamped) → ((x : A) → sum_by weigh (f x) ≡ sum_by weigh (g x) + sum_by weigh (h x)) → (xs : List A) → sum_by weigh (flat_map f xs) ≡ sum_by weigh (flat_map g xs) + sum_by weigh (flat_map h xs)
  parts_sum f g h same [] = refl
  parts_sum f g h same (x ∷ xs) =
      let a = same x in
      let b = parts_sum f g h same xs in
      let c = sum_by-append weigh (f x) (flat_map f xs) in
      let d = sum_by-append weigh (g x) (flat_map g xs) in
      let e = sum_by-append weigh (h x) (flat_map h xs) in
      omega (arith, a, b, c, d, e)

  -- of one list, and several others, for each
  pub total_sum : (f own : A → List Stamped) (g : ℕ → A → List Stamped) (n : ℕ) → ((x : A) → sum_by weigh (f x) ≡ sum_by weigh (own x) + total (λ i. sum_by weigh (g i x)) n) → (xs : List A)
      → sum_by weigh (flat_map f xs) ≡ sum_by weigh (flat_map own xs) + total (λ i. sum_by weigh (flat_map (g i) xs)) n
  total_sum f own g n same [] = let z = total_none (λ i. sum_by weigh (flat_map (g i) [])) (λ i. refl) n in omega (arith, z)
  total_sum f own g n same (x ∷ xs) =
      let a = same x in
      let b = total_sum f own g n same xs in
      let c = sum_by-append weigh (f x) (flat_map f xs) in
      let o = sum_by-append weigh (own x) (flat_map own xs) in
      let d = total_sums (λ i. sum_by weigh (g i x)) (λ i. sum_by weigh (flat_map (g i) xs)) n in
      let e = total_same (λ i. sum_by weigh (flat_map (g i) (x ∷ xs))) (λ i. sum_by weigh (g i x) + sum_by weigh (flat_map (g i) xs)) (λ i. sum_by-append weigh (g i x) (flat_map (g i) xs)) n in
      omega (arith, a, b, c, o, d, e)

-- lists for each part of each run
pub flat_flat : {A B C : Type 0} (f : B → List C) (g : A → List B) (xs : List A) → flat_map f (flat_map g xs) ≡ flat_map (λ x. flat_map f (g x)) xs
flat_flat f g [] = refl
flat_flat f g (x ∷ xs) = flat_map-append f (g x) (flat_map g xs) ∙ ap (λ rest. flat_map f (g x) ++ rest) (flat_flat f g xs)
