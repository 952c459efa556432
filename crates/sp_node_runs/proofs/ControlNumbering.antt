-- Laws of each of a list by its number.
use Rattle.std.proofs.Common.{◌≡◌, ℕ, suc, ◌+◌, ◌<◌, List, [], ◌∷◌, map, length, slice_index_or, ◌∙◌, ap, arith}
use Rattle.sp_part_runs.specs.SequencesChains.{Numbered}

pub numbered_map : {A : Type 0} (P Q : ℕ → A → Type 0) (n : ℕ) (xs : List A) → ((i : ℕ) (x : A) → i < n + length xs → P i x → Q i x) → Numbered P n xs → Numbered Q n xs
numbered_map P Q n [] step h = tt
numbered_map P Q n (x ∷ xs) step h = (step n x (omega arith) h.0, numbered_map P Q (suc n) xs (λ i y l. step i y (omega (arith, l))) h.1)

-- where the list goes along with another one
pub numbered_with : {A B C : Type 0} (P Q : ℕ → A → Type 0) (f : A → C) (g : B → C) (at : ℕ → B) (d : B) (n : ℕ) (xs : List A) (ys : List B) → map f xs ≡ map g ys → ((j : ℕ) → j < length ys → slice_index_or ys j d ≡ at (n + j))
    → ((i : ℕ) (x : A) → i < n + length ys → f x ≡ g (at i) → P i x → Q i x) → Numbered P n xs → Numbered Q n xs
numbered_with P Q f g at d n [] ys e same step h = tt
numbered_with P Q f g at d n (x ∷ xs) [] e same step h = let z : f x ∷ map f xs ≡ [] = e in absurd (cc)
numbered_with P Q f g at d n (x ∷ xs) (y ∷ ys) e same step h =
    let first : f x ≡ g y = cc in
    let more : map f xs ≡ map g ys = cc in (
      step n x (omega arith) (first ∙ ap g (same 0 (omega arith) ∙ ap at {x = n + 0} {y = n} (omega arith))) h.0,
      numbered_with P Q f g at d (suc n) xs ys more (λ j l. same (suc j) (omega (arith, l)) ∙ ap at {x = n + suc j} {y = suc n + j} (omega arith)) (λ i z l. step i z (omega (arith, l))) h.1,
    )
