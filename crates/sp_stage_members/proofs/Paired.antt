-- Two lists side by side.
use Rattle.std.proofs.Common.{◌≡◌, ℕ, suc, ◌+◌, ◌<◌, refl, sym, ap, ap₂, subst, arith, List, [], ◌∷◌, ◌++◌, length, map}
use Rattle.std.specs.Prelude.{slice_index_or}
use Rattle.sp_part_runs.specs.SequencesChains.{Numbered}
use Rattle.sp_stage_members.specs.Members.{Paired}

-- one more at the end
pub paired_more : {A B : Type 0} (P : ℕ → A → B → Type 0) (n : ℕ) (xs : List A) (ys : List B) (x : A) (y : B) → Paired P n xs ys → P (n + length xs) x y → Paired P n (xs ++ x ∷ []) (ys ++ y ∷ [])
paired_more P n [] [] x y h p = (subst (λ k. P k x y) (let e : n + 0 ≡ n = omega arith in e) p, tt)
paired_more P n [] (z ∷ ys) x y h p = absurd h
paired_more P n (z ∷ xs) [] x y h p = absurd h
paired_more P n (z ∷ xs) (w ∷ ys) x y h p = (h.0, paired_more P (suc n) xs ys x y h.1 (subst (λ k. P k x y) (let e : n + suc (length xs) ≡ suc n + length xs = omega arith in e) p))

pub paired_each : {A B : Type 0} (P Q : ℕ → A → B → Type 0) → ((n : ℕ) (x : A) (y : B) → P n x y → Q n x y) → (n : ℕ) (xs : List A) (ys : List B) → Paired P n xs ys → Paired Q n xs ys
paired_each P Q f n [] [] h = tt
paired_each P Q f n [] (y ∷ ys) h = absurd h
paired_each P Q f n (x ∷ xs) [] h = absurd h
paired_each P Q f n (x ∷ xs) (y ∷ ys) h = (f n x y h.0, paired_each P Q f (suc n) xs ys h.1)

-- what is the same of both in each place makes one list
pub paired_map : {A B C : Type 0} (f : A → C) (g : B → C) (P : ℕ → A → B → Type 0) → ((n : ℕ) (x : A) (y : B) → P n x y → g y ≡ f x) → (n : ℕ) (xs : List A) (ys : List B) → Paired P n xs ys → map g ys ≡ map f xs
paired_map f g P e n [] [] h = refl
paired_map f g P e n [] (y ∷ ys) h = absurd h
paired_map f g P e n (x ∷ xs) [] h = absurd h
paired_map f g P e n (x ∷ xs) (y ∷ ys) h = ap₂ (λ z zs. z ∷ zs) (e n x y h.0) (paired_map f g P e (suc n) xs ys h.1)

pub paired_length : {A B : Type 0} (P : ℕ → A → B → Type 0) (n : ℕ) (xs : List A) (ys : List B) → Paired P n xs ys → length ys ≡ length xs
paired_length P n [] [] h = refl
paired_length P n [] (y ∷ ys) h = absurd h
paired_length P n (x ∷ xs) [] h = absurd h
paired_length P n (x ∷ xs) (y ∷ ys) h = ap suc (paired_length P (suc n) xs ys h.1)

-- by number, with the element of the first list at that number
pub paired_numbered : {A B : Type 0} (P : ℕ → A → B → Type 0) (Q : ℕ → B → Type 0) (d : A) (n : ℕ) (xs : List A) (ys : List B) → ((i : ℕ) (y : B) → i < length xs → P (n + i) (slice_index_or xs i d) y → Q (n + i) y) → Paired P n xs ys
    → Numbered Q n ys
paired_numbered P Q d n [] [] f h = tt
paired_numbered P Q d n [] (y ∷ ys) f h = absurd h
paired_numbered P Q d n (x ∷ xs) [] f h = absurd h
paired_numbered P Q d n (x ∷ xs) (y ∷ ys) f h =
    let z : n + 0 ≡ n = omega arith in (
      subst (λ k. Q k y) z (f 0 y (omega arith) (subst (λ k. P k x y) (sym z) h.0)),
      paired_numbered P Q d (suc n) xs ys
          (λ i w l p. (let e : n + suc i ≡ suc n + i = omega arith in subst (λ k. Q k w) e (f (suc i) w (omega (arith, l)) (subst (λ k. P k (slice_index_or xs i d) w) (sym e) p)))) h.1,
    )
