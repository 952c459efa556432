-- Places of accesses are counts.
use Rattle.std.proofs.Common.{◌≡◌, ℕ, zero, suc, ◌+◌, ◌-◌, ◌<◌, ◌≤◌, Bool, true, false, inl, inr, List, [], ◌∷◌, length, min, take, arith, refl, sym, ap, ◌∙◌}
use Rattle.std.proofs.lemmas.Bool.{cases_lt}
use Rattle.std.specs.Prelude.{slice_index_or}
use Rattle.sp_core.specs.Numbered.{Numbered, plain, accesses, transfers, access_count}
use Rattle.sp_schemes.specs.Places.{marks, counts_from}

pub many : (count : ℕ) (bs : List Bool) → length (counts_from count bs) ≡ suc (length bs)
many count [] = refl
many count (true ∷ bs) = ap suc (many (count + 1) bs)
many count (false ∷ bs) = ap suc (many count bs)

pub marked : (xs : List Numbered) → length (marks xs) ≡ length xs
marked [] = refl
marked (x ∷ xs) = ap suc (marked xs)

-- at a number, and past the last one
counted_at : (count : ℕ) (xs : List Numbered) (n : ℕ) → n ≤ length xs → slice_index_or (counts_from count (marks xs)) n 0 ≡ count + access_count (take n xs)
counted_at count [] zero l = omega arith
counted_at count [] (suc n) l = absurd (omega (arith, l))
counted_at count (x ∷ xs) zero l = omega arith
counted_at count (plain ∷ xs) (suc n) l = counted_at count xs n (omega (arith, l))
counted_at count (accesses ∷ xs) (suc n) l = let h = counted_at (count + 1) xs n (omega (arith, l)) in omega (arith, h)
counted_at count (transfers r ∷ xs) (suc n) l = let h = counted_at (count + 1) xs n (omega (arith, l)) in omega (arith, h)

all_taken : (xs : List Numbered) (n : ℕ) → length xs ≤ n → take n xs ≡ take (length xs) xs
all_taken [] zero l = refl
all_taken [] (suc n) l = refl
all_taken (x ∷ xs) zero l = absurd (omega (arith, l))
all_taken (x ∷ xs) (suc n) l = ap (λ t. x ∷ t) (all_taken xs n (omega (arith, l)))

pub counted : (count : ℕ) (xs : List Numbered) (n k : ℕ) → k ≡ min n (length xs) → slice_index_or (counts_from count (marks xs)) k 0 ≡ count + access_count (take n xs)
counted count xs n k e = elim (cases_lt n (length xs)) [
  | inl l ↦ ap (λ i. slice_index_or (counts_from count (marks xs)) i 0) (let q : k ≡ n = omega (arith, e, l) in q) ∙ counted_at count xs n (omega (arith, l))
  | inr l ↦
      ap (λ i. slice_index_or (counts_from count (marks xs)) i 0) (let q : k ≡ length xs = omega (arith, e, l) in q)
      ∙ counted_at count xs (length xs) (omega arith) ∙ ap (λ t. count + access_count t) (sym (all_taken xs n l))
]

-- in all, from none on
pub counted_before : (xs : List Numbered) (n k : ℕ) → k ≡ min n (length xs) → slice_index_or (counts_from 0 (marks xs)) k 0 ≡ access_count (take n xs)
counted_before xs n k e = counted 0 xs n k e ∙ from_none (access_count (take n xs))
  where
    from_none : (x : ℕ) → 0 + x ≡ x
    from_none x = omega arith
