-- Two places of a memory that are one element have the same indices.
use Rattle.std.proofs.Common.{◌≡◌, ℕ, suc, ◌+◌, ◌*◌, ◌<◌, ◌≤◌, true, pos, List, [], ◌∷◌, map, inl, inr, refl, ap, ◌∙◌, arith}
use Rattle.std.proofs.Math.Nat.{suc-mul, mul-le-mul_right}
use Rattle.std.proofs.lemmas.Bool.{and_parts, cases_lt, ltb-true, false≢true}
use Rattle.sp_words.specs.Interface.{word_count}
use Rattle.sp_core.specs.Elements.{is_below, are_inside, row_major}

below : (i d w r : ℕ) → i < d → r < w → i * w + r < d * w
below i d w r l q = let a : suc i * w ≤ d * w = mul-le-mul_right w l in let b : suc i * w ≡ i * w + w = suc-mul i w in omega arith

place_below : (ds is : List ℕ) → are_inside ds (map pos is) ≡ true → row_major ds is < word_count ds
place_below [] [] h = omega arith
place_below [] (i ∷ is) h = absurd (false≢true h)
place_below (d ∷ ds) [] h = absurd (false≢true h)
place_below (d ∷ ds) (i ∷ is) h = let a = and_parts (is_below (pos i) d) (are_inside ds (map pos is)) h in below i d (word_count ds) (row_major ds is) (ltb-true i d a.0) (place_below ds is a.1)

-- a number has one row and one place in it
earlier_row : (i j w r q : ℕ) → i < j → r < w → i * w + r < j * w + q
earlier_row i j w r q l h = let a : suc i * w ≤ j * w = mul-le-mul_right w l in let b : suc i * w ≡ i * w + w = suc-mul i w in omega (arith, a, b, h)

one_row : (i j w r q : ℕ) → r < w → q < w → i * w + r ≡ j * w + q → (i ≡ j) × (r ≡ q)
one_row i j w r q h k e = elim (cases_lt i j) [
  | inl l ↦ absurd (let a = earlier_row i j w r q l h in omega (arith, a, e))
  | inr l ↦ elim (cases_lt j i) [
    | inl m ↦ absurd (let a = earlier_row j i w q r m k in omega (arith, a, e))
    | inr m ↦ let same : i ≡ j = omega (arith, l, m) in (same, rest (i * w) (j * w) r q (ap (λ k. k * w) same) e)
  ]
]
  where
    rest : (a b r q : ℕ) → a ≡ b → a + r ≡ b + q → r ≡ q
    rest a b r q f e = omega (arith, f, e)

pub same_indices : (ds is js : List ℕ) → are_inside ds (map pos is) ≡ true → are_inside ds (map pos js) ≡ true → row_major ds is ≡ row_major ds js → is ≡ js
same_indices [] [] [] h k e = refl
same_indices [] [] (j ∷ js) h k e = absurd (false≢true k)
same_indices [] (i ∷ is) js h k e = absurd (false≢true h)
same_indices (d ∷ ds) [] js h k e = absurd (false≢true h)
same_indices (d ∷ ds) (i ∷ is) [] h k e = absurd (false≢true k)
same_indices (d ∷ ds) (i ∷ is) (j ∷ js) h k e =
    let a = and_parts (is_below (pos i) d) (are_inside ds (map pos is)) h in
    let b = and_parts (is_below (pos j) d) (are_inside ds (map pos js)) k in
    let both = one_row i j (word_count ds) (row_major ds is) (row_major ds js) (place_below ds is a.1) (place_below ds js b.1) e in
    ap (λ x. x ∷ is) both.0 ∙ ap (λ xs. j ∷ xs) (same_indices ds is js a.1 b.1 both.1)
