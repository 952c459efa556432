-- Lists by their first elements.
use Rattle.std.proofs.Common.{◌≡◌, ℕ, ◌-◌, ◌≤◌, List, [], ◌∷◌, length, take, drop, refl, get_or, sym, ap, ap₂, arith}
use Rattle.std.specs.Prelude.{slice_index_or}
use Rattle.std.proofs.lemmas.List.{take_all}

module _ {X : Type 0} where
  pub first_and_rest : (xs : List X) (x : X) → 1 ≤ length xs → x ≡ slice_index_or xs 0 x → xs ≡ x ∷ take (length xs - 1) (drop 1 xs)
  first_and_rest [] x l e = absurd (omega (arith, l))
  first_and_rest (y ∷ ys) x l e = ap₂ (λ z zs. z ∷ zs) (sym e) (sym (take_all (length (y ∷ ys) - 1) ys (omega arith)))

  pub empty : (xs : List X) → length xs ≡ 0 → xs ≡ []
  empty [] e = refl
  empty (x ∷ xs) e = absurd (omega (arith, e))

pub number_and_rest : (xs : List ℕ) → 1 ≤ length xs → xs ≡ get_or xs 0 0 ∷ take (length xs - 1) (drop 1 xs)
number_and_rest [] l = absurd (omega (arith, l))
number_and_rest (y ∷ ys) l = ap (λ zs. y ∷ zs) (sym (take_all (length (y ∷ ys) - 1) ys (omega arith)))
