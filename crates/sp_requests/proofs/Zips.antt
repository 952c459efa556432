-- Two lists, element by element.
use Rattle.std.proofs.Common.{◌≡◌, ℕ, zero, suc, ◌+◌, ◌<◌, List, [], ◌∷◌, ◌++◌, length, take, slice_index_or, sym, ap, subst, ◌∙◌, arith}
use Rattle.std.specs.List.{AllZip}
use Rattle.std.proofs.lemmas.List.{take_more}
use Rattle.std.proofs.lemmas.Slice.Zip.{all_zipped_more}

module _ {A B : Type 0} (R : A → B → Type 0) where
  pub zip_at : (xs : List A) (ys : List B) (k : ℕ) (d : A) (e : B) → AllZip R xs ys → k < length xs → R (slice_index_or xs k d) (slice_index_or ys k e)
  zip_at [] ys k d e h l = absurd (omega (arith, l))
  zip_at (x ∷ xs) [] k d e h l = absurd h
  zip_at (x ∷ xs) (y ∷ ys) zero d e h l = h.0
  zip_at (x ∷ xs) (y ∷ ys) (suc k) d e h l = zip_at xs ys k d e h.1 (omega (arith, l))

  pub zip_long : (xs : List A) (ys : List B) → AllZip R xs ys → length ys ≡ length xs
  zip_long [] [] h = omega arith
  zip_long [] (y ∷ ys) h = absurd h
  zip_long (x ∷ xs) [] h = absurd h
  zip_long (x ∷ xs) (y ∷ ys) h = let e = zip_long xs ys h.1 in omega (arith, e)

  -- one more of each
  pub zip_more : (xs : List A) (ys : List B) (i : ℕ) (x : A) (y : B) → i < length xs → x ≡ slice_index_or xs i x → AllZip R (take i xs) ys → R x y → AllZip R (take (i + 1) xs) (ys ++ y ∷ [])
  zip_more xs ys i x y l e h r =
      subst (λ zs. AllZip R zs (ys ++ y ∷ [])) (sym (take_more xs i x l ∙ ap (λ z. take i xs ++ z ∷ []) (sym e))) (all_zipped_more R (take i xs) ys x y h r)

pub zip_kept : {A B : Type 0} (R S : A → B → Type 0) (xs : List A) (ys : List B) → ((x : A) (y : B) → R x y → S x y) → AllZip R xs ys → AllZip S xs ys
zip_kept R S [] [] f h = h
zip_kept R S [] (y ∷ ys) f h = absurd h
zip_kept R S (x ∷ xs) [] f h = absurd h
zip_kept R S (x ∷ xs) (y ∷ ys) f h = (f x y h.0, zip_kept R S xs ys f h.1)
