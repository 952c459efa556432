-- Lists to which an element is pushed, and then others.
use Rattle.std.proofs.Common.{◌≡◌, ◌∙◌, ℕ, zero, suc, ◌-◌, pos, List, [], ◌∷◌, ◌++◌, replicate, refl, ap, sym, arith}
use Rattle.std.specs.Prelude.{Result, OnOk, None}
use Rattle.std.proofs.lemmas.List.{append_assoc}
use Rattle.std.proofs.lemmas.Result.{on_ok_weaker}
use Rattle.sp_affine.specs.Affine.{Affine}
use Rattle.sp_meets.specs.Sites.{unit, counter_indices}

pub pushed : {A : Type 0} {T E : Type 0} (r : Result T E) (new mid old : List A) (x : A) (xs whole : List A) → mid ≡ old ++ x ∷ [] → whole ≡ x ∷ xs → OnOk r (new ≡ mid ++ xs) → OnOk r (new ≡ old ++ whole)
pushed r new mid old x xs whole e f =
    on_ok_weaker r (λ h. h ∙ ap (λ l. l ++ xs) e ∙ append_assoc old (x ∷ []) xs ∙ ap (λ l. old ++ l) (sym f))

before : (n : ℕ) → suc n - 1 ≡ n
before n = omega arith

pub zeros : (n : ℕ) → (n ≡ 0 → ⊥) → replicate n (pos 0) ≡ pos 0 ∷ replicate (n - 1) (pos 0)
zeros zero some = absurd (some refl)
zeros (suc n) some = ap (λ k. pos 0 ∷ replicate k (pos 0)) (sym (before n))

pub first_unit : (n i : ℕ) → (n ≡ 0 → ⊥) → i ≡ 0 → unit n i ≡ pos 1 ∷ replicate (n - 1) (pos 0)
first_unit zero i some is = absurd (some refl)
first_unit (suc n) i some is = ap (unit (suc n)) is ∙ ap (λ k. pos 1 ∷ replicate k (pos 0)) (sym (before n))

pub later_unit : (n i : ℕ) → (n ≡ 0 → ⊥) → (i ≡ 0 → ⊥) → unit n i ≡ pos 0 ∷ unit (n - 1) (i - 1)
later_unit zero i some is = absurd (some refl)
later_unit (suc n) zero some is = absurd (is refl)
later_unit (suc n) (suc i) some is = ap (λ k. pos 0 ∷ unit k i) (sym (before n)) ∙ ap (λ k. pos 0 ∷ unit (suc n - 1) k) (sym (before i))

abbrev pub counter_form : (around n last : ℕ) → Affine
counter_form around n last = record { coefs = replicate around (pos 0) ++ unit n (n - last); constant = pos 0; symbol = None }

pub next_counter : (around n last : ℕ) → (last ≡ 0 → ⊥) → counter_indices around n last ≡ counter_form around n last ∷ counter_indices around n (last - 1)
next_counter around n zero some = absurd (some refl)
next_counter around n (suc last) some = ap (λ k. counter_form around n (suc last) ∷ counter_indices around n k) (sym (before last))
