-- How many of the first elements pass a test, one after the other.
use Rattle.std.proofs.Common.{◌≡◌, ◌<◌, ◌+◌, ℕ, Bool, true, false, if◌then◌else◌, List, map, length, take, get_or, refl, sym, subst, ◌∙◌, ap, add-zero}
use Rattle.std.specs.List.{count_by}
use Rattle.std.proofs.lemmas.List.{get_or-map, length-map}
use Rattle.std.proofs.lemmas.List.Sums.{count_by_more_no, count_by_more_yes}

by_test : {B : Type 0} (p : B → Bool) (ys : List B) (i : ℕ) (y : B) → i < length ys → get_or ys i y ≡ y → (b : Bool) → p y ≡ b
    → count_by p (take (i + 1) ys) ≡ count_by p (take i ys) + (if b then 1 else 0)
by_test p ys i y l at true h = count_by_more_yes p ys i y l (ap p at ∙ h)
by_test p ys i y l at false h = count_by_more_no p ys i y l (ap p at ∙ h) ∙ sym (add-zero _)

pub one_more : {A B : Type 0} (p : B → Bool) (f : A → B) (xs : List A) (i : ℕ) (x : A) → i < length xs → x ≡ get_or xs i x
    → count_by p (take (i + 1) (map f xs)) ≡ count_by p (take i (map f xs)) + (if p (f x) then 1 else 0)
one_more p f xs i x l e =
    let P : ℕ → Type 0 = λ n. i < n in
    by_test p (map f xs) i (f x) (subst P (sym (length-map xs f)) l) (get_or-map f xs i x (f x) l ∙ ap f (sym e)) (p (f x)) refl
