-- Parts of a list.
use Rattle.std.proofs.Common.{◌≡◌, ℕ, ◌+◌, List, [], ◌∷◌, ◌++◌, length, get_or, append-nil, append_assoc, refl, sym, ap, ◌∙◌}
use Rattle.std.specs.Prelude.{slice_index_or}
use Rattle.std.proofs.lemmas.List.{length-append}
use Rattle.std.proofs.Math.Seq.{get_or-append_seam}
use Rattle.sp_typing.specs.Places.{Held}

pub held_left : {A : Type 0} (all : List A) (n : ℕ) (xs ys : List A) → Held all n (xs ++ ys) → Held all n xs
held_left all n xs ys h = record {
  before = h.before;
  after = ys ++ h.after;
  is = h.is ∙ ap (λ l. l ++ h.after) (sym (append_assoc h.before xs ys)) ∙ append_assoc (h.before ++ xs) ys h.after;
  count = h.count;
}

pub held_right : {A : Type 0} (all : List A) (n : ℕ) (xs ys : List A) → Held all n (xs ++ ys) → Held all (n + length xs) ys
held_right all n xs ys h = record {
  before = h.before ++ xs;
  after = h.after;
  is = h.is ∙ ap (λ l. l ++ h.after) (sym (append_assoc h.before xs ys));
  count = length-append h.before xs ∙ ap (λ k. k + length xs) h.count;
}

pub held_at : {A : Type 0} (all : List A) (n : ℕ) (x : A) (xs : List A) (d : A) → Held all n (x ∷ xs) → slice_index_or all n d ≡ x
held_at all n x xs d h =
    ap (λ l. get_or l n d) (h.is ∙ append_assoc h.before (x ∷ xs) h.after)
    ∙ ap (λ k. get_or (h.before ++ x ∷ (xs ++ h.after)) k d) (sym h.count)
    ∙ get_or-append_seam h.before x (xs ++ h.after) d

pub held_tail : {A : Type 0} (all : List A) (n : ℕ) (x : A) (xs : List A) → Held all n (x ∷ xs) → Held all (n + 1) xs
held_tail all n x xs h = held_right all n (x ∷ []) xs h

pub held_from : {A : Type 0} (all : List A) (n m : ℕ) (xs : List A) → n ≡ m → Held all n xs → Held all m xs
held_from all n m xs e h = record { before = h.before; after = h.after; is = h.is; count = h.count ∙ e }

pub held_whole : {A : Type 0} (xs : List A) → Held xs 0 xs
held_whole xs = record { before = []; after = []; is = sym (append-nil xs); count = refl }
