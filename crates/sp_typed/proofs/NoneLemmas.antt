-- What holds where there are no refusals.
use Rattle.std.proofs.Common.{◌≡◌, ℕ, Bool, true, false, cond, not, List, [], ◌∷◌, ◌++◌, length, Option, Some, None, refl, ◌≤◌, arith}
use Rattle.std.proofs.lemmas.Bool.{eqb-true}
use Rattle.sp_reader.specs.PlainTree.{PlainIdent}
use Rattle.sp_types.specs.declared.refusal.Refusal.{Refusal}
use Rattle.sp_types.specs.First.{note, notes, one_if, precedes}
use Rattle.sp_types.specs.Spans.{names_for_counters}

pub both_none : {A : Type 0} (xs ys : List A) → xs ++ ys ≡ [] → (xs ≡ []) × (ys ≡ [])
both_none [] ys e = (refl, e)
both_none (x ∷ xs) ys e = absurd (cc)

pub three_none : {A : Type 0} (xs ys zs : List A) → xs ++ ys ++ zs ≡ [] → (xs ≡ []) × (ys ≡ []) × (zs ≡ [])
three_none xs ys zs e =
    let f = both_none (xs ++ ys) zs e in
    let g = both_none xs ys f.0 in
    (g.0, g.1, f.1)

pub four_none : {A : Type 0} (xs ys zs ws : List A) → xs ++ ys ++ zs ++ ws ≡ [] → (xs ≡ []) × (ys ≡ []) × (zs ≡ []) × (ws ≡ [])
four_none xs ys zs ws e =
    let f = both_none (xs ++ ys ++ zs) ws e in
    let g = three_none xs ys zs f.0 in
    (g.0, g.1, g.2, f.1)

pub not_noted : (b : Bool) (r : Refusal) → one_if b r ≡ [] → b ≡ false
not_noted true r e = absurd (cc)
not_noted false r e = refl

pub was_true : (b : Bool) → not b ≡ false → b ≡ true
was_true true e = refl
was_true false e = absurd (cc)

some_note : (b : Bool) (first r : Refusal) → cond b (Some r) (Some first) ≡ None → ⊥
some_note true first r e = cc
some_note false first r e = cc

still_some : (first : Option Refusal) (rs : List Refusal) → (first ≡ None → ⊥) → notes first rs ≡ None → ⊥
unfolding notes note
still_some first [] h e = h e
still_some None (r ∷ rs) h e = h refl
still_some (Some first) (r ∷ rs) h e = still_some (note (Some first) r) rs (some_note (precedes r first) first r) e

some_is : (r : Refusal) → Some r ≡ None → ⊥
some_is r e = cc

-- without a first refusal there is none
pub none_first : (rs : List Refusal) → notes None rs ≡ None → rs ≡ []
unfolding notes note
none_first [] e = refl
none_first (r ∷ rs) e = absurd (still_some (Some r) rs (some_is r) e)

-- as many names as counters
pub as_many : (want : ℕ) (binds : List PlainIdent) → 1 ≤ length binds → names_for_counters want binds ≡ [] → want ≡ length binds
as_many want [] h e = absurd (omega arith)
as_many want (i ∷ rest) h e = eqb-true want (length (i ∷ rest)) (was_true _ (not_noted _ _ e))
