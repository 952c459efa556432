-- What stands where in a list of what operations give.
use Rattle.std.proofs.Common.{◌≡◌, ℕ, zero, suc, ◌+◌, ◌<◌, true, List, [], ◌∷◌, ◌++◌, length, map, Option, Some, None, refl, sym, ◌∙◌, ap, arith}
use Rattle.std.proofs.lemmas.Bool.{and_parts, and_from, true≢false}
use Rattle.std.proofs.lemmas.List.{append_assoc}
use Rattle.std.specs.Prelude.{slice_index, slice_index_or}
use Rattle.sp_words.specs.declared.types.Ty.{Ty}
use Rattle.sp_words.specs.declared.types.Ty.TheVariants.{Bit}
use Rattle.sp_core.specs.Around.{Around}
use Rattle.sp_core.specs.OperationRules.{is_operation_right, are_operations_right_after}
use Rattle.sp_core.specs.PlainCore.{PlainOp, PlainCore}
use Rattle.sp_lane_rules.proofs.UnrolledTypesAlike.{type_same}
use Rattle.sp_lane_rules.specs.UnrolledMeetings.{given_of}
use Rattle.sp_core.specs.Typed.{Given, given_type, is_given, gives, give_all}

pub append_none : {A : Type 0} (xs : List A) → xs ++ [] ≡ xs
append_none [] = refl
append_none (x ∷ xs) = ap (λ l. x ∷ l) (append_none xs)

pub given_append : (xs ys : List PlainOp) → given_of (xs ++ ys) ≡ given_of xs ++ given_of ys
given_append [] ys = refl
given_append (x ∷ xs) ys = ap (λ l. given_type x.kind x.ty ∷ l) (given_append xs ys)

pub given_length : (xs : List PlainOp) → length (given_of xs) ≡ length xs
given_length [] = refl
given_length (x ∷ xs) = ap suc (given_length xs)

-- at a place stands what gives this
abbrev pub Holds : Given → ℕ → Option Ty → Type 0
Holds g p e = (p < length g) × (slice_index_or g p None ≡ e)

pub holds_more : (g x : Given) (p : ℕ) (e : Option Ty) → Holds g p e → Holds (g ++ x) p e
holds_more [] x p e h = absurd (omega (arith, h.0))
holds_more (t ∷ g) x zero e h = (omega arith, h.1)
holds_more (t ∷ g) x (suc p) e h = let r = holds_more g x p e (omega (arith, h.0), h.1) in (omega (arith, r.0), r.1)

pub holds_end : (g : Given) (e : Option Ty) → Holds (g ++ e ∷ []) (length g) e
holds_end [] e = (omega arith, refl)
holds_end (t ∷ g) e = let r = holds_end g e in (omega (arith, r.0), r.1)

pub gives_more : (g x : Given) (p : ℕ) → gives g p Bit ≡ true → gives (g ++ x) p Bit ≡ true
gives_more [] x p e = absurd (true≢false (sym e))
gives_more (t ∷ g) x zero e = e
gives_more (t ∷ g) x (suc p) e = gives_more g x p e

-- at places stand what gives these, in order
abbrev pub Placed : Given → (places : List ℕ) → (earlier : Given) → Type 0
Placed g [] [] = Unit {0}
Placed g (p ∷ places) (e ∷ earlier) = Holds g p e × Placed g places earlier
Placed g [] (e ∷ earlier) = ⊥
Placed g (p ∷ places) [] = ⊥

pub placed_more : (g x : Given) (places : List ℕ) (earlier : Given) → Placed g places earlier → Placed (g ++ x) places earlier
placed_more g x [] [] h = tt
placed_more g x (p ∷ places) (e ∷ earlier) h = (holds_more g x p e h.0, placed_more g x places earlier h.1)
placed_more g x [] (e ∷ earlier) h = absurd h
placed_more g x (p ∷ places) [] h = absurd h

pub placed_end : (g : Given) (places : List ℕ) (earlier : Given) (p : ℕ) (e : Option Ty) → Placed g places earlier → Holds g p e → Placed g (places ++ p ∷ []) (earlier ++ e ∷ [])
placed_end g [] [] p e h k = (k, tt)
placed_end g (q ∷ places) (t ∷ earlier) p e h k = (h.0, placed_end g places earlier p e h.1 k)
placed_end g [] (t ∷ earlier) p e h k = absurd h
placed_end g (q ∷ places) [] p e h k = absurd h

pub placed_gives : (g : Given) (places : List ℕ) (earlier : Given) (k : ℕ) (ty : Ty) → Placed g places earlier → gives earlier k ty ≡ true → gives g (slice_index places k) ty ≡ true
placed_gives g [] [] k ty h e = absurd (true≢false (sym e))
placed_gives g (p ∷ places) (t ∷ earlier) zero ty h e = ap (λ o. is_given o ty) h.0.1 ∙ e
placed_gives g (p ∷ places) (t ∷ earlier) (suc k) ty h e = placed_gives g places earlier k ty h.1 e
placed_gives g [] (t ∷ earlier) k ty h e = absurd h
placed_gives g (p ∷ places) [] k ty h e = absurd h

pub placed_args : (g : Given) (places : List ℕ) (earlier : Given) (args : List ℕ) (types : List Ty) → Placed g places earlier → give_all earlier args types ≡ true → give_all g (map (slice_index places) args) types ≡ true
placed_args g places earlier [] [] h e = refl
placed_args g places earlier (a ∷ args) (ty ∷ types) h e =
    let b = and_parts (gives earlier a ty) (give_all earlier args types) e in
    and_from _ _ (placed_gives g places earlier a ty h b.0) (placed_args g places earlier args types h b.1)
placed_args g places earlier [] (ty ∷ types) h e = absurd (true≢false (sym e))
placed_args g places earlier (a ∷ args) [] h e = absurd (true≢false (sym e))

-- a list that is right after another one
module _ (core : PlainCore) (around : Around) where
  pub after_both : (g : Given) (xs ys : List PlainOp) → are_operations_right_after core around g xs ≡ true → are_operations_right_after core around (g ++ given_of xs) ys ≡ true → are_operations_right_after core around g (xs ++ ys) ≡ true
  after_both g [] ys a b = ap (λ l. are_operations_right_after core around l ys) (sym (append_none g)) ∙ b
  after_both g (x ∷ xs) ys a b =
      let c = and_parts (is_operation_right core around g x) (are_operations_right_after core around (g ++ given_type x.kind x.ty ∷ []) xs) a in
      and_from _ _ c.0 (after_both (g ++ given_type x.kind x.ty ∷ []) xs ys c.1 (ap (λ l. are_operations_right_after core around l ys) (append_assoc g (given_type x.kind x.ty ∷ []) (given_of xs)) ∙ b))

pub gives_kept : (g x : Given) (p : ℕ) (ty : Ty) → gives g p ty ≡ true → gives (g ++ x) p ty ≡ true
gives_kept [] x p ty e = absurd (true≢false (sym e))
gives_kept (t ∷ g) x zero ty e = e
gives_kept (t ∷ g) x (suc p) ty e = gives_kept g x p ty e

pub gives_end : (g : Given) (at : ℕ) (ty : Ty) → at ≡ length g → gives (g ++ Some ty ∷ []) at ty ≡ true
gives_end g at ty same = ap (λ n. gives (g ++ Some ty ∷ []) n ty) same ∙ ap (λ o. is_given o ty) (holds_end g (Some ty)).1 ∙ type_same ty

-- after as many as there are before
taken : (g x : Given) (k : ℕ) (ty : Ty) → gives (g ++ x) (length g + k) ty ≡ true → gives x k ty ≡ true
taken [] x k ty e = ap (λ n. gives x n ty) {x = k} {y = 0 + k} (omega arith) ∙ e
taken (t ∷ g) x k ty e = taken g x k ty (ap (λ n. gives (t ∷ g ++ x) n ty) {x = suc (length g + k)} {y = suc (length g) + k} (omega arith) ∙ e)

put : (h x : Given) (k : ℕ) (ty : Ty) → gives x k ty ≡ true → gives (h ++ x) (length h + k) ty ≡ true
put [] x k ty e = ap (λ n. gives x n ty) {x = 0 + k} {y = k} (omega arith) ∙ e
put (t ∷ h) x k ty e = ap (λ n. gives (t ∷ h ++ x) n ty) {x = suc (length h) + k} {y = suc (length h + k)} (omega arith) ∙ put h x k ty e

pub gives_past : (g h x : Given) (k : ℕ) (ty : Ty) → gives (g ++ x) (length g + k) ty ≡ true → gives (h ++ x) (length h + k) ty ≡ true
gives_past g h x k ty e = put h x k ty (taken g x k ty e)
