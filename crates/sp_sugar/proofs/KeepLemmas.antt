-- Operations that keep the rules, one after the other.
use Rattle.std.proofs.Common.{◌≡◌, ℕ, zero, suc, ◌+◌, Bool, true, false, List, [], ◌∷◌, ◌++◌, Option, Some, None, refl, sym, ◌∙◌, ap, subst, arith, length-append, append_assoc}
use Rattle.std.proofs.lemmas.Bool.{false≢true, eq-eqb, and_parts, and_from}
use Rattle.std.specs.Prelude.{length}
use Rattle.sp_words.specs.declared.types.Ty.{Ty}
use Rattle.sp_words.specs.declared.types.Ty.TheVariants.{Fix, Bit}
use Rattle.sp_core.specs.declared.operation.OpKind.{OpKind}
use Rattle.sp_core.specs.Around.{Around}
use Rattle.sp_core.specs.OperationRules.{is_in_range, names_rightly, indices_of, is_operation_right, are_operations_right_after}
use Rattle.sp_core.specs.PlainCore.{PlainOp, PlainCore}
use Rattle.sp_core.specs.Typed.{is_same_flag, is_type, Given, given_type, taken_types, gives, give_all}
use Rattle.sp_sugar.specs.Rules.{given_by, Keep}

same_flag : (b : Bool) → is_same_flag b b ≡ true
same_flag true = refl
same_flag false = refl

pub type_is : (ty : Ty) → is_type ty ty ≡ true
type_is Bit = refl
type_is (Fix a) = and_from _ _ (same_flag a.signed) (and_from _ _ (eq-eqb a.whole a.whole refl) (eq-eqb a.frac a.frac refl))

pub gives_still : (earlier more : Given) (k : ℕ) (ty : Ty) → gives earlier k ty ≡ true → gives (earlier ++ more) k ty ≡ true
gives_still [] more k ty e = absurd (false≢true e)
gives_still (x ∷ earlier) more zero ty e = e
gives_still (x ∷ earlier) more (suc k) ty e = gives_still earlier more k ty e

pub give_still : (earlier more : Given) (ks : List ℕ) (ts : List Ty) → give_all earlier ks ts ≡ true → give_all (earlier ++ more) ks ts ≡ true
give_still earlier more [] [] e = refl
give_still earlier more [] (t ∷ ts) e = absurd (false≢true e)
give_still earlier more (k ∷ ks) [] e = absurd (false≢true e)
give_still earlier more (k ∷ ks) (t ∷ ts) e = let both = and_parts (gives earlier k t) (give_all earlier ks ts) e in and_from _ _ (gives_still earlier more k t both.0) (give_still earlier more ks ts both.1)

pub give_both : (earlier : Given) (ks ls : List ℕ) (ts us : List Ty) → give_all earlier ks ts ≡ true → give_all earlier ls us ≡ true → give_all earlier (ks ++ ls) (ts ++ us) ≡ true
give_both earlier [] ls [] us e f = f
give_both earlier [] ls (t ∷ ts) us e f = absurd (false≢true e)
give_both earlier (k ∷ ks) ls [] us e f = absurd (false≢true e)
give_both earlier (k ∷ ks) ls (t ∷ ts) us e f = let both = and_parts (gives earlier k t) (give_all earlier ks ts) e in and_from _ _ both.0 (give_both earlier ks ls ts us both.1 f)

pub given_append : (xs ys : List PlainOp) → given_by (xs ++ ys) ≡ given_by xs ++ given_by ys
given_append [] ys = refl
given_append (x ∷ xs) ys = ap (λ z. given_type x.kind x.ty ∷ z) (given_append xs ys)

pub given_length : (xs : List PlainOp) → length (given_by xs) ≡ length xs
given_length [] = refl
given_length (x ∷ xs) = ap suc (given_length xs)

gives_last : (earlier : Given) (t : Ty) → gives (earlier ++ Some t ∷ []) (length earlier) t ≡ true
gives_last [] t = type_is t
gives_last (x ∷ earlier) t = gives_last earlier t

module _ (core : PlainCore) (around : Around) where
  right_append : (earlier : Given) (xs ys : List PlainOp) → are_operations_right_after core around earlier xs ≡ true → are_operations_right_after core around (earlier ++ given_by xs) ys ≡ true → are_operations_right_after core around earlier (xs ++ ys) ≡ true
  right_append earlier [] ys e f = subst (λ g. are_operations_right_after core around g ys ≡ true) (append_nil earlier) f
    where
      append_nil : (g : Given) → g ++ [] ≡ g
      append_nil [] = refl
      append_nil (x ∷ g) = ap (λ z. x ∷ z) (append_nil g)
  right_append earlier (x ∷ xs) ys e f =
      let both = and_parts (is_operation_right core around earlier x) (are_operations_right_after core around (earlier ++ given_type x.kind x.ty ∷ []) xs) e in
      and_from _ _ both.0 (right_append (earlier ++ given_type x.kind x.ty ∷ []) xs ys both.1 (subst (λ g. are_operations_right_after core around g ys ≡ true) (sym (append_assoc earlier (given_type x.kind x.ty ∷ []) (given_by xs))) f))

  append_nothing : (g : Given) → g ++ [] ≡ g
  append_nothing [] = refl
  append_nothing (x ∷ g) = ap (λ z. x ∷ z) (append_nothing g)

  pub keep_nothing : (earlier : Given) → Keep core around earlier [] [] []
  keep_nothing earlier = record { right = refl; give = refl }

  pub keep_others : (earlier : Given) (xs ys : List PlainOp) (ks ls : List ℕ) (ts us : List Ty) → Keep core around earlier xs ks ts → Keep core around (earlier ++ given_by xs) ys ls us → Keep core around earlier (xs ++ ys) (ks ++ ls) (ts ++ us)
  keep_others earlier xs ys ks ls ts us one two =
      let same : (earlier ++ given_by xs) ++ given_by ys ≡ earlier ++ given_by (xs ++ ys) = append_assoc earlier (given_by xs) (given_by ys) ∙ ap (λ g. earlier ++ g) (sym (given_append xs ys)) in
      record {
        right = right_append earlier xs ys one.right two.right;
        give = subst (λ g. give_all g (ks ++ ls) (ts ++ us) ≡ true) same (give_both _ ks ls ts us (give_still (earlier ++ given_by xs) (given_by ys) ks ts one.give) two.give);
      }

  -- one more operation, of the words at places
  module _ (earlier : Given) (ops : List PlainOp) (ks : List ℕ) (ts : List Ty) (one : Keep core around earlier ops ks ts) (kind : OpKind) (ty : Ty) (m : Option ℕ)
      (range : is_in_range kind ty around ≡ true) (names : names_rightly core around kind ty m ≡ true) (takes : taken_types kind ty (indices_of core around m) ≡ ts) where
    abbrev the_op : PlainOp
    the_op = record { kind = kind; ty = ty; args = ks; mem = m; mask = None }

    right_with : are_operations_right_after core around earlier (ops ++ the_op ∷ []) ≡ true
    right_with = right_append earlier ops (the_op ∷ []) one.right
        (and_from _ _ (and_from _ _ (and_from _ _ range names) (and_from _ _ (subst (λ x. give_all (earlier ++ given_by ops) ks x ≡ true) (sym takes) one.give) refl)) refl)

    pub keep_silent : Keep core around earlier (ops ++ the_op ∷ []) [] []
    keep_silent = record { right = right_with; give = refl }

    pub keep_one : (t : Ty) (place : ℕ) → given_type kind ty ≡ Some t → place ≡ length earlier + length ops → Keep core around earlier (ops ++ the_op ∷ []) (place ∷ []) (t ∷ [])
    keep_one t place g e = record { right = right_with; give = and_from _ _ (subst (λ k. gives (earlier ++ given_by (ops ++ the_op ∷ [])) k t ≡ true) at_place (subst (λ x. gives x (length (earlier ++ given_by ops)) t ≡ true) same (gives_last (earlier ++ given_by ops) t))) refl }
      where
        same : (earlier ++ given_by ops) ++ Some t ∷ [] ≡ earlier ++ given_by (ops ++ the_op ∷ [])
        same = append_assoc earlier (given_by ops) (Some t ∷ []) ∙ ap (λ x. earlier ++ (given_by ops ++ x ∷ [])) (sym g) ∙ ap (λ x. earlier ++ x) (sym (given_append ops (the_op ∷ [])))

        at_place : length (earlier ++ given_by ops) ≡ place
        at_place = omega (arith, length-append earlier (given_by ops), given_length ops, e)

  -- the same under a mask
  module _ (earlier : Given) (ops : List PlainOp) (ks : List ℕ) (ts : List Ty) (one : Keep core around earlier ops ks ts) (kind : OpKind) (ty : Ty) (m : Option ℕ) (mask : ℕ)
      (range : is_in_range kind ty around ≡ true) (names : names_rightly core around kind ty m ≡ true) (takes : taken_types kind ty (indices_of core around m) ≡ ts) (masked : gives (earlier ++ given_by ops) mask Bit ≡ true) where
    abbrev masked_op : PlainOp
    masked_op = record { kind = kind; ty = ty; args = ks; mem = m; mask = Some mask }

    masked_with : are_operations_right_after core around earlier (ops ++ masked_op ∷ []) ≡ true
    masked_with = right_append earlier ops (masked_op ∷ []) one.right
        (and_from _ _ (and_from _ _ (and_from _ _ range names) (and_from _ _ (subst (λ x. give_all (earlier ++ given_by ops) ks x ≡ true) (sym takes) one.give) masked)) refl)

    pub masked_silent : Keep core around earlier (ops ++ masked_op ∷ []) [] []
    masked_silent = record { right = masked_with; give = refl }

    pub masked_one : (t : Ty) (place : ℕ) → given_type kind ty ≡ Some t → place ≡ length earlier + length ops → Keep core around earlier (ops ++ masked_op ∷ []) (place ∷ []) (t ∷ [])
    masked_one t place g e = record { right = masked_with; give = and_from _ _ (subst (λ k. gives (earlier ++ given_by (ops ++ masked_op ∷ [])) k t ≡ true) at_place (subst (λ x. gives x (length (earlier ++ given_by ops)) t ≡ true) same (gives_last (earlier ++ given_by ops) t))) refl }
      where
        same : (earlier ++ given_by ops) ++ Some t ∷ [] ≡ earlier ++ given_by (ops ++ masked_op ∷ [])
        same = append_assoc earlier (given_by ops) (Some t ∷ []) ∙ ap (λ x. earlier ++ (given_by ops ++ x ∷ [])) (sym g) ∙ ap (λ x. earlier ++ x) (sym (given_append ops (masked_op ∷ [])))

        at_place : length (earlier ++ given_by ops) ≡ place
        at_place = omega (arith, length-append earlier (given_by ops), given_length ops, e)

pub gives_more : (earlier gs hs : Given) (k : ℕ) (ty : Ty) → gives (earlier ++ gs) k ty ≡ true → gives (earlier ++ (gs ++ hs)) k ty ≡ true
gives_more earlier gs hs k ty e = subst (λ g. gives g k ty ≡ true) (append_assoc earlier gs hs) (gives_still (earlier ++ gs) hs k ty e)
