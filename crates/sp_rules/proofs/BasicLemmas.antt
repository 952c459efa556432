-- Refusals where there are none.
use Rattle.std.proofs.Common.{◌≡◌, ℕ, Bool, true, false, not, ◌&&◌, List, [], ◌++◌, Option, Some, None, is_none, is_some, refl, ap, ◌∙◌, true≢false}
use Rattle.std.proofs.lemmas.Bool.{eqb-true, eq-eqb}
use Rattle.sp_words.specs.declared.types.Ty.{Ty}
use Rattle.sp_words.specs.declared.types.Ty.TheVariants.{Fix, Bit}
use Rattle.sp_reader.specs.PlainTree.{PlainIdent}
use Rattle.sp_types.specs.declared.refusal.Refusal.{Refusal}
use Rattle.sp_types.specs.Expressions.{name_refusals, count_refusals}
use Rattle.sp_types.specs.First.{one_if}
use Rattle.sp_types.specs.Types.{is_type, is_same_flag}
use Rattle.sp_types.specs.Visible.{PlainSymbol, Visible, symbol_of}
use Rattle.sp_typed.proofs.NoneLemmas.{both_none, not_noted, was_true}
use Rattle.sp_rules.specs.ExpressionRules.{Names}

-- ---- lists of refusals

pub two : (xs ys : List Refusal) → xs ≡ [] → ys ≡ [] → xs ++ ys ≡ []
two xs ys e f = ap (λ l. l ++ ys) e ∙ f

pub three : (xs ys zs : List Refusal) → xs ≡ [] → ys ≡ [] → zs ≡ [] → xs ++ ys ++ zs ≡ []
three xs ys zs e f g = two (xs ++ ys) zs (two xs ys e f) g

pub four : (xs ys zs ws : List Refusal) → xs ≡ [] → ys ≡ [] → zs ≡ [] → ws ≡ [] → xs ++ ys ++ zs ++ ws ≡ []
four xs ys zs ws e f g h = two (xs ++ ys ++ zs) ws (three xs ys zs e f g) h

pub no_if : (b : Bool) (r : Refusal) → b ≡ false → one_if b r ≡ []
no_if b r e = ap (λ x. one_if x r) e

-- ---- tests

pub not_true : (b : Bool) → b ≡ true → not b ≡ false
not_true b e = ap not e

pub some_there : {A : Type 0} (o : Option A) → is_none o ≡ false → (a : A) × (o ≡ Some a)
some_there None e = absurd (true≢false e)
some_there (Some a) e = (a, refl)

pub none_there : {A : Type 0} (o : Option A) → is_some o ≡ false → o ≡ None
none_there None e = refl
none_there (Some a) e = absurd (true≢false e)

pub some_same : {A : Type 0} (a b : A) → Some a ≡ Some b → a ≡ b
some_same a b e = cc

flag_same : (b : Bool) → is_same_flag b b ≡ true
flag_same true = refl
flag_same false = refl

pub both : (a b : Bool) → a ≡ true → b ≡ true → (a && b) ≡ true
both a b e f = ap (λ x. x && b) e ∙ f

pub type_same : (a : Ty) → is_type a a ≡ true
type_same Bit = refl
type_same (Fix a) = both _ _ (flag_same a.signed) (both _ _ (eq-eqb a.whole a.whole refl) (eq-eqb a.frac a.frac refl))

pub count_none : (place want got : ℕ) → want ≡ got → count_refusals place want got ≡ []
count_none place want got e = no_if _ _ (not_true _ (eq-eqb want got e))

pub counted : (place want got : ℕ) → count_refusals place want got ≡ [] → want ≡ got
counted place want got none = eqb-true want got (was_true _ (not_noted _ _ none))

-- ---- names

pub name_none : (seen : Visible) (i : PlainIdent) (s : PlainSymbol) → Names seen i s → name_refusals seen i ≡ []
name_none seen i s n = two _ _ (no_if _ _ (ap is_none n.is)) (no_if _ _ n.free)

pub name_kept : (seen : Visible) (i : PlainIdent) → name_refusals seen i ≡ [] → (s : PlainSymbol) × Names seen i s
name_kept seen i none =
    let f = both_none _ _ none in
    let s = some_there (symbol_of seen i.text) (not_noted _ _ f.0) in
    (s.0, record { is = s.1; free = not_noted _ _ f.1 })
