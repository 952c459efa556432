-- Names that are used without refusals.
use Rattle.std.proofs.Common.{◌≡◌, ℕ, Bool, true, false, not, List, [], Option, Some, None, is_none, is_some, IsTrue, refl, sym, ap, subst, ◌∙◌, true≢false}
use Rattle.std.specs.Prelude.{Contains, ◌==◌}
use Rattle.std.proofs.lemmas.Bool.{eqb-true}
use Rattle.sp_words.specs.declared.kind.Kind.{Kind}
use Rattle.sp_words.specs.declared.types.Ty.{Ty}
use Rattle.sp_reader.specs.PlainTree.{PlainIdent}
use Rattle.sp_tree.specs.PlainProgram.{PlainProgram}
use Rattle.sp_tree.specs.Typing.{Scope, IsMem, mem_at, all_but}
use Rattle.sp_types.specs.Expressions as rule
use Rattle.sp_types.proofs.GrowthLemmas.{Grows, grows_binds}
use Rattle.sp_types.specs.Spans.{with_binds}
use Rattle.sp_types.specs.Statements.{kind_use, acc_inside}
use Rattle.sp_types.specs.Types.{symbol_type}
use Rattle.sp_types.specs.Visible.{PlainSymbol, memory, value, counter, Visible, symbol_of, is_busy}
use Rattle.sp_typed.proofs.ExpressionLemmas.{same_kind}
use Rattle.sp_typed.proofs.NoneLemmas.{both_none, not_noted, was_true}
use Rattle.sp_typed.specs.Expressions.{known, number_if, symbol_if, number_of, symbol_at, word_type}
use Rattle.sp_typed.specs.Laws.{Stands}
use Rattle.sp_typed.specs.Named.{Meant, Here, meant_by}
use Rattle.sp_typing.specs.Places.{NamedBy, Place, IsAround}
use Rattle.sp_typing.proofs.FindLemmas.{busy_grows, busy_acc, visible_grows}
use Rattle.sp_typing.proofs.PlaceLemmas.{seen_is}

-- ---- what a name stands for

pub record Meaning (p : PlainProgram) (scope : Scope) (here : Here) (seen : Visible) (i : PlainIdent) : Type 0 where
  pub symbol : PlainSymbol
  pub number : ℕ
  pub is : meant_by here i.text ≡ Some (record { symbol = symbol; number = number })
  pub seen_as : symbol_of seen i.text ≡ Some symbol
  pub stands : Stands p scope symbol number
  pub named : NamedBy p symbol number i.text
  pub free : is_busy seen i.text ≡ false

-- a memory of a kind, by its name
pub record Kept (p : PlainProgram) (scope : Scope) (here : Here) (seen : Visible) (i : PlainIdent) (kind : Kind) : Type 0 where
  pub ty : Ty
  pub dims : List ℕ
  pub is : symbol_at here i ≡ Some (memory kind (Some ty) dims)
  pub seen_as : symbol_of seen i.text ≡ Some (memory kind (Some ty) dims)
  pub mem : IsMem p scope (number_of here i) kind ty
  pub dims_are : (mem_at p (number_of here i)).dims ≡ dims
  pub name_is : (mem_at p (number_of here i)).name ≡ i.text
  pub free : is_busy seen i.text ≡ false

some_of : (o : Option Meant) → is_none (symbol_if o) ≡ false → (m : Meant) × (o ≡ Some m)
some_of None e = absurd (true≢false e)
some_of (Some m) e = (m, refl)

module _ (p : PlainProgram) (scope : Scope) (here : Here) (seen : Visible) (at : Place p scope here.names seen.names) where
  pub meaning : (i : PlainIdent) → rule.name_refusals seen i ≡ [] → Meaning p scope here seen i
  meaning i none =
      let f = both_none _ _ none in
      let e = seen_is p scope here.names seen at i.text in
      let s = some_of (meant_by here i.text) (ap is_none (sym e) ∙ not_noted _ _ f.0) in
      record {
        symbol = s.0.symbol;
        number = s.0.number;
        is = s.1;
        seen_as = e ∙ ap symbol_if s.1;
        stands = at.agree i.text s.0 s.1;
        named = at.named i.text s.0 s.1;
        free = not_noted _ _ f.1;
      }

  -- the type of its words is known
  typed_by : (s : PlainSymbol) (n : ℕ) → Stands p scope s n → symbol_type (Some s) ≡ Some (known (symbol_type (Some s)))
  typed_by (memory kind (Some ty) dims) n h = refl
  typed_by (memory kind None dims) n h = absurd h
  typed_by (value (Some ty)) n h = refl
  typed_by (value None) n h = absurd h
  typed_by counter n h = refl

  pub word_known : (i : PlainIdent) → Meaning p scope here seen i → symbol_type (symbol_of seen i.text) ≡ Some (word_type here i)
  word_known i m =
      ap symbol_type m.seen_as ∙ typed_by m.symbol m.number m.stands ∙ ap (λ o. Some (known (symbol_type (symbol_if o)))) (sym m.is)

  kept_by : (i : PlainIdent) (kind : Kind) (s : PlainSymbol) (n : ℕ) → meant_by here i.text ≡ Some (record { symbol = s; number = n }) → symbol_of seen i.text ≡ Some s
      → Stands p scope s n → NamedBy p s n i.text → is_busy seen i.text ≡ false → rule.may_be kind (Some s) ≡ true → Kept p scope here seen i kind
  kept_by i kind (memory other (Some ty) dims) n is seen_as stands named free may =
      let k : kind ≡ other = same_kind kind other may in
      let e : number_of here i ≡ n = ap number_if is in
      let same : Some (memory other (Some ty) dims) ≡ Some (memory kind (Some ty) dims) = ap (λ x. Some (memory x (Some ty) dims)) (sym k) in
      record {
        ty = ty;
        dims = dims;
        is = ap symbol_if is ∙ same;
        seen_as = seen_as ∙ same;
        mem = record {
          seen = subst (λ x. Contains scope.mems x) (sym e) stands.0.seen;
          is_kind = ap (λ x. (mem_at p x).kind) e ∙ stands.0.is_kind ∙ sym k;
          is_type = ap (λ x. (mem_at p x).ty) e ∙ stands.0.is_type;
        };
        dims_are = ap (λ x. (mem_at p x).dims) e ∙ stands.1;
        name_is = ap (λ x. (mem_at p x).name) e ∙ named;
        free = free;
      }
  kept_by i kind (memory other None dims) n is seen_as stands named free may = absurd stands
  kept_by i kind (value ty) n is seen_as stands named free may = absurd (true≢false (sym may))
  kept_by i kind counter n is seen_as stands named free may = absurd (true≢false (sym may))

  pub kept_meaning : (i : PlainIdent) (kind : Kind) → Meaning p scope here seen i → rule.may_be kind (symbol_of seen i.text) ≡ true → Kept p scope here seen i kind
  kept_meaning i kind m may = kept_by i kind m.symbol m.number m.is m.seen_as m.stands m.named m.free (ap (rule.may_be kind) (sym m.seen_as) ∙ may)

  -- a name that is used as a memory of a kind
  pub kept : (i : PlainIdent) (kind : Kind) → kind_use seen kind i ≡ [] → Kept p scope here seen i kind
  kept i kind none =
      let f = both_none (rule.name_refusals seen i) _ none in
      kept_meaning i kind (meaning i f.0) (was_true _ (not_noted _ _ f.1))

-- the type of a memory's words
pub word_is_kept : (p : PlainProgram) (scope : Scope) (here : Here) (seen : Visible) (i : PlainIdent) (kind : Kind) → Kept p scope here seen i kind → IsMem p scope (number_of here i) kind (word_type here i)
word_is_kept p scope here seen i kind k =
    let e : k.ty ≡ word_type here i = ap (λ o. known (symbol_type o)) (sym k.is) in
    record { seen = k.mem.seen; is_kind = k.mem.is_kind; is_type = k.mem.is_type ∙ e }

pub kept_known : (p : PlainProgram) (scope : Scope) (here : Here) (seen : Visible) (i : PlainIdent) (kind : Kind) → Kept p scope here seen i kind → symbol_type (symbol_of seen i.text) ≡ Some (word_type here i)
kept_known p scope here seen i kind k = ap symbol_type k.seen_as ∙ ap (λ o. Some (known (symbol_type o))) (sym k.is)

-- ---- accumulators

pub around_grows : (p : PlainProgram) (s t : Visible) (acc : ℕ) → Grows s t → IsAround p s acc → IsAround p t acc
around_grows p s t acc g around = record {
  visible = visible_grows s t g (mem_at p acc).name around.visible;
  busy = busy_grows s t g (mem_at p acc).name around.busy;
}

-- inside of its own body
pub own_around : (p : PlainProgram) (scope : Scope) (here : Here) (seen : Visible) (i : PlainIdent) (kind : Kind) (binds : List PlainIdent) → Kept p scope here seen i kind → IsAround p (acc_inside seen binds i) (number_of here i)
own_around p scope here seen i kind binds k = record {
  visible = visible_grows seen (with_binds seen binds) (grows_binds seen binds) (mem_at p (number_of here i)).name
      (ap (λ t. is_some (symbol_of seen t)) k.name_is ∙ ap is_some k.seen_as);
  busy = ap (is_busy (acc_inside seen binds i)) k.name_is ∙ busy_acc (with_binds seen binds) i.text;
}

not_same : (b : Bool) → (b ≡ true → ⊥) → IsTrue (not b)
not_same true h = absurd (h refl)
not_same false h = refl

pub other_than : (p : PlainProgram) (seen : Visible) (acc m : ℕ) → IsAround p seen acc → is_busy seen (mem_at p m).name ≡ false → IsTrue (all_but p acc m)
other_than p seen acc m around free =
    not_same (m == acc) (λ e. true≢false (sym around.busy ∙ ap (λ x. is_busy seen (mem_at p x).name) (sym (eqb-true m acc e)) ∙ free))

-- a name that isn't visible is none of an accumulator
pub new_name : (p : PlainProgram) (seen : Visible) (acc m : ℕ) → IsAround p seen acc → is_some (symbol_of seen (mem_at p m).name) ≡ false → IsTrue (all_but p acc m)
new_name p seen acc m around free =
    not_same (m == acc) (λ e. true≢false (sym around.visible ∙ ap (λ x. is_some (symbol_of seen (mem_at p x).name)) (sym (eqb-true m acc e)) ∙ free))

pub kept_alone : (p : PlainProgram) (scope : Scope) (here : Here) (seen : Visible) (i : PlainIdent) (kind : Kind) (acc : ℕ) → Kept p scope here seen i kind → IsAround p seen acc → IsTrue (all_but p acc (number_of here i))
kept_alone p scope here seen i kind acc k around = other_than p seen acc (number_of here i) around (ap (is_busy seen) k.name_is ∙ k.free)
