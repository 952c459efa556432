-- What a name of a program's tree stands for.
use Rattle.std.proofs.Common.{◌≡◌, ℕ, Bool, true, false, List, [], ◌∷◌, ◌++◌, map, slice_index_or, Contains, Some, is_none, if◌then◌else◌, refl, ap, ◌∙◌}
use Rattle.std.specs.Str.{bytes_eq}
use Rattle.sp_words.specs.declared.kind.Kind.{Kind}
use Rattle.sp_words.specs.declared.types.Ty.{Ty}
use Rattle.sp_reader.specs.PlainTree.{PlainIdent}
use Rattle.sp_tree.specs.PlainProgram.{PlainProgram}
use Rattle.sp_tree.specs.Typing.{Scope, IsMem, mem_at}
use Rattle.sp_types.specs.declared.refusal.Refusal.{Refusal}
use Rattle.sp_types.specs.Expressions.{name_refusals}
use Rattle.sp_types.specs.First.{one_if}
use Rattle.sp_types.specs.Visible.{PlainSymbol, memory, value, counter, Visible, symbol_of, lookup, is_busy}
use Rattle.sp_typed.specs.Expressions.{number_of, symbol_at, number_if, symbol_if}
use Rattle.sp_typed.specs.Named.{Meant, Here, find}
use Rattle.sp_retyped.specs.Shown.{Shown}

abbrev pub symbols : List (List ℕ × Meant) → List (List ℕ × PlainSymbol)
symbols names = map (λ entry. (entry.0, entry.1.symbol)) names

pub looked_up : (names : List (List ℕ × Meant)) (name : List ℕ) → lookup (symbols names) name ≡ symbol_if (find names name)
unfolding lookup find
looked_up [] name = refl
looked_up (entry ∷ rest) name = go (bytes_eq name entry.0) (looked_up rest name)
  where
    go : (b : Bool) → lookup (symbols rest) name ≡ symbol_if (find rest name)
        → (if b then Some entry.1.symbol else lookup (symbols rest) name) ≡ symbol_if (if b then Some entry.1 else find rest name)
    go true e = refl
    go false e = e

-- what a name stands for, everywhere
pub record Means (here : Here) (i : PlainIdent) (symbol : PlainSymbol) (n : ℕ) : Type 0 where
  pub found : find here.names i.text ≡ Some (record { symbol = symbol; number = n })
  pub number_is : number_of here i ≡ n
  pub symbol_is : symbol_at here i ≡ Some symbol
  -- as the rules of types see it
  pub seen_is : (seen : Visible) → seen.names ≡ symbols here.names → symbol_of seen i.text ≡ Some symbol

pub means : (here : Here) (i : PlainIdent) (symbol : PlainSymbol) (n : ℕ) → find here.names i.text ≡ Some (record { symbol = symbol; number = n }) → Means here i symbol n
means here i symbol n e = record {
  found = e;
  number_is = ap number_if e;
  symbol_is = ap symbol_if e;
  seen_is = λ seen same. ap (λ ns. lookup ns i.text) same ∙ looked_up here.names i.text ∙ ap symbol_if e;
}

module _ (p : PlainProgram) (scope : Scope) (here : Here) (shown : Shown p scope here.names) where
  pub mem_means : (i : PlainIdent) (m : ℕ) (kind : Kind) (ty : Ty) → i.text ≡ (mem_at p m).name → IsMem p scope m kind ty → Means here i (memory kind (Some ty) (mem_at p m).dims) m
  mem_means i m kind ty text h =
      means here i (memory kind (Some ty) (mem_at p m).dims) m
      (ap (find here.names) text ∙ shown.mem m h.seen
      ∙ ap (λ k. Some (record { symbol = memory k (Some (mem_at p m).ty) (mem_at p m).dims; number = m })) h.is_kind
      ∙ ap (λ t. Some (record { symbol = memory kind (Some t) (mem_at p m).dims; number = m })) h.is_type)

  pub val_means : (i : PlainIdent) (v : ℕ) (ty : Ty) → i.text ≡ slice_index_or p.vals v [] → Contains scope.vals (v, ty) → Means here i (value (Some ty)) v
  val_means i v ty text h = means here i (value (Some ty)) v (ap (find here.names) text ∙ shown.val v ty h)

  pub counter_means : (i : PlainIdent) (c : ℕ) → i.text ≡ slice_index_or p.counters c [] → Contains scope.counters c → Means here i counter c
  counter_means i c text h = means here i counter c (ap (find here.names) text ∙ shown.counter_is c h)

-- ---- lists of refusals

pub none_if : (b : Bool) (r : Refusal) → b ≡ false → one_if b r ≡ []
none_if true r e = absurd (cc)
none_if false r e = refl

pub two_none : (a b : List Refusal) → a ≡ [] → b ≡ [] → a ++ b ≡ []
two_none a b x y = rw (x, y) refl

pub three_none : (a b c : List Refusal) → a ≡ [] → b ≡ [] → c ≡ [] → a ++ b ++ c ≡ []
three_none a b c x y z = rw (x, y, z) refl

pub name_right : (seen : Visible) (i : PlainIdent) (s : PlainSymbol) → symbol_of seen i.text ≡ Some s → is_busy seen i.text ≡ false → name_refusals seen i ≡ []
name_right seen i s e free = two_none _ _ (none_if (is_none (symbol_of seen i.text)) _ (ap is_none e)) (none_if (is_busy seen i.text) _ free)
