-- What is visible has a type, and an SRAM a dimension.
use Rattle.std.proofs.Common.{◌≡◌, ℕ, ◌≤◌, Bool, true, false, cond, List, [], ◌∷◌, ◌++◌, length, Option, Some, None, is_some, refl, sym, ap, subst, ◌∙◌, inl, inr}
use Rattle.std.specs.Prelude.{◌⊎◌}
use Rattle.std.specs.Str.{bytes_eq}
use Rattle.sp_words.specs.declared.kind.Kind.{Kind}
use Rattle.sp_words.specs.declared.kind.Kind.TheVariants.{Reg, Sram, Fifo, LineBuf, Dram, ArgIn, ArgOut}
use Rattle.sp_words.specs.declared.types.Ty.{Ty}
use Rattle.sp_reader.specs.declared.syntax.expression.SynTy.{SynTy}
use Rattle.sp_reader.specs.PlainTree.{PlainIdent}
use Rattle.sp_reader.specs.PlainStatement.{PlainStmtKind, PlainStmts, stmt, reg, sram, fifo, line_buffer, bind, no_stmt, more_stmt, PlainDecl, PlainDeclKind, arg_in, arg_out, dram}
use Rattle.sp_types.specs.Expressions.{type_refusals}
use Rattle.sp_types.specs.Spans.{twice, with_binds}
use Rattle.sp_types.specs.Statements as rule
use Rattle.sp_types.specs.Types.{symbol_type, type_of, own, own_or_int}
use Rattle.sp_types.specs.Visible.{PlainSymbol, memory, value, counter, Visible, lookup, symbol_of, declare, with_acc}
use Rattle.sp_typed.proofs.NoneLemmas.{both_none, not_noted}
use Rattle.sp_typed.proofs.VisibleLemmas.{HaveTypes}
use Rattle.sp_typed.specs.ReadTree.{IsReadBody, IsReadStmt}
use Rattle.sp_rules.proofs.BasicLemmas.{some_same}
use Rattle.sp_rules.proofs.ExpressionKept.{none_is, by_itself}

-- what a symbol that is given must be
pub record IsFull (s : PlainSymbol) : Type 0 where
  pub typed : symbol_type (Some s) ≡ None → ⊥
  pub dims : (t : Option Ty) (ds : List ℕ) → s ≡ memory Sram t ds → 1 ≤ length ds

pub record Known (seen : Visible) : Type 0 where
  pub types : HaveTypes seen
  pub dims : (name : List ℕ) (t : Option Ty) (ds : List ℕ) → symbol_of seen name ≡ Some (memory Sram t ds) → 1 ≤ length ds

-- ---- one more name

later : (b : Bool) (x : PlainSymbol) (new s : PlainSymbol) (r o : Option PlainSymbol) → (o ≡ r) ⊎ (o ≡ Some s) → (cond b (Some x) o ≡ cond b (Some x) r) ⊎ (cond b (Some x) o ≡ Some s)
later true x new s r o h = inl refl
later false x new s r o h = h

only : (b : Bool) (s : PlainSymbol) → (cond b (Some s) None ≡ None) ⊎ (cond b (Some s) None ≡ Some s)
only true s = inr refl
only false s = inl refl

lookup_end : (ns : List (List ℕ × PlainSymbol)) (text : List ℕ) (s : PlainSymbol) (name : List ℕ) → (lookup (ns ++ (text, s) ∷ []) name ≡ lookup ns name) ⊎ (lookup (ns ++ (text, s) ∷ []) name ≡ Some s)
unfolding lookup
lookup_end [] text s name = only (bytes_eq name text) s
lookup_end (n ∷ ns) text s name = later (bytes_eq name n.0) n.1 s s (lookup ns name) (lookup (ns ++ (text, s) ∷ []) name) (lookup_end ns text s name)

either_way : (b : Bool) (seen other : Visible) (s : PlainSymbol) (name : List ℕ) → (symbol_of other name ≡ symbol_of seen name) ⊎ (symbol_of other name ≡ Some s)
    → (symbol_of (cond b seen other) name ≡ symbol_of seen name) ⊎ (symbol_of (cond b seen other) name ≡ Some s)
either_way true seen other s name h = inl refl
either_way false seen other s name h = h

declared_as : (seen : Visible) (text : List ℕ) (s : PlainSymbol) (name : List ℕ) → (symbol_of (declare seen text s) name ≡ symbol_of seen name) ⊎ (symbol_of (declare seen text s) name ≡ Some s)
unfolding declare
declared_as seen text s name =
    either_way (is_some (symbol_of seen text)) seen (record { names = seen.names ++ (text, s) ∷ []; busy = seen.busy }) s name (lookup_end seen.names text s name)

types_after : (o r : Option PlainSymbol) (s : PlainSymbol) → IsFull s → (symbol_type r ≡ None → r ≡ None) → (o ≡ r) ⊎ (o ≡ Some s) → symbol_type o ≡ None → o ≡ None
types_after o r s full h (inl e) none = e ∙ h (ap symbol_type (sym e) ∙ none)
types_after o r s full h (inr e) none = absurd (full.typed (ap symbol_type (sym e) ∙ none))

dims_after : (o r : Option PlainSymbol) (s : PlainSymbol) → IsFull s → (t : Option Ty) (ds : List ℕ) → (r ≡ Some (memory Sram t ds) → 1 ≤ length ds) → (o ≡ r) ⊎ (o ≡ Some s) → o ≡ Some (memory Sram t ds) → 1 ≤ length ds
dims_after o r s full t ds h (inl e) is = h (sym e ∙ is)
dims_after o r s full t ds h (inr e) is = full.dims t ds (some_same s (memory Sram t ds) (sym e ∙ is))

pub known_declare : (seen : Visible) (text : List ℕ) (s : PlainSymbol) → Known seen → IsFull s → Known (declare seen text s)
known_declare seen text s k full = record {
  types = λ name none. types_after (symbol_of (declare seen text s) name) (symbol_of seen name) s full (k.types name) (declared_as seen text s name) none;
  dims = λ name t ds is. dims_after (symbol_of (declare seen text s) name) (symbol_of seen name) s full t ds (k.dims name t ds) (declared_as seen text s name) is;
}

-- ---- the symbols that are given

counter_full : IsFull counter
counter_full = record { typed = λ e. absurd (cc); dims = λ t ds e. absurd (cc) }

pub value_full : (o : Option Ty) → (o ≡ None → ⊥) → IsFull (value o)
value_full o h = record { typed = h; dims = λ t ds e. absurd (cc) }

abbrev dims_in : PlainSymbol → List ℕ
dims_in (memory kind ty ds) = ds
dims_in (value ty) = []
dims_in counter = []

abbrev kind_in : PlainSymbol → Kind
kind_in (memory kind ty ds) = kind
kind_in (value ty) = Reg
kind_in counter = Reg

sram_full : (o : Option Ty) (dims : List ℕ) → (o ≡ None → ⊥) → 1 ≤ length dims → IsFull (memory Sram o dims)
sram_full o dims h some = record { typed = h; dims = λ t ds e. subst (λ l. 1 ≤ length l) (ap dims_in e) some }

other_full : (kind : Kind) (o : Option Ty) (dims : List ℕ) → (o ≡ None → ⊥) → (kind ≡ Sram → ⊥) → IsFull (memory kind o dims)
other_full kind o dims h other = record { typed = h; dims = λ t ds e. absurd (other (ap kind_in e)) }

pub known_binds : (seen : Visible) (binds : List PlainIdent) → Known seen → Known (with_binds seen binds)
known_binds seen [] k = k
known_binds seen (i ∷ rest) k = known_binds (declare seen i.text counter) rest (known_declare seen i.text counter k counter_full)

pub known_acc : (seen : Visible) (acc : List ℕ) → Known seen → Known (with_acc seen acc)
known_acc seen acc k = record { types = k.types; dims = k.dims }

-- ---- after statements

typed_none : (written : SynTy) → type_refusals written ≡ [] → type_of written ≡ None → ⊥
typed_none written none = none_is (type_of written) (not_noted _ _ none)

declared_none : (seen : Visible) (i : PlainIdent) (written : SynTy) → rule.declaration_refusals seen i written ≡ [] → type_of written ≡ None → ⊥
declared_none seen i written none = typed_none written (both_none (twice seen i) (type_refusals written) none).1

pub known_after : (seen : Visible) (place : ℕ) (kind : PlainStmtKind) → Known seen → IsReadStmt kind → rule.stmt_refusals seen place kind ≡ [] → Known (rule.after seen kind)
known_after seen place (reg i ty start) k read none =
    known_declare seen i.text _ k (other_full Reg (type_of ty) [] (declared_none seen i ty (both_none (rule.declaration_refusals seen i ty) _ none).0) (λ e. absurd (cc)))
known_after seen place (sram i ty dims) k read none = known_declare seen i.text _ k (sram_full (type_of ty) dims (declared_none seen i ty none) read.1.0)
known_after seen place (fifo i ty depth) k read none = known_declare seen i.text _ k (other_full Fifo (type_of ty) (depth ∷ []) (declared_none seen i ty none) (λ e. absurd (cc)))
known_after seen place (line_buffer i ty rows columns) k read none =
    known_declare seen i.text _ k (other_full LineBuf (type_of ty) (rows ∷ columns ∷ []) (declared_none seen i ty none) (λ e. absurd (cc)))
known_after seen place (bind i e) k read none =
    let own_is = by_itself seen k.types (rule.word (own_or_int (own seen e))) e (both_none (twice seen i) _ none).1 in
    known_declare seen i.text _ k (value_full (own_or_int (own seen e)) (λ f. absurd (let g = sym own_is ∙ f in cc)))
known_after seen place _ k read none = k

pub known_all : (seen : Visible) (ss : PlainStmts) → Known seen → IsReadBody ss → rule.body_refusals seen ss ≡ [] → Known (rule.after_all seen ss)
known_all seen no_stmt k read none = k
known_all seen (more_stmt (stmt place kind) rest) k read none =
    let f = both_none (rule.stmt_refusals seen place kind) (rule.body_refusals (rule.after seen kind) rest) none in
    known_all (rule.after seen kind) rest (known_after seen place kind k read.0 f.0) read.1 f.1

-- ---- before the block

pub known_port : (seen : Visible) (d : PlainDecl) (k : PlainDeclKind) → Known seen → rule.declaration_refusals seen d.name (rule.port_type k) ≡ [] → Known (declare seen d.name.text (rule.port k))
known_port seen d (arg_in ty) k none = known_declare seen d.name.text _ k (other_full ArgIn (type_of ty) [] (declared_none seen d.name ty none) (λ e. absurd (cc)))
known_port seen d (arg_out ty) k none = known_declare seen d.name.text _ k (other_full ArgOut (type_of ty) [] (declared_none seen d.name ty none) (λ e. absurd (cc)))
known_port seen d (dram ty dims) k none = known_declare seen d.name.text _ k (other_full Dram (type_of ty) dims (declared_none seen d.name ty none) (λ e. absurd (cc)))
