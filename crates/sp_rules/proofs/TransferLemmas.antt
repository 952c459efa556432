-- Memories by their names, and transfers.
use Rattle.std.proofs.Common.{◌≡◌, ℕ, Bool, true, false, not, ◌||◌, List, [], ◌++◌, length, Option, Some, refl, sym, ap, ◌∙◌, inl, inr, true≢false}
use Rattle.std.specs.Prelude.{All, ◌⊎◌}
use Rattle.sp_words.specs.declared.kind.Kind.{Kind}
use Rattle.sp_words.specs.declared.kind.Kind.TheVariants.{Reg, Sram, Fifo, LineBuf, Dram, ArgIn, ArgOut}
use Rattle.sp_words.specs.declared.types.Ty.{Ty}
use Rattle.sp_reader.specs.PlainTree.{PlainIdent}
use Rattle.sp_reader.specs.PlainStatement.{PlainSpan}
use Rattle.sp_types.specs.declared.refusal.Refusal.{Refusal}
use Rattle.sp_types.specs.Expressions as rule
use Rattle.sp_types.specs.Spans.{spans_refusals, line_ranges, range_count}
use Rattle.sp_types.specs.Statements.{kind_use, loaded_use, types_differ, load_refusals, store_refusals}
use Rattle.sp_types.specs.Types.{symbol_type}
use Rattle.sp_types.specs.Visible.{PlainSymbol, memory, value, counter, Visible, symbol_of}
use Rattle.sp_typed.proofs.ExpressionLemmas.{same_kind, same_type}
use Rattle.sp_typed.proofs.NoneLemmas.{both_none, three_none, four_none, not_noted, was_true}
use Rattle.sp_typed.proofs.VisibleLemmas.{HaveTypes}
use Rattle.sp_typed.specs.Expressions.{known}
use Rattle.sp_typed.specs.ReadTree.{IsReadSpan}
use Rattle.sp_rules.specs.ExpressionRules.{Names}
use Rattle.sp_rules.specs.StatementRules.{IsMemory, IsSlice, IsRow}
use Rattle.sp_rules.proofs.BasicLemmas as none
use Rattle.sp_rules.proofs.BasicLemmas.{no_if, not_true, type_same, count_none, counted, name_none, name_kept}
use Rattle.sp_rules.proofs.ExpressionKept.{symbol_has}
use Rattle.sp_rules.proofs.SpanLemmas.{spans_none, spans_kept}

-- ---- a memory of a kind

kind_same : (kind : Kind) → rule.is_kind kind kind ≡ true
kind_same Reg = refl
kind_same Sram = refl
kind_same Fifo = refl
kind_same LineBuf = refl
kind_same Dram = refl
kind_same ArgIn = refl
kind_same ArgOut = refl

pub kind_none : (seen : Visible) (i : PlainIdent) (kind : Kind) (ty : Ty) (dims : List ℕ) → IsMemory seen i kind ty dims → kind_use seen kind i ≡ []
kind_none seen i kind ty dims n =
    none.two (rule.name_refusals seen i) _ (name_none seen i (memory kind (Some ty) dims) n) (no_if _ _ (not_true _ (ap (rule.may_be kind) n.is ∙ kind_same kind)))

-- its type and its dimensions
pub record Memory (seen : Visible) (i : PlainIdent) (kind : Kind) : Type 0 where
  pub ty : Ty
  pub dims : List ℕ
  pub named : IsMemory seen i kind ty dims

memory_by : (seen : Visible) (i : PlainIdent) (kind : Kind) (s : PlainSymbol) (ty : Ty) → Names seen i s → symbol_type (Some s) ≡ Some ty → rule.may_be kind (Some s) ≡ true → Memory seen i kind
memory_by seen i kind (memory other t dims) ty n e may =
    let k : kind ≡ other = same_kind kind other may in
    record { ty = ty; dims = dims; named = record { is = n.is ∙ ap (λ x. Some (memory x t dims)) (sym k) ∙ ap (λ x. Some (memory kind x dims)) e; free = n.free } }
memory_by seen i kind (value t) ty n e may = absurd (true≢false (sym may))
memory_by seen i kind counter ty n e may = absurd (true≢false (sym may))

pub memory_kept : (seen : Visible) → HaveTypes seen → (i : PlainIdent) (kind : Kind) → rule.name_refusals seen i ≡ [] → rule.may_be kind (symbol_of seen i.text) ≡ true → Memory seen i kind
memory_kept seen types i kind none may =
    let n = name_kept seen i none in
    memory_by seen i kind n.0 (known (symbol_type (symbol_of seen i.text))) n.1 (symbol_has seen types i n.0 n.1) (ap (rule.may_be kind) (sym n.1.is) ∙ may)

pub kind_kept : (seen : Visible) → HaveTypes seen → (i : PlainIdent) (kind : Kind) → kind_use seen kind i ≡ [] → Memory seen i kind
kind_kept seen types i kind none =
    let f = both_none (rule.name_refusals seen i) _ none in
    memory_kept seen types i kind f.0 (was_true _ (not_noted _ _ f.1))

-- ---- loads and stores

pub types_none : (a b : Ty) (place : ℕ) → a ≡ b → types_differ (Some a) (Some b) place ≡ []
types_none a b place e = ap (λ x. types_differ (Some x) (Some b) place) e ∙ no_if _ _ (not_true _ (type_same b))

pub types_kept : (a b : Ty) (place : ℕ) → types_differ (Some a) (Some b) place ≡ [] → a ≡ b
types_kept a b place none = same_type a b (was_true _ (not_noted _ _ none))

-- where both memories are known
abbrev pub a_memory : Kind → Ty → List ℕ → Option PlainSymbol
a_memory kind ty dims = Some (memory kind (Some ty) dims)

load_as : (place a : ℕ) (chip outer x y : Option PlainSymbol) (ss : List PlainSpan) → chip ≡ x → outer ≡ y → load_refusals place a chip outer ss ≡ load_refusals place a x y ss
load_as place a chip outer x y ss e f = ap (λ c. load_refusals place a c outer ss) e ∙ ap (λ d. load_refusals place a x d ss) f

store_as : (place a : ℕ) (chip outer x y : Option PlainSymbol) (ss : List PlainSpan) → chip ≡ x → outer ≡ y → store_refusals place a chip outer ss ≡ store_refusals place a x y ss
store_as place a chip outer x y ss e f = ap (λ c. store_refusals place a c outer ss) e ∙ ap (λ d. store_refusals place a x d ss) f

spans_as : (seen : Visible) (a b : Bool) (ss : List PlainSpan) → a ≡ b → spans_refusals seen a ss ≡ spans_refusals seen b ss
spans_as seen a b ss e = ap (λ x. spans_refusals seen x ss) e

slice_counts : (place a : ℕ) (ty : Ty) (dims outer : List ℕ) (ss : List PlainSpan) → length outer ≡ length ss → length dims ≡ range_count ss → load_refusals place a (a_memory Sram ty dims) (a_memory Dram ty outer) ss ≡ []
slice_counts place a ty dims outer ss e f =
    none.four (types_differ (Some ty) (Some ty) a) (rule.count_refusals place (length outer) (length ss)) (rule.count_refusals place (length dims) (range_count ss)) []
    (types_none ty ty a refl) (count_none place (length outer) (length ss) e) (count_none place (length dims) (range_count ss) f) refl

row_counts : (place a : ℕ) (ty : Ty) (dims outer : List ℕ) (ss : List PlainSpan) → length outer ≡ length ss → 1 ≡ line_ranges ss → load_refusals place a (a_memory LineBuf ty dims) (a_memory Dram ty outer) ss ≡ []
row_counts place a ty dims outer ss e f =
    none.four (types_differ (Some ty) (Some ty) a) (rule.count_refusals place (length outer) (length ss)) [] (rule.count_refusals place 1 (line_ranges ss))
    (types_none ty ty a refl) (count_none place (length outer) (length ss) e) refl (count_none place 1 (line_ranges ss) f)

store_counts : (place a : ℕ) (ty : Ty) (dims outer : List ℕ) (ss : List PlainSpan) → length outer ≡ length ss → length dims ≡ range_count ss → store_refusals place a (a_memory Sram ty dims) (a_memory Dram ty outer) ss ≡ []
store_counts place a ty dims outer ss e f =
    none.three (types_differ (Some ty) (Some ty) a) (rule.count_refusals place (length outer) (length ss)) (rule.count_refusals place (length dims) (range_count ss))
    (types_none ty ty a refl) (count_none place (length outer) (length ss) e) (count_none place (length dims) (range_count ss) f)

or_left : (a b : Bool) → a ≡ true → not (a || b) ≡ false
or_left a b e = ap (λ x. not (x || b)) e

or_right : (a b : Bool) → b ≡ true → not (a || b) ≡ false
or_right true b e = refl
or_right false b e = ap not e

module _ (seen : Visible) (place : ℕ) (onto from : PlainIdent) (ss : List PlainSpan) where
  abbrev pub load_all : List Refusal
  load_all =
      loaded_use seen onto ++ kind_use seen Dram from ++ load_refusals place onto.place (symbol_of seen onto.text) (symbol_of seen from.text) ss
      ++ spans_refusals seen (rule.may_be Sram (symbol_of seen onto.text)) ss

  abbrev pub store_all : List Refusal
  store_all =
      kind_use seen Dram onto ++ kind_use seen Sram from ++ store_refusals place from.place (symbol_of seen from.text) (symbol_of seen onto.text) ss
      ++ spans_refusals seen (rule.may_be Sram (symbol_of seen from.text)) ss

  abbrev load_parts : List Refusal
  load_parts = load_refusals place onto.place (symbol_of seen onto.text) (symbol_of seen from.text) ss

  slice_none : IsSlice seen onto from ss → load_all ≡ []
  slice_none h =
      none.four (loaded_use seen onto) (kind_use seen Dram from) load_parts (spans_refusals seen (rule.may_be Sram (symbol_of seen onto.text)) ss)
      (none.two (rule.name_refusals seen onto) _ (name_none seen onto _ h.on_chip) (no_if _ _ (or_left _ _ (ap (rule.may_be Sram) h.on_chip.is))))
      (kind_none seen from Dram h.ty h.outer h.of_dram)
      (load_as place onto.place (symbol_of seen onto.text) (symbol_of seen from.text) _ _ ss h.on_chip.is h.of_dram.is ∙ slice_counts place onto.place h.ty h.dims h.outer ss h.span_for_each h.range_for_each)
      (spans_as seen (rule.may_be Sram (symbol_of seen onto.text)) true ss (ap (rule.may_be Sram) h.on_chip.is) ∙ spans_none seen true ss h.spans_right)

  row_none : IsRow seen onto from ss → load_all ≡ []
  row_none h =
      none.four (loaded_use seen onto) (kind_use seen Dram from) load_parts (spans_refusals seen (rule.may_be Sram (symbol_of seen onto.text)) ss)
      (none.two (rule.name_refusals seen onto) _ (name_none seen onto _ h.on_chip) (no_if _ _ (or_right _ _ (ap (rule.may_be LineBuf) h.on_chip.is))))
      (kind_none seen from Dram h.ty h.outer h.of_dram)
      (load_as place onto.place (symbol_of seen onto.text) (symbol_of seen from.text) _ _ ss h.on_chip.is h.of_dram.is ∙ row_counts place onto.place h.ty h.dims h.outer ss h.span_for_each h.last_range)
      (spans_as seen (rule.may_be Sram (symbol_of seen onto.text)) false ss (ap (rule.may_be Sram) h.on_chip.is) ∙ spans_none seen false ss h.spans_right)

  pub load_none : IsSlice seen onto from ss ⊎ IsRow seen onto from ss → load_all ≡ []
  load_none (inl h) = slice_none h
  load_none (inr h) = row_none h

  pub store_none : IsSlice seen from onto ss → store_all ≡ []
  store_none h =
      none.four (kind_use seen Dram onto) (kind_use seen Sram from) (store_refusals place from.place (symbol_of seen from.text) (symbol_of seen onto.text) ss)
      (spans_refusals seen (rule.may_be Sram (symbol_of seen from.text)) ss)
      (kind_none seen onto Dram h.ty h.outer h.of_dram)
      (kind_none seen from Sram h.ty h.dims h.on_chip)
      (store_as place from.place (symbol_of seen from.text) (symbol_of seen onto.text) _ _ ss h.on_chip.is h.of_dram.is ∙ store_counts place from.place h.ty h.dims h.outer ss h.span_for_each h.range_for_each)
      (spans_as seen (rule.may_be Sram (symbol_of seen from.text)) true ss (ap (rule.may_be Sram) h.on_chip.is) ∙ spans_none seen true ss h.spans_right)

-- of one type
pub retyped : (seen : Visible) (i : PlainIdent) (kind : Kind) (a b : Ty) (dims : List ℕ) → a ≡ b → IsMemory seen i kind a dims → IsMemory seen i kind b dims
retyped seen i kind a b dims e n = record { is = n.is ∙ ap (λ t. Some (memory kind (Some t) dims)) e; free = n.free }

module _ (seen : Visible) (types : HaveTypes seen) (place : ℕ) (onto from : PlainIdent) (ss : List PlainSpan) (read : All IsReadSpan ss) where
  either_kind : (a b : Bool) → (a || b) ≡ true → (a ≡ true) ⊎ (b ≡ true)
  either_kind true b e = inl refl
  either_kind false b e = inr e

  slice_kept : Memory seen onto Sram → Memory seen from Dram → load_refusals place onto.place (symbol_of seen onto.text) (symbol_of seen from.text) ss ≡ []
      → spans_refusals seen (rule.may_be Sram (symbol_of seen onto.text)) ss ≡ [] → IsSlice seen onto from ss
  slice_kept c d none none_of =
      let e = sym (load_as place onto.place (symbol_of seen onto.text) (symbol_of seen from.text) _ _ ss c.named.is d.named.is) ∙ none in
      let f = four_none (types_differ (Some d.ty) (Some c.ty) onto.place) (rule.count_refusals place (length d.dims) (length ss)) (rule.count_refusals place (length c.dims) (range_count ss)) [] e in
      record {
        ty = c.ty;
        dims = c.dims;
        outer = d.dims;
        on_chip = c.named;
        of_dram = retyped seen from Dram d.ty c.ty d.dims (types_kept d.ty c.ty onto.place f.0) d.named;
        span_for_each = counted place (length d.dims) (length ss) f.1;
        range_for_each = counted place (length c.dims) (range_count ss) f.2;
        spans_right = spans_kept seen types true ss read (sym (spans_as seen (rule.may_be Sram (symbol_of seen onto.text)) true ss (ap (rule.may_be Sram) c.named.is)) ∙ none_of);
      }

  row_kept : Memory seen onto LineBuf → Memory seen from Dram → load_refusals place onto.place (symbol_of seen onto.text) (symbol_of seen from.text) ss ≡ []
      → spans_refusals seen (rule.may_be Sram (symbol_of seen onto.text)) ss ≡ [] → IsRow seen onto from ss
  row_kept c d none none_of =
      let e = sym (load_as place onto.place (symbol_of seen onto.text) (symbol_of seen from.text) _ _ ss c.named.is d.named.is) ∙ none in
      let f = four_none (types_differ (Some d.ty) (Some c.ty) onto.place) (rule.count_refusals place (length d.dims) (length ss)) [] (rule.count_refusals place 1 (line_ranges ss)) e in
      record {
        ty = c.ty;
        dims = c.dims;
        outer = d.dims;
        on_chip = c.named;
        of_dram = retyped seen from Dram d.ty c.ty d.dims (types_kept d.ty c.ty onto.place f.0) d.named;
        span_for_each = counted place (length d.dims) (length ss) f.1;
        last_range = counted place 1 (line_ranges ss) f.3;
        spans_right = spans_kept seen types false ss read (sym (spans_as seen (rule.may_be Sram (symbol_of seen onto.text)) false ss (ap (rule.may_be Sram) c.named.is)) ∙ none_of);
      }

  loaded_kept : rule.name_refusals seen onto ≡ [] → (rule.may_be Sram (symbol_of seen onto.text) ≡ true) ⊎ (rule.may_be LineBuf (symbol_of seen onto.text) ≡ true) → Memory seen from Dram
      → load_refusals place onto.place (symbol_of seen onto.text) (symbol_of seen from.text) ss ≡ []
      → spans_refusals seen (rule.may_be Sram (symbol_of seen onto.text)) ss ≡ [] → IsSlice seen onto from ss ⊎ IsRow seen onto from ss
  loaded_kept none (inl may) d parts none_of = inl (slice_kept (memory_kept seen types onto Sram none may) d parts none_of)
  loaded_kept none (inr may) d parts none_of = inr (row_kept (memory_kept seen types onto LineBuf none may) d parts none_of)

  pub load_kept : load_all seen place onto from ss ≡ [] → IsSlice seen onto from ss ⊎ IsRow seen onto from ss
  load_kept none =
      let f = four_none (loaded_use seen onto) (kind_use seen Dram from) (load_refusals place onto.place (symbol_of seen onto.text) (symbol_of seen from.text) ss)
      (spans_refusals seen (rule.may_be Sram (symbol_of seen onto.text)) ss) none in
      let g = both_none (rule.name_refusals seen onto) _ f.0 in
      loaded_kept g.0 (either_kind _ _ (was_true _ (not_noted _ _ g.1))) (kind_kept seen types from Dram f.1) f.2 f.3

  pub store_kept : store_all seen place onto from ss ≡ [] → IsSlice seen from onto ss
  store_kept none =
      let f = four_none (kind_use seen Dram onto) (kind_use seen Sram from) (store_refusals place from.place (symbol_of seen from.text) (symbol_of seen onto.text) ss)
      (spans_refusals seen (rule.may_be Sram (symbol_of seen from.text)) ss) none in
      let d = kind_kept seen types onto Dram f.0 in
      let c = kind_kept seen types from Sram f.1 in
      let e = sym (store_as place from.place (symbol_of seen from.text) (symbol_of seen onto.text) _ _ ss c.named.is d.named.is) ∙ f.2 in
      let g = three_none (types_differ (Some d.ty) (Some c.ty) from.place) (rule.count_refusals place (length d.dims) (length ss)) (rule.count_refusals place (length c.dims) (range_count ss)) e in
      record {
        ty = c.ty;
        dims = c.dims;
        outer = d.dims;
        on_chip = c.named;
        of_dram = retyped seen onto Dram d.ty c.ty d.dims (types_kept d.ty c.ty from.place g.0) d.named;
        span_for_each = counted place (length d.dims) (length ss) g.1;
        range_for_each = counted place (length c.dims) (range_count ss) g.2;
        spans_right = spans_kept seen types true ss read (sym (spans_as seen (rule.may_be Sram (symbol_of seen from.text)) true ss (ap (rule.may_be Sram) c.named.is)) ∙ f.3);
      }
