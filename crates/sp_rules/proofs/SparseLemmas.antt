-- Gathers and scatters.
use Rattle.std.proofs.Common.{◌≡◌, ℕ, List, [], ◌++◌, length, Option, Some, refl, sym, ap, ◌∙◌}
use Rattle.sp_words.specs.declared.kind.Kind.{Kind}
use Rattle.sp_words.specs.declared.kind.Kind.TheVariants.{Sram, Dram}
use Rattle.sp_words.specs.declared.types.Ty.{Ty}
use Rattle.sp_words.specs.Types.{int_type}
use Rattle.sp_reader.specs.PlainTree.{PlainIdent, PlainExpr}
use Rattle.sp_types.specs.declared.refusal.Refusal.{Refusal}
use Rattle.sp_types.specs.Spans.{bound_refusals}
use Rattle.sp_types.specs.Statements.{kind_use, types_differ, rank_if, rows, one_row, sparse_types}
use Rattle.sp_types.specs.Visible.{PlainSymbol, Visible, symbol_of}
use Rattle.sp_typed.proofs.NoneLemmas.{both_none, three_none, four_none}
use Rattle.sp_typed.proofs.VisibleLemmas.{HaveTypes}
use Rattle.sp_typed.specs.ReadTree.{IsReadExpr}
use Rattle.sp_rules.specs.StatementRules.{IsMemory, IsSparse}
use Rattle.sp_rules.proofs.BasicLemmas as none
use Rattle.sp_rules.proofs.BasicLemmas.{count_none, counted}
use Rattle.sp_rules.proofs.SpanLemmas.{bound_none, bound_kept}
use Rattle.sp_rules.proofs.TransferLemmas.{a_memory, types_none, types_kept, kind_none, Memory, kind_kept, retyped}

-- one dimension, and the types, where a memory is known
row_as : (place : ℕ) (kind : Kind) (o x : Option PlainSymbol) → o ≡ x → one_row place (rank_if kind o) ≡ one_row place (rank_if kind x)
row_as place kind o x e = ap (λ y. one_row place (rank_if kind y)) e

types_as : (a b : ℕ) (chip outer index x y z : Option PlainSymbol) → chip ≡ x → outer ≡ y → index ≡ z → sparse_types a b chip outer index ≡ sparse_types a b x y z
types_as a b chip outer index x y z e f g = ap (λ c. sparse_types a b c outer index) e ∙ ap (λ c. sparse_types a b x c index) f ∙ ap (λ c. sparse_types a b x y c) g

same_types : (a b : ℕ) (ty : Ty) (dims outer place_dims : List ℕ) → sparse_types a b (a_memory Sram ty dims) (a_memory Dram ty outer) (a_memory Sram int_type place_dims) ≡ []
same_types a b ty dims outer place_dims = none.two (types_differ (Some ty) (Some ty) a) (types_differ (Some int_type) (Some int_type) b) (types_none ty ty a refl) (types_none int_type int_type b refl)

module _ (seen : Visible) (place : ℕ) (sram dram places : PlainIdent) (count : PlainExpr) where
  abbrev gather_rows : List Refusal
  gather_rows = rows place (rank_if Sram (symbol_of seen sram.text)) (rank_if Dram (symbol_of seen dram.text)) (rank_if Sram (symbol_of seen places.text))

  abbrev scatter_rows : List Refusal
  scatter_rows = rows place (rank_if Dram (symbol_of seen dram.text)) (rank_if Sram (symbol_of seen places.text)) (rank_if Sram (symbol_of seen sram.text))

  abbrev types_of : List Refusal
  types_of = sparse_types sram.place places.place (symbol_of seen sram.text) (symbol_of seen dram.text) (symbol_of seen places.text)

  abbrev pub gather_all : List Refusal
  gather_all = kind_use seen Sram sram ++ kind_use seen Dram dram ++ kind_use seen Sram places ++ gather_rows ++ types_of ++ bound_refusals seen count

  abbrev pub scatter_all : List Refusal
  scatter_all = kind_use seen Dram dram ++ kind_use seen Sram places ++ kind_use seen Sram sram ++ scatter_rows ++ types_of ++ bound_refusals seen count

  row_none : (i : PlainIdent) (kind : Kind) (ty : Ty) (dims : List ℕ) → IsMemory seen i kind ty dims → rank_if kind (a_memory kind ty dims) ≡ Some (length dims) → 1 ≡ length dims
      → one_row place (rank_if kind (symbol_of seen i.text)) ≡ []
  row_none i kind ty dims n r e = row_as place kind (symbol_of seen i.text) _ n.is ∙ ap (one_row place) r ∙ count_none place 1 (length dims) e

  types_right : IsSparse seen sram dram places count → types_of ≡ []
  types_right h =
      types_as sram.place places.place (symbol_of seen sram.text) (symbol_of seen dram.text) (symbol_of seen places.text) _ _ _ h.on_chip.is h.of_dram.is h.at_places.is
      ∙ same_types sram.place places.place h.ty h.dims h.outer h.place_dims

  sram_row : IsSparse seen sram dram places count → one_row place (rank_if Sram (symbol_of seen sram.text)) ≡ []
  sram_row h = row_none sram Sram h.ty h.dims h.on_chip refl h.one_row

  dram_row : IsSparse seen sram dram places count → one_row place (rank_if Dram (symbol_of seen dram.text)) ≡ []
  dram_row h = row_none dram Dram h.ty h.outer h.of_dram refl h.one_column

  places_row : IsSparse seen sram dram places count → one_row place (rank_if Sram (symbol_of seen places.text)) ≡ []
  places_row h = row_none places Sram int_type h.place_dims h.at_places refl h.one_list

  pub gather_none : IsSparse seen sram dram places count → gather_all ≡ []
  gather_none h =
      none.three (kind_use seen Sram sram ++ kind_use seen Dram dram ++ kind_use seen Sram places ++ gather_rows) types_of (bound_refusals seen count)
      (none.four (kind_use seen Sram sram) (kind_use seen Dram dram) (kind_use seen Sram places) gather_rows
      (kind_none seen sram Sram h.ty h.dims h.on_chip) (kind_none seen dram Dram h.ty h.outer h.of_dram) (kind_none seen places Sram int_type h.place_dims h.at_places)
      (none.three (one_row place (rank_if Sram (symbol_of seen sram.text))) (one_row place (rank_if Dram (symbol_of seen dram.text))) (one_row place (rank_if Sram (symbol_of seen places.text)))
      (sram_row h) (dram_row h) (places_row h)))
      (types_right h) (bound_none seen count h.how_many)

  pub scatter_none : IsSparse seen sram dram places count → scatter_all ≡ []
  scatter_none h =
      none.three (kind_use seen Dram dram ++ kind_use seen Sram places ++ kind_use seen Sram sram ++ scatter_rows) types_of (bound_refusals seen count)
      (none.four (kind_use seen Dram dram) (kind_use seen Sram places) (kind_use seen Sram sram) scatter_rows
      (kind_none seen dram Dram h.ty h.outer h.of_dram) (kind_none seen places Sram int_type h.place_dims h.at_places) (kind_none seen sram Sram h.ty h.dims h.on_chip)
      (none.three (one_row place (rank_if Dram (symbol_of seen dram.text))) (one_row place (rank_if Sram (symbol_of seen places.text))) (one_row place (rank_if Sram (symbol_of seen sram.text)))
      (dram_row h) (places_row h) (sram_row h)))
      (types_right h) (bound_none seen count h.how_many)

  -- ---- and the other way round

  row_kept : (i : PlainIdent) (kind : Kind) (m : Memory seen i kind) → rank_if kind (a_memory kind m.ty m.dims) ≡ Some (length m.dims) → one_row place (rank_if kind (symbol_of seen i.text)) ≡ [] → 1 ≡ length m.dims
  row_kept i kind m r none = counted place 1 (length m.dims) (ap (one_row place) (sym r) ∙ sym (row_as place kind (symbol_of seen i.text) _ m.named.is) ∙ none)

  sparse_from : (c : Memory seen sram Sram) (d : Memory seen dram Dram) (l : Memory seen places Sram) → HaveTypes seen → IsReadExpr count
      → one_row place (rank_if Sram (symbol_of seen sram.text)) ≡ [] → one_row place (rank_if Dram (symbol_of seen dram.text)) ≡ [] → one_row place (rank_if Sram (symbol_of seen places.text)) ≡ []
      → types_of ≡ [] → bound_refusals seen count ≡ [] → IsSparse seen sram dram places count
  sparse_from c d l types read first second third none bound =
      let e = sym (types_as sram.place places.place (symbol_of seen sram.text) (symbol_of seen dram.text) (symbol_of seen places.text) _ _ _ c.named.is d.named.is l.named.is) ∙ none in
      let f = both_none (types_differ (Some d.ty) (Some c.ty) sram.place) (types_differ (Some int_type) (Some l.ty) places.place) e in
      record {
        ty = c.ty;
        dims = c.dims;
        outer = d.dims;
        place_dims = l.dims;
        on_chip = c.named;
        of_dram = retyped seen dram Dram d.ty c.ty d.dims (types_kept d.ty c.ty sram.place f.0) d.named;
        at_places = retyped seen places Sram l.ty int_type l.dims (sym (types_kept int_type l.ty places.place f.1)) l.named;
        one_row = row_kept sram Sram c refl first;
        one_column = row_kept dram Dram d refl second;
        one_list = row_kept places Sram l refl third;
        how_many = bound_kept seen types count read bound;
      }

  pub gather_kept : HaveTypes seen → IsReadExpr count → gather_all ≡ [] → IsSparse seen sram dram places count
  gather_kept types read none =
      let f = three_none (kind_use seen Sram sram ++ kind_use seen Dram dram ++ kind_use seen Sram places ++ gather_rows) types_of (bound_refusals seen count) none in
      let g = four_none (kind_use seen Sram sram) (kind_use seen Dram dram) (kind_use seen Sram places) gather_rows f.0 in
      let r = three_none (one_row place (rank_if Sram (symbol_of seen sram.text))) (one_row place (rank_if Dram (symbol_of seen dram.text))) (one_row place (rank_if Sram (symbol_of seen places.text))) g.3 in
      sparse_from (kind_kept seen types sram Sram g.0) (kind_kept seen types dram Dram g.1) (kind_kept seen types places Sram g.2) types read r.0 r.1 r.2 f.1 f.2

  pub scatter_kept : HaveTypes seen → IsReadExpr count → scatter_all ≡ [] → IsSparse seen sram dram places count
  scatter_kept types read none =
      let f = three_none (kind_use seen Dram dram ++ kind_use seen Sram places ++ kind_use seen Sram sram ++ scatter_rows) types_of (bound_refusals seen count) none in
      let g = four_none (kind_use seen Dram dram) (kind_use seen Sram places) (kind_use seen Sram sram) scatter_rows f.0 in
      let r = three_none (one_row place (rank_if Dram (symbol_of seen dram.text))) (one_row place (rank_if Sram (symbol_of seen places.text))) (one_row place (rank_if Sram (symbol_of seen sram.text))) g.3 in
      sparse_from (kind_kept seen types sram Sram g.2) (kind_kept seen types dram Dram g.0) (kind_kept seen types places Sram g.1) types read r.2 r.0 r.1 f.1 f.2
