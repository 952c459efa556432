-- Transfers without refusals.
use Rattle.std.proofs.Common.{◌≡◌, ℕ, Bool, true, false, ◌||◌, List, [], ◌++◌, length, Some, IsTrue, refl, sym, ap, subst, ◌∙◌, inl, inr}
use Rattle.std.specs.Prelude.{All, ◌⊎◌}
use Rattle.sp_words.specs.declared.kind.Kind.{Kind}
use Rattle.sp_words.specs.declared.kind.Kind.TheVariants.{Sram, LineBuf, Dram}
use Rattle.sp_words.specs.declared.types.Ty.{Ty}
use Rattle.sp_words.specs.Types.{int_type}
use Rattle.sp_reader.specs.PlainTree.{PlainIdent, PlainExpr}
use Rattle.sp_reader.specs.PlainStatement.{PlainSpan, load, store, gather, scatter}
use Rattle.sp_tree.specs.Footprint.{StmtKindNames, SpansName}
use Rattle.sp_tree.specs.PlainStatement as program
use Rattle.sp_tree.specs.PlainProgram.{PlainProgram}
use Rattle.sp_tree.specs.Typing.{Scope, IsMem, IsSlice, IsSparse, HasTypeStill, mem_at, StmtTyped, all_but, after}
use Rattle.sp_types.specs.Expressions as rule
use Rattle.sp_types.specs.Spans.{bound, bound_refusals, spans_refusals, line_ranges}
use Rattle.sp_types.specs.Spans as counts
use Rattle.sp_types.specs.Statements.{kind_use, loaded_use, types_differ, load_refusals, store_refusals, rank_if, rows, one_row, sparse_types, type_if}
use Rattle.sp_types.specs.Visible.{memory, Visible, symbol_of}
use Rattle.sp_typed.proofs.ExpressionLemmas.{same_type}
use Rattle.sp_typed.proofs.NoneLemmas.{both_none, three_none, four_none, not_noted, was_true}
use Rattle.sp_typed.proofs.SpanLemmas.{spans_right}
use Rattle.sp_typed.proofs.StillLemmas.{still_right}
use Rattle.sp_typed.specs.Expressions.{number_of, symbol_at, is_line, typed}
use Rattle.sp_typed.specs.Named.{Here}
use Rattle.sp_typed.specs.ReadTree.{IsReadExpr, IsReadSpan}
use Rattle.sp_typed.specs.Statements.{load_typed, spans_typed}
use Rattle.sp_typing.specs.Places.{Place, StmtRight}
use Rattle.sp_typing.proofs.AloneLemmas.{expr_alone, spans_alone}
use Rattle.sp_typing.proofs.SliceLemmas.{ranges_counted, spans_counted, line_ends}
use Rattle.sp_typing.proofs.UsedLemmas.{Kept, Meaning, meaning, kept, kept_meaning, kept_alone}
use Rattle.sp_typing.proofs.WriteLemmas.{counted}

-- ---- loads by what is loaded

load_after : (scope : Scope) (b : Bool) (m n : ℕ) (spans : List program.PlainSpan) → after scope (load_typed b m n spans) ≡ scope
load_after scope true m n spans = refl
load_after scope false m n spans = refl

load_names : (is : ℕ → Bool) (b : Bool) (m n : ℕ) (spans : List program.PlainSpan) → IsTrue (is m) → IsTrue (is n) → SpansName is spans → StmtKindNames is (load_typed b m n spans)
load_names is true m n spans h k s = (h, k, s)
load_names is false m n spans h k s = (h, k, s)

either_kind : (a b : Bool) → (a || b) ≡ true → (a ≡ true) ⊎ (b ≡ true)
either_kind true b e = inl refl
either_kind false b e = inr e

same_types : (want got : Ty) (place : ℕ) → types_differ (Some want) (Some got) place ≡ [] → want ≡ got
same_types want got place none = same_type want got (was_true _ (not_noted _ _ none))

module _ (p : PlainProgram) (scope : Scope) (here : Here) (seen : Visible) (at : Place p scope here.names seen.names) where
  its_type : (i : PlainIdent) (kind : Kind) → Kept p scope here seen i kind → IsMem p scope (number_of here i) kind (mem_at p (number_of here i)).ty
  its_type i kind k = record { seen = k.mem.seen; is_kind = k.mem.is_kind; is_type = refl }

  -- a DRAM and a memory on the chip of one type
  of_type : (i j : PlainIdent) (kind other : Kind) (d : Kept p scope here seen i kind) (c : Kept p scope here seen j other) → d.ty ≡ c.ty
      → IsMem p scope (number_of here i) kind (mem_at p (number_of here j)).ty
  of_type i j kind other d c e = record { seen = d.mem.seen; is_kind = d.mem.is_kind; is_type = d.mem.is_type ∙ e ∙ sym c.mem.is_type }

  slice_right : (i j : PlainIdent) (kind : Kind) (may : Bool) (spans : List PlainSpan) (d : Kept p scope here seen i Dram) (c : Kept p scope here seen j kind) → d.ty ≡ c.ty
      → length d.dims ≡ length spans → All IsReadSpan spans → spans_refusals seen may spans ≡ [] → IsSlice p scope (number_of here i) (mem_at p (number_of here j)).ty (spans_typed here spans)
  slice_right i j kind may spans d c e many read none = record {
    from_dram = of_type i j Dram kind d c e;
    spans_typed = (spans_right p scope here seen at.agree at.same may spans read none).bounds;
    span_for_each = spans_counted here spans ∙ sym many ∙ ap length (sym d.dims_are);
  }

  -- what the rules of a load and a store say where both memories are known
  load_sram_parts : (place a : ℕ) (i j : PlainIdent) (spans : List PlainSpan) (d : Kept p scope here seen i Dram) (c : Kept p scope here seen j Sram)
      → load_refusals place a (symbol_of seen j.text) (symbol_of seen i.text) spans ≡ [] → (d.ty ≡ c.ty) × (length d.dims ≡ length spans) × (length c.dims ≡ counts.range_count spans)
  load_sram_parts place a i j spans d c none =
      let e : load_refusals place a (Some (memory Sram (Some c.ty) c.dims)) (Some (memory Dram (Some d.ty) d.dims)) spans ≡ [] =
      ap (λ x. load_refusals place a (Some (memory Sram (Some c.ty) c.dims)) x spans) (sym d.seen_as) ∙ ap (λ x. load_refusals place a x (symbol_of seen i.text) spans) (sym c.seen_as) ∙ none in
      let f = four_none (types_differ (Some d.ty) (Some c.ty) a) (rule.count_refusals place (length d.dims) (length spans)) (rule.count_refusals place (length c.dims) (counts.range_count spans)) [] e in
      (same_types d.ty c.ty a f.0, counted (length d.dims) (length spans) place f.1, counted (length c.dims) (counts.range_count spans) place f.2)

  load_line_parts : (place a : ℕ) (i j : PlainIdent) (spans : List PlainSpan) (d : Kept p scope here seen i Dram) (c : Kept p scope here seen j LineBuf)
      → load_refusals place a (symbol_of seen j.text) (symbol_of seen i.text) spans ≡ [] → (d.ty ≡ c.ty) × (length d.dims ≡ length spans) × (1 ≡ line_ranges spans)
  load_line_parts place a i j spans d c none =
      let e : load_refusals place a (Some (memory LineBuf (Some c.ty) c.dims)) (Some (memory Dram (Some d.ty) d.dims)) spans ≡ [] =
      ap (λ x. load_refusals place a (Some (memory LineBuf (Some c.ty) c.dims)) x spans) (sym d.seen_as) ∙ ap (λ x. load_refusals place a x (symbol_of seen i.text) spans) (sym c.seen_as) ∙ none in
      let f = four_none (types_differ (Some d.ty) (Some c.ty) a) (rule.count_refusals place (length d.dims) (length spans)) [] (rule.count_refusals place 1 (line_ranges spans)) e in
      (same_types d.ty c.ty a f.0, counted (length d.dims) (length spans) place f.1, counted 1 (line_ranges spans) place f.3)

  load_at : (onto from : PlainIdent) (place : ℕ) (spans : List PlainSpan) (kind : Kind) (b : Bool) (c : Kept p scope here seen onto kind) (d : Kept p scope here seen from Dram) → All IsReadSpan spans
      → spans_refusals seen (rule.may_be Sram (symbol_of seen onto.text)) spans ≡ []
      → is_line (symbol_at here onto) ≡ b → StmtTyped p scope (load_typed b (number_of here onto) (number_of here from) (spans_typed here spans)) → StmtRight p scope here seen (load onto from spans)
  load_at onto from place spans kind b c d read none e typed_right =
      let chip = number_of here onto in
      let dram = number_of here from in
      let inner = spans_typed here spans in
      let P : Bool → Type 0 = λ x. StmtTyped p scope (load_typed x chip dram inner) in
      let Q : Scope → Type 0 = λ sc. Place p sc here.names seen.names in
      record {
        typed = subst P (sym e) typed_right;
        alone = λ acc around. load_names (all_but p acc) (is_line (symbol_at here onto)) chip dram inner (kept_alone p scope here seen onto kind acc c around) (kept_alone p scope here seen from Dram acc d around)
            (spans_alone p scope here seen at acc around (rule.may_be Sram (symbol_of seen onto.text)) spans read none);
        next = subst Q (sym (load_after scope (is_line (symbol_at here onto)) chip dram inner)) at;
      }

  pub load_right : (onto from : PlainIdent) (place : ℕ) (spans : List PlainSpan) → All IsReadSpan spans
      → loaded_use seen onto ++ kind_use seen Dram from ++ load_refusals place onto.place (symbol_of seen onto.text) (symbol_of seen from.text) spans
      ++ spans_refusals seen (rule.may_be Sram (symbol_of seen onto.text)) spans ≡ []
      → StmtRight p scope here seen (load onto from spans)
  load_right onto from place spans read none =
      let symbol = symbol_of seen onto.text in
      let f = four_none (loaded_use seen onto) (kind_use seen Dram from) (load_refusals place onto.place symbol (symbol_of seen from.text) spans) (spans_refusals seen (rule.may_be Sram symbol) spans) none in
      let g = both_none (rule.name_refusals seen onto) _ f.0 in
      let m = meaning p scope here seen at onto g.0 in
      let d = kept p scope here seen at from Dram f.1 in
      by m d f.2 f.3 (either_kind (rule.may_be Sram symbol) (rule.may_be LineBuf symbol) (was_true _ (not_noted _ _ g.1)))
    where
      by : Meaning p scope here seen onto → Kept p scope here seen from Dram → load_refusals place onto.place (symbol_of seen onto.text) (symbol_of seen from.text) spans ≡ []
          → spans_refusals seen (rule.may_be Sram (symbol_of seen onto.text)) spans ≡ []
          → (rule.may_be Sram (symbol_of seen onto.text) ≡ true) ⊎ (rule.may_be LineBuf (symbol_of seen onto.text) ≡ true) → StmtRight p scope here seen (load onto from spans)
      by m d parts none_of (inl may) =
          let c = kept_meaning p scope here seen at onto Sram m may in
          let k = load_sram_parts place onto.place from onto spans d c parts in
          let s = spans_right p scope here seen at.agree at.same (rule.may_be Sram (symbol_of seen onto.text)) spans read none_of in
          load_at onto from place spans Sram false c d read none_of (ap is_line c.is) (
            its_type onto Sram c,
            slice_right from onto Sram (rule.may_be Sram (symbol_of seen onto.text)) spans d c k.0 k.1 read none_of,
            ranges_counted here spans ∙ sym k.2 ∙ ap length (sym c.dims_are),
            s.one_range may,
          )
      by m d parts none_of (inr may) =
          let c = kept_meaning p scope here seen at onto LineBuf m may in
          let k = load_line_parts place onto.place from onto spans d c parts in
          let s = spans_right p scope here seen at.agree at.same (rule.may_be Sram (symbol_of seen onto.text)) spans read none_of in
          load_at onto from place spans LineBuf true c d read none_of (ap is_line c.is) (
            its_type onto LineBuf c,
            slice_right from onto LineBuf (rule.may_be Sram (symbol_of seen onto.text)) spans d c k.0 k.1 read none_of,
            line_ends here spans k.2,
            s.no_range (ap (rule.may_be Sram) c.seen_as),
          )

  -- ---- stores

  store_parts : (place a : ℕ) (i j : PlainIdent) (spans : List PlainSpan) (d : Kept p scope here seen i Dram) (c : Kept p scope here seen j Sram)
      → store_refusals place a (symbol_of seen j.text) (symbol_of seen i.text) spans ≡ [] → (d.ty ≡ c.ty) × (length d.dims ≡ length spans) × (length c.dims ≡ counts.range_count spans)
  store_parts place a i j spans d c none =
      let e : store_refusals place a (Some (memory Sram (Some c.ty) c.dims)) (Some (memory Dram (Some d.ty) d.dims)) spans ≡ [] =
      ap (λ x. store_refusals place a (Some (memory Sram (Some c.ty) c.dims)) x spans) (sym d.seen_as) ∙ ap (λ x. store_refusals place a x (symbol_of seen i.text) spans) (sym c.seen_as) ∙ none in
      let f = three_none (types_differ (Some d.ty) (Some c.ty) a) (rule.count_refusals place (length d.dims) (length spans)) (rule.count_refusals place (length c.dims) (counts.range_count spans)) e in
      (same_types d.ty c.ty a f.0, counted (length d.dims) (length spans) place f.1, counted (length c.dims) (counts.range_count spans) place f.2)

  pub store_right : (onto from : PlainIdent) (place : ℕ) (spans : List PlainSpan) → All IsReadSpan spans
      → kind_use seen Dram onto ++ kind_use seen Sram from ++ store_refusals place from.place (symbol_of seen from.text) (symbol_of seen onto.text) spans
      ++ spans_refusals seen (rule.may_be Sram (symbol_of seen from.text)) spans ≡ []
      → StmtRight p scope here seen (store onto spans from)
  store_right onto from place spans read none =
      let may = rule.may_be Sram (symbol_of seen from.text) in
      let f = four_none (kind_use seen Dram onto) (kind_use seen Sram from) (store_refusals place from.place (symbol_of seen from.text) (symbol_of seen onto.text) spans) (spans_refusals seen may spans) none in
      let d = kept p scope here seen at onto Dram f.0 in
      let c = kept p scope here seen at from Sram f.1 in
      let k = store_parts place from.place onto from spans d c f.2 in
      let s = spans_right p scope here seen at.agree at.same may spans read f.3 in
      record {
        typed = (
          its_type from Sram c,
          slice_right onto from Sram may spans d c k.0 k.1 read f.3,
          ranges_counted here spans ∙ sym k.2 ∙ ap length (sym c.dims_are),
          s.one_range (ap (rule.may_be Sram) c.seen_as),
        );
        alone = λ acc around. (
          kept_alone p scope here seen from Sram acc c around,
          kept_alone p scope here seen onto Dram acc d around,
          spans_alone p scope here seen at acc around may spans read f.3,
        );
        next = at;
      }

  -- ---- sparse transfers

  one_dimension : (i : PlainIdent) (kind : Kind) (place : ℕ) (k : Kept p scope here seen i kind) → one_row place (Some (length k.dims)) ≡ [] → length (mem_at p (number_of here i)).dims ≡ 1
  one_dimension i kind place k none = ap length k.dims_are ∙ sym (counted 1 (length k.dims) place none)

  ranked : (kind : Kind) (i : PlainIdent) (k : Kept p scope here seen i kind) → rank_if kind (Some (memory kind (Some k.ty) k.dims)) ≡ rank_if kind (symbol_of seen i.text)
  ranked kind i k = ap (rank_if kind) (sym k.seen_as)

  typed_if : (kind : Kind) (i : PlainIdent) (k : Kept p scope here seen i kind) → type_if kind (Some (memory kind (Some k.ty) k.dims)) ≡ type_if kind (symbol_of seen i.text)
  typed_if kind i k = ap (type_if kind) (sym k.seen_as)

  -- the two memories of one type, and the places of type `Int`
  sparse_parts : (a b : ℕ) (i j l : PlainIdent) (d : Kept p scope here seen i Dram) (c : Kept p scope here seen j Sram) (places : Kept p scope here seen l Sram)
      → sparse_types a b (symbol_of seen j.text) (symbol_of seen i.text) (symbol_of seen l.text) ≡ [] → (d.ty ≡ c.ty) × (int_type ≡ places.ty)
  sparse_parts a b i j l d c places none =
      let e : sparse_types a b (Some (memory Sram (Some c.ty) c.dims)) (Some (memory Dram (Some d.ty) d.dims)) (Some (memory Sram (Some places.ty) places.dims)) ≡ [] =
      ap (λ x. sparse_types a b (Some (memory Sram (Some c.ty) c.dims)) (Some (memory Dram (Some d.ty) d.dims)) x) (sym places.seen_as)
      ∙ ap (λ x. sparse_types a b (Some (memory Sram (Some c.ty) c.dims)) x (symbol_of seen l.text)) (sym d.seen_as)
      ∙ ap (λ x. sparse_types a b x (symbol_of seen i.text) (symbol_of seen l.text)) (sym c.seen_as) ∙ none in
      let f = both_none (types_differ (Some d.ty) (Some c.ty) a) (types_differ (Some int_type) (Some places.ty) b) e in
      (same_types d.ty c.ty a f.0, same_types int_type places.ty b f.1)

  still_count : (count : PlainExpr) → IsReadExpr count → bound_refusals seen count ≡ [] → HasTypeStill p scope int_type (typed here int_type count)
  still_count count read none = still_right p scope here seen at.agree at.same bound int_type count refl refl read none

  sparse_right : (i j l : PlainIdent) (count : PlainExpr) (place : ℕ) (d : Kept p scope here seen i Dram) (c : Kept p scope here seen j Sram) (places : Kept p scope here seen l Sram)
      → (d.ty ≡ c.ty) × (int_type ≡ places.ty) → one_row place (Some (length d.dims)) ≡ [] → one_row place (Some (length places.dims)) ≡ []
      → HasTypeStill p scope int_type (typed here int_type count) → IsSparse p scope (number_of here i) (mem_at p (number_of here j)).ty (number_of here l) (typed here int_type count)
  sparse_right i j l count place d c places e one_d one_p still = record {
    in_dram = of_type i j Dram Sram d c e.0;
    one_dimension = one_dimension i Dram place d one_d;
    from_sram = record { seen = places.mem.seen; is_kind = places.mem.is_kind; is_type = places.mem.is_type ∙ sym e.1 };
    one_row = one_dimension l Sram place places one_p;
    how_many = still;
  }

  pub gather_right : (onto from places : PlainIdent) (place : ℕ) (count : PlainExpr) → IsReadExpr count
      → kind_use seen Sram onto ++ kind_use seen Dram from ++ kind_use seen Sram places
      ++ rows place (rank_if Sram (symbol_of seen onto.text)) (rank_if Dram (symbol_of seen from.text)) (rank_if Sram (symbol_of seen places.text))
      ++ sparse_types onto.place places.place (symbol_of seen onto.text) (symbol_of seen from.text) (symbol_of seen places.text)
      ++ bound_refusals seen count ≡ []
      → StmtRight p scope here seen (gather onto from places count)
  gather_right onto from places place count read none =
      let f = both_none _ (bound_refusals seen count) none in
      let g = both_none _ (sparse_types onto.place places.place (symbol_of seen onto.text) (symbol_of seen from.text) (symbol_of seen places.text)) f.0 in
      let h = four_none (kind_use seen Sram onto) (kind_use seen Dram from) (kind_use seen Sram places) _ g.0 in
      let c = kept p scope here seen at onto Sram h.0 in
      let d = kept p scope here seen at from Dram h.1 in
      let l = kept p scope here seen at places Sram h.2 in
      let r = three_none (one_row place (rank_if Sram (symbol_of seen onto.text))) (one_row place (rank_if Dram (symbol_of seen from.text))) (one_row place (rank_if Sram (symbol_of seen places.text))) h.3 in
      record {
        typed = (
          its_type onto Sram c,
          sparse_right from onto places count place d c l (sparse_parts onto.place places.place from onto places d c l g.1)
              (ap (one_row place) (ranked Dram from d) ∙ r.1) (ap (one_row place) (ranked Sram places l) ∙ r.2) (still_count count read f.1),
          one_dimension onto Sram place c (ap (one_row place) (ranked Sram onto c) ∙ r.0),
        );
        alone = λ acc around. (
          kept_alone p scope here seen onto Sram acc c around,
          kept_alone p scope here seen from Dram acc d around,
          kept_alone p scope here seen places Sram acc l around,
          expr_alone p scope here seen at acc around bound int_type count read f.1,
        );
        next = at;
      }

  pub scatter_right : (onto places from : PlainIdent) (place : ℕ) (count : PlainExpr) → IsReadExpr count
      → kind_use seen Dram onto ++ kind_use seen Sram places ++ kind_use seen Sram from
      ++ rows place (rank_if Dram (symbol_of seen onto.text)) (rank_if Sram (symbol_of seen places.text)) (rank_if Sram (symbol_of seen from.text))
      ++ sparse_types from.place places.place (symbol_of seen from.text) (symbol_of seen onto.text) (symbol_of seen places.text)
      ++ bound_refusals seen count ≡ []
      → StmtRight p scope here seen (scatter onto places count from)
  scatter_right onto places from place count read none =
      let f = both_none _ (bound_refusals seen count) none in
      let g = both_none _ (sparse_types from.place places.place (symbol_of seen from.text) (symbol_of seen onto.text) (symbol_of seen places.text)) f.0 in
      let h = four_none (kind_use seen Dram onto) (kind_use seen Sram places) (kind_use seen Sram from) _ g.0 in
      let d = kept p scope here seen at onto Dram h.0 in
      let l = kept p scope here seen at places Sram h.1 in
      let c = kept p scope here seen at from Sram h.2 in
      let r = three_none (one_row place (rank_if Dram (symbol_of seen onto.text))) (one_row place (rank_if Sram (symbol_of seen places.text))) (one_row place (rank_if Sram (symbol_of seen from.text))) h.3 in
      record {
        typed = (
          its_type from Sram c,
          sparse_right onto from places count place d c l (sparse_parts from.place places.place onto from places d c l g.1)
              (ap (one_row place) (ranked Dram onto d) ∙ r.0) (ap (one_row place) (ranked Sram places l) ∙ r.1) (still_count count read f.1),
          one_dimension from Sram place c (ap (one_row place) (ranked Sram from c) ∙ r.2),
        );
        alone = λ acc around. (
          kept_alone p scope here seen onto Dram acc d around,
          kept_alone p scope here seen places Sram acc l around,
          expr_alone p scope here seen at acc around bound int_type count read f.1,
          kept_alone p scope here seen from Sram acc c around,
        );
        next = at;
      }
