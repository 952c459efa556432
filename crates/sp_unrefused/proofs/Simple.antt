-- Declarations, combiners, writes and transfers of a program's tree without refusals.
use Rattle.std.proofs.Common.{◌≡◌, ℕ, zero, suc, ◌*◌, ◌&&◌, ◌||◌, not, true, false, List, [], ◌++◌, length, Contains, Option, Some, IfSome, is_none, refl, sym, ap, ap₂, ◌∙◌, inl, arith}
use Rattle.std.specs.Str.{bytes_eq}
use Rattle.std.proofs.Math.Nat.{zero-mul, mul-zero, one-mul, mul-one}
use Rattle.std.proofs.lemmas.Nat.{mul-le}
use Rattle.std.proofs.lemmas.Slice.Eq.{bytes_eq-Decides}
use Rattle.sp_words.specs.declared.kind.BinOp.{BinOp}
use Rattle.sp_words.specs.declared.kind.Kind.{Kind}
use Rattle.sp_words.specs.declared.kind.Kind.TheVariants.{Reg, Sram, Fifo, LineBuf, Dram, ArgOut}
use Rattle.sp_words.specs.declared.types.Ty.{Ty}
use Rattle.sp_words.specs.declared.types.Ty.TheVariants.{Fix, Bit}
use Rattle.sp_words.specs.Types.{int_type}
use Rattle.sp_words.specs.Words.{IsWord}
use Rattle.sp_reader.specs.declared.syntax.expression.SynTy.{SynTy}
use Rattle.sp_reader.specs.PlainTree as tree
use Rattle.sp_reader.specs.PlainStatement as tree_of
use Rattle.sp_tree.specs.declared.statement.Comb.{Comb}
use Rattle.sp_tree.specs.Declarations.{IsDeclaration}
use Rattle.sp_tree.specs.PlainExpression.{PlainExpr, PlainExprs, type_of}
use Rattle.sp_tree.specs.PlainProgram.{PlainProgram}
use Rattle.sp_tree.specs.PlainStatement as program
use Rattle.sp_tree.specs.Structure.{slice_lanes}
use Rattle.sp_tree.specs.Typing.{Scope, IsMem, IsNumber, IsSlice, IsSparse, CombTyped, EndsInRange, mem_at, IsFresh, range_count, StmtTyped}
use Rattle.sp_tree.specs.Footprint.{StmtKindNames}
use Rattle.sp_tree.specs.Typing.{all_but}
use Rattle.sp_printer.specs.Names.{names_in}
use Rattle.sp_printed.specs.Trees.{IsTypeTree, IsTree, AreTrees}
use Rattle.sp_printed.specs.LoopTrees.{IsCombOperator, IsCombTree, IsSpanTree, AreSpanTrees}
use Rattle.sp_printed.specs.StatementTrees.{IsStartTree, IsDeclareTree}
use Rattle.sp_types.specs.declared.own.Own.TheVariants.{Known}
use Rattle.sp_types.specs.Expressions.{literal_refusals, other_type, at_type, expr_refusals, index_count, may_be}
use Rattle.sp_types.specs.Literal.{literal_word}
use Rattle.sp_types.specs.Spans as rule
use Rattle.sp_types.specs.Spans.{twice, combines_numbers, is_bit_type, comb_names, other_name, comb_refusals, spans_refusals, line_ranges, ends_in_range}
use Rattle.sp_types.specs.Statements.{declaration_refusals, start_refusals, bare_write, indexed_write, loaded_use, load_refusals, store_refusals, rank_if, one_row, type_if, stmt_refusals}
use Rattle.sp_types.specs.Types.{is_type, own_type, symbol_type, type_of as written_type}
use Rattle.sp_types.specs.Visible.{memory, Visible, symbol_of}
use Rattle.sp_typed.specs.Named.{Here}
use Rattle.sp_retyped.proofs.Declared.{start_at}
use Rattle.sp_retyped.proofs.Names.{none_if, two_none, three_none}
use Rattle.sp_retyped.proofs.Quiet.{type_none, counts_are}
use Rattle.sp_retyped.proofs.Values.{type_is, same_type, literal_is}
use Rattle.sp_unrefused.specs.Placed.{Placed}
use Rattle.sp_unrefused.proofs.Free.{Spares, right_at, rows_right}
use Rattle.sp_unrefused.proofs.Places.{twice_none}
use Rattle.sp_unrefused.proofs.Uses.{Used, used, types_none, count_none, spans_right, spans_length, ranges_same, SpansSpare, par_none}

-- ---- lists

pub four_none : {A : Type 0} (a b c d : List A) → a ≡ [] → b ≡ [] → c ≡ [] → d ≡ [] → a ++ b ++ c ++ d ≡ []
four_none a b c d x y z w = rw (x, y, z, w) refl

pub five_none : {A : Type 0} (a b c d e : List A) → a ≡ [] → b ≡ [] → c ≡ [] → d ≡ [] → e ≡ [] → a ++ b ++ c ++ d ++ e ≡ []
five_none a b c d e x y z w v = rw (x, y, z, w, v) refl

pub six_none : {A : Type 0} (a b c d e f : List A) → a ≡ [] → b ≡ [] → c ≡ [] → d ≡ [] → e ≡ [] → f ≡ [] → a ++ b ++ c ++ d ++ e ++ f ≡ []
six_none a b c d e f x y z w v u = rw (x, y, z, w, v, u) refl

-- ---- declarations

declaration_none : (seen : Visible) (i : tree.PlainIdent) {ty : Ty} {t : SynTy} → twice seen i ≡ [] → IsTypeTree ty t → declaration_refusals seen i t ≡ []
declaration_none seen i {ty} {t} fresh is = two_none _ _ fresh (type_none is)

literal_none : (place : ℕ) (want : Option Ty) (d : tree.PlainDigits) (ty : Ty) (w : ℕ) → want ≡ Some ty → literal_word ty d ≡ Some w → literal_refusals place want d ≡ []
literal_none place want d ty w e word = ap (λ x. literal_refusals place x d) e ∙ none_if (is_none (literal_word ty d)) _ (ap is_none word)

pub start_none : {ty : Ty} {start : Option ℕ} {l : Option tree.PlainLit} {t : SynTy} → IsTypeTree ty t → IsStartTree ty start l → IfSome start (λ w. IsWord ty w) → start_refusals (written_type t) l ≡ []
start_none is IsStartTree.none h = refl
start_none {t = u} is (IsStartTree.number {t = t} {w = w} {d = d} e l) h = literal_none d.place (written_type u) d (Fix t) w (type_is is) (literal_is t w d h l)
start_none {t = u} is (IsStartTree.typed_number {t = t} {w = w} {d = d} {target = target} e l ty) h =
    three_none _ _ _ (ap₂ (λ a b. other_type d.place a (own_type b)) (type_is is) (type_is ty) ∙ none_if (not (is_type (Fix t) (Fix t))) _ (ap not (same_type (Fix t))))
    (literal_none d.place (written_type target) d (Fix t) w (type_is ty) (literal_is t w d h l)) (type_none ty)
start_none {t = u} is (IsStartTree.truth {at = at}) h = ap (λ a. other_type at a (Known Bit)) (type_is is)

-- ---- combiners

no_bit : (ty : Ty) → IsNumber ty → is_bit_type (Some ty) ≡ false
no_bit Bit n = absurd (n refl)
no_bit (Fix t) n = refl

numbers_none : {c : Comb} {o : BinOp} (ty : Ty) → IsCombOperator c o → CombTyped c ty → (combines_numbers o && is_bit_type (Some ty)) ≡ false
numbers_none ty IsCombOperator.add h = no_bit ty h
numbers_none ty IsCombOperator.mul h = no_bit ty h
numbers_none ty IsCombOperator.both h = refl
numbers_none ty IsCombOperator.either h = refl
numbers_none ty IsCombOperator.unlike h = refl
numbers_none ty IsCombOperator.least h = no_bit ty h
numbers_none ty IsCombOperator.greatest h = no_bit ty h

same_name : (i j : tree.PlainIdent) → j.text ≡ i.text → other_name i j ≡ []
same_name i j e = none_if (not (bytes_eq j.text i.text)) _ (ap not ((bytes_eq-Decides j.text i.text).1 e))

pub comb_none : {c : Comb} {y : tree_of.PlainComb} (want : Option Ty) (ty : Ty) → want ≡ Some ty → CombTyped c ty → IsCombTree c y → comb_refusals want y ≡ []
comb_none {y = y} want ty e h (IsCombTree.unnamed {o = o} is) = two_none _ [] (none_if (combines_numbers o && is_bit_type want) _ (ap (λ x. combines_numbers o && is_bit_type x) e ∙ numbers_none ty is h)) refl
comb_none {y = y} want ty e h (IsCombTree.named {o = o} {i = i} {j = j} {x = u} {y = v} is first second) =
    two_none _ _ (none_if (combines_numbers o && is_bit_type want) _ (ap (λ x. combines_numbers o && is_bit_type x) e ∙ numbers_none ty is h)) (two_none _ _ (same_name i u first) (same_name j v second))

-- ---- slices of line buffers

one_each : (a b : ℕ) → a * b ≡ 1 → (a ≡ 1) × (b ≡ 1)
one_each zero b e = absurd (omega (arith, zero-mul b, e))
one_each (suc a) zero e = absurd (omega (arith, mul-zero (suc a), e))
one_each (suc a) (suc b) e =
    let first = mul-le (suc a) 1 (suc a) (suc b) (omega arith) (omega arith) in
    let second = mul-le 1 (suc b) (suc a) (suc b) (omega arith) (omega arith) in
    (omega (arith, first, mul-one (suc a), e), omega (arith, second, one-mul (suc b), e))

ends_right : {names : _} {spans : List program.PlainSpan} {xs : List tree_of.PlainSpan} → AreSpanTrees names spans xs → EndsInRange spans → (range_count spans ≡ 1) × (ends_in_range xs ≡ true)
ends_right AreSpanTrees.no_spans h = absurd h
ends_right (AreSpanTrees.more_spans (IsSpanTree.a_range x y par) AreSpanTrees.no_spans) h = (refl, refl)
ends_right (AreSpanTrees.more_spans (IsSpanTree.a_range x y par) (AreSpanTrees.more_spans t ts)) h = absurd h
ends_right (AreSpanTrees.more_spans (IsSpanTree.an_index x) AreSpanTrees.no_spans) h = absurd h
ends_right (AreSpanTrees.more_spans (IsSpanTree.an_index x) (AreSpanTrees.more_spans t ts)) h = ends_right (AreSpanTrees.more_spans t ts) h

line_one : (xs : List tree_of.PlainSpan) → rule.range_count xs ≡ 1 → ends_in_range xs ≡ true → 1 ≡ line_ranges xs
line_one xs count ends = rw (count, ends) refl

module _ (p : PlainProgram) (scope : Scope) (here : Here) (seen : Visible) (accs : List ℕ) (h : Placed p scope here seen accs) where
  -- an expression checked at a type
  pub word_right : {e : PlainExpr} {x : tree.PlainExpr} (want : Option Ty) → want ≡ Some (type_of e) → IsTree (names_in p) e x → Rattle.sp_tree.specs.Typing.Typed p scope e → Spares p accs e → expr_refusals seen (at_type want false) x ≡ []
  word_right want same t typed s = right_at p scope here seen accs h want false t typed same s (λ n. absurd (cc))

  pub still_right : {e : PlainExpr} {x : tree.PlainExpr} (want : Option Ty) (ty : Ty) → want ≡ Some ty → IsTree (names_in p) e x → Rattle.sp_tree.specs.Typing.HasTypeStill p scope ty e → Spares p accs e → expr_refusals seen (at_type want true) x ≡ []
  still_right want ty same t typed s = right_at p scope here seen accs h want true t typed.0.0 (same ∙ ap (λ y. Some y) (sym typed.0.1)) s (λ n. typed.1)

  pub declare_right : (m : ℕ) {x : tree_of.PlainStmtKind} (place : ℕ) → IsDeclareTree (mem_at p m) x → IsFresh p scope (mem_at p m).name → IsDeclaration (mem_at p m) → stmt_refusals seen place x ≡ []
  declare_right m place (IsDeclareTree.a_reg {i = i} k text ty st) fresh d = two_none _ _ (declaration_none seen i (twice_none p scope here seen accs h i _ text fresh) ty) (start_none ty st (start_at (mem_at p m) Reg d k))
  declare_right m place (IsDeclareTree.an_sram {i = i} k text ty) fresh d = declaration_none seen i (twice_none p scope here seen accs h i _ text fresh) ty
  declare_right m place (IsDeclareTree.a_fifo {i = i} k text ty dims) fresh d = declaration_none seen i (twice_none p scope here seen accs h i _ text fresh) ty
  declare_right m place (IsDeclareTree.a_line {i = i} k text ty dims) fresh d = declaration_none seen i (twice_none p scope here seen accs h i _ text fresh) ty

  -- ---- writes

  pub reg_right : (m : ℕ) (e : PlainExpr) (i : tree.PlainIdent) (x : tree.PlainExpr) (place : ℕ) → i.text ≡ (mem_at p m).name → IsTree (names_in p) e x → StmtTyped p scope (program.set_reg m e) → ((a : ℕ) → Contains accs a → StmtKindNames (all_but p a) (program.set_reg m e))
      → stmt_refusals seen place (tree_of.set i x) ≡ []
  reg_right m e i x place text t typed s =
      let u = used p scope here seen accs h i m Reg (type_of e) text typed.0 (λ a at. (s a at).0) in
      two_none _ _ (two_none _ _ u.name (ap (bare_write i.place) u.symbol)) (word_right (symbol_type (symbol_of seen i.text)) (ap symbol_type u.symbol) t typed.1 (λ a at. (s a at).1))

  pub out_right : (m : ℕ) (e : PlainExpr) (i : tree.PlainIdent) (x : tree.PlainExpr) (place : ℕ) → i.text ≡ (mem_at p m).name → IsTree (names_in p) e x → StmtTyped p scope (program.set_out m e) → ((a : ℕ) → Contains accs a → StmtKindNames (all_but p a) (program.set_out m e))
      → stmt_refusals seen place (tree_of.set i x) ≡ []
  out_right m e i x place text t typed s =
      let u = used p scope here seen accs h i m ArgOut (type_of e) text typed.0 (λ a at. (s a at).0) in
      two_none _ _ (two_none _ _ u.name (ap (bare_write i.place) u.symbol)) (word_right (symbol_type (symbol_of seen i.text)) (ap symbol_type u.symbol) t typed.1 (λ a at. (s a at).1))

  pub put_right : (m : ℕ) (e : PlainExpr) (i : tree.PlainIdent) (x : tree.PlainExpr) (place : ℕ) → i.text ≡ (mem_at p m).name → IsTree (names_in p) e x → StmtTyped p scope (program.enq m e) → ((a : ℕ) → Contains accs a → StmtKindNames (all_but p a) (program.enq m e))
      → stmt_refusals seen place (tree_of.enq i x) ≡ []
  put_right m e i x place text t typed s =
      let u = used p scope here seen accs h i m Fifo (type_of e) text typed.0 (λ a at. (s a at).0) in
      two_none _ _ u.use_right (word_right (symbol_type (symbol_of seen i.text)) (ap symbol_type u.symbol) t typed.1 (λ a at. (s a at).1))

  pub element_right : (m : ℕ) (indices : PlainExprs) (e : PlainExpr) (i : tree.PlainIdent) (all : List tree.PlainExpr) (x : tree.PlainExpr) (place : ℕ) → i.text ≡ (mem_at p m).name → AreTrees (names_in p) indices (tree.row all) → IsTree (names_in p) e x
      → StmtTyped p scope (program.set_sram m indices e) → ((a : ℕ) → Contains accs a → StmtKindNames (all_but p a) (program.set_sram m indices e)) → stmt_refusals seen place (tree_of.set_at i all x) ≡ []
  element_right m indices e i all x place text ts t typed s =
      let u = used p scope here seen accs h i m Sram (type_of e) text typed.0 (λ a at. (s a at).0) in
      four_none _ _ _ _ u.name
      (ap (λ o. indexed_write i.place o (index_count (tree.row all))) u.symbol ∙ count_none i.place (length (mem_at p m).dims) (index_count (tree.row all)) (sym typed.1 ∙ sym (counts_are ts)))
      (rows_right p scope here seen accs h ts typed.2 (λ a at. (s a at).1))
      (word_right (symbol_type (symbol_of seen i.text)) (ap symbol_type u.symbol) t typed.3 (λ a at. (s a at).2))

  -- ---- transfers

  load_none : (place at : ℕ) (ty : Ty) (ds es : List ℕ) (xs : List tree_of.PlainSpan) → length es ≡ length xs → length ds ≡ rule.range_count xs → load_refusals place at (Some (memory Sram (Some ty) ds)) (Some (memory Dram (Some ty) es)) xs ≡ []
  load_none place at ty ds es xs spans ranges = four_none _ _ _ [] (types_none (Some ty) (Some ty) ty at refl refl) (count_none place (length es) (length xs) spans) (count_none place (length ds) (rule.range_count xs) ranges) refl

  line_none : (place at : ℕ) (ty : Ty) (ds es : List ℕ) (xs : List tree_of.PlainSpan) → length es ≡ length xs → 1 ≡ line_ranges xs → load_refusals place at (Some (memory LineBuf (Some ty) ds)) (Some (memory Dram (Some ty) es)) xs ≡ []
  line_none place at ty ds es xs spans ranges = four_none _ _ [] _ (types_none (Some ty) (Some ty) ty at refl refl) (count_none place (length es) (length xs) spans) refl (count_none place 1 (line_ranges xs) ranges)

  store_none : (place at : ℕ) (ty : Ty) (ds es : List ℕ) (xs : List tree_of.PlainSpan) → length es ≡ length xs → length ds ≡ rule.range_count xs → store_refusals place at (Some (memory Sram (Some ty) ds)) (Some (memory Dram (Some ty) es)) xs ≡ []
  store_none place at ty ds es xs spans ranges = three_none _ _ _ (types_none (Some ty) (Some ty) ty at refl refl) (count_none place (length es) (length xs) spans) (count_none place (length ds) (rule.range_count xs) ranges)

  loaded_none : (i : tree.PlainIdent) (m : ℕ) (kind : Kind) (ty : Ty) → Used p scope here seen accs h i m kind ty → (may : (may_be Sram (Some (memory kind (Some ty) (mem_at p m).dims)) || may_be LineBuf (Some (memory kind (Some ty) (mem_at p m).dims))) ≡ true) → loaded_use seen i ≡ []
  loaded_none i m kind ty u may = two_none _ _ u.name (none_if (not (may_be Sram (symbol_of seen i.text) || may_be LineBuf (symbol_of seen i.text))) _ (ap (λ s. not (may_be Sram s || may_be LineBuf s)) u.symbol ∙ ap not may))

  pub load_right : (sram dram : ℕ) (spans : List program.PlainSpan) (i j : tree.PlainIdent) (all : List tree_of.PlainSpan) (place : ℕ) → i.text ≡ (mem_at p sram).name → j.text ≡ (mem_at p dram).name → AreSpanTrees (names_in p) spans all
      → StmtTyped p scope (program.load_sram sram dram spans) → ((a : ℕ) → Contains accs a → StmtKindNames (all_but p a) (program.load_sram sram dram spans)) → stmt_refusals seen place (tree_of.load i j all) ≡ []
  load_right sram dram spans i j all place text outer t typed s =
      let ty = (mem_at p sram).ty in
      let u = used p scope here seen accs h i sram Sram ty text typed.0 (λ a at. (s a at).0) in
      let v = used p scope here seen accs h j dram Dram ty outer typed.1.from_dram (λ a at. (s a at).1) in
      four_none _ _ _ _ (loaded_none i sram Sram ty u refl) v.use_right
      (ap₂ (λ c o. load_refusals place i.place c o all) u.symbol v.symbol
      ∙ load_none place i.place ty (mem_at p sram).dims (mem_at p dram).dims all (sym typed.1.span_for_each ∙ sym (spans_length p scope here seen accs h t)) (sym typed.2 ∙ sym (ranges_same p scope here seen accs h t)))
      (ap (λ c. spans_refusals seen (may_be Sram c) all) u.symbol ∙ spans_right p scope here seen accs h t typed.1.spans_typed (λ a at. (s a at).2) typed.3)

  pub store_right : (sram dram : ℕ) (spans : List program.PlainSpan) (i j : tree.PlainIdent) (all : List tree_of.PlainSpan) (place : ℕ) → i.text ≡ (mem_at p dram).name → j.text ≡ (mem_at p sram).name → AreSpanTrees (names_in p) spans all
      → StmtTyped p scope (program.store dram spans sram) → ((a : ℕ) → Contains accs a → StmtKindNames (all_but p a) (program.store dram spans sram)) → stmt_refusals seen place (tree_of.store i all j) ≡ []
  store_right sram dram spans i j all place outer text t typed s =
      let ty = (mem_at p sram).ty in
      let u = used p scope here seen accs h j sram Sram ty text typed.0 (λ a at. (s a at).0) in
      let v = used p scope here seen accs h i dram Dram ty outer typed.1.from_dram (λ a at. (s a at).1) in
      four_none _ _ _ _ v.use_right u.use_right
      (ap₂ (λ c o. store_refusals place j.place c o all) u.symbol v.symbol
      ∙ store_none place j.place ty (mem_at p sram).dims (mem_at p dram).dims all (sym typed.1.span_for_each ∙ sym (spans_length p scope here seen accs h t)) (sym typed.2 ∙ sym (ranges_same p scope here seen accs h t)))
      (ap (λ c. spans_refusals seen (may_be Sram c) all) u.symbol ∙ spans_right p scope here seen accs h t typed.1.spans_typed (λ a at. (s a at).2) typed.3)

  -- a slice of one lane, wherever lanes may stand
  pub one_lane_right : {spans : List program.PlainSpan} {xs : List tree_of.PlainSpan} → AreSpanTrees (names_in p) spans xs → Rattle.sp_tree.specs.Typing.SpansTyped p scope spans → SpansSpare p scope here seen accs h spans → slice_lanes spans ≡ 1 → spans_refusals seen false xs ≡ []
  one_lane_right AreSpanTrees.no_spans t s l = refl
  one_lane_right (AreSpanTrees.more_spans (IsSpanTree.an_index x) ts) t s l =
      two_none _ _ (two_none _ [] (still_right (Some int_type) int_type refl x t.0 (λ a at. (s a at).0)) refl) (one_lane_right ts t.1 (λ a at. (s a at).1) l)
  one_lane_right (AreSpanTrees.more_spans {rest = rest} (IsSpanTree.a_range {par = n} x y par) ts) t s l =
      let each = one_each n (slice_lanes rest) l in
      two_none _ _
      (two_none _ _
      (two_none _ _ (still_right (Some int_type) int_type refl x t.0 (λ a at. (s a at).0)) (still_right (Some int_type) int_type refl y t.1 (λ a at. (s a at).1)))
      (par_none p scope here seen accs h false par (inl each.0)))
      (one_lane_right ts t.3 (λ a at. (s a at).2) each.1)

  pub line_right : (line dram : ℕ) (spans : List program.PlainSpan) (i j : tree.PlainIdent) (all : List tree_of.PlainSpan) (place : ℕ) → i.text ≡ (mem_at p line).name → j.text ≡ (mem_at p dram).name → AreSpanTrees (names_in p) spans all
      → StmtTyped p scope (program.load_line line dram spans) → ((a : ℕ) → Contains accs a → StmtKindNames (all_but p a) (program.load_line line dram spans)) → stmt_refusals seen place (tree_of.load i j all) ≡ []
  line_right line dram spans i j all place text outer t typed s =
      let ty = (mem_at p line).ty in
      let u = used p scope here seen accs h i line LineBuf ty text typed.0 (λ a at. (s a at).0) in
      let v = used p scope here seen accs h j dram Dram ty outer typed.1.from_dram (λ a at. (s a at).1) in
      let ends = ends_right t typed.2 in
      four_none _ _ _ _ (loaded_none i line LineBuf ty u refl) v.use_right
      (ap₂ (λ c o. load_refusals place i.place c o all) u.symbol v.symbol
      ∙ line_none place i.place ty (mem_at p line).dims (mem_at p dram).dims all (sym typed.1.span_for_each ∙ sym (spans_length p scope here seen accs h t)) (line_one all (ranges_same p scope here seen accs h t ∙ ends.0) ends.1))
      (ap (λ c. spans_refusals seen (may_be Sram c) all) u.symbol ∙ one_lane_right t typed.1.spans_typed (λ a at. (s a at).2) typed.3)

  pub gather_right : (sram dram places : ℕ) (e : PlainExpr) (i j l : tree.PlainIdent) (x : tree.PlainExpr) (place : ℕ) → i.text ≡ (mem_at p sram).name → j.text ≡ (mem_at p dram).name → l.text ≡ (mem_at p places).name → IsTree (names_in p) e x
      → StmtTyped p scope (program.gather sram dram places e) → ((a : ℕ) → Contains accs a → StmtKindNames (all_but p a) (program.gather sram dram places e)) → stmt_refusals seen place (tree_of.gather i j l x) ≡ []
  gather_right sram dram places e i j l x place text outer index t typed s =
      let ty = (mem_at p sram).ty in
      let u = used p scope here seen accs h i sram Sram ty text typed.0 (λ a at. (s a at).0) in
      let v = used p scope here seen accs h j dram Dram ty outer typed.1.in_dram (λ a at. (s a at).1) in
      let w = used p scope here seen accs h l places Sram int_type index typed.1.from_sram (λ a at. (s a at).2) in
      six_none _ _ _ _ _ _ u.use_right v.use_right w.use_right
      (three_none _ _ _
      (ap (λ c. one_row place (rank_if Sram c)) u.symbol ∙ count_none place 1 (length (mem_at p sram).dims) (sym typed.2))
      (ap (λ c. one_row place (rank_if Dram c)) v.symbol ∙ count_none place 1 (length (mem_at p dram).dims) (sym typed.1.one_dimension))
      (ap (λ c. one_row place (rank_if Sram c)) w.symbol ∙ count_none place 1 (length (mem_at p places).dims) (sym typed.1.one_row)))
      (two_none _ _
      (types_none _ _ ty i.place (ap (type_if Dram) v.symbol) (ap (type_if Sram) u.symbol))
      (types_none _ _ int_type l.place refl (ap (type_if Sram) w.symbol)))
      (still_right (Some int_type) int_type refl t typed.1.how_many (λ a at. (s a at).3))

  pub scatter_right : (dram places sram : ℕ) (e : PlainExpr) (i j l : tree.PlainIdent) (x : tree.PlainExpr) (place : ℕ) → i.text ≡ (mem_at p dram).name → l.text ≡ (mem_at p places).name → j.text ≡ (mem_at p sram).name → IsTree (names_in p) e x
      → StmtTyped p scope (program.scatter dram places e sram) → ((a : ℕ) → Contains accs a → StmtKindNames (all_but p a) (program.scatter dram places e sram)) → stmt_refusals seen place (tree_of.scatter i l x j) ≡ []
  scatter_right dram places sram e i j l x place outer index text t typed s =
      let ty = (mem_at p sram).ty in
      let u = used p scope here seen accs h j sram Sram ty text typed.0 (λ a at. (s a at).3) in
      let v = used p scope here seen accs h i dram Dram ty outer typed.1.in_dram (λ a at. (s a at).0) in
      let w = used p scope here seen accs h l places Sram int_type index typed.1.from_sram (λ a at. (s a at).1) in
      six_none _ _ _ _ _ _ v.use_right w.use_right u.use_right
      (three_none _ _ _
      (ap (λ c. one_row place (rank_if Dram c)) v.symbol ∙ count_none place 1 (length (mem_at p dram).dims) (sym typed.1.one_dimension))
      (ap (λ c. one_row place (rank_if Sram c)) w.symbol ∙ count_none place 1 (length (mem_at p places).dims) (sym typed.1.one_row))
      (ap (λ c. one_row place (rank_if Sram c)) u.symbol ∙ count_none place 1 (length (mem_at p sram).dims) (sym typed.2)))
      (two_none _ _
      (types_none _ _ ty j.place (ap (type_if Dram) v.symbol) (ap (type_if Sram) u.symbol))
      (types_none _ _ int_type l.place refl (ap (type_if Sram) w.symbol)))
      (still_right (Some int_type) int_type refl t typed.1.how_many (λ a at. (s a at).2))
