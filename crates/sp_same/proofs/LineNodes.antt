-- The node of a load of a line buffer does what its statement does.
use Rattle.std.proofs.Common.{◌≡◌, ℕ, ◌-◌, ◌≤◌, true, List, [], ◌∷◌, None, sym, ◌∙◌, ap, subst, arith, length-drop, nat_le}
use Rattle.std.proofs.lemmas.Bool.{eq-eqb, false≢true, and_parts, leb-true}
use Rattle.std.specs.Prelude.{length, drop, slice_index, ◌==◌}
use Rattle.sp_tree.specs.declared.statement.FaultKind.TheVariants.{RowLength}
use Rattle.sp_tree.specs.Declarations.{HasRank}
use Rattle.sp_tree.specs.Expressions as expressions
use Rattle.sp_tree.specs.Invariant.{ports_of}
use Rattle.sp_tree.specs.PlainProgram.{PlainProgram, no_mem}
use Rattle.sp_tree.specs.PlainStatement.{PlainSpan, load_line}
use Rattle.sp_tree.specs.Sequential.{part, run_kind}
use Rattle.sp_tree.specs.Shape as program_shape
use Rattle.sp_tree.specs.Shape.{shapes}
use Rattle.sp_tree.specs.Step as step
use Rattle.sp_tree.specs.Store as program_store
use Rattle.sp_tree.specs.Structure.{slice_lanes}
use Rattle.sp_tree.specs.Transfers as slice
use Rattle.sp_tree.specs.Typing.{StmtTyped}
use Rattle.sp_core.specs.declared.node.SparseKind.TheVariants.{WideLoad}
use Rattle.sp_core.specs.Declarations.{dims}
use Rattle.sp_core.specs.History.{moved}
use Rattle.sp_core.specs.PlainCore as plain
use Rattle.sp_core.specs.PlainCore.{PlainCore, sparse}
use Rattle.sp_core.specs.Scope.{plainly}
use Rattle.sp_core.specs.Sequential.{run, taken}
use Rattle.sp_core.specs.Shape.{shape_of}
use Rattle.sp_core.specs.Step as core_step
use Rattle.sp_core.specs.Store as store
use Rattle.sp_core.specs.Transfers as core_slice
use Rattle.sp_sugar.specs.Agreement.{HasMemories, View, Agree}
use Rattle.sp_sugar.specs.Early.{is_early_part, spans_of, parts_of}
use Rattle.sp_sugar.specs.Numbers.{mem_number, dram_number}
use Rattle.sp_sugar.specs.Stages.{node}
use Rattle.sp_sugar.proofs.StepLemmas.{same_answer, same_store, taken_apart, then_on}
use Rattle.sp_same.specs.Counts.{counts_in, counts_in_all, counts_of}
use Rattle.sp_same.specs.Following.{AreReady, NodeGoes}
use Rattle.sp_same.proofs.Lines.{ends_taken, line_kind, line_dims, dram_there, line_loads}
use Rattle.sp_same.proofs.SliceNodes.{chosen_node, one_counted}
use Rattle.sp_same.proofs.SlicesMoved.{ranges_taken, transferred}
use Rattle.sp_same.proofs.SpansTaken.{spans_taken}

-- a row is no longer than the second of two dimensions
in_width : (ds : List ℕ) (count : ℕ) → length ds ≡ 2 → slice.do_fit (drop 1 ds) (count ∷ []) ≡ true → count ≤ slice_index ds 1
in_width [] count two fits = absurd (omega (arith, two))
in_width (c ∷ []) count two fits = absurd (omega (arith, two))
in_width (c ∷ d ∷ []) count two fits = leb-true count d (and_parts (nat_le count d) true fits).0
in_width (c ∷ d ∷ e ∷ ds) count two fits = absurd (omega (arith, two))

module _ (p : PlainProgram) (core : PlainCore) (h : HasMemories p core) (ports : p.ports ≡ ports_of p.mems) (roomy : List ℕ) (most : ℕ) (view : View) (b : ℕ) (s : program_store.Store) (t : store.Store) (left : ℕ) (a : Agree p core view [] s t) (spans : List PlainSpan)
    (place rest : ℕ) (after : program_store.Store) (did : List program_shape.Shape) (n : ℕ) (ready : AreReady p core (is_early_part spans) left s t b (parts_of spans)) where
  pub line_goes : (line dram : ℕ) → StmtTyped p view.scope (load_line line dram spans) → length (program_store.rows_of (s.held line)) ≡ slice_index (expressions.dims p.mems line) 0 → run_kind p.mems roomy (load_line line dram spans) place left s ≡ step.went did rest after
      → NodeGoes p core most view (node p.mems (length p.counters) view.sources b n (load_line line dram spans)) t after did
  unfolding run_kind run node step.pure shape_of counts_of counts_in counts_in_all
  line_goes line dram typed rows e =
      let m : ℕ = mem_number p.mems line in
      let r : ℕ = dram_number p.mems dram in
      let ds : List ℕ = expressions.dims p.mems line in
      let move : List slice.Part → step.Step (Unit {0}) = λ parts. slice.load_row line (slice_index ds 1) dram (expressions.dims p.mems dram) parts in
      let lanes : List slice.Part → List program_shape.Shape = λ parts. program_shape.moved (slice.words_by_lane (slice_lanes spans) (slice.lengths parts)) ∷ [] in
      let x = taken_apart (step.in_order (part p.mems) spans) (λ parts. step.◌>>◌ (slice.transfer place (expressions.dims p.mems dram) parts RowLength (drop 1 ds) (move parts)) (step.pure (lanes parts))) left s did rest after e in
      let y = taken_apart (slice.transfer place (expressions.dims p.mems dram) x.answer RowLength (drop 1 ds) (move x.answer)) (λ _. step.pure (lanes x.answer)) x.between x.store did rest after x.second in
      let sp = spans_taken p core h most view (is_early_part spans) s t left a b spans x.answer x.between x.store typed.1.spans_typed ready x.first in
      let first : slice.transfer place (expressions.dims p.mems dram) x.answer RowLength (drop 1 ds) (move x.answer) x.between s ≡ step.went y.answer y.between y.store = ap (λ v. slice.transfer place (expressions.dims p.mems dram) x.answer RowLength (drop 1 ds) (move x.answer) x.between v) (sym sp.1) ∙ y.first in
      let count = ends_taken p spans left x.between s x.store x.answer typed.2 x.first in
      let two : length ds ≡ 2 = subst (λ k. HasRank k (length ds)) typed.0.is_kind (h.declared line no_mem (a.mems line typed.0.seen).0).rank in
      let front_rows : length (drop 1 (program_store.rows_of (s.held line))) ≡ slice_index ds 0 - 1 = length-drop 1 (program_store.rows_of (s.held line)) ∙ ap (λ k. k - 1) rows in
      let tr = transferred p core h ports view dram m RowLength (drop 1 ds)
      (dram_there p core h ports view line dram typed.0.seen typed.0.is_kind typed.1.from_dram.seen typed.1.from_dram.is_kind s t a x.answer)
      (ap (λ k. core_slice.range_limits k (dims core m)) (line_kind p core h ports view line dram typed.0.seen typed.0.is_kind typed.1.from_dram.seen typed.1.from_dram.is_kind s t a x.answer)
      ∙ ap (drop 1) (line_dims p core h ports view line dram typed.0.seen typed.0.is_kind typed.1.from_dram.seen typed.1.from_dram.is_kind s t a x.answer))
      place x.between y.between s y.store t a sp.2 x.answer sp.4 (move x.answer) (core_slice.load_words core r m)
      (λ left rest after al fits g e. line_loads p core h ports view line dram typed.0.seen typed.0.is_kind typed.1.from_dram.seen typed.1.from_dram.is_kind s t a x.answer front_rows count.0 count.1
      (in_width ds count.0 two (ap (slice.do_fit (drop 1 ds)) (sym count.1) ∙ fits)) left rest after al e) y.answer first in
      let all : List plain.PlainSpan = spans_of p.mems view.sources b spans in
      let shaped : lanes x.answer ≡ did = same_answer (lanes x.answer) did y.between rest y.store after y.second in
      chosen_node (λ x. NodeGoes p core most view x t after did) (slice_lanes spans == 1) (plain.load r m all) (sparse WideLoad r m None all [] (slice_lanes spans))
      (λ one. record {
        history = moved sp.2 tr.ws;
        after = tr.end;
        goes = then_on (core_step.in_order (taken core plainly most view.around) all) (core_slice.load_slice core r m) t sp.2 t sp.3 ∙ tr.goes;
        agree = subst (λ v. Agree p core view [] v tr.end) (same_store (lanes x.answer) did y.between rest y.store after y.second) tr.moving;
        counts = one_counted p core h ports roomy most view b s t left a spans x.answer sp.2 sp.4 (ranges_taken p spans left x.between s x.store x.answer x.first) (length tr.ws) typed.3 tr.counted ∙ ap (λ l. counts_in_all (shapes l)) shaped;
      })
      (λ wide. absurd (false≢true (sym wide ∙ eq-eqb (slice_lanes spans) 1 typed.3)))
