-- The node of a load or a store does what its statement does.
use Rattle.std.proofs.Common.{◌≡◌, ℕ, Bool, true, false, List, [], ◌∷◌, refl, sym, ◌∙◌, ap, subst, if◌then◌else◌}
use Rattle.std.proofs.lemmas.Bool.{eqb-true, eq-eqb, false≢true}
use Rattle.std.specs.Prelude.{length, map, ◌==◌}
use Rattle.sp_tree.specs.declared.statement.FaultKind.TheVariants.{Bounds}
use Rattle.sp_tree.specs.Expressions as expressions
use Rattle.sp_tree.specs.Invariant.{ports_of}
use Rattle.sp_tree.specs.PlainProgram.{PlainProgram}
use Rattle.sp_tree.specs.PlainStatement.{PlainSpan, load_sram, store as store_slice}
use Rattle.sp_tree.specs.Sequential.{part, run_kind}
use Rattle.sp_tree.specs.Shape as program_shape
use Rattle.sp_tree.specs.Shape.{shapes}
use Rattle.sp_tree.specs.Step as step
use Rattle.sp_tree.specs.Store as program_store
use Rattle.sp_tree.specs.Structure.{slice_lanes}
use Rattle.sp_tree.specs.Transfers as slice
use Rattle.sp_tree.specs.Typing.{StmtTyped}
use Rattle.sp_core.specs.declared.node.SparseKind.TheVariants.{WideLoad, WideStore}
use Rattle.sp_core.specs.Declarations.{dims}
use Rattle.sp_core.specs.Elements.{numbers_below}
use Rattle.sp_core.specs.History.{Taken, moved}
use Rattle.sp_core.specs.PlainCore as plain
use Rattle.sp_core.specs.PlainCore.{PlainNode, PlainCore, sparse}
use Rattle.std.specs.Prelude.{None}
use Rattle.sp_core.specs.Scope.{plainly}
use Rattle.sp_core.specs.Sequential.{run, taken}
use Rattle.sp_core.specs.Shape.{shape_of, lane_words, row_count, last_length}
use Rattle.sp_core.specs.Step as core_step
use Rattle.sp_core.specs.Store as store
use Rattle.sp_core.specs.Transfers as core_slice
use Rattle.sp_core.specs.Transfers.{part_of}
use Rattle.sp_sugar.specs.Agreement.{HasMemories, View, Agree}
use Rattle.sp_sugar.specs.Early.{is_early_part, spans_of, parts_of}
use Rattle.sp_sugar.specs.Numbers.{mem_number, dram_number}
use Rattle.sp_sugar.specs.Stages.{node}
use Rattle.sp_sugar.proofs.StepLemmas.{same_answer, same_store, taken_apart, then_on}
use Rattle.sp_same.specs.Counts.{Count, words, counts_in, counts_in_all, counts_of}
use Rattle.sp_same.specs.Following.{AreReady, NodeGoes}
use Rattle.sp_same.proofs.LaneCounts.{lanes_same}
use Rattle.sp_same.proofs.Moves.{sram_kind, sram_dims, dram_has, loads, stores}
use Rattle.sp_same.proofs.SliceTwins.{as_core, same_lengths}
use Rattle.sp_same.proofs.SlicesMoved.{ranges_taken, transferred}
use Rattle.sp_same.proofs.SpansTaken.{spans_taken}

-- one of two nodes does, by the number of lanes
pub chosen_node : (P : PlainNode → Type 0) (b : Bool) (one wide : PlainNode) → (b ≡ true → P one) → (b ≡ false → P wide) → P (if b then one else wide)
chosen_node P true one wide f g = f refl
chosen_node P false one wide f g = g refl

module _ (p : PlainProgram) (core : PlainCore) (h : HasMemories p core) (ports : p.ports ≡ ports_of p.mems) (roomy : List ℕ) (most : ℕ) (view : View) (b : ℕ) (s : program_store.Store) (t : store.Store) (left : ℕ) (a : Agree p core view [] s t) (spans : List PlainSpan) where
  -- the counts of a slice that was moved
  module _ (parts : List slice.Part) (ts : List Taken) (same : map part_of ts ≡ map as_core parts) (none : slice.lengths parts ≡ [] → slice_lanes spans ≡ 1) where
    abbrev Counted : List Count → Type 0
    Counted cs = cs ≡ words (slice.words_by_lane (slice_lanes spans) (slice.lengths parts)) ∷ []

    pub one_counted : (n : ℕ) → slice_lanes spans ≡ 1 → n ≡ slice.words_in_lane 1 0 (slice.lengths parts) → Counted (words (n ∷ []) ∷ [])
    one_counted n one e = ap (λ k. words (k ∷ []) ∷ []) e ∙ ap (λ l. words (slice.words_by_lane l (slice.lengths parts)) ∷ []) (sym one)

    wide_counted : (slice_lanes spans == 1) ≡ false → Counted (words (map (lane_words (row_count (core_slice.lengths (map part_of ts))) (last_length (core_slice.lengths (map part_of ts))) (slice_lanes spans)) (numbers_below (slice_lanes spans))) ∷ [])
    wide_counted wide =
        ap (λ ns. words (map (lane_words (row_count ns) (last_length ns) (slice_lanes spans)) (numbers_below (slice_lanes spans))) ∷ []) (ap core_slice.lengths same ∙ same_lengths parts)
        ∙ ap (λ l. words l ∷ []) (lanes_same (slice.lengths parts) (slice_lanes spans) (λ e. false≢true (sym wide ∙ eq-eqb (slice_lanes spans) 1 (none e))))

  module _ (place rest : ℕ) (after : program_store.Store) (did : List program_shape.Shape) (n : ℕ) (ready : AreReady p core (is_early_part spans) left s t b (parts_of spans)) where
    pub load_goes : (sram dram : ℕ) → StmtTyped p view.scope (load_sram sram dram spans) → run_kind p.mems roomy (load_sram sram dram spans) place left s ≡ step.went did rest after
        → NodeGoes p core most view (node p.mems (length p.counters) view.sources b n (load_sram sram dram spans)) t after did
    unfolding run_kind run node step.pure shape_of counts_of counts_in counts_in_all
    load_goes sram dram typed e =
        let m : ℕ = mem_number p.mems sram in
        let r : ℕ = dram_number p.mems dram in
        let move : List slice.Part → step.Step (List (Unit {0})) = λ parts. slice.load_words sram (expressions.dims p.mems sram) dram (expressions.dims p.mems dram) parts in
        let x = taken_apart (step.in_order (part p.mems) spans) (λ parts. step.◌>>◌ (slice.transfer place (expressions.dims p.mems dram) parts Bounds (expressions.dims p.mems sram) (move parts)) (step.pure (program_shape.moved (slice.words_by_lane (slice_lanes spans) (slice.lengths parts)) ∷ []))) left s did rest after e in
        let y = taken_apart (slice.transfer place (expressions.dims p.mems dram) x.answer Bounds (expressions.dims p.mems sram) (move x.answer)) (λ _. step.pure (program_shape.moved (slice.words_by_lane (slice_lanes spans) (slice.lengths x.answer)) ∷ [])) x.between x.store did rest after x.second in
        let sp = spans_taken p core h most view (is_early_part spans) s t left a b spans x.answer x.between x.store typed.1.spans_typed ready x.first in
        let first : slice.transfer place (expressions.dims p.mems dram) x.answer Bounds (expressions.dims p.mems sram) (move x.answer) x.between s ≡ step.went y.answer y.between y.store = ap (λ v. slice.transfer place (expressions.dims p.mems dram) x.answer Bounds (expressions.dims p.mems sram) (move x.answer) x.between v) (sym sp.1) ∙ y.first in
        let tr = transferred p core h ports view dram m Bounds (expressions.dims p.mems sram)
        (dram_has p core h ports view sram dram typed.0.seen typed.0.is_kind typed.1.from_dram.seen typed.1.from_dram.is_kind s t a)
        (ap (λ k. core_slice.range_limits k (dims core m)) (sram_kind p core h ports view sram dram typed.0.seen typed.0.is_kind typed.1.from_dram.seen typed.1.from_dram.is_kind s t a) ∙ sram_dims p core h ports view sram dram typed.0.seen typed.0.is_kind typed.1.from_dram.seen typed.1.from_dram.is_kind s t a)
        place x.between y.between s y.store t a sp.2 x.answer sp.4 (move x.answer) (core_slice.load_words core r m)
        (λ left rest after al fits g e. loads p core h ports view sram dram typed.0.seen typed.0.is_kind typed.1.from_dram.seen typed.1.from_dram.is_kind x.answer left rest s after t al g e) y.answer first in
        let shaped : program_shape.moved (slice.words_by_lane (slice_lanes spans) (slice.lengths x.answer)) ∷ [] ≡ did = same_answer (program_shape.moved (slice.words_by_lane (slice_lanes spans) (slice.lengths x.answer)) ∷ []) did y.between rest y.store after y.second in
        let ends : y.store ≡ after = same_store (program_shape.moved (slice.words_by_lane (slice_lanes spans) (slice.lengths x.answer)) ∷ []) did y.between rest y.store after y.second in
        let none : slice.lengths x.answer ≡ [] → slice_lanes spans ≡ 1 = ranges_taken p spans left x.between s x.store x.answer x.first in
        let all : List plain.PlainSpan = spans_of p.mems view.sources b spans in
        let goes : (core_step.◌>>=◌ (core_step.in_order (taken core plainly most view.around) all) (core_slice.load_slice core r m)) t ≡ core_step.went (moved sp.2 tr.ws) tr.end = then_on (core_step.in_order (taken core plainly most view.around) all) (core_slice.load_slice core r m) t sp.2 t sp.3 ∙ tr.goes in
        chosen_node (λ x. NodeGoes p core most view x t after did) (slice_lanes spans == 1) (plain.load r m all) (sparse WideLoad r m None all [] (slice_lanes spans))
        (λ one. record {
          history = moved sp.2 tr.ws;
          after = tr.end;
          goes = goes;
          agree = subst (λ v. Agree p core view [] v tr.end) ends tr.moving;
          counts = one_counted x.answer sp.2 sp.4 none (length tr.ws) (eqb-true (slice_lanes spans) 1 one) tr.counted ∙ ap (λ l. counts_in_all (shapes l)) shaped;
        })
        (λ wide. record {
          history = moved sp.2 tr.ws;
          after = tr.end;
          goes = goes;
          agree = subst (λ v. Agree p core view [] v tr.end) ends tr.moving;
          counts = wide_counted x.answer sp.2 sp.4 none wide ∙ ap (λ l. counts_in_all (shapes l)) shaped;
        })

    pub store_goes : (dram sram : ℕ) → StmtTyped p view.scope (store_slice dram spans sram) → run_kind p.mems roomy (store_slice dram spans sram) place left s ≡ step.went did rest after
        → NodeGoes p core most view (node p.mems (length p.counters) view.sources b n (store_slice dram spans sram)) t after did
    unfolding run_kind run node step.pure shape_of counts_of counts_in counts_in_all
    store_goes dram sram typed e =
        let m : ℕ = mem_number p.mems sram in
        let r : ℕ = dram_number p.mems dram in
        let move : List slice.Part → step.Step (List (Unit {0})) = λ parts. slice.store_words place sram (expressions.dims p.mems sram) dram (expressions.dims p.mems dram) parts in
        let x = taken_apart (step.in_order (part p.mems) spans) (λ parts. step.◌>>◌ (slice.transfer place (expressions.dims p.mems dram) parts Bounds (expressions.dims p.mems sram) (move parts)) (step.pure (program_shape.moved (slice.words_by_lane (slice_lanes spans) (slice.lengths parts)) ∷ []))) left s did rest after e in
        let y = taken_apart (slice.transfer place (expressions.dims p.mems dram) x.answer Bounds (expressions.dims p.mems sram) (move x.answer)) (λ _. step.pure (program_shape.moved (slice.words_by_lane (slice_lanes spans) (slice.lengths x.answer)) ∷ [])) x.between x.store did rest after x.second in
        let sp = spans_taken p core h most view (is_early_part spans) s t left a b spans x.answer x.between x.store typed.1.spans_typed ready x.first in
        let first : slice.transfer place (expressions.dims p.mems dram) x.answer Bounds (expressions.dims p.mems sram) (move x.answer) x.between s ≡ step.went y.answer y.between y.store = ap (λ v. slice.transfer place (expressions.dims p.mems dram) x.answer Bounds (expressions.dims p.mems sram) (move x.answer) x.between v) (sym sp.1) ∙ y.first in
        let tr = transferred p core h ports view dram m Bounds (expressions.dims p.mems sram)
        (dram_has p core h ports view sram dram typed.0.seen typed.0.is_kind typed.1.from_dram.seen typed.1.from_dram.is_kind s t a)
        (ap (λ k. core_slice.range_limits k (dims core m)) (sram_kind p core h ports view sram dram typed.0.seen typed.0.is_kind typed.1.from_dram.seen typed.1.from_dram.is_kind s t a) ∙ sram_dims p core h ports view sram dram typed.0.seen typed.0.is_kind typed.1.from_dram.seen typed.1.from_dram.is_kind s t a)
        place x.between y.between s y.store t a sp.2 x.answer sp.4 (move x.answer) (core_slice.store_words core r m)
        (λ left rest after al fits g e. stores p core h ports view sram dram typed.0.seen typed.0.is_kind typed.1.from_dram.seen typed.1.from_dram.is_kind x.answer place left rest s after t al g e) y.answer first in
        let shaped : program_shape.moved (slice.words_by_lane (slice_lanes spans) (slice.lengths x.answer)) ∷ [] ≡ did = same_answer (program_shape.moved (slice.words_by_lane (slice_lanes spans) (slice.lengths x.answer)) ∷ []) did y.between rest y.store after y.second in
        let ends : y.store ≡ after = same_store (program_shape.moved (slice.words_by_lane (slice_lanes spans) (slice.lengths x.answer)) ∷ []) did y.between rest y.store after y.second in
        let none : slice.lengths x.answer ≡ [] → slice_lanes spans ≡ 1 = ranges_taken p spans left x.between s x.store x.answer x.first in
        let all : List plain.PlainSpan = spans_of p.mems view.sources b spans in
        let goes : (core_step.◌>>=◌ (core_step.in_order (taken core plainly most view.around) all) (core_slice.store_slice core r m)) t ≡ core_step.went (moved sp.2 tr.ws) tr.end = then_on (core_step.in_order (taken core plainly most view.around) all) (core_slice.store_slice core r m) t sp.2 t sp.3 ∙ tr.goes in
        chosen_node (λ x. NodeGoes p core most view x t after did) (slice_lanes spans == 1) (plain.store r m all) (sparse WideStore r m None all [] (slice_lanes spans))
        (λ one. record {
          history = moved sp.2 tr.ws;
          after = tr.end;
          goes = goes;
          agree = subst (λ v. Agree p core view [] v tr.end) ends tr.moving;
          counts = one_counted x.answer sp.2 sp.4 none (length tr.ws) (eqb-true (slice_lanes spans) 1 one) tr.counted ∙ ap (λ l. counts_in_all (shapes l)) shaped;
        })
        (λ wide. record {
          history = moved sp.2 tr.ws;
          after = tr.end;
          goes = goes;
          agree = subst (λ v. Agree p core view [] v tr.end) ends tr.moving;
          counts = wide_counted x.answer sp.2 sp.4 none wide ∙ ap (λ l. counts_in_all (shapes l)) shaped;
        })
