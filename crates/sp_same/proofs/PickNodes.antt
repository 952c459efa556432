-- The node of a gather or a scatter does what its statement does.
use Rattle.std.proofs.Common.{◌≡◌, ℕ, List, [], ◌∷◌, sym, ◌∙◌, ap, subst}
use Rattle.std.specs.Prelude.{length}
use Rattle.sp_words.specs.Interface.{word_count}
use Rattle.sp_words.specs.Types.{int_type}
use Rattle.sp_tree.specs.Elements as elements
use Rattle.sp_tree.specs.Elements.{index_value}
use Rattle.sp_tree.specs.Expressions as expressions
use Rattle.sp_tree.specs.Expressions.{word}
use Rattle.sp_tree.specs.Invariant.{ports_of}
use Rattle.sp_tree.specs.PlainExpression.{PlainExpr}
use Rattle.sp_tree.specs.PlainProgram.{PlainProgram}
use Rattle.sp_tree.specs.PlainStatement.{gather, scatter}
use Rattle.sp_tree.specs.Sequential.{run_kind}
use Rattle.sp_tree.specs.Shape as program_shape
use Rattle.sp_tree.specs.Shape.{shapes}
use Rattle.sp_tree.specs.Step as step
use Rattle.sp_tree.specs.Store as program_store
use Rattle.sp_tree.specs.Transfers as slice
use Rattle.sp_tree.specs.Typing.{StmtTyped}
use Rattle.sp_core.specs.Elements as core_elements
use Rattle.sp_core.specs.History.{picked, last_word}
use Rattle.sp_core.specs.Operations.{operations}
use Rattle.sp_core.specs.PlainCore.{PlainOp, PlainCore}
use Rattle.sp_core.specs.Sequential.{run}
use Rattle.sp_core.specs.Shape.{shape_of}
use Rattle.sp_core.specs.Step as core_step
use Rattle.sp_core.specs.Store as store
use Rattle.sp_core.specs.Transfers as core_slice
use Rattle.sp_sugar.specs.Agreement.{HasMemories, View, Agree}
use Rattle.sp_sugar.specs.Early.{is_early, from_register}
use Rattle.sp_sugar.specs.Numbers.{mem_number, dram_number}
use Rattle.sp_sugar.specs.Stages.{node}
use Rattle.sp_sugar.proofs.StepLemmas.{same_answer, same_store, taken_apart, then_on}
use Rattle.sp_sugar.proofs.TwinLemmas.{same_natural}
use Rattle.sp_same.specs.Counts.{words, counts_in, counts_in_all, counts_of}
use Rattle.sp_same.specs.Following.{AreReady, NodeGoes}
use Rattle.sp_same.proofs.LaneCounts.{numbers_length}
use Rattle.sp_same.proofs.MoveLemmas.{each_follows}
use Rattle.sp_same.proofs.Moves.{Moving}
use Rattle.sp_same.proofs.Picks.{gather_one, gather_step, scatter_one, scatter_step}
use Rattle.sp_same.proofs.SliceTwins.{same_numbers_below}
use Rattle.sp_same.proofs.WordsTaken.{part_taken}

-- as many words in both
count_same : (w v : ℕ) → v ≡ w → core_elements.numbers_below (core_elements.natural (index_value v)) ≡ elements.numbers_below (elements.natural (index_value w))
count_same w v e = ap (λ x. core_elements.numbers_below (core_elements.natural (index_value x))) e ∙ ap core_elements.numbers_below (same_natural (index_value w)) ∙ same_numbers_below (elements.natural (index_value w))

module _ (p : PlainProgram) (core : PlainCore) (h : HasMemories p core) (ports : p.ports ≡ ports_of p.mems) (roomy : List ℕ) (most : ℕ) (view : View) (b : ℕ) (s : program_store.Store) (t : store.Store) (left : ℕ) (a : Agree p core view [] s t)
    (e : PlainExpr) (place rest : ℕ) (after : program_store.Store) (did : List program_shape.Shape) (n : ℕ) (ready : AreReady p core is_early left s t b (e ∷ [])) where
  abbrev count_ops : List PlainOp
  count_ops = from_register p.mems view.sources is_early b e

  abbrev amount : ℕ → ℕ
  amount w = elements.natural (index_value w)

  pub gather_goes : (sram dram places : ℕ) → StmtTyped p view.scope (gather sram dram places e) → run_kind p.mems roomy (gather sram dram places e) place left s ≡ step.went did rest after
      → NodeGoes p core most view (node p.mems (length p.counters) view.sources b n (gather sram dram places e)) t after did
  unfolding run_kind run node step.pure core_step.pure shape_of counts_of counts_in counts_in_all
  gather_goes sram dram places typed goes =
      let m : ℕ = mem_number p.mems sram in
      let r : ℕ = dram_number p.mems dram in
      let q : ℕ = mem_number p.mems places in
      let move : ℕ → step.Step (List (Unit {0})) = λ w. slice.gather_words place sram (word_count (expressions.dims p.mems sram)) dram (word_count (expressions.dims p.mems dram)) places (word_count (expressions.dims p.mems places)) (amount w) in
      let x = taken_apart (word p.mems e) (λ w. step.◌>>◌ (move w) (step.pure (program_shape.moved (amount w ∷ []) ∷ []))) left s did rest after goes in
      let y = taken_apart (move x.answer) (λ _. step.pure (program_shape.moved (amount x.answer ∷ []) ∷ [])) x.between x.store did rest after x.second in
      let c = part_taken p core h view is_early b e s x.store t left x.between x.answer int_type typed.1.how_many a ready.0 x.first in
      let start : Moving p core h ports view x.store t = subst (λ v. Agree p core view [] v t) (sym c.1) a in
      let one : ℕ → step.Step (Unit {0}) = gather_one p core h ports view sram dram places typed.0.seen typed.0.is_kind typed.1.in_dram.seen typed.1.in_dram.is_kind typed.1.from_sram.seen typed.1.from_sram.is_kind typed.2 typed.1.one_dimension typed.1.one_row place in
      let all = each_follows one (core_slice.gather_word core r m q) (Moving p core h ports view)
      (gather_step p core h ports view sram dram places typed.0.seen typed.0.is_kind typed.1.in_dram.seen typed.1.in_dram.is_kind typed.1.from_sram.seen typed.1.from_sram.is_kind typed.2 typed.1.one_dimension typed.1.one_row place)
      (elements.numbers_below (amount x.answer)) x.between y.between x.store y.store t y.answer start y.first in
      record {
        history = picked c.2.0 all.0;
        after = all.1;
        goes = then_on (operations core view.around count_ops) (λ es. core_step.◌>>=◌ (core_step.in_order (core_slice.gather_word core r m q) (core_elements.numbers_below (core_elements.natural (index_value (last_word es))))) (λ ws. core_step.pure (picked es ws))) t c.2.0 t c.2.1
            ∙ then_on (core_step.in_order (core_slice.gather_word core r m q) (core_elements.numbers_below (core_elements.natural (index_value (last_word c.2.0))))) (λ ws. core_step.pure (picked c.2.0 ws)) t all.0 all.1
            (ap (λ l. core_step.in_order (core_slice.gather_word core r m q) l t) (count_same x.answer (last_word c.2.0) c.2.2) ∙ all.2);
        agree = subst (λ v. Agree p core view [] v all.1) (same_store (program_shape.moved (amount x.answer ∷ []) ∷ []) did y.between rest y.store after y.second) all.3;
        counts = ap (λ k. words (k ∷ []) ∷ []) (all.4 ∙ numbers_length (amount x.answer)) ∙ ap (λ l. counts_in_all (shapes l)) (same_answer (program_shape.moved (amount x.answer ∷ []) ∷ []) did y.between rest y.store after y.second);
      }

  pub scatter_goes : (dram places sram : ℕ) → StmtTyped p view.scope (scatter dram places e sram) → run_kind p.mems roomy (scatter dram places e sram) place left s ≡ step.went did rest after
      → NodeGoes p core most view (node p.mems (length p.counters) view.sources b n (scatter dram places e sram)) t after did
  unfolding run_kind run node step.pure core_step.pure shape_of counts_of counts_in counts_in_all
  scatter_goes dram places sram typed goes =
      let m : ℕ = mem_number p.mems sram in
      let r : ℕ = dram_number p.mems dram in
      let q : ℕ = mem_number p.mems places in
      let move : ℕ → step.Step (List (Unit {0})) = λ w. slice.scatter_words place dram (word_count (expressions.dims p.mems dram)) places (word_count (expressions.dims p.mems places)) (amount w) sram (word_count (expressions.dims p.mems sram)) in
      let x = taken_apart (word p.mems e) (λ w. step.◌>>◌ (move w) (step.pure (program_shape.moved (amount w ∷ []) ∷ []))) left s did rest after goes in
      let y = taken_apart (move x.answer) (λ _. step.pure (program_shape.moved (amount x.answer ∷ []) ∷ [])) x.between x.store did rest after x.second in
      let c = part_taken p core h view is_early b e s x.store t left x.between x.answer int_type typed.1.how_many a ready.0 x.first in
      let start : Moving p core h ports view x.store t = subst (λ v. Agree p core view [] v t) (sym c.1) a in
      let one : ℕ → step.Step (Unit {0}) = scatter_one p core h ports view sram dram places typed.0.seen typed.0.is_kind typed.1.in_dram.seen typed.1.in_dram.is_kind typed.1.from_sram.seen typed.1.from_sram.is_kind typed.2 typed.1.one_dimension typed.1.one_row place in
      let all = each_follows one (core_slice.scatter_word core r m q) (Moving p core h ports view)
      (scatter_step p core h ports view sram dram places typed.0.seen typed.0.is_kind typed.1.in_dram.seen typed.1.in_dram.is_kind typed.1.from_sram.seen typed.1.from_sram.is_kind typed.2 typed.1.one_dimension typed.1.one_row place)
      (elements.numbers_below (amount x.answer)) x.between y.between x.store y.store t y.answer start y.first in
      record {
        history = picked c.2.0 all.0;
        after = all.1;
        goes = then_on (operations core view.around count_ops) (λ es. core_step.◌>>=◌ (core_step.in_order (core_slice.scatter_word core r m q) (core_elements.numbers_below (core_elements.natural (index_value (last_word es))))) (λ ws. core_step.pure (picked es ws))) t c.2.0 t c.2.1
            ∙ then_on (core_step.in_order (core_slice.scatter_word core r m q) (core_elements.numbers_below (core_elements.natural (index_value (last_word c.2.0))))) (λ ws. core_step.pure (picked c.2.0 ws)) t all.0 all.1
            (ap (λ l. core_step.in_order (core_slice.scatter_word core r m q) l t) (count_same x.answer (last_word c.2.0) c.2.2) ∙ all.2);
        agree = subst (λ v. Agree p core view [] v all.1) (same_store (program_shape.moved (amount x.answer ∷ []) ∷ []) did y.between rest y.store after y.second) all.3;
        counts = ap (λ k. words (k ∷ []) ∷ []) (all.4 ∙ numbers_length (amount x.answer)) ∙ ap (λ l. counts_in_all (shapes l)) (same_answer (program_shape.moved (amount x.answer ∷ []) ∷ []) did y.between rest y.store after y.second);
      }
