-- The bounds, slices and counts of a statement that goes on have words.
use Rattle.std.proofs.Common.{◌≡◌, ℕ, ◌+◌, Bool, List, [], ◌∷◌, refl, sym, ◌∙◌, ap}
use Rattle.std.specs.Prelude.{length}
use Rattle.sp_words.specs.Types.{int_type}
use Rattle.sp_tree.specs.Elements.{index_value, counter_words}
use Rattle.sp_tree.specs.Expressions.{word}
use Rattle.sp_tree.specs.PlainExpression.{PlainExpr}
use Rattle.sp_tree.specs.PlainProgram.{PlainProgram}
use Rattle.sp_tree.specs.PlainStatement.{PlainSpan, single, range, PlainCounter, PlainStmtKind, load_sram, load_line, store, gather, scatter, foreach, reduce, mem_reduce}
use Rattle.sp_tree.specs.Sequential.{part, counter_range, run_kind}
use Rattle.sp_tree.specs.Shape.{Shape}
use Rattle.sp_tree.specs.Step.{went, pure, ◌>>=◌, in_order}
use Rattle.sp_tree.specs.Store as program_store
use Rattle.sp_tree.specs.Transfers as slice
use Rattle.sp_tree.specs.Typing.{HasTypeStill, BoundsTyped, SpansTyped, StmtTyped}
use Rattle.sp_core.specs.PlainCore.{PlainCore}
use Rattle.sp_core.specs.Store as store_of
use Rattle.sp_sugar.specs.Agreement.{HasMemories, View, Agree}
use Rattle.sp_sugar.specs.Early.{bounds_of, parts_of, is_early, registers_for, early_stages}
use Rattle.sp_sugar.proofs.StepLemmas.{taken_apart}
use Rattle.sp_same.specs.Following.{AreSpare, AreCells, EarlyGoes}
use Rattle.sp_same.specs.Laws.{crosses_in, words_in}
use Rattle.sp_same.proofs.EarlyStages.{HaveWords, AreStill, bounds_early, slice_early}
use Rattle.sp_same.proofs.StillWords.{unchanged, word_still}

module _ (p : PlainProgram) (core : PlainCore) (h : HasMemories p core) (most : ℕ) (view : View) (left : ℕ) (s : program_store.Store) where
  abbrev Words : List PlainExpr → Type 0
  Words es = AreStill p core h most view left s es × HaveWords p core h most view left s es

  -- one that is evaluated first
  one_word : (e : PlainExpr) (n w : ℕ) (u : program_store.Store) → HasTypeStill p view.scope int_type e → word p.mems e left s ≡ went w n u → (n ≡ left) × (u ≡ s) × ((x : ℕ) × (word p.mems e left s ≡ went x left s))
  one_word e n w u typed goes =
      let f = word_still p view.scope e left n w s u typed.0.0 typed.1 goes in
      (f.0, f.1, (w, goes ∙ ap (λ k. went w k u) f.0 ∙ ap (λ v. went w left v) f.1))

  bounds_words : (loops : List PlainCounter) (ranges : List (List ℕ)) (rest : ℕ) (u : program_store.Store) → BoundsTyped p view.scope loops → in_order (counter_range p.mems) loops left s ≡ went ranges rest u → Words (bounds_of loops)
  unfolding in_order pure
  bounds_words [] ranges rest u typed goes = (tt, tt)
  bounds_words (l ∷ loops) ranges rest u typed goes =
      let b = taken_apart (counter_range p.mems l) (λ first. in_order (counter_range p.mems) loops >>= (λ others. pure (first ∷ others))) left s ranges rest u goes in
      let c = taken_apart (word p.mems l.from) (λ i. word p.mems l.until >>= (λ j. pure (counter_words i j l.step))) left s b.answer b.between b.store b.first in
      let x = one_word l.from c.between c.answer c.store typed.0 c.first in
      let d = taken_apart (word p.mems l.until) (λ j. pure (counter_words c.answer j l.step)) c.between c.store b.answer b.between b.store c.second in
      let here : word p.mems l.until left s ≡ went d.answer d.between d.store = ap (λ k. word p.mems l.until k s) (sym x.0) ∙ ap (λ v. word p.mems l.until c.between v) (sym x.1) ∙ d.first in
      let y = one_word l.until d.between d.answer d.store typed.1 here in
      let z = unchanged (counter_words c.answer d.answer l.step) b.answer d.between b.between d.store b.store d.second in
      let f = taken_apart (in_order (counter_range p.mems) loops) (λ others. pure (b.answer ∷ others)) b.between b.store ranges rest u b.second in
      let more = bounds_words loops f.answer f.between f.store typed.4
      (ap (λ k. in_order (counter_range p.mems) loops k s) (sym (z.0 ∙ y.0)) ∙ ap (λ v. in_order (counter_range p.mems) loops b.between v) (sym (z.1 ∙ y.1)) ∙ f.first) in
      ((typed.0, (typed.1, more.0)), (x.2, (y.2, more.1)))

  spans_words : (spans : List PlainSpan) (parts : List slice.Part) (rest : ℕ) (u : program_store.Store) → SpansTyped p view.scope spans → in_order (part p.mems) spans left s ≡ went parts rest u → Words (parts_of spans)
  unfolding in_order pure
  spans_words [] parts rest u typed goes = (tt, tt)
  spans_words (single e ∷ spans) parts rest u typed goes =
      let b = taken_apart (part p.mems (single e)) (λ first. in_order (part p.mems) spans >>= (λ others. pure (first ∷ others))) left s parts rest u goes in
      let c = taken_apart (word p.mems e) (λ i. pure (slice.index (index_value i))) left s b.answer b.between b.store b.first in
      let x = one_word e c.between c.answer c.store typed.0 c.first in
      let z = unchanged (slice.index (index_value c.answer)) b.answer c.between b.between c.store b.store c.second in
      let f = taken_apart (in_order (part p.mems) spans) (λ others. pure (b.answer ∷ others)) b.between b.store parts rest u b.second in
      let more = spans_words spans f.answer f.between f.store typed.1
      (ap (λ k. in_order (part p.mems) spans k s) (sym (z.0 ∙ x.0)) ∙ ap (λ v. in_order (part p.mems) spans b.between v) (sym (z.1 ∙ x.1)) ∙ f.first) in
      ((typed.0, more.0), (x.2, more.1))
  spans_words (range d e par ∷ spans) parts rest u typed goes =
      let b = taken_apart (part p.mems (range d e par)) (λ first. in_order (part p.mems) spans >>= (λ others. pure (first ∷ others))) left s parts rest u goes in
      let c = taken_apart (word p.mems d) (λ i. word p.mems e >>= (λ j. pure (slice.between (index_value i) (index_value j)))) left s b.answer b.between b.store b.first in
      let x = one_word d c.between c.answer c.store typed.0 c.first in
      let k = taken_apart (word p.mems e) (λ j. pure (slice.between (index_value c.answer) (index_value j))) c.between c.store b.answer b.between b.store c.second in
      let here : word p.mems e left s ≡ went k.answer k.between k.store = ap (λ n. word p.mems e n s) (sym x.0) ∙ ap (λ v. word p.mems e c.between v) (sym x.1) ∙ k.first in
      let y = one_word e k.between k.answer k.store typed.1 here in
      let z = unchanged (slice.between (index_value c.answer) (index_value k.answer)) b.answer k.between b.between k.store b.store k.second in
      let f = taken_apart (in_order (part p.mems) spans) (λ others. pure (b.answer ∷ others)) b.between b.store parts rest u b.second in
      let more = spans_words spans f.answer f.between f.store typed.3
      (ap (λ n. in_order (part p.mems) spans n s) (sym (z.0 ∙ y.0)) ∙ ap (λ v. in_order (part p.mems) spans b.between v) (sym (z.1 ∙ y.1)) ∙ f.first) in
      ((typed.0, (typed.1, more.0)), (x.2, (y.2, more.1)))

  -- a statement without early words has no stage before it
  module _ (b : ℕ) (t : store_of.Store) (a : Agree p core view [] s t) where
    nothing_early : (crosses : PlainExpr → Bool) → EarlyGoes p core most view crosses [] b (λ rest. rest) left t s
    nothing_early crosses = record { after = t; agree = a; ready = tt; goes = λ rest live runs end l later. (runs, later, refl) }

    pub early_goes : (roomy : List ℕ) (kind : PlainStmtKind) (place rest : ℕ) (after : program_store.Store) (did : List Shape) → StmtTyped p view.scope kind → AreSpare b (b + length (registers_for (crosses_in kind) (words_in kind))) view → AreCells p core (crosses_in kind) t b (words_in kind) → run_kind p.mems roomy kind place left s ≡ went did rest after
        → EarlyGoes p core most view (crosses_in kind) (words_in kind) b (early_stages p.mems view.sources b kind) left t s
    unfolding run_kind
    early_goes roomy (load_sram sram dram spans) place rest after did typed before cells e =
        let x = taken_apart (in_order (part p.mems) spans) _ left s did rest after e in
        let w = spans_words spans x.answer x.between x.store typed.1.spans_typed x.first in
        slice_early p core h most view left s b spans t w.0 w.1 cells before a
    early_goes roomy (load_line line dram spans) place rest after did typed before cells e =
        let x = taken_apart (in_order (part p.mems) spans) _ left s did rest after e in
        let w = spans_words spans x.answer x.between x.store typed.1.spans_typed x.first in
        slice_early p core h most view left s b spans t w.0 w.1 cells before a
    early_goes roomy (store dram spans sram) place rest after did typed before cells e =
        let x = taken_apart (in_order (part p.mems) spans) _ left s did rest after e in
        let w = spans_words spans x.answer x.between x.store typed.1.spans_typed x.first in
        slice_early p core h most view left s b spans t w.0 w.1 cells before a
    early_goes roomy (gather sram dram places n) place rest after did typed before cells e =
        let x = taken_apart (word p.mems n) _ left s did rest after e in
        let w = one_word n x.between x.answer x.store typed.1.how_many x.first in
        bounds_early p core h most view left s b (n ∷ []) t (typed.1.how_many, tt) (w.2, tt) cells before a
    early_goes roomy (scatter dram places n sram) place rest after did typed before cells e =
        let x = taken_apart (word p.mems n) _ left s did rest after e in
        let w = one_word n x.between x.answer x.store typed.1.how_many x.first in
        bounds_early p core h most view left s b (n ∷ []) t (typed.1.how_many, tt) (w.2, tt) cells before a
    early_goes roomy (foreach style loops body) place rest after did typed before cells e =
        let x = taken_apart (in_order (counter_range p.mems) loops) _ left s did rest after e in
        let w = bounds_words loops x.answer x.between x.store typed.1.bounds x.first in
        bounds_early p core h most view left s b (bounds_of loops) t w.0 w.1 cells before a
    early_goes roomy (reduce style fold acc loops body word comb) place rest after did typed before cells e =
        let x = taken_apart (in_order (counter_range p.mems) loops) _ left s did rest after e in
        let w = bounds_words loops x.answer x.between x.store typed.1.bounds x.first in
        bounds_early p core h most view left s b (bounds_of loops) t w.0 w.1 cells before a
    early_goes roomy (mem_reduce style acc loops body part comb) place rest after did typed before cells e =
        let x = taken_apart (in_order (counter_range p.mems) loops) _ left s did rest after e in
        let w = bounds_words loops x.answer x.between x.store typed.1.bounds x.first in
        bounds_early p core h most view left s b (bounds_of loops) t w.0 w.1 cells before a
    early_goes roomy _ place rest after did typed before cells e = nothing_early is_early
