-- The spans of a slice, as a program and its core take them.
use Rattle.std.proofs.Common.{◌≡◌, ℕ, Bool, List, [], ◌∷◌, refl, sym, ◌∙◌, ap}
use Rattle.std.specs.Prelude.{map}
use Rattle.sp_words.specs.Types.{int_type}
use Rattle.sp_tree.specs.Elements.{index_value}
use Rattle.sp_tree.specs.Expressions.{word}
use Rattle.sp_tree.specs.PlainExpression.{PlainExpr}
use Rattle.sp_tree.specs.PlainProgram.{PlainProgram}
use Rattle.sp_tree.specs.PlainStatement.{PlainSpan, single, range}
use Rattle.sp_tree.specs.Sequential.{part}
use Rattle.sp_tree.specs.Step as program_step
use Rattle.sp_tree.specs.Store as program_store
use Rattle.sp_tree.specs.Transfers as program
use Rattle.sp_tree.specs.Typing.{SpansTyped}
use Rattle.sp_core.specs.History.{Taken, one, both, last_word}
use Rattle.sp_core.specs.Operations.{operations}
use Rattle.sp_core.specs.PlainCore as core_tree
use Rattle.sp_core.specs.PlainCore.{PlainCore}
use Rattle.sp_core.specs.Scope.{plainly}
use Rattle.sp_core.specs.Sequential.{taken}
use Rattle.sp_core.specs.Step as core_step
use Rattle.sp_core.specs.Store as store
use Rattle.sp_core.specs.Transfers as slice
use Rattle.sp_core.specs.Transfers.{part_of}
use Rattle.sp_sugar.specs.Agreement.{HasMemories, View, Agree}
use Rattle.sp_sugar.specs.Early.{after, from_register, spans_from, parts_of}
use Rattle.sp_sugar.proofs.StepLemmas.{same_answer, taken_apart, then_on}
use Rattle.sp_same.specs.Following.{AreReady}
use Rattle.sp_same.proofs.Quietly.{Pairs, Triples, Quietly, quiet_order}
use Rattle.sp_same.proofs.SliceTwins.{as_core}
use Rattle.sp_same.proofs.StillWords.{unchanged}
use Rattle.sp_same.proofs.WordsTaken.{part_taken}

IsPart : PlainSpan → Taken → program.Part → Type 0
IsPart span k q = part_of k ≡ as_core q

parts_are : (spans : List PlainSpan) (ts : List Taken) (parts : List program.Part) → Triples IsPart spans ts parts → map part_of ts ≡ map as_core parts
unfolding IsPart
parts_are [] [] [] q = refl
parts_are (x ∷ spans) (t ∷ ts) (y ∷ parts) q = ap (λ z. z ∷ map part_of ts) q.0 ∙ ap (λ l. as_core y ∷ l) (parts_are spans ts parts q.1)
parts_are [] [] (y ∷ parts) q = absurd q
parts_are [] (t ∷ ts) parts q = absurd q
parts_are (x ∷ spans) [] parts q = absurd q
parts_are (x ∷ spans) (t ∷ ts) [] q = absurd q

module _ (p : PlainProgram) (core : PlainCore) (h : HasMemories p core) (most : ℕ) (view : View) (crosses : PlainExpr → Bool) (s : program_store.Store) (t : store.Store) (left : ℕ) (a : Agree p core view [] s t) where
  abbrev Quiet_span : PlainSpan → core_tree.PlainSpan → Type 0
  Quiet_span = Quietly (part p.mems) (taken core plainly most view.around) IsPart left s t

  spans_pair : (r : ℕ) (spans : List PlainSpan) → SpansTyped p view.scope spans → AreReady p core crosses left s t r (parts_of spans) → Pairs Quiet_span spans (spans_from p.mems view.sources crosses r spans)
  unfolding IsPart program_step.pure core_step.pure
  spans_pair r [] typed ready = tt
  spans_pair r (single e ∷ spans) typed ready = (
    λ q n u goes.
        let c = taken_apart (word p.mems e) (λ i. program_step.pure (program.index (index_value i))) left s q n u goes in
        let x = part_taken p core h view crosses r e s c.store t left c.between c.answer int_type typed.0 a ready.0 c.first in
        let y = unchanged (program.index (index_value c.answer)) q c.between n c.store u c.second in (
          y.0 ∙ x.0,
          y.1 ∙ x.1,
          one x.2.0,
          then_on (operations core view.around (from_register p.mems view.sources crosses r e)) (λ i. core_step.pure (one i)) t x.2.0 t x.2.1,
          ap (λ w. slice.index (index_value w)) x.2.2 ∙ ap as_core (same_answer (program.index (index_value c.answer)) q c.between n c.store u c.second),
        ),
    spans_pair (after crosses r e) spans typed.1 ready.1,
  )
  spans_pair r (range d e par ∷ spans) typed ready = (
    λ q n u goes.
        let c = taken_apart (word p.mems d) (λ i. program_step.◌>>=◌ (word p.mems e) (λ j. program_step.pure (program.between (index_value i) (index_value j)))) left s q n u goes in
        let x = part_taken p core h view crosses r d s c.store t left c.between c.answer int_type typed.0 a ready.0 c.first in
        let f = taken_apart (word p.mems e) (λ j. program_step.pure (program.between (index_value c.answer) (index_value j))) c.between c.store q n u c.second in
        let here : word p.mems e left s ≡ program_step.went f.answer f.between f.store = ap (λ k. word p.mems e k s) (sym x.0) ∙ ap (λ v. word p.mems e c.between v) (sym x.1) ∙ f.first in
        let z = part_taken p core h view crosses (after crosses r d) e s f.store t left f.between f.answer int_type typed.1 a ready.1.0 here in
        let y = unchanged (program.between (index_value c.answer) (index_value f.answer)) q f.between n f.store u f.second in (
          y.0 ∙ z.0,
          y.1 ∙ z.1,
          both x.2.0 z.2.0,
          then_on (operations core view.around (from_register p.mems view.sources crosses r d)) (λ i. core_step.◌>>=◌ (operations core view.around (from_register p.mems view.sources crosses (after crosses r d) e)) (λ j. core_step.pure (both i j))) t x.2.0 t x.2.1
              ∙ then_on (operations core view.around (from_register p.mems view.sources crosses (after crosses r d) e)) (λ j. core_step.pure (both x.2.0 j)) t z.2.0 t z.2.1,
          ap (λ w. slice.between (index_value w) (index_value (last_word z.2.0))) x.2.2 ∙ ap (λ w. slice.between (index_value c.answer) (index_value w)) z.2.2
              ∙ ap as_core (same_answer (program.between (index_value c.answer) (index_value f.answer)) q f.between n f.store u f.second),
        ),
    spans_pair (after crosses (after crosses r d) e) spans typed.3 ready.1.1,
  )

  pub spans_taken : (r : ℕ) (spans : List PlainSpan) (parts : List program.Part) (rest : ℕ) (u : program_store.Store) → SpansTyped p view.scope spans → AreReady p core crosses left s t r (parts_of spans)
      → program_step.in_order (part p.mems) spans left s ≡ program_step.went parts rest u
      → (rest ≡ left) × (u ≡ s) × (ts : List Taken) × (core_step.in_order (taken core plainly most view.around) (spans_from p.mems view.sources crosses r spans) t ≡ core_step.went ts t) × (map part_of ts ≡ map as_core parts)
  spans_taken r spans parts rest u typed ready goes =
      let q = quiet_order (part p.mems) (taken core plainly most view.around) IsPart left s t spans (spans_from p.mems view.sources crosses r spans) parts rest u (spans_pair r spans typed ready) goes in
      (q.0, q.1, q.2, q.3, parts_are spans q.2 parts q.4)
