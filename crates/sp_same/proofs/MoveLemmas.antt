-- Words that are moved one by one, by a program and by its core.
use Rattle.std.proofs.Common.{◌≡◌, ℕ, suc, List, [], ◌∷◌, Option, Some, refl, ◌∙◌, ap, subst}
use Rattle.std.specs.Prelude.{length, slice_index, slice_set}
use Rattle.sp_words.specs.declared.kind.Kind.TheVariants.{Sram, Dram}
use Rattle.sp_words.specs.Memory.{Contents, cells, words}
use Rattle.sp_tree.specs.Elements as elements
use Rattle.sp_tree.specs.Step as program
use Rattle.sp_tree.specs.Store as program_store
use Rattle.sp_core.specs.Accesses.{word_in, with_word, written, read_in, write_in}
use Rattle.sp_core.specs.Declarations.{kind_of, dims}
use Rattle.sp_core.specs.Elements.{row_major}
use Rattle.sp_core.specs.PlainCore.{PlainCore}
use Rattle.sp_core.specs.Step as core_step
use Rattle.sp_core.specs.Store as store
use Rattle.sp_sugar.proofs.StepLemmas.{same_store, taken_apart, then_on}
use Rattle.sp_sugar.proofs.TwinLemmas.{same_cells, same_words, same_place}

-- steps for each element, where each goes on and keeps what holds of both stores
module _ {X A B : Type 0} (f : X → program.Step A) (g : X → core_step.Step B) (I : program_store.Store → store.Store → Type 0)
    (step : (x : X) (left rest : ℕ) (s after : program_store.Store) (t : store.Store) (a : A) → I s t → f x left s ≡ program.went a rest after → (b : B) × (u : store.Store) × (g x t ≡ core_step.went b u) × I after u) where
  pub each_follows : (xs : List X) (left rest : ℕ) (s after : program_store.Store) (t : store.Store) (al : List A) → I s t → program.in_order f xs left s ≡ program.went al rest after
      → (bs : List B) × (u : store.Store) × (core_step.in_order g xs t ≡ core_step.went bs u) × I after u × (length bs ≡ length xs)
  unfolding program.in_order core_step.in_order program.pure core_step.pure
  each_follows [] left rest s after t al i e = ([], t, refl, subst (λ v. I v t) (same_store [] al left rest s after e) i, refl)
  each_follows (x ∷ xs) left rest s after t al i e =
      let b = taken_apart (f x) (λ first. program.◌>>=◌ (program.in_order f xs) (λ others. program.pure (first ∷ others))) left s al rest after e in
      let d = taken_apart (program.in_order f xs) (λ others. program.pure (b.answer ∷ others)) b.between b.store al rest after b.second in
      let one = step x left b.between s b.store t b.answer i b.first in
      let more = each_follows xs b.between d.between b.store d.store one.1 d.answer one.3 d.first in (
        one.0 ∷ more.0,
        more.1,
        then_on (g x) (λ first. core_step.◌>>=◌ (core_step.in_order g xs) (λ others. core_step.pure (first ∷ others))) t one.0 one.1 one.2
            ∙ then_on (core_step.in_order g xs) (λ others. core_step.pure (one.0 ∷ others)) one.1 more.0 more.1 more.2,
        subst (λ v. I v more.1) (same_store (b.answer ∷ d.answer) al d.between rest d.store after d.second) more.3,
        ap suc more.4,
      )

module _ (core : PlainCore) (n : ℕ) where
  pub reads_in : (is : List ℕ) (t : store.Store) (w : ℕ) → word_in (kind_of core n) (dims core n) is (t n) ≡ Some w → read_in core n is t ≡ core_step.went w t
  unfolding core_step.◌>>=◌ core_step.look core_step.pure
  reads_in is t w e = ap (λ o. written o t) e

  pub writes_in : (is : List ℕ) (t : store.Store) (w : ℕ) (c : Contents) → with_word (kind_of core n) (dims core n) is w (t n) ≡ c → write_in core n is w t ≡ core_step.went tt (store.hold t n c)
  unfolding core_step.change
  writes_in is t w c e = ap (λ x. core_step.went tt (store.hold t n x)) e

  module _ (ds : List ℕ) (same_dims : dims core n ≡ ds) (c d : Option Contents) (held : c ≡ d) where
    pub dram_word : kind_of core n ≡ Dram → (is js : List ℕ) → is ≡ js → word_in (kind_of core n) (dims core n) is c ≡ Some (slice_index (program_store.words_of d) (elements.row_major ds js))
    dram_word k is js e =
        ap (λ x. word_in x (dims core n) is c) k ∙ ap (λ x. Some (slice_index (store.words_of c) (row_major x is))) same_dims
        ∙ ap (λ x. Some (slice_index (store.words_of c) (row_major ds x))) e ∙ ap (λ x. Some (slice_index (store.words_of c) x)) (same_place ds js)
        ∙ ap (λ x. Some (slice_index x (elements.row_major ds js))) (ap store.words_of held ∙ same_words d)

    pub dram_with : kind_of core n ≡ Dram → (is js : List ℕ) (w : ℕ) → is ≡ js → with_word (kind_of core n) (dims core n) is w c ≡ words (slice_set (program_store.words_of d) (elements.row_major ds js) w)
    dram_with k is js w e =
        ap (λ x. with_word x (dims core n) is w c) k ∙ ap (λ x. words (slice_set (store.words_of c) (row_major x is) w)) same_dims
        ∙ ap (λ x. words (slice_set (store.words_of c) (row_major ds x) w)) e ∙ ap (λ x. words (slice_set (store.words_of c) x w)) (same_place ds js)
        ∙ ap (λ x. words (slice_set x (elements.row_major ds js) w)) (ap store.words_of held ∙ same_words d)

    pub sram_with : kind_of core n ≡ Sram → (is : List ℕ) (w : ℕ) → with_word (kind_of core n) (dims core n) is w c ≡ cells (slice_set (program_store.cells_of d) (elements.row_major ds is) (Some w))
    sram_with k is w =
        ap (λ x. with_word x (dims core n) is w c) k ∙ ap (λ x. cells (slice_set (store.cells_of c) (row_major x is) (Some w))) same_dims
        ∙ ap (λ x. cells (slice_set (store.cells_of c) x (Some w))) (same_place ds is)
        ∙ ap (λ x. cells (slice_set x (elements.row_major ds is) (Some w))) (ap store.cells_of held ∙ same_cells d)
