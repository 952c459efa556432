-- What a program does at an element of a MemReduce.
use Rattle.std.proofs.Common.{◌≡◌, ℕ, ◌+◌, Bool, true, false, List, Some, None, refl, sym, ◌∙◌, ap}
use Rattle.std.specs.Prelude.{slice_index_or, slice_set}
use Rattle.sp_words.specs.declared.types.Ty.{Ty}
use Rattle.sp_words.specs.Memory.{cells}
use Rattle.sp_tree.specs.declared.statement.Comb.{Comb}
use Rattle.sp_tree.specs.Accesses.{written, read_cell, write_cell}
use Rattle.sp_tree.specs.Expressions.{mem}
use Rattle.sp_tree.specs.Operators.{combined}
use Rattle.sp_tree.specs.PlainProgram.{PlainMem}
use Rattle.sp_tree.specs.Sequential.{assign}
use Rattle.sp_tree.specs.Step as step
use Rattle.sp_tree.specs.Step.{Step, went, ◌>>=◌, ◌>>◌, turn}
use Rattle.sp_tree.specs.Store.{Store, hold, cells_of}
use Rattle.sp_sugar.proofs.MemoryLemmas.{word_found}
use Rattle.sp_sugar.proofs.StepLemmas.{as_it_went, taken_apart}
use Rattle.sp_same.proofs.Turns.{turn_falls}

-- values and counters are as they were
abbrev pub Stay : (s after : Store) → Type 0
Stay s after = ((v : ℕ) → after.values v ≡ s.values v) × ((k : ℕ) → after.counts k ≡ s.counts k)

-- a cell is written alike whatever the counters stand for
cell_written : (acc at w left rest : ℕ) (s after : Store) (x : Unit {0}) (f : ℕ → ℕ) → write_cell acc at w left s ≡ went x rest after
    → (write_cell acc at w left (record s { counts = f }) ≡ went x rest (record after { counts = f })) × (rest ≡ left) × Stay s after
unfolding step.read step.change ◌>>=◌
cell_written acc at w left rest s after x f e = as_it_went (λ y n u. (write_cell acc at w left (record s { counts = f }) ≡ went y n (record u { counts = f })) × (n ≡ left) × Stay s u) tt x left rest
    (hold s acc (cells (slice_set (cells_of (s.held acc)) at (Some w)))) after e (refl, refl, (λ v. refl, λ k. refl))

module _ (mems : List PlainMem) (comb : Comb) (acc : ℕ) (combines : Bool) (place : ℕ) where
  -- so is a word assigned, which takes no turn
  pub assigned : (b : Bool) (at w left rest : ℕ) (s after : Store) (x : Unit {0}) (f : ℕ → ℕ) → assign mems comb acc at b w place left s ≡ went x rest after
      → (assign mems comb acc at b w place left (record s { counts = f }) ≡ went x rest (record after { counts = f })) × (rest ≡ left) × Stay s after
  unfolding step.read ◌>>=◌ step.pure
  assigned false at w left rest s after x f e = cell_written acc at w left rest s after x f e
  assigned true at w left rest s after x f e =
      let ty : Ty = (mem mems acc).ty in
      let writes : ℕ → Step (Unit {0}) = λ v. write_cell acc at (combined comb ty v w) in
      let y = taken_apart (read_cell acc at place) writes left s x rest after e in
      let found = word_found place (slice_index_or (cells_of (s.held acc)) at None) y.answer left y.between s y.store y.first in
      let z = cell_written acc at (combined comb ty y.answer w) left rest s after x f (ap (λ n. writes y.answer n s) (sym found.1) ∙ ap (λ u. writes y.answer y.between u) (sym found.2) ∙ y.second) in
      (ap (λ o. (written place o >>= writes) left (record s { counts = f })) found.0 ∙ z.0, z.1, z.2)

  abbrev pub element : (part at : ℕ) → Step (Unit {0})
  element part at = read_cell part at place >>= (λ w. turn >> assign mems comb acc at combines w place)

  -- the word of the part, a turn, and its combination
  pub record Element (part at left rest : ℕ) (s after : Store) (x : Unit {0}) : Type 0 where
    pub word : ℕ
    pub part_word : slice_index_or (cells_of (s.held part)) at None ≡ Some word
    pub turns : ℕ
    pub fell : left ≡ turns + 1
    pub assigns : assign mems comb acc at combines word place turns s ≡ went x rest after

  pub element_apart : (part at left rest : ℕ) (s after : Store) (x : Unit {0}) → element part at left s ≡ went x rest after → Element part at left rest s after x
  unfolding step.read ◌>>=◌
  element_apart part at left rest s after x e =
      let y = taken_apart (read_cell part at place) (λ w. turn >> assign mems comb acc at combines w place) left s x rest after e in
      let found = word_found place (slice_index_or (cells_of (s.held part)) at None) y.answer left y.between s y.store y.first in
      let z = taken_apart turn (λ _. assign mems comb acc at combines y.answer place) y.between y.store x rest after y.second in
      let fell = turn_falls z.answer y.between z.between y.store z.store z.first in
      record {
        word = y.answer;
        part_word = found.0;
        turns = z.between;
        fell = sym found.1 ∙ fell.0;
        assigns = ap (λ u. assign mems comb acc at combines y.answer place z.between u) (sym found.2 ∙ sym fell.1) ∙ z.second;
      }
