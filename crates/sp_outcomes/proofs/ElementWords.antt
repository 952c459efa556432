-- What the expressions over the counters of an element give.
use Rattle.std.proofs.Common.{◌≡◌, ℕ, suc, ◌-◌, ◌<◌, ◌==◌, Bool, true, false, ◌&&◌, List, [], ◌∷◌, refl, ◌∙◌, ap, arith, lt-ltb}
use Rattle.std.specs.Prelude.{pos, map, All}
use Rattle.sp_words.specs.declared.kind.BinOp.TheVariants as binary
use Rattle.sp_words.specs.declared.types.Ty.{Ty}
use Rattle.sp_words.specs.declared.types.Ty.TheVariants.{Bit}
use Rattle.sp_words.specs.Interface.{IsCount}
use Rattle.sp_words.specs.Words.{word_eq, word_and}
use Rattle.sp_tree.specs.declared.statement.FaultKind.TheVariants.{Bounds}
use Rattle.sp_tree.specs.Accesses.{read_cell}
use Rattle.sp_tree.specs.Elements.{index_value, natural, is_below, are_inside, row_major}
use Rattle.sp_tree.specs.Expressions as expressions
use Rattle.sp_tree.specs.Expressions.{word, word_of, words}
use Rattle.sp_tree.specs.Operators.{bit}
use Rattle.sp_tree.specs.PlainExpression.{PlainExpr, expr, get_sram, two, type_of}
use Rattle.sp_tree.specs.PlainProgram.{PlainProgram}
use Rattle.sp_tree.specs.Step as step
use Rattle.sp_tree.specs.Store as store
use Rattle.sp_sugar.specs.Combination.{element_indices, is_last_at, conjunction, is_last_element}
use Rattle.sp_outcomes.proofs.ElementOrder.{AreBelow}
use Rattle.sp_outcomes.proofs.ElementLoops.{small_value, first_count, other_counts}

-- the counters from a number on have these words
abbrev pub HaveCounts : store.Store → (first : ℕ) → List ℕ → Type 0
HaveCounts s c [] = Unit {0}
HaveCounts s c (j ∷ js) = (s.counts c ≡ j) × HaveCounts s (suc c) js

-- indices inside of a memory stand for themselves
pub index_is : (j d : ℕ) → j < d → IsCount d → index_value j ≡ pos j
index_is j d lt is = small_value j (omega (arith, lt, is.1))

pub are_in : (dims js : List ℕ) → AreBelow dims js → All IsCount dims → are_inside dims (map index_value js) ≡ true
are_in [] [] b h = refl
are_in [] (j ∷ js) b h = absurd b
are_in (d ∷ dims) [] b h = absurd b
are_in (d ∷ dims) (j ∷ js) b h =
    ap (λ z. is_below z d && are_inside dims (map index_value js)) (index_is j d b.0 (first_count d dims h))
    ∙ ap (λ t. t && are_inside dims (map index_value js)) (lt-ltb j d b.0)
    ∙ are_in dims js b.1 (other_counts d dims h)

pub are_themselves : (dims js : List ℕ) → AreBelow dims js → All IsCount dims → map (λ i. natural (index_value i)) js ≡ js
are_themselves [] [] b h = refl
are_themselves [] (j ∷ js) b h = absurd b
are_themselves (d ∷ dims) [] b h = absurd b
are_themselves (d ∷ dims) (j ∷ js) b h =
    ap (λ z. natural z ∷ map (λ i. natural (index_value i)) js) (index_is j d b.0 (first_count d dims h)) ∙ ap (λ l. j ∷ l) (are_themselves dims js b.1 (other_counts d dims h))

abbrev pub are_last : (dims indices : List ℕ) → Bool
are_last [] _ = true
are_last (d ∷ dims) [] = true
are_last (d ∷ dims) (j ∷ js) = (j == d - 1) && are_last dims js

module _ (p : PlainProgram) (left : ℕ) (s : store.Store) where
  pub indices_words : (c : ℕ) (dims js : List ℕ) → AreBelow dims js → HaveCounts s c js → words p.mems (element_indices c dims) left s ≡ step.went js left s
  unfolding words word word_of step.pure step.read step.◌>>=◌
  indices_words c [] [] b h = refl
  indices_words c [] (j ∷ js) b h = absurd b
  indices_words c (d ∷ dims) [] b h = absurd b
  indices_words c (d ∷ dims) (j ∷ js) b h =
      ap (λ w. step.◌>>=◌ (words p.mems (element_indices (suc c) dims)) (λ rest. step.pure (w ∷ rest)) left s) h.0
      ∙ ap (λ z. step.◌>>=◌ (λ n u. z) (λ rest. step.pure (j ∷ rest)) left s) (indices_words (suc c) dims js b.1 h.1)

  -- the word of the element
  pub element_word : (m c : ℕ) (ty : Ty) (js : List ℕ) → AreBelow (expressions.dims p.mems m) js → All IsCount (expressions.dims p.mems m) → HaveCounts s c js
      → word p.mems (expr 0 ty (get_sram m (element_indices c (expressions.dims p.mems m)))) left s ≡ read_cell m (row_major (expressions.dims p.mems m) js) 0 left s
  unfolding word word_of step.pure step.◌>>=◌
  element_word m c ty js b counts h =
      ap (λ z. step.◌>>=◌ (λ n u. z) (λ is. step.◌>>=◌ (expressions.element p.mems m 0 is) (λ at. read_cell m at 0)) left s) (indices_words c (expressions.dims p.mems m) js b h)
      ∙ ap (λ t. step.◌>>=◌ (step.◌>>◌ (step.ensure t Bounds 0) (step.pure (row_major (expressions.dims p.mems m) (map (λ i. natural (index_value i)) js)))) (λ at. read_cell m at 0) left s) (are_in (expressions.dims p.mems m) js b counts)
      ∙ ap (λ l. read_cell m (row_major (expressions.dims p.mems m) l) 0 left s) (are_themselves (expressions.dims p.mems m) js b counts)

  -- whether it is the last one
  last_at : (c d j : ℕ) → s.counts c ≡ j → word p.mems (is_last_at c d) left s ≡ step.went (bit (j == d - 1)) left s
  unfolding word word_of step.pure step.read step.◌>>=◌ word_eq
  last_at c d j e = ap (λ k. step.went (bit (k == d - 1)) left s) e

  both_bits : (ty : Ty) (a b : Bool) → word_and ty (bit a) (bit b) ≡ bit (a && b)
  unfolding word_and
  both_bits ty true true = refl
  both_bits ty true false = refl
  both_bits ty false true = refl
  both_bits ty false false = refl

  and_assoc : (a b c : Bool) → (a && b) && c ≡ a && (b && c)
  and_assoc true b c = refl
  and_assoc false b c = refl

  conjunction_word : (test : PlainExpr) (a : Bool) (c : ℕ) (dims js : List ℕ) → AreBelow dims js → HaveCounts s c js → word p.mems test left s ≡ step.went (bit a) left s
      → word p.mems (conjunction test c dims) left s ≡ step.went (bit (a && are_last dims js)) left s
  unfolding word word_of step.pure step.◌>>=◌
  conjunction_word test a c [] js b h e = e ∙ ap (λ t. step.went (bit t) left s) (all_of a)
    where
      all_of : (a : Bool) → a ≡ a && true
      all_of true = refl
      all_of false = refl
  conjunction_word test a c (d ∷ dims) [] b h e = absurd b
  conjunction_word test a c (d ∷ dims) (j ∷ js) b h e =
      let one : word p.mems (expr 0 Bit (two binary.And test (is_last_at c d))) left s ≡ step.went (bit (a && (j == d - 1))) left s =
      ap (λ z. step.◌>>=◌ (λ n u. z) (λ x. step.◌>>=◌ (word p.mems (is_last_at c d)) (λ y. step.pure (word_and (type_of test) x y))) left s) e
      ∙ ap (λ z. step.◌>>=◌ (λ n u. z) (λ y. step.pure (word_and (type_of test) (bit a) y)) left s) (last_at c d j h.0)
      ∙ ap (λ w. step.went w left s) (both_bits (type_of test) a (j == d - 1)) in
      conjunction_word (expr 0 Bit (two binary.And test (is_last_at c d))) (a && (j == d - 1)) (suc c) dims js b.1 h.1 one
      ∙ ap (λ t. step.went (bit t) left s) (and_assoc a (j == d - 1) (are_last dims js))

  pub last_word : (c : ℕ) (dims js : List ℕ) → AreBelow dims js → HaveCounts s c js → word p.mems (is_last_element c dims) left s ≡ step.went (bit (are_last dims js)) left s
  unfolding word word_of step.pure
  last_word c [] js b h = refl
  last_word c (d ∷ dims) [] b h = absurd b
  last_word c (d ∷ dims) (j ∷ js) b h = conjunction_word (is_last_at c d) (j == d - 1) (suc c) dims js b.1 h.1 (last_at c d j h.0)
