-- What an expression means: its operands from left to right, then its operator.
use Rattle.std.specs.Prelude.{ℕ, List, [], ◌∷◌, map, slice_index_or}
use Rattle.sp_words.specs.declared.types.Ty.{Ty}
use Rattle.sp_words.specs.Words.{word_cast}
use Rattle.sp_tree.specs.declared.statement.FaultKind.TheVariants.{Bounds}
use Rattle.sp_tree.specs.Accesses.{read_cell, read_line, dequeue, read_word}
use Rattle.sp_tree.specs.Elements.{index_value, natural, are_inside, row_major}
use Rattle.sp_tree.specs.Operators.{one_word, two_word, shifted, chosen}
use Rattle.sp_tree.specs.PlainExpression.{PlainExpr, PlainExprKind, PlainExprs, expr, literal, counter, value, get_reg, get_arg, get_sram, get_line, deq, one, two, shift, mux, cast, no_expr, more_expr, type_of}
use Rattle.sp_tree.specs.PlainProgram.{PlainMem, no_mem}
use Rattle.sp_tree.specs.Step.{Step, pure, ◌>>=◌, ◌>>◌, ensure, read}

-- by the declarations of the memories
module _ (mems : List PlainMem) where
  abbrev pub mem : ℕ → PlainMem
  mem m = slice_index_or mems m no_mem

  abbrev pub dims : ℕ → List ℕ
  dims m = (mem m).dims

  -- where the element at these indices stands, each of which is inside of its dimension
  abbrev pub element : ℕ → (place : ℕ) → (indices : List ℕ) → Step ℕ
  element m place indices = do
    ensure (are_inside (dims m) (map index_value indices)) Bounds place
    pure (row_major (dims m) (map (λ i. natural (index_value i)) indices))

  unfoldable mutual
    -- the word of an expression
    pub word : PlainExpr → Step ℕ
    word (expr place ty kind) = word_of kind place ty

    pub word_of : PlainExprKind → (place : ℕ) → Ty → Step ℕ
    word_of (literal w) place ty = pure w
    word_of (counter c) place ty = read (λ s. s.counts c)
    word_of (value v) place ty = read (λ s. s.values v)
    word_of (get_reg m) place ty = read_cell m 0 place
    word_of (get_arg m) place ty = read_word m 0
    word_of (get_sram m indices) place ty = do
      is ← words indices
      at ← element m place is
      read_cell m at place
    word_of (get_line m row column) place ty = do
      r ← word row
      c ← word column
      ensure (are_inside (dims m) (map index_value (r ∷ c ∷ []))) Bounds place
      read_line m (natural (index_value r)) (natural (index_value c)) place
    word_of (deq m) place ty = dequeue m place
    word_of (one op a) place ty = do
      x ← word a
      pure (one_word op ty x)
    word_of (two op a b) place ty = do
      x ← word a
      y ← word b
      pure (two_word op (type_of a) x y)
    word_of (shift left a by) place ty = do
      x ← word a
      pure (shifted left ty x by)
    word_of (mux c a b) place ty = do
      x ← word c
      y ← word a
      z ← word b
      pure (chosen x y z)
    word_of (cast a) place ty = do
      x ← word a
      pure (word_cast (type_of a) ty x)

    -- from left to right
    pub words : PlainExprs → Step (List ℕ)
    words no_expr = pure []
    words (more_expr e rest) = do
      first ← word e
      others ← words rest
      pure (first ∷ others)
