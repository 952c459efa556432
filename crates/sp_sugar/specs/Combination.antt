-- Combinations. That of a Reduce reads whether its accumulator holds a word of this run already, and under that the
-- accumulator; it writes the combined word, or the first one alone. That of a Fold reads, combines and writes.
use Rattle.std.specs.Prelude.{ℕ, suc, ◌+◌, ◌-◌, List, [], ◌∷◌, ◌++◌, length, Some}
use Rattle.sp_words.specs.declared.kind.BinOp.{BinOp}
use Rattle.sp_words.specs.declared.kind.BinOp.TheVariants as binary
use Rattle.sp_words.specs.declared.types.Ty.{Ty}
use Rattle.sp_words.specs.declared.types.Ty.TheVariants.{Bit}
use Rattle.sp_words.specs.Types.{int_type}
use Rattle.sp_tree.specs.declared.statement.Comb.{Comb}
use Rattle.sp_tree.specs.declared.statement.Comb.TheVariants as combiner
use Rattle.sp_tree.specs.PlainExpression.{PlainExpr, PlainExprs, expr, literal, counter, get_sram, two, no_expr, more_expr}
use Rattle.sp_tree.specs.PlainProgram as program
use Rattle.sp_core.specs.declared.operation.OpKind.TheVariants as kind
use Rattle.sp_core.specs.PlainCore.{PlainOp, PlainCounter, PlainNode, inner}
use Rattle.sp_sugar.specs.Operations.{Code, Codes, computes, read_op, write_op, literal_op, under, code, codes}
use Rattle.sp_sugar.specs.Values.{no_sources}

abbrev pub operator_of : Comb → BinOp
operator_of combiner.Add = binary.Add
operator_of combiner.Mul = binary.Mul
operator_of combiner.And = binary.And
operator_of combiner.Or = binary.Or
operator_of combiner.Xor = binary.Xor
operator_of combiner.Min = binary.Min
operator_of combiner.Max = binary.Max

-- the combination of the word at a place into a register, by operations from a place on
abbrev pub fold_ops : (at word : ℕ) → (acc : ℕ) → Ty → Comb → List PlainOp
fold_ops at word acc ty comb =
    read_op ty acc [] ∷
    computes (kind.Two (operator_of comb)) ty (at ∷ word ∷ []) ∷
    write_op ty acc ((at + 1) ∷ []) ∷ []

abbrev pub reduce_ops : (at word : ℕ) → (acc begun : ℕ) → Ty → Comb → List PlainOp
reduce_ops at word acc begun ty comb =
    read_op Bit begun [] ∷
    under at (read_op ty acc []) ∷
    computes (kind.Two (operator_of comb)) ty ((at + 1) ∷ word ∷ []) ∷
    computes kind.Mux ty (at ∷ (at + 2) ∷ word ∷ []) ∷
    write_op ty acc ((at + 3) ∷ []) ∷
    literal_op Bit 1 ∷
    write_op Bit begun ((at + 5) ∷ []) ∷ []

-- The combination of a MemReduce goes over the elements, by a counter for each dimension. These counters are numbered
-- after those of the program, alike in each MemReduce, since none of them stands inside another.
abbrev pub element_counters : (first : ℕ) → (dims : List ℕ) → List PlainCounter
element_counters c [] = []
element_counters c (d ∷ dims) =
    record { number = c; from = literal_op int_type 0 ∷ []; until = literal_op int_type d ∷ []; by = 1; par = 1 } ∷ element_counters (suc c) dims

abbrev pub element_indices : (first : ℕ) → (dims : List ℕ) → PlainExprs
element_indices c [] = no_expr
element_indices c (d ∷ dims) = more_expr (expr 0 int_type (counter c)) (element_indices (suc c) dims)

-- whether the element is the last one: a comparison for each dimension, and their conjunction
abbrev pub is_last_at : (counter : ℕ) → (dim : ℕ) → PlainExpr
is_last_at c d = expr 0 Bit (two binary.Eq (expr 0 int_type (counter c)) (expr 0 int_type (literal (d - 1))))

abbrev pub conjunction : PlainExpr → (first : ℕ) → (dims : List ℕ) → PlainExpr
conjunction test c [] = test
conjunction test c (d ∷ dims) = conjunction (expr 0 Bit (two binary.And test (is_last_at c d))) (suc c) dims

abbrev pub is_last_element : (first : ℕ) → (dims : List ℕ) → PlainExpr
is_last_element c [] = expr 0 Bit (literal 1)
is_last_element c (d ∷ dims) = conjunction (is_last_at c d) (suc c) dims

-- by the declarations of the program's memories
module _ (mems : List program.PlainMem) where
  -- the part's element, and its combination into the accumulator's; `begun` is written with the last one
  abbrev pub element_value : (counter : ℕ) → (dims : List ℕ) → (part : ℕ) → Ty → Code
  element_value c dims part ty = code mems no_sources 0 (expr 0 ty (get_sram part (element_indices c dims)))

  abbrev pub element_ops : (at word : ℕ) → (counter : ℕ) → (dims : List ℕ) → (acc begun : ℕ) → Ty → Comb → List PlainOp
  element_ops at word c dims acc begun ty comb =
      let indices : Codes = codes mems no_sources (at + 1) (element_indices c dims) in
      let read : ℕ = at + 1 + length dims in
      let again : Codes = codes mems no_sources (read + 3) (element_indices c dims) in
      let last : Code = code mems no_sources (read + 4 + length dims) (is_last_element c dims) in
      read_op Bit begun [] ∷ indices.ops ++
      under at (read_op ty acc indices.words) ∷
      computes (kind.Two (operator_of comb)) ty (read ∷ word ∷ []) ∷
      computes kind.Mux ty (at ∷ (read + 1) ∷ word ∷ []) ∷ again.ops ++
      write_op ty acc (again.words ++ (read + 2) ∷ []) ∷ last.ops ++
      literal_op Bit 1 ∷
      under last.word (write_op Bit begun ((read + 4 + length dims + length last.ops) ∷ [])) ∷ []

  abbrev pub element_loop : (counter : ℕ) → (dims : List ℕ) → (part acc begun : ℕ) → Ty → Comb → PlainNode
  element_loop c dims part acc begun ty comb =
      let value : Code = element_value c dims part ty in
      inner (element_counters c dims) [] (value.ops ++ element_ops (length value.ops) value.word c dims acc begun ty comb) (Some (length value.ops))
