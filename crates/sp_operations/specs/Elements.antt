-- The parts of what is done for an element.
use Rattle.std.specs.Prelude.{ℕ, suc, ◌+◌, List, [], ◌∷◌, ◌++◌, length}
use Rattle.sp_words.specs.declared.types.Ty.{Ty}
use Rattle.sp_words.specs.declared.types.Ty.TheVariants.{Bit}
use Rattle.sp_words.specs.Types.{int_type}
use Rattle.sp_tree.specs.declared.statement.Comb.{Comb}
use Rattle.sp_tree.specs.PlainExpression.{expr, get_sram}
use Rattle.sp_tree.specs.PlainProgram.{PlainMem}
use Rattle.sp_core.specs.declared.operation.OpKind.TheVariants as kind
use Rattle.sp_core.specs.PlainCore.{PlainOp}
use Rattle.sp_sugar.specs.Combination.{operator_of, element_indices, is_last_element, element_ops}
use Rattle.sp_sugar.specs.Operations.{Code, computes, counter_op, read_op, write_op, literal_op, under, code}
use Rattle.sp_sugar.specs.Values.{no_sources}

-- the values of the element's counters, and their places from one on
abbrev pub index_ops : (counter : ℕ) → (dims : List ℕ) → List PlainOp
index_ops c [] = []
index_ops c (d ∷ dims) = counter_op int_type c ∷ index_ops (suc c) dims

abbrev pub index_places : (at : ℕ) → (dims : List ℕ) → List ℕ
index_places at [] = []
index_places at (d ∷ dims) = at ∷ index_places (at + 1) dims

-- the combined word, whose operation is the last one
unfoldable pub element_word : (at word : ℕ) → (counter : ℕ) → (dims : List ℕ) → (acc begun : ℕ) → Ty → Comb → List PlainOp
element_word at word c dims acc begun ty comb =
    let read : ℕ = at + 1 + length (index_ops c dims) in
    read_op Bit begun [] ∷ index_ops c dims ++
    under at (read_op ty acc (index_places (at + 1) dims)) ∷
    computes (kind.Two (operator_of comb)) ty (read ∷ word ∷ []) ∷
    computes kind.Mux ty (at ∷ (read + 1) ∷ word ∷ []) ∷ []

module _ (mems : List PlainMem) where
  -- the part's element, from a place on
  unfoldable pub value_code : (at : ℕ) → (counter : ℕ) → (dims : List ℕ) → (part : ℕ) → Ty → Code
  value_code at c dims part ty = code mems no_sources at (expr 0 ty (get_sram part (element_indices c dims)))

  -- the writes of the word at a place, and of what tells that the accumulator has begun
  unfoldable pub element_end : (at word : ℕ) → (counter : ℕ) → (dims : List ℕ) → (acc begun : ℕ) → Ty → List PlainOp
  element_end at word c dims acc begun ty =
      let place : ℕ = at + length (index_ops c dims) + 1 in
      let last : Code = code mems no_sources place (is_last_element c dims) in
      index_ops c dims ++
      write_op ty acc (index_places at dims ++ word ∷ []) ∷ last.ops ++
      literal_op Bit 1 ∷
      under last.word (write_op Bit begun ((place + length last.ops) ∷ [])) ∷ []

  -- all that is done for an element, by the place of its word
  unfoldable pub element_all : (at word : ℕ) → (counter : ℕ) → (dims : List ℕ) → (acc begun : ℕ) → Ty → Comb → List PlainOp
  element_all at word c dims acc begun ty comb = element_ops mems at word c dims acc begun ty comb
