-- The operations of an expression: its operands', from left to right, and then its own. They stand in a list from a place
-- on, and the word of the expression is at one of the list's places.
use Rattle.std.specs.Prelude.{ℕ, ◌+◌, List, [], ◌∷◌, ◌++◌, length, Some, None}
use Rattle.sp_words.specs.declared.types.Ty.{Ty}
use Rattle.sp_tree.specs.PlainExpression.{PlainExpr, PlainExprKind, PlainExprs, expr, literal, counter, value, get_reg, get_arg, get_sram, get_line, deq, one, two, shift, mux, cast, no_expr, more_expr, type_of}
use Rattle.sp_tree.specs.PlainProgram.{PlainMem}
use Rattle.sp_core.specs.declared.operation.OpKind.{OpKind}
use Rattle.sp_core.specs.declared.operation.OpKind.TheVariants as kind
use Rattle.sp_core.specs.PlainCore.{PlainOp}
use Rattle.sp_sugar.specs.Numbers.{mem_number}
use Rattle.sp_sugar.specs.Values.{Source, at_place, in_register, constant, count, Sources}

-- operations on words at these places, and an access to a memory of the core
abbrev pub computes : OpKind → Ty → List ℕ → PlainOp
computes k ty args = record { kind = k; ty = ty; args = args; mem = None; mask = None }

abbrev pub accesses : OpKind → Ty → ℕ → List ℕ → PlainOp
accesses k ty m args = record { kind = k; ty = ty; args = args; mem = Some m; mask = None }

abbrev pub literal_op : Ty → ℕ → PlainOp
literal_op ty w = computes (kind.Word w) ty []

abbrev pub counter_op : Ty → ℕ → PlainOp
counter_op ty c = computes (kind.Count c 0) ty []

abbrev pub read_op : Ty → ℕ → List ℕ → PlainOp
read_op ty m indices = accesses kind.Read ty m indices

abbrev pub write_op : Ty → ℕ → List ℕ → PlainOp
write_op ty m indices_and_word = accesses kind.Write ty m indices_and_word

-- done where the word at a place is 1
abbrev pub under : ℕ → PlainOp → PlainOp
under mask op = record op { mask = Some mask }

-- some operations, and the place of the word that they give
pub record Code : Type 0 where
  pub ops : List PlainOp
  pub word : ℕ

-- the same with the places of several words
pub record Codes : Type 0 where
  pub ops : List PlainOp
  pub words : List ℕ

-- an operation after others that begin at a place, of which it gives the word
abbrev pub ending_in : ℕ → List PlainOp → PlainOp → Code
ending_in at before op = record { ops = before ++ op ∷ []; word = at + length before }

abbrev pub alone : ℕ → PlainOp → Code
alone at op = record { ops = op ∷ []; word = at }

-- a use of a value
abbrev pub source_code : ℕ → Ty → Source → Code
source_code at ty (at_place k) = record { ops = []; word = k }
source_code at ty (in_register r) = alone at (read_op ty r [])
source_code at ty (constant w) = alone at (literal_op ty w)
source_code at ty (count c) = alone at (counter_op ty c)

-- one after the other
abbrev pub more_codes : Code → Codes → Codes
more_codes first others = record { ops = first.ops ++ others.ops; words = first.word ∷ others.words }

-- by the declarations of the program's memories, and where its values are found
module _ (mems : List PlainMem) (sources : Sources) where
  unfoldable mutual
    pub code : (at : ℕ) → PlainExpr → Code
    code at (expr place ty k) = code_of at ty k

    pub code_of : (at : ℕ) → Ty → PlainExprKind → Code
    code_of at ty (literal w) = alone at (literal_op ty w)
    code_of at ty (counter c) = alone at (counter_op ty c)
    code_of at ty (value v) = source_code at ty (sources v)
    code_of at ty (get_reg m) = alone at (read_op ty (mem_number mems m) [])
    code_of at ty (get_arg m) = alone at (read_op ty (mem_number mems m) [])
    code_of at ty (get_sram m indices) =
        let is : Codes = codes at indices in
        ending_in at is.ops (read_op ty (mem_number mems m) is.words)
    code_of at ty (get_line m row column) =
        let r : Code = code at row in
        let c : Code = code (at + length r.ops) column in
        ending_in at (r.ops ++ c.ops) (read_op ty (mem_number mems m) (r.word ∷ c.word ∷ []))
    code_of at ty (deq m) = alone at (accesses kind.Deq ty (mem_number mems m) [])
    code_of at ty (one op a) =
        let x : Code = code at a in
        ending_in at x.ops (computes (kind.One op) ty (x.word ∷ []))
    code_of at ty (two op a b) =
        let x : Code = code at a in
        let y : Code = code (at + length x.ops) b in
        ending_in at (x.ops ++ y.ops) (computes (kind.Two op) (type_of a) (x.word ∷ y.word ∷ []))
    code_of at ty (shift left a by) =
        let x : Code = code at a in
        ending_in at x.ops (computes (kind.Shift left by) ty (x.word ∷ []))
    code_of at ty (mux c a b) =
        let x : Code = code at c in
        let y : Code = code (at + length x.ops) a in
        let z : Code = code (at + length x.ops + length y.ops) b in
        ending_in at (x.ops ++ y.ops ++ z.ops) (computes kind.Mux ty (x.word ∷ y.word ∷ z.word ∷ []))
    code_of at ty (cast a) =
        let x : Code = code at a in
        ending_in at x.ops (computes (kind.Cast ty) (type_of a) (x.word ∷ []))

    -- from left to right
    pub codes : (at : ℕ) → PlainExprs → Codes
    codes at no_expr = record { ops = []; words = [] }
    codes at (more_expr e rest) = let first : Code = code at e in more_codes first (codes (at + length first.ops) rest)

  -- a list whose last operation gives the word: a bound, a slice, a test
  abbrev pub word_list : PlainExpr → List PlainOp
  word_list e = (code 0 e).ops
