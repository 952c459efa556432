-- How expressions are written: with one blank on each side of an operator of two operands, and with parentheses only
-- where the text would be read as another expression without them.
use Rattle.std.specs.Prelude.{ℕ, ◌+◌, nat_lt, not, Bool, true, false, List, [], ◌++◌, codes, decimal, if◌then◌else◌}
use Rattle.sp_words.specs.declared.kind.BinOp.{BinOp}
use Rattle.sp_words.specs.declared.kind.BinOp.TheVariants.{Add, Sub, Mul, Div, Rem, And, Or, Xor, Lt, Le, Gt, Ge, Eq, Ne, Min, Max}
use Rattle.sp_words.specs.declared.kind.UnOp.{UnOp}
use Rattle.sp_words.specs.declared.kind.UnOp.TheVariants.{Neg, Not}
use Rattle.sp_words.specs.declared.types.Ty.{Ty}
use Rattle.sp_words.specs.declared.types.Ty.TheVariants.{Fix, Bit}
use Rattle.sp_words.specs.Words.{word_lt}
use Rattle.sp_tree.specs.PlainExpression.{PlainExpr, PlainExprKind, PlainExprs, expr, literal, counter, value, get_reg, get_arg, get_sram, get_line, deq, one, two, shift, mux, cast, no_expr, more_expr}
use Rattle.sp_printer.specs.Names.{Names, mem_name, val_name, counter_name}
use Rattle.sp_printer.specs.Types.{is_int}
use Rattle.sp_printer.specs.Words.{word_at, literal_text, cast_text}

-- how tightly an operator binds its operands, from `|` at 1 on; `min` and `max` are written as calls
abbrev pub op_level : BinOp → ℕ
op_level Or = 1
op_level Xor = 2
op_level And = 3
op_level Eq = 4
op_level Ne = 4
op_level Lt = 5
op_level Le = 5
op_level Gt = 5
op_level Ge = 5
op_level Add = 6
op_level Sub = 6
op_level Mul = 7
op_level Div = 7
op_level Rem = 7
op_level Min = 9
op_level Max = 9

-- shifts bind as comparisons do; 8 is an operator before its operand, 9 what is whole by itself
abbrev pub level : PlainExprKind → ℕ
level (literal w) = 9
level (counter c) = 9
level (value v) = 9
level (get_reg m) = 9
level (get_arg m) = 9
level (get_sram m indices) = 9
level (get_line m row column) = 9
level (deq m) = 9
level (one op a) = 8
level (two op a b) = op_level op
level (shift left a by) = 5
level (mux c a b) = 9
level (cast a) = 9

abbrev pub op_sign : BinOp → List ℕ
op_sign Or = codes " | "
op_sign Xor = codes " ^ "
op_sign And = codes " & "
op_sign Eq = codes " == "
op_sign Ne = codes " != "
op_sign Lt = codes " < "
op_sign Le = codes " <= "
op_sign Gt = codes " > "
op_sign Ge = codes " >= "
op_sign Add = codes " + "
op_sign Sub = codes " - "
op_sign Mul = codes " * "
op_sign Div = codes " / "
op_sign Rem = codes " % "
op_sign Min = codes "min("
op_sign Max = codes "max("

abbrev pub is_call : BinOp → Bool
is_call Min = true
is_call Max = true
is_call _ = false

abbrev pub shift_sign : Bool → List ℕ
shift_sign left = if left then codes " << " else codes " >> "

-- `!` is for truths
abbrev pub one_sign : UnOp → Ty → List ℕ
one_sign Neg ty = codes "-"
one_sign Not (Fix t) = codes "~"
one_sign Not Bit = codes "!"

-- whether a literal is written with digits first: a number that isn't below 0
abbrev pub is_number : Ty → ℕ → Bool
is_number (Fix t) w = not (word_lt (Fix t) (word_at (Fix t) w) 0)
is_number Bit w = false

-- whether the text of an operand begins with a digit: a `-` right before it would belong to the number
abbrev pub starts_with_digit : PlainExpr → Bool
starts_with_digit (expr place ty (literal w)) = is_number ty w
starts_with_digit (expr place ty (cast a)) = starts_with_digit a
starts_with_digit (expr place ty _) = false

-- the least level of an operand of a sign that stands without parentheses
abbrev pub operand_level : UnOp → Bool → ℕ
operand_level Neg digit = if digit then 10 else 8
operand_level Not digit = 8

-- an `Int` literal is written with its type where it is the operand of a cast
abbrev pub type_before_cast : PlainExpr → List ℕ
type_before_cast (expr place ty (literal w)) = if is_int ty then cast_text ty else []
type_before_cast (expr place ty _) = []

abbrev pub parted : Bool → List ℕ
parted first = if first then [] else codes ", "

abbrev pub enclosed : Bool → List ℕ → List ℕ
enclosed parentheses text = if parentheses then codes "(" ++ (text ++ codes ")") else text

abbrev mutual
  -- an expression where only those of this level or a greater one stand without parentheses
  pub expr_text : Names → (least : ℕ) → PlainExpr → List ℕ
  expr_text names least (expr place ty kind) = enclosed (nat_lt (level kind) least) (kind_text names ty kind)

  pub kind_text : Names → Ty → PlainExprKind → List ℕ
  kind_text names ty (literal w) = literal_text ty w
  kind_text names ty (counter c) = counter_name names c
  kind_text names ty (value v) = val_name names v
  kind_text names ty (get_reg m) = mem_name names m
  kind_text names ty (get_arg m) = mem_name names m
  kind_text names ty (get_sram m indices) = mem_name names m ++ (codes "(" ++ (list_text names true indices ++ codes ")"))
  kind_text names ty (get_line m row column) = mem_name names m ++ (codes "(" ++ (expr_text names 0 row ++ (codes ", " ++ (expr_text names 0 column ++ codes ")"))))
  kind_text names ty (deq m) = mem_name names m ++ codes ".deq()"
  kind_text names ty (one op a) = one_sign op ty ++ expr_text names (operand_level op (starts_with_digit a)) a
  kind_text names ty (two op a b) =
      if is_call op
      then op_sign op ++ (expr_text names 0 a ++ (codes ", " ++ (expr_text names 0 b ++ codes ")")))
      else expr_text names (op_level op) a ++ (op_sign op ++ expr_text names (op_level op + 1) b)
  kind_text names ty (shift left a by) = expr_text names 5 a ++ (shift_sign left ++ decimal by)
  kind_text names ty (mux c a b) =
      codes "mux(" ++ (expr_text names 0 c ++ (codes ", " ++ (expr_text names 0 a ++ (codes ", " ++ (expr_text names 0 b ++ codes ")")))))
  kind_text names ty (cast a) = expr_text names 9 a ++ (type_before_cast a ++ cast_text ty)

  -- with commas between them, and one before the first unless nothing stands before it
  pub list_text : Names → (first : Bool) → PlainExprs → List ℕ
  list_text names first no_expr = []
  list_text names first (more_expr e rest) = parted first ++ (expr_text names 0 e ++ list_text names false rest)

-- an expression that needs no parentheses
abbrev pub whole_text : Names → PlainExpr → List ℕ
whole_text names e = expr_text names 0 e
