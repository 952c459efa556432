-- The plain reader: expressions.
use Rattle.std.specs.Prelude.{ℕ, zero, suc, ◌-◌, ◌&&◌, nat_le, Bool, true, false, if◌then◌else◌, List, [], ◌∷◌, ◌++◌, length, option_and_then, Option, Some, None, Result, Ok, Err}
use Rattle.std.specs.Option.{option_map_or}
use Rattle.sp_words.specs.declared.kind.BinOp.{BinOp}
use Rattle.sp_words.specs.declared.kind.BinOp.TheVariants as op
use Rattle.sp_reader.specs.declared.token.TokenKind.{TokenKind}
use Rattle.sp_reader.specs.declared.token.TokenKind.TheVariants as k
use Rattle.sp_reader.specs.declared.token.Token.{Token}
use Rattle.sp_reader.specs.declared.grammar.expression.Infix.{Infix}
use Rattle.sp_reader.specs.declared.grammar.expression.Sign.{Sign}
use Rattle.sp_reader.specs.declared.grammar.expression.Infix.TheVariants.{Operation, Shift}
use Rattle.sp_reader.specs.declared.syntax.expression.SynTy.{SynTy}
use Rattle.sp_reader.specs.declared.syntax.expression.SynUn.{SynUn}
use Rattle.sp_reader.specs.declared.syntax.expression.SynUn.TheVariants.{Minus, Bang, Tilde}
use Rattle.sp_reader.specs.PlainTree.{PlainIdent, PlainDigits, PlainExpr, PlainExprKind, PlainExprs, expr as node, number as a_number, truth, name as a_name, deq, access, mux, min, max, one, two, shift, cast, place_of_expr, row}
use Rattle.sp_reader.specs.Steps.{Text, Outcome, Rule, and_then, ◌>>=◌, pure, refuse, next, kind_of, tail_of, place_of, sees, skip}
use Rattle.sp_reader.specs.Names.{name, number, whole}
use Rattle.sp_reader.specs.TypeRules.{target}

-- the operators between operands
abbrev pub infix_of : TokenKind → Option Infix
infix_of k.Star = Some (Operation op.Mul)
infix_of k.Slash = Some (Operation op.Div)
infix_of k.Percent = Some (Operation op.Rem)
infix_of k.Plus = Some (Operation op.Add)
infix_of k.Minus = Some (Operation op.Sub)
infix_of k.Less = Some (Operation op.Lt)
infix_of k.LessEqual = Some (Operation op.Le)
infix_of k.Greater = Some (Operation op.Gt)
infix_of k.GreaterEqual = Some (Operation op.Ge)
infix_of k.ShiftLeft = Some (Shift true)
infix_of k.ShiftRight = Some (Shift false)
infix_of k.EqualEqual = Some (Operation op.Eq)
infix_of k.BangEqual = Some (Operation op.Ne)
infix_of k.And = Some (Operation op.And)
infix_of k.AndAnd = Some (Operation op.And)
infix_of k.Caret = Some (Operation op.Xor)
infix_of k.Or = Some (Operation op.Or)
infix_of k.OrOr = Some (Operation op.Or)
infix_of _ = None

-- how loosely an operator binds; all group to the left
abbrev pub level_of_op : BinOp → ℕ
level_of_op op.Mul = 1
level_of_op op.Div = 1
level_of_op op.Rem = 1
level_of_op op.Add = 2
level_of_op op.Sub = 2
level_of_op op.Lt = 3
level_of_op op.Le = 3
level_of_op op.Gt = 3
level_of_op op.Ge = 3
level_of_op op.Eq = 4
level_of_op op.Ne = 4
level_of_op op.And = 5
level_of_op op.Xor = 6
level_of_op _ = 7

abbrev pub level_of : Infix → ℕ
level_of (Operation o) = level_of_op o
level_of (Shift left) = 3

abbrev pub prefix : TokenKind → Option SynUn
prefix k.Minus = Some Minus
prefix k.Bang = Some Bang
prefix k.Tilde = Some Tilde
prefix _ = None

abbrev pub is_minus : SynUn → Bool
is_minus Minus = true
is_minus _ = false

-- ---- what the parts of an operation make

abbrev pub make_two : BinOp → PlainExpr → PlainExpr → PlainExpr
make_two op left right = node (place_of_expr left) (two op left right)

abbrev pub make_shift : Bool → PlainExpr → ℕ → PlainExpr
make_shift to_left left by = node (place_of_expr left) (shift to_left left by)

abbrev pub make_name : PlainIdent → Bool → PlainExpr
make_name i value = node i.place (a_name i value)

-- whether an operator binds tighter than a shift
abbrev pub binds_tighter : TokenKind → Bool
binds_tighter k.Star = true
binds_tighter k.Slash = true
binds_tighter k.Percent = true
binds_tighter k.Plus = true
binds_tighter k.Minus = true
binds_tighter _ = false

-- ---- operators before an operand

-- the one that comes next
unfoldable pub sign_at : List Token → Option Sign
sign_at ts = option_and_then (λ op. if is_minus op && sees k.Number (tail_of ts) then None else Some (record { at = place_of ts; op = op })) (prefix (kind_of ts))

unfoldable pub signs_from : ℕ → List Sign → Rule (List Sign)
signs_from zero found = pure found
signs_from (suc n) found = λ ts. option_map_or (λ s. signs_from n (found ++ s ∷ []) (tail_of ts)) (sign_at ts) (Ok (found, ts))

abbrev pub signs : Rule (List Sign)
signs = λ ts. signs_from (length ts) [] ts

-- what they make of their operand
abbrev pub apply : List Sign → PlainExpr → PlainExpr
apply [] operand = operand
apply (s ∷ ss) operand = node s.at (one s.op (apply ss operand))

-- ---- rules, by the rule of what stands inside at each level; the text first

unfoldable pub operation : Text → (ℕ → Rule PlainExpr) → ℕ → Infix → PlainExpr → Rule PlainExpr
operation source inner level (Operation op) left = inner level >>= λ right. pure (make_two op left right)
operation source inner level (Shift to_left) left = whole source 0 63 >>= λ by. λ ts. if binds_tighter (kind_of ts) then Err (length ts) else Ok (make_shift to_left left by, ts)

-- goes on with operators up to a level, from what stands before them
unfoldable pub chain_from : Text → (ℕ → Rule PlainExpr) → ℕ → ℕ → PlainExpr → Rule PlainExpr
chain_from source inner level zero left = refuse
chain_from source inner level (suc n) left = λ ts.
    option_map_or (λ op. if nat_le (level_of op) level then and_then (operation source inner (level_of op - 1) op left (tail_of ts)) (chain_from source inner level n) else Ok (left, ts))
    (infix_of (kind_of ts)) (Ok (left, ts))

unfoldable pub casts_from : Text → ℕ → ℕ → PlainExpr → Rule PlainExpr
casts_from source at zero operand = pure operand
casts_from source at (suc n) operand = λ ts.
    if sees k.Dot ts then (target source >>= λ t. casts_from source at n (node at (cast operand t))) (tail_of ts) else Ok (operand, ts)

-- the casts after an operand whose first token stands at `at`
abbrev pub casts : Text → ℕ → PlainExpr → Rule PlainExpr
casts source at operand = λ ts. casts_from source at (length ts) operand ts

-- ---- operands

unfoldable pub exprs_from : (ℕ → Rule PlainExpr) → ℕ → List PlainExpr → Rule (List PlainExpr)
exprs_from inner zero found = refuse
exprs_from inner (suc n) found = do
  e ← inner 7
  λ ts. if sees k.Comma ts then exprs_from inner n (found ++ e ∷ []) (tail_of ts) else Ok (found ++ e ∷ [], ts)

-- expressions with commas between
abbrev pub exprs : (ℕ → Rule PlainExpr) → Rule (List PlainExpr)
exprs inner = λ ts. exprs_from inner (length ts) [] ts

unfoldable pub pair : (ℕ → Rule PlainExpr) → Rule (PlainExpr × PlainExpr)
pair inner = do
  _ ← skip k.OpenRound
  a ← inner 7
  _ ← skip k.Comma
  b ← inner 7
  _ ← skip k.CloseRound
  pure (a, b)

unfoldable pub choice : (ℕ → Rule PlainExpr) → ℕ → Rule PlainExpr
choice inner at = do
  _ ← skip k.OpenRound
  a ← inner 7
  _ ← skip k.Comma
  b ← inner 7
  _ ← skip k.Comma
  c ← inner 7
  _ ← skip k.CloseRound
  pure (node at (mux a b c))

unfoldable pub no_operand : Rule (Unit {0})
no_operand = do
  _ ← skip k.OpenRound
  skip k.CloseRound

-- a name and what stands after its `.`
unfoldable pub member : PlainIdent → Rule PlainExpr
member i = λ ts.
    if sees k.Value (tail_of ts) then Ok (make_name i true, tail_of (tail_of ts))
    else (if sees k.Deq (tail_of ts) then (no_operand >>= λ _. pure (node i.place (deq i))) (tail_of (tail_of ts)) else Ok (make_name i false, ts))

unfoldable pub indexed : (ℕ → Rule PlainExpr) → PlainIdent → Rule PlainExpr
indexed inner i = do
  indices ← exprs inner
  _ ← skip k.CloseRound
  pure (node i.place (access i (row indices)))

unfoldable pub named : Text → (ℕ → Rule PlainExpr) → Rule PlainExpr
named source inner = do
  i ← name source
  λ ts. if sees k.OpenRound ts then indexed inner i (tail_of ts) else (if sees k.Dot ts then member i ts else Ok (make_name i false, ts))

unfoldable pub enclosed : (ℕ → Rule PlainExpr) → Rule PlainExpr
enclosed inner = do
  e ← inner 7
  _ ← skip k.CloseRound
  pure e

-- an operand without operators around it, by the kind of its first token
abbrev pub primary_by : Text → (ℕ → Rule PlainExpr) → TokenKind → Rule PlainExpr
primary_by source inner k.Number = λ ts. (number source (place_of ts) false >>= λ d. pure (node (place_of ts) (a_number d))) ts
primary_by source inner k.True = λ ts. Ok (node (place_of ts) (truth true), tail_of ts)
primary_by source inner k.False = λ ts. Ok (node (place_of ts) (truth false), tail_of ts)
primary_by source inner k.OpenRound = λ ts. enclosed inner (tail_of ts)
primary_by source inner k.Mux = λ ts. choice inner (place_of ts) (tail_of ts)
primary_by source inner k.Min = λ ts. (pair inner >>= λ p. pure (node (place_of ts) (min p.0 p.1))) (tail_of ts)
primary_by source inner k.Max = λ ts. (pair inner >>= λ p. pure (node (place_of ts) (max p.0 p.1))) (tail_of ts)
primary_by source inner _ = named source inner

unfoldable pub primary : Text → (ℕ → Rule PlainExpr) → Rule PlainExpr
primary source inner = λ ts. primary_by source inner (kind_of ts) ts

-- an operand without the operators before it; a `-` right before a number belongs to the number
unfoldable pub unsigned : Text → (ℕ → Rule PlainExpr) → Rule PlainExpr
unsigned source inner = λ ts.
    if sees k.Minus ts then (number source (place_of ts) true >>= λ d. casts source (place_of ts) (node (place_of ts) (a_number d))) (tail_of ts)
    else (primary source inner >>= casts source (place_of ts)) ts

-- an operand with the operators before it
unfoldable pub prefixed : Text → (ℕ → Rule PlainExpr) → Rule PlainExpr
prefixed source inner = do
  ss ← signs
  e ← unsigned source inner
  pure (apply ss e)

unfoldable pub chain : Text → (ℕ → Rule PlainExpr) → ℕ → Rule PlainExpr
chain source inner level = λ ts. and_then (prefixed source inner ts) (chain_from source inner level (length ts))

-- an expression whose operators, outside of brackets, are of this level or tighter; the first number bounds
-- how many parts stand one inside another
unfoldable pub expr : Text → ℕ → ℕ → Rule PlainExpr
expr source zero level = refuse
expr source (suc depth) level = chain source (expr source depth) level
