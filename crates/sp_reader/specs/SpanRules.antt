-- The plain reader: lists of names, spans, counters and combiners.
use Rattle.std.specs.Prelude.{ℕ, zero, suc, Bool, true, false, if◌then◌else◌, List, [], ◌∷◌, ◌++◌, length, Option, Some, None, Result, Ok, Err}
use Rattle.std.specs.Option.{option_map_or}
use Rattle.sp_words.specs.declared.kind.BinOp.{BinOp}
use Rattle.sp_words.specs.declared.kind.BinOp.TheVariants as op
use Rattle.sp_reader.specs.declared.token.TokenKind.{TokenKind}
use Rattle.sp_reader.specs.declared.token.TokenKind.TheVariants as k
use Rattle.sp_reader.specs.declared.token.Token.{Token}
use Rattle.sp_reader.specs.declared.syntax.statement.SynPar.{SynPar}
use Rattle.sp_reader.specs.PlainTree.{PlainIdent, PlainExpr}
use Rattle.sp_reader.specs.PlainStatement.{PlainSpan, single, range, PlainCounter, PlainComb}
use Rattle.sp_reader.specs.Steps.{Text, Outcome, Rule, and_then, ◌>>=◌, pure, refuse, kind_of, tail_of, place_of, sees, skip}
use Rattle.sp_reader.specs.Names.{name, count}
use Rattle.sp_reader.specs.ExpressionRules.{expr}

-- an expression that stands in no other
unfoldable pub whole_expr : Text → Rule PlainExpr
whole_expr source = λ ts. expr source (length ts) 7 ts

unfoldable pub whole_exprs_from : Text → ℕ → List PlainExpr → Rule (List PlainExpr)
whole_exprs_from source zero found = refuse
whole_exprs_from source (suc n) found = do
  e ← whole_expr source
  λ ts. if sees k.Comma ts then whole_exprs_from source n (found ++ e ∷ []) (tail_of ts) else Ok (found ++ e ∷ [], ts)

abbrev pub whole_exprs : Text → Rule (List PlainExpr)
whole_exprs source = λ ts. whole_exprs_from source (length ts) [] ts

-- ---- lists of names

unfoldable pub names_from : Text → ℕ → List PlainIdent → Rule (List PlainIdent)
names_from source zero found = refuse
names_from source (suc n) found = do
  i ← name source
  λ ts. if sees k.Comma ts then names_from source n (found ++ i ∷ []) (tail_of ts) else Ok (found ++ i ∷ [], ts)

abbrev pub names : Text → Rule (List PlainIdent)
names source = λ ts. names_from source (length ts) [] ts

unfoldable pub enclosed_names : Text → Rule (List PlainIdent)
enclosed_names source = do
  all ← names source
  _ ← skip k.CloseRound
  pure all

-- a name, or names in parentheses
unfoldable pub binds : Text → Rule (List PlainIdent)
binds source = λ ts. if sees k.OpenRound ts then enclosed_names source (tail_of ts) else (name source >>= λ i. pure (i ∷ [])) ts

unfoldable pub enclosed_name : Text → Rule PlainIdent
enclosed_name source = do
  _ ← skip k.OpenRound
  i ← name source
  _ ← skip k.CloseRound
  pure i

unfoldable pub name_pair : Text → Rule (PlainIdent × PlainIdent)
name_pair source = do
  _ ← skip k.OpenRound
  a ← name source
  _ ← skip k.Comma
  b ← name source
  _ ← skip k.CloseRound
  pure (a, b)

-- ---- spans

abbrev pub lanes : ℕ → ℕ → Option SynPar
lanes at n = Some (record { at = at; lanes = n })

-- `par` and a count, where they stand
unfoldable pub par : Text → Rule (Option SynPar)
par source = λ ts. if sees k.Par ts then (count source >>= λ n. pure (lanes (place_of ts) n)) (tail_of ts) else Ok (None, ts)

-- `by` and a count, or 1
unfoldable pub step : Text → Rule ℕ
step source = λ ts. if sees k.By ts then count source (tail_of ts) else Ok (1, ts)

unfoldable pub range_from : Text → PlainExpr → Rule PlainSpan
range_from source from = do
  until ← whole_expr source
  p ← par source
  pure (range from until p)

unfoldable pub span : Text → Rule PlainSpan
span source = do
  from ← whole_expr source
  λ ts. if sees k.Colons ts then range_from source from (tail_of ts) else Ok (single from, ts)

unfoldable pub spans_from : Text → ℕ → List PlainSpan → Rule (List PlainSpan)
spans_from source zero found = refuse
spans_from source (suc n) found = do
  s ← span source
  λ ts. if sees k.Comma ts then spans_from source n (found ++ s ∷ []) (tail_of ts) else Ok (found ++ s ∷ [], ts)

abbrev pub spans : Text → Rule (List PlainSpan)
spans source = λ ts. spans_from source (length ts) [] ts

-- ---- counters

unfoldable pub bounds : Text → Rule (Option PlainExpr × PlainExpr)
bounds source = do
  first ← whole_expr source
  λ ts. if sees k.Until ts then (whole_expr source >>= λ until. pure (Some first, until)) (tail_of ts) else Ok ((None, first), ts)

unfoldable pub counter : Text → Rule PlainCounter
counter source = do
  b ← bounds source
  by ← step source
  p ← par source
  pure (record { from = b.0; until = b.1; step = by; par = p })

abbrev pub close_counters : List PlainCounter → Rule (List PlainCounter)
close_counters found = do
  _ ← skip k.CloseRound
  pure found

-- at most so many more
unfoldable pub counters_from : Text → ℕ → List PlainCounter → Rule (List PlainCounter)
counters_from source zero found = do
  c ← counter source
  close_counters (found ++ c ∷ [])
counters_from source (suc n) found = do
  c ← counter source
  λ ts. if sees k.Comma ts then counters_from source n (found ++ c ∷ []) (tail_of ts) else close_counters (found ++ c ∷ []) ts

-- one to four counters in parentheses
unfoldable pub counters : Text → Rule (List PlainCounter)
counters source = do
  _ ← skip k.OpenRound
  counters_from source 3 []

-- ---- combiners

abbrev pub combining : TokenKind → Option BinOp
combining k.Plus = Some op.Add
combining k.Star = Some op.Mul
combining k.And = Some op.And
combining k.AndAnd = Some op.And
combining k.Or = Some op.Or
combining k.OrOr = Some op.Or
combining k.Caret = Some op.Xor
combining _ = None

unfoldable pub operator : Rule BinOp
operator = λ ts. option_map_or (λ o. Ok (o, tail_of ts)) (combining (kind_of ts)) (Err (length ts))

-- after its first `_`
unfoldable pub unnamed : ℕ → Rule PlainComb
unnamed at = do
  o ← operator
  _ ← skip k.Wild
  pure (record { place = at; params = None; operator = o; args = None })

unfoldable pub called : Text → BinOp → Rule (BinOp × PlainIdent × PlainIdent)
called source o = name_pair source >>= λ p. pure (o, p.0, p.1)

unfoldable pub infixed : Text → Rule (BinOp × PlainIdent × PlainIdent)
infixed source = do
  a ← name source
  o ← operator
  b ← name source
  pure (o, a, b)

unfoldable pub combined : Text → Rule (BinOp × PlainIdent × PlainIdent)
combined source = λ ts.
    if sees k.Min ts then called source op.Min (tail_of ts) else (if sees k.Max ts then called source op.Max (tail_of ts) else infixed source ts)

unfoldable pub named_combiner : Text → ℕ → Rule PlainComb
named_combiner source at = do
  params ← name_pair source
  _ ← skip k.Arrow
  c ← combined source
  pure (record { place = at; params = Some params; operator = c.0; args = Some (c.1, c.2) })

abbrev pub combiner_inside : Text → ℕ → Rule PlainComb
combiner_inside source at = λ ts. if sees k.Wild ts then unnamed at (tail_of ts) else named_combiner source at ts

-- a combiner in its brackets
unfoldable pub combiner : Text → Rule PlainComb
combiner source = λ ts. (skip k.OpenCurly >>= λ _. combiner_inside source (place_of ts) >>= λ c. skip k.CloseCurly >>= λ _. pure c) ts
