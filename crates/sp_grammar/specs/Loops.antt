-- The grammar of spans, counters, names that a body binds, and combiners.
use Rattle.std.specs.Prelude.{ℕ, suc, List, [], ◌∷◌, Option, Some, None}
use Rattle.sp_words.specs.declared.kind.BinOp.{BinOp}
use Rattle.sp_words.specs.declared.kind.BinOp.TheVariants as op
use Rattle.sp_reader.specs.declared.token.TokenKind.{TokenKind}
use Rattle.sp_reader.specs.declared.token.TokenKind.TheVariants as k
use Rattle.sp_reader.specs.declared.token.Token.{Token}
use Rattle.sp_reader.specs.declared.syntax.statement.SynPar.{SynPar}
use Rattle.sp_reader.specs.PlainTree.{PlainIdent, PlainExpr}
use Rattle.sp_reader.specs.PlainStatement.{PlainSpan, single, range, PlainCounter, PlainComb}
use Rattle.sp_reader.specs.Steps.{Text, place_of}
use Rattle.sp_grammar.specs.Tokens.{Takes, IsName, IsCount, Combines}
use Rattle.sp_grammar.specs.Expressions.{IsExpr}

module _ (source : Text) where
  -- an expression that stands in no other
  abbrev pub IsWholeExpr : List Token → List Token → PlainExpr → Type 0
  IsWholeExpr = IsExpr source 7

  -- `par` and a count, which may be left out
  pub data IsPar : List Token → List Token → Option SynPar → Type 0 where
    none : {ts : List Token} → IsPar ts ts None
    lanes : {ts us vs : List Token} {n : ℕ} → Takes k.Par ts us → IsCount source us vs n → IsPar ts vs (Some (record { at = place_of ts; lanes = n }))

  -- `by` and a count, 1 where it is left out
  pub data IsStep : List Token → List Token → ℕ → Type 0 where
    one : {ts : List Token} → IsStep ts ts 1
    by : {ts us vs : List Token} {n : ℕ} → Takes k.By ts us → IsCount source us vs n → IsStep ts vs n

  pub data IsSpan : List Token → List Token → PlainSpan → Type 0 where
    an_index : {ts us : List Token} {e : PlainExpr} → IsWholeExpr ts us e → IsSpan ts us (single e)
    a_range : {ts us vs ws xs : List Token} {a b : PlainExpr} {p : Option SynPar}
        → IsWholeExpr ts us a → Takes k.Colons us vs → IsWholeExpr vs ws b → IsPar ws xs p → IsSpan ts xs (range a b p)

  pub data AreSpans : List Token → List Token → List PlainSpan → Type 0 where
    last : {ts us : List Token} {s : PlainSpan} → IsSpan ts us s → AreSpans ts us (s ∷ [])
    next : {ts us vs ws : List Token} {s : PlainSpan} {rest : List PlainSpan} → IsSpan ts us s → Takes k.Comma us vs → AreSpans vs ws rest → AreSpans ts ws (s ∷ rest)

  -- a bound, and before it the first value with `until`, which may be left out
  pub data AreBounds : List Token → List Token → Option PlainExpr → PlainExpr → Type 0 where
    upper : {ts us : List Token} {b : PlainExpr} → IsWholeExpr ts us b → AreBounds ts us None b
    both : {ts us vs ws : List Token} {a b : PlainExpr} → IsWholeExpr ts us a → Takes k.Until us vs → IsWholeExpr vs ws b → AreBounds ts ws (Some a) b

  pub data IsCounter : List Token → List Token → PlainCounter → Type 0 where
    counter : {ts us vs ws : List Token} {a : Option PlainExpr} {b : PlainExpr} {by : ℕ} {p : Option SynPar}
        → AreBounds ts us a b → IsStep us vs by → IsPar vs ws p → IsCounter ts ws (record { from = a; until = b; step = by; par = p })

  -- at most so many counters with commas between
  pub data AreCounters : (most : ℕ) → List Token → List Token → List PlainCounter → Type 0 where
    last : {most : ℕ} {ts us : List Token} {c : PlainCounter} → IsCounter ts us c → AreCounters (suc most) ts us (c ∷ [])
    next : {most : ℕ} {ts us vs ws : List Token} {c : PlainCounter} {rest : List PlainCounter}
        → IsCounter ts us c → Takes k.Comma us vs → AreCounters most vs ws rest → AreCounters (suc most) ts ws (c ∷ rest)

  -- one to four counters in parentheses
  pub data IsCounterList : List Token → List Token → List PlainCounter → Type 0 where
    enclosed : {ts us vs ws : List Token} {all : List PlainCounter} → Takes k.OpenRound ts us → AreCounters 4 us vs all → Takes k.CloseRound vs ws → IsCounterList ts ws all

  pub data AreNames : List Token → List Token → List PlainIdent → Type 0 where
    last : {ts us : List Token} {i : PlainIdent} → IsName source ts us i → AreNames ts us (i ∷ [])
    next : {ts us vs ws : List Token} {i : PlainIdent} {rest : List PlainIdent} → IsName source ts us i → Takes k.Comma us vs → AreNames vs ws rest → AreNames ts ws (i ∷ rest)

  -- a name, or names in parentheses
  pub data AreBinds : List Token → List Token → List PlainIdent → Type 0 where
    alone : {ts us : List Token} {i : PlainIdent} → IsName source ts us i → AreBinds ts us (i ∷ [])
    enclosed : {ts us vs ws : List Token} {all : List PlainIdent} → Takes k.OpenRound ts us → AreNames us vs all → Takes k.CloseRound vs ws → AreBinds ts ws all

  -- two names in parentheses
  pub data ArePair : List Token → List Token → PlainIdent → PlainIdent → Type 0 where
    pair : {ts a b c d e : List Token} {i j : PlainIdent} → Takes k.OpenRound ts a → IsName source a b i → Takes k.Comma b c → IsName source c d j → Takes k.CloseRound d e → ArePair ts e i j

  -- two names that an operator combines
  pub data IsCombined : List Token → List Token → BinOp → PlainIdent → PlainIdent → Type 0 where
    by_operator : {kind : TokenKind} {o : BinOp} {ts us vs ws : List Token} {i j : PlainIdent} → Combines kind o → IsName source ts us i → Takes kind us vs → IsName source vs ws j → IsCombined ts ws o i j
    least : {ts us vs : List Token} {i j : PlainIdent} → Takes k.Min ts us → ArePair us vs i j → IsCombined ts vs op.Min i j
    greatest : {ts us vs : List Token} {i j : PlainIdent} → Takes k.Max ts us → ArePair us vs i j → IsCombined ts vs op.Max i j

  -- a combiner, without names or with those of its operands. Its place is that of its bracket.
  pub data IsCombiner : List Token → List Token → PlainComb → Type 0 where
    unnamed : {kind : TokenKind} {o : BinOp} {ts a b c d e : List Token}
        → Combines kind o → Takes k.OpenCurly ts a → Takes k.Wild a b → Takes kind b c → Takes k.Wild c d → Takes k.CloseCurly d e
        → IsCombiner ts e (record { place = place_of ts; params = None; operator = o; args = None })
    named : {ts a b c d e : List Token} {i j x y : PlainIdent} {o : BinOp}
        → Takes k.OpenCurly ts a → ArePair a b i j → Takes k.Arrow b c → IsCombined c d o x y → Takes k.CloseCurly d e
        → IsCombiner ts e (record { place = place_of ts; params = Some (i, j); operator = o; args = Some (x, y) })
