-- Operators, and which of them may follow an expression.
use Rattle.std.proofs.Common.{◌≡◌, ◌∙◌, ℕ, zero, suc, ◌+◌, ◌-◌, ◌≤◌, true, false, List, Some, None, refl, sym, subst, arith}
use Rattle.sp_words.specs.declared.kind.BinOp.{BinOp}
use Rattle.sp_words.specs.declared.kind.BinOp.TheVariants as op
use Rattle.sp_reader.specs.declared.token.Token.{Token}
use Rattle.sp_reader.specs.declared.token.TokenKind.{TokenKind}
use Rattle.sp_reader.specs.declared.token.TokenKind.TheVariants as k
use Rattle.sp_reader.specs.declared.grammar.expression.Infix.{Infix}
use Rattle.sp_reader.specs.declared.grammar.expression.Infix.TheVariants.{Operation, Shift}
use Rattle.sp_reader.specs.declared.syntax.expression.SynUn.{SynUn}
use Rattle.sp_reader.specs.declared.syntax.expression.SynUn.TheVariants.{Minus, Bang, Tilde}
use Rattle.sp_reader.specs.ExpressionRules.{infix_of, level_of, level_of_op, prefix, binds_tighter, make_two}
use Rattle.sp_reader.specs.PlainTree.{PlainExpr}
use Rattle.sp_reader.specs.Steps.{Text, kind_of}
use Rattle.sp_grammar.specs.Tokens.{Takes, IsOperator, IsSign, IsShift, times, divided, remainder, plus, less, less_than, at_most, above, at_least, equal, unequal, both, both_twice, either_one, either, either_twice, minus, bang, tilde, to_left, to_right}
use Rattle.sp_grammar.specs.Expressions.{IsExpr}
use Rattle.sp_grammar.proofs.Rules.{is_real}

abbrev pub IsInfix : TokenKind → Infix → Type 0
IsInfix kind (Operation o) = IsOperator (level_of_op o) kind o
IsInfix kind (Shift left) = IsShift kind left

pub infix_is : (kind : TokenKind) (o : Infix) → infix_of kind ≡ Some o → IsInfix kind o
infix_is k.Star o e = let same : Operation op.Mul ≡ o = cc in subst (IsInfix k.Star) same times
infix_is k.Slash o e = let same : Operation op.Div ≡ o = cc in subst (IsInfix k.Slash) same divided
infix_is k.Percent o e = let same : Operation op.Rem ≡ o = cc in subst (IsInfix k.Percent) same remainder
infix_is k.Plus o e = let same : Operation op.Add ≡ o = cc in subst (IsInfix k.Plus) same plus
infix_is k.Minus o e = let same : Operation op.Sub ≡ o = cc in subst (IsInfix k.Minus) same less
infix_is k.Less o e = let same : Operation op.Lt ≡ o = cc in subst (IsInfix k.Less) same less_than
infix_is k.LessEqual o e = let same : Operation op.Le ≡ o = cc in subst (IsInfix k.LessEqual) same at_most
infix_is k.Greater o e = let same : Operation op.Gt ≡ o = cc in subst (IsInfix k.Greater) same above
infix_is k.GreaterEqual o e = let same : Operation op.Ge ≡ o = cc in subst (IsInfix k.GreaterEqual) same at_least
infix_is k.ShiftLeft o e = let same : Shift true ≡ o = cc in subst (IsInfix k.ShiftLeft) same to_left
infix_is k.ShiftRight o e = let same : Shift false ≡ o = cc in subst (IsInfix k.ShiftRight) same to_right
infix_is k.EqualEqual o e = let same : Operation op.Eq ≡ o = cc in subst (IsInfix k.EqualEqual) same equal
infix_is k.BangEqual o e = let same : Operation op.Ne ≡ o = cc in subst (IsInfix k.BangEqual) same unequal
infix_is k.And o e = let same : Operation op.And ≡ o = cc in subst (IsInfix k.And) same both
infix_is k.AndAnd o e = let same : Operation op.And ≡ o = cc in subst (IsInfix k.AndAnd) same both_twice
infix_is k.Caret o e = let same : Operation op.Xor ≡ o = cc in subst (IsInfix k.Caret) same either_one
infix_is k.Or o e = let same : Operation op.Or ≡ o = cc in subst (IsInfix k.Or) same either
infix_is k.OrOr o e = let same : Operation op.Or ≡ o = cc in subst (IsInfix k.OrOr) same either_twice
infix_is _ o e = absurd (cc)

pub prefix_is : (kind : TokenKind) (o : SynUn) → prefix kind ≡ Some o → IsSign kind o
prefix_is k.Minus o e = let same : Minus ≡ o = cc in subst (IsSign k.Minus) same minus
prefix_is k.Bang o e = let same : Bang ≡ o = cc in subst (IsSign k.Bang) same bang
prefix_is k.Tilde o e = let same : Tilde ≡ o = cc in subst (IsSign k.Tilde) same tilde
prefix_is _ o e = absurd (cc)

pub infix_real : (kind : TokenKind) (o : Infix) → infix_of kind ≡ Some o → is_real kind ≡ true
infix_real k.End o e = absurd (cc)
infix_real _ o e = refl

pub prefix_real : (kind : TokenKind) (o : SynUn) → prefix kind ≡ Some o → is_real kind ≡ true
prefix_real k.End o e = absurd (cc)
prefix_real _ o e = refl

pub positive : {level : ℕ} {kind : TokenKind} {o : BinOp} → IsOperator level kind o → 1 ≤ level
positive times = omega arith
positive divided = omega arith
positive remainder = omega arith
positive plus = omega arith
positive less = omega arith
positive less_than = omega arith
positive at_most = omega arith
positive above = omega arith
positive at_least = omega arith
positive equal = omega arith
positive unequal = omega arith
positive both = omega arith
positive both_twice = omega arith
positive either_one = omega arith
positive either = omega arith
positive either_twice = omega arith

-- an operator that comes behind these tokens binds off tighter than this level
abbrev pub Stops : (level : ℕ) → List Token → Type 0
Stops level ts = (o : Infix) → infix_of (kind_of ts) ≡ Some o → level ≤ level_of o

pub stops_at_none : (level : ℕ) (ts : List Token) → infix_of (kind_of ts) ≡ None → Stops level ts
stops_at_none level ts e o h = let bad : None ≡ Some o = sym e ∙ h in absurd (cc)

pub stops_at : (level : ℕ) (ts : List Token) (o : Infix) → infix_of (kind_of ts) ≡ Some o → level ≤ level_of o → Stops level ts
stops_at level ts o e le p h =
    let same : o ≡ p = (let both : Some o ≡ Some p = sym e ∙ h in cc) in
    subst (λ q. level ≤ level_of q) same le

-- what doesn't bind tighter than a shift
pub after_shift : (kind : TokenKind) → binds_tighter kind ≡ false → (o : Infix) → infix_of kind ≡ Some o → 3 ≤ level_of o
after_shift k.Star e o h = absurd (cc)
after_shift k.Slash e o h = absurd (cc)
after_shift k.Percent e o h = absurd (cc)
after_shift k.Plus e o h = absurd (cc)
after_shift k.Minus e o h = absurd (cc)
after_shift k.Less e o h = let same : Operation op.Lt ≡ o = cc in subst (λ p. 3 ≤ level_of p) same (omega arith)
after_shift k.LessEqual e o h = let same : Operation op.Le ≡ o = cc in subst (λ p. 3 ≤ level_of p) same (omega arith)
after_shift k.Greater e o h = let same : Operation op.Gt ≡ o = cc in subst (λ p. 3 ≤ level_of p) same (omega arith)
after_shift k.GreaterEqual e o h = let same : Operation op.Ge ≡ o = cc in subst (λ p. 3 ≤ level_of p) same (omega arith)
after_shift k.ShiftLeft e o h = let same : Shift true ≡ o = cc in subst (λ p. 3 ≤ level_of p) same (omega arith)
after_shift k.ShiftRight e o h = let same : Shift false ≡ o = cc in subst (λ p. 3 ≤ level_of p) same (omega arith)
after_shift k.EqualEqual e o h = let same : Operation op.Eq ≡ o = cc in subst (λ p. 3 ≤ level_of p) same (omega arith)
after_shift k.BangEqual e o h = let same : Operation op.Ne ≡ o = cc in subst (λ p. 3 ≤ level_of p) same (omega arith)
after_shift k.And e o h = let same : Operation op.And ≡ o = cc in subst (λ p. 3 ≤ level_of p) same (omega arith)
after_shift k.AndAnd e o h = let same : Operation op.And ≡ o = cc in subst (λ p. 3 ≤ level_of p) same (omega arith)
after_shift k.Caret e o h = let same : Operation op.Xor ≡ o = cc in subst (λ p. 3 ≤ level_of p) same (omega arith)
after_shift k.Or e o h = let same : Operation op.Or ≡ o = cc in subst (λ p. 3 ≤ level_of p) same (omega arith)
after_shift k.OrOr e o h = let same : Operation op.Or ≡ o = cc in subst (λ p. 3 ≤ level_of p) same (omega arith)
after_shift _ e o h = absurd (cc)

module _ (source : Text) where
  -- what binds tighter stands where something looser may
  pub lifted : (n m : ℕ) {ts us : List Token} {e : PlainExpr} → IsExpr source m ts us e → IsExpr source (n + m) ts us e
  lifted zero m {ts} {us} {e} h = subst (λ l. IsExpr source l ts us e) (omega arith) h
  lifted (suc n) m {ts} {us} {e} h = let up = lifted n m h in subst (λ l. IsExpr source l ts us e) (omega arith) (IsExpr.tighter up)

  pub lifted_to : (l m : ℕ) {ts us : List Token} {e : PlainExpr} → m ≤ l → IsExpr source m ts us e → IsExpr source l ts us e
  lifted_to l m {ts} {us} {e} le h = subst (λ x. IsExpr source x ts us e) (omega (arith, le)) (lifted (l - m) m h)

  -- two operands and the operator between
  pub joined : (l : ℕ) {kind : TokenKind} {o : BinOp} {ts us vs ws : List Token} {a b : PlainExpr}
      → IsOperator l kind o → IsExpr source l ts us a → Takes kind us vs → IsExpr source (l - 1) vs ws b → IsExpr source l ts ws (make_two o a b)
  joined zero h p takes q = absurd (omega (arith, positive h))
  joined (suc l) {kind} {o} {ts} {us} {vs} {ws} {a} {b} h p takes q = IsExpr.operation h p takes (subst (λ x. IsExpr source x vs ws b) (omega arith) q)
