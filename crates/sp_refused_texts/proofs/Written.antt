-- The tokens of what is in the grammar are of kinds that stand in a rule.
use Rattle.std.proofs.Common.{◌≡◌, ◌∙◌, ℕ, Bool, true, List, [], ◌∷◌, ◌++◌, Option, refl, sym, ap, subst}
use Rattle.sp_words.specs.declared.kind.BinOp.{BinOp}
use Rattle.sp_words.specs.declared.kind.Style.{Style}
use Rattle.sp_reader.specs.declared.syntax.expression.SynTy.{SynTy}
use Rattle.sp_reader.specs.declared.syntax.expression.SynUn.{SynUn}
use Rattle.sp_reader.specs.declared.syntax.statement.SynPar.{SynPar}
use Rattle.sp_reader.specs.declared.token.Token.{Token}
use Rattle.sp_reader.specs.declared.token.TokenKind.{TokenKind}
use Rattle.sp_reader.specs.declared.token.TokenKind.TheVariants as k
use Rattle.sp_reader.specs.PlainTree.{PlainIdent, PlainDigits, PlainLit, PlainExpr}
use Rattle.sp_reader.specs.PlainStatement.{PlainSpan, PlainCounter, PlainComb, PlainHead, PlainStmt, PlainStmts, PlainStmtKind, PlainDeclKind, PlainDecl, PlainSyntax}
use Rattle.sp_reader.specs.Steps.{Text, is_name}
use Rattle.sp_grammar.specs.Tokens.{Takes, IsBreak, MayBreak, IsName, IsNumber, IsWhole, IsWidth, IsOperator, IsSign, IsShift, Combines}
use Rattle.sp_grammar.specs.Expressions.{IsSigned, IsType, IsBracketed, IsTarget, IsDims, IsSignedNumber, IsLiteral, IsExpr, IsPrefixed, IsPostfix, IsPrimary, AreExprs}
use Rattle.sp_grammar.specs.Loops.{IsPar, IsStep, IsSpan, AreSpans, AreBounds, IsCounter, AreCounters, IsCounterList, AreNames, AreBinds, ArePair, IsCombined, IsCombiner}
use Rattle.sp_grammar.specs.Statements.{IsBlock, IsStyle, MayHaveStyle, IsCombining, MayStart, IsBound, IsArrow, IsStmt, AreMore, AreStmts, AreValued, IsValued, IsBraced, MayElse, IsKind, IsPort, AreDecls, IsProgram}
use Rattle.sp_refused_texts.proofs.Fronts.{is_written}

abbrev pub AreWritten : List Token → Type 0
AreWritten [] = Unit {0}
AreWritten (t ∷ ts) = (is_written t.kind ≡ true) × AreWritten ts

pub written_left : (ts us : List Token) → AreWritten (ts ++ us) → AreWritten ts
written_left [] us h = tt
written_left (t ∷ ts) us h = (h.0, written_left ts us h.1)

pub written_right : (ts us : List Token) → AreWritten (ts ++ us) → AreWritten us
written_right [] us h = h
written_right (t ∷ ts) us h = written_right ts us h.1

-- tokens that stand before written ones and are written
abbrev Before : List Token → List Token → Type 0
Before ts us = AreWritten us → AreWritten ts

name_written : (kind : TokenKind) → is_name kind ≡ true → is_written kind ≡ true
name_written k.Other e = absurd (cc)
name_written k.End e = absurd (cc)
name_written _ e = refl

operator_written : {level : ℕ} {kind : TokenKind} {op : BinOp} → IsOperator level kind op → is_written kind ≡ true
operator_written IsOperator.times = refl
operator_written IsOperator.divided = refl
operator_written IsOperator.remainder = refl
operator_written IsOperator.plus = refl
operator_written IsOperator.less = refl
operator_written IsOperator.less_than = refl
operator_written IsOperator.at_most = refl
operator_written IsOperator.above = refl
operator_written IsOperator.at_least = refl
operator_written IsOperator.equal = refl
operator_written IsOperator.unequal = refl
operator_written IsOperator.both = refl
operator_written IsOperator.both_twice = refl
operator_written IsOperator.either_one = refl
operator_written IsOperator.either = refl
operator_written IsOperator.either_twice = refl

sign_written : {kind : TokenKind} {op : SynUn} → IsSign kind op → is_written kind ≡ true
sign_written IsSign.minus = refl
sign_written IsSign.bang = refl
sign_written IsSign.tilde = refl

shift_written : {kind : TokenKind} {left : Bool} → IsShift kind left → is_written kind ≡ true
shift_written IsShift.to_left = refl
shift_written IsShift.to_right = refl

signed_written : {kind : TokenKind} {negative : Bool} → IsSigned kind negative → is_written kind ≡ true
signed_written IsSigned.signed = refl
signed_written IsSigned.unsigned = refl

combines_written : {kind : TokenKind} {op : BinOp} → Combines kind op → is_written kind ≡ true
combines_written Combines.sum = refl
combines_written Combines.product = refl
combines_written Combines.all = refl
combines_written Combines.all_twice = refl
combines_written Combines.some = refl
combines_written Combines.some_twice = refl
combines_written Combines.parity = refl

block_written : {kind : TokenKind} {s : Style} → IsBlock kind s → is_written kind ≡ true
block_written IsBlock.pipe = refl
block_written IsBlock.sequential = refl
block_written IsBlock.parallel = refl
block_written IsBlock.stream = refl

style_written : {kind : TokenKind} {s : Style} → IsStyle kind s → is_written kind ≡ true
style_written IsStyle.pipe = refl
style_written IsStyle.sequential = refl

combining_written : {kind : TokenKind} {make : PlainHead → PlainStmts → PlainIdent → PlainExpr → PlainComb → PlainStmtKind} → IsCombining kind make → is_written kind ≡ true
combining_written IsCombining.reduces = refl
combining_written IsCombining.folds = refl
combining_written IsCombining.reduces_memories = refl

takes_w : {kind : TokenKind} {ts us : List Token} → is_written kind ≡ true → Takes kind ts us → Before ts us
takes_w real h rest = subst AreWritten (sym h.is) (ap is_written h.of_kind ∙ real, rest)

break_w : {ts us : List Token} → IsBreak ts us → Before ts us
break_w (IsBreak.one t) r = takes_w refl t r
break_w (IsBreak.another t b) r = takes_w refl t (break_w b r)

may_w : {ts us : List Token} → MayBreak ts us → Before ts us
may_w MayBreak.none r = r
may_w (MayBreak.some b) r = break_w b r

styled_w : {ts us : List Token} {s : Option Style} → MayHaveStyle ts us s → Before ts us
styled_w MayHaveStyle.none r = r
styled_w (MayHaveStyle.some is t d) r = takes_w (style_written is) t (takes_w refl d r)

module _ (source : Text) where
  name_w : {ts us : List Token} {i : PlainIdent} → IsName source ts us i → Before ts us
  name_w h rest = subst AreWritten (sym h.is) (name_written h.token.kind h.named, rest)

  number_w : {at : ℕ} {negative : Bool} {ts us : List Token} {d : PlainDigits} → IsNumber source at negative ts us d → Before ts us
  number_w h r = takes_w refl h.takes r

  whole_w : {least most : ℕ} {ts us : List Token} {n : ℕ} → IsWhole source least most ts us n → Before ts us
  whole_w h r = takes_w refl h.takes r

  width_w : {ts us : List Token} {n : ℕ} → IsWidth source ts us n → Before ts us
  width_w h r = takes_w refl h.takes r

  type_w : {ts us : List Token} {t : SynTy} → IsType source ts us t → Before ts us
  type_w (IsType.an_int a0) r = takes_w refl a0 r
  type_w (IsType.a_bit a0) r = takes_w refl a0 r
  type_w (IsType.a_fixed a0 a1 a2 a3 a4 a5 a6 a7 a8) r = takes_w refl a0 (takes_w refl a1 (takes_w (signed_written a2) a3 (takes_w refl a4 (width_w a5 (takes_w refl a6 (width_w a7 (takes_w refl a8 r)))))))

  bracketed_w : {ts us : List Token} {t : SynTy} → IsBracketed source ts us t → Before ts us
  bracketed_w (IsBracketed.in_brackets a0 a1 a2) r = takes_w refl a0 (type_w a1 (takes_w refl a2 r))

  target_w : {ts us : List Token} {t : SynTy} → IsTarget source ts us t → Before ts us
  target_w (IsTarget.to a0 a1 a2) r = takes_w refl a0 (takes_w refl a1 (bracketed_w a2 r))

  dims_w : {ts us : List Token} {d : List ℕ} → IsDims source ts us d → Before ts us
  dims_w (IsDims.line a0 a1 a2) r = takes_w refl a0 (whole_w a1 (takes_w refl a2 r))
  dims_w (IsDims.plane a0 a1 a2 a3 a4) r = takes_w refl a0 (whole_w a1 (takes_w refl a2 (whole_w a3 (takes_w refl a4 r))))
  dims_w (IsDims.block a0 a1 a2 a3 a4 a5 a6) r = takes_w refl a0 (whole_w a1 (takes_w refl a2 (whole_w a3 (takes_w refl a4 (whole_w a5 (takes_w refl a6 r))))))

  signed_w : {ts us : List Token} {d : PlainDigits} → IsSignedNumber source ts us d → Before ts us
  signed_w (IsSignedNumber.plain a0) r = number_w a0 r
  signed_w (IsSignedNumber.negative a0 a1) r = takes_w refl a0 (number_w a1 r)

  literal_w : {ts us : List Token} {d : PlainLit} → IsLiteral source ts us d → Before ts us
  literal_w (IsLiteral.yes a0) r = takes_w refl a0 r
  literal_w (IsLiteral.no a0) r = takes_w refl a0 r
  literal_w (IsLiteral.untyped a0) r = signed_w a0 r
  literal_w (IsLiteral.typed a0 a1) r = signed_w a0 (target_w a1 r)

  mutual
    expr_w : {level : ℕ} {ts us : List Token} {e : PlainExpr} → IsExpr source level ts us e → Before ts us
    expr_w (IsExpr.operand p) r = prefixed_w p r
    expr_w (IsExpr.tighter p) r = expr_w p r
    expr_w (IsExpr.operation is p t q) r = expr_w p (takes_w (operator_written is) t (expr_w q r))
    expr_w (IsExpr.shifted is p t n) r = expr_w p (takes_w (shift_written is) t (whole_w n r))

    prefixed_w : {ts us : List Token} {e : PlainExpr} → IsPrefixed source ts us e → Before ts us
    prefixed_w (IsPrefixed.bare a0) r = postfix_w a0 r
    prefixed_w (IsPrefixed.signed a0 a1 _ a3) r = takes_w (sign_written a0) a1 (prefixed_w a3 r)

    postfix_w : {ts us : List Token} {e : PlainExpr} → IsPostfix source ts us e → Before ts us
    postfix_w (IsPostfix.negative a0 a1) r = takes_w refl a0 (number_w a1 r)
    postfix_w (IsPostfix.primary a0) r = primary_w a0 r
    postfix_w (IsPostfix.casted a0 a1) r = postfix_w a0 (target_w a1 r)

    primary_w : {ts us : List Token} {e : PlainExpr} → IsPrimary source ts us e → Before ts us
    primary_w (IsPrimary.a_number a0) r = number_w a0 r
    primary_w (IsPrimary.yes a0) r = takes_w refl a0 r
    primary_w (IsPrimary.no a0) r = takes_w refl a0 r
    primary_w (IsPrimary.a_name a0) r = name_w a0 r
    primary_w (IsPrimary.a_value a0 a1 a2) r = name_w a0 (takes_w refl a1 (takes_w refl a2 r))
    primary_w (IsPrimary.a_deq a0 a1 a2 a3 a4) r = name_w a0 (takes_w refl a1 (takes_w refl a2 (takes_w refl a3 (takes_w refl a4 r))))
    primary_w (IsPrimary.an_access a0 a1 a2 a3) r = name_w a0 (takes_w refl a1 (exprs_w a2 (takes_w refl a3 r)))
    primary_w (IsPrimary.a_choice a0 a1 a2 a3 a4 a5 a6 a7) r = takes_w refl a0 (takes_w refl a1 (expr_w a2 (takes_w refl a3 (expr_w a4 (takes_w refl a5 (expr_w a6 (takes_w refl a7 r)))))))
    primary_w (IsPrimary.a_least a0 a1 a2 a3 a4 a5) r = takes_w refl a0 (takes_w refl a1 (expr_w a2 (takes_w refl a3 (expr_w a4 (takes_w refl a5 r)))))
    primary_w (IsPrimary.a_greatest a0 a1 a2 a3 a4 a5) r = takes_w refl a0 (takes_w refl a1 (expr_w a2 (takes_w refl a3 (expr_w a4 (takes_w refl a5 r)))))
    primary_w (IsPrimary.in_parentheses a0 a1 a2) r = takes_w refl a0 (expr_w a1 (takes_w refl a2 r))

    exprs_w : {ts us : List Token} {all : List PlainExpr} → AreExprs source ts us all → Before ts us
    exprs_w (AreExprs.last a0) r = expr_w a0 r
    exprs_w (AreExprs.next a0 a1 a2) r = expr_w a0 (takes_w refl a1 (exprs_w a2 r))

  par_w : {ts us : List Token} {p : Option SynPar} → IsPar source ts us p → Before ts us
  par_w IsPar.none r = r
  par_w (IsPar.lanes a0 a1) r = takes_w refl a0 (whole_w a1 r)

  step_w : {ts us : List Token} {n : ℕ} → IsStep source ts us n → Before ts us
  step_w IsStep.one r = r
  step_w (IsStep.by a0 a1) r = takes_w refl a0 (whole_w a1 r)

  span_w : {ts us : List Token} {s : PlainSpan} → IsSpan source ts us s → Before ts us
  span_w (IsSpan.an_index a0) r = expr_w a0 r
  span_w (IsSpan.a_range a0 a1 a2 a3) r = expr_w a0 (takes_w refl a1 (expr_w a2 (par_w a3 r)))

  spans_w : {ts us : List Token} {all : List PlainSpan} → AreSpans source ts us all → Before ts us
  spans_w (AreSpans.last a0) r = span_w a0 r
  spans_w (AreSpans.next a0 a1 a2) r = span_w a0 (takes_w refl a1 (spans_w a2 r))

  bounds_w : {ts us : List Token} {a : Option PlainExpr} {b : PlainExpr} → AreBounds source ts us a b → Before ts us
  bounds_w (AreBounds.upper a0) r = expr_w a0 r
  bounds_w (AreBounds.both a0 a1 a2) r = expr_w a0 (takes_w refl a1 (expr_w a2 r))

  counter_w : {ts us : List Token} {c : PlainCounter} → IsCounter source ts us c → Before ts us
  counter_w (IsCounter.counter a0 a1 a2) r = bounds_w a0 (step_w a1 (par_w a2 r))

  counters_w : {most : ℕ} {ts us : List Token} {all : List PlainCounter} → AreCounters source most ts us all → Before ts us
  counters_w (AreCounters.last a0) r = counter_w a0 r
  counters_w (AreCounters.next a0 a1 a2) r = counter_w a0 (takes_w refl a1 (counters_w a2 r))

  counter_list_w : {ts us : List Token} {all : List PlainCounter} → IsCounterList source ts us all → Before ts us
  counter_list_w (IsCounterList.enclosed a0 a1 a2) r = takes_w refl a0 (counters_w a1 (takes_w refl a2 r))

  names_w : {ts us : List Token} {all : List PlainIdent} → AreNames source ts us all → Before ts us
  names_w (AreNames.last a0) r = name_w a0 r
  names_w (AreNames.next a0 a1 a2) r = name_w a0 (takes_w refl a1 (names_w a2 r))

  binds_w : {ts us : List Token} {all : List PlainIdent} → AreBinds source ts us all → Before ts us
  binds_w (AreBinds.alone a0) r = name_w a0 r
  binds_w (AreBinds.enclosed a0 a1 a2) r = takes_w refl a0 (names_w a1 (takes_w refl a2 r))

  pair_w : {ts us : List Token} {i j : PlainIdent} → ArePair source ts us i j → Before ts us
  pair_w (ArePair.pair a0 a1 a2 a3 a4) r = takes_w refl a0 (name_w a1 (takes_w refl a2 (name_w a3 (takes_w refl a4 r))))

  combined_w : {ts us : List Token} {o : BinOp} {i j : PlainIdent} → IsCombined source ts us o i j → Before ts us
  combined_w (IsCombined.by_operator is p t q) r = name_w p (takes_w (combines_written is) t (name_w q r))
  combined_w (IsCombined.least w p) r = takes_w refl w (pair_w p r)
  combined_w (IsCombined.greatest w p) r = takes_w refl w (pair_w p r)

  combiner_w : {ts us : List Token} {c : PlainComb} → IsCombiner source ts us c → Before ts us
  combiner_w (IsCombiner.unnamed is o w t u c) r = takes_w refl o (takes_w refl w (takes_w (combines_written is) t (takes_w refl u (takes_w refl c r))))
  combiner_w (IsCombiner.named o p w q c) r = takes_w refl o (pair_w p (takes_w refl w (combined_w q (takes_w refl c r))))

  start_w : {ts us : List Token} {d : Option PlainLit} → MayStart source ts us d → Before ts us
  start_w MayStart.none r = r
  start_w (MayStart.some a0 a1 a2) r = takes_w refl a0 (literal_w a1 (takes_w refl a2 r))

  bound_w : {i : PlainIdent} {ts us : List Token} {s : PlainStmtKind} → IsBound source i ts us s → Before ts us
  bound_w (IsBound.a_reg a0 a1 a2) r = takes_w refl a0 (bracketed_w a1 (start_w a2 r))
  bound_w (IsBound.a_sram a0 a1 a2) r = takes_w refl a0 (bracketed_w a1 (dims_w a2 r))
  bound_w (IsBound.a_fifo a0 a1 a2 a3 a4) r = takes_w refl a0 (bracketed_w a1 (takes_w refl a2 (whole_w a3 (takes_w refl a4 r))))
  bound_w (IsBound.a_line_buffer a0 a1 a2 a3 a4 a5 a6) r = takes_w refl a0 (bracketed_w a1 (takes_w refl a2 (whole_w a3 (takes_w refl a4 (whole_w a5 (takes_w refl a6 r))))))
  bound_w (IsBound.a_word a0) r = expr_w a0 r

  arrow_w : {ts us : List Token} {i : PlainIdent} {e : PlainExpr} → IsArrow source ts us i e → Before ts us
  arrow_w (IsArrow.arrow a0 a1 a2) r = name_w a0 (takes_w refl a1 (expr_w a2 r))

  mutual
    stmt_w : {ts us : List Token} {s : PlainStmt} → IsStmt source ts us s → Before ts us
    stmt_w (IsStmt.stands a0) r = kind_w a0 r

    more_w : {ts us : List Token} {all : List PlainStmt} → AreMore source ts us all → Before ts us
    more_w (AreMore.last_stmt a0) r = stmt_w a0 r
    more_w (AreMore.next_stmt a0 a1 a2) r = stmt_w a0 (break_w a1 (more_w a2 r))

    stmts_w : {ts us : List Token} {all : List PlainStmt} → AreStmts source ts us all → Before ts us
    stmts_w (AreStmts.no_stmts a0) r = may_w a0 r
    stmts_w (AreStmts.some_stmts a0 a1 a2) r = may_w a0 (more_w a1 (may_w a2 r))

    valued_from_w : {ts us : List Token} {all : List PlainStmt} {e : PlainExpr} → AreValued source ts us all e → Before ts us
    valued_from_w (AreValued.value_alone a0) r = expr_w a0 r
    valued_from_w (AreValued.before_value a0 a1 a2) r = stmt_w a0 (break_w a1 (valued_from_w a2 r))

    valued_w : {ts us : List Token} {all : List PlainStmt} {e : PlainExpr} → IsValued source ts us all e → Before ts us
    valued_w (IsValued.valued a0 a1 a2) r = may_w a0 (valued_from_w a1 (may_w a2 r))

    braced_w : {ts us : List Token} {all : List PlainStmt} → IsBraced source ts us all → Before ts us
    braced_w (IsBraced.braced a0 a1 a2) r = takes_w refl a0 (stmts_w a1 (takes_w refl a2 r))

    else_w : {ts us : List Token} {all : List PlainStmt} → MayElse source ts us all → Before ts us
    else_w MayElse.no_else r = r
    else_w (MayElse.an_else a0 a1) r = takes_w refl a0 (braced_w a1 r)

    kind_w : {ts us : List Token} {s : PlainStmtKind} → IsKind source ts us s → Before ts us
    kind_w (IsKind.a_val a0 a1 a2 a3) r = takes_w refl a0 (name_w a1 (takes_w refl a2 (bound_w a3 r)))
    kind_w (IsKind.a_set a0 a1 a2) r = name_w a0 (takes_w refl a1 (expr_w a2 r))
    kind_w (IsKind.a_set_at a0 a1 a2 a3 a4 a5) r = name_w a0 (takes_w refl a1 (exprs_w a2 (takes_w refl a3 (takes_w refl a4 (expr_w a5 r)))))
    kind_w (IsKind.an_enq a0 a1 a2 a3 a4 a5) r = name_w a0 (takes_w refl a1 (takes_w refl a2 (takes_w refl a3 (expr_w a4 (takes_w refl a5 r)))))
    kind_w (IsKind.a_load a0 a1 a2 a3 a4 a5) r = name_w a0 (takes_w refl a1 (name_w a2 (takes_w refl a3 (spans_w a4 (takes_w refl a5 r)))))
    kind_w (IsKind.a_store a0 a1 a2 a3 a4 a5) r = name_w a0 (takes_w refl a1 (spans_w a2 (takes_w refl a3 (takes_w refl a4 (name_w a5 r)))))
    kind_w (IsKind.a_gather a0 a1 a2 a3 a4 a5 a6 a7) r = name_w a0 (takes_w refl a1 (name_w a2 (takes_w refl a3 (name_w a4 (takes_w refl a5 (expr_w a6 (takes_w refl a7 r)))))))
    kind_w (IsKind.a_scatter a0 a1 a2 a3 a4 a5 a6 a7) r = name_w a0 (takes_w refl a1 (name_w a2 (takes_w refl a3 (expr_w a4 (takes_w refl a5 (takes_w refl a6 (name_w a7 r)))))))
    kind_w (IsKind.a_block a0 a1 a2) r = takes_w (block_written a0) a1 (braced_w a2 r)
    kind_w (IsKind.a_foreach a0 a1 a2 a3 a4 a5 a6 a7) r = styled_w a0 (takes_w refl a1 (counter_list_w a2 (takes_w refl a3 (binds_w a4 (takes_w refl a5 (stmts_w a6 (takes_w refl a7 r)))))))
    kind_w (IsKind.a_combining a0 a1 a2 a3 a4 a5 a6 a7 a8 a9 a10 a11 a12) r = styled_w a1 (takes_w (combining_written a0) a2 (takes_w refl a3 (name_w a4 (takes_w refl a5 (counter_list_w a6 (takes_w refl a7 (binds_w a8 (takes_w refl a9 (valued_w a10 (takes_w refl a11 (combiner_w a12 r)))))))))))
    kind_w (IsKind.an_fsm a0 a1 a2 a3 a4 a5 a6 a7 a8 a9 a10 a11 a12 a13 a14) r = takes_w refl a0 (takes_w refl a1 (expr_w a2 (takes_w refl a3 (takes_w refl a4 (arrow_w a5 (takes_w refl a6 (takes_w refl a7 (name_w a8 (takes_w refl a9 (stmts_w a10 (takes_w refl a11 (takes_w refl a12 (arrow_w a13 (takes_w refl a14 r))))))))))))))
    kind_w (IsKind.a_branch a0 a1 a2 a3 a4 a5) r = takes_w refl a0 (takes_w refl a1 (expr_w a2 (takes_w refl a3 (braced_w a4 (else_w a5 r)))))

  port_w : {ts us : List Token} {p : PlainDeclKind} → IsPort source ts us p → Before ts us
  port_w (IsPort.an_arg_in a0 a1) r = takes_w refl a0 (bracketed_w a1 r)
  port_w (IsPort.an_arg_out a0 a1) r = takes_w refl a0 (bracketed_w a1 r)
  port_w (IsPort.a_dram a0 a1 a2) r = takes_w refl a0 (bracketed_w a1 (dims_w a2 r))

  decls_w : {ts us : List Token} {all : List PlainDecl} → AreDecls source ts us all → Before ts us
  decls_w AreDecls.none r = r
  decls_w (AreDecls.next a0 a1 a2 a3 a4 a5) r = takes_w refl a0 (name_w a1 (takes_w refl a2 (port_w a3 (break_w a4 (decls_w a5 r)))))

  pub program_written : {ts : List Token} {tree : PlainSyntax} → IsProgram source ts tree → AreWritten ts
  program_written (IsProgram.program a0 a1 a2 a3 a4) = may_w a0 (decls_w a1 (takes_w refl a2 (braced_w a3 (may_w a4 tt))))
