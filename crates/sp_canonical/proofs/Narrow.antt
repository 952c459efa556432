-- No number of a text that is in the grammar is too wide, where no literal of its tree has more than 64 digits behind
-- the point.
use Rattle.std.proofs.Common.{◌≡◌, ◌≤◌, ℕ, ◌+◌, nat_lt, if◌then◌else◌, ◌&&◌, ◌||◌, Bool, true, false, List, [], ◌∷◌, length, Option, Some, None, is_none, refl, sym, ap, subst, ◌∙◌, arith}
use Rattle.std.specs.Option.{option_map_or}
use Rattle.sp_words.specs.declared.kind.BinOp.{BinOp}
use Rattle.sp_words.specs.declared.kind.Style.{Style}
use Rattle.sp_reader.specs.declared.limits.Limit.TheVariants.{Deep, Wide}
use Rattle.sp_reader.specs.declared.syntax.expression.SynTy.{SynTy}
use Rattle.sp_reader.specs.declared.syntax.expression.SynUn.{SynUn}
use Rattle.sp_reader.specs.declared.syntax.statement.SynPar.{SynPar}
use Rattle.sp_reader.specs.declared.token.TokenKind.{TokenKind}
use Rattle.sp_reader.specs.declared.token.TokenKind.TheVariants as k
use Rattle.sp_reader.specs.declared.token.Token.{Token}
use Rattle.sp_reader.specs.Limits.{PlainCounts, taken, is_wide, passed_from}
use Rattle.sp_reader.specs.Numbers.{whole, fraction, has_point, is_too_wide}
use Rattle.sp_reader.specs.PlainTree.{PlainIdent, PlainDigits, PlainLit, PlainExpr, row}
use Rattle.sp_reader.specs.PlainStatement.{PlainSpan, PlainCounter, PlainComb, PlainHead, PlainStmt, PlainStmtKind, PlainStmts, body, PlainDeclKind, PlainDecl, PlainSyntax}
use Rattle.sp_reader.specs.Steps.{Text, is_name, kind_of, spelling_of, same_kind}
use Rattle.sp_grammar.specs.Tokens.{Takes, IsBreak, MayBreak, IsName, IsNumber, IsWhole, IsWidth, IsOperator, IsSign, IsShift, Combines}
use Rattle.sp_grammar.specs.Expressions.{IsSigned, IsType, IsBracketed, IsTarget, IsDims, IsSignedNumber, IsLiteral, IsExpr, IsPrefixed, IsPostfix, IsPrimary, AreExprs}
use Rattle.sp_grammar.specs.Loops.{IsPar, IsStep, IsSpan, AreSpans, AreBounds, IsCounter, AreCounters, IsCounterList, AreNames, AreBinds, ArePair, IsCombined, IsCombiner}
use Rattle.sp_grammar.specs.Statements.{head, IsBlock, IsStyle, MayHaveStyle, IsCombining, MayStart, IsBound, IsArrow, IsStmt, AreMore, AreStmts, AreValued, IsValued, IsBraced, MayElse, IsKind, IsPort, AreDecls, IsProgram}
use Rattle.sp_retyped.proofs.Numbered.{mapped_length}
use Rattle.sp_canonical.specs.Laws.{is_passed_from}
use Rattle.sp_canonical.proofs.Few.{FewExpr, FewExprs, FewLit, FewStart, FewSpan, FewSpans, FewBounds, FewCounter, FewCounters, FewBody, FewStmt, FewKind}

-- ---- kinds of tokens

abbrev is_number : TokenKind → Bool
is_number k.Number = true
is_number _ = false

other_kind : (kind : TokenKind) → is_number kind ≡ false → same_kind kind k.Number ≡ false
unfolding same_kind
other_kind k.Number e = absurd (cc)
other_kind kind e = refl

name_kind : (kind : TokenKind) → is_name kind ≡ true → is_number kind ≡ false
name_kind k.Number e = absurd (cc)
name_kind kind e = refl

signed_kind : {kind : TokenKind} {b : Bool} → IsSigned kind b → is_number kind ≡ false
signed_kind IsSigned.signed = refl
signed_kind IsSigned.unsigned = refl

operator_kind : {kind : TokenKind} {level : ℕ} {op : BinOp} → IsOperator level kind op → is_number kind ≡ false
operator_kind IsOperator.times = refl
operator_kind IsOperator.divided = refl
operator_kind IsOperator.remainder = refl
operator_kind IsOperator.plus = refl
operator_kind IsOperator.less = refl
operator_kind IsOperator.less_than = refl
operator_kind IsOperator.at_most = refl
operator_kind IsOperator.above = refl
operator_kind IsOperator.at_least = refl
operator_kind IsOperator.equal = refl
operator_kind IsOperator.unequal = refl
operator_kind IsOperator.both = refl
operator_kind IsOperator.both_twice = refl
operator_kind IsOperator.either_one = refl
operator_kind IsOperator.either = refl
operator_kind IsOperator.either_twice = refl

sign_kind : {kind : TokenKind} {op : SynUn} → IsSign kind op → is_number kind ≡ false
sign_kind IsSign.minus = refl
sign_kind IsSign.bang = refl
sign_kind IsSign.tilde = refl

shift_kind : {kind : TokenKind} {left : Bool} → IsShift kind left → is_number kind ≡ false
shift_kind IsShift.to_left = refl
shift_kind IsShift.to_right = refl

block_kind : {kind : TokenKind} {s : Style} → IsBlock kind s → is_number kind ≡ false
block_kind IsBlock.pipe = refl
block_kind IsBlock.sequential = refl
block_kind IsBlock.parallel = refl
block_kind IsBlock.stream = refl

style_kind : {kind : TokenKind} {s : Style} → IsStyle kind s → is_number kind ≡ false
style_kind IsStyle.pipe = refl
style_kind IsStyle.sequential = refl

combining_kind : {kind : TokenKind} {make : PlainHead → PlainStmts → PlainIdent → PlainExpr → PlainComb → PlainStmtKind} → IsCombining kind make → is_number kind ≡ false
combining_kind IsCombining.reduces = refl
combining_kind IsCombining.folds = refl
combining_kind IsCombining.reduces_memories = refl

combines_kind : {kind : TokenKind} {op : BinOp} → Combines kind op → is_number kind ≡ false
combines_kind Combines.sum = refl
combines_kind Combines.product = refl
combines_kind Combines.all = refl
combines_kind Combines.all_twice = refl
combines_kind Combines.some = refl
combines_kind Combines.some_twice = refl
combines_kind Combines.parity = refl

-- the parts of a loop that combines
made : {kind : TokenKind} {make : PlainHead → PlainStmts → PlainIdent → PlainExpr → PlainComb → PlainStmtKind} (h : PlainHead) (all : PlainStmts) (i : PlainIdent) (e : PlainExpr) (c : PlainComb) → IsCombining kind make → FewKind (make h all i e c)
    → FewCounters h.counters × FewBody all × FewExpr e
made h all i e c IsCombining.reduces few = few
made h all i e c IsCombining.folds few = few
made h all i e c IsCombining.reduces_memories few = few

either_not : (a b : Bool) → b ≡ false → (a && b) ≡ false
either_not true b e = e
either_not false b e = refl

neither : (a b : Bool) → a ≡ false → b ≡ false → (a || b) ≡ false
neither true b x y = x
neither false b x y = y

not_below : (n : ℕ) → n ≤ 64 → nat_lt 64 n ≡ false
not_below n low = grind arith

none_below : (n : ℕ) → nat_lt 0 n ≡ false → n ≤ 64
none_below n e = grind arith

module _ (source : Text) where
  -- no number is too wide
  abbrev pub Narrow : List Token → Type 0
  Narrow [] = Unit {0}
  Narrow (t ∷ ts) = (is_wide source t ≡ false) × Narrow ts

  tk : {kind : TokenKind} {ts us : List Token} → is_number kind ≡ false → Takes kind ts us → Narrow us → Narrow ts
  tk {kind} {ts} {us} e t h =
      let wide = is_too_wide (spelling_of source t.token) in
      let same : same_kind t.token.kind k.Number ≡ false = ap (λ x. same_kind x k.Number) t.of_kind ∙ other_kind kind e in
      let narrow : is_wide source t.token ≡ false = ap (λ b. b && wide) same in
      subst Narrow (sym t.is) (narrow, h)

  name_narrow : {ts us : List Token} {i : PlainIdent} → IsName source ts us i → Narrow us → Narrow ts
  name_narrow n h =
      let wide = is_too_wide (spelling_of source n.token) in
      let same : same_kind n.token.kind k.Number ≡ false = other_kind n.token.kind (name_kind n.token.kind n.named) in
      let narrow : is_wide source n.token ≡ false = ap (λ b. b && wide) same in
      subst Narrow (sym n.is) (narrow, h)

  few_narrow : (text : Text) (n : ℕ) → whole text ≡ Some n → length (fraction text) ≤ 64 → is_too_wide text ≡ false
  unfolding is_too_wide
  few_narrow text n part low = neither (is_none (whole text)) (nat_lt 64 (length (fraction text))) (ap is_none part) (not_below (length (fraction text)) low)

  number_narrow : {at : ℕ} {negative : Bool} {ts us : List Token} {d : PlainDigits} → IsNumber source at negative ts us d → length d.digits ≤ 64 → Narrow us → Narrow ts
  number_narrow {d = d} n few h =
      let text = spelling_of source n.takes.token in
      let count : length d.digits ≡ length (fraction text) = ap (λ (x : PlainDigits). length x.digits) n.spells ∙ mapped_length _ (fraction text) in
      let low : length (fraction text) ≤ 64 = omega (arith, count, few) in
      let narrow : is_wide source n.takes.token ≡ false = either_not (same_kind n.takes.token.kind k.Number) (is_too_wide text) (few_narrow text n.whole n.part low) in
      subst Narrow (sym n.takes.is) (narrow, h)

  no_fraction : (text : Text) → has_point text ≡ false → length (fraction text) ≤ 64
  unfolding has_point
  no_fraction text e = none_below (length (fraction text)) e

  whole_narrow : {least most : ℕ} {ts us : List Token} {n : ℕ} → IsWhole source least most ts us n → Narrow us → Narrow ts
  whole_narrow {n = n} w h =
      let text = spelling_of source w.takes.token in
      let narrow : is_wide source w.takes.token ≡ false = either_not (same_kind w.takes.token.kind k.Number) (is_too_wide text) (few_narrow text n w.spells (no_fraction text w.no_point)) in
      subst Narrow (sym w.takes.is) (narrow, h)

  width_narrow : {ts us : List Token} {n : ℕ} → IsWidth source ts us n → Narrow us → Narrow ts
  width_narrow w h = tk refl w.takes h

  break_narrow : {ts us : List Token} → IsBreak ts us → Narrow us → Narrow ts
  break_narrow (IsBreak.one p0) h = tk refl p0 h
  break_narrow (IsBreak.another p0 p1) h = tk refl p0 (break_narrow p1 h)

  may_break_narrow : {ts us : List Token} → MayBreak ts us → Narrow us → Narrow ts
  may_break_narrow MayBreak.none h = h
  may_break_narrow (MayBreak.some p0) h = break_narrow p0 h

  type_narrow : {ts us : List Token} {t : SynTy} → IsType source ts us t → Narrow us → Narrow ts
  type_narrow (IsType.an_int p0) h = tk refl p0 h
  type_narrow (IsType.a_bit p0) h = tk refl p0 h
  type_narrow (IsType.a_fixed p0 p1 p2 p3 p4 p5 p6 p7 p8) h = tk refl p0 (tk refl p1 (tk (signed_kind p2) p3 (tk refl p4 (width_narrow p5 (tk refl p6 (width_narrow p7 (tk refl p8 h)))))))

  bracketed_narrow : {ts us : List Token} {t : SynTy} → IsBracketed source ts us t → Narrow us → Narrow ts
  bracketed_narrow (IsBracketed.in_brackets p0 p1 p2) h = tk refl p0 (type_narrow p1 (tk refl p2 h))

  target_narrow : {ts us : List Token} {t : SynTy} → IsTarget source ts us t → Narrow us → Narrow ts
  target_narrow (IsTarget.to p0 p1 p2) h = tk refl p0 (tk refl p1 (bracketed_narrow p2 h))

  dims_narrow : {ts us : List Token} {dims : List ℕ} → IsDims source ts us dims → Narrow us → Narrow ts
  dims_narrow (IsDims.line p0 p1 p2) h = tk refl p0 (whole_narrow p1 (tk refl p2 h))
  dims_narrow (IsDims.plane p0 p1 p2 p3 p4) h = tk refl p0 (whole_narrow p1 (tk refl p2 (whole_narrow p3 (tk refl p4 h))))
  dims_narrow (IsDims.block p0 p1 p2 p3 p4 p5 p6) h = tk refl p0 (whole_narrow p1 (tk refl p2 (whole_narrow p3 (tk refl p4 (whole_narrow p5 (tk refl p6 h))))))

  signed_number_narrow : {ts us : List Token} {d : PlainDigits} → IsSignedNumber source ts us d → length d.digits ≤ 64 → Narrow us → Narrow ts
  signed_number_narrow (IsSignedNumber.plain p0) few h = number_narrow p0 few h
  signed_number_narrow (IsSignedNumber.negative p0 p1) few h = tk refl p0 (number_narrow p1 few h)

  literal_narrow : {ts us : List Token} {l : PlainLit} → IsLiteral source ts us l → FewLit l → Narrow us → Narrow ts
  literal_narrow (IsLiteral.yes p0) few h = tk refl p0 h
  literal_narrow (IsLiteral.no p0) few h = tk refl p0 h
  literal_narrow (IsLiteral.untyped p0) few h = signed_number_narrow p0 few h
  literal_narrow (IsLiteral.typed p0 p1) few h = signed_number_narrow p0 few (target_narrow p1 h)

  mutual
    expr_narrow : {ts us : List Token} {level : ℕ} {e : PlainExpr} → IsExpr source level ts us e → FewExpr e → Narrow us → Narrow ts
    expr_narrow (IsExpr.operand p0) few h = prefixed_narrow p0 few h
    expr_narrow (IsExpr.tighter p0) few h = expr_narrow p0 few h
    expr_narrow (IsExpr.operation p0 p1 p2 p3) few h = expr_narrow p1 few.0 (tk (operator_kind p0) p2 (expr_narrow p3 few.1 h))
    expr_narrow (IsExpr.shifted p0 p1 p2 p3) few h = expr_narrow p1 few (tk (shift_kind p0) p2 (whole_narrow p3 h))

    prefixed_narrow : {ts us : List Token} {e : PlainExpr} → IsPrefixed source ts us e → FewExpr e → Narrow us → Narrow ts
    prefixed_narrow (IsPrefixed.bare p0) few h = postfix_narrow p0 few h
    prefixed_narrow (IsPrefixed.signed p0 p1 p2 p3) few h = tk (sign_kind p0) p1 (prefixed_narrow p3 few h)

    postfix_narrow : {ts us : List Token} {e : PlainExpr} → IsPostfix source ts us e → FewExpr e → Narrow us → Narrow ts
    postfix_narrow (IsPostfix.negative p0 p1) few h = tk refl p0 (number_narrow p1 few h)
    postfix_narrow (IsPostfix.primary p0) few h = primary_narrow p0 few h
    postfix_narrow (IsPostfix.casted p0 p1) few h = postfix_narrow p0 few (target_narrow p1 h)

    primary_narrow : {ts us : List Token} {e : PlainExpr} → IsPrimary source ts us e → FewExpr e → Narrow us → Narrow ts
    primary_narrow (IsPrimary.a_number p0) few h = number_narrow p0 few h
    primary_narrow (IsPrimary.yes p0) few h = tk refl p0 h
    primary_narrow (IsPrimary.no p0) few h = tk refl p0 h
    primary_narrow (IsPrimary.a_name p0) few h = name_narrow p0 h
    primary_narrow (IsPrimary.a_value p0 p1 p2) few h = name_narrow p0 (tk refl p1 (tk refl p2 h))
    primary_narrow (IsPrimary.a_deq p0 p1 p2 p3 p4) few h = name_narrow p0 (tk refl p1 (tk refl p2 (tk refl p3 (tk refl p4 h))))
    primary_narrow (IsPrimary.an_access p0 p1 p2 p3) few h = name_narrow p0 (tk refl p1 (are_exprs_narrow p2 few (tk refl p3 h)))
    primary_narrow (IsPrimary.a_choice p0 p1 p2 p3 p4 p5 p6 p7) few h = tk refl p0 (tk refl p1 (expr_narrow p2 few.0 (tk refl p3 (expr_narrow p4 few.1 (tk refl p5 (expr_narrow p6 few.2 (tk refl p7 h)))))))
    primary_narrow (IsPrimary.a_least p0 p1 p2 p3 p4 p5) few h = tk refl p0 (tk refl p1 (expr_narrow p2 few.0 (tk refl p3 (expr_narrow p4 few.1 (tk refl p5 h)))))
    primary_narrow (IsPrimary.a_greatest p0 p1 p2 p3 p4 p5) few h = tk refl p0 (tk refl p1 (expr_narrow p2 few.0 (tk refl p3 (expr_narrow p4 few.1 (tk refl p5 h)))))
    primary_narrow (IsPrimary.in_parentheses p0 p1 p2) few h = tk refl p0 (expr_narrow p1 few (tk refl p2 h))

    are_exprs_narrow : {ts us : List Token} {all : List PlainExpr} → AreExprs source ts us all → FewExprs (row all) → Narrow us → Narrow ts
    are_exprs_narrow (AreExprs.last p0) few h = expr_narrow p0 few.0 h
    are_exprs_narrow (AreExprs.next p0 p1 p2) few h = expr_narrow p0 few.0 (tk refl p1 (are_exprs_narrow p2 few.1 h))

  par_narrow : {ts us : List Token} {p : Option SynPar} → IsPar source ts us p → Narrow us → Narrow ts
  par_narrow IsPar.none h = h
  par_narrow (IsPar.lanes p0 p1) h = tk refl p0 (whole_narrow p1 h)

  step_narrow : {ts us : List Token} {n : ℕ} → IsStep source ts us n → Narrow us → Narrow ts
  step_narrow IsStep.one h = h
  step_narrow (IsStep.by p0 p1) h = tk refl p0 (whole_narrow p1 h)

  span_narrow : {ts us : List Token} {s : PlainSpan} → IsSpan source ts us s → FewSpan s → Narrow us → Narrow ts
  span_narrow (IsSpan.an_index p0) few h = expr_narrow p0 few h
  span_narrow (IsSpan.a_range p0 p1 p2 p3) few h = expr_narrow p0 few.0 (tk refl p1 (expr_narrow p2 few.1 (par_narrow p3 h)))

  are_spans_narrow : {ts us : List Token} {all : List PlainSpan} → AreSpans source ts us all → FewSpans all → Narrow us → Narrow ts
  are_spans_narrow (AreSpans.last p0) few h = span_narrow p0 few.0 h
  are_spans_narrow (AreSpans.next p0 p1 p2) few h = span_narrow p0 few.0 (tk refl p1 (are_spans_narrow p2 few.1 h))

  are_bounds_narrow : {ts us : List Token} {a : Option PlainExpr} {b : PlainExpr} → AreBounds source ts us a b → FewBounds a b → Narrow us → Narrow ts
  are_bounds_narrow (AreBounds.upper p0) few h = expr_narrow p0 few h
  are_bounds_narrow (AreBounds.both p0 p1 p2) few h = expr_narrow p0 few.0 (tk refl p1 (expr_narrow p2 few.1 h))

  counter_narrow : {ts us : List Token} {c : PlainCounter} → IsCounter source ts us c → FewCounter c → Narrow us → Narrow ts
  counter_narrow (IsCounter.counter p0 p1 p2) few h = are_bounds_narrow p0 few (step_narrow p1 (par_narrow p2 h))

  are_counters_narrow : {ts us : List Token} {most : ℕ} {all : List PlainCounter} → AreCounters source most ts us all → FewCounters all → Narrow us → Narrow ts
  are_counters_narrow (AreCounters.last p0) few h = counter_narrow p0 few.0 h
  are_counters_narrow (AreCounters.next p0 p1 p2) few h = counter_narrow p0 few.0 (tk refl p1 (are_counters_narrow p2 few.1 h))

  counter_list_narrow : {ts us : List Token} {all : List PlainCounter} → IsCounterList source ts us all → FewCounters all → Narrow us → Narrow ts
  counter_list_narrow (IsCounterList.enclosed p0 p1 p2) few h = tk refl p0 (are_counters_narrow p1 few (tk refl p2 h))

  are_names_narrow : {ts us : List Token} {all : List PlainIdent} → AreNames source ts us all → Narrow us → Narrow ts
  are_names_narrow (AreNames.last p0) h = name_narrow p0 h
  are_names_narrow (AreNames.next p0 p1 p2) h = name_narrow p0 (tk refl p1 (are_names_narrow p2 h))

  are_binds_narrow : {ts us : List Token} {all : List PlainIdent} → AreBinds source ts us all → Narrow us → Narrow ts
  are_binds_narrow (AreBinds.alone p0) h = name_narrow p0 h
  are_binds_narrow (AreBinds.enclosed p0 p1 p2) h = tk refl p0 (are_names_narrow p1 (tk refl p2 h))

  are_pair_narrow : {ts us : List Token} {i j : PlainIdent} → ArePair source ts us i j → Narrow us → Narrow ts
  are_pair_narrow (ArePair.pair p0 p1 p2 p3 p4) h = tk refl p0 (name_narrow p1 (tk refl p2 (name_narrow p3 (tk refl p4 h))))

  combined_narrow : {ts us : List Token} {o : BinOp} {i j : PlainIdent} → IsCombined source ts us o i j → Narrow us → Narrow ts
  combined_narrow (IsCombined.by_operator p0 p1 p2 p3) h = name_narrow p1 (tk (combines_kind p0) p2 (name_narrow p3 h))
  combined_narrow (IsCombined.least p0 p1) h = tk refl p0 (are_pair_narrow p1 h)
  combined_narrow (IsCombined.greatest p0 p1) h = tk refl p0 (are_pair_narrow p1 h)

  combiner_narrow : {ts us : List Token} {c : PlainComb} → IsCombiner source ts us c → Narrow us → Narrow ts
  combiner_narrow (IsCombiner.unnamed p0 p1 p2 p3 p4 p5) h = tk refl p1 (tk refl p2 (tk (combines_kind p0) p3 (tk refl p4 (tk refl p5 h))))
  combiner_narrow (IsCombiner.named p0 p1 p2 p3 p4) h = tk refl p0 (are_pair_narrow p1 (tk refl p2 (combined_narrow p3 (tk refl p4 h))))

  may_have_style_narrow : {ts us : List Token} {s : Option Style} → MayHaveStyle ts us s → Narrow us → Narrow ts
  may_have_style_narrow MayHaveStyle.none h = h
  may_have_style_narrow (MayHaveStyle.some p0 p1 p2) h = tk (style_kind p0) p1 (tk refl p2 h)

  may_start_narrow : {ts us : List Token} {l : Option PlainLit} → MayStart source ts us l → FewStart l → Narrow us → Narrow ts
  may_start_narrow MayStart.none few h = h
  may_start_narrow (MayStart.some p0 p1 p2) few h = tk refl p0 (literal_narrow p1 few (tk refl p2 h))

  bound_narrow : {ts us : List Token} {i : PlainIdent} {s : PlainStmtKind} → IsBound source i ts us s → FewKind s → Narrow us → Narrow ts
  bound_narrow (IsBound.a_reg p0 p1 p2) few h = tk refl p0 (bracketed_narrow p1 (may_start_narrow p2 few h))
  bound_narrow (IsBound.a_sram p0 p1 p2) few h = tk refl p0 (bracketed_narrow p1 (dims_narrow p2 h))
  bound_narrow (IsBound.a_fifo p0 p1 p2 p3 p4) few h = tk refl p0 (bracketed_narrow p1 (tk refl p2 (whole_narrow p3 (tk refl p4 h))))
  bound_narrow (IsBound.a_line_buffer p0 p1 p2 p3 p4 p5 p6) few h = tk refl p0 (bracketed_narrow p1 (tk refl p2 (whole_narrow p3 (tk refl p4 (whole_narrow p5 (tk refl p6 h))))))
  bound_narrow (IsBound.a_word p0) few h = expr_narrow p0 few h

  arrow_narrow : {ts us : List Token} {i : PlainIdent} {e : PlainExpr} → IsArrow source ts us i e → FewExpr e → Narrow us → Narrow ts
  arrow_narrow (IsArrow.arrow p0 p1 p2) few h = name_narrow p0 (tk refl p1 (expr_narrow p2 few h))

  mutual
    stmt_narrow : {ts us : List Token} {s : PlainStmt} → IsStmt source ts us s → FewStmt s → Narrow us → Narrow ts
    stmt_narrow (IsStmt.stands p0) few h = kind_narrow p0 few h

    are_more_narrow : {ts us : List Token} {all : List PlainStmt} → AreMore source ts us all → FewBody (body all) → Narrow us → Narrow ts
    are_more_narrow (AreMore.last_stmt p0) few h = stmt_narrow p0 few.0 h
    are_more_narrow (AreMore.next_stmt p0 p1 p2) few h = stmt_narrow p0 few.0 (break_narrow p1 (are_more_narrow p2 few.1 h))

    are_stmts_narrow : {ts us : List Token} {all : List PlainStmt} → AreStmts source ts us all → FewBody (body all) → Narrow us → Narrow ts
    are_stmts_narrow (AreStmts.no_stmts p0) few h = may_break_narrow p0 h
    are_stmts_narrow (AreStmts.some_stmts p0 p1 p2) few h = may_break_narrow p0 (are_more_narrow p1 few (may_break_narrow p2 h))

    are_valued_narrow : {ts us : List Token} {all : List PlainStmt} {e : PlainExpr} → AreValued source ts us all e → (FewBody (body all) × FewExpr e) → Narrow us → Narrow ts
    are_valued_narrow (AreValued.value_alone p0) few h = expr_narrow p0 few.1 h
    are_valued_narrow (AreValued.before_value p0 p1 p2) few h = stmt_narrow p0 few.0.0 (break_narrow p1 (are_valued_narrow p2 (few.0.1, few.1) h))

    valued_narrow : {ts us : List Token} {all : List PlainStmt} {e : PlainExpr} → IsValued source ts us all e → (FewBody (body all) × FewExpr e) → Narrow us → Narrow ts
    valued_narrow (IsValued.valued p0 p1 p2) few h = may_break_narrow p0 (are_valued_narrow p1 few (may_break_narrow p2 h))

    braced_narrow : {ts us : List Token} {all : List PlainStmt} → IsBraced source ts us all → FewBody (body all) → Narrow us → Narrow ts
    braced_narrow (IsBraced.braced p0 p1 p2) few h = tk refl p0 (are_stmts_narrow p1 few (tk refl p2 h))

    may_else_narrow : {ts us : List Token} {all : List PlainStmt} → MayElse source ts us all → FewBody (body all) → Narrow us → Narrow ts
    may_else_narrow MayElse.no_else few h = h
    may_else_narrow (MayElse.an_else p0 p1) few h = tk refl p0 (braced_narrow p1 few h)

    kind_narrow : {ts us : List Token} {s : PlainStmtKind} → IsKind source ts us s → FewKind s → Narrow us → Narrow ts
    kind_narrow (IsKind.a_val p0 p1 p2 p3) few h = tk refl p0 (name_narrow p1 (tk refl p2 (bound_narrow p3 few h)))
    kind_narrow (IsKind.a_set p0 p1 p2) few h = name_narrow p0 (tk refl p1 (expr_narrow p2 few h))
    kind_narrow (IsKind.a_set_at p0 p1 p2 p3 p4 p5) few h = name_narrow p0 (tk refl p1 (are_exprs_narrow p2 few.0 (tk refl p3 (tk refl p4 (expr_narrow p5 few.1 h)))))
    kind_narrow (IsKind.an_enq p0 p1 p2 p3 p4 p5) few h = name_narrow p0 (tk refl p1 (tk refl p2 (tk refl p3 (expr_narrow p4 few (tk refl p5 h)))))
    kind_narrow (IsKind.a_load p0 p1 p2 p3 p4 p5) few h = name_narrow p0 (tk refl p1 (name_narrow p2 (tk refl p3 (are_spans_narrow p4 few (tk refl p5 h)))))
    kind_narrow (IsKind.a_store p0 p1 p2 p3 p4 p5) few h = name_narrow p0 (tk refl p1 (are_spans_narrow p2 few (tk refl p3 (tk refl p4 (name_narrow p5 h)))))
    kind_narrow (IsKind.a_gather p0 p1 p2 p3 p4 p5 p6 p7) few h = name_narrow p0 (tk refl p1 (name_narrow p2 (tk refl p3 (name_narrow p4 (tk refl p5 (expr_narrow p6 few (tk refl p7 h)))))))
    kind_narrow (IsKind.a_scatter p0 p1 p2 p3 p4 p5 p6 p7) few h = name_narrow p0 (tk refl p1 (name_narrow p2 (tk refl p3 (expr_narrow p4 few (tk refl p5 (tk refl p6 (name_narrow p7 h)))))))
    kind_narrow (IsKind.a_block p0 p1 p2) few h = tk (block_kind p0) p1 (braced_narrow p2 few h)
    kind_narrow (IsKind.a_foreach p0 p1 p2 p3 p4 p5 p6 p7) few h = may_have_style_narrow p0 (tk refl p1 (counter_list_narrow p2 few.0 (tk refl p3 (are_binds_narrow p4 (tk refl p5 (are_stmts_narrow p6 few.1 (tk refl p7 h)))))))
    kind_narrow (IsKind.a_combining {s = s} {acc = acc} {counters = counters} {binds = binds} {all = all} {x = x} {comb = comb} p0 p1 p2 p3 p4 p5 p6 p7 p8 p9 p10 p11 p12) few h = may_have_style_narrow p1 (tk (combining_kind p0) p2 (tk refl p3 (name_narrow p4 (tk refl p5 (counter_list_narrow p6 (made (head s counters binds) (body all) acc x comb p0 few).0 (tk refl p7 (are_binds_narrow p8 (tk refl p9 (valued_narrow p10 ((made (head s counters binds) (body all) acc x comb p0 few).1, (made (head s counters binds) (body all) acc x comb p0 few).2) (tk refl p11 (combiner_narrow p12 h)))))))))))
    kind_narrow (IsKind.an_fsm p0 p1 p2 p3 p4 p5 p6 p7 p8 p9 p10 p11 p12 p13 p14) few h = tk refl p0 (tk refl p1 (expr_narrow p2 few.0 (tk refl p3 (tk refl p4 (arrow_narrow p5 few.1 (tk refl p6 (tk refl p7 (name_narrow p8 (tk refl p9 (are_stmts_narrow p10 few.2 (tk refl p11 (tk refl p12 (arrow_narrow p13 few.3 (tk refl p14 h))))))))))))))
    kind_narrow (IsKind.a_branch p0 p1 p2 p3 p4 p5) few h = tk refl p0 (tk refl p1 (expr_narrow p2 few.0 (tk refl p3 (braced_narrow p4 few.1 (may_else_narrow p5 few.2 h)))))

  port_narrow : {ts us : List Token} {p : PlainDeclKind} → IsPort source ts us p → Narrow us → Narrow ts
  port_narrow (IsPort.an_arg_in p0 p1) h = tk refl p0 (bracketed_narrow p1 h)
  port_narrow (IsPort.an_arg_out p0 p1) h = tk refl p0 (bracketed_narrow p1 h)
  port_narrow (IsPort.a_dram p0 p1 p2) h = tk refl p0 (bracketed_narrow p1 (dims_narrow p2 h))

  are_decls_narrow : {ts us : List Token} {all : List PlainDecl} → AreDecls source ts us all → Narrow us → Narrow ts
  are_decls_narrow AreDecls.none h = h
  are_decls_narrow (AreDecls.next p0 p1 p2 p3 p4 p5) h = tk refl p0 (name_narrow p1 (tk refl p2 (port_narrow p3 (break_narrow p4 (are_decls_narrow p5 h)))))

  pub program_narrow : {ts : List Token} {s : PlainSyntax} → IsProgram source ts s → FewBody (body s.body) → Narrow ts
  program_narrow (IsProgram.program p0 p1 p2 p3 p4) few = may_break_narrow p0 (are_decls_narrow p1 (tk refl p2 (braced_narrow p3 few (may_break_narrow p4 tt))))

  -- so the limits of brackets and operators are all that is left
  pub none_passed : (c : PlainCounts) (number : ℕ) (ts : List Token) → Narrow ts → is_passed_from c ts ≡ false → passed_from source c number ts ≡ None
  none_passed c number [] h e = refl
  none_passed c number (t ∷ ts) h e =
      ap (λ b. if b then Some (number, Wide) else option_map_or (λ more. passed_from source more (number + 1) ts) (taken c t.kind (kind_of ts)) (Some (number, Deep))) h.0
      ∙ go (taken c t.kind (kind_of ts)) e (λ more. none_passed more (number + 1) ts h.1)
    where
      go : (o : Option PlainCounts) → option_map_or (λ more. is_passed_from more ts) o true ≡ false → ((more : PlainCounts) → is_passed_from more ts ≡ false → passed_from source more (number + 1) ts ≡ None)
          → option_map_or (λ more. passed_from source more (number + 1) ts) o (Some (number, Deep)) ≡ None
      go None f rest = absurd (cc)
      go (Some more) f rest = rest more f
