-- What is spelled leaves fewer tokens.
use Rattle.std.proofs.Common.{ℕ, ◌<◌, ◌≤◌, List, length, Option, arith}
use Rattle.sp_words.specs.declared.kind.BinOp.{BinOp}
use Rattle.sp_words.specs.declared.kind.Style.{Style}
use Rattle.sp_reader.specs.declared.syntax.expression.SynTy.{SynTy}
use Rattle.sp_reader.specs.declared.token.Token.{Token}
use Rattle.sp_reader.specs.PlainTree.{PlainIdent, PlainDigits, PlainLit, PlainExpr}
use Rattle.sp_reader.specs.PlainStatement.{PlainSpan, PlainCounter, PlainComb, PlainStmt, PlainStmtKind, PlainDeclKind}
use Rattle.sp_reader.specs.Steps.{Text}
use Rattle.sp_grammar.specs.Tokens.{IsBreak, MayBreak}
use Rattle.sp_grammar.specs.Expressions.{IsBracketed, IsDims, IsSignedNumber, IsLiteral}
use Rattle.sp_grammar.specs.Loops.{IsStep, AreSpans, AreBounds, IsCounter, AreCounters, IsCounterList, AreNames, AreBinds, ArePair, IsCombined, IsCombiner}
use Rattle.sp_grammar.specs.Statements.{MayHaveStyle, MayStart, IsBound, IsArrow, IsStmt, AreMore, AreStmts, AreValued, IsValued, IsBraced, MayElse, IsKind, IsPort}
use Rattle.sp_grammar.proofs.Again.{shorter, name_shorter, target_shorter, type_shorter}
use Rattle.sp_grammar.proofs.AgainExprs.{expr_shorter, exprs_shorter}
use Rattle.sp_grammar.proofs.AgainLoops.{par_shorter, span_shorter}

pub break_shorter : {ts us : List Token} → IsBreak ts us → length us < length ts
break_shorter {ts} (IsBreak.one takes) = shorter ts takes
break_shorter {ts} (IsBreak.another takes rest) = let a = shorter ts takes in let b = break_shorter rest in omega (arith, a, b)

pub breaks_shorter : {ts us : List Token} → MayBreak ts us → length us ≤ length ts
breaks_shorter MayBreak.none = omega arith
breaks_shorter (MayBreak.some some) = let a = break_shorter some in omega (arith, a)

pub style_shorter : {ts us : List Token} {s : Option Style} → MayHaveStyle ts us s → length us ≤ length ts
style_shorter MayHaveStyle.none = omega arith
style_shorter {ts} (MayHaveStyle.some {us = us} is word dot) = let a = shorter ts word in let b = shorter us dot in omega (arith, a, b)

module _ (source : Text) where
  bracketed_shorter : {ts us : List Token} {t : SynTy} → IsBracketed source ts us t → length us < length ts
  bracketed_shorter {ts} (IsBracketed.in_brackets {vs = vs} opened is close) = let a = shorter ts opened in let b = type_shorter source is in let c = shorter vs close in omega (arith, a, b, c)

  dims_shorter : {ts us : List Token} {ds : List ℕ} → IsDims source ts us ds → length us < length ts
  dims_shorter {ts} (IsDims.line {a = a} {b = b} opened x close) = let i = shorter ts opened in let j = shorter a x.takes in let l = shorter b close in omega (arith, i, j, l)
  dims_shorter {ts} (IsDims.plane {a = a} {b = b} {c = c} {d = d} opened x comma y close) =
      let i = shorter ts opened in let j = shorter a x.takes in let l = shorter b comma in let m = shorter c y.takes in let n = shorter d close in omega (arith, i, j, l, m, n)
  dims_shorter {ts} (IsDims.block {a = a} {b = b} {c = c} {d = d} {e = e} {f = f} opened x first y second z close) =
      let i = shorter ts opened in let j = shorter a x.takes in let l = shorter b first in let m = shorter c y.takes in let n = shorter d second in let o = shorter e z.takes in let p = shorter f close in omega (arith, i, j, l, m, n, o, p)

  signed_shorter : {ts us : List Token} {d : PlainDigits} → IsSignedNumber source ts us d → length us < length ts
  signed_shorter {ts} (IsSignedNumber.plain p) = shorter ts p.takes
  signed_shorter {ts} (IsSignedNumber.negative {us = us} word p) = let a = shorter ts word in let b = shorter us p.takes in omega (arith, a, b)

  literal_shorter : {ts us : List Token} {l : PlainLit} → IsLiteral source ts us l → length us < length ts
  literal_shorter {ts} (IsLiteral.yes p) = shorter ts p
  literal_shorter {ts} (IsLiteral.no p) = shorter ts p
  literal_shorter (IsLiteral.untyped p) = signed_shorter p
  literal_shorter (IsLiteral.typed p is) = let a = signed_shorter p in let b = target_shorter source is in omega (arith, a, b)

  start_shorter : {ts us : List Token} {l : Option PlainLit} → MayStart source ts us l → length us ≤ length ts
  start_shorter MayStart.none = omega arith
  start_shorter {ts} (MayStart.some {vs = vs} opened l close) = let a = shorter ts opened in let b = literal_shorter l in let c = shorter vs close in omega (arith, a, b, c)

  bound_shorter : {i : PlainIdent} {ts us : List Token} {s : PlainStmtKind} → IsBound source i ts us s → length us < length ts
  bound_shorter {ts = ts} (IsBound.a_reg word t start) = let a = shorter ts word in let b = bracketed_shorter t in let c = start_shorter start in omega (arith, a, b, c)
  bound_shorter {ts = ts} (IsBound.a_sram word t dims) = let a = shorter ts word in let b = bracketed_shorter t in let c = dims_shorter dims in omega (arith, a, b, c)
  bound_shorter {ts = ts} (IsBound.a_fifo {c = u} {d = v} {e = w} word t opened depth close) =
      let a = shorter ts word in let b = bracketed_shorter t in let c = shorter u opened in let d = shorter v depth.takes in let e = shorter w close in omega (arith, a, b, c, d, e)
  bound_shorter {ts = ts} (IsBound.a_line_buffer {c = u} {d = v} {e = w} {f = x} {g = y} word t opened rows comma columns close) =
      let a = shorter ts word in let b = bracketed_shorter t in let c = shorter u opened in let d = shorter v rows.takes in let e = shorter w comma in let f = shorter x columns.takes in let g = shorter y close in
      omega (arith, a, b, c, d, e, f, g)
  bound_shorter (IsBound.a_word e) = expr_shorter source e

  pub spans_shorter : {ts us : List Token} {all : List PlainSpan} → AreSpans source ts us all → length us < length ts
  spans_shorter (AreSpans.last p) = span_shorter source p
  spans_shorter (AreSpans.next {us = us} p comma rest) = let a = span_shorter source p in let b = shorter us comma in let c = spans_shorter rest in omega (arith, a, b, c)

  step_shorter : {ts us : List Token} {n : ℕ} → IsStep source ts us n → length us ≤ length ts
  step_shorter IsStep.one = omega arith
  step_shorter {ts} (IsStep.by {us = us} word n) = let a = shorter ts word in let b = shorter us n.takes in omega (arith, a, b)

  bounds_shorter : {ts us : List Token} {a : Option PlainExpr} {b : PlainExpr} → AreBounds source ts us a b → length us < length ts
  bounds_shorter (AreBounds.upper p) = expr_shorter source p
  bounds_shorter (AreBounds.both {us = us} p word q) = let a = expr_shorter source p in let b = shorter us word in let c = expr_shorter source q in omega (arith, a, b, c)

  counter_shorter : {ts us : List Token} {c : PlainCounter} → IsCounter source ts us c → length us < length ts
  counter_shorter (IsCounter.counter p stride width) = let a = bounds_shorter p in let b = step_shorter stride in let c = par_shorter source width in omega (arith, a, b, c)

  counters_shorter : {most : ℕ} {ts us : List Token} {all : List PlainCounter} → AreCounters source most ts us all → length us < length ts
  counters_shorter (AreCounters.last p) = counter_shorter p
  counters_shorter (AreCounters.next {us = us} p comma rest) = let a = counter_shorter p in let b = shorter us comma in let c = counters_shorter rest in omega (arith, a, b, c)

  pub list_shorter : {ts us : List Token} {all : List PlainCounter} → IsCounterList source ts us all → length us < length ts
  list_shorter {ts} (IsCounterList.enclosed {vs = vs} opened p close) = let a = shorter ts opened in let b = counters_shorter p in let c = shorter vs close in omega (arith, a, b, c)

  names_shorter : {ts us : List Token} {all : List PlainIdent} → AreNames source ts us all → length us < length ts
  names_shorter {ts} (AreNames.last p) = name_shorter source ts p
  names_shorter {ts} (AreNames.next {us = us} p comma rest) = let a = name_shorter source ts p in let b = shorter us comma in let c = names_shorter rest in omega (arith, a, b, c)

  pub binds_shorter : {ts us : List Token} {all : List PlainIdent} → AreBinds source ts us all → length us < length ts
  binds_shorter {ts} (AreBinds.alone p) = name_shorter source ts p
  binds_shorter {ts} (AreBinds.enclosed {vs = vs} opened p close) = let a = shorter ts opened in let b = names_shorter p in let c = shorter vs close in omega (arith, a, b, c)

  pair_shorter : {ts us : List Token} {i j : PlainIdent} → ArePair source ts us i j → length us < length ts
  pair_shorter {ts} (ArePair.pair {a = u} {b = v} {c = w} {d = x} opened p comma q close) =
      let a = shorter ts opened in let b = name_shorter source u p in let c = shorter v comma in let d = name_shorter source w q in let e = shorter x close in omega (arith, a, b, c, d, e)

  combined_shorter : {ts us : List Token} {o : BinOp} {i j : PlainIdent} → IsCombined source ts us o i j → length us < length ts
  combined_shorter {ts} (IsCombined.by_operator {us = us} {vs = vs} is p takes q) = let a = name_shorter source ts p in let b = shorter us takes in let c = name_shorter source vs q in omega (arith, a, b, c)
  combined_shorter {ts} (IsCombined.least word p) = let a = shorter ts word in let b = pair_shorter p in omega (arith, a, b)
  combined_shorter {ts} (IsCombined.greatest word p) = let a = shorter ts word in let b = pair_shorter p in omega (arith, a, b)

  combiner_shorter : {ts us : List Token} {c : PlainComb} → IsCombiner source ts us c → length us < length ts
  combiner_shorter {ts} (IsCombiner.unnamed {a = u} {b = v} {c = w} {d = x} is opened wild takes again close) =
      let a = shorter ts opened in let b = shorter u wild in let c = shorter v takes in let d = shorter w again in let e = shorter x close in omega (arith, a, b, c, d, e)
  combiner_shorter {ts} (IsCombiner.named {b = v} {d = x} opened p arrow q close) =
      let a = shorter ts opened in let b = pair_shorter p in let c = shorter v arrow in let d = combined_shorter q in let e = shorter x close in omega (arith, a, b, c, d, e)

  pub arrow_shorter : {ts us : List Token} {i : PlainIdent} {e : PlainExpr} → IsArrow source ts us i e → length us < length ts
  arrow_shorter {ts} (IsArrow.arrow {us = us} p word q) = let a = name_shorter source ts p in let b = shorter us word in let c = expr_shorter source q in omega (arith, a, b, c)

  mutual
    pub stmt_shorter : {ts us : List Token} {s : PlainStmt} → IsStmt source ts us s → length us < length ts
    stmt_shorter (IsStmt.stands p) = kind_shorter p

    more_shorter : {ts us : List Token} {all : List PlainStmt} → AreMore source ts us all → length us < length ts
    more_shorter (AreMore.last_stmt p) = stmt_shorter p
    more_shorter (AreMore.next_stmt p brk rest) = let a = stmt_shorter p in let b = break_shorter brk in let c = more_shorter rest in omega (arith, a, b, c)

    stmts_shorter : {ts us : List Token} {all : List PlainStmt} → AreStmts source ts us all → length us ≤ length ts
    stmts_shorter (AreStmts.no_stmts brk) = breaks_shorter brk
    stmts_shorter (AreStmts.some_stmts brk p end) = let a = breaks_shorter brk in let b = more_shorter p in let c = breaks_shorter end in omega (arith, a, b, c)

    valued_from_shorter : {ts us : List Token} {all : List PlainStmt} {e : PlainExpr} → AreValued source ts us all e → length us < length ts
    valued_from_shorter (AreValued.value_alone p) = expr_shorter source p
    valued_from_shorter (AreValued.before_value p brk rest) = let a = stmt_shorter p in let b = break_shorter brk in let c = valued_from_shorter rest in omega (arith, a, b, c)

    valued_shorter : {ts us : List Token} {all : List PlainStmt} {e : PlainExpr} → IsValued source ts us all e → length us < length ts
    valued_shorter (IsValued.valued brk p end) = let a = breaks_shorter brk in let b = valued_from_shorter p in let c = breaks_shorter end in omega (arith, a, b, c)

    pub braced_shorter : {ts us : List Token} {all : List PlainStmt} → IsBraced source ts us all → length us < length ts
    braced_shorter {ts} (IsBraced.braced {vs = vs} opened p close) = let a = shorter ts opened in let b = stmts_shorter p in let c = shorter vs close in omega (arith, a, b, c)

    else_shorter : {ts us : List Token} {all : List PlainStmt} → MayElse source ts us all → length us ≤ length ts
    else_shorter MayElse.no_else = omega arith
    else_shorter {ts} (MayElse.an_else word p) = let a = shorter ts word in let b = braced_shorter p in omega (arith, a, b)

    kind_shorter : {ts us : List Token} {s : PlainStmtKind} → IsKind source ts us s → length us < length ts
    kind_shorter {ts} (IsKind.a_val {a = u} {b = v} word p sign is) = let a = shorter ts word in let b = name_shorter source u p in let c = shorter v sign in let d = bound_shorter is in omega (arith, a, b, c, d)
    kind_shorter {ts} (IsKind.a_set {a = u} p word e) = let a = name_shorter source ts p in let b = shorter u word in let c = expr_shorter source e in omega (arith, a, b, c)
    kind_shorter {ts} (IsKind.a_set_at {a = u} {c = w} {d = x} p opened all close word e) =
        let a = name_shorter source ts p in let b = shorter u opened in let c = exprs_shorter source all in let d = shorter w close in let f = shorter x word in let g = expr_shorter source e in omega (arith, a, b, c, d, f, g)
    kind_shorter {ts} (IsKind.an_enq {a = u} {b = v} {c = w} {e = y} p dot word opened x close) =
        let a = name_shorter source ts p in let b = shorter u dot in let c = shorter v word in let d = shorter w opened in let f = expr_shorter source x in let g = shorter y close in omega (arith, a, b, c, d, f, g)
    kind_shorter {ts} (IsKind.a_load {a = u} {b = v} {c = w} {e = y} p word q opened all close) =
        let a = name_shorter source ts p in let b = shorter u word in let c = name_shorter source v q in let d = shorter w opened in let f = spans_shorter all in let g = shorter y close in omega (arith, a, b, c, d, f, g)
    kind_shorter {ts} (IsKind.a_store {a = u} {c = w} {d = x} {e = y} p opened all close word q) =
        let a = name_shorter source ts p in let b = shorter u opened in let c = spans_shorter all in let d = shorter w close in let f = shorter x word in let g = name_shorter source y q in omega (arith, a, b, c, d, f, g)
    kind_shorter {ts} (IsKind.a_gather {a = u} {b = v} {c = w} {d = x} {e = y} {g = z} p word q opened r comma e close) =
        let a = name_shorter source ts p in let b = shorter u word in let c = name_shorter source v q in let d = shorter w opened in let f = name_shorter source x r in let g = shorter y comma in let h = expr_shorter source e in let i = shorter z close in
        omega (arith, a, b, c, d, f, g, h, i)
    kind_shorter {ts} (IsKind.a_scatter {a = u} {b = v} {c = w} {e = x} {f = y} {g = z} p opened q comma e close word r) =
        let a = name_shorter source ts p in let b = shorter u opened in let c = name_shorter source v q in let d = shorter w comma in let f = expr_shorter source e in let g = shorter x close in let h = shorter y word in let i = name_shorter source z r in
        omega (arith, a, b, c, d, f, g, h, i)
    kind_shorter {ts} (IsKind.a_block is takes p) = let a = shorter ts takes in let b = braced_shorter p in omega (arith, a, b)
    kind_shorter {ts} (IsKind.a_foreach {a = u} {c = v} {e = w} {g = x} has word p opened q arrow r close) =
        let a = style_shorter has in let b = shorter u word in let c = list_shorter p in let d = shorter v opened in let e = binds_shorter q in let f = shorter w arrow in let g = stmts_shorter r in let h = shorter x close in
        omega (arith, a, b, c, d, e, f, g, h)
    kind_shorter {ts} (IsKind.a_combining {a = u} {b = v} {c = w} {d = x} {f = y} {h = z} {j = o} is has word opened acc close p curly q arrow r end comb) =
        let a = style_shorter has in let b = shorter u word in let c = shorter v opened in let d = name_shorter source w acc in let e = shorter x close in let f = list_shorter p in let g = shorter y curly in let h = binds_shorter q in
        let i = shorter z arrow in let j = valued_shorter r in let l = shorter o end in let m = combiner_shorter comb in omega (arith, a, b, c, d, e, f, g, h, i, j, l, m)
    kind_shorter {ts} (IsKind.an_fsm {a = t1} {c = t2} {d = t3} {f = t4} {g = t5} {h = t6} {i = t7} {l = t8} {m = t9} {o = t10} word a start b c tested d opened i arrow all close e next f) =
        let l1 = shorter ts word in let l2 = shorter t1 a in let l3 = expr_shorter source start in let l4 = shorter t2 b in let l5 = shorter t3 c in let l6 = arrow_shorter tested in let l7 = shorter t4 d in let l8 = shorter t5 opened in
        let l9 = name_shorter source t6 i in let l10 = shorter t7 arrow in let l11 = stmts_shorter all in let l12 = shorter t8 close in let l13 = shorter t9 e in let l14 = arrow_shorter next in let l15 = shorter t10 f in
        omega (arith, l1, l2, l3, l4, l5, l6, l7, l8, l9, l10, l11, l12, l13, l14, l15)
    kind_shorter {ts} (IsKind.a_branch {a = u} {c = v} word opened test close first second) =
        let a = shorter ts word in let b = shorter u opened in let c = expr_shorter source test in let d = shorter v close in let e = braced_shorter first in let f = else_shorter second in omega (arith, a, b, c, d, e, f)

  pub port_shorter : {ts us : List Token} {p : PlainDeclKind} → IsPort source ts us p → length us < length ts
  port_shorter {ts} (IsPort.an_arg_in word t) = let a = shorter ts word in let b = bracketed_shorter t in omega (arith, a, b)
  port_shorter {ts} (IsPort.an_arg_out word t) = let a = shorter ts word in let b = bracketed_shorter t in omega (arith, a, b)
  port_shorter {ts} (IsPort.a_dram word t dims) = let a = shorter ts word in let b = bracketed_shorter t in let c = dims_shorter dims in omega (arith, a, b, c)
