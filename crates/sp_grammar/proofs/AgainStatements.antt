-- What is spelled is read again: statements that hold others.
use Rattle.std.proofs.Common.{◌≡◌, ◌∙◌, ℕ, zero, suc, ◌≤◌, true, false, List, [], ◌∷◌, ◌++◌, length, Option, None, Ok, refl, sym, ap, subst, arith}
use Rattle.std.proofs.lemmas.List.{append-nil, append_assoc}
use Rattle.sp_words.specs.declared.kind.Style.{Style}
use Rattle.sp_reader.specs.declared.token.Token.{Token}
use Rattle.sp_reader.specs.declared.token.TokenKind.{TokenKind}
use Rattle.sp_reader.specs.declared.token.TokenKind.TheVariants as k
use Rattle.sp_reader.specs.PlainTree.{PlainIdent, PlainExpr}
use Rattle.sp_reader.specs.PlainStatement.{PlainCounter, PlainComb, PlainHead, PlainStmt, PlainStmts, PlainStmtKind, block, foreach, fsm, branch, body}
use Rattle.sp_reader.specs.StatementRules.{head, stmts_from, stmts, braced, last_value, valued_from, valued, styled_block, a_foreach, a_combining, controller, styled, arrow, enclosed_arrow, enclosed_expr, bound_body, a_fsm, otherwise, a_branch, kind_by, kind, stmt}
use Rattle.sp_reader.specs.SimpleRules.{on_name}
use Rattle.sp_reader.specs.Steps.{Text, Rule, Outcome, kind_of, same_kind, sees, semicolons, is_name}
use Rattle.sp_grammar.specs.Tokens.{Takes, IsBreak, MayBreak, IsName}
use Rattle.sp_grammar.specs.Loops.{IsWholeExpr, IsCounterList, AreBinds, IsCombiner}
use Rattle.sp_grammar.specs.Statements.{IsBlock, IsStyle, MayHaveStyle, IsCombining, IsArrow, IsStmt, AreMore, AreStmts, AreValued, IsValued, IsBraced, MayElse, IsKind}
use Rattle.sp_grammar.proofs.Again.{kind_at, tail_at, shorter, kind_same, sees_it, sees_other, skip_it, past_break, past_breaks, no_semicolon, break_seen, name_kind, name_shorter, name_again}
use Rattle.sp_grammar.proofs.AgainExprs.{expr_shorter}
use Rattle.sp_grammar.proofs.AgainLoops.{is_end, expr_again, expr_before, counters_again, binds_again, enclosed_name_again, combiner_again}
use Rattle.sp_grammar.proofs.AgainSimple.{stmt_end, val_again, on_name_again, value_next, statement_next}
use Rattle.sp_grammar.proofs.Lengths.{break_shorter, breaks_shorter, style_shorter, list_shorter, binds_shorter, arrow_shorter, stmt_shorter, braced_shorter}
use Rattle.sp_grammar.proofs.Starts.{other_by, is_stmt_end, begins, begins_expr, begins_stmt, stmt_begins}

-- ---- where a statement ends

close_end : (ts : List Token) → kind_of ts ≡ k.CloseCurly → is_stmt_end (kind_of ts) ≡ true
close_end ts e = ap is_stmt_end e

-- before any number of `;` and the end of a body
ends_before : {us ws : List Token} → MayBreak us ws → kind_of ws ≡ k.CloseCurly → is_stmt_end (kind_of us) ≡ true
ends_before {us} MayBreak.none e = close_end us e
ends_before {us} (MayBreak.some (IsBreak.one takes)) e = ap is_stmt_end (kind_at us takes)
ends_before {us} (MayBreak.some (IsBreak.another takes rest)) e = ap is_stmt_end (kind_at us takes)

ends_at_break : {us vs : List Token} → IsBreak us vs → is_stmt_end (kind_of us) ≡ true
ends_at_break {us} (IsBreak.one takes) = ap is_stmt_end (kind_at us takes)
ends_at_break {us} (IsBreak.another takes rest) = ap is_stmt_end (kind_at us takes)

curly : (ts : List Token) → kind_of ts ≡ k.CloseCurly → semicolons ts ≡ ts
unfolding same_kind
curly ts e = no_semicolon ts (sees_other k.CloseCurly k.Semicolon ts e refl)

closes_body : (ts : List Token) → kind_of ts ≡ k.CloseCurly → sees k.CloseCurly ts ≡ true
unfolding sees
closes_body ts e = kind_same (kind_of ts) k.CloseCurly e

-- ---- statements in a list, at their end

module _ (inner : Rule PlainStmt) where
  -- all is read where the body ends
  at_end : (n : ℕ) (found : List PlainStmt) (ts : List Token) → kind_of ts ≡ k.CloseCurly → stmts_from inner (suc n) found ts ≡ Ok (found, ts)
  unfolding stmts_from
  at_end n found ts e = rw (closes_body ts e) refl

  one_stmt : (n : ℕ) (found : List PlainStmt) {ts us ws : List Token} {s : PlainStmt} → sees k.CloseCurly ts ≡ false → inner ts ≡ Ok (s, us) → MayBreak us ws → kind_of ws ≡ k.CloseCurly → stmts_from inner (suc (suc n)) found ts ≡ Ok (found ++ s ∷ [], ws)
  unfolding stmts_from same_kind
  one_stmt n found {us = us} off read MayBreak.none e = rw (off, read, sees_other k.CloseCurly k.Semicolon us e refl) refl
  one_stmt n found {us = us} {ws = ws} {s = s} off read (MayBreak.some brk) e = rw (off, read, break_seen brk, past_break brk, curly ws e, closes_body ws e) refl

  next_stmt : (n : ℕ) (found more : List PlainStmt) {ts us vs ws : List Token} {s : PlainStmt} → sees k.CloseCurly ts ≡ false → inner ts ≡ Ok (s, us) → IsBreak us vs → sees k.Semicolon vs ≡ false
      → stmts_from inner n (found ++ s ∷ []) vs ≡ Ok ((found ++ s ∷ []) ++ more, ws) → stmts_from inner (suc n) found ts ≡ Ok (found ++ s ∷ more, ws)
  unfolding stmts_from
  next_stmt n found more {vs = vs} {ws = ws} {s = s} off read brk plain rest =
      rw (off, read, break_seen brk, past_break brk, no_semicolon vs plain) (rest ∙ ap (λ xs. Ok (xs, ws)) (append_assoc found (s ∷ []) more))

  module _ (source : Text) where
    next_valued : (n : ℕ) (found more : List PlainStmt) {e : PlainExpr} {ts us vs ws : List Token} {s : PlainStmt} → IsStmt source ts us s → inner ts ≡ Ok (s, us) → IsBreak us vs → sees k.Semicolon vs ≡ false
        → valued_from source inner n (found ++ s ∷ []) vs ≡ Ok (((found ++ s ∷ []) ++ more, e), ws) → valued_from source inner (suc n) found ts ≡ Ok ((found ++ s ∷ more, e), ws)
    unfolding valued_from
    next_valued n found more {e} {vs = vs} {ws = ws} {s = s} p read (IsBreak.one takes) plain rest =
        rw (statement_next source p, read, skip_it takes, no_semicolon vs plain) (rest ∙ ap (λ xs. Ok ((xs, e), ws)) (append_assoc found (s ∷ []) more))
    next_valued n found more {e} {vs = vs} {ws = ws} {s = s} p read (IsBreak.another takes brk) plain rest =
        rw (statement_next source p, read, skip_it takes, past_break brk, no_semicolon vs plain) (rest ∙ ap (λ xs. Ok ((xs, e), ws)) (append_assoc found (s ∷ []) more))

    last_valued : (n : ℕ) (found : List PlainStmt) {e : PlainExpr} {ts us ws : List Token} → IsWholeExpr source ts us e → MayBreak us ws → kind_of ws ≡ k.CloseCurly → valued_from source inner (suc n) found ts ≡ Ok ((found, e), ws)
    unfolding valued_from last_value
    last_valued n found {us = us} {ws = ws} p brk e =
        let end = ends_before brk e in
        rw (value_next source p end, expr_again source p (stmt_end (kind_of us) end), past_breaks brk, curly ws e) refl

module _ (source : Text) where
  stmt_plain : {ts us : List Token} {s : PlainStmt} → IsStmt source ts us s → (sees k.CloseCurly ts ≡ false) × (sees k.Semicolon ts ≡ false)
  stmt_plain {ts} p = (other_by begins_stmt k.CloseCurly ts (stmt_begins source p) refl, other_by begins_stmt k.Semicolon ts (stmt_begins source p) refl)

  more_plain : {ts us : List Token} {all : List PlainStmt} → AreMore source ts us all → sees k.Semicolon ts ≡ false
  more_plain (AreMore.last_stmt p) = (stmt_plain p).1
  more_plain (AreMore.next_stmt p brk rest) = (stmt_plain p).1

  valued_plain : {ts us : List Token} {all : List PlainStmt} {e : PlainExpr} → AreValued source ts us all e → sees k.Semicolon ts ≡ false
  valued_plain {ts} (AreValued.value_alone p) = other_by begins_expr k.Semicolon ts (begins source p) refl
  valued_plain (AreValued.before_value p brk rest) = (stmt_plain p).1

  arrow_again : {ts us : List Token} {i : PlainIdent} {e : PlainExpr} → IsArrow source ts us i e → is_end (kind_of us) ≡ true → arrow source ts ≡ Ok ((i, e), us)
  unfolding arrow
  arrow_again {ts} (IsArrow.arrow p word q) end = rw (name_again source ts p, skip_it word, expr_again source q end) refl

  -- ---- by the kind of the first token

  by_kind : (inner : Rule PlainStmt) (wanted : TokenKind) (ts : List Token) {o : Outcome PlainStmtKind} → kind_of ts ≡ wanted → kind_by source inner wanted ts ≡ o → kind source inner ts ≡ o
  unfolding kind
  by_kind inner wanted ts {o} is h = subst (λ x. kind_by source inner x ts ≡ o) (sym is) h

  pub named_kind : (inner : Rule PlainStmt) (wanted : TokenKind) → is_name wanted ≡ true → kind_by source inner wanted ≡ on_name source
  named_kind inner k.Val e = absurd (cc)
  named_kind inner k.Pipe e = absurd (cc)
  named_kind inner k.Sequential e = absurd (cc)
  named_kind inner k.Parallel e = absurd (cc)
  named_kind inner k.Stream e = absurd (cc)
  named_kind inner k.Fsm e = absurd (cc)
  named_kind inner k.If e = absurd (cc)
  named_kind inner k.Foreach e = absurd (cc)
  named_kind inner k.Reduce e = absurd (cc)
  named_kind inner k.Fold e = absurd (cc)
  named_kind inner k.MemReduce e = absurd (cc)
  named_kind inner _ e = refl

  by_name : (inner : Rule PlainStmt) (ts : List Token) {us : List Token} {s : PlainStmtKind} → IsKind source ts us s → is_name (kind_of ts) ≡ true → is_stmt_end (kind_of us) ≡ true → kind source inner ts ≡ Ok (s, us)
  unfolding kind
  by_name inner ts p n end = ap (λ (r : Rule PlainStmtKind). r ts) (named_kind inner (kind_of ts) n) ∙ on_name_again source p n end

  -- a controller behind its style, or without one
  by_style : (inner : Rule PlainStmt) {ts us vs : List Token} {style : Option Style} {word : TokenKind} {o : Outcome PlainStmtKind} → MayHaveStyle ts us style → Takes word us vs
      → kind_by source inner word ≡ controller source inner None → controller source inner style us ≡ o → kind source inner ts ≡ o
  unfolding styled
  by_style inner {ts} {o = o} (MayHaveStyle.none) takes same h = by_kind inner _ ts (kind_at ts takes) (ap (λ (r : Rule PlainStmtKind). r ts) same ∙ h)
  by_style inner {ts} (MayHaveStyle.some {us = vs} IsStyle.pipe word dot) takes same h = by_kind inner k.Pipe ts (kind_at ts word) (rw (tail_at ts word, sees_it vs dot, tail_at vs dot) h)
  by_style inner {ts} (MayHaveStyle.some {us = vs} IsStyle.sequential word dot) takes same h = by_kind inner k.Sequential ts (kind_at ts word) (rw (tail_at ts word, sees_it vs dot, tail_at vs dot) h)

  -- ---- parts in their brackets

  module _ (inner : Rule PlainStmt) where
    foreach_again : (style : Option Style) {a b c d e f g h : List Token} {counters : List PlainCounter} {binds : List PlainIdent} {all : List PlainStmt}
        → Takes k.Foreach a b → IsCounterList source b c counters → Takes k.OpenCurly c d → AreBinds source d e binds → Takes k.Arrow e f → stmts inner f ≡ Ok (all, g) → Takes k.CloseCurly g h
        → controller source inner style a ≡ Ok (foreach (head style counters binds) (body all), h)
    unfolding controller a_foreach
    foreach_again style {a = a} word p opened q arrow r close = rw (sees_it a word, tail_at a word, counters_again source p, skip_it opened, binds_again source q, skip_it arrow, r, skip_it close) refl

    combining_again : (style : Option Style) {word : TokenKind} {make : PlainHead → PlainStmts → PlainIdent → PlainExpr → PlainComb → PlainStmtKind} {a b c d e f g h i j l m : List Token} {acc : PlainIdent} {counters : List PlainCounter}
        {binds : List PlainIdent} {all : List PlainStmt} {x : PlainExpr} {comb : PlainComb}
        → IsCombining word make → Takes word a b → Takes k.OpenRound b c → IsName source c d acc → Takes k.CloseRound d e → IsCounterList source e f counters → Takes k.OpenCurly f g → AreBinds source g h binds → Takes k.Arrow h i
        → valued source inner i ≡ Ok ((all, x), j) → Takes k.CloseCurly j l → IsCombiner source l m comb → controller source inner style a ≡ Ok (make (head style counters binds) (body all) acc x comb, m)
    unfolding controller a_combining same_kind
    combining_again style {a = a} IsCombining.reduces word opened acc end p curly q arrow r close comb =
        rw (
          sees_other k.Reduce k.Foreach a (kind_at a word) refl,
          sees_it a word,
          tail_at a word,
          enclosed_name_again source opened acc end,
          counters_again source p,
          skip_it curly,
          binds_again source q,
          skip_it arrow,
          r,
          skip_it close,
          combiner_again source comb,
        ) refl
    combining_again style {a = a} IsCombining.folds word opened acc end p curly q arrow r close comb =
        let at = kind_at a word in
        rw (
          sees_other k.Fold k.Foreach a at refl,
          sees_other k.Fold k.Reduce a at refl,
          sees_it a word,
          tail_at a word,
          enclosed_name_again source opened acc end,
          counters_again source p,
          skip_it curly,
          binds_again source q,
          skip_it arrow,
          r,
          skip_it close,
          combiner_again source comb,
        ) refl
    combining_again style {a = a} IsCombining.reduces_memories word opened acc end p curly q arrow r close comb =
        let at = kind_at a word in
        rw (
          sees_other k.MemReduce k.Foreach a at refl,
          sees_other k.MemReduce k.Reduce a at refl,
          sees_other k.MemReduce k.Fold a at refl,
          sees_it a word,
          tail_at a word,
          enclosed_name_again source opened acc end,
          counters_again source p,
          skip_it curly,
          binds_again source q,
          skip_it arrow,
          r,
          skip_it close,
          combiner_again source comb,
        ) refl

    combining_kind : {word : TokenKind} {make : PlainHead → PlainStmts → PlainIdent → PlainExpr → PlainComb → PlainStmtKind} → IsCombining word make → kind_by source inner word ≡ controller source inner None
    combining_kind IsCombining.reduces = refl
    combining_kind IsCombining.folds = refl
    combining_kind IsCombining.reduces_memories = refl

    block_again : {word : TokenKind} {s : Style} {ts a b : List Token} {all : List PlainStmt} → IsBlock word s → Takes word ts a → braced inner a ≡ Ok (all, b) → kind_of a ≡ k.OpenCurly → kind source inner ts ≡ Ok (block s (body all), b)
    unfolding styled styled_block same_kind
    block_again {ts = ts} {a = a} IsBlock.pipe takes read opens = by_kind inner k.Pipe ts (kind_at ts takes) (rw (tail_at ts takes, sees_other k.OpenCurly k.Dot a opens refl, read) refl)
    block_again {ts = ts} {a = a} IsBlock.sequential takes read opens = by_kind inner k.Sequential ts (kind_at ts takes) (rw (tail_at ts takes, sees_other k.OpenCurly k.Dot a opens refl, read) refl)
    block_again {ts = ts} {a = a} IsBlock.parallel takes read opens = by_kind inner k.Parallel ts (kind_at ts takes) (rw (tail_at ts takes, read) refl)
    block_again {ts = ts} {a = a} IsBlock.stream takes read opens = by_kind inner k.Stream ts (kind_at ts takes) (rw (tail_at ts takes, read) refl)

    fsm_again : {a b c d e f g h i j l m n o q : List Token} {start test next : PlainExpr} {tested state last : PlainIdent} {all : List PlainStmt}
        → Takes k.OpenRound a b → IsWholeExpr source b c start → Takes k.CloseRound c d → Takes k.OpenRound d e → IsArrow source e f tested test → Takes k.CloseRound f g
        → Takes k.OpenCurly g h → IsName source h i state → Takes k.Arrow i j → stmts inner j ≡ Ok (all, l) → Takes k.CloseCurly l m → Takes k.OpenCurly m n → IsArrow source n o last next → Takes k.CloseCurly o q
        → a_fsm source inner a ≡ Ok (fsm start tested test state (body all) last next, q)
    unfolding a_fsm enclosed_expr enclosed_arrow bound_body
    fsm_again {f = f} {h = h} {o = o} opened start close a tested b curly state arrow read end again next done =
        rw (
          skip_it opened,
          expr_before source k.CloseRound refl start close,
          skip_it close,
          skip_it a,
          arrow_again tested (ap is_end (kind_at f b)),
          skip_it b,
          skip_it curly,
          name_again source h state,
          skip_it arrow,
          read,
          skip_it end,
          skip_it again,
          arrow_again next (ap is_end (kind_at o done)),
          skip_it done,
        ) refl

    branch_again : {a b c d e f : List Token} {test : PlainExpr} {first second : List PlainStmt} → Takes k.OpenRound a b → IsWholeExpr source b c test → Takes k.CloseRound c d → braced inner d ≡ Ok (first, e) → otherwise inner e ≡ Ok (second, f)
        → a_branch source inner a ≡ Ok (branch test (body first) (body second), f)
    unfolding a_branch enclosed_expr
    branch_again opened test close first second = rw (skip_it opened, expr_before source k.CloseRound refl test close, skip_it close, first, second) refl

    braced_read : {a b c d : List Token} {all : List PlainStmt} → Takes k.OpenCurly a b → stmts inner b ≡ Ok (all, c) → Takes k.CloseCurly c d → braced inner a ≡ Ok (all, d)
    unfolding braced
    braced_read opened read close = rw (skip_it opened, read, skip_it close) refl

    -- a list that isn't empty, behind any number of `;`
    stmts_read : {ts us ws : List Token} {all : List PlainStmt} → MayBreak ts us → sees k.Semicolon us ≡ false → stmts_from inner (length ts) [] us ≡ Ok (all, ws) → stmts inner ts ≡ Ok (all, ws)
    stmts_read {us = us} brk plain read = rw (past_breaks brk, no_semicolon us plain) read

    valued_read : {ts us ws : List Token} {v : List PlainStmt × PlainExpr} → MayBreak ts us → sees k.Semicolon us ≡ false → valued_from source inner (length ts) [] us ≡ Ok (v, ws) → valued source inner ts ≡ Ok (v, ws)
    valued_read {us = us} brk plain read = rw (past_breaks brk, no_semicolon us plain) read

  braced_opens : {ts us : List Token} {all : List PlainStmt} → IsBraced source ts us all → kind_of ts ≡ k.OpenCurly
  braced_opens {ts} (IsBraced.braced opened p close) = kind_at ts opened

  not_empty : (ts : List Token) → kind_of ts ≡ k.CloseCurly → 1 ≤ length ts
  unfolding kind_of
  not_empty [] e = absurd (cc)
  not_empty (t ∷ ts) e = omega arith

  nothing_read : (inner : Rule PlainStmt) (n : ℕ) (ts : List Token) → 1 ≤ n → kind_of ts ≡ k.CloseCurly → stmts_from inner n [] ts ≡ Ok ([], ts)
  nothing_read inner zero ts some e = absurd (omega (arith, some))
  nothing_read inner (suc n) ts some e = at_end inner n [] ts e

  mutual
    unfolding stmt

    pub stmt_again : {ts us : List Token} {s : PlainStmt} → IsStmt source ts us s → (depth : ℕ) → length ts ≤ depth → is_stmt_end (kind_of us) ≡ true → stmt source depth ts ≡ Ok (s, us)
    stmt_again (IsStmt.stands p) zero few end = let less = stmt_shorter source (IsStmt.stands p) in absurd (omega (arith, less, few))
    stmt_again (IsStmt.stands p) (suc depth) few end = rw (kind_again p depth few end) refl

    more_again : {ts us ws : List Token} {all : List PlainStmt} → AreMore source ts us all → (depth n : ℕ) (found : List PlainStmt) → length ts ≤ depth → length ts ≤ n → MayBreak us ws → kind_of ws ≡ k.CloseCurly
        → stmts_from (stmt source depth) n found ts ≡ Ok (found ++ all, ws)
    more_again {ws = ws} (AreMore.last_stmt p) depth zero found few enough brk e = let less = stmt_shorter source p in absurd (omega (arith, less, enough))
    more_again {ws = ws} (AreMore.last_stmt p) depth (suc zero) found few enough brk e =
        let less = stmt_shorter source p in let past = breaks_shorter brk in let some = not_empty ws e in absurd (omega (arith, less, past, some, enough))
    more_again (AreMore.last_stmt p) depth (suc (suc n)) found few enough brk e = one_stmt (stmt source depth) n found (stmt_plain p).0 (stmt_again p depth few (ends_before brk e)) brk e
    more_again (AreMore.next_stmt p first more) depth zero found few enough brk e = let less = stmt_shorter source p in absurd (omega (arith, less, enough))
    more_again (AreMore.next_stmt {s = s} {rest = rest} p first more) depth (suc n) found few enough brk e =
        let less = stmt_shorter source p in let past = break_shorter first in
        next_stmt (stmt source depth) n found rest (stmt_plain p).0 (stmt_again p depth few (ends_at_break first)) first (more_plain more) (more_again more depth n (found ++ s ∷ []) (omega (arith, less, past, few)) (omega (arith, less, past, enough)) brk e)

    pub stmts_again : {ts us : List Token} {all : List PlainStmt} → AreStmts source ts us all → (depth : ℕ) → length ts ≤ depth → kind_of us ≡ k.CloseCurly → stmts (stmt source depth) ts ≡ Ok (all, us)
    stmts_again {ts} {us} (AreStmts.no_stmts brk) depth few e =
        let past = breaks_shorter brk in let some = not_empty us e in
        rw (past_breaks brk, curly us e) (nothing_read (stmt source depth) (length ts) us (omega (arith, past, some)) e)
    stmts_again {ts} (AreStmts.some_stmts brk p end) depth few e =
        let past = breaks_shorter brk in
        stmts_read (stmt source depth) brk (more_plain p) (more_again p depth (length ts) [] (omega (arith, past, few)) (omega (arith, past)) end e)

    valued_from_again : {ts us ws : List Token} {all : List PlainStmt} {x : PlainExpr} → AreValued source ts us all x → (depth n : ℕ) (found : List PlainStmt) → length ts ≤ depth → length ts ≤ n → MayBreak us ws → kind_of ws ≡ k.CloseCurly
        → valued_from source (stmt source depth) n found ts ≡ Ok ((found ++ all, x), ws)
    valued_from_again (AreValued.value_alone p) depth zero found few enough brk e = let less = expr_shorter source p in absurd (omega (arith, less, enough))
    valued_from_again {ws = ws} (AreValued.value_alone {e = x} p) depth (suc n) found few enough brk e =
        last_valued (stmt source depth) source n found p brk e ∙ ap (λ xs. Ok ((xs, x), ws)) (sym (append-nil found))
    valued_from_again (AreValued.before_value p first more) depth zero found few enough brk e = let less = stmt_shorter source p in absurd (omega (arith, less, enough))
    valued_from_again (AreValued.before_value {s = s} {rest = rest} p first more) depth (suc n) found few enough brk e =
        let less = stmt_shorter source p in let past = break_shorter first in
        next_valued (stmt source depth) source n found rest p (stmt_again p depth few (ends_at_break first)) first (valued_plain more)
        (valued_from_again more depth n (found ++ s ∷ []) (omega (arith, less, past, few)) (omega (arith, less, past, enough)) brk e)

    valued_again : {ts us : List Token} {all : List PlainStmt} {x : PlainExpr} → IsValued source ts us all x → (depth : ℕ) → length ts ≤ depth → kind_of us ≡ k.CloseCurly → valued source (stmt source depth) ts ≡ Ok ((all, x), us)
    valued_again {ts} (IsValued.valued brk p end) depth few e =
        let past = breaks_shorter brk in
        valued_read (stmt source depth) brk (valued_plain p) (valued_from_again p depth (length ts) [] (omega (arith, past, few)) (omega (arith, past)) end e)

    pub braced_again : {ts us : List Token} {all : List PlainStmt} → IsBraced source ts us all → (depth : ℕ) → length ts ≤ suc depth → braced (stmt source depth) ts ≡ Ok (all, us)
    braced_again {ts} (IsBraced.braced {vs = vs} opened p close) depth few = let less = shorter ts opened in braced_read (stmt source depth) opened (stmts_again p depth (omega (arith, less, few)) (kind_at vs close)) close

    else_again : {ts us : List Token} {all : List PlainStmt} → MayElse source ts us all → (depth : ℕ) → length ts ≤ suc depth → sees k.Else us ≡ false → otherwise (stmt source depth) ts ≡ Ok (all, us)
    else_again MayElse.no_else depth few off = rw off refl
    else_again {ts} (MayElse.an_else word p) depth few off = let less = shorter ts word in rw (sees_it ts word, tail_at ts word) (braced_again p depth (omega (arith, less, few)))

    kind_again : {ts us : List Token} {s : PlainStmtKind} → IsKind source ts us s → (depth : ℕ) → length ts ≤ suc depth → is_stmt_end (kind_of us) ≡ true → kind source (stmt source depth) ts ≡ Ok (s, us)
    kind_again {ts} (IsKind.a_val word p sign is) depth few end = by_kind (stmt source depth) k.Val ts (kind_at ts word) (rw (tail_at ts word) (val_again source p sign is end))
    kind_again {ts} (IsKind.a_set p word e) depth few end = by_name (stmt source depth) ts (IsKind.a_set p word e) (name_kind source ts p) end
    kind_again {ts} (IsKind.a_set_at p opened all close word e) depth few end = by_name (stmt source depth) ts (IsKind.a_set_at p opened all close word e) (name_kind source ts p) end
    kind_again {ts} (IsKind.an_enq p dot word opened e close) depth few end = by_name (stmt source depth) ts (IsKind.an_enq p dot word opened e close) (name_kind source ts p) end
    kind_again {ts} (IsKind.a_load p word q opened all close) depth few end = by_name (stmt source depth) ts (IsKind.a_load p word q opened all close) (name_kind source ts p) end
    kind_again {ts} (IsKind.a_store p opened all close word q) depth few end = by_name (stmt source depth) ts (IsKind.a_store p opened all close word q) (name_kind source ts p) end
    kind_again {ts} (IsKind.a_gather p word q opened r comma e close) depth few end = by_name (stmt source depth) ts (IsKind.a_gather p word q opened r comma e close) (name_kind source ts p) end
    kind_again {ts} (IsKind.a_scatter p opened q comma e close word r) depth few end = by_name (stmt source depth) ts (IsKind.a_scatter p opened q comma e close word r) (name_kind source ts p) end
    kind_again {ts} (IsKind.a_block is takes p) depth few end =
        let less = shorter ts takes in block_again (stmt source depth) is takes (braced_again p depth (omega (arith, less, few))) (braced_opens p)
    kind_again {ts} (IsKind.a_foreach {a = u} {c = v} {e = w} {g = x} {s = s} has word p opened q arrow r close) depth few end =
        let a = style_shorter has in let b = shorter u word in let c = list_shorter source p in let d = shorter v opened in let e = binds_shorter source q in let f = shorter w arrow in
        by_style (stmt source depth) has word refl (foreach_again (stmt source depth) s word p opened q arrow (stmts_again r depth (omega (arith, a, b, c, d, e, f, few)) (kind_at x close)) close)
    kind_again {ts} (IsKind.a_combining {a = u} {b = v} {c = w} {d = x} {f = y} {h = z} {j = o} {s = s} is has word opened acc close p curly q arrow r end' comb) depth few end =
        let a = style_shorter has in let b = shorter u word in let c = shorter v opened in let d = name_shorter source w acc in let e = shorter x close in let f = list_shorter source p in let g = shorter y curly in let h = binds_shorter source q in
        let i = shorter z arrow in
        by_style (stmt source depth) has word (combining_kind (stmt source depth) is)
        (combining_again (stmt source depth) s is word opened acc close p curly q arrow (valued_again r depth (omega (arith, a, b, c, d, e, f, g, h, i, few)) (kind_at o end')) end' comb)
    kind_again {ts} (IsKind.an_fsm {a = t1} {c = t2} {d = t3} {f = t4} {g = t5} {h = t6} {i = t7} {l = t8} word a start b c tested d opened i arrow all close e next f) depth few end =
        let l1 = shorter ts word in let l2 = shorter t1 a in let l3 = expr_shorter source start in let l4 = shorter t2 b in let l5 = shorter t3 c in let l6 = arrow_shorter source tested in let l7 = shorter t4 d in let l8 = shorter t5 opened in
        let l9 = name_shorter source t6 i in let l10 = shorter t7 arrow in
        by_kind (stmt source depth) k.Fsm ts (kind_at ts word) (rw (tail_at ts word)
        (fsm_again (stmt source depth) a start b c tested d opened i arrow (stmts_again all depth (omega (arith, l1, l2, l3, l4, l5, l6, l7, l8, l9, l10, few)) (kind_at t8 close)) close e next f))
    kind_again {ts} {us} (IsKind.a_branch {a = u} {c = v} word opened test close first second) depth few end =
        let a = shorter ts word in let b = shorter u opened in let c = expr_shorter source test in let d = shorter v close in let e = braced_shorter source first in
        by_kind (stmt source depth) k.If ts (kind_at ts word) (rw (tail_at ts word)
        (branch_again (stmt source depth) opened test close (braced_again first depth (omega (arith, a, b, c, d, few))) (else_again second depth (omega (arith, a, b, c, d, e, few)) (other_by is_stmt_end k.Else us end refl))))
