-- What is spelled is read again: spans, counters, lists and combiners.
use Rattle.std.proofs.Common.{◌≡◌, ◌∙◌, ℕ, zero, suc, ◌<◌, ◌≤◌, Bool, true, false, List, [], ◌∷◌, ◌++◌, length, Option, Some, None, Ok, refl, sym, ap, arith}
use Rattle.std.proofs.lemmas.List.{append_assoc}
use Rattle.sp_words.specs.declared.kind.BinOp.{BinOp}
use Rattle.sp_reader.specs.declared.syntax.statement.SynPar.{SynPar}
use Rattle.sp_reader.specs.declared.token.Token.{Token}
use Rattle.sp_reader.specs.declared.token.TokenKind.{TokenKind}
use Rattle.sp_reader.specs.declared.token.TokenKind.TheVariants as k
use Rattle.sp_reader.specs.ExpressionRules.{infix_of}
use Rattle.sp_reader.specs.PlainTree.{PlainIdent, PlainExpr}
use Rattle.sp_reader.specs.PlainStatement.{PlainSpan, single, PlainCounter, PlainComb}
use Rattle.sp_reader.specs.SimpleRules.{are_indices}
use Rattle.sp_reader.specs.SpanRules.{whole_expr, whole_exprs_from, whole_exprs, names_from, enclosed_names, binds, enclosed_name, name_pair, par, step, range_from, span, spans_from, spans, bounds, counter, counters_from, counters, combining, operator, unnamed, called, infixed, combined, named_combiner, combiner}
use Rattle.sp_reader.specs.Steps.{Text, kind_of, same_kind, sees, is_name}
use Rattle.sp_grammar.specs.Tokens.{Takes, IsName, Combines, sum, product, all, all_twice, some, some_twice, parity}
use Rattle.sp_grammar.specs.Expressions.{AreExprs}
use Rattle.sp_grammar.specs.Loops.{IsWholeExpr, IsPar, IsStep, IsSpan, AreSpans, AreBounds, IsCounter, AreCounters, IsCounterList, AreNames, AreBinds, ArePair, IsCombined, IsCombiner}
use Rattle.sp_grammar.proofs.Again.{kind_at, tail_at, shorter, sees_it, sees_other, skip_it, name_kind, name_shorter, name_again, count_again}
use Rattle.sp_grammar.proofs.AgainExprs.{opens, closed_by, expr_shorter, whole_expr_again}
use Rattle.sp_grammar.proofs.Operators.{stops_at_none}
use Rattle.sp_grammar.proofs.Rules.{kind_is}

-- ---- what stands behind an expression

abbrev pub is_end : TokenKind → Bool
is_end k.Semicolon = true
is_end k.CloseRound = true
is_end k.CloseCurly = true
is_end k.Comma = true
is_end k.Colons = true
is_end k.Until = true
is_end k.By = true
is_end k.Par = true
is_end _ = false

ends_none : (kind : TokenKind) → is_end kind ≡ true → (infix_of kind ≡ None) × (opens kind ≡ false)
ends_none k.Semicolon e = (refl, refl)
ends_none k.CloseRound e = (refl, refl)
ends_none k.CloseCurly e = (refl, refl)
ends_none k.Comma e = (refl, refl)
ends_none k.Colons e = (refl, refl)
ends_none k.Until e = (refl, refl)
ends_none k.By e = (refl, refl)
ends_none k.Par e = (refl, refl)
ends_none _ e = absurd (cc)

-- of a part of a list
abbrev pub is_close : TokenKind → Bool
is_close k.CloseRound = true
is_close k.Comma = true
is_close _ = false

close_kind : (kind wanted : TokenKind) (us : List Token) → kind_of us ≡ kind → is_close kind ≡ true → is_close wanted ≡ false → sees wanted us ≡ false
unfolding same_kind
close_kind k.CloseRound k.CloseRound us e h w = absurd (cc)
close_kind k.CloseRound k.Comma us e h w = absurd (cc)
close_kind k.CloseRound wanted us e h w = sees_other k.CloseRound wanted us e refl
close_kind k.Comma k.CloseRound us e h w = absurd (cc)
close_kind k.Comma k.Comma us e h w = absurd (cc)
close_kind k.Comma wanted us e h w = sees_other k.Comma wanted us e refl
close_kind _ wanted us e h w = absurd (cc)

pub closes : (wanted : TokenKind) (us : List Token) → is_close (kind_of us) ≡ true → is_close wanted ≡ false → sees wanted us ≡ false
closes wanted us h w = close_kind (kind_of us) wanted us refl h w

close_end : (kind : TokenKind) → is_close kind ≡ true → is_end kind ≡ true
close_end k.CloseRound e = refl
close_end k.Comma e = refl
close_end _ e = absurd (cc)

module _ (source : Text) where
  pub expr_again : {ts us : List Token} {e : PlainExpr} → IsWholeExpr source ts us e → is_end (kind_of us) ≡ true → whole_expr source ts ≡ Ok (e, us)
  expr_again {ts} {us} {e} p h =
      let both = ends_none (kind_of us) h in
      whole_expr_again source p (stops_at_none 8 us both.0) (closed_by (kind_of us) us refl both.1)

  pub expr_before : (kind : TokenKind) {ts us vs : List Token} {e : PlainExpr} → is_end kind ≡ true → IsWholeExpr source ts us e → Takes kind us vs → whole_expr source ts ≡ Ok (e, us)
  expr_before kind {us = us} h p takes = expr_again p (ap is_end (kind_at us takes) ∙ h)

  -- ---- spans

  par_again : {ts us : List Token} {p : Option SynPar} → IsPar source ts us p → sees k.Par us ≡ false → par source ts ≡ Ok (p, us)
  unfolding par
  par_again IsPar.none off = rw off refl
  par_again {ts} (IsPar.lanes {us = us} word n) off = rw (sees_it ts word, tail_at ts word, count_again source us n) refl

  par_ends : {ts us : List Token} {p : Option SynPar} → IsPar source ts us p → is_close (kind_of us) ≡ true → (is_end (kind_of ts) ≡ true) × (sees k.By ts ≡ false) × (sees k.Until ts ≡ false)
  unfolding same_kind
  par_ends {us = us} IsPar.none h = (close_end (kind_of us) h, closes k.By us h refl, closes k.Until us h refl)
  par_ends {ts} (IsPar.lanes word n) h = (ap is_end (kind_at ts word), sees_other k.Par k.By ts (kind_at ts word) refl, sees_other k.Par k.Until ts (kind_at ts word) refl)

  step_again : {ts us : List Token} {n : ℕ} → IsStep source ts us n → sees k.By us ≡ false → step source ts ≡ Ok (n, us)
  unfolding step
  step_again IsStep.one off = rw off refl
  step_again {ts} (IsStep.by {us = us} word n) off = rw (sees_it ts word, tail_at ts word, count_again source us n) refl

  step_ends : {ts us : List Token} {n : ℕ} → IsStep source ts us n → (is_end (kind_of us) ≡ true) × (sees k.By us ≡ false) × (sees k.Until us ≡ false) → (is_end (kind_of ts) ≡ true) × (sees k.Until ts ≡ false)
  unfolding same_kind
  step_ends IsStep.one h = (h.0, h.2)
  step_ends {ts} (IsStep.by word n) h = (ap is_end (kind_at ts word), sees_other k.By k.Until ts (kind_at ts word) refl)

  pub span_again : {ts us : List Token} {s : PlainSpan} → IsSpan source ts us s → is_close (kind_of us) ≡ true → span source ts ≡ Ok (s, us)
  unfolding span range_from
  span_again {us = us} (IsSpan.an_index p) h = rw (expr_again p (close_end (kind_of us) h), closes k.Colons us h refl) refl
  span_again {us = us} (IsSpan.a_range {us = vs} {ws = ws} p colons q width) h =
      rw (expr_before k.Colons refl p colons, sees_it vs colons, tail_at vs colons, expr_again q (par_ends width h).0, par_again width (closes k.Par us h refl)) refl

  pub par_shorter : {ts us : List Token} {p : Option SynPar} → IsPar source ts us p → length us ≤ length ts
  par_shorter IsPar.none = omega arith
  par_shorter {ts} (IsPar.lanes {us = us} word n) = let a = shorter ts word in let b = shorter us n.takes in omega (arith, a, b)

  pub span_shorter : {ts us : List Token} {s : PlainSpan} → IsSpan source ts us s → length us < length ts
  span_shorter (IsSpan.an_index p) = expr_shorter source p
  span_shorter (IsSpan.a_range {us = vs} p colons q width) = let a = expr_shorter source p in let b = shorter vs colons in let c = expr_shorter source q in let d = par_shorter width in omega (arith, a, b, c, d)

  spans_again_from : {ts us : List Token} {all : List PlainSpan} → AreSpans source ts us all → (n : ℕ) (found : List PlainSpan) → length ts ≤ n → kind_of us ≡ k.CloseRound → spans_from source n found ts ≡ Ok (found ++ all, us)
  unfolding spans_from same_kind
  spans_again_from (AreSpans.last p) zero found enough e = let less = span_shorter p in absurd (omega (arith, less, enough))
  spans_again_from {us = us} (AreSpans.last p) (suc n) found enough e = rw (span_again p (ap is_close e), sees_other k.CloseRound k.Comma us e refl) refl
  spans_again_from (AreSpans.next p comma rest) zero found enough e = let less = span_shorter p in absurd (omega (arith, less, enough))
  spans_again_from {us = us} (AreSpans.next {us = vs} {s = s} {rest = after} p comma rest) (suc n) found enough e =
      let less = span_shorter p in let past = shorter vs comma in
      rw (span_again p (ap is_close (kind_at vs comma)), sees_it vs comma, tail_at vs comma)
      (spans_again_from rest n (found ++ s ∷ []) (omega (arith, less, past, enough)) e ∙ ap (λ xs. Ok (xs, us)) (append_assoc found (s ∷ []) after))

  pub spans_again : {ts us : List Token} {all : List PlainSpan} → AreSpans source ts us all → kind_of us ≡ k.CloseRound → spans source ts ≡ Ok (all, us)
  spans_again {ts} p e = spans_again_from p (length ts) [] (omega arith) e

  -- ---- lists of expressions

  exprs_again_from : {ts us : List Token} {all : List PlainExpr} → AreExprs source ts us all → (n : ℕ) (found : List PlainExpr) → length ts ≤ n → kind_of us ≡ k.CloseRound → whole_exprs_from source n found ts ≡ Ok (found ++ all, us)
  unfolding whole_exprs_from same_kind
  exprs_again_from (AreExprs.last p) zero found enough e = let less = expr_shorter source p in absurd (omega (arith, less, enough))
  exprs_again_from {us = us} (AreExprs.last p) (suc n) found enough e = rw (expr_again p (ap is_end e), sees_other k.CloseRound k.Comma us e refl) refl
  exprs_again_from (AreExprs.next p comma rest) zero found enough e = let less = expr_shorter source p in absurd (omega (arith, less, enough))
  exprs_again_from {us = us} (AreExprs.next {us = vs} {e = x} {rest = after} p comma rest) (suc n) found enough e =
      let less = expr_shorter source p in let past = shorter vs comma in
      rw (expr_before k.Comma refl p comma, sees_it vs comma, tail_at vs comma)
      (exprs_again_from rest n (found ++ x ∷ []) (omega (arith, less, past, enough)) e ∙ ap (λ xs. Ok (xs, us)) (append_assoc found (x ∷ []) after))

  pub exprs_again : {ts us : List Token} {all : List PlainExpr} → AreExprs source ts us all → kind_of us ≡ k.CloseRound → whole_exprs source ts ≡ Ok (all, us)
  exprs_again {ts} p e = exprs_again_from p (length ts) [] (omega arith) e

  -- expressions are spans of one index each, and the other way round
  pub exprs_of_spans : {ts us : List Token} {all : List PlainSpan} → AreSpans source ts us all → are_indices all ≡ true → (es : List PlainExpr) × AreExprs source ts us es
  exprs_of_spans (AreSpans.last (IsSpan.an_index {e = x} p)) h = (x ∷ [], AreExprs.last p)
  exprs_of_spans (AreSpans.last (IsSpan.a_range p colons q width)) h = absurd (cc)
  exprs_of_spans (AreSpans.next (IsSpan.an_index {e = x} p) comma rest) h = let more = exprs_of_spans rest h in (x ∷ more.0, AreExprs.next p comma more.1)
  exprs_of_spans (AreSpans.next (IsSpan.a_range p colons q width) comma rest) h = absurd (cc)

  pub spans_of_exprs : {ts us : List Token} {es : List PlainExpr} → AreExprs source ts us es → (all : List PlainSpan) × (are_indices all ≡ true) × AreSpans source ts us all
  spans_of_exprs (AreExprs.last {e = x} p) = (single x ∷ [], refl, AreSpans.last (IsSpan.an_index p))
  spans_of_exprs (AreExprs.next {e = x} p comma rest) = let more = spans_of_exprs rest in (single x ∷ more.0, more.1, AreSpans.next (IsSpan.an_index p) comma more.2)

  -- ---- counters

  counter_again : {ts us : List Token} {c : PlainCounter} → IsCounter source ts us c → is_close (kind_of us) ≡ true → counter source ts ≡ Ok (c, us)
  unfolding counter bounds
  counter_again {us = us} (IsCounter.counter (AreBounds.upper {us = vs} p) stride width) h =
      let behind = par_ends width h in let before = step_ends stride behind in
      rw (expr_again p before.0, before.1, step_again stride behind.1, par_again width (closes k.Par us h refl)) refl
  counter_again {us = us} (IsCounter.counter (AreBounds.both {us = vs} p word q) stride width) h =
      let behind = par_ends width h in let before = step_ends stride behind in
      rw (expr_before k.Until refl p word, sees_it vs word, tail_at vs word, expr_again q before.0, step_again stride behind.1, par_again width (closes k.Par us h refl)) refl

  no_counters : {ts us : List Token} {all : List PlainCounter} → AreCounters source zero ts us all → ⊥
  no_counters h = elim h [ ]

  counters_again_from : {n : ℕ} {ts us vs : List Token} {all : List PlainCounter} → AreCounters source (suc n) ts us all → (found : List PlainCounter) → Takes k.CloseRound us vs → counters_from source n found ts ≡ Ok (found ++ all, vs)
  unfolding counters_from same_kind
  counters_again_from {n = zero} {us = us} (AreCounters.last p) found close = rw (counter_again p (ap is_close (kind_at us close)), skip_it close) refl
  counters_again_from {n = suc m} {us = us} (AreCounters.last p) found close = rw (counter_again p (ap is_close (kind_at us close)), sees_other k.CloseRound k.Comma us (kind_at us close) refl, skip_it close) refl
  counters_again_from {n = zero} (AreCounters.next p comma rest) found close = absurd (no_counters rest)
  counters_again_from {n = suc m} {vs = ws} (AreCounters.next {us = vs} {c = c} {rest = after} p comma rest) found close =
      rw (counter_again p (ap is_close (kind_at vs comma)), sees_it vs comma, tail_at vs comma) (counters_again_from {n = m} rest (found ++ c ∷ []) close ∙ ap (λ xs. Ok (xs, ws)) (append_assoc found (c ∷ []) after))

  pub counters_again : {ts us : List Token} {all : List PlainCounter} → IsCounterList source ts us all → counters source ts ≡ Ok (all, us)
  unfolding counters
  counters_again (IsCounterList.enclosed opened p close) = rw (skip_it opened, counters_again_from {n = 3} p [] close) refl

  -- ---- names

  names_again_from : {ts us : List Token} {all : List PlainIdent} → AreNames source ts us all → (n : ℕ) (found : List PlainIdent) → length ts ≤ n → sees k.Comma us ≡ false → names_from source n found ts ≡ Ok (found ++ all, us)
  unfolding names_from
  names_again_from {ts} (AreNames.last p) zero found enough off = let less = name_shorter source ts p in absurd (omega (arith, less, enough))
  names_again_from {ts} (AreNames.last p) (suc n) found enough off = rw (name_again source ts p, off) refl
  names_again_from {ts} (AreNames.next p comma rest) zero found enough off = let less = name_shorter source ts p in absurd (omega (arith, less, enough))
  names_again_from {ts} {us} (AreNames.next {us = vs} {i = i} {rest = after} p comma rest) (suc n) found enough off =
      let less = name_shorter source ts p in let past = shorter vs comma in
      rw (name_again source ts p, sees_it vs comma, tail_at vs comma) (names_again_from rest n (found ++ i ∷ []) (omega (arith, less, past, enough)) off ∙ ap (λ xs. Ok (xs, us)) (append_assoc found (i ∷ []) after))

  -- a name is no other token
  pub name_other : (wanted : TokenKind) (ts : List Token) {us : List Token} {i : PlainIdent} → IsName source ts us i → is_name wanted ≡ false → sees wanted ts ≡ false
  unfolding sees
  name_other wanted ts p off = go (same_kind (kind_of ts) wanted) refl
    where
      go : (b : Bool) → same_kind (kind_of ts) wanted ≡ b → b ≡ false
      go true e = let bad = sym (name_kind source ts p) ∙ ap is_name (kind_is (kind_of ts) wanted e) ∙ off in absurd (cc)
      go false e = refl

  pub binds_again : {ts us : List Token} {all : List PlainIdent} → AreBinds source ts us all → binds source ts ≡ Ok (all, us)
  unfolding binds enclosed_names same_kind
  binds_again {ts} (AreBinds.alone p) = rw (name_other k.OpenRound ts p refl, name_again source ts p) refl
  binds_again {ts} (AreBinds.enclosed {us = us} {vs = vs} opened p close) =
      rw (sees_it ts opened, tail_at ts opened, names_again_from p (length us) [] (omega arith) (sees_other k.CloseRound k.Comma vs (kind_at vs close) refl), skip_it close) refl

  pair_again : {ts us : List Token} {i j : PlainIdent} → ArePair source ts us i j → name_pair source ts ≡ Ok ((i, j), us)
  unfolding name_pair
  pair_again (ArePair.pair {a = a} {c = c} opened p comma q close) = rw (skip_it opened, name_again source a p, skip_it comma, name_again source c q, skip_it close) refl

  pair_first : {ts us : List Token} {i j : PlainIdent} → ArePair source ts us i j → sees k.Wild ts ≡ false
  unfolding same_kind
  pair_first {ts} (ArePair.pair opened p comma q close) = sees_other k.OpenRound k.Wild ts (kind_at ts opened) refl

  pub enclosed_name_again : {ts a b c : List Token} {i : PlainIdent} → Takes k.OpenRound ts a → IsName source a b i → Takes k.CloseRound b c → enclosed_name source ts ≡ Ok (i, c)
  unfolding enclosed_name
  enclosed_name_again {a = a} opened p close = rw (skip_it opened, name_again source a p, skip_it close) refl

  -- ---- combiners

  combining_at : {kind : TokenKind} {o : BinOp} → Combines kind o → combining kind ≡ Some o
  combining_at sum = refl
  combining_at product = refl
  combining_at all = refl
  combining_at all_twice = refl
  combining_at some = refl
  combining_at some_twice = refl
  combining_at parity = refl

  operator_again : {kind : TokenKind} {o : BinOp} (ts : List Token) {us : List Token} → Combines kind o → Takes kind ts us → operator ts ≡ Ok (o, us)
  unfolding operator
  operator_again ts is takes = rw (kind_at ts takes, combining_at is, tail_at ts takes) refl

  combined_again : {ts us : List Token} {o : BinOp} {i j : PlainIdent} → IsCombined source ts us o i j → combined source ts ≡ Ok ((o, i, j), us)
  unfolding combined infixed called same_kind
  combined_again {ts} (IsCombined.by_operator {us = us} {vs = vs} is p takes q) =
      rw (name_other k.Min ts p refl, name_other k.Max ts p refl, name_again source ts p, operator_again us is takes, name_again source vs q) refl
  combined_again {ts} (IsCombined.least word p) = rw (sees_it ts word, tail_at ts word, pair_again p) refl
  combined_again {ts} (IsCombined.greatest word p) = rw (sees_other k.Max k.Min ts (kind_at ts word) refl, sees_it ts word, tail_at ts word, pair_again p) refl

  pub combiner_again : {ts us : List Token} {c : PlainComb} → IsCombiner source ts us c → combiner source ts ≡ Ok (c, us)
  unfolding combiner unnamed named_combiner
  combiner_again (IsCombiner.unnamed {a = a} {b = b} is opened wild takes again close) = rw (skip_it opened, sees_it a wild, tail_at a wild, operator_again b is takes, skip_it again, skip_it close) refl
  combiner_again (IsCombiner.named {a = a} opened p arrow q close) = rw (skip_it opened, pair_first p, pair_again p, skip_it arrow, combined_again q, skip_it close) refl
