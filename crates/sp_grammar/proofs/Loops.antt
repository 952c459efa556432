-- Spans, counters, lists of names, and combiners.
use Rattle.std.specs.Option.{option_map_or}
use Rattle.std.proofs.Common.{◌≡◌, ◌∙◌, ℕ, zero, suc, true, List, [], ◌∷◌, ◌++◌, length, Option, Some, None, Ok, Err, refl, sym, subst, if◌then◌else◌}
use Rattle.std.proofs.lemmas.List.{append_assoc}
use Rattle.sp_words.specs.declared.kind.BinOp.{BinOp}
use Rattle.sp_words.specs.declared.kind.BinOp.TheVariants as op
use Rattle.sp_reader.specs.declared.token.Token.{Token}
use Rattle.sp_reader.specs.declared.token.TokenKind.{TokenKind}
use Rattle.sp_reader.specs.declared.token.TokenKind.TheVariants as k
use Rattle.sp_reader.specs.Names.{name, count}
use Rattle.sp_reader.specs.PlainTree.{PlainIdent, PlainExpr}
use Rattle.sp_reader.specs.PlainStatement.{PlainSpan, single, range, PlainCounter}
use Rattle.sp_reader.specs.SpanRules.{whole_exprs_from, whole_exprs, names_from, names as name_list, enclosed_names, binds, enclosed_name, name_pair, lanes, par, step, range_from, span, spans_from, spans, bounds, counter, close_counters, counters_from, counters, combining, operator, unnamed, called, infixed, combined, named_combiner, combiner_inside, combiner}
use Rattle.sp_reader.specs.Steps.{Text, Outcome, ◌>>=◌, pure, kind_of, tail_of, place_of, sees}
use Rattle.sp_grammar.specs.Tokens.{Takes, IsName, Combines}
use Rattle.sp_grammar.specs.Expressions.{AreExprs}
use Rattle.sp_grammar.specs.Loops.{IsWholeExpr, IsPar, IsStep, IsSpan, AreSpans, AreBounds, IsCounter, AreCounters, IsCounterList, AreNames, AreBinds, ArePair, IsCombined, IsCombiner}
use Rattle.sp_grammar.proofs.Exprs.{whole_go}
use Rattle.sp_grammar.proofs.Rules.{Reads, is_real, takes_next, given, refused, bound, chosen, seen, skips, weaker}
use Rattle.sp_grammar.proofs.Words.{names, counts}

pub combines_is : (kind : TokenKind) (o : BinOp) → combining kind ≡ Some o → Combines kind o
combines_is k.Plus o e = let same : op.Add ≡ o = cc in subst (Combines k.Plus) same Combines.sum
combines_is k.Star o e = let same : op.Mul ≡ o = cc in subst (Combines k.Star) same Combines.product
combines_is k.And o e = let same : op.And ≡ o = cc in subst (Combines k.And) same Combines.all
combines_is k.AndAnd o e = let same : op.And ≡ o = cc in subst (Combines k.AndAnd) same Combines.all_twice
combines_is k.Or o e = let same : op.Or ≡ o = cc in subst (Combines k.Or) same Combines.some
combines_is k.OrOr o e = let same : op.Or ≡ o = cc in subst (Combines k.OrOr) same Combines.some_twice
combines_is k.Caret o e = let same : op.Xor ≡ o = cc in subst (Combines k.Caret) same Combines.parity
combines_is _ o e = absurd (cc)

pub combining_real : (kind : TokenKind) (o : BinOp) → combining kind ≡ Some o → is_real kind ≡ true
combining_real k.End o e = absurd (cc)
combining_real _ o e = refl

module _ (source : Text) where
  -- ---- spans

  pars : {ts : List Token} → Reads (par source) ts (λ p us. IsPar source ts us p)
  unfolding par
  pars {ts} = record {
    run = seen ts k.Par refl
        (λ word. (bound {Q = λ p us. IsPar source ts us p} (counts source) (λ n _ p. given (lanes (place_of ts) n) (IsPar.lanes word p))).run)
        (λ _. (given {P = λ p us. IsPar source ts us p} {ts = ts} None IsPar.none).run);
  }

  steps : {ts : List Token} → Reads (step source) ts (λ n us. IsStep source ts us n)
  unfolding step
  steps = chosen k.By (count source) (pure 1) refl (λ word. weaker (λ n us p. IsStep.by word p) (counts source)) (λ _. given 1 IsStep.one)

  ranges : {ts us : List Token} {from : PlainExpr} → IsWholeExpr source ts us from → Takes k.Colons us (tail_of us) → Reads (range_from source from) (tail_of us) (λ s vs. IsSpan source ts vs s)
  unfolding range_from
  ranges {from = from} p colons = bound (whole_go source) (λ until _ q. bound pars (λ r _ is. given (range from until r) (IsSpan.a_range p colons q is)))

  spans_go : {ts : List Token} → Reads (span source) ts (λ s us. IsSpan source ts us s)
  unfolding span
  spans_go = bound (whole_go source) (λ from _ p. chosen k.Colons (range_from source from) (pure (single from)) refl (λ colons. ranges p colons) (λ _. given (single from) (IsSpan.an_index p)))

  abbrev SpansFrom : List PlainSpan → List Token → List PlainSpan → List Token → Type 0
  SpansFrom before ts all us = (rest : List PlainSpan) × (all ≡ before ++ rest) × AreSpans source ts us rest

  span_lists_from : (n : ℕ) {ts : List Token} (found : List PlainSpan) → Reads (spans_from source n found) ts (SpansFrom found ts)
  unfolding spans_from
  span_lists_from zero found = refused
  span_lists_from (suc n) found = bound spans_go (λ s _ q.
      chosen k.Comma (spans_from source n (found ++ s ∷ [])) (pure (found ++ s ∷ [])) refl
      (λ comma. weaker (λ all us more. (s ∷ more.0, more.1 ∙ append_assoc found (s ∷ []) more.0, AreSpans.next q comma more.2)) (span_lists_from n (found ++ s ∷ [])))
      (λ _. given (found ++ s ∷ []) (s ∷ [], refl, AreSpans.last q)))

  pub span_lists : {ts : List Token} → Reads (spans source) ts (λ all us. AreSpans source ts us all)
  span_lists {ts} = record { run = λ all us h. let more = (span_lists_from (length ts) {ts = ts} []).run all us h in subst (AreSpans source ts us) (sym more.1) more.2 }

  -- ---- lists of expressions

  abbrev ExprsFrom : List PlainExpr → List Token → List PlainExpr → List Token → Type 0
  ExprsFrom before ts all us = (rest : List PlainExpr) × (all ≡ before ++ rest) × AreExprs source ts us rest

  expr_lists_from : (n : ℕ) {ts : List Token} (found : List PlainExpr) → Reads (whole_exprs_from source n found) ts (ExprsFrom found ts)
  unfolding whole_exprs_from
  expr_lists_from zero found = refused
  expr_lists_from (suc n) found = bound (whole_go source) (λ e _ q.
      chosen k.Comma (whole_exprs_from source n (found ++ e ∷ [])) (pure (found ++ e ∷ [])) refl
      (λ comma. weaker (λ all us more. (e ∷ more.0, more.1 ∙ append_assoc found (e ∷ []) more.0, AreExprs.next q comma more.2)) (expr_lists_from n (found ++ e ∷ [])))
      (λ _. given (found ++ e ∷ []) (e ∷ [], refl, AreExprs.last q)))

  pub expr_lists : {ts : List Token} → Reads (whole_exprs source) ts (λ all us. AreExprs source ts us all)
  expr_lists {ts} = record { run = λ all us h. let more = (expr_lists_from (length ts) {ts = ts} []).run all us h in subst (AreExprs source ts us) (sym more.1) more.2 }

  -- ---- counters

  bounds_go : {ts : List Token} → Reads (bounds source) ts (λ b us. AreBounds source ts us b.0 b.1)
  unfolding bounds
  bounds_go {ts} = bound (whole_go source) (λ first us p. record {
    run = seen us k.Until refl
        (λ word. (bound {Q = λ b us. AreBounds source ts us b.0 b.1} (whole_go source) (λ until _ q. given (Some first, until) (AreBounds.both p word q))).run)
        (λ _. (given {P = λ b us. AreBounds source ts us b.0 b.1} {ts = us} (None, first) (AreBounds.upper p)).run);
  })

  counters_go : {ts : List Token} → Reads (counter source) ts (λ c us. IsCounter source ts us c)
  unfolding counter
  counters_go = bound bounds_go (λ b _ p. bound steps (λ by _ q. bound pars (λ lanes _ r. given (record { from = b.0; until = b.1; step = by; par = lanes }) (IsCounter.counter p q r))))

  abbrev CountersFrom : ℕ → List PlainCounter → List Token → List PlainCounter → List Token → Type 0
  CountersFrom n before ts all vs = (rest : List PlainCounter) × (us : List Token) × (all ≡ before ++ rest) × AreCounters source (suc n) ts us rest × Takes k.CloseRound us vs

  closed : {us : List Token} (found : List PlainCounter) → Reads (close_counters found) us (λ all vs. (all ≡ found) × Takes k.CloseRound us vs)
  closed found = bound (skips k.CloseRound refl) (λ _ _ close. given found (refl, close))

  counter_lists_from : (n : ℕ) {ts : List Token} (found : List PlainCounter) → Reads (counters_from source n found) ts (CountersFrom n found ts)
  unfolding counters_from
  counter_lists_from zero found = bound counters_go (λ c us p. weaker (λ all vs q. (c ∷ [], us, q.0, AreCounters.last p, q.1)) (closed (found ++ c ∷ [])))
  counter_lists_from (suc n) found = bound counters_go (λ c us p.
      chosen k.Comma (counters_from source n (found ++ c ∷ [])) (close_counters (found ++ c ∷ [])) refl
      (λ comma. weaker (λ all vs more. (c ∷ more.0, more.1, more.2 ∙ append_assoc found (c ∷ []) more.0, AreCounters.next p comma more.3, more.4)) (counter_lists_from n (found ++ c ∷ [])))
      (λ _. weaker (λ all vs q. (c ∷ [], us, q.0, AreCounters.last p, q.1)) (closed (found ++ c ∷ []))))

  pub counter_lists : {ts : List Token} → Reads (counters source) ts (λ all us. IsCounterList source ts us all)
  unfolding counters
  counter_lists {ts} = bound (skips k.OpenRound refl) (λ _ us opened. weaker (λ all vs more. subst (IsCounterList source ts vs) (sym more.2) (IsCounterList.enclosed opened more.3 more.4)) (counter_lists_from 3 []))

  -- ---- names

  abbrev NamesFrom : List PlainIdent → List Token → List PlainIdent → List Token → Type 0
  NamesFrom before ts all us = (rest : List PlainIdent) × (all ≡ before ++ rest) × AreNames source ts us rest

  name_lists_from : (n : ℕ) {ts : List Token} (found : List PlainIdent) → Reads (names_from source n found) ts (NamesFrom found ts)
  unfolding names_from
  name_lists_from zero found = refused
  name_lists_from (suc n) found = bound (names source) (λ i _ q.
      chosen k.Comma (names_from source n (found ++ i ∷ [])) (pure (found ++ i ∷ [])) refl
      (λ comma. weaker (λ all us more. (i ∷ more.0, more.1 ∙ append_assoc found (i ∷ []) more.0, AreNames.next q comma more.2)) (name_lists_from n (found ++ i ∷ [])))
      (λ _. given (found ++ i ∷ []) (i ∷ [], refl, AreNames.last q)))

  name_lists : {ts : List Token} → Reads (name_list source) ts (λ all us. AreNames source ts us all)
  name_lists {ts} = record { run = λ all us h. let more = (name_lists_from (length ts) {ts = ts} []).run all us h in subst (AreNames source ts us) (sym more.1) more.2 }

  enclosed_lists : {ts us : List Token} → Takes k.OpenRound ts us → Reads (enclosed_names source) us (λ all vs. AreBinds source ts vs all)
  unfolding enclosed_names
  enclosed_lists opened = bound name_lists (λ all _ p. bound (skips k.CloseRound refl) (λ _ _ close. given all (AreBinds.enclosed opened p close)))

  pub binds_go : {ts : List Token} → Reads (binds source) ts (λ all us. AreBinds source ts us all)
  unfolding binds
  binds_go = chosen k.OpenRound (enclosed_names source) (name source >>= λ i. pure (i ∷ [])) refl (λ opened. enclosed_lists opened) (λ _. bound (names source) (λ i _ p. given (i ∷ []) (AreBinds.alone p)))

  pairs : {ts : List Token} → Reads (name_pair source) ts (λ p us. ArePair source ts us p.0 p.1)
  unfolding name_pair
  pairs = bound (skips k.OpenRound refl) (λ _ _ opened. bound (names source) (λ a _ p. bound (skips k.Comma refl) (λ _ _ comma.
      bound (names source) (λ b _ q. bound (skips k.CloseRound refl) (λ _ _ close. given (a, b) (ArePair.pair opened p comma q close))))))

  -- ---- combiners

  abbrev OperatorAt : List Token → BinOp → List Token → Type 0
  OperatorAt ts o us = (kind : TokenKind) × Combines kind o × Takes kind ts us

  operators : {ts : List Token} → Reads operator ts (OperatorAt ts)
  unfolding operator
  operators {ts} = record { run = λ o us h. go o us (combining (kind_of ts)) refl h }
    where
      go : (o : BinOp) (us : List Token) → (found : Option BinOp) → combining (kind_of ts) ≡ found
          → option_map_or {U = Outcome BinOp} (λ p. Ok (p, tail_of ts)) found (Err (length ts)) ≡ Ok (o, us) → OperatorAt ts o us
      go o us None is h = absurd (cc)
      go o us (Some p) is h = (given {P = OperatorAt ts} {ts = tail_of ts} p (kind_of ts, combines_is (kind_of ts) p is, takes_next (kind_of ts) ts (combining_real (kind_of ts) p is) refl)).run o us h

  abbrev CombinedAt : List Token → BinOp × PlainIdent × PlainIdent → List Token → Type 0
  CombinedAt ts c us = IsCombined source ts us c.0 c.1 c.2

  infixes : {ts : List Token} → Reads (infixed source) ts (CombinedAt ts)
  unfolding infixed
  infixes = bound (names source) (λ a _ p. bound operators (λ o _ q. bound (names source) (λ b _ r. given (o, a, b) (IsCombined.by_operator q.1 p q.2 r))))

  leasts : {ts us : List Token} → Takes k.Min ts us → Reads (called source op.Min) us (CombinedAt ts)
  unfolding called
  leasts word = bound pairs (λ p _ q. given (op.Min, p.0, p.1) (IsCombined.least word q))

  greatests : {ts us : List Token} → Takes k.Max ts us → Reads (called source op.Max) us (CombinedAt ts)
  unfolding called
  greatests word = bound pairs (λ p _ q. given (op.Max, p.0, p.1) (IsCombined.greatest word q))

  combineds : {ts : List Token} → Reads (combined source) ts (CombinedAt ts)
  unfolding combined
  combineds = chosen k.Min (called source op.Min) (λ all. if sees k.Max all then called source op.Max (tail_of all) else infixed source all) refl (λ word. leasts word)
      (λ _. chosen k.Max (called source op.Max) (infixed source) refl (λ word. greatests word) (λ _. infixes))

  unnameds : {ts us vs : List Token} → Takes k.OpenCurly ts us → Takes k.Wild us vs → Reads (unnamed (place_of ts)) vs (λ c ws. (zs : List Token) → Takes k.CloseCurly ws zs → IsCombiner source ts zs c)
  unfolding unnamed
  unnameds opened wild = bound operators (λ o _ q. bound (skips k.Wild refl) (λ _ _ again. given _ (λ zs close. IsCombiner.unnamed q.1 opened wild q.2 again close)))

  named_combiners : {ts us : List Token} → Takes k.OpenCurly ts us → Reads (named_combiner source (place_of ts)) us (λ c ws. (zs : List Token) → Takes k.CloseCurly ws zs → IsCombiner source ts zs c)
  unfolding named_combiner
  named_combiners opened = bound pairs (λ p _ is. bound (skips k.Arrow refl) (λ _ _ arrow. bound combineds (λ c _ q. given _ (λ zs close. IsCombiner.named opened is arrow q close))))

  combiners_inside : {ts us : List Token} → Takes k.OpenCurly ts us → Reads (combiner_inside source (place_of ts)) us (λ c ws. (zs : List Token) → Takes k.CloseCurly ws zs → IsCombiner source ts zs c)
  combiners_inside {ts} opened = chosen k.Wild (unnamed (place_of ts)) (named_combiner source (place_of ts)) refl (λ wild. unnameds opened wild) (λ _. named_combiners opened)

  pub combiner_go : {ts : List Token} → Reads (combiner source) ts (λ c us. IsCombiner source ts us c)
  unfolding combiner
  combiner_go {ts} = record { run = (bound {Q = λ c us. IsCombiner source ts us c} (skips k.OpenCurly refl) (λ _ _ opened. bound (combiners_inside opened) (λ c _ p. bound (skips k.CloseCurly refl) (λ _ zs close. given c (p zs close))))).run }

  pub enclosed_name_go : {ts : List Token} → Reads (enclosed_name source) ts (λ i e. (a b : List Token) × Takes k.OpenRound ts a × IsName source a b i × Takes k.CloseRound b e)
  unfolding enclosed_name
  enclosed_name_go = bound (skips k.OpenRound refl) (λ _ a opened. bound (names source) (λ i b p. bound (skips k.CloseRound refl) (λ _ _ close. given i (a, b, opened, p, close))))
