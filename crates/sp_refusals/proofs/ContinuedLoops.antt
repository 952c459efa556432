-- Spans, counters, lists of names, and combiners go on.
use Rattle.std.specs.Option.{option_map_or}
use Rattle.std.proofs.Common.{◌≡◌, ℕ, zero, suc, List, [], ◌∷◌, ◌++◌, length, Option, Some, None, Ok, Err, refl}
use Rattle.sp_words.specs.declared.kind.BinOp.{BinOp}
use Rattle.sp_words.specs.declared.kind.BinOp.TheVariants as op
use Rattle.sp_reader.specs.declared.token.Token.{Token}
use Rattle.sp_reader.specs.declared.token.TokenKind.{TokenKind}
use Rattle.sp_reader.specs.declared.token.TokenKind.TheVariants as k
use Rattle.sp_reader.specs.PlainTree.{PlainIdent, PlainExpr}
use Rattle.sp_reader.specs.PlainStatement.{PlainSpan, single, range, PlainCounter, PlainComb}
use Rattle.sp_reader.specs.SpanRules.{whole_exprs_from, whole_exprs, names_from, names as name_list, enclosed_names, binds, enclosed_name, name_pair, lanes, par, step, range_from, span, spans_from, spans, bounds, counter, counters_from, counters, combining, operator, unnamed, called, infixed, combined, named_combiner, combiner}
use Rattle.sp_reader.specs.Steps.{Text, Outcome, kind_of, tail_of, place_of}
use Rattle.sp_grammar.specs.Tokens.{Takes, IsName, Combines}
use Rattle.sp_grammar.specs.Expressions.{AreExprs}
use Rattle.sp_grammar.specs.Loops.{IsWholeExpr, IsPar, IsStep, IsSpan, AreSpans, AreBounds, IsCounter, AreCounters, IsCounterList, AreNames, AreBinds, ArePair, IsCombined, IsCombiner}
use Rattle.sp_grammar.proofs.Loops.{combines_is, combining_real}
use Rattle.sp_grammar.proofs.Rules.{takes_next}
use Rattle.sp_refusals.proofs.Continued.{Put, Continued, given, refused, bound, weaker, behind_takes, made, IsToken, token_is, chosen, skips}
use Rattle.sp_refusals.proofs.ContinuedWords.{Spelled, SmallNumber, a_name, names, counts}
use Rattle.sp_refusals.proofs.ContinuedExprs.{an_expr, whole_goes}

module _ (source : Text) (one : SmallNumber source) where
  abbrev pub WholePut : Put → Type 0
  WholePut = Spelled (IsWholeExpr source)

  -- ---- spans

  pars : {ts : List Token} → Continued (par source ts) ts (Spelled (IsPar source))
  unfolding par
  pars {ts} = chosen ts k.Par refl (λ t word. bound (counts source one) (λ n _ _ p. given (lanes (place_of ts) n) (λ x. (_, IsPar.lanes (word _) (p x).1)))) (given None (λ x. (_, IsPar.none)))

  steps : {ts : List Token} → Continued (step source ts) ts (Spelled (IsStep source))
  unfolding step
  steps {ts} = chosen ts k.By refl (λ t word. weaker (λ d p x. (_, IsStep.by (word _) (p x).1)) (counts source one)) (given 1 (λ x. (_, IsStep.one)))

  spans_go : {ts : List Token} → Continued (span source ts) ts (Spelled (IsSpan source))
  unfolding span range_from
  spans_go = bound (whole_goes source one) (λ from us _ p. chosen us k.Colons refl
      (λ t colons. bound (whole_goes source one) (λ until _ _ q. bound pars (λ r _ _ width. given (range from until r) (λ x. (_, IsSpan.a_range (p _).1 (colons _) (q _).1 (width x).1)))))
      (given (single from) (λ x. (_, IsSpan.an_index (p x).1))))

  a_span : Spelled (AreSpans source) (λ x. made k.Name ∷ x)
  a_span x = (_, AreSpans.last (IsSpan.an_index (an_expr source one 7 x).1))

  span_lists_from : (n : ℕ) (found : List PlainSpan) (ts : List Token) → Continued (spans_from source n found ts) ts (Spelled (AreSpans source))
  unfolding spans_from
  span_lists_from zero found ts = refused found _ a_span
  span_lists_from (suc n) found ts = bound spans_go (λ s us _ p. chosen us k.Comma refl (λ t comma. weaker (λ d more x. (_, AreSpans.next (p _).1 (comma _) (more x).1)) (span_lists_from n (found ++ s ∷ []) (tail_of us)))
      (given (found ++ s ∷ []) (λ x. (_, AreSpans.last (p x).1))))

  pub span_lists : {ts : List Token} → Continued (spans source ts) ts (Spelled (AreSpans source))
  span_lists {ts} = span_lists_from (length ts) [] ts

  -- ---- lists of expressions

  expr_lists_from : (n : ℕ) (found : List PlainExpr) (ts : List Token) → Continued (whole_exprs_from source n found ts) ts (Spelled (AreExprs source))
  unfolding whole_exprs_from
  expr_lists_from zero found ts = refused found (λ x. made k.Name ∷ x) (λ x. (_, AreExprs.last (an_expr source one 7 x).1))
  expr_lists_from (suc n) found ts = bound (whole_goes source one) (λ e us _ p. chosen us k.Comma refl (λ t comma. weaker (λ d more x. (_, AreExprs.next (p _).1 (comma _) (more x).1)) (expr_lists_from n (found ++ e ∷ []) (tail_of us)))
      (given (found ++ e ∷ []) (λ x. (_, AreExprs.last (p x).1))))

  pub expr_lists : {ts : List Token} → Continued (whole_exprs source ts) ts (Spelled (AreExprs source))
  expr_lists {ts} = expr_lists_from (length ts) [] ts

  -- ---- counters

  abbrev BoundsPut : Put → Type 0
  BoundsPut d = (x : List Token) → (a : Option PlainExpr) × (b : PlainExpr) × AreBounds source (d x) x a b

  bounds_go : {ts : List Token} → Continued (bounds source ts) ts BoundsPut
  unfolding bounds
  bounds_go = bound (whole_goes source one) (λ first us _ p. chosen us k.Until refl
      (λ t word. bound (whole_goes source one) (λ until _ _ q. given (Some first, until) (λ x. (_, _, AreBounds.both (p _).1 (word _) (q x).1))))
      (given (None, first) (λ x. (_, _, AreBounds.upper (p x).1))))

  counters_go : {ts : List Token} → Continued (counter source ts) ts (Spelled (IsCounter source))
  unfolding counter
  counters_go = bound bounds_go (λ b _ _ p. bound steps (λ by _ _ q. bound pars (λ lanes _ _ r. given (record { from = b.0; until = b.1; step = by; par = lanes }) (λ x. (_, IsCounter.counter (p _).2 (q _).1 (r x).1)))))

  abbrev CountersPut : ℕ → Put → Type 0
  CountersPut most d = (x : List Token) → (all : List PlainCounter) × (y : List Token) × AreCounters source (suc most) (d x) y all × Takes k.CloseRound y x

  counter_lists_from : (most : ℕ) (found : List PlainCounter) (ts : List Token) → Continued (counters_from source most found ts) ts (CountersPut most)
  unfolding counters_from
  counter_lists_from zero found ts = bound counters_go (λ c _ _ p. bound (skips k.CloseRound refl) (λ _ _ _ close. given (found ++ c ∷ []) (λ x. (_, _, AreCounters.last (p _).1, close x))))
  counter_lists_from (suc most) found ts = bound counters_go (λ c us _ p. chosen us k.Comma refl
      (λ t comma. weaker (λ d more x. let rest = more x in (_, _, AreCounters.next (p _).1 (comma _) rest.2, rest.3)) (counter_lists_from most (found ++ c ∷ []) (tail_of us)))
      (bound (skips k.CloseRound refl) (λ _ _ _ close. given (found ++ c ∷ []) (λ x. (_, _, AreCounters.last (p _).1, close x)))))

  pub counter_lists : {ts : List Token} → Continued (counters source ts) ts (Spelled (IsCounterList source))
  unfolding counters
  counter_lists = bound (skips k.OpenRound refl) (λ _ us _ opened. weaker (λ d more x. let rest = more x in (_, IsCounterList.enclosed (opened _) rest.2 rest.3)) (counter_lists_from 3 [] us))

  -- ---- names

  name_lists_from : (n : ℕ) (found : List PlainIdent) (ts : List Token) → Continued (names_from source n found ts) ts (Spelled (AreNames source))
  unfolding names_from
  name_lists_from zero found ts = refused found (λ x. made k.Name ∷ x) (λ x. (_, AreNames.last (a_name source one x).1))
  name_lists_from (suc n) found ts = bound (names source one) (λ i us _ p. chosen us k.Comma refl (λ t comma. weaker (λ d more x. (_, AreNames.next (p _).1 (comma _) (more x).1)) (name_lists_from n (found ++ i ∷ []) (tail_of us)))
      (given (found ++ i ∷ []) (λ x. (_, AreNames.last (p x).1))))

  name_lists : {ts : List Token} → Continued (name_list source ts) ts (Spelled (AreNames source))
  name_lists {ts} = name_lists_from (length ts) [] ts

  pub binds_go : {ts : List Token} → Continued (binds source ts) ts (Spelled (AreBinds source))
  unfolding binds enclosed_names
  binds_go {ts} = chosen ts k.OpenRound refl (λ t opened. bound name_lists (λ all _ _ p. bound (skips k.CloseRound refl) (λ _ _ _ close. given all (λ x. (_, AreBinds.enclosed (opened _) (p _).1 (close x))))))
      (bound (names source one) (λ i _ _ p. given (i ∷ []) (λ x. (_, AreBinds.alone (p x).1))))

  abbrev PairPut : Put → Type 0
  PairPut d = (x : List Token) → (i j : PlainIdent) × ArePair source (d x) x i j

  pairs : {ts : List Token} → Continued (name_pair source ts) ts PairPut
  unfolding name_pair
  pairs = bound (skips k.OpenRound refl) (λ _ _ _ opened. bound (names source one) (λ a _ _ p. bound (skips k.Comma refl) (λ _ _ _ comma.
      bound (names source one) (λ b _ _ q. bound (skips k.CloseRound refl) (λ _ _ _ close. given (a, b) (λ x. (_, _, ArePair.pair (opened _) (p _).1 (comma _) (q _).1 (close x))))))))

  -- ---- combiners

  abbrev OperatorPut : Put → Type 0
  OperatorPut d = (x : List Token) → (kind : TokenKind) × (o : BinOp) × Combines kind o × Takes kind (d x) x

  operators : {ts : List Token} → Continued (operator ts) ts OperatorPut
  unfolding operator
  operators {ts} = go (combining (kind_of ts)) refl
    where
      go : (o : Option BinOp) → combining (kind_of ts) ≡ o → Continued (option_map_or {U = Outcome BinOp} (λ p. Ok (p, tail_of ts)) o (Err (length ts))) ts OperatorPut
      go None is = refused op.Add (λ x. made k.Plus ∷ x) (λ x. (_, _, Combines.sum, token_is k.Plus (made k.Plus) refl x))
      go (Some p) is =
          let takes = takes_next (kind_of ts) ts (combining_real (kind_of ts) p is) refl in
          behind_takes takes (given p (λ x. (_, _, combines_is (kind_of ts) p is, token_is (kind_of ts) takes.token takes.of_kind x)))

  abbrev CombinedPut : Put → Type 0
  CombinedPut d = (x : List Token) → (o : BinOp) × (i j : PlainIdent) × IsCombined source (d x) x o i j

  infixes : {ts : List Token} → Continued (infixed source ts) ts CombinedPut
  unfolding infixed
  infixes = bound (names source one) (λ a _ _ p. bound operators (λ o _ _ q. bound (names source one) (λ b _ _ r. given (o, a, b) (λ x. let sign = q _ in (_, _, _, IsCombined.by_operator sign.2 (p _).1 sign.3 (r x).1)))))

  combineds : {ts : List Token} → Continued (combined source ts) ts CombinedPut
  unfolding combined called
  combineds {ts} = chosen ts k.Min refl (λ t word. bound pairs (λ p _ _ q. given (op.Min, p.0, p.1) (λ x. (_, _, _, IsCombined.least (word _) (q x).2))))
      (chosen ts k.Max refl (λ t word. bound pairs (λ p _ _ q. given (op.Max, p.0, p.1) (λ x. (_, _, _, IsCombined.greatest (word _) (q x).2)))) infixes)

  -- behind its bracket, and up to the one that closes it
  abbrev CombinerPut : Put → Put → Type 0
  CombinerPut b d = (x z : List Token) → Takes k.CloseCurly x z → (c : PlainComb) × IsCombiner source (b (d x)) z c

  unnameds : {us : List Token} (at : ℕ) (b : Put) (t : Token) → ((x : List Token) → Takes k.OpenCurly (b x) x) → IsToken k.Wild t → Continued (unnamed at us) us (λ d. CombinerPut b (λ x. t ∷ d x))
  unfolding unnamed
  unnameds at b t opened wild = bound operators (λ o _ _ q. bound (skips k.Wild refl) (λ _ _ _ again. given _ (λ x z close. let sign = q _ in (_, IsCombiner.unnamed sign.2 (opened _) (wild _) sign.3 (again _) close))))

  named_combiners : {us : List Token} (at : ℕ) (b : Put) → ((x : List Token) → Takes k.OpenCurly (b x) x) → Continued (named_combiner source at us) us (CombinerPut b)
  unfolding named_combiner
  named_combiners at b opened = bound pairs (λ p _ _ is. bound (skips k.Arrow refl) (λ _ _ _ arrow. bound combineds (λ c _ _ q. given _ (λ x z close. (_, IsCombiner.named (opened _) (is _).2 (arrow _) (q _).3 close)))))

  pub combiner_go : {ts : List Token} → Continued (combiner source ts) ts (Spelled (IsCombiner source))
  unfolding combiner
  combiner_go {ts} = bound (skips k.OpenCurly refl) (λ _ us b opened. bound (chosen us k.Wild refl (λ t wild. unnameds (place_of ts) b t opened wild) (named_combiners (place_of ts) b opened))
      (λ c _ _ p. bound (skips k.CloseCurly refl) (λ _ _ _ close. given c (λ x. p _ x (close x)))))

  abbrev pub EnclosedName : Put → Type 0
  EnclosedName d = (x : List Token) → (a b : List Token) × (i : PlainIdent) × Takes k.OpenRound (d x) a × IsName source a b i × Takes k.CloseRound b x

  pub enclosed_name_go : {ts : List Token} → Continued (enclosed_name source ts) ts EnclosedName
  unfolding enclosed_name
  enclosed_name_go = bound (skips k.OpenRound refl) (λ _ _ _ opened. bound (names source one) (λ i _ _ p. bound (skips k.CloseRound refl) (λ _ _ _ close. given i (λ x. (_, _, _, opened _, (p _).1, close x)))))
