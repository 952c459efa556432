-- Lists of names, spans, counters and combiners.
use Rattle.std.proofs.Common.{◌≡◌, ℕ, zero, suc, ◌+◌, ◌≤◌, List, [], ◌∷◌, ◌++◌, length, All, Option, Some, None, Ok, Err, refl, subst, arith, if◌then◌else◌}
use Rattle.std.specs.Option.{option_map_or}
use Rattle.std.proofs.lemmas.List.{length-append}
use Rattle.std.proofs.lemmas.List.Elements.{All-cons, All-nil, All-push}
use Rattle.sp_words.specs.declared.kind.BinOp.{BinOp}
use Rattle.sp_words.specs.declared.kind.BinOp.TheVariants as op
use Rattle.sp_words.specs.Interface.{IsCount}
use Rattle.sp_reader.specs.declared.token.Token.{Token}
use Rattle.sp_reader.specs.declared.token.TokenKind.{TokenKind}
use Rattle.sp_reader.specs.declared.token.TokenKind.TheVariants as k
use Rattle.sp_reader.specs.declared.syntax.statement.SynPar.{SynPar}
use Rattle.sp_reader.specs.ExpressionRules.{expr}
use Rattle.sp_reader.specs.Names.{name, count}
use Rattle.sp_reader.specs.PlainTree.{PlainIdent, PlainExpr}
use Rattle.sp_reader.specs.PlainStatement.{PlainSpan, single, range, PlainCounter, PlainComb}
use Rattle.sp_reader.specs.SpanRules as rules
use Rattle.sp_reader.specs.SpanRules.{whole_expr, whole_exprs_from, whole_exprs, names_from, enclosed_names, binds, enclosed_name, name_pair, par, step, range_from, span, spans_from, spans, bounds, counter, close_counters, counters_from, counters, combining, operator, unnamed, called, infixed, combined, named_combiner, combiner_inside, combiner}
use Rattle.sp_reader.specs.Steps.{Text, Outcome, ◌>>=◌, pure, kind_of, tail_of, place_of, sees, skip}
use Rattle.sp_typed.specs.ReadTree.{IsReadExpr, IsReadSpan, IsReadFrom, IsReadCounter, IsCombiner}
use Rattle.sp_typed.specs.Statements.{lanes}
use Rattle.sp_read_trees.proofs.Exprs.{exprs_go}
use Rattle.sp_read_trees.proofs.Levels.{level, Good}
use Rattle.sp_read_trees.proofs.Rules.{Any, Goes, given, refused, bound, chosen, skips, looking, past_kind}
use Rattle.sp_read_trees.proofs.Words.{Named, names, counts}

abbrev pub AreExprs : List PlainExpr → Type 0
AreExprs es = (1 ≤ length es) × All IsReadExpr es

abbrev pub AreNames : List PlainIdent → Type 0
AreNames is = (1 ≤ length is) × All Named is

abbrev pub HasCount : Option SynPar → Type 0
HasCount par = IsCount (lanes par)

-- one to four counters
abbrev pub AreCounters : List PlainCounter → Type 0
AreCounters cs = (1 ≤ length cs) × (length cs ≤ 4) × All IsReadCounter cs

abbrev pub Combines : PlainComb → Type 0
Combines c = IsCombiner c.operator

abbrev Calls : BinOp × PlainIdent × PlainIdent → Type 0
Calls c = IsCombiner c.0

one_is_count : IsCount 1
one_is_count = (omega arith, omega arith)

combining_level : (kind : TokenKind) (o : BinOp) (d : ℕ) → combining kind ≡ Some o → level kind d ≡ d
combining_level k.OpenRound o d e = absurd (cc)
combining_level k.OpenSquare o d e = absurd (cc)
combining_level k.OpenCurly o d e = absurd (cc)
combining_level k.CloseRound o d e = absurd (cc)
combining_level k.CloseSquare o d e = absurd (cc)
combining_level k.CloseCurly o d e = absurd (cc)
combining_level _ o d e = refl

some_one : (a b : BinOp) → Some a ≡ Some b → a ≡ b
some_one a b e = cc

combining_is : (kind : TokenKind) (o : BinOp) → combining kind ≡ Some o → IsCombiner o
combining_is k.Plus o e = subst IsCombiner (some_one op.Add o e) tt
combining_is k.Star o e = subst IsCombiner (some_one op.Mul o e) tt
combining_is k.And o e = subst IsCombiner (some_one op.And o e) tt
combining_is k.AndAnd o e = subst IsCombiner (some_one op.And o e) tt
combining_is k.Or o e = subst IsCombiner (some_one op.Or o e) tt
combining_is k.OrOr o e = subst IsCombiner (some_one op.Or o e) tt
combining_is k.Caret o e = subst IsCombiner (some_one op.Xor o e) tt
combining_is _ o e = absurd (cc)

module _ (source : Text) where
  pub whole_go : {d : ℕ} → Goes source d d IsReadExpr (whole_expr source)
  unfolding whole_expr
  whole_go = looking source (λ all. expr source (length all) 7) (λ all. exprs_go source (length all) 7 _)

  wholes_go_from : (n d : ℕ) (found : List PlainExpr) → All IsReadExpr found → Goes source d d AreExprs (whole_exprs_from source n found)
  unfolding whole_exprs_from
  wholes_go_from zero d found p = refused source
  wholes_go_from (suc n) d found p = bound source whole_go (λ e q.
      chosen source k.Comma (λ _. whole_exprs_from source n (found ++ e ∷ [])) (λ _. pure (found ++ e ∷ []))
      (λ _. wholes_go_from n d (found ++ e ∷ []) (All-push IsReadExpr found e p q))
      (λ _. given source (found ++ e ∷ []) (omega (arith, length-append found (e ∷ [])), All-push IsReadExpr found e p q)))

  pub wholes_go : {d : ℕ} → Goes source d d AreExprs (whole_exprs source)
  wholes_go = looking source (λ all. whole_exprs_from source (length all) []) (λ all. wholes_go_from (length all) _ [] (All-nil IsReadExpr))

  -- ---- names

  names_go_from : (n d : ℕ) (found : List PlainIdent) → All Named found → Goes source d d AreNames (names_from source n found)
  unfolding names_from
  names_go_from zero d found p = refused source
  names_go_from (suc n) d found p = bound source (names source) (λ i q.
      chosen source k.Comma (λ _. names_from source n (found ++ i ∷ [])) (λ _. pure (found ++ i ∷ []))
      (λ _. names_go_from n d (found ++ i ∷ []) (All-push Named found i p q))
      (λ _. given source (found ++ i ∷ []) (omega (arith, length-append found (i ∷ [])), All-push Named found i p q)))

  names_go : {d : ℕ} → Goes source d d AreNames (rules.names source)
  names_go = looking source (λ all. names_from source (length all) []) (λ all. names_go_from (length all) _ [] (All-nil Named))

  enclosed_names_go : {d : ℕ} → Goes source (suc d) d AreNames (enclosed_names source)
  unfolding enclosed_names
  enclosed_names_go = bound source names_go (λ is p. bound source (skips source k.CloseRound) (λ _ _. given source is p))

  pub binds_go : {d : ℕ} → Goes source d d AreNames (binds source)
  unfolding binds
  binds_go = chosen source k.OpenRound (λ _. enclosed_names source) (λ _. name source >>= λ i. pure (i ∷ [])) (λ _. enclosed_names_go)
      (λ _. bound source (names source) (λ i p. given source (i ∷ []) (omega arith, All-cons Named i [] p (All-nil Named))))

  pub enclosed_name_go : {d : ℕ} → Goes source d d Named (enclosed_name source)
  unfolding enclosed_name
  enclosed_name_go = bound source (skips source k.OpenRound) (λ _ _. bound source (names source) (λ i p. bound source (skips source k.CloseRound) (λ _ _. given source i p)))

  name_pair_go : {d : ℕ} → Goes source d d Any (name_pair source)
  unfolding name_pair
  name_pair_go = bound source (skips source k.OpenRound) (λ _ _. bound source (names source) (λ a _. bound source (skips source k.Comma) (λ _ _.
      bound source (names source) (λ b _. bound source (skips source k.CloseRound) (λ _ _. given source (a, b) tt)))))

  -- ---- spans

  par_go : {d : ℕ} → Goes source d d HasCount (par source)
  unfolding par
  par_go = chosen source k.Par (λ all. count source >>= λ n. pure (rules.lanes (place_of all) n)) (λ _. pure None)
      (λ all. bound source (counts source) (λ n p. given source (rules.lanes (place_of all) n) p)) (λ _. given source None one_is_count)

  step_go : {d : ℕ} → Goes source d d IsCount (step source)
  unfolding step
  step_go = chosen source k.By (λ _. count source) (λ _. pure 1) (λ _. counts source) (λ _. given source 1 one_is_count)

  range_go : {d : ℕ} (from : PlainExpr) → IsReadExpr from → Goes source d d IsReadSpan (range_from source from)
  unfolding range_from
  range_go from p = bound source whole_go (λ until q. bound source par_go (λ lanes r. given source (range from until lanes) (p, q, r)))

  span_go : {d : ℕ} → Goes source d d IsReadSpan (span source)
  unfolding span
  span_go = bound source whole_go (λ from p. chosen source k.Colons (λ _. range_from source from) (λ _. pure (single from)) (λ _. range_go from p) (λ _. given source (single from) p))

  spans_go_from : (n d : ℕ) (found : List PlainSpan) → All IsReadSpan found → Goes source d d (All IsReadSpan) (spans_from source n found)
  unfolding spans_from
  spans_go_from zero d found p = refused source
  spans_go_from (suc n) d found p = bound source span_go (λ s q.
      chosen source k.Comma (λ _. spans_from source n (found ++ s ∷ [])) (λ _. pure (found ++ s ∷ []))
      (λ _. spans_go_from n d (found ++ s ∷ []) (All-push IsReadSpan found s p q))
      (λ _. given source (found ++ s ∷ []) (All-push IsReadSpan found s p q)))

  pub spans_go : {d : ℕ} → Goes source d d (All IsReadSpan) (spans source)
  spans_go = looking source (λ all. spans_from source (length all) []) (λ all. spans_go_from (length all) _ [] (All-nil IsReadSpan))

  -- ---- counters

  bounds_go : {d : ℕ} → Goes source d d (λ b. IsReadFrom b.0 × IsReadExpr b.1) (bounds source)
  unfolding bounds
  bounds_go = bound source whole_go (λ first p. chosen source k.Until (λ _. whole_expr source >>= λ until. pure (Some first, until)) (λ _. pure (None, first))
      (λ _. bound source whole_go (λ until q. given source (Some first, until) (p, q))) (λ _. given source (None, first) (tt, p)))

  counter_go : {d : ℕ} → Goes source d d IsReadCounter (counter source)
  unfolding counter
  counter_go = bound source bounds_go (λ b p. bound source step_go (λ by q. bound source par_go (λ lanes r.
      given source (record { from = b.0; until = b.1; step = by; par = lanes }) (record { from = p.0; until = p.1; step = q; par = r }))))

  closed : {d : ℕ} (cs : List PlainCounter) → AreCounters cs → Goes source (suc d) d AreCounters (close_counters cs)
  closed cs p = bound source (skips source k.CloseRound) (λ _ _. given source cs p)

  counters_go_from : (n d : ℕ) (found : List PlainCounter) → length found + n ≤ 3 → All IsReadCounter found → Goes source (suc d) d AreCounters (counters_from source n found)
  unfolding counters_from
  counters_go_from zero d found few p = bound source counter_go (λ c q.
      closed (found ++ c ∷ []) (omega (arith, length-append found (c ∷ [])), omega (arith, few, length-append found (c ∷ [])), All-push IsReadCounter found c p q))
  counters_go_from (suc n) d found few p = bound source counter_go (λ c q.
      let long = length-append found (c ∷ []) in
      chosen source k.Comma (λ _. counters_from source n (found ++ c ∷ [])) (λ _. close_counters (found ++ c ∷ []))
      (λ _. counters_go_from n d (found ++ c ∷ []) (omega (arith, few, long)) (All-push IsReadCounter found c p q))
      (λ _. closed (found ++ c ∷ []) (omega (arith, long), omega (arith, few, long), All-push IsReadCounter found c p q)))

  pub counters_go : {d : ℕ} → Goes source d d AreCounters (counters source)
  unfolding counters
  counters_go {d} = bound source (skips source k.OpenRound) (λ _ _. counters_go_from 3 d [] (omega arith) (All-nil IsReadCounter))

  -- ---- combiners

  operator_go : {d : ℕ} → Goes source d d IsCombiner operator
  unfolding operator
  operator_go {d} = record { run = λ ts o us g h. go ts o us g (combining (kind_of ts)) refl h }
    where
      go : (ts : List Token) (o : BinOp) (us : List Token) → Good source d ts → (c : Option BinOp) → combining (kind_of ts) ≡ c
          → option_map_or {U = Outcome BinOp} (λ o. Ok (o, tail_of ts)) c (Err (length ts)) ≡ Ok (o, us) → IsCombiner o × Good source d us
      go ts o us g (Some x) is h = (given source {P = IsCombiner} x (combining_is (kind_of ts) x is)).run (tail_of ts) o us
          (subst (λ n. Good source n (tail_of ts)) (combining_level (kind_of ts) x d is) (past_kind source (kind_of ts) d ts g refl)) h
      go ts o us g None is h = absurd (cc)

  unnamed_go : {d : ℕ} (at : ℕ) → Goes source d d Combines (unnamed at)
  unfolding unnamed
  unnamed_go at = bound source operator_go (λ o p. bound source (skips source k.Wild) (λ _ _. given source _ p))

  called_go : {d : ℕ} (o : BinOp) → IsCombiner o → Goes source d d Calls (called source o)
  unfolding called
  called_go o p = bound source name_pair_go (λ q _. given source (o, q.0, q.1) p)

  infixed_go : {d : ℕ} → Goes source d d Calls (infixed source)
  unfolding infixed
  infixed_go = bound source (names source) (λ a _. bound source operator_go (λ o p. bound source (names source) (λ b _. given source (o, a, b) p)))

  combined_go : {d : ℕ} → Goes source d d Calls (combined source)
  unfolding combined
  combined_go = chosen source k.Min (λ _. called source op.Min) (λ _ ts. if sees k.Max ts then called source op.Max (tail_of ts) else infixed source ts) (λ _. called_go op.Min tt)
      (λ _. chosen source k.Max (λ _. called source op.Max) (λ _. infixed source) (λ _. called_go op.Max tt) (λ _. infixed_go))

  named_combiner_go : {d : ℕ} (at : ℕ) → Goes source d d Combines (named_combiner source at)
  unfolding named_combiner
  named_combiner_go at = bound source name_pair_go (λ _ _. bound source (skips source k.Arrow) (λ _ _. bound source combined_go (λ c p. given source _ p)))

  pub combiner_go : {d : ℕ} → Goes source d d Combines (combiner source)
  unfolding combiner
  combiner_go {d} = looking source (λ all. skip k.OpenCurly >>= λ _. combiner_inside source (place_of all) >>= λ c. skip k.CloseCurly >>= λ _. pure c)
      (λ all. bound source (skips source k.OpenCurly) (λ _ _. bound source (inside_go (place_of all)) (λ c p. bound source (skips source k.CloseCurly) (λ _ _. given source c p))))
    where
      inside_go : (at : ℕ) → Goes source (suc d) (suc d) Combines (combiner_inside source at)
      inside_go at = chosen source k.Wild (λ _. unnamed at) (λ _. named_combiner source at) (λ _. unnamed_go at) (λ _. named_combiner_go at)
