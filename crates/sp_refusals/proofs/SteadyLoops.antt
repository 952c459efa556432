-- Spans, counters, lists of names, and combiners.
use Rattle.std.proofs.Common.{ℕ, zero, suc, ◌-◌, ◌≤◌, List, [], ◌∷◌, ◌++◌, length, Option, Some, None, Ok, Err, refl, arith, if◌then◌else◌}
use Rattle.std.specs.Option.{option_map_or}
use Rattle.sp_words.specs.declared.kind.BinOp.{BinOp}
use Rattle.sp_words.specs.declared.kind.BinOp.TheVariants as op
use Rattle.sp_reader.specs.declared.syntax.statement.SynPar.{SynPar}
use Rattle.sp_reader.specs.declared.token.TokenKind.{TokenKind}
use Rattle.sp_reader.specs.declared.token.TokenKind.TheVariants as k
use Rattle.sp_reader.specs.Names.{count}
use Rattle.sp_reader.specs.PlainTree.{PlainIdent, PlainExpr}
use Rattle.sp_reader.specs.PlainStatement.{PlainSpan, single, range, PlainCounter, PlainComb}
use Rattle.sp_reader.specs.SpanRules.{names_from, names as name_list, enclosed_names, binds, enclosed_name, name_pair, lanes, par, step, range_from, span, spans_from, spans, bounds, counter, close_counters, counters_from, counters, combining, operator, unnamed, called, infixed, combined, named_combiner, combiner_inside, combiner}
use Rattle.sp_reader.specs.Steps.{Text, Rule, ◌>>=◌, pure, kind_of, tail_of, place_of, sees, skip}
use Rattle.sp_refusals.proofs.Steady.{Texts, Steady, bound, looser, given, refused, looked, perhaps, eaten, chosen, chosen_at, skips, looped, sized}
use Rattle.sp_refusals.proofs.SteadyWords.{names, counts}
use Rattle.sp_refusals.proofs.SteadyExprs.{whole_go}

operator_by : TokenKind → Rule BinOp
operator_by kind = λ ts. option_map_or (λ o. Ok (o, tail_of ts)) (combining kind) (Err (length ts))

module _ (source : Text) where
  par_at : ℕ → Rule (Option SynPar)
  par_at at = λ ts. if sees k.Par ts then (count source >>= λ n. pure (lanes at n)) (tail_of ts) else Ok (None, ts)

  combiner_at : ℕ → Rule PlainComb
  combiner_at at = skip k.OpenCurly >>= λ _. combiner_inside source at >>= λ c. skip k.CloseCurly >>= λ _. pure c

module _ (texts : Texts) where
  -- ---- spans

  pars : {m : ℕ} → Steady texts m m (par texts.0) (par texts.1)
  unfolding par place_of par_at
  pars = looked place_of (par_at texts.0) (par_at texts.1) (λ t q z w. refl) (λ at. chosen k.Par (bound (counts texts) (λ n. given (lanes at n))) (given None))

  steps : {m : ℕ} → Steady texts m m (step texts.0) (step texts.1)
  unfolding step
  steps = chosen k.By (counts texts) (given 1)

  ranges : {m : ℕ} (from : PlainExpr) → Steady texts m m (range_from texts.0 from) (range_from texts.1 from)
  unfolding range_from
  ranges from = bound (whole_go texts) (λ until. bound pars (λ p. given (range from until p)))

  spans_go : {m : ℕ} → Steady texts m m (span texts.0) (span texts.1)
  unfolding span
  spans_go = bound (whole_go texts) (λ from. chosen k.Colons (ranges from) (given (single from)))

  span_lists_from : (f g m : ℕ) → m ≤ f → m ≤ g → (found : List PlainSpan) → Steady texts m m (spans_from texts.0 f found) (spans_from texts.1 g found)
  unfolding spans_from
  span_lists_from f g m a b found =
      looped (spans_from texts.0) (spans_from texts.1) m (λ x z. omega arith)
      (λ f g n le rest found. bound spans_go (λ s. chosen_at n (n - 1) (omega arith) k.Comma (looser (n - 1) (n - 1) n (omega arith) (rest (n - 1) (omega arith) (found ++ s ∷ []))) (given (found ++ s ∷ []))))
      f g m a b (omega arith) found

  pub span_lists : {m : ℕ} → Steady texts m m (spans texts.0) (spans texts.1)
  span_lists {m} = sized (λ f. spans_from texts.0 f []) (λ f. spans_from texts.1 f []) m (λ f g n le a b. span_lists_from f g n a b [])

  -- ---- counters

  bounds_go : {m : ℕ} → Steady texts m m (bounds texts.0) (bounds texts.1)
  unfolding bounds
  bounds_go = bound (whole_go texts) (λ first. chosen k.Until (bound (whole_go texts) (λ until. given (Some first, until))) (given (None, first)))

  counters_go : {m : ℕ} → Steady texts m m (counter texts.0) (counter texts.1)
  unfolding counter
  counters_go = bound bounds_go (λ b. bound steps (λ by. bound pars (λ p. given (record { from = b.0; until = b.1; step = by; par = p }))))

  closed : {m : ℕ} (found : List PlainCounter) → Steady texts m m (close_counters found) (close_counters found)
  closed found = bound (skips k.CloseRound) (λ _. given found)

  counter_lists_from : {m : ℕ} (most : ℕ) (found : List PlainCounter) → Steady texts m m (counters_from texts.0 most found) (counters_from texts.1 most found)
  unfolding counters_from
  counter_lists_from zero found = bound counters_go (λ c. closed (found ++ c ∷ []))
  counter_lists_from (suc most) found = bound counters_go (λ c. chosen k.Comma (counter_lists_from most (found ++ c ∷ [])) (closed (found ++ c ∷ [])))

  pub counter_lists : {m : ℕ} → Steady texts m m (counters texts.0) (counters texts.1)
  unfolding counters
  counter_lists = bound (skips k.OpenRound) (λ _. counter_lists_from 3 [])

  -- ---- names

  name_lists_from : (f g m : ℕ) → m ≤ f → m ≤ g → (found : List PlainIdent) → Steady texts m m (names_from texts.0 f found) (names_from texts.1 g found)
  unfolding names_from
  name_lists_from f g m a b found =
      looped (names_from texts.0) (names_from texts.1) m (λ x z. omega arith)
      (λ f g n le rest found. bound (names texts) (λ i. chosen_at n (n - 1) (omega arith) k.Comma (looser (n - 1) (n - 1) n (omega arith) (rest (n - 1) (omega arith) (found ++ i ∷ []))) (given (found ++ i ∷ []))))
      f g m a b (omega arith) found

  name_lists : {m : ℕ} → Steady texts m m (name_list texts.0) (name_list texts.1)
  name_lists {m} = sized (λ f. names_from texts.0 f []) (λ f. names_from texts.1 f []) m (λ f g n le a b. name_lists_from f g n a b [])

  enclosed_lists : {m : ℕ} → Steady texts m m (enclosed_names texts.0) (enclosed_names texts.1)
  unfolding enclosed_names
  enclosed_lists = bound name_lists (λ all. bound (skips k.CloseRound) (λ _. given all))

  pub binds_go : {m : ℕ} → Steady texts m m (binds texts.0) (binds texts.1)
  unfolding binds
  binds_go = chosen k.OpenRound enclosed_lists (bound (names texts) (λ i. given (i ∷ [])))

  pub enclosed_name_go : {m : ℕ} → Steady texts m m (enclosed_name texts.0) (enclosed_name texts.1)
  unfolding enclosed_name
  enclosed_name_go = bound (skips k.OpenRound) (λ _. bound (names texts) (λ i. bound (skips k.CloseRound) (λ _. given i)))

  pairs : {m : ℕ} → Steady texts m m (name_pair texts.0) (name_pair texts.1)
  unfolding name_pair
  pairs = bound (skips k.OpenRound) (λ _. bound (names texts) (λ a. bound (skips k.Comma) (λ _. bound (names texts) (λ b. bound (skips k.CloseRound) (λ _. given (a, b))))))

  -- ---- combiners

  operators : {m : ℕ} → Steady texts m m operator operator
  unfolding operator kind_of operator_by
  operators {m} = looked kind_of operator_by operator_by (λ t q z w. refl) (λ kind. perhaps (combining kind) (λ o. eaten m m (omega arith) o) refused)

  calls : {m : ℕ} (o : BinOp) → Steady texts m m (called texts.0 o) (called texts.1 o)
  unfolding called
  calls o = bound pairs (λ p. given (o, p.0, p.1))

  infixes : {m : ℕ} → Steady texts m m (infixed texts.0) (infixed texts.1)
  unfolding infixed
  infixes = bound (names texts) (λ a. bound operators (λ o. bound (names texts) (λ b. given (o, a, b))))

  combineds : {m : ℕ} → Steady texts m m (combined texts.0) (combined texts.1)
  unfolding combined
  combineds = chosen k.Min (calls op.Min) (chosen k.Max (calls op.Max) infixes)

  unnameds : {m : ℕ} (at : ℕ) → Steady texts m m (unnamed at) (unnamed at)
  unfolding unnamed
  unnameds at = bound operators (λ o. bound (skips k.Wild) (λ _. given (record { place = at; params = None; operator = o; args = None })))

  named_combiners : {m : ℕ} (at : ℕ) → Steady texts m m (named_combiner texts.0 at) (named_combiner texts.1 at)
  unfolding named_combiner
  named_combiners at = bound pairs (λ params. bound (skips k.Arrow) (λ _. bound combineds (λ c. given (record { place = at; params = Some params; operator = c.0; args = Some (c.1, c.2) }))))

  combiners_inside : {m : ℕ} (at : ℕ) → Steady texts m m (combiner_inside texts.0 at) (combiner_inside texts.1 at)
  combiners_inside at = chosen k.Wild (unnameds at) (named_combiners at)

  pub combiner_go : {m : ℕ} → Steady texts m m (combiner texts.0) (combiner texts.1)
  unfolding combiner place_of combiner_at
  combiner_go = looked place_of (combiner_at texts.0) (combiner_at texts.1) (λ t q z w. refl) (λ at. bound (skips k.OpenCurly) (λ _. bound (combiners_inside at) (λ c. bound (skips k.CloseCurly) (λ _. given c))))
