-- Statements that hold no others.
use Rattle.std.proofs.Common.{◌≡◌, ◌∙◌, ℕ, zero, suc, ◌-◌, ◌≤◌, ◌<◌, Bool, true, false, ◌&&◌, List, [], ◌∷◌, ◌++◌, length, length-append, Some, None, Ok, Err, refl, sym, ap, subst, arith, if◌then◌else◌}
use Rattle.sp_reader.specs.declared.token.Token.{Token}
use Rattle.sp_reader.specs.declared.token.TokenKind.{TokenKind}
use Rattle.sp_reader.specs.declared.token.TokenKind.TheVariants as k
use Rattle.sp_reader.specs.Names.{name}
use Rattle.sp_reader.specs.PlainTree.{PlainIdent, PlainExpr, expr, truth}
use Rattle.sp_reader.specs.PlainStatement.{PlainSpan, PlainStmtKind, reg, sram, fifo, line_buffer, bind, set, set_at, enq, load, store, gather, scatter}
use Rattle.sp_reader.specs.SimpleRules.{optional_literal, a_reg, a_sram, a_fifo, a_line_buffer, a_value, val_by, val, a_set, a_enq, a_load, a_gather, are_indices, a_set_at, a_store, begins_with_name, is_pair, scattered, a_scatter, with_spans, on_spans, after_name, on_name}
use Rattle.sp_reader.specs.SpanRules.{whole_expr, whole_exprs_from, whole_exprs, spans}
use Rattle.sp_reader.specs.Steps.{Text, Rule, Outcome, and_then, ◌>>=◌, pure, is_name, kind_of, tail_of, sees, skip}
use Rattle.sp_grammar.specs.Tokens.{Takes}
use Rattle.sp_grammar.specs.Loops.{AreSpans}
use Rattle.sp_grammar.proofs.Again.{kind_at, shorter, skip_it, name_again}
use Rattle.sp_grammar.proofs.AgainLoops.{expr_before, spans_again, exprs_again, exprs_of_spans}
use Rattle.sp_grammar.proofs.Lengths.{spans_shorter}
use Rattle.sp_grammar.proofs.Loops.{span_lists as spans_are}
use Rattle.sp_grammar.proofs.Rules.{Reads, takes_seen, skips as skips_are, bound as bound_are, given as given_are}
use Rattle.sp_grammar.proofs.Simple.{name_of, pair_parts}
use Rattle.sp_refusals.proofs.Steady.{Texts, InBoth, Steady, Alike, AtMost, bound, looser, given, refused, chosen, seen, skips, looped, sized, chosen_at, most_up, carried}
use Rattle.sp_refusals.proofs.SteadyWords.{names, counts, bracketeds, literals, dimensions}
use Rattle.sp_refusals.proofs.SteadyExprs.{whole_go}
use Rattle.sp_refusals.proofs.SteadyLoops.{span_lists}

-- places, as they are read again
record Places : Type 0 where
  indices : List PlainExpr
  named : Bool
  places : PlainIdent × PlainExpr

module _ (source : Text) where
  set_rest : PlainIdent → List PlainExpr → Rule PlainStmtKind
  set_rest i es = whole_expr source >>= λ e. pure (set_at i es e)

  scatter_rest : PlainIdent → PlainIdent × PlainExpr → Rule PlainStmtKind
  scatter_rest i p = name source >>= λ from. pure (scatter i p.0 p.1 from)

  store_rest : PlainIdent → List PlainSpan → Rule PlainStmtKind
  store_rest i all = name source >>= λ from. pure (store i all from)

  -- behind the bracket of the places
  behind_places : PlainIdent → List PlainSpan → Places → Rule PlainStmtKind
  behind_places i all again = λ ts.
      if sees k.Equal ts then (if are_indices all then set_rest i again.indices (tail_of ts) else Err (length ts))
      else (if sees k.Store ts then store_rest i all (tail_of ts)
      else (if sees k.Scatter ts then (if again.named && is_pair all then scatter_rest i again.places (tail_of ts) else Err (length ts)) else Err (length ts)))

module _ (texts : Texts) where
  -- ---- declarations

  optional_literals : {m : ℕ} → Steady texts m m (optional_literal texts.0) (optional_literal texts.1)
  unfolding optional_literal
  optional_literals = chosen k.OpenRound (bound (literals texts) (λ l. bound (skips k.CloseRound) (λ _. given (Some l)))) (given None)

  regs : {m : ℕ} (i : PlainIdent) → Steady texts m m (a_reg texts.0 i) (a_reg texts.1 i)
  unfolding a_reg
  regs i = bound (bracketeds texts) (λ t. bound optional_literals (λ start. given (reg i t start)))

  srams : {m : ℕ} (i : PlainIdent) → Steady texts m m (a_sram texts.0 i) (a_sram texts.1 i)
  unfolding a_sram
  srams i = bound (bracketeds texts) (λ t. bound (dimensions texts) (λ ds. given (sram i t ds)))

  fifos : {m : ℕ} (i : PlainIdent) → Steady texts m m (a_fifo texts.0 i) (a_fifo texts.1 i)
  unfolding a_fifo
  fifos i = bound (bracketeds texts) (λ t. bound (skips k.OpenRound) (λ _. bound (counts texts) (λ depth. bound (skips k.CloseRound) (λ _. given (fifo i t depth)))))

  line_buffers : {m : ℕ} (i : PlainIdent) → Steady texts m m (a_line_buffer texts.0 i) (a_line_buffer texts.1 i)
  unfolding a_line_buffer
  line_buffers i = bound (bracketeds texts) (λ t. bound (skips k.OpenRound) (λ _. bound (counts texts) (λ rows. bound (skips k.Comma) (λ _. bound (counts texts) (λ columns. bound (skips k.CloseRound) (λ _.
      given (line_buffer i t rows columns)))))))

  values : {m : ℕ} (i : PlainIdent) → Steady texts m m (a_value texts.0 i) (a_value texts.1 i)
  unfolding a_value
  values i = bound (whole_go texts) (λ e. given (bind i e))

  bounds_by : {m : ℕ} (i : PlainIdent) → Steady texts m m (val_by texts.0 i) (val_by texts.1 i)
  bounds_by i = chosen k.Reg (regs i) (chosen k.Sram (srams i) (chosen k.Fifo (fifos i) (chosen k.LineBuffer (line_buffers i) (values i))))

  pub vals : {m : ℕ} → Steady texts m m (val texts.0) (val texts.1)
  unfolding val
  vals = bound (names texts) (λ i. bound (skips k.Equal) (λ _. bounds_by i))

  -- ---- statements that begin with a name

  sets : {m : ℕ} (i : PlainIdent) → Steady texts m m (a_set texts.0 i) (a_set texts.1 i)
  unfolding a_set
  sets i = bound (whole_go texts) (λ e. given (set i e))

  pub enqs : {m : ℕ} (i : PlainIdent) → Steady texts m m (a_enq texts.0 i) (a_enq texts.1 i)
  unfolding a_enq
  enqs i = bound (skips k.Enq) (λ _. bound (skips k.OpenRound) (λ _. bound (whole_go texts) (λ e. bound (skips k.CloseRound) (λ _. given (enq i e)))))

  loads : {m : ℕ} (i : PlainIdent) → Steady texts m m (a_load texts.0 i) (a_load texts.1 i)
  unfolding a_load
  loads i = bound (names texts) (λ d. bound (skips k.OpenRound) (λ _. bound (span_lists texts) (λ all. bound (skips k.CloseRound) (λ _. given (load i d all)))))

  gathers : {m : ℕ} (i : PlainIdent) → Steady texts m m (a_gather texts.0 i) (a_gather texts.1 i)
  unfolding a_gather
  gathers i = bound (names texts) (λ d. bound (skips k.OpenRound) (λ _. bound (names texts) (λ p. bound (skips k.Comma) (λ _. bound (whole_go texts) (λ e. bound (skips k.CloseRound) (λ _. given (gather i d p e)))))))

  -- ---- those whose places are read twice

  behind_places_go : {m : ℕ} (i : PlainIdent) (all : List PlainSpan) (again : Places) → Steady texts m m (behind_places texts.0 i all again) (behind_places texts.1 i all again)
  unfolding behind_places set_rest store_rest scatter_rest
  behind_places_go {m} i all again =
      chosen_tail k.Equal (are_indices all) (bound (whole_go texts) (λ e. given (set_at i again.indices e)))
      (chosen k.Store (bound (names texts) (λ from. given (store i all from)))
      (chosen_tail k.Scatter (again.named && is_pair all) (bound (names texts) (λ from. given (scatter i again.places.0 again.places.1 from))) refused))
    where
      chosen_tail : {P Q R S : Rule PlainStmtKind} (wanted : TokenKind) (b : Bool) → Steady texts m m R S → Steady texts m m P Q
          → Steady texts m m (λ ts. if sees wanted ts then (if b then R (tail_of ts) else Err (length ts)) else P ts) (λ ts. if sees wanted ts then (if b then S (tail_of ts) else Err (length ts)) else Q ts)
      chosen_tail wanted true first other = chosen wanted first other
      chosen_tail wanted false first other = seen wanted refused other

module _ (source : Text) where
  -- how the places are read again
  record Reread (inside : List Token) (all : List PlainSpan) (again : Places) : Type 0 where
    exprs : are_indices all ≡ true → (us : List Token) × (whole_exprs source inside ≡ Ok (again.indices, us))
    same : begins_with_name inside ≡ again.named
    pair : (again.named && is_pair all) ≡ true → (us : List Token) × (scattered source inside ≡ Ok (again.places, us))

  -- so they are behind the last of them
  record RereadTo (inside us : List Token) (all : List PlainSpan) (again : Places) : Type 0 where
    exprs : are_indices all ≡ true → whole_exprs source inside ≡ Ok (again.indices, us)
    same : begins_with_name inside ≡ again.named
    pair : (again.named && is_pair all) ≡ true → scattered source inside ≡ Ok (again.places, us)

  pub indices_again : {inside us vs : List Token} {all : List PlainSpan} → AreSpans source inside us all → Takes k.CloseRound us vs → (es : List PlainExpr) × (are_indices all ≡ true → whole_exprs source inside ≡ Ok (es, us))
  indices_again {inside} {us} {vs} {all} q close = go (are_indices all) refl
    where
      go : (b : Bool) → are_indices all ≡ b → (es : List PlainExpr) × (are_indices all ≡ true → whole_exprs source inside ≡ Ok (es, us))
      go true is = let es = exprs_of_spans source q is in (es.0, λ _. exprs_again source es.1 (kind_at us close))
      go false is = ([], λ e. let bad = sym is ∙ e in absurd (cc))

  pub places_again : {inside us vs : List Token} {all : List PlainSpan} → AreSpans source inside us all → Takes k.CloseRound us vs
      → (p : PlainIdent × PlainExpr) × ((begins_with_name inside && is_pair all) ≡ true → scattered source inside ≡ Ok (p, us))
  unfolding begins_with_name scattered
  places_again {inside} {us} {vs} {all} q close = go (is_name (kind_of inside)) (sees k.Comma (tail_of inside)) (is_pair all) refl refl refl
    where
      none : PlainIdent × PlainExpr
      none = (record { place = 0; text = [] }, expr 0 (truth true))

      go : (b c d : Bool) → is_name (kind_of inside) ≡ b → sees k.Comma (tail_of inside) ≡ c → is_pair all ≡ d
          → (p : PlainIdent × PlainExpr) × (((b && c) && d) ≡ true → scattered source inside ≡ Ok (p, us))
      go true true true n c is =
          let comma = takes_seen k.Comma (tail_of inside) refl c in
          let named = name_of source inside n in
          let parts = pair_parts source (tail_of inside) (tail_of (tail_of inside)) q is named.1 comma in
          ((named.0, parts.0), λ _. rw (name_again source inside named.1, skip_it comma, expr_before source k.CloseRound refl parts.1 close) refl)
      go true true false n c is = (none, λ e. absurd (cc))
      go true false d n c is = (none, λ e. absurd (cc))
      go false c d n e is = (none, λ e. absurd (cc))

  reread : {inside us vs : List Token} {all : List PlainSpan} → AreSpans source inside us all → Takes k.CloseRound us vs → (again : Places) × RereadTo inside us all again
  reread {inside} q close =
      let es = indices_again q close in let p = places_again q close in
      (record { indices = es.0; named = begins_with_name inside; places = p.0 }, record { exprs = es.1; same = refl; pair = p.1 })

  rereads : {inside us : List Token} {all : List PlainSpan} {again : Places} → RereadTo inside us all again → Reread inside all again
  rereads {us = us} h = record { exprs = λ e. (us, h.exprs e); same = h.same; pair = λ e. (us, h.pair e) }

  with_spans_is : (i : PlainIdent) {inside : List Token} {all : List PlainSpan} {again : Places} → Reread inside all again → (ts : List Token) → behind_places source i all again ts ≡ with_spans source i inside all ts
  unfolding behind_places with_spans a_set_at a_store a_scatter set_rest store_rest scatter_rest
  with_spans_is i {inside} {all} {again} h ts = go (sees k.Equal ts) (sees k.Store ts) (sees k.Scatter ts) (are_indices all) refl (again.named && is_pair all) refl
    where
      set_is : (b : Bool) → are_indices all ≡ b → (if b then set_rest source i again.indices (tail_of ts) else Err (length ts))
          ≡ (if b then and_then (whole_exprs source inside) (λ es. λ _. (whole_expr source >>= λ e. pure (set_at i es e)) (tail_of ts)) else Err (length ts))
      set_is true is = rw (h.exprs is).1 refl
      set_is false is = refl

      scatter_is : (b : Bool) → (again.named && is_pair all) ≡ b → (if b then scatter_rest source i again.places (tail_of ts) else Err (length ts))
          ≡ (if b then and_then (scattered source inside) (λ p. λ _. (name source >>= λ from. pure (scatter i p.0 p.1 from)) (tail_of ts)) else Err (length ts))
      scatter_is true is = rw (h.pair is).1 refl
      scatter_is false is = refl

      go : (b c d : Bool) (e : Bool) → are_indices all ≡ e → (f : Bool) → (again.named && is_pair all) ≡ f
          → (if b then (if e then set_rest source i again.indices (tail_of ts) else Err (length ts))
          else (if c then store_rest source i all (tail_of ts) else (if d then (if f then scatter_rest source i again.places (tail_of ts) else Err (length ts)) else Err (length ts))))
          ≡ (if b then (if e then and_then (whole_exprs source inside) (λ es. λ _. (whole_expr source >>= λ e. pure (set_at i es e)) (tail_of ts)) else Err (length ts))
          else (if c then (name source >>= λ from. pure (store i all from)) (tail_of ts)
          else (if d then (if begins_with_name inside && is_pair all then and_then (scattered source inside) (λ p. λ _. (name source >>= λ from. pure (scatter i p.0 p.1 from)) (tail_of ts)) else Err (length ts)) else Err (length ts))))
      go true c d e x f y = set_is e x
      go false true d e x f y = refl
      go false false true e x f y = scatter_is f y ∙ rw (h.same, y) refl
      go false false false e x f y = refl

module _ (texts : Texts) where
  -- ---- the lists are read again alike

  expr_lists_from : (f g m : ℕ) → m ≤ f → m ≤ g → (found : List PlainExpr) → Steady texts m m (whole_exprs_from texts.0 f found) (whole_exprs_from texts.1 g found)
  unfolding whole_exprs_from
  expr_lists_from f g m a b found =
      looped (whole_exprs_from texts.0) (whole_exprs_from texts.1) m (λ x z. omega arith)
      (λ f g n le rest found. bound (whole_go texts) (λ e. chosen_at n (n - 1) (omega arith) k.Comma (looser (n - 1) (n - 1) n (omega arith) (rest (n - 1) (omega arith) (found ++ e ∷ []))) (given (found ++ e ∷ []))))
      f g m a b (omega arith) found

  expr_lists : {m : ℕ} → Steady texts m m (whole_exprs texts.0) (whole_exprs texts.1)
  expr_lists {m} = sized (λ f. whole_exprs_from texts.0 f []) (λ f. whole_exprs_from texts.1 f []) m (λ f g n le a b. expr_lists_from f g n a b [])

  scattered_go : {m : ℕ} → Steady texts m m (scattered texts.0) (scattered texts.1)
  unfolding scattered
  scattered_go = bound (names texts) (λ p. bound (skips k.Comma) (λ _. bound (whole_go texts) (λ e. given (p, e))))

  -- what is read again before the lists part is read again of both
  both_reread : {us : List Token} {all : List PlainSpan} {again : Places} (t s : Token) (q z w : List Token) → InBoth texts (t ∷ s ∷ q) → length z < length us → RereadTo texts.0 (t ∷ (s ∷ q) ++ z) us all again → Reread texts.1 (t ∷ (s ∷ q) ++ w) all again
  unfolding begins_with_name kind_of tail_of sees
  both_reread {us} {all} {again} t s q z w good far h = record {
    exprs = λ is. carried {n = suc (length (s ∷ q))} again.indices us (expr_lists.goes t (s ∷ q) z w good (omega arith)) (h.exprs is) far;
    same = h.same;
    pair = λ is. carried {n = suc (length (s ∷ q))} again.places us (scattered_go.goes t (s ∷ q) z w good (omega arith)) (h.pair is) far;
  }

module _ (source : Text) where
  -- ---- a name and places

  unfoldable pub places_read : Rule (List PlainSpan)
  places_read = spans source >>= λ all. skip k.CloseRound >>= λ _. pure all

module _ (texts : Texts) where
  pub places_go : {m : ℕ} → Steady texts m m (places_read texts.0) (places_read texts.1)
  unfolding places_read
  places_go = bound (span_lists texts) (λ all. bound (skips k.CloseRound) (λ _. given all))

module _ (source : Text) where
  abbrev pub ReadPlaces : List Token → List PlainSpan → List Token → Type 0
  ReadPlaces inside all vs = (us : List Token) × AreSpans source inside us all × Takes k.CloseRound us vs

  pub places_are : (inside : List Token) → Reads (places_read source) inside (ReadPlaces inside)
  unfolding places_read
  places_are inside = bound_are (spans_are source) (λ all us q. bound_are (skips_are k.CloseRound refl) (λ _ vs close. given_are all (us, q, close)))

  pub places_of : {inside vs : List Token} {all : List PlainSpan} → ReadPlaces inside all vs → places_read source inside ≡ Ok (all, vs)
  unfolding places_read
  places_of h = rw (spans_again source h.1 (kind_at h.0 h.2), skip_it h.2) refl

  on_spans_is : (i : PlainIdent) (inside : List Token) → and_then (places_read source inside) (with_spans source i inside) ≡ on_spans source i inside
  unfolding on_spans places_read
  on_spans_is i inside = go (spans source inside)
    where
      by_close : (all : List PlainSpan) (o : Outcome (Unit {0})) → and_then (and_then o (λ _. pure all)) (with_spans source i inside) ≡ and_then o (λ _. with_spans source i inside all)
      by_close all (Ok p) = refl
      by_close all (Err e) = refl

      go : (o : Outcome (List PlainSpan)) → and_then (and_then o (λ all. skip k.CloseRound >>= λ _. pure all)) (with_spans source i inside) ≡ and_then o (λ all. skip k.CloseRound >>= λ _. with_spans source i inside all)
      go (Ok p) = by_close p.0 (skip k.CloseRound p.1)
      go (Err e) = refl

  -- behind the places nothing is refused before them
  behind_most : (i : PlainIdent) {inside vs : List Token} {all : List PlainSpan} → ReadPlaces inside all vs → AtMost (length vs) (with_spans source i inside all vs)
  behind_most i {inside} {vs} {all} h =
      let again = reread source h.1 h.2 in
      subst (AtMost (length vs)) (with_spans_is source i (rereads source again.1) vs) ((behind_places_go (source, source) {m = zero} i all again.0).within vs)

  pub on_spans_most : (i : PlainIdent) (n : ℕ) (inside : List Token) → AtMost n (places_read source inside) → AtMost n (on_spans source i inside)
  on_spans_most i n inside h = subst (AtMost n) (on_spans_is i inside) (go (places_read source inside) refl h)
    where
      go : (o : Outcome (List PlainSpan)) → places_read source inside ≡ o → AtMost n o → AtMost n (and_then o (with_spans source i inside))
      go (Ok p) is h = most_up (length p.1) n (with_spans source i inside p.0 p.1) h (behind_most i ((places_are inside).run p.0 p.1 is))
      go (Err e) is h = h

module _ (texts : Texts) where
  spans_steady : {m : ℕ} (i : PlainIdent) → Steady texts m m (on_spans texts.0 i) (on_spans texts.1 i)
  spans_steady {m} i = record {
    within = λ z. on_spans_most texts.0 i (length z) z ((places_go texts {m = zero}).within z);
    goes = λ t q z w good few. go t q z w good ((places_go texts {m = m}).goes t q z w good few);
  }
    where
      by_length : (t : Token) (q z w : List Token) → InBoth texts (t ∷ q) → (a : List PlainSpan) (s : Token) (p : List Token) → InBoth texts (s ∷ p) → suc (length p) ≤ m → ReadPlaces texts.0 (t ∷ (q ++ z)) a (s ∷ (p ++ z))
          → Alike texts m z w (with_spans texts.0 i (t ∷ (q ++ z)) a (s ∷ (p ++ z))) (with_spans texts.1 i (t ∷ (q ++ w)) a (s ∷ (p ++ w)))
      by_length t [] z w good a s p more few h =
          let b = spans_shorter texts.0 h.1 in let c = shorter h.0 h.2 in let l = length-append p z in
          absurd (omega (arith, b, c, l))
      by_length t (v ∷ q) z w good a s p more few h =
          let again = reread texts.0 h.1 h.2 in
          let c = shorter h.0 h.2 in let l = length-append p z in
          let first = with_spans_is texts.0 i (rereads texts.0 again.1) (s ∷ (p ++ z)) in
          let second = with_spans_is texts.1 i (both_reread texts t v q z w good (omega (arith, c, l)) again.1) (s ∷ (p ++ w)) in
          rw (sym first, sym second) ((behind_places_go texts {m = m} i a again.0).goes s p z w more few)

      go : (t : Token) (q z w : List Token) → InBoth texts (t ∷ q) → Alike texts m z w (places_read texts.0 (t ∷ (q ++ z))) (places_read texts.1 (t ∷ (q ++ w))) → Alike texts m z w (on_spans texts.0 i (t ∷ (q ++ z))) (on_spans texts.1 i (t ∷ (q ++ w)))
      go t q z w good (Alike.stopped e f g) =
          Alike.stopped e (sym (on_spans_is texts.0 i (t ∷ (q ++ z))) ∙ ap (λ o. and_then o (with_spans texts.0 i (t ∷ (q ++ z)))) f) (sym (on_spans_is texts.1 i (t ∷ (q ++ w))) ∙ ap (λ o. and_then o (with_spans texts.1 i (t ∷ (q ++ w)))) g)
      go t q z w good (Alike.inside a s p more few f g) =
          let first = sym (on_spans_is texts.0 i (t ∷ (q ++ z))) ∙ ap (λ o. and_then o (with_spans texts.0 i (t ∷ (q ++ z)))) f in
          let second = sym (on_spans_is texts.1 i (t ∷ (q ++ w))) ∙ ap (λ o. and_then o (with_spans texts.1 i (t ∷ (q ++ w)))) g in
          rw (first, second) (by_length t q z w good a s p more few ((places_are texts.0 (t ∷ (q ++ z))).run a (s ∷ (p ++ z)) f))
      go t q z w good (Alike.past h) = Alike.past (on_spans_most texts.0 i (length z) (t ∷ (q ++ z)) h)

  pub after_name_go : {m : ℕ} (i : PlainIdent) → Steady texts m m (after_name texts.0 i) (after_name texts.1 i)
  unfolding after_name
  after_name_go i = chosen k.Assign (sets texts i) (chosen k.Dot (enqs texts i) (chosen k.Load (loads texts i) (chosen k.Gather (gathers texts i) (chosen k.OpenRound (spans_steady i) refused))))

  pub on_names : {m : ℕ} → Steady texts m m (on_name texts.0) (on_name texts.1)
  unfolding on_name
  on_names = bound (names texts) (λ i. after_name_go i)
