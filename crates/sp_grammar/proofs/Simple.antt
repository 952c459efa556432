-- Statements that hold no others.
use Rattle.std.proofs.Common.{◌≡◌, ◌∙◌, Bool, true, false, ◌&&◌, List, [], ◌∷◌, length, Some, None, Ok, Err, refl, sym, ap, subst, if◌then◌else◌}
use Rattle.sp_reader.specs.declared.token.Token.{Token}
use Rattle.sp_reader.specs.declared.token.TokenKind.TheVariants as k
use Rattle.sp_reader.specs.Names.{ident, name}
use Rattle.sp_reader.specs.PlainTree.{PlainIdent, PlainExpr, expr, name as a_name}
use Rattle.sp_reader.specs.PlainStatement.{PlainSpan, single, range, PlainStmtKind, reg, sram, fifo, line_buffer, bind, set, set_at, enq, load, store, gather, scatter}
use Rattle.sp_reader.specs.SimpleRules.{optional_literal, a_reg, a_sram, a_fifo, a_line_buffer, a_value, val_by, val, a_set, a_enq, a_load, a_gather, are_indices, a_set_at, a_store, begins_with_name, is_pair, scattered, a_scatter, with_spans, on_spans, after_name, on_name}
use Rattle.sp_reader.specs.SpanRules.{whole_expr, whole_exprs, spans}
use Rattle.sp_reader.specs.Steps.{Text, Outcome, and_then, ◌>>=◌, pure, is_name, kind_of, tail_of, sees}
use Rattle.sp_grammar.specs.Tokens.{Takes, IsName}
use Rattle.sp_grammar.specs.Expressions.{IsExpr, IsPrefixed, IsPostfix, IsPrimary, AreExprs}
use Rattle.sp_grammar.specs.Loops.{IsWholeExpr, IsSpan, AreSpans}
use Rattle.sp_grammar.specs.Statements.{MayStart, IsBound, IsKind}
use Rattle.sp_grammar.proofs.Again.{kind_at, tail_at, skip_it, name_again}
use Rattle.sp_grammar.proofs.AgainLoops.{expr_before, exprs_again, exprs_of_spans}
use Rattle.sp_grammar.proofs.Exprs.{whole_go}
use Rattle.sp_grammar.proofs.Loops.{span_lists}
use Rattle.sp_grammar.proofs.Rules.{Reads, takes_seen, one_outcome, given, refused, bound, seen, skips, weaker}
use Rattle.sp_grammar.proofs.Types.{bracketeds, literals, dimensions}
use Rattle.sp_grammar.proofs.Words.{names, counts}

module _ (source : Text) where
  -- ---- declarations

  optional_literals : {ts : List Token} → Reads (optional_literal source) ts (λ l us. MayStart source ts us l)
  unfolding optional_literal
  optional_literals {ts} = record {
    run = seen ts k.OpenRound refl
        (λ opened. (bound {Q = λ l us. MayStart source ts us l} (literals source) (λ l _ is. bound (skips k.CloseRound refl) (λ _ _ close. given (Some l) (MayStart.some opened is close)))).run)
        (λ _. (given {P = λ l us. MayStart source ts us l} {ts = ts} None MayStart.none).run);
  }

  regs : {ts us : List Token} (i : PlainIdent) → Takes k.Reg ts us → Reads (a_reg source i) us (λ s vs. IsBound source i ts vs s)
  unfolding a_reg
  regs i word = bound (bracketeds source) (λ t _ is. bound optional_literals (λ start _ p. given (reg i t start) (IsBound.a_reg word is p)))

  srams : {ts us : List Token} (i : PlainIdent) → Takes k.Sram ts us → Reads (a_sram source i) us (λ s vs. IsBound source i ts vs s)
  unfolding a_sram
  srams i word = bound (bracketeds source) (λ t _ is. bound (dimensions source) (λ ds _ p. given (sram i t ds) (IsBound.a_sram word is p)))

  fifos : {ts us : List Token} (i : PlainIdent) → Takes k.Fifo ts us → Reads (a_fifo source i) us (λ s vs. IsBound source i ts vs s)
  unfolding a_fifo
  fifos i word = bound (bracketeds source) (λ t _ is. bound (skips k.OpenRound refl) (λ _ _ opened. bound (counts source) (λ depth _ p. bound (skips k.CloseRound refl) (λ _ _ close.
      given (fifo i t depth) (IsBound.a_fifo word is opened p close)))))

  line_buffers : {ts us : List Token} (i : PlainIdent) → Takes k.LineBuffer ts us → Reads (a_line_buffer source i) us (λ s vs. IsBound source i ts vs s)
  unfolding a_line_buffer
  line_buffers i word = bound (bracketeds source) (λ t _ is. bound (skips k.OpenRound refl) (λ _ _ opened. bound (counts source) (λ rows _ p. bound (skips k.Comma refl) (λ _ _ comma.
      bound (counts source) (λ columns _ q. bound (skips k.CloseRound refl) (λ _ _ close. given (line_buffer i t rows columns) (IsBound.a_line_buffer word is opened p comma q close)))))))

  values : {ts : List Token} (i : PlainIdent) → Reads (a_value source i) ts (λ s us. IsBound source i ts us s)
  unfolding a_value
  values i = bound (whole_go source) (λ e _ p. given (bind i e) (IsBound.a_word p))

  bounds_by : {ts : List Token} (i : PlainIdent) → Reads (val_by source i) ts (λ s us. IsBound source i ts us s)
  bounds_by {ts} i = record {
    run = seen ts k.Reg refl (λ word. (regs i word).run)
        (λ _. seen ts k.Sram refl (λ word. (srams i word).run)
        (λ _. seen ts k.Fifo refl (λ word. (fifos i word).run)
        (λ _. seen ts k.LineBuffer refl (λ word. (line_buffers i word).run) (λ _. (values {ts = ts} i).run))));
  }

  pub vals : {ts us : List Token} → Takes k.Val ts us → Reads (val source) us (λ s vs. IsKind source ts vs s)
  unfolding val
  vals word = bound (names source) (λ i _ p. bound (skips k.Equal refl) (λ _ _ equal. weaker (λ s us is. IsKind.a_val word p equal is) (bounds_by i)))

  -- ---- statements that begin with a name

  sets : {all ts : List Token} (i : PlainIdent) → IsName source all ts i → Takes k.Assign ts (tail_of ts) → Reads (a_set source i) (tail_of ts) (λ s vs. IsKind source all vs s)
  unfolding a_set
  sets i p word = bound (whole_go source) (λ e _ q. given (set i e) (IsKind.a_set p word q))

  enqs : {all ts : List Token} (i : PlainIdent) → IsName source all ts i → Takes k.Dot ts (tail_of ts) → Reads (a_enq source i) (tail_of ts) (λ s vs. IsKind source all vs s)
  unfolding a_enq
  enqs i p dot = bound (skips k.Enq refl) (λ _ _ word. bound (skips k.OpenRound refl) (λ _ _ opened. bound (whole_go source) (λ e _ q. bound (skips k.CloseRound refl) (λ _ _ close.
      given (enq i e) (IsKind.an_enq p dot word opened q close)))))

  loads : {all ts : List Token} (i : PlainIdent) → IsName source all ts i → Takes k.Load ts (tail_of ts) → Reads (a_load source i) (tail_of ts) (λ s vs. IsKind source all vs s)
  unfolding a_load
  loads i p word = bound (names source) (λ d _ q. bound (skips k.OpenRound refl) (λ _ _ opened. bound (span_lists source) (λ spans _ r. bound (skips k.CloseRound refl) (λ _ _ close.
      given (load i d spans) (IsKind.a_load p word q opened r close)))))

  gathers : {all ts : List Token} (i : PlainIdent) → IsName source all ts i → Takes k.Gather ts (tail_of ts) → Reads (a_gather source i) (tail_of ts) (λ s vs. IsKind source all vs s)
  unfolding a_gather
  gathers i p word = bound (names source) (λ d _ q. bound (skips k.OpenRound refl) (λ _ _ opened. bound (names source) (λ places _ r. bound (skips k.Comma refl) (λ _ _ comma.
      bound (whole_go source) (λ e _ s. bound (skips k.CloseRound refl) (λ _ _ close. given (gather i d places e) (IsKind.a_gather p word q opened r comma s close)))))))

  stores : {all ts inside us vs : List Token} (i : PlainIdent) (spans : List PlainSpan) → IsName source all ts i → Takes k.OpenRound ts inside → AreSpans source inside us spans → Takes k.CloseRound us vs → Takes k.Store vs (tail_of vs)
      → Reads (a_store source i spans) vs (λ s ws. IsKind source all ws s)
  unfolding a_store
  stores {all} i spans p opened q close word = record { run = (bound {Q = λ s ws. IsKind source all ws s} (names source) (λ from _ r. given (store i spans from) (IsKind.a_store p opened q close word r))).run }

  -- ---- an assignment to an element, whose indices were read as spans

  set_ats : {all ts inside us vs : List Token} (i : PlainIdent) (spans : List PlainSpan) → IsName source all ts i → Takes k.OpenRound ts inside → AreSpans source inside us spans → Takes k.CloseRound us vs → Takes k.Equal vs (tail_of vs)
      → Reads (a_set_at source i inside spans) vs (λ s ws. IsKind source all ws s)
  unfolding a_set_at
  set_ats {all} {ts} {inside} {us} {vs} i spans p opened q close word = record { run = λ s ws h. go s ws (are_indices spans) refl h }
    where
      by_exprs : (es : List PlainExpr) → AreExprs source inside us es → (s : PlainStmtKind) (ws : List Token) → and_then (whole_exprs source inside) (λ es. λ _. (whole_expr source >>= λ e. pure (set_at i es e)) (tail_of vs)) ≡ Ok (s, ws) → IsKind source all ws s
      by_exprs es r s ws h =
          let read = exprs_again source r (kind_at us close) in
          let rest : (whole_expr source >>= λ e. pure (set_at i es e)) (tail_of vs) ≡ Ok (s, ws) = sym (ap (λ o. and_then o (λ es. λ _. (whole_expr source >>= λ e. pure (set_at i es e)) (tail_of vs))) read) ∙ h in
          (bound {Q = λ s ws. IsKind source all ws s} (whole_go source) (λ e _ x. given (set_at i es e) (IsKind.a_set_at p opened r close word x))).run s ws rest

      go : (s : PlainStmtKind) (ws : List Token) (b : Bool) → are_indices spans ≡ b
          → if◌then◌else◌ {A = Outcome PlainStmtKind} b (and_then (whole_exprs source inside) (λ es. λ _. (whole_expr source >>= λ e. pure (set_at i es e)) (tail_of vs))) (Err (length vs)) ≡ Ok (s, ws) → IsKind source all ws s
      go s ws true is h = let es = exprs_of_spans source q is in by_exprs es.0 es.1 s ws h
      go s ws false is h = absurd (cc)

  -- a token that is a name spells one
  pub name_of : (ts : List Token) → is_name (kind_of ts) ≡ true → (i : PlainIdent) × IsName source ts (tail_of ts) i
  unfolding kind_of tail_of
  name_of [] h = absurd (cc)
  name_of (t ∷ ts) h = (ident source (t ∷ ts), record { token = t; is = refl; named = h; spells = refl })

  -- ---- a scatter, whose places were read as spans

  -- a name and a comma are an expression that ends before the comma
  pub name_expr : {ts us : List Token} {i : PlainIdent} → IsName source ts us i → IsWholeExpr source ts us (expr i.place (a_name i false))
  name_expr p = IsExpr.tighter (IsExpr.tighter (IsExpr.tighter (IsExpr.tighter (IsExpr.tighter (IsExpr.tighter (IsExpr.tighter (IsExpr.operand (IsPrefixed.bare (IsPostfix.primary (IsPrimary.a_name p))))))))))

  -- an expression that begins with a name and a comma is the name
  one_end : {ts us vs ws : List Token} {i : PlainIdent} {e : PlainExpr} → IsName source ts us i → Takes k.Comma us vs → whole_expr source ts ≡ Ok (e, ws) → us ≡ ws
  one_end {ts} {us} {vs} {ws} {i} {e} p comma h = (one_outcome (expr i.place (a_name i false)) e us ws (whole_expr source ts) (expr_before source k.Comma refl (name_expr p) comma) h).1

  no_pair : (x y z : PlainSpan) (rest : List PlainSpan) → is_pair (x ∷ y ∷ z ∷ rest) ≡ true → ⊥
  no_pair x (single e) z rest h = absurd (cc)
  no_pair x (range a b p) z rest h = absurd (cc)

  pub pair_parts : {inside us : List Token} {spans : List PlainSpan} {i : PlainIdent} (u v : List Token) → AreSpans source inside us spans → is_pair spans ≡ true → IsName source inside u i → Takes k.Comma u v
      → (e : PlainExpr) × IsWholeExpr source v us e
  pair_parts u v (AreSpans.last q) h p comma = absurd (cc)
  pair_parts u v (AreSpans.next {s = x} (IsSpan.an_index r) first (AreSpans.next {s = y} q second (AreSpans.last {s = z} t))) h p comma = absurd (no_pair x y z [] h)
  pair_parts u v (AreSpans.next {s = x} (IsSpan.an_index r) first (AreSpans.next {s = y} q second (AreSpans.next {s = z} {rest = rest} t third more))) h p comma = absurd (no_pair x y z rest h)
  pair_parts u v (AreSpans.next (IsSpan.an_index r) first (AreSpans.last (IsSpan.a_range x colons y width))) h p comma = absurd (cc)
  pair_parts {us = end} u v (AreSpans.next {us = us} {vs = vs} (IsSpan.an_index r) first (AreSpans.last (IsSpan.an_index {e = e} q))) h p comma =
      let same = one_end p comma (expr_before source k.Comma refl r first) in
      let tails : v ≡ vs = sym (tail_at u comma) ∙ ap tail_of same ∙ tail_at us first in
      (e, subst (λ xs. IsWholeExpr source xs end e) (sym tails) q)
  pair_parts u v (AreSpans.next (IsSpan.a_range {us = us} r colons y width) first q) h p comma =
      let same = one_end p comma (expr_before source k.Colons refl r colons) in
      let kinds = sym (kind_at u comma) ∙ ap kind_of same ∙ kind_at us colons in absurd (cc)

  scatters : {all ts inside us vs : List Token} (i : PlainIdent) (spans : List PlainSpan) → IsName source all ts i → Takes k.OpenRound ts inside → AreSpans source inside us spans → Takes k.CloseRound us vs → Takes k.Scatter vs (tail_of vs)
      → Reads (a_scatter source i inside spans) vs (λ s ws. IsKind source all ws s)
  unfolding a_scatter begins_with_name scattered
  scatters {all} {ts} {inside} {us} {vs} i spans p opened q close word = record { run = λ s ws h. go s ws (is_name (kind_of inside)) (sees k.Comma (tail_of inside)) (is_pair spans) refl refl refl h }
    where
      by_parts : (places : PlainIdent) (u v : List Token) → IsName source inside u places → Takes k.Comma u v → (e : PlainExpr) → IsWholeExpr source v us e → (s : PlainStmtKind) (ws : List Token)
          → and_then (scattered source inside) (λ x. λ _. (name source >>= λ from. pure (scatter i x.0 x.1 from)) (tail_of vs)) ≡ Ok (s, ws) → IsKind source all ws s
      by_parts places u v named comma e r s ws h =
          let read : scattered source inside ≡ Ok ((places, e), us) = rw (name_again source inside named, skip_it comma, expr_before source k.CloseRound refl r close) refl in
          let rest : (name source >>= λ from. pure (scatter i places e from)) (tail_of vs) ≡ Ok (s, ws) = sym (ap (λ o. and_then o (λ x. λ _. (name source >>= λ from. pure (scatter i x.0 x.1 from)) (tail_of vs))) read) ∙ h in
          (bound {Q = λ s ws. IsKind source all ws s} (names source) (λ from _ x. given (scatter i places e from) (IsKind.a_scatter p opened named comma r close word x))).run s ws rest

      go : (s : PlainStmtKind) (ws : List Token) (b c d : Bool) → is_name (kind_of inside) ≡ b → sees k.Comma (tail_of inside) ≡ c → is_pair spans ≡ d
          → if◌then◌else◌ {A = Outcome PlainStmtKind} ((b && c) && d) (and_then (scattered source inside) (λ x. λ _. (name source >>= λ from. pure (scatter i x.0 x.1 from)) (tail_of vs))) (Err (length vs)) ≡ Ok (s, ws) → IsKind source all ws s
      go s ws true true true n c is h =
          let comma = takes_seen k.Comma (tail_of inside) refl c in
          let named = name_of inside n in
          let parts = pair_parts (tail_of inside) (tail_of (tail_of inside)) q is named.1 comma in
          by_parts named.0 (tail_of inside) (tail_of (tail_of inside)) named.1 comma parts.0 parts.1 s ws h
      go s ws true true false n c is h = absurd (cc)
      go s ws true false d n c is h = absurd (cc)
      go s ws false c d n e is h = absurd (cc)

  -- ---- by what comes behind the name

  with_spans_go : {all ts inside us : List Token} (i : PlainIdent) (spans : List PlainSpan) → IsName source all ts i → Takes k.OpenRound ts inside → AreSpans source inside us spans → {vs : List Token} → Takes k.CloseRound us vs
      → Reads (with_spans source i inside spans) vs (λ s ws. IsKind source all ws s)
  unfolding with_spans
  with_spans_go {all} i spans p opened q {vs} close = record {
    run = seen vs k.Equal refl (λ word. (set_ats i spans p opened q close word).run)
        (λ _. seen vs k.Store refl (λ word. (stores i spans p opened q close word).run)
        (λ _. seen vs k.Scatter refl (λ word. (scatters i spans p opened q close word).run) (λ _. (refused {P = λ s ws. IsKind source all ws s} {ts = vs}).run)));
  }

  on_spans_go : {all ts : List Token} (i : PlainIdent) → IsName source all ts i → Takes k.OpenRound ts (tail_of ts) → Reads (on_spans source i) (tail_of ts) (λ s ws. IsKind source all ws s)
  unfolding on_spans
  on_spans_go {all} {ts} i p opened = record { run = (bound {Q = λ s ws. IsKind source all ws s} (span_lists source) (λ spans _ q. bound (skips k.CloseRound refl) (λ _ vs close. with_spans_go i spans p opened q close))).run }

  after_name_go : {all ts : List Token} (i : PlainIdent) → IsName source all ts i → Reads (after_name source i) ts (λ s ws. IsKind source all ws s)
  unfolding after_name
  after_name_go {all} {ts} i p = record {
    run = seen ts k.Assign refl (λ word. (sets i p word).run)
        (λ _. seen ts k.Dot refl (λ word. (enqs i p word).run)
        (λ _. seen ts k.Load refl (λ word. (loads i p word).run)
        (λ _. seen ts k.Gather refl (λ word. (gathers i p word).run)
        (λ _. seen ts k.OpenRound refl (λ word. (on_spans_go i p word).run) (λ _. (refused {P = λ s ws. IsKind source all ws s} {ts = ts}).run)))));
  }

  pub on_names : {ts : List Token} → Reads (on_name source) ts (λ s us. IsKind source ts us s)
  unfolding on_name
  on_names = bound (names source) (λ i _ p. after_name_go i p)
