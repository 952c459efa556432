-- Statements that hold no others.
use Rattle.std.proofs.Common.{◌≡◌, ℕ, suc, Bool, true, false, ◌&&◌, List, length, All, Some, None, Ok, Err, refl, if◌then◌else◌}
use Rattle.sp_reader.specs.declared.token.Token.{Token}
use Rattle.sp_reader.specs.declared.token.TokenKind.TheVariants as k
use Rattle.sp_reader.specs.Names.{name}
use Rattle.sp_reader.specs.PlainTree.{PlainIdent, PlainExpr}
use Rattle.sp_reader.specs.PlainStatement.{PlainSpan, PlainStmtKind, reg, sram, fifo, line_buffer, bind, set, set_at, enq, load, store, gather, scatter}
use Rattle.sp_reader.specs.SimpleRules.{optional_literal, a_reg, a_sram, a_fifo, a_line_buffer, a_value, val_by, val, a_set, a_enq, a_load, a_gather, are_indices, a_set_at, a_store, begins_with_name, is_pair, scattered, a_scatter, with_spans, on_spans, after_name, on_name}
use Rattle.sp_reader.specs.SpanRules.{whole_expr, whole_exprs}
use Rattle.sp_reader.specs.Steps.{Text, Outcome, and_then, ◌>>=◌, pure, refuse, tail_of, sees, skip}
use Rattle.sp_reader.specs.TypeRules.{literal}
use Rattle.sp_typed.specs.ReadTree.{IsReadExpr, IsReadSpan, IsReadStmt, depth_in}
use Rattle.sp_read_trees.proofs.Levels.{Good}
use Rattle.sp_read_trees.proofs.Rules.{Any, Goes, given, refused, bound, chosen, skips, met, past}
use Rattle.sp_read_trees.proofs.Spans.{spans_go, whole_go, wholes_go}
use Rattle.sp_read_trees.proofs.Types.{bracketeds, dimensions, literals}
use Rattle.sp_read_trees.proofs.Words.{Named, counts, names}

-- right, and no controller
abbrev pub IsSimple : PlainStmtKind → Type 0
IsSimple kind = IsReadStmt kind × (depth_in kind ≡ 0)

module _ (source : Text) where
  optional_literals : {d : ℕ} → Goes source d d Any (optional_literal source)
  unfolding optional_literal
  optional_literals = chosen source k.OpenRound (λ _. literal source >>= λ l. skip k.CloseRound >>= λ _. pure (Some l)) (λ _. pure None)
      (λ _. bound source (literals source) (λ l _. bound source (skips source k.CloseRound) (λ _ _. given source (Some l) tt))) (λ _. given source None tt)

  regs : {d : ℕ} (i : PlainIdent) → Named i → Goes source d d IsSimple (a_reg source i)
  unfolding a_reg
  regs i p = bound source (bracketeds source) (λ t _. bound source optional_literals (λ start _. given source (reg i t start) (p, refl)))

  srams : {d : ℕ} (i : PlainIdent) → Named i → Goes source d d IsSimple (a_sram source i)
  unfolding a_sram
  srams i p = bound source (bracketeds source) (λ t _. bound source (dimensions source) (λ ds q. given source (sram i t ds) ((p, q), refl)))

  fifos : {d : ℕ} (i : PlainIdent) → Named i → Goes source d d IsSimple (a_fifo source i)
  unfolding a_fifo
  fifos i p = bound source (bracketeds source) (λ t _. bound source (skips source k.OpenRound) (λ _ _. bound source (counts source) (λ depth q.
      bound source (skips source k.CloseRound) (λ _ _. given source (fifo i t depth) ((p, q), refl)))))

  line_buffers : {d : ℕ} (i : PlainIdent) → Named i → Goes source d d IsSimple (a_line_buffer source i)
  unfolding a_line_buffer
  line_buffers i p = bound source (bracketeds source) (λ t _. bound source (skips source k.OpenRound) (λ _ _. bound source (counts source) (λ rows q.
      bound source (skips source k.Comma) (λ _ _. bound source (counts source) (λ columns r. bound source (skips source k.CloseRound) (λ _ _.
      given source (line_buffer i t rows columns) ((p, q, r), refl)))))))

  values : {d : ℕ} (i : PlainIdent) → Named i → Goes source d d IsSimple (a_value source i)
  unfolding a_value
  values i p = bound source (whole_go source) (λ e q. given source (bind i e) ((p, q), refl))

  vals_by : {d : ℕ} (i : PlainIdent) → Named i → Goes source d d IsSimple (val_by source i)
  vals_by i p =
      chosen source k.Reg (λ _. a_reg source i)
      (λ _ ts. if sees k.Sram ts then a_sram source i (tail_of ts)
      else (if sees k.Fifo ts then a_fifo source i (tail_of ts) else (if sees k.LineBuffer ts then a_line_buffer source i (tail_of ts) else a_value source i ts)))
      (λ _. regs i p)
      (λ _. chosen source k.Sram (λ _. a_sram source i)
      (λ _ ts. if sees k.Fifo ts then a_fifo source i (tail_of ts) else (if sees k.LineBuffer ts then a_line_buffer source i (tail_of ts) else a_value source i ts))
      (λ _. srams i p)
      (λ _. chosen source k.Fifo (λ _. a_fifo source i) (λ _ ts. if sees k.LineBuffer ts then a_line_buffer source i (tail_of ts) else a_value source i ts)
      (λ _. fifos i p)
      (λ _. chosen source k.LineBuffer (λ _. a_line_buffer source i) (λ _. a_value source i) (λ _. line_buffers i p) (λ _. values i p))))

  pub vals : {d : ℕ} → Goes source d d IsSimple (val source)
  unfolding val
  vals = bound source (names source) (λ i p. bound source (skips source k.Equal) (λ _ _. vals_by i p))

  -- ---- statements that begin with a name

  sets : {d : ℕ} (i : PlainIdent) → Goes source d d IsSimple (a_set source i)
  unfolding a_set
  sets i = bound source (whole_go source) (λ e p. given source (set i e) (p, refl))

  enqs : {d : ℕ} (i : PlainIdent) → Goes source d d IsSimple (a_enq source i)
  unfolding a_enq
  enqs i = bound source (skips source k.Enq) (λ _ _. bound source (skips source k.OpenRound) (λ _ _. bound source (whole_go source) (λ e p.
      bound source (skips source k.CloseRound) (λ _ _. given source (enq i e) (p, refl)))))

  loads : {d : ℕ} (i : PlainIdent) → Goes source d d IsSimple (a_load source i)
  unfolding a_load
  loads i = bound source (names source) (λ from _. bound source (skips source k.OpenRound) (λ _ _. bound source (spans_go source) (λ all p.
      bound source (skips source k.CloseRound) (λ _ _. given source (load i from all) (p, refl)))))

  gathers : {d : ℕ} (i : PlainIdent) → Goes source d d IsSimple (a_gather source i)
  unfolding a_gather
  gathers i = bound source (names source) (λ from _. bound source (skips source k.OpenRound) (λ _ _. bound source (names source) (λ places _.
      bound source (skips source k.Comma) (λ _ _. bound source (whole_go source) (λ e p. bound source (skips source k.CloseRound) (λ _ _.
      given source (gather i from places e) (p, refl)))))))

  scattered_go : {d : ℕ} → Goes source d d (λ p. IsReadExpr p.1) (scattered source)
  unfolding scattered
  scattered_go = bound source (names source) (λ p _. bound source (skips source k.Comma) (λ _ _. bound source (whole_go source) (λ e q. given source (p, e) q)))

  module _ (i : PlainIdent) (d : ℕ) (inside : List Token) (around : Good source (suc d) inside) (all : List PlainSpan) (right : All IsReadSpan all) where
    sets_at : (ts : List Token) (s : PlainStmtKind) (us : List Token) → Good source d ts → sees k.Equal ts ≡ true → a_set_at source i inside all ts ≡ Ok (s, us) → IsSimple s × Good source d us
    unfolding a_set_at
    sets_at ts s us g is h = by_indices (are_indices all) h
      where
        by_list : (o : Outcome (List PlainExpr)) → whole_exprs source inside ≡ o → and_then o (λ es. λ _. (whole_expr source >>= λ e. pure (set_at i es e)) (tail_of ts)) ≡ Ok (s, us) → IsSimple s × Good source d us
        by_list (Ok r) e h = let seen = (wholes_go source).run inside r.0 r.1 around e in
            (bound source {Q = IsSimple} (whole_go source) (λ x p. given source (set_at i r.0 x) ((seen.0.0, seen.0.1, p), refl))).run (tail_of ts) s us (past source k.Equal d ts g is) h
        by_list (Err left) e h = absurd (cc)

        by_indices : (b : Bool) → if◌then◌else◌ {A = Outcome PlainStmtKind} b (and_then (whole_exprs source inside) (λ es. λ _. (whole_expr source >>= λ e. pure (set_at i es e)) (tail_of ts))) (Err (length ts)) ≡ Ok (s, us)
            → IsSimple s × Good source d us
        by_indices true h = by_list (whole_exprs source inside) refl h
        by_indices false h = absurd (cc)

    stores : (ts : List Token) (s : PlainStmtKind) (us : List Token) → Good source d ts → sees k.Store ts ≡ true → a_store source i all ts ≡ Ok (s, us) → IsSimple s × Good source d us
    unfolding a_store
    stores ts s us g is h = (bound source {Q = IsSimple} (names source) (λ from _. given source (store i all from) (right, refl))).run (tail_of ts) s us (past source k.Store d ts g is) h

    scatters : (ts : List Token) (s : PlainStmtKind) (us : List Token) → Good source d ts → sees k.Scatter ts ≡ true → a_scatter source i inside all ts ≡ Ok (s, us) → IsSimple s × Good source d us
    unfolding a_scatter
    scatters ts s us g is h = by_pair (begins_with_name inside && is_pair all) h
      where
        by_places : (o : Outcome (PlainIdent × PlainExpr)) → scattered source inside ≡ o → and_then o (λ p. λ _. (name source >>= λ from. pure (scatter i p.0 p.1 from)) (tail_of ts)) ≡ Ok (s, us)
            → IsSimple s × Good source d us
        by_places (Ok r) e h = let seen = scattered_go.run inside r.0 r.1 around e in
            (bound source {Q = IsSimple} (names source) (λ from _. given source (scatter i r.0.0 r.0.1 from) (seen.0, refl))).run (tail_of ts) s us (past source k.Scatter d ts g is) h
        by_places (Err left) e h = absurd (cc)

        by_pair : (b : Bool) → if◌then◌else◌ {A = Outcome PlainStmtKind} b (and_then (scattered source inside) (λ p. λ _. (name source >>= λ from. pure (scatter i p.0 p.1 from)) (tail_of ts))) (Err (length ts)) ≡ Ok (s, us)
            → IsSimple s × Good source d us
        by_pair true h = by_places (scattered source inside) refl h
        by_pair false h = absurd (cc)

    with_spans_go : Goes source d d IsSimple (with_spans source i inside all)
    unfolding with_spans
    with_spans_go = met source k.Equal (a_set_at source i inside all)
        (λ ts. if sees k.Store ts then a_store source i all ts else (if sees k.Scatter ts then a_scatter source i inside all ts else Err (length ts))) sets_at
        (met source k.Store (a_store source i all) (λ ts. if sees k.Scatter ts then a_scatter source i inside all ts else Err (length ts)) stores
        (met source k.Scatter (a_scatter source i inside all) refuse scatters (refused source)))

  on_spans_go : (i : PlainIdent) (d : ℕ) → Goes source (suc d) d IsSimple (on_spans source i)
  unfolding on_spans
  on_spans_go i d = record {
    run = λ inside s us g h. (bound source {Q = IsSimple} (spans_go source) (λ all p. bound source (skips source k.CloseRound) (λ _ _. with_spans_go i d inside g all p))).run inside s us g h;
  }

  after_name_go : {d : ℕ} (i : PlainIdent) → Goes source d d IsSimple (after_name source i)
  unfolding after_name
  after_name_go {d} i =
      chosen source k.Assign (λ _. a_set source i)
      (λ _ ts. if sees k.Dot ts then a_enq source i (tail_of ts)
      else (if sees k.Load ts then a_load source i (tail_of ts)
      else (if sees k.Gather ts then a_gather source i (tail_of ts) else (if sees k.OpenRound ts then on_spans source i (tail_of ts) else Err (length ts)))))
      (λ _. sets i)
      (λ _. chosen source k.Dot (λ _. a_enq source i)
      (λ _ ts. if sees k.Load ts then a_load source i (tail_of ts)
      else (if sees k.Gather ts then a_gather source i (tail_of ts) else (if sees k.OpenRound ts then on_spans source i (tail_of ts) else Err (length ts))))
      (λ _. enqs i)
      (λ _. chosen source k.Load (λ _. a_load source i)
      (λ _ ts. if sees k.Gather ts then a_gather source i (tail_of ts) else (if sees k.OpenRound ts then on_spans source i (tail_of ts) else Err (length ts)))
      (λ _. loads i)
      (λ _. chosen source k.Gather (λ _. a_gather source i) (λ _ ts. if sees k.OpenRound ts then on_spans source i (tail_of ts) else Err (length ts))
      (λ _. gathers i)
      (λ _. chosen source k.OpenRound (λ _. on_spans source i) (λ _. refuse) (λ _. on_spans_go i d) (λ _. refused source)))))

  pub on_name_go : {d : ℕ} → Goes source d d IsSimple (on_name source)
  unfolding on_name
  on_name_go = bound source (names source) (λ i _. after_name_go i)
