-- What is spelled is read again: statements that hold no others, and which of two a body goes on with, a statement or its value.
use Rattle.std.proofs.Common.{◌≡◌, ◌∙◌, inl, inr, ℕ, Bool, true, false, not, ◌||◌, List, [], ◌∷◌, Option, Result, Ok, refl, sym, ap, if◌then◌else◌}
use Rattle.sp_words.specs.declared.kind.Style.{Style}
use Rattle.sp_reader.specs.declared.token.Token.{Token}
use Rattle.sp_reader.specs.declared.token.TokenKind.{TokenKind}
use Rattle.sp_reader.specs.declared.token.TokenKind.TheVariants as k
use Rattle.sp_reader.specs.PlainTree.{PlainIdent, PlainLit, PlainExpr}
use Rattle.sp_reader.specs.PlainStatement.{single, PlainComb, PlainHead, PlainStmt, PlainStmts, PlainStmtKind}
use Rattle.sp_reader.specs.SimpleRules.{optional_literal, a_reg, a_sram, a_fifo, a_line_buffer, a_value, val_by, val, a_set, a_enq, a_load, a_gather, a_set_at, a_store, begins_with_name, scattered, a_scatter, with_spans, on_spans, after_name, on_name, is_access, is_named_value, begins_statement, is_value}
use Rattle.sp_reader.specs.Steps.{Text, kind_of, tail_of, same_kind, sees, is_name}
use Rattle.sp_grammar.specs.Tokens.{Takes, IsName}
use Rattle.sp_grammar.specs.Expressions.{IsPrimary}
use Rattle.sp_grammar.specs.Loops.{IsWholeExpr, IsSpan, AreSpans}
use Rattle.sp_grammar.specs.Statements.{IsBlock, IsStyle, MayHaveStyle, IsCombining, MayStart, IsBound, IsKind, IsStmt}
use Rattle.sp_grammar.proofs.Again.{kind_at, tail_at, sees_it, sees_other, skip_it, name_kind, name_tail, name_again, count_again, bracketed_again, dims_again, literal_again}
use Rattle.sp_grammar.proofs.AgainLoops.{is_end, expr_again, expr_before, spans_again, exprs_again, spans_of_exprs}
use Rattle.sp_grammar.proofs.Simple.{name_expr}
use Rattle.sp_grammar.proofs.Starts.{other_by, begins_expr, plain_begin, begins, follows_statement, IsClear, Leads, leads, is_stmt_end, clear_end, stmt_begins}
use Rattle.sp_grammar.proofs.Rules.{kind_is}

pub stmt_end : (kind : TokenKind) → is_stmt_end kind ≡ true → is_end kind ≡ true
stmt_end k.Semicolon e = refl
stmt_end k.CloseCurly e = refl
stmt_end _ e = absurd (cc)

block_word : {kind : TokenKind} {s : Style} → IsBlock kind s → is_name kind ≡ false
block_word IsBlock.pipe = refl
block_word IsBlock.sequential = refl
block_word IsBlock.parallel = refl
block_word IsBlock.stream = refl

combining_word : {word : TokenKind} {make : PlainHead → PlainStmts → PlainIdent → PlainExpr → PlainComb → PlainStmtKind} → IsCombining word make → is_name word ≡ false
combining_word IsCombining.reduces = refl
combining_word IsCombining.folds = refl
combining_word IsCombining.reduces_memories = refl

style_word : {ts us vs : List Token} {s : Option Style} {word : TokenKind} → MayHaveStyle ts us s → Takes word us vs → is_name word ≡ false → is_name (kind_of ts) ≡ false
style_word {ts} MayHaveStyle.none takes off = ap is_name (kind_at ts takes) ∙ off
style_word {ts} (MayHaveStyle.some IsStyle.pipe word dot) takes off = ap is_name (kind_at ts word)
style_word {ts} (MayHaveStyle.some IsStyle.sequential word dot) takes off = ap is_name (kind_at ts word)

module _ (source : Text) where
  -- ---- what a name is bound to

  start_again : {ts us : List Token} {l : Option PlainLit} → MayStart source ts us l → sees k.OpenRound us ≡ false → optional_literal source ts ≡ Ok (l, us)
  unfolding optional_literal same_kind
  start_again MayStart.none off = rw off refl
  start_again {ts} (MayStart.some {vs = vs} opened l close) off = rw (sees_it ts opened, tail_at ts opened, literal_again source l (sees_other k.CloseRound k.Dot vs (kind_at vs close) refl), skip_it close) refl

  bound_again : {i : PlainIdent} {ts us : List Token} {s : PlainStmtKind} → IsBound source i ts us s → is_stmt_end (kind_of us) ≡ true → val_by source i ts ≡ Ok (s, us)
  unfolding a_reg a_sram a_fifo a_line_buffer a_value same_kind
  bound_again {i} {ts} {us} (IsBound.a_reg word t start) end = rw (sees_it ts word, tail_at ts word, bracketed_again source t, start_again start (other_by is_stmt_end k.OpenRound us end refl)) refl
  bound_again {i} {ts} (IsBound.a_sram word t dims) end = let at = kind_at ts word in rw (sees_other k.Sram k.Reg ts at refl, sees_it ts word, tail_at ts word, bracketed_again source t, dims_again source dims) refl
  bound_again {i} {ts} (IsBound.a_fifo {d = d} word t opened depth close) end =
      let at = kind_at ts word in
      rw (sees_other k.Fifo k.Reg ts at refl, sees_other k.Fifo k.Sram ts at refl, sees_it ts word, tail_at ts word, bracketed_again source t, skip_it opened, count_again source d depth, skip_it close) refl
  bound_again {i} {ts} (IsBound.a_line_buffer {d = d} {f = f} word t opened rows comma columns close) end =
      let at = kind_at ts word in
      rw (
        sees_other k.LineBuffer k.Reg ts at refl,
        sees_other k.LineBuffer k.Sram ts at refl,
        sees_other k.LineBuffer k.Fifo ts at refl,
        sees_it ts word,
        tail_at ts word,
        bracketed_again source t,
        skip_it opened,
        count_again source d rows,
        skip_it comma,
        count_again source f columns,
        skip_it close,
      ) refl
  bound_again {i} {ts} {us} (IsBound.a_word e) end =
      let first = begins source e in
      rw (other_by begins_expr k.Reg ts first refl, other_by begins_expr k.Sram ts first refl, other_by begins_expr k.Fifo ts first refl, other_by begins_expr k.LineBuffer ts first refl, expr_again source e (stmt_end (kind_of us) end)) refl

  pub val_again : {i : PlainIdent} {a b c d : List Token} {s : PlainStmtKind} → IsName source a b i → Takes k.Equal b c → IsBound source i c d s → is_stmt_end (kind_of d) ≡ true → val source a ≡ Ok (s, d)
  unfolding val
  val_again {a = a} p sign is end = rw (name_again source a p, skip_it sign, bound_again is end) refl

  -- ---- statements that begin with a name

  -- those that go on with spans in parentheses
  places : {b e : List Token} {p : PlainIdent} {x : PlainExpr} (c d : List Token) → IsName source b c p → Takes k.Comma c d → IsWholeExpr source d e x → (s : PlainExpr) × AreSpans source b e (single s ∷ single x ∷ [])
  places c d q comma x = (_, AreSpans.next (IsSpan.an_index (name_expr source q)) comma (AreSpans.last (IsSpan.an_index x)))

  pub on_name_again : {ts us : List Token} {s : PlainStmtKind} → IsKind source ts us s → is_name (kind_of ts) ≡ true → is_stmt_end (kind_of us) ≡ true → on_name source ts ≡ Ok (s, us)
  unfolding on_name after_name a_set a_enq a_load a_gather on_spans with_spans a_set_at a_store a_scatter begins_with_name scattered same_kind
  on_name_again {ts} (IsKind.a_val word p sign is) n end = let bad = sym n ∙ ap is_name (kind_at ts word) in absurd (cc)
  on_name_again {ts} {us} (IsKind.a_set {a = a} p word e) n end = rw (name_again source ts p, sees_it a word, tail_at a word, expr_again source e (stmt_end (kind_of us) end)) refl
  on_name_again {ts} {us} (IsKind.a_set_at {a = a} {b = b} {c = c} {d = d} p opened all close word x) n end =
      let at = kind_at a opened in
      let spans = spans_of_exprs source all in
      rw (
        name_again source ts p,
        sees_other k.OpenRound k.Assign a at refl,
        sees_other k.OpenRound k.Dot a at refl,
        sees_other k.OpenRound k.Load a at refl,
        sees_other k.OpenRound k.Gather a at refl,
        sees_it a opened,
        tail_at a opened,
        spans_again source spans.2 (kind_at c close),
        skip_it close,
        sees_it d word,
        spans.1,
        exprs_again source all (kind_at c close),
        tail_at d word,
        expr_again source x (stmt_end (kind_of us) end),
      ) refl
  on_name_again {ts} (IsKind.an_enq {a = a} {d = d} p dot word opened x close) n end =
      rw (name_again source ts p, sees_other k.Dot k.Assign a (kind_at a dot) refl, sees_it a dot, tail_at a dot, skip_it word, skip_it opened, expr_before source k.CloseRound refl x close, skip_it close) refl
  on_name_again {ts} (IsKind.a_load {a = a} {b = b} {e = e} p word q opened all close) n end =
      let at = kind_at a word in
      rw (name_again source ts p, sees_other k.Load k.Assign a at refl, sees_other k.Load k.Dot a at refl, sees_it a word, tail_at a word, name_again source b q, skip_it opened, spans_again source all (kind_at e close), skip_it close) refl
  on_name_again {ts} (IsKind.a_store {a = a} {c = c} {d = d} {e = e} p opened all close word q) n end =
      let at = kind_at a opened in
      rw (
        name_again source ts p,
        sees_other k.OpenRound k.Assign a at refl,
        sees_other k.OpenRound k.Dot a at refl,
        sees_other k.OpenRound k.Load a at refl,
        sees_other k.OpenRound k.Gather a at refl,
        sees_it a opened,
        tail_at a opened,
        spans_again source all (kind_at c close),
        skip_it close,
        sees_other k.Store k.Equal d (kind_at d word) refl,
        sees_it d word,
        tail_at d word,
        name_again source e q,
      ) refl
  on_name_again {ts} (IsKind.a_gather {a = a} {b = b} {d = d} p word q opened r comma x close) n end =
      let at = kind_at a word in
      rw (
        name_again source ts p,
        sees_other k.Gather k.Assign a at refl,
        sees_other k.Gather k.Dot a at refl,
        sees_other k.Gather k.Load a at refl,
        sees_it a word,
        tail_at a word,
        name_again source b q,
        skip_it opened,
        name_again source d r,
        skip_it comma,
        expr_before source k.CloseRound refl x close,
        skip_it close,
      ) refl
  on_name_again {ts} (IsKind.a_scatter {a = a} {b = b} {c = c} {d = d} {e = e} {f = f} {g = g} p opened q comma x close word r) n end =
      let at = kind_at a opened in
      let spans = places c d q comma x in
      let behind = name_tail source b q in
      rw (
        name_again source ts p,
        sees_other k.OpenRound k.Assign a at refl,
        sees_other k.OpenRound k.Dot a at refl,
        sees_other k.OpenRound k.Load a at refl,
        sees_other k.OpenRound k.Gather a at refl,
        sees_it a opened,
        tail_at a opened,
        spans_again source spans.1 (kind_at e close),
        skip_it close,
        sees_other k.Scatter k.Equal f (kind_at f word) refl,
        sees_other k.Scatter k.Store f (kind_at f word) refl,
        sees_it f word,
        name_kind source b q,
        behind,
        sees_it c comma,
        name_again source b q,
        skip_it comma,
        expr_before source k.CloseRound refl x close,
        tail_at f word,
        name_again source g r,
      ) refl
  on_name_again {ts} (IsKind.a_block is takes p) n end = let bad = sym n ∙ ap is_name (kind_at ts takes) ∙ block_word is in absurd (cc)
  on_name_again {ts} (IsKind.a_foreach has word p opened q arrow r close) n end = let bad = sym n ∙ style_word has word refl in absurd (cc)
  on_name_again {ts} (IsKind.a_combining is has word a acc b p opened q arrow r close comb) n end = let bad = sym n ∙ style_word has word (combining_word is) in absurd (cc)
  on_name_again {ts} (IsKind.an_fsm word a start b c tested d opened i arrow all close e next f) n end = let bad = sym n ∙ ap is_name (kind_at ts word) in absurd (cc)
  on_name_again {ts} (IsKind.a_branch word a test b first second) n end = let bad = sym n ∙ ap is_name (kind_at ts word) in absurd (cc)

  -- ---- a body goes on with its value

  statement_off : (wanted : TokenKind) (us : List Token) → IsClear us → follows_statement wanted ≡ true → sees wanted us ≡ false
  unfolding sees
  statement_off wanted us clear h = go (same_kind (kind_of us) wanted) refl
    where
      go : (b : Bool) → same_kind (kind_of us) wanted ≡ b → b ≡ false
      go true e = let bad = sym clear.0 ∙ ap follows_statement (kind_is (kind_of us) wanted e) ∙ h in absurd (cc)
      go false e = refl

  named_value : (ts : List Token) {us : List Token} {e : PlainExpr} → IsPrimary source ts us e → is_name (kind_of ts) ≡ true → IsClear us → is_named_value source (tail_of ts) ≡ Ok true
  unfolding is_named_value is_access same_kind
  named_value ts (IsPrimary.a_number p) n clear = let bad = sym n ∙ ap is_name (kind_at ts p.takes) in absurd (cc)
  named_value ts (IsPrimary.yes p) n clear = let bad = sym n ∙ ap is_name (kind_at ts p) in absurd (cc)
  named_value ts (IsPrimary.no p) n clear = let bad = sym n ∙ ap is_name (kind_at ts p) in absurd (cc)
  named_value ts {us} (IsPrimary.a_name p) n clear =
      rw (name_tail source ts p, statement_off k.Assign us clear refl, statement_off k.Load us clear refl, statement_off k.Gather us clear refl) (by_dot (sees k.Dot us) refl)
    where
      by_dot : (b : Bool) → sees k.Dot us ≡ b → if◌then◌else◌ {A = Result Bool ℕ} b (Ok (not (sees k.Enq (tail_of us)))) (if sees k.OpenRound us then is_access source (tail_of us) else Ok true) ≡ Ok true
      by_dot true dot = rw (clear.1 dot) refl
      by_dot false dot = rw (statement_off k.OpenRound us clear refl) refl
  named_value ts (IsPrimary.a_value {us = us} {vs = vs} p dot by) n clear =
      let at = kind_at us dot in
      rw (name_tail source ts p, sees_other k.Dot k.Assign us at refl, sees_other k.Dot k.Load us at refl, sees_other k.Dot k.Gather us at refl, sees_it us dot, tail_at us dot, sees_other k.Value k.Enq vs (kind_at vs by) refl) refl
  named_value ts (IsPrimary.a_deq {a = us} {b = vs} p dot by opened close) n clear =
      let at = kind_at us dot in
      rw (name_tail source ts p, sees_other k.Dot k.Assign us at refl, sees_other k.Dot k.Load us at refl, sees_other k.Dot k.Gather us at refl, sees_it us dot, tail_at us dot, sees_other k.Deq k.Enq vs (kind_at vs by) refl) refl
  named_value ts {us} (IsPrimary.an_access {a = a} {c = c} p opened all close) n clear =
      let at = kind_at a opened in
      let spans = spans_of_exprs source all in
      rw (
        name_tail source ts p,
        sees_other k.OpenRound k.Assign a at refl,
        sees_other k.OpenRound k.Load a at refl,
        sees_other k.OpenRound k.Gather a at refl,
        sees_other k.OpenRound k.Dot a at refl,
        sees_it a opened,
        tail_at a opened,
        spans_again source spans.2 (kind_at c close),
        skip_it close,
        statement_off k.Equal us clear refl,
        statement_off k.Store us clear refl,
        statement_off k.Scatter us clear refl,
        spans.1,
      ) refl
  named_value ts (IsPrimary.a_choice p opened x first y second z close) n clear = let bad = sym n ∙ ap is_name (kind_at ts p) in absurd (cc)
  named_value ts (IsPrimary.a_least p opened x comma y close) n clear = let bad = sym n ∙ ap is_name (kind_at ts p) in absurd (cc)
  named_value ts (IsPrimary.a_greatest p opened x comma y close) n clear = let bad = sym n ∙ ap is_name (kind_at ts p) in absurd (cc)
  named_value ts (IsPrimary.in_parentheses p x close) n clear = let bad = sym n ∙ ap is_name (kind_at ts p) in absurd (cc)

  pub value_next : {ts us : List Token} {e : PlainExpr} → IsWholeExpr source ts us e → is_stmt_end (kind_of us) ≡ true → is_value source ts ≡ Ok true
  unfolding is_value
  value_next {ts} {us} p end = rw (plain_begin (kind_of ts) (begins source p)) (by_lead (leads source p (clear_end us end)))
    where
      by_lead : Leads source ts → (if is_name (kind_of ts) then is_named_value source (tail_of ts) else Ok true) ≡ Ok true
      by_lead (inl h) = rw h.1 refl
      by_lead (inr h) = rw h.3 (named_value ts h.2 h.3 h.4)

  -- ---- a body goes on with a statement

  named_statement : {us : List Token} {s : PlainStmtKind} (ts : List Token) → IsKind source ts us s → is_name (kind_of ts) ≡ true → is_named_value source (tail_of ts) ≡ Ok false
  unfolding is_named_value is_access same_kind
  named_statement ts (IsKind.a_val word p sign is) n = let bad = sym n ∙ ap is_name (kind_at ts word) in absurd (cc)
  named_statement ts (IsKind.a_set {a = a} p word e) n = rw (name_tail source ts p, sees_it a word) refl
  named_statement ts (IsKind.a_set_at {a = a} {c = c} {d = d} p opened all close word x) n =
      let at = kind_at a opened in
      let spans = spans_of_exprs source all in
      rw (
        name_tail source ts p,
        sees_other k.OpenRound k.Assign a at refl,
        sees_other k.OpenRound k.Load a at refl,
        sees_other k.OpenRound k.Gather a at refl,
        sees_other k.OpenRound k.Dot a at refl,
        sees_it a opened,
        tail_at a opened,
        spans_again source spans.2 (kind_at c close),
        skip_it close,
        sees_it d word,
      ) refl
  named_statement ts (IsKind.an_enq {a = a} {b = b} p dot word opened x close) n =
      let at = kind_at a dot in
      rw (name_tail source ts p, sees_other k.Dot k.Assign a at refl, sees_other k.Dot k.Load a at refl, sees_other k.Dot k.Gather a at refl, sees_it a dot, tail_at a dot, sees_it b word) refl
  named_statement ts (IsKind.a_load {a = a} p word q opened all close) n = rw (name_tail source ts p, sees_other k.Load k.Assign a (kind_at a word) refl, sees_it a word) refl
  named_statement ts (IsKind.a_store {a = a} {c = c} {d = d} p opened all close word q) n =
      let at = kind_at a opened in
      rw (
        name_tail source ts p,
        sees_other k.OpenRound k.Assign a at refl,
        sees_other k.OpenRound k.Load a at refl,
        sees_other k.OpenRound k.Gather a at refl,
        sees_other k.OpenRound k.Dot a at refl,
        sees_it a opened,
        tail_at a opened,
        spans_again source all (kind_at c close),
        skip_it close,
        sees_other k.Store k.Equal d (kind_at d word) refl,
        sees_it d word,
      ) refl
  named_statement ts (IsKind.a_gather {a = a} p word q opened r comma x close) n =
      let at = kind_at a word in rw (name_tail source ts p, sees_other k.Gather k.Assign a at refl, sees_other k.Gather k.Load a at refl, sees_it a word) refl
  named_statement ts (IsKind.a_scatter {a = a} {c = c} {d = d} {e = e} {f = f} p opened q comma x close word r) n =
      let at = kind_at a opened in
      let spans = places c d q comma x in
      rw (
        name_tail source ts p,
        sees_other k.OpenRound k.Assign a at refl,
        sees_other k.OpenRound k.Load a at refl,
        sees_other k.OpenRound k.Gather a at refl,
        sees_other k.OpenRound k.Dot a at refl,
        sees_it a opened,
        tail_at a opened,
        spans_again source spans.1 (kind_at e close),
        skip_it close,
        sees_other k.Scatter k.Equal f (kind_at f word) refl,
        sees_other k.Scatter k.Store f (kind_at f word) refl,
        sees_it f word,
      ) refl
  named_statement ts (IsKind.a_block is takes p) n = let bad = sym n ∙ ap is_name (kind_at ts takes) ∙ block_word is in absurd (cc)
  named_statement ts (IsKind.a_foreach has word p opened q arrow r close) n = let bad = sym n ∙ style_word has word refl in absurd (cc)
  named_statement ts (IsKind.a_combining is has word a acc b p opened q arrow r close comb) n = let bad = sym n ∙ style_word has word (combining_word is) in absurd (cc)
  named_statement ts (IsKind.an_fsm word a start b c tested d opened i arrow all close e next f) n = let bad = sym n ∙ ap is_name (kind_at ts word) in absurd (cc)
  named_statement ts (IsKind.a_branch word a test b first second) n = let bad = sym n ∙ ap is_name (kind_at ts word) in absurd (cc)

  pub statement_next : {ts us : List Token} {s : PlainStmt} → IsStmt source ts us s → is_value source ts ≡ Ok false
  unfolding is_value
  statement_next {ts} (IsStmt.stands p) = by_kind (begins_statement (kind_of ts)) (is_name (kind_of ts)) refl refl (stmt_begins source (IsStmt.stands p))
    where
      by_kind : (b c : Bool) → begins_statement (kind_of ts) ≡ b → is_name (kind_of ts) ≡ c → (begins_statement (kind_of ts) || is_name (kind_of ts)) ≡ true
          → if◌then◌else◌ {A = Result Bool ℕ} b (Ok false) (if c then is_named_value source (tail_of ts) else Ok true) ≡ Ok false
      by_kind true c m n h = refl
      by_kind false true m n h = named_statement ts p n
      by_kind false false m n h = let both : (begins_statement (kind_of ts) || is_name (kind_of ts)) ≡ false = rw (m, n) refl in let bad = sym h ∙ both in absurd (cc)
