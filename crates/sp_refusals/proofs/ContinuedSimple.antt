-- Statements that hold no others go on.
use Rattle.std.proofs.Common.{◌≡◌, ◌∙◌, Bool, true, false, ◌&&◌, List, [], ◌∷◌, length, Some, None, Ok, Err, refl, ap, if◌then◌else◌}
use Rattle.sp_reader.specs.declared.token.Token.{Token}
use Rattle.sp_reader.specs.declared.token.TokenKind.TheVariants as k
use Rattle.sp_reader.specs.Names.{name}
use Rattle.sp_reader.specs.PlainTree.{PlainIdent, PlainExpr, expr, truth}
use Rattle.sp_reader.specs.PlainStatement.{PlainSpan, PlainStmtKind, reg, sram, fifo, line_buffer, bind, set, set_at, enq, load, store, gather, scatter}
use Rattle.sp_reader.specs.SimpleRules.{optional_literal, a_reg, a_sram, a_fifo, a_line_buffer, a_value, val_by, val, a_set, a_enq, a_load, a_gather, are_indices, a_set_at, a_store, begins_with_name, is_pair, scattered, a_scatter, with_spans, on_spans, after_name, on_name}
use Rattle.sp_reader.specs.SpanRules.{whole_expr, whole_exprs, spans}
use Rattle.sp_reader.specs.Steps.{Text, Outcome, and_then, ◌>>=◌, pure, tail_of, sees, skip}
use Rattle.sp_grammar.specs.Tokens.{Takes, IsName}
use Rattle.sp_grammar.specs.Loops.{IsWholeExpr, AreSpans}
use Rattle.sp_grammar.specs.Statements.{MayStart, IsBound, IsKind}
use Rattle.sp_grammar.proofs.Loops.{span_lists as spans_are}
use Rattle.sp_grammar.proofs.Rules.{takes_seen}
use Rattle.sp_refusals.proofs.Continued.{Put, Front, Continued, given, refused, bound, weaker, behind_front, behind_takes, made, token_is, IsToken, chosen, skips}
use Rattle.sp_refusals.proofs.ContinuedWords.{Spelled, SmallNumber, a_name, names, counts, bracketeds, literals, dimensions}
use Rattle.sp_refusals.proofs.ContinuedExprs.{an_expr, whole_goes}
use Rattle.sp_refusals.proofs.ContinuedLoops.{span_lists, expr_lists}
use Rattle.sp_refusals.proofs.SteadySimple.{indices_again, places_again}

module _ (source : Text) (one : SmallNumber source) where
  abbrev pub KindPut : Put → Type 0
  KindPut = Spelled (IsKind source)

  -- ---- declarations

  optional_literals : {ts : List Token} → Continued (optional_literal source ts) ts (Spelled (MayStart source))
  unfolding optional_literal
  optional_literals {ts} = chosen ts k.OpenRound refl
      (λ t opened. bound (literals source one) (λ l _ _ is. bound (skips k.CloseRound refl) (λ _ _ _ close. given (Some l) (λ x. (_, MayStart.some (opened _) (is _).1 (close x))))))
      (given None (λ x. (_, MayStart.none)))

  -- what a name is bound to, whichever name
  abbrev BoundPut : Put → Type 0
  BoundPut d = (i : PlainIdent) → Spelled (IsBound source i) d

  regs : {us : List Token} (i : PlainIdent) (t : Token) → IsToken k.Reg t → Continued (a_reg source i us) us (λ d. BoundPut (λ x. t ∷ d x))
  unfolding a_reg
  regs i t word = bound (bracketeds source one) (λ ty _ _ is. bound optional_literals (λ start _ _ p. given (reg i ty start) (λ j x. (_, IsBound.a_reg (word _) (is _).1 (p x).1))))

  srams : {us : List Token} (i : PlainIdent) (t : Token) → IsToken k.Sram t → Continued (a_sram source i us) us (λ d. BoundPut (λ x. t ∷ d x))
  unfolding a_sram
  srams i t word = bound (bracketeds source one) (λ ty _ _ is. bound (dimensions source one) (λ ds _ _ p. given (sram i ty ds) (λ j x. (_, IsBound.a_sram (word _) (is _).1 (p x).1))))

  fifos : {us : List Token} (i : PlainIdent) (t : Token) → IsToken k.Fifo t → Continued (a_fifo source i us) us (λ d. BoundPut (λ x. t ∷ d x))
  unfolding a_fifo
  fifos i t word = bound (bracketeds source one) (λ ty _ _ is. bound (skips k.OpenRound refl) (λ _ _ _ opened. bound (counts source one) (λ depth _ _ p. bound (skips k.CloseRound refl) (λ _ _ _ close.
      given (fifo i ty depth) (λ j x. (_, IsBound.a_fifo (word _) (is _).1 (opened _) (p _).1 (close x)))))))

  line_buffers : {us : List Token} (i : PlainIdent) (t : Token) → IsToken k.LineBuffer t → Continued (a_line_buffer source i us) us (λ d. BoundPut (λ x. t ∷ d x))
  unfolding a_line_buffer
  line_buffers i t word = bound (bracketeds source one) (λ ty _ _ is. bound (skips k.OpenRound refl) (λ _ _ _ opened. bound (counts source one) (λ rows _ _ p. bound (skips k.Comma refl) (λ _ _ _ comma.
      bound (counts source one) (λ columns _ _ q. bound (skips k.CloseRound refl) (λ _ _ _ close. given (line_buffer i ty rows columns) (λ j x. (_, IsBound.a_line_buffer (word _) (is _).1 (opened _) (p _).1 (comma _) (q _).1 (close x)))))))))

  bounds_by : {ts : List Token} (i : PlainIdent) → Continued (val_by source i ts) ts BoundPut
  unfolding a_value
  bounds_by {ts} i = chosen ts k.Reg refl (λ t word. regs i t word) (chosen ts k.Sram refl (λ t word. srams i t word) (chosen ts k.Fifo refl (λ t word. fifos i t word)
      (chosen ts k.LineBuffer refl (λ t word. line_buffers i t word) (bound (whole_goes source one) (λ e _ _ p. given (bind i e) (λ j x. (_, IsBound.a_word (p x).1)))))))

  pub vals : {us : List Token} (t : Token) → IsToken k.Val t → Continued (val source us) us (λ d. KindPut (λ x. t ∷ d x))
  unfolding val
  vals t word = bound (names source one) (λ i _ _ p. bound (skips k.Equal refl) (λ _ _ _ equal. weaker (λ d is x. let n = p _ in (_, IsKind.a_val (word _) n.1 (equal _) (is n.0 x).1)) (bounds_by i)))

  -- ---- statements that begin with a name

  no_kind : PlainStmtKind
  no_kind = set (record { place = 0; text = [] }) (expr 0 (truth true))

  module _ (i : PlainIdent) (b : Put) (named : Spelled (IsName source) b) where
    sets : {us : List Token} (t : Token) → IsToken k.Assign t → Continued (a_set source i us) us (λ d. KindPut (λ x. b (t ∷ d x)))
    unfolding a_set
    sets t word = bound (whole_goes source one) (λ e _ _ q. given (set i e) (λ x. (_, IsKind.a_set (named _).1 (word _) (q x).1)))

    enqs : {us : List Token} (t : Token) → IsToken k.Dot t → Continued (a_enq source i us) us (λ d. KindPut (λ x. b (t ∷ d x)))
    unfolding a_enq
    enqs t dot = bound (skips k.Enq refl) (λ _ _ _ word. bound (skips k.OpenRound refl) (λ _ _ _ opened. bound (whole_goes source one) (λ e _ _ q. bound (skips k.CloseRound refl) (λ _ _ _ close.
        given (enq i e) (λ x. (_, IsKind.an_enq (named _).1 (dot _) (word _) (opened _) (q _).1 (close x)))))))

    loads : {us : List Token} (t : Token) → IsToken k.Load t → Continued (a_load source i us) us (λ d. KindPut (λ x. b (t ∷ d x)))
    unfolding a_load
    loads t word = bound (names source one) (λ j _ _ q. bound (skips k.OpenRound refl) (λ _ _ _ opened. bound (span_lists source one) (λ all _ _ r. bound (skips k.CloseRound refl) (λ _ _ _ close.
        given (load i j all) (λ x. (_, IsKind.a_load (named _).1 (word _) (q _).1 (opened _) (r _).1 (close x)))))))

    gathers : {us : List Token} (t : Token) → IsToken k.Gather t → Continued (a_gather source i us) us (λ d. KindPut (λ x. b (t ∷ d x)))
    unfolding a_gather
    gathers t word = bound (names source one) (λ j _ _ q. bound (skips k.OpenRound refl) (λ _ _ _ opened. bound (names source one) (λ p _ _ r. bound (skips k.Comma refl) (λ _ _ _ comma.
        bound (whole_goes source one) (λ e _ _ s. bound (skips k.CloseRound refl) (λ _ _ _ close. given (gather i j p e) (λ x. (_, IsKind.a_gather (named _).1 (word _) (q _).1 (opened _) (r _).1 (comma _) (s _).1 (close x)))))))))

    -- ---- those whose places are read twice

    abbrev ScatterPut : Put → Type 0
    ScatterPut d = (x : List Token) → (u v : List Token) × (p : PlainIdent) × (e : PlainExpr) × IsName source (d x) u p × Takes k.Comma u v × IsWholeExpr source v x e

    scatters_again : {ts : List Token} → Continued (scattered source ts) ts ScatterPut
    unfolding scattered
    scatters_again = bound (names source one) (λ p _ _ q. bound (skips k.Comma refl) (λ _ _ _ comma. bound (whole_goes source one) (λ e _ _ r. given (p, e) (λ x. (_, _, _, _, (q _).1, comma _, (r x).1)))))

    -- from the places on, a store
    stored : {d : Put} (t c s : Token) → IsToken k.OpenRound t → Spelled (AreSpans source) d → IsToken k.CloseRound c → IsToken k.Store s → (e : Put) → Spelled (IsName source) e → KindPut (λ x. b (t ∷ d (c ∷ s ∷ e x)))
    stored t c s opened p close word e q x = (_, IsKind.a_store (named _).1 (opened _) (p _).1 (close _) (word _) (q x).1)

    a_name_put : Put
    a_name_put = λ x. made k.Name ∷ x

    module _ (t : Token) (opened : IsToken k.OpenRound t) (inside : List Token) where
      abbrev PlacesPut : Put → Type 0
      PlacesPut d = KindPut (λ x. b (t ∷ d x))

      -- behind the places and their bracket
      behind_close : (all : List PlainSpan) (us : List Token) → spans source inside ≡ Ok (all, us) → (takes : Takes k.CloseRound us (tail_of us)) → Continued (with_spans source i inside all (tail_of us)) inside PlacesPut
      unfolding with_spans a_set_at a_store a_scatter
      behind_close all us is takes = go (sees k.Equal (tail_of us)) refl (sees k.Store (tail_of us)) refl (sees k.Scatter (tail_of us)) refl
        where
          vs : List Token
          vs = tail_of us

          close : IsToken k.CloseRound takes.token
          close = token_is k.CloseRound takes.token takes.of_kind

          are : AreSpans source inside us all
          are = (spans_are source {ts = inside}).run all us is

          front : (d : Front) × (inside ≡ d.put us) × Spelled (AreSpans source) d.put
          front = (span_lists source one {ts = inside}).read all us is

          -- no statement goes on so: a store does
          off : Continued {A = PlainStmtKind} (Err (length (tail_of us))) inside PlacesPut
          off = behind_front front.0 front.1 (behind_takes takes (refused no_kind (λ x. made k.Store ∷ made k.Name ∷ x)
              (stored t takes.token (made k.Store) opened front.2 close (token_is k.Store (made k.Store) refl) (λ x. made k.Name ∷ x) (a_name source one))))

          by_indices : Takes k.Equal (tail_of us) (tail_of (tail_of us)) → (c : Bool) → are_indices all ≡ c
              → Continued (if c then and_then (whole_exprs source inside) (λ es. λ _. (whole_expr source >>= λ e. pure (set_at i es e)) (tail_of (tail_of us))) else Err (length (tail_of us))) inside PlacesPut
          by_indices word true c =
              let es = indices_again source are takes in
              let again = (expr_lists source one {ts = inside}).read es.0 us (es.1 c) in
              rw (es.1 c) (behind_front again.0 again.1 (behind_takes takes (behind_takes word (bound (whole_goes source one) (λ e _ _ q. given (set_at i es.0 e)
              (λ x. (_, IsKind.a_set_at (named _).1 (opened _) (again.2 _).1 (close _) (token_is k.Equal word.token word.of_kind _) (q x).1)))))))
          by_indices word false c = off

          by_pair : Takes k.Scatter (tail_of us) (tail_of (tail_of us)) → (c : Bool) → (begins_with_name inside && is_pair all) ≡ c
              → Continued (if c then and_then (scattered source inside) (λ p. λ _. (name source >>= λ from. pure (scatter i p.0 p.1 from)) (tail_of (tail_of us))) else Err (length (tail_of us))) inside PlacesPut
          by_pair word true c =
              let p = places_again source are takes in
              let again = (scatters_again {ts = inside}).read p.0 us (p.1 c) in
              rw (p.1 c) (behind_front again.0 again.1 (behind_takes takes (behind_takes word (bound (names source one) (λ from _ _ q. given (scatter i p.0.0 p.0.1 from)
              (λ x. let r = again.2 _ in (_, IsKind.a_scatter (named _).1 (opened _) r.4 r.5 r.6 (close _) (token_is k.Scatter word.token word.of_kind _) (q x).1)))))))
          by_pair word false c = off

          go : (e : Bool) → sees k.Equal (tail_of us) ≡ e → (f : Bool) → sees k.Store (tail_of us) ≡ f → (g : Bool) → sees k.Scatter (tail_of us) ≡ g
              → Continued (if e then (if are_indices all then and_then (whole_exprs source inside) (λ es. λ _. (whole_expr source >>= λ e. pure (set_at i es e)) (tail_of (tail_of us))) else Err (length (tail_of us)))
              else (if f then (name source >>= λ from. pure (store i all from)) (tail_of (tail_of us))
              else (if g then (if begins_with_name inside && is_pair all then and_then (scattered source inside) (λ p. λ _. (name source >>= λ from. pure (scatter i p.0 p.1 from)) (tail_of (tail_of us))) else Err (length (tail_of us)))
              else Err (length (tail_of us))))) inside PlacesPut
          go true e f x g y = by_indices (takes_seen k.Equal (tail_of us) refl e) (are_indices all) refl
          go false e true x g y =
              let word = takes_seen k.Store (tail_of us) refl x in
              behind_front front.0 front.1 (behind_takes takes (behind_takes word (bound (names source one) (λ from _ d q. given (store i all from) (stored t takes.token word.token opened front.2 close (token_is k.Store word.token word.of_kind) d q)))))
          go false e false x true y = by_pair (takes_seen k.Scatter (tail_of us) refl y) (begins_with_name inside && is_pair all) refl
          go false e false x false y = off

      on_spans_goes : Continued (on_spans source i inside) inside PlacesPut
      unfolding on_spans skip
      on_spans_goes = by_spans (spans source inside) refl
        where
          a_close : IsToken k.CloseRound (made k.CloseRound)
          a_close = token_is k.CloseRound (made k.CloseRound) refl

          a_store_word : IsToken k.Store (made k.Store)
          a_store_word = token_is k.Store (made k.Store) refl

          by_close : (all : List PlainSpan) (us : List Token) → spans source inside ≡ Ok (all, us) → (c : Bool) → sees k.CloseRound us ≡ c
              → Continued (and_then (if c then Ok (tt, tail_of us) else Err (length us)) (λ (_ : Unit {0}). with_spans source i inside all)) inside PlacesPut
          by_close all us is true c = behind_close all us is (takes_seen k.CloseRound us refl c)
          by_close all us is false c =
              let front = (span_lists source one {ts = inside}).read all us is in
              behind_front front.0 front.1 (refused no_kind (λ x. made k.CloseRound ∷ made k.Store ∷ made k.Name ∷ x) (stored t (made k.CloseRound) (made k.Store) opened front.2 a_close a_store_word (λ x. made k.Name ∷ x) (a_name source one)))

          by_spans : (o : Outcome (List PlainSpan)) → spans source inside ≡ o → Continued (and_then o (λ all. skip k.CloseRound >>= λ _. with_spans source i inside all)) inside PlacesPut
          by_spans (Ok p) is = by_close p.0 p.1 is (sees k.CloseRound p.1) refl
          by_spans (Err e) is = record {
            value = no_kind;
            fresh = let w = (span_lists source one {ts = inside}).fresh in
                ((λ x. w.0 (made k.CloseRound ∷ made k.Store ∷ made k.Name ∷ x)), stored t (made k.CloseRound) (made k.Store) opened w.1 a_close a_store_word (λ x. made k.Name ∷ x) (a_name source one));
            read = λ a us h. absurd (cc);
            stop = λ h.
                let zero_left : e ≡ 0 = cc in
                let d = (span_lists source one {ts = inside}).stop (is ∙ ap (λ n. Err n) zero_left) in
                (d.0, d.1, (λ x. d.2 (made k.CloseRound ∷ made k.Store ∷ made k.Name ∷ x)), stored t (made k.CloseRound) (made k.Store) opened d.3 a_close a_store_word (λ x. made k.Name ∷ x) (a_name source one));
          }

    after_name_goes : (us : List Token) → Continued (after_name source i us) us (λ d. KindPut (λ x. b (d x)))
    unfolding after_name
    after_name_goes us = chosen us k.Assign refl (λ t word. sets t word) (chosen us k.Dot refl (λ t dot. enqs t dot) (chosen us k.Load refl (λ t word. loads t word) (chosen us k.Gather refl (λ t word. gathers t word)
        (chosen us k.OpenRound refl (λ t opened. on_spans_goes t opened (tail_of us))
        (refused no_kind (λ x. made k.Assign ∷ made k.Name ∷ x) (λ x. (_, IsKind.a_set (named _).1 (token_is k.Assign (made k.Assign) refl _) (an_expr source one 7 x).1)))))))

  pub on_names : {ts : List Token} → Continued (on_name source ts) ts KindPut
  unfolding on_name
  on_names = bound (names source one) (λ i us b p. after_name_goes i b p us)
