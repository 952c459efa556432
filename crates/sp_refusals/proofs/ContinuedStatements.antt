-- Statements that hold others go on.
use Rattle.std.proofs.Common.{◌≡◌, ◌∙◌, ℕ, zero, suc, Bool, true, false, not, List, [], ◌∷◌, ◌++◌, length, Option, Some, None, Result, Ok, Err, refl, ap, if◌then◌else◌}
use Rattle.sp_words.specs.declared.kind.Style.{Style}
use Rattle.sp_words.specs.declared.kind.Style.TheVariants.{Pipe, Sequential, Parallel, Stream}
use Rattle.sp_reader.specs.declared.grammar.statement.Combining.{Combining}
use Rattle.sp_reader.specs.declared.grammar.statement.Combining.TheVariants as c
use Rattle.sp_reader.specs.declared.token.Token.{Token}
use Rattle.sp_reader.specs.declared.token.TokenKind.{TokenKind}
use Rattle.sp_reader.specs.declared.token.TokenKind.TheVariants as k
use Rattle.sp_reader.specs.PlainTree.{PlainIdent, PlainExpr, expr, truth}
use Rattle.sp_reader.specs.PlainStatement.{PlainSpan, PlainStmt, PlainStmtKind, stmt as node, set, block, foreach, fsm, branch, body}
use Rattle.sp_reader.specs.SimpleRules.{result_map, no_statement, is_access, is_named_value, begins_statement, is_value}
use Rattle.sp_reader.specs.StatementRules.{head, combined_by, stmts_from, stmts, braced, last_value, value_or, valued_from, valued, styled_block, a_foreach, a_combining, controller, styled, arrow, enclosed_arrow, enclosed_expr, bound_body, a_fsm, otherwise, a_branch, kind_by, kind, stmt}
use Rattle.sp_reader.specs.Steps.{Text, Rule, Outcome, ◌>>=◌, is_name, kind_of, tail_of, place_of, sees, skip, semicolons}
use Rattle.sp_grammar.specs.Tokens.{Takes, IsBreak, MayBreak, IsName}
use Rattle.sp_grammar.specs.Loops.{IsWholeExpr, AreSpans, IsCounterList, AreCounters, IsCounter, AreBounds, IsStep, IsPar, AreBinds}
use Rattle.sp_grammar.specs.Statements.{IsBlock, IsStyle, MayHaveStyle, IsCombining, IsArrow, IsStmt, AreMore, AreStmts, AreValued, IsValued, IsBraced, MayElse, IsKind, reduces, folds, reduces_memories}
use Rattle.sp_grammar.proofs.Again.{semicolon}
use Rattle.sp_grammar.proofs.Rules.{takes_seen}
use Rattle.sp_grammar.proofs.Simple.{name_of}
use Rattle.sp_refusals.proofs.Continued.{Put, Front, both, only, Continued, given, refused, bound, weaker, behind_takes, behind_breaks, break_may, may_may, eaten, made, token_is, IsToken, chosen, skips}
use Rattle.sp_refusals.proofs.ContinuedWords.{Spelled, SmallNumber, a_name, names}
use Rattle.sp_refusals.proofs.ContinuedExprs.{an_expr, whole_goes}
use Rattle.sp_refusals.proofs.ContinuedLoops.{span_lists, counter_lists, binds_go, combiner_go, enclosed_name_go}
use Rattle.sp_refusals.proofs.ContinuedSimple.{KindPut, vals, on_names}
use Rattle.sp_refusals.proofs.SteadySimple.{places_read}

-- a token that is put there
tok : (kind : TokenKind) (x : List Token) → Takes kind (made kind ∷ x) x
tok kind x = token_is kind (made kind) refl x

module _ (source : Text) (one : SmallNumber source) where
  abbrev StmtPut : Put → Type 0
  StmtPut = Spelled (IsStmt source)

  none : PlainExpr
  none = expr 0 (truth true)

  -- a name that is set to a name
  a_set : KindPut source one (λ x. made k.Name ∷ made k.Assign ∷ made k.Name ∷ x)
  a_set x = (_, IsKind.a_set (a_name source one _).1 (tok k.Assign _) (an_expr source one 7 x).1)

  a_kind : PlainStmtKind
  a_kind = set (record { place = 0; text = [] }) none

  cons_stmts : {ts us vs ws : List Token} {s : PlainStmt} {all : List PlainStmt} → IsStmt source ts us s → IsBreak us vs → AreStmts source vs ws all → (all : List PlainStmt) × AreStmts source ts ws all
  cons_stmts {s = s} p b (AreStmts.no_stmts brk) = (s ∷ [], AreStmts.some_stmts MayBreak.none (AreMore.last_stmt p) (MayBreak.some (break_may b brk)))
  cons_stmts {s = s} p b (AreStmts.some_stmts brk more end) = (_, AreStmts.some_stmts MayBreak.none (AreMore.next_stmt p (break_may b brk) more) end)

  may_stmts : {ts us vs : List Token} {all : List PlainStmt} → MayBreak ts us → AreStmts source us vs all → AreStmts source ts vs all
  may_stmts m (AreStmts.no_stmts brk) = AreStmts.no_stmts (may_may m brk)
  may_stmts m (AreStmts.some_stmts brk more end) = AreStmts.some_stmts (may_may m brk) more end

  abbrev ValuedPut : Put → Type 0
  ValuedPut d = (x : List Token) → (all : List PlainStmt) × (e : PlainExpr) × IsValued source (d x) x all e

  cons_valued : {ts us vs ws : List Token} {s : PlainStmt} {all : List PlainStmt} {e : PlainExpr} → IsStmt source ts us s → IsBreak us vs → IsValued source vs ws all e → (all : List PlainStmt) × (e : PlainExpr) × IsValued source ts ws all e
  cons_valued p b (IsValued.valued brk more end) = (_, _, IsValued.valued MayBreak.none (AreValued.before_value p (break_may b brk) more) end)

  may_valued : {ts us vs : List Token} {all : List PlainStmt} {e : PlainExpr} → MayBreak ts us → IsValued source us vs all e → IsValued source ts vs all e
  may_valued m (IsValued.valued brk more end) = IsValued.valued (may_may m brk) more end

  a_value : ValuedPut (λ x. made k.Name ∷ x)
  a_value x = (_, _, IsValued.valued MayBreak.none (AreValued.value_alone (an_expr source one 7 x).1) MayBreak.none)

  -- ---- where it isn't yet seen whether a value or a statement comes

  abbrev PlacesPut : Put → Type 0
  PlacesPut d = (x : List Token) → (all : List PlainSpan) × (y : List Token) × AreSpans source (d x) y all × Takes k.CloseRound y x

  places_goes : {ts : List Token} → Continued (places_read source ts) ts PlacesPut
  unfolding places_read
  places_goes = bound (span_lists source one) (λ all _ _ p. bound (skips k.CloseRound refl) (λ _ _ _ close. given all (λ x. (_, _, (p _).1, close x))))

  value_refused : (ts : List Token) → is_value source ts ≡ Err 0 → (d : Front) × (ts ≡ d.put []) × (w : Put) × KindPut source one (λ x. d.put (w x))
  unfolding is_value is_named_value is_access places_read
  value_refused ts h = go (begins_statement (kind_of ts)) (is_name (kind_of ts)) refl h
    where
      by_outcome : (o : Outcome (List PlainSpan)) → result_map (λ p. no_statement p.0 p.1) o ≡ Err 0 → o ≡ Err 0
      by_outcome (Ok p) e = absurd (cc)
      by_outcome (Err l) e = cc

      opened : is_name (kind_of ts) ≡ true → sees k.OpenRound (tail_of ts) ≡ true → is_access source (tail_of (tail_of ts)) ≡ Err 0 → (d : Front) × (ts ≡ d.put []) × (w : Put) × KindPut source one (λ x. d.put (w x))
      opened n o e =
          let named = (name_of source ts n).1 in
          let word = takes_seen k.OpenRound (tail_of ts) refl o in
          let rest = (places_goes {ts = tail_of (tail_of ts)}).stop (by_outcome (places_read source (tail_of (tail_of ts))) e) in (
            both (only named.token) (both (only word.token) rest.0),
            named.is ∙ ap (λ x. named.token ∷ x) (word.is ∙ ap (λ x. word.token ∷ x) rest.1),
            (λ x. rest.2 (made k.Store ∷ made k.Name ∷ x)),
            λ x. let p = rest.3 _ in (_, IsKind.a_store (record { token = named.token; is = refl; named = named.named; spells = refl }) (token_is k.OpenRound word.token word.of_kind _) p.2 p.3 (tok k.Store _) (a_name source one x).1),
          )

      by_word : is_name (kind_of ts) ≡ true → (a b c d e : Bool) → sees k.OpenRound (tail_of ts) ≡ e
          → (if a then Ok false else (if b then Ok false else (if c then Ok false else (if d then Ok (not (sees k.Enq (tail_of (tail_of ts)))) else (if e then is_access source (tail_of (tail_of ts)) else Ok true))))) ≡ Err 0
          → (d : Front) × (ts ≡ d.put []) × (w : Put) × KindPut source one (λ x. d.put (w x))
      by_word n true b c d e x h = absurd (cc)
      by_word n false true c d e x h = absurd (cc)
      by_word n false false true d e x h = absurd (cc)
      by_word n false false false true e x h = absurd (cc)
      by_word n false false false false true x h = opened n x h
      by_word n false false false false false x h = absurd (cc)

      go : (a b : Bool) → is_name (kind_of ts) ≡ b → (if a then Ok false else (if b then is_named_value source (tail_of ts) else Ok true)) ≡ Err 0 → (d : Front) × (ts ≡ d.put []) × (w : Put) × KindPut source one (λ x. d.put (w x))
      go true b n h = absurd (cc)
      go false true n h = by_word n (sees k.Assign (tail_of ts)) (sees k.Load (tail_of ts)) (sees k.Gather (tail_of ts)) (sees k.Dot (tail_of ts)) (sees k.OpenRound (tail_of ts)) refl h
      go false false n h = absurd (cc)

  -- ---- bodies

  module _ (inner : Rule PlainStmt) (within : (ts : List Token) → Continued (inner ts) ts (Spelled (IsStmt source))) where
    stmts_from_goes : (n : ℕ) (found : List PlainStmt) (ts : List Token) → Continued (stmts_from inner n found ts) ts (Spelled (AreStmts source))
    unfolding stmts_from
    stmts_from_goes zero found ts = refused found (λ x. x) (λ x. (_, AreStmts.no_stmts MayBreak.none))
    stmts_from_goes (suc n) found ts = go (λ s us. stmts_from_goes n (found ++ s ∷ []) us) (sees k.CloseCurly ts)
      where
        after : ((s : PlainStmt) (us : List Token) → Continued (stmts_from inner n (found ++ s ∷ []) us) us (Spelled (AreStmts source))) → (s : PlainStmt) (us : List Token) (d : Put) → Spelled (IsStmt source) d → (c : Bool) → sees k.Semicolon us ≡ c
            → Continued (if c then stmts_from inner n (found ++ s ∷ []) (semicolons us) else Ok (found ++ s ∷ [], us)) us (λ e. Spelled (AreStmts source) (λ x. d (e x)))
        after next s us d p true is =
            let takes = takes_seen k.Semicolon us refl is in
            let same : stmts_from inner n (found ++ s ∷ []) (semicolons us) ≡ stmts_from inner n (found ++ s ∷ []) (semicolons (tail_of us)) = ap (stmts_from inner n (found ++ s ∷ [])) (semicolon takes) in
            rw same (behind_takes takes (behind_breaks (λ b brk. weaker (λ e more x. cons_stmts (p _).1 (break_may (IsBreak.one (token_is k.Semicolon takes.token takes.of_kind _)) (brk _)) (more x).1) (next s (semicolons (tail_of us))))))
        after next s us d p false is = given (found ++ s ∷ []) (λ x. (_, AreStmts.some_stmts MayBreak.none (AreMore.last_stmt (p x).1) MayBreak.none))

        go : ((s : PlainStmt) (us : List Token) → Continued (stmts_from inner n (found ++ s ∷ []) us) us (Spelled (AreStmts source))) → (c : Bool)
            → Continued (if c then Ok (found, ts) else (inner >>= λ s. λ us. if sees k.Semicolon us then stmts_from inner n (found ++ s ∷ []) (semicolons us) else Ok (found ++ s ∷ [], us)) ts) ts (Spelled (AreStmts source))
        go next true = given found (λ x. (_, AreStmts.no_stmts MayBreak.none))
        go next false = bound (within ts) (λ s us d p. after next s us d p (sees k.Semicolon us) refl)

    stmts_goes : {ts : List Token} → Continued (stmts inner ts) ts (Spelled (AreStmts source))
    stmts_goes {ts} = behind_breaks (λ b brk. weaker (λ e more x. (_, may_stmts (brk _) (more x).1)) (stmts_from_goes (length ts) [] (semicolons ts)))

    braceds : {ts : List Token} → Continued (braced inner ts) ts (Spelled (IsBraced source))
    unfolding braced
    braceds = bound (skips k.OpenCurly refl) (λ _ _ _ opened. bound stmts_goes (λ all _ _ p. bound (skips k.CloseCurly refl) (λ _ _ _ close. given all (λ x. (_, IsBraced.braced (opened _) (p _).1 (close x))))))

    last_values : (found : List PlainStmt) (ts : List Token) → Continued (last_value source found ts) ts ValuedPut
    unfolding last_value
    last_values found ts = bound (whole_goes source one) (λ e us d p. behind_breaks (λ b brk. given (found, e) (λ x. (_, _, IsValued.valued MayBreak.none (AreValued.value_alone (p _).1) (brk x)))))

    valued_from_goes : (n : ℕ) (found : List PlainStmt) (ts : List Token) → Continued (valued_from source inner n found ts) ts ValuedPut
    unfolding valued_from
    valued_from_goes zero found ts = refused (found, none) (λ x. made k.Name ∷ x) a_value
    valued_from_goes (suc n) found ts = go (λ s us. valued_from_goes n (found ++ s ∷ []) us) (is_value source ts) refl
      where
        go : ((s : PlainStmt) (us : List Token) → Continued (valued_from source inner n (found ++ s ∷ []) us) us ValuedPut) → (r : Result Bool ℕ) → is_value source ts ≡ r
            → Continued (value_or r (last_value source found) (inner >>= λ s. skip k.Semicolon >>= λ _. λ us. valued_from source inner n (found ++ s ∷ []) (semicolons us)) ts) ts ValuedPut
        go next (Ok true) is = last_values found ts
        go next (Ok false) is = bound (within ts) (λ s us d p. bound (skips k.Semicolon refl) (λ _ vs f semi.
            behind_breaks (λ b brk. weaker (λ e more x. let m = more x in cons_valued (p _).1 (break_may (IsBreak.one (semi _)) (brk _)) m.2) (next s (semicolons vs)))))
        go next (Err e) is = record {
          value = (found, none);
          fresh = (λ x. made k.Name ∷ x, a_value);
          read = λ a us h. absurd (cc);
          stop = λ h.
              let zero_left : e ≡ 0 = cc in
              let d = value_refused ts (is ∙ ap (λ n. Err n) zero_left) in
              (d.0, d.1, (λ x. d.2 (made k.Semicolon ∷ made k.Name ∷ x)), λ x. let v = a_value x in cons_valued (IsStmt.stands (d.3 _).1) (IsBreak.one (tok k.Semicolon _)) v.2);
        }

    valued_goes : {ts : List Token} → Continued (valued source inner ts) ts ValuedPut
    valued_goes {ts} = behind_breaks (λ b brk. weaker (λ e more x. let m = more x in (_, _, may_valued (brk _) m.2)) (valued_from_goes (length ts) [] (semicolons ts)))

    -- ---- controllers

    blocks : {us : List Token} (style : Style) (word : TokenKind) (t : Token) → IsBlock word style → IsToken word t → Continued (styled_block inner style us) us (λ d. KindPut source one (λ x. t ∷ d x))
    unfolding styled_block
    blocks style word t is takes = bound braceds (λ all _ _ p. given (block style (body all)) (λ x. (_, IsKind.a_block is (takes _) (p x).1)))

    -- the style of a loop
    abbrev StylePut : Option Style → Put → Type 0
    StylePut style b = (x : List Token) → MayHaveStyle (b x) x style

    foreachs : {us : List Token} (style : Option Style) (b : Put) (t : Token) → StylePut style b → IsToken k.Foreach t → Continued (a_foreach source inner style us) us (λ d. KindPut source one (λ x. b (t ∷ d x)))
    unfolding a_foreach
    foreachs style b t has word = bound (counter_lists source one) (λ cs _ _ p. bound (skips k.OpenCurly refl) (λ _ _ _ opened. bound (binds_go source one) (λ is _ _ q.
        bound (skips k.Arrow refl) (λ _ _ _ arrow. bound stmts_goes (λ all _ _ r. bound (skips k.CloseCurly refl) (λ _ _ _ close.
        given (foreach (head style cs is) (body all)) (λ x. (_, IsKind.a_foreach (has _) (word _) (p _).1 (opened _) (q _).1 (arrow _) (r _).1 (close x)))))))))

    combinings : {us : List Token} (which : Combining) (style : Option Style) (b : Put) (kind : TokenKind) (t : Token) → IsCombining kind (combined_by which) → StylePut style b → IsToken kind t
        → Continued (a_combining source inner which style us) us (λ d. KindPut source one (λ x. b (t ∷ d x)))
    unfolding a_combining
    combinings which style b kind t makes_it has word = bound (enclosed_name_go source one) (λ acc _ _ a. bound (counter_lists source one) (λ cs _ _ p. bound (skips k.OpenCurly refl) (λ _ _ _ opened.
        bound (binds_go source one) (λ is _ _ q. bound (skips k.Arrow refl) (λ _ _ _ arrow. bound valued_goes (λ v _ _ r. bound (skips k.CloseCurly refl) (λ _ _ _ close.
        bound (combiner_go source one) (λ comb _ _ s. given (combined_by which (head style cs is) (body v.0) acc v.1 comb)
        (λ x. let n = a _ in let body = r _ in (_, IsKind.a_combining makes_it (has _) (word _) n.3 n.4 n.5 (p _).1 (opened _) (q _).1 (arrow _) body.2 (close _) (s x).1))))))))))

    -- a loop from scratch
    a_loop : (style : Option Style) (b : Put) → StylePut style b
        → KindPut source one (λ x. b (made k.Foreach ∷ made k.OpenRound ∷ made k.Name ∷ made k.CloseRound ∷ made k.OpenCurly ∷ made k.Name ∷ made k.Arrow ∷ made k.CloseCurly ∷ x))
    a_loop style b has x = (
      _,
      IsKind.a_foreach (has _) (tok k.Foreach _) (IsCounterList.enclosed (tok k.OpenRound _) (AreCounters.last (IsCounter.counter (AreBounds.upper (an_expr source one 7 _).1) IsStep.one IsPar.none)) (tok k.CloseRound _))
          (tok k.OpenCurly _) (AreBinds.alone (a_name source one _).1) (tok k.Arrow _) (AreStmts.no_stmts MayBreak.none) (tok k.CloseCurly x),
    )

    controllers : (ts : List Token) (style : Option Style) (b : Put) → StylePut style b → Continued (controller source inner style ts) ts (λ d. KindPut source one (λ x. b (d x)))
    unfolding controller
    controllers ts style b has =
        chosen ts k.Foreach refl (λ t word. foreachs style b t has word)
        (chosen ts k.Reduce refl (λ t word. combinings c.Reduce style b k.Reduce t reduces has word)
        (chosen ts k.Fold refl (λ t word. combinings c.Fold style b k.Fold t folds has word)
        (chosen ts k.MemReduce refl (λ t word. combinings c.MemReduce style b k.MemReduce t reduces_memories has word) (refused a_kind _ (a_loop style b has)))))

    styleds : (us : List Token) (style : Style) (word : TokenKind) (t : Token) → IsBlock word style → IsStyle word style → IsToken word t → Continued (styled source inner style us) us (λ d. KindPut source one (λ x. t ∷ d x))
    unfolding styled
    styleds us style word t is may takes = chosen us k.Dot refl (λ s dot. controllers (tail_of us) (Some style) (λ x. t ∷ s ∷ x) (λ x. MayHaveStyle.some may (takes _) (dot x))) (blocks style word t is takes)

    abbrev ArrowPut : Put → Type 0
    ArrowPut d = (x : List Token) → (i : PlainIdent) × (e : PlainExpr) × IsArrow source (d x) x i e

    arrows : {ts : List Token} → Continued (arrow source ts) ts ArrowPut
    unfolding arrow
    arrows = bound (names source one) (λ i _ _ p. bound (skips k.Arrow refl) (λ _ _ _ word. bound (whole_goes source one) (λ e _ _ q. given (i, e) (λ x. (_, _, IsArrow.arrow (p _).1 (word _) (q x).1)))))

    abbrev InRound : (List Token → List Token → Type 0) → Put → Type 0
    InRound G d = (x : List Token) → (a b : List Token) × Takes k.OpenRound (d x) a × G a b × Takes k.CloseRound b x

    enclosed_arrows : {ts : List Token} → Continued (enclosed_arrow source ts) ts (InRound (λ a b. (i : PlainIdent) × (e : PlainExpr) × IsArrow source a b i e))
    unfolding enclosed_arrow
    enclosed_arrows = bound (skips k.OpenRound refl) (λ _ _ _ opened. bound arrows (λ p _ _ is. bound (skips k.CloseRound refl) (λ _ _ _ close. given p (λ x. (_, _, opened _, is _, close x)))))

    enclosed_exprs : {ts : List Token} → Continued (enclosed_expr source ts) ts (InRound (λ a b. (e : PlainExpr) × IsWholeExpr source a b e))
    unfolding enclosed_expr
    enclosed_exprs = bound (skips k.OpenRound refl) (λ _ _ _ opened. bound (whole_goes source one) (λ e _ _ is. bound (skips k.CloseRound refl) (λ _ _ _ close. given e (λ x. (_, _, opened _, is _, close x)))))

    abbrev BodyPut : Put → Type 0
    BodyPut h = (x : List Token) → (a b c d : List Token) × (i : PlainIdent) × (all : List PlainStmt) × Takes k.OpenCurly (h x) a × IsName source a b i × Takes k.Arrow b c × AreStmts source c d all × Takes k.CloseCurly d x

    bound_bodies : {ts : List Token} → Continued (bound_body source inner ts) ts BodyPut
    unfolding bound_body
    bound_bodies = bound (skips k.OpenCurly refl) (λ _ _ _ opened. bound (names source one) (λ i _ _ p. bound (skips k.Arrow refl) (λ _ _ _ arrow. bound stmts_goes (λ all _ _ q. bound (skips k.CloseCurly refl) (λ _ _ _ close.
        given (i, all) (λ x. (_, _, _, _, _, _, opened _, (p _).1, arrow _, (q _).1, close x)))))))

    fsms : {us : List Token} (t : Token) → IsToken k.Fsm t → Continued (a_fsm source inner us) us (λ d. KindPut source one (λ x. t ∷ d x))
    unfolding a_fsm
    fsms t word = bound enclosed_exprs (λ start _ _ p. bound enclosed_arrows (λ test _ _ q. bound bound_bodies (λ state _ _ r. bound (skips k.OpenCurly refl) (λ _ _ _ opened.
        bound arrows (λ next _ _ s. bound (skips k.CloseCurly refl) (λ _ _ _ close.
        given (fsm start test.0 test.1 state.0 (body state.1) next.0 next.1)
        (λ x. let e = p _ in let f = q _ in let g = r _ in (_, IsKind.an_fsm (word _) e.2 e.3.1 e.4 f.2 f.3.2 f.4 g.6 g.7 g.8 g.9 g.10 (opened _) (s _).2 (close x)))))))))

    otherwises : (ts : List Token) → Continued (otherwise inner ts) ts (Spelled (MayElse source))
    otherwises ts = chosen ts k.Else refl (λ t word. weaker (λ d p x. (_, MayElse.an_else (word _) (p x).1)) braceds) (given [] (λ x. (_, MayElse.no_else)))

    branches : {us : List Token} (t : Token) → IsToken k.If t → Continued (a_branch source inner us) us (λ d. KindPut source one (λ x. t ∷ d x))
    unfolding a_branch
    branches t word = bound enclosed_exprs (λ test _ _ p. bound braceds (λ first us _ q. bound (otherwises us) (λ second _ _ r. given (branch test (body first) (body second)) (λ x. let e = p _ in (_, IsKind.a_branch (word _) e.2 e.3.1 e.4 (q _).1 (r x).1)))))

    kind_goes : (wanted : TokenKind) (ts : List Token) → kind_of ts ≡ wanted → Continued (kind_by source inner wanted ts) ts (KindPut source one)
    kind_goes k.Val ts is = eaten ts k.Val refl is (λ t word. vals source one t word)
    kind_goes k.Pipe ts is = eaten ts k.Pipe refl is (λ t word. styleds (tail_of ts) Pipe k.Pipe t IsBlock.pipe IsStyle.pipe word)
    kind_goes k.Sequential ts is = eaten ts k.Sequential refl is (λ t word. styleds (tail_of ts) Sequential k.Sequential t IsBlock.sequential IsStyle.sequential word)
    kind_goes k.Parallel ts is = eaten ts k.Parallel refl is (λ t word. blocks Parallel k.Parallel t IsBlock.parallel word)
    kind_goes k.Stream ts is = eaten ts k.Stream refl is (λ t word. blocks Stream k.Stream t IsBlock.stream word)
    kind_goes k.Fsm ts is = eaten ts k.Fsm refl is (λ t word. fsms t word)
    kind_goes k.If ts is = eaten ts k.If refl is (λ t word. branches t word)
    kind_goes k.Foreach ts is = controllers ts None (λ x. x) (λ x. MayHaveStyle.none)
    kind_goes k.Reduce ts is = controllers ts None (λ x. x) (λ x. MayHaveStyle.none)
    kind_goes k.Fold ts is = controllers ts None (λ x. x) (λ x. MayHaveStyle.none)
    kind_goes k.MemReduce ts is = controllers ts None (λ x. x) (λ x. MayHaveStyle.none)
    kind_goes _ ts is = on_names source one

    kinds : (ts : List Token) → Continued (kind source inner ts) ts (KindPut source one)
    unfolding kind
    kinds ts = kind_goes (kind_of ts) ts refl

  pub stmt_goes : (depth : ℕ) (ts : List Token) → Continued (stmt source depth ts) ts (Spelled (IsStmt source))
  unfolding stmt
  stmt_goes zero ts = refused (node 0 a_kind) _ (λ x. (_, IsStmt.stands (a_set x).1))
  stmt_goes (suc depth) ts = bound (kinds (stmt source depth) (stmt_goes depth) ts) (λ s _ _ p. given (node (place_of ts) s) (λ x. (_, IsStmt.stands (p x).1)))

  pub braced_goes : (depth : ℕ) {ts : List Token} → Continued (braced (stmt source depth) ts) ts (Spelled (IsBraced source))
  braced_goes depth = braceds (stmt source depth) (stmt_goes depth)
