-- Statements that hold others.
use Rattle.std.proofs.Common.{◌≡◌, ◌∙◌, ℕ, zero, suc, Bool, true, false, List, [], ◌∷◌, ◌++◌, length, Option, Some, None, Result, Ok, Err, refl, sym, subst, if◌then◌else◌}
use Rattle.std.proofs.lemmas.List.{append-nil, append_assoc}
use Rattle.sp_words.specs.declared.kind.Style.{Style}
use Rattle.sp_words.specs.declared.kind.Style.TheVariants.{Pipe, Sequential, Parallel, Stream}
use Rattle.sp_reader.specs.declared.grammar.statement.Combining.{Combining}
use Rattle.sp_reader.specs.declared.grammar.statement.Combining.TheVariants as c
use Rattle.sp_reader.specs.declared.token.Token.{Token}
use Rattle.sp_reader.specs.declared.token.TokenKind.{TokenKind}
use Rattle.sp_reader.specs.declared.token.TokenKind.TheVariants as k
use Rattle.sp_reader.specs.PlainTree.{PlainExpr}
use Rattle.sp_reader.specs.PlainStatement.{PlainStmt, stmt as node, block, foreach, fsm, branch, body}
use Rattle.sp_reader.specs.SimpleRules.{is_value}
use Rattle.sp_reader.specs.StatementRules.{head, combined_by, stmts_from, stmts, braced, last_value, value_or, valued_from, valued, styled_block, a_foreach, a_combining, controller, styled, arrow, enclosed_arrow, enclosed_expr, bound_body, a_fsm, otherwise, a_branch, kind_by, kind, stmt}
use Rattle.sp_reader.specs.Steps.{Text, Rule, ◌>>=◌, kind_of, tail_of, place_of, sees, skip, semicolons}
use Rattle.sp_grammar.specs.Tokens.{Takes, IsBreak, MayBreak, IsName}
use Rattle.sp_grammar.specs.Loops.{IsWholeExpr}
use Rattle.sp_grammar.specs.Statements.{IsBlock, IsStyle, MayHaveStyle, IsCombining, IsArrow, IsStmt, AreMore, AreStmts, AreValued, IsValued, IsBraced, MayElse, IsKind, reduces, folds, reduces_memories}
use Rattle.sp_grammar.proofs.Again.{semicolon}
use Rattle.sp_grammar.proofs.Exprs.{whole_go}
use Rattle.sp_grammar.proofs.Loops.{counter_lists, binds_go, enclosed_name_go, combiner_go}
use Rattle.sp_grammar.proofs.Rules.{Reads, takes_next, given, leaves, refused, bound, seen, skips, weaker, may_break, is_break}
use Rattle.sp_grammar.proofs.Simple.{vals, on_names}
use Rattle.sp_grammar.proofs.Words.{names}

pub break_here : (ts : List Token) → Takes k.Semicolon ts (tail_of ts) → IsBreak ts (semicolons ts)
break_here ts takes = subst (IsBreak ts) (sym (semicolon takes)) (is_break (tail_of ts) takes)

module _ (source : Text) (inner : Rule PlainStmt) (within : (ts : List Token) → Reads inner ts (λ s us. IsStmt source ts us s)) where
  inside : {ts : List Token} → Reads inner ts (λ s us. IsStmt source ts us s)
  inside {ts} = within ts

  -- ---- bodies

  -- statements up to these tokens, with `;` that may follow
  abbrev After : List Token → List Token → List PlainStmt → Type 0
  After ts us [] = ts ≡ us
  After ts us (s ∷ rest) = (vs : List Token) × AreMore source ts vs (s ∷ rest) × MayBreak vs us

  after_next : {ts us vs : List Token} {s : PlainStmt} (rest : List PlainStmt) → IsStmt source ts us s → IsBreak us (semicolons us) → After (semicolons us) vs rest → After ts vs (s ∷ rest)
  after_next {us = us} [] p brk same = (us, AreMore.last_stmt p, MayBreak.some (subst (IsBreak us) same brk))
  after_next (x ∷ rest) p brk more = (more.0, AreMore.next_stmt p brk more.1, more.2)

  abbrev StmtsFrom : List PlainStmt → List Token → List PlainStmt → List Token → Type 0
  StmtsFrom before ts all us = (rest : List PlainStmt) × (all ≡ before ++ rest) × After ts us rest

  stmts_go_from : (n : ℕ) {ts : List Token} (found : List PlainStmt) → Reads (stmts_from inner n found) ts (StmtsFrom found ts)
  unfolding stmts_from
  stmts_go_from zero found = refused
  stmts_go_from (suc n) {ts} found = record { run = λ all us h. go all us (λ s vs. stmts_go_from n {ts = vs} (found ++ s ∷ [])) (sees k.CloseCurly ts) h }
    where
      by_break : ((s : PlainStmt) (vs : List Token) → Reads (stmts_from inner n (found ++ s ∷ [])) vs (StmtsFrom (found ++ s ∷ []) vs)) → (s : PlainStmt) (us : List Token) → IsStmt source ts us s
          → Reads (λ us. if sees k.Semicolon us then stmts_from inner n (found ++ s ∷ []) (semicolons us) else Ok (found ++ s ∷ [], us)) us (StmtsFrom found ts)
      by_break next s us p = record {
        run = seen us k.Semicolon refl
            (λ takes all vs h. let more = (next s (semicolons us)).run all vs h in (s ∷ more.0, more.1 ∙ append_assoc found (s ∷ []) more.0, after_next more.0 p (break_here us takes) more.2))
            (λ _. (given {P = StmtsFrom found ts} {ts = us} (found ++ s ∷ []) (s ∷ [], refl, (us, AreMore.last_stmt p, MayBreak.none))).run);
      }

      go : (all : List PlainStmt) (us : List Token) → ((s : PlainStmt) (vs : List Token) → Reads (stmts_from inner n (found ++ s ∷ [])) vs (StmtsFrom (found ++ s ∷ []) vs)) → (b : Bool)
          → (if b then Ok (found, ts) else (inner >>= λ s. λ us. if sees k.Semicolon us then stmts_from inner n (found ++ s ∷ []) (semicolons us) else Ok (found ++ s ∷ [], us)) ts) ≡ Ok (all, us)
          → StmtsFrom found ts all us
      go all us next true h = (given {P = StmtsFrom found ts} {ts = ts} found ([], sym (append-nil found), refl)).run all us h
      go all us next false h = (bound {Q = StmtsFrom found ts} (inside {ts = ts}) (λ s us p. by_break next s us p)).run all us h

  all_of : {ts us : List Token} (all : List PlainStmt) → After (semicolons ts) us all → AreStmts source ts us all
  all_of {ts} {us} [] same = AreStmts.no_stmts (subst (MayBreak ts) same (may_break ts))
  all_of {ts} (s ∷ rest) more = AreStmts.some_stmts (may_break ts) more.1 more.2

  stmts_go : {ts : List Token} → Reads (stmts inner) ts (λ all us. AreStmts source ts us all)
  stmts_go {ts} = record { run = λ all us h. let more = (stmts_go_from (length ts) {ts = semicolons ts} []).run all us h in all_of all (subst (After (semicolons ts) us) (sym more.1) more.2) }

  braceds : {ts : List Token} → Reads (braced inner) ts (λ all us. IsBraced source ts us all)
  unfolding braced
  braceds = bound (skips k.OpenCurly refl) (λ _ _ opened. bound stmts_go (λ all _ p. bound (skips k.CloseCurly refl) (λ _ _ close. given all (IsBraced.braced opened p close))))

  abbrev ValuedFrom : List PlainStmt → List Token → List PlainStmt × PlainExpr → List Token → Type 0
  ValuedFrom before ts v us = (rest : List PlainStmt) × (vs : List Token) × (v.0 ≡ before ++ rest) × AreValued source ts vs rest v.1 × MayBreak vs us

  last_values : {ts : List Token} (found : List PlainStmt) → Reads (last_value source found) ts (ValuedFrom found ts)
  unfolding last_value
  last_values {ts} found = bound (whole_go source) (λ e us p. leaves {us = semicolons us} (found, e) refl ([], us, sym (append-nil found), AreValued.value_alone p, may_break us))

  valued_go_from : (n : ℕ) {ts : List Token} (found : List PlainStmt) → Reads (valued_from source inner n found) ts (ValuedFrom found ts)
  unfolding valued_from
  valued_go_from zero found = refused
  valued_go_from (suc n) {ts} found = record { run = λ v us h. go v us (λ s vs. valued_go_from n {ts = vs} (found ++ s ∷ [])) (is_value source ts) h }
    where
      go : (v : List PlainStmt × PlainExpr) (us : List Token) → ((s : PlainStmt) (vs : List Token) → Reads (valued_from source inner n (found ++ s ∷ [])) vs (ValuedFrom (found ++ s ∷ []) vs)) → (r : Result Bool ℕ)
          → value_or r (last_value source found) (inner >>= λ s. skip k.Semicolon >>= λ _. λ us. valued_from source inner n (found ++ s ∷ []) (semicolons us)) ts ≡ Ok (v, us) → ValuedFrom found ts v us
      go v us next (Err e) h = absurd (cc)
      go v us next (Ok true) h = (last_values found).run v us h
      go v us next (Ok false) h = (bound {Q = ValuedFrom found ts} (inside {ts = ts}) (λ s _ p. bound (skips k.Semicolon refl) (λ _ vs takes.
          record {
            run = λ w ws g.
                let more = (next s (semicolons vs)).run w ws g in
                (s ∷ more.0, more.1, more.2 ∙ append_assoc found (s ∷ []) more.0, AreValued.before_value p (is_break vs takes) more.3, more.4);
          }))).run v us h

  valued_go : {ts : List Token} → Reads (valued source inner) ts (λ v us. IsValued source ts us v.0 v.1)
  valued_go {ts} = record {
    run = λ v us h.
        let more = (valued_go_from (length ts) {ts = semicolons ts} []).run v us h in
        IsValued.valued (may_break ts) (subst (λ all. AreValued source (semicolons ts) more.1 all v.1) (sym more.2) more.3) more.4;
  }

  -- ---- controllers

  blocks : {ts us : List Token} {word : TokenKind} (style : Style) → IsBlock word style → Takes word ts us → Reads (styled_block inner style) us (λ s vs. IsKind source ts vs s)
  unfolding styled_block
  blocks style is takes = bound braceds (λ all _ p. given (block style (body all)) (IsKind.a_block is takes p))

  foreachs : {ts us vs : List Token} (style : Option Style) → MayHaveStyle ts us style → Takes k.Foreach us vs → Reads (a_foreach source inner style) vs (λ s ws. IsKind source ts ws s)
  unfolding a_foreach
  foreachs style has word = bound (counter_lists source) (λ cs _ p. bound (skips k.OpenCurly refl) (λ _ _ opened. bound (binds_go source) (λ is _ q.
      bound (skips k.Arrow refl) (λ _ _ arrow. bound stmts_go (λ all _ r. bound (skips k.CloseCurly refl) (λ _ _ close.
      given (foreach (head style cs is) (body all)) (IsKind.a_foreach has word p opened q arrow r close)))))))

  combinings : {ts us vs : List Token} (which : Combining) (style : Option Style) {word : TokenKind} → IsCombining word (combined_by which) → MayHaveStyle ts us style → Takes word us vs
      → Reads (a_combining source inner which style) vs (λ s ws. IsKind source ts ws s)
  unfolding a_combining
  combinings which style makes_it has word = bound (enclosed_name_go source) (λ acc _ a. bound (counter_lists source) (λ cs _ p. bound (skips k.OpenCurly refl) (λ _ _ opened.
      bound (binds_go source) (λ is _ q. bound (skips k.Arrow refl) (λ _ _ arrow. bound valued_go (λ v _ r. bound (skips k.CloseCurly refl) (λ _ _ close.
      bound (combiner_go source) (λ comb _ s. given (combined_by which (head style cs is) (body v.0) acc v.1 comb)
      (IsKind.a_combining makes_it has word a.2 a.3 a.4 p opened q arrow r close s)))))))))

  controllers : {ts us : List Token} (style : Option Style) → MayHaveStyle ts us style → Reads (controller source inner style) us (λ s vs. IsKind source ts vs s)
  unfolding controller
  controllers {ts} {us} style has = record {
    run = seen us k.Foreach refl (λ word. (foreachs style has word).run)
        (λ _. seen us k.Reduce refl (λ word. (combinings c.Reduce style reduces has word).run)
        (λ _. seen us k.Fold refl (λ word. (combinings c.Fold style folds has word).run)
        (λ _. seen us k.MemReduce refl (λ word. (combinings c.MemReduce style reduces_memories has word).run) (λ _. (refused {P = λ s vs. IsKind source ts vs s} {ts = us}).run))));
  }

  styleds : {ts us : List Token} {word : TokenKind} (style : Style) → IsBlock word style → IsStyle word style → Takes word ts us → Reads (styled source inner style) us (λ s vs. IsKind source ts vs s)
  unfolding styled
  styleds {ts} {us} style is may takes = record { run = seen us k.Dot refl (λ dot. (controllers (Some style) (MayHaveStyle.some may takes dot)).run) (λ _. (blocks style is takes).run) }

  arrows : {ts : List Token} → Reads (arrow source) ts (λ p us. IsArrow source ts us p.0 p.1)
  unfolding arrow
  arrows = bound (names source) (λ i _ p. bound (skips k.Arrow refl) (λ _ _ word. bound (whole_go source) (λ e _ q. given (i, e) (IsArrow.arrow p word q))))

  enclosed_arrows : {ts : List Token} → Reads (enclosed_arrow source) ts (λ p c. (a b : List Token) × Takes k.OpenRound ts a × IsArrow source a b p.0 p.1 × Takes k.CloseRound b c)
  unfolding enclosed_arrow
  enclosed_arrows = bound (skips k.OpenRound refl) (λ _ a opened. bound arrows (λ p b is. bound (skips k.CloseRound refl) (λ _ _ close. given p (a, b, opened, is, close))))

  enclosed_exprs : {ts : List Token} → Reads (enclosed_expr source) ts (λ e c. (a b : List Token) × Takes k.OpenRound ts a × IsWholeExpr source a b e × Takes k.CloseRound b c)
  unfolding enclosed_expr
  enclosed_exprs = bound (skips k.OpenRound refl) (λ _ a opened. bound (whole_go source) (λ e b is. bound (skips k.CloseRound refl) (λ _ _ close. given e (a, b, opened, is, close))))

  bound_bodies : {ts : List Token} → Reads (bound_body source inner) ts (λ p e. (a b c d : List Token) × Takes k.OpenCurly ts a × IsName source a b p.0 × Takes k.Arrow b c × AreStmts source c d p.1 × Takes k.CloseCurly d e)
  unfolding bound_body
  bound_bodies = bound (skips k.OpenCurly refl) (λ _ a opened. bound (names source) (λ i b p. bound (skips k.Arrow refl) (λ _ c arrow. bound stmts_go (λ all d q. bound (skips k.CloseCurly refl) (λ _ _ close.
      given (i, all) (a, b, c, d, opened, p, arrow, q, close))))))

  fsms : {ts us : List Token} → Takes k.Fsm ts us → Reads (a_fsm source inner) us (λ s vs. IsKind source ts vs s)
  unfolding a_fsm
  fsms word = bound enclosed_exprs (λ start _ p. bound enclosed_arrows (λ test _ q. bound bound_bodies (λ state _ r. bound (skips k.OpenCurly refl) (λ _ _ opened.
      bound arrows (λ next _ s. bound (skips k.CloseCurly refl) (λ _ _ close.
      given (fsm start test.0 test.1 state.0 (body state.1) next.0 next.1) (IsKind.an_fsm word p.2 p.3 p.4 q.2 q.3 q.4 r.4 r.5 r.6 r.7 r.8 opened s close)))))))

  otherwises : {ts : List Token} → Reads (otherwise inner) ts (λ all us. MayElse source ts us all)
  otherwises {ts} = record {
    run = seen ts k.Else refl (λ word. (weaker {P = λ all us. IsBraced source (tail_of ts) us all} {Q = λ all us. MayElse source ts us all} (λ all us p. MayElse.an_else word p) braceds).run)
        (λ _. (given {P = λ all us. MayElse source ts us all} {ts = ts} [] MayElse.no_else).run);
  }

  branches : {ts us : List Token} → Takes k.If ts us → Reads (a_branch source inner) us (λ s vs. IsKind source ts vs s)
  unfolding a_branch
  branches word = bound enclosed_exprs (λ test _ p. bound braceds (λ first _ q. bound otherwises (λ second _ r. given (branch test (body first) (body second)) (IsKind.a_branch word p.2 p.3 p.4 q r))))

  kind_goes : (wanted : TokenKind) (ts : List Token) → kind_of ts ≡ wanted → Reads (kind_by source inner wanted) ts (λ s us. IsKind source ts us s)
  kind_goes k.Val ts is = record { run = (vals source (takes_next k.Val ts refl is)).run }
  kind_goes k.Pipe ts is = record { run = (styleds Pipe IsBlock.pipe IsStyle.pipe (takes_next k.Pipe ts refl is)).run }
  kind_goes k.Sequential ts is = record { run = (styleds Sequential IsBlock.sequential IsStyle.sequential (takes_next k.Sequential ts refl is)).run }
  kind_goes k.Parallel ts is = record { run = (blocks Parallel IsBlock.parallel (takes_next k.Parallel ts refl is)).run }
  kind_goes k.Stream ts is = record { run = (blocks Stream IsBlock.stream (takes_next k.Stream ts refl is)).run }
  kind_goes k.Fsm ts is = record { run = (fsms (takes_next k.Fsm ts refl is)).run }
  kind_goes k.If ts is = record { run = (branches (takes_next k.If ts refl is)).run }
  kind_goes k.Foreach ts is = controllers None MayHaveStyle.none
  kind_goes k.Reduce ts is = controllers None MayHaveStyle.none
  kind_goes k.Fold ts is = controllers None MayHaveStyle.none
  kind_goes k.MemReduce ts is = controllers None MayHaveStyle.none
  kind_goes _ ts is = on_names source

  kinds : {ts : List Token} → Reads (kind source inner) ts (λ s us. IsKind source ts us s)
  unfolding kind
  kinds {ts} = record { run = (kind_goes (kind_of ts) ts refl).run }

module _ (source : Text) where
  pub stmt_go : (depth : ℕ) (ts : List Token) → Reads (stmt source depth) ts (λ s us. IsStmt source ts us s)
  unfolding stmt
  stmt_go zero ts = refused
  stmt_go (suc depth) ts = record { run = (bound {Q = λ s us. IsStmt source ts us s} (kinds source (stmt source depth) (λ us. stmt_go depth us) {ts = ts}) (λ s _ p. given (node (place_of ts) s) (IsStmt.stands p))).run }

  pub braced_go : (depth : ℕ) (ts : List Token) → Reads (braced (stmt source depth)) ts (λ all us. IsBraced source ts us all)
  braced_go depth ts = braceds source (stmt source depth) (λ us. stmt_go depth us)
