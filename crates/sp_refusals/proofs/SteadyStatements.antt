-- Statements that hold others.
use Rattle.std.proofs.Common.{◌≡◌, ◌∙◌, ℕ, zero, suc, ◌-◌, ◌≤◌, Bool, true, false, List, [], ◌∷◌, ◌++◌, length, Option, Some, None, Ok, refl, sym, ap, subst, arith, if◌then◌else◌}
use Rattle.sp_words.specs.declared.kind.Style.{Style}
use Rattle.sp_words.specs.declared.kind.Style.TheVariants.{Pipe, Sequential, Parallel, Stream}
use Rattle.sp_reader.specs.declared.grammar.statement.Combining.{Combining}
use Rattle.sp_reader.specs.declared.grammar.statement.Combining.TheVariants as c
use Rattle.sp_reader.specs.declared.token.Token.{Token}
use Rattle.sp_reader.specs.declared.token.TokenKind.{TokenKind}
use Rattle.sp_reader.specs.declared.token.TokenKind.TheVariants as k
use Rattle.sp_reader.specs.Names.{ident}
use Rattle.sp_reader.specs.PlainTree.{PlainExpr}
use Rattle.sp_reader.specs.PlainStatement.{PlainStmt, PlainStmtKind, stmt as node, block, foreach, fsm, branch, body}
use Rattle.sp_reader.specs.SimpleRules.{after_name, on_name}
use Rattle.sp_reader.specs.SpanRules.{whole_expr}
use Rattle.sp_reader.specs.StatementRules.{head, combined_by, stmts_from, stmts, braced, last_value, valued_from, valued, styled_block, a_foreach, a_combining, controller, styled, arrow, enclosed_arrow, enclosed_expr, bound_body, a_fsm, otherwise, a_branch, kind_by, kind, stmt}
use Rattle.sp_reader.specs.Steps.{Text, Rule, ◌>>=◌, pure, is_name, kind_of, tail_of, place_of, same_kind, sees, skip, semicolons}
use Rattle.sp_grammar.proofs.Again.{kind_at, tail_at, sees_it, sees_other, name_again, semicolon}
use Rattle.sp_grammar.proofs.AgainStatements.{named_kind}
use Rattle.sp_grammar.proofs.Rules.{takes_seen}
use Rattle.sp_refusals.proofs.Steady.{Texts, Steady, AtMost, most_then, bound, looser, apart, given, refused, looked, tailed, chosen, chosen_at, seen, skip_at, skips, same_as, broken, looped, sized}
use Rattle.sp_refusals.proofs.SteadyWords.{names}
use Rattle.sp_refusals.proofs.SteadyExprs.{whole_go, alone_most, dotted_most, access_most}
use Rattle.sp_refusals.proofs.SteadyLoops.{counter_lists, binds_go, enclosed_name_go, combiner_go}
use Rattle.sp_refusals.proofs.SteadySimple.{vals, enqs, on_names, after_name_go, places_of, on_spans_most}
use Rattle.sp_refusals.proofs.SteadyValues.{TakesNames, AreIndices, AnyPlaces, names_then, values_steady}

-- behind one or more `;`
behind_break : {A : Type 0} {texts : Texts} {R S P Q : Rule A} (m : ℕ) → Steady texts (m - 1) (m - 1) R S → Steady texts m m P Q
    → Steady texts m m (λ us. if sees k.Semicolon us then R (semicolons us) else P us) (λ us. if sees k.Semicolon us then S (semicolons us) else Q us)
behind_break {A} {R = R} {S = S} {P = P} {Q = Q} m first other =
    same_as (same R P) (same S Q) (chosen_at m (m - 1) (omega arith) k.Semicolon (looser (m - 1) (m - 1) m (omega arith) (broken first)) other)
  where
    same : (R P : Rule A) (us : List Token) → (if sees k.Semicolon us then R (semicolons (tail_of us)) else P us) ≡ (if sees k.Semicolon us then R (semicolons us) else P us)
    same R P us = go (sees k.Semicolon us) refl
      where
        go : (b : Bool) → sees k.Semicolon us ≡ b → (if b then R (semicolons (tail_of us)) else P us) ≡ (if b then R (semicolons us) else P us)
        go true is = ap R (sym (semicolon (takes_seen k.Semicolon us refl is)))
        go false is = refl

module _ (source : Text) where
  more_values : Rule PlainStmt → ℕ → List PlainStmt → Rule (List PlainStmt × PlainExpr)
  more_values inside f found = inside >>= λ s. skip k.Semicolon >>= λ _. λ us. valued_from source inside f (found ++ s ∷ []) (semicolons us)

  last_names : (found : List PlainStmt) → TakesNames source (AreIndices source) (last_value source found)
  unfolding last_value
  last_names found = names_then source {R = whole_expr source} (λ e. λ ts. Ok ((found, e), semicolons ts)) (record {
    alone = λ t us n. alone_most source t us n;
    dotted = λ t n dot. dotted_most source t n dot;
    access = λ t n opened h indices. access_most source t n opened h.1 h.2 indices;
  }) (λ e us. (broken {A = List PlainStmt × PlainExpr} {texts = (source, source)} {k = zero} (given (found, e))).within us)

module _ (texts : Texts) (inner nested : Rule PlainStmt) (d : ℕ) (steady : (m : ℕ) → m ≤ d → Steady texts m m inner nested) (inner_names : 1 ≤ d → TakesNames texts.0 (AnyPlaces texts.0) inner) where
  -- ---- bodies

  stmts_go_from : (f g m : ℕ) → m ≤ f → m ≤ g → m ≤ d → (found : List PlainStmt) → Steady texts m m (stmts_from inner f found) (stmts_from nested g found)
  unfolding stmts_from
  stmts_go_from f g m a b c found =
      looped (stmts_from inner) (stmts_from nested) d (λ x z. omega arith)
      (λ f g n le rest found. seen k.CloseCurly (given found) (bound (steady n le) (λ s. behind_break n (rest (n - 1) (omega arith) (found ++ s ∷ [])) (given (found ++ s ∷ [])))))
      f g m a b c found

  stmts_go : (m : ℕ) → m ≤ d → Steady texts m m (stmts inner) (stmts nested)
  stmts_go m le = sized (λ f. λ ts. stmts_from inner f [] (semicolons ts)) (λ f. λ ts. stmts_from nested f [] (semicolons ts)) m (λ f g n less a b. broken (stmts_go_from f g n a b (omega (arith, le, less)) []))

  pub braceds : (m : ℕ) → m ≤ suc d → Steady texts m m (braced inner) (braced nested)
  unfolding braced
  braceds m le = looser m (m - 1) m (omega arith) (bound (skip_at m (m - 1) (omega arith) k.OpenCurly) (λ _. bound (stmts_go (m - 1) (omega (arith, le))) (λ ss. bound (skips k.CloseCurly) (λ _. given ss))))

  last_values : {m : ℕ} (found : List PlainStmt) → Steady texts m m (last_value texts.0 found) (last_value texts.1 found)
  unfolding last_value
  last_values found = bound (whole_go texts) (λ e. broken (given (found, e)))

  valued_go_from : (f g m : ℕ) → m ≤ f → m ≤ g → m ≤ d → (found : List PlainStmt) → Steady texts m m (valued_from texts.0 inner f found) (valued_from texts.1 nested g found)
  unfolding valued_from more_values
  valued_go_from f g m a b c found =
      looped (valued_from texts.0 inner) (valued_from texts.1 nested) d (λ x z. omega arith)
      (λ f g n le rest found.
      values_steady texts n (last_value texts.0 found) (last_value texts.1 found) (more_values texts.0 inner f found) (more_values texts.1 nested g found) (last_values found)
      (bound (steady n le) (λ s. looser n (n - 1) n (omega arith) (bound (skip_at n (n - 1) (omega arith) k.Semicolon) (λ _. broken (rest (n - 1) (omega arith) (found ++ s ∷ []))))))
      (λ _. last_names texts.0 found) (λ some. names_then texts.0 (λ s. skip k.Semicolon >>= λ _. λ us. valued_from texts.0 inner f (found ++ s ∷ []) (semicolons us)) (inner_names (omega (arith, some, le))) (λ s us. (bound (skips {k = zero} k.Semicolon) (λ _. broken (rest zero (omega arith) (found ++ s ∷ [])))).within us)))
      f g m a b c found

  valued_go : (m : ℕ) → m ≤ d → Steady texts m m (valued texts.0 inner) (valued texts.1 nested)
  valued_go m le = sized (λ f. λ ts. valued_from texts.0 inner f [] (semicolons ts)) (λ f. λ ts. valued_from texts.1 nested f [] (semicolons ts)) m (λ f g n less a b. broken (valued_go_from f g n a b (omega (arith, le, less)) []))

  -- ---- controllers

  blocks : (m : ℕ) → m ≤ suc d → (style : Style) → Steady texts m m (styled_block inner style) (styled_block nested style)
  unfolding styled_block
  blocks m le style = bound (braceds m le) (λ ss. given (block style (body ss)))

  foreachs : (m : ℕ) → m ≤ d → (style : Option Style) → Steady texts m m (a_foreach texts.0 inner style) (a_foreach texts.1 nested style)
  unfolding a_foreach
  foreachs m le style = bound (counter_lists texts) (λ cs. bound (skips k.OpenCurly) (λ _. bound (binds_go texts) (λ is. bound (skips k.Arrow) (λ _. bound (stmts_go m le) (λ ss. bound (skips k.CloseCurly) (λ _.
      given (foreach (head style cs is) (body ss))))))))

  combinings : (m : ℕ) → m ≤ d → (which : Combining) (style : Option Style) → Steady texts m m (a_combining texts.0 inner which style) (a_combining texts.1 nested which style)
  unfolding a_combining
  combinings m le which style = bound (enclosed_name_go texts) (λ i. bound (counter_lists texts) (λ cs. bound (skips k.OpenCurly) (λ _. bound (binds_go texts) (λ is. bound (skips k.Arrow) (λ _.
      bound (valued_go m le) (λ v. bound (skips k.CloseCurly) (λ _. bound (combiner_go texts) (λ comb. given (combined_by which (head style cs is) (body v.0) i v.1 comb)))))))))

  -- behind its word
  behind_word : {R S P Q : Rule PlainStmtKind} (m : ℕ) (wanted : TokenKind) → Steady texts (m - 1) (m - 1) R S → Steady texts m m P Q
      → Steady texts m m (λ ts. if sees wanted ts then R (tail_of ts) else P ts) (λ ts. if sees wanted ts then S (tail_of ts) else Q ts)
  behind_word m wanted first other = chosen_at m (m - 1) (omega arith) wanted (looser (m - 1) (m - 1) m (omega arith) first) other

  controllers : (m : ℕ) → m ≤ suc d → (style : Option Style) → Steady texts m m (controller texts.0 inner style) (controller texts.1 nested style)
  unfolding controller
  controllers m le style =
      behind_word m k.Foreach (foreachs (m - 1) (omega (arith, le)) style)
      (behind_word m k.Reduce (combinings (m - 1) (omega (arith, le)) c.Reduce style)
      (behind_word m k.Fold (combinings (m - 1) (omega (arith, le)) c.Fold style)
      (behind_word m k.MemReduce (combinings (m - 1) (omega (arith, le)) c.MemReduce style) refused)))

  styleds : (m : ℕ) → m ≤ suc d → (style : Style) → Steady texts m m (styled texts.0 inner style) (styled texts.1 nested style)
  unfolding styled
  styleds m le style = chosen k.Dot (controllers m le (Some style)) (blocks m le style)

  arrows : {m : ℕ} → Steady texts m m (arrow texts.0) (arrow texts.1)
  unfolding arrow
  arrows = bound (names texts) (λ i. bound (skips k.Arrow) (λ _. bound (whole_go texts) (λ e. given (i, e))))

  enclosed_arrows : {m : ℕ} → Steady texts m m (enclosed_arrow texts.0) (enclosed_arrow texts.1)
  unfolding enclosed_arrow
  enclosed_arrows = bound (skips k.OpenRound) (λ _. bound arrows (λ p. bound (skips k.CloseRound) (λ _. given p)))

  enclosed_exprs : {m : ℕ} → Steady texts m m (enclosed_expr texts.0) (enclosed_expr texts.1)
  unfolding enclosed_expr
  enclosed_exprs = bound (skips k.OpenRound) (λ _. bound (whole_go texts) (λ e. bound (skips k.CloseRound) (λ _. given e)))

  bound_bodies : (m : ℕ) → m ≤ d → Steady texts m m (bound_body texts.0 inner) (bound_body texts.1 nested)
  unfolding bound_body
  bound_bodies m le = bound (skips k.OpenCurly) (λ _. bound (names texts) (λ i. bound (skips k.Arrow) (λ _. bound (stmts_go m le) (λ ss. bound (skips k.CloseCurly) (λ _. given (i, ss))))))

  fsms : (m : ℕ) → m ≤ d → Steady texts m m (a_fsm texts.0 inner) (a_fsm texts.1 nested)
  unfolding a_fsm
  fsms m le = bound enclosed_exprs (λ start. bound enclosed_arrows (λ test. bound (bound_bodies m le) (λ state. bound (skips k.OpenCurly) (λ _. bound arrows (λ next. bound (skips k.CloseCurly) (λ _.
      given (fsm start test.0 test.1 state.0 (body state.1) next.0 next.1)))))))

  otherwises : (m : ℕ) → m ≤ d → Steady texts m m (otherwise inner) (otherwise nested)
  otherwises m le = chosen k.Else (braceds m (omega (arith, le))) (given [])

  branches : (m : ℕ) → m ≤ d → Steady texts m m (a_branch texts.0 inner) (a_branch texts.1 nested)
  unfolding a_branch
  branches m le = bound enclosed_exprs (λ test. bound (braceds m (omega (arith, le))) (λ first. bound (otherwises m le) (λ second. given (branch test (body first) (body second)))))

  behind_first : {R S : Rule PlainStmtKind} (m : ℕ) → Steady texts (m - 1) (m - 1) R S → Steady texts m m (λ ts. R (tail_of ts)) (λ ts. S (tail_of ts))
  behind_first m more = tailed m (m - 1) (omega arith) (looser (m - 1) (m - 1) m (omega arith) more)

  kind_goes : (m : ℕ) → m ≤ suc d → (wanted : TokenKind) → Steady texts m m (kind_by texts.0 inner wanted) (kind_by texts.1 nested wanted)
  kind_goes m le k.Val = behind_first m (vals texts)
  kind_goes m le k.Pipe = behind_first m (styleds (m - 1) (omega (arith, le)) Pipe)
  kind_goes m le k.Sequential = behind_first m (styleds (m - 1) (omega (arith, le)) Sequential)
  kind_goes m le k.Parallel = behind_first m (blocks (m - 1) (omega (arith, le)) Parallel)
  kind_goes m le k.Stream = behind_first m (blocks (m - 1) (omega (arith, le)) Stream)
  kind_goes m le k.Fsm = behind_first m (fsms (m - 1) (omega (arith, le)))
  kind_goes m le k.If = behind_first m (branches (m - 1) (omega (arith, le)))
  kind_goes m le k.Foreach = controllers m le None
  kind_goes m le k.Reduce = controllers m le None
  kind_goes m le k.Fold = controllers m le None
  kind_goes m le k.MemReduce = controllers m le None
  kind_goes m le _ = on_names texts

  kinds : (m : ℕ) → m ≤ suc d → Steady texts m m (kind texts.0 inner) (kind texts.1 nested)
  unfolding kind kind_of
  kinds m le = looked kind_of (kind_by texts.0 inner) (kind_by texts.1 nested) (λ t q z w. refl) (kind_goes m le)

module _ (source : Text) where
  -- a statement that begins with a name
  named_stmt : (f n : ℕ) (t : Token) (us : List Token) → is_name t.kind ≡ true → AtMost n (after_name source (ident source (t ∷ us)) us) → AtMost n (stmt source (suc f) (t ∷ us))
  unfolding stmt kind on_name kind_of
  named_stmt f n t us is h =
      let named = name_again source (t ∷ us) (record { token = t; is = refl; named = is; spells = refl }) in
      let read : on_name source (t ∷ us) ≡ after_name source (ident source (t ∷ us)) us = rw named refl in
      let whole : kind source (stmt source f) (t ∷ us) ≡ after_name source (ident source (t ∷ us)) us = ap (λ (r : Rule PlainStmtKind). r (t ∷ us)) (named_kind source (stmt source f) t.kind is) ∙ read in
      most_then n (kind source (stmt source f) (t ∷ us)) (λ s. pure (node (place_of (t ∷ us)) s)) (subst (AtMost n) (sym whole) h) (λ s vs. omega arith)

  pub stmt_names : (f : ℕ) → 1 ≤ f → TakesNames source (AnyPlaces source) (stmt source f)
  unfolding after_name same_kind
  stmt_names zero some = absurd (omega (arith, some))
  stmt_names (suc f) some = record {
    alone = λ t us n. named_stmt f (length us) t us n ((after_name_go (source, source) {m = zero} (ident source (t ∷ us))).within us);
    dotted = λ t {ts = ts} {us = us} n dot. named_stmt f (length us) t ts n (rw (sees_other k.Dot k.Assign ts (kind_at ts dot) refl, sees_it ts dot, tail_at ts dot) ((enqs (source, source) {m = zero} (ident source (t ∷ ts))).within us));
    access = λ t {ts = ts} {inside = inside} {vs = vs} {all = all} n opened h any.
        let read = places_of source h in
        named_stmt f (length vs) t ts n (rw (
          sees_other k.OpenRound k.Assign ts (kind_at ts opened) refl,
          sees_other k.OpenRound k.Dot ts (kind_at ts opened) refl,
          sees_other k.OpenRound k.Load ts (kind_at ts opened) refl,
          sees_other k.OpenRound k.Gather ts (kind_at ts opened) refl,
          sees_it ts opened,
          tail_at ts opened,
        ) (on_spans_most source (ident source (t ∷ ts)) (length vs) inside (rw read (omega arith))));
  }

  stmt_at : Rule PlainStmt → ℕ → Rule PlainStmt
  stmt_at inside at = kind source inside >>= λ s. pure (node at s)

module _ (texts : Texts) where
  stmt_turn : (f g m : ℕ) → ((n : ℕ) → n ≤ m - 1 → Steady texts n n (stmt texts.0 f) (stmt texts.1 g)) → m ≤ suc f → Steady texts m m (stmt texts.0 (suc f)) (stmt texts.1 (suc g))
  unfolding stmt place_of stmt_at
  stmt_turn f g m rest le =
      looked place_of (stmt_at texts.0 (stmt texts.0 f)) (stmt_at texts.1 (stmt texts.1 g)) (λ t q z w. refl)
      (λ at. bound (kinds texts (stmt texts.0 f) (stmt texts.1 g) (m - 1) rest (λ some. stmt_names texts.0 f (omega (arith, some, le))) m (omega arith)) (λ s. given (node at s)))

  -- what is read of a statement doesn't hang on how deep others may stand in it, as long as that is enough
  pub stmt_go : (f g m : ℕ) → m ≤ f → m ≤ g → Steady texts m m (stmt texts.0 f) (stmt texts.1 g)
  unfolding stmt place_of
  stmt_go zero g zero a b = apart (λ z. omega arith)
  stmt_go zero g (suc m) a b = absurd (omega (arith, a))
  stmt_go (suc f) zero zero a b = apart (stmt_turn f f zero (λ m le. stmt_go f f m (omega (arith, le)) (omega (arith, le))) (omega arith)).within
  stmt_go (suc f) zero (suc m) a b = absurd (omega (arith, b))
  stmt_go (suc f) (suc g) m a b = stmt_turn f g m (λ n le. stmt_go f g n (omega (arith, le, a)) (omega (arith, le, b))) a
