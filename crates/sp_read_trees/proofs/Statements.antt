-- Statements that hold others.
use Rattle.std.proofs.Common.{◌≡◌, ℕ, zero, suc, ◌+◌, ◌≤◌, Bool, true, false, List, [], ◌∷◌, ◌++◌, length, Option, Some, None, Result, Ok, Err, refl, arith, if◌then◌else◌}
use Rattle.sp_words.specs.declared.kind.Style.{Style}
use Rattle.sp_words.specs.declared.kind.Style.TheVariants.{Pipe, Sequential, Parallel, Stream}
use Rattle.sp_tree.specs.Typing.{IsLoopStyle}
use Rattle.sp_reader.specs.declared.grammar.statement.Combining.{Combining}
use Rattle.sp_reader.specs.declared.grammar.statement.Combining.TheVariants as c
use Rattle.sp_reader.specs.declared.token.Token.{Token}
use Rattle.sp_reader.specs.declared.token.TokenKind.{TokenKind}
use Rattle.sp_reader.specs.declared.token.TokenKind.TheVariants as k
use Rattle.sp_reader.specs.PlainTree.{PlainIdent, PlainExpr}
use Rattle.sp_reader.specs.PlainStatement.{PlainCounter, PlainComb, PlainHead, PlainStmt, PlainStmtKind, stmt as node, block, foreach, fsm, branch, body}
use Rattle.sp_reader.specs.SimpleRules.{is_value}
use Rattle.sp_reader.specs.StatementRules.{head, combined_by, stmts_from, stmts, braced, last_value, value_or, valued_from, valued, styled_block, a_foreach, a_combining, controller, styled, arrow, enclosed_arrow, enclosed_expr, bound_body, a_fsm, otherwise, a_branch, kind_by, kind, stmt}
use Rattle.sp_reader.specs.Steps.{Text, Rule, ◌>>=◌, pure, refuse, kind_of, tail_of, place_of, sees, skip, semicolons}
use Rattle.sp_typed.specs.ReadTree.{IsReadExpr, IsReadHead, IsCombiner, IsReadBody, IsReadStmt, depth, depth_in}
use Rattle.sp_typed.specs.Statements.{loop_style}
use Rattle.sp_read_trees.proofs.Levels.{Good}
use Rattle.sp_read_trees.proofs.Rules.{Goes, given, refused, bound, chosen, skips, looking, past_kind, past_semicolons, tested, weaker, knowing}
use Rattle.sp_read_trees.proofs.Simple.{IsSimple, on_name_go, vals}
use Rattle.sp_read_trees.proofs.Spans.{AreCounters, AreNames, binds_go, combiner_go, counters_go, enclosed_name_go, whole_go}
use Rattle.sp_read_trees.proofs.Words.{Named, names}

-- a statement inside so many brackets is right, and has no more controllers one inside another than brackets may be open
abbrev pub KindFits : ℕ → PlainStmtKind → Type 0
KindFits d kind = IsReadStmt kind × (depth_in kind + d ≤ 64)

abbrev pub Fits : ℕ → PlainStmt → Type 0
Fits d (node place kind) = KindFits d kind

abbrev pub BodyFits : ℕ → List PlainStmt → Type 0
BodyFits d ss = IsReadBody (body ss) × (depth (body ss) + d ≤ 64)

-- statements and a value
abbrev ValuedFits : ℕ → List PlainStmt × PlainExpr → Type 0
ValuedFits d v = BodyFits d v.0 × IsReadExpr v.1

body_push : (d : ℕ) (found : List PlainStmt) (s : PlainStmt) → BodyFits d found → Fits d s → BodyFits d (found ++ s ∷ [])
body_push d [] (node place kind) h p = ((p.0, tt), grind arith)
body_push d (node place kind ∷ found) s h p =
    let rest = body_push d found s (h.0.1, grind arith) p in
    ((h.0.0, rest.0), grind arith)

simple_fits : (d : ℕ) → d ≤ 64 → (kind : PlainStmtKind) → IsSimple kind → KindFits d kind
simple_fits d few kind p = (p.0, omega (arith, p.1, few))

-- what a body inside brackets is for the controller around it
abbrev Inside : ℕ → List PlainStmt → Type 0
Inside d ss = IsReadBody (body ss) × (1 + depth (body ss) + d ≤ 64)

inside_of : (d : ℕ) (ss : List PlainStmt) → BodyFits (suc d) ss → Inside d ss
inside_of d ss p = (p.0, omega (arith, p.1))

head_fits : (style : Option Style) → IsLoopStyle (loop_style style) → (cs : List PlainCounter) → AreCounters cs → (is : List PlainIdent) → AreNames is → IsReadHead (head style cs is)
head_fits style right cs p is q = record { style = right; one_to_four = (p.0, p.1); counters = p.2; binder = q.0; names = q.1 }

combined_fits : (which : Combining) (d : ℕ) (h : PlainHead) (ss : List PlainStmt) (acc : PlainIdent) (e : PlainExpr) (comb : PlainComb) → IsReadHead h → Inside d ss → IsReadExpr e → IsCombiner comb.operator
    → KindFits d (combined_by which h (body ss) acc e comb)
combined_fits c.Reduce d h ss acc e comb p q r s = ((p, q.0, r, s), q.1)
combined_fits c.Fold d h ss acc e comb p q r s = ((p, q.0, r, s), q.1)
combined_fits c.MemReduce d h ss acc e comb p q r s = ((p, q.0, r, s), q.1)

module _ (source : Text) where
  arrows : {d : ℕ} → Goes source d d (λ p. Named p.0 × IsReadExpr p.1) (arrow source)
  unfolding arrow
  arrows = bound source (names source) (λ i p. bound source (skips source k.Arrow) (λ _ _. bound source (whole_go source) (λ e q. given source (i, e) (p, q))))

  enclosed_arrows : {d : ℕ} → Goes source d d (λ p. Named p.0 × IsReadExpr p.1) (enclosed_arrow source)
  unfolding enclosed_arrow
  enclosed_arrows = bound source (skips source k.OpenRound) (λ _ _. bound source arrows (λ p q. bound source (skips source k.CloseRound) (λ _ _. given source p q)))

  enclosed_exprs : {d : ℕ} → Goes source d d IsReadExpr (enclosed_expr source)
  unfolding enclosed_expr
  enclosed_exprs = bound source (skips source k.OpenRound) (λ _ _. bound source (whole_go source) (λ e p. bound source (skips source k.CloseRound) (λ _ _. given source e p)))

  module _ (inner : Rule PlainStmt) (inside : (d : ℕ) → Goes source d d (Fits d) inner) where
    stmts_go_from : (n d : ℕ) (found : List PlainStmt) → BodyFits d found → Goes source d d (BodyFits d) (stmts_from inner n found)
    unfolding stmts_from
    stmts_go_from zero d found p = refused source
    stmts_go_from (suc n) d found p = tested source (sees k.CloseCurly) (pure found) (inner >>= λ s. λ us. if sees k.Semicolon us then stmts_from inner n (found ++ s ∷ []) (semicolons us) else Ok (found ++ s ∷ [], us))
        (given source found p)
        (bound source (inside d) (λ s q. tested source (sees k.Semicolon) (λ us. stmts_from inner n (found ++ s ∷ []) (semicolons us)) (pure (found ++ s ∷ []))
        (past_semicolons source (stmts_from inner n (found ++ s ∷ [])) (stmts_go_from n d (found ++ s ∷ []) (body_push d found s p q)))
        (given source (found ++ s ∷ []) (body_push d found s p q))))

    stmts_go : (d : ℕ) → Goes source d d (BodyFits d) (stmts inner)
    stmts_go d = knowing source {d = d} (λ few. looking source (λ all ts. stmts_from inner (length all) [] (semicolons ts))
        (λ all. past_semicolons source (stmts_from inner (length all) []) (stmts_go_from (length all) d [] (tt, omega (arith, few)))))

    braceds : (d : ℕ) → Goes source d d (Inside d) (braced inner)
    unfolding braced
    braceds d = bound source (skips source k.OpenCurly) (λ _ _. bound source (stmts_go (suc d)) (λ ss p. bound source (skips source k.CloseCurly) (λ _ _. given source ss (inside_of d ss p))))

    last_values : (d : ℕ) (found : List PlainStmt) → BodyFits d found → Goes source d d (ValuedFits d) (last_value source found)
    unfolding last_value
    last_values d found p = bound source (whole_go source) (λ e q. past_semicolons source (pure (found, e)) (given source (found, e) (p, q)))

    valued_go_from : (n d : ℕ) (found : List PlainStmt) → BodyFits d found → Goes source d d (ValuedFits d) (valued_from source inner n found)
    unfolding valued_from
    valued_go_from zero d found p = refused source
    valued_go_from (suc n) d found p = record { run = λ ts v us g h. go (λ s q. valued_go_from n d (found ++ s ∷ []) (body_push d found s p q)) ts v us g (is_value source ts) h }
      where
        more : Rule (List PlainStmt × PlainExpr)
        more = inner >>= λ s. skip k.Semicolon >>= λ _. λ us. valued_from source inner n (found ++ s ∷ []) (semicolons us)

        go : ((s : PlainStmt) → Fits d s → Goes source d d (ValuedFits d) (valued_from source inner n (found ++ s ∷ []))) → (ts : List Token) (v : List PlainStmt × PlainExpr) (us : List Token) → Good source d ts
            → (r : Result Bool ℕ)
            → value_or r (last_value source found) (inner >>= λ s. skip k.Semicolon >>= λ _. λ us. valued_from source inner n (found ++ s ∷ []) (semicolons us)) ts ≡ Ok (v, us)
            → ValuedFits d v × Good source d us
        go next ts v us g (Err e) h = absurd (cc)
        go next ts v us g (Ok true) h = (last_values d found p).run ts v us g h
        go next ts v us g (Ok false) h = (bound source {Q = ValuedFits d} (inside d) (λ s q. bound source (skips source k.Semicolon) (λ _ _.
            past_semicolons source (valued_from source inner n (found ++ s ∷ [])) (next s q)))).run ts v us g h

    valued_go : (d : ℕ) → Goes source d d (ValuedFits d) (valued source inner)
    valued_go d = knowing source {d = d} (λ few. looking source (λ all ts. valued_from source inner (length all) [] (semicolons ts))
        (λ all. past_semicolons source (valued_from source inner (length all) []) (valued_go_from (length all) d [] (tt, omega (arith, few)))))

    -- ---- controllers

    blocks : (d : ℕ) (style : Style) → Goes source d d (KindFits d) (styled_block inner style)
    unfolding styled_block
    blocks d style = bound source (braceds d) (λ ss p. given source (block style (body ss)) p)

    foreachs : (d : ℕ) (style : Option Style) → IsLoopStyle (loop_style style) → Goes source d d (KindFits d) (a_foreach source inner style)
    unfolding a_foreach
    foreachs d style right = bound source (counters_go source) (λ cs p. bound source (skips source k.OpenCurly) (λ _ _. bound source (binds_go source) (λ is q.
        bound source (skips source k.Arrow) (λ _ _. bound source (stmts_go (suc d)) (λ ss r. bound source (skips source k.CloseCurly) (λ _ _.
        given source (foreach (head style cs is) (body ss)) ((head_fits style right cs p is q, r.0), (inside_of d ss r).1)))))))

    combinings : (d : ℕ) (which : Combining) (style : Option Style) → IsLoopStyle (loop_style style) → Goes source d d (KindFits d) (a_combining source inner which style)
    unfolding a_combining
    combinings d which style right = bound source (enclosed_name_go source) (λ acc _. bound source (counters_go source) (λ cs p. bound source (skips source k.OpenCurly) (λ _ _.
        bound source (binds_go source) (λ is q. bound source (skips source k.Arrow) (λ _ _. bound source (valued_go (suc d)) (λ v r. bound source (skips source k.CloseCurly) (λ _ _.
        bound source (combiner_go source) (λ comb s. given source (combined_by which (head style cs is) (body v.0) acc v.1 comb)
        (combined_fits which d (head style cs is) v.0 acc v.1 comb (head_fits style right cs p is q) (inside_of d v.0 r.0) r.1 s)))))))))

    controllers : (d : ℕ) (style : Option Style) → IsLoopStyle (loop_style style) → Goes source d d (KindFits d) (controller source inner style)
    unfolding controller
    controllers d style right =
        chosen source k.Foreach (λ _. a_foreach source inner style)
        (λ _ ts. if sees k.Reduce ts then a_combining source inner c.Reduce style (tail_of ts)
        else (if sees k.Fold ts then a_combining source inner c.Fold style (tail_of ts) else (if sees k.MemReduce ts then a_combining source inner c.MemReduce style (tail_of ts) else Err (length ts))))
        (λ _. foreachs d style right)
        (λ _. chosen source k.Reduce (λ _. a_combining source inner c.Reduce style)
        (λ _ ts. if sees k.Fold ts then a_combining source inner c.Fold style (tail_of ts) else (if sees k.MemReduce ts then a_combining source inner c.MemReduce style (tail_of ts) else Err (length ts)))
        (λ _. combinings d c.Reduce style right)
        (λ _. chosen source k.Fold (λ _. a_combining source inner c.Fold style) (λ _ ts. if sees k.MemReduce ts then a_combining source inner c.MemReduce style (tail_of ts) else Err (length ts))
        (λ _. combinings d c.Fold style right)
        (λ _. chosen source k.MemReduce (λ _. a_combining source inner c.MemReduce style) (λ _. refuse) (λ _. combinings d c.MemReduce style right) (λ _. refused source))))

    styleds : (d : ℕ) (style : Style) → IsLoopStyle style → Goes source d d (KindFits d) (styled source inner style)
    unfolding styled
    styleds d style right = chosen source k.Dot (λ _. controller source inner (Some style)) (λ _. styled_block inner style) (λ _. controllers d (Some style) right) (λ _. blocks d style)

    bound_bodies : (d : ℕ) → Goes source d d (λ p. Named p.0 × Inside d p.1) (bound_body source inner)
    unfolding bound_body
    bound_bodies d = bound source (skips source k.OpenCurly) (λ _ _. bound source (names source) (λ i p. bound source (skips source k.Arrow) (λ _ _.
        bound source (stmts_go (suc d)) (λ ss q. bound source (skips source k.CloseCurly) (λ _ _. given source (i, ss) (p, inside_of d ss q))))))

    fsms : (d : ℕ) → Goes source d d (KindFits d) (a_fsm source inner)
    unfolding a_fsm
    fsms d = bound source enclosed_exprs (λ start p. bound source enclosed_arrows (λ test q. bound source (bound_bodies d) (λ state r. bound source (skips source k.OpenCurly) (λ _ _.
        bound source arrows (λ next s. bound source (skips source k.CloseCurly) (λ _ _.
        given source (fsm start test.0 test.1 state.0 (body state.1) next.0 next.1) ((p, q.0, q.1, r.0, r.1.0, s.0, s.1), r.1.1)))))))

    otherwises : (d : ℕ) → suc d ≤ 64 → Goes source d d (Inside d) (otherwise inner)
    otherwises d few = chosen source k.Else (λ _. braced inner) (λ _. pure []) (λ _. braceds d) (λ _. given source [] (tt, omega (arith, few)))

    branches : (d : ℕ) → Goes source d d (KindFits d) (a_branch source inner)
    unfolding a_branch
    branches d = bound source enclosed_exprs (λ test p. bound source (braceds d) (λ first q. bound source (otherwises d (omega (arith, q.1))) (λ second r.
        given source (branch test (body first) (body second)) ((p, q.0, r.0), grind arith))))

    kind_goes : (wanted : TokenKind) (d : ℕ) (ts : List Token) (s : PlainStmtKind) (us : List Token) → Good source d ts → kind_of ts ≡ wanted → kind_by source inner wanted ts ≡ Ok (s, us)
        → KindFits d s × Good source d us
    kind_goes k.Val d ts s us g is h = (weaker source (simple_fits d g.few) (vals source)).run (tail_of ts) s us (past_kind source k.Val d ts g is) h
    kind_goes k.Pipe d ts s us g is h = (styleds d Pipe tt).run (tail_of ts) s us (past_kind source k.Pipe d ts g is) h
    kind_goes k.Sequential d ts s us g is h = (styleds d Sequential tt).run (tail_of ts) s us (past_kind source k.Sequential d ts g is) h
    kind_goes k.Parallel d ts s us g is h = (blocks d Parallel).run (tail_of ts) s us (past_kind source k.Parallel d ts g is) h
    kind_goes k.Stream d ts s us g is h = (blocks d Stream).run (tail_of ts) s us (past_kind source k.Stream d ts g is) h
    kind_goes k.Fsm d ts s us g is h = (fsms d).run (tail_of ts) s us (past_kind source k.Fsm d ts g is) h
    kind_goes k.If d ts s us g is h = (branches d).run (tail_of ts) s us (past_kind source k.If d ts g is) h
    kind_goes k.Foreach d ts s us g is h = (controllers d None tt).run ts s us g h
    kind_goes k.Reduce d ts s us g is h = (controllers d None tt).run ts s us g h
    kind_goes k.Fold d ts s us g is h = (controllers d None tt).run ts s us g h
    kind_goes k.MemReduce d ts s us g is h = (controllers d None tt).run ts s us g h
    kind_goes _ d ts s us g is h = (weaker source (simple_fits d g.few) (on_name_go source)).run ts s us g h

    kinds : (d : ℕ) → Goes source d d (KindFits d) (kind source inner)
    unfolding kind
    kinds d = record { run = λ ts s us g h. kind_goes (kind_of ts) d ts s us g refl h }

  pub stmt_go : (n d : ℕ) → Goes source d d (Fits d) (stmt source n)
  unfolding stmt
  stmt_go zero d = refused source
  stmt_go (suc n) d = looking source (λ all. kind source (stmt source n) >>= λ s. pure (node (place_of all) s))
      (λ all. bound source (kinds (stmt source n) (λ e. stmt_go n e) d) (λ s p. given source (node (place_of all) s) p))

  pub braced_go : (n d : ℕ) → Goes source d d (Inside d) (braced (stmt source n))
  braced_go n d = braceds (stmt source n) (λ e. stmt_go n e) d
