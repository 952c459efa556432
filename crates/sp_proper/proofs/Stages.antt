-- The stages of a proper block in the core are those of the program, one for each loop: there is no early stage and no run of
-- statements between them.
use Rattle.std.proofs.Common.{◌≡◌, ℕ, suc, ◌+◌, ◌<◌, ◌≤◌, Bool, true, false, ◌||◌, not, ◌==◌, List, [], ◌∷◌, ◌++◌, map, length, Option, None, Some, refl, sym, ◌∙◌, ap, subst, arith, true≢false, if◌then◌else◌}
use Rattle.std.specs.List.{list_all}
use Rattle.std.proofs.lemmas.Bool.{not-true}
use Rattle.sp_words.specs.declared.kind.Style.{Style}
use Rattle.sp_tree.specs.declared.statement.Comb.{Comb}
use Rattle.sp_tree.specs.PlainExpression.{PlainExpr, type_of}
use Rattle.sp_tree.specs.PlainProgram.{PlainProgram}
use Rattle.sp_tree.specs.PlainStatement.{PlainCounter, PlainStmtKind, PlainStmts, stmt, declare, foreach, reduce, no_stmt, more_stmt}
use Rattle.sp_tree.specs.Streams.{StreamStage, all_tallies, body_tally, stream_stages, are_stages}
use Rattle.sp_tree.specs.Structure.{own_mems, mems_declared, mems_in, is_inner}
use Rattle.sp_tree.specs.Tallies.{Tally, ◌&◌, is_among, a_write, tally, bound_tallies}
use Rattle.sp_tree.specs.Typing.{Scope, BodyTyped, StmtTyped, after, after_all, with_counters}
use Rattle.sp_core.specs.PlainCore as core_tree
use Rattle.sp_core.specs.PlainCore.{PlainOp, PlainNode, PlainStages, no_stage, more_stage, inner, PlainCore}
use Rattle.sp_stream.specs.Proper.{bound_ops, ops_of, bounds_of, has_array, is_loop, nodes_of}
use Rattle.sp_stream.proofs.Ways.{and_elim}
use Rattle.sp_sugar.specs.Combination.{fold_ops, reduce_ops}
use Rattle.sp_sugar.specs.Early.{is_early, bounds_of as bound_words, registers_for, counters_of, bound_stages, stage_of, into_register}
use Rattle.sp_sugar.specs.Numbers.{mem_number, begun_register}
use Rattle.sp_sugar.specs.Operations.{Code}
use Rattle.sp_sugar.specs.Registers.{ending_of, beside, inside}
use Rattle.sp_sugar.specs.Runs.{Run, no_run, next_code, inner_run}
use Rattle.sp_sugar.specs.Stages.{nothing, folds, reduces, inner_node, outer_node, stages, node}
use Rattle.sp_sugar.specs.Uses.{no_more}
use Rattle.sp_sugar.specs.Values.{Sources}
use Rattle.sp_sugar.proofs.NumberLemmas.{either}
use Rattle.sp_sugar.proofs.Cores.{contains_count}
use Rattle.sp_sugar.proofs.Entering.{same_mems}
use Rattle.sp_sugar.proofs.OwnerCounts.{one_if, count_of, count_append}
use Rattle.sp_lane_cores.proofs.LanedNaming.{SourcesHave, InRange}
use Rattle.std.proofs.lemmas.List.{length-append}
use Rattle.sp_proper.proofs.Deeds.{each_append, Place, IsChip, Deed, Includes, includes_itself, left_part, right_part, Low, Sees, Does}
use Rattle.sp_proper.proofs.RunDeeds.{Declares, declares_front, declares_back, RunDoes, neither, among_alone, sees_after, inner_does, next_does, bounds_do, fold_does, reduce_does}
use Rattle.sp_proper.proofs.Counting.{Stage, tallies_of, total, Fits}
use Rattle.sp_proper.proofs.Plain.{HasKinds, no_array}

-- what is known of a body: what is visible exists, what it declares has a number in the core, and nothing is declared twice
pub record IsFresh (p : PlainProgram) (scope : List ℕ) (declared : List ℕ) : Type 0 where
  pub range : (m : ℕ) → 1 ≤ count_of m scope → m < length p.mems
  pub chips : (m : ℕ) → 1 ≤ count_of m declared → IsChip p m
  pub apart : (m : ℕ) → count_of m scope + count_of m declared ≤ 1

pub fresh_front : (p : PlainProgram) (scope xs ys : List ℕ) → IsFresh p scope (xs ++ ys) → IsFresh p scope xs
fresh_front p scope xs ys h = record {
  range = h.range;
  chips = λ m c. h.chips m (omega (arith, c, count_append m xs ys));
  apart = λ m. let a = h.apart m in omega (arith, a, count_append m xs ys);
}

pub fresh_back : (p : PlainProgram) (scope xs ys : List ℕ) → IsFresh p scope (xs ++ ys) → IsFresh p scope ys
fresh_back p scope xs ys h = record {
  range = h.range;
  chips = λ m c. h.chips m (omega (arith, c, count_append m xs ys));
  apart = λ m. let a = h.apart m in omega (arith, a, count_append m xs ys);
}

pub fresh_declared : (p : PlainProgram) (scope : List ℕ) (m : ℕ) (ys : List ℕ) → IsFresh p scope (m ∷ ys) → IsFresh p (m ∷ scope) ys
fresh_declared p scope m ys h = record {
  range = λ x c. either (m == x)
      (λ e. let f : one_if (m == x) ≡ 1 = ap one_if e in (h.chips x (omega (arith, f))).exists)
      (λ e. let f : one_if (m == x) ≡ 0 = ap one_if e in h.range x (omega (arith, c, f)));
  chips = λ x c. h.chips x (omega (arith, c));
  apart = λ x. let a = h.apart x in omega (arith, a);
}

-- no two stages take one number for a register
abbrev pub Chain : ℕ → List Stage → Type 0
Chain n [] = Unit {0}
Chain n (d ∷ ds) = (n ≤ d.from) × (d.from ≤ d.until) × Chain d.until ds

pub chain_from : (k n : ℕ) (ds : List Stage) → k ≤ n → Chain n ds → Chain k ds
chain_from k n [] le h = tt
chain_from k n (d ∷ ds) le (a, b, c) = (omega (arith, le, a), b, c)

module _ (p : PlainProgram) (core : PlainCore) (outer : List ℕ) (low : ℕ) where
  abbrev pub place_of : Stage → Place
  place_of d = record { outer = outer; own = d.own; low = low; from = d.from; until = d.until }

  -- a node does what a stage says
  pub record Fit (d : Stage) (x : PlainNode) : Type 0 where
    pub loop : is_loop x ≡ true
    pub plain : has_array core (bounds_of x) ≡ false
    pub deeds : Does p (place_of d) d.of.whole (ops_of x)

  -- the nodes of a block's statements
  pub record Staged (n : ℕ) (body : PlainStmts) (nodes : List PlainNode) : Type 0 where
    pub ds : List Stage
    pub are : tallies_of ds ≡ stream_stages body
    pub fit : Fits Fit ds nodes
    pub chain : Chain n ds
    pub owns : (m : ℕ) → count_of m (own_mems body) + total (λ d. count_of m d.own) ds ≡ count_of m (mems_declared body)

  -- a stage more in front
  add_stage : (n next at : ℕ) (k : PlainStmtKind) (rest : PlainStmts) (d : Stage) (x : PlainNode) (nodes : List PlainNode) → Fit d x → Staged next rest nodes → n ≤ d.from → d.from ≤ d.until → d.until ≤ next
      → stream_stages (more_stmt (stmt at k) rest) ≡ d.of ∷ stream_stages rest → own_mems (more_stmt (stmt at k) rest) ≡ own_mems rest → d.own ≡ mems_in k → Staged n (more_stmt (stmt at k) rest) (x ∷ nodes)
  add_stage n next at k rest d x nodes fit r from until before are own declared = record {
    ds = d ∷ r.ds;
    are = ap (λ xs. d.of ∷ xs) r.are ∙ sym are;
    fit = (fit, r.fit);
    chain = (from, until, chain_from d.until next r.ds before r.chain);
    owns = λ m.
        let o = r.owns m in
        let f : count_of m (own_mems (more_stmt (stmt at k) rest)) ≡ count_of m (own_mems rest) = ap (count_of m) own in
        let g : count_of m d.own ≡ count_of m (mems_in k) = ap (count_of m) declared in
        omega (arith, o, f, g, count_append m (mems_in k) (mems_declared rest));
  }

  module _ (kinds : HasKinds p core) (sources : Sources) (have : SourcesHave (Low p low) sources) where
    -- what is visible around the stages
    abbrev SeesOuter : Scope → Type 0
    SeesOuter scope = (m : ℕ) → 1 ≤ count_of m scope.mems → (m < length p.mems) × (1 ≤ count_of m outer)

    sees_from : (d : Stage) (scope : Scope) → SeesOuter scope → Sees p (place_of d) scope
    sees_from d scope h m c = let is = h m c in (is.0, omega (arith, is.1))

    sees_loops : (place : Place) (scope : Scope) (loops : List PlainCounter) → Sees p place scope → Sees p place (with_counters scope loops)
    sees_loops place scope loops h m c = h m (subst (λ xs. 1 ≤ count_of m xs) (same_mems scope loops) c)

    sees_all : (place : Place) (scope : Scope) (body : PlainStmts) → Sees p place scope → Declares p place (mems_declared body) → Sees p place (after_all scope body)
    sees_all place scope no_stmt h d = h
    sees_all place scope (more_stmt (stmt at k) rest) h d =
        sees_all place (after scope k) rest (sees_after p place scope k h (declares_front p place (mems_in k) (mems_declared rest) d)) (declares_back p place (mems_in k) (mems_declared rest) d)

    range_of : (scope : Scope) → SeesOuter scope → InRange p scope
    range_of scope h m c = (h m (contains_count scope.mems m c)).0

    looped : (loops : List PlainCounter) (b : ℕ) (owned : List ℕ) (ops : List PlainOp) (comb : Option ℕ) → 1 ≤ length loops → is_loop (inner (counters_of p.mems sources b loops) owned ops comb) ≡ true
    looped [] b owned ops comb h = absurd (omega (arith, h))
    looped (c ∷ loops) b owned ops comb h = refl

    run_begins : (d : Stage) (t : Tally) → RunDoes p (place_of d) t (no_run sources)
    run_begins d t = record { ops = tt; values = (have, have) }

    own_chips : (d : Stage) (xs : List ℕ) → d.own ≡ xs → ((m : ℕ) → 1 ≤ count_of m xs → IsChip p m) → Declares p (place_of d) xs
    own_chips d xs e h m c = (h m c, subst (λ ys. 1 ≤ count_of m ys) (sym e) c)

    -- a loop
    abbrev loop_stage : (b until : ℕ) → List PlainCounter → PlainStmts → Stage
    loop_stage b until loops body = record {
      of = record { bounds = all_tallies (bound_tallies loops); whole = all_tallies (bound_tallies loops) & body_tally body };
      own = mems_declared body;
      from = b;
      until = until;
    }

    loop_fits : (scope : Scope) (b until : ℕ) (style : Style) (loops : List PlainCounter) (body : PlainStmts) → SeesOuter scope → ((m : ℕ) → 1 ≤ count_of m (mems_declared body) → IsChip p m) → StmtTyped p scope (foreach style loops body) → (all_tallies (bound_tallies loops)).arrays ≡ false
        → Fit (loop_stage b until loops body) (inner (counters_of p.mems sources b loops) (map (mem_number p.mems) (own_mems body)) (inner_run p.mems (no_run sources) body).ops None)
    loop_fits scope b until style loops body sees chips typed quiet =
        let d : Stage = loop_stage b until loops body in
        let t : Tally = all_tallies (bound_tallies loops) & body_tally body in
        let all : Includes t t = includes_itself t in
        let written : List core_tree.PlainCounter = counters_of p.mems sources b loops in
        let ran = inner_does p (place_of d) t (no_run sources) (with_counters scope loops) body (sees_loops (place_of d) scope loops (sees_from d scope sees)) (own_chips d (mems_declared body) refl chips) (run_begins d t) typed.2 (right_part t (all_tallies (bound_tallies loops)) (body_tally body) all) in
        record {
          loop = looped loops b (map (mem_number p.mems) (own_mems body)) (inner_run p.mems (no_run sources) body).ops None typed.1.one_to_four.0;
          plain = no_array p core kinds sources low have scope (range_of scope sees) loops b typed.1.bounds quiet;
          deeds = each_append (Deed p (place_of d) t) (bound_ops written) (inner_run p.mems (no_run sources) body).ops
              (bounds_do p (place_of d) t sources have scope (sees_from d scope sees) loops b typed.1.bounds quiet (left_part t (all_tallies (bound_tallies loops)) (body_tally body) all)) ran.ops;
        }

    -- a reduction
    abbrev reduce_stage : (b until : ℕ) → (acc : ℕ) → List PlainCounter → PlainStmts → PlainExpr → Stage
    reduce_stage b until acc loops body e = record {
      of = record { bounds = all_tallies (bound_tallies loops); whole = all_tallies (bound_tallies loops) & body_tally body & tally e & a_write acc };
      own = mems_declared body;
      from = b;
      until = until;
    }

    -- of which the combination does what it may
    combined_fits : (scope : Scope) (b until : ℕ) (style : Style) (fold : Bool) (acc : ℕ) (loops : List PlainCounter) (body : PlainStmts) (e : PlainExpr) (comb : Comb) (last : (at word : ℕ) → List PlainOp) (mark : Option ℕ)
        → SeesOuter scope → ((m : ℕ) → 1 ≤ count_of m (mems_declared body) → IsChip p m) → StmtTyped p scope (reduce style fold acc loops body e comb) → (all_tallies (bound_tallies loops)).arrays ≡ false
        → let d : Stage = reduce_stage b until acc loops body e in let run : Run = inner_run p.mems (no_run sources) body in let x : Code = next_code p.mems run e in
        (is_among acc d.of.whole.writes ≡ true → Sees p (place_of d) scope → (at word : ℕ) → Does p (place_of d) d.of.whole (last at word))
        → Fit d (inner (counters_of p.mems sources b loops) (map (mem_number p.mems) (own_mems body)) (run.ops ++ x.ops ++ last (length run.ops + length x.ops) x.word) mark)
    combined_fits scope b until style fold acc loops body e comb last mark sees chips typed quiet does =
        let d : Stage = reduce_stage b until acc loops body e in
        let bounds : Tally = all_tallies (bound_tallies loops) in
        let t : Tally = d.of.whole in
        let run : Run = inner_run p.mems (no_run sources) body in
        let x : Code = next_code p.mems run e in
        let own : List ℕ = map (mem_number p.mems) (own_mems body) in
        let inside_scope : Scope = with_counters scope loops in
        let here : Sees p (place_of d) scope = sees_from d scope sees in
        let within : Sees p (place_of d) inside_scope = sees_loops (place_of d) scope loops here in
        let declares : Declares p (place_of d) (mems_declared body) = own_chips d (mems_declared body) refl chips in
        let last_part : Includes t (a_write acc) = right_part t (bounds & body_tally body & tally e) (a_write acc) (includes_itself t) in
        let before : Includes t (bounds & body_tally body & tally e) = left_part t (bounds & body_tally body & tally e) (a_write acc) (includes_itself t) in
        let of_word : Includes t (tally e) = right_part t (bounds & body_tally body) (tally e) before in
        let both : Includes t (bounds & body_tally body) = left_part t (bounds & body_tally body) (tally e) before in
        let ran = inner_does p (place_of d) t (no_run sources) inside_scope body within declares (run_begins d t) typed.2 (right_part t bounds (body_tally body) both) in
        let word_ops = next_does p (place_of d) t run (after_all inside_scope body) e (sees_all (place_of d) inside_scope body within declares) ran typed.5 of_word in
        let ops : List PlainOp = run.ops ++ x.ops ++ last (length run.ops + length x.ops) x.word in
        record {
          loop = looped loops b own ops mark typed.1.one_to_four.0;
          plain = no_array p core kinds sources low have scope (range_of scope sees) loops b typed.1.bounds quiet;
          deeds = each_append (Deed p (place_of d) t) (bound_ops (counters_of p.mems sources b loops)) ops
              (bounds_do p (place_of d) t sources have scope here loops b typed.1.bounds quiet (left_part t bounds (body_tally body) both))
              (each_append (Deed p (place_of d) t) (run.ops ++ x.ops) (last (length run.ops + length x.ops) x.word)
              (each_append (Deed p (place_of d) t) run.ops x.ops ran.ops word_ops)
              (does (last_part.1 acc (among_alone acc [])) here (length run.ops + length x.ops) x.word));
        }

    -- no bound is computed early
    no_early : (r : ℕ) (loops : List PlainCounter) (rest : PlainStages) → (all_tallies (bound_tallies loops)).arrays ≡ false → bound_stages p.mems sources r (bound_words loops) rest ≡ rest
    no_early r [] rest quiet = refl
    no_early r (c ∷ loops) rest quiet =
        neither (tally c.from).arrays ((tally c.until).arrays || (all_tallies (bound_tallies loops)).arrays) quiet
        (λ e more. neither (tally c.until).arrays (all_tallies (bound_tallies loops)).arrays more
        (λ f others.
        ap (λ b. if b then stage_of (into_register p.mems sources 0 r c.from) (bound_stages p.mems sources (suc r) (c.until ∷ bound_words loops) rest) else bound_stages p.mems sources r (c.until ∷ bound_words loops) rest) e
        ∙ ap (λ b. if b then stage_of (into_register p.mems sources 0 r c.until) (bound_stages p.mems sources (suc r) (bound_words loops) rest) else bound_stages p.mems sources r (bound_words loops) rest) f
        ∙ no_early r loops rest others))

    module _ (counters : ℕ) where
      abbrev nodes_after : (n : ℕ) → PlainStmts → List PlainNode
      nodes_after n body = nodes_of (stages p.mems counters (no_run sources) n body no_more nothing)

      -- the node of a loop with an inner body
      alone_node : (x y : PlainNode) (b : Bool) (n : ℕ) (loops : List PlainCounter) (k : ℕ) (rest : PlainStmts) → (all_tallies (bound_tallies loops)).arrays ≡ false → b ≡ true
          → nodes_of (bound_stages p.mems sources n (bound_words loops) (more_stage 0 0 false (if b then x else y) (stages p.mems counters (no_run sources) k rest no_more nothing))) ≡ x ∷ nodes_after k rest
      alone_node x y b n loops k rest quiet e =
          ap nodes_of (no_early n loops (more_stage 0 0 false (if b then x else y) (stages p.mems counters (no_run sources) k rest no_more nothing)) quiet)
          ∙ ap (λ i. (if i then x else y) ∷ nodes_after k rest) e

      begun_below : (b : ℕ) (early : List core_tree.PlainMem) → b + length early < b + length (early ++ begun_register ∷ [])
      begun_below b early = omega (arith, length-append early (begun_register ∷ []))

      -- the stage of a statement is one, where its body is inner
      stage_there : {P : Type 0} (b : Bool) (s : StreamStage) (rest : PlainStmts) → elim (if b then Some s else None) [ Some s ↦ are_stages rest | None ↦ false ] ≡ true → (b ≡ true → are_stages rest ≡ true → P) → P
      stage_there true s rest h f = f refl h
      stage_there false s rest h f = absurd (true≢false (sym h))

      abbrev stages_with : Option StreamStage → PlainStmts → List StreamStage
      stages_with o rest = elim o [ Some s ↦ s ∷ stream_stages rest | None ↦ stream_stages rest ]

      plain_there : {P : Type 0} (b : Bool) (s : StreamStage) (rest : PlainStmts) → b ≡ true → list_all (λ s. not s.bounds.arrays) (stages_with (if b then Some s else None) rest) ≡ true
          → (s.bounds.arrays ≡ false → list_all (λ s. not s.bounds.arrays) (stream_stages rest) ≡ true → P) → P
      plain_there b s rest e h f =
          and_elim (not s.bounds.arrays) (list_all (λ s. not s.bounds.arrays) (stream_stages rest))
          (sym (ap (λ i. list_all (λ s. not s.bounds.arrays) (stages_with (if i then Some s else None) rest)) e) ∙ h) (λ x y. f (not-true s.bounds.arrays x) y)

      mutual
        unfolding stages node

        pub staged : (scope : Scope) (n : ℕ) (body : PlainStmts) → SeesOuter scope → IsFresh p scope.mems (mems_declared body) → ((m : ℕ) → 1 ≤ count_of m (own_mems body) → 1 ≤ count_of m outer) → BodyTyped p scope body
            → are_stages body ≡ true → list_all (λ s. not s.bounds.arrays) (stream_stages body) ≡ true → Staged n body (nodes_after n body)
        staged scope n no_stmt sees fresh out typed ok plain = record { ds = []; are = refl; fit = tt; chain = tt; owns = λ m. omega arith }
        staged scope n (more_stmt (stmt at (declare m)) rest) sees fresh out typed ok plain =
            let next : ℕ = n + length (beside (declare m) rest no_more) in
            let r = staged (after scope (declare m)) next rest
            (λ x c. either (m == x)
            (λ e. let f : one_if (m == x) ≡ 1 = ap one_if e in ((fresh.chips x (omega (arith, f))).exists, out x (omega (arith, f))))
            (λ e. let f : one_if (m == x) ≡ 0 = ap one_if e in sees x (omega (arith, c, f))))
            (fresh_declared p scope.mems m (mems_declared rest) fresh) (λ x c. out x (omega (arith, c))) typed.1 ok plain in
            record { ds = r.ds; are = r.are; fit = r.fit; chain = chain_from n next r.ds (omega arith) r.chain; owns = λ x. let o = r.owns x in omega (arith, o) }
        staged scope n (more_stmt (stmt at (foreach style loops body)) rest) sees fresh out typed ok plain =
            let b : ℕ = n + length (beside (foreach style loops body) rest no_more) in
            let k : ℕ = n + length (beside (foreach style loops body) rest no_more) + length (inside (foreach style loops body)) in
            let d : Stage = loop_stage n b loops body in
            let written : List core_tree.PlainCounter = counters_of p.mems sources n loops in
            let x : PlainNode = inner written (map (mem_number p.mems) (own_mems body)) (inner_run p.mems (no_run sources) body).ops None in
            let y : PlainNode = outer_node p.mems counters b written style body no_more (stages p.mems counters (no_run sources) b body no_more nothing) in
            let kind_fresh : IsFresh p scope.mems (mems_declared body) = fresh_front p scope.mems (mems_declared body) (mems_declared rest) fresh in
            stage_there (is_inner body) d.of rest ok (λ i later.
            plain_there (is_inner body) d.of rest i plain (λ quiet plain_rest.
            subst (λ xs. Staged n (more_stmt (stmt at (foreach style loops body)) rest) xs) (sym (alone_node x y (is_inner body) n loops k rest quiet i))
            (add_stage n k at (foreach style loops body) rest d x (nodes_after k rest)
            (loop_fits scope n b style loops body sees kind_fresh.chips typed.0 quiet)
            (staged scope k rest sees (fresh_back p scope.mems (mems_declared body) (mems_declared rest) fresh) out typed.1 later plain_rest)
            (omega arith) (omega arith) (omega arith) (ap (λ i. stages_with (if i then Some d.of else None) rest) i) refl refl)))
        staged scope n (more_stmt (stmt at (reduce style true acc loops body e comb)) rest) sees fresh out typed ok plain =
            let b : ℕ = n + length (beside (reduce style true acc loops body e comb) rest no_more) in
            let k : ℕ = n + length (beside (reduce style true acc loops body e comb) rest no_more) + length (inside (reduce style true acc loops body e comb)) in
            let d : Stage = reduce_stage n b acc loops body e in
            let written : List core_tree.PlainCounter = counters_of p.mems sources n loops in
            let x : PlainNode = inner_node p.mems counters sources written body (folds (mem_number p.mems acc) comb e) in
            let y : PlainNode = outer_node p.mems counters b written style body (ending_of loops e) (stages p.mems counters (no_run sources) b body (ending_of loops e) (folds (mem_number p.mems acc) comb e)) in
            let kind_fresh : IsFresh p scope.mems (mems_declared body) = fresh_front p scope.mems (mems_declared body) (mems_declared rest) fresh in
            stage_there (is_inner body) d.of rest ok (λ i later.
            plain_there (is_inner body) d.of rest i plain (λ quiet plain_rest.
            subst (λ xs. Staged n (more_stmt (stmt at (reduce style true acc loops body e comb)) rest) xs) (sym (alone_node x y (is_inner body) n loops k rest quiet i))
            (add_stage n k at (reduce style true acc loops body e comb) rest d x (nodes_after k rest)
            (combined_fits scope n b style true acc loops body e comb (λ at word. fold_ops at word (mem_number p.mems acc) (type_of e) comb) _ sees kind_fresh.chips typed.0 quiet
            (λ w s at word. fold_does p (place_of d) d.of.whole scope acc (type_of e) at word comb s typed.0.3 w))
            (staged scope k rest sees (fresh_back p scope.mems (mems_declared body) (mems_declared rest) fresh) out typed.1 later plain_rest)
            (omega arith) (omega arith) (omega arith) (ap (λ i. stages_with (if i then Some d.of else None) rest) i) refl refl)))
        staged scope n (more_stmt (stmt at (reduce style false acc loops body e comb)) rest) sees fresh out typed ok plain =
            let b : ℕ = n + length (beside (reduce style false acc loops body e comb) rest no_more) in
            let k : ℕ = n + length (beside (reduce style false acc loops body e comb) rest no_more) + length (inside (reduce style false acc loops body e comb)) in
            let d : Stage = reduce_stage n b acc loops body e in
            let written : List core_tree.PlainCounter = counters_of p.mems sources n loops in
            let begun : ℕ = n + length (registers_for is_early (bound_words loops)) in
            let x : PlainNode = inner_node p.mems counters sources written body (reduces (mem_number p.mems acc) begun comb e) in
            let y : PlainNode = outer_node p.mems counters b written style body (ending_of loops e) (stages p.mems counters (no_run sources) b body (ending_of loops e) (reduces (mem_number p.mems acc) begun comb e)) in
            let kind_fresh : IsFresh p scope.mems (mems_declared body) = fresh_front p scope.mems (mems_declared body) (mems_declared rest) fresh in
            stage_there (is_inner body) d.of rest ok (λ i later.
            plain_there (is_inner body) d.of rest i plain (λ quiet plain_rest.
            subst (λ xs. Staged n (more_stmt (stmt at (reduce style false acc loops body e comb)) rest) xs) (sym (alone_node x y (is_inner body) n loops k rest quiet i))
            (add_stage n k at (reduce style false acc loops body e comb) rest d x (nodes_after k rest)
            (combined_fits scope n b style false acc loops body e comb (λ at word. reduce_ops at word (mem_number p.mems acc) begun (type_of e) comb) _ sees kind_fresh.chips typed.0 quiet
            (λ w s at word. reduce_does p (place_of d) d.of.whole scope acc begun (type_of e) at word comb s typed.0.3 w (omega arith) (begun_below n (registers_for is_early (bound_words loops)))))
            (staged scope k rest sees (fresh_back p scope.mems (mems_declared body) (mems_declared rest) fresh) out typed.1 later plain_rest)
            (omega arith) (omega arith) (omega arith) (ap (λ i. stages_with (if i then Some d.of else None) rest) i) refl refl)))
        staged scope n (more_stmt (stmt at k) rest) sees fresh out typed ok plain = absurd (true≢false (sym ok))
