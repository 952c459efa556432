-- Runs that find the values that are still used in the same places have the same stages, and so do the nodes in them.
use Rattle.std.proofs.Common.{◌≡◌, ℕ, suc, ◌+◌, Bool, true, false, not, ◌||◌, ◌==◌, List, [], ◌∷◌, ◌++◌, Option, Some, None, refl, sym, ◌∙◌, ap, if◌then◌else◌}
use Rattle.std.proofs.lemmas.Bool.{eqb-true, or_left, or_right, and_from}
use Rattle.std.specs.Prelude.{length, map}
use Rattle.sp_words.specs.declared.kind.Style.{Style}
use Rattle.sp_words.specs.declared.kind.Style.TheVariants.{Pipe}
use Rattle.sp_tree.specs.Expressions as expressions
use Rattle.sp_tree.specs.PlainExpression.{PlainExpr, PlainExprs, expr, literal, counter, value, type_of}
use Rattle.sp_tree.specs.PlainProgram.{PlainMem}
use Rattle.sp_tree.specs.PlainStatement.{PlainStmtKind, PlainStmts, stmt, declare, name, set_reg, set_out, set_sram, enq, load_sram, load_line, store, gather, scatter, block, foreach, reduce, mem_reduce, fsm, branch, no_stmt, more_stmt}
use Rattle.sp_tree.specs.Structure.{own_mems, slice_lanes, is_inner}
use Rattle.sp_core.specs.declared.node.SparseKind.TheVariants.{Gather, Scatter, WideLoad, WideStore}
use Rattle.sp_core.specs.declared.operation.OpKind.TheVariants as kind
use Rattle.sp_core.specs.PlainCore as core
use Rattle.sp_core.specs.PlainCore.{PlainOp, PlainNode, PlainStages, inner, sparse, no_stage, more_stage}
use Rattle.sp_core.specs.Sequential.{has_reset}
use Rattle.sp_core.specs.Store.{changed}
use Rattle.sp_sugar.specs.Combination.{element_loop}
use Rattle.sp_sugar.specs.Early.{is_early, bounds_of, is_early_part, registers_for, counters_of, early_stages}
use Rattle.sp_sugar.specs.Numbers.{mem_number, dram_number}
use Rattle.sp_sugar.specs.Operations.{Code, Codes, accesses, read_op, write_op, alone, code, codes, word_list}
use Rattle.sp_sugar.specs.Registers.{ending_of, beside, inside, registers_in}
use Rattle.sp_sugar.specs.Runs.{Run, no_run, with_ops, next_code, with_computed, with_named, with_reset, with_word, with_stmt, inner_run}
use Rattle.sp_sugar.specs.Stages.{run_stage, first_of, Combines, nothing, folds, reduces, reduces_elements, combines, combination, combination_stage, inner_node, last_stages, style_of, outer_node, body_node, stages, node}
use Rattle.sp_sugar.specs.Uses.{uses, some_use, is_bare, counters_use, renamed, are_using, is_using, names_after, Ending, no_more, in_last_run, in_combination, ending_uses, is_used_later}
use Rattle.sp_sugar.specs.Values.{Source, at_place, in_register, constant, count, Sources, with_value, with_state}
use Rattle.sp_sugar.proofs.NodeSteps.{or_middle, ending_is}
use Rattle.sp_sugar.proofs.UseLemmas.{used, used_more, used_next, used_here, renamed_keeps, only, renamed_names, later_more, later_used}
use Rattle.sp_bodies.proofs.Alike.{SameFor, code_alike, codes_alike, list_alike, from_alike, counters_alike, spans_alike, early_alike}

-- the same number is given a source
pub changed_alike : (v : ℕ) (one two : Sources) (x y : Source) (u : ℕ) → one u ≡ two u → ((u == v) ≡ true → x ≡ y) → changed one v x u ≡ changed two v y u
changed_alike v one two x y u e f = go (u == v) refl
  where
    go : (b : Bool) → (u == v) ≡ b → (elim b as (λ _. Source) [ true ↦ x | false ↦ one u ]) ≡ (elim b as (λ _. Source) [ true ↦ y | false ↦ two u ])
    go true g = f g
    go false g = e

-- two runs with the same operations, with these statements to come
pub record Same (one two : Run) (rest : PlainStmts) (ending : Ending) : Type 0 where
  pub ops : one.ops ≡ two.ops
  pub here : (v : ℕ) → used (only v) rest ending ≡ true → one.values.here v ≡ two.values.here v
  pub later : (v : ℕ) → is_used_later (only v) rest ending ≡ true → one.values.elsewhere v ≡ two.values.elsewhere v

module _ (mems : List PlainMem) where
  next_alike : (one two : Run) (e : PlainExpr) → one.ops ≡ two.ops → SameFor mems one.values.here two.values.here (λ is. uses is e) → next_code mems one e ≡ next_code mems two e
  next_alike one two e same h = ap (λ (o : List PlainOp). code mems one.values.here (length o) e) same ∙ code_alike mems one.values.here two.values.here e (length two.ops) h

  word_alike : (one two : Run) (e : PlainExpr) (op : ℕ → PlainOp) → one.ops ≡ two.ops → SameFor mems one.values.here two.values.here (λ is. uses is e) → (with_word mems one e op).ops ≡ (with_word mems two e op).ops
  word_alike one two e op same h = ap (λ (x : Code). one.ops ++ (x.ops ++ op x.word ∷ [])) (next_alike one two e same h) ∙ ap (λ o. o ++ ((next_code mems two e).ops ++ op (next_code mems two e).word ∷ [])) same

  -- a statement that is no stage
  module _ (place : ℕ) (k : PlainStmtKind) (rest : PlainStmts) (ending : Ending) (one two : Run) (g : Same one two (more_stmt (stmt place k) rest) ending) where
    here_next : (v : ℕ) → used (only v) rest ending ≡ true → one.values.here v ≡ two.values.here v
    here_next v u = g.here v (used_next (only v) place k rest ending (used_more rest ending (only v) (renamed (only v) k) (renamed_keeps (only v) k) u))

    used_now : (v : ℕ) → is_using (only v) k ≡ true → one.values.here v ≡ two.values.here v
    used_now v u = g.here v (used_here (only v) place k rest ending u)

    abbrev Later_too : Type 0
    Later_too = (v : ℕ) → is_used_later (only v) rest ending ≡ true → one.values.elsewhere v ≡ two.values.elsewhere v

    moved_on : (ops1 ops2 : List PlainOp) → Later_too → ops1 ≡ ops2 → Same (record { ops = ops1; values = one.values }) (record { ops = ops2; values = two.values }) rest ending
    moved_on ops1 ops2 lat e = record { ops = e; here = here_next; later = lat }

  -- a value is named
  module _ (place v : ℕ) (e : PlainExpr) (rest : PlainStmts) (ending : Ending) (one two : Run) (g : Same one two (more_stmt (stmt place (name v e)) rest) ending) where
    later_named : (u : ℕ) → is_used_later (only u) rest ending ≡ true → one.values.elsewhere u ≡ two.values.elsewhere u
    later_named u c = g.later u (later_more rest ending (only u) (renamed (only u) (name v e)) (renamed_keeps (only u) (name v e)) c)

    named_as : (x y p q : Source) (ops1 ops2 : List PlainOp) → ops1 ≡ ops2 → (used (only v) rest ending ≡ true → x ≡ y) → (is_used_later (only v) rest ending ≡ true → p ≡ q)
        → Same (record { ops = ops1; values = with_value one.values v x p }) (record { ops = ops2; values = with_value two.values v y q }) rest ending
    named_as x y p q ops1 ops2 same f h = record {
      ops = same;
      here = λ u c. changed_alike v one.values.here two.values.here x y u (here_next place (name v e) rest ending one two g u c) (λ i. f (ap (λ w. used (only w) rest ending) (sym (eqb-true u v i)) ∙ c));
      later = λ u c. changed_alike v one.values.elsewhere two.values.elsewhere p q u (later_named u c) (λ i. h (ap (λ w. is_used_later (only w) rest ending) (sym (eqb-true u v i)) ∙ c));
    }

    computed_alike : (register : Option ℕ) → is_bare e ≡ false → Same (with_computed mems one v e register) (with_computed mems two v e register) rest ending
    computed_alike register bare =
        let next : next_code mems one e ≡ next_code mems two e = next_alike one two e g.ops (λ u c. used_now place (name v e) rest ending one two g u (and_from (not (is_bare e)) (uses (only u) e) (ap not bare) c)) in
        go register next
      where
        go : (register : Option ℕ) → next_code mems one e ≡ next_code mems two e → Same (with_computed mems one v e register) (with_computed mems two v e register) rest ending
        go None next = named_as (at_place (next_code mems one e).word) (at_place (next_code mems two e).word) (at_place (next_code mems one e).word) (at_place (next_code mems two e).word) (one.ops ++ (next_code mems one e).ops) (two.ops ++ (next_code mems two e).ops)
            (ap (λ (x : Code). one.ops ++ x.ops) next ∙ ap (λ o. o ++ (next_code mems two e).ops) g.ops) (λ c. ap (λ (x : Code). at_place x.word) next) (λ c. ap (λ (x : Code). at_place x.word) next)
        go (Some r) next = named_as (at_place (next_code mems one e).word) (at_place (next_code mems two e).word) (in_register r) (in_register r)
            (one.ops ++ (next_code mems one e).ops ++ write_op (type_of e) r ((next_code mems one e).word ∷ []) ∷ []) (two.ops ++ (next_code mems two e).ops ++ write_op (type_of e) r ((next_code mems two e).word ∷ []) ∷ [])
            (ap (λ (x : Code). one.ops ++ x.ops ++ write_op (type_of e) r (x.word ∷ []) ∷ []) next ∙ ap (λ o. o ++ (next_code mems two e).ops ++ write_op (type_of e) r ((next_code mems two e).word ∷ []) ∷ []) g.ops) (λ c. ap (λ (x : Code). at_place x.word) next) (λ c. refl)

  named_alike : (place v : ℕ) (e : PlainExpr) (rest : PlainStmts) (ending : Ending) (one two : Run) (register : Option ℕ) → Same one two (more_stmt (stmt place (name v e)) rest) ending → Same (with_named mems one v e register) (with_named mems two v e register) rest ending
  named_alike place v (expr at ty (literal w)) rest ending one two register g = named_as place v (expr at ty (literal w)) rest ending one two g (constant w) (constant w) (constant w) (constant w) one.ops two.ops g.ops (λ c. refl) (λ c. refl)
  named_alike place v (expr at ty (counter k)) rest ending one two register g = named_as place v (expr at ty (counter k)) rest ending one two g (count k) (count k) (count k) (count k) one.ops two.ops g.ops (λ c. refl) (λ c. refl)
  named_alike place v (expr at ty (value x)) rest ending one two register g =
      let e : PlainExpr = expr at ty (value x) in
      named_as place v e rest ending one two g (one.values.here x) (two.values.here x) (one.values.elsewhere x) (two.values.elsewhere x) one.ops two.ops g.ops
      (λ c. g.here x (used_next (only x) place (name v e) rest ending (used_more rest ending (only v) (renamed (only x) (name v e)) (renamed_names x v at ty) c)))
      (λ c. g.later x (later_more rest ending (only v) (renamed (only x) (name v e)) (renamed_names x v at ty) c))
  named_alike place v (expr at ty k) rest ending one two register g = computed_alike place v (expr at ty k) rest ending one two g register refl

  sram_alike : (place m : ℕ) (xs : PlainExprs) (e : PlainExpr) (rest : PlainStmts) (ending : Ending) (one two : Run) (g : Same one two (more_stmt (stmt place (set_sram m xs e)) rest) ending) (inside : Bool)
      → Same (with_stmt mems inside None one (set_sram m xs e)) (with_stmt mems inside None two (set_sram m xs e)) rest ending
  sram_alike place m xs e rest ending one two g inside =
      let k : PlainStmtKind = set_sram m xs e in
      let first : Codes = codes mems one.values.here (length one.ops) xs in
      let second : Codes = codes mems two.values.here (length two.ops) xs in
      let same : first ≡ second = ap (λ (o : List PlainOp). codes mems one.values.here (length o) xs) g.ops ∙ codes_alike mems one.values.here two.values.here xs (length two.ops) (λ v u. used_now place k rest ending one two g v (or_left (some_use (only v) xs) (uses (only v) e) u)) in
      let op : Codes → ℕ → PlainOp = λ is w. write_op (expressions.mem mems m).ty (mem_number mems m) (is.words ++ w ∷ []) in
      let grown : with_ops one first.ops ≡ record { ops = two.ops ++ second.ops; values = one.values } =
      ap (λ (is : Codes). record { ops = one.ops ++ is.ops; values = one.values }) same ∙ ap (λ o. record { ops = o ++ second.ops; values = one.values }) g.ops in
      let last : (with_word mems (with_ops one first.ops) e (op first)).ops ≡ (with_word mems (with_ops two second.ops) e (op second)).ops =
      ap (λ (is : Codes). (with_word mems (with_ops one first.ops) e (op is)).ops) same
      ∙ word_alike (with_ops one first.ops) (with_ops two second.ops) e (op second) (ap (λ (r : Run). r.ops) grown) (λ v u. used_now place k rest ending one two g v (or_right (some_use (only v) xs) (uses (only v) e) u)) in
      choose inside (moved_on place k rest ending one two g _ _ (λ v u. g.later v u) last)
    where
      choose : (b : Bool) → Same (with_stmt mems false None one (set_sram m xs e)) (with_stmt mems false None two (set_sram m xs e)) rest ending → Same (with_stmt mems b None one (set_sram m xs e)) (with_stmt mems b None two (set_sram m xs e)) rest ending
      choose true g = g
      choose false g = g

  reset_alike : (place m : ℕ) (rest : PlainStmts) (ending : Ending) (one two : Run) (g : Same one two (more_stmt (stmt place (declare m)) rest) ending) → Same (with_reset mems one m) (with_reset mems two m) rest ending
  reset_alike place m rest ending one two g = go (has_reset (expressions.mem mems m).kind (expressions.mem mems m).start)
    where
      op : PlainOp
      op = accesses kind.Reset (expressions.mem mems m).ty (mem_number mems m) []

      go : (b : Bool) → Same (if b then with_ops one (op ∷ []) else one) (if b then with_ops two (op ∷ []) else two) rest ending
      go true = moved_on place (declare m) rest ending one two g (one.ops ++ op ∷ []) (two.ops ++ op ∷ []) (λ v u. g.later v u) (ap (λ o. o ++ op ∷ []) g.ops)
      go false = moved_on place (declare m) rest ending one two g one.ops two.ops (λ v u. g.later v u) g.ops

  -- a stage lies between
  passed_by : (place : ℕ) (k : PlainStmtKind) (rest : PlainStmts) (ending : Ending) (one two : Run) (g : Same one two (more_stmt (stmt place k) rest) ending) → ((v : ℕ) → is_used_later (only v) rest ending ≡ true → is_used_later (only v) (more_stmt (stmt place k) rest) ending ≡ true) → Same one two rest ending
  passed_by place k rest ending one two g lat = record { ops = g.ops; here = here_next place k rest ending one two g; later = λ v u. g.later v (lat v u) }

  -- the statements of an inner body
  inner_alike : (body : PlainStmts) (ending : Ending) (one two : Run) → Same one two body ending → Same (inner_run mems one body) (inner_run mems two body) no_stmt ending
  inner_alike no_stmt ending one two g = g
  inner_alike (more_stmt (stmt place (declare m)) rest) ending one two g = inner_alike rest ending _ _ (reset_alike place m rest ending one two g)
  inner_alike (more_stmt (stmt place (name v e)) rest) ending one two g = inner_alike rest ending _ _ (named_alike place v e rest ending one two None g)
  inner_alike (more_stmt (stmt place (set_reg m e)) rest) ending one two g =
      inner_alike rest ending _ _ (moved_on place (set_reg m e) rest ending one two g _ _ (λ v u. g.later v u) (word_alike one two e (λ w. write_op (expressions.mem mems m).ty (mem_number mems m) (w ∷ [])) g.ops (used_now place (set_reg m e) rest ending one two g)))
  inner_alike (more_stmt (stmt place (set_out m e)) rest) ending one two g =
      inner_alike rest ending _ _ (moved_on place (set_out m e) rest ending one two g _ _ (λ v u. g.later v u) (word_alike one two e (λ w. write_op (expressions.mem mems m).ty (mem_number mems m) (w ∷ [])) g.ops (used_now place (set_out m e) rest ending one two g)))
  inner_alike (more_stmt (stmt place (set_sram m xs e)) rest) ending one two g = inner_alike rest ending _ _ (sram_alike place m xs e rest ending one two g true)
  inner_alike (more_stmt (stmt place (enq m e)) rest) ending one two g =
      inner_alike rest ending _ _ (moved_on place (enq m e) rest ending one two g _ _ (λ v u. g.later v u) (word_alike one two e (λ w. accesses kind.Enq (expressions.mem mems m).ty (mem_number mems m) (w ∷ [])) g.ops (used_now place (enq m e) rest ending one two g)))
  inner_alike (more_stmt (stmt place k) rest) ending one two g = inner_alike rest ending _ _ (passed_by place k rest ending one two g (λ v u. or_middle (is_using (only v) k) (are_using (only v) rest) (ending_uses (names_after (only v) rest) ending) (later_used rest ending (only v) u)))

  module _ (counters : ℕ) where
    -- what is combined finds its value
    abbrev Combines_in : Ending → Combines → Type 0
    Combines_in ending (folds acc comb e) = (v : ℕ) → uses (only v) e ≡ true → ending_uses (only v) ending ≡ true
    Combines_in ending (reduces acc begun comb e) = (v : ℕ) → uses (only v) e ≡ true → ending_uses (only v) ending ≡ true
    Combines_in ending _ = Unit {0}

    combined_alike : (one two : Run) (ending : Ending) (c : Combines) (e : PlainExpr) (loops : List core.PlainCounter) (owned : List ℕ) → Same one two no_stmt ending → ((v : ℕ) → uses (only v) e ≡ true → ending_uses (only v) ending ≡ true)
        → combination mems counters one.ops (next_code mems one e) c loops owned ≡ combination mems counters two.ops (next_code mems two e) c loops owned
    combined_alike one two ending c e loops owned g f =
        ap (λ x. combination mems counters one.ops x c loops owned) (next_alike one two e g.ops (λ v u. g.here v (f v u)))
        ∙ ap (λ o. combination mems counters o (next_code mems two e) c loops owned) g.ops

    inner_node_alike : (first second : Sources) (loops : List core.PlainCounter) (body : PlainStmts) (ending : Ending) (c : Combines) → Same (no_run first) (no_run second) body ending → Combines_in ending c
        → inner_node mems counters first loops body c ≡ inner_node mems counters second loops body c
    inner_node_alike first second loops body ending nothing g f = ap (λ o. inner loops (map (mem_number mems) (own_mems body)) o None) (inner_alike body ending (no_run first) (no_run second) g).ops
    inner_node_alike first second loops body ending (folds acc comb e) g f =
        combined_alike (inner_run mems (no_run first) body) (inner_run mems (no_run second) body) ending (folds acc comb e) e loops (map (mem_number mems) (own_mems body)) (inner_alike body ending (no_run first) (no_run second) g) f
    inner_node_alike first second loops body ending (reduces acc begun comb e) g f =
        combined_alike (inner_run mems (no_run first) body) (inner_run mems (no_run second) body) ending (reduces acc begun comb e) e loops (map (mem_number mems) (own_mems body)) (inner_alike body ending (no_run first) (no_run second) g) f
    inner_node_alike first second loops body ending (reduces_elements part acc begun comb) g f = ap (λ o. inner loops (map (mem_number mems) (own_mems body)) o None) (inner_alike body ending (no_run first) (no_run second) g).ops

    last_in_run : (one two : Run) (n : ℕ) (e : PlainExpr) (c : Combines) → Same one two no_stmt (in_last_run e)
        → run_stage (one.ops ++ (next_code mems one e).ops ++ write_op (type_of e) n ((next_code mems one e).word ∷ []) ∷ []) (combination_stage mems counters (alone 0 (read_op (type_of e) n [])) c)
        ≡ run_stage (two.ops ++ (next_code mems two e).ops ++ write_op (type_of e) n ((next_code mems two e).word ∷ []) ∷ []) (combination_stage mems counters (alone 0 (read_op (type_of e) n [])) c)
    last_in_run one two n e c g =
        ap (λ (x : Code). run_stage (one.ops ++ x.ops ++ write_op (type_of e) n (x.word ∷ []) ∷ []) (combination_stage mems counters (alone 0 (read_op (type_of e) n [])) c)) (next_alike one two e g.ops (λ v u. g.here v u))
        ∙ ap (λ o. run_stage (o ++ (next_code mems two e).ops ++ write_op (type_of e) n ((next_code mems two e).word ∷ []) ∷ []) (combination_stage mems counters (alone 0 (read_op (type_of e) n [])) c)) g.ops

    last_apart : (one two : Run) (e : PlainExpr) (c : Combines) → Same one two no_stmt (in_combination e)
        → run_stage one.ops (combination_stage mems counters (code mems one.values.elsewhere 0 e) c) ≡ run_stage two.ops (combination_stage mems counters (code mems two.values.elsewhere 0 e) c)
    last_apart one two e c g =
        ap (λ x. run_stage one.ops (combination_stage mems counters x c)) (code_alike mems one.values.elsewhere two.values.elsewhere e 0 (λ v u. g.later v u))
        ∙ ap (λ o. run_stage o (combination_stage mems counters (code mems two.values.elsewhere 0 e) c)) g.ops

    last_alike : (one two : Run) (n : ℕ) (ending : Ending) (c : Combines) → Same one two no_stmt ending → last_stages mems counters one n ending c ≡ last_stages mems counters two n ending c
    last_alike one two n no_more nothing g = ap (λ o. run_stage o no_stage) g.ops
    last_alike one two n no_more (folds acc comb e) g = ap (λ o. run_stage o no_stage) g.ops
    last_alike one two n no_more (reduces acc begun comb e) g = ap (λ o. run_stage o no_stage) g.ops
    last_alike one two n ending (reduces_elements part acc begun comb) g =
        ap (λ o. run_stage o (more_stage 0 0 true (element_loop mems counters (expressions.dims mems part) part acc begun (expressions.mem mems part).ty comb) no_stage)) g.ops
    last_alike one two n (in_combination e) nothing g = last_apart one two e nothing g
    last_alike one two n (in_combination e) (folds acc comb x) g = last_apart one two e (folds acc comb x) g
    last_alike one two n (in_combination e) (reduces acc begun comb x) g = last_apart one two e (reduces acc begun comb x) g
    last_alike one two n (in_last_run e) nothing g = last_in_run one two n e nothing g
    last_alike one two n (in_last_run e) (folds acc comb x) g = last_in_run one two n e (folds acc comb x) g
    last_alike one two n (in_last_run e) (reduces acc begun comb x) g = last_in_run one two n e (reduces acc begun comb x) g

    -- a body is entered
    entered : (first second : Sources) (body : PlainStmts) (ending : Ending) → ((v : ℕ) → used (only v) body ending ≡ true → first v ≡ second v) → Same (no_run first) (no_run second) body ending
    entered first second body ending h = record { ops = refl; here = h; later = λ v u. h v (later_used body ending (only v) u) }

    body_alike : (first second : Sources) (n : ℕ) (one_loops two_loops : List core.PlainCounter) (style : Style) (body : PlainStmts) (ending : Ending) (c : Combines) (x y : PlainStages)
        → one_loops ≡ two_loops → Same (no_run first) (no_run second) body ending → Combines_in ending c → x ≡ y
        → body_node mems counters first n one_loops style body ending c x ≡ body_node mems counters second n two_loops style body ending c y
    body_alike first second n one_loops two_loops style body ending c x y same g f e =
        ap (λ l. if is_inner body then inner_node mems counters first l body c else outer_node mems counters n l style body ending x) same
        ∙ ap (λ z. if is_inner body then z else outer_node mems counters n two_loops style body ending x) (inner_node_alike first second two_loops body ending c g f)
        ∙ ap (λ z. if is_inner body then inner_node mems counters second two_loops body c else outer_node mems counters n two_loops style body ending z) e

    plain_use : (is : ℕ → Bool) (body : PlainStmts) → used is body no_more ≡ true → are_using is body ≡ true
    plain_use is body u = go (are_using is body) u
      where
        go : (b : Bool) → (b || false) ≡ true → b ≡ true
        go true e = refl
        go false e = e

    mutual
      unfolding stages node

      pub stages_alike : (body : PlainStmts) (ending : Ending) (c : Combines) (n : ℕ) (one two : Run) → Same one two body ending → stages mems counters one n body ending c ≡ stages mems counters two n body ending c
      stages_alike no_stmt ending c n one two g = last_alike one two n ending c g
      stages_alike (more_stmt (stmt place (declare m)) rest) ending c n one two g = stages_alike rest ending c _ one two (moved_on place (declare m) rest ending one two g one.ops two.ops (λ v u. g.later v u) g.ops)
      stages_alike (more_stmt (stmt place (name v e)) rest) ending c n one two g =
          stages_alike rest ending c _ _ _ (named_alike place v e rest ending one two (first_of n (beside (name v e) rest ending)) g)
      stages_alike (more_stmt (stmt place (set_reg m e)) rest) ending c n one two g =
          stages_alike rest ending c _ _ _ (moved_on place (set_reg m e) rest ending one two g _ _ (λ v u. g.later v u) (word_alike one two e (λ w. write_op (expressions.mem mems m).ty (mem_number mems m) (w ∷ [])) g.ops (used_now place (set_reg m e) rest ending one two g)))
      stages_alike (more_stmt (stmt place (set_out m e)) rest) ending c n one two g =
          stages_alike rest ending c _ _ _ (moved_on place (set_out m e) rest ending one two g _ _ (λ v u. g.later v u) (word_alike one two e (λ w. write_op (expressions.mem mems m).ty (mem_number mems m) (w ∷ [])) g.ops (used_now place (set_out m e) rest ending one two g)))
      stages_alike (more_stmt (stmt place (set_sram m xs e)) rest) ending c n one two g = stages_alike rest ending c _ _ _ (sram_alike place m xs e rest ending one two g false)
      stages_alike (more_stmt (stmt place (enq m e)) rest) ending c n one two g =
          stages_alike rest ending c _ _ _ (moved_on place (enq m e) rest ending one two g _ _ (λ v u. g.later v u) (word_alike one two e (λ w. accesses kind.Enq (expressions.mem mems m).ty (mem_number mems m) (w ∷ [])) g.ops (used_now place (enq m e) rest ending one two g)))
      stages_alike (more_stmt (stmt place k) rest) ending c n one two g =
          let now : (v : ℕ) → is_using (only v) k ≡ true → one.values.elsewhere v ≡ two.values.elsewhere v = λ v u. g.later v (or_left (is_using (only v) k || are_using (only v) rest) (ending_uses (names_after (only v) rest) ending) (or_left (is_using (only v) k) (are_using (only v) rest) u)) in
          let later_on : (v : ℕ) → used (only v) rest ending ≡ true → one.values.elsewhere v ≡ two.values.elsewhere v = λ v u. g.later v (or_middle (is_using (only v) k) (are_using (only v) rest) (ending_uses (names_after (only v) rest) ending) u) in
          let b : ℕ = n + length (beside k rest ending) in
          let whole : List PlainOp → Sources → PlainNode → PlainStages → PlainStages = λ o l x y. run_stage o (early_stages mems l n k (more_stage 0 0 false x y)) in
          let l1 : Sources = one.values.elsewhere in
          let l2 : Sources = two.values.elsewhere in
          let x1 : PlainNode = node mems counters l1 n b k in
          let x2 : PlainNode = node mems counters l2 n b k in
          let y1 : PlainStages = stages mems counters (no_run l1) (b + length (inside k)) rest ending c in
          let y2 : PlainStages = stages mems counters (no_run l2) (b + length (inside k)) rest ending c in
          ap (λ o. whole o l1 x1 y1) g.ops
          ∙ ap (λ x. whole two.ops l1 x y1) (node_alike k l1 l2 n b now)
          ∙ ap (λ y. whole two.ops l1 x2 y) (stages_alike rest ending c (b + length (inside k)) (no_run l1) (no_run l2) (entered l1 l2 rest ending later_on))
          ∙ ap (run_stage two.ops) (early_alike mems l1 l2 k n (more_stage 0 0 false x2 y2) now)

      pub node_alike : (k : PlainStmtKind) (one two : Sources) (b n : ℕ) → ((v : ℕ) → is_using (only v) k ≡ true → one v ≡ two v) → node mems counters one b n k ≡ node mems counters two b n k
      node_alike (load_sram sram dram spans) one two b n h =
          ap (λ l. if slice_lanes spans == 1 then core.load (dram_number mems dram) (mem_number mems sram) l else sparse WideLoad (dram_number mems dram) (mem_number mems sram) None l [] (slice_lanes spans)) (spans_alike mems one two (is_early_part spans) b spans h)
      node_alike (load_line line dram spans) one two b n h =
          ap (λ l. if slice_lanes spans == 1 then core.load (dram_number mems dram) (mem_number mems line) l else sparse WideLoad (dram_number mems dram) (mem_number mems line) None l [] (slice_lanes spans)) (spans_alike mems one two (is_early_part spans) b spans h)
      node_alike (store dram spans sram) one two b n h =
          ap (λ l. if slice_lanes spans == 1 then core.store (dram_number mems dram) (mem_number mems sram) l else sparse WideStore (dram_number mems dram) (mem_number mems sram) None l [] (slice_lanes spans)) (spans_alike mems one two (is_early_part spans) b spans h)
      node_alike (gather sram dram places e) one two b n h = ap (λ l. sparse Gather (dram_number mems dram) (mem_number mems sram) (Some (mem_number mems places)) [] l 1) (from_alike mems one two is_early b e h)
      node_alike (scatter dram places e sram) one two b n h = ap (λ l. sparse Scatter (dram_number mems dram) (mem_number mems sram) (Some (mem_number mems places)) [] l 1) (from_alike mems one two is_early b e h)
      node_alike (block style body) one two b n h =
          let g = entered one two body no_more (λ v u. h v (plain_use (only v) body u)) in
          body_alike one two n [] [] (style_of mems counters style body) body no_more nothing _ _ refl g tt (stages_alike body no_more nothing n (no_run one) (no_run two) g)
      node_alike (foreach style loops body) one two b n h =
          let g = entered one two body no_more (λ v u. h v (or_right (counters_use (only v) loops) (are_using (only v) body) (plain_use (only v) body u))) in
          body_alike one two n (counters_of mems one b loops) (counters_of mems two b loops) style body no_more nothing _ _ (counters_alike mems one two b loops (λ v u. h v (or_left (counters_use (only v) loops) (are_using (only v) body) u))) g tt
          (stages_alike body no_more nothing n (no_run one) (no_run two) g)
      node_alike (reduce style fold acc loops body e comb) one two b n h =
          let ending : Ending = ending_of loops e in
          let c : Combines = combines mems fold acc (b + length (registers_for is_early (bounds_of loops))) comb e in
          let g = entered one two body ending (λ v u. h v (whole_use v u)) in
          body_alike one two n (counters_of mems one b loops) (counters_of mems two b loops) style body ending c _ _
          (counters_alike mems one two b loops (λ v u. h v (or_left (counters_use (only v) loops || are_using (only v) body) (uses (names_after (only v) body) e) (or_left (counters_use (only v) loops) (are_using (only v) body) u)))) g (finds fold (b + length (registers_for is_early (bounds_of loops))))
          (stages_alike body ending c n (no_run one) (no_run two) g)
        where
          whole_use : (v : ℕ) → used (only v) body (ending_of loops e) ≡ true → ((counters_use (only v) loops || are_using (only v) body) || uses (names_after (only v) body) e) ≡ true
          whole_use v u = or_middle (counters_use (only v) loops) (are_using (only v) body) (uses (names_after (only v) body) e)
              (ending_is (λ ending. used (only v) body ending ≡ true → (are_using (only v) body || uses (names_after (only v) body) e) ≡ true) loops e (λ x. x) (λ x. x) u)

          used_at_end : (v : ℕ) → uses (only v) e ≡ true → ending_uses (only v) (ending_of loops e) ≡ true
          used_at_end v u = ending_is (λ ending. ending_uses (only v) ending ≡ true) loops e u u

          finds : (fold : Bool) (begun : ℕ) → Combines_in (ending_of loops e) (combines mems fold acc begun comb e)
          finds true begun = used_at_end
          finds false begun = used_at_end
      node_alike (mem_reduce style acc loops body part comb) one two b n h =
          let c : Combines = reduces_elements part (mem_number mems acc) (b + length (registers_for is_early (bounds_of loops))) comb in
          let g = entered one two body no_more (λ v u. h v (or_right (counters_use (only v) loops) (are_using (only v) body) (plain_use (only v) body u))) in
          ap (λ l. outer_node mems counters n l style body no_more (stages mems counters (no_run one) n body no_more c)) (counters_alike mems one two b loops (λ v u. h v (or_left (counters_use (only v) loops) (are_using (only v) body) u)))
          ∙ ap (outer_node mems counters n (counters_of mems two b loops) style body no_more) (stages_alike body no_more c n (no_run one) (no_run two) g)
      node_alike (fsm start tested test state body last next) one two b n h =
          let k1 : Sources = with_state one tested state last n in
          let k2 : Sources = with_state two tested state last n in
          let kept : (v : ℕ) → is_using (only v) (fsm start tested test state body last next) ≡ true → k1 v ≡ k2 v = λ v u. kept_alike v (h v u) in
          let g = entered k1 k2 body no_more (λ v u. kept v (in_body v (plain_use (only v) body u))) in
          let whole : List PlainOp → List PlainOp → PlainNode → List PlainOp → PlainNode = λ x y z w. core.fsm x n y z w in
          let z1 : PlainNode = body_node mems counters k1 (suc n) [] Pipe body no_more nothing (stages mems counters (no_run k1) (suc n) body no_more nothing) in
          let z2 : PlainNode = body_node mems counters k2 (suc n) [] Pipe body no_more nothing (stages mems counters (no_run k2) (suc n) body no_more nothing) in
          ap (λ x. whole x (word_list mems k1 test) z1 (word_list mems k1 next)) (list_alike mems one two start (λ v u. h v (in_start v u)))
          ∙ ap (λ y. whole (word_list mems two start) y z1 (word_list mems k1 next)) (list_alike mems k1 k2 test (λ v u. kept v (in_test v u)))
          ∙ ap (λ z. whole (word_list mems two start) (word_list mems k2 test) z (word_list mems k1 next)) (body_alike k1 k2 (suc n) [] [] Pipe body no_more nothing _ _ refl g tt (stages_alike body no_more nothing (suc n) (no_run k1) (no_run k2) g))
          ∙ ap (whole (word_list mems two start) (word_list mems k2 test) z2) (list_alike mems k1 k2 next (λ v u. kept v (in_next v u)))
        where
          in_start : (v : ℕ) → uses (only v) start ≡ true → is_using (only v) (fsm start tested test state body last next) ≡ true
          in_start v u = or_left (uses (only v) start || uses (only v) test || are_using (only v) body) (uses (only v) next) (or_left (uses (only v) start || uses (only v) test) (are_using (only v) body) (or_left (uses (only v) start) (uses (only v) test) u))

          in_test : (v : ℕ) → uses (only v) test ≡ true → is_using (only v) (fsm start tested test state body last next) ≡ true
          in_test v u = or_left (uses (only v) start || uses (only v) test || are_using (only v) body) (uses (only v) next) (or_left (uses (only v) start || uses (only v) test) (are_using (only v) body) (or_right (uses (only v) start) (uses (only v) test) u))

          in_body : (v : ℕ) → are_using (only v) body ≡ true → is_using (only v) (fsm start tested test state body last next) ≡ true
          in_body v u = or_left (uses (only v) start || uses (only v) test || are_using (only v) body) (uses (only v) next) (or_right (uses (only v) start || uses (only v) test) (are_using (only v) body) u)

          in_next : (v : ℕ) → uses (only v) next ≡ true → is_using (only v) (fsm start tested test state body last next) ≡ true
          in_next v u = or_right (uses (only v) start || uses (only v) test || are_using (only v) body) (uses (only v) next) u

          kept_alike : (v : ℕ) → one v ≡ two v → with_state one tested state last n v ≡ with_state two tested state last n v
          kept_alike v e =
              changed_alike last (changed (changed one tested (in_register n)) state (in_register n)) (changed (changed two tested (in_register n)) state (in_register n)) (in_register n) (in_register n) v
              (changed_alike state (changed one tested (in_register n)) (changed two tested (in_register n)) (in_register n) (in_register n) v (changed_alike tested one two (in_register n) (in_register n) v e (λ i. refl)) (λ i. refl)) (λ i. refl)
      node_alike (branch test first second) one two b n h =
          let m : ℕ = n + length (registers_in first no_more) in
          let whole : List PlainOp → PlainNode → PlainNode → PlainNode = core.branch in
          let g1 = entered one two first no_more (λ v u. h v (or_left (uses (only v) test || are_using (only v) first) (are_using (only v) second) (or_right (uses (only v) test) (are_using (only v) first) (plain_use (only v) first u)))) in
          let g2 = entered one two second no_more (λ v u. h v (or_right (uses (only v) test || are_using (only v) first) (are_using (only v) second) (plain_use (only v) second u))) in
          let x1 : PlainNode = body_node mems counters one n [] Pipe first no_more nothing (stages mems counters (no_run one) n first no_more nothing) in
          let x2 : PlainNode = body_node mems counters two n [] Pipe first no_more nothing (stages mems counters (no_run two) n first no_more nothing) in
          let y1 : PlainNode = body_node mems counters one m [] Pipe second no_more nothing (stages mems counters (no_run one) m second no_more nothing) in
          ap (λ x. whole x x1 y1) (list_alike mems one two test (λ v u. h v (or_left (uses (only v) test || are_using (only v) first) (are_using (only v) second) (or_left (uses (only v) test) (are_using (only v) first) u))))
          ∙ ap (λ x. whole (word_list mems two test) x y1) (body_alike one two n [] [] Pipe first no_more nothing _ _ refl g1 tt (stages_alike first no_more nothing n (no_run one) (no_run two) g1))
          ∙ ap (whole (word_list mems two test) x2) (body_alike one two m [] [] Pipe second no_more nothing _ _ refl g2 tt (stages_alike second no_more nothing m (no_run one) (no_run two) g2))
      node_alike (declare m) one two b n h = refl
      node_alike (name v e) one two b n h = refl
      node_alike (set_reg m e) one two b n h = refl
      node_alike (set_out m e) one two b n h = refl
      node_alike (set_sram m xs e) one two b n h = refl
      node_alike (enq m e) one two b n h = refl
