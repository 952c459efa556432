use Rattle.std.proofs.Common.{◌≡◌, ◌+◌, ◌++◌, [], append-nil, append_assoc, ℕ, true, false, map, length, take, drop, ◌-◌, arith, sym, ap, ◌∙◌}
use Rattle.std.proofs.lemmas.Grind.{common_steps}
use Rattle.sp_core.specs.Plain as core
use Rattle.sp_core.specs.PlainCore.{PlainStages, outer, more_stage, fsm, branch}
use Rattle.sp_tree.specs.Plain.{plain_expr, plain_mem}
use Rattle.sp_tree.specs.PlainStatement.{stmt, more_stmt}
use Rattle.sp_tree.specs.PlainTree.{plain_counter, plain_stmt_kind, plain_stmts}
use Rattle.sp_tree.specs.Structure.{own_mems}
use Rattle.sp_sugar.specs.Early.{bounds_of, is_early, registers_for, counters_of, early_stages}
use Rattle.sp_sugar.specs.Numbers.{mem_number, numbers_from}
use Rattle.sp_sugar.specs.Operations.{word_list}
use Rattle.sp_sugar.specs.Registers.{beside, inside, registers_in, ending_of, owned_registers}
use Rattle.sp_sugar.specs.Runs.{no_run, with_stmt}
use Rattle.sp_sugar.specs.Stages.{combines, first_of, reduces_elements, run_stage, style_of, last_stages, node, stages}
use Rattle.sp_sugar.specs.Uses.{no_more}
use Rattle.sp_operations.specs.Running.{run_of}
use Rattle.sp_operations.specs.Sources.{sources_of}
use Rattle.sp_desugar.specs.Crossings.{onto}
use Rattle.sp_desugar.specs.Names.{plain_ending, is_primitive}
use Rattle.sp_desugar.specs.Tree.{plain_combines, alone_node}
use Rattle.sp_desugar.proofs.BodyLemmas.{plain_outer, inside_primitive, stages_in_run, stages_after_run, stages_at_end, registers_step, registers_at_end, owned_step}
use Rattle.sp_desugar.proofs.NodeLemmas as made
use Rattle.sp_desugar.proofs.StageLemmas.{onto_none, onto_all}
use Rattle.sp_desugar.proofs.UseLemmas.{drop_here}
use Rattle.sp_desugar.proofs.tree.+tree.Goals as goal

pub add_statement-returns-then-is_primitive-clause-regs : goal.add_statement-returns-then-is_primitive-clause-regs
add_statement-returns-then-is_primitive-clause-regs t c =
    let b = beside (plain_stmt_kind c.args.kind.now) (plain_stmts c.args.rest.now) (plain_ending c.args.ending) in
    let h : is_primitive (plain_stmt_kind c.args.kind.now) ≡ true = sym c.is_primitive.ensures ∙ c.if-is_primitive.true in
    c.in_ok-first.ensures.regs
    ∙ ap (λ x. map core.plain_mem c.args.regs.now.items ++ x) (sym (ap (λ i. b ++ i) (inside_primitive (plain_stmt_kind c.args.kind.now) h) ∙ append-nil b))

pub add_statement-returns-then-is_primitive-clause-stages : goal.add_statement-returns-then-is_primitive-clause-stages
add_statement-returns-then-is_primitive-clause-stages t c = λ place k.
    let M = map plain_mem c.args.mems.now in
    let out = c.args.out.now.items in
    let kind = plain_stmt_kind c.args.kind.now in
    let rest = plain_stmts c.args.rest.now in
    let ending = plain_ending c.args.ending in
    let before = map core.plain_mem c.args.regs.now.items in
    let all = map core.plain_mem c.own_beside.new.regs.items in
    let b = beside kind rest ending in
    let h : is_primitive kind ≡ true = sym c.is_primitive.ensures ∙ c.if-is_primitive.true in
    let n : length all ≡ length before + length b = made.after_all before all b c.in_ok-first.ensures.regs in
    let register : c.first_added-register.result ≡ first_of (length before) b =
    c.first_added-register.ensures before b (ap (map core.plain_mem) c.deref.ensures.value ∙ c.in_ok-first.ensures.regs) c.in_ok-first.ensures.first
    ∙ ap (λ f. first_of f b) c.in_ok-first.ensures.first in
    let ran : run_of c.add_stmt.new.run ≡ with_stmt M false (first_of (length before) b) (run_of c.args.run.now) kind =
    c.in_ok-add_stmt.ensures ∙ ap (λ r. with_stmt M false r (run_of c.args.run.now) kind) register in
    ap (λ r. onto out (stages M c.args.counters r (length all) rest ending k)) ran
    ∙ ap (λ m. onto out (stages M c.args.counters (with_stmt M false (first_of (length before) b) (run_of c.args.run.now) kind) m rest ending k)) n
    ∙ ap (onto out) (sym (stages_in_run M c.args.counters (run_of c.args.run.now) (length before) place kind rest ending k h))

pub add_statement-returns-clause-stages : goal.add_statement-returns-clause-stages
add_statement-returns-clause-stages t c = λ place k.
    let M = map plain_mem c.args.mems.now in
    let out = c.args.out.now.items in
    let kind = plain_stmt_kind c.args.kind.now in
    let rest = plain_stmts c.args.rest.now in
    let ending = plain_ending c.args.ending in
    let before = map core.plain_mem c.args.regs.now.items in
    let all = map core.plain_mem c.own_beside.new.regs.items in
    let after = map core.plain_mem c.add_other.new.regs.items in
    let b = beside kind rest ending in
    let run = run_of c.args.run.now in
    let sources = run.values.elsewhere in
    let h : is_primitive kind ≡ false = sym c.is_primitive.ensures ∙ c.if-is_primitive.false in
    let n : length all ≡ length before + length b = made.after_all before all b c.in_ok-first.ensures.regs in
    let m : length after ≡ length before + length b + length (inside kind) =
    made.after_all all after (inside kind) c.in_ok-add_other.ensures.regs ∙ ap (λ x. x + length (inside kind)) n in
    let next : stages M c.args.counters (run_of c.add_other.new.run) (length after) rest ending k
    ≡ stages M c.args.counters (no_run sources) (length before + length b + length (inside kind)) rest ending k =
    ap (λ r. stages M c.args.counters r (length after) rest ending k) c.in_ok-add_other.ensures.run
    ∙ ap (λ x. stages M c.args.counters (no_run sources) x rest ending k) m in
    let shape = λ (f x : ℕ) (s : PlainStages). onto out (run_stage run.ops (early_stages M sources f kind (more_stage 0 0 false (node M c.args.counters sources f x kind) s))) in
    c.in_ok-add_other.ensures.stages (stages M c.args.counters (run_of c.add_other.new.run) (length after) rest ending k)
    ∙ ap (λ s. shape c.in_ok-first.first (length all) s) next
    ∙ ap (λ x. shape c.in_ok-first.first x (stages M c.args.counters (no_run sources) (length before + length b + length (inside kind)) rest ending k)) n
    ∙ ap (λ f. shape f (length before + length b) (stages M c.args.counters (no_run sources) (length before + length b + length (inside kind)) rest ending k)) c.in_ok-first.ensures.first
    ∙ ap (onto out) (sym (stages_after_run M c.args.counters run (length before) place kind rest ending k h))

pub add_statements-loop-s-preserved : goal.add_statements-loop-s-preserved
add_statements-loop-s-preserved t c =
    let M = map plain_mem c.args.mems.now in
    let body = c.args.body.now in
    let i = c.loop-s.s-index in
    let s = c.s-item.result in
    let kind = plain_stmt_kind s.kind in
    let ending = plain_ending c.args.ending in
    let before = map core.plain_mem c.loop-s.regs.items in
    let after = map core.plain_mem c.add_statement.new.regs.items in
    let rest : take (length body - (c.loop-s.at + 1)) (drop (c.loop-s.at + 1) body) ≡ drop (i + 1) body = made.rest_is body c.loop-s.at i c.loop-s.invariant.counted in
    let f : after ≡ before ++ (beside kind (plain_stmts (drop (i + 1) body)) ending ++ inside kind) =
    c.in_ok-add_statement.ensures.regs ∙ ap (λ xs. before ++ (beside kind (plain_stmts xs) ending ++ inside kind)) rest in
    let g : c.add_statement.new.owned.items ≡ c.loop-s.owned.items ++ numbers_from (length before) (length (beside kind (plain_stmts (drop (i + 1) body)) ending)) =
    c.in_ok-add_statement.ensures.owned ∙ ap (λ xs. c.loop-s.owned.items ++ numbers_from (length before) (length (beside kind (plain_stmts xs) ending))) rest in
    record {
      counted = ap (λ n. n + 1) c.loop-s.invariant.counted;
      regs = registers_step before after body i s ending c.loop-s-test.true c.s-item.is f ∙ c.loop-s.invariant.regs;
      owned = owned_step before after c.loop-s.owned.items c.add_statement.new.owned.items body i s ending c.loop-s-test.true c.s-item.is f g ∙ c.loop-s.invariant.owned;
      stages = λ k.
          ap (λ xs. onto c.add_statement.new.out.items (stages M c.args.counters (run_of c.add_statement.new.run) (length after) (plain_stmts xs) ending k)) (sym rest)
          ∙ c.in_ok-add_statement.ensures.stages s.at k
          ∙ ap (λ xs. onto c.loop-s.out.items (stages M c.args.counters (run_of c.loop-s.run) (length before) (more_stmt (stmt s.at kind) (plain_stmts xs)) ending k)) rest
          ∙ ap (λ xs. onto c.loop-s.out.items (stages M c.args.counters (run_of c.loop-s.run) (length before) (plain_stmts xs) ending k)) (sym (drop_here body i s c.loop-s-test.true c.s-item.is))
          ∙ c.loop-s.invariant.stages k;
    }

pub add_statements-returns-clause-regs : goal.add_statements-returns-clause-regs
add_statements-returns-clause-regs t c =
    let d : drop c.loop-s.s-index c.args.body.now ≡ [] = grind (arith, common_steps) in
    sym (registers_at_end (map core.plain_mem c.loop-s.regs.items) (drop c.loop-s.s-index c.args.body.now) (plain_ending c.args.ending) d) ∙ c.loop-s.invariant.regs

pub add_statements-returns-clause-stages : goal.add_statements-returns-clause-stages
add_statements-returns-clause-stages t c = λ k.
    let d : drop c.loop-s.s-index c.args.body.now ≡ [] = grind (arith, common_steps) in
    sym (ap (onto c.loop-s.out.items) (stages_at_end (map plain_mem c.args.mems.now) c.args.counters (run_of c.loop-s.run) (length (map core.plain_mem c.loop-s.regs.items)) (drop c.loop-s.s-index c.args.body.now) (plain_ending c.args.ending) k d))
    ∙ c.loop-s.invariant.stages k

pub outer_body-returns-clause-node : goal.outer_body-returns-clause-node
outer_body-returns-clause-node t c =
    let M = map plain_mem c.args.mems.now in
    let body = plain_stmts c.args.body.now in
    let ending = plain_ending c.args.ending in
    let k = plain_combines c.args.combines in
    let n = length (map core.plain_mem c.args.regs.now.items) in
    let own = map (mem_number M) (own_mems body) in
    let owned : c.own_at_end.new.owned.items ≡ own ++ owned_registers n body ending =
    c.in_ok-n.ensures.owned ∙ c.in_ok-add_statements.ensures.owned
    ∙ ap (λ xs. xs ++ owned_registers n body ending) (c.in_ok-push_own.ensures ∙ ap (λ xs. xs ++ own) c.new-owned.ensures.items) in
    let all : core.plain_stage_list c.push_last.new.out.items ≡ stages M c.args.counters (no_run (sources_of c.args.sources.now)) n body ending k =
    onto_all c.push_last.new.out.items
    ∙ c.in_ok-push_last.ensures
    ∙ ap (λ m. onto c.add_statements.new.out.items (last_stages M c.args.counters (run_of c.add_statements.new.run) m ending k)) c.in_ok-n.ensures.first
    ∙ c.in_ok-add_statements.ensures.stages k
    ∙ ap (λ out. onto out (stages M c.args.counters (run_of c.in_ok-run.run') n body ending k)) c.new-out.ensures.items
    ∙ onto_none (stages M c.args.counters (run_of c.in_ok-run.run') n body ending k)
    ∙ ap (λ r. stages M c.args.counters r n body ending k) c.in_ok-run.ensures in
    plain_outer c.args.loops c.args.style c.own_at_end.new.owned c.push_last.new.out
    ∙ ap (λ o. outer (map core.plain_counter c.args.loops.items) c.args.style o (core.plain_stage_list c.push_last.new.out.items)) owned
    ∙ ap (outer (map core.plain_counter c.args.loops.items) c.args.style (own ++ owned_registers n body ending)) all

pub ctl_node-returns-in_ok-node-in-Block-clause-regs : goal.ctl_node-returns-in_ok-node-in-Block-clause-regs
ctl_node-returns-in_ok-node-in-Block-clause-regs t c =
    c.in_ok-node-in-Block.ensures.regs
    ∙ ap (λ x. map core.plain_mem c.args.regs.now.items ++ x) (made.block_inside c.args.ctl.now c.in-Block.style c.in-Block.body c.deref-in-Block.result.now c.in-Block.is c.deref-in-Block.ensures.value)

pub ctl_node-returns-in_ok-node-in-Block-clause-node : goal.ctl_node-returns-in_ok-node-in-Block-clause-node
ctl_node-returns-in_ok-node-in-Block-clause-node t c =
    let M = map plain_mem c.args.mems.now in
    c.in_ok-node-in-Block.ensures.node
    ∙ made.block_node M c.args.counters c.args.ctl.now c.in-Block.style c.in-Block.body c.deref-in-Block.result.now (sources_of c.args.sources.now) c.args.b (length (map core.plain_mem c.args.regs.now.items)) (map core.plain_counter c.new.result.items) c.in_ok-style-in-Block.style
    c.in-Block.is c.deref-in-Block.ensures.value (ap (map core.plain_counter) c.new.ensures.items)
    (c.in_ok-style-in-Block.ensures c.args.counters ∙ ap (λ s. style_of M c.args.counters c.in-Block.style (plain_stmts s)) (c.deref.ensures.value ∙ sym c.deref-in-Block.ensures.value))

pub ctl_node-returns-in_ok-node-in-Foreach-clause-regs : goal.ctl_node-returns-in_ok-node-in-Foreach-clause-regs
ctl_node-returns-in_ok-node-in-Foreach-clause-regs t c =
    c.in_ok-node-in-Foreach.ensures.regs
    ∙ ap (λ x. map core.plain_mem c.args.regs.now.items ++ x) (made.foreach_inside c.args.ctl.now c.in-Foreach.style c.in-Foreach.all c.in-Foreach.body c.deref-in-Foreach-2.result.now c.in-Foreach.is c.deref-in-Foreach-2.ensures.value)

pub ctl_node-returns-in_ok-node-in-Foreach-clause-node : goal.ctl_node-returns-in_ok-node-in-Foreach-clause-node
ctl_node-returns-in_ok-node-in-Foreach-clause-node t c =
    let M = map plain_mem c.args.mems.now in
    c.in_ok-node-in-Foreach.ensures.node
    ∙ made.foreach_node M c.args.counters c.args.ctl.now c.in-Foreach.style c.in-Foreach.all c.in-Foreach.body c.deref-in-Foreach-2.result.now (sources_of c.args.sources.now) c.args.b (length (map core.plain_mem c.args.regs.now.items)) (map core.plain_counter c.in_ok-loops-in-Foreach.loops.items)
    c.in-Foreach.is c.deref-in-Foreach-2.ensures.value
    (c.in_ok-loops-in-Foreach.ensures ∙ ap (λ xs. counters_of M (sources_of c.args.sources.now) c.args.b (map plain_counter xs)) c.deref-in-Foreach.ensures.value)

pub ctl_node-returns-in_ok-node-in-Reduce-clause-regs : goal.ctl_node-returns-in_ok-node-in-Reduce-clause-regs
ctl_node-returns-in_ok-node-in-Reduce-clause-regs t c =
    c.in_ok-node-in-Reduce.ensures.regs
    ∙ ap (λ x. map core.plain_mem c.args.regs.now.items ++ x) (made.reduce_inside c.args.ctl.now c.in-Reduce.style c.in-Reduce.fold c.in-Reduce.acc c.in-Reduce.all c.in-Reduce.body c.in-Reduce.value c.in-Reduce.comb
    c.deref-in-Reduce-4.result.now (plain_ending c.in_ok-ending-in-Reduce.ending) c.in-Reduce.is c.deref-in-Reduce-4.ensures.value
    (c.in_ok-ending-in-Reduce.ensures ∙ ap (λ xs. ending_of (map plain_counter xs) (plain_expr c.in-Reduce.value)) c.deref-in-Reduce-3.ensures.value))

pub ctl_node-returns-in_ok-node-in-Reduce-clause-node : goal.ctl_node-returns-in_ok-node-in-Reduce-clause-node
ctl_node-returns-in_ok-node-in-Reduce-clause-node t c =
    let M = map plain_mem c.args.mems.now in
    let value = plain_expr c.in-Reduce.value in
    let begun : c.in_ok-begun-in-Reduce.begun ≡ c.args.b + length (registers_for is_early (bounds_of (map plain_counter c.in-Reduce.all.items))) =
    c.in_ok-begun-in-Reduce.ensures ∙ ap (λ xs. c.args.b + length (registers_for is_early (bounds_of (map plain_counter xs)))) c.deref-in-Reduce.ensures.value in
    c.in_ok-node-in-Reduce.ensures.node
    ∙ made.reduce_node M c.args.counters c.args.ctl.now c.in-Reduce.style c.in-Reduce.fold c.in-Reduce.acc c.in-Reduce.all c.in-Reduce.body c.in-Reduce.value c.in-Reduce.comb
    c.deref-in-Reduce-4.result.now (sources_of c.args.sources.now) c.args.b (length (map core.plain_mem c.args.regs.now.items)) (map core.plain_counter c.in_ok-loops-in-Reduce.loops.items)
    (plain_ending c.in_ok-ending-in-Reduce.ending) (plain_combines c.combined_by-combines.result)
    c.in-Reduce.is c.deref-in-Reduce-4.ensures.value
    (c.in_ok-loops-in-Reduce.ensures ∙ ap (λ xs. counters_of M (sources_of c.args.sources.now) c.args.b (map plain_counter xs)) c.deref-in-Reduce-2.ensures.value)
    (c.in_ok-ending-in-Reduce.ensures ∙ ap (λ xs. ending_of (map plain_counter xs) value) c.deref-in-Reduce-3.ensures.value)
    (c.combined_by-combines.ensures ∙ ap (λ a. combines M c.in-Reduce.fold a c.in_ok-begun-in-Reduce.begun c.in-Reduce.comb value) c.number.ensures ∙ ap (λ x. combines M c.in-Reduce.fold c.in-Reduce.acc x c.in-Reduce.comb value) begun)

pub ctl_node-returns-in_ok-node-in-MemReduce-clause-regs : goal.ctl_node-returns-in_ok-node-in-MemReduce-clause-regs
ctl_node-returns-in_ok-node-in-MemReduce-clause-regs t c =
    c.in_ok-node-in-MemReduce.ensures.regs
    ∙ ap (λ x. map core.plain_mem c.args.regs.now.items ++ x) (made.mem_reduce_inside c.args.ctl.now c.in-MemReduce.style c.in-MemReduce.acc c.in-MemReduce.all c.in-MemReduce.body c.in-MemReduce.part c.in-MemReduce.comb
    c.deref-in-MemReduce-3.result.now c.in-MemReduce.is c.deref-in-MemReduce-3.ensures.value)

pub ctl_node-returns-in_ok-node-in-MemReduce-clause-node : goal.ctl_node-returns-in_ok-node-in-MemReduce-clause-node
ctl_node-returns-in_ok-node-in-MemReduce-clause-node t c =
    let M = map plain_mem c.args.mems.now in
    let begun : c.in_ok-begun-in-MemReduce.begun ≡ c.args.b + length (registers_for is_early (bounds_of (map plain_counter c.in-MemReduce.all.items))) =
    c.in_ok-begun-in-MemReduce.ensures ∙ ap (λ xs. c.args.b + length (registers_for is_early (bounds_of (map plain_counter xs)))) c.deref-in-MemReduce.ensures.value in
    c.in_ok-node-in-MemReduce.ensures.node
    ∙ made.mem_reduce_node M c.args.counters c.args.ctl.now c.in-MemReduce.style c.in-MemReduce.acc c.in-MemReduce.all c.in-MemReduce.body c.in-MemReduce.part c.in-MemReduce.comb
    c.deref-in-MemReduce-3.result.now (sources_of c.args.sources.now) c.args.b (length (map core.plain_mem c.args.regs.now.items)) (map core.plain_counter c.in_ok-loops-in-MemReduce.loops.items)
    (reduces_elements c.number-in-MemReduce-2.result c.mem_number-acc.result c.in_ok-begun-in-MemReduce.begun c.in-MemReduce.comb)
    c.in-MemReduce.is c.deref-in-MemReduce-3.ensures.value
    (c.in_ok-loops-in-MemReduce.ensures ∙ ap (λ xs. counters_of M (sources_of c.args.sources.now) c.args.b (map plain_counter xs)) c.deref-in-MemReduce-2.ensures.value)
    (ap (λ p. reduces_elements p c.mem_number-acc.result c.in_ok-begun-in-MemReduce.begun c.in-MemReduce.comb) c.number-in-MemReduce-2.ensures
    ∙ ap (λ a. reduces_elements c.in-MemReduce.part a c.in_ok-begun-in-MemReduce.begun c.in-MemReduce.comb) (c.mem_number-acc.ensures ∙ ap (mem_number M) c.number-in-MemReduce.ensures)
    ∙ ap (λ x. reduces_elements c.in-MemReduce.part (mem_number M c.in-MemReduce.acc) x c.in-MemReduce.comb) begun)

pub ctl_node-returns-in_ok-node-in-Fsm-clause-regs : goal.ctl_node-returns-in_ok-node-in-Fsm-clause-regs
ctl_node-returns-in_ok-node-in-Fsm-clause-regs t c =
    let before = map core.plain_mem c.args.regs.now.items in
    c.in_ok-body-in-Fsm.ensures.regs
    ∙ ap (λ x. x ++ registers_in (plain_stmts c.deref-in-Fsm.result.now) no_more) c.in_ok-r-in-Fsm.ensures.regs
    ∙ append_assoc before _ _
    ∙ ap (λ x. before ++ x) (made.fsm_inside c.args.ctl.now c.in-Fsm.start c.in-Fsm.tested c.in-Fsm.test c.in-Fsm.state c.in-Fsm.body c.in-Fsm.last c.in-Fsm.next c.deref-in-Fsm.result.now c.in-Fsm.is c.deref-in-Fsm.ensures.value)

pub ctl_node-returns-in_ok-node-in-Fsm-clause-node : goal.ctl_node-returns-in_ok-node-in-Fsm-clause-node
ctl_node-returns-in_ok-node-in-Fsm-clause-node t c =
    let M = map plain_mem c.args.mems.now in
    let kept = sources_of c.in_ok-kept-in-Fsm.kept.items in
    let n = length (map core.plain_mem c.args.regs.now.items) in
    let m = length (map core.plain_mem c.push_state.new.regs.items) in
    let start = word_list M (sources_of c.args.sources.now) (plain_expr c.in-Fsm.start) in
    c.in_ok-node-in-Fsm.ensures
    ∙ ap (λ s. fsm start c.in_ok-r-in-Fsm.r (word_list M (sources_of s) (plain_expr c.in-Fsm.test)) (core.plain_node c.in_ok-body-in-Fsm.body) (word_list M (sources_of s) (plain_expr c.in-Fsm.next))) c.deref-in-Fsm-3.ensures.value
    ∙ ap (λ x. fsm start c.in_ok-r-in-Fsm.r (word_list M kept (plain_expr c.in-Fsm.test)) x (word_list M kept (plain_expr c.in-Fsm.next)))
    (c.in_ok-body-in-Fsm.ensures.node ∙ ap (λ s. alone_node M c.args.counters (sources_of s) m (plain_stmts c.deref-in-Fsm.result.now)) c.deref-in-Fsm-2.ensures.value)
    ∙ made.fsm_node M c.args.counters c.args.ctl.now c.in-Fsm.start c.in-Fsm.tested c.in-Fsm.test c.in-Fsm.state c.in-Fsm.body c.in-Fsm.last c.in-Fsm.next
    c.deref-in-Fsm.result.now (sources_of c.args.sources.now) kept c.args.b n c.in_ok-r-in-Fsm.r m
    c.in-Fsm.is c.deref-in-Fsm.ensures.value c.in_ok-r-in-Fsm.ensures.number (made.after_one _ _ _ c.in_ok-r-in-Fsm.ensures.regs) c.in_ok-kept-in-Fsm.ensures

pub ctl_node-returns-in_ok-node-in-Branch-clause-regs : goal.ctl_node-returns-in_ok-node-in-Branch-clause-regs
ctl_node-returns-in_ok-node-in-Branch-clause-regs t c =
    let before = map core.plain_mem c.args.regs.now.items in
    let second = registers_in (plain_stmts c.deref-in-Branch-2.result.now) no_more in
    c.in_ok-no-in-Branch.ensures.regs
    ∙ ap (λ x. x ++ second) c.in_ok-yes-in-Branch.ensures.regs
    ∙ append_assoc before (registers_in (plain_stmts c.deref-in-Branch.result.now) no_more) second
    ∙ ap (λ x. before ++ x) (made.branch_inside c.args.ctl.now c.in-Branch.test c.in-Branch.yes c.in-Branch.no c.deref-in-Branch.result.now c.deref-in-Branch-2.result.now c.in-Branch.is c.deref-in-Branch.ensures.value c.deref-in-Branch-2.ensures.value)

pub ctl_node-returns-in_ok-node-in-Branch-clause-node : goal.ctl_node-returns-in_ok-node-in-Branch-clause-node
ctl_node-returns-in_ok-node-in-Branch-clause-node t c =
    let M = map plain_mem c.args.mems.now in
    let sources = sources_of c.args.sources.now in
    let n = length (map core.plain_mem c.args.regs.now.items) in
    let m = length (map core.plain_mem c.alone-in-Branch.new.regs.items) in
    let test = word_list M sources (plain_expr c.in-Branch.test) in
    c.in_ok-node-in-Branch.ensures
    ∙ ap (λ x. branch test x (core.plain_node c.in_ok-no-in-Branch.no)) c.in_ok-yes-in-Branch.ensures.node
    ∙ ap (branch test (alone_node M c.args.counters sources n (plain_stmts c.deref-in-Branch.result.now))) c.in_ok-no-in-Branch.ensures.node
    ∙ made.branch_node M c.args.counters c.args.ctl.now c.in-Branch.test c.in-Branch.yes c.in-Branch.no c.deref-in-Branch.result.now c.deref-in-Branch-2.result.now sources c.args.b n m
    c.in-Branch.is c.deref-in-Branch.ensures.value c.deref-in-Branch-2.ensures.value (made.after_all _ _ _ c.in_ok-yes-in-Branch.ensures.regs)

pub kind_node-returns-in_ok-node-in-LoadSram-clause-node : goal.kind_node-returns-in_ok-node-in-LoadSram-clause-node
kind_node-returns-in_ok-node-in-LoadSram-clause-node t c =
    c.in_ok-node-in-LoadSram.ensures c.args.counters
    ∙ made.load_sram_node (map plain_mem c.args.mems.now) c.args.counters c.args.kind.now c.in-LoadSram.mem c.in-LoadSram.dram c.in-LoadSram.spans c.deref.result.now (sources_of c.args.sources.now) c.args.b (length (map core.plain_mem c.args.regs.now.items)) c.number-mem.result c.number-dram.result
    c.in-LoadSram.is c.number-mem.ensures c.number-dram.ensures c.deref.ensures.value

pub kind_node-returns-in_ok-node-in-LoadLine-clause-node : goal.kind_node-returns-in_ok-node-in-LoadLine-clause-node
kind_node-returns-in_ok-node-in-LoadLine-clause-node t c =
    c.in_ok-node-in-LoadLine.ensures c.args.counters
    ∙ made.load_line_node (map plain_mem c.args.mems.now) c.args.counters c.args.kind.now c.in-LoadLine.mem c.in-LoadLine.dram c.in-LoadLine.spans c.deref-in-LoadLine.result.now (sources_of c.args.sources.now) c.args.b (length (map core.plain_mem c.args.regs.now.items)) c.number-mem-in-LoadLine.result c.number-dram-in-LoadLine.result
    c.in-LoadLine.is c.number-mem-in-LoadLine.ensures c.number-dram-in-LoadLine.ensures c.deref-in-LoadLine.ensures.value

pub kind_node-returns-in_ok-node-in-Store-clause-node : goal.kind_node-returns-in_ok-node-in-Store-clause-node
kind_node-returns-in_ok-node-in-Store-clause-node t c =
    c.in_ok-node-in-Store.ensures c.args.counters
    ∙ made.store_node (map plain_mem c.args.mems.now) c.args.counters c.args.kind.now c.in-Store.mem c.in-Store.dram c.in-Store.spans c.deref-in-Store.result.now (sources_of c.args.sources.now) c.args.b (length (map core.plain_mem c.args.regs.now.items)) c.number-mem-in-Store.result c.number-dram-in-Store.result
    c.in-Store.is c.number-mem-in-Store.ensures c.number-dram-in-Store.ensures c.deref-in-Store.ensures.value
