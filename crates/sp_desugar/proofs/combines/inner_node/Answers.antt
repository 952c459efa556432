use Rattle.std.proofs.Common.{◌≡◌, map, sym, ap, ◌∙◌, arith}
use Rattle.std.proofs.lemmas.Grind.{common_steps}
use Rattle.sp_core.specs.Plain as core
use Rattle.sp_tree.specs.Plain.{plain_expr, plain_mem}
use Rattle.sp_tree.specs.PlainTree.{plain_stmts}
use Rattle.sp_tree.specs.Structure.{own_mems}
use Rattle.sp_sugar.specs.Numbers.{mem_number}
use Rattle.sp_sugar.specs.Runs.{no_run, next_code, inner_run}
use Rattle.sp_sugar.specs.Stages.{combination, inner_node}
use Rattle.sp_operations.specs.Running.{run_of}
use Rattle.sp_operations.specs.Sources.{sources_of}
use Rattle.sp_desugar.specs.Tree.{plain_combines}
use Rattle.sp_desugar.proofs.combines.inner_node.Goals as goal

pub returns-in_ok-node-in-Folds : goal.returns-in_ok-node-in-Folds
returns-in_ok-node-in-Folds c = λ counters.
    let M = map plain_mem c.args.mems.now in
    let loops = map core.plain_counter c.args.loops.items in
    let e = plain_expr c.in-Folds.e.now in
    let run = inner_run M (no_run (sources_of c.args.sources.now)) (plain_stmts c.args.body.now) in
    let ran : run_of c.add_inner.new.run ≡ run = c.in_ok-add_inner.ensures ∙ ap (λ r. inner_run M r (plain_stmts c.args.body.now)) c.in_ok-run.ensures in
    let own : c.push_own.new.out.items ≡ map (mem_number M) (own_mems (plain_stmts c.args.body.now)) = grind (arith, common_steps) in
    c.in_ok-node-in-Folds.ensures counters
    ∙ ap (λ r. combination M counters r.ops (next_code M r e) (plain_combines c.args.combines) loops c.push_own.new.out.items) ran
    ∙ ap (λ owned. combination M counters run.ops (next_code M run e) (plain_combines c.args.combines) loops owned) own
    ∙ ap (λ k. combination M counters run.ops (next_code M run e) (plain_combines k) loops (map (mem_number M) (own_mems (plain_stmts c.args.body.now)))) c.in-Folds.is
    ∙ sym (ap (λ k. inner_node M counters (sources_of c.args.sources.now) loops (plain_stmts c.args.body.now) (plain_combines k)) c.in-Folds.is)

pub returns-in_ok-node-in-Reduces : goal.returns-in_ok-node-in-Reduces
returns-in_ok-node-in-Reduces c = λ counters.
    let M = map plain_mem c.args.mems.now in
    let loops = map core.plain_counter c.args.loops.items in
    let e = plain_expr c.in-Reduces.e.now in
    let run = inner_run M (no_run (sources_of c.args.sources.now)) (plain_stmts c.args.body.now) in
    let ran : run_of c.add_inner.new.run ≡ run = c.in_ok-add_inner.ensures ∙ ap (λ r. inner_run M r (plain_stmts c.args.body.now)) c.in_ok-run.ensures in
    let own : c.push_own.new.out.items ≡ map (mem_number M) (own_mems (plain_stmts c.args.body.now)) = grind (arith, common_steps) in
    c.in_ok-node-in-Reduces.ensures counters
    ∙ ap (λ r. combination M counters r.ops (next_code M r e) (plain_combines c.args.combines) loops c.push_own.new.out.items) ran
    ∙ ap (λ owned. combination M counters run.ops (next_code M run e) (plain_combines c.args.combines) loops owned) own
    ∙ ap (λ k. combination M counters run.ops (next_code M run e) (plain_combines k) loops (map (mem_number M) (own_mems (plain_stmts c.args.body.now)))) c.in-Reduces.is
    ∙ sym (ap (λ k. inner_node M counters (sources_of c.args.sources.now) loops (plain_stmts c.args.body.now) (plain_combines k)) c.in-Reduces.is)
