use Rattle.std.proofs.Common.{map, true, sym, ap, ◌∙◌}
use Rattle.sp_core.specs.PlainCore.{no_stage, more_stage}
use Rattle.sp_tree.specs.Expressions.{mem, dims}
use Rattle.sp_tree.specs.Plain.{plain_expr, plain_mem}
use Rattle.sp_sugar.specs.Combination.{element_loop}
use Rattle.sp_sugar.specs.Stages.{last_stages}
use Rattle.sp_desugar.proofs.LastLemmas.{last_nothing, last_folds, last_reduces}
use Rattle.sp_desugar.specs.Crossings.{onto}
use Rattle.sp_desugar.specs.Names.{plain_ending}
use Rattle.sp_operations.specs.Running.{run_of}
use Rattle.sp_desugar.specs.Tree.{plain_combines, end_stages}
use Rattle.sp_desugar.proofs.last.push_last.Goals as goal

pub returns-in_ok-push_stage-in-ReducesElements : goal.returns-in_ok-push_stage-in-ReducesElements
returns-in_ok-push_stage-in-ReducesElements c =
    let M = map plain_mem c.args.mems.now in
    let loop = element_loop M c.args.counters (dims M c.in-ReducesElements.part) c.in-ReducesElements.part c.in-ReducesElements.acc c.in-ReducesElements.begun (mem M c.in-ReducesElements.part).ty c.in-ReducesElements.comb in
    c.in_ok-push_stage-in-ReducesElements.ensures no_stage
    ∙ ap (λ node. onto c.push_run.new.out.items (more_stage 0 0 true node no_stage)) c.in_ok-node-in-ReducesElements.ensures
    ∙ c.in_ok-push_run-in-ReducesElements.ensures (more_stage 0 0 true loop no_stage)
    ∙ ap (λ k. onto c.args.out.now.items (last_stages M c.args.counters (run_of c.args.run) c.args.n (plain_ending c.args.ending) (plain_combines k))) (sym c.in-ReducesElements.is)

pub returns-in_ok-push_end-in-Nothing : goal.returns-in_ok-push_end-in-Nothing
returns-in_ok-push_end-in-Nothing c =
    let M = map plain_mem c.args.mems.now in
    let ending = plain_ending c.args.ending in
    c.in_ok-push_end-in-Nothing.ensures c.args.counters
    ∙ ap (λ k. onto c.args.out.now.items (end_stages M c.args.counters (run_of c.args.run) c.args.n ending (plain_combines k))) c.in-Nothing.is
    ∙ ap (λ all. onto c.args.out.now.items all) (sym (last_nothing M c.args.counters (run_of c.args.run) c.args.n ending))
    ∙ ap (λ k. onto c.args.out.now.items (last_stages M c.args.counters (run_of c.args.run) c.args.n ending (plain_combines k))) (sym c.in-Nothing.is)

pub returns-in_ok-push_end-in-Folds : goal.returns-in_ok-push_end-in-Folds
returns-in_ok-push_end-in-Folds c =
    let M = map plain_mem c.args.mems.now in
    let ending = plain_ending c.args.ending in
    c.in_ok-push_end-in-Folds.ensures c.args.counters
    ∙ ap (λ k. onto c.args.out.now.items (end_stages M c.args.counters (run_of c.args.run) c.args.n ending (plain_combines k))) c.in-Folds.is
    ∙ ap (λ all. onto c.args.out.now.items all) (sym (last_folds M c.args.counters (run_of c.args.run) c.args.n ending c.in-Folds.field-0 c.in-Folds.field-1 (plain_expr c.in-Folds.field-2.now)))
    ∙ ap (λ k. onto c.args.out.now.items (last_stages M c.args.counters (run_of c.args.run) c.args.n ending (plain_combines k))) (sym c.in-Folds.is)

pub returns-in_ok-push_end-in-Reduces : goal.returns-in_ok-push_end-in-Reduces
returns-in_ok-push_end-in-Reduces c =
    let M = map plain_mem c.args.mems.now in
    let ending = plain_ending c.args.ending in
    c.in_ok-push_end-in-Reduces.ensures c.args.counters
    ∙ ap (λ k. onto c.args.out.now.items (end_stages M c.args.counters (run_of c.args.run) c.args.n ending (plain_combines k))) c.in-Reduces.is
    ∙ ap (λ all. onto c.args.out.now.items all) (sym (last_reduces M c.args.counters (run_of c.args.run) c.args.n ending c.in-Reduces.field-0 c.in-Reduces.field-1 c.in-Reduces.field-2 (plain_expr c.in-Reduces.field-3.now)))
    ∙ ap (λ k. onto c.args.out.now.items (last_stages M c.args.counters (run_of c.args.run) c.args.n ending (plain_combines k))) (sym c.in-Reduces.is)
