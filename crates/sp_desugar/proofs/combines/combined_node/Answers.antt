use Rattle.std.proofs.Common.{length, map, ap, ◌∙◌}
use Rattle.sp_core.specs.Plain as core
use Rattle.sp_tree.specs.Plain.{plain_expr, plain_mem}
use Rattle.sp_sugar.specs.Runs.{Run, next_code}
use Rattle.sp_desugar.proofs.CombineLemmas.{combination_is}
use Rattle.sp_operations.specs.Running.{run_of}
use Rattle.sp_desugar.specs.Tree.{plain_combines}
use Rattle.sp_desugar.proofs.combines.combined_node.Goals as goal

pub returns : goal.returns
returns c = λ counters.
    combination_is (map plain_mem c.args.mems.now) counters (core.plain_ops c.args.run.ops.items) (core.plain_ops c.add_code.new.run.ops.items) (core.plain_ops c.push_combining.new.ops.items)
    (next_code (map plain_mem c.args.mems.now) (run_of c.args.run) (plain_expr c.args.e.now)) c.in_ok-word.word c.in_ok-comb.comb (plain_combines c.args.combines)
    (map core.plain_counter c.args.loops.items) c.args.owned.items
    (ap (λ (run : Run). run.ops) c.in_ok-word.ensures.run) c.in_ok-word.ensures.word
    (c.in_ok-comb.ensures ∙ ap (λ ops. length (core.plain_ops ops)) c.deref.ensures.value)
    (c.in_ok-push_combining.ensures (map plain_mem c.args.mems.now) counters)
