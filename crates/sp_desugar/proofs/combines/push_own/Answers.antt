use Rattle.std.proofs.Common.{◌+◌, ◌++◌, drop, map, sym, ap, ◌∙◌}
use Rattle.sp_tree.specs.Plain.{plain_mem}
use Rattle.sp_tree.specs.PlainTree.{plain_stmts}
use Rattle.sp_tree.specs.Structure.{own_mems}
use Rattle.sp_sugar.specs.Numbers.{mem_number}
use Rattle.sp_desugar.proofs.UseLemmas.{drop_here}
use Rattle.sp_desugar.proofs.combines.push_own.Goals as goal

pub loop-s-preserved : goal.loop-s-preserved
loop-s-preserved c =
    c.in_ok-push_declared.ensures c.s-item.result.at (plain_stmts (drop (c.loop-s.s-index + 1) c.args.body.now))
    ∙ ap (λ xs. c.loop-s.out.items ++ map (mem_number (map plain_mem c.args.mems.now)) (own_mems (plain_stmts xs))) (sym (drop_here c.args.body.now c.loop-s.s-index c.s-item.result c.loop-s-test.true c.s-item.is))
    ∙ c.loop-s.invariant
