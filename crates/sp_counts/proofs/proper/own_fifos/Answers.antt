use Rattle.std.proofs.Common.{◌+◌, ◌++◌, drop, map, ap, sym, ◌∙◌}
use Rattle.sp_tree.specs.Plain.{plain_mem}
use Rattle.sp_tree.specs.PlainTree.{plain_stmts}
use Rattle.sp_tree.specs.Streams.{own_fifos}
use Rattle.sp_counts.proofs.Remaining.{next_of}
use Rattle.sp_counts.proofs.proper.own_fifos.Goals as goal

pub loop-s-preserved : goal.loop-s-preserved
loop-s-preserved c =
    let s = next_of c.args.body.now c.loop-s.s-index c.s-item.result c.loop-s-test.true c.s-item.is in
    c.in_ok-add_own_fifo.ensures c.s-item.result.at (plain_stmts (drop (c.loop-s.s-index + 1) c.args.body.now))
    ∙ ap (λ b. c.loop-s.fifos.items ++ own_fifos (map plain_mem c.args.mems.now) (plain_stmts b)) (sym s)
    ∙ c.loop-s.invariant
