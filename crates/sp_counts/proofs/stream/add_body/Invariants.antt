use Rattle.std.proofs.Common.{drop}
use Rattle.sp_tree.specs.PlainTree.{plain_stmts}
use Rattle.sp_tree.specs.Streams.{body_tally}
use Rattle.sp_counts.proofs.Remaining.{Remains}
use Rattle.sp_counts.proofs.stream.add_body.Given as goal

abbrev pub invariant-loop-s : goal.invariant-loop-s
invariant-loop-s l = Remains l.fn.into l.into (body_tally (plain_stmts l.body)) (body_tally (plain_stmts (drop l.s-index l.body)))
