use Rattle.std.proofs.Common.{◌≡◌, ◌++◌, drop, map}
use Rattle.sp_tree.specs.PlainTree.{plain_stmts}
use Rattle.sp_tree.specs.Streams.{are_stages, stream_stages}
use Rattle.sp_counts.specs.Streams.{stage_of}
use Rattle.sp_counts.proofs.stream.stream_stages.Given as goal

abbrev pub invariant-loop-s : goal.invariant-loop-s
invariant-loop-s l =
    (are_stages (plain_stmts (drop l.s-index l.body)) ≡ are_stages (plain_stmts l.body))
    × (map stage_of l.all.items ++ stream_stages (plain_stmts (drop l.s-index l.body)) ≡ stream_stages (plain_stmts l.body))
