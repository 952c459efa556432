use Rattle.std.proofs.Common.{◌≡◌, map, drop}
use Rattle.sp_tree.specs.PlainTree.{plain_span}
use Rattle.sp_sugar.specs.Uses.{spans_use}
use Rattle.sp_desugar.specs.Names.{among}
use Rattle.sp_desugar.proofs.uses.spans_use.Given as goal

abbrev pub invariant-loop-span : goal.invariant-loop-span
invariant-loop-span l = spans_use (among l.names) (map plain_span (drop l.span-index l.spans)) ≡ spans_use (among l.names) (map plain_span l.spans)
