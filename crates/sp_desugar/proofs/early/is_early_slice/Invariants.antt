use Rattle.std.proofs.Common.{◌≡◌, map, drop}
use Rattle.sp_tree.specs.PlainTree.{plain_span}
use Rattle.sp_sugar.specs.Early.{is_early_slice}
use Rattle.sp_desugar.proofs.early.is_early_slice.Given as goal

abbrev pub invariant-loop-span : goal.invariant-loop-span
invariant-loop-span l = is_early_slice (map plain_span (drop l.span-index l.spans)) ≡ is_early_slice (map plain_span l.spans)
