use Rattle.std.proofs.Common.{◌≡◌, drop}
use Rattle.sp_tree.specs.PlainTree.{plain_stmts}
use Rattle.sp_sugar.specs.Uses.{is_used_later, does_cross}
use Rattle.sp_desugar.specs.Names.{among, plain_ending}
use Rattle.sp_desugar.proofs.uses.does_cross.Given as goal

abbrev pub invariant-loop-s : goal.invariant-loop-s
invariant-loop-s l = record {
  counted : l.at ≡ l.s-index;
  same : is_used_later (among l.names.items) (plain_stmts (drop l.s-index l.rest)) (plain_ending l.ending) ≡ does_cross l.v (plain_stmts l.rest) (plain_ending l.ending);
}
