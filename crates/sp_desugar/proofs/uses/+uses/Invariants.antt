use Rattle.std.proofs.Common.{◌≡◌, drop}
use Rattle.sp_tree.specs.Plain.{plain_exprs}
use Rattle.sp_sugar.specs.Uses.{some_use}
use Rattle.sp_desugar.specs.Names.{among}
use Rattle.sp_desugar.proofs.uses.+uses.Given as goal

abbrev pub invariant-some_use-loop-e : goal.invariant-some_use-loop-e
invariant-some_use-loop-e l = some_use (among l.names) (plain_exprs (drop l.e-index l.all)) ≡ some_use (among l.names) (plain_exprs l.all)
