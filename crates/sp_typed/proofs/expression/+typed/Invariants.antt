use Rattle.std.proofs.Common.{◌≡◌, drop}
use Rattle.sp_reader.specs.Plain.{plain_exprs}
use Rattle.sp_reader.specs.PlainTree.{row}
use Rattle.sp_tree.specs.Plain as program
use Rattle.sp_typed.specs.Expressions.{all_typed}
use Rattle.sp_typed.specs.Plain.{here_of}
use Rattle.sp_typed.proofs.RowLemmas.{joined}
use Rattle.sp_typed.proofs.expression.+typed.Given as goal

abbrev pub invariant-all_typed-loop-e : goal.invariant-all_typed-loop-e
invariant-all_typed-loop-e l = joined (program.plain_exprs l.typed_all.items) (all_typed (here_of l.scope) l.ty (row (plain_exprs (drop l.e-index l.all))))
    ≡ all_typed (here_of l.scope) l.ty (row (plain_exprs l.all))
