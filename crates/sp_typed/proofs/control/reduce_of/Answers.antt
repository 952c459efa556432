use Rattle.std.proofs.Common.{◌∙◌, ap, map}
use Rattle.sp_typed.proofs.TreeLemmas.{plain_reduce}
use Rattle.sp_tree.specs.Plain.{plain_expr}
use Rattle.sp_tree.specs.PlainStatement.{reduce}
use Rattle.sp_tree.specs.PlainTree.{plain_counter, plain_stmts}
use Rattle.sp_typed.proofs.control.reduce_of.Goals as goal

pub returns : goal.returns
returns c =
    plain_reduce c.args.style c.args.fold c.new-acc.result c.args.counters c.args.body c.args.value c.args.comb
    ∙ ap (λ m. reduce c.args.style c.args.fold m (map plain_counter c.args.counters.items) (plain_stmts c.args.body.items) (plain_expr c.args.value) c.args.comb) c.new-acc.ensures
