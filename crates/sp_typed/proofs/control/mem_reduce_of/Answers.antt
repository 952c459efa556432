use Rattle.std.proofs.Common.{◌∙◌, ap, map}
use Rattle.sp_typed.proofs.TreeLemmas.{plain_mem_reduce}
use Rattle.sp_tree.specs.PlainStatement.{mem_reduce}
use Rattle.sp_tree.specs.PlainTree.{plain_counter, plain_stmts}
use Rattle.sp_typed.proofs.control.mem_reduce_of.Goals as goal

pub returns : goal.returns
returns c =
    let counters = map plain_counter c.args.counters.items in
    let body = plain_stmts c.args.body.items in
    plain_mem_reduce c.args.style c.new-acc.result c.args.counters c.args.body c.new-part.result c.args.comb
    ∙ ap (λ m. mem_reduce c.args.style m counters body c.new-part.result c.args.comb) c.new-acc.ensures
    ∙ ap (λ m. mem_reduce c.args.style c.args.acc counters body m c.args.comb) c.new-part.ensures
