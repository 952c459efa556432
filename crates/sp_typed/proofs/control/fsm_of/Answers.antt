use Rattle.std.proofs.Common.{◌∙◌, ap, ◌+◌}
use Rattle.sp_typed.proofs.TreeLemmas.{plain_fsm}
use Rattle.sp_tree.specs.Plain.{plain_expr}
use Rattle.sp_tree.specs.PlainStatement.{fsm}
use Rattle.sp_tree.specs.PlainTree.{plain_stmts}
use Rattle.sp_typed.proofs.control.fsm_of.Goals as goal

pub returns : goal.returns
returns c =
    let start = plain_expr c.args.start in
    let test = plain_expr c.args.test in
    let body = plain_stmts c.args.body.items in
    let next = plain_expr c.args.next in
    plain_fsm c.args.start c.new.result c.args.test c.new-2.result c.args.body c.new-3.result c.args.next
    ∙ ap (λ n. fsm start n test c.new-2.result body c.new-3.result next) c.new.ensures
    ∙ ap (λ n. fsm start c.args.first test n body c.new-3.result next) (c.new-2.ensures ∙ c.in_ok-state.ensures)
    ∙ ap (λ n. fsm start c.args.first test (c.args.first + 1) body n next) c.new-3.ensures
