use Rattle.std.proofs.Common.{Some, refl}
use Rattle.sp_tree_copies.proofs.Walking.{op_stands}
use Rattle.sp_tree_copies.proofs.names.name_transfer.Goals as goal

pub returns-clause-stand : goal.returns-clause-stand
returns-clause-stand c core turns kept loops d all stand h =
    op_stands d core c.args.around.now (Some c.args.mem) c.net_at-net.result c.name_spans.new.walk _ c.net_at-net.ensures c.in_ok-push.ensures.items refl refl stand (c.in_ok-name_spans.ensures.stand core turns kept loops d all stand h)
