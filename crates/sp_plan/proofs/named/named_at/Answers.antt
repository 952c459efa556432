use Rattle.std.proofs.Common.{ap, arith}
use Rattle.sp_core.specs.CoreParts.{plain_core}
use Rattle.sp_core.specs.Numbering.{number_count}
use Rattle.sp_core.specs.Plain.{plain_node}
use Rattle.sp_plan.proofs.NamedAt.{few_numbers}
use Rattle.sp_plan.proofs.named.named_at.Goals as goal

pub node_named-requires : goal.node_named-requires
node_named-requires c =
    let few = few_numbers (plain_core c.args.core.now) c.root.ensures.core in
    let root = ap (λ x. number_count (plain_node x)) c.root.ensures.root in
    omega arith
