use Rattle.std.proofs.Common.{ap, arith}
use Rattle.sp_core.specs.CoreParts.{plain_core}
use Rattle.sp_core.specs.Numbering.{number_count}
use Rattle.sp_core.specs.Plain.{plain_node}
use Rattle.sp_plan.proofs.NamedAt.{few_numbers}
use Rattle.sp_memory_nets.proofs.array_duplicates.duplicate_of.Goals as goal

pub count_over-over-requires-clause-numbers : goal.count_over-over-requires-clause-numbers
count_over-over-requires-clause-numbers c =
    let few = few_numbers (plain_core c.args.core.now) c.root.ensures.core in
    let same = ap (λ x. number_count (plain_node x)) c.root.ensures.root in
    omega (arith, few, same)
