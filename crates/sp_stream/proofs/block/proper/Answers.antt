use Rattle.std.proofs.Common.{ap, arith}
use Rattle.sp_core.specs.CoreParts.{plain_core}
use Rattle.sp_core.specs.Numbering.{number_count}
use Rattle.sp_core.specs.Plain.{plain_node}
use Rattle.sp_stream.proofs.Sizes.{small}
use Rattle.sp_stream.proofs.block.proper.Goals as goal

pub site_at-requires-clause-numbers : goal.site_at-requires-clause-numbers
site_at-requires-clause-numbers c =
    let s = small (plain_core c.args.core.now) c.root.ensures.core in
    let most = s.numbers in
    let root = ap (λ x. number_count (plain_node x)) c.root.ensures.root in
    omega (arith, most, root)
