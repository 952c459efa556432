use Rattle.std.proofs.Common.{ap, ◌∙◌}
use Rattle.sp_core.specs.CoreParts.{plain_core}
use Rattle.sp_core.specs.Numbered.{numbers}
use Rattle.sp_core.specs.Plain.{plain_node}
use Rattle.sp_serving.proofs.Counting.{from, counted_before}
use Rattle.sp_serving.proofs.standing.access_number.Goals as goal
use Rattle.sp_serving.specs.Standing.{passed}

pub returns : goal.returns
returns c =
    c.saturating_sub.ensures
    ∙ counted_before c.args.n (numbers (plain_core c.args.core.now).root) c.past_node-p.result
    (c.past_node-p.ensures ∙ ap (λ x. passed (from c.args.n c.args.n) (numbers (plain_node x))) c.root.ensures.root)
