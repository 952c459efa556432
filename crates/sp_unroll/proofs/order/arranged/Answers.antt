use Rattle.std.proofs.Common.{◌∙◌}
use Rattle.sp_unroll.proofs.OrderLemmas.{placed_next}
use Rattle.sp_unroll.proofs.order.arranged.Goals as goal

pub loop-part-preserved : goal.loop-part-preserved
loop-part-preserved c =
    placed_next c.loop-part.parts.items c.pop.new.self.items c.loop-part.lists.items c.place.new.lists.items c.in-Some.part c.in-Some.ensures.items c.in_ok-place.ensures ∙ c.loop-part.invariant
