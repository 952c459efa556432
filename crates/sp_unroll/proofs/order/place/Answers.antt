use Rattle.std.proofs.Common.{◌∙◌, ap}
use Rattle.std.specs.Prelude.{slice_get}
use Rattle.sp_unroll.proofs.OrderLemmas.{put_in}
use Rattle.sp_unroll.proofs.order.place.Goals as goal

pub returns : goal.returns
returns c =
    put_in c.args.lists.now.items c.deref-2.result.now c.insert.new.self.items c.args.part c.in-Some.first.now c.place_of-at.result
    c.deref-2.ensures.value (c.in-Some.ensures.value ∙ ap (λ xs. slice_get xs 0) c.deref.ensures.value) c.place_of-at.ensures.place c.in_ok-insert.ensures.items
