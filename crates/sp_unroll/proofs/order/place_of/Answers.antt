use Rattle.std.proofs.Common.{◌≡◌, ◌++◌, true, false, take, sym, ap, ◌∙◌}
use Rattle.sp_lanes.specs.Order.{is_before}
use Rattle.sp_unroll.specs.Arranged.{lists_of}
use Rattle.sp_unroll.proofs.OrderLemmas.{place_here, place_step}
use Rattle.sp_unroll.proofs.order.place_of.Goals as goal

pub returns-then-is_before-clause-place : goal.returns-then-is_before-clause-place
returns-then-is_before-clause-place c = λ ms.
    let v = c.index-lists-i.result in
    let b : is_before c.args.m v.items ≡ true = sym (ap (is_before c.args.m) c.deref.ensures.value) ∙ sym c.is_before.ensures ∙ c.if-is_before.true in
    ap (λ x. lists_of (take c.loop-i.i c.args.lists.now) ++ x) (sym (place_here c.args.m ms c.args.lists.now v c.loop-i.i c.loop-i-test.true c.index-lists-i.is b))
    ∙ c.loop-i.invariant ms

pub loop-i-preserved : goal.loop-i-preserved
loop-i-preserved c = λ ms.
    let v = c.index-lists-i.result in
    let b : is_before c.args.m v.items ≡ false = sym (ap (is_before c.args.m) c.deref.ensures.value) ∙ sym c.is_before.ensures ∙ c.if-is_before.false in
    place_step c.args.m ms c.args.lists.now v c.loop-i.i c.loop-i-test.true c.index-lists-i.is b ∙ c.loop-i.invariant ms
