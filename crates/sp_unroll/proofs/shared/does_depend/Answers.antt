use Rattle.std.proofs.Common.{◌≡◌, ◌||◌, ℕ, List, false, get_or, ap, ◌∙◌}
use Rattle.std.specs.List.{list_any}
use Rattle.sp_core.specs.Plain.{plain_ops}
use Rattle.sp_unroll.proofs.shared.does_depend.Goals as goal

pub returns : goal.returns
returns c =
    let earlier = c.args.earlier.now in
    let args : c.some_depend-of_args.result ≡ list_any (λ k. get_or earlier k false) c.args.op.now.args.items =
    c.some_depend-of_args.ensures ∙ ap (λ (xs : List ℕ). list_any (λ k. get_or earlier k false) xs) c.deref.ensures.value in
    c.either-2.ensures
    ∙ ap (λ x. x || c.some_depend-of_args.result) c.either.ensures
    ∙ (λ i. (c.is_of_lane-of_lane.ensures i || c.is_mask_of_lane-of_mask.ensures c.args.counter c.args.own.now (plain_ops c.args.body.now) i) || args i)
