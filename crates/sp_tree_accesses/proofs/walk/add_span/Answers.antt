use Rattle.std.proofs.Common.{[], ◌∷◌, sym, ap, subst}
use Rattle.sp_core.specs.Plain.{plain_ops, plain_span}
use Rattle.sp_tree_handed.specs.Lists.{spans_in}
use Rattle.sp_tree_accesses.proofs.Walking.{AddsOps, AddsAt, on_ok, two_ops}
use Rattle.sp_tree_accesses.proofs.walk.add_span.Goals as goal

pub returns-in_ok-add_list-in-Range : goal.returns-in_ok-add_list-in-Range
returns-in_ok-add_list-in-Range c =
    on_ok c.add_list-in-Range-2.result
    (λ more. subst (λ x. AddsAt c.args.copies.now c.args.acted.now (spans_in (plain_span x ∷ [])) c.args.walk.now c.add_list-in-Range-2.new.walk) (sym c.in-Range.is)
    (two_ops c.args.copies.now c.args.acted.now (plain_ops c.in-Range.from.items) (plain_ops c.in-Range.until.items) c.args.walk.now c.add_list-in-Range.new.walk c.add_list-in-Range-2.new.walk
    (subst (λ ops. AddsOps c.args.copies.now c.args.acted.now ops c.args.walk.now c.add_list-in-Range.new.walk) (ap plain_ops c.deref-in-Range.ensures.value) c.in_ok-add_list-in-Range.ensures)
    (subst (λ ops. AddsOps c.args.copies.now c.args.acted.now ops c.add_list-in-Range.new.walk c.add_list-in-Range-2.new.walk) (ap plain_ops c.deref-in-Range-2.ensures.value) more)))
    c.add_list-in-Range-2.ensures
