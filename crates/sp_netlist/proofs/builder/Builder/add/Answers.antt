use Rattle.std.proofs.Common.{subst, sym}
use Rattle.std.proofs.lemmas.List.{map_push}
use Rattle.sp_netlist.specs.Cells.{plain_cell}
use Rattle.sp_netlist.specs.Draft.{CanAdd}
use Rattle.sp_netlist.proofs.LookUps.{Declares-new}
use Rattle.sp_netlist.proofs.DraftLemmas.{IsDraft-add, driven-add, not_driven-add, Keeps-add, Keeps-refl, driver_count-add}
use Rattle.sp_netlist.proofs.builder.Builder.add.Goals as goal

pub returns-clause-declared : goal.returns-clause-declared
returns-clause-declared c =
    rw (c.in_ok-push.ensures.items, map_push) (Declares-new _ _ c.self.invariant.declared (subst (λ d. CanAdd d (plain_cell c.args.cell)) (sym c.self.view_is) c.requires).right)

pub invariant_of-self-2 : goal.invariant_of-self-2
invariant_of-self-2 c =
    let can = subst (λ d. CanAdd d (plain_cell c.args.cell)) (sym c.self.view_is) c.requires in
    rw (c.in_ok-push.ensures.items, map_push) (IsDraft-add _ _ c.self.invariant can)

pub returns-clause-draft : goal.returns-clause-draft
returns-clause-draft c =
    let can = subst (λ d. CanAdd d (plain_cell c.args.cell)) (sym c.self.view_is) c.requires in
    rw (c.in_ok-push.ensures.items, map_push) (IsDraft-add _ _ c.self.invariant can)

pub returns-clause-drivers : goal.returns-clause-drivers
returns-clause-drivers c =
    λ net. rw (c.in_ok-push.ensures.items, map_push, ← c.self.view_is) (driver_count-add _ _ net c.self.invariant (subst (λ d. CanAdd d (plain_cell c.args.cell)) (sym c.self.view_is) c.requires))

pub returns-clause-keeps : goal.returns-clause-keeps
returns-clause-keeps c =
    rw (c.in_ok-push.ensures.items, map_push, ← c.self.view_is) (Keeps-add _ _ c.self.invariant (subst (λ d. CanAdd d (plain_cell c.args.cell)) (sym c.self.view_is) c.requires))

pub returns-in_err-push-clause-keeps : goal.returns-in_err-push-clause-keeps
returns-in_err-push-clause-keeps c = rw (c.in_err-push.ensures.items, ← c.self.view_is) (Keeps-refl _)

pub returns-clause-driven : goal.returns-clause-driven
returns-clause-driven c =
    rw (c.in_ok-push.ensures.items, map_push, ← c.self.view_is) (driven-add _ _ c.self.invariant (subst (λ d. CanAdd d (plain_cell c.args.cell)) (sym c.self.view_is) c.requires))

pub returns-clause-not_driven : goal.returns-clause-not_driven
returns-clause-not_driven c =
    rw (c.in_ok-push.ensures.items, map_push, ← c.self.view_is) (λ net. not_driven-add _ _ net c.self.invariant (subst (λ d. CanAdd d (plain_cell c.args.cell)) (sym c.self.view_is) c.requires))
