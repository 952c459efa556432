use Rattle.std.proofs.Common.{arith}
use Rattle.std.proofs.lemmas.List.{map_push, length-map}
use Rattle.sp_netlist.proofs.Lists.{slice_get_mapped}
use Rattle.sp_netlist.proofs.DraftLemmas.{IsDraft-promise, Keeps-promise, Keeps-refl, driver_count-beyond}
use Rattle.sp_netlist.proofs.builder.Builder.promise.Goals as goal

pub invariant_of-self-2 : goal.invariant_of-self-2
invariant_of-self-2 c = rw (c.in_ok-push.ensures.items, map_push) (IsDraft-promise _ _ _ c.self.invariant c.requires)

pub returns-clause-draft : goal.returns-clause-draft
returns-clause-draft c = rw (c.in_ok-push.ensures.items, map_push) (IsDraft-promise _ _ _ c.self.invariant c.requires)

pub returns-clause-not_driven : goal.returns-clause-not_driven
returns-clause-not_driven c =
    driver_count-beyond _ c.new-net.result c.self.invariant (rw length-map (let held = c.self.inside.nets.ok in omega (arith, held)))

pub returns-clause-keeps : goal.returns-clause-keeps
returns-clause-keeps c = rw (c.in_ok-push.ensures.items, map_push, ← c.self.view_is) (Keeps-promise _ _ _)

pub returns-in_err-push-clause-keeps : goal.returns-in_err-push-clause-keeps
returns-in_err-push-clause-keeps c = rw (c.in_err-push.ensures.items, ← c.self.view_is) (Keeps-refl _)

pub returns-clause-as_promised : goal.returns-clause-as_promised
returns-clause-as_promised c =
    rw (c.in_ok-push.ensures.items, map_push) (slice_get_mapped _ c.self.inside.nets.items _ _ (let held = c.self.inside.nets.ok in omega (arith, held)))
