use Rattle.std.proofs.Common.{[], ◌+◌, ◌-◌, ◌^◌, length, take, drop}
use Rattle.std.proofs.lemmas.List.Elements.{All-take, All-drop}
use Rattle.sp_gates.specs.Nets.{HasNet}
use Rattle.sp_gates.proofs.Growing.{Fills-join}
use Rattle.sp_gates.proofs.Running.{runs_earlier}
use Rattle.sp_places.proofs.Leading.{lead_is}
use Rattle.sp_places.proofs.Nets.{nets_kept}
use Rattle.sp_places.proofs.place.lead.Goals as goal

pub row_number-requires-clause-nets : goal.row_number-requires-clause-nets
row_number-requires-clause-nets c =
    nets_kept _ _ 64 (take c.args.layout.now.hinge c.args.wide.now) c.in_ok-zero.ensures.fills.grows (All-take (λ net. HasNet c.args.builder.now net 64) c.args.layout.now.hinge c.args.wide.now c.requires.nets)

pub row_number-requires-2-clause-nets : goal.row_number-requires-2-clause-nets
row_number-requires-2-clause-nets c =
    nets_kept _ _ 64 (take (length c.args.wide.now - (c.args.layout.now.hinge + 1)) (drop (c.args.layout.now.hinge + 1) c.args.wide.now)) c.in_ok-before.ensures.fills.grows
    (nets_kept _ _ 64 (take (length c.args.wide.now - (c.args.layout.now.hinge + 1)) (drop (c.args.layout.now.hinge + 1) c.args.wide.now)) c.in_ok-zero.ensures.fills.grows
    (All-take (λ net. HasNet c.args.builder.now net 64) (length c.args.wide.now - (c.args.layout.now.hinge + 1)) (drop (c.args.layout.now.hinge + 1) c.args.wide.now)
    (All-drop (λ net. HasNet c.args.builder.now net 64) (c.args.layout.now.hinge + 1) c.args.wide.now c.requires.nets)))

pub returns-clause-fills : goal.returns-clause-fills
returns-clause-fills c = Fills-join _ _ _ [] [] c.in_ok-zero.ensures.fills (Fills-join _ _ _ [] [] c.in_ok-before.ensures.fills c.in_ok-number.ensures.fills)

pub returns-clause-word : goal.returns-clause-word
returns-clause-word c = λ s run t inside.
    let middle = runs_earlier _ _ s c.in_ok-number.ensures.fills.grows run in
    let before = runs_earlier _ _ s c.in_ok-before.ensures.fills.grows middle in
    lead_is (2 ^ 64) (s.net t) c.args.layout.now.dims.items c.args.wide.now c.args.layout.now.hinge (s.net t c.in_ok-zero.zero) (s.net t c.in_ok-before.before) (s.net t c.in_ok-number.number)
    (c.in_ok-zero.ensures.word s before t) inside
    (rw c.deref.ensures.value at (c.in_ok-before.ensures.word s middle t))
    (rw c.deref-2.ensures.value at (c.in_ok-number.ensures.word s run t))
