use Rattle.std.proofs.Common.{map, refl, ◌∙◌, ap, subst}
use Rattle.sp_core.specs.Plain.{plain_counter}
use Rattle.sp_node_runs.specs.BodiesGiven.{values_of}
use Rattle.sp_around_tables.specs.Inside.{IsInside}
use Rattle.sp_bound_nets.specs.Bounds.{bound_lists}
use Rattle.sp_bound_nets.proofs.Acting.{lists_kept}
use Rattle.sp_inner_circuits.proofs.Grouping.{right_opened, awaits_new, all_reserved, stands, is_counting, some_plain}
use Rattle.sp_inner_circuits.proofs.counting.count_groups.Goals as goal

pub emit_bounds-requires-clause-right : goal.emit_bounds-requires-clause-right
emit_bounds-requires-clause-right c = right_opened c.args.builder.now c.reserve.new.builder c.args.around.now (map plain_counter c.args.counters.now) c.in_ok-step.step c.in_ok-step.ensures.opens c.requires.right

pub returns-clause-groups : goal.returns-clause-groups
returns-clause-groups c =
    let o = c.in_ok-step.ensures in (
      c.in_ok-counted.ensures.nets.more,
      awaits_new c.args.builder.now c.reserve.new.builder c.emit_bounds.new.builder c.emit.new.builder c.args.around.now (map plain_counter c.args.counters.now) c.in_ok-step.step c.args.start c.in_ok-bounds.bounds.acted.items o.opens o.awaits c.in_ok-bounds.ensures.reserves
          c.in_ok-counted.ensures.fills,
    )

pub returns-clause-reserves : goal.returns-clause-reserves
returns-clause-reserves c =
    let o = c.in_ok-step.ensures in
    all_reserved c.args.builder.now c.reserve.new.builder c.emit_bounds.new.builder c.emit.new.builder c.args.around.now (map plain_counter c.args.counters.now) c.in_ok-step.step c.args.start c.in_ok-bounds.bounds.acted.items o.opens o.awaits c.in_ok-bounds.ensures.reserves
    c.in_ok-counted.ensures.fills

pub returns-clause-stand : goal.returns-clause-stand
returns-clause-stand c =
    let o = c.in_ok-step.ensures in
    let nets = c.in_ok-counted.counted in
    let counters = map plain_counter c.args.counters.now in
    let inside = c.in_ok-inside.inside.items in
    let has : IsInside counters c.args.around.now (values_of nets.counters.items) nets.masks.items inside =
    subst (λ ms. IsInside counters c.args.around.now (values_of nets.counters.items) ms inside) c.deref-3.ensures.value
    (subst (λ vs. IsInside counters c.args.around.now vs c.deref-3.result.now inside) (c.deref-2.ensures.value ∙ c.in_ok-values.ensures ∙ ap values_of c.deref.ensures.value) c.in_ok-inside.ensures) in
    stands c.args.builder.now c.reserve.new.builder c.emit_bounds.new.builder c.emit.new.builder c.args.around.now counters c.in_ok-step.step c.args.start c.in_ok-bounds.bounds.acted.items o.opens o.awaits c.in_ok-bounds.ensures.reserves c.in_ok-counted.ensures.fills
    (record { start = c.args.start; step = c.in_ok-step.step; counters = c.in_ok-bounds.bounds.counts }) nets inside c.in_ok-counted.ensures.nets has

pub returns-clause-counts : goal.returns-clause-counts
returns-clause-counts c =
    let o = c.in_ok-step.ensures in
    let nets = c.in_ok-counted.counted in
    let counters = map plain_counter c.args.counters.now in
    let inside = c.in_ok-inside.inside.items in
    let has : IsInside counters c.args.around.now (values_of nets.counters.items) nets.masks.items inside =
    subst (λ ms. IsInside counters c.args.around.now (values_of nets.counters.items) ms inside) c.deref-3.ensures.value
    (subst (λ vs. IsInside counters c.args.around.now vs c.deref-3.result.now inside) (c.deref-2.ensures.value ∙ c.in_ok-values.ensures ∙ ap values_of c.deref.ensures.value) c.in_ok-inside.ensures) in
    is_counting c.args.builder.now c.reserve.new.builder c.emit_bounds.new.builder c.emit.new.builder c.args.around.now counters c.in_ok-step.step c.args.start c.in_ok-bounds.bounds.acted.items o.opens o.awaits c.in_ok-bounds.ensures.reserves c.in_ok-counted.ensures.fills
    (record { start = c.args.start; step = c.in_ok-step.step; counters = c.in_ok-bounds.bounds.counts }) nets inside c.in_ok-counted.ensures.nets has c.args.number
    (record { groups = record { more = nets.more; step = c.in_ok-step.step }; inside = c.in_ok-inside.inside; acted = c.in_ok-bounds.bounds.acted }) (some_plain c.args.counters.now c.requires.some) refl refl refl refl refl c.in_ok-counted.ensures.counts c.in_ok-bounds.ensures.bounds

pub returns-clause-acted : goal.returns-clause-acted
returns-clause-acted c = lists_kept c.emit_bounds.new.builder c.emit.new.builder c.in_ok-counted.ensures.fills.grows c.args.number (bound_lists (map plain_counter c.args.counters.now)) c.in_ok-bounds.bounds.acted.items c.in_ok-bounds.ensures.acted
