use Rattle.std.proofs.Common.{[], ◌∷◌, ◌++◌, map}
use Rattle.sp_gates.proofs.Growing.{Grows-join}
use Rattle.sp_gates.proofs.Running.{runs_earlier}
use Rattle.sp_core.specs.Plain.{plain_counter}
use Rattle.sp_counters.specs.declared.part.Counters.{Counters}
use Rattle.sp_beat_words.specs.Fits.{row_nets}
use Rattle.sp_op_nets.specs.Acted.{answers_in}
use Rattle.sp_op_nets.proofs.Driving.{stay}
use Rattle.sp_op_nets.proofs.Reserving.{none_reserved, one_reserved, reserved_join}
use Rattle.sp_loop_nets.proofs.Counted.{bounds_earlier, counted_later, counted_stands, lanes_fit, right_later}
use Rattle.sp_loop_nets.proofs.opening.open_loop.Goals as goal

pub emit_bounds-requires-clause-right : goal.emit_bounds-requires-clause-right
emit_bounds-requires-clause-right c =
    right_later c.args.builder.now c.reserve.new.builder c.args.around.now (map plain_counter c.args.counters.now) c.in_ok-step.ensures.opens.grows (record { core = c.requires.right.core; around = c.requires.right.around; right = c.requires.right.right; stand = c.requires.right.stand })

pub open_rows-requires : goal.open_rows-requires
open_rows-requires c = counted_stands c.emit.new.builder _ c.in_ok-nets.nets c.in_ok-nets.ensures.nets

pub returns-clause-step : goal.returns-clause-step
returns-clause-step c =
    stay c.reserve.new.builder c.open_rows.new.builder c.in_ok-step.step 1 _ c.in_ok-step.ensures.awaits
    (reserved_join c.reserve.new.builder c.emit_bounds.new.builder c.open_rows.new.builder (answers_in c.in_ok-bounds.bounds.acted.items) (row_nets c.in_ok-rows.rows.rows.items) c.in_ok-bounds.ensures.reserves
    (reserved_join c.emit_bounds.new.builder c.emit.new.builder c.open_rows.new.builder [] (row_nets c.in_ok-rows.rows.rows.items) (none_reserved c.emit_bounds.new.builder c.emit.new.builder c.in_ok-nets.ensures.fills) c.in_ok-rows.ensures.reserves))

pub returns-clause-counted : goal.returns-clause-counted
returns-clause-counted c = counted_later c.emit.new.builder c.open_rows.new.builder _ c.in_ok-nets.nets c.in_ok-rows.ensures.reserves.grows c.in_ok-nets.ensures.nets

pub returns-clause-lanes : goal.returns-clause-lanes
returns-clause-lanes c =
    let part : Counters = record { start = c.args.start; step = c.in_ok-step.step; counters = c.in_ok-bounds.bounds.counts } in
    lanes_fit c.emit.new.builder (map plain_counter c.args.counters.now) part c.in_ok-nets.nets c.in_ok-bounds.ensures.pars c.in_ok-nets.ensures.nets

pub returns-clause-counts : goal.returns-clause-counts
returns-clause-counts c = λ s r. c.in_ok-nets.ensures.counts s (runs_earlier c.emit.new.builder c.open_rows.new.builder s c.in_ok-rows.ensures.reserves.grows r)

pub returns-clause-bounds : goal.returns-clause-bounds
returns-clause-bounds c = record {
  draft = c.emit_bounds.new.builder;
  grows = Grows-join c.emit_bounds.new.builder c.emit.new.builder c.open_rows.new.builder c.in_ok-nets.ensures.fills.grows c.in_ok-rows.ensures.reserves.grows;
  lists = c.in_ok-bounds.ensures.acted;
  bounds = bounds_earlier c.args.builder.now c.reserve.new.builder c.emit_bounds.new.builder c.args.around.now c.args.number (map plain_counter c.args.counters.now) c.in_ok-bounds.bounds.counts.items c.in_ok-bounds.bounds.acted.items c.in_ok-step.ensures.opens.grows
      c.in_ok-bounds.ensures.bounds;
}

pub returns-clause-reserves : goal.returns-clause-reserves
returns-clause-reserves c =
    reserved_join c.args.builder.now c.reserve.new.builder c.open_rows.new.builder (c.in_ok-step.step ∷ []) (answers_in c.in_ok-bounds.bounds.acted.items ++ row_nets c.in_ok-rows.rows.rows.items)
    (one_reserved c.args.builder.now c.reserve.new.builder c.in_ok-step.step 1 c.in_ok-step.ensures.opens c.in_ok-step.ensures.awaits)
    (reserved_join c.reserve.new.builder c.emit_bounds.new.builder c.open_rows.new.builder (answers_in c.in_ok-bounds.bounds.acted.items) (row_nets c.in_ok-rows.rows.rows.items) c.in_ok-bounds.ensures.reserves
    (reserved_join c.emit_bounds.new.builder c.emit.new.builder c.open_rows.new.builder [] (row_nets c.in_ok-rows.rows.rows.items) (none_reserved c.emit_bounds.new.builder c.emit.new.builder c.in_ok-nets.ensures.fills) c.in_ok-rows.ensures.reserves))
