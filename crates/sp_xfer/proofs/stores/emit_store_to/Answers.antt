use Rattle.std.proofs.Common.{◌∷◌, ◌||◌, [], All, sym, ap, ap₂, subst, ◌∙◌}
use Rattle.sp_gates.specs.Tested.{is_on}
use Rattle.sp_gates.proofs.Growing.{Fills-join, HasNet-stays, IsOne-stays}
use Rattle.sp_gates.proofs.Running.{runs_earlier}
use Rattle.sp_slices.specs.Fits.{MoveFits, IsAxis}
use Rattle.sp_slices.specs.Slices.{WalksSlice}
use Rattle.sp_slices.proofs.Standing.{moves_stay, axes_stay}
use Rattle.sp_xfer.specs.Fits.{SliceFits}
use Rattle.sp_xfer.specs.Moving.{MovesSlice}
use Rattle.sp_xfer.specs.Ahead.{store_wires_of, look_offsets}
use Rattle.sp_xfer.proofs.Reading.{connected}
use Rattle.sp_mem.proofs.Waiting.{awaits_kept}
use Rattle.sp_xfer.proofs.Keeping.{kept_apart, wires_kept, wire_kept, wire_past, slice_stays, moving_stays, walk_stays, nets_stay}
use Rattle.sp_xfer.proofs.stores.emit_store_to.Goals as goal

pub move_slice-requires-clause-wires : goal.move_slice-requires-clause-wires
move_slice-requires-clause-wires c = wires_kept _ _ _ c.in_ok-always.ensures.fills c.requires.part.wires

pub move_slice-requires-clause-slice : goal.move_slice-requires-clause-slice
move_slice-requires-clause-slice c = subst (λ ds. SliceFits c.one.new.builder ds c.deref-2.result.now) (sym c.deref.ensures.value) (subst (λ ms. SliceFits c.one.new.builder c.args.part.now.dims.items ms) (sym c.deref-2.ensures.value)
    (slice_stays _ _ _ _ c.in_ok-always.ensures.fills.grows c.requires.part.slice))

pub move_slice-requires-clause-done : goal.move_slice-requires-clause-done
move_slice-requires-clause-done c = awaits_kept _ _ _ 1 c.in_ok-always.ensures.fills c.requires.done

pub after-requires-clause-net : goal.after-requires-clause-net
after-requires-clause-net c = HasNet-stays _ _ _ _ c.in_ok-moving.ensures.fills.grows (HasNet-stays _ _ _ _ c.in_ok-always.ensures.fills.grows (c.requires.part.wires.start))

pub after-requires-clause-one : goal.after-requires-clause-one
after-requires-clause-one c = IsOne-stays _ _ _ c.in_ok-moving.ensures.fills.grows (c.in_ok-always.ensures.one)

pub on_either-requires-clause-right : goal.on_either-requires-clause-right
on_either-requires-clause-right c = HasNet-stays _ _ _ _ c.in_ok-begun.ensures.fills.grows (HasNet-stays _ _ _ _ c.in_ok-moving.ensures.fills.grows (HasNet-stays _ _ _ _ c.in_ok-always.ensures.fills.grows (c.requires.part.wires.ready)))

pub walk-requires-clause-start : goal.walk-requires-clause-start
walk-requires-clause-start c = HasNet-stays _ _ _ _ c.in_ok-step.ensures.fills.grows (HasNet-stays _ _ _ _ c.in_ok-begun.ensures.fills.grows (HasNet-stays _ _ _ _ c.in_ok-moving.ensures.fills.grows (HasNet-stays _ _ _ _ c.in_ok-always.ensures.fills.grows (c.requires.part.wires.start))))

pub walk-requires-clause-moves : goal.walk-requires-clause-moves
walk-requires-clause-moves c = subst (All (MoveFits c.on_either.new.builder)) (sym c.deref-3.ensures.value) (moves_stay _ _ _ c.in_ok-step.ensures.fills.grows (moves_stay _ _ _ c.in_ok-begun.ensures.fills.grows (moves_stay _ _ _ c.in_ok-moving.ensures.fills.grows (moves_stay _ _ _ c.in_ok-always.ensures.fills.grows (c.requires.part.slice.moves_fit)))))

pub reading-requires-clause-start : goal.reading-requires-clause-start
reading-requires-clause-start c = HasNet-stays _ _ _ _ c.in_ok-look.ensures.fills.grows (HasNet-stays _ _ _ _ c.in_ok-step.ensures.fills.grows (HasNet-stays _ _ _ _ c.in_ok-begun.ensures.fills.grows (HasNet-stays _ _ _ _ c.in_ok-moving.ensures.fills.grows (HasNet-stays _ _ _ _ c.in_ok-always.ensures.fills.grows (c.requires.part.wires.start)))))

pub reading-requires-clause-step : goal.reading-requires-clause-step
reading-requires-clause-step c = HasNet-stays _ _ _ _ c.in_ok-look.ensures.fills.grows (c.in_ok-step.ensures.net)

pub look_all-requires-clause-start : goal.look_all-requires-clause-start
look_all-requires-clause-start c = HasNet-stays _ _ _ _ c.in_ok-read.ensures.fills.grows (HasNet-stays _ _ _ _ c.in_ok-look.ensures.fills.grows (HasNet-stays _ _ _ _ c.in_ok-step.ensures.fills.grows (HasNet-stays _ _ _ _ c.in_ok-begun.ensures.fills.grows (HasNet-stays _ _ _ _ c.in_ok-moving.ensures.fills.grows (HasNet-stays _ _ _ _ c.in_ok-always.ensures.fills.grows (c.requires.part.wires.start))))))

pub look_all-requires-clause-axes : goal.look_all-requires-clause-axes
look_all-requires-clause-axes c = subst (All (IsAxis c.reading.new.builder)) (sym c.deref-5.ensures.value) (axes_stay _ _ _ c.in_ok-read.ensures.fills.grows c.in_ok-look.ensures.nets.axes)

pub look_all-requires-clause-one : goal.look_all-requires-clause-one
look_all-requires-clause-one c = IsOne-stays _ _ _ c.in_ok-read.ensures.fills.grows (IsOne-stays _ _ _ c.in_ok-look.ensures.fills.grows (IsOne-stays _ _ _ c.in_ok-step.ensures.fills.grows (IsOne-stays _ _ _ c.in_ok-begun.ensures.fills.grows (IsOne-stays _ _ _ c.in_ok-moving.ensures.fills.grows (c.in_ok-always.ensures.one)))))

pub on_either-requires-2-clause-left : goal.on_either-requires-2-clause-left
on_either-requires-2-clause-left c = HasNet-stays _ _ _ _ c.in_ok-ahead.ensures.fills.grows (HasNet-stays _ _ _ _ c.in_ok-read.ensures.fills.grows (HasNet-stays _ _ _ _ c.in_ok-look.ensures.fills.grows (HasNet-stays _ _ _ _ c.in_ok-step.ensures.fills.grows (HasNet-stays _ _ _ _ c.in_ok-begun.ensures.fills.grows (HasNet-stays _ _ _ _ c.in_ok-moving.ensures.fills.grows (HasNet-stays _ _ _ _ c.in_ok-always.ensures.fills.grows (c.requires.part.wires.start)))))))

pub on_either-requires-2-clause-right : goal.on_either-requires-2-clause-right
on_either-requires-2-clause-right c = HasNet-stays _ _ _ _ c.in_ok-ahead.ensures.fills.grows (HasNet-stays _ _ _ _ c.in_ok-read.ensures.fills.grows (HasNet-stays _ _ _ _ c.in_ok-look.ensures.fills.grows (c.in_ok-step.ensures.net)))

pub read_ahead-requires-clause-found : goal.read_ahead-requires-clause-found
read_ahead-requires-clause-found c = HasNet-stays _ _ _ _ c.in_ok-goes.ensures.fills.grows (HasNet-stays _ _ _ _ c.in_ok-ahead.ensures.fills.grows (HasNet-stays _ _ _ _ c.in_ok-read.ensures.fills.grows (HasNet-stays _ _ _ _ c.in_ok-look.ensures.fills.grows (HasNet-stays _ _ _ _ c.in_ok-step.ensures.fills.grows (HasNet-stays _ _ _ _ c.in_ok-begun.ensures.fills.grows (HasNet-stays _ _ _ _ c.in_ok-moving.ensures.fills.grows (HasNet-stays _ _ _ _ c.in_ok-always.ensures.fills.grows (c.requires.part.found))))))))

pub read_ahead-requires-clause-one : goal.read_ahead-requires-clause-one
read_ahead-requires-clause-one c = IsOne-stays _ _ _ c.in_ok-goes.ensures.fills.grows (IsOne-stays _ _ _ c.in_ok-ahead.ensures.fills.grows (IsOne-stays _ _ _ c.in_ok-read.ensures.fills.grows (IsOne-stays _ _ _ c.in_ok-look.ensures.fills.grows (IsOne-stays _ _ _ c.in_ok-step.ensures.fills.grows (IsOne-stays _ _ _ c.in_ok-begun.ensures.fills.grows (IsOne-stays _ _ _ c.in_ok-moving.ensures.fills.grows (c.in_ok-always.ensures.one)))))))

pub connect-requires-clause-net : goal.connect-requires-clause-net
connect-requires-clause-net c = wire_kept _ _ _ c.args.part.now.width c.in_ok-word.ensures.fills (wire_kept _ _ _ c.args.part.now.width c.in_ok-goes.ensures.fills (wire_kept _ _ _ c.args.part.now.width c.in_ok-ahead.ensures.fills (wire_kept _ _ _ c.args.part.now.width c.in_ok-read.ensures.fills (wire_kept _ _ _ c.args.part.now.width c.in_ok-look.ensures.fills (wire_kept _ _ _ c.args.part.now.width c.in_ok-step.ensures.fills (wire_kept _ _ _ c.args.part.now.width c.in_ok-begun.ensures.fills (wire_past _ _ _ _ _ _ _ c.args.part.now.width c.in_ok-moving.ensures.fills (kept_apart _ _ _ c.args.part.now.width c.requires.done.kept c.requires.part.word_wire) c.requires.part.request_word c.requires.part.last_word c.requires.part.address_word (wire_kept _ _ _ c.args.part.now.width c.in_ok-always.ensures.fills c.requires.part.word_wire))))))))

pub connect-requires-clause-one : goal.connect-requires-clause-one
connect-requires-clause-one c = IsOne-stays _ _ _ c.in_ok-word.ensures.fills.grows (IsOne-stays _ _ _ c.in_ok-goes.ensures.fills.grows (IsOne-stays _ _ _ c.in_ok-ahead.ensures.fills.grows (IsOne-stays _ _ _ c.in_ok-read.ensures.fills.grows (IsOne-stays _ _ _ c.in_ok-look.ensures.fills.grows (IsOne-stays _ _ _ c.in_ok-step.ensures.fills.grows (IsOne-stays _ _ _ c.in_ok-begun.ensures.fills.grows (IsOne-stays _ _ _ c.in_ok-moving.ensures.fills.grows (c.in_ok-always.ensures.one))))))))

pub returns-clause-fills : goal.returns-clause-fills
returns-clause-fills c = Fills-join _ _ _ [] _ c.in_ok-always.ensures.fills (Fills-join _ _ _ (c.args.done ∷ c.args.part.now.port.request ∷ c.args.part.now.port.last ∷ c.args.part.now.port.address ∷ []) _ c.in_ok-moving.ensures.fills (Fills-join _ _ _ [] _ c.in_ok-begun.ensures.fills (Fills-join _ _ _ [] _ c.in_ok-step.ensures.fills (Fills-join _ _ _ [] _ c.in_ok-look.ensures.fills (Fills-join _ _ _ [] _ c.in_ok-read.ensures.fills (Fills-join _ _ _ [] _ c.in_ok-ahead.ensures.fills (Fills-join _ _ _ [] _ c.in_ok-goes.ensures.fills (Fills-join _ _ _ [] _ c.in_ok-word.ensures.fills c.in_ok-connect.ensures.fills))))))))

pub returns-clause-nets : goal.returns-clause-nets
returns-clause-nets c = record {
  moving = moving_stays _ _ _ c.in_ok-connect.ensures.fills.grows (moving_stays _ _ _ c.in_ok-word.ensures.fills.grows (moving_stays _ _ _ c.in_ok-goes.ensures.fills.grows (moving_stays _ _ _ c.in_ok-ahead.ensures.fills.grows (moving_stays _ _ _ c.in_ok-read.ensures.fills.grows (moving_stays _ _ _ c.in_ok-look.ensures.fills.grows (moving_stays _ _ _ c.in_ok-step.ensures.fills.grows (moving_stays _ _ _ c.in_ok-begun.ensures.fills.grows (c.in_ok-moving.ensures.nets))))))));
  look = walk_stays _ _ _ c.in_ok-connect.ensures.fills.grows (walk_stays _ _ _ c.in_ok-word.ensures.fills.grows (walk_stays _ _ _ c.in_ok-goes.ensures.fills.grows (walk_stays _ _ _ c.in_ok-ahead.ensures.fills.grows (walk_stays _ _ _ c.in_ok-read.ensures.fills.grows (c.in_ok-look.ensures.nets)))));
  step = HasNet-stays _ _ _ _ c.in_ok-connect.ensures.fills.grows (HasNet-stays _ _ _ _ c.in_ok-word.ensures.fills.grows (HasNet-stays _ _ _ _ c.in_ok-goes.ensures.fills.grows (HasNet-stays _ _ _ _ c.in_ok-ahead.ensures.fills.grows (HasNet-stays _ _ _ _ c.in_ok-read.ensures.fills.grows (HasNet-stays _ _ _ _ c.in_ok-look.ensures.fills.grows (c.in_ok-step.ensures.net))))));
  read = HasNet-stays _ _ _ _ c.in_ok-connect.ensures.fills.grows (HasNet-stays _ _ _ _ c.in_ok-word.ensures.fills.grows (HasNet-stays _ _ _ _ c.in_ok-goes.ensures.fills.grows (HasNet-stays _ _ _ _ c.in_ok-ahead.ensures.fills.grows (c.in_ok-read.ensures.net))));
  indices = nets_stay _ _ _ c.in_ok-connect.ensures.fills.grows (nets_stay _ _ _ c.in_ok-word.ensures.fills.grows (nets_stay _ _ _ c.in_ok-goes.ensures.fills.grows c.in_ok-ahead.ensures.nets));
}

pub returns-clause-runs : goal.returns-clause-runs
returns-clause-runs c = λ s r.
    let r_word = runs_earlier _ _ s c.in_ok-connect.ensures.fills.grows r in
    let r_goes = runs_earlier _ _ s c.in_ok-word.ensures.fills.grows r_word in
    let r_ahead = runs_earlier _ _ s c.in_ok-goes.ensures.fills.grows r_goes in
    let r_read = runs_earlier _ _ s c.in_ok-ahead.ensures.fills.grows r_ahead in
    let r_look = runs_earlier _ _ s c.in_ok-read.ensures.fills.grows r_read in
    let r_step = runs_earlier _ _ s c.in_ok-look.ensures.fills.grows r_look in
    let r_begun = runs_earlier _ _ s c.in_ok-step.ensures.fills.grows r_step in
    let r_moving = runs_earlier _ _ s c.in_ok-begun.ensures.fills.grows r_begun in
    record {
      moves = subst (λ ds. MovesSlice s (store_wires_of c.args.part.now) ds c.args.part.now.moves.items c.in_ok-moving.moving) c.deref.ensures.value
          (subst (λ ms. MovesSlice s (store_wires_of c.args.part.now) c.deref.result.now ms c.in_ok-moving.moving) c.deref-2.ensures.value (c.in_ok-moving.ensures.moves s r_moving));
      steps = λ t. c.in_ok-step.ensures.on s r_step t ∙ ap (λ b. b || is_on s c.args.part.now.port.ready t) (c.in_ok-begun.ensures.on s r_begun t);
      looks = subst (λ ms. WalksSlice s c.args.part.now.start c.in_ok-step.step ms c.in_ok-look.look) c.deref-3.ensures.value (c.in_ok-look.ensures.walks s r_look);
      reads = c.in_ok-read.ensures.on s r_read;
      indices = λ t. c.in_ok-ahead.ensures.words s r_ahead t ∙ ap₂ (λ ms xs. look_offsets s c.args.part.now.start ms xs t) c.deref-4.ensures.value c.deref-5.ensures.value;
      ahead = connected s _ _ _ _ (c.in_ok-goes.ensures.on s r_goes) (c.in_ok-connect.ensures.word s r) (c.in_ok-word.ensures.reads s r_word);
    }
