use Rattle.std.proofs.Common.{◌∷◌, [], All, sym, ap, ap₂, subst, ◌∙◌}
use Rattle.sp_gates.specs.Nets.{HasNet}
use Rattle.sp_gates.proofs.Growing.{Fills-join, HasNet-stays, IsOne-stays}
use Rattle.sp_gates.proofs.Running.{runs_earlier}
use Rattle.sp_slices.specs.Slices.{offsets_of}
use Rattle.sp_xfer.specs.Fits.{SliceFits}
use Rattle.sp_xfer.specs.Moving.{MovesSlice, words_at, wires_of}
use Rattle.sp_mem.proofs.Waiting.{awaits_kept}
use Rattle.sp_xfer.proofs.Keeping.{wires_kept, slice_stays, moving_stays, offsets_stand, was_same}
use Rattle.sp_xfer.proofs.loads.emit_load_to.Goals as goal

pub move_slice-requires-clause-wires : goal.move_slice-requires-clause-wires
move_slice-requires-clause-wires c = wires_kept _ _ _ c.in_ok-always.ensures.fills c.requires.part.wires

pub move_slice-requires-clause-done : goal.move_slice-requires-clause-done
move_slice-requires-clause-done c = awaits_kept _ _ _ 1 c.in_ok-always.ensures.fills c.requires.done

pub after-requires-clause-one : goal.after-requires-clause-one
after-requires-clause-one c = IsOne-stays _ _ _ c.in_ok-moving.ensures.fills.grows c.in_ok-always.ensures.one

pub late_all-requires-clause-one : goal.late_all-requires-clause-one
late_all-requires-clause-one c = IsOne-stays _ _ _ c.in_ok-write.ensures.fills.grows (IsOne-stays _ _ _ c.in_ok-moving.ensures.fills.grows c.in_ok-always.ensures.one)

pub returns-clause-fills : goal.returns-clause-fills
returns-clause-fills c = Fills-join _ _ _ [] _ c.in_ok-always.ensures.fills (Fills-join _ _ _ (c.args.done ∷ c.args.part.now.port.request ∷ c.args.part.now.port.last ∷ c.args.part.now.port.address ∷ []) [] c.in_ok-moving.ensures.fills (Fills-join _ _ _ [] [] c.in_ok-write.ensures.fills c.in_ok-indices.ensures.fills))

pub move_slice-requires-clause-slice : goal.move_slice-requires-clause-slice
move_slice-requires-clause-slice c = subst (λ ds. SliceFits c.one.new.builder ds c.deref-2.result.now) (sym c.deref.ensures.value) (subst (λ ms. SliceFits c.one.new.builder c.args.part.now.dims.items ms) (sym c.deref-2.ensures.value)
    (slice_stays _ _ _ _ c.in_ok-always.ensures.fills.grows c.requires.part.slice))

pub late_all-requires-clause-nets : goal.late_all-requires-clause-nets
late_all-requires-clause-nets c = subst (All (λ net. HasNet c.after.new.builder net 32)) (sym (c.deref-5.ensures.value ∙ c.in_ok-offsets.ensures ∙ ap₂ offsets_of c.deref-3.ensures.value c.deref-4.ensures.value))
    (offsets_stand _ _ _ (moving_stays _ _ _ c.in_ok-write.ensures.fills.grows c.in_ok-moving.ensures.nets).walk.axes)

pub returns-clause-nets : goal.returns-clause-nets
returns-clause-nets c = record {
  moving = moving_stays _ _ _ c.in_ok-indices.ensures.fills.grows (moving_stays _ _ _ c.in_ok-write.ensures.fills.grows c.in_ok-moving.ensures.nets);
  write = HasNet-stays _ _ _ _ c.in_ok-indices.ensures.fills.grows c.in_ok-write.ensures.net;
  indices = c.in_ok-indices.ensures.late_nets;
}

pub returns-clause-runs : goal.returns-clause-runs
returns-clause-runs c = λ s r.
    let r_write = runs_earlier _ _ s c.in_ok-indices.ensures.fills.grows r in
    let r_moving = runs_earlier _ _ s c.in_ok-write.ensures.fills.grows r_write in
    let m = subst (λ ds. MovesSlice s (wires_of c.args.part.now) ds c.args.part.now.moves.items c.in_ok-moving.moving) c.deref.ensures.value
    (subst (λ ms. MovesSlice s (wires_of c.args.part.now) c.deref.result.now ms c.in_ok-moving.moving) c.deref-2.ensures.value (c.in_ok-moving.ensures.moves s r_moving)) in
    record {
      moves = m;
      writes = λ t. c.in_ok-write.ensures.on s r_write t ∙ was_same _ _ m.moved t;
      indices = λ t. c.in_ok-indices.ensures.words s r t ∙ ap (words_at s t) (c.deref-5.ensures.value ∙ c.in_ok-offsets.ensures ∙ ap₂ offsets_of c.deref-3.ensures.value c.deref-4.ensures.value);
    }
