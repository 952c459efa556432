use Rattle.std.proofs.Common.{◌≡◌, ℕ, ◌==◌, [], ◌∷◌, ◌&&◌, ◌||◌, not, length, sym, ap, ap₂, ◌∙◌, ◌%◌, ◌^◌}
use Rattle.sp_core.specs.Elements.{row_major}
use Rattle.sp_gates.proofs.Growing.{Fills-join, HasNet-stays, IsOne-stays}
use Rattle.sp_gates.proofs.Running.{runs_earlier}
use Rattle.sp_gates.specs.Tested.{is_on}
use Rattle.sp_mem.proofs.Waiting.{awaits_kept}
use Rattle.sp_slices.specs.Slices.{values_at}
use Rattle.sp_xfer.specs.Moving.{was, moves_at}
use Rattle.sp_xfer.proofs.Keeping.{wires_kept, wires_beside, counters_each, was_same}
use Rattle.sp_xfer.proofs.moving.control.Goals as goal

pub address-requires : goal.address-requires
address-requires c = record { values = rw c.deref.ensures.value c.requires.walk.values }

pub after-requires-clause-net : goal.after-requires-clause-net
after-requires-clause-net c = HasNet-stays _ _ _ _ c.in_ok-number.ensures.fills.grows (c.requires.wires.start)

pub after-requires-clause-one : goal.after-requires-clause-one
after-requires-clause-one c = IsOne-stays _ _ _ c.in_ok-number.ensures.fills.grows (c.requires.one)

pub on_both-requires-clause-right : goal.on_both-requires-clause-right
on_both-requires-clause-right c = HasNet-stays _ _ _ _ c.in_ok-begun.ensures.fills.grows (HasNet-stays _ _ _ _ c.in_ok-number.ensures.fills.grows (c.requires.walk.more))

pub on_both-requires-2-clause-left : goal.on_both-requires-2-clause-left
on_both-requires-2-clause-left c = HasNet-stays _ _ _ _ c.in_ok-asks.ensures.fills.grows (HasNet-stays _ _ _ _ c.in_ok-begun.ensures.fills.grows (HasNet-stays _ _ _ _ c.in_ok-number.ensures.fills.grows (c.requires.wires.ready)))

pub on_both-requires-2-clause-right : goal.on_both-requires-2-clause-right
on_both-requires-2-clause-right c = HasNet-stays _ _ _ _ c.in_ok-asks.ensures.fills.grows (HasNet-stays _ _ _ _ c.in_ok-begun.ensures.fills.grows (HasNet-stays _ _ _ _ c.in_ok-number.ensures.fills.grows (c.requires.walk.more)))

pub ends-requires-clause-begun : goal.ends-requires-clause-begun
ends-requires-clause-begun c = HasNet-stays _ _ _ _ c.in_ok-moved.ensures.fills.grows (HasNet-stays _ _ _ _ c.in_ok-asks.ensures.fills.grows (c.in_ok-begun.ensures.net))

pub ends-requires-clause-more : goal.ends-requires-clause-more
ends-requires-clause-more c = HasNet-stays _ _ _ _ c.in_ok-moved.ensures.fills.grows (HasNet-stays _ _ _ _ c.in_ok-asks.ensures.fills.grows (HasNet-stays _ _ _ _ c.in_ok-begun.ensures.fills.grows (HasNet-stays _ _ _ _ c.in_ok-number.ensures.fills.grows (c.requires.walk.more))))

pub ends-requires-clause-last : goal.ends-requires-clause-last
ends-requires-clause-last c = HasNet-stays _ _ _ _ c.in_ok-moved.ensures.fills.grows (HasNet-stays _ _ _ _ c.in_ok-asks.ensures.fills.grows (HasNet-stays _ _ _ _ c.in_ok-begun.ensures.fills.grows (HasNet-stays _ _ _ _ c.in_ok-number.ensures.fills.grows (c.requires.walk.last))))

pub ends-requires-clause-one : goal.ends-requires-clause-one
ends-requires-clause-one c = IsOne-stays _ _ _ c.in_ok-moved.ensures.fills.grows (IsOne-stays _ _ _ c.in_ok-asks.ensures.fills.grows (IsOne-stays _ _ _ c.in_ok-begun.ensures.fills.grows (IsOne-stays _ _ _ c.in_ok-number.ensures.fills.grows (c.requires.one))))

pub ends-requires-clause-done : goal.ends-requires-clause-done
ends-requires-clause-done c = awaits_kept _ _ _ 1 c.in_ok-moved.ensures.fills (awaits_kept _ _ _ 1 c.in_ok-asks.ensures.fills (awaits_kept _ _ _ 1 c.in_ok-begun.ensures.fills (awaits_kept _ _ _ 1 c.in_ok-number.ensures.fills c.requires.done)))

pub steer-requires-clause-wires : goal.steer-requires-clause-wires
steer-requires-clause-wires c = wires_beside _ _ c.args.done _ c.in_ok-ends.ensures.fills (awaits_kept _ _ c.args.done 1 c.in_ok-moved.ensures.fills (awaits_kept _ _ c.args.done 1 c.in_ok-asks.ensures.fills (awaits_kept _ _ c.args.done 1 c.in_ok-begun.ensures.fills (awaits_kept _ _ c.args.done 1 c.in_ok-number.ensures.fills c.requires.done)))).kept (wires_kept _ _ _ c.in_ok-moved.ensures.fills (wires_kept _ _ _ c.in_ok-asks.ensures.fills (wires_kept _ _ _ c.in_ok-begun.ensures.fills (wires_kept _ _ _ c.in_ok-number.ensures.fills (c.requires.wires)))))

pub steer-requires-clause-asks : goal.steer-requires-clause-asks
steer-requires-clause-asks c = HasNet-stays _ _ _ _ c.in_ok-ends.ensures.fills.grows (HasNet-stays _ _ _ _ c.in_ok-moved.ensures.fills.grows (c.in_ok-asks.ensures.net))

pub steer-requires-clause-last : goal.steer-requires-clause-last
steer-requires-clause-last c = HasNet-stays _ _ _ _ c.in_ok-ends.ensures.fills.grows (HasNet-stays _ _ _ _ c.in_ok-moved.ensures.fills.grows (HasNet-stays _ _ _ _ c.in_ok-asks.ensures.fills.grows (HasNet-stays _ _ _ _ c.in_ok-begun.ensures.fills.grows (HasNet-stays _ _ _ _ c.in_ok-number.ensures.fills.grows (c.requires.walk.last)))))

pub steer-requires-clause-number : goal.steer-requires-clause-number
steer-requires-clause-number c = HasNet-stays _ _ _ _ c.in_ok-ends.ensures.fills.grows (HasNet-stays _ _ _ _ c.in_ok-moved.ensures.fills.grows (HasNet-stays _ _ _ _ c.in_ok-asks.ensures.fills.grows (HasNet-stays _ _ _ _ c.in_ok-begun.ensures.fills.grows (c.in_ok-number.ensures.net))))

pub steer-requires-clause-one : goal.steer-requires-clause-one
steer-requires-clause-one c = IsOne-stays _ _ _ c.in_ok-ends.ensures.fills.grows (IsOne-stays _ _ _ c.in_ok-moved.ensures.fills.grows (IsOne-stays _ _ _ c.in_ok-asks.ensures.fills.grows (IsOne-stays _ _ _ c.in_ok-begun.ensures.fills.grows (IsOne-stays _ _ _ c.in_ok-number.ensures.fills.grows (c.requires.one)))))

pub returns-clause-fills : goal.returns-clause-fills
returns-clause-fills c = Fills-join _ _ _ [] _ c.in_ok-number.ensures.fills (Fills-join _ _ _ [] _ c.in_ok-begun.ensures.fills (Fills-join _ _ _ [] _ c.in_ok-asks.ensures.fills (Fills-join _ _ _ [] _ c.in_ok-moved.ensures.fills (Fills-join _ _ _ (c.args.done ∷ []) _ c.in_ok-ends.ensures.fills c.in_ok-steer.ensures.fills))))

pub returns-clause-asks : goal.returns-clause-asks
returns-clause-asks c = HasNet-stays _ _ _ _ c.in_ok-steer.ensures.fills.grows (HasNet-stays _ _ _ _ c.in_ok-ends.ensures.fills.grows (HasNet-stays _ _ _ _ c.in_ok-moved.ensures.fills.grows (c.in_ok-asks.ensures.net)))

pub returns-clause-moved : goal.returns-clause-moved
returns-clause-moved c = HasNet-stays _ _ _ _ c.in_ok-steer.ensures.fills.grows (HasNet-stays _ _ _ _ c.in_ok-ends.ensures.fills.grows (c.in_ok-moved.ensures.net))

pub returns-clause-moves : goal.returns-clause-moves
returns-clause-moves c = λ s moves r same w.
    let r_done = runs_earlier _ _ s c.in_ok-steer.ensures.fills.grows r in
    let r_moved = runs_earlier _ _ s c.in_ok-ends.ensures.fills.grows r_done in
    let r_asks = runs_earlier _ _ s c.in_ok-moved.ensures.fills.grows r_moved in
    let r_begun = runs_earlier _ _ s c.in_ok-asks.ensures.fills.grows r_asks in
    let r_number = runs_earlier _ _ s c.in_ok-begun.ensures.fills.grows r_begun in
    let begun = c.in_ok-begun.ensures.on s r_begun in
    let asks : (t : ℕ) → is_on s c.in_ok-asks.asks t ≡ (was (is_on s c.args.wires.now.start) t && is_on s c.args.walk.now.counted.more t) = λ t. c.in_ok-asks.ensures.on s r_asks t ∙ ap (λ b. b && is_on s c.args.walk.now.counted.more t) (begun t) in
    let moved : (t : ℕ) → is_on s c.in_ok-moved.moved t ≡ moves_at s c.args.wires.now.ready c.args.walk.now t = c.in_ok-moved.ensures.on s r_moved in
    let each : length c.deref.result.now ≡ length c.args.dims.now = ap length c.deref.ensures.value ∙ counters_each s _ _ _ _ w ∙ sym same in
    record {
      walks = w;
      request = λ t. ap (λ n. n == 1) (c.in_ok-steer.ensures.request s r t) ∙ asks t;
      bit = c.in_ok-steer.ensures.bit s r;
      last = λ t. c.in_ok-steer.ensures.last s r t ∙ w.last t;
      address = λ t. c.in_ok-steer.ensures.address s r t ∙ c.in_ok-number.ensures.word s r_number each t ∙ ap (λ ns. row_major c.args.dims.now (values_at s ns t) % 2 ^ 32) c.deref.ensures.value;
      asks = asks;
      moved = moved;
      done = λ t. c.in_ok-ends.ensures.on s r_done t
          ∙ was_same _ _ (λ u. ap₂ (λ a b. a || (b && not (is_on s c.args.walk.now.counted.more u))) (ap₂ (λ a b. a && b) (moved u) (w.last u)) (begun u)) t;
    }
