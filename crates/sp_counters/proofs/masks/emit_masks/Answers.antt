use Rattle.std.proofs.Common.{◌*◌, [], ap, ap₂, ◌∙◌}
use Rattle.std.specs.Prelude.{pos, ◌+ℤ◌, int_lt}
use Rattle.sp_gates.proofs.Growing.{Fills-none, Fills-join}
use Rattle.sp_counters.specs.Counting.{number}
use Rattle.sp_counters.proofs.MaskLemmas.{has_int_stays, no_masks, masks_stay, mask_pushed}
use Rattle.sp_counters.proofs.masks.emit_masks.Goals as goal

pub loop-lane-init : goal.loop-lane-init
loop-lane-init c = record { fills = Fills-none _; masks = no_masks _ _ _ _ c.new-masks.ensures.items }

pub mask-requires-clause-value : goal.mask-requires-clause-value
mask-requires-clause-value c = has_int_stays _ _ _ c.loop-lane.invariant.fills.grows c.requires.value

pub mask-requires-clause-until : goal.mask-requires-clause-until
mask-requires-clause-until c = has_int_stays _ _ _ c.loop-lane.invariant.fills.grows c.requires.until

pub loop-lane-preserved : goal.loop-lane-preserved
loop-lane-preserved c =
    let i = c.loop-lane.invariant in
    let e = c.in_ok-net.ensures in
    record {
      fills = Fills-join _ _ _ [] [] i.fills e.fills;
      masks = rw c.in_ok-push.ensures.items
          (mask_pushed c.mask.new.builder c.args.count.now c.args.counter.now c.loop-lane.masks.items c.loop-lane.lane c.in_ok-net.net (masks_stay _ _ _ _ _ _ e.fills.grows i.masks) e.net
          (λ s r t. e.on s r t ∙ ap (λ m. int_lt (number s c.args.counter.now.value t +ℤ pos m) (number s c.args.counter.now.until t)) (ap₂ (λ a b. a * b) c.from.ensures c.from-in-loop-lane.ensures)));
    }
