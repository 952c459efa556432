use Rattle.std.proofs.Common.{◌+◌, ◌++◌, ◌<◌, [], ◌∷◌, length, sym, subst, ◌∙◌, ap, take, slice_index, slice_index_or, arith}
use Rattle.sp_gates.specs.Nets.{HasNet}
use Rattle.sp_gates.proofs.Growing.{Fills-none, HasNet-stays}
use Rattle.sp_copy_nets.specs.declared.part.SlotNumbers.{SlotNumbers}
use Rattle.sp_copy_nets.specs.Numbers.{AllSlotsNumbered, no_slot}
use Rattle.sp_copy_nets.specs.Table.{slot_numbers}
use Rattle.sp_copy_nets.proofs.Filling.{all_come, all_have, all_stand, at_end, slots_end, slots_later}
use Rattle.sp_copy_nets.proofs.Promising.{any_default, await_slot, copied_long, more, slots_more}
use Rattle.sp_copy_nets.proofs.numbers.close_numbers.Goals as goal

pub loop-index-init : goal.loop-index-init
loop-index-init c = record {
  fills = Fills-none c.args.builder.now;
  numbered = subst (AllSlotsNumbered c.args.builder.now c.args.start c.args.copies.now [] []) (sym c.new-coming.ensures.items) no_slot;
}

pub close_slot-requires-clause-first : goal.close_slot-requires-clause-first
close_slot-requires-clause-first c =
    let lt : c.loop-index.index < length c.args.firsts.now = rw c.requires.each c.loop-index-test.true in
    let same = any_default c.args.firsts.now c.loop-index.index 0 c.index-firsts-index.result lt ∙ sym c.index-firsts-index.is in
    HasNet-stays c.args.builder.now c.loop-index.builder _ 1 c.loop-index.invariant.fills.grows (subst (λ n. HasNet c.args.builder.now n 1) same (c.requires.firsts c.loop-index.index lt))

pub close_slot-requires-clause-each : goal.close_slot-requires-clause-each
close_slot-requires-clause-each c =
    copied_long c.args.copies.now (slice_index_or c.args.numbers.now c.loop-index.index c.index-numbers-index.result).nets.items (c.requires.fits.copied c.loop-index.index c.index-numbers-index.result c.loop-index-test.true)
    ∙ ap (λ (x : SlotNumbers). length x.nets.items) (sym c.index-numbers-index.is)

pub close_slot-requires-clause-awaited : goal.close_slot-requires-clause-awaited
close_slot-requires-clause-awaited c =
    await_slot c.args.builder.now c.loop-index.builder c.args.numbers.now c.loop-index.index c.index-numbers-index.result c.loop-index-test.true c.index-numbers-index.is c.loop-index.invariant.fills c.requires.fits.awaited

pub loop-index-preserved : goal.loop-index-preserved
loop-index-preserved c =
    let i = c.loop-index.invariant in
    let e = c.in_ok-slot.ensures in
    let lt : c.loop-index.index < length c.args.firsts.now = rw c.requires.each c.loop-index-test.true in
    record {
      fills = slots_more c.args.builder.now c.loop-index.builder c.close_slot.new.builder c.args.numbers.now c.loop-index.index c.index-numbers-index.result c.loop-index-test.true c.index-numbers-index.is i.fills e.fills;
      numbered = subst (AllSlotsNumbered c.close_slot.new.builder c.args.start c.args.copies.now (take (c.loop-index.index + 1) c.args.firsts.now) (take (c.loop-index.index + 1) c.args.numbers.now)) (sym c.in_ok-push.ensures.items)
          (subst (λ fs. AllSlotsNumbered c.close_slot.new.builder c.args.start c.args.copies.now fs (take (c.loop-index.index + 1) c.args.numbers.now) (c.loop-index.coming.items ++ c.in_ok-slot.slot ∷ [])) (sym (more c.args.firsts.now c.loop-index.index c.index-firsts-index.result lt c.index-firsts-index.is))
          (subst (λ ns. AllSlotsNumbered c.close_slot.new.builder c.args.start c.args.copies.now (take c.loop-index.index c.args.firsts.now ++ c.index-firsts-index.result ∷ []) ns (c.loop-index.coming.items ++ c.in_ok-slot.slot ∷ []))
          (sym (more c.args.numbers.now c.loop-index.index c.index-numbers-index.result c.loop-index-test.true c.index-numbers-index.is))
          (slots_end c.close_slot.new.builder c.args.start c.args.copies.now (take c.loop-index.index c.args.firsts.now) (take c.loop-index.index c.args.numbers.now) c.loop-index.coming.items c.index-firsts-index.result c.index-numbers-index.result c.in_ok-slot.slot
          (slots_later c.loop-index.builder c.close_slot.new.builder c.args.start c.args.copies.now (take c.loop-index.index c.args.firsts.now) (take c.loop-index.index c.args.numbers.now) c.loop-index.coming.items e.fills.grows i.numbered) e.numbered)));
    }

pub returns-clause-numbers : goal.returns-clause-numbers
returns-clause-numbers c = λ plan owned e s r x lt.
    all_have plan c.loop-index.builder c.args.start (slice_index c.args.firsts.now x) s r owned c.args.copies.now (slot_numbers c.args.numbers.now x) (slot_numbers c.loop-index.coming.items x) e
    (at_end c.loop-index.builder c.args.start c.args.copies.now c.args.firsts.now c.args.numbers.now c.loop-index.coming.items c.loop-index.index x c.requires.each (omega (arith, c.loop-index-test.false)) lt c.loop-index.invariant.numbered).all

pub returns-clause-coming : goal.returns-clause-coming
returns-clause-coming c = λ plan owned e s r x lt.
    all_come plan c.loop-index.builder c.args.start (slice_index c.args.firsts.now x) s r owned c.args.copies.now (slot_numbers c.args.numbers.now x) (slot_numbers c.loop-index.coming.items x) e
    (at_end c.loop-index.builder c.args.start c.args.copies.now c.args.firsts.now c.args.numbers.now c.loop-index.coming.items c.loop-index.index x c.requires.each (omega (arith, c.loop-index-test.false)) lt c.loop-index.invariant.numbered).all

pub returns-clause-stand : goal.returns-clause-stand
returns-clause-stand c = λ x lt.
    all_stand c.loop-index.builder c.args.start (slice_index c.args.firsts.now x) c.args.copies.now (slot_numbers c.args.numbers.now x) (slot_numbers c.loop-index.coming.items x)
    (at_end c.loop-index.builder c.args.start c.args.copies.now c.args.firsts.now c.args.numbers.now c.loop-index.coming.items c.loop-index.index x c.requires.each (omega (arith, c.loop-index-test.false)) lt c.loop-index.invariant.numbered).all
