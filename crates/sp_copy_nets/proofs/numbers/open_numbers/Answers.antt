use Rattle.std.proofs.Common.{◌+◌, [], ◌∷◌, length, All, sym, subst, ap, ◌∙◌, arith}
use Rattle.std.proofs.lemmas.List.{length-append}
use Rattle.sp_copy_nets.specs.declared.part.SlotNumbers.{SlotNumbers}
use Rattle.sp_copy_nets.specs.Fits.{AreCopied, Promises, number_nets}
use Rattle.sp_copy_nets.proofs.Promising.{all_end, no_promise, promised_await, slots_promised}
use Rattle.sp_copy_nets.proofs.numbers.open_numbers.Goals as goal

pub loop-slot-init : goal.loop-slot-init
loop-slot-init c = record {
  copied = subst (All (λ (slot : SlotNumbers). AreCopied c.args.copies.now slot.nets.items)) (sym c.new-numbers.ensures.items) (λ k d lt. absurd (omega (arith, lt)));
  promises = subst (λ ns. Promises c.args.builder.now c.args.builder.now (number_nets ns)) (sym c.new-numbers.ensures.items) (no_promise c.args.builder.now);
  each = ap length c.new-numbers.ensures.items;
}

pub loop-slot-preserved : goal.loop-slot-preserved
loop-slot-preserved c =
    let i = c.loop-slot.invariant in
    let e = c.in_ok-slot.ensures in
    record {
      copied = subst (All (λ (slot : SlotNumbers). AreCopied c.args.copies.now slot.nets.items)) (sym c.in_ok-push.ensures.items)
          (all_end (λ (slot : SlotNumbers). AreCopied c.args.copies.now slot.nets.items) c.loop-slot.numbers.items c.in_ok-slot.slot i.copied e.copied);
      promises = subst (λ ns. Promises c.args.builder.now c.open_slot.new.builder (number_nets ns)) (sym c.in_ok-push.ensures.items)
          (slots_promised c.args.builder.now c.loop-slot.builder c.open_slot.new.builder c.loop-slot.numbers.items c.in_ok-slot.slot i.promises e.promises);
      each = ap length c.in_ok-push.ensures.items ∙ length-append c.loop-slot.numbers.items (c.in_ok-slot.slot ∷ []) ∙ ap (λ n. n + 1) i.each;
    }

pub returns-clause-fits : goal.returns-clause-fits
returns-clause-fits c = record { copied = c.loop-slot.invariant.copied; awaited = promised_await _ _ _ c.loop-slot.invariant.promises }
