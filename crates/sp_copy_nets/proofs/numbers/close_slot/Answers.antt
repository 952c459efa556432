use Rattle.std.proofs.Common.{◌+◌, ◌++◌, ◌<◌, [], ◌∷◌, length, sym, subst, take, slice_index, arith}
use Rattle.std.proofs.lemmas.List.{take_more}
use Rattle.sp_gates.proofs.Growing.{Fills-none}
use Rattle.sp_copy_nets.specs.Fits.{HasCopies}
use Rattle.sp_copy_nets.specs.Numbers.{AllNumbered, no_number}
use Rattle.sp_copy_nets.proofs.Filling.{all_later, numbers_end}
use Rattle.sp_copy_nets.proofs.Promising.{await_at, copied_at, given_more, more}
use Rattle.sp_copy_nets.proofs.numbers.close_slot.Goals as goal

pub loop-index-init : goal.loop-index-init
loop-index-init c = record {
  fills = Fills-none c.args.builder.now;
  numbered = subst (AllNumbered c.args.builder.now c.args.start c.args.first [] []) (sym c.new-nets.ensures.items) no_number;
}

pub close_number-requires-clause-copied : goal.close_number-requires-clause-copied
close_number-requires-clause-copied c =
    subst (HasCopies (slice_index c.args.copies.now c.loop-index.index)) (sym c.index.ensures) (copied_at c.args.copies.now c.args.slot.now.nets.items c.loop-index.index 0 c.index.result.now (omega (arith, c.len-index-end.ensures, c.loop-index-test.true, c.args.slot.now.nets.ok.0)) c.requires.copied)

pub close_number-requires-clause-awaited : goal.close_number-requires-clause-awaited
close_number-requires-clause-awaited c =
    await_at c.args.builder.now c.loop-index.builder c.args.slot.now.nets.items c.loop-index.index c.index.result.now (omega (arith, c.len-index-end.ensures, c.loop-index-test.true, c.args.slot.now.nets.ok.0)) c.index.ensures c.loop-index.invariant.fills c.requires.awaited

pub loop-index-preserved : goal.loop-index-preserved
loop-index-preserved c =
    let i = c.loop-index.invariant in
    let e = c.in_ok-coming.ensures in
    let lt : c.loop-index.index < length c.args.copies.now = omega (arith, c.requires.each, c.len-index-end.ensures, c.loop-index-test.true, c.args.slot.now.nets.ok.0) in
    record {
      fills = given_more c.args.builder.now c.loop-index.builder c.close_number.new.builder c.args.slot.now.nets.items c.loop-index.index c.index.result.now (omega (arith, c.len-index-end.ensures, c.loop-index-test.true, c.args.slot.now.nets.ok.0)) c.index.ensures i.fills e.fills;
      numbered = subst (AllNumbered c.close_number.new.builder c.args.start c.args.first (take (c.loop-index.index + 1) c.args.copies.now) (take (c.loop-index.index + 1) c.args.slot.now.nets.items)) (sym c.in_ok-push.ensures.items)
          (subst (λ cs. AllNumbered c.close_number.new.builder c.args.start c.args.first cs (take (c.loop-index.index + 1) c.args.slot.now.nets.items) (c.loop-index.nets.items ++ c.in_ok-coming.coming ∷ [])) (sym (take_more c.args.copies.now c.loop-index.index 0 lt))
          (subst (λ ns. AllNumbered c.close_number.new.builder c.args.start c.args.first (take c.loop-index.index c.args.copies.now ++ slice_index c.args.copies.now c.loop-index.index ∷ []) ns (c.loop-index.nets.items ++ c.in_ok-coming.coming ∷ []))
          (sym (more c.args.slot.now.nets.items c.loop-index.index c.index.result.now (omega (arith, c.len-index-end.ensures, c.loop-index-test.true, c.args.slot.now.nets.ok.0)) c.index.ensures))
          (numbers_end c.close_number.new.builder c.args.start c.args.first (take c.loop-index.index c.args.copies.now) (take c.loop-index.index c.args.slot.now.nets.items) c.loop-index.nets.items (slice_index c.args.copies.now c.loop-index.index) c.index.result.now c.in_ok-coming.coming
          (all_later c.loop-index.builder c.close_number.new.builder c.args.start c.args.first (take c.loop-index.index c.args.copies.now) (take c.loop-index.index c.args.slot.now.nets.items) c.loop-index.nets.items e.fills.grows i.numbered) e.numbered)));
    }
