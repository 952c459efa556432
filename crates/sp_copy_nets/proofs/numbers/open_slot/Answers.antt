use Rattle.std.proofs.Common.{◌+◌, ◌++◌, [], ◌∷◌, sym, subst, take, slice_index}
use Rattle.std.proofs.lemmas.List.{take_more}
use Rattle.sp_copy_nets.specs.Fits.{AreCopied, Promises, given_nets}
use Rattle.sp_copy_nets.proofs.Promising.{copied_end, nets_promised, no_promise}
use Rattle.sp_copy_nets.proofs.numbers.open_slot.Goals as goal

pub loop-index-init : goal.loop-index-init
loop-index-init c = record {
  copied = subst (AreCopied []) (sym c.new-nets.ensures.items) tt;
  promises = subst (λ ns. Promises c.args.builder.now c.args.builder.now (given_nets ns)) (sym c.new-nets.ensures.items) (no_promise c.args.builder.now);
}

pub loop-index-preserved : goal.loop-index-preserved
loop-index-preserved c =
    let i = c.loop-index.invariant in
    let e = c.in_ok-net.ensures in
    record {
      copied = subst (AreCopied (take (c.loop-index.index + 1) c.args.copies.now)) (sym c.in_ok-push.ensures.items)
          (subst (λ cs. AreCopied cs (c.loop-index.nets.items ++ c.in_ok-net.net ∷ [])) (sym (take_more c.args.copies.now c.loop-index.index 0 c.loop-index-test.true))
          (copied_end (take c.loop-index.index c.args.copies.now) c.loop-index.nets.items (slice_index c.args.copies.now c.loop-index.index) c.in_ok-net.net i.copied e.copied));
      promises = subst (λ ns. Promises c.args.builder.now c.open_number.new.builder (given_nets ns)) (sym c.in_ok-push.ensures.items)
          (nets_promised c.args.builder.now c.loop-index.builder c.open_number.new.builder c.loop-index.nets.items c.in_ok-net.net i.promises e.promises);
    }
