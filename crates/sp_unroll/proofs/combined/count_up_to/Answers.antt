use Rattle.std.proofs.Common.{◌≡◌, ◌+◌, ◌∷◌, drop, arith, sym, ap, ◌∙◌}
use Rattle.std.proofs.lemmas.List.{drop_more}
use Rattle.sp_core.specs.Plain.{plain_op, plain_ops}
use Rattle.sp_unroll.proofs.CombineLemmas.{counted, count_more, at_most}
use Rattle.sp_unroll.proofs.combined.count_up_to.Goals as goal

pub loop-i-init : goal.loop-i-init
loop-i-init c = record { inside = omega arith; count = counted c.args.word (plain_ops c.args.ops.now) }

pub loop-i-preserved : goal.loop-i-preserved
loop-i-preserved c =
    let ops = c.args.ops.now in
    let i = c.loop-i.i in
    let x = c.index-ops-i.result in
    let d : drop i ops ≡ x ∷ drop (i + 1) ops = drop_more ops i x c.loop-i-test.true ∙ ap (λ y. y ∷ drop (i + 1) ops) (sym c.index-ops-i.is) in
    record {
      inside = at_most c.args.word (plain_op x) c.loop-i.count c.count_after-count.result i c.loop-i.invariant.inside c.count_after-count.ensures;
      count = count_more c.args.word c.loop-i.count c.count_after-count.result i (plain_op x) (plain_ops (drop (i + 1) ops)) (plain_ops (drop i ops)) (ap plain_ops d) c.count_after-count.ensures ∙ c.loop-i.invariant.count;
    }
