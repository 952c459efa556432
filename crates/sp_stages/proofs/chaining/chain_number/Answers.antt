use Rattle.std.proofs.Common.{rules, ◌+◌, ◌<◌, cond, length, ap, ◌∙◌}
use Rattle.sp_stages.proofs.Listed.{counted_more, counted_few}
use Rattle.sp_stages.proofs.chaining.chain_number.Goals as goal

pub loop-r-preserved : goal.loop-r-preserved
loop-r-preserved c =
    let lt : c.loop-r.r < length c.args.leaders.now = search rules in (
      counted_few c.loop-r.count c.loop-r.r c.counted-count.result c.leads_in.result c.loop-r.invariant.0 c.counted-count.ensures,
      λ leader l. counted_more c.args.slots.now c.args.leaders.now leader c.number_at-slot.result c.loop-r.r c.loop-r.count c.counted-count.result l lt (c.loop-r.invariant.1 leader l)
          (c.counted-count.ensures ∙ ap (λ b. c.loop-r.count + cond b 1 0) c.leads_in.ensures),
    )
