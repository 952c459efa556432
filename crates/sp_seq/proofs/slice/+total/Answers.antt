use Rattle.std.proofs.Common.{rules}
use Rattle.sp_seq.proofs.SliceLemmas.{total_rest}
use Rattle.sp_seq.proofs.slice.+total.Goals as goal

pub total-requires : goal.total-requires
total-requires t c =
    (search rules, total_rest c.args.parts.now c.args.limits.now _ c.in-len1-up.len_at_least c.in-len1-up-limits.len_at_least c.if-first.true c.requires)
