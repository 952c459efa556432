use Rattle.std.proofs.Common.{◌≡◌, length, ap, sym, ◌∙◌}
use Rattle.sp_bank.proofs.Distinct.{IsInside-length}
use Rattle.sp_bank.proofs.place.bank_of.Goals as goal

pub weighted_place-requires-clause-rank : goal.weighted_place-requires-clause-rank
weighted_place-requires-clause-rank c =
    let alpha : c.as_slice.result.now ≡ c.args.s.now.alpha = cc in
    IsInside-length c.args.dims.now c.args.x.now c.requires.inside ∙ c.requires.rank ∙ sym (ap length alpha)
