use Rattle.sp_listing.proofs.TextLemmas.{counts_cut, counts_point}
use Rattle.sp_listing.proofs.parts.counts_of.Goals as goal

pub returns-in_err-whole : goal.returns-in_err-whole
returns-in_err-whole c = rw c.from_residual.ensures (λ whole frac w f same. counts_point c.args.bits.now whole frac c.in_err-whole.ensures same)

pub returns-in_err-whole-2 : goal.returns-in_err-whole-2
returns-in_err-whole-2 c = rw c.from_residual-in_err-whole-2.ensures (λ whole frac w f same.
    let cut = counts_cut c.args.bits.now c.in_ok-whole.whole.now c.in_ok-whole.frac.now whole frac w c.in_ok-whole.ensures.0 c.in_ok-whole.ensures.1 same in
    c.in_err-whole-2.ensures whole w cut.0)

pub returns-in_err-frac : goal.returns-in_err-frac
returns-in_err-frac c = rw c.from_residual-in_err-frac.ensures (λ whole frac w f same.
    let cut = counts_cut c.args.bits.now c.in_ok-whole.whole.now c.in_ok-whole.frac.now whole frac w c.in_ok-whole.ensures.0 c.in_ok-whole.ensures.1 same in
    c.in_err-frac.ensures frac f cut.1)
