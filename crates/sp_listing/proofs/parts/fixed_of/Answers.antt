use Rattle.sp_listing.proofs.TypeLemmas.{bits_of_code, counts_fit, fixed_read}
use Rattle.sp_words.specs.Types.{fix_whole, fix_frac}
use Rattle.sp_listing.proofs.parts.fixed_of.Goals as goal

pub returns-in_err-whole : goal.returns-in_err-whole
returns-in_err-whole c = rw c.from_residual-in_err-whole.ensures (λ t same.
    let fit = counts_fit t in
    c.in_err-whole.ensures (fix_whole t) (fix_frac t) fit.0 fit.1 (bits_of_code c.args.code.now c.in_ok-signed.bits.now c.in_ok-signed.signed t c.in_ok-signed.ensures same).1)

pub returns : goal.returns
returns c =
    fixed_read c.args.code.now c.in_ok-signed.bits.now c.in_ok-signed.signed c.in_ok-whole.whole c.in_ok-whole.frac c.new.result
    c.in_ok-signed.ensures c.in_ok-whole.ensures.0 c.in_ok-whole.ensures.1 c.in_ok-whole.ensures.2 c.new.ensures.exists c.new.ensures.sign c.new.ensures.whole_bits c.new.ensures.frac_bits
