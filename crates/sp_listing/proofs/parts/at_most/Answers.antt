use Rattle.std.proofs.Common.{◌≡◌, arith}
use Rattle.sp_listing.proofs.NumberLemmas.{same_number}
use Rattle.sp_listing.proofs.parts.at_most.Goals as goal

pub returns-then-number-most : goal.returns-then-number-most
returns-then-number-most c = λ n low same.
    let e : c.in_ok-number.number ≡ n = same_number c.args.word.now c.in_ok-number.number n c.in_ok-number.ensures.0 (omega (arith, c.ranges.most.fits)) c.in_ok-number.ensures.1 same in
    omega arith
