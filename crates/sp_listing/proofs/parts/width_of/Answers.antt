use Rattle.std.proofs.Common.{◌≡◌, arith}
use Rattle.sp_listing.proofs.NumberLemmas.{same_number}
use Rattle.sp_listing.proofs.parts.width_of.Goals as goal

pub returns-then-bits-eq0 : goal.returns-then-bits-eq0
returns-then-bits-eq0 c = λ n (least, most) same.
    let e : c.in_ok-bits.bits ≡ n = same_number c.args.word.now c.in_ok-bits.bits n (omega (arith, c.in_ok-bits.ensures.0)) (omega arith) c.in_ok-bits.ensures.1 same in
    omega arith
