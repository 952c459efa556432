use Rattle.std.proofs.Common.{◌≡◌, arith}
use Rattle.sp_listing.proofs.NumberLemmas.{same_number}
use Rattle.sp_listing.proofs.parts.length_of.Goals as goal

pub returns-then-number-eq0 : goal.returns-then-number-eq0
returns-then-number-eq0 c = λ n (least, most) same.
    let e : c.in_ok-number.number ≡ n = same_number c.args.word.now c.in_ok-number.number n (omega arith) (omega arith) c.in_ok-number.ensures.1 same in
    omega arith
