use Rattle.std.proofs.Common.{◌≡◌, ◌<◌, ◌^◌, arith}
use Rattle.sp_listing.proofs.NumberLemmas.{same_number, below_word, not_below}
use Rattle.sp_listing.proofs.parts.word_of.Goals as goal

pub returns-else-from-width : goal.returns-else-from-width
returns-else-from-width c = λ n small same.
    let within : n < 2 ^ 64 = below_word c.args.width n c.requires.1 small in
    let e : c.in_ok-number.number ≡ n = same_number c.args.word.now c.in_ok-number.number n c.in_ok-number.ensures.0 within c.in_ok-number.ensures.1 same in
    not_below c.args.width n c.requires.1 small (omega (arith, c.if-from-width.false))
