use Rattle.sp_words.proofs.LawLemmas.{add-GivesWords, sub-GivesWords, mul-GivesWords, div-GivesWords, rem-GivesWords, and-GivesWords, or-GivesWords, xor-GivesWords, min-GivesWords, max-GivesWords, not-lt, shl-lt, shr-lt, cast-lt}
use Rattle.sp_words.proofs.laws.operators_give_words.Goals as goal

pub returns-clause-sum : goal.returns-clause-sum
returns-clause-sum c = add-GivesWords

pub returns-clause-difference : goal.returns-clause-difference
returns-clause-difference c = sub-GivesWords

pub returns-clause-product : goal.returns-clause-product
returns-clause-product c = mul-GivesWords

pub returns-clause-quotient : goal.returns-clause-quotient
returns-clause-quotient c = div-GivesWords

pub returns-clause-remainder : goal.returns-clause-remainder
returns-clause-remainder c = rem-GivesWords

pub returns-clause-both : goal.returns-clause-both
returns-clause-both c = and-GivesWords

pub returns-clause-either : goal.returns-clause-either
returns-clause-either c = or-GivesWords

pub returns-clause-unlike : goal.returns-clause-unlike
returns-clause-unlike c = xor-GivesWords

pub returns-clause-least : goal.returns-clause-least
returns-clause-least c = min-GivesWords

pub returns-clause-greatest : goal.returns-clause-greatest
returns-clause-greatest c = max-GivesWords

pub returns-clause-turned : goal.returns-clause-turned
returns-clause-turned c = not-lt

pub returns-clause-shifted_left : goal.returns-clause-shifted_left
returns-clause-shifted_left c = shl-lt

pub returns-clause-shifted_right : goal.returns-clause-shifted_right
returns-clause-shifted_right c = shr-lt

pub returns-clause-cast : goal.returns-clause-cast
returns-clause-cast c = cast-lt
