use Rattle.sp_valid.proofs.ByParts.{no_wrong, three}
use Rattle.sp_valid.proofs.mems.is_right.Goals as goal

pub returns-then-not-is_deep : goal.returns-then-not-is_deep
returns-then-not-is_deep c = no_wrong c.is_deep.result c.if-not-is_deep.true c.is_deep.ensures (λ p. p.1.0)

pub returns-then-not-is_duplicated : goal.returns-then-not-is_duplicated
returns-then-not-is_duplicated c = no_wrong c.is_duplicated.result c.if-not-is_duplicated.true c.is_duplicated.ensures (λ p. p.1.1)

pub returns : goal.returns
returns c = three c.serves.result (c.is_deep.ensures.0 c.if-not-is_deep.false) (c.is_duplicated.ensures.0 c.if-not-is_duplicated.false) c.serves.ensures
