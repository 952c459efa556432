use Rattle.std.proofs.Common.{◌≡◌, arith}
use Rattle.std.proofs.lemmas.Nat.Gcd.{IsGcd-from_mod, IsGcd-from_zero, same_from_IsGcd}
use Rattle.sp_deps.proofs.Divisors.{gcd_is, below_both}
use Rattle.sp_deps.proofs.divisor.gcd.Goals as goal

pub loop-y-preserved : goal.loop-y-preserved
loop-y-preserved c = λ g h. c.loop-y.invariant g (IsGcd-from_mod _ _ g h)

pub returns-clause-value : goal.returns-clause-value
returns-clause-value c =
    let done : c.loop-y.y ≡ 0 = omega arith in
    same_from_IsGcd _ _ _ _ (c.loop-y.invariant c.loop-y.x (IsGcd-from_zero _ _ done)) (gcd_is _ _)

pub returns-clause-small : goal.returns-clause-small
returns-clause-small c =
    let done : c.loop-y.y ≡ 0 = omega arith in
    below_both _ _ _ (c.loop-y.invariant c.loop-y.x (IsGcd-from_zero _ _ done))
