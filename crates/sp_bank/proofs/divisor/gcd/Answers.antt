use Rattle.std.proofs.Common.{◌≡◌, arith}
use Rattle.std.proofs.lemmas.Nat.Gcd.{IsGcd-from_mod, IsGcd-from_zero}
use Rattle.sp_bank.proofs.divisor.gcd.Goals as goal

pub loop-y-preserved : goal.loop-y-preserved
loop-y-preserved c = λ g h. c.loop-y.invariant g (IsGcd-from_mod _ _ g h)

pub returns : goal.returns
returns c = let done : c.loop-y.y ≡ 0 = omega arith in c.loop-y.invariant c.loop-y.x (IsGcd-from_zero _ _ done)
