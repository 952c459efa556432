use Rattle.std.proofs.Common.{ℕ, get_or, subst, below_more}
use Rattle.std.specs.Int.{IsGcd}
use Rattle.std.proofs.lemmas.Nat.Gcd.{same_from_IsGcd}
use Rattle.sp_bank.proofs.searching.first_hinge.Goals as goal

pub returns-then-gcd-eq1-clause-hinge : goal.returns-then-gcd-eq1-clause-hinge
returns-then-gcd-eq1-clause-hinge c =
    let P : ℕ → Type 0 = λ n. IsGcd (get_or c.args.alpha.now c.loop-q.q 0) c.args.period n in
    subst P c.if-gcd-eq1.true c.gcd.ensures

pub loop-q-preserved : goal.loop-q-preserved
loop-q-preserved c = below_more _ _ c.loop-q.invariant
    (λ one. c.if-gcd-eq1.false (same_from_IsGcd (get_or c.args.alpha.now c.loop-q.q 0) c.args.period c.gcd.result 1 c.gcd.ensures one))
