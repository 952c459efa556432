use Rattle.std.proofs.Common.{FitsSigned, ◌≤ℤ◌, ◌<ℤ◌, pos, arith, rules}
use Rattle.std.specs.Int.{w128}
use Rattle.std.proofs.lemmas.Int.{ints, to_z-of_z}
use Rattle.sp_deps.proofs.Multiples.{up, down, down_more}
use Rattle.sp_deps.proofs.value.remainder.Goals as goal

pub returns-then-z-ge0-clause-value : goal.returns-then-z-ge0-clause-value
returns-then-z-ge0-clause-value c =
    let z : FitsSigned w128 c.args.z.now = search rules in
    let high : pos 0 ≤ℤ c.args.z.now = omega (arith, ints) in
    rw (c.unsigned_abs.ensures.value, to_z-of_z w128 _ z) (up c.args.z.now c.args.divisor high)

pub returns-then-rest-eq0-clause-value : goal.returns-then-rest-eq0-clause-value
returns-then-rest-eq0-clause-value c =
    let z : FitsSigned w128 c.args.z.now = search rules in
    let low : c.args.z.now <ℤ pos 0 = omega (arith, ints) in
    down c.args.z.now c.args.divisor low (rw (c.unsigned_abs.ensures.value, to_z-of_z w128 _ z) at c.if-rest-eq0.true)

pub returns-clause-value : goal.returns-clause-value
returns-clause-value c =
    let z : FitsSigned w128 c.args.z.now = search rules in
    let low : c.args.z.now <ℤ pos 0 = omega (arith, ints) in
    rw (c.unsigned_abs.ensures.value, to_z-of_z w128 _ z) (down_more c.args.z.now c.args.divisor c.requires.some low)
