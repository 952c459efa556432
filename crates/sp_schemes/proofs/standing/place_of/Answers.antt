use Rattle.std.proofs.Common.{length, arith, ap, ◌∙◌}
use Rattle.std.specs.Prelude.{slice_index_or}
use Rattle.sp_core.specs.CoreParts.{plain_core}
use Rattle.sp_core.specs.Numbered.{numbers}
use Rattle.sp_schemes.proofs.Counts.{many, marked, counted_before}
use Rattle.sp_schemes.proofs.standing.place_of.Goals as goal
use Rattle.sp_schemes.specs.Places.{marks}

pub overflow_sub-last : goal.overflow_sub-last
overflow_sub-last c =
    let e = ap length c.requires in
    let k = many 0 (marks (numbers (plain_core c.args.core.now).root)) in
    omega (arith, e, k)

pub bounds-places-min : goal.bounds-places-min
bounds-places-min c =
    let e = ap length c.requires in
    let k = many 0 (marks (numbers (plain_core c.args.core.now).root)) in
    let m = c.min.ensures in
    omega (arith, e, k, m)

pub returns : goal.returns
returns c =
    let xs = numbers (plain_core c.args.core.now).root in
    let e = ap length c.requires in
    let k = many 0 (marks xs) in
    let l = marked xs in
    let m = c.min.ensures in
    ap (λ ys. slice_index_or ys c.min.result 0) c.requires ∙ counted_before xs c.args.n c.min.result (omega (arith, e, k, l, m))
