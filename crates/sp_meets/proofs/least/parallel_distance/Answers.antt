use Rattle.std.proofs.Common.{◌+◌, refl}
use Rattle.sp_meets.proofs.Distance.{parallel_some, parallel_never}
use Rattle.sp_meets.proofs.least.parallel_distance.Goals as goal

pub returns-then-groups-high-clause-distance : goal.returns-then-groups-high-clause-distance
returns-then-groups-high-clause-distance c = λ x y is_x is_y can some linear.
    parallel_some c.args.a.now c.args.b.now x y is_x is_y can some c.args.most (c.args.most + 1) c.first_between-groups.result linear refl c.first_between-groups.ensures c.if-groups-high.true

pub returns-else-groups-high-clause-distance : goal.returns-else-groups-high-clause-distance
returns-else-groups-high-clause-distance c = λ x y is_x is_y can some linear.
    parallel_never c.args.a.now c.args.b.now x y is_x is_y can some c.args.most (c.args.most + 1) c.first_between-groups.result linear refl c.first_between-groups.ensures c.if-groups-high.false
