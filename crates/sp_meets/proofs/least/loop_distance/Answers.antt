use Rattle.sp_deps.specs.Access.{plain_access}
use Rattle.sp_meets.proofs.Distance.{none_left, without_own, in_one_body}
use Rattle.sp_meets.proofs.least.loop_distance.Goals as goal

pub distance-requires : goal.distance-requires
distance-requires c =
    let first = none_left c.args.first.now (c.has_none.ensures.0 c.if-not-has_none.false) in
    let second = none_left c.args.second.now (c.has_none-2.ensures.0 c.if-not-has_none-2.false) in
    record {
      ranges = c.requires.ranges;
      a = without_own c.args.common.now c.args.first.now c.args.x.now.forms first c.requires.x;
      b = without_own c.args.common.now c.args.second.now c.args.y.now.forms second c.requires.y;
    }

pub returns-clause-distance : goal.returns-clause-distance
returns-clause-distance c = λ can.
    let first = none_left c.args.first.now (c.has_none.ensures.0 c.if-not-has_none.false) in
    let second = none_left c.args.second.now (c.has_none-2.ensures.0 c.if-not-has_none-2.false) in
    in_one_body c.args.common.now c.args.first.now c.args.second.now (plain_access c.args.x.now).forms (plain_access c.args.y.now).forms c.distance.result first second (c.distance.ensures.together can)
