use Rattle.sp_meets.proofs.Pushed.{pushed, first_unit, later_unit}
use Rattle.sp_meets.proofs.indices.+add_unit.Goals as goal

pub returns-then-at-eq0 : goal.returns-then-at-eq0
returns-then-at-eq0 t c =
    pushed c.add_zeros.result _ c.push.new.self.items _ _ _ _ c.in_ok-push.ensures.items (first_unit c.args.count c.args.at c.if-count-eq0.false c.if-at-eq0.true) c.add_zeros.ensures

pub returns : goal.returns
returns t c =
    pushed c.add_unit.result _ c.push-2.new.self.items _ _ _ _ c.in_ok-push-2.ensures.items (later_unit c.args.count c.args.at c.if-count-eq0.false c.if-at-eq0.false) c.add_unit.ensures
