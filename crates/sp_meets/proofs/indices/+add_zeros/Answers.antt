use Rattle.sp_meets.proofs.Pushed.{pushed, zeros}
use Rattle.sp_meets.proofs.indices.+add_zeros.Goals as goal

pub returns : goal.returns
returns t c = pushed c.add_zeros.result _ c.push.new.self.items _ _ _ _ c.in_ok-push.ensures.items (zeros c.args.count c.if-count-eq0.false) c.add_zeros.ensures
