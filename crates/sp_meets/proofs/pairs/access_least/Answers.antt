use Rattle.std.proofs.Common.{sym, ◌∙◌}
use Rattle.sp_meets.specs.Plain.{plain_view}
use Rattle.sp_meets.proofs.PairLemmas.{none_of}
use Rattle.sp_meets.proofs.pairs.access_least.Goals as goal

pub returns : goal.returns
returns c =
    none_of c.args.chip (plain_view c.args.v.now) (plain_view c.args.w.now) c.args.before c.args.p.now c.args.q.now c.args.x.now c.args.y.now c.requires.first c.requires.second
    (sym c.can_meet.ensures ∙ c.if-can_meet.false)
