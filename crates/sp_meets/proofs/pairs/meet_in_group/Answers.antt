use Rattle.std.proofs.Common.{ap, ◌∙◌}
use Rattle.std.specs.Prelude.{◌&&◌, ◌||◌}
use Rattle.sp_meets.proofs.PairLemmas.{group_same}
use Rattle.sp_meets.proofs.pairs.meet_in_group.Goals as goal

pub returns : goal.returns
returns c = λ P Q e f can.
    c.both.ensures ∙ ap (λ x. c.args.before && x) (c.either.ensures ∙ ap (λ m. c.args.shares || m) (c.stage_meet-meets.ensures ∙ group_same c.args.p.now c.args.q.now P Q e f can))
