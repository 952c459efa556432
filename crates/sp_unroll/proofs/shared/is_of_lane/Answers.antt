use Rattle.std.proofs.Common.{sym, ap, ◌∙◌}
use Rattle.sp_core.specs.Plain.{plain_ops}
use Rattle.sp_lanes.specs.Shared.{is_of_lane}
use Rattle.sp_unroll.proofs.shared.is_of_lane.Goals as goal

pub returns-in-Read : goal.returns-in-Read
returns-in-Read c = c.differs.ensures c.args.counter ∙ ap (λ kind. is_of_lane c.args.counter c.args.own.now (plain_ops c.args.body.now) kind c.args.mem) (sym c.in-Read.is)
