use Rattle.sp_bank_runs.proofs.Whole.{valid_plans_go_well}
use Rattle.sp_bank_runs.proofs.laws.valid_plans_go_well.Goals as goal

pub returns : goal.returns
returns c core plan delays = valid_plans_go_well core plan delays (c.own_plans_share_no_port.ensures core plan delays) (c.timelines_stay_inside.ensures core plan delays)
