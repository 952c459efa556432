use Rattle.sp_bank_words.proofs.Numbers.{timelines_are_by_accesses}
use Rattle.sp_bank_words.proofs.laws.timelines_are_by_accesses.Goals as goal

pub returns : goal.returns
returns c core plan delays = timelines_are_by_accesses c.runs_touch.ensures core plan delays (c.runs_are_inside.ensures core) (c.runs_are_allowed.ensures core)
