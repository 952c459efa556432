use Rattle.sp_patterns.specs.Patterns.{patterns_of}
use Rattle.sp_bank_runs.proofs.Whole.{runs_hold_words}
use Rattle.sp_bank_runs.proofs.laws.runs_hold_words.Goals as goal

pub returns : goal.returns
returns c core plan delays = runs_hold_words core plan delays (c.memories_hold_words.ensures core plan (patterns_of core))
