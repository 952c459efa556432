use Rattle.sp_contents.specs.Found.{first_contents}
use Rattle.sp_patterns.specs.Patterns.{patterns_of}
use Rattle.sp_chosen_runs.proofs.plans.own_plans_are_sound.Goals as goal

pub returns : goal.returns
returns c core plan delays meets has right input turns h t fits went =
    let hold = c.meets_hold.ensures core meets has.is_core right in (
      c.planned_runs_are_found.ensures core plan delays (patterns_of core) meets has hold input turns h t fits went (first_contents core input) (c.first_contents_agree.ensures core has.is_core input fits),
      c.runs_share_no_port.ensures core plan delays meets has input turns h t fits went (hold input turns h t fits went),
    )
