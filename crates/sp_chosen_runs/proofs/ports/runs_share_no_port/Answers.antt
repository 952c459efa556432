use Rattle.sp_core.specs.Scope.{in_lanes}
use Rattle.sp_patterns.specs.Patterns.{patterns_of}
use Rattle.sp_chosen_runs.proofs.ports.runs_share_no_port.Goals as goal

pub returns : goal.returns
returns c core plan delays meets has_plan input turns h t fits went met =
    c.histories_share_no_port.ensures core plan delays (patterns_of core) meets has_plan h met (c.cores_keep_symbols.ensures core in_lanes input turns h t has_plan.is_core fits went)
