use Rattle.std.proofs.Common.{◌≡◌, ◌-◌, drop, Some}
use Rattle.std.specs.List.{list_any}
use Rattle.sp_core.specs.CoreParts.{plain_core}
use Rattle.sp_core.specs.Plain.{plain_stage_list}
use Rattle.sp_stream.specs.Proper.{nodes_of, leads_on, across}
use Rattle.sp_stream.specs.Search.{steps_on, is_found}
use Rattle.sp_stream.proofs.fifos.+is_found.Given as goal

abbrev pub decreases-is_found : goal.decreases-is_found
decreases-is_found l = l.steps

-- what is left of the FIFOs over which the first step may go
abbrev pub invariant-loop-m : goal.invariant-loop-m
invariant-loop-m l =
    list_any (λ m. leads_on (steps_on l.before (λ c. is_found (plain_core l.core) (nodes_of (plain_stage_list l.stages)) l.fifos (l.steps - 1) (Some l.from) c l.to)) (across (plain_core l.core) (nodes_of (plain_stage_list l.stages)) m l.from)) (drop l.m-index l.fifos)
    ≡ is_found (plain_core l.core) (nodes_of (plain_stage_list l.stages)) l.fifos l.steps l.before l.from l.to
