use Rattle.std.proofs.Common.{◌≡◌, ◌&&◌, map, drop}
use Rattle.std.specs.List.{list_all}
use Rattle.sp_core.specs.CoreParts.{plain_core}
use Rattle.sp_core.specs.Plain.{plain_span}
use Rattle.sp_build.specs.Buildable.{has_early_ends}
use Rattle.sp_build.proofs.buildable.have_early_ends.Given as goal

-- what is found so far, and what is left
abbrev pub invariant-loop-span : goal.invariant-loop-span
invariant-loop-span l = (l.all && list_all (has_early_ends (plain_core l.core)) (map plain_span (drop l.span-index l.spans))) ≡ list_all (has_early_ends (plain_core l.core)) (map plain_span l.spans)
