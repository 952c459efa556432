use Rattle.std.proofs.Common.{◌≡◌, ◌&&◌, map, drop}
use Rattle.std.specs.List.{list_all}
use Rattle.sp_core.specs.Plain.{plain_mem}
use Rattle.sp_build.specs.Buildable.{is_stored_mem}
use Rattle.sp_build.proofs.buildable.are_stored.Given as goal

-- what is found so far, and what is left
abbrev pub invariant-loop-mem : goal.invariant-loop-mem
invariant-loop-mem l = (l.all && list_all is_stored_mem (map plain_mem (drop l.mem-index l.mems))) ≡ list_all is_stored_mem (map plain_mem l.mems)
