use Rattle.std.proofs.Common.{◌≡◌, ◌++◌, drop, map, get_or}
use Rattle.sp_core.specs.Plain.{plain_mem}
use Rattle.sp_core.specs.PlainCore.{no_mem}
use Rattle.sp_unroll.proofs.memories.mems_at.Given as goal

abbrev pub invariant-loop-m : goal.invariant-loop-m
invariant-loop-m l = map plain_mem l.made.items ++ map (λ m. get_or (map plain_mem l.mems) m no_mem) (drop l.m-index l.order) ≡ map (λ m. get_or (map plain_mem l.mems) m no_mem) l.order
