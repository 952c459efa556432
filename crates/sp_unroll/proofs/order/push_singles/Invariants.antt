use Rattle.std.proofs.Common.{◌≡◌, ◌++◌, drop, map}
use Rattle.sp_core.specs.Plain.{plain_mem}
use Rattle.sp_unroll.specs.Arranged.{lists_of, is_kept, singles}
use Rattle.sp_unroll.proofs.order.push_singles.Given as goal

abbrev pub invariant-loop-m : goal.invariant-loop-m
invariant-loop-m l =
    lists_of l.parts.items ++ singles (is_kept (map plain_mem l.mems) l.written) (drop l.m-index l.owned)
    ≡ lists_of l.initial.parts.items ++ singles (is_kept (map plain_mem l.mems) l.written) l.owned
