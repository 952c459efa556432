use Rattle.std.proofs.Common.{◌≡◌, map}
use Rattle.sp_core.specs.Plain.{plain_mem}
use Rattle.sp_unroll.specs.Arranged.{ports_below}
use Rattle.sp_unroll.proofs.order.port_numbers.Given as goal

abbrev pub invariant-loop-mem : goal.invariant-loop-mem
invariant-loop-mem l = record {
  counted : l.number ≡ l.mem-index;
  numbers : l.all.items ≡ ports_below (map plain_mem l.mems) l.mem-index;
}
