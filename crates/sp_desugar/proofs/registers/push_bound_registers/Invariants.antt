use Rattle.std.proofs.Common.{◌≡◌, ◌++◌, map, drop}
use Rattle.sp_core.specs.Plain as core
use Rattle.sp_tree.specs.PlainTree.{plain_counter}
use Rattle.sp_sugar.specs.Early.{bounds_of, is_early, registers_for}
use Rattle.sp_desugar.proofs.registers.push_bound_registers.Given as goal

abbrev pub invariant-loop-counter : goal.invariant-loop-counter
invariant-loop-counter l =
    map core.plain_mem l.out.items ++ registers_for is_early (bounds_of (map plain_counter (drop l.counter-index l.counters)))
    ≡ map core.plain_mem l.fn.out.items ++ registers_for is_early (bounds_of (map plain_counter l.counters))
