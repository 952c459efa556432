use Rattle.std.proofs.Common.{◌≡◌, map, drop}
use Rattle.sp_tree.specs.PlainTree.{plain_counter}
use Rattle.sp_sugar.specs.Uses.{counters_use}
use Rattle.sp_desugar.specs.Names.{among}
use Rattle.sp_desugar.proofs.uses.counters_use.Given as goal

abbrev pub invariant-loop-counter : goal.invariant-loop-counter
invariant-loop-counter l = counters_use (among l.names) (map plain_counter (drop l.counter-index l.counters)) ≡ counters_use (among l.names) (map plain_counter l.counters)
