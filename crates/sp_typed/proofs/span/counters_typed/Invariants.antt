use Rattle.std.proofs.Common.{◌≡◌, ◌++◌, map, drop}
use Rattle.sp_reader.specs.PlainProgram.{plain_counters}
use Rattle.sp_tree.specs.PlainTree.{plain_counter}
use Rattle.sp_typed.specs.Plain.{here_of}
use Rattle.sp_typed.specs.Statements.{counters_typed}
use Rattle.sp_typed.proofs.span.counters_typed.Given as goal

abbrev pub invariant-loop-counter : goal.invariant-loop-counter
invariant-loop-counter l = map plain_counter l.typed_counters.items ++ counters_typed (here_of l.scope) l.number (plain_counters (drop l.counter-index l.counters))
    ≡ counters_typed (here_of l.scope) (here_of l.scope).counters (plain_counters l.counters)
