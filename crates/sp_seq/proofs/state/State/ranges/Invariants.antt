use Rattle.std.proofs.Common.{map}
use Rattle.sp_tree.specs.Plain.{plain_mem}
use Rattle.sp_seq.proofs.CountLemmas.{RangesGo}
use Rattle.sp_seq.proofs.state.State.ranges.Given as goal

abbrev pub invariant-loop-k : goal.invariant-loop-k
invariant-loop-k l = RangesGo (map plain_mem l.decls) l.fn.self l.counters l.self l.digits l.k
