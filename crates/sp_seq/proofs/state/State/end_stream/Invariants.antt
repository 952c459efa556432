use Rattle.std.proofs.Common.{map}
use Rattle.sp_tree.specs.Plain.{plain_mem}
use Rattle.sp_seq.proofs.BlockLemmas.{EndGo}
use Rattle.sp_seq.proofs.state.State.end_stream.Given as goal

abbrev pub invariant-loop-s : goal.invariant-loop-s
invariant-loop-s l = EndGo (map plain_mem l.decls) l.body l.self l.s-index
