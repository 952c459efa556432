use Rattle.std.proofs.Common.{map}
use Rattle.sp_tree.specs.Plain.{plain_mem}
use Rattle.sp_seq.proofs.TransferLemmas.{PartsGo}
use Rattle.sp_seq.proofs.state.State.parts.Given as goal

abbrev pub invariant-loop-k : goal.invariant-loop-k
invariant-loop-k l = PartsGo (map plain_mem l.decls) l.fn.self l.spans l.self l.found l.k
