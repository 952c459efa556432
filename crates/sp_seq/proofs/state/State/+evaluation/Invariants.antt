use Rattle.std.proofs.Common.{map}
use Rattle.sp_tree.specs.Plain.{plain_mem}
use Rattle.sp_seq.proofs.EvaluationLemmas.{WordsGo}
use Rattle.sp_seq.proofs.state.State.+evaluation.Given as goal

abbrev pub invariant-words-loop-k : goal.invariant-words-loop-k
invariant-words-loop-k l = WordsGo (map plain_mem l.decls) l.fn.self l.all l.self l.found l.k
