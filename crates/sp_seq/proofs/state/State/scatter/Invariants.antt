use Rattle.std.proofs.Common.{map}
use Rattle.sp_tree.specs.Elements.{numbers_below}
use Rattle.sp_tree.specs.Plain.{plain_mem}
use Rattle.sp_seq.specs.Moving.{scattered}
use Rattle.sp_seq.proofs.LoopLemmas.{MovesGo}
use Rattle.sp_seq.proofs.state.State.scatter.Given as goal

abbrev pub invariant-loop-k : goal.invariant-loop-k
invariant-loop-k l = MovesGo (scattered (map plain_mem l.decls) l.at l.sram l.dram l.places) (numbers_below l.words) l.initial.self l.self l.k
