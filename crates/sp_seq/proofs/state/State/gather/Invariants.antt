use Rattle.std.proofs.Common.{map}
use Rattle.sp_tree.specs.Elements.{numbers_below}
use Rattle.sp_tree.specs.Plain.{plain_mem}
use Rattle.sp_seq.specs.Moving.{gathered}
use Rattle.sp_seq.proofs.LoopLemmas.{MovesGo}
use Rattle.sp_seq.proofs.state.State.gather.Given as goal

abbrev pub invariant-loop-k : goal.invariant-loop-k
invariant-loop-k l = MovesGo (gathered (map plain_mem l.decls) l.at l.sram l.dram l.places) (numbers_below l.words) l.initial.self l.self l.k
