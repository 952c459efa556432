use Rattle.std.proofs.Common.{map}
use Rattle.sp_tree.specs.Elements.{numbers_below}
use Rattle.sp_tree.specs.Plain.{plain_mem}
use Rattle.sp_seq.specs.Looping.{one_combined}
use Rattle.sp_seq.proofs.LoopLemmas.{MovesGo}
use Rattle.sp_seq.proofs.state.State.combine_all.Given as goal

abbrev pub invariant-loop-cell : goal.invariant-loop-cell
invariant-loop-cell l = MovesGo (one_combined (map plain_mem l.decls) l.into.comb l.into.acc l.part l.combines l.into.at) (numbers_below l.words) l.initial.self l.self l.cell
