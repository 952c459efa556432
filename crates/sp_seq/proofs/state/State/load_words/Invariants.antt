use Rattle.std.proofs.Common.{map}
use Rattle.sp_tree.specs.Plain.{plain_mem}
use Rattle.sp_tree.specs.Transfers.{all_offsets}
use Rattle.sp_seq.specs.Slices.{plain_parts, loaded}
use Rattle.sp_seq.proofs.LoopLemmas.{MovesGo}
use Rattle.sp_seq.proofs.state.State.load_words.Given as goal

abbrev pub invariant-loop-k : goal.invariant-loop-k
invariant-loop-k l = MovesGo (loaded (map plain_mem l.decls) 0 l.sram l.dram (plain_parts l.parts)) (all_offsets (plain_parts l.parts)) l.fn.self l.self l.k
