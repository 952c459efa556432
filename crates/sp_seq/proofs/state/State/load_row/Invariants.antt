use Rattle.std.proofs.Common.{map}
use Rattle.sp_tree.specs.Plain.{plain_mem}
use Rattle.sp_seq.specs.Slices.{plain_parts}
use Rattle.sp_seq.proofs.LineLemmas.{Fills}
use Rattle.sp_seq.proofs.state.State.load_row.Given as goal

abbrev pub invariant-loop-k : goal.invariant-loop-k
invariant-loop-k l = Fills (map plain_mem l.decls) l.line l.dram (plain_parts l.parts) l.fn.self l.self l.k
