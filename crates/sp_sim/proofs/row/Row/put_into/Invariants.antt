use Rattle.std.proofs.Common.{◌≡◌, map, take}
use Rattle.sp_sim.specs.Rows.{word_of}
use Rattle.sp_sim.proofs.row.Row.put_into.Given as goal

abbrev pub invariant-loop-net : goal.invariant-loop-net
invariant-loop-net l = l.words.items ≡ map (word_of l.self) (take l.net-index l.nets)
