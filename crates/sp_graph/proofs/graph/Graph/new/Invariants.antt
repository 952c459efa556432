use Rattle.std.proofs.Common.{◌≡◌, [], map, replicate}
use Rattle.sp_graph.proofs.graph.Graph.new.Given as goal

abbrev pub invariant-loop : goal.invariant-loop
invariant-loop l = map (λ v. v.items) l.targets.items ≡ replicate l.counter []
