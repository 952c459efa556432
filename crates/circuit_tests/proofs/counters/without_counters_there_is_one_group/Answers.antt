use Rattle.std.proofs.lemmas.List.Elements.{All-nil}
use Rattle.circuit_tests.proofs.counters.without_counters_there_is_one_group.Goals as goal

pub emit-requires : goal.emit-requires
emit-requires b c = record {
  start = c.in_ok-start.ensures.one.net_stands;
  step = c.in_ok-start.ensures.one.net_stands;
  counts = rw c.new-counters.ensures.items (All-nil _);
}
