use Rattle.sp_graph.proofs.Cycles.{equal_numbers_join, numbers_tell_cycles}
use Rattle.sp_graph.proofs.connected.numbers_tell_components.Goals as goal

pub returns-clause-joined : goal.returns-clause-joined
returns-clause-joined c = equal_numbers_join

pub returns-clause-cycles : goal.returns-clause-cycles
returns-clause-cycles c = numbers_tell_cycles
