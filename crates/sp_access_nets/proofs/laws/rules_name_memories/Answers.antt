use Rattle.sp_access_nets.proofs.Telling.{named_by_rules}
use Rattle.sp_access_nets.proofs.laws.rules_name_memories.Goals as goal

pub returns : goal.returns
returns c = named_by_rules
