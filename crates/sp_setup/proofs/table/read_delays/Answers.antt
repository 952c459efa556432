use Rattle.sp_setup.proofs.TableLemmas.{delays-none}
use Rattle.sp_setup.proofs.table.read_delays.Goals as goal

pub returns-in-None-clause-ok : goal.returns-in-None-clause-ok
returns-in-None-clause-ok c = delays-none _ _ c.in-None.ensures c.new.ensures.items
