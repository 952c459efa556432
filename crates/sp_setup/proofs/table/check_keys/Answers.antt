use Rattle.sp_setup.specs.Section.{allowed}
use Rattle.sp_setup.proofs.TableLemmas.{first_key-nothing}
use Rattle.sp_setup.proofs.table.check_keys.Goals as goal

pub returns-in-None-clause-ok : goal.returns-in-None-clause-ok
returns-in-None-clause-ok c = rw (c.in-None.is, first_key-nothing (allowed c.args.section))
