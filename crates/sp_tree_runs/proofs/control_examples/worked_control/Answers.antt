use Rattle.sp_machine.specs.Examples.{always, chosen, chosen_plan}
use Rattle.sp_tree_runs.proofs.ControlWorking.{control, lasts, does}
use Rattle.sp_tree_runs.proofs.control_examples.worked_control.Goals as goal

pub returns-clause-control : goal.returns-clause-control
returns-clause-control c = control

pub returns-clause-lasts : goal.returns-clause-lasts
returns-clause-lasts c = lasts

pub returns-clause-does : goal.returns-clause-does
returns-clause-does c = does (c.trees_do_their_runs.ensures chosen chosen_plan (always 0))
