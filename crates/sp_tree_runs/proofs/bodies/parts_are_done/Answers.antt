use Rattle.sp_tree_runs.proofs.BodiesScoping.{scoped_parts, done_so}
use Rattle.sp_tree_runs.proofs.bodies.parts_are_done.Goals as goal

pub returns-clause-parts : goal.returns-clause-parts
returns-clause-parts c = scoped_parts

pub returns-clause-bodies : goal.returns-clause-bodies
returns-clause-bodies c core plan delays = done_so core plan delays
