use Rattle.sp_typed.proofs.TreeLemmas.{plain_branch}
use Rattle.sp_typed.proofs.control.branch_of.Goals as goal

pub returns : goal.returns
returns c = plain_branch c.args.test c.args.yes c.args.no
