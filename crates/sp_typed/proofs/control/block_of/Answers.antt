use Rattle.sp_typed.proofs.TreeLemmas.{plain_block}
use Rattle.sp_typed.proofs.control.block_of.Goals as goal

pub returns : goal.returns
returns c = plain_block c.args.style c.args.body
