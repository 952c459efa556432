use Rattle.sp_transfer_trees.proofs.Agreeing.{transfers_agree}
use Rattle.sp_transfer_trees.proofs.laws.transfers_agree.Goals as goal

pub returns : goal.returns
returns c core plan delays whole = transfers_agree core plan delays (c.agreeing_laws.ensures core plan delays) whole
