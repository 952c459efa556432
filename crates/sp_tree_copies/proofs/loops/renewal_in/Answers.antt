use Rattle.std.proofs.Common.{sym, subst}
use Rattle.sp_mem.specs.Fits.{CopyFits}
use Rattle.sp_tree_copies.proofs.Tables.{own_fits}
use Rattle.sp_tree_copies.proofs.loops.renewal_in.Goals as goal

pub returns-clause-copy : goal.returns-clause-copy
returns-clause-copy c d h = subst (CopyFits d) (sym c.own_net-copy.ensures) (own_fits d c.args.owned.now c.coming_nets-nets.result.now c.args.mem (c.coming_nets-nets.ensures.stand d h))
