use Rattle.std.proofs.Common.{rules, tests}
use Rattle.std.proofs.lemmas.Iterator.{YieldsList-from_slice}
use Rattle.std.proofs.lemmas.Iterator.Consumers.{map_from_collect, YieldsList-from_filter}
use Rattle.sp_access_nets.specs.Picking.{is_to}
use Rattle.sp_access_nets.proofs.picking.accesses_to.Goals as goal

pub returns : goal.returns
returns c =
    map_from_collect _ c.collect.ensures.ran
    (YieldsList-from_filter _ (is_to c.args.mem c.args.kind) (YieldsList-from_slice c.args.accesses.now cc) c.filter.ensures.closure (λ x r q k. search (rules, tests)))
