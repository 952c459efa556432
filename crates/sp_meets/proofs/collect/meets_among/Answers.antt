use Rattle.std.proofs.Common.{map}
use Rattle.sp_meets.specs.Plain.{plain_site}
use Rattle.sp_meets.proofs.Collected.{from_none}
use Rattle.sp_meets.proofs.collect.meets_among.Goals as goal

pub returns : goal.returns
returns c =
    let xs = map plain_site c.args.sites.now in
    from_none c.args.chip xs xs c.new-pairs.result.items c.add_meets.new.meets.items c.new-pairs.ensures.items c.in_ok-add_meets.ensures
