use Rattle.std.proofs.Common.{ap, ◌∙◌}
use Rattle.sp_unroll.specs.Entries.{lane_in, number_in}
use Rattle.sp_unroll.proofs.EntryLemmas.{no_lanes, no_names}
use Rattle.sp_unroll.proofs.within.outside.Goals as goal

pub returns : goal.returns
returns c = λ order.
    let lanes = ap lane_in c.new.ensures.items ∙ no_lanes in
    let names = ap (number_in order) c.new-2.ensures.items ∙ no_names order in
    λ i. record { lane = lanes i; number = names i; copy = 0 }
