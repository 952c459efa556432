use Rattle.std.proofs.Common.{◌≡◌, ◌++◌, ◌-◌, ◌∷◌, [], map, take, drop, length, arith, sym, ap, ◌∙◌}
use Rattle.std.proofs.lemmas.Grind.{common_steps}
use Rattle.sp_core.specs.Plain.{plain_counter}
use Rattle.sp_lanes.specs.Within.{with_lane}
use Rattle.sp_unroll.specs.Entries.{lane_in}
use Rattle.sp_unroll.proofs.EntryLemmas.{lane_more, one_lane, more_lanes}
use Rattle.sp_unroll.proofs.within.+push_lanes.Goals as goal

pub returns-then-is_empty : goal.returns-then-is_empty
returns-then-is_empty t c =
    let cs = c.args.counters.now in
    let lanes = c.args.lanes.now.items in
    let id = c.counter-item.result.id in
    let e : c.push.new.self.items ≡ lanes ++ record { key = id; value = c.args.lane } ∷ [] = grind (arith, common_steps) in
    ap lane_in e ∙ lane_more lanes id c.args.lane ∙ sym (one_lane cs c.counter-item.result c.args.lane (lane_in lanes) c.in-len1-up.len_at_least c.counter-item.is (sym c.is_empty.ensures ∙ c.if-is_empty.true))

pub returns : goal.returns
returns t c =
    let cs = c.args.counters.now in
    let lanes = c.args.lanes.now.items in
    let id = c.counter-item.result.id in
    let e : c.push-2.new.self.items ≡ lanes ++ record { key = id; value = 0 } ∷ [] = grind (arith, common_steps) in
    c.in_ok-push_lanes.ensures
    ∙ ap (with_lane (map plain_counter (take (length cs - 1) (drop 1 cs))) c.args.lane) (ap lane_in e ∙ lane_more lanes id 0)
    ∙ more_lanes cs c.counter-item.result c.args.lane (lane_in lanes) c.in-len1-up.len_at_least c.counter-item.is (sym c.is_empty.ensures ∙ c.if-is_empty.false)
