use Rattle.std.proofs.Common.{◌-◌, ◌≤◌, map, length, take, drop, ◌∙◌, ap, arith}
use Rattle.std.proofs.lemmas.List.{length-map}
use Rattle.sp_core.specs.Around.{lanes_of}
use Rattle.sp_core.specs.Plain.{plain_counter}
use Rattle.sp_around_tables.proofs.Joining.{lanes_behind, first_and_rest, not_empty}
use Rattle.sp_around_tables.proofs.table.+lanes.Goals as goal

pub returns-else-is_empty : goal.returns-else-is_empty
returns-else-is_empty t c = λ x there.
    let behind = take (length c.args.counters.now - 1) (drop 1 c.args.counters.now) in
    let some : 1 ≤ length behind = not_empty (length behind) c.if-is_empty.ensures in
    let long = length-map behind plain_counter in
    ap (λ cs. lanes_of (map plain_counter cs)) (first_and_rest c.args.counters.now c.counter-item.result c.in-len1-up.len_at_least c.counter-item.is)
    ∙ lanes_behind (plain_counter c.counter-item.result) (map plain_counter behind) c.lanes.result (omega (arith, some, long)) c.lanes.ensures
