use Rattle.std.proofs.Common.{◌-◌, ◌∷◌, map, length, take, drop, sym, subst}
use Rattle.sp_core.specs.Plain.{plain_counter}
use Rattle.sp_around_tables.specs.Inside.{HasEntries}
use Rattle.sp_around_tables.proofs.Joining.{one_inside, first_and_rest}
use Rattle.sp_around_tables.proofs.table.+set_counters.Goals as goal

pub returns : goal.returns
returns t c =
    let behind = take (length c.args.counters.now - 1) (drop 1 c.args.counters.now) in
    let others = take (length c.args.values.now - 1) (drop 1 c.args.values.now) in
    let set = c.in_ok-set_counter.ensures in
    let both = one_inside (plain_counter c.counter-item.result) (map plain_counter behind) c.value-item.result others c.args.masks.now c.args.table.now.items c.set_counter.new.table.items c.set_counters.new.table.items set.nets set.longer set.within c.in_ok-set_counters.ensures in
    subst (λ cs. HasEntries (map plain_counter cs) c.args.table.now.items c.args.values.now c.args.masks.now c.set_counters.new.table.items) (sym (first_and_rest c.args.counters.now c.counter-item.result c.in-len1-up.len_at_least c.counter-item.is))
    (subst (λ vs. HasEntries (map plain_counter (c.counter-item.result ∷ behind)) c.args.table.now.items vs c.args.masks.now c.set_counters.new.table.items) (sym (first_and_rest c.args.values.now c.value-item.result c.in-len1-up-values.len_at_least c.value-item.is)) both)
