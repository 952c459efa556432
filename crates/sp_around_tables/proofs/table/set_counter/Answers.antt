use Rattle.std.proofs.Common.{◌≡◌, ◌∙◌, ap, map, arith}
use Rattle.sp_core.specs.Plain.{plain_counter}
use Rattle.sp_op_nets.specs.Table.{nets_at}
use Rattle.sp_node_runs.specs.BodiesGiven.{CounterNets}
use Rattle.sp_around_tables.specs.Inside.{entry_of}
use Rattle.sp_around_tables.proofs.Entries.{set_at, changed_same}
use Rattle.sp_around_tables.proofs.table.set_counter.Goals as goal

pub returns-clause-nets : goal.returns-clause-nets
returns-clause-nets c = λ n.
    let long = c.lengthen.new.table.items in
    let id = c.args.counter.now.id in
    let lanes : c.in_ok-masks.masks.items ≡ c.args.masks.now = c.in_ok-masks.ensures.items_if_clones_equal (λ x y e. e) in
    let entry : CounterNets = record { value = c.args.value; step = c.step_of-step.result; masks = c.in_ok-masks.masks.items } in
    let made : entry ≡ entry_of (plain_counter c.args.counter.now) (map plain_counter c.args.behind.now) c.args.value c.args.masks.now =
    ap (λ ms. record { value = c.args.value; step = c.step_of-step.result; masks = ms }) lanes ∙ ap (λ k. record { value = c.args.value; step = k; masks = c.args.masks.now }) c.step_of-step.ensures in
    set_at long id (record { value = c.args.value; step = c.step_of-step.result; masks = c.in_ok-masks.masks }) (let l = c.in_ok-lengthen.ensures.within in omega (arith, l)) n
    ∙ changed_same (nets_at long) (nets_at c.args.table.now.items) id entry (entry_of (plain_counter c.args.counter.now) (map plain_counter c.args.behind.now) c.args.value c.args.masks.now) n (c.in_ok-lengthen.ensures.nets n) made
