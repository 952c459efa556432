use Rattle.std.proofs.Common.{refl, ◌∙◌, arith}
use Rattle.sp_access_nets.specs.Accesses.{copy_in}
use Rattle.sp_access_nets.proofs.Adding.{is_first, no_ops, passed_adds, no_nets_add, acted_adds, on_ok}
use Rattle.sp_access_nets.proofs.splitting.+add_accesses.Goals as goal

pub returns-in_default : goal.returns-in_default
returns-in_default t c = no_ops (copy_in c.args.copies.now) c.args.number c.args.ops.now c.args.placed.now c.args.nets.now c.args.accesses.now.items (let l = c.in_default.len_below in omega (arith, l))

pub returns-in_default-mem : goal.returns-in_default-mem
returns-in_default-mem t c =
    let ops_are = is_first c.args.ops.now c.op-item.result c.in-len1-up.len_at_least c.op-item.is in
    let ps_are = is_first c.args.placed.now c.first-item.result c.in-len1-up-placed.len_at_least c.first-item.is in
    on_ok c.add_accesses.result
    (passed_adds (copy_in c.args.copies.now) c.args.number c.args.ops.now c.args.placed.now c.op-item.result c.first-item.result ops_are ps_are c.in_default-mem.is c.args.nets.now c.args.accesses.now.items c.add_accesses.new.accesses.items)
    c.add_accesses.ensures

pub returns : goal.returns
returns t c =
    let ops_are = is_first c.args.ops.now c.op-item.result c.in-len1-up.len_at_least c.op-item.is in
    let ps_are = is_first c.args.placed.now c.first-item.result c.in-len1-up-placed.len_at_least c.first-item.is in
    let nets_are = is_first c.args.nets.now c.enable-item.result c.in-len1-up-nets.len_at_least c.enable-item.is in
    on_ok c.add_accesses-2.result
    (λ r. acted_adds (copy_in c.args.copies.now) c.args.number c.args.ops.now c.args.placed.now c.op-item.result c.first-item.result ops_are ps_are c.in-Some.mem c.in-Some.is c.args.nets.now c.enable-item.result nets_are
    (record { number = c.args.number; kind = c.op-item.result.kind; mem = c.in-Some.mem; enable = c.enable-item.result; operands = c.in_ok-from_slice.field-0; copy = c.copy_net.result; answer = c.answer_net.result })
    c.args.accesses.now.items c.add_accesses-2.new.accesses.items
    (record { first = refl; kind = refl; mem = c.in-Some.is; copied = c.copy_net.ensures; answered = c.answer_net.ensures })
    refl
    c.len.result
    (c.len.ensures ∙ c.first-item.result.args.ok.0)
    (c.in_ok-from_slice.ensures.items ∙ c.split_within.ensures.front)
    _
    _
    c.split_within.ensures.back
    c.in_ok-push.ensures.items
    r)
    c.add_accesses-2.ensures

pub returns-in_default-nets : goal.returns-in_default-nets
returns-in_default-nets t c =
    let ops_are = is_first c.args.ops.now c.op-item.result c.in-len1-up.len_at_least c.op-item.is in
    let ps_are = is_first c.args.placed.now c.first-item.result c.in-len1-up-placed.len_at_least c.first-item.is in
    no_nets_add (copy_in c.args.copies.now) c.args.number c.args.ops.now c.args.placed.now c.op-item.result c.first-item.result ops_are ps_are c.in-Some.mem c.in-Some.is c.args.nets.now c.args.accesses.now.items
    (let l = c.in_default-nets.len_below in omega (arith, l))
