use Rattle.std.proofs.Common.{◌≤◌, List, [], ◌∷◌, length, sym, ◌∙◌, ap, subst, arith, length-append}
use Rattle.sp_op_nets.specs.declared.table.AroundNets.{AroundNets}
use Rattle.sp_op_nets.specs.Table.{nets_at}
use Rattle.sp_around_tables.proofs.Entries.{empty_behind, made_none}
use Rattle.sp_around_tables.proofs.table.lengthen.Goals as goal

pub loop-preserved : goal.loop-preserved
loop-preserved c =
    let i = c.loop.invariant in
    let more = length-append c.loop.table.items (c.no_nets.result ∷ []) in
    let items = c.in_ok-push.ensures.items in
    record {
      nets = λ n. ap (λ xs. nets_at xs n) items ∙ empty_behind c.loop.table.items c.no_nets.result (made_none c.no_nets.result c.no_nets.ensures.value c.no_nets.ensures.step c.no_nets.ensures.masks) n ∙ i.nets n;
      longer = subst (λ (xs : List AroundNets). length c.args.table.now.items ≤ length xs) (sym items) (let l = i.longer in omega (arith, l, more));
      many = ap length items ∙ (let m = i.many in omega (arith, m, more));
    }
