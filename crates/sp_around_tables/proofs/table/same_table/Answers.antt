use Rattle.std.proofs.Common.{◌≡◌, suc, ◌+◌, [], ◌∷◌, length, take, sym, ◌∙◌, ap, arith, length-append}
use Rattle.sp_op_nets.specs.Table.{nets_at}
use Rattle.sp_around_tables.proofs.Entries.{same_behind, made_same}
use Rattle.sp_around_tables.proofs.table.same_table.Goals as goal

pub loop-index-preserved : goal.loop-index-preserved
loop-index-preserved c =
    let i = c.loop-index.invariant in
    let made = c.in_ok-same_nets in
    let items = c.in_ok-push.ensures.items in
    let more = length-append c.loop-index.table.items (made.field-0 ∷ []) in
    let next : c.loop-index.index + 1 ≡ suc c.loop-index.index = omega arith in
    record {
      nets = λ n. ap (λ xs. nets_at xs n) items
          ∙ same_behind c.loop-index.table.items c.args.around.now made.field-0 c.index-around-index.result c.loop-index.index i.many c.loop-index-test.true c.index-around-index.is (made_same made.field-0 c.index-around-index.result made.ensures.value made.ensures.step made.ensures.masks) i.nets n
          ∙ sym (ap (λ k. nets_at (take k c.args.around.now) n) next);
      many = ap length items ∙ (let m = i.many in omega (arith, m, more));
    }
