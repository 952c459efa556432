use Rattle.std.proofs.Common.{◌≡◌, ℕ, List, map, get_or, ap, ◌∙◌}
use Rattle.sp_core.specs.CoreParts.{plain_core}
use Rattle.sp_core.specs.Plain.{plain_mem, plain_node}
use Rattle.sp_core.specs.PlainCore.{PlainMem, PlainCore, no_mem}
use Rattle.sp_lanes.specs.Order.{memory_order}
use Rattle.sp_lanes.specs.Unrolled.{unrolled}
use Rattle.sp_unroll.proofs.memories.memories_in_lanes.Goals as goal

pub returns : goal.returns
unfolding unrolled
returns c =
    let core : PlainCore = plain_core c.args.core.now in
    let all = c.mems-all.result.now in
    let same : map plain_mem all ≡ c.args.core.now.mems = c.mems-all.ensures.mems in
    let numbers : c.in_ok-order.order.items ≡ memory_order core =
    c.in_ok-order.ensures c.args.core.now.ports ∙ (λ i. memory_order (record { mems = same i; ports = c.args.core.now.ports; root = plain_node (c.root.ensures.root i) })) in
    record {
      lanes = c.in_ok-mems.ensures
          ∙ ap (λ (xs : List ℕ). map (λ m. get_or (map plain_mem all) m no_mem) xs) (c.deref.ensures.value ∙ numbers)
          ∙ ap (λ (ms : List PlainMem). map (λ m. get_or ms m no_mem) (memory_order core)) same;
    }
