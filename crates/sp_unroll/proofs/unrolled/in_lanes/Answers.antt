use Rattle.std.proofs.Common.{◌≡◌, ℕ, List, map, get_or, ap, ◌∙◌}
use Rattle.sp_core.specs.CoreParts.{plain_core}
use Rattle.sp_core.specs.Plain.{plain_mem, plain_node}
use Rattle.sp_core.specs.PlainCore.{PlainMem, PlainCore, no_mem}
use Rattle.sp_lanes.specs.Order.{memory_order}
use Rattle.sp_lanes.specs.Unrolled.{node_in, unrolled}
use Rattle.sp_lanes.specs.Within.{Within, outside}
use Rattle.sp_unroll.specs.Entries.{within_of}
use Rattle.sp_unroll.proofs.unrolled.in_lanes.Goals as goal

pub returns : goal.returns
unfolding unrolled
returns c =
    let core : PlainCore = plain_core c.args.core.now in
    let all = c.mems-all.result.now in
    let tree = c.root-tree.result.now in
    let around = c.outside-around.result in
    let same : map plain_mem all ≡ core.mems = c.mems-all.ensures.mems in
    let numbers : c.in_ok-order.order.items ≡ memory_order core =
    c.in_ok-order.ensures c.args.core.now.ports ∙ (λ i. memory_order (record { mems = same i; ports = c.args.core.now.ports; root = plain_node (c.root-tree.ensures.root i) })) in
    let mems : map plain_mem c.in_ok-mems.mems.items ≡ map (λ m. get_or core.mems m no_mem) (memory_order core) =
    c.in_ok-mems.ensures
    ∙ ap (λ (xs : List ℕ). map (λ m. get_or (map plain_mem all) m no_mem) xs) (c.deref-2.ensures.value ∙ numbers)
    ∙ ap (λ (ms : List PlainMem). map (λ m. get_or ms m no_mem) (memory_order core)) same in
    let root : plain_node c.in_ok-root.root ≡ node_in (memory_order core) (outside (memory_order core)) core.root =
    c.in_ok-root.ensures
    ∙ ap (λ (xs : List ℕ). node_in xs (within_of xs around) (plain_node tree)) (c.deref.ensures.value ∙ numbers)
    ∙ ap (λ (w : Within). node_in (memory_order core) w (plain_node tree)) (c.outside-around.ensures (memory_order core))
    ∙ ap (λ n. node_in (memory_order core) (outside (memory_order core)) (plain_node n)) c.root-tree.ensures.root in
    record { lanes = λ i. record { mems = mems i; ports = core.ports; root = root i } }
