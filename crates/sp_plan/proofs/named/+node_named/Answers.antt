use Rattle.std.proofs.Common.{◌+◌, ◌-◌, ◌++◌, [], map, get_or, refl, ap, sym, ◌∙◌, arith}
use Rattle.std.proofs.lemmas.List.{length-map}
use Rattle.sp_core.specs.CoreParts.{plain_core}
use Rattle.sp_core.specs.Numbering.{counters_size, number_count, number_count_in}
use Rattle.sp_core.specs.Plain.{plain_op, plain_counter, plain_node, plain_stage_list}
use Rattle.sp_plan.specs.Named.{list_names, counters_names, stages_names, names}
use Rattle.sp_plan.proofs.NamedAt.{in_left, in_right, list_length, two_length, counters_length, node_length, at_node, first_stage, later_stage, fewer}
use Rattle.sp_plan.proofs.Trees.{plain_outer}
use Rattle.sp_plan.proofs.named.+node_named.Goals as goal

pub returns-then-n-size : goal.returns-then-n-size
returns-then-n-size t c =
    let counters = map plain_counter c.in-Inner.counters.items in
    let size = c.counters_size-size.ensures ∙ ap (λ xs. counters_size (map plain_counter xs)) c.deref.ensures.value in
    at_node (plain_core c.args.core.now) _ _ c.args.n _ (ap plain_node c.in-Inner.is)
    (in_left (counters_names counters) (list_names (map plain_op c.in-Inner.ops.items)) c.args.n _ (omega (arith, size, counters_length counters, c.if-n-size.true))
    (c.counters_named.ensures ∙ ap (λ xs. get_or (counters_names (map plain_counter xs)) c.args.n []) c.deref-then-n-size.ensures.value))

pub returns-else-n-size : goal.returns-else-n-size
returns-else-n-size t c =
    let counters = map plain_counter c.in-Inner.counters.items in
    let size = c.counters_size-size.ensures ∙ ap (λ xs. counters_size (map plain_counter xs)) c.deref.ensures.value in
    at_node (plain_core c.args.core.now) _ _ c.args.n _ (ap plain_node c.in-Inner.is)
    (in_right (counters_names counters) (list_names (map plain_op c.in-Inner.ops.items)) c.args.n (c.args.n - c.counters_size-size.result) _ (omega (arith, size, counters_length counters, c.if-n-size.false)) (ap (λ k. c.args.n - k) (size ∙ sym (counters_length counters)))
    (c.op_named.ensures ∙ ap (λ xs. get_or (list_names (map plain_op xs)) (c.args.n - c.counters_size-size.result) []) c.deref-else-n-size.ensures.value))

pub returns-then-n-size-2 : goal.returns-then-n-size-2
returns-then-n-size-2 t c =
    let counters = map plain_counter c.in-Outer.counters.items in
    let is = ap plain_node c.in-Outer.is ∙ plain_outer c.in-Outer.counters c.in-Outer.style c.in-Outer.owned c.in-Outer.stages in
    let size = c.counters_size-size-in-Outer.ensures ∙ ap (λ xs. counters_size (map plain_counter xs)) c.deref-in-Outer.ensures.value in
    at_node (plain_core c.args.core.now) _ _ c.args.n _ is
    (in_left (counters_names counters) (stages_names (plain_core c.args.core.now) (plain_stage_list c.in-Outer.stages.items)) c.args.n _ (omega (arith, size, counters_length counters, c.if-n-size-2.true))
    (c.counters_named-then-n-size-2.ensures ∙ ap (λ xs. get_or (counters_names (map plain_counter xs)) c.args.n []) c.deref-then-n-size-2.ensures.value))

pub loop-stage-init : goal.loop-stage-init
loop-stage-init t c =
    let counters = map plain_counter c.in-Outer.counters.items in
    let is = ap plain_node c.in-Outer.is ∙ plain_outer c.in-Outer.counters c.in-Outer.style c.in-Outer.owned c.in-Outer.stages in
    let size = c.counters_size-size-in-Outer.ensures ∙ ap (λ xs. counters_size (map plain_counter xs)) c.deref-in-Outer.ensures.value in
    let whole = ap number_count is in
    let items = ap (λ xs. number_count_in (plain_stage_list xs)) c.deref-stage-items.ensures.value in (
      at_node (plain_core c.args.core.now) _ _ c.args.n _ is
          (in_right (counters_names counters) (stages_names (plain_core c.args.core.now) (plain_stage_list c.in-Outer.stages.items)) c.args.n (c.args.n - c.counters_size-size-in-Outer.result) _ (omega (arith, size, counters_length counters, c.if-n-size-2.false)) (ap (λ k. c.args.n - k) (size ∙ sym (counters_length counters)))
          (ap (λ xs. get_or (stages_names (plain_core c.args.core.now) (plain_stage_list xs)) (c.args.n - c.counters_size-size-in-Outer.result) []) c.deref-stage-items.ensures.value)),
      omega (arith, whole, items),
    )

pub returns-then-left-count : goal.returns-then-left-count
returns-then-left-count t c =
    first_stage (plain_core c.args.core.now) c.deref-stage-items.result.now c.loop-stage.stage-index c.loop-stage.left c.stage-item.result c.stage-item.result c.loop-stage-test.true c.stage-item.is _ (let count = c.count_numbers-count.ensures in omega (arith, c.if-left-count.true)) c.node_named.ensures
    ∙ c.loop-stage.invariant.0

pub loop-stage-preserved : goal.loop-stage-preserved
loop-stage-preserved t c = (
  later_stage (plain_core c.args.core.now) c.deref-stage-items.result.now c.loop-stage.stage-index c.loop-stage.left c.stage-item.result c.stage-item.result c.loop-stage-test.true c.stage-item.is (c.loop-stage.left - c.count_numbers-count.result) _ (let count = c.count_numbers-count.ensures in omega (arith, c.if-left-count.false)) (ap (λ k. c.loop-stage.left - k) c.count_numbers-count.ensures) refl
      ∙ c.loop-stage.invariant.0,
  (fewer (plain_core c.args.core.now) c.deref-stage-items.result.now c.loop-stage.stage-index c.loop-stage.left c.stage-item.result c.stage-item.result c.loop-stage-test.true c.stage-item.is c.loop-stage.invariant.1).1,
)

pub returns-then-left-count-2 : goal.returns-then-left-count-2
returns-then-left-count-2 t c =
    let start = map plain_op c.in-Fsm.start.items in
    let test = map plain_op c.in-Fsm.test.items in
    let body = plain_node c.in-Fsm.body.value in
    let before = two_length start test in let a = length-map c.in-Fsm.start.items plain_op in let b = length-map c.in-Fsm.test.items plain_op in
    let here = c.len.ensures in let there = c.len-in-Fsm.ensures in
    let count = c.count_numbers-count-in-Fsm.ensures ∙ ap (λ x. number_count (plain_node x)) c.deref-in-Fsm.ensures in
    let left = c.args.n - (c.len.result + c.len-in-Fsm.result) in
    at_node (plain_core c.args.core.now) _ _ c.args.n _ (ap plain_node c.in-Fsm.is)
    (in_right (list_names start ++ list_names test) (names (plain_core c.args.core.now) body ++ list_names (map plain_op c.in-Fsm.next.items)) c.args.n left _ (omega (arith, c.if-n-before.false)) (omega arith)
    (in_left (names (plain_core c.args.core.now) body) (list_names (map plain_op c.in-Fsm.next.items)) left _ (omega (arith, count, node_length (plain_core c.args.core.now) body, c.if-left-count-2.true))
    (c.node_named-then-left-count-2.ensures ∙ ap (λ x. get_or (names (plain_core c.args.core.now) (plain_node x)) left []) c.deref-then-left-count-2.ensures)))

pub returns-else-left-count-2 : goal.returns-else-left-count-2
returns-else-left-count-2 t c =
    let start = map plain_op c.in-Fsm.start.items in
    let test = map plain_op c.in-Fsm.test.items in
    let body = plain_node c.in-Fsm.body.value in
    let before = two_length start test in let a = length-map c.in-Fsm.start.items plain_op in let b = length-map c.in-Fsm.test.items plain_op in
    let here = c.len.ensures in let there = c.len-in-Fsm.ensures in
    let count = c.count_numbers-count-in-Fsm.ensures ∙ ap (λ x. number_count (plain_node x)) c.deref-in-Fsm.ensures in
    let all = node_length (plain_core c.args.core.now) body in
    let left = c.args.n - (c.len.result + c.len-in-Fsm.result) in
    at_node (plain_core c.args.core.now) _ _ c.args.n _ (ap plain_node c.in-Fsm.is)
    (in_right (list_names start ++ list_names test) (names (plain_core c.args.core.now) body ++ list_names (map plain_op c.in-Fsm.next.items)) c.args.n left _ (omega (arith, c.if-n-before.false)) (omega arith)
    (in_right (names (plain_core c.args.core.now) body) (list_names (map plain_op c.in-Fsm.next.items)) left (left - c.count_numbers-count-in-Fsm.result) _ (omega (arith, c.if-left-count-2.false)) (ap (λ k. left - k) (count ∙ sym all))
    (c.op_named-else-left-count-2.ensures ∙ ap (λ xs. get_or (list_names (map plain_op xs)) (left - c.count_numbers-count-in-Fsm.result) []) c.deref-else-left-count-2.ensures.value)))

pub returns-then-left-count-3 : goal.returns-then-left-count-3
returns-then-left-count-3 t c =
    let test = map plain_op c.in-Branch.test.items in
    let yes = plain_node c.in-Branch.yes.value in
    let no = plain_node c.in-Branch.no.value in
    let before = list_length test in let a = length-map c.in-Branch.test.items plain_op in
    let here = c.len-in-Branch.ensures in let there = c.len-in-Branch-2.ensures in
    let count = c.count_numbers-count-in-Branch.ensures ∙ ap (λ x. number_count (plain_node x)) c.deref-in-Branch.ensures in
    let left = c.args.n - c.len-in-Branch-2.result in
    at_node (plain_core c.args.core.now) _ _ c.args.n _ (ap plain_node c.in-Branch.is)
    (in_right (list_names test) (names (plain_core c.args.core.now) yes ++ names (plain_core c.args.core.now) no) c.args.n left _ (omega (arith, c.if-n-len.false)) (omega arith)
    (in_left (names (plain_core c.args.core.now) yes) (names (plain_core c.args.core.now) no) left _ (omega (arith, count, node_length (plain_core c.args.core.now) yes, c.if-left-count-3.true))
    (c.node_named-then-left-count-3.ensures ∙ ap (λ x. get_or (names (plain_core c.args.core.now) (plain_node x)) left []) c.deref-then-left-count-3.ensures)))

pub returns-else-left-count-3 : goal.returns-else-left-count-3
returns-else-left-count-3 t c =
    let test = map plain_op c.in-Branch.test.items in
    let yes = plain_node c.in-Branch.yes.value in
    let no = plain_node c.in-Branch.no.value in
    let before = list_length test in let a = length-map c.in-Branch.test.items plain_op in
    let here = c.len-in-Branch.ensures in let there = c.len-in-Branch-2.ensures in
    let count = c.count_numbers-count-in-Branch.ensures ∙ ap (λ x. number_count (plain_node x)) c.deref-in-Branch.ensures in
    let all = node_length (plain_core c.args.core.now) yes in
    let left = c.args.n - c.len-in-Branch-2.result in
    at_node (plain_core c.args.core.now) _ _ c.args.n _ (ap plain_node c.in-Branch.is)
    (in_right (list_names test) (names (plain_core c.args.core.now) yes ++ names (plain_core c.args.core.now) no) c.args.n left _ (omega (arith, c.if-n-len.false)) (omega arith)
    (in_right (names (plain_core c.args.core.now) yes) (names (plain_core c.args.core.now) no) left (left - c.count_numbers-count-in-Branch.result) _ (omega (arith, c.if-left-count-3.false)) (ap (λ k. left - k) (count ∙ sym all))
    (c.node_named-else-left-count-3.ensures ∙ ap (λ x. get_or (names (plain_core c.args.core.now) (plain_node x)) (left - c.count_numbers-count-in-Branch.result) []) c.deref-else-left-count-3.ensures)))
