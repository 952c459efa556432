use Rattle.std.proofs.Common.{sym, ◌∙◌, ap, subst, map, ◌≡◌, ◌&&◌, Bool}
use Rattle.std.specs.Prelude.{IfOk}
use Rattle.sp_core.specs.Around.{lanes_of}
use Rattle.sp_core.specs.NodeRules.{are_counters_right, are_lanes_right, is_node_right}
use Rattle.sp_core.specs.PartsPlain.{core_of, around_of}
use Rattle.sp_core.specs.Plain.{plain_counter, plain_node, plain_stage_list}
use Rattle.sp_core.proofs.TreeLemmas.{outer_is_right}
use Rattle.sp_core.proofs.shown.is_node_right.Goals as goal

pub returns-in-Outer : goal.returns-in-Outer
returns-in-Outer c =
    let e = ap (λ n. is_node_right (core_of c.args.parts.now) (around_of c.args.around.now) (plain_node n)) c.in-Outer.is ∙ outer_is_right (core_of c.args.parts.now) (around_of c.args.around.now) c.in-Outer.counters c.in-Outer.style c.in-Outer.owned c.in-Outer.stages in
    let d = ap (λ xs. are_counters_right (core_of c.args.parts.now) (around_of c.args.around.now) (map plain_counter xs) && are_lanes_right (lanes_of (map plain_counter xs)) (plain_stage_list c.deref-in-Outer-2.result.now)) c.deref-in-Outer.ensures.value
    ∙ ap (λ xs. are_counters_right (core_of c.args.parts.now) (around_of c.args.around.now) (map plain_counter c.in-Outer.counters.items) && are_lanes_right (lanes_of (map plain_counter c.in-Outer.counters.items)) (plain_stage_list xs)) c.deref-in-Outer-2.ensures.value in
    let P : Bool → Type 0 = λ v. IfOk c.is_outer_right.result (λ right. right ≡ v) in
    subst P (d ∙ sym e) c.is_outer_right.ensures
