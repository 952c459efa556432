use Rattle.std.proofs.Common.{sym, ◌∙◌, ap, arith, map, ◌++◌, ◌+◌, drop, ◌∷◌}
use Rattle.std.proofs.lemmas.List.{drop_more}
use Rattle.sp_core.specs.Around.{within}
use Rattle.sp_core.specs.Invariant.{is_right_here, wrong_node, wrong_stage}
use Rattle.sp_core.specs.Numbering.{node_count, node_count_in}
use Rattle.sp_core.specs.PartsPlain.{core_of, around_of}
use Rattle.sp_core.specs.Plain.{plain_counter, plain_node, plain_stage_list}
use Rattle.sp_core.proofs.TreeLemmas.{outer_count, outer_wrong, same_stages, stage_passed, none_left}
use Rattle.sp_core.proofs.shown.+wrong_node.Goals as goal

pub loop-stage-init : goal.loop-stage-init
loop-stage-init t c =
    let h = ap (λ n. is_right_here (core_of c.args.parts.now) (around_of c.args.around.now) c.args.earlier.now (plain_node n)) (sym c.in-Outer.is) ∙ sym c.in_ok-is_right_here.ensures ∙ c.if-not-branch.false in
    let w = ap (λ n. wrong_node (core_of c.args.parts.now) (around_of c.args.around.now) c.args.earlier.now c.args.number (plain_node n)) c.in-Outer.is
    ∙ outer_wrong (core_of c.args.parts.now) (around_of c.args.around.now) c.args.earlier.now c.args.number c.in-Outer.counters c.in-Outer.style c.in-Outer.owned c.in-Outer.stages h in
    let i = c.in_ok-inside-in-Outer.ensures
    ∙ ap (λ xs. within (around_of c.args.around.now) (map plain_counter xs) c.deref-in-Outer.result.now) c.deref.ensures.value
    ∙ ap (λ xs. within (around_of c.args.around.now) (map plain_counter c.in-Outer.counters.items) xs) c.deref-in-Outer.ensures.value in
    let b = c.in_ok-before-in-Outer.ensures ∙ ap (λ xs. c.args.earlier.now ++ xs) c.deref-in-Outer-2.ensures.value in
    let n = ap (λ n. node_count (plain_node n)) c.in-Outer.is ∙ outer_count c.in-Outer.counters c.in-Outer.style c.in-Outer.owned c.in-Outer.stages in
    let d = ap (λ xs. node_count_in (plain_stage_list xs)) c.deref-stage-items.ensures.value in (
      omega (arith, c.requires, n, d),
      same_stages (core_of c.args.parts.now) (c.args.number + 1) _ _ _ _ _ _ i b c.deref-stage-items.ensures.value ∙ sym w,
    )

pub loop-stage-preserved : goal.loop-stage-preserved
loop-stage-preserved t c =
    let s = drop_more c.deref-stage-items.result.now c.loop-stage.stage-index c.stage-item.result c.loop-stage-test.true
    ∙ ap (λ x. x ∷ drop (c.loop-stage.stage-index + 1) c.deref-stage-items.result.now) (sym c.stage-item.is) in
    let k = ap (λ xs. node_count_in (plain_stage_list xs)) s in
    let f = sym (c.in_ok-found-in-Outer.ensures.node ∙ ap (λ xs. wrong_node (core_of c.args.parts.now) (around_of c.in_ok-inside-in-Outer.inside) xs c.loop-stage.next (plain_node c.stage-item.result.node)) c.deref-in-loop-stage.ensures.value)
    ∙ none_left c.in_ok-found-in-Outer.found (sym c.is_some.ensures ∙ c.if-is_some.false) in (
      omega (arith, c.loop-stage.invariant.0, k, c.count_nodes.ensures),
      stage_passed (core_of c.args.parts.now) (around_of c.in_ok-inside-in-Outer.inside) c.loop-stage.before.items c.collect_owned.new.into.items c.loop-stage.next (c.loop-stage.next + c.count_nodes.result) c.stage-item.result (drop (c.loop-stage.stage-index + 1) c.deref-stage-items.result.now) f c.in_ok-collect_owned-in-Outer.ensures (omega (arith, c.loop-stage.invariant.0, k, c.count_nodes.ensures))
          ∙ ap (λ xs. wrong_stage (core_of c.args.parts.now) (around_of c.in_ok-inside-in-Outer.inside) c.loop-stage.before.items c.loop-stage.next (plain_stage_list xs)) (sym s)
          ∙ c.loop-stage.invariant.1,
    )
