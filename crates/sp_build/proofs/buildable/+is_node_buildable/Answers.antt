use Rattle.std.proofs.Common.{◌≡◌, ◌&&◌, not, map, ap, sym, ◌∙◌}
use Rattle.std.specs.List.{list_all}
use Rattle.sp_core.specs.CoreParts.{plain_core}
use Rattle.sp_core.specs.Declarations.{is_stream}
use Rattle.sp_core.specs.Plain.{plain_counter, plain_node, plain_stage_list}
use Rattle.sp_core.proofs.TreeLemmas.{plain_node-Outer}
use Rattle.sp_build.specs.Buildable.{has_early_bounds, is_node_buildable, are_buildable}
use Rattle.sp_build.proofs.buildable.+is_node_buildable.Goals as goal

pub loop-stage-init : goal.loop-stage-init
loop-stage-init t c =
    let core = plain_core c.args.core.now in
    let whole = ap (is_node_buildable core) (ap plain_node c.in-Outer.is ∙ plain_node-Outer c.in-Outer.counters c.in-Outer.style c.in-Outer.owned c.in-Outer.stages) in
    let stages = ap (λ xs. are_buildable core (plain_stage_list xs)) c.deref-stage-items.ensures.value in
    let counted = c.have_early_bounds-in-Outer.ensures ∙ ap (λ xs. list_all (has_early_bounds core) (map plain_counter xs)) c.deref-in-Outer.ensures.value in
    let begun = c.both-all.ensures ∙ ap (λ b. not b && c.have_early_bounds-in-Outer.result) c.is_stream.ensures ∙ ap (λ b. not (is_stream c.in-Outer.style) && b) counted in
    ap (λ b. b && are_buildable core (plain_stage_list c.deref-stage-items.result.now)) begun ∙ ap (λ b. (not (is_stream c.in-Outer.style) && list_all (has_early_bounds core) (map plain_counter c.in-Outer.counters.items)) && b) stages ∙ sym whole
