use Rattle.std.proofs.Common.{◌++◌, ◌+◌, map, ap, ◌∙◌}
use Rattle.sp_core.specs.CoreParts.{plain_core}
use Rattle.sp_core.specs.Numbering.{counters_size}
use Rattle.sp_core.specs.Plain.{plain_counter, plain_node, plain_stage_list}
use Rattle.sp_patterns.specs.Ranges.{places_in}
use Rattle.sp_meets.specs.Around.{outer_level, changed_in}
use Rattle.sp_meets.specs.Plain.{plain_level, plain_path, plain_spots}
use Rattle.sp_meets.specs.Spots.{bounds_spots}
use Rattle.sp_meets.proofs.Trees.{plain_outer}
use Rattle.sp_meets.proofs.WalkLemmas.{outer_number, outer_spots}
use Rattle.sp_meets.proofs.walk.+add_node.Goals as goal

pub loop-stage-init : goal.loop-stage-init
loop-stage-init t c =
    let core = plain_core c.args.core.now in
    let path = plain_path c.args.path.now in
    let node = plain_node c.args.node.now in
    let counters = map plain_counter c.in-Outer.counters.items in
    let owned = c.in-Outer.owned.items in
    let is = ap plain_node c.in-Outer.is ∙ plain_outer c.in-Outer.counters c.in-Outer.style c.in-Outer.owned c.in-Outer.stages in
    let stages = ap plain_stage_list c.deref-stage-items.ensures.value in
    let number = c.in_ok-add_bounds-in-Outer.ensures.number ∙ ap (λ xs. c.args.found.now.number + counters_size (map plain_counter xs)) c.deref-in-Outer.ensures.value in
    let bounds = c.in_ok-add_bounds-in-Outer.ensures.spots ∙ ap (λ xs. plain_spots c.args.found.now.spots.items ++ bounds_spots path c.args.found.now.number (map plain_counter xs)) c.deref-in-Outer.ensures.value in
    let level =
    c.in_ok-level-in-Outer.ensures
    ∙ ap (λ ms. outer_level ms c.args.places.now (map plain_counter c.deref-in-Outer-2.result.now) c.in-Outer.style c.deref-in-Outer-3.result.now (changed_in node)) c.mems-in-Outer.ensures.mems
    ∙ ap (λ xs. outer_level core.mems c.args.places.now (map plain_counter xs) c.in-Outer.style c.deref-in-Outer-3.result.now (changed_in node)) c.deref-in-Outer-2.ensures.value
    ∙ ap (λ xs. outer_level core.mems c.args.places.now counters c.in-Outer.style xs (changed_in node)) c.deref-in-Outer-3.ensures.value in
    let around = c.in_ok-around-in-Outer.ensures ∙ ap (λ xs. c.args.places.now ++ places_in (map plain_counter xs)) c.deref-in-Outer-4.ensures.value in
    record {
      number = outer_number counters c.in-Outer.style owned _ _ node is stages c.args.found.now.number c.add_bounds-in-Outer.new.found.number number;
      spots = outer_spots core path c.args.places.now c.in_ok-around-in-Outer.around.items counters c.in-Outer.style owned _ _ node (plain_level c.in_ok-level-in-Outer.level) is stages around level
          (plain_spots c.args.found.now.spots.items) (plain_spots c.add_bounds-in-Outer.new.found.spots.items) c.args.found.now.number c.add_bounds-in-Outer.new.found.number bounds number;
    }
