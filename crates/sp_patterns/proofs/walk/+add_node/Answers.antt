use Rattle.std.proofs.Common.{ap, sym, ◌∙◌, map}
use Rattle.sp_core.specs.Plain.{plain_counter, plain_node, plain_stage_list, plain_mem}
use Rattle.sp_patterns.specs.Ranges.{plain_around, inside}
use Rattle.sp_patterns.specs.Indices.{rows_of}
use Rattle.sp_patterns.proofs.Trees.{plain_outer}
use Rattle.sp_patterns.proofs.WalkLemmas.{outer_forms, outer_lengths}
use Rattle.sp_patterns.proofs.walk.+add_node.Goals as goal

pub loop-stage-init : goal.loop-stage-init
loop-stage-init t c =
    let mems = map plain_mem c.args.mems.now in
    let around = plain_around c.args.around.now in
    let is = ap plain_node c.in-Outer.is ∙ plain_outer c.in-Outer.counters c.in-Outer.style c.in-Outer.owned c.in-Outer.stages in
    let stages = ap plain_stage_list c.deref-stage-items.ensures.value in
    let first = ap (map plain_counter) c.deref-in-Outer.ensures.value in
    let second = ap (map plain_counter) c.deref-in-Outer-2.ensures.value in
    let entered = c.in_ok-within-in-Outer.ensures.around ∙ ap (inside mems around) (second ∙ sym first) in
    record {
      rows = outer_forms mems around (plain_around c.in_ok-within-in-Outer.within) _ _ _ _ _ _ _ is first stages entered (rows_of c.args.rows.now.items) (rows_of c.add_bounds-in-Outer.new.rows.items) c.in_ok-add_bounds-in-Outer.ensures;
      lengths = outer_lengths mems around (plain_around c.in_ok-within-in-Outer.within) _ _ _ _ _ _ _ is first stages entered c.args.lengths.now.items;
    }
