use Rattle.std.proofs.Common.{◌+◌, ◌++◌, drop, map, get_or, ap, sym, ◌∙◌, append_assoc}
use Rattle.std.specs.List.{flat_map}
use Rattle.std.proofs.lemmas.List.{drop_more}
use Rattle.sp_tree.specs.Streams.{joined_by}
use Rattle.sp_counts.specs.Streams.{stage_of, edge_of}
use Rattle.sp_counts.proofs.proper.edges.Goals as goal

pub loop-m-preserved : goal.loop-m-preserved
loop-m-preserved c =
    let f = joined_by (map stage_of c.args.stages.now) in
    let s = drop_more c.args.fifos.now c.loop-m.m-index 0 c.loop-m-test.true in
    let rest = flat_map f (drop (c.loop-m.m-index + 1) c.args.fifos.now) in (
      ap (λ xs. xs ++ rest) c.in_ok-add_edge.ensures.edges
          ∙ append_assoc (map edge_of c.loop-m.all.items) (f (get_or c.args.fifos.now c.loop-m.m-index 0)) rest
          ∙ ap (λ xs. map edge_of c.loop-m.all.items ++ flat_map f xs) (sym s)
          ∙ c.loop-m.invariant.0,
      c.in_ok-add_edge.ensures.below c.loop-m.invariant.1,
    )
