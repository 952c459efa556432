-- The search before its first step, and after its last one.
use Rattle.std.proofs.Common.{◌≡◌, ◌≢◌, ℕ, ◌<◌, List, [], length, map, replicate, sym, ap, refl, ◌∙◌, inl, inr, arith}
use Rattle.std.specs.Prelude.{slice_index}
use Rattle.std.proofs.lemmas.Bool.{cases_lt}
use Rattle.std.proofs.lemmas.List.{length-map, length-replicate, get_or-map, get_or_past}
use Rattle.sp_graph.specs.declared.search.Mark.{Mark}
use Rattle.sp_graph.specs.declared.search.Mark.TheVariants.{Unseen, OnStack, Done}
use Rattle.sp_graph.specs.Edges.{IsEdge}
use Rattle.sp_graph.specs.Components.{AreComponents}
use Rattle.sp_graph.specs.Search.{mark_of, number_of, IsDoneUpTo, IsSearch}
use Rattle.sp_graph.proofs.Graphs.{targets_of-get_or, none_in_empty}
use Rattle.sp_graph.proofs.Marks.{marked_is_node, mark_of-replicate, unseen-replicate, number_up_to, done_is_seen}

-- only nodes have edges
pub edge_from_node : (graph : List (List ℕ)) (from to : ℕ) → IsEdge graph from to → from < length graph
edge_from_node graph from to edge =
    elim (cases_lt from (length graph)) [
      | inl lt ↦ lt
      | inr ge ↦ absurd (none_in_empty to (rw (targets_of-get_or graph from, get_or_past graph from [] ge) at edge))
    ]

pub IsSearch-start : (graph : List (List ℕ)) (nodes : ℕ) → nodes ≡ length graph → IsSearch graph (replicate nodes Unseen) [] [] 0
IsSearch-start graph nodes e = record {
  marked = record {
    each_node = length-replicate nodes Unseen ∙ e;
    on_stack = λ k h. absurd (omega arith);
    placed = λ node k is. let u : mark_of (replicate nodes Unseen) node ≡ Unseen = mark_of-replicate nodes node in cc;
    forward = λ low high h top. absurd (omega arith);
    falling = λ from to number is edge. let u : mark_of (replicate nodes Unseen) from ≡ Unseen = mark_of-replicate nodes from in cc;
    connected = λ a b number is is_b. let u : mark_of (replicate nodes Unseen) a ≡ Unseen = mark_of-replicate nodes a in cc;
    below = λ node number is. let u : mark_of (replicate nodes Unseen) node ≡ Unseen = mark_of-replicate nodes node in cc;
    room = omega (arith, length-replicate nodes Unseen, unseen-replicate nodes 0);
  };
  divided = refl;
}

module _ (graph : List (List ℕ)) (marks : List Mark) (stack : List ℕ) (count : ℕ) (s : IsSearch graph marks stack [] count) (all : (node : ℕ) → node < length graph → mark_of marks node ≢ Unseen) where
  done_by_mark : (node : ℕ) (mark : Mark) → mark_of marks node ≡ mark → mark ≢ Unseen → mark ≡ Done (number_of mark)
  done_by_mark node Unseen e ne = absurd (ne refl)
  done_by_mark node (OnStack place) e ne =
      let empty : length stack ≡ 0 = s.divided
      in absurd (omega (arith, (s.marked.placed node place e).0))
  done_by_mark node (Done number) e ne = refl

  done : (node : ℕ) → node < length graph → mark_of marks node ≡ Done (number_of (mark_of marks node))
  done node h = done_by_mark node (mark_of marks node) refl (all node h)

  number_at : (node : ℕ) → node < length graph → slice_index (map number_of marks) node ≡ number_of (mark_of marks node)
  number_at node h = let inside : node < length marks = omega (arith, s.marked.each_node) in get_or-map number_of marks node Unseen 0 inside

  pub AreComponents-finished : AreComponents graph (map number_of marks)
  AreComponents-finished = record {
    each_node = length-map marks number_of ∙ s.marked.each_node;
    connected = λ a b h k e.
        let same : number_of (mark_of marks b) ≡ number_of (mark_of marks a) = sym (number_at b k) ∙ sym e ∙ number_at a h
        in s.marked.connected a b (number_of (mark_of marks a)) (done a h) (done b k ∙ ap Done same);
    falling = λ from to edge.
        let h : from < length graph = edge_from_node graph from to edge
        in let up : IsDoneUpTo (number_of (mark_of marks from)) (mark_of marks to) = s.marked.falling from to (number_of (mark_of marks from)) (done from h) edge
        in let to_inside : to < length marks = marked_is_node marks to (done_is_seen _ (mark_of marks to) up)
        in let k : to < length graph = omega (arith, s.marked.each_node)
        in omega (arith, number_up_to _ (mark_of marks to) up, number_at from h, number_at to k);
    below = λ node h.
        let few = s.marked.below node (number_of (mark_of marks node)) (done node h)
        in omega (arith, few, s.marked.room, s.marked.each_node, number_at node h);
  }
