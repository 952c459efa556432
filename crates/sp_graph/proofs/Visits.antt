-- The visits of a path stand where marks and stack change above them.
use Rattle.std.proofs.Common.{◌≡◌, ℕ, ◌<◌, List, [], ◌∷◌, subst, sym, ◌∙◌, arith}
use Rattle.std.specs.Prelude.{slice_index}
use Rattle.sp_graph.specs.declared.search.Mark.{Mark}
use Rattle.sp_graph.specs.declared.search.Visit.{Visit}
use Rattle.sp_graph.specs.Edges.{IsEdge, Path}
use Rattle.sp_graph.specs.Search.{mark_of, IsSeenFrom, IsVisit, AreVisits}

module _ (graph : List (List ℕ)) (marks after : List Mark) (stack other : List ℕ) (seen : (low node : ℕ) → IsSeenFrom low (mark_of marks node) → IsSeenFrom low (mark_of after node)) where
  IsVisit-kept : (visit : Visit) (limit : ℕ) → ((k : ℕ) → k < limit → slice_index other k ≡ slice_index stack k) → IsVisit graph marks stack visit limit → IsVisit graph after other visit limit
  IsVisit-kept visit limit same v = record {
    here = same visit.place v.within ∙ v.here;
    within = v.within;
    low = v.low;
    back = λ k a b. subst (λ n. Path graph n visit.node) (sym (same k b)) (v.back k a b);
    to_low = let h : visit.low < limit = omega (arith, v.within, v.low) in subst (λ n. Path graph visit.node n) (sym (same visit.low h)) v.to_low;
    looked = λ k a b. seen visit.low _ (v.looked k a b);
    looked_above = λ k to a b e. seen visit.low to (v.looked_above k to a b (subst (λ n. IsEdge graph n to) (same k b) e));
  }

  pub AreVisits-kept : (visits : List Visit) (limit : ℕ) → ((k : ℕ) → k < limit → slice_index other k ≡ slice_index stack k) → AreVisits graph marks stack visits limit → AreVisits graph after other visits limit
  AreVisits-kept [] limit same h = h
  AreVisits-kept (visit ∷ visits) limit same h =
      (IsVisit-kept visit limit same h.0, AreVisits-kept visits visit.place (λ k b. let w : k < limit = omega (arith, b, h.0.within) in same k w) h.1)
