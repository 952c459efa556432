-- The search comes to a node for the first time.
use Rattle.std.proofs.Common.{◌≡◌, ◌≢◌, ℕ, ◌+◌, ◌-◌, ◌<◌, ◌≤◌, ◌⊎◌, List, [], ◌∷◌, ◌++◌, length, set, subst, sym, ap, refl, ◌∙◌, inl, inr, arith, zero-add}
use Rattle.std.specs.Prelude.{slice_index}
use Rattle.std.proofs.lemmas.Bool.{cases_lt, cases_eq}
use Rattle.std.proofs.lemmas.List.{length-set, length_push, get_or_append_left, get_or_push}
use Rattle.sp_graph.specs.declared.search.Mark.{Mark}
use Rattle.sp_graph.specs.declared.search.Mark.TheVariants.{Unseen, OnStack}
use Rattle.sp_graph.specs.declared.search.Visit.{Visit}
use Rattle.sp_graph.specs.Edges.{targets_of, IsEdge, Path}
use Rattle.sp_graph.specs.Edges.Path.{no_edge, one_edge_more}
use Rattle.sp_graph.specs.Search.{mark_of, IsSeenFrom, IsDoneUpTo, IsVisit, AreVisits, AreMarked, IsSearch, entered, work_left}
use Rattle.sp_graph.proofs.Paths.{path_along}
use Rattle.sp_graph.proofs.Marks.{mark_of-entered, mark_of-others, kept_by_entering, number_before_entering, unseen-set}
use Rattle.sp_graph.proofs.Visits.{AreVisits-kept}

module _ (graph : List (List ℕ)) (marks : List Mark) (stack : List ℕ) (count node : ℕ) (marked : AreMarked graph marks stack count) (fresh : mark_of marks node ≡ Unseen) (inside : node < length marks) where
  stack_below : (k : ℕ) → k < length stack → slice_index (stack ++ node ∷ []) k ≡ slice_index stack k
  stack_below k h = get_or_append_left stack (node ∷ []) 0 k h

  stack_top : slice_index (stack ++ node ∷ []) (length stack) ≡ node
  stack_top = get_or_push stack node 0 (length stack) refl

  not_on_stack : (k : ℕ) → k < length stack → slice_index stack k ≢ node
  not_on_stack k h e = let on : mark_of marks node ≡ OnStack k = ap (λ n. mark_of marks n) (sym e) ∙ marked.on_stack k h in cc

  top_or_below : (k : ℕ) → k < length (stack ++ node ∷ []) → (k < length stack) ⊎ (k ≡ length stack)
  top_or_below k h =
      elim (cases_lt k (length stack)) [
        | inl lt ↦ inl lt
        | inr ge ↦ let e : k ≡ length stack = omega (arith, length_push stack node) in inr e
      ]

  pub AreMarked-enter : ((k : ℕ) → k < length stack → Path graph (slice_index stack k) node) → AreMarked graph (set marks node (OnStack (length stack))) (stack ++ node ∷ []) count
  AreMarked-enter reached = record {
    each_node = length-set marks node _ ∙ marked.each_node;
    on_stack = λ k h. elim (top_or_below k h) [
      | inl lt ↦ ap (λ n. mark_of (set marks node (OnStack (length stack))) n) (stack_below k lt) ∙ mark_of-others marks node (length stack) fresh inside (slice_index stack k) (not_on_stack k lt) ∙ marked.on_stack k lt
      | inr e ↦ ap (λ n. mark_of (set marks node (OnStack (length stack))) n) (ap (λ j. slice_index (stack ++ node ∷ []) j) e ∙ stack_top) ∙ mark_of-entered marks node (length stack) fresh inside ∙ ap OnStack (sym e)
    ];
    placed = λ n k e. elim (cases_eq n node) [
      | inl same ↦
          let new : OnStack (length stack) ≡ OnStack k = sym (mark_of-entered marks node (length stack) fresh inside) ∙ ap (λ j. mark_of (set marks node (OnStack (length stack))) j) (sym same) ∙ e
          in let top : length stack ≡ k = cc
          in let h : k < length (stack ++ node ∷ []) = omega (arith, length_push stack node)
          in (h, ap (λ j. slice_index (stack ++ node ∷ []) j) (sym top) ∙ stack_top ∙ sym same)
      | inr ne ↦
          let old : (k < length stack) × (slice_index stack k ≡ n) = marked.placed n k (sym (mark_of-others marks node (length stack) fresh inside n ne) ∙ e)
          in let h : k < length (stack ++ node ∷ []) = omega (arith, length_push stack node, old.0)
          in (h, stack_below k old.0 ∙ old.1)
    ];
    forward = λ low high h top. elim (top_or_below high top) [
      | inl lt ↦
          let lower : low < length stack = omega arith
          in subst (λ n. Path graph n (slice_index (stack ++ node ∷ []) high)) (sym (stack_below low lower)) (subst (λ n. Path graph (slice_index stack low) n) (sym (stack_below high lt)) (marked.forward low high h lt))
      | inr e ↦
          elim (cases_lt low (length stack)) [
            | inl lower ↦
                subst (λ n. Path graph (slice_index (stack ++ node ∷ []) low) n) (sym (ap (λ j. slice_index (stack ++ node ∷ []) j) e ∙ stack_top)) (subst (λ n. Path graph n node) (sym (stack_below low lower)) (reached low lower))
            | inr ge ↦
                let same : low ≡ high = omega arith
                in subst (λ j. Path graph (slice_index (stack ++ node ∷ []) low) (slice_index (stack ++ node ∷ []) j)) same no_edge
          ]
    ];
    falling = λ from to number e edge.
        kept_by_entering marks node (length stack) fresh inside (λ m. IsDoneUpTo number m) (λ no. no) to
        (marked.falling from to number (number_before_entering marks node (length stack) fresh inside from number e) edge);
    connected = λ a b number e f.
        marked.connected a b number (number_before_entering marks node (length stack) fresh inside a number e) (number_before_entering marks node (length stack) fresh inside b number f);
    below = λ n number e. marked.below n number (number_before_entering marks node (length stack) fresh inside n number e);
    room = omega (arith, marked.room, unseen-set (λ _. 1) marks 0 node (length stack) inside fresh, length_push stack node, length-set marks node (OnStack (length stack)));
  }

  IsVisit-entered : IsVisit graph (set marks node (OnStack (length stack))) (stack ++ node ∷ []) (entered node (length stack)) (length (stack ++ node ∷ []))
  IsVisit-entered = record {
    here = stack_top;
    within = omega (arith, length_push stack node);
    low = omega arith;
    back = λ k a b. let e : k ≡ length stack = omega (arith, length_push stack node) in subst (λ n. Path graph n node) (sym (ap (λ j. slice_index (stack ++ node ∷ []) j) e ∙ stack_top)) no_edge;
    to_low = subst (λ n. Path graph node n) (sym stack_top) no_edge;
    looked = λ k a b. absurd (omega arith);
    looked_above = λ k to a b e. absurd (omega (arith, length_push stack node));
  }

  enter : (visits : List Visit) → AreVisits graph marks stack visits (length stack) → ((k : ℕ) → k < length stack → Path graph (slice_index stack k) node) → IsSearch graph (set marks node (OnStack (length stack))) (stack ++ node ∷ []) (entered node (length stack) ∷ visits) count
  enter visits divided reached = record {
    marked = AreMarked-enter reached;
    divided = (
      IsVisit-entered,
      AreVisits-kept graph marks (set marks node (OnStack (length stack))) stack (stack ++ node ∷ []) (λ low n s. kept_by_entering marks node (length stack) fresh inside (λ m. IsSeenFrom low m) (λ no. no) n s) visits (length stack) stack_below divided,
    );
  }

  -- as a root
  pub enter_root : AreVisits graph marks stack [] (length stack) → IsSearch graph (set marks node (OnStack (length stack))) (stack ++ node ∷ []) (entered node (length stack) ∷ []) count
  enter_root none = enter [] none (λ k h. absurd (omega arith))

  -- along an edge from the visit on top
  pub enter_target : (visit : Visit) (visits : List Visit) → AreVisits graph marks stack (visit ∷ visits) (length stack) → IsEdge graph visit.node node → IsSearch graph (set marks node (OnStack (length stack))) (stack ++ node ∷ []) (entered node (length stack) ∷ visit ∷ visits) count
  enter_target visit visits divided edge =
      enter (visit ∷ visits) divided
      (λ k h.
      let in_block : visit.place < length stack = divided.0.within
      in let below : visit.place ≤ length stack - 1 = omega arith
      in let top : length stack - 1 < length stack = omega arith
      in let under : k ≤ length stack - 1 = omega arith
      in path_along (marked.forward k (length stack - 1) under top) (path_along (divided.0.back (length stack - 1) below top) (one_edge_more edge no_edge)))

  pub less_work_left : (visits : List Visit) → work_left graph (set marks node (OnStack (length stack))) (entered node (length stack) ∷ visits) < work_left graph marks visits
  less_work_left visits =
      let w : length (targets_of graph (0 + node)) ≡ length (targets_of graph node) = ap (λ n. length (targets_of graph n)) (zero-add node)
      in omega (arith, unseen-set (λ n. length (targets_of graph n) + 2) marks 0 node (length stack) inside fresh)
