-- The nodes from a visit's place of the stack on are given a number.
use Rattle.std.proofs.Common.{◌≡◌, ◌≢◌, ℕ, ◌+◌, ◌-◌, ◌<◌, ◌≤◌, ◌⊎◌, List, ◌∷◌, length, take, drop, subst, sym, ap, refl, ◌∙◌, inl, inr, arith}
use Rattle.std.specs.Prelude.{slice_index}
use Rattle.std.proofs.lemmas.Bool.{cases_lt}
use Rattle.std.proofs.lemmas.List.{length-take-le, get_or-take, length-drop, get_or-drop}
use Rattle.sp_graph.specs.declared.search.Mark.{Mark}
use Rattle.sp_graph.specs.declared.search.Mark.TheVariants.{Unseen, OnStack, Done}
use Rattle.sp_graph.specs.declared.search.Visit.{Visit}
use Rattle.sp_graph.specs.Edges.{targets_of, IsEdge, Path}
use Rattle.sp_graph.specs.Search.{mark_of, IsSeenFrom, IsDoneUpTo, AreVisits, AreMarked, IsSearch, AreNumbered, SeenStays, weight_at, work_left}
use Rattle.sp_graph.proofs.Paths.{path_along}
use Rattle.sp_graph.proofs.Marks.{unseen-same}
use Rattle.sp_graph.proofs.Visits.{AreVisits-kept}
use Rattle.sp_graph.proofs.Looking.{all_looked}

-- the nodes from a place of the stack on were given a number, and no others
record IsClosed (marks after : List Mark) (stack : List ℕ) (place number : ℕ) : Type 0 where
  each_node : length after ≡ length marks
  closed : (k : ℕ) → place ≤ k → k < length stack → mark_of after (slice_index stack k) ≡ Done number
  others : (node : ℕ) → (mark_of after node ≡ mark_of marks node) ⊎ ((mark_of after node ≡ Done number) × ((k : ℕ) × (place ≤ k) × (k < length stack) × (slice_index stack k ≡ node)))

closed_from_numbered : (marks after : List Mark) (stack : List ℕ) (place number : ℕ) → AreNumbered marks after (drop place stack) number → IsClosed marks after stack place number
closed_from_numbered marks after stack place number n = record {
  each_node = n.each_node;
  closed = λ k a b.
      let h : k - place < length (drop place stack) = omega (arith, length-drop place stack)
      in let e : place + (k - place) ≡ k = omega arith
      in ap (λ j. mark_of after j) (sym (get_or-drop place stack (k - place) 0 ∙ ap (λ j. slice_index stack j) e)) ∙ n.numbered (k - place) h;
  others = λ node. elim (n.others node) [
    | inl same ↦ inl same
    | inr new ↦
        let a : place ≤ place + new.1.0 = omega arith
        in let b : place + new.1.0 < length stack = omega (arith, length-drop place stack, new.1.1)
        in inr (new.0, (place + new.1.0, a, b, sym (get_or-drop place stack new.1.0 0) ∙ new.1.2))
  ];
}

module _ (graph : List (List ℕ)) (marks after : List Mark) (stack : List ℕ) (count : ℕ) (visit : Visit) (visits : List Visit) (s : IsSearch graph marks stack (visit ∷ visits) count) (ended : length (targets_of graph visit.node) ≤ visit.next) (lowest : visit.low ≡ visit.place) (numbered : AreNumbered marks after (drop visit.place stack) count) where
  closed : IsClosed marks after stack visit.place count
  closed = closed_from_numbered marks after stack visit.place count numbered

  inside : visit.place < length stack
  inside = s.divided.0.within

  rest_length : length (take visit.place stack) ≡ visit.place
  rest_length = let h : visit.place ≤ length stack = omega (arith, inside) in length-take-le visit.place stack h

  rest_at : (k : ℕ) → k < visit.place → slice_index (take visit.place stack) k ≡ slice_index stack k
  rest_at k h = get_or-take visit.place stack k 0 h

  -- a node below the place stays on the stack
  not_closed : (node place : ℕ) → place < visit.place → mark_of marks node ≡ OnStack place → mark_of after node ≡ OnStack place
  not_closed node place h e =
      elim (closed.others node) [
        | inl same ↦ same ∙ e
        | inr new ↦
            let on : mark_of marks node ≡ OnStack new.1.0 = ap (λ n. mark_of marks n) (sym new.1.3) ∙ s.marked.on_stack new.1.0 new.1.2
            in let both : new.1.0 ≡ place = cc
            in absurd (omega (arith, new.1.1))
      ]

  -- what holds of a mark, and of the new number if it holds on the stack, holds afterwards
  kept : (P : Mark → Type 0) → ((k : ℕ) → P (OnStack k) → P (Done count)) → (node : ℕ) → P (mark_of marks node) → P (mark_of after node)
  kept P up node p =
      elim (closed.others node) [
        | inl same ↦ subst P (sym same) p
        | inr new ↦ subst P (sym new.0) (up new.1.0 (subst P (ap (λ n. mark_of marks n) (sym new.1.3) ∙ s.marked.on_stack new.1.0 new.1.2) p))
      ]

  -- what was seen from the visit's place on has a number now
  number_of_seen : (node : ℕ) (mark : Mark) → mark_of marks node ≡ mark → IsSeenFrom visit.place mark → IsDoneUpTo count (mark_of after node)
  number_of_seen node Unseen e seen = absurd seen
  number_of_seen node (OnStack place) e seen =
      let at : (place < length stack) × (slice_index stack place ≡ node) = s.marked.placed node place e
      in let new : mark_of after node ≡ Done count = ap (λ n. mark_of after n) (sym at.1) ∙ closed.closed place seen at.0
      in subst (λ m. IsDoneUpTo count m) (sym new) (omega arith)
  number_of_seen node (Done number) e seen =
      let below : number < count = s.marked.below node number e
      in kept (λ m. IsDoneUpTo count m) (λ k no. absurd no) node (subst (λ m. IsDoneUpTo count m) (sym e) (omega arith))

  falling_after : (from to number : ℕ) → mark_of after from ≡ Done number → IsEdge graph from to → IsDoneUpTo number (mark_of after to)
  falling_after from to number e edge =
      elim (closed.others from) [
        | inl same ↦ kept (λ m. IsDoneUpTo number m) (λ k no. absurd no) to (s.marked.falling from to number (sym same ∙ e) edge)
        | inr new ↦
            let same : Done count ≡ Done number = sym new.0 ∙ e
            in let number_is : count ≡ number = cc
            in subst (λ n. IsDoneUpTo n (mark_of after to)) number_is
            (number_of_seen to (mark_of marks to) refl
            (subst (λ p. IsSeenFrom p (mark_of marks to)) lowest
            (all_looked graph marks stack visit (length stack) s.divided.0 ended new.1.0 to new.1.1 new.1.2 (subst (λ n. IsEdge graph n to) (sym new.1.3) edge))))
      ]

  -- a number that a node had before is below the new one
  older : (node number : ℕ) → mark_of after node ≡ mark_of marks node → mark_of after node ≡ Done number → number < count
  older node number same e = s.marked.below node number (sym same ∙ e)

  new_number : (node number : ℕ) → mark_of after node ≡ Done count → mark_of after node ≡ Done number → number ≡ count
  new_number node number new e = cc

  connected_after : (a b number : ℕ) → mark_of after a ≡ Done number → mark_of after b ≡ Done number → Path graph a b
  connected_after a b number e f =
      elim (closed.others a) [
        | inl same ↦ elim (closed.others b) [
          | inl same_b ↦ s.marked.connected a b number (sym same ∙ e) (sym same_b ∙ f)
          | inr new_b ↦ absurd (omega (arith, older a number same e, new_number b number new_b.0 f))
        ]
        | inr new ↦ elim (closed.others b) [
          | inl same_b ↦ absurd (omega (arith, older b number same_b f, new_number a number new.0 e))
          | inr new_b ↦
              subst (λ n. Path graph n b) new.1.3
              (subst (λ n. Path graph (slice_index stack new.1.0) n) new_b.1.3
              (path_along (s.divided.0.back new.1.0 new.1.1 new.1.2)
              (subst (λ n. Path graph n (slice_index stack new_b.1.0)) s.divided.0.here (s.marked.forward visit.place new_b.1.0 new_b.1.1 new_b.1.2))))
        ]
      ]

  same_weight : (node w : ℕ) → weight_at (mark_of after node) w ≡ weight_at (mark_of marks node) w
  same_weight node w =
      elim (closed.others node) [
        | inl same ↦ ap (λ m. weight_at m w) same
        | inr new ↦
            let on : mark_of marks node ≡ OnStack new.1.0 = ap (λ n. mark_of marks n) (sym new.1.3) ∙ s.marked.on_stack new.1.0 new.1.2
            in ap (λ m. weight_at m w) new.0 ∙ sym (ap (λ m. weight_at m w) on)
      ]

  AreMarked-close : AreMarked graph after (take visit.place stack) (count + 1)
  AreMarked-close = record {
    each_node = closed.each_node ∙ s.marked.each_node;
    on_stack = λ k h.
        let below : k < visit.place = omega (arith, rest_length)
        in let old : k < length stack = omega (arith, inside)
        in ap (λ n. mark_of after n) (rest_at k below) ∙ not_closed (slice_index stack k) k below (s.marked.on_stack k old);
    placed = λ node k e. elim (closed.others node) [
      | inl same ↦
          let at : (k < length stack) × (slice_index stack k ≡ node) = s.marked.placed node k (sym same ∙ e)
          in elim (cases_lt k visit.place) [
            | inl below ↦ let h : k < length (take visit.place stack) = omega (arith, rest_length) in (h, rest_at k below ∙ at.1)
            | inr above ↦ let new : mark_of after node ≡ Done count = ap (λ n. mark_of after n) (sym at.1) ∙ closed.closed k above at.0 in cc
          ]
      | inr new ↦ let done : mark_of after node ≡ Done count = new.0 in cc
    ];
    forward = λ low high h top.
        let below : high < visit.place = omega (arith, rest_length)
        in let lower : low < visit.place = omega arith
        in let old : high < length stack = omega (arith, inside)
        in subst (λ n. Path graph n (slice_index (take visit.place stack) high)) (sym (rest_at low lower)) (subst (λ n. Path graph (slice_index stack low) n) (sym (rest_at high below)) (s.marked.forward low high h old));
    falling = falling_after;
    connected = connected_after;
    below = λ node number e. elim (closed.others node) [
      | inl same ↦ omega (arith, older node number same e)
      | inr new ↦ omega (arith, new_number node number new.0 e)
    ];
    room = omega (arith, s.marked.room, unseen-same (λ _. 1) marks after 0 closed.each_node same_weight, rest_length, inside, closed.each_node);
  }

  pub close_visit : IsSearch graph after (take visit.place stack) visits (count + 1)
  close_visit = record {
    marked = AreMarked-close;
    divided =
        subst (λ limit. AreVisits graph after (take visit.place stack) visits limit) (sym rest_length)
        (AreVisits-kept graph marks after stack (take visit.place stack) (λ low node seen. kept (λ m. IsSeenFrom low m) (λ k _. tt) node seen) visits visit.place rest_at s.divided.1);
  }

  pub seen_after_closing : SeenStays marks after
  seen_after_closing = record { seen = λ node seen. kept (λ m. m ≢ Unseen) (λ k _ e. cc) node seen }

  pub less_work_after_closing : work_left graph after visits < work_left graph marks (visit ∷ visits)
  less_work_after_closing = omega (arith, unseen-same (λ node. length (targets_of graph node) + 2) marks after 0 closed.each_node same_weight)
