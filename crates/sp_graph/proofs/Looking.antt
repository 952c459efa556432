-- The search looks at the next target of a visit, and goes back from a visit to the one before it.
use Rattle.std.proofs.Common.{◌≡◌, ◌≢◌, ℕ, ◌+◌, ◌<◌, ◌≤◌, List, [], ◌∷◌, length, min, subst, sym, ap, ◌∙◌, inl, inr, arith}
use Rattle.std.specs.Prelude.{slice_index}
use Rattle.std.proofs.lemmas.Bool.{cases_lt}
use Rattle.std.proofs.lemmas.List.{get_or_default}
use Rattle.sp_graph.specs.declared.search.Mark.{Mark}
use Rattle.sp_graph.specs.declared.search.Visit.{Visit}
use Rattle.sp_graph.specs.Edges.{targets_of, IsEdge, Path}
use Rattle.sp_graph.specs.Search.{mark_of, IsSeenFrom, IsVisit, IsSearch}
use Rattle.sp_graph.proofs.Paths.{path_along}
use Rattle.sp_graph.proofs.Marks.{IsSeenFrom-lower}

-- the visit with one more target looked at
abbrev pub looked_further : Visit → ℕ → Visit
looked_further visit low = record { node = visit.node; place = visit.place; next = visit.next + 1; low = low }

abbrev pub lowered : Visit → ℕ → Visit
lowered visit low = record { node = visit.node; place = visit.place; next = visit.next; low = low }

module _ (graph : List (List ℕ)) (marks : List Mark) (stack : List ℕ) where
  IsVisit-look : (visit : Visit) (limit low target : ℕ) → IsVisit graph marks stack visit limit → visit.next < length (targets_of graph visit.node) → slice_index (targets_of graph visit.node) visit.next ≡ target → low ≤ visit.low → IsSeenFrom low (mark_of marks target) → Path graph visit.node (slice_index stack low) → IsVisit graph marks stack (looked_further visit low) limit
  IsVisit-look visit limit low target v next is h seen path = record {
    here = v.here;
    within = v.within;
    low = omega (arith, v.low);
    back = v.back;
    to_low = path;
    looked = λ k a b. elim (cases_lt k visit.next) [
      | inl lt ↦ IsSeenFrom-lower visit.low low _ h (v.looked k lt b)
      | inr ge ↦ let e : k ≡ visit.next = omega arith in subst (λ n. IsSeenFrom low (mark_of marks n)) (sym (ap (λ j. slice_index (targets_of graph visit.node) j) e ∙ is)) seen
    ];
    looked_above = λ k to a b e. IsSeenFrom-lower visit.low low _ h (v.looked_above k to a b e);
  }

  pub look : (count : ℕ) (visit : Visit) (visits : List Visit) (low target : ℕ) → IsSearch graph marks stack (visit ∷ visits) count → visit.next < length (targets_of graph visit.node) → slice_index (targets_of graph visit.node) visit.next ≡ target → low ≤ visit.low → IsSeenFrom low (mark_of marks target) → Path graph visit.node (slice_index stack low) → IsSearch graph marks stack (looked_further visit low ∷ visits) count
  look count visit visits low target s next is h seen path = record {
    marked = s.marked;
    divided = (IsVisit-look visit (length stack) low target s.divided.0 next is h seen path, s.divided.1);
  }

  -- all targets of the nodes from a visit's place on were looked at
  pub all_looked : (visit : Visit) (limit : ℕ) → IsVisit graph marks stack visit limit → length (targets_of graph visit.node) ≤ visit.next → (place to : ℕ) → visit.place ≤ place → place < limit → IsEdge graph (slice_index stack place) to → IsSeenFrom visit.low (mark_of marks to)
  all_looked visit limit v ended place to a b edge =
      elim (cases_lt visit.place place) [
        | inl above ↦ v.looked_above place to above b edge
        | inr not_above ↦
            let e : place ≡ visit.place = omega arith
            in let own : IsEdge graph visit.node to = subst (λ n. IsEdge graph n to) (ap (λ k. slice_index stack k) e ∙ v.here) edge
            in let next : own.0 < visit.next = omega (arith, own.1)
            in subst (λ n. IsSeenFrom visit.low (mark_of marks n)) (get_or_default (targets_of graph visit.node) own.0 0 to own.1 ∙ own.2) (v.looked own.0 next own.1)
      ]

  module _ (count : ℕ) (visit parent : Visit) (visits : List Visit) (s : IsSearch graph marks stack (visit ∷ parent ∷ visits) count) (ended : length (targets_of graph visit.node) ≤ visit.next) (lower : visit.low ≢ visit.place) where
    low_below : visit.low < visit.place
    low_below = omega (arith, s.divided.0.low)

    parent_below : parent.place < visit.place
    parent_below = s.divided.1.0.within

    -- the lowest place that the visit reaches leads to the parent
    back_to_parent : Path graph (slice_index stack visit.low) parent.node
    back_to_parent =
        elim (cases_lt visit.low parent.place) [
          | inl lt ↦
              let h : visit.low ≤ parent.place = omega arith
              in let top : parent.place < length stack = omega (arith, s.divided.0.within, parent_below)
              in subst (λ n. Path graph (slice_index stack visit.low) n) s.divided.1.0.here (s.marked.forward visit.low parent.place h top)
          | inr ge ↦ s.divided.1.0.back visit.low ge low_below
        ]

    parent_to_low : Path graph parent.node (slice_index stack visit.low)
    parent_to_low =
        let h : parent.place ≤ visit.place = omega (arith, parent_below)
        in path_along
        (subst (λ n. Path graph parent.node n) s.divided.0.here (subst (λ n. Path graph n (slice_index stack visit.place)) s.divided.1.0.here (s.marked.forward parent.place visit.place h s.divided.0.within)))
        s.divided.0.to_low

    IsVisit-lower : IsVisit graph marks stack (lowered parent (min parent.low visit.low)) (length stack)
    IsVisit-lower = record {
      here = s.divided.1.0.here;
      within = omega (arith, s.divided.0.within, parent_below);
      low = omega (arith, s.divided.1.0.low);
      back = λ k a b. elim (cases_lt k visit.place) [
        | inl lt ↦ s.divided.1.0.back k a lt
        | inr ge ↦ path_along (s.divided.0.back k ge b) (path_along s.divided.0.to_low back_to_parent)
      ];
      to_low = elim (cases_lt parent.low visit.low) [
        | inl lt ↦ let e : parent.low ≡ min parent.low visit.low = omega arith in subst (λ k. Path graph parent.node (slice_index stack k)) e s.divided.1.0.to_low
        | inr ge ↦ let e : visit.low ≡ min parent.low visit.low = omega arith in subst (λ k. Path graph parent.node (slice_index stack k)) e parent_to_low
      ];
      looked = λ k a b. let h : min parent.low visit.low ≤ parent.low = omega arith in IsSeenFrom-lower parent.low _ _ h (s.divided.1.0.looked k a b);
      looked_above = λ k to a b e. elim (cases_lt k visit.place) [
        | inl lt ↦ let h : min parent.low visit.low ≤ parent.low = omega arith in IsSeenFrom-lower parent.low _ _ h (s.divided.1.0.looked_above k to a lt e)
        | inr ge ↦ let h : min parent.low visit.low ≤ visit.low = omega arith in IsSeenFrom-lower visit.low _ _ h (all_looked visit (length stack) s.divided.0 ended k to ge b e)
      ];
    }

    pub lower_parent : IsSearch graph marks stack (lowered parent (min parent.low visit.low) ∷ visits) count
    lower_parent = record { marked = s.marked; divided = (IsVisit-lower, s.divided.1.1) }

  -- the first visit of a path reaches no lower place
  pub first_is_lowest : (count : ℕ) (visit : Visit) → IsSearch graph marks stack (visit ∷ []) count → visit.low ≢ visit.place → ⊥
  first_is_lowest count visit s ne = let first : visit.place ≡ 0 = s.divided.1 in ne (omega (arith, s.divided.0.low))
