-- Marks of nodes, and the nodes that weren't seen.
use Rattle.std.proofs.Common.{◌≡◌, ◌≢◌, ℕ, zero, suc, ◌+◌, ◌<◌, ◌≤◌, List, [], ◌∷◌, length, replicate, set, subst, sym, ap, refl, ◌∙◌, inl, inr, arith}
use Rattle.std.proofs.lemmas.Bool.{cases_lt, cases_eq}
use Rattle.std.proofs.lemmas.List.{get_or_past, get_or-replicate, get_or-set_same, get_or-set_other, length-replicate}
use Rattle.sp_graph.specs.declared.search.Mark.{Mark}
use Rattle.sp_graph.specs.declared.search.Mark.TheVariants.{Unseen, OnStack, Done}
use Rattle.sp_graph.specs.Search.{mark_of, number_of, IsSeenFrom, IsDoneUpTo, weight_at, unseen, SeenStays}

-- only nodes have a mark
pub marked_is_node : (marks : List Mark) (node : ℕ) → mark_of marks node ≢ Unseen → node < length marks
marked_is_node marks node h = elim (cases_lt node (length marks)) [ inl lt ↦ lt | inr ge ↦ absurd (h (get_or_past marks node Unseen ge)) ]

pub seen_from_stack : (marks : List Mark) (node place : ℕ) → mark_of marks node ≡ OnStack place → mark_of marks node ≢ Unseen
seen_from_stack marks node place e u = cc

pub mark_of-replicate : (nodes node : ℕ) → mark_of (replicate nodes Unseen) node ≡ Unseen
mark_of-replicate nodes node =
    elim (cases_lt node nodes) [
      | inl h ↦ get_or-replicate nodes node Unseen Unseen h
      | inr h ↦ get_or_past (replicate nodes Unseen) node Unseen (simp length-replicate h)
    ]

pub IsSeenFrom-lower : (low lower : ℕ) (mark : Mark) → lower ≤ low → IsSeenFrom low mark → IsSeenFrom lower mark
IsSeenFrom-lower low lower Unseen h s = s
IsSeenFrom-lower low lower (OnStack place) h s = omega arith
IsSeenFrom-lower low lower (Done number) h s = tt

pub number_up_to : (most : ℕ) (mark : Mark) → IsDoneUpTo most mark → number_of mark ≤ most
number_up_to most Unseen d = absurd d
number_up_to most (OnStack place) d = absurd d
number_up_to most (Done number) d = d

pub done_is_seen : (most : ℕ) (mark : Mark) → IsDoneUpTo most mark → mark ≢ Unseen
done_is_seen most Unseen d e = absurd d
done_is_seen most (OnStack place) d e = absurd d
done_is_seen most (Done number) d e = cc

-- the sum over unseen nodes, where one of them is put on the stack
pub unseen-set : (weight : ℕ → ℕ) (marks : List Mark) (first node place : ℕ) → node < length marks → mark_of marks node ≡ Unseen → unseen weight (set marks node (OnStack place)) first + weight (first + node) ≡ unseen weight marks first
unseen-set weight [] first node place h e = absurd (omega arith)
unseen-set weight (mark ∷ marks) first zero place h e =
    let w : weight_at mark (weight first) ≡ weight first = ap (λ m. weight_at m (weight first)) e
    in let z : weight (first + 0) ≡ weight first = ap weight (omega arith)
    in omega arith
unseen-set weight (mark ∷ marks) first (suc node) place h e =
    let more : unseen weight (set marks node (OnStack place)) (first + 1) + weight (first + 1 + node) ≡ unseen weight marks (first + 1) = unseen-set weight marks (first + 1) node place (omega arith) e
    in let z : weight (first + suc node) ≡ weight (first + 1 + node) = ap weight (omega arith)
    in omega arith

-- the sum stays where each node keeps its weight
pub unseen-same : (weight : ℕ → ℕ) (marks after : List Mark) (first : ℕ) → length after ≡ length marks → ((node w : ℕ) → weight_at (mark_of after node) w ≡ weight_at (mark_of marks node) w) → unseen weight after first ≡ unseen weight marks first
unseen-same weight [] [] first l h = refl
unseen-same weight [] (m ∷ after) first l h = absurd (omega arith)
unseen-same weight (m ∷ marks) [] first l h = absurd (omega arith)
unseen-same weight (m ∷ marks) (n ∷ after) first l h =
    let head : weight_at n (weight first) ≡ weight_at m (weight first) = h 0 (weight first)
    in let rest : unseen weight after (first + 1) ≡ unseen weight marks (first + 1) = unseen-same weight marks after (first + 1) (omega arith) (λ node w. h (suc node) w)
    in omega arith

pub unseen-replicate : (nodes first : ℕ) → unseen (λ _. 1) (replicate nodes Unseen) first ≡ nodes
unseen-replicate zero first = refl
unseen-replicate (suc nodes) first = omega (arith, unseen-replicate nodes (first + 1))

-- a node is put on the stack
module _ (marks : List Mark) (node place : ℕ) (fresh : mark_of marks node ≡ Unseen) (inside : node < length marks) where
  pub mark_of-entered : mark_of (set marks node (OnStack place)) node ≡ OnStack place
  mark_of-entered = get_or-set_same marks node (OnStack place) Unseen inside

  pub mark_of-others : (other : ℕ) → other ≢ node → mark_of (set marks node (OnStack place)) other ≡ mark_of marks other
  mark_of-others other ne = get_or-set_other marks node other (OnStack place) Unseen ne

  -- what is known of each mark but an unseen one stays
  pub kept_by_entering : (P : Mark → Type 0) → (P Unseen → ⊥) → (other : ℕ) → P (mark_of marks other) → P (mark_of (set marks node (OnStack place)) other)
  kept_by_entering P none other p =
      elim (cases_eq other node) [
        | inl e ↦ absurd (none (subst P (ap (λ k. mark_of marks k) e ∙ fresh) p))
        | inr ne ↦ subst P (sym (mark_of-others other ne)) p
      ]

  pub number_before_entering : (other number : ℕ) → mark_of (set marks node (OnStack place)) other ≡ Done number → mark_of marks other ≡ Done number
  number_before_entering other number e =
      elim (cases_eq other node) [
        | inl same ↦
            let new : mark_of (set marks node (OnStack place)) other ≡ OnStack place = ap (λ k. mark_of (set marks node (OnStack place)) k) same ∙ mark_of-entered in cc
        | inr ne ↦ sym (mark_of-others other ne) ∙ e
      ]

  pub SeenStays-entering : SeenStays marks (set marks node (OnStack place))
  SeenStays-entering = record {
    seen = λ other s. kept_by_entering (λ m. m ≢ Unseen) (λ no. no refl) other s;
  }
