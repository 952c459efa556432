-- What no picked node owns in a core has no copy that one owns in lanes.
use Rattle.std.proofs.Common.{◌≡◌, ℕ, ◌+◌, ◌*◌, ◌<◌, ◌≤◌, Bool, true, false, cond, ◌||◌, List, [], ◌∷◌, ◌++◌, map, None, refl, ◌∙◌, ap, subst, arith, ◌==◌}
use Rattle.std.proofs.lemmas.Bool.{eq-eqb, eqb-true}
use Rattle.std.specs.Prelude.{flat_map, option_map}
use Rattle.sp_words.specs.declared.kind.Style.{Style}
use Rattle.sp_core.specs.Around.{lanes_of}
use Rattle.sp_core.specs.Elements.{numbers_below}
use Rattle.sp_core.specs.PlainCore.{PlainCounter, PlainNode, PlainStages, inner, outer, fsm, branch, load, store, sparse, no_stage, more_stage}
use Rattle.sp_lanes.specs.Order.{occurrence}
use Rattle.sp_lanes.specs.Unrolled.{stages_by_lane, stage_after, combination_of, owned_in_lanes, combination_in, node_in, left_as_they_are, nodes_in}
use Rattle.sp_lanes.specs.Within.{Within, owning, in_lane, counters_in}
use Rattle.sp_lane_rules.specs.Copies.{one_if, occurrences, copies_in, copies_in_stages, OwnsInLanes, OwnInLanes}
use Rattle.sp_lane_rules.proofs.CopiesCounts.{count_append}
use Rattle.sp_lane_rules.proofs.CopiesOwners.{Fits, node_owns, lane_fits, part_fits}
use Rattle.sp_lane_rules.proofs.CopiesTotals.{total_none, count_lanes, span}
use Rattle.sp_lane_groups.proofs.RoomPicked.{picked, picked_in, count_by_lane, combined_none}

less_fits : (c p o s t : ℕ) → (c + 1) * (p * (o + s)) ≤ t → (c + 1) * (p * o) ≤ t
less_fits c p o s t le = (part_fits c (p * o) (p * s) t (subst (λ x. (c + 1) * x ≤ t) {x = p * (o + s)} {y = p * o + p * s} (omega arith) le)).0

module _ (order : List ℕ) (i m k : ℕ) (tells : (x j : ℕ) → j < occurrences x order → one_if (occurrence x j order == i) ≡ one_if (x == m) * one_if (j == k)) (is : Style → Bool) (others : Bool) where
  lanes_none : (counters : List PlainCounter) (owned : List ℕ) (w : Within) → Fits order (λ n. lanes_of counters * occurrences n owned) w → occurrences m owned ≡ 0 → occurrences i (owned_in_lanes order counters owned w) ≡ 0
  unfolding node_in
  lanes_none counters owned w fits e =
      node_owns order i m k tells (inner counters owned [] None) w tt (omega (arith, e)) fits
      ∙ ap (λ n. span (w.copy * n) n k) {x = lanes_of counters * occurrences m owned} {y = 0} (ap (λ n. lanes_of counters * n) e ∙ omega arith)

  own_none : (b : Bool) (counters : List PlainCounter) (owned : List ℕ) (w : Within) → Fits order (λ n. lanes_of counters * occurrences n owned) w → occurrences m (cond b owned []) ≡ 0
      → occurrences i (cond b (owned_in_lanes order counters owned w) []) ≡ 0
  own_none true counters owned w fits e = lanes_none counters owned w fits e
  own_none false counters owned w fits e = refl

  state_none : (b : Bool) (state : ℕ) (w : Within) → w.copy < occurrences state order → occurrences m (cond b (state ∷ []) []) ≡ 0
      → occurrences i (cond b ((owning order (state ∷ []) w).number state ∷ []) []) ≡ 0
  state_none true state w fits e =
      let number : (owning order (state ∷ []) w).number state ≡ occurrence state w.copy order = ap (λ c. cond (c || false) (occurrence state w.copy order) (w.number state)) (eq-eqb state state refl) in
      let other : one_if (state == m) ≡ 0 = omega (arith, e) in
      let there : one_if ((owning order (state ∷ []) w).number state == i) ≡ 0 =
      ap (λ n. one_if (n == i)) number ∙ tells state w.copy fits ∙ ap (λ n. n * one_if (w.copy == k)) other ∙ omega arith in
      omega (arith, there)
  state_none false state w fits e = refl

  two_none : (xs ys : List ℕ) → occurrences i xs ≡ 0 → occurrences i ys ≡ 0 → occurrences i (xs ++ ys) ≡ 0
  two_none xs ys e f = omega (arith, count_append i xs ys, e, f)

  one_none : (xs ys : List ℕ) → occurrences m (xs ++ ys) ≡ 0 → (occurrences m xs ≡ 0) × (occurrences m ys ≡ 0)
  one_none xs ys e = (omega (arith, count_append m xs ys, e), omega (arith, count_append m xs ys, e))

  -- a body, by what it does in one lane and in several
  outer_none : (counters : List PlainCounter) (style : Style) (owned : List ℕ) (stages : PlainStages) (w : Within) → OwnInLanes stages
      → Fits order (copies_in (outer counters style owned stages)) w → occurrences m (cond (is style) owned []) ≡ 0
      → ((l : ℕ) → Fits order (copies_in_stages stages) (in_lane order counters owned w l) → occurrences i (picked_in is others (left_as_they_are order (in_lane order counters owned w l) stages)) ≡ 0)
      → ((l : ℕ) → Fits order (copies_in_stages stages) (in_lane order counters owned w l) → occurrences i (flat_map (picked is others) (nodes_in order (in_lane order counters owned w l) stages)) ≡ 0)
      → occurrences i (picked is others (node_in order w (outer counters style owned stages))) ≡ 0
  unfolding node_in left_as_they_are nodes_in
  outer_none counters style owned stages w h fits none left lanes = by (lanes_of counters == 1) refl
    where
      own : occurrences i (cond (is style) (owned_in_lanes order counters owned w) []) ≡ 0
      own = own_none (is style) counters owned w (λ n. less_fits w.copy (lanes_of counters) (occurrences n owned) (copies_in_stages stages n) (occurrences n order) (fits n)) none

      below : (l : ℕ) → l < lanes_of counters → Fits order (copies_in_stages stages) (in_lane order counters owned w l)
      below l lt n = lane_fits w.copy (lanes_of counters) l (occurrences n owned) (copies_in_stages stages n) (occurrences n order) lt (fits n)

      after : PlainStages
      after = stage_after (lanes_of counters) (option_map (combination_in order w counters owned) (combination_of stages))

      in_each : ℕ → List PlainNode
      in_each l = nodes_in order (in_lane order counters owned w l) stages

      by : (b : Bool) → (lanes_of counters == 1) ≡ b → occurrences i (picked is others (elim b as (λ _. PlainNode) [
        | true ↦ outer (counters_in w counters) style (owned_in_lanes order counters owned w) (left_as_they_are order (in_lane order counters owned w 0) stages)
        | false ↦ outer (counters_in w counters) style (owned_in_lanes order counters owned w) (stages_by_lane 0 (map in_each (numbers_below (lanes_of counters))) after)
      ])) ≡ 0
      by true e =
          let single : lanes_of counters ≡ 1 = eqb-true (lanes_of counters) 1 e in
          two_none (cond (is style) (owned_in_lanes order counters owned w) []) (picked_in is others (left_as_they_are order (in_lane order counters owned w 0) stages)) own (left 0 (below 0 (omega (arith, single))))
      by false e =
          two_none (cond (is style) (owned_in_lanes order counters owned w) []) (picked_in is others (stages_by_lane 0 (map in_each (numbers_below (lanes_of counters))) after)) own
          (count_by_lane i is others 0 in_each (numbers_below (lanes_of counters)) after
          ∙ ap (λ x. occurrences i (flat_map (λ l. flat_map (picked is others) (in_each l)) (numbers_below (lanes_of counters))) + x) (combined_none i is others order counters owned w (lanes_of counters) stages h)
          ∙ omega arith
          ∙ count_lanes (λ l. flat_map (picked is others) (in_each l)) i (lanes_of counters)
          ∙ total_none (λ l. occurrences i (flat_map (picked is others) (in_each l))) (lanes_of counters) (λ l lt. lanes l (below l lt)))

  state_fits : (state : ℕ) (body : PlainNode) (w : Within) → (w.copy + 1) * (occurrences state (state ∷ []) + copies_in body state) ≤ occurrences state order → w.copy < occurrences state order
  state_fits state body w le =
      let one : one_if (state == state) ≡ 1 = ap one_if (eq-eqb state state refl) in
      let own : (w.copy + 1) * occurrences state (state ∷ []) ≤ occurrences state order = (part_fits w.copy (occurrences state (state ∷ [])) (copies_in body state) (occurrences state order) le).0 in
      let self : (w.copy + 1) * 1 ≤ occurrences state order = subst (λ n. (w.copy + 1) * n ≤ occurrences state order) {x = occurrences state (state ∷ [])} {y = 1} (omega (arith, one)) own in
      omega (arith, self)

  mutual
    unfolding node_in left_as_they_are nodes_in

    pub node_none : (node : PlainNode) (w : Within) → OwnsInLanes node → Fits order (copies_in node) w → occurrences m (picked is others node) ≡ 0 → occurrences i (picked is others (node_in order w node)) ≡ 0
    node_none (inner counters owned ops comb) w h fits e = own_none others counters owned w fits e
    node_none (outer counters style owned stages) w h fits e =
        let parts = one_none (cond (is style) owned []) (picked_in is others stages) e in
        outer_none counters style owned stages w h fits parts.0 (λ l f. left_none stages (in_lane order counters owned w l) h f parts.1) (λ l f. nodes_none stages (in_lane order counters owned w l) h f parts.1)
    node_none (fsm start state test body next) w h fits e =
        let parts = one_none (cond others (state ∷ []) []) (picked is others body) e in
        two_none (cond others ((owning order (state ∷ []) w).number state ∷ []) []) (picked is others (node_in order (owning order (state ∷ []) w) body))
        (state_none others state w (state_fits state body w (fits state)) parts.0)
        (node_none body (owning order (state ∷ []) w) h (λ n. (part_fits w.copy (occurrences n (state ∷ [])) (copies_in body n) (occurrences n order) (fits n)).1) parts.1)
    node_none (branch test first second) w h fits e =
        let parts = one_none (picked is others first) (picked is others second) e in
        two_none (picked is others (node_in order w first)) (picked is others (node_in order w second))
        (node_none first w h.0 (λ n. (part_fits w.copy (copies_in first n) (copies_in second n) (occurrences n order) (fits n)).0) parts.0)
        (node_none second w h.1 (λ n. (part_fits w.copy (copies_in first n) (copies_in second n) (occurrences n order) (fits n)).1) parts.1)
    node_none (load d n spans) w h fits e = refl
    node_none (store d n spans) w h fits e = refl
    node_none (sparse kind d n index spans count par) w h fits e = refl

    left_none : (stages : PlainStages) (w : Within) → OwnInLanes stages → Fits order (copies_in_stages stages) w → occurrences m (picked_in is others stages) ≡ 0 → occurrences i (picked_in is others (left_as_they_are order w stages)) ≡ 0
    left_none no_stage w h fits e = refl
    left_none (more_stage first last true node rest) w h fits e =
        let parts = one_none (picked is others node) (picked_in is others rest) e in
        two_none (picked is others (node_in order w node)) (picked_in is others (left_as_they_are order w rest))
        (node_none node w h.1 (λ n. (part_fits w.copy (copies_in node n) (copies_in_stages rest n) (occurrences n order) (fits n)).0) parts.0)
        (left_none rest w h.2 (λ n. (part_fits w.copy (copies_in node n) (copies_in_stages rest n) (occurrences n order) (fits n)).1) parts.1)
    left_none (more_stage first last false node rest) w h fits e =
        let parts = one_none (picked is others node) (picked_in is others rest) e in
        two_none (picked is others (node_in order w node)) (picked_in is others (left_as_they_are order w rest))
        (node_none node w h.0 (λ n. (part_fits w.copy (copies_in node n) (copies_in_stages rest n) (occurrences n order) (fits n)).0) parts.0)
        (left_none rest w h.1 (λ n. (part_fits w.copy (copies_in node n) (copies_in_stages rest n) (occurrences n order) (fits n)).1) parts.1)

    nodes_none : (stages : PlainStages) (w : Within) → OwnInLanes stages → Fits order (copies_in_stages stages) w → occurrences m (picked_in is others stages) ≡ 0 → occurrences i (flat_map (picked is others) (nodes_in order w stages)) ≡ 0
    nodes_none no_stage w h fits e = refl
    nodes_none (more_stage first last true node rest) w h fits e =
        nodes_none rest w h.2 (λ n. (part_fits w.copy (copies_in node n) (copies_in_stages rest n) (occurrences n order) (fits n)).1) (one_none (picked is others node) (picked_in is others rest) e).1
    nodes_none (more_stage first last false node rest) w h fits e =
        let parts = one_none (picked is others node) (picked_in is others rest) e in
        two_none (picked is others (node_in order w node)) (flat_map (picked is others) (nodes_in order w rest))
        (node_none node w h.0 (λ n. (part_fits w.copy (copies_in node n) (copies_in_stages rest n) (occurrences n order) (fits n)).0) parts.0)
        (nodes_none rest w h.1 (λ n. (part_fits w.copy (copies_in node n) (copies_in_stages rest n) (occurrences n order) (fits n)).1) parts.1)
