-- Each copy of a memory with one owner has one owner where lanes stand one after the other.
use Rattle.std.proofs.Common.{◌≡◌, ℕ, zero, suc, ◌+◌, ◌*◌, ◌<◌, ◌≤◌, Bool, true, false, cond, ◌||◌, List, [], ◌∷◌, ◌++◌, map, refl, sym, ◌∙◌, ap, subst, arith, ◌⊎◌, inl, inr, ◌==◌}
use Rattle.std.proofs.lemmas.Bool.{eq-eqb, eqb-true, or_right}
use Rattle.std.proofs.lemmas.Bool.Decides.{eqb_tells}
use Rattle.std.proofs.Math.Nat.{mul-le-mul_right}
use Rattle.std.specs.Prelude.{flat_map, option_map}
use Rattle.sp_words.specs.declared.kind.Style.{Style}
use Rattle.sp_core.specs.Around.{lanes_of}
use Rattle.sp_core.specs.Declarations.{is_among}
use Rattle.sp_core.specs.Elements.{numbers_below}
use Rattle.sp_core.specs.Invariant.{owned_in, owned_in_stages}
use Rattle.sp_core.specs.PlainCore.{PlainCounter, PlainNode, PlainStages, inner, outer, fsm, branch, load, store, sparse, no_stage, more_stage}
use Rattle.sp_lanes.specs.Order.{occurrence}
use Rattle.sp_lanes.specs.Unrolled.{stages_in, stages_by_lane, stage_after, combination_of, owned_in_lanes, combination_in, node_in, left_as_they_are, nodes_in}
use Rattle.sp_lanes.specs.Within.{Within, owning, in_lane, counters_in}
use Rattle.sp_lane_rules.specs.Copies.{one_if, occurrences, copies_in, copies_in_stages, OwnsInLanes, OwnInLanes}
use Rattle.sp_lane_rules.proofs.CopiesCounts.{count_append}
use Rattle.sp_lane_rules.proofs.CopiesTotals.{total, total_same, count_lanes, span, total_spans, span_either}

pub among_count : (x : ℕ) (xs : List ℕ) → 1 ≤ occurrences x xs → is_among x xs ≡ true
among_count x [] c = absurd (omega arith)
among_count x (y ∷ ys) c = elim (eqb_tells y x) [
  | inl same ↦ ap (λ b. b || is_among x ys) (eq-eqb x y (sym same.1))
  | inr apart ↦ let e : one_if (y == x) ≡ 0 = ap one_if apart.0 in or_right (x == y) (is_among x ys) (among_count x ys (omega (arith, e)))
]

-- what has no owner in a part has no copy there
mutual
  pub no_copies : (m : ℕ) (node : PlainNode) → occurrences m (owned_in node) ≡ 0 → copies_in node m ≡ 0
  no_copies m (inner counters owned ops comb) e = ap (λ n. lanes_of counters * n) e ∙ omega arith
  no_copies m (outer counters style owned stages) e =
      ap (λ n. lanes_of counters * n) (omega (arith, e, count_append m owned (owned_in_stages stages), no_copies_of m stages (omega (arith, e, count_append m owned (owned_in_stages stages))))) ∙ times_none (lanes_of counters)
    where
      times_none : (n : ℕ) → n * 0 ≡ 0
      times_none n = omega arith
  no_copies m (fsm start state test body next) e = omega (arith, e, no_copies m body (omega (arith, e)))
  no_copies m (branch test first second) e =
      let c : occurrences m (owned_in first ++ owned_in second) ≡ occurrences m (owned_in first) + occurrences m (owned_in second) = count_append m (owned_in first) (owned_in second) in
      omega (arith, no_copies m first (omega (arith, e, c)), no_copies m second (omega (arith, e, c)))
  no_copies m (load d n spans) e = refl
  no_copies m (store d n spans) e = refl
  no_copies m (sparse kind d n index spans count par) e = refl

  pub no_copies_of : (m : ℕ) (stages : PlainStages) → occurrences m (owned_in_stages stages) ≡ 0 → copies_in_stages stages m ≡ 0
  no_copies_of m no_stage e = refl
  no_copies_of m (more_stage first last comb node rest) e =
      let c : occurrences m (owned_in node ++ owned_in_stages rest) ≡ occurrences m (owned_in node) + occurrences m (owned_in_stages rest) = count_append m (owned_in node) (owned_in_stages rest) in
      omega (arith, no_copies m node (omega (arith, e, c)), no_copies_of m rest (omega (arith, e, c)))

-- bounds of copies, lane by lane
pub lane_fits : (c p l o s t : ℕ) → l < p → (c + 1) * (p * (o + s)) ≤ t → (c * p + l + 1) * s ≤ t
lane_fits c p l o s t lt le =
    let a : (c * p + l + 1) * s ≤ (c * p + p) * s = mul-le-mul_right s (omega arith) in
    let b : (c * p + p) * s ≤ (c * p + p) * (o + s) = grind arith in
    omega (arith, a, b)

pub own_fits : (c p l o s t : ℕ) → l < p → 1 ≤ o → (c + 1) * (p * (o + s)) ≤ t → c * p + l < t
own_fits c p l o s t lt one le =
    let a : 1 * (c * p + p) ≤ (o + s) * (c * p + p) = mul-le-mul_right (c * p + p) (omega arith) in
    omega (arith, a)

pub part_fits : (c a b t : ℕ) → (c + 1) * (a + b) ≤ t → ((c + 1) * a ≤ t) × ((c + 1) * b ≤ t)
part_fits c a b t le = (omega arith, omega arith)

one_side : (a b : ℕ) → a + b ≤ 1 → (a ≡ 0) ⊎ (b ≡ 0)
one_side zero b le = inl refl
one_side (suc a) b le = inr (omega arith)

side : (a b x y : ℕ) → a + b ≤ 1 → (a ≡ 0 → x ≡ 0) → (b ≡ 0 → y ≡ 0) → (x ≡ 0) ⊎ (y ≡ 0)
side a b x y le f g = elim (one_side a b le) [
  | inl e ↦ inl (f e)
  | inr e ↦ inr (g e)
]

total_times : (o base k n : ℕ) → total (λ l. o * one_if ((base + l) == k)) n ≡ o * span base n k
total_times o base k zero = omega arith
total_times o base k (suc n) = omega (arith, total_times o base k n)

own_span : (o c p k : ℕ) → o ≤ 1 → o * span (c * p) p k ≡ span (c * (p * o)) (p * o) k
own_span zero c p k le = omega arith ∙ sym (ap (λ n. span (c * (p * 0)) n k) {x = p * 0} {y = 0} (omega arith))
own_span (suc zero) c p k le = omega arith ∙ sym (ap (λ n. span (c * n) n k) {x = p * 1} {y = p} (omega arith))
own_span (suc (suc o)) c p k le = absurd (omega arith)

lane_spans : (c p s k : ℕ) → total (λ l. span ((c * p + l) * s) s k) p ≡ span (c * (p * s)) (p * s) k
lane_spans c p s k =
    total_same (λ l. span ((c * p + l) * s) s k) (λ l. span (c * (p * s) + l * s) s k) p (λ l lt. ap (λ a. span a s k) (regrouped c p l s))
    ∙ total_spans (c * (p * s)) s k p
  where
    regrouped : (c p l s : ℕ) → (c * p + l) * s ≡ c * (p * s) + l * s
    regrouped c p l s = omega arith

single_total : (f : ℕ → ℕ) (p : ℕ) → p ≡ 1 → total f p ≡ f 0
single_total f p e = ap (total f) e ∙ omega arith

-- what a controller owns, and what its lanes own
lanes_joined : (o s c p k a b : ℕ) → o ≤ 1 → (o ≡ 0) ⊎ (s ≡ 0) → a ≡ o * span (c * p) p k → b ≡ total (λ l. span ((c * p + l) * s) s k) p → a + b ≡ span (c * (p * (o + s))) (p * (o + s)) k
lanes_joined o s c p k a b le either e f =
    ap (λ x. x + b) (e ∙ own_span o c p k le) ∙ ap (λ y. span (c * (p * o)) (p * o) k + y) (f ∙ lane_spans c p s k)
    ∙ span_either c (p * o) (p * s) k (elim either [ inl x ↦ inl (ap (λ n. p * n) x ∙ omega arith) | inr y ↦ inr (ap (λ n. p * n) y ∙ omega arith) ])
    ∙ ap (λ n. span (c * n) n k) {x = p * o + p * s} {y = p * (o + s)} (omega arith)

-- stages of lanes one after the other
count_stages_in : (i l : ℕ) (nodes : List PlainNode) (rest : PlainStages) → occurrences i (owned_in_stages (stages_in l nodes rest)) ≡ occurrences i (flat_map owned_in nodes) + occurrences i (owned_in_stages rest)
count_stages_in i l [] rest = omega arith
count_stages_in i l (node ∷ nodes) rest =
    omega (arith, count_append i (owned_in node) (owned_in_stages (stages_in l nodes rest)), count_append i (owned_in node) (flat_map owned_in nodes), count_stages_in i l nodes rest)

count_by_lane : (i l : ℕ) (f : ℕ → List PlainNode) (xs : List ℕ) (rest : PlainStages)
    → occurrences i (owned_in_stages (stages_by_lane l (map f xs) rest)) ≡ occurrences i (flat_map (λ x. flat_map owned_in (f x)) xs) + occurrences i (owned_in_stages rest)
count_by_lane i l f [] rest = omega arith
count_by_lane i l f (x ∷ xs) rest =
    omega (arith, count_stages_in i l (f x) (stages_by_lane (suc l) (map f xs) rest), count_append i (flat_map owned_in (f x)) (flat_map (λ x. flat_map owned_in (f x)) xs), count_by_lane i (suc l) f xs rest)

module _ (order : List ℕ) where
  -- a combination owns nothing
  combination_owns : (i : ℕ) (counters : List PlainCounter) (owned : List ℕ) (w : Within) (node : PlainNode) → owned_in node ≡ [] → occurrences i (owned_in (combination_in order w counters owned node)) ≡ 0
  combination_owns i counters owned w (inner own_counters own ops comb) e = ap (λ xs. occurrences i (map (in_lane order counters owned w 0).number xs)) e
  combination_owns i counters owned w (outer own_counters style own stages) e = ap (occurrences i) e
  combination_owns i counters owned w (fsm start state test body next) e = ap (occurrences i) e
  combination_owns i counters owned w (branch test first second) e = ap (occurrences i) e
  combination_owns i counters owned w (load d n spans) e = refl
  combination_owns i counters owned w (store d n spans) e = refl
  combination_owns i counters owned w (sparse kind d n index spans count par) e = refl

  combined_owns : (i : ℕ) (counters : List PlainCounter) (owned : List ℕ) (w : Within) (lanes : ℕ) (stages : PlainStages) → OwnInLanes stages
      → occurrences i (owned_in_stages (stage_after lanes (option_map (combination_in order w counters owned) (combination_of stages)))) ≡ 0
  combined_owns i counters owned w lanes no_stage h = refl
  combined_owns i counters owned w lanes (more_stage first last true node rest) h =
      omega (arith, count_append i (owned_in (combination_in order w counters owned node)) [], combination_owns i counters owned w node h.0)
  combined_owns i counters owned w lanes (more_stage first last false node rest) h = combined_owns i counters owned w lanes rest h.1

  -- the copies of a part at a place stand in the order
  abbrev pub Fits : (ℕ → ℕ) → Within → Type 0
  Fits copies w = (n : ℕ) → (w.copy + 1) * copies n ≤ occurrences n order

  -- a number is that of a copy of one memory, or of none
  module _ (i m k : ℕ) (tells : (x j : ℕ) → j < occurrences x order → one_if (occurrence x j order == i) ≡ one_if (x == m) * one_if (j == k)) where
    owned_there : (num : ℕ → ℕ) (j : ℕ) (xs : List ℕ) → ((x : ℕ) → 1 ≤ occurrences x xs → (num x ≡ occurrence x j order) × (j < occurrences x order))
        → occurrences i (map num xs) ≡ occurrences m xs * one_if (j == k)
    owned_there num j [] h = omega arith
    owned_there num j (x ∷ xs) h =
        let self : 1 ≤ occurrences x (x ∷ xs) = (let e : one_if (x == x) ≡ 1 = ap one_if (eq-eqb x x refl) in omega (arith, e)) in
        let here : one_if (num x == i) ≡ one_if (x == m) * one_if (j == k) = ap (λ y. one_if (y == i)) (h x self).0 ∙ tells x j (h x self).1 in
        omega (arith, here, owned_there num j xs (λ y c. h y (omega arith)))

    own_lane : (counters : List PlainCounter) (owned : List ℕ) (w : Within) (l : ℕ) → ((n : ℕ) → 1 ≤ occurrences n owned → w.copy * lanes_of counters + l < occurrences n order)
        → occurrences i (map (in_lane order counters owned w l).number owned) ≡ occurrences m owned * one_if ((w.copy * lanes_of counters + l) == k)
    own_lane counters owned w l h =
        owned_there (in_lane order counters owned w l).number (w.copy * lanes_of counters + l) owned
        (λ x c. (ap (λ b. cond b (occurrence x (w.copy * lanes_of counters + l) order) (w.number x)) (among_count x owned c), h x c))

    own_lanes : (counters : List PlainCounter) (owned : List ℕ) (w : Within) (s : ℕ → ℕ) → Fits (λ n. lanes_of counters * (occurrences n owned + s n)) w
        → occurrences i (owned_in_lanes order counters owned w) ≡ occurrences m owned * span (w.copy * lanes_of counters) (lanes_of counters) k
    own_lanes counters owned w s fits =
        count_lanes (λ l. map (in_lane order counters owned w l).number owned) i (lanes_of counters)
        ∙ total_same (λ l. occurrences i (map (in_lane order counters owned w l).number owned)) (λ l. occurrences m owned * one_if ((w.copy * lanes_of counters + l) == k)) (lanes_of counters)
        (λ l lt. own_lane counters owned w l (λ n c. own_fits w.copy (lanes_of counters) l (occurrences n owned) (s n) (occurrences n order) lt c (fits n)))
        ∙ total_times (occurrences m owned) (w.copy * lanes_of counters) k (lanes_of counters)

    -- a stage and those after it
    parts_own : (node : PlainNode) (rest : PlainStages) (c : ℕ) (xs ys : List ℕ) → occurrences m (owned_in node ++ owned_in_stages rest) ≤ 1
        → (occurrences m (owned_in node) ≤ 1 → occurrences i xs ≡ span (c * copies_in node m) (copies_in node m) k)
        → (occurrences m (owned_in_stages rest) ≤ 1 → occurrences i ys ≡ span (c * copies_in_stages rest m) (copies_in_stages rest m) k)
        → occurrences i (xs ++ ys) ≡ span (c * (copies_in node m + copies_in_stages rest m)) (copies_in node m + copies_in_stages rest m) k
    parts_own node rest c xs ys one f g =
        let split : occurrences m (owned_in node ++ owned_in_stages rest) ≡ occurrences m (owned_in node) + occurrences m (owned_in_stages rest) = count_append m (owned_in node) (owned_in_stages rest) in
        omega (
          arith,
          count_append i xs ys,
          f (omega (arith, one, split)),
          g (omega (arith, one, split)),
          span_either c (copies_in node m) (copies_in_stages rest m) k (side (occurrences m (owned_in node)) (occurrences m (owned_in_stages rest)) (copies_in node m) (copies_in_stages rest m) (omega (arith, one, split)) (no_copies m node) (no_copies_of m rest)),
        )

    -- a body, by what it does in one lane and in several
    outer_owns : (counters : List PlainCounter) (style : Style) (owned : List ℕ) (stages : PlainStages) (w : Within) → OwnInLanes stages → occurrences m (owned ++ owned_in_stages stages) ≤ 1
        → Fits (copies_in (outer counters style owned stages)) w
        → ((l : ℕ) → Fits (copies_in_stages stages) (in_lane order counters owned w l) → occurrences m (owned_in_stages stages) ≤ 1
        → occurrences i (owned_in_stages (left_as_they_are order (in_lane order counters owned w l) stages)) ≡ span ((w.copy * lanes_of counters + l) * copies_in_stages stages m) (copies_in_stages stages m) k)
        → ((l : ℕ) → Fits (copies_in_stages stages) (in_lane order counters owned w l) → occurrences m (owned_in_stages stages) ≤ 1
        → occurrences i (flat_map owned_in (nodes_in order (in_lane order counters owned w l) stages)) ≡ span ((w.copy * lanes_of counters + l) * copies_in_stages stages m) (copies_in_stages stages m) k)
        → occurrences i (owned_in (node_in order w (outer counters style owned stages))) ≡ span (w.copy * copies_in (outer counters style owned stages) m) (copies_in (outer counters style owned stages) m) k
    unfolding node_in left_as_they_are nodes_in
    outer_owns counters style owned stages w h one fits left lanes = by (lanes_of counters == 1) refl
      where
        split : occurrences m (owned ++ owned_in_stages stages) ≡ occurrences m owned + occurrences m (owned_in_stages stages)
        split = count_append m owned (owned_in_stages stages)

        joined : (b : ℕ) → b ≡ total (λ l. span ((w.copy * lanes_of counters + l) * copies_in_stages stages m) (copies_in_stages stages m) k) (lanes_of counters)
            → occurrences i (owned_in_lanes order counters owned w) + b ≡ span (w.copy * copies_in (outer counters style owned stages) m) (copies_in (outer counters style owned stages) m) k
        joined b e =
            lanes_joined (occurrences m owned) (copies_in_stages stages m) w.copy (lanes_of counters) k (occurrences i (owned_in_lanes order counters owned w)) b (omega (arith, one, split))
            (side (occurrences m owned) (occurrences m (owned_in_stages stages)) (occurrences m owned) (copies_in_stages stages m) (omega (arith, one, split)) (λ e. e) (no_copies_of m stages))
            (own_lanes counters owned w (copies_in_stages stages) fits) e

        below : (l : ℕ) → l < lanes_of counters → Fits (copies_in_stages stages) (in_lane order counters owned w l)
        below l lt n = lane_fits w.copy (lanes_of counters) l (occurrences n owned) (copies_in_stages stages n) (occurrences n order) lt (fits n)

        after : PlainStages
        after = stage_after (lanes_of counters) (option_map (combination_in order w counters owned) (combination_of stages))

        in_each : ℕ → List PlainNode
        in_each l = nodes_in order (in_lane order counters owned w l) stages

        by : (b : Bool) → (lanes_of counters == 1) ≡ b → occurrences i (owned_in (elim b as (λ _. PlainNode) [
          | true ↦ outer (counters_in w counters) style (owned_in_lanes order counters owned w) (left_as_they_are order (in_lane order counters owned w 0) stages)
          | false ↦ outer (counters_in w counters) style (owned_in_lanes order counters owned w) (stages_by_lane 0 (map in_each (numbers_below (lanes_of counters))) after)
        ])) ≡ span (w.copy * copies_in (outer counters style owned stages) m) (copies_in (outer counters style owned stages) m) k
        by true e =
            let single : lanes_of counters ≡ 1 = eqb-true (lanes_of counters) 1 e in
            count_append i (owned_in_lanes order counters owned w) (owned_in_stages (left_as_they_are order (in_lane order counters owned w 0) stages))
            ∙ joined (occurrences i (owned_in_stages (left_as_they_are order (in_lane order counters owned w 0) stages)))
            (left 0 (below 0 (omega (arith, single))) (omega (arith, one, split))
            ∙ sym (single_total (λ l. span ((w.copy * lanes_of counters + l) * copies_in_stages stages m) (copies_in_stages stages m) k) (lanes_of counters) single))
        by false e =
            count_append i (owned_in_lanes order counters owned w) (owned_in_stages (stages_by_lane 0 (map in_each (numbers_below (lanes_of counters))) after))
            ∙ joined (occurrences i (owned_in_stages (stages_by_lane 0 (map in_each (numbers_below (lanes_of counters))) after)))
            (count_by_lane i 0 in_each (numbers_below (lanes_of counters)) after
            ∙ ap (λ x. occurrences i (flat_map (λ l. flat_map owned_in (in_each l)) (numbers_below (lanes_of counters))) + x) (combined_owns i counters owned w (lanes_of counters) stages h)
            ∙ omega arith
            ∙ count_lanes (λ l. flat_map owned_in (in_each l)) i (lanes_of counters)
            ∙ total_same (λ l. occurrences i (flat_map owned_in (in_each l))) (λ l. span ((w.copy * lanes_of counters + l) * copies_in_stages stages m) (copies_in_stages stages m) k) (lanes_of counters) (λ l lt. lanes l (below l lt) (omega (arith, one, split))))

    state_fits : (c o b t : ℕ) → 1 ≤ o → (c + 1) * (o + b) ≤ t → c < t
    state_fits c o b t one le = let a : 1 * (c + 1) ≤ (o + b) * (c + 1) = mul-le-mul_right (c + 1) (omega arith) in omega (arith, a)

    state_span : (o c k : ℕ) → o ≤ 1 → o * one_if (c == k) ≡ span (c * o) o k
    state_span zero c k le = omega arith
    state_span (suc zero) c k le = let e : one_if ((c * 1 + 0) == k) ≡ one_if (c == k) = ap (λ x. one_if (x == k)) {x = c * 1 + 0} {y = c} (omega arith) in omega (arith, e)
    state_span (suc (suc o)) c k le = absurd (omega arith)

    mutual
      unfolding node_in left_as_they_are nodes_in

      pub node_owns : (node : PlainNode) (w : Within) → OwnsInLanes node → occurrences m (owned_in node) ≤ 1 → Fits (copies_in node) w
          → occurrences i (owned_in (node_in order w node)) ≡ span (w.copy * copies_in node m) (copies_in node m) k
      node_owns (inner counters owned ops comb) w h one fits =
          own_lanes counters owned w (λ n. 0) (λ n. subst (λ x. (w.copy + 1) * (lanes_of counters * x) ≤ occurrences n order) {x = occurrences n owned} {y = occurrences n owned + 0} (omega arith) (fits n))
          ∙ own_span (occurrences m owned) w.copy (lanes_of counters) k one
      node_owns (outer counters style owned stages) w h one fits =
          outer_owns counters style owned stages w h one fits (λ l f o. left_own stages (in_lane order counters owned w l) h o f) (λ l f o. nodes_own stages (in_lane order counters owned w l) h o f)
      node_owns (fsm start state test body next) w h one fits =
          let o = occurrences m (state ∷ []) in
          let b = copies_in body m in
          let own : occurrences i (map (owning order (state ∷ []) w).number (state ∷ [])) ≡ o * one_if (w.copy == k) =
          owned_there (owning order (state ∷ []) w).number w.copy (state ∷ [])
          (λ x c. (ap (λ t. cond t (occurrence x w.copy order) (w.number x)) (among_count x (state ∷ []) c), state_fits w.copy (occurrences x (state ∷ [])) (copies_in body x) (occurrences x order) c (fits x))) in
          let inside : occurrences i (owned_in (node_in order (owning order (state ∷ []) w) body)) ≡ span (w.copy * b) b k =
          node_owns body (owning order (state ∷ []) w) h (omega arith) (λ n. (part_fits w.copy (occurrences n (state ∷ [])) (copies_in body n) (occurrences n order) (fits n)).1) in
          omega (
            arith,
            own,
            inside,
            state_span o w.copy k (omega arith),
            span_either w.copy o b k (side o (occurrences m (owned_in body)) o b (omega (arith, one)) (λ e. e) (no_copies m body)),
          )
      node_owns (branch test first second) w h one fits =
          let split : occurrences m (owned_in first ++ owned_in second) ≡ occurrences m (owned_in first) + occurrences m (owned_in second) = count_append m (owned_in first) (owned_in second) in
          let fit = λ (n : ℕ). part_fits w.copy (copies_in first n) (copies_in second n) (occurrences n order) (fits n) in
          let a : occurrences i (owned_in (node_in order w first)) ≡ span (w.copy * copies_in first m) (copies_in first m) k = node_owns first w h.0 (omega (arith, one, split)) (λ n. (fit n).0) in
          let b : occurrences i (owned_in (node_in order w second)) ≡ span (w.copy * copies_in second m) (copies_in second m) k = node_owns second w h.1 (omega (arith, one, split)) (λ n. (fit n).1) in
          omega (
            arith,
            count_append i (owned_in (node_in order w first)) (owned_in (node_in order w second)),
            a,
            b,
            span_either w.copy (copies_in first m) (copies_in second m) k (side (occurrences m (owned_in first)) (occurrences m (owned_in second)) (copies_in first m) (copies_in second m) (omega (arith, one, split)) (no_copies m first) (no_copies m second)),
          )
      node_owns (load d n spans) w h one fits = refl
      node_owns (store d n spans) w h one fits = refl
      node_owns (sparse kind d n index spans count par) w h one fits = refl

      left_own : (stages : PlainStages) (w : Within) → OwnInLanes stages → occurrences m (owned_in_stages stages) ≤ 1 → Fits (copies_in_stages stages) w
          → occurrences i (owned_in_stages (left_as_they_are order w stages)) ≡ span (w.copy * copies_in_stages stages m) (copies_in_stages stages m) k
      left_own no_stage w h one fits = refl
      left_own (more_stage first last true node rest) w h one fits = parts_own node rest w.copy (owned_in (node_in order w node)) (owned_in_stages (left_as_they_are order w rest)) one
          (λ o. node_owns node w h.1 o (λ n. (part_fits w.copy (copies_in node n) (copies_in_stages rest n) (occurrences n order) (fits n)).0))
          (λ o. left_own rest w h.2 o (λ n. (part_fits w.copy (copies_in node n) (copies_in_stages rest n) (occurrences n order) (fits n)).1))
      left_own (more_stage first last false node rest) w h one fits = parts_own node rest w.copy (owned_in (node_in order w node)) (owned_in_stages (left_as_they_are order w rest)) one
          (λ o. node_owns node w h.0 o (λ n. (part_fits w.copy (copies_in node n) (copies_in_stages rest n) (occurrences n order) (fits n)).0))
          (λ o. left_own rest w h.1 o (λ n. (part_fits w.copy (copies_in node n) (copies_in_stages rest n) (occurrences n order) (fits n)).1))

      nodes_own : (stages : PlainStages) (w : Within) → OwnInLanes stages → occurrences m (owned_in_stages stages) ≤ 1 → Fits (copies_in_stages stages) w
          → occurrences i (flat_map owned_in (nodes_in order w stages)) ≡ span (w.copy * copies_in_stages stages m) (copies_in_stages stages m) k
      nodes_own no_stage w h one fits = refl
      nodes_own (more_stage first last true node rest) w h one fits = parts_own node rest w.copy [] (flat_map owned_in (nodes_in order w rest)) one
          (λ o. sym (ap (λ x. span (w.copy * x) x k) (no_copies m node (ap (occurrences m) h.0))))
          (λ o. nodes_own rest w h.2 o (λ n. (part_fits w.copy (copies_in node n) (copies_in_stages rest n) (occurrences n order) (fits n)).1))
      nodes_own (more_stage first last false node rest) w h one fits = parts_own node rest w.copy (owned_in (node_in order w node)) (flat_map owned_in (nodes_in order w rest)) one
          (λ o. node_owns node w h.0 o (λ n. (part_fits w.copy (copies_in node n) (copies_in_stages rest n) (occurrences n order) (fits n)).0))
          (λ o. nodes_own rest w h.1 o (λ n. (part_fits w.copy (copies_in node n) (copies_in_stages rest n) (occurrences n order) (fits n)).1))
