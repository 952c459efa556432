-- The memories that some of the nodes of a core own: the bodies with stages of certain styles, and maybe all other owners.
use Rattle.std.proofs.Common.{◌≡◌, ℕ, suc, ◌+◌, Bool, true, false, cond, not, ◌||◌, List, [], ◌∷◌, ◌++◌, map, refl, sym, ◌∙◌, ap, arith, inl, inr, ◌==◌}
use Rattle.std.proofs.lemmas.Bool.{ne_eqb}
use Rattle.std.proofs.lemmas.Bool.Decides.{eqb_tells}
use Rattle.std.specs.Prelude.{flat_map, option_map}
use Rattle.sp_words.specs.declared.kind.Style.{Style}
use Rattle.sp_core.specs.Declarations.{is_stream, streamed, streamed_in, is_among}
use Rattle.sp_core.specs.Invariant.{owned_in, owned_in_stages}
use Rattle.sp_core.specs.PlainCore.{PlainCounter, PlainNode, PlainStages, inner, outer, fsm, branch, load, store, sparse, no_stage, more_stage}
use Rattle.sp_lanes.specs.Unrolled.{stages_in, stages_by_lane, stage_after, combination_of, combination_in}
use Rattle.sp_lanes.specs.Within.{Within, in_lane}
use Rattle.sp_lane_rules.specs.Copies.{one_if, occurrences, OwnInLanes}
use Rattle.sp_lane_rules.proofs.CopiesCounts.{count_append}

module _ (is : Style → Bool) (others : Bool) where
  abbrev mutual
    pub picked : PlainNode → List ℕ
    picked (inner counters owned ops comb) = cond others owned []
    picked (outer counters style owned stages) = cond (is style) owned [] ++ picked_in stages
    picked (fsm start state test body next) = cond others (state ∷ []) [] ++ picked body
    picked (branch test first second) = picked first ++ picked second
    picked _ = []

    pub picked_in : PlainStages → List ℕ
    picked_in no_stage = []
    picked_in (more_stage first last comb node rest) = picked node ++ picked_in rest

-- those that `Stream` blocks own
mutual
  pub streamed_is : (node : PlainNode) → streamed node ≡ picked is_stream false node
  streamed_is (inner counters owned ops comb) = refl
  streamed_is (outer counters style owned stages) = ap (λ xs. cond (is_stream style) owned [] ++ xs) (streamed_are stages)
  streamed_is (fsm start state test body next) = streamed_is body
  streamed_is (branch test first second) = ap (λ xs. xs ++ streamed second) (streamed_is first) ∙ ap (λ ys. picked is_stream false first ++ ys) (streamed_is second)
  streamed_is (load d n spans) = refl
  streamed_is (store d n spans) = refl
  streamed_is (sparse kind d n index spans count par) = refl

  streamed_are : (stages : PlainStages) → streamed_in stages ≡ picked_in is_stream false stages
  streamed_are no_stage = refl
  streamed_are (more_stage first last comb node rest) = ap (λ xs. xs ++ streamed_in rest) (streamed_is node) ∙ ap (λ ys. picked is_stream false node ++ ys) (streamed_are rest)

pub others_than : (Style → Bool) → Style → Bool
others_than is style = not (is style)

-- what is owned is of the ones or of the others
module _ (i : ℕ) (is : Style → Bool) (others : Bool) where
  either_count : (b : Bool) (xs : List ℕ) → occurrences i xs ≡ occurrences i (cond b xs []) + occurrences i (cond (not b) xs [])
  either_count true xs = omega arith
  either_count false xs = omega arith

  mutual
    unfolding others_than

    pub both_count : (node : PlainNode) → occurrences i (owned_in node) ≡ occurrences i (picked is others node) + occurrences i (picked (others_than is) (not others) node)
    both_count (inner counters owned ops comb) = either_count others owned
    both_count (outer counters style owned stages) =
        omega (
          arith,
          count_append i owned (owned_in_stages stages),
          count_append i (cond (is style) owned []) (picked_in is others stages),
          count_append i (cond (not (is style)) owned []) (picked_in (others_than is) (not others) stages),
          either_count (is style) owned,
          both_counts stages,
        )
    both_count (fsm start state test body next) =
        omega (
          arith,
          count_append i (state ∷ []) (owned_in body),
          count_append i (cond others (state ∷ []) []) (picked is others body),
          count_append i (cond (not others) (state ∷ []) []) (picked (others_than is) (not others) body),
          either_count others (state ∷ []),
          both_count body,
        )
    both_count (branch test first second) =
        omega (
          arith,
          count_append i (owned_in first) (owned_in second),
          count_append i (picked is others first) (picked is others second),
          count_append i (picked (others_than is) (not others) first) (picked (others_than is) (not others) second),
          both_count first,
          both_count second,
        )
    both_count (load d n spans) = refl
    both_count (store d n spans) = refl
    both_count (sparse kind d n index spans count par) = refl

    pub both_counts : (stages : PlainStages) → occurrences i (owned_in_stages stages) ≡ occurrences i (picked_in is others stages) + occurrences i (picked_in (others_than is) (not others) stages)
    both_counts no_stage = refl
    both_counts (more_stage first last comb node rest) =
        omega (
          arith,
          count_append i (owned_in node) (owned_in_stages rest),
          count_append i (picked is others node) (picked_in is others rest),
          count_append i (picked (others_than is) (not others) node) (picked_in (others_than is) (not others) rest),
          both_count node,
          both_counts rest,
        )

  -- stages of lanes one after the other
  count_stages_in : (l : ℕ) (nodes : List PlainNode) (rest : PlainStages)
      → occurrences i (picked_in is others (stages_in l nodes rest)) ≡ occurrences i (flat_map (picked is others) nodes) + occurrences i (picked_in is others rest)
  count_stages_in l [] rest = omega arith
  count_stages_in l (node ∷ nodes) rest =
      omega (arith, count_append i (picked is others node) (picked_in is others (stages_in l nodes rest)), count_append i (picked is others node) (flat_map (picked is others) nodes), count_stages_in l nodes rest)

  pub count_by_lane : (l : ℕ) (f : ℕ → List PlainNode) (xs : List ℕ) (rest : PlainStages)
      → occurrences i (picked_in is others (stages_by_lane l (map f xs) rest)) ≡ occurrences i (flat_map (λ x. flat_map (picked is others) (f x)) xs) + occurrences i (picked_in is others rest)
  count_by_lane l f [] rest = omega arith
  count_by_lane l f (x ∷ xs) rest =
      omega (
        arith,
        count_stages_in l (f x) (stages_by_lane (suc l) (map f xs) rest),
        count_append i (flat_map (picked is others) (f x)) (flat_map (λ x. flat_map (picked is others) (f x)) xs),
        count_by_lane (suc l) f xs rest,
      )

  -- what owns nothing has nothing picked
  nothing_picked : (node : PlainNode) → owned_in node ≡ [] → occurrences i (picked is others node) ≡ 0
  nothing_picked node e = let none : occurrences i (owned_in node) ≡ 0 = ap (occurrences i) e in omega (arith, none, both_count node)

  either_none : (b : Bool) (xs : List ℕ) → xs ≡ [] → occurrences i (cond b xs []) ≡ 0
  either_none true xs e = ap (occurrences i) e
  either_none false xs e = refl

  -- nor has a combination
  module _ (order : List ℕ) where
    combination_none : (counters : List PlainCounter) (owned : List ℕ) (w : Within) (node : PlainNode) → owned_in node ≡ [] → occurrences i (picked is others (combination_in order w counters owned node)) ≡ 0
    combination_none counters owned w (inner own_counters own ops comb) e = either_none others (map (in_lane order counters owned w 0).number own) (ap (map (in_lane order counters owned w 0).number) e)
    combination_none counters owned w (outer own_counters style own stages) e = nothing_picked (outer own_counters style own stages) e
    combination_none counters owned w (fsm start state test body next) e = nothing_picked (fsm start state test body next) e
    combination_none counters owned w (branch test first second) e = nothing_picked (branch test first second) e
    combination_none counters owned w (load d n spans) e = refl
    combination_none counters owned w (store d n spans) e = refl
    combination_none counters owned w (sparse kind d n index spans count par) e = refl

    pub combined_none : (counters : List PlainCounter) (owned : List ℕ) (w : Within) (lanes : ℕ) (stages : PlainStages) → OwnInLanes stages
        → occurrences i (picked_in is others (stage_after lanes (option_map (combination_in order w counters owned) (combination_of stages)))) ≡ 0
    combined_none counters owned w lanes no_stage h = refl
    combined_none counters owned w lanes (more_stage first last true node rest) h =
        omega (arith, count_append i (picked is others (combination_in order w counters owned node)) [], combination_none counters owned w node h.0)
    combined_none counters owned w lanes (more_stage first last false node rest) h = combined_none counters owned w lanes rest h.1

pub none_among : (x : ℕ) (xs : List ℕ) → occurrences x xs ≡ 0 → is_among x xs ≡ false
none_among x [] e = refl
none_among x (y ∷ ys) e = elim (eqb_tells y x) [
  | inl same ↦ absurd (let one : one_if (y == x) ≡ 1 = ap one_if same.0 in omega (arith, one, e))
  | inr apart ↦ ap (λ b. b || is_among x ys) (ne_eqb x y (λ s. apart.1 (sym s))) ∙ none_among x ys (let none : one_if (y == x) ≡ 0 = ap one_if apart.0 in omega (arith, none, e))
]
