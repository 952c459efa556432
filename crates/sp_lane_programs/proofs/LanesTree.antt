-- In lanes each loop uses what it owns lane by lane.
use Rattle.std.proofs.Common.{◌≡◌, ◌⊎◌, ℕ, zero, suc, ◌+◌, ◌<◌, ◌≤◌, Bool, true, false, List, [], ◌∷◌, ◌++◌, length, map, Option, Some, None, refl, sym, ◌∙◌, ap, subst, arith, inl, inr, ◌==◌}
use Rattle.std.proofs.lemmas.Bool.{and_parts, true≢false, eq-eqb, eqb-true, eqb-false}
use Rattle.std.proofs.lemmas.Bool.Decides.{eqb_tells}
use Rattle.std.specs.Prelude.{option_map}
use Rattle.sp_words.specs.declared.kind.Style.{Style}
use Rattle.sp_tree.specs.Invariant.{IsProgram}
use Rattle.sp_tree.specs.PlainProgram.{PlainProgram}
use Rattle.sp_core.specs.Around.{Around, nothing, within, lanes_of}
use Rattle.sp_core.specs.Declarations.{is_among}
use Rattle.sp_core.specs.Elements.{numbers_below}
use Rattle.sp_core.specs.Invariant.{IsCore, IsRight, owned_in}
use Rattle.sp_core.specs.NodeRules.{with_state, are_counters_right, are_lanes_right, is_owned_once, is_node_right}
use Rattle.sp_core.specs.PlainCore.{PlainCounter, PlainNode, PlainStages, inner, outer, fsm, branch, load, store, sparse, no_stage, more_stage, PlainCore}
use Rattle.sp_sugar.specs.Core.{core_of}
use Rattle.sp_sugar.proofs.Cores.{core_is_right}
use Rattle.sp_lanes.specs.Order.{memory_order}
use Rattle.sp_lanes.specs.Unrolled.{unrolled, stages_in, stages_by_lane, stage_after, combination_of, owned_in_lanes, combination_in, node_in, left_as_they_are, nodes_in}
use Rattle.sp_lanes.specs.Within.{Within, outside, owning, in_lane, counters_in}
use Rattle.sp_lane_rules.specs.Copies.{OwnsInLanes, OwnInLanes}
use Rattle.sp_lane_rules.specs.UnrolledRight.{EachRight}
use Rattle.sp_lane_rules.proofs.UnrolledPlaces.{lanes_kept}
use Rattle.sp_lane_rules.proofs.UnrolledTree.{lanes_positive}
use Rattle.sp_lane_rules.proofs.UnrolledWhole.{each_right}
use Rattle.sp_lane_cores.proofs.LanedMarked.{programs_laned}
use Rattle.sp_lane_cores.proofs.LanedPorts.{may_have_lanes}
use Rattle.sp_lane_rules.specs.CombinedStanding.{numbers_of, MayFollow, Combines, Combine}
use Rattle.sp_lane_rules.proofs.CombinedFollowing.{ZeroBut, zero_inside}
use Rattle.sp_lane_rules.proofs.CombinedTree.{node_kept}
use Rattle.sp_lane_cores.proofs.Apart.{program_apart}
use Rattle.sp_lane_cores.proofs.LanedWhole.{node_combines}
use Rattle.sp_lane_groups.specs.Groups.{lanes_from}
use Rattle.sp_lane_groups.specs.InnersAlong.{StandsIn}
use Rattle.sp_lane_trees.specs.NodesLaws.{BranchesStand, FsmsStand}
use Rattle.sp_lane_trees.specs.OutersLaws.{OutersStand}
use Rattle.sp_lane_trees.specs.OutersStages.{AllStandIn}
use Rattle.sp_lane_groups.specs.FirstLaws.{RootStands}
use Rattle.sp_plan.specs.Named.{uses}
use Rattle.sp_plan.specs.Slots.{runs_of, is_of_all, run_at}
use Rattle.sp_overlap.specs.Apart.{node_at, AreOfOneLane}
use Rattle.sp_overlap.specs.Whole.{IsByLane, AreByLane}
use Rattle.sp_overlap.proofs.Lanes.{one_lane}
use Rattle.sp_lane_programs.specs.LanesLaws.{ProgramIsByLane}
use Rattle.sp_lane_programs.proofs.LanesOwn.{IsOwn, IsOfLane, copy, lanes_apart, from_lanes}
use Rattle.sp_lane_programs.proofs.LanesPlaced.{EachOf, AreIn, lanes_in, after_in, at_place, one_lane_each}

-- stages of lanes, of which each is by lane
module _ (core : PlainCore) where
  stages_in_by : (l : ℕ) (nodes : List PlainNode) (rest : PlainStages) → EachOf (IsByLane core) nodes → AreByLane core rest → AreByLane core (stages_in l nodes rest)
  stages_in_by l [] rest h r = r
  stages_in_by l (node ∷ nodes) rest h r = (h.0, stages_in_by l nodes rest h.1 r)

  by_lanes : (lane : ℕ → List PlainNode) (rest : PlainStages) (l k : ℕ) → ((j : ℕ) → j < l + k → EachOf (IsByLane core) (lane j)) → AreByLane core rest → AreByLane core (stages_by_lane l (map lane (lanes_from l k)) rest)
  by_lanes lane rest l zero h r = r
  by_lanes lane rest l (suc k) h r = stages_in_by l (lane l) (stages_by_lane (suc l) (map lane (lanes_from (suc l) k)) rest) (h l (omega arith)) (by_lanes lane rest (suc l) k (λ j lt. h j (omega (arith, lt))) r)

-- numbers below a bound, from the first one on
lanes_end : (l k : ℕ) → lanes_from l (suc k) ≡ lanes_from l k ++ (l + k) ∷ []
lanes_end l zero = ap (λ n. n ∷ []) (plus l)
  where
    plus : (l : ℕ) → l ≡ l + 0
    plus l = omega arith
lanes_end l (suc k) = ap (λ xs. l ∷ xs) (lanes_end (suc l) k) ∙ ap (λ n. l ∷ (lanes_from (suc l) k ++ n ∷ [])) (next l k)
  where
    next : (l k : ℕ) → suc l + k ≡ l + suc k
    next l k = omega arith

numbers_are_lanes : (n : ℕ) → numbers_below n ≡ lanes_from 0 n
numbers_are_lanes zero = refl
numbers_are_lanes (suc n) = ap (λ xs. xs ++ n ∷ []) (numbers_are_lanes n) ∙ ap (λ k. lanes_from 0 n ++ k ∷ []) (none n) ∙ sym (lanes_end 0 n)
  where
    none : (n : ℕ) → n ≡ 0 + n
    none n = omega arith

-- a combination after all lanes is an inner body
after_by : (core lanes_core : PlainCore) (order numbers : List ℕ) (w : Within) (counters : List PlainCounter) (owned : List ℕ) (lanes : ℕ) (node : Option PlainNode) → MayFollow numbers node
    → AreByLane lanes_core (stage_after lanes (option_map (combination_in order w counters owned) node))
after_by core lanes_core order numbers w counters owned lanes None h = tt
after_by core lanes_core order numbers w counters owned lanes (Some (inner own_counters own ops comb)) h = (tt, tt)
after_by core lanes_core order numbers w counters owned lanes (Some (outer own_counters style own stages)) h = absurd h
after_by core lanes_core order numbers w counters owned lanes (Some (fsm start state test body next)) h = absurd h
after_by core lanes_core order numbers w counters owned lanes (Some (branch test one two)) h = absurd h
after_by core lanes_core order numbers w counters owned lanes (Some (load d m spans)) h = absurd h
after_by core lanes_core order numbers w counters owned lanes (Some (store d m spans)) h = absurd h
after_by core lanes_core order numbers w counters owned lanes (Some (sparse kind d m index spans count par)) h = absurd h

module _ (core : PlainCore) (branches_stand : BranchesStand core) (fsms_stand : FsmsStand core) (outers_stand : OutersStand core) where
  positive : (around : Around) (counters : List PlainCounter) (style : Style) (owned : List ℕ) (stages : PlainStages) (earlier : List ℕ) → IsRight core around earlier (outer counters style owned stages) → 0 < lanes_of counters
  positive around counters style owned stages earlier r =
      lanes_positive core around counters (are_lanes_right (lanes_of counters) stages) (and_parts (is_node_right core around (outer counters style owned stages)) (is_owned_once core earlier owned) r.0).0

  module _ (around inside : Around) (earlier : List ℕ) (w : Within) (counters : List PlainCounter) (style : Style) (owned : List ℕ) (stages : PlainStages) (h : StandsIn core around inside earlier w (outer counters style owned stages)) (own : OwnInLanes stages)
      (numbers : List ℕ) (zero_but : ZeroBut numbers w) (one : Combines numbers (outer counters style owned stages)) where
    abbrev in_this : ℕ → Within
    in_this l = in_lane (memory_order core) counters owned w l

    abbrev all_owned : List ℕ
    all_owned = owned_in_lanes (memory_order core) counters owned w

    -- where its stages stand
    stand : (l : ℕ) → l < lanes_of counters → AllStandIn core (within around counters owned) (within inside (counters_in w counters) all_owned) (earlier ++ owned) (in_this l) stages
    stand l lt = outers_stand around inside earlier w counters style owned stages l lt h

    right : EachRight (unrolled core) inside (node_in (memory_order core) w (outer counters style owned stages))
    right = node_kept core (outer counters style owned stages) numbers around inside w h.together zero_but h.enough one (each_right core (outer counters style owned stages) around earlier h.right)

    abbrev left : PlainStages
    left = left_as_they_are (memory_order core) (in_this 0) stages

    abbrev in_turn : List ℕ → PlainStages
    in_turn ls = stages_by_lane 0 (map (λ l. nodes_in (memory_order core) (in_this l) stages) ls) (stage_after (lanes_of counters) (option_map (combination_in (memory_order core) w counters owned) (combination_of stages)))

    abbrev laned : PlainStages → PlainNode
    laned there = outer (counters_in w counters) style all_owned there

    alone_is : (lanes_of counters == 1) ≡ true → node_in (memory_order core) w (outer counters style owned stages) ≡ laned left
    unfolding node_in
    alone_is e = ap (λ b. elim b as (λ _. PlainNode) [ true ↦ laned left | false ↦ laned (in_turn (numbers_below (lanes_of counters))) ]) e

    several_are : (lanes_of counters == 1) ≡ false → node_in (memory_order core) w (outer counters style owned stages) ≡ laned (in_turn (lanes_from 0 (lanes_of counters)))
    unfolding node_in
    several_are e =
        ap (λ b. elim b as (λ _. PlainNode) [ true ↦ laned left | false ↦ laned (in_turn (numbers_below (lanes_of counters))) ]) e ∙ ap (λ ls. laned (in_turn ls)) (numbers_are_lanes (lanes_of counters))

    lanes_right : (there : PlainStages) → node_in (memory_order core) w (outer counters style owned stages) ≡ laned there → are_lanes_right (lanes_of (counters_in w counters)) there ≡ true
    lanes_right there e =
        let r : EachRight (unrolled core) inside (laned there) = subst (EachRight (unrolled core) inside) e right in
        (and_parts (are_counters_right (unrolled core) inside (counters_in w counters)) (are_lanes_right (lanes_of (counters_in w counters)) there) r.0).1

    -- with one lane all stages are of it
    alone_apart : (lanes_of counters == 1) ≡ true → (n : ℕ) → AreOfOneLane (unrolled core) all_owned left (runs_of n left)
    alone_apart e n =
        let r : are_lanes_right (lanes_of (counters_in w counters)) left ≡ true = lanes_right left (alone_is e) in
        let single : lanes_of (counters_in w counters) ≡ 1 = lanes_kept w counters ∙ eqb-true (lanes_of counters) 1 e in
        one_lane_each (unrolled core) (counters_in w counters) all_owned left r
        (λ p q m k lt less one_p one_q own first second. (one_lane (counters_in w counters) k left r single p lt).1 ∙ sym (one_lane (counters_in w counters) k left r single q less).1) n

    abbrev Of : Combine (numbers_of counters ++ numbers) stages → ℕ → PlainNode → Type 0
    Of combine l node = IsOfLane core around inside earlier w counters style owned stages h own numbers zero_but combine stand l node

    -- with several, those that use a memory of the loop are of the lane in which it stands
    several_apart : (lanes_of counters == 1) ≡ false → Combine (numbers_of counters ++ numbers) stages → (n : ℕ) → AreOfOneLane (unrolled core) all_owned (in_turn (lanes_from 0 (lanes_of counters))) (runs_of n (in_turn (lanes_from 0 (lanes_of counters))))
    several_apart e combine n = one_lane_each (unrolled core) (counters_in w counters) all_owned there (lanes_right there (several_are e)) same n
      where
        there : PlainStages
        there = in_turn (lanes_from 0 (lanes_of counters))

        two : (n : ℕ) → 1 ≤ n → (n ≡ 1 → ⊥) → 2 ≤ n
        two n le ne = omega (arith, ne)

        more : 2 ≤ lanes_of counters
        more = two (lanes_of counters) (positive around counters style owned stages earlier h.right) (eqb-false (lanes_of counters) 1 e)

        placed : AreIn (Of combine) there
        placed = lanes_in (Of combine) (λ l. nodes_in (memory_order core) (in_this l) stages) (stage_after (lanes_of counters) (option_map (combination_in (memory_order core) w counters owned) (combination_of stages))) 0 (lanes_of counters)
            (λ j lt. lanes_apart core around inside earlier w counters style owned stages h own numbers zero_but combine stand j (omega (arith, lt))) (after_in (Of combine) (lanes_of counters) _ more)

        in_its_lane : (o j l : ℕ) → IsOwn core around inside earlier w counters style owned stages h own numbers zero_but combine stand o j → (node : PlainNode) → Of combine l node → uses (unrolled core) (copy core around inside earlier w counters style owned stages h own numbers zero_but combine stand o j) node ≡ true → l ≡ j
        in_its_lane o j l is node of u = elim (eqb_tells l j) [
          | inl s ↦ s.1
          | inr a ↦ absurd (true≢false (sym u ∙ of (o, j, is, a.1)))
        ]

        same : (p q m k : ℕ) → p < length (runs_of k there) → q < length (runs_of k there) → is_of_all (run_at (runs_of k there) p) ≡ false → is_of_all (run_at (runs_of k there) q) ≡ false → is_among m all_owned ≡ true
            → uses (unrolled core) m (node_at there p) ≡ true → uses (unrolled core) m (node_at there q) ≡ true → (run_at (runs_of k there) p).first ≡ (run_at (runs_of k there) q).first
        same p q m k lt less one_p one_q i first second =
            let f = from_lanes core around inside earlier w counters style owned stages h own numbers zero_but combine stand m i in
            in_its_lane f.0 f.1 (run_at (runs_of k there) p).first f.2 (node_at there p) (at_place (Of combine) there k p placed lt one_p) (ap (λ x. uses (unrolled core) x (node_at there p)) f.3 ∙ first)
            ∙ sym (in_its_lane f.0 f.1 (run_at (runs_of k there) q).first f.2 (node_at there q) (at_place (Of combine) there k q placed less one_q) (ap (λ x. uses (unrolled core) x (node_at there q)) f.3 ∙ second))

    outer_by : AreByLane (unrolled core) left → ((l : ℕ) → l < lanes_of counters → EachOf (IsByLane (unrolled core)) (nodes_in (memory_order core) (in_this l) stages)) → IsByLane (unrolled core) (node_in (memory_order core) w (outer counters style owned stages))
    outer_by first each = by (lanes_of counters == 1) refl
      where
        several : (lanes_of counters == 1) ≡ false → (lanes_of counters ≡ 1) ⊎ MayFollow (numbers_of counters ++ numbers) (combination_of stages) → MayFollow (numbers_of counters ++ numbers) (combination_of stages)
        several e (inl s) = absurd (true≢false (sym (eq-eqb (lanes_of counters) 1 s) ∙ e))
        several e (inr m) = m

        by : (b : Bool) → (lanes_of counters == 1) ≡ b → IsByLane (unrolled core) (node_in (memory_order core) w (outer counters style owned stages))
        by true e = subst (IsByLane (unrolled core)) (sym (alone_is e)) (alone_apart e, first)
        by false e = subst (IsByLane (unrolled core)) (sym (several_are e)) (
          several_apart e one.1,
          by_lanes (unrolled core) (λ l. nodes_in (memory_order core) (in_this l) stages) (stage_after (lanes_of counters) (option_map (combination_in (memory_order core) w counters owned) (combination_of stages))) 0 (lanes_of counters)
              (λ j lt. each j (omega (arith, lt))) (after_by core (unrolled core) (memory_order core) (numbers_of counters ++ numbers) w counters owned (lanes_of counters) (combination_of stages) (several e one.0)),
        )

  mutual
    unfolding node_in left_as_they_are nodes_in

    node_by : (node : PlainNode) (numbers : List ℕ) (around inside : Around) (earlier : List ℕ) (w : Within) → StandsIn core around inside earlier w node → OwnsInLanes node → ZeroBut numbers w → Combines numbers node → IsByLane (unrolled core) (node_in (memory_order core) w node)
    node_by (inner counters owned ops comb) numbers around inside earlier w h own zero_but one = tt
    node_by (outer counters style owned stages) numbers around inside earlier w h own zero_but one =
        outer_by around inside earlier w counters style owned stages h own numbers zero_but one
        (left_by stages (numbers_of counters ++ numbers) (within around counters owned) (within inside (counters_in w counters) (owned_in_lanes (memory_order core) counters owned w)) (earlier ++ owned) (in_lane (memory_order core) counters owned w 0)
        (outers_stand around inside earlier w counters style owned stages 0 (positive around counters style owned stages earlier h.right) h) own (zero_inside (memory_order core) numbers counters owned w 0 zero_but) one.1)
        (λ l lt. nodes_by stages (numbers_of counters ++ numbers) (within around counters owned) (within inside (counters_in w counters) (owned_in_lanes (memory_order core) counters owned w)) (earlier ++ owned) (in_lane (memory_order core) counters owned w l)
        (outers_stand around inside earlier w counters style owned stages l lt h) own (zero_inside (memory_order core) numbers counters owned w l zero_but) one.1)
    node_by (fsm start state test body next) numbers around inside earlier w h own zero_but one =
        node_by body numbers (with_state core around state) (within inside [] ((owning (memory_order core) (state ∷ []) w).number state ∷ [])) (earlier ++ state ∷ []) (owning (memory_order core) (state ∷ []) w)
        (fsms_stand around inside earlier w start state test body next h) own zero_but one
    node_by (branch test first second) numbers around inside earlier w h own zero_but one =
        let s = branches_stand around inside earlier w test first second h in
        (node_by first numbers around inside earlier w s.0 own.0 zero_but one.0, node_by second numbers around inside (earlier ++ owned_in first) w s.1 own.1 zero_but one.1)
    node_by (load d m spans) numbers around inside earlier w h own zero_but one = tt
    node_by (store d m spans) numbers around inside earlier w h own zero_but one = tt
    node_by (sparse kind d m index spans count par) numbers around inside earlier w h own zero_but one = tt

    left_by : (stages : PlainStages) (numbers : List ℕ) (around inside : Around) (earlier : List ℕ) (w : Within) → AllStandIn core around inside earlier w stages → OwnInLanes stages → ZeroBut numbers w → Combine numbers stages
        → AreByLane (unrolled core) (left_as_they_are (memory_order core) w stages)
    left_by no_stage numbers around inside earlier w h own zero_but one = tt
    left_by (more_stage first last true node rest) numbers around inside earlier w h own zero_but one =
        (node_by node numbers around inside earlier w h.0 own.1 zero_but one.0, left_by rest numbers around inside (earlier ++ owned_in node) w h.1 own.2 zero_but one.1)
    left_by (more_stage first last false node rest) numbers around inside earlier w h own zero_but one =
        (node_by node numbers around inside earlier w h.0 own.0 zero_but one.0, left_by rest numbers around inside (earlier ++ owned_in node) w h.1 own.1 zero_but one.1)

    nodes_by : (stages : PlainStages) (numbers : List ℕ) (around inside : Around) (earlier : List ℕ) (w : Within) → AllStandIn core around inside earlier w stages → OwnInLanes stages → ZeroBut numbers w → Combine numbers stages
        → EachOf (IsByLane (unrolled core)) (nodes_in (memory_order core) w stages)
    nodes_by no_stage numbers around inside earlier w h own zero_but one = tt
    nodes_by (more_stage first last true node rest) numbers around inside earlier w h own zero_but one = nodes_by rest numbers around inside (earlier ++ owned_in node) w h.1 own.2 zero_but one.1
    nodes_by (more_stage first last false node rest) numbers around inside earlier w h own zero_but one =
        (node_by node numbers around inside earlier w h.0 own.0 zero_but one.0, nodes_by rest numbers around inside (earlier ++ owned_in node) w h.1 own.1 zero_but one.1)

pub program_by : (p : PlainProgram) → BranchesStand (core_of p) → FsmsStand (core_of p) → OutersStand (core_of p) → RootStands p → IsProgram p → ProgramIsByLane p
unfolding unrolled
program_by p branches fsms outers stands h =
    let may = may_have_lanes p in
    let is : IsCore (core_of p) = core_is_right p h in
    node_by (core_of p) branches fsms outers (core_of p).root [] nothing nothing [] (outside (memory_order (core_of p))) stands may.0 (λ c e. refl)
    (node_combines (core_of p) (core_of p).root [] nothing (programs_laned p h) (program_apart p h) may.0 (each_right (core_of p) (core_of p).root nothing [] is.nodes))
