-- The lanes of stages: which they are by a core's rules, and that the first one of a group has an iteration.
use Rattle.std.proofs.Common.{◌≡◌, ℕ, zero, suc, ◌+◌, ◌-◌, ◌*◌, ◌<◌, ◌≤◌, ◌==◌, ◌&&◌, ◌||◌, ◌⊎◌, inl, inr, Bool, true, false, nat_le, nat_lt, ℤ, pos, ◌+ℤ◌, if◌then◌else◌, List, [], ◌∷◌, map, length, slice_index_or, refl, sym, ap, subst, ◌∙◌, arith}
use Rattle.std.specs.List.{Contains, list_all}
use Rattle.std.specs.Prelude.{int_lt}
use Rattle.std.proofs.lemmas.Bool.{and_parts, eqb-true}
use Rattle.std.proofs.lemmas.Int.{ints}
use Rattle.sp_core.specs.Elements.{tuples, values_below}
use Rattle.sp_core.specs.NodeRules.{single_lanes, after_singles, is_of_all_lanes, are_stages, is_no_lane, are_lane_by_lane, count_zeros, are_lanes_right}
use Rattle.sp_core.specs.PlainCore.{PlainStages, no_stage, more_stage}
use Rattle.sp_core.specs.Scope.{Loop, group_values, is_live, is_some_up_to, is_some_live}
use Rattle.sp_counters.proofs.Values.{values_go_on}
use Rattle.sp_plan.specs.Validity.{stage_count}
use Rattle.sp_node_runs.proofs.BodiesListed.{here, there, none_there, first_or_later, mapped_from, joined_from}
use Rattle.sp_tree_runs.specs.BodiesLanes.{is_stage_live}
use Rattle.sp_tree_circuits.specs.Circuits.{first_lane, last_lane}

-- whether a stage runs is told by its lanes
pub stage_live : (stages : PlainStages) (live : ℕ → Bool) (i : ℕ) → i < stage_count stages → is_stage_live stages live i ≡ is_some_live live (first_lane stages i) (last_lane stages i)
stage_live no_stage live i l = absurd (omega (arith, l))
stage_live (more_stage first last comb node rest) live zero l = refl
stage_live (more_stage first last comb node rest) live (suc i) l = stage_live rest live i (omega (arith, l))

is_below : (a b : ℕ) → nat_lt a b ≡ true → a < b
is_below a b e = grind arith

is_within : (a b : ℕ) → nat_le a b ≡ true → a ≤ b
is_within a b e = grind arith

pub le_true : (a b : ℕ) → a ≤ b → nat_le a b ≡ true
le_true a b l = grind arith

-- the lanes of each stage are lanes of the loop
pub lanes_fit : (lanes : ℕ) → 1 ≤ lanes → (stages : PlainStages) → list_all (λ l. nat_lt l lanes) (single_lanes stages) ≡ true → is_of_all_lanes lanes (after_singles stages) ≡ true → (i : ℕ) → i < stage_count stages
    → (first_lane stages i ≤ last_lane stages i) × (last_lane stages i < lanes)
lanes_fit lanes some no_stage a b i l = absurd (omega (arith, l))
lanes_fit lanes some (more_stage first last comb node rest) a b i l = by (first == last) refl a b (lanes_fit lanes some rest) i l
  where
    all_lanes : (rest : PlainStages) → is_of_all_lanes lanes (more_stage first last comb node rest) ≡ true → (stage_count rest ≡ 0) × (first ≤ last) × (last < lanes)
    all_lanes no_stage h = let p = and_parts (first == 0) (last == lanes - 1) h in let x = eqb-true first 0 p.0 in let y = eqb-true last (lanes - 1) p.1 in (refl, omega (arith, x), omega (arith, y, some))
    all_lanes (more_stage first' last' comb' node' rest') h = absurd (cc (h))

    by : (same : Bool) → (first == last) ≡ same → list_all (λ l. nat_lt l lanes) (elim same as (λ _. List ℕ) [ true ↦ first ∷ single_lanes rest | false ↦ [] ]) ≡ true
        → is_of_all_lanes lanes (elim same as (λ _. PlainStages) [ true ↦ after_singles rest | false ↦ more_stage first last comb node rest ]) ≡ true
        → (list_all (λ l. nat_lt l lanes) (single_lanes rest) ≡ true → is_of_all_lanes lanes (after_singles rest) ≡ true → (i : ℕ) → i < stage_count rest → (first_lane rest i ≤ last_lane rest i) × (last_lane rest i < lanes))
        → (i : ℕ) → i < 1 + stage_count rest → (first_lane (more_stage first last comb node rest) i ≤ last_lane (more_stage first last comb node rest) i) × (last_lane (more_stage first last comb node rest) i < lanes)
    by true e a b others zero l =
        let p = and_parts (nat_lt first lanes) (list_all (λ l. nat_lt l lanes) (single_lanes rest)) a in
        let x = eqb-true first last e in
        let y = is_below first lanes p.0 in
        (omega (arith, x), omega (arith, x, y))
    by true e a b others (suc i) l = others (and_parts (nat_lt first lanes) (list_all (λ l. nat_lt l lanes) (single_lanes rest)) a).1 b i (omega (arith, l))
    by false e a b others zero l = let h = all_lanes rest b in (h.1, h.2)
    by false e a b others (suc i) l = let h = all_lanes rest b in let z = h.0 in absurd (omega (arith, z, l))

pub lanes_by_rule : (lanes : ℕ) → 1 ≤ lanes → (stages : PlainStages) → are_lanes_right lanes stages ≡ true → (i : ℕ) → i < stage_count stages → (first_lane stages i ≤ last_lane stages i) × (last_lane stages i < lanes)
lanes_by_rule lanes some stages right i l =
    let a = and_parts (are_stages stages && list_all (λ l. nat_lt l lanes) (single_lanes stages)) ((is_no_lane (single_lanes stages) || are_lane_by_lane (count_zeros (single_lanes stages)) 0 (single_lanes stages)) && is_of_all_lanes lanes (after_singles stages)) right in
    let b = and_parts (are_stages stages) (list_all (λ l. nat_lt l lanes) (single_lanes stages)) a.0 in
    let c = and_parts (is_no_lane (single_lanes stages) || are_lane_by_lane (count_zeros (single_lanes stages)) 0 (single_lanes stages)) (is_of_all_lanes lanes (after_singles stages)) a.1 in
    lanes_fit lanes some stages b.1 c.1 i l

-- each value of a counter is below its bound
value_below : (n : ℕ) (a b : ℤ) (step : ℕ) → 1 ≤ step → length (values_below a b step) ≡ n → (v : ℤ) → Contains (values_below a b step) v → int_lt v b ≡ true
value_below zero a b step some size v (i, l, e) = absurd (omega (arith, l, size))
value_below (suc n) a b step some size v c = by (int_lt a b) refl (value_below n (a +ℤ pos step) b step some)
  where
    unfolded : (t : Bool) → int_lt a b ≡ t → values_below a b step ≡ (if t then a ∷ values_below (a +ℤ pos step) b step else [])
    unfolded t e = values_go_on a b step some ∙ ap (λ (t : Bool). if t then a ∷ values_below (a +ℤ pos step) b step else []) e

    settle : int_lt a b ≡ true → (a ≡ v) ⊎ Contains (values_below (a +ℤ pos step) b step) v → (Contains (values_below (a +ℤ pos step) b step) v → int_lt v b ≡ true) → int_lt v b ≡ true
    settle e (inl same) rest = ap (λ x. int_lt x b) (sym same) ∙ e
    settle e (inr later) rest = rest later

    by : (t : Bool) → int_lt a b ≡ t → (length (values_below (a +ℤ pos step) b step) ≡ n → (v : ℤ) → Contains (values_below (a +ℤ pos step) b step) v → int_lt v b ≡ true) → int_lt v b ≡ true
    by true e rest =
        let f = unfolded true e in
        let g = ap (λ (xs : List ℤ). length xs) f in
        settle e (first_or_later a v (values_below (a +ℤ pos step) b step) (subst (λ (xs : List ℤ). Contains xs v) f c)) (λ d. rest (omega (arith, g, size)) v d)
    by false e rest = absurd (none_there v (subst (λ (xs : List ℤ). Contains xs v) (unfolded false e) c))

in_first_lane : (loops : List Loop) → ((l : Loop) → Contains loops l → 1 ≤ l.advance) → (vs : List ℤ) → Contains (group_values loops) vs → is_live loops vs 0 ≡ true
in_first_lane [] some vs c = refl
in_first_lane (l ∷ []) some vs c =
    let x = joined_from (λ v. map (λ others. v ∷ others) (tuples {A = ℤ} [])) (values_below l.from l.until l.advance) vs c in
    let y = mapped_from (λ (others : List ℤ). x.0 ∷ others) (tuples {A = ℤ} []) vs x.2 in
    let z = value_below (length (values_below l.from l.until l.advance)) l.from l.until l.advance (some l (here l [])) refl x.0 x.1 in
    subst (λ ws. is_live (l ∷ []) ws 0 ≡ true) y.2 (ap (λ v. int_lt v l.until) {x = x.0 +ℤ pos (0 * l.by)} {y = x.0} (omega (arith, ints)) ∙ z)
in_first_lane (l ∷ m ∷ loops) some vs c =
    let rest : List (List ℤ) = map (λ (l : Loop). values_below l.from l.until l.advance) (m ∷ loops) in
    let x = joined_from (λ v. map (λ others. v ∷ others) (tuples (map (λ (l : Loop). values_below l.from l.until l.advance) (m ∷ loops)))) (values_below l.from l.until l.advance) vs c in
    let y = mapped_from (λ (others : List ℤ). x.0 ∷ others) (tuples (map (λ (l : Loop). values_below l.from l.until l.advance) (m ∷ loops))) vs x.2 in
    subst (λ ws. is_live (l ∷ m ∷ loops) ws 0 ≡ true) y.2 (in_first_lane (m ∷ loops) (λ k d. some k (there l k (m ∷ loops) d)) y.0 y.1)

-- the element at a place is one of the list
at_place : {A : Type 0} (xs : List A) (g : ℕ) (other : A) → g < length xs → Contains xs (slice_index_or xs g other)
at_place [] g other l = absurd (omega (arith, l))
at_place (x ∷ xs) zero other l = here x xs
at_place (x ∷ xs) (suc g) other l = there x (slice_index_or xs g other) xs (at_place xs g other (omega (arith, l)))

pub first_lane_live : (loops : List Loop) → ((l : Loop) → Contains loops l → 1 ≤ l.advance) → (g : ℕ) → g < length (group_values loops) → is_live loops (slice_index_or (group_values loops) g []) 0 ≡ true
first_lane_live loops some g l = in_first_lane loops some (slice_index_or (group_values loops) g []) (at_place (group_values loops) g [] l)

-- a stage with a live lane is one
pub from_first : (live : ℕ → Bool) → live 0 ≡ true → (more : ℕ) → is_some_up_to live 0 more ≡ true
from_first live h zero = h
from_first live h (suc more) = either (is_some_up_to live 0 more) (live (0 + suc more)) (from_first live h more)
  where
    either : (a b : Bool) → a ≡ true → (a || b) ≡ true
    either true b e = refl
    either false b e = absurd (cc (e))

pub same_lanes : (f g : ℕ → Bool) (first more : ℕ) → ((l : ℕ) → l ≤ first + more → f l ≡ g l) → is_some_up_to f first more ≡ is_some_up_to g first more
same_lanes f g first zero h = h first (omega arith)
same_lanes f g first (suc more) h =
    ap (λ b. b || f (first + suc more)) (same_lanes f g first more (λ l le. h l (omega (arith, le)))) ∙ ap (λ b. is_some_up_to g first more || b) (h (first + suc more) (omega arith))
