-- The lanes of stages that keep the core's rules.
use Rattle.std.proofs.Common.{◌≡◌, ℕ, zero, suc, ◌-◌, ◌<◌, ◌≤◌, ◌⊎◌, inl, inr, Bool, true, false, refl, arith, List, [], ◌∷◌, nat_lt}
use Rattle.std.specs.Prelude.{◌==◌}
use Rattle.std.specs.List.{list_all}
use Rattle.std.proofs.lemmas.Bool.{and_parts, cases_lt, eqb-true, ltb-true}
use Rattle.sp_core.specs.NodeRules.{single_lanes, after_singles, is_of_all_lanes}
use Rattle.sp_core.specs.PlainCore.{PlainStages, no_stage, more_stage}
use Rattle.sp_plan.specs.Validity.{stage_count}
use Rattle.sp_tree_circuits.specs.Circuits.{first_lane, last_lane}
use Rattle.sp_stage_members.specs.Circuits.{SingleLanesAreFirst, StagesHaveLanes}

record Lane (lanes first last : ℕ) : Type 0 where
  order : first ≤ last
  within : last < lanes

lane_at : (lanes : ℕ) (stages : PlainStages) → 1 ≤ lanes → list_all (λ l. nat_lt l lanes) (single_lanes stages) ≡ true → is_of_all_lanes lanes (after_singles stages) ≡ true → (i : ℕ) → i < stage_count stages
    → Lane lanes (first_lane stages i) (last_lane stages i)
lane_at lanes no_stage o h k i l = absurd (omega (arith, l))
lane_at lanes (more_stage first last comb node rest) o h k i l = by (first == last) refl h k i (omega (arith, l)) (lane_at lanes rest o)
  where
    -- the last one, of all lanes
    of_all : (others : PlainStages) → is_of_all_lanes lanes (more_stage first last comb node others) ≡ true → (i : ℕ) → i < suc (stage_count others) → Lane lanes (first_lane (more_stage first last comb node others) i) (last_lane (more_stage first last comb node others) i)
    of_all no_stage g zero m =
        let p = and_parts (first == 0) (last == lanes - 1) g in
        let f = eqb-true first 0 p.0 in
        let e = eqb-true last (lanes - 1) p.1 in
        record { order = omega (arith, f); within = omega (arith, e, o) }
    of_all no_stage g (suc i) m = absurd (omega (arith, m))
    of_all (more_stage a b c n others) g i m = absurd (cc)

    by : (b : Bool) → (first == last) ≡ b → list_all (λ l. nat_lt l lanes) (elim b as (λ _. List ℕ) [ true ↦ first ∷ single_lanes rest | false ↦ [] ]) ≡ true
        → is_of_all_lanes lanes (elim b as (λ _. PlainStages) [ true ↦ after_singles rest | false ↦ more_stage first last comb node rest ]) ≡ true → (i : ℕ) → i < suc (stage_count rest)
        → (list_all (λ l. nat_lt l lanes) (single_lanes rest) ≡ true → is_of_all_lanes lanes (after_singles rest) ≡ true → (i : ℕ) → i < stage_count rest → Lane lanes (first_lane rest i) (last_lane rest i))
        → Lane lanes (first_lane (more_stage first last comb node rest) i) (last_lane (more_stage first last comb node rest) i)
    by true e f g zero m more =
        let p = and_parts (nat_lt first lanes) (list_all (λ l. nat_lt l lanes) (single_lanes rest)) f in
        let s = eqb-true first last e in
        let q = ltb-true first lanes p.0 in
        record { order = omega (arith, s); within = omega (arith, s, q) }
    by true e f g (suc i) m more = more (and_parts (nat_lt first lanes) (list_all (λ l. nat_lt l lanes) (single_lanes rest)) f).1 g i (omega (arith, m))
    by false e f g i m more = of_all rest g i m

pub stages_have_lanes : StagesHaveLanes
stages_have_lanes lanes stages o h i l =
    let p = and_parts _ _ h in
    let r = lane_at lanes stages o (and_parts _ _ p.0).1 (and_parts _ _ p.1).1 i l in
    (r.order, r.within)

past : (stages : PlainStages) (i : ℕ) → stage_count stages ≤ i → first_lane stages i ≡ 0
past no_stage i l = refl
past (more_stage first last comb node rest) zero l = absurd (omega (arith, l))
past (more_stage first last comb node rest) (suc i) l = past rest i (omega (arith, l))

pub single_lanes_are_first : SingleLanesAreFirst
single_lanes_are_first stages h i = by (cases_lt i (stage_count stages))
  where
    open_case : (i < stage_count stages) → first_lane stages i ≡ 0
    open_case l = let r = stages_have_lanes 1 stages (omega arith) h i l in let a = r.0 in let b = r.1 in omega (arith, a, b)

    by : (i < stage_count stages) ⊎ (stage_count stages ≤ i) → first_lane stages i ≡ 0
    by (inl l) = open_case l
    by (inr l) = past stages i l
