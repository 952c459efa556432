-- Stages lane by lane: what holds of each stage of one lane, by its lane, and which of two stages that use one memory is the later one.
use Rattle.std.proofs.Common.{◌≡◌, ℕ, zero, suc, ◌+◌, ◌-◌, ◌*◌, ◌<◌, ◌≤◌, Bool, true, false, List, [], ◌∷◌, length, map, Option, Some, None, refl, sym, subst, arith, ◌==◌}
use Rattle.std.proofs.lemmas.Bool.{eqb-true, true≢false}
use Rattle.std.specs.Prelude.{not}
use Rattle.sp_core.specs.Around.{lanes_of}
use Rattle.sp_core.specs.Declarations.{is_among}
use Rattle.sp_core.specs.NodeRules.{are_lanes_right}
use Rattle.sp_core.specs.Numbering.{number_count}
use Rattle.sp_core.specs.PlainCore.{PlainCounter, PlainNode, PlainStages, no_stage, more_stage, PlainCore}
use Rattle.sp_lanes.specs.Unrolled.{stages_in, stages_by_lane, stage_after}
use Rattle.sp_lane_groups.specs.Groups.{lanes_from}
use Rattle.sp_plan.specs.Named.{uses}
use Rattle.sp_plan.specs.Slots.{StageRun, runs_of, is_of_all, run_at, lane_size, stage_of}
use Rattle.sp_overlap.specs.Apart.{node_at, AreOfOneLane}
use Rattle.sp_overlap.proofs.Lanes.{Lanes, single_stage, all_stage, stand_in_lanes}

-- of each node of a list
abbrev pub EachOf : (PlainNode → Type 0) → List PlainNode → Type 0
EachOf P [] = Unit {0}
EachOf P (node ∷ nodes) = P node × EachOf P nodes

-- each stage of one lane has what is asked of a node of that lane
abbrev pub AreIn : (ℕ → PlainNode → Type 0) → PlainStages → Type 0
AreIn P no_stage = Unit {0}
AreIn P (more_stage first last comb node rest) = ((first == last) ≡ true → P first node) × AreIn P rest

module _ (P : ℕ → PlainNode → Type 0) where
  lane_in : (l : ℕ) (nodes : List PlainNode) (rest : PlainStages) → EachOf (P l) nodes → AreIn P rest → AreIn P (stages_in l nodes rest)
  lane_in l [] rest h r = r
  lane_in l (node ∷ nodes) rest h r = (λ e. h.0, lane_in l nodes rest h.1 r)

  pub lanes_in : (lane : ℕ → List PlainNode) (rest : PlainStages) (l k : ℕ) → ((j : ℕ) → j < l + k → EachOf (P j) (lane j)) → AreIn P rest → AreIn P (stages_by_lane l (map lane (lanes_from l k)) rest)
  lanes_in lane rest l zero h r = r
  lanes_in lane rest l (suc k) h r =
      lane_in l (lane l) (stages_by_lane (suc l) (map lane (lanes_from (suc l) k)) rest) (h l (omega arith)) (lanes_in lane rest (suc l) k (λ j lt. h j (omega (arith, lt))) r)

  pub after_in : (lanes : ℕ) (node : Option PlainNode) → 2 ≤ lanes → AreIn P (stage_after lanes node)
  after_in lanes None le = tt
  after_in lanes (Some node) le = (λ e. absurd (apart lanes le (eqb-true 0 (lanes - 1) e)), tt)
    where
      apart : (lanes : ℕ) → 2 ≤ lanes → 0 ≡ lanes - 1 → ⊥
      apart lanes le e = omega (arith, le, e)

  pub at_place : (stages : PlainStages) (n p : ℕ) → AreIn P stages → p < length (runs_of n stages) → is_of_all (run_at (runs_of n stages) p) ≡ false → P (run_at (runs_of n stages) p).first (node_at stages p)
  at_place no_stage n p h lt e = absurd (omega (arith, lt))
  at_place (more_stage first last comb node rest) n zero h lt e = h.0 (positive (first == last) e)
    where
      positive : (b : Bool) → not b ≡ false → b ≡ true
      positive true e = refl
      positive false e = absurd (true≢false e)
  at_place (more_stage first last comb node rest) n (suc p) h lt e = at_place rest (n + number_count node) p h.1 (omega (arith, lt)) e

-- where stages that use a memory of the loop are of one lane each time
module _ (core : PlainCore) (counters : List PlainCounter) (owned : List ℕ) (stages : PlainStages) (right : are_lanes_right (lanes_of counters) stages ≡ true) (of_one : (p q m : ℕ) (n : ℕ)
    → p < length (runs_of n stages) → q < length (runs_of n stages) → is_of_all (run_at (runs_of n stages) p) ≡ false → is_of_all (run_at (runs_of n stages) q) ≡ false → is_among m owned ≡ true → uses core m (node_at stages p) ≡ true → uses core m (node_at stages q) ≡ true
    → (run_at (runs_of n stages) p).first ≡ (run_at (runs_of n stages) q).first) where
  later : (p q k i j : ℕ) → p < q → i ≡ j → p - i * k ≤ q - j * k
  later p q k i j lt e = subst (λ x. p - i * k ≤ q - x * k) e (fewer p q (i * k) lt)
    where
      fewer : (p q x : ℕ) → p < q → p - x ≤ q - x
      fewer p q x lt = omega (arith, lt)

  pub one_lane_each : (n : ℕ) → AreOfOneLane core owned stages (runs_of n stages)
  one_lane_each n p q m lt less own first second = by (is_of_all (run_at runs q)) refl
    where
      runs : List StageRun
      runs = runs_of n stages

      stand : Lanes runs
      stand = stand_in_lanes counters n stages right

      single : is_of_all (run_at runs p) ≡ false
      single = stand.only p q lt less

      by : (b : Bool) → is_of_all (run_at runs q) ≡ b → stage_of runs p ≤ stage_of runs q
      by true e = let s : stage_of runs p < lane_size runs = stand.in_lane p (omega (arith, lt, less)) single in subst (λ x. stage_of runs p ≤ x) (sym (all_stage runs q e)) (omega (arith, s))
      by false e =
          let same : (run_at runs p).first ≡ (run_at runs q).first = of_one p q m n (omega (arith, lt, less)) less single e own first second in
          subst (λ x. x ≤ stage_of runs q) (sym (single_stage runs p single)) (subst (λ x. p - (run_at runs p).first * lane_size runs ≤ x) (sym (single_stage runs q e)) (later p q (lane_size runs) (run_at runs p).first (run_at runs q).first lt same))
