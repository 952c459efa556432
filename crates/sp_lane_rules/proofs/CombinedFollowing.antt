-- Combinations after all lanes of a body with stages keep the rules of cores.
use Rattle.std.proofs.Common.{◌≡◌, ℕ, ◌<◌, ◌≤◌, ◌⊎◌, inl, inr, Bool, true, false, ◌||◌, List, [], ◌∷◌, ◌++◌, map, Option, Some, None, refl, sym, ◌∙◌, ap, subst, arith, ◌==◌, nat_lt}
use Rattle.std.proofs.lemmas.Bool.{and_parts, and_from, true≢false, lt-ltb, eq-eqb, or_right}
use Rattle.std.proofs.lemmas.Bool.Decides.{eqb_tells}
use Rattle.std.specs.Prelude.{option_map}
use Rattle.sp_core.specs.Around.{Around, Near, within, lanes_of, has_lane}
use Rattle.sp_core.specs.Declarations.{is_among}
use Rattle.sp_core.specs.NodeRules.{are_counters_right, is_node_right, are_stages}
use Rattle.sp_core.specs.OperationRules.{are_operations_right}
use Rattle.sp_core.specs.PlainCore.{PlainCounter, PlainNode, PlainStages, inner, outer, fsm, branch, load, store, sparse, no_stage, more_stage, PlainCore}
use Rattle.sp_core.specs.Store.{changed}
use Rattle.sp_lanes.specs.Unrolled.{last_number, stage_after, combination_of, combination_in}
use Rattle.sp_lanes.specs.Within.{Within, with_lane, in_lane, counters_in}
use Rattle.sp_lane_rules.specs.UnrolledPlaces.{GoTogether}
use Rattle.sp_lane_rules.specs.UnrolledRight.{EachRight, AllRight}
use Rattle.sp_lane_rules.proofs.UnrolledNodes.{controller_kept}
use Rattle.sp_lane_rules.proofs.UnrolledPlaces.{among_both, near, counters_kept}
use Rattle.sp_lane_rules.proofs.UnrolledStageLanes.{own_stages}
use Rattle.sp_lane_rules.proofs.UnrolledTree.{lanes_positive}
use Rattle.sp_lane_rules.specs.CombinedStanding.{numbers_of, AreApart, MayFollow}
use Rattle.sp_lane_rules.proofs.CombinedCombinations.{lanes_right}

-- every counter but these is in lane 0
abbrev pub ZeroBut : (numbers : List ℕ) → Within → Type 0
ZeroBut numbers w = (c : ℕ) → is_among c numbers ≡ false → w.lane c ≡ 0

neither : (a b : Bool) → (a || b) ≡ false → (a ≡ false) × (b ≡ false)
neither true b e = absurd (true≢false e)
neither false b e = (refl, e)

left_out : (a b : Bool) → a ≡ true → (a || b) ≡ true
left_out true b e = refl
left_out false b e = absurd (true≢false (sym e))

lane_other : (counters : List PlainCounter) (l : ℕ) (f : ℕ → ℕ) (c : ℕ) → is_among c (numbers_of counters) ≡ false → with_lane counters l f c ≡ f c
lane_other [] l f c e = refl
lane_other (d ∷ []) l f c e = ap (λ b. elim b as (λ _. ℕ) [ true ↦ l | false ↦ f c ]) (neither (c == d.number) false e).0
lane_other (d ∷ g ∷ counters) l f c e =
    let n = neither (c == d.number) (is_among c (numbers_of (g ∷ counters))) e in
    lane_other (g ∷ counters) l (changed f d.number 0) c n.1 ∙ ap (λ b. elim b as (λ _. ℕ) [ true ↦ 0 | false ↦ f c ]) n.0

pub zero_inside : (order numbers : List ℕ) (counters : List PlainCounter) (owned : List ℕ) (w : Within) (l : ℕ) → ZeroBut numbers w → ZeroBut (numbers_of counters ++ numbers) (in_lane order counters owned w l)
zero_inside order numbers counters owned w l h c e =
    let n = neither (is_among c (numbers_of counters)) (is_among c numbers) (sym (among_both c (numbers_of counters) numbers) ∙ e) in
    lane_other counters l w.lane c n.0 ∙ h c n.1

-- the last counter is one of its controller's, where that has several lanes
last_among : (c : PlainCounter) (counters : List PlainCounter) → is_among (last_number (c ∷ counters)) (numbers_of (c ∷ counters)) ≡ true
last_among c [] = left_out (c.number == c.number) false (eq-eqb c.number c.number refl)
last_among c (d ∷ counters) = or_right (last_number (d ∷ counters) == c.number) (is_among (last_number (d ∷ counters)) (numbers_of (d ∷ counters))) (last_among d counters)

-- past counters of other numbers
past_apart : (numbers : List ℕ) (counters : List PlainCounter) (rest : List Near) (n k l : ℕ) → AreApart numbers counters → is_among k numbers ≡ true → has_lane rest k l ≡ true → has_lane (map (near n) counters ++ rest) k l ≡ true
past_apart numbers [] rest n k l a m h = h
past_apart numbers (c ∷ counters) rest n k l a m h = elim (eqb_tells c.number k) [
  | inl same ↦ absurd (true≢false (sym m ∙ ap (λ x. is_among x numbers) (sym same.1) ∙ a.0))
  | inr apart ↦ ap (λ b. elim b as (λ _. Bool) [ true ↦ nat_lt l n | false ↦ has_lane (map (near n) counters ++ rest) k l ]) apart.0 ∙ past_apart numbers counters rest n k l a.1 m h
]

-- counters of other numbers are in lane 0
in_first : (numbers : List ℕ) (v : Within) (counters : List PlainCounter) (rest : List Near) (n c j : ℕ) → 1 ≤ n → ZeroBut numbers v → AreApart numbers counters
    → (has_lane rest c j ≡ true → has_lane rest c (v.lane c) ≡ true) → has_lane (map (near n) counters ++ rest) c j ≡ true → has_lane (map (near n) counters ++ rest) c (v.lane c) ≡ true
in_first numbers v [] rest n c j some z a h e = h e
in_first numbers v (d ∷ counters) rest n c j some z a h e = elim (eqb_tells d.number c) [
  | inl same ↦ ap (λ b. elim b as (λ _. Bool) [ true ↦ nat_lt (v.lane c) n | false ↦ has_lane (map (near n) counters ++ rest) c (v.lane c) ]) same.0
      ∙ lt-ltb (v.lane c) n (let at_zero : v.lane c ≡ 0 = z c (ap (λ x. is_among x numbers) (sym same.1) ∙ a.0) in omega (arith, at_zero, some))
  | inr apart ↦ ap (λ b. elim b as (λ _. Bool) [ true ↦ nat_lt (v.lane c) n | false ↦ has_lane (map (near n) counters ++ rest) c (v.lane c) ]) apart.0
      ∙ in_first numbers v counters rest n c j some z a.1 h (sym (ap (λ b. elim b as (λ _. Bool) [ true ↦ nat_lt j n | false ↦ has_lane (map (near n) counters ++ rest) c j ]) apart.0) ∙ e)
]

-- a combination of stages, if there is one
abbrev pub OneRight : PlainCore → Around → Option PlainNode → Type 0
OneRight core around None = Unit {0}
OneRight core around (Some node) = EachRight core around node

pub combination_right : (core : PlainCore) (around : Around) (stages : PlainStages) → AllRight core around stages → OneRight core around (combination_of stages)
combination_right core around no_stage h = tt
combination_right core around (more_stage first last true node rest) h = h.0
combination_right core around (more_stage first last false node rest) h = combination_right core around rest h.1

-- a body with a stage has one of its own, or a combination
pub some_stage : (p : ℕ) (f : PlainNode → PlainNode) (stages : PlainStages) → are_stages stages ≡ true → (1 ≤ own_stages stages) ⊎ (are_stages (stage_after p (option_map f (combination_of stages))) ≡ true)
some_stage p f no_stage e = absurd (true≢false (sym e))
some_stage p f (more_stage first last true node rest) e = inr refl
some_stage p f (more_stage first last false node rest) e = inl (omega arith)

-- inside of a controller of several lanes
module _ (core lanes : PlainCore) (order numbers : List ℕ) (w : Within) (c : PlainCounter) (counters : List PlainCounter) (owned : List ℕ) (around inside : Around)
    (h : (l : ℕ) → l < lanes_of (c ∷ counters) → GoTogether core lanes around inside (in_lane order (c ∷ counters) owned w l))
    (z : (l : ℕ) → ZeroBut (numbers_of (c ∷ counters) ++ numbers) (in_lane order (c ∷ counters) owned w l)) (some : 1 ≤ lanes_of (c ∷ counters))
    (there : (l : ℕ) → l < lanes_of (c ∷ counters) → has_lane inside.counters (last_number (c ∷ counters)) l ≡ true) where
  follow_right : (node : PlainNode) → MayFollow (numbers_of (c ∷ counters) ++ numbers) (Some node) → EachRight core around node → EachRight lanes inside (combination_in order w (c ∷ counters) owned node)
  follow_right (inner own_counters own ops comb) f e = subst (λ l. is_node_right lanes inside (combination_in order w (c ∷ counters) owned (inner own_counters l ops comb)) ≡ true) (sym f.1)
      (and_from _ _ (controller_kept core lanes around inside first (h 0 some) own_counters a.0)
      (lanes_right core lanes (within around own_counters []) (within inside (counters_in first own_counters) []) (last_number (c ∷ counters)) (in_lane order (c ∷ counters) owned w) (lanes_of (c ∷ counters)) together has some owned ops comb f.2 a.1))
    where
      first : Within
      first = in_lane order (c ∷ counters) owned w 0

      right : is_node_right core around (inner own_counters [] ops comb) ≡ true
      right = subst (λ l. is_node_right core around (inner own_counters l ops comb) ≡ true) f.1 e

      a : (are_counters_right core around own_counters ≡ true) × (are_operations_right core (within around own_counters []) ops ≡ true)
      a = and_parts (are_counters_right core around own_counters) (are_operations_right core (within around own_counters []) ops) right

      same : (within inside (counters_in first own_counters) []).counters ≡ (within around own_counters []).counters
      same = counters_kept first around inside own_counters [] [] (h 0 some).counters

      together : (l : ℕ) → l < lanes_of (c ∷ counters) → GoTogether core lanes (within around own_counters []) (within inside (counters_in first own_counters) []) (in_lane order (c ∷ counters) owned w l)
      together l lt = record {
        counters = same;
        in_lanes = λ k j i. in_first (numbers_of (c ∷ counters) ++ numbers) (in_lane order (c ∷ counters) owned w l) own_counters around.counters (lanes_of own_counters) k j
            (lanes_positive core around own_counters (are_operations_right core (within around own_counters []) ops) right) (z l) f.0 (λ x. (h l lt).in_lanes k j x) i;
        memories = λ m i. (h l lt).memories m i;
      }

      has : (l : ℕ) → l < lanes_of (c ∷ counters) → has_lane (within inside (counters_in first own_counters) []).counters (last_number (c ∷ counters)) l ≡ true
      has l lt = ap (λ (xs : List Near). has_lane xs (last_number (c ∷ counters)) l) same
          ∙ past_apart (numbers_of (c ∷ counters) ++ numbers) own_counters around.counters (lanes_of own_counters) (last_number (c ∷ counters)) l f.0
          (among_both (last_number (c ∷ counters)) (numbers_of (c ∷ counters)) numbers ∙ left_out (is_among (last_number (c ∷ counters)) (numbers_of (c ∷ counters))) (is_among (last_number (c ∷ counters)) numbers) (last_among c counters))
          (ap (λ (xs : List Near). has_lane xs (last_number (c ∷ counters)) l) (sym (h 0 some).counters) ∙ there l lt)
  follow_right (outer cs style own stages) f e = absurd f
  follow_right (fsm start state test body next) f e = absurd f
  follow_right (branch test one two) f e = absurd f
  follow_right (load r m spans) f e = absurd f
  follow_right (store r m spans) f e = absurd f
  follow_right (sparse kind r m index spans count par) f e = absurd f

  -- the stage after all lanes
  pub after_right : (p : ℕ) (node : Option PlainNode) → MayFollow (numbers_of (c ∷ counters) ++ numbers) node → OneRight core around node → AllRight lanes inside (stage_after p (option_map (combination_in order w (c ∷ counters) owned) node))
  after_right p None f e = tt
  after_right p (Some node) f e = (follow_right node f e, tt)
