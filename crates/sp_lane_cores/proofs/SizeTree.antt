-- How large the tree of a core is in lanes, by its weight.
use Rattle.std.proofs.Common.{◌≡◌, ℕ, zero, suc, ◌+◌, ◌*◌, ◌≤◌, ◌==◌, Bool, true, false, List, [], ◌∷◌, length, map, Option, None, Some, option_map, refl, sym, ◌∙◌, ap, arith, length-append, ◌⊎◌, inl, inr}
use Rattle.std.proofs.lemmas.Nat.{mul-le}
use Rattle.std.proofs.Math.Nat.{mul_assoc}
use Rattle.std.proofs.lemmas.Option.{none-some}
use Rattle.sp_core.specs.Around.{lanes_of}
use Rattle.sp_core.specs.Elements.{numbers_below}
use Rattle.sp_core.specs.Numbering.{node_count, node_count_in, operation_count, operation_count_in, counters_size, spans_size}
use Rattle.sp_core.specs.PlainCore.{PlainOp, PlainCounter, PlainSpan, single, range, PlainNode, PlainStages, inner, outer, fsm, branch, load, store, sparse, no_stage, more_stage}
use Rattle.sp_lanes.specs.Unrolled.{last_number, stages_in, stages_by_lane, stage_after, combination_of, owned_in_lanes, ops_in_lanes, inner_ops, combination_in, node_in, left_as_they_are, nodes_in}
use Rattle.sp_lanes.specs.Within.{Within, owning, in_lane, ops_in, counters_in, spans_in}
use Rattle.sp_lane_cores.specs.LanedWeights.{node_weight, stages_weight}
use Rattle.sp_lane_cores.proofs.LanedHeavy.{IsWithin, AreWithin}
use Rattle.sp_lane_cores.proofs.SizeBodies.{if_size, ops_size, plain_size, laned_size}

abbrev pub node_size : PlainNode → ℕ
node_size x = node_count x + operation_count x

abbrev pub stages_size : PlainStages → ℕ
stages_size xs = node_count_in xs + operation_count_in xs

abbrev list_size : List PlainNode → ℕ
list_size [] = 0
list_size (x ∷ xs) = node_size x + list_size xs

abbrev pub IsInner : PlainNode → Type 0
IsInner (inner counters owned ops comb) = Unit {0}
IsInner node = ⊥

-- each controller has a lane; a combination is an inner body; and a body with a mark has an operation
abbrev mutual
  pub Fits : PlainNode → Type 0
  Fits (inner counters owned ops comb) = (1 ≤ lanes_of counters) × ((comb ≡ None) ⊎ (1 ≤ length ops))
  Fits (outer counters style owned stages) = (1 ≤ lanes_of counters) × AllFit stages
  Fits (fsm start state test body next) = Fits body
  Fits (branch test first second) = Fits first × Fits second
  Fits node = Unit {0}

  pub AllFit : PlainStages → Type 0
  AllFit no_stage = Unit {0}
  AllFit (more_stage first last true node rest) = Fits node × IsInner node × AllFit rest
  AllFit (more_stage first last false node rest) = Fits node × AllFit rest

-- so many lanes more
mutual
  node_times : (a b : ℕ) (x : PlainNode) → node_weight (a * b) x ≡ a * node_weight b x
  node_times a b (inner counters owned ops comb) = omega arith
  node_times a b (outer counters style owned stages) =
      let l : ℕ = lanes_of counters in
      let e : stages_weight (a * b * l) stages ≡ a * stages_weight (b * l) stages = ap (λ n. stages_weight n stages) (mul_assoc a b l) ∙ stages_times a (b * l) stages in
      omega (arith, e)
  node_times a b (fsm start state test body next) = omega (arith, node_times a b body)
  node_times a b (branch test first second) = omega (arith, node_times a b first, node_times a b second)
  node_times a b (load dram mem spans) = omega arith
  node_times a b (store dram mem spans) = omega arith
  node_times a b (sparse kind dram mem index spans count par) = omega arith

  stages_times : (a b : ℕ) (xs : PlainStages) → stages_weight (a * b) xs ≡ a * stages_weight b xs
  stages_times a b no_stage = omega arith
  stages_times a b (more_stage first last comb node rest) = omega (arith, node_times a b node, stages_times a b rest)

in_lanes : (l : ℕ) (xs : PlainStages) → stages_weight (1 * l) xs ≡ l * stages_weight 1 xs
in_lanes l xs = ap (λ n. stages_weight n xs) {x = 1 * l} {y = l * 1} (omega arith) ∙ stages_times l 1 xs

few : (a l : ℕ) → 1 ≤ a → a * l ≤ 16 → l ≤ 16
few a l h k = omega (arith, k, mul-le 1 l a l h (omega arith))

counters_same : (w : Within) (counters : List PlainCounter) → counters_size (counters_in w counters) ≡ counters_size counters
counters_same w [] = refl
counters_same w (c ∷ counters) = omega (arith, counters_same w counters, ops_size w c.from, ops_size w c.until)

spans_same : (w : Within) (spans : List PlainSpan) → spans_size (spans_in w spans) ≡ spans_size spans
spans_same w [] = refl
spans_same w (single ops ∷ spans) = omega (arith, spans_same w spans, ops_size w ops)
spans_same w (range a b ∷ spans) = omega (arith, spans_same w spans, ops_size w a, ops_size w b)

-- of unmarked and marked stages
abbrev plain_weight : PlainStages → ℕ
plain_weight no_stage = 0
plain_weight (more_stage first last true node rest) = plain_weight rest
plain_weight (more_stage first last false node rest) = node_weight 1 node + plain_weight rest

abbrev marked_weight : PlainStages → ℕ
marked_weight no_stage = 0
marked_weight (more_stage first last true node rest) = node_weight 1 node + marked_weight rest
marked_weight (more_stage first last false node rest) = marked_weight rest

split_weight : (xs : PlainStages) → stages_weight 1 xs ≡ plain_weight xs + marked_weight xs
split_weight no_stage = refl
split_weight (more_stage first last true node rest) = omega (arith, split_weight rest)
split_weight (more_stage first last false node rest) = omega (arith, split_weight rest)

row_size : (l : ℕ) (xs : List PlainNode) (rest : PlainStages) → stages_size (stages_in l xs rest) ≡ list_size xs + stages_size rest
row_size l [] rest = omega arith
row_size l (x ∷ xs) rest = omega (arith, row_size l xs rest)

below_length : (n : ℕ) → length (numbers_below n) ≡ n
below_length zero = refl
below_length (suc n) = omega (arith, below_length n, length-append (numbers_below n) (n ∷ []))

rows_size : (most l : ℕ) (f : ℕ → List PlainNode) (xs : List ℕ) (rest : PlainStages) → ((x : ℕ) → list_size (f x) ≤ most) → stages_size (stages_by_lane l (map f xs) rest) ≤ length xs * most + stages_size rest
rows_size most l f [] rest h = omega arith
rows_size most l f (x ∷ xs) rest h = omega (arith, h x, rows_size most (suc l) f xs rest h, row_size l (f x) (stages_by_lane (suc l) (map f xs) rest))

module _ (order : List ℕ) where
  -- a body in lanes
  lanes_size : (w : Within) (counters : List PlainCounter) (owned : List ℕ) (ops : List PlainOp) (comb : Option ℕ) → 1 ≤ lanes_of counters → lanes_of counters ≤ 16 → (comb ≡ None) ⊎ (1 ≤ length ops)
      → length (ops_in_lanes order w counters owned ops comb) ≤ 16 + 7 * (lanes_of counters * length ops)
  lanes_size w counters owned ops None h k l = omega (arith, k, plain_size (last_number counters) (in_lane order counters owned w) owned (lanes_of counters) ops h)
  lanes_size w counters owned ops (Some at) h k (inr l) =
      omega (arith, laned_size (last_number counters) (in_lane order counters owned w) owned (lanes_of counters) ops at h, mul-le (lanes_of counters) 1 (lanes_of counters) (length ops) (omega arith) l)
  lanes_size w counters owned ops (Some at) h k (inl l) = absurd (none-some at (sym l))

  inner_size : (w : Within) (counters : List PlainCounter) (owned : List ℕ) (ops : List PlainOp) (comb : Option ℕ) → 1 ≤ lanes_of counters → lanes_of counters ≤ 16 → (comb ≡ None) ⊎ (1 ≤ length ops)
      → length (inner_ops order w counters owned ops comb) ≤ 16 + 7 * (lanes_of counters * length ops)
  inner_size w counters owned ops comb h k l =
      if_size (lanes_of counters == 1) (ops_in (in_lane order counters owned w 0) ops) (ops_in_lanes order w counters owned ops comb) (16 + 7 * (lanes_of counters * length ops))
      (omega (arith, ops_size (in_lane order counters owned w 0) ops, mul-le 1 (length ops) (lanes_of counters) (length ops) h (omega arith)))
      (lanes_size w counters owned ops comb h k l)

  -- a combination in lanes
  comb_size : (w : Within) (counters : List PlainCounter) (owned : List ℕ) (x : PlainNode) → 1 ≤ lanes_of counters → lanes_of counters ≤ 16 → Fits x → IsInner x
      → node_size (combination_in order w counters owned x) ≤ 17 * (lanes_of counters * node_weight 1 x)
  comb_size w counters owned (inner own_counters own ops comb) h k l i =
      let all : ℕ = lanes_of counters in
      let mine : ℕ = lanes_of own_counters in
      let bounds : ℕ = 1 + counters_size own_counters in
      let one : all * length ops ≤ all * (mine * length ops) = mul-le all (length ops) all (mine * length ops) (omega arith) (omega (arith, mul-le 1 (length ops) mine (length ops) l.0 (omega arith))) in
      omega (arith, one, mul-le 1 bounds all bounds h (omega arith), counters_same (in_lane order counters owned w 0) own_counters, lanes_size w counters owned ops comb h k l.1)
  comb_size w counters owned (outer c style o stages) h k l i = absurd i
  comb_size w counters owned (fsm start state test body next) h k l i = absurd i
  comb_size w counters owned (branch test first second) h k l i = absurd i
  comb_size w counters owned (load dram mem spans) h k l i = absurd i
  comb_size w counters owned (store dram mem spans) h k l i = absurd i
  comb_size w counters owned (sparse kind dram mem index spans count par) h k l i = absurd i

  after_size : (w : Within) (counters : List PlainCounter) (owned : List ℕ) (xs : PlainStages) → 1 ≤ lanes_of counters → lanes_of counters ≤ 16 → AllFit xs
      → stages_size (stage_after (lanes_of counters) (option_map (combination_in order w counters owned) (combination_of xs))) ≤ 17 * (lanes_of counters * marked_weight xs)
  after_size w counters owned no_stage h k l = omega arith
  after_size w counters owned (more_stage first last true node rest) h k l = omega (arith, comb_size w counters owned node h k l.0 l.1)
  after_size w counters owned (more_stage first last false node rest) h k l = after_size w counters owned rest h k l.1

  either_size : (b : Bool) (x y : PlainNode) (k : ℕ) → node_size x ≤ k → node_size y ≤ k → node_size (elim b [ true ↦ x | false ↦ y ]) ≤ k
  either_size true x y k h l = h
  either_size false x y k h l = l

  mutual
    unfolding node_in left_as_they_are nodes_in

    pub node_small : (w : Within) (a : ℕ) (x : PlainNode) → 1 ≤ a → IsWithin a x → Fits x → node_size (node_in order w x) ≤ 17 * node_weight 1 x
    node_small w a (inner counters owned ops comb) h k l =
        omega (arith, counters_same w counters, inner_size w counters owned ops comb l.0 (few a (lanes_of counters) h k) l.1)
    node_small w a (outer counters style owned stages) h k l =
        let all : ℕ = lanes_of counters in
        let most : all ≤ 16 = few a all h k.0 in
        let some : 1 ≤ a * all = mul-le 1 1 a all h l.0 in
        let bounds = counters_same w counters in
        let weight : stages_weight (1 * all) stages ≡ all * stages_weight 1 stages = in_lanes all stages in
        let lists : List (List PlainNode) = map (λ m. nodes_in order (in_lane order counters owned w m) stages) (numbers_below all) in
        let last : PlainStages = stage_after all (option_map (combination_in order w counters owned) (combination_of stages)) in
        either_size (all == 1) (outer (counters_in w counters) style (owned_in_lanes order counters owned w) (left_as_they_are order (in_lane order counters owned w 0) stages))
        (outer (counters_in w counters) style (owned_in_lanes order counters owned w) (stages_by_lane 0 lists last)) (17 * node_weight 1 (outer counters style owned stages))
        (omega (arith, bounds, weight, left_small (in_lane order counters owned w 0) (a * all) stages some k.1 l.1, mul-le 1 (stages_weight 1 stages) all (stages_weight 1 stages) l.0 (omega arith)))
        (omega (
          arith,
          bounds,
          weight,
          ap (λ n. all * n) (split_weight stages),
          after_size w counters owned stages l.0 most l.1,
          below_length all,
          rows_size (17 * plain_weight stages) 0 (λ m. nodes_in order (in_lane order counters owned w m) stages) (numbers_below all) last (λ m. row_small (in_lane order counters owned w m) (a * all) stages some k.1 l.1),
          ap (λ n. n * (17 * plain_weight stages)) (below_length all),
        ))
    node_small w a (fsm start state test body next) h k l =
        let inside : Within = owning order (state ∷ []) w in
        omega (arith, ops_size w start, ops_size inside test, ops_size inside next, node_small inside a body h k l)
    node_small w a (branch test first second) h k l = omega (arith, ops_size w test, node_small w a first h k.0 l.0, node_small w a second h k.1 l.1)
    node_small w a (load dram mem spans) h k l = omega (arith, spans_same w spans)
    node_small w a (store dram mem spans) h k l = omega (arith, spans_same w spans)
    node_small w a (sparse kind dram mem index spans count par) h k l = omega (arith, spans_same w spans, ops_size w count)

    left_small : (w : Within) (a : ℕ) (xs : PlainStages) → 1 ≤ a → AreWithin a xs → AllFit xs → stages_size (left_as_they_are order w xs) ≤ 17 * stages_weight 1 xs
    left_small w a no_stage h k l = omega arith
    left_small w a (more_stage first last true node rest) h k l = omega (arith, node_small w a node h k.0 l.0, left_small w a rest h k.1 l.2)
    left_small w a (more_stage first last false node rest) h k l = omega (arith, node_small w a node h k.0 l.0, left_small w a rest h k.1 l.1)

    row_small : (w : Within) (a : ℕ) (xs : PlainStages) → 1 ≤ a → AreWithin a xs → AllFit xs → list_size (nodes_in order w xs) ≤ 17 * plain_weight xs
    row_small w a no_stage h k l = omega arith
    row_small w a (more_stage first last true node rest) h k l = row_small w a rest h k.1 l.2
    row_small w a (more_stage first last false node rest) h k l = omega (arith, node_small w a node h k.0 l.0, row_small w a rest h k.1 l.1)
