-- What is done in a run costs no more than the limit, for as many turns as it goes around. At each node the cost and one more
-- is no more than the node's weight, and for each round a number of cycles more that is no less than all nodes' weight and
-- the delay: a body's first group and the cycles beside its members are paid by its weight.
use Rattle.std.proofs.Common.{◌≡◌, ℕ, zero, suc, pred, ◌+◌, ◌*◌, ◌≤◌, Bool, true, false, List, [], ◌∷◌, length, map, max, arith, refl, ap, ◌∙◌}
use Rattle.std.proofs.lemmas.List.{length-append, length-map}
use Rattle.sp_words.specs.declared.kind.Style.{Style}
use Rattle.sp_words.specs.declared.kind.Style.TheVariants.{Pipe, Sequential, Parallel, Stream}
use Rattle.sp_core.specs.declared.node.SparseKind.{SparseKind}
use Rattle.sp_core.specs.declared.node.SparseKind.TheVariants.{Gather, Scatter, WideLoad, WideStore}
use Rattle.sp_core.specs.Cost.{Timing, Timings, ii_of, latency_of, slots_of, chains_of, is_together, group_count, sum_of, greatest_of, waits, inner_cost, picked_cost, lane_cost, wide_cost, sparse_cost, stream_cost, outer_cost, beats_cost, cost, group_costs, stage_costs, turns_cost}
use Rattle.sp_core.specs.Elements.{numbers_below}
use Rattle.sp_core.specs.History.{History, Groups, Runs, Turns, outer_ran, fsm_ran, branch_ran, moved, no_group, more_group, no_run, masked_run, more_run, no_turn, more_turn}
use Rattle.sp_core.specs.Latency.{latency_of_all, list_weight, weight, stages_weight}
use Rattle.sp_core.specs.Numbering.{node_count}
use Rattle.sp_core.specs.PlainCore.{PlainOp, PlainCounter, PlainSpan, PlainNode, PlainStages, inner, outer, fsm, branch, load, store, sparse, no_stage, more_stage, PlainCore}
use Rattle.sp_core.specs.Shape.{Shape, inner_shape, words_shape, lanes_shape, lane_words, last_length, row_count, shape_of, group_shapes, stage_shapes, body_shapes}
use Rattle.sp_core.specs.Transfers.{part_of, lengths}
use Rattle.sp_within.specs.Laws.{stages_in, IsBrisk, AreBrisk, CostsAreWithin}
use Rattle.sp_within.specs.Rounds.{groups_in, moves, rounds, group_rounds, stage_rounds, turn_rounds}
use Rattle.std.proofs.Math.Nat.{mul-suc}
use Rattle.sp_within.proofs.Beats.{all_of, beats_under}
use Rattle.sp_within.proofs.Sums.{one_more, two_parts, more_each, more_rounds, delays_under, lane_delays_under}
use Rattle.sp_within.proofs.Weights.{list_under, node_some, stages_some}

module _ (core : PlainCore) (timings : Timings) (d y : ℕ) where
  -- of a number of groups
  inner_case : (groups ii l lat w : ℕ) → l ≤ lat → ii ≤ max 1 l → 4 + lat ≤ w → w ≤ y → inner_cost core timings d groups ii l + 1 ≤ w + pred groups * y
  inner_case zero ii l lat w a b c e = omega arith
  inner_case (suc n) ii l lat w a b c e = let x : n * ii ≤ n * y = more_each n ii y (omega arith) in omega arith

  -- of a number of words, at least two cycles and a delay for each
  transfer_case : (words extra w : ℕ) → extra ≤ suc w → 2 + d ≤ y → extra + (words + d * max 1 (waits words)) ≤ w + suc words * y
  transfer_case words extra w a b =
      let x : d * max 1 (waits words) ≤ suc words * d = delays_under d words in
      let z : suc words * suc (suc d) ≤ suc words * y = more_each (suc words) (suc (suc d)) y (omega (arith, b)) in
      let u : suc words * suc (suc d) ≡ suc words * suc d + suc words = mul-suc (suc words) (suc d) in
      let v : suc words * suc d ≡ suc words * d + suc words = mul-suc (suc words) d in
      omega arith

  lanes_case : (ws : List ℕ) → sum_of (map (lane_cost core timings d) ws) ≤ 4 * length ws + (sum_of ws + sum_of ws * d)
  lanes_case [] = omega arith
  lanes_case (w ∷ ws) =
      let a : sum_of (map (lane_cost core timings d) ws) ≤ 4 * length ws + (sum_of ws + sum_of ws * d) = lanes_case ws in
      let b : d * waits w ≤ w * d = lane_delays_under d w in
      let c : (w + sum_of ws) * d ≡ w * d + sum_of ws * d = two_parts w (sum_of ws) d in
      omega arith

  greatest_under_sum : (ns : List ℕ) → greatest_of ns ≤ sum_of ns
  greatest_under_sum [] = omega arith
  greatest_under_sum (n ∷ ns) = let a : greatest_of ns ≤ sum_of ns = greatest_under_sum ns in omega arith

  wide_under : (together : Bool) (ws : List ℕ) → wide_cost core timings d together ws ≤ 2 + sum_of (map (lane_cost core timings d) ws)
  wide_under true ws = let a : greatest_of (map (lane_cost core timings d) ws) ≤ sum_of (map (lane_cost core timings d) ws) = greatest_under_sum (map (lane_cost core timings d) ws) in omega arith
  wide_under false ws = omega arith

  wide_case : (together : Bool) (ws : List ℕ) (par w : ℕ) → length ws ≤ par → 4 * par ≤ w → 3 + d ≤ y → wide_cost core timings d together ws + 1 ≤ w + suc (sum_of ws) * y
  wide_case together ws par w a b c =
      let e : wide_cost core timings d together ws ≤ 2 + sum_of (map (lane_cost core timings d) ws) = wide_under together ws in
      let f : sum_of (map (lane_cost core timings d) ws) ≤ 4 * length ws + (sum_of ws + sum_of ws * d) = lanes_case ws in
      let g : sum_of ws * suc d ≤ sum_of ws * y = more_each (sum_of ws) (suc d) y (omega arith) in
      let h : sum_of ws * suc d ≡ sum_of ws * d + sum_of ws = mul-suc (sum_of ws) d in
      let i : suc (sum_of ws) * y ≡ y + sum_of ws * y = one_more (sum_of ws) y in
      omega arith

  -- the leaves of a tree, by any shape
  inner_any : (counters : List PlainCounter) (owned : List ℕ) (ops : List PlainOp) (comb : _) (k : ℕ) (s : Shape) → IsBrisk core timings (inner counters owned ops comb) k → weight core (inner counters owned ops comb) + d ≤ y
      → cost core timings d (inner counters owned ops comb) k s + 1 ≤ weight core (inner counters owned ops comb) + rounds (inner counters owned ops comb) s * y
  unfolding cost rounds
  inner_any counters owned ops comb k (inner_shape counts) b l =
      let a : latency_of_all core ops ≤ list_weight core ops = list_under core ops in
      inner_case (group_count counters counts) (ii_of (timings k)) (latency_of (timings k)) (latency_of_all core ops) (weight core (inner counters owned ops comb)) b.0 b.1 (omega arith) (omega arith)
  inner_any counters owned ops comb k s b l = omega arith

  load_any : (r m : ℕ) (spans : List PlainSpan) (k : ℕ) (s : Shape) → weight core (load r m spans) + d ≤ y → cost core timings d (load r m spans) k s + 1 ≤ weight core (load r m spans) + rounds (load r m spans) s * y
  unfolding cost rounds
  load_any r m spans k (words_shape w) l = let a : 4 + (w + d * max 1 (waits w)) ≤ weight core (load r m spans) + suc w * y = transfer_case w 4 (weight core (load r m spans)) (omega arith) (omega arith) in omega arith
  load_any r m spans k s l = omega arith

  store_any : (r m : ℕ) (spans : List PlainSpan) (k : ℕ) (s : Shape) → weight core (store r m spans) + d ≤ y → cost core timings d (store r m spans) k s + 1 ≤ weight core (store r m spans) + rounds (store r m spans) s * y
  unfolding cost rounds
  store_any r m spans k (words_shape w) l = let a : 4 + (w + d * max 1 (waits w)) ≤ weight core (store r m spans) + suc w * y = transfer_case w 4 (weight core (store r m spans)) (omega arith) (omega arith) in omega arith
  store_any r m spans k s l = omega arith

  -- a shape of no more lanes
  abbrev HasLanes : ℕ → Shape → Type 0
  HasLanes par (lanes_shape ws) = length ws ≤ par
  HasLanes par _ = Unit {0}

  picked_under : (n w : ℕ) → 4 ≤ w → w + d ≤ y → picked_cost core timings d n + 1 ≤ w + suc n * y
  picked_under n w a b = let x : 5 + (n + d * max 1 (waits n)) ≤ w + suc n * y = transfer_case n 5 w (omega arith) (omega arith) in omega arith

  sparse_any : (kind : SparseKind) (t : Timing) (par w : ℕ) (s : Shape) → 1 ≤ par → 4 * par ≤ w → w + d ≤ y → HasLanes par s → sparse_cost core timings d kind t s + 1 ≤ w + moves s * y
  sparse_any Gather t par w (words_shape n) p q l h = picked_under n w (omega arith) l
  sparse_any Scatter t par w (words_shape n) p q l h = picked_under n w (omega arith) l
  sparse_any WideLoad t par w (lanes_shape ws) p q l h = wide_case (is_together t) ws par w h q (omega arith)
  sparse_any WideStore t par w (lanes_shape ws) p q l h = wide_case (is_together t) ws par w h q (omega arith)
  sparse_any kind t par w s p q l h = omega arith

  numbers_length : (n : ℕ) → length (numbers_below n) ≡ n
  numbers_length zero = refl
  numbers_length (suc n) = let a : length (numbers_below n) ≡ n = numbers_length n in length-append (numbers_below n) (n ∷ []) ∙ omega arith

  sparse_lanes : (kind : SparseKind) (r m : ℕ) (places : _) (spans : List PlainSpan) (count : List PlainOp) (par : ℕ) (h : History) → HasLanes par (shape_of (sparse kind r m places spans count par) h)
  unfolding shape_of
  sparse_lanes kind r m places spans count par (moved taken words) = let a = numbers_length par in let b = length-map (numbers_below par) (lane_words (row_count (lengths (map part_of taken))) (last_length (lengths (map part_of taken))) par) in omega (arith, a, b)
  sparse_lanes kind r m places spans count par h = tt

  -- groups of an outer body, so many of them, that go around so often
  record GroupsUnder (rows : List (List ℕ)) (groups round : ℕ) : Type 0 where
    pub many : length rows ≡ groups
    pub all : all_of rows + groups ≤ (groups + round) * y
    pub streamed : stream_cost core timings d rows ≤ 3 + (groups + round) * y

  -- one of them: its stages have a cycle each to spare
  record RowUnder (row : List ℕ) (stages weight round : ℕ) : Type 0 where
    pub few : length row ≤ stages
    pub sum : sum_of row + stages ≤ weight + round * y

  one_each : (row : List ℕ) → sum_of (map (λ c. 1 + c) row) ≡ sum_of row + length row
  one_each [] = refl
  one_each (c ∷ row) = let a : sum_of (map (λ c. 1 + c) row) ≡ sum_of row + length row = one_each row in omega arith

  no_groups : GroupsUnder [] 0 0
  no_groups = record { many = refl; all = omega arith; streamed = omega arith }

  one_group_more : (row : List ℕ) (rows : List (List ℕ)) (stages weight round groups rest : ℕ) → 1 + weight ≤ y → RowUnder row stages weight round → GroupsUnder rows groups rest → GroupsUnder (row ∷ rows) (suc groups) (round + rest)
  one_group_more row rows stages weight round groups rest w r g =
      let many : length rows ≡ groups = g.many in
      let a : sum_of row + stages ≤ weight + round * y = r.sum in
      let few : length row ≤ stages = r.few in
      let b : all_of rows + groups ≤ (groups + rest) * y = g.all in
      let c : stream_cost core timings d rows ≤ 3 + (groups + rest) * y = g.streamed in
      let e : sum_of (map (λ c. 1 + c) row) ≡ sum_of row + length row = one_each row in
      let s : suc groups + (round + rest) ≡ suc (round + (groups + rest)) = omega arith in
      let m : (suc groups + (round + rest)) * y ≡ y + (round * y + (groups + rest) * y) = ap (λ x. x * y) s ∙ one_more (round + (groups + rest)) y ∙ ap (λ x. y + x) (two_parts round (groups + rest) y) in
      record { many = omega arith; all = omega arith; streamed = omega arith }

  -- all of them, the first one paid by the body's weight
  outer_case : (style : Style) (t : Timing) (row : List ℕ) (rows : List (List ℕ)) (stages inside w round groups rest : ℕ) → greatest_of (slots_of t) ≤ stages → 4 + inside ≤ w → RowUnder row stages inside round → GroupsUnder rows groups rest
      → outer_cost core timings d style t (row ∷ rows) + 1 ≤ w + (groups + (round + rest)) * y
  outer_case style t row rows stages inside w round groups rest few l r g = go style
    where
      split : (groups + (round + rest)) * y ≡ round * y + (groups + rest) * y
      split = let s : groups + (round + rest) ≡ round + (groups + rest) = omega arith in ap (λ x. x * y) s ∙ two_parts round (groups + rest) y

      by_beats : beats_cost (slots_of t) (chains_of t) (row ∷ rows) + 1 ≤ w + (groups + (round + rest)) * y
      by_beats =
          let a : beats_cost (slots_of t) (chains_of t) (row ∷ rows) ≤ 2 + ((suc (length rows) + greatest_of (slots_of t)) + (sum_of row + all_of rows)) = beats_under (slots_of t) (chains_of t) (row ∷ rows) in
          let many : length rows ≡ groups = g.many in
          let b : all_of rows + groups ≤ (groups + rest) * y = g.all in
          let c : sum_of row + stages ≤ inside + round * y = r.sum in
          let short : length row ≤ stages = r.few in
          let e = split in
          omega arith

      go : (style : Style) → outer_cost core timings d style t (row ∷ rows) + 1 ≤ w + (groups + (round + rest)) * y
      go Stream =
          let a : sum_of (map (λ c. 1 + c) row) ≡ sum_of row + length row = one_each row in
          let b : stream_cost core timings d rows ≤ 3 + (groups + rest) * y = g.streamed in
          let c : sum_of row + stages ≤ inside + round * y = r.sum in
          let short : length row ≤ stages = r.few in
          let e = split in
          omega arith
      go Pipe = by_beats
      go Sequential = by_beats
      go Parallel = by_beats

  empty_case : (style : Style) (t : Timing) (w : ℕ) → 4 ≤ w → outer_cost core timings d style t [] + 1 ≤ w
  empty_case Stream t w l = omega arith
  empty_case Pipe t w l = omega arith
  empty_case Sequential t w l = omega arith
  empty_case Parallel t w l = omega arith

  mutual
    unfolding cost group_costs stage_costs turns_cost shape_of group_shapes stage_shapes body_shapes rounds group_rounds stage_rounds turn_rounds

    node_within : (node : PlainNode) (k : ℕ) (h : History) → IsBrisk core timings node k → weight core node + d ≤ y → cost core timings d node k (shape_of node h) + 1 ≤ weight core node + rounds node (shape_of node h) * y
    node_within (inner counters owned ops comb) k h b l = inner_any counters owned ops comb k (shape_of (inner counters owned ops comb) h) b l
    node_within (load r m spans) k h b l = load_any r m spans k (shape_of (load r m spans) h) l
    node_within (store r m spans) k h b l = store_any r m spans k (shape_of (store r m spans) h) l
    node_within (sparse kind r m places spans count par) k h b l =
        sparse_any kind (timings k) par (weight core (sparse kind r m places spans count par)) (shape_of (sparse kind r m places spans count par) h) b (omega arith) l (sparse_lanes kind r m places spans count par h)
    node_within (outer counters style owned stages) k (outer_ran bs counts no_group) b l = let a : outer_cost core timings d style (timings k) [] + 1 ≤ 4 = empty_case style (timings k) 4 (omega arith) in omega arith
    node_within (outer counters style owned stages) k (outer_ran bs counts (more_group rs groups)) b l =
        outer_case style (timings k) (stage_costs core timings d stages (suc k) (stage_shapes stages rs)) (group_costs core timings d stages (suc k) (group_shapes stages groups)) (stages_in stages) (stages_weight core stages) (weight core (outer counters style owned stages))
        (stage_rounds stages (stage_shapes stages rs)) (groups_in (group_shapes stages groups)) (group_rounds stages (group_shapes stages groups)) b.0 (omega arith)
        (stages_within stages (suc k) rs b.1 (omega arith)) (groups_within stages (suc k) groups b.1 (omega arith))
    node_within (fsm start state test body next) k (fsm_ran first ts last) b l =
        let a : turns_cost core timings d test body next (suc k) (body_shapes body ts) ≤ turn_rounds body (body_shapes body ts) * y = turns_within test body next (suc k) ts b (omega arith) in
        let s : latency_of_all core start ≤ list_weight core start = list_under core start in
        let t : latency_of_all core test ≤ list_weight core test = list_under core test in
        let w : 4 ≤ weight core body = node_some core timings body (suc k) b in
        omega arith
    node_within (branch test first second) k (branch_ran es true h) b l =
        let a : cost core timings d first (suc k) (shape_of first h) + 1 ≤ weight core first + rounds first (shape_of first h) * y = node_within first (suc k) h b.0 (omega arith) in
        let t : latency_of_all core test ≤ list_weight core test = list_under core test in
        omega arith
    node_within (branch test first second) k (branch_ran es false h) b l =
        let a : cost core timings d second (suc k + node_count first) (shape_of second h) + 1 ≤ weight core second + rounds second (shape_of second h) * y = node_within second (suc k + node_count first) h b.1 (omega arith) in
        let t : latency_of_all core test ≤ list_weight core test = list_under core test in
        omega arith
    node_within node k h b l = let a : 4 ≤ weight core node = node_some core timings node k b in omega arith

    groups_within : (stages : PlainStages) (k : ℕ) (groups : Groups) → AreBrisk core timings stages k → 1 + (stages_weight core stages + d) ≤ y
        → GroupsUnder (group_costs core timings d stages k (group_shapes stages groups)) (groups_in (group_shapes stages groups)) (group_rounds stages (group_shapes stages groups))
    groups_within stages k no_group b l = no_groups
    groups_within stages k (more_group rs groups) b l =
        one_group_more _ _ (stages_in stages) (stages_weight core stages) _ _ _ (omega arith) (stages_within stages k rs b (omega arith)) (groups_within stages k groups b l)

    stages_within : (stages : PlainStages) (k : ℕ) (rs : Runs) → AreBrisk core timings stages k → stages_weight core stages + d ≤ y
        → RowUnder (stage_costs core timings d stages k (stage_shapes stages rs)) (stages_in stages) (stages_weight core stages) (stage_rounds stages (stage_shapes stages rs))
    stages_within (more_stage first last comb node rest) k (more_run h rs) b l =
        let a : cost core timings d node k (shape_of node h) + 1 ≤ weight core node + rounds node (shape_of node h) * y = node_within node k h b.0 (omega arith) in
        let r = stages_within rest (k + node_count node) rs b.1 (omega arith) in
        let few : length (stage_costs core timings d rest (k + node_count node) (stage_shapes rest rs)) ≤ stages_in rest = r.few in
        let s : sum_of (stage_costs core timings d rest (k + node_count node) (stage_shapes rest rs)) + stages_in rest ≤ stages_weight core rest + stage_rounds rest (stage_shapes rest rs) * y = r.sum in
        let m = two_parts (rounds node (shape_of node h)) (stage_rounds rest (stage_shapes rest rs)) y in
        record { few = omega arith; sum = omega arith }
    stages_within (more_stage first last comb node rest) k (masked_run rs) b l =
        let a : 4 ≤ weight core node = node_some core timings node k b.0 in
        let r = stages_within rest (k + node_count node) rs b.1 (omega arith) in
        let few : length (stage_costs core timings d rest (k + node_count node) (stage_shapes rest rs)) ≤ stages_in rest = r.few in
        let s : sum_of (stage_costs core timings d rest (k + node_count node) (stage_shapes rest rs)) + stages_in rest ≤ stages_weight core rest + stage_rounds rest (stage_shapes rest rs) * y = r.sum in
        record { few = omega arith; sum = omega arith }
    stages_within (more_stage first last comb node rest) k no_run b l =
        let a : stages_in (more_stage first last comb node rest) ≤ stages_weight core (more_stage first last comb node rest) = stages_some core timings (more_stage first last comb node rest) k b in
        record { few = omega arith; sum = omega arith }
    stages_within no_stage k rs b l = record { few = omega arith; sum = omega arith }

    turns_within : (test : List PlainOp) (body : PlainNode) (next : List PlainOp) (k : ℕ) (ts : Turns) → IsBrisk core timings body k → 4 + (list_weight core test + (weight core body + list_weight core next)) + d ≤ y
        → turns_cost core timings d test body next k (body_shapes body ts) ≤ turn_rounds body (body_shapes body ts) * y
    turns_within test body next k no_turn b l = omega arith
    turns_within test body next k (more_turn es h ns rest) b l =
        let a : cost core timings d body k (shape_of body h) + 1 ≤ weight core body + rounds body (shape_of body h) * y = node_within body k h b (omega arith) in
        let c : turns_cost core timings d test body next k (body_shapes body rest) ≤ turn_rounds body (body_shapes body rest) * y = turns_within test body next k rest b l in
        let t : latency_of_all core test ≤ list_weight core test = list_under core test in
        let n : latency_of_all core next ≤ list_weight core next = list_under core next in
        let m = two_parts (suc (rounds body (shape_of body h))) (turn_rounds body (body_shapes body rest)) y in
        let o = one_more (rounds body (shape_of body h)) y in
        omega arith

pub costs_are_within : (core : PlainCore) (timings : Timings) (d : ℕ) → CostsAreWithin core timings d
costs_are_within core timings d brisk h n l =
    let y : ℕ = d + 8 * (weight core core.root + 1) in
    let r : ℕ = rounds core.root (shape_of core.root h) in
    let a : cost core timings d core.root 0 (shape_of core.root h) + 1 ≤ weight core core.root + r * y = node_within core timings d y core.root 0 h brisk (omega arith) in
    let b : suc r * y ≤ (n + 1) * y = more_rounds (suc r) (n + 1) y (omega arith) in
    let c : suc r * y ≡ y + r * y = one_more r y in
    omega arith
