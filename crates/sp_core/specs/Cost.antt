-- How many cycles a run of a core takes at most, by the numbers of a plan, the run's shape and the greatest delay of a
-- transfer.
use Rattle.std.specs.Prelude.{ℕ, zero, suc, ◌+◌, ◌-◌, ◌*◌, max, ◌==◌, nat_le, nat_lt, Bool, true, false, ◌&&◌, List, [], ◌∷◌, map, length, slice_index, slice_index_or, if◌then◌else◌}
use Rattle.sp_words.specs.declared.kind.Style.{Style}
use Rattle.sp_words.specs.declared.kind.Style.TheVariants.{Stream}
use Rattle.sp_core.specs.declared.node.SparseKind.{SparseKind}
use Rattle.sp_core.specs.declared.node.SparseKind.TheVariants.{Gather, Scatter, WideLoad, WideStore}
use Rattle.sp_core.specs.Latency.{latency_of_all}
use Rattle.sp_core.specs.Numbering.{node_count}
use Rattle.sp_core.specs.PlainCore.{PlainOp, PlainCounter, PlainNode, PlainStages, inner, outer, fsm, branch, load, store, sparse, more_stage, PlainCore}
use Rattle.sp_core.specs.Shape.{Shape, GroupShapes, StageShapes, BodyShapes, inner_shape, outer_shape, fsm_shape, branch_shape, words_shape, lanes_shape, no_group_shape, more_group_shape, masked_shape, more_stage_shape, no_body_shape, more_body_shape, ceil_div}

-- the numbers that a plan has for a node
pub data Timing : Type 0 where
  -- an inner body: how many cycles one group begins after another, and when its last operation is over
  inner_timing : (ii latency : ℕ) → Timing
  -- an outer body: for each stage its slot, and its chain in that slot
  outer_timing : (slots chains : List ℕ) → Timing
  -- a wide transfer: whether its lanes are at work at once
  wide_timing : (together : Bool) → Timing
  no_timing : Timing

abbrev pub Timings : Type 0
Timings = (node : ℕ) → Timing

abbrev pub ii_of : Timing → ℕ
ii_of (inner_timing ii latency) = ii
ii_of _ = 0

abbrev pub latency_of : Timing → ℕ
latency_of (inner_timing ii latency) = latency
latency_of _ = 0

abbrev pub slots_of : Timing → List ℕ
slots_of (outer_timing slots chains) = slots
slots_of _ = []

abbrev pub chains_of : Timing → List ℕ
chains_of (outer_timing slots chains) = chains
chains_of _ = []

abbrev pub is_together : Timing → Bool
is_together (wide_timing together) = together
is_together _ = false

-- how many groups there are, by how many values each counter has: those of the last one are taken several at once
abbrev pub group_count : List PlainCounter → (counts : List ℕ) → ℕ
group_count (c ∷ []) (n ∷ _) = ceil_div n c.par
group_count (c ∷ counters) (n ∷ counts) = n * group_count counters counts
group_count _ _ = 1

-- the numbers below n, summed and at their greatest
abbrev pub sum_below : (ℕ → ℕ) → ℕ → ℕ
sum_below f zero = 0
sum_below f (suc n) = sum_below f n + f n

abbrev pub greatest_below : (ℕ → ℕ) → ℕ → ℕ
greatest_below f zero = 0
greatest_below f (suc n) = max (greatest_below f n) (f n)

abbrev pub sum_of : List ℕ → ℕ
sum_of [] = 0
sum_of (n ∷ ns) = n + sum_of ns

abbrev pub greatest_of : List ℕ → ℕ
greatest_of [] = 0
greatest_of (n ∷ ns) = max n (greatest_of ns)

-- the beats of an outer, by slots and chains and by what each stage's run costs in each group
module _ (slots chains : List ℕ) (costs : List (List ℕ)) where
  abbrev pub cost_at : (group stage : ℕ) → ℕ
  cost_at k s = slice_index (slice_index_or costs k []) s

  -- whether two stages are in one chain
  abbrev pub is_chain : (s r : ℕ) → Bool
  is_chain s r = (slice_index slots s == slice_index slots r) && (slice_index chains s == slice_index chains r)

  -- in a beat a stage is at work on the group that many beats after its slot, if there is one
  abbrev pub is_at_work : (beat stage : ℕ) → Bool
  is_at_work b s = nat_le (slice_index slots s) b && nat_lt (b - slice_index slots s) (length costs)

  abbrev pub work : (beat stage : ℕ) → ℕ
  work b s = if is_at_work b s then cost_at (b - slice_index slots s) s else 0

  -- the stages of a chain one after the other, the chains at once
  abbrev pub chain_cost : (beat stage : ℕ) → ℕ
  chain_cost b s = sum_below (λ r. if is_chain s r then work b r else 0) (length slots)

  abbrev pub beat_cost : ℕ → ℕ
  beat_cost b = 1 + greatest_below (chain_cost b) (length slots)

  abbrev pub beat_count : ℕ
  beat_count = if length costs == 0 then 0 else length costs + greatest_of slots

  abbrev pub beats_cost : ℕ
  beats_cost = 2 + sum_below beat_cost beat_count

-- so many words wait once for each 16 of them
abbrev pub waits : (words : ℕ) → ℕ
waits words = ceil_div words 16

module _ (core : PlainCore) (timings : Timings) (delay : ℕ) where
  abbrev pub inner_cost : (groups ii latency : ℕ) → ℕ
  inner_cost zero ii latency = 2
  inner_cost (suc n) ii latency = 2 + (n * ii + latency)

  -- the operations of a start, a test or a next, one after the other
  abbrev pub list_cost : List PlainOp → ℕ
  list_cost ops = 2 + latency_of_all core ops

  abbrev pub transfer_cost : (words : ℕ) → ℕ
  transfer_cost w = 3 + (w + delay * max 1 (waits w))

  -- a gather or scatter looks for each place first
  abbrev pub picked_cost : (words : ℕ) → ℕ
  picked_cost w = 4 + (w + delay * max 1 (waits w))

  abbrev pub lane_cost : (words : ℕ) → ℕ
  lane_cost w = 4 + (w + delay * waits w)

  abbrev pub wide_cost : (together : Bool) → List ℕ → ℕ
  wide_cost true lanes = 2 + greatest_of (map lane_cost lanes)
  wide_cost false lanes = 2 + sum_of (map lane_cost lanes)

  abbrev pub sparse_cost : SparseKind → Timing → Shape → ℕ
  sparse_cost Gather t (words_shape w) = picked_cost w
  sparse_cost Scatter t (words_shape w) = picked_cost w
  sparse_cost WideLoad t (lanes_shape ws) = wide_cost (is_together t) ws
  sparse_cost WideStore t (lanes_shape ws) = wide_cost (is_together t) ws
  sparse_cost _ t _ = 0

  -- the stages of a `Stream` block work at once, and one of them always goes on
  abbrev pub stream_cost : List (List ℕ) → ℕ
  stream_cost [] = 3
  stream_cost (costs ∷ rest) = sum_of (map (λ c. 1 + c) costs) + stream_cost rest

  abbrev pub outer_cost : Style → Timing → List (List ℕ) → ℕ
  outer_cost Stream t costs = stream_cost costs
  outer_cost _ t costs = beats_cost (slots_of t) (chains_of t) costs

  unfoldable mutual
    -- by the number of the node
    pub cost : PlainNode → (node : ℕ) → Shape → ℕ
    cost (inner counters owned ops comb) k (inner_shape counts) = inner_cost (group_count counters counts) (ii_of (timings k)) (latency_of (timings k))
    cost (outer counters style owned stages) k (outer_shape counts groups) = outer_cost style (timings k) (group_costs stages (suc k) groups)
    cost (fsm start state test body next) k (fsm_shape bodies) = 2 + (list_cost start + (list_cost test + turns_cost test body next (suc k) bodies))
    cost (branch test first second) k (branch_shape true s) = 2 + (list_cost test + cost first (suc k) s)
    cost (branch test first second) k (branch_shape false s) = 2 + (list_cost test + cost second (suc k + node_count first) s)
    cost (load r m spans) k (words_shape w) = transfer_cost w
    cost (store r m spans) k (words_shape w) = transfer_cost w
    cost (sparse kind r m places spans count par) k s = sparse_cost kind (timings k) s
    cost _ k _ = 0

    -- what each stage costs in each group, where the first one's node has number k; 2 where its lanes are masked
    pub group_costs : PlainStages → (node : ℕ) → GroupShapes → List (List ℕ)
    group_costs stages k no_group_shape = []
    group_costs stages k (more_group_shape runs rest) = stage_costs stages k runs ∷ group_costs stages k rest

    pub stage_costs : PlainStages → (node : ℕ) → StageShapes → List ℕ
    stage_costs (more_stage first last comb node rest) k (more_stage_shape s shapes) = cost node k s ∷ stage_costs rest (k + node_count node) shapes
    stage_costs (more_stage first last comb node rest) k (masked_shape shapes) = 2 ∷ stage_costs rest (k + node_count node) shapes
    stage_costs _ k _ = []

    -- for each turn the body, the next state and the test after it
    pub turns_cost : (test : List PlainOp) → PlainNode → (next : List PlainOp) → (node : ℕ) → BodyShapes → ℕ
    turns_cost test body next k no_body_shape = 0
    turns_cost test body next k (more_body_shape s rest) = (cost body k s + (list_cost next + list_cost test)) + turns_cost test body next k rest

  -- of the whole core
  abbrev pub core_cost : Shape → ℕ
  core_cost s = cost core.root 0 s + 2
