-- Where no part of a core stands in more than 16 lanes, its weighted size is at most 16 times its size.
use Rattle.std.proofs.Common.{ℕ, ◌+◌, ◌*◌, ◌≤◌, [], ◌∷◌, ◌++◌, length, subst, arith}
use Rattle.std.proofs.lemmas.Nat.{mul-le}
use Rattle.std.proofs.Math.Nat.{mul_assoc}
use Rattle.sp_core.specs.Around.{lanes_of}
use Rattle.sp_core.specs.Invariant.{owned_in, owned_in_stages}
use Rattle.sp_core.specs.Numbering.{node_count, node_count_in, operation_count, operation_count_in, counters_size, spans_size}
use Rattle.sp_core.specs.PlainCore.{PlainNode, PlainStages, inner, outer, fsm, branch, load, store, sparse, no_stage, more_stage}
use Rattle.sp_lane_rules.specs.Copies.{occurrences, copies_in, copies_in_stages}
use Rattle.sp_lane_rules.proofs.CopiesCounts.{count_append}
use Rattle.sp_lane_cores.specs.LanedWeights.{node_weight, stages_weight}

-- no part stands in more than 16 lanes
abbrev mutual
  pub IsWithin : (around : ℕ) → PlainNode → Type 0
  IsWithin around (inner counters owned ops comb) = around * lanes_of counters ≤ 16
  IsWithin around (outer counters style owned stages) = (around * lanes_of counters ≤ 16) × AreWithin (around * lanes_of counters) stages
  IsWithin around (fsm start state test body next) = IsWithin around body
  IsWithin around (branch test first second) = IsWithin around first × IsWithin around second
  IsWithin around node = Unit {0}

  pub AreWithin : (around : ℕ) → PlainStages → Type 0
  AreWithin around no_stage = Unit {0}
  AreWithin around (more_stage first last comb node rest) = IsWithin around node × AreWithin around rest

times : (w x : ℕ) → w ≤ 16 → w * x ≤ 16 * x
times w x h = mul-le w x 16 x h (omega arith)

mutual
  pub node_heavy : (w : ℕ) (x : PlainNode) → w ≤ 16 → IsWithin w x → node_weight w x ≤ 16 * (node_count x + operation_count x)
  node_heavy w (inner counters owned ops comb) h k = omega (arith, times w (1 + counters_size counters) h, times (w * lanes_of counters) (length ops) k)
  node_heavy w (outer counters style owned stages) h k = omega (arith, times w (1 + counters_size counters) h, stages_heavy (w * lanes_of counters) stages k.0 k.1)
  node_heavy w (fsm start state test body next) h k = omega (arith, times w (1 + length start + length test + length next) h, node_heavy w body h k)
  node_heavy w (branch test first second) h k = omega (arith, times w (1 + length test) h, node_heavy w first h k.0, node_heavy w second h k.1)
  node_heavy w (load dram mem spans) h k = omega (arith, times w (1 + spans_size spans) h)
  node_heavy w (store dram mem spans) h k = omega (arith, times w (1 + spans_size spans) h)
  node_heavy w (sparse kind dram mem index spans count par) h k = omega (arith, times w (1 + spans_size spans + length count) h)

  stages_heavy : (w : ℕ) (xs : PlainStages) → w ≤ 16 → AreWithin w xs → stages_weight w xs ≤ 16 * (node_count_in xs + operation_count_in xs)
  stages_heavy w no_stage h k = omega arith
  stages_heavy w (more_stage first last comb node rest) h k = omega (arith, node_heavy w node h k.0, stages_heavy w rest h k.1)

-- so often a memory is copied
one_by_one : (w l a b : ℕ) → w * l ≤ 16 → w * l * b ≤ 16 * a → w * (l * b) ≤ 16 * a
one_by_one w l a b h k = subst (λ n. n ≤ 16 * a) (mul_assoc w l b) k

mutual
  pub node_copies : (m w : ℕ) (x : PlainNode) → w ≤ 16 → IsWithin w x → w * copies_in x m ≤ 16 * occurrences m (owned_in x)
  node_copies m w (inner counters owned ops comb) h k =
      one_by_one w (lanes_of counters) (occurrences m owned) (occurrences m owned) k (times (w * lanes_of counters) (occurrences m owned) k)
  node_copies m w (outer counters style owned stages) h k =
      let l : ℕ = w * lanes_of counters in
      one_by_one w (lanes_of counters) (occurrences m (owned ++ owned_in_stages stages)) (occurrences m owned + copies_in_stages stages m) k.0
      (omega (arith, times l (occurrences m owned) k.0, stages_copies m l stages k.0 k.1, count_append m owned (owned_in_stages stages)))
  node_copies m w (fsm start state test body next) h k = omega (arith, times w (occurrences m (state ∷ [])) h, node_copies m w body h k)
  node_copies m w (branch test first second) h k = omega (arith, node_copies m w first h k.0, node_copies m w second h k.1, count_append m (owned_in first) (owned_in second))
  node_copies m w (load dram mem spans) h k = omega arith
  node_copies m w (store dram mem spans) h k = omega arith
  node_copies m w (sparse kind dram mem index spans count par) h k = omega arith

  stages_copies : (m w : ℕ) (xs : PlainStages) → w ≤ 16 → AreWithin w xs → w * copies_in_stages xs m ≤ 16 * occurrences m (owned_in_stages xs)
  stages_copies m w no_stage h k = omega arith
  stages_copies m w (more_stage first last comb node rest) h k = omega (arith, node_copies m w node h k.0, stages_copies m w rest h k.1, count_append m (owned_in node) (owned_in_stages rest))
