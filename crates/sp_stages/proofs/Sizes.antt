-- Numbers of operations and of stages are small.
use Rattle.std.proofs.Common.{◌≡◌, ℕ, zero, suc, ◌+◌, ◌-◌, ◌<◌, ◌≤◌, ◌^◌, nat_lt, Bool, true, false, cond, length, Option, Some, None, subst, ltb-true, arith}
use Rattle.sp_core.specs.Declarations.{is_stream}
use Rattle.sp_core.specs.Invariant.{IsCore}
use Rattle.sp_core.specs.Numbering.{node_count, node_count_in, counters_size, number_count, number_count_in, operation_count, operation_count_in, core_size}
use Rattle.sp_core.specs.PlainCore.{PlainNode, PlainStages, inner, outer, fsm, branch, load, store, sparse, no_stage, more_stage, PlainCore}
use Rattle.sp_plan.specs.Nodes.{Site, site_at, stage_site_at}
use Rattle.sp_plan.specs.Slots.{runs_of}

-- each transfer is a node
mutual
  numbers_of : (node : PlainNode) → number_count node ≤ node_count node + operation_count node
  numbers_of (inner counters owned ops comb) = omega arith
  numbers_of (outer counters style owned stages) = let k = numbers_in stages in omega arith
  numbers_of (fsm start state test body next) = let k = numbers_of body in omega arith
  numbers_of (branch test first second) = let k = numbers_of first in let l = numbers_of second in omega arith
  numbers_of (load r m spans) = omega arith
  numbers_of (store r m spans) = omega arith
  numbers_of (sparse kind r m places spans count par) = omega arith

  numbers_in : (stages : PlainStages) → number_count_in stages ≤ node_count_in stages + operation_count_in stages
  numbers_in no_stage = omega arith
  numbers_in (more_stage first last comb node rest) = let k = numbers_of node in let l = numbers_in rest in omega arith

pub small : (core : PlainCore) → IsCore core → (node_count core.root ≤ 2 ^ 29) × (number_count core.root ≤ 2 ^ 29)
small core h =
    let size : core_size core < 2 ^ 29 = ltb-true (core_size core) (2 ^ 29) h.size in
    let numbers = numbers_of core.root in
    (omega arith, omega arith)

-- a node's numbers are among those of the part in which it stands, and so are its nodes
abbrev IsWithin : (numbers nodes : ℕ) → Option Site → Type 0
IsWithin top most None = Unit {0}
IsWithin top most (Some s) = (s.number + number_count s.node ≤ top) × (node_count s.node ≤ most)

either : (top most : ℕ) (b : Bool) (x y : Option Site) → IsWithin top most x → IsWithin top most y → IsWithin top most (cond b x y)
either top most true x y a b = a
either top most false x y a b = b

mutual
  within_at : (top most w n : ℕ) (streamed : Bool) (node : PlainNode) → n + number_count node ≤ top → node_count node ≤ most → IsWithin top most (site_at w n streamed node)
  within_at top most zero n st node h m = (h, m)
  within_at top most (suc k) n st (outer counters style owned stages) h m = within_stages top most k (n + counters_size counters) (is_stream style) stages (omega arith) (omega arith)
  within_at top most (suc k) n st (fsm start state test body next) h m = within_at top most k (n + (length start + length test)) false body (omega arith) (omega arith)
  within_at top most (suc k) n st (branch test first second) h m =
      either top most (nat_lt k (node_count first)) _ _ (within_at top most k (n + length test) false first (omega arith) (omega arith))
      (within_at top most (k - node_count first) ((n + length test) + number_count first) false second (omega arith) (omega arith))
  within_at top most (suc k) n st (inner counters owned ops comb) h m = tt
  within_at top most (suc k) n st (load r q spans) h m = tt
  within_at top most (suc k) n st (store r q spans) h m = tt
  within_at top most (suc k) n st (sparse kind r q places spans count par) h m = tt

  within_stages : (top most w n : ℕ) (streamed : Bool) (stages : PlainStages) → n + number_count_in stages ≤ top → node_count_in stages ≤ most → IsWithin top most (stage_site_at w n streamed stages)
  within_stages top most k n st no_stage h m = tt
  within_stages top most k n st (more_stage first last comb node rest) h m =
      either top most (nat_lt k (node_count node)) _ _ (within_at top most k n st node (omega arith) (omega arith))
      (within_stages top most (k - node_count node) (n + number_count node) st rest (omega arith) (omega arith))

pub site_within : (core : PlainCore) (w : ℕ) (s : Site) → IsCore core → site_at w 0 false core.root ≡ Some s → (s.number + number_count s.node ≤ 2 ^ 29) × (node_count s.node ≤ 2 ^ 29)
site_within core w s h e = let most = small core h in subst (IsWithin (2 ^ 29) (2 ^ 29)) e (within_at (2 ^ 29) (2 ^ 29) w 0 false core.root (omega (arith, most.1)) most.0)

some_node : (node : PlainNode) → 1 ≤ node_count node
some_node (inner counters owned ops comb) = omega arith
some_node (outer counters style owned stages) = omega arith
some_node (fsm start state test body next) = omega arith
some_node (branch test first second) = omega arith
some_node (load r m spans) = omega arith
some_node (store r m spans) = omega arith
some_node (sparse kind r m places spans count par) = omega arith

pub few_runs : (n : ℕ) (stages : PlainStages) → length (runs_of n stages) ≤ node_count_in stages
few_runs n no_stage = omega arith
few_runs n (more_stage first last comb node rest) = let one = some_node node in let more = few_runs (n + number_count node) rest in omega arith
