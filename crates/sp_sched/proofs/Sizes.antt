-- Numbers of operations are small.
use Rattle.std.proofs.Common.{◌≡◌, ℕ, zero, suc, ◌+◌, ◌-◌, ◌<◌, ◌≤◌, ◌^◌, nat_lt, Bool, true, false, cond, length, Option, Some, None, subst, ltb-true, arith}
use Rattle.sp_core.specs.Declarations.{is_stream}
use Rattle.sp_core.specs.Invariant.{IsCore}
use Rattle.sp_core.specs.Numbering.{node_count, node_count_in, counters_size, number_count, number_count_in, operation_count, operation_count_in, core_size}
use Rattle.sp_core.specs.PlainCore.{PlainNode, PlainStages, inner, outer, fsm, branch, load, store, sparse, no_stage, more_stage, PlainCore}
use Rattle.sp_plan.specs.Nodes.{Site, site_at, stage_site_at}

-- each transfer is a node
mutual
  numbers_of : (node : PlainNode) → number_count node ≤ node_count node + operation_count node
  numbers_of (inner counters owned ops comb) = omega arith
  numbers_of (outer counters style owned stages) = let k = numbers_in stages in omega arith
  numbers_of (fsm start state test body next) = let k = numbers_of body in omega arith
  numbers_of (branch test first second) = let k = numbers_of first in let l = numbers_of second in omega arith
  numbers_of (load r m spans) = omega arith
  numbers_of (store r m spans) = omega arith
  numbers_of (sparse kind r m places spans count par) = omega arith

  numbers_in : (stages : PlainStages) → number_count_in stages ≤ node_count_in stages + operation_count_in stages
  numbers_in no_stage = omega arith
  numbers_in (more_stage first last comb node rest) = let k = numbers_of node in let l = numbers_in rest in omega arith

pub small : (core : PlainCore) → IsCore core → (node_count core.root ≤ 2 ^ 29) × (number_count core.root ≤ 2 ^ 29)
small core h =
    let size : core_size core < 2 ^ 29 = ltb-true (core_size core) (2 ^ 29) h.size in
    let numbers = numbers_of core.root in
    (omega arith, omega arith)

-- a node's numbers are among those of the part in which it stands
abbrev IsWithin : ℕ → Option Site → Type 0
IsWithin top None = Unit {0}
IsWithin top (Some s) = s.number + number_count s.node ≤ top

either : (top : ℕ) (b : Bool) (x y : Option Site) → IsWithin top x → IsWithin top y → IsWithin top (cond b x y)
either top true x y a b = a
either top false x y a b = b

mutual
  within_at : (top w n : ℕ) (streamed : Bool) (node : PlainNode) → n + number_count node ≤ top → IsWithin top (site_at w n streamed node)
  within_at top zero n st node h = h
  within_at top (suc k) n st (outer counters style owned stages) h = within_stages top k (n + counters_size counters) (is_stream style) stages (omega arith)
  within_at top (suc k) n st (fsm start state test body next) h = within_at top k (n + (length start + length test)) false body (omega arith)
  within_at top (suc k) n st (branch test first second) h =
      either top (nat_lt k (node_count first)) _ _ (within_at top k (n + length test) false first (omega arith))
      (within_at top (k - node_count first) ((n + length test) + number_count first) false second (omega arith))
  within_at top (suc k) n st (inner counters owned ops comb) h = tt
  within_at top (suc k) n st (load r m spans) h = tt
  within_at top (suc k) n st (store r m spans) h = tt
  within_at top (suc k) n st (sparse kind r m places spans count par) h = tt

  within_stages : (top w n : ℕ) (streamed : Bool) (stages : PlainStages) → n + number_count_in stages ≤ top → IsWithin top (stage_site_at w n streamed stages)
  within_stages top k n st no_stage h = tt
  within_stages top k n st (more_stage first last comb node rest) h =
      either top (nat_lt k (node_count node)) _ _ (within_at top k n st node (omega arith))
      (within_stages top (k - node_count node) (n + number_count node) st rest (omega arith))

pub site_within : (top w n : ℕ) (streamed : Bool) (node : PlainNode) (s : Site) → n + number_count node ≤ top → site_at w n streamed node ≡ Some s → s.number + number_count s.node ≤ top
site_within top w n st node s h e = subst (IsWithin top) e (within_at top w n st node h)
