-- There are few memories, and each has few duplicates.
use Rattle.std.proofs.Common.{ℕ, ◌*◌, ◌<◌, ◌≤◌, ◌^◌, max, nat_eq, Bool, true, false, cond, length, ltb-true, arith}
use Rattle.sp_core.specs.Declarations.{mem}
use Rattle.sp_core.specs.Invariant.{IsCore}
use Rattle.sp_core.specs.Numbering.{node_count, node_count_in, core_size}
use Rattle.sp_core.specs.PlainCore.{PlainNode, PlainStages, inner, outer, fsm, branch, load, store, sparse, no_stage, more_stage, PlainCore}
use Rattle.sp_plan.specs.Copies.{one_if, reads, sparse_reads, readers, stages_readers, duplicates}
use Rattle.sp_plan.specs.Ports.{has_banks}
use Rattle.sp_stages.proofs.Sizes.{small}

one_most : (b : Bool) → one_if b ≤ 1
one_most true = omega arith
one_most false = omega arith

either : (b : Bool) (x y most : ℕ) → x ≤ most → y ≤ most → cond b x y ≤ most
either true x y most p q = p
either false x y most p q = q

module _ (core : PlainCore) (m : ℕ) where
  mutual
    few : (node : PlainNode) → readers core m node ≤ 3 * node_count node
    few (inner counters owned ops comb) = let a = one_most (reads core m ops) in omega arith
    few (outer counters style owned stages) = let a = few_stages stages in omega arith
    few (fsm start state test body next) =
        let a = one_most (reads core m start) in
        let b = one_most (reads core m test) in
        let c = few body in
        let d = one_most (reads core m next) in omega arith
    few (branch test first second) = let a = one_most (reads core m test) in let b = few first in let c = few second in omega arith
    few (load r s spans) = omega arith
    few (store r s spans) = let a = one_most (nat_eq s m) in omega arith
    few (sparse kind r s places spans count par) = let a = one_most (sparse_reads core kind s places m) in omega arith

    few_stages : (stages : PlainStages) → stages_readers core m stages ≤ 3 * node_count_in stages
    few_stages no_stage = omega arith
    few_stages (more_stage first last comb node rest) = let a = few node in let b = few_stages rest in omega arith

  pub few_duplicates : IsCore core → duplicates core m ≤ 2 ^ 31
  few_duplicates ok =
      let a = few core.root in
      let b = small core ok in
      let c : max 1 (readers core m core.root) ≤ 2 ^ 31 = omega (arith, a, b.0) in
      either (has_banks (mem core m).kind) (max 1 (readers core m core.root)) 1 (2 ^ 31) c (omega arith)

pub few_mems : (core : PlainCore) → IsCore core → length core.mems ≤ 2 ^ 29
few_mems core ok = let size : core_size core < 2 ^ 29 = ltb-true (core_size core) (2 ^ 29) ok.size in omega arith
