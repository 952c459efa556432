-- Products and sums of numbers that are capped, and the lanes inside of capped lanes.
use Rattle.std.proofs.Common.{◌≡◌, ℕ, zero, suc, ◌*◌, ◌≤◌, max, List, [], ◌∷◌, sym, ◌∙◌, ap, arith}
use Rattle.std.proofs.Math.Decide.{dec_lt}
use Rattle.std.proofs.Math.Nat.{mul_comm, mul_assoc, mul-suc, mul-zero, mul-one}
use Rattle.sp_tree.specs.Counts.{lanes_in, kind_lanes}
use Rattle.sp_tree.specs.Limits.{most_lanes}
use Rattle.sp_tree.specs.PlainStatement.{PlainSpan, single, range, PlainStmtKind, PlainStmts, stmt, declare, name, set_reg, set_out, set_sram, enq, load_sram, load_line, store, gather, scatter, block, foreach, reduce, mem_reduce, fsm, branch, no_stmt, more_stmt}
use Rattle.sp_tree.specs.Structure.{lanes_of, slice_lanes}
use Rattle.sp_counts.specs.Capped.{most, capped}

mul_grows : (a b : ℕ) → a ≤ a * suc b
mul_grows a b = omega (arith, mul-suc a b)

-- a factor may be capped before
pub capped_times : (a b : ℕ) → capped (capped a * b) ≡ capped (a * b)
capped_times a zero = omega (arith, mul-zero a, mul-zero (capped a))
capped_times a (suc b) = elim (dec_lt most a) [
  | yes above ↦ let first : most ≤ capped a * suc b = omega (arith, mul_grows (capped a) b) in let second : most ≤ a * suc b = omega (arith, mul_grows a b) in omega (arith, first, second)
  | no within ↦ let same : capped a ≡ a = omega (arith, within) in ap (λ x. capped (x * suc b)) same
]

pub times_capped : (a b : ℕ) → capped (a * capped b) ≡ capped (a * b)
times_capped a b = ap capped (mul_comm a (capped b)) ∙ capped_times b a ∙ ap capped (mul_comm b a)

-- a product so far, and the next factor
pub capped_times_both : (a b c : ℕ) → capped (capped (a * b) * c) ≡ capped (a * (b * c))
capped_times_both a b c = capped_times (a * b) c ∙ ap capped (mul_assoc a b c)

pub capped_max : (a b : ℕ) → capped (max a b) ≡ max (capped a) (capped b)
capped_max a b = omega arith

pub capped_twice : (a : ℕ) → capped (capped a) ≡ capped a
capped_twice a = omega arith

max_by : (a b c d : ℕ) → capped a ≡ capped c → capped b ≡ capped d → capped (max a b) ≡ capped (max c d)
max_by a b c d e f = omega arith

product_capped : (s : PlainStmts) → ((a : ℕ) → capped (lanes_in s (capped a)) ≡ capped (lanes_in s a)) → (a n : ℕ) → capped (lanes_in s (capped a * n)) ≡ capped (lanes_in s (a * n))
product_capped s inside a n = sym (inside (capped a * n)) ∙ ap (λ x. capped (lanes_in s x)) (capped_times a n) ∙ inside (a * n)

mutual
  pub inside_capped : (s : PlainStmts) (a : ℕ) → capped (lanes_in s (capped a)) ≡ capped (lanes_in s a)
  inside_capped no_stmt a = capped_twice a
  inside_capped (more_stmt (stmt place kind) rest) a = max_by _ _ _ _ (kind_capped kind a) (inside_capped rest a)

  kind_capped : (k : PlainStmtKind) (a : ℕ) → capped (kind_lanes k (capped a)) ≡ capped (kind_lanes k a)
  kind_capped (load_sram sram dram spans) a = capped_times a (slice_lanes spans)
  kind_capped (load_line line dram spans) a = capped_times a (slice_lanes spans)
  kind_capped (store dram spans sram) a = capped_times a (slice_lanes spans)
  kind_capped (block style body) a = inside_capped body a
  kind_capped (foreach style counters body) a = product_capped body (inside_capped body) a (lanes_of counters)
  kind_capped (reduce style fold acc counters body word comb) a = product_capped body (inside_capped body) a (lanes_of counters)
  kind_capped (mem_reduce style acc counters body part comb) a = product_capped body (inside_capped body) a (lanes_of counters)
  kind_capped (fsm start tested test state body last next) a = inside_capped body a
  kind_capped (branch test first second) a = max_by _ _ _ _ (inside_capped first a) (inside_capped second a)
  kind_capped (declare m) a = capped_twice a
  kind_capped (name v e) a = capped_twice a
  kind_capped (set_reg m e) a = capped_twice a
  kind_capped (set_out m e) a = capped_twice a
  kind_capped (set_sram m indices e) a = capped_twice a
  kind_capped (enq m e) a = capped_twice a
  kind_capped (gather sram dram places count) a = capped_twice a
  kind_capped (scatter dram places count sram) a = capped_twice a

-- the lanes around are among those that are compared
pub around_within : (s : PlainStmts) (a : ℕ) → a ≤ lanes_in s a
around_within no_stmt a = omega arith
around_within (more_stmt (stmt place kind) rest) a = omega (arith, around_within rest a)

pub first_span : (span : PlainSpan) (rest : List PlainSpan) → slice_lanes (span ∷ rest) ≡ slice_lanes (span ∷ []) * slice_lanes rest
first_span (single e) rest = omega arith
first_span (range a b par) rest = ap (λ x. x * slice_lanes rest) (sym (mul-one par))

-- lanes within the limit are exact
pub exact_inside : (s : PlainStmts) (a : ℕ) → lanes_in s a ≤ most_lanes → capped a ≡ a
exact_inside s a h = omega (arith, around_within s a, h)
