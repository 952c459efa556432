-- Reserved nets of which some are left.
use Rattle.std.proofs.Common.{ℕ, zero, suc, ◌≤◌, ⊎_elim, List, [], ◌∷◌, length, Contains, arith}
use Rattle.sp_gates.proofs.Growing.{Grows-join, more_gates}
use Rattle.sp_op_nets.specs.Reserved.{Rise}
use Rattle.sp_op_nets.proofs.Giving.{above}
use Rattle.sp_loop_nets.specs.Laws.{IsPart, no_net, kept, left_out, LeftAreReserved}

lower : (from to : ℕ) (ns : List ℕ) → from ≤ to → Rise to ns → Rise from ns
lower from to [] le r = tt
lower from to (n ∷ ns) le r = ((let l = r.0 in omega (arith, le, l)), r.1)

part_rises : (from : ℕ) (some all : List ℕ) → IsPart some all → Rise from all → Rise from some
part_rises from _ _ no_net r = tt
part_rises from _ _ (kept {n = n} {some = some} {all = all} p) r = (r.0, part_rises (suc n) some all p r.1)
part_rises from _ _ (left_out {n = n} {some = some} {all = all} p) r = lower from (suc n) some (let l = r.0 in omega (arith, l)) (part_rises (suc n) some all p r.1)

part_within : (some all : List ℕ) → IsPart some all → (n : ℕ) → Contains some n → Contains all n
part_within _ _ no_net n k = k
part_within _ _ (kept {n = x} {some = some} {all = all} p) n (zero, l, e) = (zero, omega arith, e)
part_within _ _ (kept {n = x} {some = some} {all = all} p) n (suc k, l, e) = (let r = part_within some all p n (k, omega (arith, l), e) in (suc r.0, (let m = r.1 in omega (arith, m)), r.2))
part_within _ _ (left_out {n = x} {some = some} {all = all} p) n k = (let r = part_within some all p n k in (suc r.0, (let m = r.1 in omega (arith, m)), r.2))

pub left_reserved : LeftAreReserved
left_reserved a b c nets driven left r f part each within apart = record {
  grows = Grows-join a b c r.grows f.grows;
  gates = more_gates a b c r.gates f.gates;
  rise = part_rises (length a.promised) left nets part r.rise;
  are_open = λ n k. f.still_open n (r.are_open n (part_within left nets part n k)) (λ d. apart n d k);
  still_open = λ n o. f.still_open n (r.still_open n o) (λ d. (let low = o.within in let up = above (length a.promised) nets n r.rise (within n d) in omega (arith, low, up)));
  no_other = λ n o out. (let before = f.no_other n o in r.no_other n before.0 (λ k. ⊎_elim before.1 out (each n k)));
}
