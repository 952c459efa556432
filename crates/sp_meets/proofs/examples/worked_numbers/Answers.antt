-- How far the counters of the accesses' own reach.
use Rattle.std.proofs.Common.{◌≡◌, inl, inr, ℕ, ◌+◌, ◌^◌, ◌≤◌, Some, None, Option, refl, arith}
use Rattle.sp_meets.specs.Bits.{NumbersPass}
use Rattle.sp_meets.specs.ExampleNumbers.{loops_up_to, index_by}
use Rattle.sp_meets.proofs.examples.worked_numbers.Goals as goal

some : (m n : ℕ) → Some m ≡ Some n → m ≡ n
some m n e = cc

none : (n : ℕ) → ◌≡◌ {A = Option ℕ} None (Some n) → ⊥
none n e = cc

below : (n p q : ℕ) → 2 ^ 64 ≤ n + 1 → 30 ≡ p → 30 ≡ q → n ≤ 0 + (p + q) + 1 → ⊥
below n p q more e f near = omega (arith, more, e, f, near)

never : ◌≡◌ {A = ℕ} 1 0 → ⊥
never e = omega (arith, e)

few : NumbersPass (loops_up_to 3) (index_by 10) (index_by 10) → ⊥
few (n, more, inl (inl (p, q, e, f, near))) = below n p q more (some 30 p e) (some 30 q f) near
few (n, more, inl (inr h)) = absurd h
few (n, more, inr (inl (p, q, inl (still, one), rest, e))) = never still
few (n, more, inr (inl (p, q, inr (inl h), rest, e))) = none p h
few (n, more, inr (inl (p, q, inr (inr h), rest, e))) = none p h
few (n, more, inr (inr h)) = absurd h

pub returns-clause-few : goal.returns-clause-few
returns-clause-few c = few

pub returns-clause-many : goal.returns-clause-many
returns-clause-many c = (18446744073709551615, omega arith, inl (inl (1208925819614629174706176, 1208925819614629174706176, refl, refl, omega arith)))
