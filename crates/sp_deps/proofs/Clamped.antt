-- A number that is cut to 128 bits compares with small numbers as it did.
use Rattle.std.proofs.Common.{◌≡◌, ◌*◌, ◌^◌, ◌<◌, ◌≤◌, ℤ, neg_ℤ, ◌+ℤ◌, arith, unsigned_abs}
use Rattle.std.specs.Int.{w128, saturate_signed}
use Rattle.std.specs.Prelude.{int_lt}
use Rattle.std.proofs.lemmas.Int.{ints}

pub below_cut : (x d p : ℤ) → unsigned_abs x ≤ 2050 * 2 ^ 115 → unsigned_abs d < 2 ^ 64 →
    int_lt (saturate_signed w128 (neg_ℤ p)) (x +ℤ d) ≡ int_lt (neg_ℤ (d +ℤ p)) x
below_cut x d p g h = grind (arith, ints)

pub above_cut : (x d p : ℤ) → unsigned_abs x ≤ 2050 * 2 ^ 115 → unsigned_abs d < 2 ^ 64 →
    int_lt (x +ℤ d) (saturate_signed w128 (neg_ℤ p)) ≡ int_lt x (neg_ℤ (d +ℤ p))
above_cut x d p g h = grind (arith, ints)
