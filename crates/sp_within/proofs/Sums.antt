-- Sums and products that costs are made of.
use Rattle.std.proofs.Common.{◌≡◌, ℕ, suc, ◌+◌, ◌*◌, ◌≤◌, max, arith}
use Rattle.std.proofs.Math.Nat.{suc-mul, add-mul, mul_comm, mul-le-mul_left, mul-le-mul_right}
use Rattle.sp_core.specs.Cost.{waits}

-- one round more
pub one_more : (n y : ℕ) → suc n * y ≡ y + n * y
one_more n y = let a : suc n * y ≡ n * y + y = suc-mul n y in omega arith

-- of two parts
pub two_parts : (a b y : ℕ) → (a + b) * y ≡ a * y + b * y
two_parts a b y = add-mul a b y

-- rounds of a part that does no more in each
pub more_each : (n a y : ℕ) → a ≤ y → n * a ≤ n * y
more_each n a y l = mul-le-mul_left n l

pub more_rounds : (m n y : ℕ) → m ≤ n → m * y ≤ n * y
more_rounds m n y l = mul-le-mul_right y l

-- a transfer waits no oftener than it moves words, or once
pub few_waits : (w : ℕ) → max 1 (waits w) ≤ suc w
few_waits w = omega arith

pub no_waits : (w : ℕ) → waits w ≤ w
no_waits w = omega arith

pub delays_under : (d w : ℕ) → d * max 1 (waits w) ≤ suc w * d
delays_under d w =
    let a : max 1 (waits w) * d ≤ suc w * d = mul-le-mul_right d (few_waits w) in
    let b : d * max 1 (waits w) ≡ max 1 (waits w) * d = mul_comm d (max 1 (waits w)) in
    omega arith

pub lane_delays_under : (d w : ℕ) → d * waits w ≤ w * d
lane_delays_under d w =
    let a : waits w * d ≤ w * d = mul-le-mul_right d (no_waits w) in
    let b : d * waits w ≡ waits w * d = mul_comm d (waits w) in
    omega arith
