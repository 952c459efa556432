-- Laws of products of whole numbers with a sign.
use Rattle.std.proofs.Common.{◌≡◌, ℕ, ◌+◌, ◌*◌, ℤ, pos, negsuc, neg_ℤ, ◌+ℤ◌, ◌-ℤ◌, ◌*ℤ◌, ◌≤ℤ◌, ap, arith, sym, ◌∙◌}
use Rattle.std.proofs.lemmas.Int.{ints}
use Rattle.std.proofs.Math.IntN.{*ℤ_comm}
use Rattle.std.proofs.Math.Nat.{mul-le-mul_left}
use borrow.Author.Differences.{up, down, same_in, product_is, sum_is_lem, neg_is, le_out}

by : (k m n : ℕ) → m ≡ n → m * k ≡ n * k
by k m n e = ap (λ x. x * k) e

pub sum_times : (a b c : ℤ) → (a +ℤ b) *ℤ c ≡ (a *ℤ c) +ℤ (b *ℤ c)
sum_times a b c = omega (arith, ints, by (up c) _ _ (sum_is_lem a b), by (down c) _ _ (sum_is_lem a b))

pub difference_times : (a b c : ℤ) → (a -ℤ b) *ℤ c ≡ (a *ℤ c) -ℤ (b *ℤ c)
difference_times a b c =
    let less = sum_is_lem a (neg_ℤ b) in
    let turned = neg_is b in
    omega (
      arith,
      ints,
      by (up c) _ _ less,
      by (down c) _ _ less,
      by (up c) _ _ turned.0,
      by (up c) _ _ turned.1,
      by (down c) _ _ turned.0,
      by (down c) _ _ turned.1,
    )

pub regrouped : (a b c : ℤ) → (a *ℤ b) *ℤ c ≡ a *ℤ (b *ℤ c)
regrouped a b c =
    let ab = product_is a b in
    let bc = product_is b c in
    let left = product_is (a *ℤ b) c in
    let right = product_is a (b *ℤ c) in
    let ups : up ((a *ℤ b) *ℤ c) ≡ up (a *ℤ (b *ℤ c)) =
    omega (arith, by (up c) _ _ ab.0, by (down c) _ _ ab.1, by (up a) _ _ bc.0, by (down a) _ _ bc.1) in
    let downs : down ((a *ℤ b) *ℤ c) ≡ down (a *ℤ (b *ℤ c)) =
    omega (arith, by (down c) _ _ ab.0, by (up c) _ _ ab.1, by (down a) _ _ bc.0, by (up a) _ _ bc.1) in
    same_in _ _ (omega arith)

-- the last two factors of three change places
pub exchanged : (a b c : ℤ) → (a *ℤ b) *ℤ c ≡ (a *ℤ c) *ℤ b
exchanged a b c = regrouped a b c ∙ ap (λ x. a *ℤ x) (*ℤ_comm b c) ∙ sym (regrouped a c b)

-- a factor of 0 or more keeps an order, and one below 0 turns it round
pub times_keeps : (n : ℕ) (a b : ℤ) → a ≤ℤ b → (pos n *ℤ a) ≤ℤ (pos n *ℤ b)
times_keeps n a b h = omega (arith, ints, mul-le-mul_left n (le_out a b h))

pub times_turns : (n : ℕ) (a b : ℤ) → a ≤ℤ b → (negsuc n *ℤ b) ≤ℤ (negsuc n *ℤ a)
times_turns n a b h = omega (arith, ints, mul-le-mul_left (n + 1) (le_out a b h))
