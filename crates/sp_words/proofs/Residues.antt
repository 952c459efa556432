-- How sums, products and floors of whole numbers behave modulo m.
use Rattle.std.proofs.Common.{subst, ◌≡◌, ℕ, zero, suc, ◌+◌, ◌-◌, ◌*◌, ◌/◌, ◌%◌, pred, ◌^◌, ◌<◌, ◌≤◌, refl, sym, ◌∙◌, ap, arith}
use Rattle.std.specs.Prelude.{ℤ, pos, negsuc, ◌+ℤ◌, ◌-ℤ◌, ◌*ℤ◌, neg_ℤ, unsigned_abs}
use Rattle.std.specs.Int.{int_rem_euclid}
use Rattle.std.proofs.lemmas.Int.{int_rem_euclid_is, ints}
use Rattle.std.proofs.lemmas.Nat.{mul-mod_second, pow-add, mod-pow-add, pow_pos, mod_below, field_of, shr_high, mul-mod}
use Rattle.std.proofs.Math.Nat.{add-mod, div-add-mod', mul-pos, dvd-mul_left, mod-mod_of_dvd, add-mul-mod_self_right}
use borrow.Author.Differences.{up, down}
use Rattle.sp_words.specs.WholeNumbers.{modulo, floor_div}

modulo-rem : (z : ℤ) (m : ℕ) → modulo z m ≡ unsigned_abs (int_rem_euclid z (pos m))
unfolding modulo
modulo-rem (pos n) m = refl
modulo-rem (negsuc n) m = refl

-- k makes z the natural n
sum_is : (z : ℤ) (k n : ℕ) → up z + k ≡ down z + n → z +ℤ pos k ≡ pos n
sum_is z k n e = omega (arith, ints)

-- z plus k times m is the natural n
pub modulo_is : (z : ℤ) (m n k : ℕ) → 0 < m → up z + k * m ≡ down z + n → modulo z m ≡ n % m
modulo_is z m n k h e =
    modulo-rem z m ∙ ap unsigned_abs (int_rem_euclid_is z (pos m) m k n h refl (sum_is z (k * m) n e))

pub modulo-lt : (z : ℤ) (m : ℕ) → 0 < m → modulo z m < m
unfolding modulo
modulo-lt (pos n) m h = mod_below n m h
modulo-lt (negsuc n) m h = omega (arith, mod_below n m h)

-- a natural that is z plus some times m
abbrev lift : ℤ → ℕ → ℕ
lift (pos n) m = n
lift (negsuc n) m = suc n * pred m

abbrev turns : ℤ → ℕ
turns (pos n) = 0
turns (negsuc n) = suc n

lift_neg : (n j : ℕ) → 0 + suc n * suc j ≡ suc n + suc n * j
lift_neg n j = omega arith

lift-is : (z : ℤ) (m : ℕ) → 0 < m → up z + turns z * m ≡ down z + lift z m
lift-is (pos n) m h = omega arith
lift-is (negsuc n) zero h = omega arith
lift-is (negsuc n) (suc j) h = lift_neg n j

modulo-lift : (z : ℤ) (m : ℕ) → 0 < m → modulo z m ≡ lift z m % m
modulo-lift z m h = modulo_is z m (lift z m) (turns z) h (lift-is z m h)

sum-step : (x y : ℤ) (m i j a b : ℕ) → up x + i * m ≡ down x + a → up y + j * m ≡ down y + b → up (x +ℤ y) + (i + j) * m ≡ down (x +ℤ y) + (a + b)
sum-step x y m i j a b e f = omega (arith, ints)

pub modulo-add : (x y : ℤ) (m : ℕ) → 0 < m → modulo (x +ℤ y) m ≡ (modulo x m + modulo y m) % m
modulo-add x y m h =
    modulo_is (x +ℤ y) m (lift x m + lift y m) (turns x + turns y) h (sum-step x y m (turns x) (turns y) (lift x m) (lift y m) (lift-is x m h) (lift-is y m h))
    ∙ rw (modulo-lift x m h, modulo-lift y m h) (add-mod (lift x m) (lift y m) m)

-- z and n differ by a multiple of m
pub modulo_same : (z : ℤ) (m n k j : ℕ) → 0 < m → up z + k * m ≡ down z + (n + j * m) → modulo z m ≡ n % m
modulo_same z m n k j h e = modulo_is z m (n + j * m) k h e ∙ add-mul-mod_self_right n j m

modulo-split : (z : ℤ) (m : ℕ) → 0 < m → up z + turns z * m ≡ down z + (modulo z m + lift z m / m * m)
modulo-split z m h = omega (arith, lift-is z m h, modulo-lift z m h, div-add-mod' (lift z m) m)

sub-step : (x y : ℤ) (m i j a b r s : ℕ) → s < m → up x + i * m ≡ down x + (r + a * m) → up y + j * m ≡ down y + (s + b * m) → up (x -ℤ y) + (i + b + 1) * m ≡ down (x -ℤ y) + (r + (m - s) + (a + j) * m)
sub-step x y m i j a b r s l e f = omega (arith, ints)

pub modulo-sub : (x y : ℤ) (m : ℕ) → 0 < m → modulo (x -ℤ y) m ≡ (modulo x m + (m - modulo y m)) % m
modulo-sub x y m h =
    modulo_same (x -ℤ y) m (modulo x m + (m - modulo y m)) (turns x + lift y m / m + 1) (lift x m / m + turns y) h
    (sub-step x y m (turns x) (turns y) (lift x m / m) (lift y m / m) (modulo x m) (modulo y m) (modulo-lt y m h) (modulo-split x m h) (modulo-split y m h))

-- to reduce modulo a multiple of m first changes nothing
pub modulo-modulo : (z : ℤ) (d m : ℕ) → 0 < d → 0 < m → modulo z m ≡ modulo z (d * m) % m
modulo-modulo z d m h k =
    modulo_is z m (lift z (d * m)) (turns z * d) k (omega (arith, lift-is z (d * m) (mul-pos h k)))
    ∙ sym (mod-mod_of_dvd m (lift z (d * m)) (dvd-mul_left m d))
    ∙ ap (λ n. n % m) (sym (modulo-lift z (d * m) (mul-pos h k)))

modulo-neg : (n m : ℕ) → 0 < m → modulo (neg_ℤ (pos n)) m ≡ (n * pred m) % m
modulo-neg zero m h = modulo_is (pos 0) m (0 * pred m) 0 h (omega arith)
modulo-neg (suc n) m h = modulo-lift (negsuc n) m h

-- a and b times m - 1 twice is a * b modulo m
turned_twice : (a b j : ℕ) → (a * j * (b * j)) % suc j ≡ (a * b) % suc j
turned_twice a b j =
    let e : a * j * (b * j) + a * b * suc j ≡ a * b + a * b * j * suc j = omega arith in
    sym (add-mul-mod_self_right (a * j * (b * j)) (a * b) (suc j)) ∙ ap (λ n. n % suc j) e ∙ add-mul-mod_self_right (a * b) (a * b * j) (suc j)

regroup : (a b c : ℕ) → a * (b * c) ≡ a * b * c
regroup a b c = omega arith

swap_last : (a b c : ℕ) → a * c * b ≡ a * b * c
swap_last a b c = omega arith

lift-mul : (x y : ℤ) (m : ℕ) → 0 < m → (lift x m * lift y m) % m ≡ modulo (x *ℤ y) m
lift-mul (pos a) (pos b) m h = sym (modulo_is (pos (a * b)) m (a * b) 0 h (omega arith))
lift-mul (pos a) (negsuc b) m h = ap (λ n. n % m) (regroup a (suc b) (pred m)) ∙ sym (modulo-neg (a * suc b) m h)
lift-mul (negsuc a) (pos b) m h = ap (λ n. n % m) (swap_last (suc a) b (pred m)) ∙ sym (modulo-neg (suc a * b) m h)
lift-mul (negsuc a) (negsuc b) zero h = omega arith
lift-mul (negsuc a) (negsuc b) (suc j) h =
    turned_twice (suc a) (suc b) j ∙ sym (modulo_is (pos (suc a * suc b)) (suc j) (suc a * suc b) 0 h (omega arith))

pub modulo-mul : (x y : ℤ) (m : ℕ) → 0 < m → modulo (x *ℤ y) m ≡ (modulo x m * modulo y m) % m
modulo-mul x y m h =
    sym (lift-mul x y m h) ∙ rw (modulo-lift x m h, modulo-lift y m h) (mul-mod (lift x m) (lift y m) m)

pub modulo-mul-pos : (x : ℤ) (n m : ℕ) → 0 < m → modulo (x *ℤ pos n) m ≡ (modulo x m * n) % m
unfolding modulo
modulo-mul-pos x n m h = modulo-mul x (pos n) m h ∙ mul-mod_second (modulo x m) n m

complement : (q s t u : ℕ) → (q + suc t - 1 - q) * (s + suc u) + (s + suc u - 1 - s) ≡ (q + suc t) * (s + suc u) - 1 - (q * (s + suc u) + s)
complement q s t u =
    let e : q + suc t - 1 - q ≡ t = omega arith in
    let f : s + suc u - 1 - s ≡ u = omega arith in
    rw (e, f) (omega arith)

complement_of : (h k q s : ℕ) → q < h → s < k → (h - 1 - q) * k + (k - 1 - s) ≡ h * k - 1 - (q * k + s)
complement_of h k q s a b =
    let e : q + suc (h - 1 - q) ≡ h = omega arith in
    let f : s + suc (k - 1 - s) ≡ k = omega arith in
    let P : ℕ → Type 0 = λ n. (n - 1 - q) * k + (k - 1 - s) ≡ n * k - 1 - (q * k + s) in
    let Q : ℕ → Type 0 = λ n. (q + suc (h - 1 - q) - 1 - q) * n + (n - 1 - s) ≡ (q + suc (h - 1 - q)) * n - 1 - (q * n + s) in
    subst P e (subst Q f (complement q s (h - 1 - q) (k - 1 - s)))

floor_turned : (n j k : ℕ) → 2 ^ j - 1 - n / 2 ^ k % 2 ^ j ≡ (2 ^ (j + k) - 1 - n % 2 ^ (j + k)) / 2 ^ k
floor_turned n j k =
    let low = mod_below n (2 ^ k) (pow_pos k) in
    let high = mod_below (n / 2 ^ k) (2 ^ j) (pow_pos j) in
    sym (shr_high (2 ^ j - 1 - n / 2 ^ k % 2 ^ j) k (2 ^ k - 1 - n % 2 ^ k) (omega (arith, low)))
    ∙ ap (λ x. x / 2 ^ k) (complement_of (2 ^ j) (2 ^ k) (n / 2 ^ k % 2 ^ j) (n % 2 ^ k) high low ∙ rw (mod-pow-add n j k, pow-add 2 j k))

-- the floor of z over 2 ^ k has the bits of z from k on
pub modulo-floor_div : (z : ℤ) (j k : ℕ) → modulo (floor_div z (2 ^ k)) (2 ^ j) ≡ modulo z (2 ^ (j + k)) / 2 ^ k
unfolding modulo floor_div
modulo-floor_div (pos n) j k = sym (field_of n j k)
modulo-floor_div (negsuc n) j k = floor_turned n j k

-- the same from the number's lowest w bits, where they are enough
pub floor_from_low : (z : ℤ) (j k w : ℕ) → j + k ≤ w → modulo (floor_div z (2 ^ k)) (2 ^ j) ≡ modulo z (2 ^ w) / 2 ^ k % 2 ^ j
floor_from_low z j k w h =
    let e : w - (j + k) + (j + k) ≡ w = omega arith in
    let P : ℕ → Type 0 = λ n. modulo (floor_div z (2 ^ k)) (2 ^ j) ≡ modulo z (2 ^ n) / 2 ^ k % 2 ^ j in
    subst P e (modulo-floor_div z j k
    ∙ ap (λ n. n / 2 ^ k) (modulo-modulo z (2 ^ (w - (j + k))) (2 ^ (j + k)) (pow_pos (w - (j + k))) (pow_pos (j + k)) ∙ ap (λ n. modulo z n % 2 ^ (j + k)) (sym (pow-add 2 (w - (j + k)) (j + k))))
    ∙ field_of (modulo z (2 ^ (w - (j + k) + (j + k)))) j k)
