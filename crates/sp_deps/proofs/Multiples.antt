-- Remainders of whole numbers with a sign, and when a number divides one.
use Rattle.std.proofs.Common.{◌≡◌, ℕ, zero, suc, ◌+◌, ◌-◌, ◌*◌, ◌/◌, ◌%◌, ◌<◌, ℤ, pos, negsuc, neg_ℤ, ◌+ℤ◌, ◌-ℤ◌, ◌*ℤ◌, ◌≤ℤ◌, ◌<ℤ◌, ap, sym, ◌∙◌, arith, unsigned_abs}
use Rattle.std.specs.Prelude.{◌==◌}
use Rattle.std.proofs.lemmas.Int.{ints, unsigned_abs-mul}
use Rattle.std.proofs.lemmas.Nat.{div-add-mod', mod_below, same_from_place}
use Rattle.std.proofs.lemmas.Bool.Decides.{Decides-eqb, Decides-like, same_from_decides}
use Rattle.sp_deps.specs.Sums.{is_multiple}
use Rattle.sp_deps.proofs.Integers.{add-mul_ℤ, sub-mul_ℤ, mul_right_comm_ℤ}

pub up : (z : ℤ) (d : ℕ) → pos 0 ≤ℤ z → (q : ℤ) × (z ≡ (q *ℤ pos d) +ℤ pos (unsigned_abs z % d))
up (pos a) d h = let split = div-add-mod' a d in (pos (a / d), omega (arith, ints, split))
up (negsuc a) d h = absurd (omega (arith, ints))

pub down : (z : ℤ) (d : ℕ) → z <ℤ pos 0 → unsigned_abs z % d ≡ 0 → (q : ℤ) × (z ≡ (q *ℤ pos d) +ℤ pos 0)
down (pos a) d h e = absurd (omega (arith, ints))
down (negsuc a) d h e = let split = div-add-mod' (suc a) d in (pos 0 -ℤ pos (suc a / d), omega (arith, ints, split, e, sub-mul_ℤ (pos 0) (pos (suc a / d)) (pos d)))

pub down_more : (z : ℤ) (d : ℕ) → 0 < d → z <ℤ pos 0 → (q : ℤ) × (z ≡ (q *ℤ pos d) +ℤ pos (d - unsigned_abs z % d))
down_more (pos a) d p h = absurd (omega (arith, ints))
down_more (negsuc a) d p h =
    let split = div-add-mod' (suc a) d in
    let small = mod_below (suc a) d p in
    (pos 0 -ℤ pos (suc a / d + 1), omega (arith, ints, split, small, sub-mul_ℤ (pos 0) (pos (suc a / d + 1)) (pos d)))

-- a sum of a start and t steps, by the remainders of both
pub combined : (s k q p : ℤ) (d r e t : ℕ) → s ≡ (q *ℤ pos d) +ℤ pos r → k ≡ (p *ℤ pos d) +ℤ pos e →
    s +ℤ (k *ℤ pos t) ≡ ((q +ℤ (p *ℤ pos t)) *ℤ pos d) +ℤ pos (r + e * t)
combined s k q p d r e t is_s is_k =
    joined s (k *ℤ pos t) (q *ℤ pos d) ((p *ℤ pos d) *ℤ pos t) ((p *ℤ pos t) *ℤ pos d) ((q +ℤ (p *ℤ pos t)) *ℤ pos d) is_s
    (ap (λ z. z *ℤ pos t) is_k ∙ add-mul_ℤ (p *ℤ pos d) (pos e) (pos t)) (mul_right_comm_ℤ p (pos d) (pos t)) (add-mul_ℤ q (p *ℤ pos t) (pos d))
  where
    joined : (s kt qd pdt ptd whole : ℤ) → s ≡ qd +ℤ pos r → kt ≡ pdt +ℤ pos (e * t) → pdt ≡ ptd → whole ≡ qd +ℤ ptd → s +ℤ kt ≡ whole +ℤ pos (r + e * t)
    joined s kt qd pdt ptd whole f g h i = omega (arith, ints)

multiple_of : (q d : ℕ) → 0 < d → (q * d) % d ≡ 0
multiple_of q d h =
    let split = div-add-mod' (q * d) d in
    let small = mod_below (q * d) d h in
    let same : q * d / d * d + q * d % d ≡ q * d + 0 = omega (arith, split) in
    (same_from_place (q * d / d) (q * d % d) q 0 d small h same).1

pub times_it : (z : ℤ) (d : ℕ) → 0 < d → (q : ℤ) → z ≡ q *ℤ pos d → unsigned_abs z % d ≡ 0
times_it z d h q e =
    let size : unsigned_abs z ≡ unsigned_abs q * d = ap unsigned_abs e ∙ unsigned_abs-mul q (pos d) in
    ap (λ n. n % d) size ∙ multiple_of (unsigned_abs q) d h

-- a whole number whose size is a multiple is one
pub quotient : (z : ℤ) (d : ℕ) → unsigned_abs z % d ≡ 0 → (q : ℤ) × (z ≡ q *ℤ pos d)
quotient (pos a) d h = let split = div-add-mod' a d in (pos (a / d), omega (arith, ints, split, h))
quotient (negsuc a) d h = let split = div-add-mod' (suc a) d in (pos 0 -ℤ pos (suc a / d), omega (arith, ints, split, h, sub-mul_ℤ (pos 0) (pos (suc a / d)) (pos d)))

same_test : (a b : ℕ) → (a ≡ 0 → b ≡ 0) → (b ≡ 0 → a ≡ 0) → (a == 0) ≡ (b == 0)
same_test a b g h = same_from_decides _ _ (Decides-eqb a 0) (Decides-like _ h g (Decides-eqb b 0))

size_of_opposite : (z : ℤ) → unsigned_abs (neg_ℤ z) ≡ unsigned_abs z
size_of_opposite z = omega (arith, ints)

-- a number is a multiple where what it is more than a multiple is
pub same_multiple : (d : ℕ) (z q : ℤ) (n : ℕ) → 0 < d → z ≡ (q *ℤ pos d) +ℤ pos n → (n % d == 0) ≡ is_multiple d (neg_ℤ z)
same_multiple zero z q n h e = absurd (omega arith)
same_multiple (suc d) z q n h e =
    same_test (n % suc d) (unsigned_abs (neg_ℤ z) % suc d)
    (λ rest. ap (λ v. v % suc d) (size_of_opposite z) ∙
    (let (p, is_n) = quotient (pos n) (suc d) rest in
    times_it z (suc d) h (q +ℤ p) (e ∙ ap (λ v. (q *ℤ pos (suc d)) +ℤ v) is_n ∙ sym (add-mul_ℤ q p (pos (suc d))))))
    (λ rest. let (p, is_z) = quotient z (suc d) (ap (λ v. v % suc d) (sym (size_of_opposite z)) ∙ rest) in
    times_it (pos n) (suc d) h (p -ℤ q) (less n (q *ℤ pos (suc d)) (p *ℤ pos (suc d)) z e is_z ∙ sym (sub-mul_ℤ p q (pos (suc d)))))
  where
    less : (n : ℕ) (qd pd z : ℤ) → z ≡ qd +ℤ pos n → z ≡ pd → pos n ≡ pd -ℤ qd
    less n qd pd z e f = omega (arith, ints)
