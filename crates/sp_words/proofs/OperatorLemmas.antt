-- The operators on words, in terms of the unsigned arithmetic that computes them.
use Rattle.std.proofs.Common.{◌≡◌, ℕ, zero, suc, ◌+◌, ◌-◌, ◌*◌, ◌/◌, ◌%◌, ◌^◌, ◌<◌, ◌≤◌, Bool, true, false, cond, refl, sym, ◌∙◌, ap, arith}
use Rattle.std.specs.Prelude.{pos, ◌-ℤ◌, ◌*ℤ◌, bit_and, nat_le, ◌&&◌, not, int_lt, unsigned_abs, neg_ℤ}
use Rattle.std.proofs.lemmas.Bool.Decides.{nat_tests}
use Rattle.std.proofs.lemmas.Int.{ints}
use Rattle.std.proofs.lemmas.Nat.{shl_below, one_shl, and_mask, pow-add, pow_pos}
use Rattle.std.proofs.lemmas.Nat.Bits.{ones_shr}
use Rattle.std.proofs.Math.Nat.{lt_of_lt_of_le, zero-mod, div-add-mod', le_of_lt, pow-le-pow_right, mod-mod_of_dvd, dvd-mul_left, mod-eq_of_lt, add-mul-mod_self_right}
use Rattle.std.proofs.Math.Bool.{beq}
use borrow.Author.Differences.{up, down}
use Rattle.sp_words.specs.declared.types.Ty.{Ty}
use Rattle.sp_words.specs.declared.types.Ty.TheVariants.{Fix, Bit}
use Rattle.sp_words.specs.Types.{signed_of, frac_of, width_of}
use Rattle.sp_words.specs.WholeNumbers.{modulo, quotient, remainder, with_sign}
use Rattle.sp_words.specs.Words.{IsWord, has_sign, value_of, wrap, word_add, word_sub, word_mul, word_div, word_rem, word_shl, word_shr, word_cast, word_not}
use Rattle.sp_words.proofs.SignLemmas.{quotient_scaled, remainder_signs}
use Rattle.sp_words.proofs.Residues.{modulo-mul-pos, modulo_is, modulo-add, modulo-sub, modulo-mul, floor_from_low}

pub one-le-width : (ty : Ty) → 1 ≤ width_of ty
one-le-width (Fix t) = t.has_bits
one-le-width Bit = omega arith

pub width-le : (ty : Ty) → width_of ty ≤ 64
width-le (Fix t) = t.in_a_word
width-le Bit = omega arith

pub frac-le : (ty : Ty) → frac_of ty ≤ width_of ty
frac-le (Fix t) = omega arith
frac-le Bit = omega arith

-- ---- masks

pub mask_is : (w r : ℕ) → r ≡ w → w ≤ 64 → 18446744073709551615 / 2 ^ (64 - r) + 1 ≡ 2 ^ w
mask_is w r e h =
    let k : 64 - (64 - w) ≡ w = omega arith in
    rw e (omega (arith, ones_shr 64 (64 - w) (omega arith), ap (λ n. 2 ^ n) k, pow_pos w))

pub mask_and : (n m w : ℕ) → m + 1 ≡ 2 ^ w → bit_and n m ≡ n % 2 ^ w
mask_and n m w e =
    let f : m ≡ 2 ^ w - 1 = omega arith in
    ap (bit_and n) f ∙ and_mask n w

-- to keep the lowest j bits first changes none of the lowest w
pub mod-mod-pow : (n w j : ℕ) → w ≤ j → n % 2 ^ j % 2 ^ w ≡ n % 2 ^ w
mod-mod-pow n w j h =
    let e : j - w + w ≡ j = omega arith in
    ap (λ k. n % k % 2 ^ w) (sym (ap (λ k. 2 ^ k) e) ∙ pow-add 2 (j - w) w) ∙ mod-mod_of_dvd (2 ^ w) n (dvd-mul_left (2 ^ w) (2 ^ (j - w)))

-- ---- values

pub sign_test : (ty : Ty) (w r : ℕ) → r ≡ width_of ty → signed_of ty ≡ true → nat_le (1 * 2 ^ (r - 1) % 2 ^ 64) w ≡ has_sign ty w
unfolding has_sign
sign_test ty w r e s =
    let k : width_of ty - 1 < 64 = omega (arith, width-le ty, one-le-width ty) in
    rw e (ap (λ n. nat_le n w) (one_shl (width_of ty - 1) 64 k) ∙ ap (λ b. b && nat_le (2 ^ (width_of ty - 1)) w) (sym s))

pub no_sign : (ty : Ty) (w : ℕ) → signed_of ty ≡ false → has_sign ty w ≡ false
unfolding has_sign
no_sign ty w s = ap (λ b. b && nat_le (2 ^ (width_of ty - 1)) w) s

pub value_negative : (ty : Ty) (w : ℕ) → has_sign ty w ≡ true → value_of ty w ≡ pos w -ℤ pos (2 ^ width_of ty)
unfolding value_of
value_negative ty w e = ap (λ b. cond b (pos w -ℤ pos (2 ^ width_of ty)) (pos w)) e

pub value_natural : (ty : Ty) (w : ℕ) → has_sign ty w ≡ false → value_of ty w ≡ pos w
unfolding value_of
value_natural ty w e = ap (λ b. cond b (pos w -ℤ pos (2 ^ width_of ty)) (pos w)) e

-- a word is its value modulo 2 ^ width, and modulo a greater power the value in more bits
natural_in : (w m : ℕ) → w < m → w ≡ modulo (pos w) m
natural_in w m h = sym (modulo_is (pos w) m w 0 (omega arith) (omega arith) ∙ mod-eq_of_lt h)

negative_in : (w p m : ℕ) → w < p → p ≤ m → w + (m - p) ≡ modulo (pos w -ℤ pos p) m
negative_in w p m h k =
    let below : w + (m - p) < m = omega arith in
    sym (modulo_is (pos w -ℤ pos p) m (w + (m - p)) 1 (omega arith) (omega (arith, ints)) ∙ mod-eq_of_lt below)

pow-width-le : (ty : Ty) (j : ℕ) → 64 ≤ j → 2 ^ width_of ty ≤ 2 ^ j
pow-width-le ty j h = pow-le-pow_right {n = 2} (omega arith) {i = width_of ty} {j = j} (omega (arith, width-le ty))

value_case : (ty : Ty) (w j : ℕ) (b : Bool) → has_sign ty w ≡ b → IsWord ty w → 2 ^ width_of ty ≤ j
    → modulo (value_of ty w) j ≡ cond b (w + (j - 2 ^ width_of ty)) w
value_case ty w j true e h k = ap (λ z. modulo z j) (value_negative ty w e) ∙ sym (negative_in w (2 ^ width_of ty) j h k)
value_case ty w j false e h k = ap (λ z. modulo z j) (value_natural ty w e) ∙ sym (natural_in w j (omega arith))

-- the bits above the width are those of the sign
pub extended_negative : (ty : Ty) (w m : ℕ) → has_sign ty w ≡ true → IsWord ty w → m + 1 ≡ 2 ^ width_of ty
    → w + (2 ^ 128 - 1 - m) ≡ modulo (value_of ty w) (2 ^ 128)
extended_negative ty w m e h f =
    let same : w + (2 ^ 128 - 1 - m) ≡ w + (2 ^ 128 - 2 ^ width_of ty) = omega (arith, f, pow_pos 128) in
    same ∙ sym (value_case ty w (2 ^ 128) true e h (pow-width-le ty 128 (omega arith)))

pub extended_natural : (ty : Ty) (w : ℕ) → has_sign ty w ≡ false → IsWord ty w → w ≡ modulo (value_of ty w) (2 ^ 128)
extended_natural ty w e h = sym (value_case ty w (2 ^ 128) false e h (pow-width-le ty 128 (omega arith)))

wrapped_case : (w p : ℕ) (b : Bool) → cond b (w + (p - p)) w ≡ w
wrapped_case w p true = omega arith
wrapped_case w p false = refl

pub wrap-value : (ty : Ty) (w : ℕ) → IsWord ty w → modulo (value_of ty w) (2 ^ width_of ty) ≡ w
wrap-value ty w h =
    value_case ty w (2 ^ width_of ty) (has_sign ty w) refl h (omega arith) ∙ wrapped_case w (2 ^ width_of ty) (has_sign ty w)

-- ---- sum, difference and product

pub add_is : (ty : Ty) (a b m : ℕ) → IsWord ty a → IsWord ty b → m + 1 ≡ 2 ^ width_of ty
    → bit_and ((a + b) % 2 ^ 64) m ≡ word_add ty a b
unfolding word_add wrap
add_is ty a b m f g e =
    mask_and ((a + b) % 2 ^ 64) m (width_of ty) e
    ∙ mod-mod-pow (a + b) (width_of ty) 64 (width-le ty)
    ∙ sym (modulo-add (value_of ty a) (value_of ty b) (2 ^ width_of ty) (pow_pos (width_of ty)) ∙ rw (wrap-value ty a f, wrap-value ty b g))

-- a multiple of 2 ^ w more or less changes no low bits
borrowed : (a b d p : ℕ) → b ≤ p → 0 < d → (a + (d * p - b)) % p ≡ (a + (p - b)) % p
borrowed a b zero p h k = absurd (omega arith)
borrowed a b (suc d) p h k =
    let e : a + (suc d * p - b) ≡ a + (p - b) + d * p = omega arith in
    ap (λ n. n % p) e ∙ add-mul-mod_self_right (a + (p - b)) d p

pub sub_is : (ty : Ty) (a b m : ℕ) → IsWord ty a → IsWord ty b → m + 1 ≡ 2 ^ width_of ty
    → bit_and ((a + (2 ^ 64 - b)) % 2 ^ 64) m ≡ word_sub ty a b
unfolding word_sub wrap
sub_is ty a b m f g e =
    let wide : 64 - width_of ty + width_of ty ≡ 64 = omega (arith, width-le ty) in
    mask_and ((a + (2 ^ 64 - b)) % 2 ^ 64) m (width_of ty) e
    ∙ mod-mod-pow (a + (2 ^ 64 - b)) (width_of ty) 64 (width-le ty)
    ∙ ap (λ n. (a + (n - b)) % 2 ^ width_of ty) (sym (ap (λ k. 2 ^ k) wide) ∙ pow-add 2 (64 - width_of ty) (width_of ty))
    ∙ borrowed a b (2 ^ (64 - width_of ty)) (2 ^ width_of ty) (le_of_lt g) (pow_pos (64 - width_of ty))
    ∙ sym (modulo-sub (value_of ty a) (value_of ty b) (2 ^ width_of ty) (pow_pos (width_of ty)) ∙ rw (wrap-value ty a f, wrap-value ty b g))

pub mul_is : (ty : Ty) (a b x y : ℕ) → x ≡ modulo (value_of ty a) (2 ^ 128) → y ≡ modulo (value_of ty b) (2 ^ 128)
    → x * y % 2 ^ 128 / 2 ^ frac_of ty % 2 ^ width_of ty ≡ word_mul ty a b
unfolding word_mul wrap
mul_is ty a b x y f g =
    let z = value_of ty a *ℤ value_of ty b in
    ap (λ n. n / 2 ^ frac_of ty % 2 ^ width_of ty) (rw (f, g) (sym (modulo-mul (value_of ty a) (value_of ty b) (2 ^ 128) (pow_pos 128))))
    ∙ sym (floor_from_low z (width_of ty) (frac_of ty) 128 (omega (arith, width-le ty, frac-le ty)))

-- ---- values as signed numbers

under_sign : (s : Bool) (p w : ℕ) → 0 < p → (s && nat_le p w) ≡ true → 0 < w
under_sign s p w h e = grind (arith, nat_tests)

sign-pos : (ty : Ty) (w : ℕ) → has_sign ty w ≡ true → 0 < w
unfolding has_sign
sign-pos ty w e = under_sign (signed_of ty) (2 ^ (width_of ty - 1)) w (pow_pos (width_of ty - 1)) e

abs-below : (w p : ℕ) → w < p → 0 < w → unsigned_abs (pos w -ℤ pos p) < p
abs-below w p h k = omega (arith, ints)

abs_case : (ty : Ty) (w : ℕ) (b : Bool) → has_sign ty w ≡ b → IsWord ty w → unsigned_abs (value_of ty w) < 2 ^ width_of ty
abs_case ty w true e h = rw (value_negative ty w e) (abs-below w (2 ^ width_of ty) h (sign-pos ty w e))
abs_case ty w false e h = rw (value_natural ty w e) h

pub abs-value : (ty : Ty) (w : ℕ) → IsWord ty w → unsigned_abs (value_of ty w) < 2 ^ width_of ty
abs-value ty w h = abs_case ty w (has_sign ty w) refl h

-- ---- shifts, casts and bits

pub shl_is : (ty : Ty) (a by : ℕ) → IsWord ty a → a * 2 ^ by % 2 ^ 128 % 2 ^ width_of ty ≡ word_shl ty a by
unfolding word_shl wrap
shl_is ty a by h =
    mod-mod-pow (a * 2 ^ by) (width_of ty) 128 (omega (arith, width-le ty))
    ∙ sym (modulo-mul-pos (value_of ty a) (2 ^ by) (2 ^ width_of ty) (pow_pos (width_of ty)) ∙ rw (wrap-value ty a h) refl)

pub shr_is : (ty : Ty) (a by x : ℕ) → by < 64 → x ≡ modulo (value_of ty a) (2 ^ 128) → x / 2 ^ by % 2 ^ width_of ty ≡ word_shr ty a by
unfolding word_shr wrap
shr_is ty a by x h e =
    ap (λ n. n / 2 ^ by % 2 ^ width_of ty) e ∙ sym (floor_from_low (value_of ty a) (width_of ty) by 128 (omega (arith, width-le ty)))

pub cast_is : (from to : Ty) (a x : ℕ) → x ≡ modulo (value_of from a) (2 ^ 128)
    → x * 2 ^ frac_of to % 2 ^ 128 / 2 ^ frac_of from % 2 ^ width_of to ≡ word_cast from to a
unfolding word_cast wrap
cast_is from to a x e =
    ap (λ n. n / 2 ^ frac_of from % 2 ^ width_of to)
    (ap (λ n. n * 2 ^ frac_of to % 2 ^ 128) e ∙ sym (modulo-mul-pos (value_of from a) (2 ^ frac_of to) (2 ^ 128) (pow_pos 128)))
    ∙ sym (floor_from_low (value_of from a *ℤ pos (2 ^ frac_of to)) (width_of to) (frac_of from) 128
    (omega (arith, width-le to, frac-le from, width-le from)))

pub not_is : (ty : Ty) (a m : ℕ) → IsWord ty a → m + 1 ≡ 2 ^ width_of ty → bit_and (2 ^ 64 - 1 - a) m ≡ word_not ty a
unfolding word_not
not_is ty a m h e =
    let p = 2 ^ width_of ty in
    let wide : 64 - width_of ty + width_of ty ≡ 64 = omega (arith, width-le ty) in
    let whole : 2 ^ (64 - width_of ty) * p ≡ 2 ^ 64 = sym (pow-add 2 (64 - width_of ty) (width_of ty)) ∙ ap (λ k. 2 ^ k) wide in
    let below : p - 1 - a < p = omega (arith, pow_pos (width_of ty)) in
    mask_and (2 ^ 64 - 1 - a) m (width_of ty) e
    ∙ ap (λ n. n % p) (omega (arith, whole))
    ∙ borrowed 0 (a + 1) (2 ^ (64 - width_of ty)) p (omega (arith, h)) (pow_pos (64 - width_of ty))
    ∙ ap (λ n. n % p) (omega arith)
    ∙ mod-eq_of_lt below

-- ---- quotient and remainder

negated : (n r k : ℕ) → k ≡ r + n → up (neg_ℤ (pos n)) + k ≡ down (neg_ℤ (pos n)) + r
negated n r k e = omega (arith, ints)

pub word_of_is : (ty : Ty) (n r : ℕ) → (r + n) % 2 ^ 128 ≡ 0 → r % 2 ^ width_of ty ≡ wrap ty (with_sign true n)
unfolding wrap
word_of_is ty n r e =
    let wide : 128 - width_of ty + width_of ty ≡ 128 = omega (arith, width-le ty) in
    let d = 2 ^ (128 - width_of ty) in
    let p = 2 ^ width_of ty in
    let whole : d * p ≡ 2 ^ 128 = sym (pow-add 2 (128 - width_of ty) (width_of ty)) ∙ ap (λ k. 2 ^ k) wide in
    let q = (r + n) / 2 ^ 128 in
    let split : q * (d * p) ≡ r + n = ap (λ k. q * k) whole ∙ omega (arith, div-add-mod' (r + n) (2 ^ 128)) in
    sym (modulo_is (neg_ℤ (pos n)) p r (q * d) (pow_pos (width_of ty)) (negated n r (q * d * p) (omega (arith, split))))

pub word_of_natural : (ty : Ty) (n : ℕ) → n % 2 ^ width_of ty ≡ wrap ty (with_sign false n)
unfolding wrap modulo
word_of_natural ty n = refl

pub div-zero_is : (ty : Ty) (a b : ℕ) → value_of ty b ≡ pos 0 → 0 ≡ word_div ty a b
unfolding word_div wrap quotient modulo
div-zero_is ty a b e = rw e (sym (zero-mod (2 ^ width_of ty)))

pub rem-zero_is : (ty : Ty) (a b : ℕ) → IsWord ty a → value_of ty b ≡ pos 0 → a ≡ word_rem ty a b
unfolding word_rem wrap remainder
rem-zero_is ty a b h e = rw e (sym (wrap-value ty a h))

pub div_is : (ty : Ty) (a b : ℕ) → IsWord ty a
    → wrap ty (with_sign (not (beq (int_lt (value_of ty a) (pos 0)) (int_lt (value_of ty b) (pos 0)))) (unsigned_abs (value_of ty a) * 2 ^ frac_of ty % 2 ^ 128 / unsigned_abs (value_of ty b)))
    ≡ word_div ty a b
unfolding word_div
div_is ty a b h =
    let z = value_of ty a *ℤ pos (2 ^ frac_of ty) in
    let size = unsigned_abs (value_of ty a) * 2 ^ frac_of ty in
    let fits : size < 2 ^ 128 = lt_of_lt_of_le (shl_below (unsigned_abs (value_of ty a)) (width_of ty) (frac_of ty) (abs-value ty a h)) (pow-le-pow_right {n = 2} (omega arith) {i = width_of ty + frac_of ty} {j = 128} (omega (arith, width-le ty, frac-le ty))) in
    ap (wrap ty) (rw (mod-eq_of_lt fits) (sym (quotient_scaled (value_of ty a) (value_of ty b) (2 ^ frac_of ty) (pow_pos (frac_of ty)))))

pub rem_is : (ty : Ty) (a b : ℕ)
    → wrap ty (with_sign (int_lt (value_of ty a) (pos 0)) (unsigned_abs (value_of ty a) % unsigned_abs (value_of ty b))) ≡ word_rem ty a b
unfolding word_rem
rem_is ty a b = ap (wrap ty) (sym (remainder_signs (value_of ty a) (value_of ty b)))
