-- Shifts of words in the form in which steps compute them: with the sign bit turned.
use Rattle.std.proofs.Common.{◌≡◌, ℕ, ◌+◌, ◌-◌, ◌*◌, ◌/◌, ◌%◌, ◌^◌, ◌<◌, ◌≤◌, Bool, true, false, if◌then◌else◌, refl, sym, ◌∙◌, ap, subst, arith}
use Rattle.std.specs.Prelude.{ℤ, pos, negsuc, ◌+ℤ◌, bit_and}
use Rattle.std.proofs.lemmas.Int.{ints}
use Rattle.std.proofs.lemmas.Nat.{pow_pos, pow-add, mod_below}
use Rattle.std.proofs.Math.Nat.{add-mul-div_right, div-add-mod', div-eq_of_lt-le, div-le_self, mul-div_cancel, zero-div, lt_of_mul-lt-mul_right}
use borrow.Author.Differences.{up, down}
use Rattle.sp_words.specs.declared.types.Ty.{Ty}
use Rattle.sp_words.specs.Types.{signed_of, width_of}
use Rattle.sp_words.specs.WholeNumbers.{floor_div}
use Rattle.sp_words.specs.Words.{IsWord, value_of, wrap, word_shr}
use Rattle.sp_words.proofs.OperatorLemmas.{width-le, mask_and, mod-mod-pow, no_sign}
use Rattle.sp_words.proofs.Residues.{modulo_is}
use Rattle.sp_sim.proofs.StepWords.{turned, cut, plain}

-- n below q times d has fewer than q times d in it
fewer : (n q d a : ℕ) → n < q * d → a * d ≤ n → a < q
fewer n q d a l b = lt_of_mul-lt-mul_right d (omega (arith, l, b))

-- with a multiple of the divisor added
floor_moved : (v : ℤ) (u h q d : ℕ) → 0 < d → h ≡ q * d → v +ℤ pos h ≡ pos u → floor_div v d +ℤ pos q ≡ pos (u / d)
unfolding floor_div
floor_moved (pos n) u h q d some e f =
    let sum : u ≡ n + q * d = omega (arith, ints, e, f) in
    let parts : u / d ≡ n / d + q = ap (λ k. k / d) sum ∙ add-mul-div_right n q some in
    omega (arith, ints, parts)
floor_moved (negsuc n) u h q d some e f =
    let a = n / d in
    let r = n % d in
    let parts : a * d + r ≡ n = div-add-mod' n d in
    let low : r < d = mod_below n d some in
    let sum : u + (n + 1) ≡ q * d = omega (arith, ints, e, f) in
    let less : a < q = fewer n q d a (omega (arith, sum)) (omega (arith, parts)) in
    let left : (q - 1 - a) + (a + 1) ≡ q = omega (arith, less) in
    let whole : (q - 1 - a) * d + (a * d + d) ≡ q * d = spread (q - 1 - a) a d ∙ ap (λ k. k * d) left in
    let quotient : u / d ≡ q - 1 - a = div-eq_of_lt-le d (omega (arith, sum, parts, low, whole)) (subst (λ k. u < k) (sym (next (q - 1 - a) d)) (omega (arith, sum, parts, whole))) in
    omega (arith, ints, quotient, less)
  where
    spread : (s b m : ℕ) → s * m + (b * m + m) ≡ (s + (b + 1)) * m
    spread s b m = omega arith

    next : (s m : ℕ) → (s + 1) * m ≡ s * m + m
    next s m = omega arith

-- a difference, cut to the width, as the code takes it
last : (z : ℤ) (p q k m t : ℕ) → k * m ≡ t → q ≤ t → z +ℤ pos q ≡ pos p → up z + k * m ≡ down z + (p + (t - q))
last z p q k m t e l f = omega (arith, ints, e, l, f)

difference_is : (ty : Ty) (z : ℤ) (p q m : ℕ) → m + 1 ≡ 2 ^ width_of ty → q ≤ 2 ^ 64 → z +ℤ pos q ≡ pos p → bit_and ((p + (2 ^ 64 - q)) % 2 ^ 64) m ≡ wrap ty z
unfolding wrap
difference_is ty z p q m e l f =
    let w = width_of ty in
    let wide : 64 - w + w ≡ 64 = omega (arith, width-le ty) in
    let power : 2 ^ (64 - w) * 2 ^ w ≡ 2 ^ 64 = sym (pow-add 2 (64 - w) w) ∙ ap (λ k. 2 ^ k) wide in
    mask_and ((p + (2 ^ 64 - q)) % 2 ^ 64) m w e
    ∙ mod-mod-pow (p + (2 ^ 64 - q)) w 64 (width-le ty)
    ∙ sym (modulo_is z (2 ^ w) (p + (2 ^ 64 - q)) (2 ^ (64 - w)) (pow_pos w) (last z p q (2 ^ (64 - w)) (2 ^ w) (2 ^ 64) power l f))

-- half of the range divides by a power below the width
half_parts : (w by : ℕ) → by < w → 2 ^ (w - 1) ≡ 2 ^ (w - 1) / 2 ^ by * 2 ^ by
half_parts w by l =
    let e : w - 1 - by + by ≡ w - 1 = omega (arith, l) in
    let power : 2 ^ (w - 1) ≡ 2 ^ (w - 1 - by) * 2 ^ by = ap (λ k. 2 ^ k) (sym e) ∙ pow-add 2 (w - 1 - by) by in
    let part : 2 ^ (w - 1) / 2 ^ by ≡ 2 ^ (w - 1 - by) = ap (λ k. k / 2 ^ by) power ∙ mul-div_cancel (2 ^ (w - 1 - by)) (pow_pos by) in
    power ∙ ap (λ k. k * 2 ^ by) (sym part)

none_parts : (by : ℕ) → 0 ≡ 0 / 2 ^ by * 2 ^ by
none_parts by = sym (ap (λ k. k * 2 ^ by) (zero-div (2 ^ by)) ∙ nothing (2 ^ by))
  where
    nothing : (n : ℕ) → 0 * n ≡ 0
    nothing n = omega arith

module _ (ty : Ty) (a m h by : ℕ) (f : IsWord ty a) (e : m + 1 ≡ 2 ^ width_of ty) (s : h ≡ (if signed_of ty then 2 ^ (width_of ty - 1) else 0)) (l : by < width_of ty) where
  abbrev u : ℕ
  u = (a + h) % 2 ^ width_of ty

  -- the value with half of the range added, and that half as a multiple of the divisor
  record Moved : Type 0 where
    value : value_of ty a +ℤ pos h ≡ pos u
    parts : h ≡ h / 2 ^ by * 2 ^ by

  moved : (t : Bool) → signed_of ty ≡ t → Moved
  moved true t =
      let half : h ≡ 2 ^ (width_of ty - 1) = s ∙ ap (λ k. if k then 2 ^ (width_of ty - 1) else 0) t in
      record {
        value = subst (λ k. value_of ty a +ℤ pos k ≡ pos ((a + k) % 2 ^ width_of ty)) (sym half) (turned ty a t f);
        parts = subst (λ k. k ≡ k / 2 ^ by * 2 ^ by) (sym half) (half_parts (width_of ty) by l);
      }
  moved false t =
      let none : h ≡ 0 = s ∙ ap (λ k. if k then 2 ^ (width_of ty - 1) else 0) t in
      record {
        value = subst (λ k. value_of ty a +ℤ pos k ≡ pos ((a + k) % 2 ^ width_of ty)) (sym none) (plain ty a f (no_sign ty a t));
        parts = subst (λ k. k ≡ k / 2 ^ by * 2 ^ by) (sym none) (none_parts by);
      }

  pub shifted_is : h ≤ 2 ^ 64 → bit_and ((bit_and ((a + h) % 2 ^ 64) m / 2 ^ by + (2 ^ 64 - h / 2 ^ by)) % 2 ^ 64) m ≡ word_shr ty a by
  unfolding word_shr wrap
  shifted_is small =
      let k = moved (signed_of ty) refl in
      let floor = floor_moved (value_of ty a) u h (h / 2 ^ by) (2 ^ by) (pow_pos by) k.parts k.value in
      let most = div-le_self h (2 ^ by) in
      ap (λ v. bit_and ((v / 2 ^ by + (2 ^ 64 - h / 2 ^ by)) % 2 ^ 64) m) (cut ty a m h e)
      ∙ difference_is ty (floor_div (value_of ty a) (2 ^ by)) (u / 2 ^ by) (h / 2 ^ by) m e (omega (arith, most, small)) floor
