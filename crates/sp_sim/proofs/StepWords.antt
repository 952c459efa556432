-- Products and comparisons of words in the forms in which steps compute them.
use Rattle.std.proofs.Common.{◌≡◌, ℕ, suc, ◌+◌, ◌-◌, ◌*◌, ◌%◌, ◌^◌, ◌<◌, ◌≤◌, Bool, true, false, ◌&&◌, nat_lt, nat_le, if◌then◌else◌, refl, sym, ◌∙◌, ap, subst, arith}
use Rattle.std.specs.Prelude.{ℤ, pos, ◌+ℤ◌, ◌-ℤ◌, ◌*ℤ◌, bit_and, int_lt}
use mir.Val.{bool_byte}
use Rattle.std.proofs.lemmas.Bool.{ltb_from_iff, leb-true, leb-false}
use Rattle.std.proofs.lemmas.Int.{ints}
use Rattle.std.proofs.lemmas.Nat.{pow_pos, one_shl}
use Rattle.std.proofs.Math.Nat.{mod-eq_of_lt, add-mul-mod_self_right}
use Rattle.sp_words.specs.declared.types.Ty.{Ty}
use Rattle.sp_words.specs.Types.{signed_of, width_of}
use Rattle.sp_words.specs.Words.{IsWord, has_sign, value_of, wrap, word_mul, word_lt}
use Rattle.sp_words.specs.Laws.{KeepsWrapping}
use Rattle.sp_words.proofs.OperatorLemmas.{one-le-width, width-le, mask_and, mod-mod-pow, value_negative, value_natural, no_sign}
use Rattle.sp_words.proofs.Residues.{modulo_is}

natural : (ty : Ty) (a : ℕ) → wrap ty (pos a) ≡ a % 2 ^ width_of ty
unfolding wrap
natural ty a = modulo_is (pos a) (2 ^ width_of ty) a 0 (pow_pos (width_of ty)) (omega arith)

-- words that are multiplied, cut to the width
pub product_is : (ty : Ty) (a b m : ℕ) → KeepsWrapping word_mul ◌*ℤ◌ ty → IsWord ty a → IsWord ty b → m + 1 ≡ 2 ^ width_of ty → bit_and (a * b % 2 ^ 64) m ≡ word_mul ty a b
product_is ty a b m keeps f g e =
    mask_and (a * b % 2 ^ 64) m (width_of ty) e
    ∙ mod-mod-pow (a * b) (width_of ty) 64 (width-le ty)
    ∙ sym (natural ty (a * b))
    ∙ sym (keeps (pos a) (pos b))
    ∙ ap (word_mul ty (wrap ty (pos a))) (natural ty b ∙ mod-eq_of_lt g)
    ∙ ap (λ x. word_mul ty x b) (natural ty a ∙ mod-eq_of_lt f)

half_twice : (w : ℕ) → 1 ≤ w → 2 ^ (w - 1) + 2 ^ (w - 1) ≡ 2 ^ w
half_twice w one = let e : suc (w - 1) ≡ w = omega (arith, one) in subst (λ k. 2 ^ (w - 1) + 2 ^ (w - 1) ≡ 2 ^ k) e (twice (w - 1))
  where
    twice : (n : ℕ) → 2 ^ n + 2 ^ n ≡ 2 ^ suc n
    twice n = omega arith

high : (v : ℤ) (a h p : ℕ) → h + h ≡ p → a < p → nat_le h a ≡ true → v ≡ pos a -ℤ pos p → v +ℤ pos h ≡ pos ((a + h) % p)
high v a h p t l k e =
    let up : h ≤ a = leb-true h a k in
    let parts : a + h ≡ (a - h) + 1 * p = omega (arith, up, t) in
    let rest : (a + h) % p ≡ a - h = ap (λ n. n % p) parts ∙ add-mul-mod_self_right (a - h) 1 p ∙ mod-eq_of_lt (omega (arith, l, up)) in
    omega (arith, ints, rest, e, up, t)

low : (v : ℤ) (a h p : ℕ) → h + h ≡ p → nat_le h a ≡ false → v ≡ pos a → v +ℤ pos h ≡ pos ((a + h) % p)
low v a h p t k e =
    let below : a < h = leb-false h a k in
    let rest : (a + h) % p ≡ a + h = mod-eq_of_lt (omega (arith, below, t)) in
    omega (arith, ints, rest, e)

sign_by_size : (ty : Ty) (a : ℕ) → signed_of ty ≡ true → nat_le (2 ^ (width_of ty - 1)) a ≡ has_sign ty a
unfolding has_sign
sign_by_size ty a s = ap (λ t. t && nat_le (2 ^ (width_of ty - 1)) a) (sym s)

-- the word with its sign bit turned is the value, counted from the least one
pub turned : (ty : Ty) (a : ℕ) → signed_of ty ≡ true → IsWord ty a → value_of ty a +ℤ pos (2 ^ (width_of ty - 1)) ≡ pos ((a + 2 ^ (width_of ty - 1)) % 2 ^ width_of ty)
turned ty a s f = by (has_sign ty a) refl
  where
    test : (b : Bool) → has_sign ty a ≡ b → nat_le (2 ^ (width_of ty - 1)) a ≡ b
    test b e = sign_by_size ty a s ∙ e

    by : (b : Bool) → has_sign ty a ≡ b → value_of ty a +ℤ pos (2 ^ (width_of ty - 1)) ≡ pos ((a + 2 ^ (width_of ty - 1)) % 2 ^ width_of ty)
    by true e = high (value_of ty a) a (2 ^ (width_of ty - 1)) (2 ^ width_of ty) (half_twice (width_of ty) (one-le-width ty)) f (test true e) (value_negative ty a e)
    by false e = low (value_of ty a) a (2 ^ (width_of ty - 1)) (2 ^ width_of ty) (half_twice (width_of ty) (one-le-width ty)) (test false e) (value_natural ty a e)

shifted_less : (v u : ℤ) (h x y : ℕ) → v +ℤ pos h ≡ pos x → u +ℤ pos h ≡ pos y → int_lt v u ≡ nat_lt x y
shifted_less v u h x y e f = ltb_from_iff (λ t. omega (arith, ints, e, f, t), λ l. by (int_lt v u) refl l)
  where
    by : (t : Bool) → int_lt v u ≡ t → x < y → t ≡ true
    by true d l = refl
    by false d l = absurd (omega (arith, ints, e, f, d, l))

-- a sum with half of the range, or with 0, cut to the width
pub cut : (ty : Ty) (a m h : ℕ) → m + 1 ≡ 2 ^ width_of ty → bit_and ((a + h) % 2 ^ 64) m ≡ (a + h) % 2 ^ width_of ty
cut ty a m h e = mask_and ((a + h) % 2 ^ 64) m (width_of ty) e ∙ mod-mod-pow (a + h) (width_of ty) 64 (width-le ty)

-- a word without a sign is its value
pub plain : (ty : Ty) (x : ℕ) → IsWord ty x → has_sign ty x ≡ false → value_of ty x +ℤ pos 0 ≡ pos ((x + 0) % 2 ^ width_of ty)
plain ty x l n = let rest : (x + 0) % 2 ^ width_of ty ≡ x + 0 = mod-eq_of_lt (omega (arith, l)) in let v = value_natural ty x n in omega (arith, ints, rest, v)

-- the words with the sign bit turned, where the type has one, compare as their values do
pub below_is : (ty : Ty) (a b m h : ℕ) → IsWord ty a → IsWord ty b → m + 1 ≡ 2 ^ width_of ty
    → h ≡ (if signed_of ty then 2 ^ (width_of ty - 1) else 0) → nat_lt (bit_and ((a + h) % 2 ^ 64) m) (bit_and ((b + h) % 2 ^ 64) m) ≡ word_lt ty a b
unfolding word_lt
below_is ty a b m h f g e s = ap (λ x. nat_lt x (bit_and ((b + h) % 2 ^ 64) m)) (cut ty a m h e) ∙ ap (nat_lt ((a + h) % 2 ^ width_of ty)) (cut ty b m h e) ∙ by (signed_of ty) refl
  where
    by : (t : Bool) → signed_of ty ≡ t → nat_lt ((a + h) % 2 ^ width_of ty) ((b + h) % 2 ^ width_of ty) ≡ int_lt (value_of ty a) (value_of ty b)
    by true t =
        let half : h ≡ 2 ^ (width_of ty - 1) = s ∙ ap (λ k. if k then 2 ^ (width_of ty - 1) else 0) t in
        ap (λ k. nat_lt ((a + k) % 2 ^ width_of ty) ((b + k) % 2 ^ width_of ty)) half
        ∙ sym (shifted_less (value_of ty a) (value_of ty b) (2 ^ (width_of ty - 1)) ((a + 2 ^ (width_of ty - 1)) % 2 ^ width_of ty) ((b + 2 ^ (width_of ty - 1)) % 2 ^ width_of ty) (turned ty a t f) (turned ty b t g))
    by false t =
        let none : h ≡ 0 = s ∙ ap (λ k. if k then 2 ^ (width_of ty - 1) else 0) t in
        ap (λ k. nat_lt ((a + k) % 2 ^ width_of ty) ((b + k) % 2 ^ width_of ty)) none
        ∙ sym (shifted_less (value_of ty a) (value_of ty b) 0 ((a + 0) % 2 ^ width_of ty) ((b + 0) % 2 ^ width_of ty) (plain ty a f (no_sign ty a t)) (plain ty b g (no_sign ty b t)))

-- half of the range as the code computes it
pub half_is : (ty : Ty) (b r : ℕ) (t : Bool) → t ≡ signed_of ty → b ≡ bool_byte t → r ≡ width_of ty → b * 2 ^ (r - 1) % 2 ^ 64 ≡ (if signed_of ty then 2 ^ (width_of ty - 1) else 0)
half_is ty b r t s e w = ap (λ x. x * 2 ^ (r - 1) % 2 ^ 64) e ∙ ap (λ k. bool_byte t * 2 ^ (k - 1) % 2 ^ 64) w ∙ by t (width_of ty) (one-le-width ty) (width-le ty) ∙ ap (λ k. if k then 2 ^ (width_of ty - 1) else 0) s
  where
    by : (k : Bool) (n : ℕ) → 1 ≤ n → n ≤ 64 → bool_byte k * 2 ^ (n - 1) % 2 ^ 64 ≡ (if k then 2 ^ (n - 1) else 0)
    by true n one most = one_shl (n - 1) 64 (omega (arith, one, most))
    by false n one most = nothing (2 ^ (n - 1))
      where
        nothing : (x : ℕ) → 0 * x % 2 ^ 64 ≡ 0
        nothing x = omega arith
