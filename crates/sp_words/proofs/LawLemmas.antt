-- The laws of the operators on words.
use Rattle.std.proofs.Common.{◌≢◌, ◌≡◌, ℕ, zero, suc, ◌+◌, ◌-◌, ◌*◌, ◌/◌, ◌%◌, ◌^◌, ◌<◌, ◌≤◌, Bool, true, false, cond, refl, sym, ◌∙◌, ap, arith}
use Rattle.std.specs.Prelude.{nat_le, ◌&&◌, ◌≤ℤ◌, ◌<ℤ◌, ℤ, pos, negsuc, neg_ℤ, ◌+ℤ◌, ◌-ℤ◌, ◌*ℤ◌, bit_or, int_lt, unsigned_abs}
use Rattle.std.specs.Bool.{MatchBool}
use Rattle.std.specs.Int.{bit_at}
use Rattle.std.specs.Int.Bits.{xor_assoc}
use Rattle.std.proofs.lemmas.Int.{ints, quot-rem, rem_below}
use Rattle.std.proofs.lemmas.Bool.Decides.{nat_tests}
use Rattle.std.proofs.lemmas.Nat.{pow-add, and_le_l, or_lt, xor_lt, and_comm, or_comm, xor_comm, and_assoc, pow_pos, mod_below, mul-mod_first, mul-mod_second}
use Rattle.std.proofs.lemmas.Nat.Bits.{bit_at_or, same_from_bits}
use Rattle.std.proofs.Math.IntN.{*ℤ_comm}
use Rattle.std.proofs.Math.Nat.{mod-add-mod, add-mod-mod, add_comm, add_assoc, mul_assoc, lt_of_le_of_lt, mod-eq_of_lt, div-one, div-add-mod'}
use Rattle.sp_words.specs.declared.types.Ty.{Ty}
use Rattle.sp_words.specs.Types.{signed_of, frac_of, width_of}
use Rattle.sp_words.specs.WholeNumbers.{modulo, floor_div, quotient, remainder, with_sign}
use Rattle.sp_words.specs.Words.{IsWord, has_sign, value_of, wrap, word_add, word_sub, word_mul, word_div, word_rem, word_and, word_or, word_xor, word_lt, word_min, word_max, word_shl, word_shr, word_not, word_cast}
use Rattle.sp_words.specs.Laws.{GivesWords, IsCommutative, IsAssociative, IsAssociativeAt, KeepsWrapping, IsInRange, IsFloorDivision, IsDivision}
use Rattle.sp_words.proofs.SignLemmas.{remainder_signs}
use Rattle.sp_words.proofs.Residues.{modulo-lt, modulo-add, modulo-sub, modulo-mul}
use Rattle.sp_words.proofs.OperatorLemmas.{wrap-value, one-le-width}

pub wrap-lt : (ty : Ty) (z : ℤ) → IsWord ty (wrap ty z)
unfolding wrap
wrap-lt ty z = modulo-lt z (2 ^ width_of ty) (pow_pos (width_of ty))

pub wrap-of-value : (ty : Ty) (w : ℕ) → IsWord ty w → wrap ty (value_of ty w) ≡ w
unfolding wrap
wrap-of-value ty w h = wrap-value ty w h

-- ---- what an operator gives is a word

pub add-GivesWords : GivesWords word_add
unfolding word_add
add-GivesWords ty a b f g = wrap-lt ty _

pub sub-GivesWords : GivesWords word_sub
unfolding word_sub
sub-GivesWords ty a b f g = wrap-lt ty _

pub mul-GivesWords : GivesWords word_mul
unfolding word_mul
mul-GivesWords ty a b f g = wrap-lt ty _

pub div-GivesWords : GivesWords word_div
unfolding word_div
div-GivesWords ty a b f g = wrap-lt ty _

pub rem-GivesWords : GivesWords word_rem
unfolding word_rem
rem-GivesWords ty a b f g = wrap-lt ty _

pub and-GivesWords : GivesWords word_and
unfolding word_and
and-GivesWords ty a b f g = lt_of_le_of_lt (and_le_l a b) f

pub or-GivesWords : GivesWords word_or
unfolding word_or
or-GivesWords ty a b f g = or_lt (width_of ty) a b f g

pub xor-GivesWords : GivesWords word_xor
unfolding word_xor
xor-GivesWords ty a b f g = xor_lt (width_of ty) a b f g

one_of : (ty : Ty) (a b : ℕ) (c : Bool) → IsWord ty a → IsWord ty b → IsWord ty (cond c b a)
one_of ty a b true f g = g
one_of ty a b false f g = f

pub min-GivesWords : GivesWords word_min
unfolding word_min
min-GivesWords ty a b f g = one_of ty a b (word_lt ty b a) f g

pub max-GivesWords : GivesWords word_max
unfolding word_max
max-GivesWords ty a b f g = one_of ty a b (word_lt ty a b) f g

pub shl-lt : (ty : Ty) (a by : ℕ) → IsWord ty (word_shl ty a by)
unfolding word_shl
shl-lt ty a by = wrap-lt ty _

pub shr-lt : (ty : Ty) (a by : ℕ) → IsWord ty (word_shr ty a by)
unfolding word_shr
shr-lt ty a by = wrap-lt ty _

pub not-lt : (ty : Ty) (a : ℕ) → IsWord ty (word_not ty a)
unfolding word_not
not-lt ty a = omega (arith, pow_pos (width_of ty))

pub cast-lt : (from to : Ty) (a : ℕ) → IsWord to (word_cast from to a)
unfolding word_cast
cast-lt from to a = wrap-lt to _

-- ---- sums and products are those of the words, modulo 2 ^ width

add_mod : (ty : Ty) (a b : ℕ) → IsWord ty a → IsWord ty b → word_add ty a b ≡ (a + b) % 2 ^ width_of ty
unfolding word_add wrap
add_mod ty a b f g =
    modulo-add (value_of ty a) (value_of ty b) (2 ^ width_of ty) (pow_pos (width_of ty)) ∙ rw (wrap-value ty a f, wrap-value ty b g) refl

pub add-IsCommutative : IsCommutative word_add
add-IsCommutative ty a b f g = add_mod ty a b f g ∙ ap (λ n. n % 2 ^ width_of ty) (add_comm a b) ∙ sym (add_mod ty b a g f)

pub add-IsAssociative : IsAssociative word_add
add-IsAssociative ty a b c f g h =
    let m = 2 ^ width_of ty in
    add_mod ty (word_add ty a b) c (add-GivesWords ty a b f g) h
    ∙ ap (λ n. (n + c) % m) (add_mod ty a b f g)
    ∙ mod-add-mod (a + b) m c
    ∙ ap (λ n. n % m) (add_assoc a b c)
    ∙ sym (add-mod-mod a (b + c) m)
    ∙ ap (λ n. (a + n) % m) (sym (add_mod ty b c g h))
    ∙ sym (add_mod ty a (word_add ty b c) f (add-GivesWords ty b c g h))

floor-one : (z : ℤ) → floor_div z 1 ≡ z
unfolding floor_div
floor-one (pos n) = ap pos (div-one n)
floor-one (negsuc n) = ap negsuc (div-one n)

mul_mod : (ty : Ty) (a b : ℕ) → frac_of ty ≡ 0 → IsWord ty a → IsWord ty b → word_mul ty a b ≡ (a * b) % 2 ^ width_of ty
unfolding word_mul wrap
mul_mod ty a b e f g =
    ap (λ k. modulo (floor_div (value_of ty a *ℤ value_of ty b) (2 ^ k)) (2 ^ width_of ty)) e
    ∙ ap (λ z. modulo z (2 ^ width_of ty)) (floor-one (value_of ty a *ℤ value_of ty b))
    ∙ modulo-mul (value_of ty a) (value_of ty b) (2 ^ width_of ty) (pow_pos (width_of ty))
    ∙ rw (wrap-value ty a f, wrap-value ty b g) refl

pub mul-IsAssociativeAt : (ty : Ty) → frac_of ty ≡ 0 → IsAssociativeAt ty word_mul
mul-IsAssociativeAt ty e a b c f g h =
    let m = 2 ^ width_of ty in
    mul_mod ty (word_mul ty a b) c e (mul-GivesWords ty a b f g) h
    ∙ ap (λ n. (n * c) % m) (mul_mod ty a b e f g)
    ∙ mul-mod_first (a * b) c m
    ∙ ap (λ n. n % m) (mul_assoc a b c)
    ∙ sym (mul-mod_second a (b * c) m)
    ∙ ap (λ n. (a * n) % m) (sym (mul_mod ty b c e g h))
    ∙ sym (mul_mod ty a (word_mul ty b c) e f (mul-GivesWords ty b c g h))

pub mul-IsCommutative : IsCommutative word_mul
unfolding word_mul
mul-IsCommutative ty a b f g = ap (λ z. wrap ty (floor_div z (2 ^ frac_of ty))) (*ℤ_comm (value_of ty a) (value_of ty b))

-- ---- bits

pub and-IsCommutative : IsCommutative word_and
unfolding word_and
and-IsCommutative ty a b f g = and_comm a b

pub or-IsCommutative : IsCommutative word_or
unfolding word_or
or-IsCommutative ty a b f g = or_comm a b

pub xor-IsCommutative : IsCommutative word_xor
unfolding word_xor
xor-IsCommutative ty a b f g = xor_comm a b

pub and-IsAssociative : IsAssociative word_and
unfolding word_and
and-IsAssociative ty a b c f g h = and_assoc c a b

or_bits : (a b c i : ℕ) → bit_at (bit_or (bit_or a b) c) i ≡ bit_at (bit_or a (bit_or b c)) i
or_bits a b c i =
    rw (bit_at_or (bit_or a b) c i, bit_at_or a b i, bit_at_or a (bit_or b c) i, bit_at_or b c i) (omega arith)

pub or-IsAssociative : IsAssociative word_or
unfolding word_or
or-IsAssociative ty a b c f g h = same_from_bits _ _ (or_bits a b c)

pub xor-IsAssociative : IsAssociative word_xor
unfolding word_xor
xor-IsAssociative ty a b c f g h = xor_assoc a b c

-- ---- wrapping first changes nothing

wrap_is : (ty : Ty) (z : ℤ) → wrap ty z ≡ modulo z (2 ^ width_of ty)
unfolding wrap
wrap_is ty z = refl

wrap-modulo : (z : ℤ) (ty : Ty) → modulo (value_of ty (wrap ty z)) (2 ^ width_of ty) ≡ modulo z (2 ^ width_of ty)
wrap-modulo z ty = wrap-value ty (wrap ty z) (wrap-lt ty z) ∙ wrap_is ty z

pub add-KeepsWrapping : (ty : Ty) → KeepsWrapping word_add ◌+ℤ◌ ty
unfolding word_add wrap
add-KeepsWrapping ty x y =
    let m = 2 ^ width_of ty in
    modulo-add (value_of ty (wrap ty x)) (value_of ty (wrap ty y)) m (pow_pos (width_of ty))
    ∙ rw (wrap-modulo x ty, wrap-modulo y ty) (sym (modulo-add x y m (pow_pos (width_of ty))))

pub sub-KeepsWrapping : (ty : Ty) → KeepsWrapping word_sub ◌-ℤ◌ ty
unfolding word_sub wrap
sub-KeepsWrapping ty x y =
    let m = 2 ^ width_of ty in
    modulo-sub (value_of ty (wrap ty x)) (value_of ty (wrap ty y)) m (pow_pos (width_of ty))
    ∙ rw (wrap-modulo x ty, wrap-modulo y ty) (sym (modulo-sub x y m (pow_pos (width_of ty))))

pub mul-KeepsWrapping : (ty : Ty) → frac_of ty ≡ 0 → KeepsWrapping word_mul ◌*ℤ◌ ty
unfolding word_mul wrap
mul-KeepsWrapping ty e x y =
    let m = 2 ^ width_of ty in
    let z = value_of ty (wrap ty x) *ℤ value_of ty (wrap ty y) in
    ap (λ k. modulo (floor_div z (2 ^ k)) m) e
    ∙ ap (λ n. modulo n m) (floor-one z)
    ∙ modulo-mul (value_of ty (wrap ty x)) (value_of ty (wrap ty y)) m (pow_pos (width_of ty))
    ∙ rw (wrap-modulo x ty, wrap-modulo y ty) (sym (modulo-mul x y m (pow_pos (width_of ty))))

-- ---- what the three divisions mean

floor_below : (n q r m s t : ℕ) → s ≡ suc q * m → t ≡ m - 1 - r → q * m + r ≡ n → r < m → neg_ℤ (pos s) +ℤ pos t ≡ negsuc n
floor_below n q r m s t e f g h = omega (arith, ints)

pub floors : (z : ℤ) (m : ℕ) → 0 < m → IsFloorDivision z m
unfolding floor_div modulo
floors (pos n) m h = (ap pos (div-add-mod' n m), mod_below n m h)
floors (negsuc n) m h =
    (floor_below n (n / m) (n % m) m (suc (n / m) * m) (m - 1 - n % m) refl refl (div-add-mod' n m) (mod_below n m h), omega (arith, mod_below n m h))

abs-with_sign : (s : Bool) (n : ℕ) → unsigned_abs (with_sign s n) ≡ n
abs-with_sign false n = refl
abs-with_sign true zero = refl
abs-with_sign true (suc n) = refl

remainder-sign : (z d : ℤ) → remainder z d ≡ with_sign (int_lt z (pos 0)) (unsigned_abs (remainder z d))
remainder-sign z d =
    let e = remainder_signs z d in
    let n = unsigned_abs z % unsigned_abs d in
    e ∙ ap (with_sign (int_lt z (pos 0))) (sym (abs-with_sign (int_lt z (pos 0)) n) ∙ sym (ap unsigned_abs e))

division-sum : (z d : ℤ) → quotient z d *ℤ d +ℤ remainder z d ≡ z
unfolding quotient remainder
division-sum z (pos zero) = omega (arith, ints)
division-sum z (pos (suc n)) = quot-rem z (pos (suc n))
division-sum z (negsuc n) = quot-rem z (negsuc n)

division-size : (z d : ℤ) → d ≢ pos 0 → unsigned_abs (remainder z d) < unsigned_abs d
unfolding remainder
division-size z (pos zero) apart = absurd (apart refl)
division-size z (pos (suc n)) apart = rem_below z (pos (suc n)) (omega arith)
division-size z (negsuc n) apart = rem_below z (negsuc n) (omega arith)

pub divides : (z d : ℤ) → IsDivision z d
divides z d = record { sum = division-sum z d; sign = remainder-sign z d; size = division-size z d }

-- ---- the values of a type are a range

half : (ty : Ty) → 2 ^ width_of ty ≡ 2 * 2 ^ (width_of ty - 1)
half ty =
    let e : 1 + (width_of ty - 1) ≡ width_of ty = omega (arith, one-le-width ty) in
    sym (ap (λ k. 2 ^ k) e) ∙ pow-add 2 1 (width_of ty - 1)

le_yes : (h w : ℕ) → nat_le h w ≡ true → h ≤ w
le_yes h w e = grind (arith, nat_tests)

le_no : (h w : ℕ) → nat_le h w ≡ false → w < h
le_no h w e = grind (arith, nat_tests)

yes_le : (h w : ℕ) → h ≤ w → nat_le h w ≡ true
yes_le h w e = grind (arith, nat_tests)

no_le : (h w : ℕ) → w < h → nat_le h w ≡ false
no_le h w e = grind (arith, nat_tests)

abbrev within : Bool → ℕ → ℕ → ℤ → Type 0
within b h m z = MatchBool b ((neg_ℤ (pos h) ≤ℤ z) × (z <ℤ pos h)) ((pos 0 ≤ℤ z) × (z <ℤ pos m))

in_range_case : (b s : Bool) (h m w : ℕ) → m ≡ 2 * h → w < m → (b && nat_le h w) ≡ s → within b h m (cond s (pos w -ℤ pos m) (pos w))
in_range_case true true h m w e f g = let k = le_yes h w g in (omega (arith, ints), omega (arith, ints))
in_range_case true false h m w e f g = let k = le_no h w g in (omega (arith, ints), omega (arith, ints))
in_range_case false true h m w e f g = cc
in_range_case false false h m w e f g = (omega (arith, ints), omega (arith, ints))

pub value-in_range : (ty : Ty) (w : ℕ) → IsWord ty w → IsInRange ty (value_of ty w)
unfolding value_of has_sign
value-in_range ty w h =
    in_range_case (signed_of ty) (signed_of ty && nat_le (2 ^ (width_of ty - 1)) w) (2 ^ (width_of ty - 1)) (2 ^ width_of ty) w (half ty) h refl

-- a number in range is the value of what it leaves
lowered : (w n m : ℕ) → w + suc n ≡ m → pos w -ℤ pos m ≡ negsuc n
lowered w n m e = omega (arith, ints)

wrapped_back : (b : Bool) (z : ℤ) (h m w : ℕ) → m ≡ 2 * h → 0 < h → w ≡ modulo z m → within b h m z
    → cond (b && nat_le h w) (pos w -ℤ pos m) (pos w) ≡ z
unfolding modulo
wrapped_back true (pos n) h m w e f g r =
    let low : n < h = omega (arith, ints, r.1) in
    let below : n < m = omega arith in
    let same : w ≡ n = g ∙ mod-eq_of_lt below in
    rw same (ap (λ c. cond c (pos n -ℤ pos m) (pos n)) (no_le h n low))
wrapped_back true (negsuc n) h m w e f g r =
    let low : n < h = omega (arith, ints, r.0) in
    let below : n < m = omega arith in
    let same : w ≡ m - 1 - n = g ∙ ap (λ k. m - 1 - k) (mod-eq_of_lt below) in
    let high : h ≤ w = omega arith in
    let sum : w + suc n ≡ m = omega arith in
    ap (λ c. cond c (pos w -ℤ pos m) (pos w)) (yes_le h w high) ∙ lowered w n m sum
wrapped_back false (pos n) h m w e f g r =
    let below : n < m = omega (arith, ints, r.1) in
    ap pos (g ∙ mod-eq_of_lt below)
wrapped_back false (negsuc n) h m w e f g r = absurd (omega (arith, ints, r.0))

pub value-wrap : (ty : Ty) (z : ℤ) → IsInRange ty z → value_of ty (wrap ty z) ≡ z
unfolding value_of has_sign wrap
value-wrap ty z r =
    wrapped_back (signed_of ty) z (2 ^ (width_of ty - 1)) (2 ^ width_of ty) (modulo z (2 ^ width_of ty)) (half ty) (pow_pos (width_of ty - 1)) refl r
