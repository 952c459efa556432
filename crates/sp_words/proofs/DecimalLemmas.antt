-- Digits after a point, and the numbers that they make.
use Rattle.std.proofs.Common.{◌≡◌, ℕ, zero, suc, ◌+◌, ◌-◌, ◌*◌, ◌/◌, ◌%◌, ◌^◌, ◌<◌, ◌≤◌, Bool, true, false, cond, List, [], ◌∷◌, ◌++◌, append_assoc, append-nil, length, get_or, take, drop, refl, sym, subst, Option, None, ◌∙◌, ap, arith}
use Rattle.std.specs.Prelude.{pos, neg_ℤ, ◌≤ℤ◌, ◌<ℤ◌, ℤ, IsSome, map, ◌==◌, unsigned_abs, ◌-ℤ◌, negsuc}
use Rattle.std.proofs.lemmas.Bool.Decides.{nat_tests}
use Rattle.std.specs.Bool.{MatchBool}
use Rattle.std.proofs.lemmas.Int.{ints}
use Rattle.std.proofs.lemmas.Grind.{common_steps}
use Rattle.std.proofs.lemmas.Nat.{pow_pos}
use Rattle.std.proofs.Math.Nat.{div-add-mod', mod-lt, pow-suc, div-lt_iff_lt-mul, add-mul-div_right, div-div-eq-div-mul, div-eq_of_lt, mod-eq_of_lt, mul-le-mul_right, pow-succ', pow-le-pow_right}
use Rattle.sp_words.specs.declared.types.Ty.{Ty}
use Rattle.sp_words.specs.Types.{signed_of, frac_of, width_of}
use Rattle.sp_words.specs.Laws.{IsInRange}
use Rattle.sp_words.proofs.OperatorLemmas.{width-le, frac-le}
use Rattle.sp_words.specs.Decimal.{AreDigits, digits_number, decimal_value, digits_after_point, with_point, text_of, whole_part, fraction_digits}
use Rattle.sp_words.specs.Words.{IsWord, has_sign, value_of}
use Rattle.std.specs.Fmt.{decimal}
use Rattle.sp_words.specs.WholeNumbers.{floor_div, with_sign}

pub pow-pos : (k : ℕ) → 0 < 10 ^ k
pow-pos zero = omega arith
pow-pos (suc k) = omega (arith, pow-succ' 10 k, pow-pos k)

-- what is added before a division that rounds up
abbrev slack : Bool → ℕ → ℕ
slack up p = cond up (p - 1) 0

slack_more : (up : Bool) (p : ℕ) → 0 < p → slack up p + cond up 9 0 * p ≡ slack up (10 * p)
slack_more true p h = omega arith
slack_more false p h = omega arith

-- one digit more before the others
pub digit_more : (up : Bool) (d s x p : ℕ) → 0 < p
    → (d * s + (x * s + slack up p) / p + cond up 9 0) / 10 ≡ ((d * p + x) * s + slack up (10 * p)) / (10 * p)
digit_more up d s x p h =
    let u : ℕ = cond up 9 0 in
    let e : d * s + (x * s + slack up p) / p + u ≡ (x * s + slack up p + (d * s + u) * p) / p =
    sym (add-mul-div_right (x * s + slack up p) (d * s + u) h ∙ omega arith) in
    let f : x * s + slack up p + (d * s + u) * p ≡ (d * p + x) * s + slack up (10 * p) = omega (arith, slack_more up p h) in
    let g : p * 10 ≡ 10 * p = omega arith in
    ap (λ n. n / 10) e ∙ div-div-eq-div-mul (x * s + slack up p + (d * s + u) * p) p 10
    ∙ ap (λ n. n / (p * 10)) f ∙ ap (λ n. ((d * p + x) * s + slack up (10 * p)) / n) g

pub digit_bound : (d s b u : ℕ) → d < 10 → b ≤ s → u < 10 → (d * s + b + u) / 10 ≤ s
digit_bound d s b u h g k =
    let e : d ≤ 9 = omega arith in
    let m : d * s ≤ 9 * s = mul-le-mul_right s e in
    omega arith

-- a floor by sign: below zero it is the ceiling of the absolute value
pub floor_signs : (negative : Bool) (n m : ℕ) → 0 < m → floor_div (with_sign negative n) m ≡ with_sign negative ((n + slack negative m) / m)
unfolding floor_div
floor_signs false n m h =
    let e : n ≡ n + 0 = omega arith in
    ap (λ k. pos (k / m)) e
floor_signs true zero m h =
    let e : 0 + (m - 1) < m = omega arith in
    let f : (0 + (m - 1)) / m ≡ 0 = div-eq_of_lt e in
    let g : 0 / m ≡ 0 = div-eq_of_lt h in
    ap pos g ∙ sym (ap (λ k. neg_ℤ (pos k)) f)
floor_signs true (suc n) m h =
    let e : suc n + (m - 1) ≡ n + 1 * m = omega arith in
    let f : (suc n + (m - 1)) / m ≡ suc (n / m) = ap (λ k. k / m) e ∙ add-mul-div_right n 1 h ∙ omega arith in
    sym (ap (λ k. neg_ℤ (pos k)) f)

pub decimal_is : (negative : Bool) (w x s p : ℕ) → 0 < p
    → floor_div (with_sign negative ((w * p + x) * s)) p ≡ with_sign negative (w * s + (x * s + slack negative p) / p)
decimal_is negative w x s p h =
    let e : (w * p + x) * s + slack negative p ≡ x * s + slack negative p + w * s * p = omega arith in
    let f : ((w * p + x) * s + slack negative p) / p ≡ w * s + (x * s + slack negative p) / p =
    ap (λ n. n / p) e ∙ add-mul-div_right (x * s + slack negative p) (w * s) h ∙ omega arith in
    floor_signs negative ((w * p + x) * s) p h ∙ ap (with_sign negative) f

-- ---- a list of digits by its first

tail_is : (d : ℕ) (ds : List ℕ) → take (length (d ∷ ds) - 1) (drop 1 (d ∷ ds)) ≡ ds
tail_is d ds = grind (arith, common_steps)

abbrev rounded : Bool → ℕ → List ℕ → ℕ
rounded up s ds = (digits_number ds * s + slack up (10 ^ length ds)) / 10 ^ length ds

cons_rounded : (up : Bool) (d s : ℕ) (ds : List ℕ) → (d * s + rounded up s ds + cond up 9 0) / 10 ≡ rounded up s (d ∷ ds)
cons_rounded up d s ds =
    digit_more up d s (digits_number ds) (10 ^ length ds) (pow-pos (length ds))
    ∙ ap (λ p. ((d * 10 ^ length ds + digits_number ds) * s + slack up p) / p) (sym (pow-succ' 10 (length ds)))

shifted : (d f : ℕ) → d < 10 → f ≤ 64 → d * 2 ^ f % 2 ^ 128 ≡ d * 2 ^ f
shifted d f h g =
    let e : d ≤ 9 = omega arith in
    let m : d * 2 ^ f ≤ 9 * 2 ^ f = mul-le-mul_right (2 ^ f) e in
    let n : 2 ^ f ≤ 2 ^ 64 = pow-le-pow_right (omega arith) g in
    let low : d * 2 ^ f < 2 ^ 128 = omega arith in
    mod-eq_of_lt low

pub fraction_step : (up : Bool) (f first below u : ℕ) (ds : List ℕ) → 1 ≤ length ds → first ≡ get_or ds 0 0 → AreDigits ds → f ≤ 64
    → below ≡ rounded up (2 ^ f) (take (length ds - 1) (drop 1 ds)) → u ≡ cond up 9 0
    → (first * 2 ^ f % 2 ^ 128 + below + u) / 10 ≡ rounded up (2 ^ f) ds
fraction_step up f first below u [] h e a g b k = absurd (omega arith)
fraction_step up f first below u (d ∷ ds) h e a g b k =
    let small : d < 10 = a 0 0 (omega arith) in
    rw (e, shifted d f small g, b, k, tail_is d ds) (cons_rounded up d (2 ^ f) ds)

pub fraction_bound : (f first below u : ℕ) (ds : List ℕ) → 1 ≤ length ds → first ≡ get_or ds 0 0 → AreDigits ds → f ≤ 64
    → below ≤ 2 ^ f → u ≤ 9 → (first * 2 ^ f % 2 ^ 128 + below + u) / 10 ≤ 2 ^ f
fraction_bound f first below u [] h e a g b k = absurd (omega arith)
fraction_bound f first below u (d ∷ ds) h e a g b k =
    let small : d < 10 = a 0 0 (omega arith) in
    rw (e, shifted d f small g) (digit_bound d (2 ^ f) below u small b (omega arith))

-- ---- numbers too great for every type

outside : (b negative : Bool) (n h m : ℕ) → 2 ^ 128 ≤ n → h ≤ 2 ^ 64 → m ≤ 2 ^ 64
    → MatchBool b ((neg_ℤ (pos h) ≤ℤ with_sign negative n) × (with_sign negative n <ℤ pos h)) ((pos 0 ≤ℤ with_sign negative n) × (with_sign negative n <ℤ pos m)) → ⊥
outside true true n h m g a b r = omega (arith, ints, r.0)
outside true false n h m g a b r = omega (arith, ints, r.1)
outside false true n h m g a b r = omega (arith, ints, r.0)
outside false false n h m g a b r = omega (arith, ints, r.1)

pub too_great : (ty : Ty) (negative : Bool) (n : ℕ) → 2 ^ 128 ≤ n → IsInRange ty (with_sign negative n) → ⊥
too_great ty negative n h r =
    let b : 2 ^ width_of ty ≤ 2 ^ 64 = pow-le-pow_right (omega arith) (width-le ty) in
    let k : width_of ty - 1 ≤ 64 = omega (arith, width-le ty) in
    let a : 2 ^ (width_of ty - 1) ≤ 2 ^ 64 = pow-le-pow_right (omega arith) k in
    outside (signed_of ty) negative n (2 ^ (width_of ty - 1)) (2 ^ width_of ty) h a b r

-- ---- the number and what is computed of it

scale_is : (ty : Ty) (f : ℕ) → f ≡ frac_of ty → 1 * 2 ^ f % 2 ^ 128 ≡ 2 ^ f
scale_is ty f e =
    let k : f ≤ 64 = omega (arith, frac-le ty, width-le ty) in
    shifted 1 f (omega arith) k ∙ omega arith

total_is : (ty : Ty) (negative : Bool) (w f b : ℕ) (ds : List ℕ) → f ≡ frac_of ty → b ≡ rounded negative (2 ^ f) ds
    → with_sign negative (w * 2 ^ f + b) ≡ decimal_value ty negative w ds
total_is ty negative w f b ds e g =
    let P : ℕ → Type 0 = λ f. with_sign negative (w * 2 ^ f + rounded negative (2 ^ f) ds) ≡ decimal_value ty negative w ds in
    rw g (subst P (sym e) (sym (decimal_is negative w (digits_number ds) (2 ^ frac_of ty) (10 ^ length ds) (pow-pos (length ds)))))

pub decimal_total : (ty : Ty) (negative : Bool) (w f b m : ℕ) (ds : List ℕ) → f ≡ frac_of ty → b ≡ rounded negative (2 ^ f) ds
    → m ≡ w * (1 * 2 ^ f % 2 ^ 128) + b → with_sign negative m ≡ decimal_value ty negative w ds
decimal_total ty negative w f b m ds e g h =
    ap (with_sign negative) (h ∙ ap (λ k. w * k + b) (scale_is ty f e)) ∙ total_is ty negative w f b ds e g

pub too_great_decimal : (ty : Ty) (negative : Bool) (w f b : ℕ) (ds : List ℕ) → f ≡ frac_of ty → b ≡ rounded negative (2 ^ f) ds
    → 2 ^ 128 ≤ w * (1 * 2 ^ f % 2 ^ 128) + b → IsInRange ty (decimal_value ty negative w ds) → ⊥
too_great_decimal ty negative w f b ds e g h r =
    let P : ℤ → Type 0 = IsInRange ty in
    let n = w * (1 * 2 ^ f % 2 ^ 128) + b in
    too_great ty negative n h (subst P (sym (decimal_total ty negative w f b n ds e g refl)) r)

pub no_some : {P : Type 0} → false ≡ true → P
no_some e = cc

pub none_iff : {P : Type 0} (r : Option ℕ) → r ≡ None → (P → ⊥) → (IsSome r → P) × (P → IsSome r)
none_iff {P = P} r e n =
    let Q : Option ℕ → Type 0 = λ r. (IsSome r → P) × (P → IsSome r) in
    subst Q (sym e) (λ s. no_some s, λ p. absurd (n p))

-- ---- the digits that are printed

pub digits_none : (f n : ℕ) → n ≡ 0 → digits_after_point f n ≡ []
unfolding digits_after_point
digits_none zero n e = refl
digits_none (suc f) n e = rw e refl

not_zero : (n : ℕ) → 0 < n → (n == 0) ≡ false
not_zero n h = grind (arith, nat_tests)

digits_more : (f n : ℕ) → 0 < n → digits_after_point (suc f) n ≡ (5 * n / 2 ^ f) ∷ digits_after_point f (5 * n % 2 ^ f)
unfolding digits_after_point
digits_more f n h = ap (λ b. cond b [] ((5 * n / 2 ^ f) ∷ digits_after_point f (5 * n % 2 ^ f))) (not_zero n h)

pub digit_small : (f n : ℕ) → n < 2 ^ f → 5 * n / 2 ^ (f - 1) < 10
digit_small zero n h =
    let e : n ≡ 0 = omega arith in
    rw e (omega arith)
digit_small (suc f) n h =
    let k : suc f - 1 ≡ f = omega arith in
    let g : 5 * n < 10 * 2 ^ f = omega (arith, pow-suc 2 f) in
    rw k ((div-lt_iff_lt-mul (pow_pos f)).1 g)

above_zero : (n : ℕ) → (n ≡ 0 → ⊥) → 0 < n
above_zero zero h = absurd (h refl)
above_zero (suc n) h = omega arith

pub digits_joined : (f n ch : ℕ) (e old mid new : List ℕ) → (n ≡ 0 → ⊥) → n < 2 ^ f → f ≤ 64 → ch ≡ 48 + 5 * n / 2 ^ (f - 1)
    → mid ≡ old ++ e → (ch < 128 → e ≡ ch ∷ [])
    → new ≡ mid ++ map (λ digit. 48 + digit) (digits_after_point (f - 1) (5 * n % (1 * 2 ^ (f - 1) % 2 ^ 128)))
    → new ≡ old ++ map (λ digit. 48 + digit) (digits_after_point f n)
digits_joined zero n ch e old mid new h g k c m a r = absurd (h (omega arith))
digits_joined (suc f) n ch e old mid new h g k c m a r =
    let p : suc f - 1 ≡ f = omega arith in
    let low : f ≤ 64 = omega arith in
    let s : 1 * 2 ^ f % 2 ^ 128 ≡ 2 ^ f = shifted 1 f (omega arith) low ∙ omega arith in
    let small : ch < 128 = omega (arith, digit_small (suc f) n g) in
    let positive : 0 < n = above_zero n h in
    let glyph : ch ≡ 48 + 5 * n / 2 ^ f = c ∙ ap (λ k. 48 + 5 * n / 2 ^ k) p in
    let rest = map (λ digit. 48 + digit) (digits_after_point f (5 * n % 2 ^ f)) in
    let scale : new ≡ mid ++ rest =
    r ∙ ap (λ k. mid ++ map (λ digit. 48 + digit) (digits_after_point k (5 * n % (1 * 2 ^ k % 2 ^ 128)))) p
    ∙ ap (λ k. mid ++ map (λ digit. 48 + digit) (digits_after_point f (5 * n % k))) s in
    let front : mid ≡ old ++ ((48 + 5 * n / 2 ^ f) ∷ []) = m ∙ ap (λ t. old ++ t) (a small ∙ ap (λ d. d ∷ []) glyph) in
    scale ∙ ap (λ t. t ++ rest) front ∙ append_assoc old ((48 + 5 * n / 2 ^ f) ∷ []) rest
    ∙ ap (λ ds. old ++ map (λ digit. 48 + digit) ds) (sym (digits_more f n positive))

-- ---- the text of a word

pub one_more : (new old e : List ℕ) (ch : ℕ) → new ≡ old ++ e → (ch < 128 → e ≡ ch ∷ []) → ch < 128 → new ≡ old ++ (ch ∷ [])
one_more new old e ch m a h = m ∙ ap (λ t. old ++ t) (a h)

scale_same : (f : ℕ) → f ≤ 64 → 1 * 2 ^ f % 2 ^ 128 ≡ 2 ^ f
scale_same f h = shifted 1 f (omega arith) h ∙ omega arith

pub pointed : (f m : ℕ) (t mid new : List ℕ) → f ≤ 64 → (m % (1 * 2 ^ f % 2 ^ 128) ≡ 0 → ⊥) → mid ≡ t ++ (46 ∷ [])
    → new ≡ mid ++ map (λ digit. 48 + digit) (digits_after_point f (m % (1 * 2 ^ f % 2 ^ 128)))
    → new ≡ t ++ with_point (digits_after_point f (m % 2 ^ f))
pointed zero m t mid new k h e g =
    let one : 1 * 2 ^ 0 % 2 ^ 128 ≡ 1 = refl in
    absurd (h (ap (λ d. m % d) one ∙ omega arith))
pointed (suc f) m t mid new k h e g =
    let s : 1 * 2 ^ suc f % 2 ^ 128 ≡ 2 ^ suc f = scale_same (suc f) k in
    let n = m % (1 * 2 ^ suc f % 2 ^ 128) in
    let more : digits_after_point (suc f) n ≡ (5 * n / 2 ^ f) ∷ digits_after_point f (5 * n % 2 ^ f) = digits_more f n (above_zero n h) in
    let shown = map (λ digit. 48 + digit) (digits_after_point (suc f) n) in
    g ∙ ap (λ l. l ++ shown) e ∙ append_assoc t (46 ∷ []) shown
    ∙ ap (λ ds. t ++ (46 ∷ map (λ digit. 48 + digit) ds)) more
    ∙ ap (λ ds. t ++ with_point ds) (sym more)
    ∙ ap (λ d. t ++ with_point (digits_after_point (suc f) (m % d))) s

pub unpointed : (f m : ℕ) (t new : List ℕ) → f ≤ 64 → m % (1 * 2 ^ f % 2 ^ 128) ≡ 0 → new ≡ t
    → new ≡ t ++ with_point (digits_after_point f (m % 2 ^ f))
unpointed f m t new k h e =
    let z : m % 2 ^ f ≡ 0 = ap (λ d. m % d) (sym (scale_same f k)) ∙ h in
    e ∙ sym (ap (λ ds. t ++ with_point ds) (digits_none f (m % 2 ^ f) z) ∙ append-nil t)

pub text_joined : (ty : Ty) (w m f : ℕ) (first mid new : List ℕ) → m ≡ unsigned_abs (value_of ty w) → f ≡ frac_of ty
    → first ≡ cond (has_sign ty w) (45 ∷ []) [] → mid ≡ first ++ decimal (m / 2 ^ f)
    → new ≡ mid ++ with_point (digits_after_point f (m % 2 ^ f)) → new ≡ text_of ty w
unfolding text_of
text_joined ty w m f first mid new e g a b c =
    let sign : List ℕ = cond (has_sign ty w) (45 ∷ []) [] in
    let point : List ℕ = with_point (digits_after_point f (m % 2 ^ f)) in
    c ∙ ap (λ l. l ++ point) b
    ∙ ap (λ l. l ++ decimal (m / 2 ^ f) ++ point) a
    ∙ ap (λ m. sign ++ decimal (m / 2 ^ f) ++ with_point (digits_after_point f (m % 2 ^ f))) e
    ∙ ap (λ f. sign ++ decimal (unsigned_abs (value_of ty w) / 2 ^ f) ++ with_point (digits_after_point f (unsigned_abs (value_of ty w) % 2 ^ f))) g

-- ---- what is printed reads back

exact_step : (d p x q r n : ℕ) → x * q ≡ r * p → d * q + r ≡ 5 * n → (d * p + x) * (2 * q) ≡ n * (10 * p)
exact_step d p x q r n e g =
    let f : (d * q + r) * p ≡ 5 * n * p = ap (λ k. k * p) g in
    omega (arith, e, f)

pub digits_exact : (f n : ℕ) → n < 2 ^ f → digits_number (digits_after_point f n) * 2 ^ f ≡ n * 10 ^ length (digits_after_point f n)
digits_exact zero n h =
    let e : n ≡ 0 = omega arith in
    ap (λ ds. digits_number ds * 2 ^ 0) (digits_none 0 n e) ∙ omega arith ∙ sym (ap (λ k. k * 10 ^ length (digits_after_point 0 n)) e)
digits_exact (suc f) zero h =
    ap (λ ds. digits_number ds * 2 ^ suc f) (digits_none (suc f) 0 refl) ∙ omega arith
digits_exact (suc f) (suc n) h =
    let d = 5 * suc n / 2 ^ f in
    let r = 5 * suc n % 2 ^ f in
    let ds : List ℕ = digits_after_point f r in
    let small : r < 2 ^ f = mod-lt (5 * suc n) (pow_pos f) in
    let inner : digits_number ds * 2 ^ f ≡ r * 10 ^ length ds = digits_exact f r small in
    let more : digits_after_point (suc f) (suc n) ≡ d ∷ ds = digits_more f (suc n) (omega arith) in
    let split : d * 2 ^ f + r ≡ 5 * suc n = div-add-mod' (5 * suc n) (2 ^ f) in
    let p = 10 ^ length ds in
    let q = 2 ^ f in
    let x = digits_number ds in
    let both : (d * p + x) * (2 * q) ≡ suc n * (10 * p) = exact_step d p x q r (suc n) inner split in
    ap (λ ds. digits_number ds * 2 ^ suc f) more
    ∙ ap (λ k. (d * p + x) * k) (pow-succ' 2 f) ∙ both
    ∙ ap (λ k. suc n * k) (sym (pow-succ' 10 (length ds)))
    ∙ sym (ap (λ ds. suc n * 10 ^ length ds) more)

digits_few_none : (n : ℕ) → length (digits_after_point zero n) ≤ zero
unfolding digits_after_point
digits_few_none n = omega arith

pub digits_few : (f n : ℕ) → length (digits_after_point f n) ≤ f
digits_few zero n = digits_few_none n
digits_few (suc f) zero = omega (arith, ap (length {A = ℕ}) (digits_none (suc f) 0 refl))
digits_few (suc f) (suc n) =
    let r = 5 * suc n % 2 ^ f in
    omega (arith, digits_few f r, ap (length {A = ℕ}) (digits_more f (suc n) (omega arith)))

sign_back : (w m : ℕ) → w < m → with_sign true (unsigned_abs (pos w -ℤ pos m)) ≡ pos w -ℤ pos m
sign_back w m h =
    let e : pos w -ℤ pos m ≡ negsuc (m - w - 1) = omega (arith, ints) in
    rw e refl

abs_signed : (ty : Ty) (w : ℕ) → IsWord ty w → with_sign (has_sign ty w) (unsigned_abs (value_of ty w)) ≡ value_of ty w
unfolding value_of
abs_signed ty w h =
    elim (has_sign ty w) as (λ s. with_sign s (unsigned_abs (cond s (pos w -ℤ pos (2 ^ width_of ty)) (pos w))) ≡ cond s (pos w -ℤ pos (2 ^ width_of ty)) (pos w))
    [ true ↦ sign_back w (2 ^ width_of ty) h | false ↦ refl ]

slack_lt : (up : Bool) (p : ℕ) → 0 < p → slack up p < p
slack_lt true p h = omega arith
slack_lt false p h = h

pub reads_back : (ty : Ty) (w : ℕ) → IsWord ty w → decimal_value ty (has_sign ty w) (whole_part ty w) (fraction_digits ty w) ≡ value_of ty w
reads_back ty w h =
    let m = unsigned_abs (value_of ty w) in
    let s = 2 ^ frac_of ty in
    let n = m % s in
    let ds : List ℕ = fraction_digits ty w in
    let p = 10 ^ length ds in
    let positive : 0 < p = pow-pos (length ds) in
    let low : n < s = mod-lt m (pow_pos (frac_of ty)) in
    let exact : digits_number ds * s ≡ n * p = digits_exact (frac_of ty) n low in
    let k = slack (has_sign ty w) p in
    let none : k / p ≡ 0 = div-eq_of_lt (slack_lt (has_sign ty w) p positive) in
    let regroup : digits_number ds * s + k ≡ k + n * p = omega (arith, exact) in
    let below : (digits_number ds * s + k) / p ≡ n =
    ap (λ x. x / p) regroup ∙ add-mul-div_right k n positive ∙ ap (λ x. x + n) none ∙ omega arith in
    let all : m / s * s + n ≡ m = div-add-mod' m s in
    decimal_is (has_sign ty w) (m / s) (digits_number ds) s p positive
    ∙ ap (λ x. with_sign (has_sign ty w) (m / s * s + x)) below
    ∙ ap (with_sign (has_sign ty w)) all
    ∙ abs_signed ty w h

first_and_rest : (d : ℕ) (ds : List ℕ) → d < 10 → AreDigits ds → AreDigits (d ∷ ds)
first_and_rest d ds h a zero e k = h
first_and_rest d ds h a (suc i) e k = a i e (omega arith)

digits_all : (f n : ℕ) → n < 2 ^ f → AreDigits (digits_after_point f n)
digits_all zero n h = subst AreDigits (sym (digits_none zero n (omega arith))) (λ k d e. absurd (omega arith))
digits_all (suc f) zero h = subst AreDigits (sym (digits_none (suc f) 0 refl)) (λ k d e. absurd (omega arith))
digits_all (suc f) (suc n) h =
    let k : suc f - 1 ≡ f = omega arith in
    let small : 5 * suc n / 2 ^ f < 10 = subst (λ j. 5 * suc n / 2 ^ j < 10) k (digit_small (suc f) (suc n) h) in
    let low : 5 * suc n % 2 ^ f < 2 ^ f = mod-lt (5 * suc n) (pow_pos f) in
    subst AreDigits (sym (digits_more f (suc n) (omega arith)))
    (first_and_rest (5 * suc n / 2 ^ f) (digits_after_point f (5 * suc n % 2 ^ f)) small (digits_all f (5 * suc n % 2 ^ f) low))

pub fraction_are_digits : (ty : Ty) (w : ℕ) → AreDigits (fraction_digits ty w)
fraction_are_digits ty w = digits_all (frac_of ty) (unsigned_abs (value_of ty w) % 2 ^ frac_of ty) (mod-lt (unsigned_abs (value_of ty w)) (pow_pos (frac_of ty)))

some_digit : (f n : ℕ) → 0 < n → n < 2 ^ f → digits_after_point f n ≡ [] → ⊥
some_digit zero n h g e = omega arith
some_digit (suc f) n h g e =
    let more = digits_more f n h in
    cc

no_end : (ds : List ℕ) → [] ≡ ds ++ (0 ∷ []) → ⊥
no_end [] e = cc
no_end (d ∷ ds) e = cc

-- the last digit is not 0
pub no_last_zero : (f n : ℕ) (ds : List ℕ) → n < 2 ^ f → digits_after_point f n ≡ ds ++ (0 ∷ []) → ⊥
no_last_zero zero n ds h e = no_end ds (sym (digits_none zero n (omega arith)) ∙ e)
no_last_zero (suc f) zero ds h e = no_end ds (sym (digits_none (suc f) 0 refl) ∙ e)
no_last_zero (suc f) (suc n) [] h e =
    let q = 5 * suc n / 2 ^ f in
    let r = 5 * suc n % 2 ^ f in
    let more = digits_more f (suc n) (omega arith) in
    let first : q ≡ 0 = cc in
    let none : digits_after_point f r ≡ [] = cc in
    let all : q * 2 ^ f + r ≡ 5 * suc n = div-add-mod' (5 * suc n) (2 ^ f) in
    let part : q * 2 ^ f ≡ 0 = ap (λ k. k * 2 ^ f) first ∙ omega arith in
    let left : 0 < r = omega arith in
    some_digit f r left (mod-lt (5 * suc n) (pow_pos f)) none
no_last_zero (suc f) (suc n) (d ∷ ds) h e =
    let r = 5 * suc n % 2 ^ f in
    let more = digits_more f (suc n) (omega arith) in
    let rest : digits_after_point f r ≡ ds ++ (0 ∷ []) = cc in
    no_last_zero f r ds (mod-lt (5 * suc n) (pow_pos f)) rest
