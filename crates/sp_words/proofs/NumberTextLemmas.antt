-- Number texts: each is read in one way, and what is printed of a word is one.
use Rattle.std.proofs.Common.{◌≡◌, ℕ, zero, suc, ◌+◌, ◌*◌, ◌/◌, ◌%◌, ◌^◌, ◌<◌, ◌≤◌, Bool, true, false, List, [], ◌∷◌, ◌++◌, length, length-append, refl, sym, subst, ◌∙◌, ap, arith}
use Rattle.std.specs.Prelude.{unsigned_abs}
use Rattle.std.specs.Fmt.{decimal}
use Rattle.std.proofs.lemmas.Fmt.{decimal_by_steps_wide}
use Rattle.std.proofs.lemmas.List.{map-append}
use Rattle.std.proofs.lemmas.List.Elements.{All-append}
use Rattle.std.proofs.Math.Nat.{pow-succ', pow-le-pow_right, div-le_self, div-add-mod', mod-lt}
use Rattle.std.proofs.lemmas.Nat.{pow_pos}
use Rattle.sp_words.specs.declared.types.Ty.{Ty}
use Rattle.sp_words.specs.Types.{frac_of, width_of}
use Rattle.sp_words.specs.Laws.{IsInRange}
use Rattle.sp_words.specs.Decimal.{AreDigits, digits_number, decimal_value, with_point, text_of, whole_part, fraction_digits}
use Rattle.sp_words.specs.NumberText.{digit_bytes, sign_bytes, IsNumberText, IsExactly, ReadsAs}
use Rattle.sp_words.specs.Words.{IsWord, has_sign, value_of, wrap}
use Rattle.sp_words.proofs.OperatorLemmas.{width-le, frac-le, abs-value}
use Rattle.sp_words.proofs.LawLemmas.{wrap-of-value, value-in_range}
use Rattle.sp_words.proofs.DecimalLemmas.{reads_back, digits_exact, digits_few, fraction_are_digits}

-- ---- bytes are read in one way

same_digits : (ds es : List ℕ) → digit_bytes ds ≡ digit_bytes es → ds ≡ es
same_digits [] [] e = refl
same_digits [] (y ∷ es) e = cc
same_digits (x ∷ ds) [] e = cc
same_digits (x ∷ ds) (y ∷ es) e =
    let head : 48 + x ≡ 48 + y = cc in
    let here : x ≡ y = omega arith in
    let tail : digit_bytes ds ≡ digit_bytes es = cc in
    let rest : ds ≡ es = same_digits ds es tail in
    cc

same_points : (ds es : List ℕ) → with_point ds ≡ with_point es → ds ≡ es
same_points [] [] e = refl
same_points [] (y ∷ es) e = cc
same_points (x ∷ ds) [] e = cc
same_points (x ∷ ds) (y ∷ es) e =
    let tail : digit_bytes (x ∷ ds) ≡ digit_bytes (y ∷ es) = cc in
    same_digits (x ∷ ds) (y ∷ es) tail

-- a point is no digit
no_digit : {P : Type 0} (y : ℕ) (bytes es : List ℕ) → with_point es ≡ (48 + y) ∷ bytes → P
no_digit y bytes [] e = cc
no_digit y bytes (x ∷ es) e =
    let head : 46 ≡ 48 + y = cc in
    absurd (omega arith)

-- the digits before a point, and those after it
same_numbers : (xs ys ds es : List ℕ) → digit_bytes xs ++ with_point ds ≡ digit_bytes ys ++ with_point es → (xs ≡ ys) × (ds ≡ es)
same_numbers [] [] ds es e = (refl, same_points ds es e)
same_numbers [] (y ∷ ys) ds es e = no_digit y (digit_bytes ys ++ with_point es) ds e
same_numbers (x ∷ xs) [] ds es e = no_digit x (digit_bytes xs ++ with_point ds) es (sym e)
same_numbers (x ∷ xs) (y ∷ ys) ds es e =
    let head : 48 + x ≡ 48 + y = cc in
    let here : x ≡ y = omega arith in
    let tail : digit_bytes xs ++ with_point ds ≡ digit_bytes ys ++ with_point es = cc in
    let rest = same_numbers xs ys ds es tail in
    ((λ i. here i ∷ rest.0 i), rest.1)

-- a digit is no minus sign
no_minus : {P : Type 0} (xs bytes tail : List ℕ) → 1 ≤ length xs → digit_bytes xs ++ bytes ≡ 45 ∷ tail → P
no_minus [] bytes tail h e = absurd (omega arith)
no_minus (x ∷ xs) bytes tail h e =
    let head : 48 + x ≡ 45 = cc in
    absurd (omega arith)

same_texts : (n m : Bool) (xs ys a b : List ℕ) → 1 ≤ length xs → 1 ≤ length ys
    → sign_bytes n ++ digit_bytes xs ++ a ≡ sign_bytes m ++ digit_bytes ys ++ b
    → (n ≡ m) × (digit_bytes xs ++ a ≡ digit_bytes ys ++ b)
same_texts true true xs ys a b h g e = (refl, cc)
same_texts true false xs ys a b h g e = no_minus ys b (digit_bytes xs ++ a) g (sym e)
same_texts false true xs ys a b h g e = no_minus xs a (digit_bytes ys ++ b) h e
same_texts false false xs ys a b h g e = (refl, e)

pub one_reading : (bytes : List ℕ) (n m : Bool) (v w : ℕ) (ds es : List ℕ)
    → IsNumberText bytes n v ds → IsNumberText bytes m w es → (n ≡ m) × (v ≡ w) × (ds ≡ es)
one_reading bytes n m v w ds es s t =
    let signs = same_texts n m s.before t.before (with_point ds) (with_point es) s.some t.some (sym s.written ∙ t.written) in
    let numbers = same_numbers s.before t.before ds es signs.1 in
    (signs.0, sym s.number ∙ ap digits_number numbers.0 ∙ t.number, numbers.1)

-- ---- a whole number in digits

digits_number-push : (ds : List ℕ) (d : ℕ) → digits_number (ds ++ (d ∷ [])) ≡ digits_number ds * 10 + d
digits_number-push [] d = omega arith
digits_number-push (x ∷ ds) d =
    let long : length (ds ++ (d ∷ [])) ≡ suc (length ds) = omega (arith, length-append ds (d ∷ [])) in
    let power : 10 ^ length (ds ++ (d ∷ [])) ≡ 10 * 10 ^ length ds = ap (λ k. 10 ^ k) long ∙ pow-succ' 10 (length ds) in
    let inner : digits_number (ds ++ (d ∷ [])) ≡ digits_number ds * 10 + d = digits_number-push ds d in
    ap (λ p. x * p + digits_number (ds ++ (d ∷ []))) power
    ∙ ap (λ n. x * (10 * 10 ^ length ds) + n) inner
    ∙ omega arith

-- bytes are the digits of a number, of which there is at least one
record IsWhole (number : ℕ) (bytes : List ℕ) : Type 0 where
  digits : List ℕ
  some : 1 ≤ length digits
  are_digits : AreDigits digits
  same : digits_number digits ≡ number
  written : bytes ≡ digit_bytes digits

is_digit : (n : ℕ) → n < 10 → AreDigits (n ∷ [])
is_digit n h zero d k = h
is_digit n h (suc i) d k = absurd (omega arith)

one_digit : (n : ℕ) → n < 10 → IsWhole n ((48 + n) ∷ [])
one_digit n h = record { digits = n ∷ []; some = omega arith; are_digits = is_digit n h; same = omega arith; written = refl }

more_digits : (n : ℕ) (bytes : List ℕ) → 10 ≤ n → IsWhole (n / 10) bytes → IsWhole n (bytes ++ ((48 + n % 10) ∷ []))
more_digits n bytes h front =
    let d = n % 10 in
    let last : d < 10 = mod-lt n (omega arith) in
    record {
      digits = front.digits ++ (d ∷ []);
      some = omega (arith, length-append front.digits (d ∷ []), front.some);
      are_digits = All-append (λ x. x < 10) front.digits (d ∷ []) front.are_digits (is_digit d last);
      same = digits_number-push front.digits d ∙ omega (arith, front.same);
      written = ap (λ l. l ++ ((48 + d) ∷ [])) front.written ∙ sym (map-append (λ digit. 48 + digit) front.digits (d ∷ []));
    }

decimal_whole : (n : ℕ) → n < 10 ^ 64 → IsWhole n (decimal n)
decimal_whole = decimal_by_steps_wide IsWhole one_digit more_digits

-- ---- what is printed of a word

whole-le : (ty : Ty) (w : ℕ) → IsWord ty w → whole_part ty w ≤ 2 ^ 64
whole-le ty w h =
    let size : 2 ^ width_of ty ≤ 2 ^ 64 = pow-le-pow_right (omega arith) (width-le ty) in
    omega (arith, size, abs-value ty w h, div-le_self (unsigned_abs (value_of ty w)) (2 ^ frac_of ty))

pub printed : (ty : Ty) (w : ℕ) → IsWord ty w → IsNumberText (text_of ty w) (has_sign ty w) (whole_part ty w) (fraction_digits ty w)
unfolding text_of
printed ty w h =
    let small : whole_part ty w < 10 ^ 64 = omega (arith, whole-le ty w h) in
    let number = decimal_whole (whole_part ty w) small in
    record {
      before = number.digits;
      some = number.some;
      are_digits = (number.are_digits, fraction_are_digits ty w);
      number = number.same;
      written = ap (λ l. sign_bytes (has_sign ty w) ++ l ++ with_point (fraction_digits ty w)) number.written;
    }

exact_size : (m q s n x p : ℕ) → q * s + n ≡ m → x * s ≡ n * p → (q * p + x) * s ≡ m * p
exact_size m q s n x p e f =
    let g : (q * s + n) * p ≡ m * p = ap (λ k. k * p) e in
    omega (arith, f, g)

printed_exactly : (ty : Ty) (w : ℕ) → IsExactly ty w (has_sign ty w) (whole_part ty w) (fraction_digits ty w)
printed_exactly ty w =
    let m = unsigned_abs (value_of ty w) in
    let s = 2 ^ frac_of ty in
    let ds : List ℕ = fraction_digits ty w in
    record {
      sign = refl;
      size = exact_size m (m / s) s (m % s) (digits_number ds) (10 ^ length ds) (div-add-mod' m s) (digits_exact (frac_of ty) (m % s) (mod-lt m (pow_pos (frac_of ty))));
    }

printed_reads : (ty : Ty) (w : ℕ) → IsWord ty w → ReadsAs ty w (has_sign ty w) (whole_part ty w) (fraction_digits ty w)
printed_reads ty w h = record {
  fits = omega (arith, whole-le ty w h);
  few = omega (arith, digits_few (frac_of ty) (unsigned_abs (value_of ty w) % 2 ^ frac_of ty), frac-le ty, width-le ty);
  are_digits = fraction_are_digits ty w;
  value = reads_back ty w h;
}

-- ---- whatever is read of what is printed

along : (P : Bool → ℕ → List ℕ → Type 0) (n m : Bool) (v w : ℕ) (ds es : List ℕ) → (n ≡ m) × (v ≡ w) × (ds ≡ es) → P n v ds → P m w es
along P n m v w ds es e p =
    subst (λ n. P n w es) e.0 (subst (λ v. P n v es) e.1 (subst (λ ds. P n v ds) e.2 p))

pub read_exactly : (ty : Ty) (w : ℕ) (negative : Bool) (whole : ℕ) (digits : List ℕ) → IsWord ty w
    → IsNumberText (text_of ty w) negative whole digits → IsExactly ty w negative whole digits
read_exactly ty w negative whole digits h t =
    along (IsExactly ty w) _ _ _ _ _ _
    (one_reading (text_of ty w) (has_sign ty w) negative (whole_part ty w) whole (fraction_digits ty w) digits (printed ty w h) t)
    (printed_exactly ty w)

pub read_again : (ty : Ty) (w : ℕ) (negative : Bool) (whole : ℕ) (digits : List ℕ) → IsWord ty w
    → IsNumberText (text_of ty w) negative whole digits → ReadsAs ty w negative whole digits
read_again ty w negative whole digits h t =
    along (ReadsAs ty w) _ _ _ _ _ _
    (one_reading (text_of ty w) (has_sign ty w) negative (whole_part ty w) whole (fraction_digits ty w) digits (printed ty w h) t)
    (printed_reads ty w h)

-- ---- what `of_decimal` makes of it

pub read_in_range : (ty : Ty) (w : ℕ) (negative : Bool) (whole : ℕ) (digits : List ℕ) → IsWord ty w
    → IsNumberText (text_of ty w) negative whole digits → IsInRange ty (decimal_value ty negative whole digits)
read_in_range ty w negative whole digits h t =
    subst (IsInRange ty) (sym (read_again ty w negative whole digits h t).value) (value-in_range ty w h)

pub same_word : (ty : Ty) (v w : ℕ) → IsWord ty v → IsWord ty w → value_of ty v ≡ value_of ty w → v ≡ w
same_word ty v w g h e = sym (wrap-of-value ty v g) ∙ ap (wrap ty) e ∙ wrap-of-value ty w h
