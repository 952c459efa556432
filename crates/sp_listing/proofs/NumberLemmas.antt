-- Numbers, as they are written and read.
use Rattle.std.proofs.Common.{◌≡◌, ◌≢◌, ℕ, ◌<◌, ◌≤◌, ◌^◌, ◌*◌, ◌%◌, List, [], ◌∷◌, length, get_or, sym, ◌∙◌, ap, arith, decimal, inl, inr, lit<}
use Rattle.std.proofs.Math.Nat.{pow-le-pow_right}
use Rattle.std.specs.Int.{IsInRange}
use Rattle.sp_netlist.specs.Rules.{IsWidth, IsLength}
use Rattle.std.specs.Str.Parse.{AllDigits, digits_value, without_leading_plus, IsNumeral}
use Rattle.std.proofs.lemmas.Bool.{cases_lt}
use Rattle.std.proofs.lemmas.Fmt.{digits_decimal, decimal_nonempty, first_decimal, decimal_digit, decimal-digits_value, decimal_injective}
use Rattle.std.proofs.lemmas.Str.Parse.{tells_by_index, tells_digits, numerals_by_value, without_leading_plus_none}

first_digit : (n : ℕ) → n < 2 ^ 64 → IsInRange 48 57 (get_or (decimal n) 0 0)
first_digit n small =
    digits_decimal (numerals_by_value (λ ds. (i : ℕ) → i < length ds → IsInRange 48 57 (get_or ds i 0)) tells_by_index) n small 0 (decimal_nonempty n small)

pub no_sign : (word : List ℕ) → get_or word 0 0 ≡ 43 → (n : ℕ) → n < 2 ^ 64 → word ≡ decimal n → ⊥
no_sign word plus n small same =
    let d = first_digit n small in
    let at : get_or word 0 0 ≡ get_or (decimal n) 0 0 = ap (λ w. get_or w 0 0) same in
    omega arith

pub no_leading_zero : (word : List ℕ) → get_or word 0 0 ≡ 48 → 1 < length word → (n : ℕ) → n < 2 ^ 64 → word ≡ decimal n → ⊥
no_leading_zero word none long n small same =
    elim (cases_lt 0 n) [
      | inl above ↦
          let d = first_decimal n above small in
          let at : get_or word 0 0 ≡ get_or (decimal n) 0 0 = ap (λ w. get_or w 0 0) same in
          omega arith
      | inr least ↦
          let nothing : n ≡ 0 = omega arith in
          let zero_text : word ≡ 48 ∷ [] = same ∙ ap decimal nothing ∙ decimal_digit 0 (omega arith) in
          let short : length word ≡ 1 = ap length zero_text in
          omega arith
    ]

pub number_read : (word : List ℕ) (n : ℕ) → get_or word 0 0 ≢ 43 → (get_or word 0 0 ≡ 48 → length word ≤ 1)
    → (IsNumeral 10 (without_leading_plus word) × (digits_value 10 (without_leading_plus word) < 2 ^ 64)) × (n ≡ digits_value 10 (without_leading_plus word)) → word ≡ decimal n
number_read word n unsigned plain ((numeral, fits), is) =
    let same = without_leading_plus_none word unsigned in
    let whole : IsNumeral 10 word = rw same at numeral in
    let value : n ≡ digits_value 10 word = rw same at is in
    let small : digits_value 10 word < 2 ^ 64 = rw same at fits in
    let one : get_or word 0 0 ≡ 48 → length word ≡ 1 = λ nought. let most = plain nought in let some = whole.0 in omega arith in
    sym (decimal-digits_value (numerals_by_value (AllDigits 10) tells_digits) word whole.1 whole.0 one small) ∙ ap decimal (sym value)

-- a word is at most one number
pub same_number : (word : List ℕ) (m n : ℕ) → m < 2 ^ 64 → n < 2 ^ 64 → word ≡ decimal m → word ≡ decimal n → m ≡ n
same_number word m n first second e f = decimal_injective m n first second (sym e ∙ f)

-- a word of any width is below 2^64
pub below_word : (width n : ℕ) → width ≤ 64 → n < 2 ^ width → n < 2 ^ 64
below_word width n narrow small = let p : 2 ^ width ≤ 2 ^ 64 = pow-le-pow_right {n = 2} (lit< tt) narrow in omega arith

-- a bit that is moved left by a width stays where the machine's number has 128
pub not_below : (width n : ℕ) → width ≤ 64 → n < 2 ^ width → (1 * 2 ^ width) % 2 ^ 128 ≤ n → ⊥
not_below width n narrow small above = let p : 2 ^ width ≤ 2 ^ 64 = pow-le-pow_right {n = 2} (lit< tt) narrow in omega arith

-- numbers in their ranges are below 2^64
pub width_small : (width : ℕ) → IsWidth width → width < 2 ^ 64
width_small width (least, most) = omega arith

pub dram_small : (n : ℕ) → n < 2 ^ 32 → n < 2 ^ 64
dram_small n h = omega arith

pub length_small : (n : ℕ) → IsLength n → n < 2 ^ 64
length_small n (least, most) = omega arith

pub places_small : (n : ℕ) → n < 64 → n < 2 ^ 64
places_small n h = omega arith

pub bits_small : (n : ℕ) → n ≤ 64 → n < 2 ^ 64
bits_small n h = omega arith

pub word_fits : (width other n : ℕ) → width ≡ other → n < 2 ^ other → n < 2 ^ width
word_fits width other n e small = rw e small
