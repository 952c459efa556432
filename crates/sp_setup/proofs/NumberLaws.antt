-- Number texts and their parts: each text has its parts, and bytes with parts are a text of them.
use Rattle.std.proofs.Common.{◌≡◌, ℕ, zero, suc, ◌+◌, ◌-◌, ◌<◌, ◌≤◌, ◌&&◌, ◌==◌, nat_le, Bool, true, false, cond, List, [], ◌∷◌, ◌++◌, length, take, drop, Option, Some, None, option_map, if◌then◌else◌, append_assoc, refl, sym, subst, ap, ◌∙◌, arith}
use Rattle.std.proofs.Math.Seq.{take-append_seam, drop-append_seam}
use Rattle.std.specs.List.{list_all, prefix_len}
use Rattle.std.proofs.lemmas.Bool.{and_parts}
use Rattle.std.proofs.lemmas.Bool.Decides.{nat_tests}
use Rattle.std.proofs.lemmas.List.{length-map, take-append-drop}
use Rattle.std.proofs.lemmas.List.Folds.{length-prefix_len}
use Rattle.std.proofs.lemmas.List.Sums.{list_all-from_AllPass}
use Rattle.std.proofs.lemmas.List.Elements.{All-map}
use Rattle.sp_words.specs.Decimal.{AreDigits, digits_number, with_point}
use Rattle.sp_words.specs.NumberText.{digit_bytes, sign_bytes, IsNumberText}
use Rattle.sp_setup.specs.Number.{is_digit, digits_of, are_digits, NumberParts, fraction_part, unsigned_parts, number_parts, HasParts}
use Rattle.sp_setup.proofs.NumberLemmas.{AreDigits-digits_of}

byte_of : (b : ℕ) → is_digit b ≡ true → 48 + (b - 48) ≡ b
byte_of b h = grind (arith, nat_tests)

written : (bytes : List ℕ) → list_all is_digit bytes ≡ true → digit_bytes (digits_of bytes) ≡ bytes
written [] h = refl
written (b ∷ bytes) h =
    let parts = and_parts (is_digit b) (list_all is_digit bytes) h in
    let here = byte_of b parts.0 in
    let rest = written bytes parts.1 in
    (λ i. here i ∷ rest i)

-- the digits at the front
front : (t : Bool) (b : ℕ) (bytes : List ℕ) → is_digit b ≡ t → list_all is_digit (take (prefix_len is_digit bytes) bytes) ≡ true
    → list_all is_digit (take (cond t (1 + prefix_len is_digit bytes) 0) (b ∷ bytes)) ≡ true
front false b bytes h rest = refl
front true b bytes h rest =
    let e : 1 + prefix_len is_digit bytes ≡ suc (prefix_len is_digit bytes) = omega arith in
    rw (e, h, rest)

front_digits : (bytes : List ℕ) → list_all is_digit (take (prefix_len is_digit bytes) bytes) ≡ true
front_digits [] = refl
front_digits (b ∷ bytes) = front (is_digit b) b bytes refl (front_digits bytes)

point : (c : ℕ) (bytes ds : List ℕ) (t : Bool) → ((c == 46) && are_digits bytes) ≡ t → (if t then Some (digits_of bytes) else None) ≡ Some ds → (c ∷ bytes ≡ with_point ds) × AreDigits ds
point c bytes ds false h e = absurd (cc)
point c [] ds true h e =
    let parts = and_parts (c == 46) (are_digits []) h in
    let none : false ≡ true = parts.1 in absurd (cc)
point c (b ∷ bytes) ds true h e =
    let parts = and_parts (c == 46) (are_digits (b ∷ bytes)) h in
    let all = (and_parts (nat_le 1 (length (b ∷ bytes))) (list_all is_digit (b ∷ bytes)) parts.1).1 in
    let dot : c ≡ 46 = grind (arith, nat_tests, parts.0) in
    let text : b ∷ bytes ≡ digit_bytes (digits_of (b ∷ bytes)) = sym (written (b ∷ bytes) all) in
    let same : digits_of (b ∷ bytes) ≡ ds = cc in
    let P : List ℕ → Type 0 = λ ds. (c ∷ b ∷ bytes ≡ with_point ds) × AreDigits ds in
    subst P same ((λ i. dot i ∷ text i), AreDigits-digits_of (b ∷ bytes) all)

no_digits : AreDigits []
no_digits k d h = absurd (omega arith)

fraction_is : (bytes ds : List ℕ) → fraction_part bytes ≡ Some ds → (bytes ≡ with_point ds) × AreDigits ds
fraction_is [] ds e =
    let same : [] ≡ ds = cc in
    let P : List ℕ → Type 0 = λ ds. ([] ≡ with_point ds) × AreDigits ds in
    subst P same (refl, no_digits)
fraction_is (c ∷ bytes) ds e = point c bytes ds ((c == 46) && are_digits bytes) refl e

-- the parts of a text after its sign
record IsUnsigned (negative : Bool) (bytes : List ℕ) (parts : NumberParts) : Type 0 where
  sign : parts.negative ≡ negative
  some : 1 ≤ length parts.whole
  whole : AreDigits parts.whole
  fraction : AreDigits parts.fraction
  text : bytes ≡ digit_bytes parts.whole ++ with_point parts.fraction

unsigned : (negative : Bool) (bytes : List ℕ) (parts : NumberParts) (k : ℕ) (found : Option (List ℕ)) → k ≡ prefix_len is_digit bytes → fraction_part (drop k bytes) ≡ found
    → (if k == 0 then None else option_map (λ digits. record { negative = negative; whole = digits_of (take k bytes); fraction = digits }) found) ≡ Some parts
    → IsUnsigned negative bytes parts
unsigned negative bytes parts zero found p f e = absurd (cc)
unsigned negative bytes parts (suc k) None p f e =
    let some : (suc k == 0) ≡ false = grind (arith, nat_tests) in
    let none = rw some at e in
    absurd (cc)
unsigned negative bytes parts (suc k) (Some ds) p f e =
    let made : NumberParts = record { negative = negative; whole = digits_of (take (suc k) bytes); fraction = ds } in
    let some : (suc k == 0) ≡ false = grind (arith, nat_tests) in
    let found : Some made ≡ Some parts = rw some at e in
    let same : made ≡ parts = cc in
    let all : list_all is_digit (take (suc k) bytes) ≡ true = rw p (front_digits bytes) in
    let long : length (take (suc k) bytes) ≡ suc k = rw p (length-prefix_len is_digit bytes) in
    let count = length-map (take (suc k) bytes) (λ byte. byte - 48) in
    let rest = fraction_is (drop (suc k) bytes) ds f in
    let P : NumberParts → Type 0 = IsUnsigned negative bytes in
    subst P same (record {
      sign = refl;
      some = omega (arith, count, long);
      whole = AreDigits-digits_of (take (suc k) bytes) all;
      fraction = rest.1;
      text = sym (take-append-drop (suc k) bytes) ∙ ap (λ front. front ++ drop (suc k) bytes) (sym (written (take (suc k) bytes) all))
          ∙ ap (λ back. digit_bytes (digits_of (take (suc k) bytes)) ++ back) rest.0;
    })

signed : (negative : Bool) (bytes all : List ℕ) (parts : NumberParts) → all ≡ sign_bytes negative ++ bytes → unsigned_parts negative bytes ≡ Some parts
    → IsNumberText all parts.negative (digits_number parts.whole) parts.fraction
signed negative bytes all parts e h =
    let is = unsigned negative bytes parts (prefix_len is_digit bytes) (fraction_part (drop (prefix_len is_digit bytes) bytes)) refl refl h in
    record {
      before = parts.whole;
      some = is.some;
      are_digits = (is.whole, is.fraction);
      number = refl;
      written = e ∙ ap (λ text. sign_bytes negative ++ text) is.text
          ∙ sym (append_assoc (sign_bytes negative) (digit_bytes parts.whole) (with_point parts.fraction))
          ∙ ap (λ sign. sign_bytes sign ++ digit_bytes parts.whole ++ with_point parts.fraction) (sym is.sign);
    }

pick : (t : Bool) (c : ℕ) (bytes : List ℕ) (parts : NumberParts) → (c == 45) ≡ t → (if t then unsigned_parts true bytes else unsigned_parts false (c ∷ bytes)) ≡ Some parts
    → IsNumberText (c ∷ bytes) parts.negative (digits_number parts.whole) parts.fraction
pick true c bytes parts h e =
    let minus : c ≡ 45 = grind (arith, nat_tests, h) in
    signed true bytes (c ∷ bytes) parts (λ i. minus i ∷ bytes) e
pick false c bytes parts h e = signed false (c ∷ bytes) (c ∷ bytes) parts refl e

pub parts_are_texts : (bytes : List ℕ) (parts : NumberParts) → number_parts bytes ≡ Some parts → IsNumberText bytes parts.negative (digits_number parts.whole) parts.fraction
parts_are_texts [] parts e = absurd (cc)
parts_are_texts (c ∷ bytes) parts e = pick (c == 45) c bytes parts refl e

-- ---- from a text to its parts

yes_digit : (d : ℕ) → d < 10 → is_digit (48 + d) ≡ true
yes_digit d h = grind (arith, nat_tests)

are_written : (ds : List ℕ) → AreDigits ds → list_all is_digit (digit_bytes ds) ≡ true
are_written ds are = list_all-from_AllPass is_digit (digit_bytes ds) (All-map (λ byte. is_digit byte ≡ true) (λ digit. 48 + digit) ds (λ k d h. yes_digit _ (are k d h)))

read : (ds : List ℕ) → digits_of (digit_bytes ds) ≡ ds
read [] = refl
read (d ∷ ds) =
    let here : 48 + d - 48 ≡ d = omega arith in
    let rest = read ds in
    (λ i. here i ∷ rest i)

prefix_all : (xs rest : List ℕ) → list_all is_digit xs ≡ true → prefix_len is_digit rest ≡ 0 → prefix_len is_digit (xs ++ rest) ≡ length xs
prefix_all [] rest all none = none
prefix_all (x ∷ xs) rest all none =
    let parts = and_parts (is_digit x) (list_all is_digit xs) all in
    rw (parts.0, prefix_all xs rest parts.1 none) (omega arith)

no_prefix : (ds : List ℕ) → prefix_len is_digit (with_point ds) ≡ 0
no_prefix [] = refl
no_prefix (d ∷ ds) = refl

fraction_of : (ds : List ℕ) → AreDigits ds → fraction_part (with_point ds) ≡ Some ds
fraction_of [] are = refl
fraction_of (d ∷ ds) are =
    let some : nat_le 1 (length (digit_bytes (d ∷ ds))) ≡ true = grind (arith, nat_tests) in
    rw (some, are_written (d ∷ ds) are, read (d ∷ ds))

unsigned_of : (negative : Bool) (before ds : List ℕ) → 1 ≤ length before → AreDigits before → AreDigits ds
    → unsigned_parts negative (digit_bytes before ++ with_point ds) ≡ Some (record { negative = negative; whole = before; fraction = ds })
unsigned_of negative before ds some are digits =
    let count : prefix_len is_digit (digit_bytes before ++ with_point ds) ≡ length (digit_bytes before) = prefix_all (digit_bytes before) (with_point ds) (are_written before are) (no_prefix ds) in
    let long = length-map before (λ digit. 48 + digit) in
    let nonzero : (length (digit_bytes before) == 0) ≡ false = grind (arith, nat_tests, long) in
    rw (count, nonzero, take-append_seam (digit_bytes before) (with_point ds), drop-append_seam (digit_bytes before) (with_point ds), fraction_of ds digits, read before)

signed_of : (negative : Bool) (before ds : List ℕ) → 1 ≤ length before → AreDigits before → AreDigits ds
    → number_parts (sign_bytes negative ++ digit_bytes before ++ with_point ds) ≡ Some (record { negative = negative; whole = before; fraction = ds })
signed_of true before ds some are digits = unsigned_of true before ds some are digits
signed_of false [] ds some are digits = absurd (omega arith)
signed_of false (x ∷ xs) ds some are digits =
    let no_minus : (48 + x == 45) ≡ false = grind (arith, nat_tests) in
    rw no_minus (unsigned_of false (x ∷ xs) ds some are digits)

pub texts_have_parts : (bytes : List ℕ) (negative : Bool) (whole : ℕ) (fraction : List ℕ) → IsNumberText bytes negative whole fraction → HasParts bytes negative whole fraction
texts_have_parts bytes negative whole fraction is = record {
  parts = record { negative = negative; whole = is.before; fraction = fraction };
  found = ap number_parts is.written ∙ signed_of negative is.before fraction is.some is.are_digits.0 is.are_digits.1;
  sign = refl;
  number = is.number;
  digits = refl;
}
