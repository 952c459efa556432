-- Numbers at the front of a text, and what they spell.
use Rattle.std.proofs.Common.{◌≡◌, ℕ, zero, suc, ◌+◌, ◌*◌, ◌/◌, ◌%◌, ◌^◌, ◌<◌, ◌≤◌, ◌==◌, Bool, true, false, not, ◌&&◌, nat_le, nat_lt, eqb-true, if◌then◌else◌, List, [], ◌∷◌, ◌++◌, length, map, drop, slice_index, Some, decimal, option_and_then, refl, sym, ap, ◌∙◌, append_assoc, length-append, le-mul_of_pos_right, mod-lt, arith}
use Rattle.std.specs.Char.{is_ascii_digit, is_ascii_hexdigit}
use Rattle.std.specs.List.{list_all, prefix_len}
use Rattle.std.proofs.Math.Nat.{pow-succ'}
use Rattle.std.proofs.lemmas.Fmt.{decimal_by_steps_wide}
use Rattle.std.proofs.lemmas.List.{map-append}
use Rattle.std.proofs.lemmas.List.Elements.{All-append, All-head, All-tail}
use Rattle.sp_words.specs.Decimal.{AreDigits, digits_number, with_point}
use Rattle.sp_words.specs.NumberText.{digit_bytes}
use Rattle.sp_reader.specs.Classes.{is_in, past}
use Rattle.sp_reader.specs.declared.class.Class.TheVariants.{Digit, Word, Whole}
use Rattle.sp_reader.specs.declared.scan.Piece.TheVariants as piece
use Rattle.sp_reader.specs.declared.token.TokenKind.TheVariants as k
use Rattle.sp_reader.specs.Numbers.{digit, with_digit, number_from, point, after_point, fraction, is_hex, whole, has_point, fraction_digits, width, at_most_64}
use Rattle.sp_reader.specs.Steps.{Text}
use Rattle.sp_reader.specs.Tokens.{front, a_number, number_end, an_underscore}
use Rattle.sp_scanned.specs.From.{Fronts, stops}
use Rattle.sp_scanned.proofs.Steps.{drop_past, take_past}
use Rattle.sp_scanned.proofs.Words.{both_left, both_right, not_true, StopsAt, stops_at, runs}

-- ---- digits

pub digits_head : (d : ℕ) (ds : List ℕ) → AreDigits (d ∷ ds) → d < 10
digits_head d ds h = All-head (λ x. x < 10) d ds h

pub digits_tail : (d : ℕ) (ds : List ℕ) → AreDigits (d ∷ ds) → AreDigits ds
digits_tail d ds h = All-tail (λ x. x < 10) d ds h

digit_class : (d : ℕ) → d < 10 → (is_ascii_digit (48 + d) ≡ true) × (is_in Whole (48 + d) ≡ true)
digit_class d h = (grind arith, grind arith)

digit_run : (ds : List ℕ) → AreDigits ds → list_all is_ascii_digit (digit_bytes ds) ≡ true
digit_run [] h = refl
digit_run (d ∷ ds) h = rw ((digit_class d (digits_head d ds h)).0, digit_run ds (digits_tail d ds h)) refl

whole_run : (ds : List ℕ) → AreDigits ds → list_all (is_in Whole) (digit_bytes ds) ≡ true
whole_run [] h = refl
whole_run (d ∷ ds) h = rw ((digit_class d (digits_head d ds h)).1, whole_run ds (digits_tail d ds h)) refl

byte_length : (ds : List ℕ) → length (digit_bytes ds) ≡ length ds
byte_length [] = refl
byte_length (d ∷ ds) = ap (λ n. suc n) (byte_length ds)

no_digit : (b : ℕ) → is_in Word b ≡ false → is_ascii_digit b ≡ false
no_digit b e = go (is_ascii_digit b) refl
  where
    go : (a : Bool) → is_ascii_digit b ≡ a → a ≡ false
    go false is = refl
    go true is = let bad : true ≡ false = sym (rw is refl) ∙ e in absurd (cc)

no_x : (b : ℕ) → is_in Word b ≡ false → (b == 120) ≡ false
no_x b e = go (b == 120) refl
  where
    go : (a : Bool) → (b == 120) ≡ a → a ≡ false
    go false is = refl
    go true is = let same : b ≡ 120 = eqb-true b 120 is in let bad : true ≡ false = ap (is_in Word) (sym same) ∙ e in absurd (cc)

-- ---- places in a text

at_past : (xs ys : Text) (n : ℕ) → slice_index (xs ++ ys) (length xs + n) ≡ slice_index ys n
at_past [] ys n = ap (slice_index ys) (omega arith)
at_past (x ∷ xs) ys n = let e : suc (length xs) + n ≡ suc (length xs + n) = omega arith in ap (slice_index (x ∷ (xs ++ ys))) e ∙ at_past xs ys n

drop_more : (xs ys : Text) (b : ℕ) → drop (length xs + 1) (xs ++ b ∷ ys) ≡ ys
drop_more [] ys b = refl
drop_more (x ∷ xs) ys b = let e : suc (length xs) + 1 ≡ suc (length xs + 1) = omega arith in ap (λ n. drop n (x ∷ (xs ++ b ∷ ys))) e ∙ drop_more xs ys b

-- ---- numbers at the front

second : (before : List ℕ) (tail : Text) → 1 ≤ length before → AreDigits before → (slice_index tail 0 == 120) ≡ false → (slice_index (digit_bytes before ++ tail) 1 == 120) ≡ false
second [] tail some h e = absurd (omega (arith, some))
second (d ∷ []) tail some h e = e
second (d ∷ c ∷ ds) tail some h e = let low = digits_head c ds (digits_tail d (c ∷ ds) h) in grind arith

middle : (a b c : Bool) → b ≡ false → (a && b && c) ≡ false
middle true b c e = rw e refl
middle false b c e = refl

by_digit : (d : ℕ) (z : Text) → d < 10 → front ((48 + d) ∷ z) ≡ a_number ((48 + d) ∷ z)
unfolding front
by_digit d z h =
    let a : ((48 + d) == 32) ≡ false = grind arith in
    let b : ((48 + d) == 9) ≡ false = grind arith in
    let c : ((48 + d) == 13) ≡ false = grind arith in
    let e : ((48 + d) == 10) ≡ false = grind arith in
    let f : ((48 + d) == 47) ≡ false = grind arith in
    let g : (nat_le 65 (48 + d) && nat_le (48 + d) 90) ≡ false = grind arith in
    let i : (nat_le 97 (48 + d) && nat_le (48 + d) 122) ≡ false = grind arith in
    rw (a, b, c, e, f, g, i, (digit_class d h).0) refl

-- a text of digits and what may follow a point
ends_at : (rest : Text) → stops rest ≡ true → (is_in Word (slice_index rest 0) ≡ false) × ((slice_index rest 0 == 46 && is_ascii_digit (slice_index rest 1)) ≡ false)
ends_at rest stop =
    let a = is_in Word (slice_index rest 0) in
    let b = slice_index rest 0 == 46 && is_ascii_digit (slice_index rest 1) in
    (not_true a (both_left (not a) (not b) stop), not_true b (both_right (not a) (not b) stop))

tail_digit : (ds : List ℕ) (rest : Text) → is_in Word (slice_index rest 0) ≡ false → StopsAt is_ascii_digit (with_point ds ++ rest)
tail_digit [] rest e = stops_at is_ascii_digit rest (no_digit (slice_index rest 0) e)
tail_digit (d ∷ ds) rest e = refl

tail_x : (ds : List ℕ) (rest : Text) → is_in Word (slice_index rest 0) ≡ false → (slice_index (with_point ds ++ rest) 0 == 120) ≡ false
tail_x [] rest e = no_x (slice_index rest 0) e
tail_x (d ∷ ds) rest e = refl

-- where a number ends, behind digits
end_by : (text : Text) (n : ℕ) → past Digit text 0 ≡ n → number_end text ≡ (if slice_index text n == 46 && is_ascii_digit (slice_index text (n + 1)) then past Digit text (n + 1) else n)
end_by text n e = rw e refl

ends_before : (bytes rest : Text) → past Digit (bytes ++ rest) 0 ≡ length bytes → (slice_index rest 0 == 46 && is_ascii_digit (slice_index rest 1)) ≡ false → number_end (bytes ++ rest) ≡ length bytes
ends_before bytes rest run stop =
    let first : slice_index (bytes ++ rest) (length bytes) ≡ slice_index rest 0 = ap (slice_index (bytes ++ rest)) (omega arith) ∙ at_past bytes rest 0 in
    let next : slice_index (bytes ++ rest) (length bytes + 1) ≡ slice_index rest 1 = at_past bytes rest 1 in
    end_by (bytes ++ rest) (length bytes) run ∙ rw (first, next, stop) refl

ends_after : (bytes : Text) (d : ℕ) (ds : List ℕ) (rest : Text) → past Digit (bytes ++ (with_point (d ∷ ds) ++ rest)) 0 ≡ length bytes → AreDigits (d ∷ ds) → is_in Word (slice_index rest 0) ≡ false
    → number_end (bytes ++ (with_point (d ∷ ds) ++ rest)) ≡ length bytes + length (with_point (d ∷ ds))
ends_after bytes d ds rest run h stop =
    let tail = digit_bytes (d ∷ ds) ++ rest in
    let text = bytes ++ (46 ∷ tail) in
    let first : slice_index text (length bytes) ≡ 46 = ap (slice_index text) (omega arith) ∙ at_past bytes (46 ∷ tail) 0 in
    let next : slice_index text (length bytes + 1) ≡ 48 + d = at_past bytes (46 ∷ tail) 1 in
    let digit_next : is_ascii_digit (48 + d) ≡ true = (digit_class d (digits_head d ds h)).0 in
    let more : prefix_len is_ascii_digit (drop (length bytes + 1) text) ≡ length (digit_bytes (d ∷ ds)) =
    ap (prefix_len is_ascii_digit) (drop_more bytes tail 46) ∙ runs is_ascii_digit (digit_bytes (d ∷ ds)) rest (digit_run (d ∷ ds) h) (stops_at is_ascii_digit rest (no_digit (slice_index rest 0) stop)) in
    end_by text (length bytes) run ∙ rw (first, next, digit_next) (omega (arith, more))

tail_ends : (before : List ℕ) (ds : List ℕ) (rest : Text) → past Digit (digit_bytes before ++ (with_point ds ++ rest)) 0 ≡ length (digit_bytes before) → AreDigits ds → stops rest ≡ true
    → number_end (digit_bytes before ++ (with_point ds ++ rest)) ≡ length (digit_bytes before) + length (with_point ds)
tail_ends before [] rest run h stop = ends_before (digit_bytes before) rest run (ends_at rest stop).1 ∙ omega arith
tail_ends before (d ∷ ds) rest run h stop = ends_after (digit_bytes before) d ds rest run h (ends_at rest stop).0

number_token : (text : Text) (n : ℕ) → (slice_index text 1 == 120) ≡ false → number_end text ≡ n → a_number text ≡ piece.Token k.Number n
number_token text n no_hex e = rw (middle (slice_index text 0 == 48) (slice_index text 1 == 120) (is_ascii_hexdigit (slice_index text 2)) no_hex, e) refl

first_number : (before : List ℕ) (tail : Text) → 1 ≤ length before → AreDigits before → front (digit_bytes before ++ tail) ≡ a_number (digit_bytes before ++ tail)
first_number [] tail some h = absurd (omega (arith, some))
first_number (d ∷ ds) tail some h = by_digit d (digit_bytes ds ++ tail) (digits_head d ds h)

pub number_front : (before ds : List ℕ) (rest : Text) → 1 ≤ length before → AreDigits before → AreDigits ds → stops rest ≡ true
    → Fronts k.Number (digit_bytes before ++ with_point ds) rest
number_front before ds rest some h g stop =
    let tail = with_point ds ++ rest in
    let text = digit_bytes before ++ tail in
    let whole_text : (digit_bytes before ++ with_point ds) ++ rest ≡ text = append_assoc (digit_bytes before) (with_point ds) rest in
    let word_end = (ends_at rest stop).0 in
    let run : past Digit text 0 ≡ length (digit_bytes before) = omega (arith, runs is_ascii_digit (digit_bytes before) tail (digit_run before h) (tail_digit ds rest word_end)) in
    let long : length (digit_bytes before) + length (with_point ds) ≡ length (digit_bytes before ++ with_point ds) = sym (length-append (digit_bytes before) (with_point ds)) in
    record {
      some = omega (arith, some, byte_length before, length-append (digit_bytes before) (with_point ds));
      is = ap front whole_text ∙ first_number before tail some h
          ∙ number_token text (length (digit_bytes before) + length (with_point ds)) (second before tail some h (tail_x ds rest word_end)) (tail_ends before ds rest run g stop)
          ∙ ap (λ n. piece.Token k.Number n) long;
    }

-- ---- widths

width_text : (text : Text) → front (95 ∷ text) ≡ an_underscore (95 ∷ text)
unfolding front
width_text text = refl

width_token : (text : Text) (n : ℕ) → past Digit text 1 ≡ suc (suc n) → an_underscore text ≡ piece.Token k.Width (suc (suc n))
width_token text n e = let no : (suc (suc n) == 1) ≡ false = grind arith in rw (e, no) refl

pub width_front : (ds : List ℕ) (rest : Text) → 1 ≤ length ds → AreDigits ds → is_in Word (slice_index rest 0) ≡ false → Fronts k.Width (95 ∷ digit_bytes ds) rest
width_front [] rest some h stop = absurd (omega (arith, some))
width_front (d ∷ ds) rest some h stop =
    let bytes = digit_bytes (d ∷ ds) in
    let run : past Digit (95 ∷ (bytes ++ rest)) 1 ≡ suc (suc (length (digit_bytes ds))) =
    omega (arith, runs is_ascii_digit bytes rest (digit_run (d ∷ ds) h) (stops_at is_ascii_digit rest (no_digit (slice_index rest 0) stop))) in
    record { some = omega arith; is = width_text (bytes ++ rest) ∙ width_token (95 ∷ (bytes ++ rest)) (length (digit_bytes ds)) run }

-- ---- what is spelled

digit_of : (d : ℕ) → d < 10 → digit (48 + d) ≡ d
unfolding digit
digit_of d h = let a : nat_le 48 (48 + d) ≡ true = grind arith in let b : nat_le (48 + d) 57 ≡ true = grind arith in rw (a, b) (omega arith)

digits_of : (ds : List ℕ) → AreDigits ds → map digit (digit_bytes ds) ≡ ds
digits_of [] h = refl
digits_of (d ∷ ds) h = let a = digit_of d (digits_head d ds h) in let b = digits_of ds (digits_tail d ds h) in λ i. a i ∷ b i

power_pos : (n : ℕ) → 0 < 10 ^ n
power_pos zero = omega arith
power_pos (suc n) = let more = pow-succ' 10 n in omega (arith, power_pos n, more)

one_more : (v d : ℕ) → d < 10 → v * 10 + d < 2 ^ 128 → with_digit 10 v (48 + d) ≡ Some (v * 10 + d)
unfolding with_digit
one_more v d h low = let fits : nat_lt (v * 10 + d) (2 ^ 128) ≡ true = grind arith in rw (digit_of d h, fits) refl

pub spelled_from : (ds : List ℕ) (v : ℕ) → AreDigits ds → v * 10 ^ length ds + digits_number ds < 2 ^ 128 → number_from 10 v (digit_bytes ds) ≡ Some (v * 10 ^ length ds + digits_number ds)
spelled_from [] v h low = ap (λ n. Some n) (omega arith)
spelled_from (d ∷ ds) v h low =
    let p = 10 ^ length ds in
    let power : 10 ^ length (d ∷ ds) ≡ 10 * p = pow-succ' 10 (length ds) in
    let there : v * 10 ^ length (d ∷ ds) ≡ v * 10 * p = ap (λ x. v * x) power ∙ omega arith in
    let total : v * 10 ^ length (d ∷ ds) + (d * p + digits_number ds) ≡ (v * 10 + d) * p + digits_number ds = omega (arith, there) in
    let some : 0 < p = power_pos (length ds) in
    let here : v * 10 + d ≤ (v * 10 + d) * p = le-mul_of_pos_right (v * 10 + d) some in
    let small : v * 10 + d < 2 ^ 128 = omega (arith, low, total, here) in
    let rest = spelled_from ds (v * 10 + d) (digits_tail d ds h) (omega (arith, low, total)) in
    ap (option_and_then (λ more. number_from 10 more (digit_bytes ds))) (one_more v d (digits_head d ds h) small) ∙ rest ∙ ap (λ n. Some n) (sym total)

-- a text of digits before a point and behind it
module _ (before ds : List ℕ) (h : AreDigits before) (g : AreDigits ds) where
  abbrev written : Text
  written = digit_bytes before ++ with_point ds

  stops_whole : (ds : List ℕ) → StopsAt (is_in Whole) (with_point ds)
  stops_whole [] = tt
  stops_whole (d ∷ ds) = refl

  point_at : point written ≡ length (digit_bytes before)
  point_at = omega (arith, runs (is_in Whole) (digit_bytes before) (with_point ds) (whole_run before h) (stops_whole ds))

  behind : (ds : List ℕ) → after_point (with_point ds) ≡ digit_bytes ds
  behind [] = refl
  behind (d ∷ ds) = refl

  pub fraction_is : fraction written ≡ digit_bytes ds
  unfolding fraction
  fraction_is = rw (point_at, drop_past (digit_bytes before) (with_point ds)) (behind ds)

  pub digits_are : fraction_digits written ≡ ds
  digits_are = ap (map digit) fraction_is ∙ digits_of ds g

  pub whole_is : 1 ≤ length before → digits_number before < 2 ^ 128 → whole written ≡ Some (digits_number before)
  unfolding whole
  whole_is some low =
      let no_hex : is_hex written ≡ false = by_second (slice_index written 0 == 48) (slice_index written 1 == 120) (second before (with_point ds) some h (no_x_behind ds)) in
      let value = spelled_from before 0 h (omega (arith, low)) in
      rw (no_hex, point_at, take_past (digit_bytes before) (with_point ds)) (value ∙ ap (λ n. Some n) (omega arith))
    where
      no_x_behind : (ds : List ℕ) → (slice_index (with_point ds) 0 == 120) ≡ false
      no_x_behind [] = refl
      no_x_behind (d ∷ ds) = refl

      by_second : (a b : Bool) → b ≡ false → (a && b) ≡ false
      by_second true b e = e
      by_second false b e = refl

pub no_point : (before : List ℕ) → AreDigits before → has_point (digit_bytes before ++ with_point []) ≡ false
unfolding has_point
no_point before h = ap (λ (t : Text). nat_lt 0 (length t)) (fraction_is before [] h (λ k d b. absurd (omega (arith, b))))

pub width_is : (ds : List ℕ) → AreDigits ds → digits_number ds ≤ 64 → width (95 ∷ digit_bytes ds) ≡ digits_number ds
unfolding width
width_is ds h low =
    let value = spelled_from ds 0 h (omega (arith, low)) in
    let few : nat_le (0 * 10 ^ length ds + digits_number ds) 64 ≡ true = grind arith in
    ap at_most_64 value ∙ rw few (omega arith)

-- ---- decimal numbers

digits_number-push : (ds : List ℕ) (d : ℕ) → digits_number (ds ++ (d ∷ [])) ≡ digits_number ds * 10 + d
digits_number-push [] d = omega arith
digits_number-push (x ∷ ds) d =
    let long : length (ds ++ (d ∷ [])) ≡ suc (length ds) = omega (arith, length-append ds (d ∷ [])) in
    let power : 10 ^ length (ds ++ (d ∷ [])) ≡ 10 * 10 ^ length ds = ap (λ k. 10 ^ k) long ∙ pow-succ' 10 (length ds) in
    let inner : digits_number (ds ++ (d ∷ [])) ≡ digits_number ds * 10 + d = digits_number-push ds d in
    ap (λ p. x * p + digits_number (ds ++ (d ∷ []))) power
    ∙ ap (λ n. x * (10 * 10 ^ length ds) + n) inner
    ∙ omega arith

-- bytes are the digits of a number, of which there is at least one
pub record HasDigits (number : ℕ) (bytes : List ℕ) : Type 0 where
  pub digits : List ℕ
  pub some : 1 ≤ length digits
  pub are_digits : AreDigits digits
  pub same : digits_number digits ≡ number
  pub written : bytes ≡ digit_bytes digits

one : (n : ℕ) → n < 10 → AreDigits (n ∷ [])
one n h zero d k = h
one n h (suc i) d k = absurd (omega arith)

one_digit : (n : ℕ) → n < 10 → HasDigits n ((48 + n) ∷ [])
one_digit n h = record { digits = n ∷ []; some = omega arith; are_digits = one n h; same = omega arith; written = refl }

more_digits : (n : ℕ) (bytes : List ℕ) → 10 ≤ n → HasDigits (n / 10) bytes → HasDigits n (bytes ++ ((48 + n % 10) ∷ []))
more_digits n bytes h front =
    let d = n % 10 in
    let last : d < 10 = mod-lt n (omega arith) in
    record {
      digits = front.digits ++ (d ∷ []);
      some = omega (arith, length-append front.digits (d ∷ []), front.some);
      are_digits = All-append (λ x. x < 10) front.digits (d ∷ []) front.are_digits (one d last);
      same = digits_number-push front.digits d ∙ omega (arith, front.same);
      written = ap (λ l. l ++ ((48 + d) ∷ [])) front.written ∙ sym (map-append (λ digit. 48 + digit) front.digits (d ∷ []));
    }

pub decimal_digits : (n : ℕ) → n < 10 ^ 64 → HasDigits n (decimal n)
decimal_digits = decimal_by_steps_wide HasDigits one_digit more_digits
