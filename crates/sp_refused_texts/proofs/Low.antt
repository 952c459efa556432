-- The last byte of a token that stands in a rule is ASCII, and so is that of a gap before a token.
use Rattle.std.proofs.Common.{◌≡◌, ◌∙◌, ℕ, zero, suc, ◌+◌, ◌-◌, ◌≤◌, ◌<◌, ◌==◌, ◌&&◌, Bool, true, false, nat_lt, nat_eq, min, List, [], ◌∷◌, length, drop, Option, Some, None, refl, sym, ap, subst, arith, if◌then◌else◌}
use Rattle.std.specs.Prelude.{slice_index}
use Rattle.std.specs.Char.{is_ascii_digit, is_ascii_hexdigit, is_ascii_alphabetic}
use Rattle.std.specs.List.{starts_with, prefix_len, list_all}
use Rattle.std.proofs.lemmas.List.{drop-drop, get_or-drop}
use Rattle.std.proofs.lemmas.List.Sums.{prefix_len_passes}
use Rattle.sp_reader.specs.declared.class.Class.{Class}
use Rattle.sp_reader.specs.declared.class.Class.TheVariants.{Digit, Hex, Word, Line}
use Rattle.sp_reader.specs.declared.scan.Piece.{Piece}
use Rattle.sp_reader.specs.declared.scan.Piece.TheVariants as piece
use Rattle.sp_reader.specs.declared.token.TokenKind.{TokenKind}
use Rattle.sp_reader.specs.declared.token.TokenKind.TheVariants as k
use Rattle.sp_reader.specs.Classes.{past, is_in}
use Rattle.sp_reader.specs.Steps.{Text}
use Rattle.sp_reader.specs.Tokens.{first_sign, signs, sign_of, number_end, a_number, an_underscore, comment_from, block_comment, a_slash, is_blank, front}
use Rattle.sp_refused_texts.proofs.Fronts.{NoLineEnd, front_by, is_written, has_point_at, end_is, is_hex_at, third, comment_past, both_left, both_right, seen_prefix}

-- the byte before a place is ASCII
abbrev pub IsLow : Text → ℕ → Type 0
IsLow text count = (m : ℕ) → count ≡ suc m → slice_index text m < 128

-- ---- runs

word_low : (b : ℕ) → is_in Word b ≡ true → b < 128
word_low b e = grind arith

hex_low : (b : ℕ) → is_in Hex b ≡ true → b < 128
hex_low b e = grind arith

digit_low : (b : ℕ) → is_in Digit b ≡ true → b < 128
digit_low b e = grind arith

run_low : (class : Class) → ((b : ℕ) → is_in class b ≡ true → b < 128) → (text : Text) (at : ℕ) → 1 ≤ prefix_len (is_in class) (drop at text) → IsLow text (past class text at)
run_low class low text at some m e =
    let passes = prefix_len_passes (is_in class) (drop at text) (prefix_len (is_in class) (drop at text) - 1) 0 (omega (arith, some)) in
    let here = low (slice_index (drop at text) (prefix_len (is_in class) (drop at text) - 1)) passes in
    let there = get_or-drop at text (prefix_len (is_in class) (drop at text) - 1) 0 in
    let same : at + (prefix_len (is_in class) (drop at text) - 1) ≡ m = omega (arith, e, some) in
    subst (λ b. b < 128) (there ∙ ap (slice_index text) same) here

-- behind a run stands nothing of its class
run_ends : (p : ℕ → Bool) (xs : Text) (c : ℕ) (w : Text) → drop (prefix_len p xs) xs ≡ c ∷ w → p c ≡ false
run_ends p [] c w e = absurd (cc)
run_ends p (x ∷ xs) c w e = go (p x) refl e (run_ends p xs c w)
  where
    go : (b : Bool) → p x ≡ b → drop (if b then 1 + prefix_len p xs else 0) (x ∷ xs) ≡ c ∷ w → (drop (prefix_len p xs) xs ≡ c ∷ w → p c ≡ false) → p c ≡ false
    go true is e more = let on : 1 + prefix_len p xs ≡ suc (prefix_len p xs) = omega arith in more (sym (ap (λ n. drop n (x ∷ xs)) on) ∙ e)
    go false is e more = let same : x ≡ c = cc in subst (λ y. p y ≡ false) same is

-- ---- comments

comment_last : (before : ℕ) (w : Text) (len : ℕ) → comment_from before w ≡ Some len → (m : ℕ) → len ≡ before + suc m → slice_index w m ≡ 47
comment_last before [] len is m e = absurd (cc)
comment_last before (b ∷ rest) len is m e = go (b == 42) (slice_index rest 0 == 47) refl is (comment_last (before + 1) rest len) m e
  where
    later : comment_from (before + 1) rest ≡ Some len → (comment_from (before + 1) rest ≡ Some len → (m : ℕ) → len ≡ before + 1 + suc m → slice_index rest m ≡ 47) → (m : ℕ) → len ≡ before + suc m → slice_index (b ∷ rest) m ≡ 47
    later is more zero e = absurd (comment_past (before + 1) rest len is (omega (arith, e)))
    later is more (suc m) e = more is m (omega (arith, e))

    go : (c d : Bool) → (slice_index rest 0 == 47) ≡ d → (if c && d then Some (before + 2) else comment_from (before + 1) rest) ≡ Some len
        → (comment_from (before + 1) rest ≡ Some len → (m : ℕ) → len ≡ before + 1 + suc m → slice_index rest m ≡ 47) → (m : ℕ) → len ≡ before + suc m → slice_index (b ∷ rest) m ≡ 47
    go true true closes is more m e =
        let same : before + 2 ≡ len = cc in
        let one : m ≡ 1 = omega (arith, same, e) in
        let last : slice_index rest 0 ≡ 47 = grind arith in
        ap (slice_index (b ∷ rest)) one ∙ last
    go true false closes is more m e = later is more m e
    go false d closes is more m e = later is more m e

-- ---- signs

abbrev low_sign : Text × TokenKind → Bool
low_sign entry = list_all (λ c. nat_lt c 128) entry.0

starts_low : (needle text : Text) → list_all (λ c. nat_lt c 128) needle ≡ true → starts_with nat_eq text needle ≡ true → IsLow text (length needle)
starts_low [] text all is m e = absurd (omega (arith, e))
starts_low (c ∷ needle) [] all is m e = absurd (cc)
starts_low (c ∷ needle) (x ∷ text) all is zero e =
    let first = both_left (nat_lt c 128) (list_all (λ d. nat_lt d 128) needle) all in
    let same = both_left (nat_eq c x) (starts_with nat_eq text needle) is in
    grind arith
starts_low (c ∷ needle) (x ∷ text) all is (suc m) e = starts_low needle text (both_right (nat_lt c 128) (list_all (λ d. nat_lt d 128) needle) all) (both_right (nat_eq c x) (starts_with nat_eq text needle) is) m (omega (arith, e))

signs_low : list_all low_sign signs ≡ true
signs_low = refl

one_low : (text : Text) → slice_index text 0 < 128 → IsLow text 1
one_low text low m e = let none : m ≡ 0 = omega (arith, e) in subst (λ n. slice_index text n < 128) (sym none) low

first_low : (table : List (Text × TokenKind)) (text : Text) → list_all low_sign table ≡ true → slice_index text 0 < 128 → IsLow text (first_sign table text).1
first_low [] text all low = one_low text low
first_low (s ∷ table) text all low = go (starts_with nat_eq text s.0) refl (first_low table text (both_right (low_sign s) (list_all low_sign table) all) low)
  where
    go : (b : Bool) → starts_with nat_eq text s.0 ≡ b → IsLow text (first_sign table text).1 → IsLow text (if◌then◌else◌ {A = TokenKind × ℕ} b (s.1, length s.0) (first_sign table text)).1
    go true is more = starts_low s.0 text (both_left (low_sign s) (list_all low_sign table) all) is
    go false is more = more

sign_low : (text : Text) → slice_index text 0 < 128 → IsLow text (sign_of text).1
unfolding sign_of
sign_low text low = first_low signs text signs_low low

-- ---- all of them

-- a piece that ends with an ASCII byte, where it is a token that stands in a rule, or a gap that a token stands behind
abbrev pub EndsLow : Text → Piece → Type 0
EndsLow text (piece.Gap len) = NoLineEnd (drop len text) → IsLow text len
EndsLow text (piece.Token kind len) = is_written kind ≡ true → IsLow text len
EndsLow text piece.Open = Unit {0}

line_low : (text : Text) (at : ℕ) → NoLineEnd (drop (past Line text at) text) → IsLow text (past Line text at)
line_low text at after m e = absurd (go (drop (prefix_len (is_in Line) (drop at text)) (drop at text)) refl)
  where
    same : drop (prefix_len (is_in Line) (drop at text)) (drop at text) ≡ drop (past Line text at) text
    same = drop-drop (prefix_len (is_in Line) (drop at text)) at text

    go : (w : Text) → drop (prefix_len (is_in Line) (drop at text)) (drop at text) ≡ w → ⊥
    go [] is = subst NoLineEnd (sym same ∙ is) after
    go (c ∷ w) is =
        let ends = run_ends (is_in Line) (drop at text) c w is in
        let on : is_in Line c ≡ true = subst NoLineEnd (sym same ∙ is) after in
        let bad : true ≡ false = sym on ∙ ends in
        absurd (cc)

block_low : (b : ℕ) (z : Text) (o : Option ℕ) → comment_from 0 (drop 2 (b ∷ z)) ≡ o → EndsLow (b ∷ z) (block_comment o)
block_low b z None is = tt
block_low b [] (Some len) is = absurd (cc)
block_low b (y ∷ z) (Some len) is = λ _ m e. ends m e
  where
    ends : (m : ℕ) → len + 2 ≡ suc m → slice_index (b ∷ y ∷ z) m < 128
    ends zero e = absurd (omega (arith, e))
    ends (suc zero) e = absurd (comment_past 0 z len is (omega (arith, e)))
    ends (suc (suc m)) e = let last = comment_last 0 z len is m (omega (arith, e)) in omega (arith, last)

slash_low : (b : ℕ) (z : Text) → (b == 47) ≡ true → EndsLow (b ∷ z) (a_slash (b ∷ z))
slash_low b z first = go (slice_index (b ∷ z) 1 == 47) (slice_index (b ∷ z) 1 == 42)
  where
    go : (c d : Bool) → EndsLow (b ∷ z) (if c then piece.Gap (past Line (b ∷ z) (min 2 (length (b ∷ z)))) else (if d then block_comment (comment_from 0 (drop 2 (b ∷ z))) else piece.Token k.Slash 1))
    go true d = line_low (b ∷ z) (min 2 (length (b ∷ z)))
    go false true = block_low b z (comment_from 0 (drop 2 (b ∷ z))) refl
    go false false = λ _. one_low (b ∷ z) (grind arith)

number_low : (b : ℕ) (z : Text) → is_ascii_digit b ≡ true → EndsLow (b ∷ z) (a_number (b ∷ z))
number_low b z digit = go (is_hex_at (b ∷ z)) refl
  where
    at_end : IsLow (b ∷ z) (number_end (b ∷ z))
    at_end = subst (IsLow (b ∷ z)) (sym (end_is (b ∷ z))) (by (has_point_at (b ∷ z) (past Digit (b ∷ z) 0)) refl)
      where
        by : (c : Bool) → has_point_at (b ∷ z) (past Digit (b ∷ z) 0) ≡ c → IsLow (b ∷ z) (if c then past Digit (b ∷ z) (suc (past Digit (b ∷ z) 0)) else past Digit (b ∷ z) 0)
        by true is = run_low Digit digit_low (b ∷ z) (suc (past Digit (b ∷ z) 0)) (seen_prefix (is_in Digit) refl (b ∷ z) (suc (past Digit (b ∷ z) 0)) (both_right (slice_index (b ∷ z) (past Digit (b ∷ z) 0) == 46) (is_ascii_digit (slice_index (b ∷ z) (suc (past Digit (b ∷ z) 0)))) is))
        by false is = run_low Digit digit_low (b ∷ z) 0 (seen_prefix (is_in Digit) refl (b ∷ z) 0 digit)

    go : (c : Bool) → is_hex_at (b ∷ z) ≡ c → EndsLow (b ∷ z) (if c then piece.Token k.Number (past Hex (b ∷ z) 2) else piece.Token k.Number (number_end (b ∷ z)))
    go true is = λ _. run_low Hex hex_low (b ∷ z) 2 (seen_prefix (is_in Hex) refl (b ∷ z) 2 (third (slice_index (b ∷ z) 0 == 48) (slice_index (b ∷ z) 1 == 120) (is_ascii_hexdigit (slice_index (b ∷ z) 2)) is))
    go false is = λ _. at_end

underscore_low : (b : ℕ) (z : Text) → (b == 95) ≡ true → EndsLow (b ∷ z) (an_underscore (b ∷ z))
underscore_low b z first = go (past Digit (b ∷ z) 1 == 1) refl
  where
    go : (c : Bool) → (past Digit (b ∷ z) 1 == 1) ≡ c → EndsLow (b ∷ z) (if c then piece.Token k.Wild 1 else piece.Token k.Width (past Digit (b ∷ z) 1))
    go true is = λ _. one_low (b ∷ z) (grind arith)
    go false is = λ _. run_low Digit digit_low (b ∷ z) 1 (grind arith)

letter_in : (b : ℕ) → is_ascii_alphabetic b ≡ true → is_in Word b ≡ true
letter_in b e = grind arith

blank_low : (b : ℕ) → is_blank b ≡ true → b < 128
blank_low b e = grind arith

pub ends_low : (b : ℕ) (z : Text) → EndsLow (b ∷ z) (front (b ∷ z))
unfolding front
ends_low b z = go (is_blank b) refl (b == 47) refl (is_ascii_alphabetic b) refl (is_ascii_digit b) refl (b == 95) refl (nat_lt b 128) refl
  where
    go : (c : Bool) → is_blank b ≡ c → (d : Bool) → (b == 47) ≡ d → (e : Bool) → is_ascii_alphabetic b ≡ e → (f : Bool) → is_ascii_digit b ≡ f → (g : Bool) → (b == 95) ≡ g → (h : Bool) → nat_lt b 128 ≡ h
        → EndsLow (b ∷ z) (front_by b (b ∷ z) c d e f g h)
    go true is d _ e _ f _ g _ h _ = λ _. one_low (b ∷ z) (blank_low b is)
    go false _ true is e _ f _ g _ h _ = slash_low b z is
    go false _ false _ true is f _ g _ h _ = λ _. run_low Word word_low (b ∷ z) 0 (seen_prefix (is_in Word) refl (b ∷ z) 0 (letter_in b is))
    go false _ false _ false _ true is g _ h _ = number_low b z is
    go false _ false _ false _ false _ true is h _ = underscore_low b z is
    go false _ false _ false _ false _ false _ true is = λ _. sign_low (b ∷ z) (grind arith)
    go false _ false _ false _ false _ false _ false is = λ bad. absurd (cc)
