-- What stands at the front of a text stands there too where the text is cut behind it, with nothing or a blank behind.
use Rattle.std.proofs.Common.{◌≡◌, ◌∙◌, ◌⊎◌, inl, inr, ℕ, zero, suc, ◌+◌, ◌≤◌, ◌<◌, ◌==◌, ◌&&◌, Bool, true, false, nat_le, nat_lt, nat_eq, min, List, [], ◌∷◌, ◌++◌, length, take, drop, length-drop, Option, Some, None, refl, sym, ap, arith, if◌then◌else◌}
use Rattle.std.specs.Prelude.{slice_index}
use Rattle.std.specs.Char.{is_ascii_digit, is_ascii_hexdigit, is_ascii_alphabetic}
use Rattle.std.specs.List.{starts_with, prefix_len, list_all}
use Rattle.std.specs.Cmp.Lexicographic.{pointwise}
use Rattle.std.proofs.lemmas.List.{drop-append-le, take-append-le}
use Rattle.sp_reader.specs.declared.class.Class.{Class}
use Rattle.sp_reader.specs.declared.class.Class.TheVariants.{Digit, Hex, Word, Line}
use Rattle.sp_reader.specs.declared.scan.Piece.{Piece}
use Rattle.sp_reader.specs.declared.scan.Piece.TheVariants as piece
use Rattle.sp_reader.specs.declared.token.TokenKind.{TokenKind}
use Rattle.sp_reader.specs.declared.token.TokenKind.TheVariants as k
use Rattle.sp_reader.specs.Classes.{past, is_in}
use Rattle.sp_reader.specs.Steps.{Text}
use Rattle.sp_reader.specs.Tokens.{word_kind, first_sign, signs, sign_of, a_word, number_end, a_number, an_underscore, comment_from, block_comment, a_slash, char_len, a_sign, is_blank, front, len_of}

-- ---- runs of bytes

-- over, or with a byte that isn't of a class first
abbrev StopsAt : (ℕ → Bool) → Text → Type 0
StopsAt p [] = Unit {0}
StopsAt p (b ∷ z) = p b ≡ false

stops_at : (p : ℕ → Bool) → ((b : ℕ) → b ≤ 32 → p b ≡ false) → (z : Text) → slice_index z 0 ≤ 32 → StopsAt p z
stops_at p low [] edge = tt
stops_at p low (b ∷ z) edge = low b edge

no_word : (b : ℕ) → b ≤ 32 → is_in Word b ≡ false
no_word b le = grind arith

no_digit : (b : ℕ) → b ≤ 32 → is_in Digit b ≡ false
no_digit b le = grind arith

no_hex : (b : ℕ) → b ≤ 32 → is_in Hex b ≡ false
no_hex b le = grind arith

none_first : (p : ℕ → Bool) (w z : Text) → prefix_len p w ≤ 0 → StopsAt p z → prefix_len p z ≡ prefix_len p w
none_first p w [] few stop = omega (arith, few)
none_first p w (b ∷ z) few stop = rw stop (omega (arith, few))

prefix_upto : (p : ℕ → Bool) (v w z : Text) → prefix_len p (v ++ w) ≤ length v → StopsAt p z → prefix_len p (v ++ z) ≡ prefix_len p (v ++ w)
prefix_upto p [] w z few stop = none_first p w z few stop
prefix_upto p (x ∷ v) w z few stop = go (p x) few (prefix_upto p v w z)
  where
    go : (b : Bool) → (if b then 1 + prefix_len p (v ++ w) else 0) ≤ length (x ∷ v) → (prefix_len p (v ++ w) ≤ length v → StopsAt p z → prefix_len p (v ++ z) ≡ prefix_len p (v ++ w))
        → (if b then 1 + prefix_len p (v ++ z) else 0) ≡ (if b then 1 + prefix_len p (v ++ w) else 0)
    go true few more = let m = more (omega (arith, few)) stop in omega (arith, m)
    go false few more = refl

-- one that ends before
prefix_inside : (p : ℕ → Bool) (v w z : Text) → prefix_len p (v ++ w) < length v → prefix_len p (v ++ z) ≡ prefix_len p (v ++ w)
prefix_inside p [] w z few = absurd (omega (arith, few))
prefix_inside p (x ∷ v) w z few = go (p x) few (prefix_inside p v w z)
  where
    go : (b : Bool) → (if b then 1 + prefix_len p (v ++ w) else 0) < length (x ∷ v) → (prefix_len p (v ++ w) < length v → prefix_len p (v ++ z) ≡ prefix_len p (v ++ w))
        → (if b then 1 + prefix_len p (v ++ z) else 0) ≡ (if b then 1 + prefix_len p (v ++ w) else 0)
    go true few more = let m = more (omega (arith, few)) in omega (arith, m)
    go false few more = refl

past_upto : (class : Class) (u w z : Text) (at : ℕ) → at ≤ length u → past class (u ++ w) at ≤ length u → StopsAt (is_in class) z → past class (u ++ z) at ≡ past class (u ++ w) at
past_upto class u w z at le fits stop =
    let a = ap (prefix_len (is_in class)) (drop-append-le at u w le) in
    let b = ap (prefix_len (is_in class)) (drop-append-le at u z le) in
    let l = length-drop at u in
    let few : prefix_len (is_in class) (drop at u ++ w) ≤ length (drop at u) = omega (arith, a, l, le, fits) in
    let same = prefix_upto (is_in class) (drop at u) w z few stop in
    omega (arith, a, b, same)

-- a byte that is of a class is one of its run
pub seen_prefix : (p : ℕ → Bool) → p 0 ≡ false → (t : Text) (n : ℕ) → p (slice_index t n) ≡ true → 1 ≤ prefix_len p (drop n t)
seen_prefix p none [] n e = let bad : true ≡ false = sym e ∙ none in absurd (cc)
seen_prefix p none (b ∷ t) zero e = rw e (omega arith)
seen_prefix p none (b ∷ t) (suc n) e = seen_prefix p none t n e

-- ---- words, numbers and `_`

word_piece : (m n : ℕ) (s t : Text) → m ≡ n → take n s ≡ take n t → piece.Token (word_kind (take m s)) m ≡ piece.Token (word_kind (take n t)) n
word_piece m n s t count same = rw (count, same) refl

word_again : (u w z : Text) → slice_index z 0 ≤ 32 → past Word (u ++ w) 0 ≤ length u → a_word (u ++ z) ≡ a_word (u ++ w)
word_again u w z edge fits =
    let same = past_upto Word u w z 0 (omega arith) fits (stops_at (is_in Word) no_word z edge) in
    word_piece (past Word (u ++ z) 0) (past Word (u ++ w) 0) (u ++ z) (u ++ w) same (take-append-le (past Word (u ++ w) 0) u z fits ∙ sym (take-append-le (past Word (u ++ w) 0) u w fits))

-- a point, and a digit behind it
abbrev pub has_point_at : Text → ℕ → Bool
has_point_at text q = slice_index text q == 46 && is_ascii_digit (slice_index text (suc q))

falsely : (b : Bool) → (b ≡ true → ⊥) → false ≡ b
falsely true never = absurd (never refl)
falsely false never = refl

no_both : (a b : Bool) → b ≡ false → (a && b) ≡ false
no_both true b e = e
no_both false b e = refl

point_same : (u w z : Text) (q : ℕ) → slice_index z 0 ≤ 32 → q ≤ length u → (has_point_at (u ++ w) q ≡ true → suc (suc q) ≤ length u) → has_point_at (u ++ z) q ≡ has_point_at (u ++ w) q
point_same [] w z zero edge le far =
    let no : (slice_index z 0 == 46) ≡ false = grind arith in rw no (falsely (has_point_at w 0) (λ e. let l = far e in absurd (omega (arith, l))))
point_same [] w z (suc q) edge le far = absurd (omega (arith, le))
point_same (x ∷ []) w z zero edge le far =
    let no : is_ascii_digit (slice_index z 0) ≡ false = no_digit (slice_index z 0) edge in
    no_both (x == 46) (is_ascii_digit (slice_index z 0)) no ∙ falsely (has_point_at (x ∷ w) 0) (λ e. let l = far e in absurd (omega (arith, l)))
point_same (x ∷ y ∷ u) w z zero edge le far = refl
point_same (x ∷ u) w z (suc q) edge le far = point_same u w z q edge (omega (arith, le)) (λ e. let l = far e in omega (arith, l))

abbrev pub end_by : Text → ℕ → ℕ
end_by text q = if has_point_at text q then past Digit text (suc q) else q

pub end_is : (text : Text) → number_end text ≡ end_by text (past Digit text 0)
end_is text = let on : past Digit text 0 + 1 ≡ suc (past Digit text 0) = omega arith in rw on refl

least_end : (text : Text) (q : ℕ) → q ≤ end_by text q
least_end text q = go (has_point_at text q)
  where
    go : (b : Bool) → q ≤ (if b then past Digit text (suc q) else q)
    go true = omega arith
    go false = omega arith

end_by_again : (u w z : Text) (q : ℕ) → slice_index z 0 ≤ 32 → q ≤ length u → end_by (u ++ w) q ≤ length u → end_by (u ++ z) q ≡ end_by (u ++ w) q
end_by_again u w z q edge le fits = rw (point_same u w z q edge le far) (go (has_point_at (u ++ w) q) refl fits)
  where
    far : has_point_at (u ++ w) q ≡ true → suc (suc q) ≤ length u
    far e =
        let some = seen_prefix (is_in Digit) refl (u ++ w) (suc q) (second (slice_index (u ++ w) q == 46) (is_ascii_digit (slice_index (u ++ w) (suc q))) e) in
        let all : past Digit (u ++ w) (suc q) ≤ length u = rw e at fits in
        omega (arith, some, all)
      where
        second : (a b : Bool) → (a && b) ≡ true → b ≡ true
        second true b e = e
        second false b e = absurd (cc)

    go : (b : Bool) → has_point_at (u ++ w) q ≡ b → (if b then past Digit (u ++ w) (suc q) else q) ≤ length u → (if b then past Digit (u ++ z) (suc q) else q) ≡ (if b then past Digit (u ++ w) (suc q) else q)
    go true is fits = let l = far is in past_upto Digit u w z (suc q) (omega (arith, l)) fits (stops_at (is_in Digit) no_digit z edge)
    go false is fits = refl

end_again : (u w z : Text) → slice_index z 0 ≤ 32 → number_end (u ++ w) ≤ length u → number_end (u ++ z) ≡ number_end (u ++ w)
end_again u w z edge fits =
    let old = end_is (u ++ w) in
    let least = least_end (u ++ w) (past Digit (u ++ w) 0) in
    let few : past Digit (u ++ w) 0 ≤ length u = omega (arith, old, least, fits) in
    let all : end_by (u ++ w) (past Digit (u ++ w) 0) ≤ length u = omega (arith, old, fits) in
    let same = past_upto Digit u w z 0 (omega arith) few (stops_at (is_in Digit) no_digit z edge) in
    end_is (u ++ z) ∙ ap (end_by (u ++ z)) same ∙ end_by_again u w z (past Digit (u ++ w) 0) edge few all ∙ sym old

-- `0x` and a digit of it
abbrev pub is_hex_at : Text → Bool
is_hex_at text = slice_index text 0 == 48 && slice_index text 1 == 120 && is_ascii_hexdigit (slice_index text 2)

pub third : (a b c : Bool) → (a && b && c) ≡ true → c ≡ true
third true true c e = e
third true false c e = absurd (cc)
third false b c e = absurd (cc)

no_second : (a b c : Bool) → b ≡ false → (a && b && c) ≡ false
no_second true true c e = absurd (cc)
no_second true false c e = refl
no_second false b c e = refl

no_third : (a b c : Bool) → c ≡ false → (a && b && c) ≡ false
no_third true true c e = e
no_third true false c e = refl
no_third false b c e = refl

hex_same : (u w z : Text) → 1 ≤ length u → slice_index z 0 ≤ 32 → (is_hex_at (u ++ w) ≡ true → past Hex (u ++ w) 2 ≤ length u) → is_hex_at (u ++ z) ≡ is_hex_at (u ++ w)
hex_same [] w z some edge far = absurd (omega (arith, some))
hex_same (x ∷ []) w z some edge far =
    let none : (slice_index z 0 == 120) ≡ false = grind arith in
    no_second (x == 48) (slice_index z 0 == 120) (is_ascii_hexdigit (slice_index z 1)) none ∙ falsely (is_hex_at (x ∷ w)) (λ e. let l = far e in absurd (omega (arith, l)))
hex_same (x ∷ y ∷ []) w z some edge far =
    let none : is_ascii_hexdigit (slice_index z 0) ≡ false = no_hex (slice_index z 0) edge in
    no_third (x == 48) (y == 120) (is_ascii_hexdigit (slice_index z 0)) none ∙ falsely (is_hex_at (x ∷ y ∷ w)) (λ e.
    let l = far e in
    let more = seen_prefix (is_in Hex) refl (x ∷ y ∷ w) 2 (third (x == 48) (y == 120) (is_ascii_hexdigit (slice_index w 0)) e) in
    absurd (omega (arith, l, more)))
hex_same (x ∷ y ∷ t ∷ u) w z some edge far = refl

-- some bytes that don't begin with a line end
abbrev pub NoLineEnd : Text → Type 0
NoLineEnd [] = ⊥
NoLineEnd (b ∷ w) = is_in Line b ≡ true

-- a piece of at most so many bytes, with others behind it that a `//` comment doesn't end with
abbrev pub Fits : ℕ → Text → Piece → Type 0
Fits n w (piece.Gap len) = (len < n) ⊎ ((len ≤ n) × NoLineEnd w)
Fits n w (piece.Token kind len) = len ≤ n
Fits n w piece.Open = ⊥

number_again : (u w z : Text) → 1 ≤ length u → slice_index z 0 ≤ 32 → Fits (length u) w (a_number (u ++ w)) → a_number (u ++ z) ≡ a_number (u ++ w)
number_again u w z some edge fits = rw (hex_same u w z some edge (λ e. hexed e fits)) (go (is_hex_at (u ++ w)) refl fits)
  where
    hexed : is_hex_at (u ++ w) ≡ true → Fits (length u) w (a_number (u ++ w)) → past Hex (u ++ w) 2 ≤ length u
    hexed e f = rw e at f

    hex_far : is_hex_at (u ++ w) ≡ true → past Hex (u ++ w) 2 ≤ length u → 2 ≤ length u
    hex_far e f = omega (arith, f)

    go : (b : Bool) → is_hex_at (u ++ w) ≡ b → Fits (length u) w (if b then piece.Token k.Number (past Hex (u ++ w) 2) else piece.Token k.Number (number_end (u ++ w)))
        → (if b then piece.Token k.Number (past Hex (u ++ z) 2) else piece.Token k.Number (number_end (u ++ z))) ≡ (if b then piece.Token k.Number (past Hex (u ++ w) 2) else piece.Token k.Number (number_end (u ++ w)))
    go true is f = ap (piece.Token k.Number) (past_upto Hex u w z 2 (hex_far is f) f (stops_at (is_in Hex) no_hex z edge))
    go false is f = ap (piece.Token k.Number) (end_again u w z edge f)

underscore_again : (u w z : Text) → 1 ≤ length u → slice_index z 0 ≤ 32 → Fits (length u) w (an_underscore (u ++ w)) → an_underscore (u ++ z) ≡ an_underscore (u ++ w)
underscore_again u w z some edge fits =
    let few : past Digit (u ++ w) 1 ≤ length u = go (past Digit (u ++ w) 1 == 1) refl fits in
    ap (λ n. if n == 1 then piece.Token k.Wild 1 else piece.Token k.Width n) (past_upto Digit u w z 1 some few (stops_at (is_in Digit) no_digit z edge))
  where
    go : (b : Bool) → (past Digit (u ++ w) 1 == 1) ≡ b → Fits (length u) w (if b then piece.Token k.Wild 1 else piece.Token k.Width (past Digit (u ++ w) 1)) → past Digit (u ++ w) 1 ≤ length u
    go true is f = let one : past Digit (u ++ w) 1 ≡ 1 = grind arith in omega (arith, one, some)
    go false is f = f

-- ---- comments

pub comment_past : (before : ℕ) (w : Text) (len : ℕ) → comment_from before w ≡ Some len → len ≤ before → ⊥
comment_past before [] len is le = absurd (cc)
comment_past before (b ∷ w) len is le = go (b == 42 && slice_index w 0 == 47) is (comment_past (before + 1) w len)
  where
    go : (c : Bool) → (if c then Some (before + 2) else comment_from (before + 1) w) ≡ Some len → (comment_from (before + 1) w ≡ Some len → len ≤ before + 1 → ⊥) → ⊥
    go true is more = let same : before + 2 ≡ len = cc in omega (arith, same, le)
    go false is more = more is (omega (arith, le))

comment_inside : (before : ℕ) (v w z : Text) (len : ℕ) → comment_from before (v ++ w) ≡ Some len → len ≤ before + length v → comment_from before (v ++ z) ≡ Some len
comment_inside before [] w z len is le = absurd (comment_past before w len is (omega (arith, le)))
comment_inside before (b ∷ v) w z len is le = go (b == 42) v is (omega (arith, le)) (comment_inside (before + 1) v w z len)
  where
    go : (c : Bool) (v : Text) → (if c && slice_index (v ++ w) 0 == 47 then Some (before + 2) else comment_from (before + 1) (v ++ w)) ≡ Some len → len ≤ before + 1 + length v
        → (comment_from (before + 1) (v ++ w) ≡ Some len → len ≤ before + 1 + length v → comment_from (before + 1) (v ++ z) ≡ Some len)
        → (if c && slice_index (v ++ z) 0 == 47 then Some (before + 2) else comment_from (before + 1) (v ++ z)) ≡ Some len
    go false v is le more = more is le
    go true [] is le more = absurd (past_end (slice_index w 0 == 47) is le)
      where
        past_end : (d : Bool) → (if d then Some (before + 2) else comment_from (before + 1) w) ≡ Some len → len ≤ before + 1 + 0 → ⊥
        past_end true is le = let same : before + 2 ≡ len = cc in omega (arith, same, le)
        past_end false is le = comment_past (before + 1) w len is (omega (arith, le))
    go true (c ∷ v) is le more = by (c == 47) is
      where
        by : (d : Bool) → (if d then Some (before + 2) else comment_from (before + 1) (c ∷ (v ++ w))) ≡ Some len → (if d then Some (before + 2) else comment_from (before + 1) (c ∷ (v ++ z))) ≡ Some len
        by true is = is
        by false is = more is le

pub fits_upto : (n len : ℕ) (w : Text) → (len < n) ⊎ ((len ≤ n) × NoLineEnd w) → len ≤ n
fits_upto n len w (inl less) = omega (arith, less)
fits_upto n len w (inr h) = h.0

slash_alone : (x : ℕ) (w : Text) → Fits 1 w (a_slash (x ∷ w)) → a_slash (x ∷ w) ≡ piece.Token k.Slash 1
slash_alone x [] fits = refl
slash_alone x (b ∷ w) fits = go (b == 47) (b == 42) (comment_from 0 w) fits
  where
    go : (c d : Bool) (o : Option ℕ) → Fits 1 (b ∷ w) (if c then piece.Gap (past Line (x ∷ b ∷ w) (min 2 (length (x ∷ b ∷ w)))) else (if d then block_comment o else piece.Token k.Slash 1))
        → (if c then piece.Gap (past Line (x ∷ b ∷ w) (min 2 (length (x ∷ b ∷ w)))) else (if d then block_comment o else piece.Token k.Slash 1)) ≡ piece.Token k.Slash 1
    go true d o f = let few = fits_upto 1 (past Line (x ∷ b ∷ w) (min 2 (length (x ∷ b ∷ w)))) (b ∷ w) f in absurd (omega (arith, few))
    go false true None f = absurd f
    go false true (Some len) f = let few = fits_upto 1 (len + 2) (b ∷ w) f in absurd (omega (arith, few))
    go false false o f = refl

slash_apart : (x : ℕ) (z : Text) → slice_index z 0 ≤ 32 → a_slash (x ∷ z) ≡ piece.Token k.Slash 1
slash_apart x z edge =
    let line : (slice_index z 0 == 47) ≡ false = grind arith in
    let star : (slice_index z 0 == 42) ≡ false = grind arith in
    rw (line, star) refl

-- a run doesn't end before what is of its class
prefix_on : (p : ℕ → Bool) (v : Text) (b : ℕ) (w : Text) → p b ≡ true → prefix_len p (v ++ b ∷ w) ≡ length v → ⊥
prefix_on p [] b w e is = absurd (let some : 1 ≤ prefix_len p (b ∷ w) = rw e (omega arith) in omega (arith, some, is))
prefix_on p (x ∷ v) b w e is = go (p x) is (prefix_on p v b w e)
  where
    go : (c : Bool) → (if c then 1 + prefix_len p (v ++ b ∷ w) else 0) ≡ length (x ∷ v) → (prefix_len p (v ++ b ∷ w) ≡ length v → ⊥) → ⊥
    go true is more = more (omega (arith, is))
    go false is more = absurd (omega (arith, is))

line_ends : (v w : Text) → (2 + prefix_len (is_in Line) (v ++ w) < suc (suc (length v))) ⊎ ((2 + prefix_len (is_in Line) (v ++ w) ≤ suc (suc (length v))) × NoLineEnd w) → prefix_len (is_in Line) (v ++ w) < length v
line_ends v w (inl less) = omega (arith, less)
line_ends v [] (inr h) = absurd (h.1)
line_ends v (b ∷ w) (inr h) = go (nat_lt (prefix_len (is_in Line) (v ++ b ∷ w)) (length v)) refl
  where
    go : (c : Bool) → nat_lt (prefix_len (is_in Line) (v ++ b ∷ w)) (length v) ≡ c → prefix_len (is_in Line) (v ++ b ∷ w) < length v
    go true is = grind arith
    go false is = let le : length v ≤ prefix_len (is_in Line) (v ++ b ∷ w) = grind arith in absurd (prefix_on (is_in Line) v b w h.1 (omega (arith, le, h.0)))

line_again : (x y : ℕ) (v w z : Text) → Fits (length (x ∷ y ∷ v)) w (piece.Gap (past Line (x ∷ y ∷ (v ++ w)) (min 2 (length (x ∷ y ∷ (v ++ w))))))
    → past Line (x ∷ y ∷ (v ++ z)) (min 2 (length (x ∷ y ∷ (v ++ z)))) ≡ past Line (x ∷ y ∷ (v ++ w)) (min 2 (length (x ∷ y ∷ (v ++ w))))
line_again x y v w z fits =
    let a : min 2 (length (x ∷ y ∷ (v ++ w))) ≡ 2 = omega arith in
    let b : min 2 (length (x ∷ y ∷ (v ++ z))) ≡ 2 = omega arith in
    let here : Fits (length (x ∷ y ∷ v)) w (piece.Gap (2 + prefix_len (is_in Line) (v ++ w))) = rw a at fits in
    let same = prefix_inside (is_in Line) v w z (line_ends v w here) in
    rw (a, b, same) refl

slash_again : (u w z : Text) → 1 ≤ length u → slice_index z 0 ≤ 32 → Fits (length u) w (a_slash (u ++ w)) → a_slash (u ++ z) ≡ a_slash (u ++ w)
slash_again [] w z some edge fits = absurd (omega (arith, some))
slash_again (x ∷ []) w z some edge fits = slash_apart x z edge ∙ sym (slash_alone x w fits)
slash_again (x ∷ y ∷ v) w z some edge fits = go (y == 47) (y == 42) fits
  where
    starred : (o : Option ℕ) → comment_from 0 (v ++ w) ≡ o → Fits (length (x ∷ y ∷ v)) w (block_comment o) → block_comment (comment_from 0 (v ++ z)) ≡ block_comment o
    starred None is f = absurd f
    starred (Some len) is f = let few = fits_upto (length (x ∷ y ∷ v)) (len + 2) w f in ap block_comment (comment_inside 0 v w z len is (omega (arith, few)))

    go : (c d : Bool) → Fits (length (x ∷ y ∷ v)) w (if c then piece.Gap (past Line (x ∷ y ∷ (v ++ w)) (min 2 (length (x ∷ y ∷ (v ++ w))))) else (if d then block_comment (comment_from 0 (v ++ w)) else piece.Token k.Slash 1))
        → (if c then piece.Gap (past Line (x ∷ y ∷ (v ++ z)) (min 2 (length (x ∷ y ∷ (v ++ z))))) else (if d then block_comment (comment_from 0 (v ++ z)) else piece.Token k.Slash 1))
        ≡ (if c then piece.Gap (past Line (x ∷ y ∷ (v ++ w)) (min 2 (length (x ∷ y ∷ (v ++ w))))) else (if d then block_comment (comment_from 0 (v ++ w)) else piece.Token k.Slash 1))
    go true d f = ap piece.Gap (line_again x y v w z f)
    go false true f = starred (comment_from 0 (v ++ w)) refl f
    go false false f = refl

-- ---- signs

pub both_left : (a b : Bool) → (a && b) ≡ true → a ≡ true
both_left true b e = refl
both_left false b e = absurd (cc)

pub both_right : (a b : Bool) → (a && b) ≡ true → b ≡ true
both_right true b e = e
both_right false b e = absurd (cc)

-- bytes that aren't blank
abbrev Solid : Text → Type 0
Solid bytes = list_all (λ c. nat_lt 32 c) bytes ≡ true

-- a sign is some bytes that aren't blank
abbrev is_sign : Text × TokenKind → Bool
is_sign entry = list_all (λ c. nat_lt 32 c) entry.0 && nat_lt 0 (length entry.0)

signs_fine : list_all is_sign signs ≡ true
signs_fine = refl

begins_same : (needle u w z : Text) → length needle ≤ length u → starts_with nat_eq (u ++ z) needle ≡ starts_with nat_eq (u ++ w) needle
begins_same needle u w z le = ap (pointwise nat_eq needle) (take-append-le (length needle) u z le ∙ sym (take-append-le (length needle) u w le))

other_byte : (c b : ℕ) (d : Bool) → nat_lt 32 c ≡ true → b ≤ 32 → (nat_eq c b && d) ≡ false
other_byte c b d lt le = let different : nat_eq c b ≡ false = grind arith in rw different refl

begins_not : (needle u z : Text) → Solid needle → length u < length needle → slice_index z 0 ≤ 32 → starts_with nat_eq (u ++ z) needle ≡ false
begins_not [] u z all less edge = absurd (omega (arith, less))
begins_not (c ∷ needle) [] [] all less edge = refl
begins_not (c ∷ needle) [] (b ∷ z) all less edge = other_byte c b (pointwise nat_eq needle (take (length needle) z)) (both_left (nat_lt 32 c) (list_all (λ d. nat_lt 32 d) needle) all) edge
begins_not (c ∷ needle) (x ∷ u) z all less edge =
    no_both (nat_eq c x) (starts_with nat_eq (u ++ z) needle) (begins_not needle u z (both_right (nat_lt 32 c) (list_all (λ d. nat_lt 32 d) needle) all) (omega (arith, less)) edge)

first_again : (table : List (Text × TokenKind)) (u w z : Text) → list_all is_sign table ≡ true → slice_index z 0 ≤ 32 → (first_sign table (u ++ w)).1 ≤ length u → first_sign table (u ++ z) ≡ first_sign table (u ++ w)
first_again [] u w z all edge fits = refl
first_again (s ∷ table) u w z all edge fits = go (starts_with nat_eq (u ++ w) s.0) refl fits (first_again table u w z (both_right (is_sign s) (list_all is_sign table) all) edge)
  where
    fine : is_sign s ≡ true
    fine = both_left (is_sign s) (list_all is_sign table) all

    still : (b : Bool) → nat_le (length s.0) (length u) ≡ b → starts_with nat_eq (u ++ w) s.0 ≡ false → starts_with nat_eq (u ++ z) s.0 ≡ false
    still true le is = begins_same s.0 u w z (grind arith) ∙ is
    still false le is = begins_not s.0 u z (both_left (list_all (λ c. nat_lt 32 c) s.0) (nat_lt 0 (length s.0)) fine) (grind arith) edge

    go : (b : Bool) → starts_with nat_eq (u ++ w) s.0 ≡ b → (if◌then◌else◌ {A = TokenKind × ℕ} b (s.1, length s.0) (first_sign table (u ++ w))).1 ≤ length u
        → ((first_sign table (u ++ w)).1 ≤ length u → first_sign table (u ++ z) ≡ first_sign table (u ++ w))
        → (if◌then◌else◌ {A = TokenKind × ℕ} (starts_with nat_eq (u ++ z) s.0) (s.1, length s.0) (first_sign table (u ++ z))) ≡ (if◌then◌else◌ {A = TokenKind × ℕ} b (s.1, length s.0) (first_sign table (u ++ w)))
    go true is fits more = rw (begins_same s.0 u w z fits ∙ is) refl
    go false is fits more = rw (still (nat_le (length s.0) (length u)) refl is) (more fits)

sign_again : (u w z : Text) → slice_index z 0 ≤ 32 → (sign_of (u ++ w)).1 ≤ length u → sign_of (u ++ z) ≡ sign_of (u ++ w)
unfolding sign_of
sign_again u w z edge fits = first_again signs u w z signs_fine edge fits

first_some : (table : List (Text × TokenKind)) (text : Text) → list_all is_sign table ≡ true → 1 ≤ (first_sign table text).1
first_some [] text all = omega arith
first_some (s ∷ table) text all = go (starts_with nat_eq text s.0) (both_right (list_all (λ c. nat_lt 32 c) s.0) (nat_lt 0 (length s.0)) (both_left (is_sign s) (list_all is_sign table) all)) (first_some table text (both_right (is_sign s) (list_all is_sign table) all))
  where
    go : (b : Bool) → nat_lt 0 (length s.0) ≡ true → 1 ≤ (first_sign table text).1 → 1 ≤ (if◌then◌else◌ {A = TokenKind × ℕ} b (s.1, length s.0) (first_sign table text)).1
    go true is more = grind arith
    go false is more = more

sign_some : (text : Text) → 1 ≤ (sign_of text).1
unfolding sign_of
sign_some text = first_some signs text signs_fine

-- ---- all of them

-- whether a token of this kind stands in a rule
abbrev pub is_written : TokenKind → Bool
is_written k.Other = false
is_written k.End = false
is_written _ = true

-- the same piece, but for the length of a token that stands in no rule
abbrev pub Kin : Piece → Piece → Type 0
Kin (piece.Gap len) q = q ≡ piece.Gap len
Kin (piece.Token kind len) q = (n : ℕ) × (q ≡ piece.Token kind n) × (is_written kind ≡ true → n ≡ len)
Kin piece.Open q = q ≡ piece.Open

same_kin : (p q : Piece) → q ≡ p → Kin p q
same_kin (piece.Gap len) q e = e
same_kin (piece.Token kind len) q e = (len, e, λ _. refl)
same_kin piece.Open q e = e

-- what is told of a text by its first byte
abbrev pub front_by : ℕ → Text → (blank slash letter digit underscore low : Bool) → Piece
front_by x text c d e f g h = if c then piece.Gap 1 else (if d then a_slash text else (if e then a_word text else (if f then a_number text else (if g then an_underscore text
    else (if h then a_sign (sign_of text) else piece.Token k.Other (min (char_len x) (length text)))))))

pub front_again : (x : ℕ) (v w z : Text) → slice_index z 0 ≤ 32 → Fits (length (x ∷ v)) w (front (x ∷ (v ++ w))) → Kin (front (x ∷ (v ++ w))) (front (x ∷ (v ++ z)))
unfolding front
front_again x v w z edge fits = go (is_blank x) (x == 47) (is_ascii_alphabetic x) (is_ascii_digit x) (x == 95) (nat_lt x 128) fits
  where
    go : (c d e f g h : Bool) → Fits (length (x ∷ v)) w (front_by x (x ∷ (v ++ w)) c d e f g h) → Kin (front_by x (x ∷ (v ++ w)) c d e f g h) (front_by x (x ∷ (v ++ z)) c d e f g h)
    go true d e f g h fit = refl
    go false true e f g h fit = same_kin _ _ (slash_again (x ∷ v) w z (omega arith) edge fit)
    go false false true f g h fit = same_kin _ _ (word_again (x ∷ v) w z edge fit)
    go false false false true g h fit = same_kin _ _ (number_again (x ∷ v) w z (omega arith) edge fit)
    go false false false false true h fit = same_kin _ _ (underscore_again (x ∷ v) w z (omega arith) edge fit)
    go false false false false false true fit = same_kin _ _ (ap a_sign (sign_again (x ∷ v) w z edge fit))
    go false false false false false false fit = (min (char_len x) (length (x ∷ (v ++ z))), refl, λ bad. absurd (cc))

-- a piece has a byte
slash_some : (b : ℕ) (z : Text) → 1 ≤ len_of (a_slash (b ∷ z)) (b ∷ z)
slash_some b z = go (slice_index (b ∷ z) 1 == 47) (slice_index (b ∷ z) 1 == 42) (comment_from 0 (drop 2 (b ∷ z)))
  where
    go : (c d : Bool) (o : Option ℕ) → 1 ≤ len_of (if c then piece.Gap (past Line (b ∷ z) (min 2 (length (b ∷ z)))) else (if d then block_comment o else piece.Token k.Slash 1)) (b ∷ z)
    go true d o = omega arith
    go false true None = omega arith
    go false true (Some len) = omega arith
    go false false o = omega arith

number_some : (b : ℕ) (z : Text) → is_ascii_digit b ≡ true → 1 ≤ len_of (a_number (b ∷ z)) (b ∷ z)
number_some b z digit = go (is_hex_at (b ∷ z))
  where
    go : (c : Bool) → 1 ≤ len_of (if c then piece.Token k.Number (past Hex (b ∷ z) 2) else piece.Token k.Number (number_end (b ∷ z))) (b ∷ z)
    go true = omega arith
    go false =
        let some = seen_prefix (is_in Digit) refl (b ∷ z) 0 digit in
        let least = least_end (b ∷ z) (past Digit (b ∷ z) 0) in
        let is = end_is (b ∷ z) in
        omega (arith, some, least, is)

underscore_some : (b : ℕ) (z : Text) → 1 ≤ len_of (an_underscore (b ∷ z)) (b ∷ z)
underscore_some b z = go (past Digit (b ∷ z) 1 == 1)
  where
    go : (c : Bool) → 1 ≤ len_of (if c then piece.Token k.Wild 1 else piece.Token k.Width (past Digit (b ∷ z) 1)) (b ∷ z)
    go true = omega arith
    go false = omega arith

letter_in : (b : ℕ) → is_ascii_alphabetic b ≡ true → is_in Word b ≡ true
letter_in b e = grind arith

pub front_some : (b : ℕ) (z : Text) → 1 ≤ len_of (front (b ∷ z)) (b ∷ z)
unfolding front
front_some b z = go (is_blank b) (b == 47) (is_ascii_alphabetic b) refl (is_ascii_digit b) refl (b == 95) (nat_lt b 128)
  where
    first_len : (n : ℕ) → 1 ≤ char_len n
    first_len n = by (nat_lt n 192) (nat_lt n 224) (nat_lt n 240)
      where
        by : (c d e : Bool) → 1 ≤ (if c then 1 else (if d then 2 else (if e then 3 else 4)))
        by true d e = omega arith
        by false true e = omega arith
        by false false true = omega arith
        by false false false = omega arith

    go : (c d e : Bool) → is_ascii_alphabetic b ≡ e → (f : Bool) → is_ascii_digit b ≡ f → (g h : Bool) → 1 ≤ len_of (front_by b (b ∷ z) c d e f g h) (b ∷ z)
    go true d e x f y g h = omega arith
    go false true e x f y g h = slash_some b z
    go false false true x f y g h = let some = seen_prefix (is_in Word) refl (b ∷ z) 0 (letter_in b x) in omega (arith, some)
    go false false false x true y g h = number_some b z y
    go false false false x false y true h = underscore_some b z
    go false false false x false y false true = sign_some (b ∷ z)
    go false false false x false y false false = let some = first_len b in omega (arith, some)
