-- The tokens of a text end within it.
use Rattle.std.proofs.Common.{◌≡◌, ℕ, zero, suc, ◌+◌, ◌≤◌, ◌<◌, ◌==◌, ◌&&◌, Bool, true, false, nat_le, nat_lt, nat_eq, min, List, [], ◌∷◌, ◌++◌, length, drop, length-drop, Option, Some, None, refl, arith, if◌then◌else◌}
use Rattle.std.specs.Prelude.{slice_index}
use Rattle.std.specs.Char.{is_ascii_digit, is_ascii_hexdigit, is_ascii_alphabetic}
use Rattle.std.specs.List.{starts_with}
use Rattle.std.proofs.lemmas.Grind.{common_steps}
use Rattle.std.proofs.lemmas.List.{get_or_past}
use Rattle.std.proofs.lemmas.List.Sums.{prefix_len-le-length}
use Rattle.sp_reader.specs.declared.class.Class.{Class}
use Rattle.sp_reader.specs.declared.class.Class.TheVariants.{Digit, Hex, Word, Line}
use Rattle.sp_reader.specs.declared.scan.Piece.{Piece}
use Rattle.sp_reader.specs.declared.scan.Piece.TheVariants as piece
use Rattle.sp_reader.specs.declared.scan.Scanned.{Scanned}
use Rattle.sp_reader.specs.declared.token.TokenKind.{TokenKind}
use Rattle.sp_reader.specs.declared.token.TokenKind.TheVariants as k
use Rattle.sp_reader.specs.Classes.{past, is_in}
use Rattle.sp_reader.specs.Steps.{Text}
use Rattle.sp_reader.specs.Tokens.{first_sign, signs, sign_of, a_word, number_end, a_number, an_underscore, comment_from, block_comment, a_slash, char_len, a_sign, is_blank, front, len_of, tokens_of_piece, breaks_after, scan_from, scanned, opened, inserts, separated, tokens_of}
use Rattle.sp_refusals.specs.Laws.{EndWithin}

-- ---- what stands at the front of a text

-- a piece of at most so many bytes, where it is a token
abbrev pub PieceWithin : ℕ → Piece → Type 0
PieceWithin n (piece.Gap len) = Unit {0}
PieceWithin n (piece.Token kind len) = len ≤ n
PieceWithin n piece.Open = Unit {0}

past_within : (class : Class) (text : Text) (at : ℕ) → at ≤ length text → past class text at ≤ length text
past_within class text at le = let p = prefix_len-le-length (is_in class) (drop at text) in let l = length-drop at text in omega (arith, le, p, l)

-- a byte that is seen is there
seen_within : (text : Text) (at b : ℕ) → 1 ≤ b → (slice_index text at == b) ≡ true → at < length text
seen_within text at b some e = go (nat_le (length text) at) refl
  where
    go : (c : Bool) → nat_le (length text) at ≡ c → at < length text
    go true is =
        let far : length text ≤ at = grind arith in
        let none : slice_index text at ≡ 0 = get_or_past text at 0 far in
        absurd (grind (arith, none))
    go false is = grind arith

number_within : (b : ℕ) (z : Text) → number_end (b ∷ z) ≤ length (b ∷ z)
number_within b z = go (slice_index (b ∷ z) (past Digit (b ∷ z) 0) == 46) (is_ascii_digit (slice_index (b ∷ z) (past Digit (b ∷ z) 0 + 1))) refl
  where
    go : (c d : Bool) → (slice_index (b ∷ z) (past Digit (b ∷ z) 0) == 46) ≡ c → (if c && d then past Digit (b ∷ z) (past Digit (b ∷ z) 0 + 1) else past Digit (b ∷ z) 0) ≤ length (b ∷ z)
    go true true is = let less = seen_within (b ∷ z) (past Digit (b ∷ z) 0) 46 (omega arith) is in past_within Digit (b ∷ z) (past Digit (b ∷ z) 0 + 1) (omega (arith, less))
    go true false is = past_within Digit (b ∷ z) 0 (omega arith)
    go false d is = past_within Digit (b ∷ z) 0 (omega arith)

a_number_within : (b : ℕ) (z : Text) → PieceWithin (length (b ∷ z)) (a_number (b ∷ z))
a_number_within b z = go (slice_index (b ∷ z) 0 == 48) (slice_index (b ∷ z) 1 == 120) (is_ascii_hexdigit (slice_index (b ∷ z) 2)) refl
  where
    go : (c d e : Bool) → (slice_index (b ∷ z) 1 == 120) ≡ d → PieceWithin (length (b ∷ z)) (if c && d && e then piece.Token k.Number (past Hex (b ∷ z) 2) else piece.Token k.Number (number_end (b ∷ z)))
    go true true true is = let less = seen_within (b ∷ z) 1 120 (omega arith) is in past_within Hex (b ∷ z) 2 (omega (arith, less))
    go true true false is = number_within b z
    go true false e is = number_within b z
    go false d e is = number_within b z

underscore_within : (b : ℕ) (z : Text) → PieceWithin (length (b ∷ z)) (an_underscore (b ∷ z))
underscore_within b z = go (past Digit (b ∷ z) 1 == 1)
  where
    go : (c : Bool) → PieceWithin (length (b ∷ z)) (if c then piece.Token k.Wild 1 else piece.Token k.Width (past Digit (b ∷ z) 1))
    go true = omega arith
    go false = past_within Digit (b ∷ z) 1 (omega arith)

slash_within : (b : ℕ) (z : Text) → PieceWithin (length (b ∷ z)) (a_slash (b ∷ z))
slash_within b z = go (slice_index (b ∷ z) 1 == 47) (slice_index (b ∷ z) 1 == 42) (comment_from 0 (drop 2 (b ∷ z)))
  where
    go : (c d : Bool) (o : Option ℕ) → PieceWithin (length (b ∷ z)) (if c then piece.Gap (past Line (b ∷ z) (min 2 (length (b ∷ z)))) else (if d then block_comment o else piece.Token k.Slash 1))
    go true d o = tt
    go false true None = tt
    go false true (Some len) = tt
    go false false o = omega arith

starts_within : (text needle : Text) → starts_with nat_eq text needle ≡ true → length needle ≤ length text
starts_within text needle e = grind (arith, common_steps)

first_within : (table : List (Text × TokenKind)) (b : ℕ) (z : Text) → (first_sign table (b ∷ z)).1 ≤ length (b ∷ z)
first_within [] b z = omega arith
first_within (s ∷ table) b z = go (starts_with nat_eq (b ∷ z) s.0) refl (first_within table b z)
  where
    go : (c : Bool) → starts_with nat_eq (b ∷ z) s.0 ≡ c → (first_sign table (b ∷ z)).1 ≤ length (b ∷ z) → (if◌then◌else◌ {A = TokenKind × ℕ} c (s.1, length s.0) (first_sign table (b ∷ z))).1 ≤ length (b ∷ z)
    go true is more = starts_within (b ∷ z) s.0 is
    go false is more = more

sign_within : (b : ℕ) (z : Text) → (sign_of (b ∷ z)).1 ≤ length (b ∷ z)
unfolding sign_of
sign_within b z = first_within signs b z

pub front_within : (b : ℕ) (z : Text) → PieceWithin (length (b ∷ z)) (front (b ∷ z))
unfolding front
front_within b z = go (is_blank b) (b == 47) (is_ascii_alphabetic b) (is_ascii_digit b) (b == 95) (nat_lt b 128)
  where
    go : (c d e f g h : Bool) → PieceWithin (length (b ∷ z)) (if c then piece.Gap 1 else (if d then a_slash (b ∷ z) else (if e then a_word (b ∷ z) else (if f then a_number (b ∷ z) else (if g then an_underscore (b ∷ z)
        else (if h then a_sign (sign_of (b ∷ z)) else piece.Token k.Other (min (char_len b) (length (b ∷ z)))))))))
    go true d e f g h = tt
    go false true e f g h = slash_within b z
    go false false true f g h = past_within Word (b ∷ z) 0 (omega arith)
    go false false false true g h = a_number_within b z
    go false false false false true h = underscore_within b z
    go false false false false false true = sign_within b z
    go false false false false false false = omega arith

-- ---- the tokens of the whole text

-- each begins and ends within so many bytes
abbrev AllWithin : ℕ → List Scanned → Type 0
AllWithin total [] = Unit {0}
AllWithin total (s ∷ rest) = (s.token.at ≤ total) × (s.token.end ≤ total) × AllWithin total rest

all_more : (total : ℕ) (xs ys : List Scanned) → AllWithin total xs → AllWithin total ys → AllWithin total (xs ++ ys)
all_more total [] ys h g = g
all_more total (s ∷ xs) ys h g = (h.0, h.1, all_more total xs ys h.2 g)

piece_tokens : (total at : ℕ) (breaks : Bool) (text : Text) (p : Piece) → PieceWithin (length text) p → at + length text ≡ total → AllWithin total (tokens_of_piece p at breaks text)
piece_tokens total at breaks text (piece.Gap len) h e = tt
piece_tokens total at breaks text (piece.Token kind len) h e = (omega (arith, e), omega (arith, e, h), tt)
piece_tokens total at breaks text piece.Open h e = (omega (arith, e), omega (arith, e), tt)

none_scanned : (n at : ℕ) (breaks : Bool) (text : Text) (total : ℕ) → length text ≡ 0 → AllWithin total (scan_from n at breaks text)
unfolding scan_from
none_scanned zero at breaks text total e = tt
none_scanned (suc n) at breaks [] total e = tt
none_scanned (suc n) at breaks (b ∷ z) total e = absurd (omega (arith, e))

scan_within : (n at : ℕ) (breaks : Bool) (text : Text) (total : ℕ) → at + length text ≡ total → AllWithin total (scan_from n at breaks text)
unfolding scan_from
scan_within zero at breaks text total e = tt
scan_within (suc n) at breaks [] total e = tt
scan_within (suc n) at breaks (b ∷ z) total e =
    all_more total (tokens_of_piece (front (b ∷ z)) at breaks (b ∷ z)) (scan_from n (at + len_of (front (b ∷ z)) (b ∷ z)) (breaks_after (front (b ∷ z)) breaks (b ∷ z)) (drop (len_of (front (b ∷ z)) (b ∷ z)) (b ∷ z)))
    (piece_tokens total at breaks (b ∷ z) (front (b ∷ z)) (front_within b z) e)
    (go (len_of (front (b ∷ z)) (b ∷ z)) (breaks_after (front (b ∷ z)) breaks (b ∷ z)) (nat_le (len_of (front (b ∷ z)) (b ∷ z)) (length (b ∷ z))) refl (λ at more text h. scan_within n at more text total h))
  where
    go : (len : ℕ) (more c : Bool) → nat_le len (length (b ∷ z)) ≡ c → ((at : ℕ) (more : Bool) (text : Text) → at + length text ≡ total → AllWithin total (scan_from n at more text)) → AllWithin total (scan_from n (at + len) more (drop len (b ∷ z)))
    go len more true is next =
        let le : len ≤ length (b ∷ z) = grind arith in let l = length-drop len (b ∷ z) in next (at + len) more (drop len (b ∷ z)) (omega (arith, e, le, l))
    go len more false is next =
        let lt : length (b ∷ z) < len = grind arith in let l = length-drop len (b ∷ z) in none_scanned n (at + len) more (drop len (b ∷ z)) total (omega (arith, lt, l))

separated_within : (source : Text) (before : TokenKind) (brackets : List TokenKind) (ss : List Scanned) → AllWithin (length source) ss → EndWithin source (separated before brackets ss)
separated_within source before brackets [] h = tt
separated_within source before brackets (s ∷ rest) h = go (inserts before brackets s) (separated_within source s.token.kind (opened brackets s.token.kind) rest h.2)
  where
    go : (c : Bool) → EndWithin source (separated s.token.kind (opened brackets s.token.kind) rest)
        → EndWithin source ((if c then record { kind = k.Semicolon; at = s.token.at; end = s.token.at } ∷ s.token ∷ [] else s.token ∷ []) ++ separated s.token.kind (opened brackets s.token.kind) rest)
    go true more = (h.0, (h.1, more))
    go false more = (h.1, more)

pub tokens_within : (source : Text) → EndWithin source (tokens_of source)
unfolding tokens_of
tokens_within source = separated_within source k.End [] (scanned source) (scan_within (length source) 0 false source (length source) (omega arith))
