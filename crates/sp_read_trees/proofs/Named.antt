-- Tokens that are names spell names.
use Rattle.std.proofs.Common.{◌≡◌, ◌∙◌, ℕ, zero, suc, ◌+◌, ◌-◌, ◌==◌, ◌<◌, ◌≤◌, Bool, true, false, not, ◌&&◌, ◌||◌, nat_le, nat_lt, List, [], ◌∷◌, length, take, drop, All, Contains, Option, Some, None, refl, sym, ap, subst, arith, if◌then◌else◌, encode_utf8_all, slice_index}
use Rattle.std.specs.Char.{is_ascii_alphabetic, is_ascii_digit, is_ascii_hexdigit}
use Rattle.std.specs.List.{list_all, prefix_len, starts_with}
use Rattle.std.specs.Prelude.{nat_eq}
use Rattle.std.specs.Str.{IsAscii}
use Rattle.std.proofs.lemmas.Str.{encodes-IsAscii}
use Rattle.std.proofs.lemmas.List.{length-drop, drop-drop}
use Rattle.std.proofs.lemmas.List.Elements.{All-append, All-cons, All-contains, All-head, All-nil, All-tail}
use Rattle.std.proofs.lemmas.List.Sums.{AllPass-from_list_all, prefix_len-le-length}
use Rattle.sp_words.specs.Names.{IsName, is_letter, is_name_byte, reserved_words}
use Rattle.sp_reader.specs.Classes.{is_in, past}
use Rattle.sp_reader.specs.declared.class.Class.TheVariants.{Digit, Word}
use Rattle.sp_reader.specs.declared.scan.Piece.{Piece}
use Rattle.sp_reader.specs.declared.scan.Piece.TheVariants as piece
use Rattle.sp_reader.specs.declared.scan.Scanned.{Scanned}
use Rattle.sp_reader.specs.declared.token.TokenKind.{TokenKind}
use Rattle.sp_reader.specs.declared.token.TokenKind.TheVariants as k
use Rattle.sp_reader.specs.Steps.{Text, is_name, spelling_of}
use Rattle.sp_reader.specs.Tokens.{lookup, words as table, word_kind, first_sign, signs, sign_of, front, a_word, a_number, an_underscore, comment_from, block_comment, a_slash, a_sign, is_blank, tokens_of_piece, len_of, breaks_after, scan_from, scanned, with_separator, inserts, separated, opened, tokens_of}
use Rattle.sp_read_trees.proofs.Levels.{IsNamed}

-- ---- words

-- no word of the language is a name
reserved_are_no_names : list_all (λ w. not (is_name (lookup table w))) reserved_words ≡ true
reserved_are_no_names = refl

free_word : (w : Text) → is_name (lookup table w) ≡ true → Contains reserved_words w → ⊥
free_word w e at =
    let no = All-contains (λ r. not (is_name (lookup table r)) ≡ true) reserved_words w (AllPass-from_list_all (λ r. not (is_name (lookup table r))) reserved_words reserved_are_no_names) at in
    let bad = rw e at no in absurd (cc)

either : (a b c d : Bool) → (((a || b) || c) || d) ≡ true → ((b || c) || (a || d)) ≡ true
either true true c d e = refl
either true false true d e = refl
either true false false d e = refl
either false true c d e = refl
either false false true d e = refl
either false false false d e = e

name_byte : (b : ℕ) → is_in Word b ≡ true → is_name_byte b ≡ true
name_byte b e = either (nat_le 48 b && nat_le b 57) (nat_le 65 b && nat_le b 90) (nat_le 97 b && nat_le b 122) (b == 95) e

front_byte : (b : ℕ) → is_letter b ≡ true → is_in Word b ≡ true
front_byte b e = letter (nat_le 48 b && nat_le b 57) (nat_le 65 b && nat_le b 90) (nat_le 97 b && nat_le b 122) (b == 95) e
  where
    letter : (a b c d : Bool) → (b || c) ≡ true → (((a || b) || c) || d) ≡ true
    letter true b c d e = refl
    letter false true c d e = refl
    letter false false true d e = refl
    letter false false false d e = absurd (cc)

small_byte : (b : ℕ) → is_name_byte b ≡ true → b < 128
small_byte b e = grind arith

-- the bytes that a run takes
run_bytes : (p : ℕ → Bool) (xs : List ℕ) → list_all p (take (prefix_len p xs) xs) ≡ true
run_bytes p [] = refl
run_bytes p (x ∷ xs) = go (p x) refl (run_bytes p xs)
  where
    go : (b : Bool) → p x ≡ b → list_all p (take (prefix_len p xs) xs) ≡ true → list_all p (take (if b then 1 + prefix_len p xs else 0) (x ∷ xs)) ≡ true
    go true e rest = let on : 1 + prefix_len p xs ≡ suc (prefix_len p xs) = omega arith in rw (on, e) rest
    go false e rest = refl

all_names : (xs : List ℕ) → list_all (is_in Word) xs ≡ true → list_all is_name_byte xs ≡ true
all_names [] e = refl
all_names (x ∷ xs) e = go (is_in Word x) (list_all (is_in Word) xs) refl refl (λ q. all_names xs q) e
  where
    go : (a b : Bool) → is_in Word x ≡ a → list_all (is_in Word) xs ≡ b → (list_all (is_in Word) xs ≡ true → list_all is_name_byte xs ≡ true) → (a && b) ≡ true → (is_name_byte x && list_all is_name_byte xs) ≡ true
    go true true p q rest e = rw (name_byte x p) (rest q)
    go true false p q rest e = absurd (cc)
    go false b p q rest e = absurd (cc)

ascii_word : (w : Text) → list_all is_name_byte w ≡ true → IsAscii w
ascii_word [] e i = omega arith
ascii_word (b ∷ w) e zero = small_byte b (first_of (is_name_byte b) (list_all is_name_byte w) e)
  where
    first_of : (x y : Bool) → (x && y) ≡ true → x ≡ true
    first_of true y e = refl
    first_of false y e = absurd (cc)
ascii_word (b ∷ w) e (suc i) = ascii_word w (second_of (is_name_byte b) (list_all is_name_byte w) e) i
  where
    second_of : (x y : Bool) → (x && y) ≡ true → y ≡ true
    second_of true y e = e
    second_of false y e = absurd (cc)

-- a word that begins with a letter and whose kind is a name's is a name
name_of : (b : ℕ) (rest : Text) → is_letter b ≡ true → list_all is_name_byte (b ∷ rest) ≡ true → is_name (lookup table (b ∷ rest)) ≡ true → IsName (encode_utf8_all (b ∷ rest))
name_of b rest letter bytes kind = subst IsName (sym (encodes-IsAscii (b ∷ rest) (ascii_word (b ∷ rest) bytes)))
    (record { letters = letters_of (is_letter b) (is_name_byte b) (list_all is_name_byte rest) letter bytes; free = free_word (b ∷ rest) kind })
  where
    letters_of : (x y z : Bool) → x ≡ true → (y && z) ≡ true → (x && z) ≡ true
    letters_of true true z p e = e
    letters_of true false z p e = absurd (cc)
    letters_of false y z p e = absurd (cc)

-- ---- what stands at the front of a text

abbrev NamedPiece : Text → Piece → Type 0
NamedPiece text (piece.Gap len) = Unit {0}
NamedPiece text (piece.Token kind len) = is_name kind ≡ true → (len ≤ length text) × IsName (encode_utf8_all (take len text))
NamedPiece text piece.Open = Unit {0}

word_piece : (b : ℕ) (z : Text) → is_letter b ≡ true → NamedPiece (b ∷ z) (a_word (b ∷ z))
unfolding word_kind
word_piece b z letter kind =
    let p = is_in Word in
    let first : p b ≡ true = front_byte b letter in
    let many = prefix_len-le-length p (b ∷ z) in
    let run : past Word (b ∷ z) 0 ≡ suc (prefix_len p z) = rw first (omega arith) in
    let m = prefix_len p z in
    let same : prefix_len p (b ∷ z) ≡ suc m = rw first (omega arith) in
    let taken : take (past Word (b ∷ z) 0) (b ∷ z) ≡ b ∷ take m z = ap (λ n. take n (b ∷ z)) run in
    let bytes = all_names (take (prefix_len p (b ∷ z)) (b ∷ z)) (run_bytes p (b ∷ z)) in
    let named = name_of b (take m z) letter (subst (λ n. list_all is_name_byte (take n (b ∷ z)) ≡ true) same bytes) (subst (λ w. is_name (lookup table w) ≡ true) taken kind) in
    (subst (λ n. n ≤ length (b ∷ z)) (same ∙ sym run) many, subst (λ w. IsName (encode_utf8_all w)) (sym taken) named)

-- what a test chooses
by_test : (text : Text) (t : Bool) (p q : Piece) → (t ≡ true → NamedPiece text p) → (t ≡ false → NamedPiece text q) → NamedPiece text (if t then p else q)
by_test text true p q f g = f refl
by_test text false p q f g = g refl

no_name_in : (ss : List (Text × TokenKind)) (text : Text) → list_all (λ s. not (is_name s.1)) ss ≡ true → is_name (first_sign ss text).0 ≡ true → ⊥
no_name_in [] text e h = absurd (cc)
no_name_in (s ∷ ss) text e h = go (starts_with nat_eq text s.0) (is_name s.1) refl (list_all (λ s. not (is_name s.1)) ss) refl e h (λ f g. no_name_in ss text f g)
  where
    go : (t n : Bool) → is_name s.1 ≡ n → (r : Bool) → list_all (λ s. not (is_name s.1)) ss ≡ r → (not n && r) ≡ true → is_name (if◌then◌else◌ {A = TokenKind × ℕ} t (s.1, length s.0) (first_sign ss text)).0 ≡ true
        → (list_all (λ s. not (is_name s.1)) ss ≡ true → is_name (first_sign ss text).0 ≡ true → ⊥) → ⊥
    go true false p r q e h next = let bad = sym p ∙ h in absurd (cc)
    go true true p r q e h next = absurd (cc)
    go false false p r q e h next = next (q ∙ e) h
    go false true p r q e h next = absurd (cc)

signs_are_no_names : list_all (λ s. not (is_name s.1)) signs ≡ true
signs_are_no_names = refl

sign_piece : (text : Text) → NamedPiece text (a_sign (sign_of text))
unfolding sign_of
sign_piece text = λ e. absurd (no_name_in signs text signs_are_no_names e)

other : (text : Text) (kind : TokenKind) (len : ℕ) → is_name kind ≡ false → NamedPiece text (piece.Token kind len)
other text kind len e = λ h. let bad = sym e ∙ h in absurd (cc)

comment_piece : (text : Text) (o : Option ℕ) → NamedPiece text (block_comment o)
comment_piece text None = tt
comment_piece text (Some len) = tt

front_named : (b : ℕ) (z : Text) → NamedPiece (b ∷ z) (front (b ∷ z))
unfolding front
front_named b z =
    let text = b ∷ z in
    let first = slice_index text 0 in
    by_test text (is_blank first) (piece.Gap 1) _ (λ _. tt) (λ _.
    by_test text (first == 47) (a_slash text) _
    (λ _. by_test text (slice_index text 1 == 47) (piece.Gap _) _ (λ _. tt) (λ _.
    by_test text (slice_index text 1 == 42) (block_comment (comment_from 0 (drop 2 text))) (piece.Token k.Slash 1) (λ _. comment_piece text _) (λ _. other text k.Slash 1 refl)))
    (λ _. by_test text (is_ascii_alphabetic first) (a_word text) _ (λ letter. word_piece b z letter) (λ _.
    by_test text (is_ascii_digit first) (a_number text) _
    (λ _. by_test text (slice_index text 0 == 48 && slice_index text 1 == 120 && is_ascii_hexdigit (slice_index text 2)) (piece.Token k.Number _) (piece.Token k.Number _)
    (λ _. other text k.Number _ refl) (λ _. other text k.Number _ refl))
    (λ _. by_test text (first == 95) (an_underscore text) _
    (λ _. by_test text (past Digit text 1 == 1) (piece.Token k.Wild 1) (piece.Token k.Width _) (λ _. other text k.Wild 1 refl) (λ _. other text k.Width _ refl))
    (λ _. by_test text (nat_lt first 128) (a_sign (sign_of text)) (piece.Token k.Other _) (λ _. sign_piece text) (λ _. other text k.Other _ refl))))))

-- ---- tokens in a text

module _ (source : Text) where
  abbrev IsNamedScan : Scanned → Type 0
  IsNamedScan s = IsNamed source s.token

  spelled : (at len : ℕ) (text : Text) → text ≡ drop at source → 1 ≤ length text → len ≤ length text → (kind : TokenKind) → spelling_of source (record { kind = kind; at = at; end = at + len }) ≡ take len text
  unfolding spelling_of
  spelled at len text is some few kind =
      let long = ap (λ (t : Text). length t) is ∙ length-drop at source in
      let in_order : nat_le at (at + len) ≡ true = grind arith in
      let within : nat_le (at + len) (length source) ≡ true = grind arith in
      let many : (at + len) - at ≡ len = omega arith in
      rw (in_order, within, many, sym is) refl

  piece_named : (p : Piece) (at : ℕ) (breaks : Bool) (text : Text) → text ≡ drop at source → 1 ≤ length text → NamedPiece text p → All IsNamedScan (tokens_of_piece p at breaks text)
  piece_named (piece.Gap len) at breaks text is some n = All-nil IsNamedScan
  piece_named (piece.Token kind len) at breaks text is some n = All-cons IsNamedScan _ [] (λ e. let w = n e in subst (λ t. IsName (encode_utf8_all t)) (sym (spelled at len text is some w.0 kind)) w.1) (All-nil IsNamedScan)
  piece_named piece.Open at breaks text is some n = All-cons IsNamedScan _ [] (λ e. absurd (cc)) (All-nil IsNamedScan)

  scan_named : (n at : ℕ) (breaks : Bool) (text : Text) → text ≡ drop at source → All IsNamedScan (scan_from n at breaks text)
  unfolding scan_from
  scan_named zero at breaks text is = All-nil IsNamedScan
  scan_named (suc n) at breaks [] is = All-nil IsNamedScan
  scan_named (suc n) at breaks (b ∷ z) is =
      let len = len_of (front (b ∷ z)) (b ∷ z) in
      All-append IsNamedScan (tokens_of_piece (front (b ∷ z)) at breaks (b ∷ z)) _
      (piece_named (front (b ∷ z)) at breaks (b ∷ z) is (omega arith) (front_named b z))
      (scan_named n (at + len) (breaks_after (front (b ∷ z)) breaks (b ∷ z)) (drop len (b ∷ z)) (ap (drop len) is ∙ drop-drop len at source))

  one_named : (before : TokenKind) (brackets : List TokenKind) (s : Scanned) → IsNamedScan s → All (IsNamed source) (with_separator before brackets s)
  one_named before brackets s n = go (inserts before brackets s)
    where
      go : (b : Bool) → All (IsNamed source) (if b then record { kind = k.Semicolon; at = s.token.at; end = s.token.at } ∷ s.token ∷ [] else s.token ∷ [])
      go true = All-cons (IsNamed source) _ (s.token ∷ []) (λ e. absurd (cc)) (All-cons (IsNamed source) s.token [] n (All-nil (IsNamed source)))
      go false = All-cons (IsNamed source) s.token [] n (All-nil (IsNamed source))

  separated_named : (before : TokenKind) (brackets : List TokenKind) (ss : List Scanned) → All IsNamedScan ss → All (IsNamed source) (separated before brackets ss)
  separated_named before brackets [] h = All-nil (IsNamed source)
  separated_named before brackets (s ∷ rest) h = All-append (IsNamed source) (with_separator before brackets s) _ (one_named before brackets s (All-head IsNamedScan s rest h))
      (separated_named s.token.kind (opened brackets s.token.kind) rest (All-tail IsNamedScan s rest h))

pub tokens_named : (source : Text) → All (IsNamed source) (tokens_of source)
unfolding tokens_of
tokens_named source = separated_named source k.End [] (scanned source) (scan_named source (length source) 0 false source refl)
