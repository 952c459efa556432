-- Words, names and signs at the front of a text.
use Rattle.std.proofs.Common.{◌≡◌, ℕ, ◌==◌, Bool, true, false, not, ◌&&◌, ◌||◌, nat_le, nat_lt, if◌then◌else◌, List, [], ◌∷◌, ◌++◌, length, take, Contains, slice_index, codes, refl, ap, subst, ◌∙◌, arith}
use Rattle.std.specs.Char.{is_ascii_digit, is_ascii_alphabetic}
use Rattle.std.specs.List.{list_all, list_any, prefix_len}
use Rattle.std.specs.Str.{bytes_eq}
use Rattle.std.proofs.lemmas.Slice.Eq.{bytes_eq-Decides}
use Rattle.std.proofs.lemmas.List.Folds.{Any-from_list_any}
use Rattle.sp_words.specs.Names.{IsName, is_name as is_named, is_letter, is_name_byte, reserved_words}
use Rattle.sp_reader.specs.Classes.{is_in, past}
use Rattle.sp_reader.specs.declared.class.Class.TheVariants.{Word}
use Rattle.sp_reader.specs.declared.scan.Piece.TheVariants as piece
use Rattle.sp_reader.specs.declared.token.TokenKind.{TokenKind}
use Rattle.sp_reader.specs.declared.token.TokenKind.TheVariants as k
use Rattle.sp_reader.specs.Steps.{Text, is_name}
use Rattle.sp_reader.specs.Tokens.{lookup, words, word_kind, first_sign, signs, sign_of, front, is_blank, opened, may_end, may_begin}
use Rattle.sp_scanned.specs.From.{Fronts, stops}
use Rattle.sp_scanned.proofs.Steps.{take_past}

-- ---- Booleans

pub both_left : (a b : Bool) → (a && b) ≡ true → a ≡ true
both_left true b e = refl
both_left false b e = absurd (cc)

pub both_right : (a b : Bool) → (a && b) ≡ true → b ≡ true
both_right true b e = e
both_right false b e = absurd (cc)

pub not_true : (a : Bool) → not a ≡ true → a ≡ false
not_true true e = absurd (cc)
not_true false e = refl

-- a text is over, or begins with a byte that isn't of the class
abbrev pub StopsAt : (ℕ → Bool) → Text → Type 0
StopsAt p [] = Unit {0}
StopsAt p (b ∷ z) = p b ≡ false

pub stops_at : (p : ℕ → Bool) (rest : Text) → p (slice_index rest 0) ≡ false → StopsAt p rest
stops_at p [] e = tt
stops_at p (b ∷ z) e = e

-- a run ends where its class does
pub runs : (p : ℕ → Bool) (xs rest : Text) → list_all p xs ≡ true → StopsAt p rest → prefix_len p (xs ++ rest) ≡ length xs
runs p [] [] all stop = refl
runs p [] (b ∷ z) all stop = rw stop refl
runs p (x ∷ xs) rest all stop =
    let here = both_left (p x) (list_all p xs) all in
    let more = runs p xs rest (both_right (p x) (list_all p xs) all) stop in
    rw here (omega (arith, more))

-- ---- words

letter_byte : (b : ℕ) → is_letter b ≡ true → (is_blank b ≡ false) × ((b == 47) ≡ false) × (is_ascii_alphabetic b ≡ true)
letter_byte b e = (grind arith, grind arith, grind arith)

word_byte : (b : ℕ) → is_name_byte b ≡ true → is_in Word b ≡ true
word_byte b e = either (nat_le 65 b && nat_le b 90) (nat_le 97 b && nat_le b 122) (nat_le 48 b && nat_le b 57) (b == 95) e
  where
    either : (a c d f : Bool) → ((a || c) || (d || f)) ≡ true → (((d || a) || c) || f) ≡ true
    either a c true f e = refl
    either true c false f e = refl
    either false true false f e = refl
    either false false false f e = e

word_bytes : (xs : Text) → list_all is_name_byte xs ≡ true → list_all (is_in Word) xs ≡ true
word_bytes [] e = refl
word_bytes (x ∷ xs) e = rw (word_byte x (both_left (is_name_byte x) (list_all is_name_byte xs) e), word_bytes xs (both_right (is_name_byte x) (list_all is_name_byte xs) e)) refl

letter_first : (b : ℕ) → is_letter b ≡ true → is_name_byte b ≡ true
letter_first b e = rw e refl

same_word : (n m : ℕ) (text w : Text) → n ≡ m → take m text ≡ w → piece.Token (word_kind (take n text)) n ≡ piece.Token (word_kind w) m
same_word n m text w count taken = rw (count, taken) refl

by_letter : (b : ℕ) (z : Text) → is_letter b ≡ true → front (b ∷ z) ≡ piece.Token (word_kind (take (past Word (b ∷ z) 0) (b ∷ z))) (past Word (b ∷ z) 0)
unfolding front
by_letter b z letter = let l = letter_byte b letter in rw (l.0, l.1, l.2) refl

looked : (w : Text) → word_kind w ≡ lookup words w
unfolding word_kind
looked w = refl

pub word_front : (w rest : Text) → is_named w ≡ true → is_in Word (slice_index rest 0) ≡ false → Fronts (lookup words w) w rest
word_front [] rest e stop = absurd (cc)
word_front (b ∷ z) rest e stop =
    let letter = both_left (is_letter b) (list_all is_name_byte z) e in
    let bytes = word_bytes (b ∷ z) (rw (letter_first b letter, both_right (is_letter b) (list_all is_name_byte z) e) refl) in
    let run = runs (is_in Word) (b ∷ z) rest bytes (stops_at (is_in Word) rest stop) in
    let many : past Word ((b ∷ z) ++ rest) 0 ≡ length (b ∷ z) = omega (arith, run) in
    record {
      some = omega arith;
      is = by_letter b (z ++ rest) letter ∙ same_word (past Word ((b ∷ z) ++ rest) 0) (length (b ∷ z)) ((b ∷ z) ++ rest) (b ∷ z) many (take_past (b ∷ z) rest) ∙ ap (λ x. piece.Token x (length (b ∷ z))) (looked (b ∷ z));
    }

-- a keyword
pub keyword_before : (w rest : Text) (kind : TokenKind) → is_named w ≡ true → lookup words w ≡ kind → is_in Word (slice_index rest 0) ≡ false → Fronts kind w rest
keyword_before w rest kind named is stop = subst (λ x. Fronts x w rest) is (word_front w rest named stop)

pub keyword : (w rest : Text) (kind : TokenKind) → is_named w ≡ true → lookup words w ≡ kind → stops rest ≡ true → Fronts kind w rest
keyword w rest kind named is stop = keyword_before w rest kind named is (not_true (is_in Word (slice_index rest 0)) (both_left (not (is_in Word (slice_index rest 0))) _ stop))

-- ---- names

-- an entry of the table is reserved, or names something
abbrev fine : Text × TokenKind → Bool
fine entry = is_name entry.1 || list_any (λ r. bytes_eq r entry.0) reserved_words

words_are_fine : list_all fine words ≡ true
words_are_fine = refl

reserved : (w v : Text) → bytes_eq v w ≡ true → list_any (λ r. bytes_eq r v) reserved_words ≡ true → Contains reserved_words w
reserved w v same there =
    let found = Any-from_list_any (λ r. bytes_eq r v) reserved_words there in
    let is : found.1 ≡ v = (bytes_eq-Decides found.1 v).0 found.4 in
    let is_too : v ≡ w = (bytes_eq-Decides v w).0 same in
    let whole = is ∙ is_too in
    (found.0, found.2, rw whole at found.3)

looked_up : (table : List (Text × TokenKind)) (w : Text) → list_all fine table ≡ true → (Contains reserved_words w → ⊥) → is_name (lookup table w) ≡ true
looked_up [] w all free = refl
looked_up (e ∷ es) w all free = go (bytes_eq e.0 w) refl (looked_up es w (both_right (fine e) (list_all fine es) all) free)
  where
    kind : (n r : Bool) → is_name e.1 ≡ n → (n || r) ≡ true → (r ≡ true → ⊥) → is_name e.1 ≡ true
    kind true r is f free_of = is
    kind false true is f free_of = absurd (free_of refl)
    kind false false is f free_of = absurd (cc)

    go : (b : Bool) → bytes_eq e.0 w ≡ b → is_name (lookup es w) ≡ true → is_name (if◌then◌else◌ {A = TokenKind} b e.1 (lookup es w)) ≡ true
    go true same rest = kind (is_name e.1) (list_any (λ r. bytes_eq r e.0) reserved_words) refl (both_left (fine e) (list_all fine es) all) (λ there. free (reserved w e.0 same there))
    go false same rest = rest

-- a name's token is of one of these kinds
pub data IsNameKind : TokenKind → Type 0 where
  plain : IsNameKind k.Name
  to : IsNameKind k.To
  value : IsNameKind k.Value
  enq : IsNameKind k.Enq
  deq : IsNameKind k.Deq
  gather : IsNameKind k.Gather
  scatter : IsNameKind k.Scatter

name_kind : (kind : TokenKind) → is_name kind ≡ true → IsNameKind kind
name_kind k.Name e = plain
name_kind k.To e = to
name_kind k.Value e = value
name_kind k.Enq e = enq
name_kind k.Deq e = deq
name_kind k.Gather e = gather
name_kind k.Scatter e = scatter
name_kind _ e = absurd (cc)

-- what is said of the token of a name
pub record NameToken (kind : TokenKind) : Type 0 where
  pub named : is_name kind ≡ true
  pub ends : may_end kind ≡ true
  pub begins : may_begin kind ≡ true
  pub no_bracket : (brackets : List TokenKind) → opened brackets kind ≡ brackets

name_token : {kind : TokenKind} → IsNameKind kind → NameToken kind
name_token IsNameKind.plain = record { named = refl; ends = refl; begins = refl; no_bracket = λ b. refl }
name_token IsNameKind.to = record { named = refl; ends = refl; begins = refl; no_bracket = λ b. refl }
name_token IsNameKind.value = record { named = refl; ends = refl; begins = refl; no_bracket = λ b. refl }
name_token IsNameKind.enq = record { named = refl; ends = refl; begins = refl; no_bracket = λ b. refl }
name_token IsNameKind.deq = record { named = refl; ends = refl; begins = refl; no_bracket = λ b. refl }
name_token IsNameKind.gather = record { named = refl; ends = refl; begins = refl; no_bracket = λ b. refl }
name_token IsNameKind.scatter = record { named = refl; ends = refl; begins = refl; no_bracket = λ b. refl }

pub record NameFronts (w rest : Text) : Type 0 where
  pub kind : TokenKind
  pub token : NameToken kind
  pub fronts : Fronts kind w rest

-- a name is one token
pub name_front : (w rest : Text) → IsName w → stops rest ≡ true → NameFronts w rest
name_front w rest n stop = record {
  kind = lookup words w;
  token = name_token (name_kind (lookup words w) (looked_up words w words_are_fine n.free));
  fronts = word_front w rest n.letters (not_true (is_in Word (slice_index rest 0)) (both_left (not (is_in Word (slice_index rest 0))) _ stop));
}

-- ---- signs

abbrev is_sign_byte : ℕ → Bool
is_sign_byte b = not (is_blank b) && (not (b == 47) && (not (is_ascii_alphabetic b) && (not (is_ascii_digit b) && (not (b == 95) && nat_lt b 128))))

pub sign : (b : ℕ) (z rest : Text) (kind : TokenKind) → is_sign_byte b ≡ true → first_sign signs ((b ∷ z) ++ rest) ≡ (kind, length (b ∷ z)) → Fronts kind (b ∷ z) rest
unfolding front sign_of
sign b z rest kind byte is =
    let a1 = not_true (is_blank b) (both_left (not (is_blank b)) _ byte) in
    let b1 = both_right (not (is_blank b)) _ byte in
    let a2 = not_true (b == 47) (both_left (not (b == 47)) _ b1) in
    let b2 = both_right (not (b == 47)) _ b1 in
    let a3 = not_true (is_ascii_alphabetic b) (both_left (not (is_ascii_alphabetic b)) _ b2) in
    let b3 = both_right (not (is_ascii_alphabetic b)) _ b2 in
    let a4 = not_true (is_ascii_digit b) (both_left (not (is_ascii_digit b)) _ b3) in
    let b4 = both_right (not (is_ascii_digit b)) _ b3 in
    let a5 = not_true (b == 95) (both_left (not (b == 95)) _ b4) in
    let b5 = both_right (not (b == 95)) _ b4 in
    record { some = omega arith; is = rw (a1, a2, a3, a4, a5, b5, is) refl }

pub slash : (rest : Text) → Fronts k.Slash (codes "/") (32 ∷ rest)
unfolding front
slash rest = record { some = omega arith; is = refl }

-- `_` alone, before a blank or a bracket that closes
pub wild_blank : (rest : Text) → Fronts k.Wild (codes "_") (codes " " ++ rest)
unfolding front
wild_blank rest = record { some = omega arith; is = refl }

pub wild_close : (rest : Text) → Fronts k.Wild (codes "_") (codes "}" ++ rest)
unfolding front
wild_close rest = record { some = omega arith; is = refl }
