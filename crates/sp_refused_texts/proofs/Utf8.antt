-- What is cut of a UTF-8 text behind an ASCII byte is UTF-8, and so are spelled tokens.
use Rattle.std.proofs.Common.{◌≡◌, ℕ, zero, suc, ◌+◌, ◌≤◌, ◌<◌, ◌==◌, Bool, true, false, nat_lt, List, [], ◌∷◌, ◌++◌, length, take, Some, None, refl, subst, arith, if◌then◌else◌}
use Rattle.std.specs.Prelude.{slice_index}
use Rattle.std.specs.List.{list_all}
use Rattle.std.specs.Str.{IsUtf8, IsCharBoundary, is_utf8}
use Rattle.std.specs.Str.Lossy.{valid_len_up_to, utf8_valid_len}
use Rattle.std.proofs.lemmas.List.{take_all}
use Rattle.std.proofs.lemmas.Str.{IsUtf8-nil, IsUtf8-append, IsUtf8-take, IsUtf8-from_ascii, IsUtf8-from_is_utf8, IsCharBoundary-after_ascii, utf8_valid_len-IsUtf8}
use Rattle.sp_reader.specs.declared.token.Token.{Token}
use Rattle.sp_reader.specs.declared.token.TokenKind.{TokenKind}
use Rattle.sp_reader.specs.declared.token.TokenKind.TheVariants as k
use Rattle.sp_reader.specs.Limits.{fault_of}
use Rattle.sp_reader.specs.Steps.{Text}
use Rattle.sp_refused_texts.proofs.Fronts.{both_left, both_right}
use Rattle.sp_refused_texts.proofs.Low.{IsLow}
use Rattle.sp_refused_texts.proofs.Spelled.{spelled_as, spelled}

-- ---- a text without a fault

valid_upto : (bs : Text) (n : ℕ) → valid_len_up_to bs n ≤ n
valid_upto bs zero = omega arith
valid_upto bs (suc n) = go (is_utf8 (take (suc n) bs)) (valid_upto bs n)
  where
    go : (b : Bool) → valid_len_up_to bs n ≤ n → (if b then suc n else valid_len_up_to bs n) ≤ suc n
    go true le = omega arith
    go false le = omega (arith, le)

all_valid : (text : Text) → utf8_valid_len text ≡ length text → IsUtf8 text
unfolding utf8_valid_len
all_valid [] e = IsUtf8-nil
all_valid (b ∷ z) e = go (is_utf8 (take (suc (length z)) (b ∷ z))) refl e
  where
    go : (c : Bool) → is_utf8 (take (suc (length z)) (b ∷ z)) ≡ c → (if c then suc (length z) else valid_len_up_to (b ∷ z) (length z)) ≡ suc (length z) → IsUtf8 (b ∷ z)
    go true is e = subst IsUtf8 (take_all (suc (length z)) (b ∷ z) (omega arith)) (IsUtf8-from_is_utf8 (take (suc (length z)) (b ∷ z)) is)
    go false is e = absurd (let le = valid_upto (b ∷ z) (length z) in omega (arith, le, e))

pub utf8_of : (text : Text) → fault_of text ≡ None → IsUtf8 text
unfolding fault_of
utf8_of text e = go (utf8_valid_len text == length text) refl e
  where
    go : (b : Bool) → (utf8_valid_len text == length text) ≡ b → (if b then None else Some (utf8_valid_len text)) ≡ None → IsUtf8 text
    go true is e = all_valid text (grind arith)
    go false is e = absurd (cc)

pub no_fault : (text : Text) → IsUtf8 text → fault_of text ≡ None
unfolding fault_of
no_fault text u = let same : (utf8_valid_len text == length text) ≡ true = (let e = utf8_valid_len-IsUtf8 text u in grind arith) in rw same refl

-- ---- parts of it

pub cut_utf8 : (source : Text) (count : ℕ) → IsUtf8 source → count ≤ length source → IsLow source count → IsUtf8 (take count source)
cut_utf8 source zero u le low = IsUtf8-nil
cut_utf8 source (suc m) u le low =
    let on : m + 1 ≡ suc m = omega arith in
    IsUtf8-take source (suc m) u (subst (IsCharBoundary source) on (IsCharBoundary-after_ascii source m u (omega (arith, le)) (low m refl)))

ascii_of : (bytes : Text) → list_all (λ c. nat_lt c 128) bytes ≡ true → IsUtf8 bytes
ascii_of bytes all = IsUtf8-from_ascii bytes (each bytes all)
  where
    each : (bytes : Text) → list_all (λ c. nat_lt c 128) bytes ≡ true → (i : ℕ) → slice_index bytes i < 128
    each [] all i = omega arith
    each (b ∷ bytes) all zero = let first = both_left (nat_lt b 128) (list_all (λ c. nat_lt c 128) bytes) all in grind arith
    each (b ∷ bytes) all (suc i) = each bytes (both_right (nat_lt b 128) (list_all (λ c. nat_lt c 128) bytes) all) i

spelled_low : (kind : TokenKind) → list_all (λ c. nat_lt c 128) (spelled_as kind) ≡ true
spelled_low k.Other = refl
spelled_low _ = refl

pub spelled_utf8 : (ts : List Token) → IsUtf8 (32 ∷ spelled ts)
spelled_utf8 [] = ascii_of (32 ∷ []) refl
spelled_utf8 (t ∷ ts) = IsUtf8-append (32 ∷ []) (spelled_as t.kind ++ 32 ∷ spelled ts) (ascii_of (32 ∷ []) refl) (IsUtf8-append (spelled_as t.kind) (32 ∷ spelled ts) (ascii_of (spelled_as t.kind) (spelled_low t.kind)) (spelled_utf8 ts))
