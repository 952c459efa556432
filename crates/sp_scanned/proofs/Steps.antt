-- A text is taken one token, blank or line end after the other.
use Rattle.std.proofs.Common.{◌≡◌, ℕ, zero, suc, ◌+◌, ◌-◌, ◌≤◌, ◌&&◌, ◌||◌, ◌==◌, nat_le, Bool, true, false, if◌then◌else◌, List, [], ◌∷◌, ◌++◌, length, take, drop, length-append, refl, sym, ap, ◌∙◌, append_assoc, arith}
use Rattle.sp_reader.specs.declared.scan.Piece.TheVariants as piece
use Rattle.sp_reader.specs.declared.token.Token.{Token}
use Rattle.sp_reader.specs.declared.token.TokenKind.{TokenKind}
use Rattle.sp_reader.specs.declared.token.TokenKind.TheVariants as k
use Rattle.sp_reader.specs.Steps.{Text, spelling_of}
use Rattle.sp_reader.specs.Tokens.{scan_from, separated, front, opened, may_begin, may_end, token_of, tokens_of}
use Rattle.sp_scanned.specs.From.{From, Fronts, Taken, splits}

pub drop_past : {A : Type 0} (xs ys : List A) → drop (length xs) (xs ++ ys) ≡ ys
drop_past [] ys = refl
drop_past (x ∷ xs) ys = drop_past xs ys

pub take_past : {A : Type 0} (xs ys : List A) → take (length xs) (xs ++ ys) ≡ xs
take_past [] ys = refl
take_past (x ∷ xs) ys = ap (λ l. x ∷ l) (take_past xs ys)

-- what one token at the front leaves to be scanned
scan_token : (n at : ℕ) (breaks : Bool) (kind : TokenKind) (bytes rest : Text) → Fronts kind bytes rest
    → scan_from (suc n) at breaks (bytes ++ rest) ≡ token_of kind at (at + length bytes) breaks ∷ scan_from n (at + length bytes) false rest
unfolding scan_from
scan_token n at breaks kind [] rest f = absurd (omega (arith, f.some))
scan_token n at breaks kind (b ∷ z) rest f = rw (f.is, drop_past (b ∷ z) rest) refl

spelled : (source : Text) (kind : TokenKind) (done bytes rest : Text) (at : ℕ) → source ≡ done ++ (bytes ++ rest) → at ≡ length done
    → spelling_of source (record { kind = kind; at = at; end = at + length bytes }) ≡ bytes
unfolding spelling_of
spelled source kind done bytes rest at joined place =
    let total = ap (λ (t : Text). length t) joined in
    let l1 = length-append done (bytes ++ rest) in
    let l2 = length-append bytes rest in
    let in_order : nat_le at (at + length bytes) ≡ true = grind arith in
    let within : nat_le (at + length bytes) (length source) ≡ true = grind arith in
    let many : (at + length bytes) - at ≡ length bytes = omega arith in
    rw (in_order, within, many, joined, place, drop_past done (bytes ++ rest), take_past bytes rest) refl

-- a token at the front is taken
pub token_step : {source : Text} {before kind : TokenKind} {brackets : List TokenKind} {ts : List Token} (bytes rest : Text)
    → From source false before brackets (bytes ++ rest) ts → Fronts kind bytes rest → Taken source kind bytes (opened brackets kind) rest ts
token_step {source} {before} {kind} {brackets} {ts} bytes rest h f = go h.turns h.enough h.are
  where
    go : (turns : ℕ) → length (bytes ++ rest) ≤ turns → ts ≡ separated before brackets (scan_from turns h.at false (bytes ++ rest)) → Taken source kind bytes (opened brackets kind) rest ts
    go zero enough are = absurd (omega (arith, f.some, enough, length-append bytes rest))
    go (suc n) enough are = record {
      token = (token_of kind h.at (h.at + length bytes) false).token;
      left = separated kind (opened brackets kind) (scan_from n (h.at + length bytes) false rest);
      is = are ∙ ap (separated before brackets) (scan_token n h.at false kind bytes rest f);
      of_kind = refl;
      spells = spelled source kind h.done bytes rest h.at h.joined h.place;
      next = record {
        done = h.done ++ bytes;
        joined = h.joined ∙ sym (append_assoc h.done bytes rest);
        at = h.at + length bytes;
        place = omega (arith, h.place, length-append h.done bytes);
        turns = n;
        enough = omega (arith, f.some, enough, length-append bytes rest);
        are = refl;
      };
    }

-- a blank and a line end are passed
gap_step : {source : Text} {before : TokenKind} {brackets : List TokenKind} {ts : List Token} (b : ℕ) (rest : Text) (breaks after : Bool)
    → front (b ∷ rest) ≡ piece.Gap 1 → (breaks || (b == 10 || false)) ≡ after
    → From source breaks before brackets (b ∷ rest) ts → From source after before brackets rest ts
unfolding scan_from
gap_step {source} {before} {brackets} {ts} b rest breaks after gap ends h = go h.turns h.enough h.are
  where
    one : (n : ℕ) → scan_from (suc n) h.at breaks (b ∷ rest) ≡ scan_from n (h.at + 1) after rest
    one n = rw (gap, ends) refl

    go : (turns : ℕ) → length (b ∷ rest) ≤ turns → ts ≡ separated before brackets (scan_from turns h.at breaks (b ∷ rest)) → From source after before brackets rest ts
    go zero enough are = absurd (omega (arith, enough))
    go (suc n) enough are = record {
      done = h.done ++ b ∷ [];
      joined = h.joined ∙ sym (append_assoc h.done (b ∷ []) rest);
      at = h.at + 1;
      place = omega (arith, h.place, length-append h.done (b ∷ []));
      turns = n;
      enough = omega (arith, enough);
      are = are ∙ ap (separated before brackets) (one n);
    }

same_breaks : (breaks : Bool) → (breaks || false) ≡ breaks
same_breaks true = refl
same_breaks false = refl

pub blank_step : {source : Text} {breaks : Bool} {before : TokenKind} {brackets : List TokenKind} {ts : List Token} (rest : Text)
    → From source breaks before brackets (32 ∷ rest) ts → From source breaks before brackets rest ts
unfolding front
blank_step {breaks = breaks} rest h = gap_step 32 rest breaks breaks refl (same_breaks breaks) h

always : (breaks : Bool) → (breaks || true) ≡ true
always true = refl
always false = refl

pub line_step : {source : Text} {breaks : Bool} {before : TokenKind} {brackets : List TokenKind} {ts : List Token} (rest : Text)
    → From source breaks before brackets (10 ∷ rest) ts → From source true before brackets rest ts
unfolding front
line_step {breaks = breaks} rest h = gap_step 10 rest breaks true refl (always breaks) h

-- ---- the beginning of a text and its end

pub at_start : (source : Text) → From source false k.End [] source (tokens_of source)
unfolding tokens_of
at_start source = record { done = []; joined = refl; at = 0; place = refl; turns = length source; enough = omega arith; are = refl }

pub at_end : {source : Text} {breaks : Bool} {before : TokenKind} {brackets : List TokenKind} {ts : List Token} → From source breaks before brackets [] ts → ts ≡ []
unfolding scan_from
at_end {source} {breaks} {before} {brackets} {ts} h = go h.turns h.are
  where
    go : (turns : ℕ) → ts ≡ separated before brackets (scan_from turns h.at breaks []) → ts ≡ []
    go zero are = are
    go (suc n) are = are

-- ---- line ends

-- the same text without the line end before it
pub unbroken : {source : Text} {before : TokenKind} {brackets : List TokenKind} {rest : Text} {ts : List Token} → From source true before brackets rest ts → List Token
unbroken {before = before} {brackets = brackets} {rest = rest} h = separated before brackets (scan_from h.turns h.at false rest)

pub as_unbroken : {source : Text} {before : TokenKind} {brackets : List TokenKind} {rest : Text} {ts : List Token} (h : From source true before brackets rest ts)
    → From source false before brackets rest (unbroken h)
unfolding unbroken
as_unbroken h = record { done = h.done; joined = h.joined; at = h.at; place = h.place; turns = h.turns; enough = h.enough; are = refl }

-- where a text begins with a token, a line end before it does nothing but insert a `;`
pub broken : {source : Text} {before : TokenKind} {brackets : List TokenKind} {rest : Text} {ts : List Token} (h : From source true before brackets rest ts)
    → (kind : TokenKind) (len : ℕ) → 1 ≤ length rest → front rest ≡ piece.Token kind len
    → ts ≡ (if may_end before && may_begin kind && splits brackets then record { kind = k.Semicolon; at = h.at; end = h.at } ∷ unbroken h else unbroken h)
unfolding unbroken scan_from
broken {source} {before} {brackets} {rest} {ts} h kind len some is = h.are ∙ go rest h.turns some h.enough is
  where
    by : (b : Bool) (s : Token) (more : List Token) → (if b then record { kind = k.Semicolon; at = s.at; end = s.at } ∷ s ∷ [] else s ∷ []) ++ more ≡ (if b then record { kind = k.Semicolon; at = s.at; end = s.at } ∷ s ∷ more else s ∷ more)
    by true s more = refl
    by false s more = refl

    go : (rest : Text) (turns : ℕ) → 1 ≤ length rest → length rest ≤ turns → front rest ≡ piece.Token kind len
        → separated before brackets (scan_from turns h.at true rest)
        ≡ (if may_end before && may_begin kind && splits brackets then record { kind = k.Semicolon; at = h.at; end = h.at } ∷ separated before brackets (scan_from turns h.at false rest) else separated before brackets (scan_from turns h.at false rest))
    go [] turns some enough is = absurd (omega (arith, some))
    go (b ∷ z) zero some enough is = absurd (omega (arith, enough))
    go (b ∷ z) (suc n) some enough is = rw is (by (may_end before && may_begin kind && splits brackets) (record { kind = kind; at = h.at; end = h.at + len }) (separated kind (opened brackets kind) (scan_from n (h.at + len) false (drop len (b ∷ z)))))
