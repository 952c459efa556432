-- The tokens of a text that is cut behind one of them or before it, with nothing or a blank behind.
use Rattle.std.proofs.Common.{◌≡◌, ◌∙◌, ◌⊎◌, inl, inr, ℕ, zero, suc, ◌+◌, ◌-◌, ◌≤◌, ◌<◌, ◌==◌, not, nat_le, nat_lt, Bool, true, false, List, [], ◌∷◌, ◌++◌, length, take, drop, length-append, length-take, length-drop, refl, sym, ap, subst, arith}
use Rattle.std.specs.Prelude.{slice_index}
use Rattle.std.proofs.lemmas.List.{take-append-drop, get_or-drop}
use Rattle.sp_reader.specs.declared.scan.Piece.{Piece}
use Rattle.sp_reader.specs.declared.scan.Piece.TheVariants as piece
use Rattle.sp_reader.specs.declared.scan.Scanned.{Scanned}
use Rattle.sp_reader.specs.declared.token.TokenKind.{TokenKind}
use Rattle.sp_reader.specs.declared.token.TokenKind.TheVariants as k
use Rattle.sp_reader.specs.Steps.{Text}
use Rattle.sp_reader.specs.Tokens.{front, token_of, scan_from, scanned}
use Rattle.sp_refusals.proofs.Within.{PieceWithin, front_within}
use Rattle.sp_refused_texts.proofs.Fronts.{Fits, NoLineEnd, Kin, is_written, fits_upto, front_again}
use Rattle.sp_refused_texts.proofs.Low.{IsLow, EndsLow, ends_low}
use Rattle.sp_refused_texts.proofs.Order.{breaks_then, scan_gap, scan_token, scan_open, scan_none, scan_stopped, scan_dropped, some_byte, AreOrdered, scanned_ordered, before_one}

-- ---- a text that is cut

-- the tokens of the first so many bytes of a text and others behind begin with these; of those that follow it holds what is told
abbrev Leads : ℕ → Bool → Text → ℕ → List Scanned → (Text → List Scanned → Type 0) → Type 0
Leads at breaks text count found Told =
    (z : Text) (n : ℕ) → slice_index z 0 ≤ 32 → length (take count text ++ z) ≤ n → (ss : List Scanned) × (scan_from n at breaks (take count text ++ z) ≡ found ++ ss) × Told z ss

drop_cut : (len count : ℕ) (text z : Text) → len ≤ count → count ≤ length text → drop len (take count text ++ z) ≡ take (count - len) (drop len text) ++ z
drop_cut zero count text z le few = let same : count - 0 ≡ count = omega arith in rw same refl
drop_cut (suc len) zero text z le few = absurd (omega (arith, le))
drop_cut (suc len) (suc count) [] z le few = absurd (omega (arith, few))
drop_cut (suc len) (suc count) (b ∷ text) z le few =
    let same : suc count - suc len ≡ count - len = omega arith in rw same (drop_cut len count text z (omega (arith, le)) (omega (arith, few)))

take_cut : (len count : ℕ) (text z : Text) → len ≤ count → count ≤ length text → take len (take count text ++ z) ≡ take len text
take_cut zero count text z le few = refl
take_cut (suc len) zero text z le few = absurd (omega (arith, le))
take_cut (suc len) (suc count) [] z le few = absurd (omega (arith, few))
take_cut (suc len) (suc count) (b ∷ text) z le few = ap (λ l. b ∷ l) (take_cut len count text z (omega (arith, le)) (omega (arith, few)))

cut_length : (count : ℕ) (text z : Text) → count ≤ length text → length (take count text ++ z) ≡ count + length z
cut_length count text z few = let a = length-append (take count text) z in let b = length-take count text in omega (arith, a, b, few)

-- a piece of a text is one of the text that is cut behind it
cut_front : (b : ℕ) (t : Text) (count : ℕ) (z : Text) → slice_index z 0 ≤ 32 → 1 ≤ count → count ≤ length (b ∷ t) → Fits count (drop count (b ∷ t)) (front (b ∷ t)) → Kin (front (b ∷ t)) (front (take count (b ∷ t) ++ z))
cut_front b t zero z edge some few fits = absurd (omega (arith, some))
cut_front b t (suc count) z edge some few fits =
    let whole = take-append-drop count t in
    let many : length (b ∷ take count t) ≡ suc count = (let l = length-take count t in omega (arith, l, few)) in
    let fit : Fits (length (b ∷ take count t)) (drop count t) (front (b ∷ (take count t ++ drop count t))) = rw (whole, many) fits in
    subst (λ x. Kin (front (b ∷ x)) (front (b ∷ (take count t ++ z)))) whole (front_again b (take count t) (drop count t) z edge fit)

cut_piece : (b : ℕ) (t : Text) (count : ℕ) (z : Text) (p : Piece) → front (b ∷ t) ≡ p → slice_index z 0 ≤ 32 → 1 ≤ count → count ≤ length (b ∷ t) → Fits count (drop count (b ∷ t)) p → Kin p (front (take count (b ∷ t) ++ z))
cut_piece b t count z p is edge some few fits = subst (λ q. Kin q (front (take count (b ∷ t) ++ z))) is (cut_front b t count z edge some few (subst (Fits count (drop count (b ∷ t))) (sym is) fits))

lead_gap : (at : ℕ) (breaks : Bool) (b : ℕ) (t : Text) (count len : ℕ) (found : List Scanned) (Told : Text → List Scanned → Type 0) → front (b ∷ t) ≡ piece.Gap len → Fits count (drop count (b ∷ t)) (piece.Gap len) → count ≤ length (b ∷ t)
    → Leads (at + len) (breaks_then breaks len (b ∷ t)) (drop len (b ∷ t)) (count - len) found Told → Leads at breaks (b ∷ t) count found Told
lead_gap at breaks b t count len found Told is fits few inner z zero edge enough =
    absurd (let l = cut_length count (b ∷ t) z few in let some : 1 ≤ len = some_byte (b ∷ t) (piece.Gap len) (omega arith) is in let le = fits_upto count len (drop count (b ∷ t)) fits in omega (arith, l, enough, le, some))
lead_gap at breaks b t count len found Told is fits few inner z (suc n) edge enough =
    let l = cut_length count (b ∷ t) z few in
    let le : len ≤ count = fits_upto count len (drop count (b ∷ t)) fits in
    let some : 1 ≤ len = some_byte (b ∷ t) (piece.Gap len) (omega arith) is in
    let again : front (take count (b ∷ t) ++ z) ≡ piece.Gap len = cut_piece b t count z (piece.Gap len) is edge (omega (arith, le, some)) few fits in
    let left = drop_cut len count (b ∷ t) z le few in
    let passed = take_cut len count (b ∷ t) z le few in
    let m = cut_length (count - len) (drop len (b ∷ t)) z (let d = length-drop len (b ∷ t) in omega (arith, d, few, le)) in
    let on = inner z n edge (omega (arith, m, l, enough, le, some)) in
    let step = scan_gap n at breaks (take count (b ∷ t) ++ z) len (omega (arith, l, le, some)) again in
    (on.0, joined (found ++ on.0) step passed left on.1, on.2)
  where
    -- the gap is passed
    joined : (ss : List Scanned) → scan_from (suc n) at breaks (take count (b ∷ t) ++ z) ≡ scan_from n (at + len) (breaks_then breaks len (take count (b ∷ t) ++ z)) (drop len (take count (b ∷ t) ++ z)) → take len (take count (b ∷ t) ++ z) ≡ take len (b ∷ t)
        → drop len (take count (b ∷ t) ++ z) ≡ take (count - len) (drop len (b ∷ t)) ++ z → scan_from n (at + len) (breaks_then breaks len (b ∷ t)) (take (count - len) (drop len (b ∷ t)) ++ z) ≡ ss → scan_from (suc n) at breaks (take count (b ∷ t) ++ z) ≡ ss
    joined ss step passed left on = step ∙ rw (passed, left) on

-- a token, and what is scanned behind it
token_then : (scan ss : List Scanned) (first : Scanned) (n at : ℕ) (old new : Text) → scan ≡ first ∷ scan_from n at false old → old ≡ new → scan_from n at false new ≡ ss → scan ≡ first ∷ ss
token_then scan ss first n at old new step same on = step ∙ ap (λ x. first ∷ scan_from n at false x) same ∙ ap (λ x. first ∷ x) on

lead_token : (at : ℕ) (breaks : Bool) (b : ℕ) (t : Text) (count : ℕ) (kind : TokenKind) (len : ℕ) (found : List Scanned) (Told : Text → List Scanned → Type 0) → front (b ∷ t) ≡ piece.Token kind len → is_written kind ≡ true → len ≤ count → count ≤ length (b ∷ t)
    → Leads (at + len) false (drop len (b ∷ t)) (count - len) found Told → Leads at breaks (b ∷ t) count (token_of kind at (at + len) breaks ∷ found) Told
lead_token at breaks b t count kind len found Told is real le few inner z zero edge enough =
    absurd (let l = cut_length count (b ∷ t) z few in let some : 1 ≤ len = some_byte (b ∷ t) (piece.Token kind len) (omega arith) is in omega (arith, l, enough, le, some))
lead_token at breaks b t count kind len found Told is real le few inner z (suc n) edge enough =
    let l = cut_length count (b ∷ t) z few in
    let some : 1 ≤ len = some_byte (b ∷ t) (piece.Token kind len) (omega arith) is in
    let kin = cut_piece b t count z (piece.Token kind len) is edge (omega (arith, some, le)) few le in
    let again : front (take count (b ∷ t) ++ z) ≡ piece.Token kind len = kin.1 ∙ ap (piece.Token kind) (kin.2 real) in
    let left = drop_cut len count (b ∷ t) z le few in
    let m = cut_length (count - len) (drop len (b ∷ t)) z (let d = length-drop len (b ∷ t) in omega (arith, d, few, le)) in
    let on = inner z n edge (omega (arith, m, l, enough, le, some)) in
    let step = scan_token n at breaks (take count (b ∷ t) ++ z) kind len (omega (arith, l, le, some)) again in
    (on.0, token_then (scan_from (suc n) at breaks (take count (b ∷ t) ++ z)) (found ++ on.0) (token_of kind at (at + len) breaks) n (at + len) (drop len (take count (b ∷ t) ++ z)) (take (count - len) (drop len (b ∷ t)) ++ z) step left on.1, on.2)

-- the first of these is like a token of the text that was cut, and they follow it
pub record Found (s : Scanned) (z : Text) (ss : List Scanned) : Type 0 where
  pub one : Scanned
  pub rest : List Scanned
  pub is : ss ≡ one ∷ rest
  pub of_kind : one.token.kind ≡ s.token.kind
  pub breaks : one.breaks ≡ s.breaks
  pub same : is_written s.token.kind ≡ true → (one ≡ s) × (n : ℕ) × (length z ≤ n) × (rest ≡ scan_from n s.token.end false z)

no_bytes : (len : ℕ) (text z : Text) → len ≤ length text → drop len (take len text ++ z) ≡ z
no_bytes len text z few = let none : len - len ≡ 0 = omega arith in drop_cut len len text z (omega arith) few ∙ ap (λ m. take m (drop len text) ++ z) none

lead_last : (at : ℕ) (breaks : Bool) (b : ℕ) (t : Text) (kind : TokenKind) (len : ℕ) → front (b ∷ t) ≡ piece.Token kind len → len ≤ length (b ∷ t)
    → Leads at breaks (b ∷ t) len [] (Found (token_of kind at (at + len) breaks))
lead_last at breaks b t kind len is few z zero edge enough =
    absurd (let l = cut_length len (b ∷ t) z few in let some : 1 ≤ len = some_byte (b ∷ t) (piece.Token kind len) (omega arith) is in omega (arith, l, enough, some))
lead_last at breaks b t kind len is few z (suc n) edge enough =
    let l = cut_length len (b ∷ t) z few in
    let some : 1 ≤ len = some_byte (b ∷ t) (piece.Token kind len) (omega arith) is in
    let kin = cut_piece b t len z (piece.Token kind len) is edge some few (omega arith) in
    let step = scan_token n at breaks (take len (b ∷ t) ++ z) kind kin.0 (omega (arith, l, some)) kin.1 in (
      _,
      step,
      record {
        one = token_of kind at (at + kin.0) breaks;
        rest = scan_from n (at + kin.0) false (drop kin.0 (take len (b ∷ t) ++ z));
        is = refl;
        of_kind = refl;
        breaks = refl;
        same = λ real.
            let e = kin.2 real in
            (ap (λ m. token_of kind at (at + m) breaks) e, n, omega (arith, l, enough, some), ap (λ m. scan_from n (at + m) false (drop m (take len (b ∷ t) ++ z))) e ∙ ap (scan_from n (at + len) false) (no_bytes len (b ∷ t) z few));
      },
    )

-- ---- behind a token

-- tokens that stand in a rule
abbrev pub AreReal : List Scanned → Type 0
AreReal [] = Unit {0}
AreReal (s ∷ rest) = (is_written s.token.kind ≡ true) × AreReal rest

-- the text up to the end of a token begins with it and those before
record IsCut (at : ℕ) (breaks : Bool) (text : Text) (found : List Scanned) (s : Scanned) : Type 0 where
  first : at ≤ s.token.at
  last : s.token.end ≤ at + length text
  low : is_written s.token.kind ≡ true → IsLow text (s.token.end - at)
  leads : Leads at breaks text (s.token.end - at) found (Found s)

-- the byte before a place behind a piece
low_on : (len count : ℕ) (text : Text) → len < count → IsLow (drop len text) (count - len) → IsLow text count
low_on len count text less h m e =
    let here = h (m - len) (omega (arith, e, less)) in
    let there = get_or-drop len text (m - len) 0 in
    let same : len + (m - len) ≡ m = omega (arith, e, less) in
    subst (λ b. b < 128) (there ∙ ap (slice_index text) same) here

none_there : (found : List Scanned) (s : Scanned) (back : List Scanned) → ◌≡◌ {A = List Scanned} [] (found ++ s ∷ back) → ⊥
none_there [] s back e = absurd (cc)
none_there (f ∷ found) s back e = absurd (cc)

cut_gap : (at : ℕ) (breaks : Bool) (b : ℕ) (t : Text) (len : ℕ) (found : List Scanned) (s : Scanned) → front (b ∷ t) ≡ piece.Gap len → s.token.at < s.token.end
    → IsCut (at + len) (breaks_then breaks len (b ∷ t)) (drop len (b ∷ t)) found s → IsCut at breaks (b ∷ t) found s
cut_gap at breaks b t len found s is some c =
    let d = length-drop len (b ∷ t) in
    let low = c.first in
    let high = c.last in
    let less : len < s.token.end - at = omega (arith, low, some) in
    let few : s.token.end - at ≤ length (b ∷ t) = omega (arith, d, low, high, some) in
    let same : s.token.end - (at + len) ≡ (s.token.end - at) - len = omega arith in
    record {
      first = omega (arith, low);
      last = omega (arith, d, low, high, some);
      low = λ real. low_on len (s.token.end - at) (b ∷ t) less (subst (IsLow (drop len (b ∷ t))) same (c.low real));
      leads = lead_gap at breaks b t (s.token.end - at) len found (Found s) is (inl less) few (subst (λ m. Leads (at + len) (breaks_then breaks len (b ∷ t)) (drop len (b ∷ t)) m found (Found s)) same c.leads);
    }

cut_token : (at : ℕ) (breaks : Bool) (b : ℕ) (t : Text) (kind : TokenKind) (len : ℕ) (found : List Scanned) (s : Scanned) → front (b ∷ t) ≡ piece.Token kind len → is_written kind ≡ true → s.token.at < s.token.end
    → IsCut (at + len) false (drop len (b ∷ t)) found s → IsCut at breaks (b ∷ t) (token_of kind at (at + len) breaks ∷ found) s
cut_token at breaks b t kind len found s is real some c =
    let d = length-drop len (b ∷ t) in
    let low = c.first in
    let high = c.last in
    let less : len ≤ s.token.end - at = omega (arith, low, some) in
    let few : s.token.end - at ≤ length (b ∷ t) = omega (arith, d, low, high, some) in
    let same : s.token.end - (at + len) ≡ (s.token.end - at) - len = omega arith in
    record {
      first = omega (arith, low);
      last = omega (arith, d, low, high, some);
      low = λ real. low_on len (s.token.end - at) (b ∷ t) (omega (arith, low, some)) (subst (IsLow (drop len (b ∷ t))) same (c.low real));
      leads = lead_token at breaks b t (s.token.end - at) kind len found (Found s) is real less few (subst (λ m. Leads (at + len) false (drop len (b ∷ t)) m found (Found s)) same c.leads);
    }

cut_last : (at : ℕ) (breaks : Bool) (b : ℕ) (t : Text) (kind : TokenKind) (len : ℕ) → front (b ∷ t) ≡ piece.Token kind len → IsCut at breaks (b ∷ t) [] (token_of kind at (at + len) breaks)
cut_last at breaks b t kind len is =
    let few : len ≤ length (b ∷ t) = subst (PieceWithin (length (b ∷ t))) is (front_within b t) in
    let same : len ≡ (at + len) - at = omega arith in
    record {
      first = omega arith;
      last = omega (arith, few);
      low = subst (λ m. is_written kind ≡ true → IsLow (b ∷ t) m) same (subst (EndsLow (b ∷ t)) is (ends_low b t));
      leads = subst (λ m. Leads at breaks (b ∷ t) m [] (Found (token_of kind at (at + len) breaks))) same (lead_last at breaks b t kind len is few);
    }

pub heads : (x y : Scanned) (xs ys : List Scanned) → ◌≡◌ {A = List Scanned} (x ∷ xs) (y ∷ ys) → (x ≡ y) × (xs ≡ ys)
heads x y xs ys e = (cc, cc)

is_cut : (n at : ℕ) (breaks : Bool) (text : Text) (found : List Scanned) (s : Scanned) (back : List Scanned) → scan_from n at breaks text ≡ found ++ s ∷ back → AreReal found → s.token.at < s.token.end → IsCut at breaks text found s
is_cut zero at breaks text found s back e real some = absurd (none_there found s back (sym (scan_stopped at breaks text) ∙ e))
is_cut (suc n) at breaks [] found s back e real some = absurd (none_there found s back (sym (scan_none (suc n) at breaks) ∙ e))
is_cut (suc n) at breaks (b ∷ t) found s back e real some = go (front (b ∷ t)) refl (λ at more text found h real. is_cut n at more text found s back h real some)
  where
    go : (p : Piece) → front (b ∷ t) ≡ p → ((at : ℕ) (more : Bool) (text : Text) (found : List Scanned) → scan_from n at more text ≡ found ++ s ∷ back → AreReal found → IsCut at more text found s) → IsCut at breaks (b ∷ t) found s
    go (piece.Gap len) is next = cut_gap at breaks b t len found s is some (next (at + len) (breaks_then breaks len (b ∷ t)) (drop len (b ∷ t)) found (sym (scan_gap n at breaks (b ∷ t) len (omega arith) is) ∙ e) real)
    go (piece.Token kind len) is next = by found e real
      where
        by : (found : List Scanned) → scan_from (suc n) at breaks (b ∷ t) ≡ found ++ s ∷ back → AreReal found → IsCut at breaks (b ∷ t) found s
        by [] e real =
            let h = heads (token_of kind at (at + len) breaks) s _ back (sym (scan_token n at breaks (b ∷ t) kind len (omega arith) is) ∙ e) in
            subst (IsCut at breaks (b ∷ t) []) h.0 (cut_last at breaks b t kind len is)
        by (f ∷ found) e real =
            let h = heads (token_of kind at (at + len) breaks) f _ (found ++ s ∷ back) (sym (scan_token n at breaks (b ∷ t) kind len (omega arith) is) ∙ e) in
            let kind_real : is_written kind ≡ true = ap (λ (x : Scanned). is_written x.token.kind) h.0 ∙ real.0 in
            subst (λ x. IsCut at breaks (b ∷ t) (x ∷ found) s) h.0 (cut_token at breaks b t kind len found s is kind_real some (next (at + len) false (drop len (b ∷ t)) found h.1 real.1))
    go piece.Open is next = by found e real
      where
        by : (found : List Scanned) → scan_from (suc n) at breaks (b ∷ t) ≡ found ++ s ∷ back → AreReal found → IsCut at breaks (b ∷ t) found s
        by [] e real =
            let h = heads (token_of k.Other (at + length (b ∷ t)) (at + length (b ∷ t)) breaks) s _ back (sym (scan_open n at breaks (b ∷ t) (omega arith) is) ∙ e) in
            let first : at + length (b ∷ t) ≡ s.token.at = ap (λ (x : Scanned). x.token.at) h.0 in
            let last : at + length (b ∷ t) ≡ s.token.end = ap (λ (x : Scanned). x.token.end) h.0 in
            absurd (omega (arith, first, last, some))
        by (f ∷ found) e real =
            let h = heads (token_of k.Other (at + length (b ∷ t)) (at + length (b ∷ t)) breaks) f _ (found ++ s ∷ back) (sym (scan_open n at breaks (b ∷ t) (omega arith) is) ∙ e) in
            let bad : false ≡ true = ap (λ (x : Scanned). is_written x.token.kind) h.0 ∙ real.0 in
            absurd (cc)

-- ---- before a token

-- these are the tokens of what stands at the place of a token
abbrev pub Rest : Scanned → Text → List Scanned → Type 0
Rest s z ss = (n : ℕ) × (length z ≤ n) × (ss ≡ scan_from n s.token.at s.breaks z)

-- the text up to a token begins with those before
record IsBefore (at : ℕ) (breaks : Bool) (text : Text) (found : List Scanned) (s : Scanned) : Type 0 where
  first : at ≤ s.token.at
  last : s.token.at ≤ at + length text
  low : IsLow text (s.token.at - at)
  leads : Leads at breaks text (s.token.at - at) found (Rest s)

line_end_gap : (c : ℕ) (w : Text) → (c == 10) ≡ true → front (c ∷ w) ≡ piece.Gap 1
unfolding front
line_end_gap c w is = let ten : c ≡ 10 = grind arith in rw ten refl

-- what begins with a token begins with no line end
no_line_end : (n at : ℕ) (breaks : Bool) (w : Text) (found : List Scanned) (s : Scanned) (back : List Scanned) → scan_from n at breaks w ≡ found ++ s ∷ back → s.token.at ≡ at → NoLineEnd w
no_line_end zero at breaks w found s back e here = absurd (none_there found s back (sym (scan_stopped at breaks w) ∙ e))
no_line_end (suc n) at breaks [] found s back e here = absurd (none_there found s back (sym (scan_none (suc n) at breaks) ∙ e))
no_line_end (suc n) at breaks (c ∷ w) found s back e here = go (c == 10) refl
  where
    go : (b : Bool) → (c == 10) ≡ b → not b ≡ true
    go true is =
        let passed = scan_gap n at breaks (c ∷ w) 1 (omega arith) (line_end_gap c w is) in
        let ordered = scanned_ordered n (at + 1) (breaks_then breaks 1 (c ∷ w)) w (at + 1 + length w) refl in
        let low = (before_one (at + 1 + length w) (at + 1) found s back (subst (AreOrdered (at + 1 + length w) (at + 1)) (sym passed ∙ e) ordered)).0 in
        absurd (omega (arith, low, here))
    go false is = refl

before_gap : (at : ℕ) (breaks : Bool) (b : ℕ) (t : Text) (len : ℕ) (found : List Scanned) (s : Scanned) → front (b ∷ t) ≡ piece.Gap len → (s.token.at ≡ at + len → NoLineEnd (drop len (b ∷ t)))
    → IsBefore (at + len) (breaks_then breaks len (b ∷ t)) (drop len (b ∷ t)) found s → length (drop len (b ∷ t)) ≡ length (b ∷ t) - len → len ≤ length (b ∷ t) → IsBefore at breaks (b ∷ t) found s
before_gap at breaks b t len found s is line c d within = record {
  first = omega (arith, c.first);
  last = omega (arith, d, c.first, c.last, within);
  low = ends (nat_lt len (s.token.at - at)) refl;
  leads = lead_gap at breaks b t (s.token.at - at) len found (Rest s) is (fits (nat_lt len (s.token.at - at)) refl) few (subst (λ m. Leads (at + len) (breaks_then breaks len (b ∷ t)) (drop len (b ∷ t)) m found (Rest s)) same c.leads);
}
  where
    few : s.token.at - at ≤ length (b ∷ t)
    few = omega (arith, d, c.first, c.last, within)

    same : s.token.at - (at + len) ≡ (s.token.at - at) - len
    same = omega arith

    fits : (less : Bool) → nat_lt len (s.token.at - at) ≡ less → (len < s.token.at - at) ⊎ ((len ≤ s.token.at - at) × NoLineEnd (drop (s.token.at - at) (b ∷ t)))
    fits true lt = inl (grind arith)
    fits false lt =
        let least : s.token.at - at ≤ len = grind arith in
        let equal : len ≡ s.token.at - at = omega (arith, least, c.first) in
        inr (omega (arith, equal), subst (λ m. NoLineEnd (drop m (b ∷ t))) equal (line (omega (arith, equal, c.first))))

    ends : (less : Bool) → nat_lt len (s.token.at - at) ≡ less → IsLow (b ∷ t) (s.token.at - at)
    ends true lt = low_on len (s.token.at - at) (b ∷ t) (grind arith) (subst (IsLow (drop len (b ∷ t))) same c.low)
    ends false lt =
        let least : s.token.at - at ≤ len = grind arith in
        let equal : len ≡ s.token.at - at = omega (arith, least, c.first) in
        let gap : EndsLow (b ∷ t) (piece.Gap len) = subst (EndsLow (b ∷ t)) is (ends_low b t) in
        subst (IsLow (b ∷ t)) equal (gap (line (omega (arith, equal, c.first))))

before_token : (at : ℕ) (breaks : Bool) (b : ℕ) (t : Text) (kind : TokenKind) (len : ℕ) (found : List Scanned) (s : Scanned) → front (b ∷ t) ≡ piece.Token kind len → is_written kind ≡ true
    → IsBefore (at + len) false (drop len (b ∷ t)) found s → IsBefore at breaks (b ∷ t) (token_of kind at (at + len) breaks ∷ found) s
before_token at breaks b t kind len found s is real c =
    let d = length-drop len (b ∷ t) in
    let within : len ≤ length (b ∷ t) = subst (PieceWithin (length (b ∷ t))) is (front_within b t) in
    let low = c.first in
    let high = c.last in
    let less : len ≤ s.token.at - at = omega (arith, low) in
    let few : s.token.at - at ≤ length (b ∷ t) = omega (arith, d, low, high, within) in
    let same : s.token.at - (at + len) ≡ (s.token.at - at) - len = omega arith in
    record {
      first = omega (arith, low);
      last = omega (arith, d, low, high, within);
      low = ends (nat_lt len (s.token.at - at)) refl;
      leads = lead_token at breaks b t (s.token.at - at) kind len found (Rest s) is real less few (subst (λ m. Leads (at + len) false (drop len (b ∷ t)) m found (Rest s)) same c.leads);
    }
  where
    ends : (less : Bool) → nat_lt len (s.token.at - at) ≡ less → IsLow (b ∷ t) (s.token.at - at)
    ends true lt =
        let low = c.first in
        let same : s.token.at - (at + len) ≡ (s.token.at - at) - len = omega arith in
        low_on len (s.token.at - at) (b ∷ t) (grind arith) (subst (IsLow (drop len (b ∷ t))) same c.low)
    ends false lt =
        let low = c.first in
        let least : s.token.at - at ≤ len = grind arith in
        let equal : len ≡ s.token.at - at = omega (arith, least, low) in
        let token : EndsLow (b ∷ t) (piece.Token kind len) = subst (EndsLow (b ∷ t)) is (ends_low b t) in
        subst (IsLow (b ∷ t)) equal (token real)

before_here : (at : ℕ) (breaks : Bool) (text : Text) (kind : TokenKind) (len : ℕ) → IsBefore at breaks text [] (token_of kind at (at + len) breaks)
before_here at breaks text kind len = record {
  first = omega arith;
  last = omega arith;
  low = λ m e. absurd (omega (arith, e));
  leads = let none : 0 ≡ at - at = omega arith in subst (λ m. Leads at breaks text m [] (Rest (token_of kind at (at + len) breaks))) none (λ z n edge enough. (scan_from n at breaks z, refl, (n, enough, refl)));
}

is_before : (n at : ℕ) (breaks : Bool) (text : Text) (found : List Scanned) (s : Scanned) (back : List Scanned) → scan_from n at breaks text ≡ found ++ s ∷ back → AreReal found → s.token.at < s.token.end → IsBefore at breaks text found s
is_before zero at breaks text found s back e real some = absurd (none_there found s back (sym (scan_stopped at breaks text) ∙ e))
is_before (suc n) at breaks [] found s back e real some = absurd (none_there found s back (sym (scan_none (suc n) at breaks) ∙ e))
is_before (suc n) at breaks (b ∷ t) found s back e real some = go (front (b ∷ t)) refl (λ at more text found h real. is_before n at more text found s back h real some)
  where
    go : (p : Piece) → front (b ∷ t) ≡ p → ((at : ℕ) (more : Bool) (text : Text) (found : List Scanned) → scan_from n at more text ≡ found ++ s ∷ back → AreReal found → IsBefore at more text found s) → IsBefore at breaks (b ∷ t) found s
    go (piece.Gap len) is next = by (nat_le len (length (b ∷ t))) refl
      where
        left : scan_from n (at + len) (breaks_then breaks len (b ∷ t)) (drop len (b ∷ t)) ≡ found ++ s ∷ back
        left = sym (scan_gap n at breaks (b ∷ t) len (omega arith) is) ∙ e

        by : (c : Bool) → nat_le len (length (b ∷ t)) ≡ c → IsBefore at breaks (b ∷ t) found s
        by true le =
            before_gap at breaks b t len found s is (no_line_end n (at + len) (breaks_then breaks len (b ∷ t)) (drop len (b ∷ t)) found s back left)
            (next (at + len) (breaks_then breaks len (b ∷ t)) (drop len (b ∷ t)) found left real) (length-drop len (b ∷ t)) (grind arith)
        by false le = absurd (none_there found s back (sym (scan_dropped n (at + len) len (breaks_then breaks len (b ∷ t)) (b ∷ t) (let less : length (b ∷ t) < len = grind arith in omega (arith, less))) ∙ left))
    go (piece.Token kind len) is next = by found e real
      where
        by : (found : List Scanned) → scan_from (suc n) at breaks (b ∷ t) ≡ found ++ s ∷ back → AreReal found → IsBefore at breaks (b ∷ t) found s
        by [] e real =
            let h = heads (token_of kind at (at + len) breaks) s _ back (sym (scan_token n at breaks (b ∷ t) kind len (omega arith) is) ∙ e) in
            subst (IsBefore at breaks (b ∷ t) []) h.0 (before_here at breaks (b ∷ t) kind len)
        by (f ∷ found) e real =
            let h = heads (token_of kind at (at + len) breaks) f _ (found ++ s ∷ back) (sym (scan_token n at breaks (b ∷ t) kind len (omega arith) is) ∙ e) in
            let kind_real : is_written kind ≡ true = ap (λ (x : Scanned). is_written x.token.kind) h.0 ∙ real.0 in
            subst (λ x. IsBefore at breaks (b ∷ t) (x ∷ found) s) h.0 (before_token at breaks b t kind len found s is kind_real (next (at + len) false (drop len (b ∷ t)) found h.1 real.1))
    go piece.Open is next = by found e real
      where
        by : (found : List Scanned) → scan_from (suc n) at breaks (b ∷ t) ≡ found ++ s ∷ back → AreReal found → IsBefore at breaks (b ∷ t) found s
        by [] e real =
            let h = heads (token_of k.Other (at + length (b ∷ t)) (at + length (b ∷ t)) breaks) s _ back (sym (scan_open n at breaks (b ∷ t) (omega arith) is) ∙ e) in
            let first : at + length (b ∷ t) ≡ s.token.at = ap (λ (x : Scanned). x.token.at) h.0 in
            let last : at + length (b ∷ t) ≡ s.token.end = ap (λ (x : Scanned). x.token.end) h.0 in
            absurd (omega (arith, first, last, some))
        by (f ∷ found) e real =
            let h = heads (token_of k.Other (at + length (b ∷ t)) (at + length (b ∷ t)) breaks) f _ (found ++ s ∷ back) (sym (scan_open n at breaks (b ∷ t) (omega arith) is) ∙ e) in
            let bad : false ≡ true = ap (λ (x : Scanned). is_written x.token.kind) h.0 ∙ real.0 in
            absurd (cc)

-- ---- of a whole text

-- what is cut behind a token
pub cut_behind : (source : Text) (found : List Scanned) (s : Scanned) (back : List Scanned) → scanned source ≡ found ++ s ∷ back → AreReal found → s.token.at < s.token.end
    → (s.token.end ≤ length source) × (is_written s.token.kind ≡ true → IsLow source s.token.end) × ((z : Text) → slice_index z 0 ≤ 32 → (ss : List Scanned) × (scanned (take s.token.end source ++ z) ≡ found ++ ss) × Found s z ss)
cut_behind source found s back e real some =
    let c = is_cut (length source) 0 false source found s back e real some in
    let same : s.token.end - 0 ≡ s.token.end = omega arith in
    let leads : Leads 0 false source s.token.end found (Found s) = subst (λ m. Leads 0 false source m found (Found s)) same c.leads in
    let high = c.last in
    (omega (arith, high), subst (λ m. is_written s.token.kind ≡ true → IsLow source m) same c.low, λ z edge. leads z (length (take s.token.end source ++ z)) edge (omega arith))

-- what is cut before a token
pub cut_before : (source : Text) (found : List Scanned) (s : Scanned) (back : List Scanned) → scanned source ≡ found ++ s ∷ back → AreReal found → s.token.at < s.token.end
    → (s.token.at ≤ length source) × IsLow source s.token.at × ((z : Text) → slice_index z 0 ≤ 32 → (n : ℕ) × (length z ≤ n) × (scanned (take s.token.at source ++ z) ≡ found ++ scan_from n s.token.at s.breaks z))
cut_before source found s back e real some =
    let c = is_before (length source) 0 false source found s back e real some in
    let same : s.token.at - 0 ≡ s.token.at = omega arith in
    let leads : Leads 0 false source s.token.at found (Rest s) = subst (λ m. Leads 0 false source m found (Rest s)) same c.leads in
    let high = c.last in
    (omega (arith, high), subst (IsLow source) same c.low, λ z edge. let l = leads z (length (take s.token.at source ++ z)) edge (omega arith) in (l.2.0, l.2.1, l.1 ∙ ap (λ ss. found ++ ss) l.2.2))
