-- How a text is scanned, one piece after the other, and the order of its tokens.
use Rattle.std.proofs.Common.{◌≡◌, ◌∙◌, ◌⊎◌, inl, inr, ℕ, zero, suc, ◌+◌, ◌≤◌, ◌<◌, ◌==◌, ◌||◌, nat_le, Bool, true, false, List, [], ◌∷◌, ◌++◌, length, take, drop, length-append, length-drop, refl, sym, ap, subst, arith}
use Rattle.std.specs.List.{list_any}
use Rattle.std.proofs.lemmas.List.{drop_all}
use Rattle.sp_reader.specs.declared.scan.Piece.{Piece}
use Rattle.sp_reader.specs.declared.scan.Piece.TheVariants as piece
use Rattle.sp_reader.specs.declared.scan.Scanned.{Scanned}
use Rattle.sp_reader.specs.declared.token.TokenKind.{TokenKind}
use Rattle.sp_reader.specs.declared.token.TokenKind.TheVariants as k
use Rattle.sp_reader.specs.Steps.{Text}
use Rattle.sp_reader.specs.Tokens.{front, len_of, token_of, scan_from}
use Rattle.sp_refusals.proofs.Within.{PieceWithin, front_within}
use Rattle.sp_refused_texts.proofs.Fronts.{is_written, front_some}

-- ---- one piece

-- whether a line end stands before what follows a gap
abbrev pub breaks_then : Bool → ℕ → Text → Bool
breaks_then breaks len text = breaks || list_any (λ b. b == 10) (take len text)

pub scan_gap : (n at : ℕ) (breaks : Bool) (text : Text) (len : ℕ) → 1 ≤ length text → front text ≡ piece.Gap len → scan_from (suc n) at breaks text ≡ scan_from n (at + len) (breaks_then breaks len text) (drop len text)
unfolding scan_from
scan_gap n at breaks [] len some is = absurd (omega (arith, some))
scan_gap n at breaks (b ∷ z) len some is = rw is refl

pub scan_token : (n at : ℕ) (breaks : Bool) (text : Text) (kind : TokenKind) (len : ℕ) → 1 ≤ length text → front text ≡ piece.Token kind len
    → scan_from (suc n) at breaks text ≡ token_of kind at (at + len) breaks ∷ scan_from n (at + len) false (drop len text)
unfolding scan_from
scan_token n at breaks [] kind len some is = absurd (omega (arith, some))
scan_token n at breaks (b ∷ z) kind len some is = rw is refl

pub scan_open : (n at : ℕ) (breaks : Bool) (text : Text) → 1 ≤ length text → front text ≡ piece.Open
    → scan_from (suc n) at breaks text ≡ token_of k.Other (at + length text) (at + length text) breaks ∷ scan_from n (at + length text) false (drop (length text) text)
unfolding scan_from
scan_open n at breaks [] some is = absurd (omega (arith, some))
scan_open n at breaks (b ∷ z) some is = rw is refl

pub scan_none : (n at : ℕ) (breaks : Bool) → scan_from n at breaks [] ≡ []
unfolding scan_from
scan_none zero at breaks = refl
scan_none (suc n) at breaks = refl

pub scan_stopped : (at : ℕ) (breaks : Bool) (text : Text) → scan_from zero at breaks text ≡ []
unfolding scan_from
scan_stopped at breaks text = refl

-- a piece has a byte
pub some_byte : (text : Text) (p : Piece) → 1 ≤ length text → front text ≡ p → 1 ≤ len_of p text
some_byte [] p some is = absurd (omega (arith, some))
some_byte (b ∷ z) p some is = subst (λ q. 1 ≤ len_of q (b ∷ z)) is (front_some b z)

-- ---- the order of tokens

-- each of these begins where the one before ends, or behind, and ends within so many bytes; it has a byte, or it is a comment
-- without its end
abbrev pub AreOrdered : (total at : ℕ) → List Scanned → Type 0
AreOrdered total at [] = Unit {0}
AreOrdered total at (s ∷ rest) =
    (at ≤ s.token.at) × (s.token.end ≤ total) × ((s.token.at < s.token.end) ⊎ ((s.token.at ≡ total) × (s.token.end ≡ total) × (rest ≡ []) × (is_written s.token.kind ≡ false))) × AreOrdered total s.token.end rest

ordered_back : (total a b : ℕ) (ss : List Scanned) → a ≤ b → AreOrdered total b ss → AreOrdered total a ss
ordered_back total a b [] le h = tt
ordered_back total a b (s ∷ ss) le h = (omega (arith, le, h.0), h.1, h.2, h.3)

pub scan_dropped : (n at len : ℕ) (breaks : Bool) (text : Text) → length text ≤ len → scan_from n at breaks (drop len text) ≡ []
scan_dropped n at len breaks text le = ap (scan_from n at breaks) (drop_all len text le) ∙ scan_none n at breaks

pub scanned_ordered : (n at : ℕ) (breaks : Bool) (text : Text) (total : ℕ) → at + length text ≡ total → AreOrdered total at (scan_from n at breaks text)
scanned_ordered zero at breaks text total sum = rw (scan_stopped at breaks text) tt
scanned_ordered (suc n) at breaks [] total sum = rw (scan_none (suc n) at breaks) tt
scanned_ordered (suc n) at breaks (b ∷ z) total sum = go (front (b ∷ z)) refl (λ at more text total sum. scanned_ordered n at more text total sum)
  where
    behind : (len : ℕ) (more c : Bool) → nat_le len (length (b ∷ z)) ≡ c → ((at : ℕ) (more : Bool) (text : Text) (total : ℕ) → at + length text ≡ total → AreOrdered total at (scan_from n at more text))
        → AreOrdered total (at + len) (scan_from n (at + len) more (drop len (b ∷ z)))
    behind len more true is next = let le : len ≤ length (b ∷ z) = grind arith in let d = length-drop len (b ∷ z) in next (at + len) more (drop len (b ∷ z)) total (omega (arith, sum, le, d))
    behind len more false is next = rw (scan_dropped n (at + len) len more (b ∷ z) (let less : length (b ∷ z) < len = grind arith in omega (arith, less))) tt

    go : (p : Piece) → front (b ∷ z) ≡ p → ((at : ℕ) (more : Bool) (text : Text) (total : ℕ) → at + length text ≡ total → AreOrdered total at (scan_from n at more text)) → AreOrdered total at (scan_from (suc n) at breaks (b ∷ z))
    go (piece.Gap len) is next =
        rw (scan_gap n at breaks (b ∷ z) len (omega arith) is)
        (ordered_back total at (at + len) (scan_from n (at + len) (breaks_then breaks len (b ∷ z)) (drop len (b ∷ z))) (omega arith) (behind len (breaks_then breaks len (b ∷ z)) (nat_le len (length (b ∷ z))) refl next))
    go (piece.Token kind len) is next =
        let some = some_byte (b ∷ z) (piece.Token kind len) (omega arith) is in
        let few : len ≤ length (b ∷ z) = subst (PieceWithin (length (b ∷ z))) is (front_within b z) in
        rw (scan_token n at breaks (b ∷ z) kind len (omega arith) is) (omega arith, omega (arith, sum, few), inl (omega (arith, some)), behind len false (nat_le len (length (b ∷ z))) refl next)
    go piece.Open is next =
        rw (scan_open n at breaks (b ∷ z) (omega arith) is)
        (omega arith, omega (arith, sum), inr (sum, sum, scan_dropped n (at + length (b ∷ z)) (length (b ∷ z)) false (b ∷ z) (omega arith), refl), behind (length (b ∷ z)) false (nat_le (length (b ∷ z)) (length (b ∷ z))) refl next)

-- one that stands in a rule, or before another, has a byte
pub real_some : {total at : ℕ} (s : Scanned) (rest : List Scanned) → AreOrdered total at (s ∷ rest) → is_written s.token.kind ≡ true → s.token.at < s.token.end
real_some s rest h real = elim h.2 as (λ _. s.token.at < s.token.end) [ inl some ↦ some | inr end ↦ (let bad : true ≡ false = sym real ∙ end.3 in absurd (cc)) ]

pub followed_some : {total at : ℕ} (s : Scanned) (rest : List Scanned) → AreOrdered total at (s ∷ rest) → 1 ≤ length rest → s.token.at < s.token.end
followed_some s rest h more = elim h.2 as (λ _. s.token.at < s.token.end) [ inl some ↦ some | inr end ↦ (let none = ap (λ (l : List Scanned). length l) end.2 in absurd (omega (arith, none, more))) ]

pub not_back : {total at : ℕ} (s : Scanned) (rest : List Scanned) → AreOrdered total at (s ∷ rest) → s.token.at ≤ s.token.end
not_back s rest h = elim h.2 as (λ _. s.token.at ≤ s.token.end) [ inl some ↦ omega (arith, some) | inr end ↦ omega (arith, end.0, end.1) ]

-- these begin before a place
abbrev pub AreBefore : ℕ → List Scanned → Type 0
AreBefore place [] = Unit {0}
AreBefore place (s ∷ rest) = (s.token.at < place) × AreBefore place rest

-- tokens before one of a list in order begin before it
pub before_one : (total at : ℕ) (found : List Scanned) (s : Scanned) (back : List Scanned) → AreOrdered total at (found ++ s ∷ back) → (at ≤ s.token.at) × AreBefore s.token.at found
before_one total at [] s back h = (h.0, tt)
before_one total at (f ∷ found) s back h =
    let more = before_one total f.token.end found s back h.3 in
    let l = length-append found (s ∷ back) in
    let some = followed_some f (found ++ s ∷ back) h (omega (arith, l)) in
    (omega (arith, h.0, some, more.0), (omega (arith, some, more.0), more.1))
