-- Tokens that go on in the grammar stand in a text that goes on in it.
use Rattle.std.proofs.Common.{◌≡◌, ◌∙◌, ◌⊎◌, inl, inr, ℕ, ◌≤◌, ◌<◌, ◌&&◌, Bool, true, false, List, [], ◌∷◌, ◌++◌, length, take, length-append, length-take, append_assoc, refl, sym, ap, subst, arith, if◌then◌else◌}
use Rattle.std.specs.Prelude.{slice_index}
use Rattle.std.specs.Str.{IsUtf8}
use Rattle.std.proofs.lemmas.Str.{IsUtf8-append}
use Rattle.sp_reader.specs.declared.scan.Scanned.{Scanned}
use Rattle.sp_reader.specs.declared.token.Token.{Token}
use Rattle.sp_reader.specs.declared.token.TokenKind.{TokenKind}
use Rattle.sp_reader.specs.declared.token.TokenKind.TheVariants as k
use Rattle.sp_reader.specs.PlainStatement.{PlainSyntax}
use Rattle.sp_reader.specs.Steps.{Text}
use Rattle.sp_reader.specs.Tokens.{scan_from, scanned, separated, tokens_of, may_begin, may_end}
use Rattle.sp_grammar.specs.Statements.{IsProgram}
use Rattle.sp_refusals.specs.Laws.{EndWithin, SpellAlike}
use Rattle.sp_refusals.proofs.Elsewhere.{AreNear, program_like}
use Rattle.sp_refusals.proofs.Refusals.{alike_on, alike_back}
use Rattle.sp_scanned.specs.From.{From, splits}
use Rattle.sp_scanned.proofs.Steps.{blank_step, broken, unbroken, as_unbroken}
use Rattle.sp_refused_texts.specs.Laws.{GoesOn}
use Rattle.sp_refused_texts.proofs.Written.{AreWritten, written_right, program_written}
use Rattle.sp_refused_texts.proofs.Low.{IsLow}
use Rattle.sp_refused_texts.proofs.Utf8.{no_fault, spelled_utf8}
use Rattle.sp_refused_texts.proofs.Order.{AreOrdered, real_some}
use Rattle.sp_refused_texts.proofs.Cuts.{AreReal, cut_behind, cut_before}
use Rattle.sp_refused_texts.proofs.Parts.{kind_after, open_after, ordered_at, last_of, real_parts, separated_on, last_end}
use Rattle.sp_refused_texts.proofs.Spelled.{spelled_as, spelled_front, some_spelled, spelled, AreOnes, scanned_again}

-- ---- tokens of two texts

alike_then : (a b c : Text) (ts : List Token) → SpellAlike a b ts → SpellAlike b c ts → SpellAlike a c ts
alike_then a b c [] h g = tt
alike_then a b c (t ∷ ts) h g = (h.0 ∙ g.0, alike_then a b c ts h.1 g.1)

-- tokens that end within what two texts begin with spell the same in both
pub both_begin : (front source other : Text) (ts : List Token) → EndWithin front ts → SpellAlike (front ++ source) (front ++ other) ts
both_begin front source other ts h = alike_then (front ++ source) front (front ++ other) ts (alike_back front (front ++ source) ts (alike_on front source ts h)) (alike_on front other ts h)

-- the same ones, and behind them others, of which numbers spell 1
near_behind : (source other : Text) (ts rest us : List Token) → SpellAlike source other ts → AreOnes other rest us → AreNear source other (ts ++ rest) (ts ++ us)
near_behind source other (t ∷ ts) rest us h ones = ((refl, λ _. inl h.0), near_behind source other ts rest us h.1 ones)
near_behind source other [] rest us h ones = go rest us ones
  where
    go : (rest us : List Token) → AreOnes other rest us → AreNear source other rest us
    go [] [] o = tt
    go [] (u ∷ us) o = elim o [ ]
    go (t ∷ rest) [] o = elim o [ ]
    go (t ∷ rest) (u ∷ us) o = ((o.0.0, λ e. inr (o.0.1 e)), go rest us o.1)

-- ---- a text that is cut

-- a text that, with a blank and others behind, is scanned as these tokens and what stands behind
pub record IsCutAt (front : Text) (found : List Scanned) (breaks : Bool) : Type 0 where
  pub scans : (z : Text) → slice_index z 0 ≤ 32 → (n : ℕ) × (length z ≤ n) × (scanned (front ++ z) ≡ found ++ scan_from n (length front) breaks z)

-- the first of these isn't a token before which a line end inserts a `;`
abbrev pub NoneBefore : List Token → Type 0
NoneBefore [] = ⊥
NoneBefore (t ∷ ts) = may_begin t.kind ≡ false

no_middle : (a b c : Bool) → b ≡ false → (a && b && c) ≡ false
no_middle true true c e = absurd (cc)
no_middle true false c e = refl
no_middle false b c e = refl

-- what is spelled is scanned, with a line end before it or without
spelled_again : (other : Text) (breaks : Bool) (before : TokenKind) (brackets : List TokenKind) (rest us : List Token) → AreWritten rest → (breaks ≡ false) ⊎ NoneBefore rest → From other breaks before brackets (spelled rest) us → AreOnes other rest us
spelled_again other false before brackets rest us real first h = scanned_again other before brackets rest us real h
spelled_again other true before brackets rest us real (inl bad) h = absurd (cc)
spelled_again other true before brackets [] us real (inr bad) h = absurd bad
spelled_again other true before brackets (t ∷ rest) us real (inr first) h =
    let l = some_spelled t.kind real.0 in
    let is = broken h t.kind (length (spelled_as t.kind)) (let m = length-append (spelled_as t.kind) (32 ∷ spelled rest) in omega (arith, l, m)) (spelled_front t.kind (spelled rest) real.0) in
    let same : us ≡ unbroken h = is ∙ none _ (unbroken h) (may_end before && may_begin t.kind && splits brackets) (no_middle (may_end before) (may_begin t.kind) (splits brackets) first) in
    subst (AreOnes other (t ∷ rest)) (sym same) (scanned_again other before brackets (t ∷ rest) (unbroken h) real (as_unbroken h))
  where
    none : (x y : List Token) (b : Bool) → b ≡ false → (if b then x else y) ≡ y
    none x y true e = absurd (cc)
    none x y false e = refl

module _ (front : Text) (found : List Scanned) (breaks : Bool) (cut : IsCutAt front found breaks) where
  -- the tokens behind those that were found
  behind : (z : Text) → slice_index z 0 ≤ 32 → List Token
  behind z edge = let c = cut.scans z edge in separated (kind_after k.End found) (open_after [] found) (scan_from c.0 (length front) breaks z)

  all : (z : Text) (edge : slice_index z 0 ≤ 32) → tokens_of (front ++ z) ≡ separated k.End [] found ++ behind z edge
  unfolding behind tokens_of
  all z edge =
      let c = cut.scans z edge in
      ap (separated k.End []) c.2 ∙ separated_on k.End [] found (scan_from c.0 (length front) breaks z)

  from : (z : Text) (edge : slice_index z 0 ≤ 32) → From (front ++ z) breaks (kind_after k.End found) (open_after [] found) z (behind z edge)
  unfolding behind
  from z edge = let c = cut.scans z edge in record { done = front; joined = refl; at = length front; place = refl; turns = c.0; enough = c.1; are = refl }

  -- where the tokens that were found go on, the text does
  pub goes : (beyond : Text) (rest : List Token) (tree : PlainSyntax) → IsUtf8 front → EndWithin front (separated k.End [] found) → IsProgram (front ++ beyond) (separated k.End [] found ++ rest) tree → (breaks ≡ false) ⊎ NoneBefore rest → GoesOn front
  goes beyond rest tree valid within is first =
      let real = program_written (front ++ beyond) is in
      let edge : slice_index (32 ∷ spelled rest) 0 ≤ 32 = omega arith in
      let ones = spelled_again (front ++ 32 ∷ spelled rest) breaks (kind_after k.End found) (open_after [] found) rest (behind (32 ∷ spelled rest) edge) (written_right (separated k.End [] found) rest real) first (blank_step (spelled rest) (from (32 ∷ spelled rest) edge)) in
      let near = near_behind (front ++ beyond) (front ++ 32 ∷ spelled rest) (separated k.End [] found) rest (behind (32 ∷ spelled rest) edge) (both_begin front beyond (32 ∷ spelled rest) (separated k.End [] found) within) ones in
      let again = program_like (front ++ beyond) (front ++ 32 ∷ spelled rest) is near in
      (spelled rest, no_fault (front ++ 32 ∷ spelled rest) (IsUtf8-append front (32 ∷ spelled rest) valid (spelled_utf8 rest)), (again.0, subst (λ ts. IsProgram (front ++ 32 ∷ spelled rest) ts again.0) (sym (all (32 ∷ spelled rest) edge)) again.1))

-- ---- the first tokens of a text

nothing_found : IsCutAt [] [] false
nothing_found = record { scans = λ z edge. (length z, omega arith, refl) }

pub cut_length : (n : ℕ) (source : Text) → n ≤ length source → length (take n source) ≡ n
cut_length n source le = let l = length-take n source in omega (arith, l, le)

-- a token that was found, and what stands behind
joined : (all before ss rest more : List Scanned) (s one : Scanned) (scan : List Scanned) → all ≡ before ++ s ∷ [] → scan ≡ before ++ ss → ss ≡ one ∷ rest → one ≡ s → rest ≡ more → scan ≡ all ++ more
joined all before ss rest more s one scan whole is first same left =
    is ∙ ap (λ x. before ++ x) (first ∙ ap (λ x. x ∷ rest) same ∙ ap (λ x. s ∷ x) left) ∙ sym (append_assoc before (s ∷ []) more) ∙ ap (λ x. x ++ more) (sym whole)

pub found_behind : (source : Text) (found back : List Scanned) → scanned source ≡ found ++ back → AreOrdered (length source) 0 (found ++ back) → AreReal found → IsCutAt (take (last_end 0 found) source) found false × IsLow source (last_end 0 found)
found_behind source [] back e ordered real = (nothing_found, λ m bad. absurd (omega (arith, bad)))
found_behind source (f ∷ found) back e ordered real =
    let l = last_of f found in
    let parts = real_parts l.before l.last (subst AreReal l.is real) in
    let whole : scanned source ≡ l.before ++ l.last ∷ back = e ∙ ap (λ x. x ++ back) l.is ∙ append_assoc l.before (l.last ∷ []) back in
    let one = ordered_at (length source) 0 l.before l.last back (subst (AreOrdered (length source) 0) (sym e ∙ whole) ordered) in
    let c = cut_behind source l.before l.last back whole parts.0 (real_some l.last back one.1 parts.1) in
    let many = cut_length l.last.token.end source c.0 in
    subst (λ n. IsCutAt (take n source) (f ∷ found) false × IsLow source n) (sym (l.ends 0)) (
      record {
        scans = λ z edge.
            let g = c.2 z edge in
            let same = g.2.same parts.1 in
            (same.1, same.2, joined (f ∷ found) l.before g.0 g.2.rest (scan_from same.1 (length (take l.last.token.end source)) false z) l.last g.2.one (scanned (take l.last.token.end source ++ z)) l.is g.1 g.2.is same.0 (same.3 ∙ ap (λ n. scan_from same.1 n false z) (sym many)));
      },
      c.1 parts.1,
    )

pub found_before : (source : Text) (found : List Scanned) (s : Scanned) (back : List Scanned) → scanned source ≡ found ++ s ∷ back → AreReal found → s.token.at < s.token.end → IsCutAt (take s.token.at source) found s.breaks × IsLow source s.token.at
found_before source found s back e real some =
    let c = cut_before source found s back e real some in
    let many = cut_length s.token.at source c.0 in
    (record { scans = λ z edge. let l = c.2 z edge in (l.0, l.1, l.2 ∙ ap (λ n. found ++ scan_from l.0 n s.breaks z) (sym many)) }, c.1)
