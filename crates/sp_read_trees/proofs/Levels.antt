-- How many brackets are open, token by token, where no token passes a limit.
use Rattle.std.proofs.Common.{◌≡◌, ◌∙◌, ℕ, zero, suc, ◌+◌, ◌-◌, ◌≤◌, Bool, true, false, List, [], ◌∷◌, ◌++◌, length, All, Option, Some, None, refl, sym, ap, subst, arith, if◌then◌else◌, encode_utf8_all, nat_lt}
use Rattle.std.proofs.lemmas.List.{length-append, length-take}
use Rattle.std.proofs.lemmas.List.Elements.{All-head, All-tail}
use Rattle.sp_words.specs.Names.{IsName}
use Rattle.sp_reader.specs.declared.token.Token.{Token}
use Rattle.sp_reader.specs.declared.token.TokenKind.{TokenKind}
use Rattle.sp_reader.specs.declared.token.TokenKind.TheVariants as k
use Rattle.sp_reader.specs.Limits.{PlainCounts, passed_from, taken, inside, behind, afresh, more_here, is_operator, is_wide}
use Rattle.sp_reader.specs.Steps.{Text, is_name, kind_of, spelling_of}

abbrev pub before : ℕ → ℕ
before zero = zero
before (suc n) = n

-- how many brackets are open after a token
abbrev pub level : TokenKind → ℕ → ℕ
level k.OpenRound d = suc d
level k.OpenSquare d = suc d
level k.OpenCurly d = suc d
level k.CloseRound d = before d
level k.CloseSquare d = before d
level k.CloseCurly d = before d
level _ d = d

-- of names none is a bracket
pub name_level : (kind : TokenKind) (d : ℕ) → is_name kind ≡ true → level kind d ≡ d
name_level k.OpenRound d e = absurd (cc)
name_level k.OpenSquare d e = absurd (cc)
name_level k.OpenCurly d e = absurd (cc)
name_level k.CloseRound d e = absurd (cc)
name_level k.CloseSquare d e = absurd (cc)
name_level k.CloseCurly d e = absurd (cc)
name_level _ d e = refl

-- ---- the counts after a token

opens_by : (b : Bool) (c more : PlainCounts) → nat_lt (length c.around) 64 ≡ b → (if b then Some (record { around = c.around ++ c.here ∷ []; here = 0 }) else None) ≡ Some more
    → (length more.around ≡ suc (length c.around)) × (suc (length c.around) ≤ 64)
opens_by true c more t e =
    let is_more : record { around = c.around ++ c.here ∷ []; here = 0 } ≡ more = cc in
    let long = length-append c.around (c.here ∷ []) in
    (ap (λ (m : PlainCounts). length m.around) (sym is_more) ∙ omega (arith, long), grind arith)
opens_by false c more t e = absurd (cc)

opens : (c more : PlainCounts) → inside c ≡ Some more → (length more.around ≡ suc (length c.around)) × (suc (length c.around) ≤ 64)
opens c more e = opens_by (nat_lt (length c.around) 64) c more refl e

before_is : (n : ℕ) → n - 1 ≡ before n
before_is zero = refl
before_is (suc n) = omega arith

closes : (c more : PlainCounts) → Some (behind c) ≡ Some more → length more.around ≡ before (length c.around)
closes c more e =
    let is_more : behind c ≡ more = cc in
    let short = length-take (length c.around - 1) c.around in
    ap (λ (m : PlainCounts). length m.around) (sym is_more) ∙ (omega (arith, short) ∙ before_is (length c.around))

stays_by : (b : Bool) (c more : PlainCounts) → (if b then more_here c else Some c) ≡ Some more → length more.around ≡ length c.around
stays_by false c more e = let is_more : c ≡ more = cc in ap (λ (m : PlainCounts). length m.around) (sym is_more)
stays_by true c more e = more_by (nat_lt c.here 64) c more e
  where
    more_by : (b : Bool) (c more : PlainCounts) → (if b then Some (record { around = c.around; here = c.here + 1 }) else None) ≡ Some more → length more.around ≡ length c.around
    more_by true c more e = let is_more : record { around = c.around; here = c.here + 1 } ≡ more = cc in ap (λ (m : PlainCounts). length m.around) (sym is_more)
    more_by false c more e = absurd (cc)

afresh_stays : (c more : PlainCounts) → Some (afresh c) ≡ Some more → length more.around ≡ length c.around
afresh_stays c more e = let is_more : afresh c ≡ more = cc in ap (λ (m : PlainCounts). length m.around) (sym is_more)

moves : (kind next : TokenKind) (c more : PlainCounts) → taken c kind next ≡ Some more → length more.around ≡ level kind (length c.around)
moves k.OpenRound next c more e = (opens c more e).0
moves k.OpenSquare next c more e = (opens c more e).0
moves k.OpenCurly next c more e = (opens c more e).0
moves k.CloseRound next c more e = closes c more e
moves k.CloseSquare next c more e = closes c more e
moves k.CloseCurly next c more e = closes c more e
moves k.Comma next c more e = afresh_stays c more e
moves k.Semicolon next c more e = afresh_stays c more e
moves kind next c more e = stays_by (is_operator kind next) c more e

before_le : (n : ℕ) → n ≤ 64 → before n ≤ 64
before_le zero h = h
before_le (suc n) h = omega arith

bounded : (kind next : TokenKind) (c more : PlainCounts) → taken c kind next ≡ Some more → length c.around ≤ 64 → level kind (length c.around) ≤ 64
bounded k.OpenRound next c more e h = (opens c more e).1
bounded k.OpenSquare next c more e h = (opens c more e).1
bounded k.OpenCurly next c more e h = (opens c more e).1
bounded k.CloseRound next c more e h = before_le (length c.around) h
bounded k.CloseSquare next c more e h = before_le (length c.around) h
bounded k.CloseCurly next c more e h = before_le (length c.around) h
bounded _ next c more e h = h

-- ---- tokens at a level

module _ (source : Text) where
  -- a token that is a name spells one
  abbrev pub IsNamed : Token → Type 0
  IsNamed t = is_name t.kind ≡ true → IsName (encode_utf8_all (spelling_of source t))

  pub record IsAt (d : ℕ) (ts : List Token) : Type 0 where
    pub counts : PlainCounts
    pub number : ℕ
    pub open_brackets : length counts.around ≡ d
    pub none_passes : passed_from source counts number ts ≡ None

  -- names spell names, and from so many open brackets on no token passes a limit
  pub record Good (d : ℕ) (ts : List Token) : Type 0 where
    pub named : All IsNamed ts
    pub few : d ≤ 64
    pub at : IsAt d ts

  passes_by : (wide : Bool) (c : PlainCounts) (n : ℕ) (t : Token) (ts : List Token) (o : Option PlainCounts) → taken c t.kind (kind_of ts) ≡ o → is_wide source t ≡ wide
      → passed_from source c n (t ∷ ts) ≡ None → (more : PlainCounts) × (taken c t.kind (kind_of ts) ≡ Some more) × (passed_from source more (n + 1) ts ≡ None)
  passes_by true c n t ts o e w h = let bad = rw w at h in absurd (cc)
  passes_by false c n t ts None e w h = let bad = rw (w, e) at h in absurd (cc)
  passes_by false c n t ts (Some more) e w h = let rest = rw (w, e) at h in (more, e, rest)

  pub good_tail : (d : ℕ) (t : Token) (ts : List Token) → Good d (t ∷ ts) → Good (level t.kind d) ts
  good_tail d t ts g =
      let c = g.at.counts in
      let passed = passes_by (is_wide source t) c g.at.number t ts (taken c t.kind (kind_of ts)) refl refl g.at.none_passes in
      let here : length c.around ≡ d = g.at.open_brackets in
      record {
        named = All-tail IsNamed t ts g.named;
        few = subst (λ n. level t.kind n ≤ 64) here (bounded t.kind (kind_of ts) c passed.0 passed.1 (subst (λ n. n ≤ 64) (sym here) g.few));
        at = record {
          counts = passed.0;
          number = g.at.number + 1;
          open_brackets = moves t.kind (kind_of ts) c passed.0 passed.1 ∙ ap (level t.kind) here;
          none_passes = passed.2;
        };
      }

  pub good_name : (d : ℕ) (t : Token) (ts : List Token) → Good d (t ∷ ts) → is_name t.kind ≡ true → IsName (encode_utf8_all (spelling_of source t))
  good_name d t ts g = All-head IsNamed t ts g.named
