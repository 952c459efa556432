-- What rules of the plain reader give of some tokens.
use Rattle.std.proofs.Common.{◌≡◌, ◌∙◌, Bool, true, false, List, [], ◌∷◌, Ok, Err, refl, sym, ap, subst, if◌then◌else◌}
use denote.Enum.Bare.{same_true}
use Rattle.sp_reader.specs.contracts.token.TokenKind.{the_type}
use Rattle.sp_reader.specs.declared.token.Token.{Token}
use Rattle.sp_reader.specs.declared.token.TokenKind.{TokenKind}
use Rattle.sp_reader.specs.declared.token.TokenKind.TheVariants as k
use Rattle.sp_reader.specs.Steps.{Rule, Outcome, and_then, ◌>>=◌, pure, refuse, kind_of, tail_of, same_kind, sees, skip, semicolons}
use Rattle.sp_grammar.specs.Tokens.{Takes, IsBreak, MayBreak}

pub kind_is : (kind wanted : TokenKind) → same_kind kind wanted ≡ true → kind ≡ wanted
unfolding same_kind
kind_is kind wanted e = same_true the_type tt kind wanted e

-- the kind of a token, and not that of the end
abbrev pub is_real : TokenKind → Bool
is_real k.End = false
is_real _ = true

-- an outcome has one value and leaves one list
pub one_outcome : {A : Type 0} (a b : A) (ts us : List Token) (o : Outcome A) → o ≡ Ok (a, ts) → o ≡ Ok (b, us) → (a ≡ b) × (ts ≡ us)
one_outcome {A} a b ts us o e h =
    let same : Ok (a, ts) ≡ Ok (b, us) = sym e ∙ h in
    let pairs : (a, ts) ≡ (b, us) = cc in
    (ap (λ (p : A × List Token). p.0) pairs, ap (λ (p : A × List Token). p.1) pairs)

pub takes_next : (wanted : TokenKind) (ts : List Token) → is_real wanted ≡ true → kind_of ts ≡ wanted → Takes wanted ts (tail_of ts)
unfolding kind_of tail_of
takes_next wanted [] real e = let bad = ap is_real e ∙ real in absurd (cc)
takes_next wanted (t ∷ ts) real e = record { token = t; is = refl; of_kind = e }

pub takes_seen : (wanted : TokenKind) (ts : List Token) → is_real wanted ≡ true → sees wanted ts ≡ true → Takes wanted ts (tail_of ts)
unfolding sees
takes_seen wanted ts real e = takes_next wanted ts real (kind_is (kind_of ts) wanted e)

-- what a rule gives of these tokens is so
pub record Reads {A : Type 0} (rule : Rule A) (ts : List Token) (P : A → List Token → Type 0) : Type 0 where
  pub run : (a : A) (us : List Token) → rule ts ≡ Ok (a, us) → P a us

pub given : {A : Type 0} {P : A → List Token → Type 0} {ts : List Token} (a : A) → P a ts → Reads (pure a) ts P
given {A} {P} {ts} a p = record {
  run = λ b us h.
      let same = one_outcome a b ts us (pure a ts) refl h in
      subst (λ vs. P b vs) same.1 (subst (λ x. P x ts) same.0 p);
}

-- one that gives a value and leaves some tokens
pub leaves : {A : Type 0} {P : A → List Token → Type 0} {ts us : List Token} {rule : Rule A} (a : A) → rule ts ≡ Ok (a, us) → P a us → Reads rule ts P
leaves {A} {P} {ts} {us} {rule} a e p = record {
  run = λ b vs h.
      let same = one_outcome a b us vs (rule ts) e h in
      subst (λ ws. P b ws) same.1 (subst (λ x. P x us) same.0 p);
}

pub refused : {A : Type 0} {P : A → List Token → Type 0} {ts : List Token} → Reads refuse ts P
refused = record { run = λ a us h. absurd (cc) }

pub bound : {A B : Type 0} {P : A → List Token → Type 0} {Q : B → List Token → Type 0} {p : Rule A} {f : A → Rule B} {ts : List Token} → Reads p ts P → ((a : A) (us : List Token) → P a us → Reads (f a) us Q) → Reads (p >>= f) ts Q
bound {A} {B} {P} {Q} {p} {f} {ts} first more = record { run = λ b us h. go b us (p ts) refl h }
  where
    go : (b : B) (us : List Token) → (o : Outcome A) → p ts ≡ o → and_then o f ≡ Ok (b, us) → Q b us
    go b us (Ok r) is h = (more r.0 r.1 (first.run r.0 r.1 is)).run b us h
    go b us (Err left) is h = absurd (cc)

-- one way where a token of this kind comes next, another where it doesn't
pub chosen : {A : Type 0} {P : A → List Token → Type 0} {ts : List Token} (wanted : TokenKind) (p q : Rule A) → is_real wanted ≡ true
    → (Takes wanted ts (tail_of ts) → Reads p (tail_of ts) P) → (sees wanted ts ≡ false → Reads q ts P) → Reads (λ all. if sees wanted all then p (tail_of all) else q all) ts P
chosen {A} {P} {ts} wanted p q real first second = record { run = λ a us h. go a us (sees wanted ts) refl h }
  where
    go : (a : A) (us : List Token) (b : Bool) → sees wanted ts ≡ b → (if b then p (tail_of ts) else q ts) ≡ Ok (a, us) → P a us
    go a us true is h = (first (takes_seen wanted ts real is)).run a us h
    go a us false is h = (second is).run a us h

-- so it is of a rule that is told by cases on what comes next, at these tokens
pub seen : {A : Type 0} {P : A → List Token → Type 0} (ts : List Token) {x y : Outcome A} (wanted : TokenKind) → is_real wanted ≡ true
    → (Takes wanted ts (tail_of ts) → (a : A) (us : List Token) → x ≡ Ok (a, us) → P a us) → (sees wanted ts ≡ false → (a : A) (us : List Token) → y ≡ Ok (a, us) → P a us)
    → (a : A) (us : List Token) → (if sees wanted ts then x else y) ≡ Ok (a, us) → P a us
seen {A} {P} ts {x} {y} wanted real first second = λ a us h. go a us (sees wanted ts) refl h
  where
    go : (a : A) (us : List Token) (b : Bool) → sees wanted ts ≡ b → (if b then x else y) ≡ Ok (a, us) → P a us
    go a us true is h = first (takes_seen wanted ts real is) a us h
    go a us false is h = second is a us h

pub skips : {ts : List Token} (wanted : TokenKind) → is_real wanted ≡ true → Reads (skip wanted) ts (λ _ us. Takes wanted ts us)
unfolding skip
skips {ts} wanted real = chosen wanted (pure tt) refuse real (λ takes. given tt takes) (λ _. refused)

-- one that gives more is right where what it gives is
pub weaker : {A : Type 0} {P Q : A → List Token → Type 0} {p : Rule A} {ts : List Token} → ((a : A) (us : List Token) → P a us → Q a us) → Reads p ts P → Reads p ts Q
weaker f first = record { run = λ a us h. f a us (first.run a us h) }

-- ---- any number of `;`

one_break : {t : Token} {ts us : List Token} → t.kind ≡ k.Semicolon → MayBreak ts us → IsBreak (t ∷ ts) us
one_break {t} {ts} e MayBreak.none = IsBreak.one (record { token = t; is = refl; of_kind = e })
one_break {t} {ts} e (MayBreak.some rest) = IsBreak.another (record { token = t; is = refl; of_kind = e }) rest

pub may_break : (ts : List Token) → MayBreak ts (semicolons ts)
unfolding semicolons
may_break [] = MayBreak.none
may_break (t ∷ ts) = go (same_kind t.kind k.Semicolon) refl (may_break ts)
  where
    go : (b : Bool) → same_kind t.kind k.Semicolon ≡ b → MayBreak ts (semicolons ts) → MayBreak (t ∷ ts) (if b then semicolons ts else t ∷ ts)
    go true is rest = MayBreak.some (one_break (kind_is t.kind k.Semicolon is) rest)
    go false is rest = MayBreak.none

broken : {ts us vs : List Token} → Takes k.Semicolon ts us → MayBreak us vs → IsBreak ts vs
broken takes MayBreak.none = IsBreak.one takes
broken takes (MayBreak.some rest) = IsBreak.another takes rest

pub is_break : {ts : List Token} (us : List Token) → Takes k.Semicolon ts us → IsBreak ts (semicolons us)
is_break us takes = broken takes (may_break us)
