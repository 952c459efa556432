-- Rules of the plain reader that go from so many open brackets to so many, and what they give.
use Rattle.std.proofs.Common.{◌≡◌, ◌∙◌, ℕ, ◌≤◌, Bool, true, false, List, [], ◌∷◌, Ok, Err, refl, sym, ap, subst, if◌then◌else◌}
use denote.Enum.Bare.{same_true}
use Rattle.sp_reader.specs.contracts.token.TokenKind.{the_type}
use Rattle.sp_reader.specs.declared.token.Token.{Token}
use Rattle.sp_reader.specs.declared.token.TokenKind.{TokenKind}
use Rattle.sp_reader.specs.declared.token.TokenKind.TheVariants as k
use Rattle.sp_reader.specs.Steps.{Text, Rule, Outcome, and_then, ◌>>=◌, pure, refuse, kind_of, tail_of, same_kind, sees, skip, semicolons}
use Rattle.sp_read_trees.proofs.Levels.{level, Good, good_tail}

pub kind_is : (kind wanted : TokenKind) → same_kind kind wanted ≡ true → kind ≡ wanted
unfolding same_kind
kind_is kind wanted e = same_true the_type tt kind wanted e

-- nothing is said of what a rule gives
abbrev pub Any : {A : Type 0} → A → Type 0
Any a = Unit {0}

-- an outcome has one value and leaves one list
pub one_outcome : {A : Type 0} (a b : A) (ts us : List Token) (o : Outcome A) → o ≡ Ok (a, ts) → o ≡ Ok (b, us) → (a ≡ b) × (ts ≡ us)
one_outcome {A} a b ts us o e h =
    let same : Ok (a, ts) ≡ Ok (b, us) = sym e ∙ h in
    let pairs : (a, ts) ≡ (b, us) = cc in
    (ap (λ (p : A × List Token). p.0) pairs, ap (λ (p : A × List Token). p.1) pairs)

module _ (source : Text) where
  -- from d open brackets to e, and what is given is right
  pub record Goes {A : Type 0} (d e : ℕ) (P : A → Type 0) (rule : Rule A) : Type 0 where
    pub run : (ts : List Token) (a : A) (us : List Token) → Good source d ts → rule ts ≡ Ok (a, us) → P a × Good source e us

  pub given : {A : Type 0} {P : A → Type 0} {d : ℕ} (a : A) → P a → Goes d d P (pure a)
  given {A} {P} {d} a p = record {
    run = λ ts b us g h.
        let same = one_outcome a b ts us (pure a ts) refl h in
        (subst P same.0 p, subst (Good source d) same.1 g);
  }

  pub refused : {A : Type 0} {P : A → Type 0} {d e : ℕ} → Goes d e P refuse
  refused = record { run = λ ts a us g h. absurd (cc) }

  pub bound : {A B : Type 0} {P : A → Type 0} {Q : B → Type 0} {p : Rule A} {f : A → Rule B} {d e n : ℕ} → Goes d e P p → ((a : A) → P a → Goes e n Q (f a)) → Goes d n Q (p >>= f)
  bound {A} {B} {P} {Q} {p} {f} {d} {e} {n} first more = record { run = λ ts b us g h. go ts b us g (p ts) refl h }
    where
      go : (ts : List Token) (b : B) (us : List Token) → Good source d ts → (o : Outcome A) → p ts ≡ o → and_then o f ≡ Ok (b, us) → Q b × Good source n us
      go ts b us g (Ok r) is h = let seen = first.run ts r.0 r.1 g is in (more r.0 seen.0).run r.1 b us seen.1 h
      go ts b us g (Err left) is h = absurd (cc)

  -- from d open brackets on, past a token of a kind
  pub past : (wanted : TokenKind) (d : ℕ) (ts : List Token) → Good source d ts → sees wanted ts ≡ true → Good source (level wanted d) (tail_of ts)
  unfolding sees kind_of tail_of
  past wanted d [] g h = let is_end = kind_is k.End wanted h in subst (λ kind. Good source (level kind d) []) is_end g
  past wanted d (t ∷ ts) g h = let is_kind = kind_is t.kind wanted h in subst (λ kind. Good source (level kind d) ts) is_kind (good_tail source d t ts g)

  -- one way where a token of this kind comes next, another where it doesn't; both may look at where they stand
  pub chosen : {A : Type 0} {P : A → Type 0} {d e : ℕ} (wanted : TokenKind) (p q : List Token → Rule A) → ((all : List Token) → Goes (level wanted d) e P (p all)) → ((all : List Token) → Goes d e P (q all))
      → Goes d e P (λ ts. if sees wanted ts then p ts (tail_of ts) else q ts ts)
  chosen {A} {P} {d} {e} wanted p q first second = record { run = λ ts a us g h. go ts a us g (sees wanted ts) refl h }
    where
      go : (ts : List Token) (a : A) (us : List Token) → Good source d ts → (b : Bool) → sees wanted ts ≡ b → (if b then p ts (tail_of ts) else q ts ts) ≡ Ok (a, us) → P a × Good source e us
      go ts a us g true is h = (first ts).run (tail_of ts) a us (past wanted d ts g is) h
      go ts a us g false is h = (second ts).run ts a us g h

  pub skips : (wanted : TokenKind) {d : ℕ} → Goes d (level wanted d) Any (skip wanted)
  unfolding skip
  skips wanted = chosen wanted (λ _. pure tt) (λ _. refuse) (λ all. given tt tt) (λ all. refused)

  -- a rule that looks at where it stands
  pub looking : {A : Type 0} {P : A → Type 0} {d e : ℕ} (p : List Token → Rule A) → ((all : List Token) → Goes d e P (p all)) → Goes d e P (λ ts. p ts ts)
  looking p first = record { run = λ ts a us g h. (first ts).run ts a us g h }

  pub good_semicolons : (d : ℕ) (ts : List Token) → Good source d ts → Good source d (semicolons ts)
  unfolding semicolons
  good_semicolons d [] g = g
  good_semicolons d (t ∷ ts) g = after_one (same_kind t.kind k.Semicolon) refl (good_semicolons d ts)
    where
      after_one : (b : Bool) → same_kind t.kind k.Semicolon ≡ b → (Good source d ts → Good source d (semicolons ts)) → Good source d (if b then semicolons ts else t ∷ ts)
      after_one true is rest = rest (subst (λ kind. Good source (level kind d) ts) (kind_is t.kind k.Semicolon is) (good_tail source d t ts g))
      after_one false is rest = g

  -- a rule that goes on past any number of `;`
  pub past_semicolons : {A : Type 0} {P : A → Type 0} {d e : ℕ} (p : Rule A) → Goes d e P p → Goes d e P (λ ts. p (semicolons ts))
  past_semicolons {A} {P} {d} p first = record { run = λ ts a us g h. first.run (semicolons ts) a us (good_semicolons d ts g) h }

  -- one that gives more is right where what it gives is
  pub weaker : {A : Type 0} {P Q : A → Type 0} {p : Rule A} {d e : ℕ} → ((a : A) → P a → Q a) → Goes d e P p → Goes d e Q p
  weaker f first = record { run = λ ts a us g h. let seen = first.run ts a us g h in (f a seen.0, seen.1) }

  -- past the next token, where it is of this kind
  pub past_kind : (kind : TokenKind) (d : ℕ) (ts : List Token) → Good source d ts → kind_of ts ≡ kind → Good source (level kind d) (tail_of ts)
  unfolding kind_of tail_of
  past_kind kind d [] g e = subst (λ kind. Good source (level kind d) []) e g
  past_kind kind d (t ∷ ts) g e = subst (λ kind. Good source (level kind d) ts) e (good_tail source d t ts g)

  -- one way or another by a test of what comes next
  pub tested : {A : Type 0} {P : A → Type 0} {d e : ℕ} (test : List Token → Bool) (p q : Rule A) → Goes d e P p → Goes d e P q → Goes d e P (λ ts. if test ts then p ts else q ts)
  tested {A} {P} {d} {e} test p q first second = record { run = λ ts a us g h. go ts a us g (test ts) h }
    where
      go : (ts : List Token) (a : A) (us : List Token) → Good source d ts → (b : Bool) → (if b then p ts else q ts) ≡ Ok (a, us) → P a × Good source e us
      go ts a us g true h = first.run ts a us g h
      go ts a us g false h = second.run ts a us g h

  -- one way where a token of this kind comes next, from it on, and another where it doesn't
  pub met : {A : Type 0} {P : A → Type 0} {d e : ℕ} (wanted : TokenKind) (p q : Rule A)
      → ((ts : List Token) (a : A) (us : List Token) → Good source d ts → sees wanted ts ≡ true → p ts ≡ Ok (a, us) → P a × Good source e us) → Goes d e P q
      → Goes d e P (λ ts. if sees wanted ts then p ts else q ts)
  met {A} {P} {d} {e} wanted p q first second = record { run = λ ts a us g h. go ts a us g (sees wanted ts) refl h }
    where
      go : (ts : List Token) (a : A) (us : List Token) → Good source d ts → (b : Bool) → sees wanted ts ≡ b → (if b then p ts else q ts) ≡ Ok (a, us) → P a × Good source e us
      go ts a us g true is h = first ts a us g is h
      go ts a us g false is h = second.run ts a us g h

  -- so few brackets are open
  pub knowing : {A : Type 0} {P : A → Type 0} {p : Rule A} {d e : ℕ} → (d ≤ 64 → Goes d e P p) → Goes d e P p
  knowing first = record { run = λ ts a us g h. (first g.few).run ts a us g h }
