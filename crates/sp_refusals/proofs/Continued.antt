-- What a rule reads of tokens that end too early goes on to something that is spelled.
use Rattle.std.proofs.Common.{◌≡◌, ◌∙◌, Bool, true, false, List, [], ◌∷◌, ◌++◌, length, Ok, Err, refl, sym, ap, subst, arith, if◌then◌else◌}
use Rattle.std.proofs.lemmas.List.{append_assoc}
use Rattle.sp_reader.specs.declared.token.Token.{Token}
use Rattle.sp_reader.specs.declared.token.TokenKind.{TokenKind}
use Rattle.sp_reader.specs.declared.token.TokenKind.TheVariants as k
use Rattle.sp_reader.specs.Steps.{Rule, Outcome, and_then, kind_of, tail_of, same_kind, sees, skip, semicolons}
use Rattle.sp_grammar.specs.Tokens.{Takes, IsBreak, MayBreak}
use Rattle.sp_grammar.proofs.Rules.{kind_is, is_real, one_outcome}

-- tokens that are put before others
abbrev pub Put : Type 0
Put = List Token → List Token

pub record Front : Type 0 where
  pub put : Put
  pub tokens : List Token
  pub is : (x : List Token) → put x ≡ tokens ++ x

abbrev pub nothing : Front
nothing = record { put = λ x. x; tokens = []; is = λ x. refl }

abbrev pub only : Token → Front
only t = record { put = λ x. t ∷ x; tokens = t ∷ []; is = λ x. refl }

abbrev pub both : Front → Front → Front
both d e = record { put = λ x. d.put (e.put x); tokens = d.tokens ++ e.tokens; is = λ x. d.is (e.put x) ∙ ap (λ y. d.tokens ++ y) (e.is x) ∙ sym (append_assoc d.tokens e.tokens x) }

-- what comes of these tokens: what is read of them is so of their front, and where they end too early, it is so of them with
-- more behind
pub record Continued {A : Type 0} (o : Outcome A) (ts : List Token) (P : Put → Type 0) : Type 0 where
  pub value : A
  pub fresh : (w : Put) × P w
  pub read : (a : A) (us : List Token) → o ≡ Ok (a, us) → (d : Front) × (ts ≡ d.put us) × P d.put
  pub stop : o ≡ Err 0 → (d : Front) × (ts ≡ d.put []) × (w : Put) × P (λ x. d.put (w x))

pub given : {A : Type 0} {P : Put → Type 0} {ts : List Token} (a : A) → P (λ x. x) → Continued (Ok (a, ts)) ts P
given {A} {P} {ts} a p = record {
  value = a;
  fresh = (λ x. x, p);
  read = λ b us h. (nothing, (one_outcome a b ts us (Ok (a, ts)) refl h).1, p);
  stop = λ h. absurd (cc);
}

no_tokens : (ts : List Token) → length ts ≡ 0 → ts ≡ []
no_tokens [] e = refl
no_tokens (t ∷ ts) e = absurd (omega (arith, e))

pub refused : {A : Type 0} {P : Put → Type 0} {ts : List Token} (a : A) (w : Put) → P w → Continued {A = A} (Err (length ts)) ts P
refused {A} {P} {ts} a w p = record {
  value = a;
  fresh = (w, p);
  read = λ b us h. absurd (cc);
  stop = λ h. let same : length ts ≡ 0 = cc in (nothing, no_tokens ts same, w, p);
}

pub bound : {A B : Type 0} {P : Put → Type 0} {Q : Put → Type 0} {o : Outcome A} {f : A → Rule B} {ts : List Token} → Continued o ts P
    → ((a : A) (us : List Token) (d : Put) → P d → Continued (f a us) us (λ e. Q (λ x. d (e x)))) → Continued (and_then o f) ts Q
bound {A} {B} {P} {Q} {o} {f} {ts} first more = record {
  value = (more first.value [] first.fresh.0 first.fresh.1).value;
  fresh = fresh_of first.fresh;
  read = λ b us h. read_of b us o refl h;
  stop = λ h. stop_of o refl h;
}
  where
    fresh_of : (w : Put) × P w → (w : Put) × Q w
    fresh_of w = let r = (more first.value [] w.0 w.1).fresh in ((λ x. w.0 (r.0 x)), r.1)

    read_of : (b : B) (us : List Token) → (u : Outcome A) → o ≡ u → and_then u f ≡ Ok (b, us) → (d : Front) × (ts ≡ d.put us) × Q d.put
    read_of b us (Ok r) is h =
        let d = first.read r.0 r.1 is in
        let e = (more r.0 r.1 d.0.put d.2).read b us h in
        (both d.0 e.0, d.1 ∙ ap d.0.put e.1, e.2)
    read_of b us (Err left) is h = absurd (cc)

    stop_of : (u : Outcome A) → o ≡ u → and_then u f ≡ Err 0 → (d : Front) × (ts ≡ d.put []) × (w : Put) × Q (λ x. d.put (w x))
    stop_of (Ok r) is h =
        let d = first.read r.0 r.1 is in
        let e = (more r.0 r.1 d.0.put d.2).stop h in
        (both d.0 e.0, d.1 ∙ ap d.0.put e.1, e.2, e.3)
    stop_of (Err left) is h =
        let zero_left : left ≡ 0 = cc in
        let d = first.stop (is ∙ ap (λ n. Err n) zero_left) in
        let r = (more first.value [] (λ x. d.0.put (d.2 x)) d.3).fresh in
        (d.0, d.1, (λ x. d.2 (r.0 x)), r.1)

-- so it is where what comes behind hangs on what was read
pub bound_with : {A B : Type 0} {P : Put → Type 0} {Q : Put → Type 0} {o : Outcome A} {f : A → Rule B} {ts : List Token} → Continued o ts P → B → ((d : Put) → P d → (w : Put) × Q (λ x. d (w x)))
    → ((a : A) (us : List Token) (d : Put) → o ≡ Ok (a, us) → P d → Continued (f a us) us (λ e. Q (λ x. d (e x)))) → Continued (and_then o f) ts Q
bound_with {A} {B} {P} {Q} {o} {f} {ts} first b made more = record {
  value = b;
  fresh = fresh_of first.fresh;
  read = λ b us h. read_of b us o refl h;
  stop = λ h. stop_of o refl h;
}
  where
    fresh_of : (w : Put) × P w → (w : Put) × Q w
    fresh_of w = let r = made w.0 w.1 in ((λ x. w.0 (r.0 x)), r.1)

    read_of : (b : B) (us : List Token) → (u : Outcome A) → o ≡ u → and_then u f ≡ Ok (b, us) → (d : Front) × (ts ≡ d.put us) × Q d.put
    read_of b us (Ok r) is h =
        let d = first.read r.0 r.1 is in
        let e = (more r.0 r.1 d.0.put is d.2).read b us h in
        (both d.0 e.0, d.1 ∙ ap d.0.put e.1, e.2)
    read_of b us (Err left) is h = absurd (cc)

    stop_of : (u : Outcome A) → o ≡ u → and_then u f ≡ Err 0 → (d : Front) × (ts ≡ d.put []) × (w : Put) × Q (λ x. d.put (w x))
    stop_of (Ok r) is h =
        let d = first.read r.0 r.1 is in
        let e = (more r.0 r.1 d.0.put is d.2).stop h in
        (both d.0 e.0, d.1 ∙ ap d.0.put e.1, e.2, e.3)
    stop_of (Err left) is h =
        let zero_left : left ≡ 0 = cc in
        let d = first.stop (is ∙ ap (λ n. Err n) zero_left) in
        let r = made (λ x. d.0.put (d.2 x)) d.3 in
        (d.0, d.1, (λ x. d.2 (r.0 x)), r.1)

pub weaker : {A : Type 0} {P Q : Put → Type 0} {o : Outcome A} {ts : List Token} → ((d : Put) → P d → Q d) → Continued o ts P → Continued o ts Q
weaker f first = record {
  value = first.value;
  fresh = (first.fresh.0, f first.fresh.0 first.fresh.1);
  read = λ a us h. let d = first.read a us h in (d.0, d.1, f d.0.put d.2);
  stop = λ h. let d = first.stop h in (d.0, d.1, d.2, f (λ x. d.0.put (d.2 x)) d.3);
}

-- another value
pub valued : {A B : Type 0} {P : Put → Type 0} {o : Outcome A} {ts : List Token} (u : Outcome B) → B → ((b : B) (us : List Token) → u ≡ Ok (b, us) → (a : A) × (o ≡ Ok (a, us))) → (u ≡ Err 0 → o ≡ Err 0) → Continued o ts P → Continued u ts P
valued u b ok err first = record {
  value = b;
  fresh = first.fresh;
  read = λ c us h. let a = ok c us h in first.read a.0 us a.1;
  stop = λ h. first.stop (err h);
}

-- behind a token
pub behind : {A : Type 0} {P : Put → Type 0} {o : Outcome A} (t : Token) {us : List Token} → Continued o us (λ e. P (λ x. t ∷ e x)) → Continued o (t ∷ us) P
behind t first = record {
  value = first.value;
  fresh = ((λ x. t ∷ first.fresh.0 x), first.fresh.1);
  read = λ a us h. let d = first.read a us h in (both (only t) d.0, ap (λ x. t ∷ x) d.1, d.2);
  stop = λ h. let d = first.stop h in (both (only t) d.0, ap (λ x. t ∷ x) d.1, d.2, d.3);
}

-- behind a front
pub behind_front : {A : Type 0} {P : Put → Type 0} {o : Outcome A} {ts us : List Token} (d : Front) → ts ≡ d.put us → Continued o us (λ e. P (λ x. d.put (e x))) → Continued o ts P
behind_front d whole first = record {
  value = first.value;
  fresh = ((λ x. d.put (first.fresh.0 x)), first.fresh.1);
  read = λ a us h. let e = first.read a us h in (both d e.0, whole ∙ ap d.put e.1, e.2);
  stop = λ h. let e = first.stop h in (both d e.0, whole ∙ ap d.put e.1, e.2, e.3);
}

-- a token of a kind
abbrev pub made : TokenKind → Token
made kind = record { kind = kind; at = 0; end = 0 }

-- a token of this kind, before any others
abbrev pub IsToken : TokenKind → Token → Type 0
IsToken kind t = (x : List Token) → Takes kind (t ∷ x) x

abbrev pub token_is : (kind : TokenKind) (t : Token) → t.kind ≡ kind → IsToken kind t
token_is kind t e x = record { token = t; is = refl; of_kind = e }

-- the end is no token
pub no_end : (wanted : TokenKind) → is_real wanted ≡ true → same_kind k.End wanted ≡ false
no_end wanted real = go (same_kind k.End wanted) refl
  where
    go : (b : Bool) → same_kind k.End wanted ≡ b → b ≡ false
    go true is = let bad = ap is_real (kind_is k.End wanted is) ∙ real in absurd (cc)
    go false is = refl

-- one way where a token of this kind comes next, another where it doesn't
pub chosen : {A : Type 0} {P : Put → Type 0} (ts : List Token) {x y : Outcome A} (wanted : TokenKind) → is_real wanted ≡ true
    → ((t : Token) → IsToken wanted t → Continued x (tail_of ts) (λ e. P (λ x. t ∷ e x))) → Continued y ts P → Continued (if sees wanted ts then x else y) ts P
unfolding sees kind_of tail_of
chosen {A} {P} [] {x} {y} wanted real first other = go (same_kind k.End wanted) refl
  where
    go : (b : Bool) → same_kind k.End wanted ≡ b → Continued (if b then x else y) [] P
    go true is = let bad = ap is_real (kind_is k.End wanted is) ∙ real in absurd (cc)
    go false is = other
chosen {A} {P} (t ∷ us) {x} {y} wanted real first other = go (same_kind t.kind wanted) refl
  where
    go : (b : Bool) → same_kind t.kind wanted ≡ b → Continued (if b then x else y) (t ∷ us) P
    go true is = behind t (first t (token_is wanted t (kind_is t.kind wanted is)))
    go false is = other

-- behind the token that comes next
pub behind_takes : {A : Type 0} {P : Put → Type 0} {o : Outcome A} {kind : TokenKind} {ts us : List Token} (takes : Takes kind ts us) → Continued o us (λ e. P (λ x. takes.token ∷ e x)) → Continued o ts P
behind_takes {P = P} {o = o} takes first = subst (λ xs. Continued o xs P) (sym takes.is) (behind takes.token first)

-- of a known kind
pub eaten : {A : Type 0} {P : Put → Type 0} {o : Outcome A} (ts : List Token) (wanted : TokenKind) → is_real wanted ≡ true → kind_of ts ≡ wanted
    → ((t : Token) → IsToken wanted t → Continued o (tail_of ts) (λ e. P (λ x. t ∷ e x))) → Continued o ts P
unfolding kind_of tail_of
eaten [] wanted real is first = let bad = ap is_real is ∙ real in absurd (cc)
eaten (t ∷ us) wanted real is first = behind t (first t (token_is wanted t is))

-- by the token behind the next
pub chosen_behind : {A : Type 0} {P : Put → Type 0} (t : Token) (us : List Token) {x y : Outcome A} (wanted : TokenKind) → is_real wanted ≡ true
    → ((s : Token) → IsToken wanted s → Continued x (tail_of us) (λ e. P (λ x. t ∷ s ∷ e x))) → Continued y (t ∷ us) P → Continued (if sees wanted us then x else y) (t ∷ us) P
unfolding sees kind_of tail_of
chosen_behind {P = P} t [] {x} {y} wanted real first other = rw (no_end wanted real) other
chosen_behind {P = P} t (s ∷ us) {x} {y} wanted real first other = go (same_kind s.kind wanted) refl
  where
    go : (b : Bool) → same_kind s.kind wanted ≡ b → Continued (if b then x else y) (t ∷ s ∷ us) P
    go true is = behind t (behind s (first s (token_is wanted s (kind_is s.kind wanted is))))
    go false is = other

-- ---- any number of `;`

pub break_may : {ts us vs : List Token} → IsBreak ts us → MayBreak us vs → IsBreak ts vs
break_may brk MayBreak.none = brk
break_may (IsBreak.one takes) (MayBreak.some more) = IsBreak.another takes more
break_may (IsBreak.another takes brk) (MayBreak.some more) = IsBreak.another takes (break_may brk (MayBreak.some more))

pub may_may : {ts us vs : List Token} → MayBreak ts us → MayBreak us vs → MayBreak ts vs
may_may MayBreak.none more = more
may_may (MayBreak.some brk) more = MayBreak.some (break_may brk more)

one_more : (t : Token) (d : Put) → IsToken k.Semicolon t → ((x : List Token) → MayBreak (d x) x) → (x : List Token) → MayBreak (t ∷ d x) x
one_more t d takes h x = may_may (MayBreak.some (IsBreak.one (takes (d x)))) (h x)

-- those that these tokens begin with
breaks_front : (ts : List Token) → (d : Front) × (ts ≡ d.put (semicolons ts)) × ((x : List Token) → MayBreak (d.put x) x)
unfolding semicolons
breaks_front [] = (nothing, refl, λ x. MayBreak.none)
breaks_front (t ∷ ts) = go (same_kind t.kind k.Semicolon) refl (breaks_front ts)
  where
    go : (b : Bool) → same_kind t.kind k.Semicolon ≡ b → (d : Front) × (ts ≡ d.put (semicolons ts)) × ((x : List Token) → MayBreak (d.put x) x)
        → (d : Front) × (t ∷ ts ≡ d.put (if b then semicolons ts else t ∷ ts)) × ((x : List Token) → MayBreak (d.put x) x)
    go true is h = (both (only t) h.0, ap (λ x. t ∷ x) h.1, one_more t h.0.put (token_is k.Semicolon t (kind_is t.kind k.Semicolon is)) h.2)
    go false is h = (nothing, refl, λ x. MayBreak.none)

pub behind_breaks : {A : Type 0} {P : Put → Type 0} {o : Outcome A} {ts : List Token} → ((d : Put) → ((x : List Token) → MayBreak (d x) x) → Continued o (semicolons ts) (λ e. P (λ x. d (e x)))) → Continued o ts P
behind_breaks {ts = ts} more = let d = breaks_front ts in behind_front d.0 d.1 (more d.0.put d.2)

pub skips : {ts : List Token} (wanted : TokenKind) → is_real wanted ≡ true → Continued (skip wanted ts) ts (λ d. (x : List Token) → Takes wanted (d x) x)
unfolding skip
skips {ts} wanted real = chosen ts wanted real (λ t is. given tt is) (refused tt (λ x. made wanted ∷ x) (token_is wanted (made wanted) refl))
