-- Rules that give the same of two lists of tokens that begin alike, as long as they stay in what the two share.
use Rattle.std.proofs.Common.{◌≡◌, ◌∙◌, ℕ, zero, suc, ◌+◌, ◌-◌, ◌≤◌, ◌<◌, Bool, true, false, List, [], ◌∷◌, ◌++◌, length, length-append, Option, Some, None, Ok, Err, refl, sym, ap, subst, arith, if◌then◌else◌}
use Rattle.std.specs.Option.{option_map_or}
use Rattle.sp_reader.specs.declared.token.Token.{Token}
use Rattle.sp_reader.specs.declared.token.TokenKind.{TokenKind}
use Rattle.sp_reader.specs.declared.token.TokenKind.TheVariants.{Semicolon}
use Rattle.sp_refusals.specs.Laws.{SpellAlike}
use Rattle.sp_reader.specs.Steps.{Text, spelling_of, Rule, Outcome, and_then, ◌>>=◌, pure, refuse, kind_of, tail_of, same_kind, sees, skip, semicolons}

-- what leaves at most so many tokens, or is refused with at most so many left
abbrev pub AtMost : {A : Type 0} → ℕ → Outcome A → Type 0
AtMost n (Ok p) = length p.1 ≤ n
AtMost n (Err e) = e ≤ n

-- two texts
abbrev pub Texts : Type 0
Texts = Text × Text

-- these tokens spell the same in both
abbrev pub InBoth : Texts → List Token → Type 0
InBoth texts ts = SpellAlike texts.0 texts.1 ts

-- what comes of two lists that end in z and in w, and are alike before these: both are refused before these, both leave
-- the same before these, at most n tokens, or the first came to z
pub data Alike {A : Type 0} (texts : Texts) (n : ℕ) (z w : List Token) (o u : Outcome A) : Type 0 where
  stopped : (e : ℕ) → o ≡ Err (suc e + length z) → u ≡ Err (suc e + length w) → Alike texts n z w o u
  inside : (a : A) (t : Token) (q : List Token) → InBoth texts (t ∷ q) → suc (length q) ≤ n → o ≡ Ok (a, t ∷ (q ++ z)) → u ≡ Ok (a, t ∷ (q ++ w)) → Alike texts n z w o u
  past : AtMost (length z) o → Alike texts n z w o u

-- so it is of two rules, where the lists have at most k tokens in common, each of which spells the same in the first rule's
-- text and in the second's
pub record Steady {A : Type 0} (texts : Texts) (k n : ℕ) (R S : Rule A) : Type 0 where
  pub within : (z : List Token) → AtMost (length z) (R z)
  pub goes : (t : Token) (q z w : List Token) → InBoth texts (t ∷ q) → suc (length q) ≤ k → Alike texts n z w (R (t ∷ (q ++ z))) (S (t ∷ (q ++ w)))

pub most_up : {A : Type 0} (m n : ℕ) (o : Outcome A) → m ≤ n → AtMost m o → AtMost n o
most_up m n (Ok p) le h = omega (arith, le, h)
most_up m n (Err e) le h = omega (arith, le, h)

pub most_then : {A B : Type 0} (n : ℕ) (o : Outcome A) (F : A → Rule B) → AtMost n o → ((a : A) (us : List Token) → AtMost (length us) (F a us)) → AtMost n (and_then o F)
most_then n (Ok p) F h more = most_up (length p.1) n (F p.0 p.1) h (more p.0 p.1)
most_then n (Err e) F h more = h

alike_up : {A : Type 0} {texts : Texts} (m n : ℕ) {z w : List Token} {o u : Outcome A} → m ≤ n → Alike texts m z w o u → Alike texts n z w o u
alike_up m n le (Alike.stopped e i j) = Alike.stopped e i j
alike_up m n le (Alike.inside a t q good few i j) = Alike.inside a t q good (omega (arith, le, few)) i j
alike_up m n le (Alike.past h) = Alike.past h

alike_then : {A B : Type 0} {texts : Texts} {m n : ℕ} {z w : List Token} (o u : Outcome A) (F G : A → Rule B) → Alike texts m z w o u → ((a : A) → Steady texts m n (F a) (G a)) → Alike texts n z w (and_then o F) (and_then u G)
alike_then o u F G (Alike.stopped e i j) more = Alike.stopped e (ap (λ x. and_then x F) i) (ap (λ x. and_then x G) j)
alike_then {z = z} {w = w} o u F G (Alike.inside a t q good few i j) more = rw (i, j) ((more a).goes t q z w good few)
alike_then {z = z} o u F G (Alike.past h) more = Alike.past (most_then (length z) o F h (λ a us. (more a).within us))

pub bound : {A B : Type 0} {texts : Texts} {k m n : ℕ} {R S : Rule A} {F G : A → Rule B} → Steady texts k m R S → ((a : A) → Steady texts m n (F a) (G a)) → Steady texts k n (R >>= F) (S >>= G)
bound {R = R} {S = S} {F = F} {G = G} first more = record {
  within = λ z. most_then (length z) (R z) F (first.within z) (λ a us. (more a).within us);
  goes = λ t q z w good few. alike_then (R (t ∷ (q ++ z))) (S (t ∷ (q ++ w))) F G (first.goes t q z w good few) more;
}

pub looser : {A : Type 0} {texts : Texts} {R S : Rule A} (k m n : ℕ) → m ≤ n → Steady texts k m R S → Steady texts k n R S
looser k m n le first = record { within = first.within; goes = λ t q z w good few. alike_up m n le (first.goes t q z w good few) }

-- nothing in common
pub apart : {A : Type 0} {texts : Texts} {n : ℕ} {R S : Rule A} → ((z : List Token) → AtMost (length z) (R z)) → Steady texts zero n R S
apart h = record { within = h; goes = λ t q z w good few. absurd (omega (arith, few)) }

pub given : {A : Type 0} {texts : Texts} {k : ℕ} (a : A) → Steady texts k k (pure a) (pure a)
given a = record { within = λ z. omega arith; goes = λ t q z w good few. Alike.inside a t q good few refl refl }

long : (q z : List Token) → length (q ++ z) ≡ length q + length z
long q z = length-append q z

pub refused : {A : Type 0} {texts : Texts} {k n : ℕ} → Steady {A = A} texts k n refuse refuse
refused = record {
  within = λ z. omega arith;
  goes = λ t q z w good few. Alike.stopped (length q) (ap (λ x. Err x) (let e = long q z in omega (arith, e))) (ap (λ x. Err x) (let e = long q w in omega (arith, e)));
}

-- behind the next token
pub tailed : {A : Type 0} {texts : Texts} {n : ℕ} {R S : Rule A} (k m : ℕ) → k ≤ suc m → Steady texts m n R S → Steady texts k n (λ ts. R (tail_of ts)) (λ ts. S (tail_of ts))
unfolding tail_of
tailed {A} {texts} {n} {R} {S} k m le more = record { within = first; goes = λ t q z w good few. go q z w good.1 (omega (arith, le, few)) }
  where
    first : (z : List Token) → AtMost (length z) (R (tail_of z))
    first [] = more.within []
    first (t ∷ z) = most_up (length z) (length (t ∷ z)) (R z) (omega arith) (more.within z)

    go : (q z w : List Token) → InBoth texts q → length q ≤ m → Alike texts n z w (R (q ++ z)) (S (q ++ w))
    go [] z w good few = Alike.past (more.within z)
    go (t ∷ q) z w good few = more.goes t q z w good few

-- by what is told of the next token alone
pub looked : {A X : Type 0} {texts : Texts} {k n : ℕ} (look : List Token → X) (F G : X → Rule A) → ((t : Token) (q z w : List Token) → look (t ∷ (q ++ z)) ≡ look (t ∷ (q ++ w))) → ((x : X) → Steady texts k n (F x) (G x))
    → Steady texts k n (λ ts. F (look ts) ts) (λ ts. G (look ts) ts)
looked {texts = texts} {n = n} look F G same all = record {
  within = λ z. (all (look z)).within z;
  goes = λ t q z w good few. subst (λ x. Alike texts n z w (F (look (t ∷ (q ++ z))) (t ∷ (q ++ z))) (G x (t ∷ (q ++ w)))) (same t q z w) ((all (look (t ∷ (q ++ z)))).goes t q z w good few);
}

-- by what the next token spells
pub looked_text : {A X : Type 0} {texts : Texts} {k n : ℕ} (look other : List Token → X) (F G : X → Rule A) → ((t : Token) (q z w : List Token) → spelling_of texts.0 t ≡ spelling_of texts.1 t → look (t ∷ (q ++ z)) ≡ other (t ∷ (q ++ w)))
    → ((x : X) → Steady texts k n (F x) (G x)) → Steady texts k n (λ ts. F (look ts) ts) (λ ts. G (other ts) ts)
looked_text {texts = texts} {n = n} look other F G same all = record {
  within = λ z. (all (look z)).within z;
  goes = λ t q z w good few. subst (λ x. Alike texts n z w (F (look (t ∷ (q ++ z))) (t ∷ (q ++ z))) (G x (t ∷ (q ++ w)))) (same t q z w good.0) ((all (look (t ∷ (q ++ z)))).goes t q z w good few);
}

pub either : {A : Type 0} {texts : Texts} {k n : ℕ} {R S P Q : Rule A} (b : Bool) → Steady texts k n R S → Steady texts k n P Q → Steady texts k n (λ ts. if b then R ts else P ts) (λ ts. if b then S ts else Q ts)
either true first other = first
either false first other = other

pub perhaps : {A X : Type 0} {texts : Texts} {k n : ℕ} {R S : X → Rule A} {P Q : Rule A} (o : Option X) → ((x : X) → Steady texts k n (R x) (S x)) → Steady texts k n P Q
    → Steady texts k n (λ ts. option_map_or (λ x. R x ts) o (P ts)) (λ ts. option_map_or (λ x. S x ts) o (Q ts))
perhaps (Some x) first other = first x
perhaps None first other = other

-- a value, for the next token
pub eaten : {A : Type 0} {texts : Texts} (k m : ℕ) → k ≤ suc m → (a : A) → Steady texts k m (λ ts. Ok (a, tail_of ts)) (λ ts. Ok (a, tail_of ts))
eaten k m le a = tailed k m le (given a)

-- one way where a token of this kind comes next, another where it doesn't
pub chosen_at : {A : Type 0} {texts : Texts} {n : ℕ} {R S P Q : Rule A} (k m : ℕ) → k ≤ suc m → (wanted : TokenKind) → Steady texts m n R S → Steady texts k n P Q
    → Steady texts k n (λ ts. if sees wanted ts then R (tail_of ts) else P ts) (λ ts. if sees wanted ts then S (tail_of ts) else Q ts)
unfolding sees kind_of
chosen_at {R = R} {S = S} {P = P} {Q = Q} k m le wanted first other =
    looked (sees wanted) (λ b. λ ts. if b then R (tail_of ts) else P ts) (λ b. λ ts. if b then S (tail_of ts) else Q ts) (λ t q z w. refl) (λ b. either b (tailed k m le first) other)

pub chosen : {A : Type 0} {texts : Texts} {k n : ℕ} {R S P Q : Rule A} (wanted : TokenKind) → Steady texts k n R S → Steady texts k n P Q
    → Steady texts k n (λ ts. if sees wanted ts then R (tail_of ts) else P ts) (λ ts. if sees wanted ts then S (tail_of ts) else Q ts)
chosen {k = k} wanted first other = chosen_at k k (omega arith) wanted first other

-- by whether a token of this kind comes next
pub seen : {A : Type 0} {texts : Texts} {k n : ℕ} {R S P Q : Rule A} (wanted : TokenKind) → Steady texts k n R S → Steady texts k n P Q
    → Steady texts k n (λ ts. if sees wanted ts then R ts else P ts) (λ ts. if sees wanted ts then S ts else Q ts)
unfolding sees kind_of
seen {R = R} {S = S} {P = P} {Q = Q} wanted first other =
    looked (sees wanted) (λ b. λ ts. if b then R ts else P ts) (λ b. λ ts. if b then S ts else Q ts) (λ t q z w. refl) (λ b. either b first other)

pub skip_at : {texts : Texts} (k n : ℕ) → k ≤ suc n → (wanted : TokenKind) → Steady texts k n (skip wanted) (skip wanted)
unfolding skip
skip_at k n le wanted = chosen_at k n le wanted (given tt) refused

pub skips : {texts : Texts} {k : ℕ} (wanted : TokenKind) → Steady texts k k (skip wanted) (skip wanted)
skips {k} wanted = skip_at k k (omega arith) wanted

-- rules that give the same
pub same_as : {A : Type 0} {texts : Texts} {k n : ℕ} {R S P Q : Rule A} → ((ts : List Token) → R ts ≡ P ts) → ((ts : List Token) → S ts ≡ Q ts) → Steady texts k n R S → Steady texts k n P Q
same_as {texts = texts} {n = n} {R = R} {S = S} {P = P} {Q = Q} e f first = record {
  within = λ z. subst (AtMost (length z)) (e z) (first.within z);
  goes = λ t q z w good few. subst (λ x. Alike texts n z w x (Q (t ∷ (q ++ w)))) (e (t ∷ (q ++ z))) (subst (λ x. Alike texts n z w (R (t ∷ (q ++ z))) x) (f (t ∷ (q ++ w))) (first.goes t q z w good few));
}

-- behind any number of `;`
semicolons_shorter : (z : List Token) → length (semicolons z) ≤ length z
unfolding semicolons
semicolons_shorter [] = omega arith
semicolons_shorter (t ∷ z) = go (same_kind t.kind Semicolon) (semicolons_shorter z)
  where
    go : (b : Bool) → length (semicolons z) ≤ length z → length (if b then semicolons z else t ∷ z) ≤ length (t ∷ z)
    go true h = omega (arith, h)
    go false h = omega arith

pub broken : {A : Type 0} {texts : Texts} {k n : ℕ} {R S : Rule A} → Steady texts k n R S → Steady texts k n (λ ts. R (semicolons ts)) (λ ts. S (semicolons ts))
unfolding semicolons
broken {A} {texts} {k} {n} {R} {S} more = record { within = first; goes = λ t q z w good few. go t q z w good few }
  where
    first : (z : List Token) → AtMost (length z) (R (semicolons z))
    first z = most_up (length (semicolons z)) (length z) (R (semicolons z)) (semicolons_shorter z) (more.within (semicolons z))

    by_kind : (t : Token) (q z w : List Token) → InBoth texts (t ∷ q) → suc (length q) ≤ k → (b : Bool) → Alike texts n z w (R (semicolons (q ++ z))) (S (semicolons (q ++ w)))
        → Alike texts n z w (R (if b then semicolons (q ++ z) else t ∷ (q ++ z))) (S (if b then semicolons (q ++ w) else t ∷ (q ++ w)))
    by_kind t q z w good few true h = h
    by_kind t q z w good few false h = more.goes t q z w good few

    go : (t : Token) (q z w : List Token) → InBoth texts (t ∷ q) → suc (length q) ≤ k → Alike texts n z w (R (semicolons (t ∷ (q ++ z)))) (S (semicolons (t ∷ (q ++ w))))
    go t [] z w good few = by_kind t [] z w good few (same_kind t.kind Semicolon) (Alike.past (first z))
    go t (s ∷ q) z w good few = by_kind t (s ∷ q) z w good few (same_kind t.kind Semicolon) (go s q z w good.1 (omega (arith, few)))

-- ---- rules that go on for at most so many turns

-- a rule that is apart at none
at_none : {A X : Type 0} {texts : Texts} (R S : X → Rule A) → ((x : X) (z : List Token) → AtMost (length z) (R x z)) → (m : ℕ) → m ≤ zero - 1 → (x : X) → Steady texts m m (R x) (S x)
at_none R S h zero le x = apart (h x)
at_none R S h (suc m) le x = absurd (omega (arith, le))

-- what one turn asks of the turns behind the next token
abbrev pub Turns : {A X : Type 0} (texts : Texts) (R S : ℕ → X → Rule A) (d : ℕ) → Type 0
Turns {X = X} texts R S d = (f g k : ℕ) → k ≤ d → ((m : ℕ) → m ≤ k - 1 → (x : X) → Steady texts m m (R f x) (S g x)) → (x : X) → Steady texts k k (R (suc f) x) (S (suc g) x)

loop_within : {A X : Type 0} {texts : Texts} (R S : ℕ → X → Rule A) (d : ℕ) → ((x : X) (z : List Token) → AtMost (length z) (R zero x z)) → Turns texts R S d → (f : ℕ) (x : X) (z : List Token) → AtMost (length z) (R f x z)
loop_within R S d none turn zero x z = none x z
loop_within R S d none turn (suc f) x z = (turn f f zero (omega arith) (at_none (R f) (S f) (λ y v. loop_within R S d none turn f y v)) x).within z

pub looped : {A X : Type 0} {texts : Texts} (R S : ℕ → X → Rule A) (d : ℕ) → ((x : X) (z : List Token) → AtMost (length z) (R zero x z)) → Turns texts R S d → (f g k : ℕ) → k ≤ f → k ≤ g → k ≤ d → (x : X) → Steady texts k k (R f x) (S g x)
looped R S d none turn zero g zero a b c x = apart (loop_within R S d none turn zero x)
looped R S d none turn zero g (suc m) a b c x = absurd (omega (arith, a))
looped R S d none turn (suc f) zero zero a b c x = apart (loop_within R S d none turn (suc f) x)
looped R S d none turn (suc f) zero (suc m) a b c x = absurd (omega (arith, b))
looped R S d none turn (suc f) (suc g) k a b c x = turn f g k c (λ m le y. looped R S d none turn f g m (omega (arith, a, le)) (omega (arith, b, le)) (omega (arith, c, le)) y) x

-- as many turns as there are tokens
pub sized : {A : Type 0} {texts : Texts} (R S : ℕ → Rule A) (k : ℕ) → ((f g m : ℕ) → m ≤ k → m ≤ f → m ≤ g → Steady texts m m (R f) (S g)) → Steady texts k k (λ ts. R (length ts) ts) (λ ts. S (length ts) ts)
sized R S k all = record {
  within = λ z. (all (length z) (length z) zero (omega arith) (omega arith) (omega arith)).within z;
  goes = λ t q z w good few.
      let l = long q z in let m = long q w in
      alike_up (suc (length q)) k few ((all (length (t ∷ (q ++ z))) (length (t ∷ (q ++ w))) (suc (length q)) few (omega (arith, l)) (omega (arith, m))).goes t q z w good (omega arith));
}

-- what is read before the lists part is read of both
pub carried : {A : Type 0} {texts : Texts} {n : ℕ} {z w : List Token} {o u : Outcome A} (a : A) (us : List Token) → Alike texts n z w o u → o ≡ Ok (a, us) → length z < length us → (vs : List Token) × (u ≡ Ok (a, vs))
carried {z = z} {w = w} {o = o} a us (Alike.stopped e i j) is far = absurd (bad (sym i ∙ is))
  where
    bad : {A : Type 0} {a : A} {us : List Token} → ◌≡◌ {A = Outcome A} (Err (suc e + length z)) (Ok (a, us)) → ⊥
    bad h = absurd (cc)
carried {A} {z = z} {w = w} a us (Alike.inside b t q good few i j) is far =
    let same : ◌≡◌ {A = Outcome A} (Ok (b, t ∷ (q ++ z))) (Ok (a, us)) = sym i ∙ is in
    let pairs : ◌≡◌ {A = A × List Token} (b, t ∷ (q ++ z)) (a, us) = cc in
    (t ∷ (q ++ w), j ∙ ap (λ (p : A × List Token). Ok (p.0, t ∷ (q ++ w))) pairs)
carried {z = z} a us (Alike.past h) is far = let least = subst (AtMost (length z)) is h in absurd (omega (arith, least, far))
