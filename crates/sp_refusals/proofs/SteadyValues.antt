-- Whether a body goes on with its value.
use Rattle.std.proofs.Common.{◌≡◌, ◌∙◌, ℕ, zero, suc, ◌≤◌, Bool, true, false, not, ◌&&◌, List, [], ◌∷◌, ◌++◌, length, Result, Ok, Err, refl, ap, arith, if◌then◌else◌}
use Rattle.sp_reader.specs.declared.token.Token.{Token}
use Rattle.sp_reader.specs.declared.token.TokenKind.{TokenKind}
use Rattle.sp_reader.specs.declared.token.TokenKind.TheVariants as k
use Rattle.sp_reader.specs.PlainStatement.{PlainSpan}
use Rattle.sp_reader.specs.SimpleRules.{are_indices, result_map, no_statement, is_access, is_named_value, begins_statement, is_value}
use Rattle.sp_reader.specs.StatementRules.{value_or}
use Rattle.sp_reader.specs.Steps.{Text, Rule, Outcome, ◌>>=◌, is_name, kind_of, tail_of, same_kind, sees}
use Rattle.sp_grammar.specs.Tokens.{Takes}
use Rattle.sp_grammar.proofs.Rules.{kind_is}
use Rattle.sp_refusals.proofs.Steady.{Texts, InBoth, Steady, Alike, AtMost, most_up, most_then}
use Rattle.sp_refusals.proofs.SteadySimple.{places_read, places_go, ReadPlaces, places_are}

-- a refusal with at most so many tokens left
abbrev MostBool : ℕ → Result Bool ℕ → Type 0
MostBool n (Ok b) = Unit {0}
MostBool n (Err e) = e ≤ n

module _ (source : Text) where
  -- a rule that isn't refused at a name, nor at what is read behind it to tell a value from a statement
  pub record TakesNames {A : Type 0} (P : List PlainSpan → Type 0) (R : Rule A) : Type 0 where
    pub alone : (t : Token) (us : List Token) → is_name t.kind ≡ true → AtMost (length us) (R (t ∷ us))
    pub dotted : (t : Token) {ts us : List Token} → is_name t.kind ≡ true → Takes k.Dot ts us → AtMost (length us) (R (t ∷ ts))
    pub access : (t : Token) {ts inside vs : List Token} {all : List PlainSpan} → is_name t.kind ≡ true → Takes k.OpenRound ts inside → ReadPlaces source inside all vs → P all → AtMost (length vs) (R (t ∷ ts))

  pub names_then : {A B : Type 0} {P : List PlainSpan → Type 0} {R : Rule A} (F : A → Rule B) → TakesNames P R → ((a : A) (us : List Token) → AtMost (length us) (F a us)) → TakesNames P (R >>= F)
  names_then {R = R} F h more = record {
    alone = λ t us n. most_then (length us) (R (t ∷ us)) F (h.alone t us n) more;
    dotted = λ t {ts = ts} {us = us} n dot. most_then (length us) (R (t ∷ ts)) F (h.dotted t n dot) more;
    access = λ t {ts = ts} {vs = vs} n opened read p. most_then (length vs) (R (t ∷ ts)) F (h.access t n opened read p) more;
  }

  abbrev pub AreIndices : List PlainSpan → Type 0
  AreIndices all = are_indices all ≡ true

  abbrev pub AnyPlaces : List PlainSpan → Type 0
  AnyPlaces all = Unit {0}

  access_most : (z : List Token) → MostBool (length z) (is_access source z)
  unfolding is_access places_read
  access_most z = go (places_read source z) ((places_go (source, source) {m = zero}).within z)
    where
      go : (o : Outcome (List PlainSpan)) → AtMost (length z) o → MostBool (length z) (result_map (λ p. no_statement p.0 p.1) o)
      go (Ok p) h = tt
      go (Err e) h = h

  tail_shorter : (z : List Token) → length (tail_of z) ≤ length z
  unfolding tail_of
  tail_shorter [] = omega arith
  tail_shorter (t ∷ z) = omega arith

  bool_up : (m n : ℕ) (r : Result Bool ℕ) → m ≤ n → MostBool m r → MostBool n r
  bool_up m n (Ok b) le h = tt
  bool_up m n (Err e) le h = omega (arith, le, h)

  named_value_most : (z : List Token) → MostBool (length z) (is_named_value source z)
  unfolding is_named_value
  named_value_most z = go (sees k.Assign z) (sees k.Load z) (sees k.Gather z) (sees k.Dot z) (sees k.OpenRound z)
    where
      go : (a b c d e : Bool) → MostBool (length z) (if a then Ok false else (if b then Ok false else (if c then Ok false else (if d then Ok (not (sees k.Enq (tail_of z))) else (if e then is_access source (tail_of z) else Ok true)))))
      go true b c d e = tt
      go false true c d e = tt
      go false false true d e = tt
      go false false false true e = tt
      go false false false false true = bool_up (length (tail_of z)) (length z) (is_access source (tail_of z)) (tail_shorter z) (access_most (tail_of z))
      go false false false false false = tt

  value_most : (z : List Token) → MostBool (length z) (is_value source z)
  unfolding is_value
  value_most z = go (begins_statement (kind_of z)) (is_name (kind_of z))
    where
      go : (a b : Bool) → MostBool (length z) (if a then Ok false else (if b then is_named_value source (tail_of z) else Ok true))
      go true b = tt
      go false true = bool_up (length (tail_of z)) (length z) (is_named_value source (tail_of z)) (tail_shorter z) (named_value_most (tail_of z))
      go false false = tt

  access_is : (z : List Token) → is_access source z ≡ result_map (λ p. no_statement p.0 p.1) (places_read source z)
  unfolding is_access places_read
  access_is z = refl

  -- where a value comes next, the places are indices
  indices_of : (all : List PlainSpan) (us : List Token) → no_statement all us ≡ true → are_indices all ≡ true
  indices_of all us h = go (not (sees k.Equal us)) (not (sees k.Store us)) (not (sees k.Scatter us)) (are_indices all) h
    where
      go : (a b c d : Bool) → (a && b && c && d) ≡ true → d ≡ true
      go a b c true h = refl
      go true true true false h = absurd (cc)
      go true true false false h = absurd (cc)
      go true false c false h = absurd (cc)
      go false b c false h = absurd (cc)

module _ (texts : Texts) where
  module _ {A : Type 0} (n : ℕ) (L L' M M' : Rule A) (first : Steady texts n n L L') (other : Steady texts n n M M') (first_names : 1 ≤ n → TakesNames texts.0 (AreIndices texts.0) L) (other_names : 1 ≤ n → TakesNames texts.0 (AnyPlaces texts.0) M) where
    either_most : (l : ℕ) (ts : List Token) (r : Result Bool ℕ) → MostBool l r → AtMost l (L ts) → AtMost l (M ts) → AtMost l (value_or r L M ts)
    either_most l ts (Ok true) h a b = a
    either_most l ts (Ok false) h a b = b
    either_most l ts (Err e) h a b = h

    -- the same is said of both
    alike : (t : Token) (q z w : List Token) → InBoth texts (t ∷ q) → suc (length q) ≤ n → (b : Bool) → Alike texts n z w (value_or (Ok b) L M (t ∷ (q ++ z))) (value_or (Ok b) L' M' (t ∷ (q ++ w)))
    alike t q z w good few true = first.goes t q z w good few
    alike t q z w good few false = other.goes t q z w good few

    accessed : (l : ℕ) (t : Token) (ts inside : List Token) → 1 ≤ n → is_name t.kind ≡ true → Takes k.OpenRound ts inside → AtMost l (places_read texts.0 inside) → AtMost l (value_or (is_access texts.0 inside) L M (t ∷ ts))
    unfolding is_access places_read
    accessed l t ts inside some named opened h = go (places_read texts.0 inside) refl h
      where
        by_value : (all : List PlainSpan) (us : List Token) → places_read texts.0 inside ≡ Ok (all, us) → length us ≤ l → (b : Bool) → no_statement all us ≡ b → AtMost l (value_or (Ok b) L M (t ∷ ts))
        by_value all us is h true v = most_up (length us) l (L (t ∷ ts)) h ((first_names some).access t named opened ((places_are texts.0 inside).run all us is) (indices_of texts.0 all us v))
        by_value all us is h false v = most_up (length us) l (M (t ∷ ts)) h ((other_names some).access t named opened ((places_are texts.0 inside).run all us is) tt)

        go : (o : Outcome (List PlainSpan)) → places_read texts.0 inside ≡ o → AtMost l o → AtMost l (value_or (result_map (λ p. no_statement p.0 p.1) o) L M (t ∷ ts))
        go (Ok p) is h = by_value p.0 p.1 is h (no_statement p.0 p.1) refl
        go (Err e) is h = h

    -- behind a name
    behind_name : (t : Token) (q z w : List Token) → InBoth texts (t ∷ q) → suc (length q) ≤ n → is_name t.kind ≡ true
        → Alike texts n z w (value_or (is_named_value texts.0 (q ++ z)) L M (t ∷ (q ++ z))) (value_or (is_named_value texts.1 (q ++ w)) L' M' (t ∷ (q ++ w)))
    unfolding is_named_value sees kind_of tail_of
    behind_name t [] z w good few named =
        Alike.past (either_most (length z) (t ∷ z) (is_named_value texts.0 z) (named_value_most texts.0 z) ((first_names few).alone t z named) ((other_names few).alone t z named))
    behind_name t (s ∷ q) z w good few named = go (same_kind s.kind k.Assign) (same_kind s.kind k.Load) (same_kind s.kind k.Gather) (same_kind s.kind k.Dot) refl (same_kind s.kind k.OpenRound) refl
      where
        some : 1 ≤ n
        some = omega (arith, few)

        takes : (wanted : TokenKind) (us : List Token) → same_kind s.kind wanted ≡ true → Takes wanted (s ∷ us) us
        takes wanted us e = record { token = s; is = refl; of_kind = kind_is s.kind wanted e }

        by_dot : (p : List Token) → InBoth texts (t ∷ s ∷ p) → suc (suc (length p)) ≤ n → same_kind s.kind k.Dot ≡ true
            → Alike texts n z w (value_or (Ok (not (same_kind (kind_of (p ++ z)) k.Enq))) L M (t ∷ s ∷ (p ++ z))) (value_or (Ok (not (same_kind (kind_of (p ++ w)) k.Enq))) L' M' (t ∷ s ∷ (p ++ w)))
        by_dot [] good few dot =
            Alike.past (either_most (length z) (t ∷ s ∷ z) (Ok (not (same_kind (kind_of z) k.Enq))) tt ((first_names some).dotted t named (takes k.Dot z dot)) ((other_names some).dotted t named (takes k.Dot z dot)))
        by_dot (v ∷ p) good few dot = alike t (s ∷ v ∷ p) z w good few (not (same_kind v.kind k.Enq))

        by_places : (p : List Token) → InBoth texts (t ∷ s ∷ p) → suc (suc (length p)) ≤ n → same_kind s.kind k.OpenRound ≡ true → Alike texts n z w (places_read texts.0 (p ++ z)) (places_read texts.1 (p ++ w))
            → Alike texts n z w (value_or (is_access texts.0 (p ++ z)) L M (t ∷ s ∷ (p ++ z))) (value_or (is_access texts.1 (p ++ w)) L' M' (t ∷ s ∷ (p ++ w)))
        by_places p good few opened (Alike.stopped e i j) =
            Alike.stopped e (ap (λ r. value_or r L M (t ∷ s ∷ (p ++ z))) (access_is texts.0 (p ++ z) ∙ ap (λ o. result_map (λ p. no_statement p.0 p.1) o) i)) (ap (λ r. value_or r L' M' (t ∷ s ∷ (p ++ w))) (access_is texts.1 (p ++ w) ∙ ap (λ o. result_map (λ p. no_statement p.0 p.1) o) j))
        by_places p good few opened (Alike.inside a x y more le i j) =
            let first_is : is_access texts.0 (p ++ z) ≡ Ok (no_statement a (x ∷ (y ++ z))) = access_is texts.0 (p ++ z) ∙ ap (λ o. result_map (λ p. no_statement p.0 p.1) o) i in
            let other_is : is_access texts.1 (p ++ w) ≡ Ok (no_statement a (x ∷ (y ++ w))) = access_is texts.1 (p ++ w) ∙ ap (λ o. result_map (λ p. no_statement p.0 p.1) o) j in
            rw (first_is, other_is) (alike t (s ∷ p) z w good few (no_statement a (x ∷ (y ++ z))))
        by_places p good few opened (Alike.past h) = Alike.past (accessed (length z) t (s ∷ (p ++ z)) (p ++ z) some named (takes k.OpenRound (p ++ z) opened) h)

        by_open : (p : List Token) → InBoth texts (t ∷ s ∷ p) → suc (suc (length p)) ≤ n → same_kind s.kind k.OpenRound ≡ true
            → Alike texts n z w (value_or (is_access texts.0 (p ++ z)) L M (t ∷ s ∷ (p ++ z))) (value_or (is_access texts.1 (p ++ w)) L' M' (t ∷ s ∷ (p ++ w)))
        by_open [] good few opened = Alike.past (accessed (length z) t (s ∷ z) z some named (takes k.OpenRound z opened) ((places_go texts {m = zero}).within z))
        by_open (v ∷ p) good few opened = by_places (v ∷ p) good few opened ((places_go texts {m = n}).goes v p z w good.1.1 (omega (arith, few)))

        go : (a b c d : Bool) → same_kind s.kind k.Dot ≡ d → (e : Bool) → same_kind s.kind k.OpenRound ≡ e
            → Alike texts n z w (value_or (if a then Ok false else (if b then Ok false else (if c then Ok false else (if d then Ok (not (same_kind (kind_of (q ++ z)) k.Enq)) else (if e then is_access texts.0 (q ++ z) else Ok true))))) L M (t ∷ s ∷ (q ++ z)))
            (value_or (if a then Ok false else (if b then Ok false else (if c then Ok false else (if d then Ok (not (same_kind (kind_of (q ++ w)) k.Enq)) else (if e then is_access texts.1 (q ++ w) else Ok true))))) L' M' (t ∷ s ∷ (q ++ w)))
        go true b c d x e y = alike t (s ∷ q) z w good few false
        go false true c d x e y = alike t (s ∷ q) z w good few false
        go false false true d x e y = alike t (s ∷ q) z w good few false
        go false false false true x e y = by_dot q good few x
        go false false false false x true y = by_open q good few y
        go false false false false x false y = alike t (s ∷ q) z w good few true

    -- a value, or what the other rule reads
    pub values_steady : Steady texts n n (λ ts. value_or (is_value texts.0 ts) L M ts) (λ ts. value_or (is_value texts.1 ts) L' M' ts)
    unfolding is_value kind_of tail_of
    values_steady = record {
      within = λ z. either_most (length z) z (is_value texts.0 z) (value_most texts.0 z) (first.within z) (other.within z);
      goes = λ t q z w good few. go t q z w good few (begins_statement t.kind) (is_name t.kind) refl;
    }
      where
        go : (t : Token) (q z w : List Token) → InBoth texts (t ∷ q) → suc (length q) ≤ n → (a b : Bool) → is_name t.kind ≡ b
            → Alike texts n z w (value_or (if a then Ok false else (if b then is_named_value texts.0 (q ++ z) else Ok true)) L M (t ∷ (q ++ z))) (value_or (if a then Ok false else (if b then is_named_value texts.1 (q ++ w) else Ok true)) L' M' (t ∷ (q ++ w)))
        go t q z w good few true b is = alike t q z w good few false
        go t q z w good few false true is = behind_name t q z w good few is
        go t q z w good few false false is = alike t q z w good few true
