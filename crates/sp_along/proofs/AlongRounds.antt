-- What stands in two groups, or in two turns, isn't in one round.
use Rattle.std.proofs.Common.{◌≡◌, ℕ, Bool, true, false, ◌&&◌, not, List, [], ◌∷◌, ◌++◌, arith, refl, sym, ap, subst, if◌then◌else◌}
use Rattle.std.proofs.lemmas.Bool.{eqb-true, false≢true}
use Rattle.std.proofs.lemmas.List.Elements.{All-head, All-tail, All-append}
use Rattle.std.specs.List.{All}
use Rattle.std.specs.Prelude.{◌==◌}
use Rattle.sp_core.specs.Events.{At, When, before, in_group_of, in_turn, Standing, Moment, touches, slices, renews, keeps}
use Rattle.sp_core.specs.Meeting.{Together, in_one_turn, nowhere, is_group, is_in_stream, go_on, together, together_at}
use Rattle.sp_core.specs.PlainCore.{PlainCore}
use Rattle.sp_along.specs.Along.{Named}
use Rattle.sp_along.specs.AlongTextOrder.{EachPair, IsOneRound}
use Rattle.sp_along.proofs.AlongNamed.{AllNamed, none, more, both_named}

abbrev pub IsOtherRound : When → When → Type 0
IsOtherRound (in_group_of g s) (in_group_of i r) = g ≡ i → ⊥
IsOtherRound (in_turn t) (in_turn u) = t ≡ u → ⊥
IsOtherRound w x = ⊥

other_test : (a b : ℕ) → (a ≡ b → ⊥) → (a == b) ≡ false
other_test a b h = go (a == b) refl
  where
    go : (t : Bool) → (a == b) ≡ t → t ≡ false
    go true e = absurd (h (eqb-true a b e))
    go false e = refl

not_group : (w x : When) → IsOtherRound w x → is_group w x ≡ false
not_group before x h = absurd h
not_group (in_group_of g s) before h = absurd h
not_group (in_group_of g s) (in_turn u) h = absurd h
not_group (in_turn t) before h = absurd h
not_group (in_turn t) (in_group_of i r) h = absurd h
not_group (in_group_of g s) (in_group_of i r) h = ap (λ b. b && (s == r)) (other_test g i h)
not_group (in_turn t) (in_turn u) h = other_test t u h

not_here : (k : ℕ) (w x : When) → IsOtherRound w x → IsOneRound (together_at k w x) → ⊥
not_here k before x h r = absurd h
not_here k (in_group_of g s) before h r = absurd h
not_here k (in_group_of g s) (in_turn u) h r = absurd h
not_here k (in_turn t) before h r = absurd h
not_here k (in_turn t) (in_group_of i r) h q = absurd h
not_here k (in_group_of g s) (in_group_of i r) h q = h q
not_here k (in_turn t) (in_turn u) h q = subst (λ b. IsOneRound (if b then in_one_turn else nowhere) → ⊥) (sym (other_test t u h)) (λ z. z) q

at_it : (c d e : Bool) (x y : Together) → e ≡ false → (IsOneRound y → ⊥) → IsOneRound (if c then (if d then (if e then x else nowhere) else y) else nowhere) → ⊥
at_it true true true x y e h r = false≢true (sym e)
at_it true true false x y e h r = r
at_it true false e' x y e h r = h r
at_it false d e' x y e h r = r

further : (c d e : Bool) (x y : Together) → d ≡ true → (IsOneRound x → ⊥) → IsOneRound (if c then (if d then (if e then x else nowhere) else y) else nowhere) → ⊥
further true true true x y e h r = h r
further true true false x y e h r = r
further true false e' x y e h r = false≢true e
further false d e' x y e h r = r

same_number : (n : ℕ) → (n == n) ≡ true
same_number n = grind arith

-- where two paths have one front and then are at one controller, they go on at one
one_front : (front : List At) (a b : At) (p q : List At) → (a.node == b.node) ≡ true → go_on (front ++ a ∷ p) (front ++ b ∷ q) ≡ true
one_front [] a b p q e = e
one_front (c ∷ front) a b p q e = same_number c.node

pub other_rounds : (core : PlainCore) (front : List At) (a b : At) (p q : List At) → (a.node == b.node) ≡ true → IsOtherRound a.when b.when → IsOneRound (together core (front ++ a ∷ p) (front ++ b ∷ q)) → ⊥
other_rounds core [] a b p q e h r =
    at_it ((a.node == b.node) && not (is_in_stream core a.node)) (go_on p q) (is_group a.when b.when) (together core p q) (together_at a.node a.when b.when) (not_group a.when b.when h) (not_here a.node a.when b.when h) r
other_rounds core (c ∷ front) a b p q e h r =
    further ((c.node == c.node) && not (is_in_stream core c.node)) (go_on (front ++ a ∷ p) (front ++ b ∷ q)) (is_group c.when c.when) (together core (front ++ a ∷ p) (front ++ b ∷ q)) (together_at c.node c.when c.when)
    (one_front front a b p q e) (other_rounds core front a b p q e h) r

-- of lists of moments
named_more : (P Q : ℕ → Standing → Type 0) → ((n : ℕ) (s : Standing) → P n s → Q n s) → (m : Moment) → Named P m → Named Q m
named_more P Q f (touches e) h = f e.number e.standing h
named_more P Q f (slices s) h = f s.number s.standing h
named_more P Q f (renews m) h = tt
named_more P Q f (keeps m w) h = tt

pub all_more : (P Q : ℕ → Standing → Type 0) → ((n : ℕ) (s : Standing) → P n s → Q n s) → (ms : List Moment) → AllNamed P ms → AllNamed Q ms
all_more P Q f [] h = none Q
all_more P Q f (m ∷ ms) h = more Q m ms (named_more P Q f m (All-head (Named P) m ms h)) (all_more P Q f ms (All-tail (Named P) m ms h))

module _ (R : ℕ → Standing → ℕ → Standing → Type 0) where
  by_first : (m : Moment) (xs ys : List Moment) → Named (λ n s. All (Named (R n s)) xs) m → Named (λ n s. All (Named (R n s)) ys) m → Named (λ n s. All (Named (R n s)) (xs ++ ys)) m
  by_first (touches e) xs ys h k = All-append (Named (R e.number e.standing)) xs ys h k
  by_first (slices s) xs ys h k = All-append (Named (R s.number s.standing)) xs ys h k
  by_first (renews m) xs ys h k = tt
  by_first (keeps m w) xs ys h k = tt

  two_lists : (P Q : ℕ → Standing → Type 0) → ((n : ℕ) (s : Standing) (m : ℕ) (t : Standing) → P n s → Q m t → R n s m t) → (xs ys : List Moment) → AllNamed P xs → AllNamed Q ys → EachPair R xs → EachPair R ys → EachPair R (xs ++ ys)
  two_lists P Q f [] ys h k a b = b
  two_lists P Q f (m ∷ xs) ys h k a b =
      (by_first m xs ys a.0 (across m (All-head (Named P) m xs h)), two_lists P Q f xs ys (All-tail (Named P) m xs h) k a.1 b)
    where
      across : (m : Moment) → Named P m → Named (λ n s. All (Named (R n s)) ys) m
      across (touches e) p = all_more Q (R e.number e.standing) (λ n t q. f e.number e.standing n t p q) ys k
      across (slices s) p = all_more Q (R s.number s.standing) (λ n t q. f s.number s.standing n t p q) ys k
      across (renews x) p = tt
      across (keeps x w) p = tt

  pub all_alike : (P : ℕ → Standing → Type 0) → ((n : ℕ) (s : Standing) (m : ℕ) (t : Standing) → P n s → P m t → R n s m t) → (ms : List Moment) → AllNamed P ms → EachPair R ms
  all_alike P f [] h = tt
  all_alike P f (m ∷ ms) h = (across m (All-head (Named P) m ms h), all_alike P f ms (All-tail (Named P) m ms h))
    where
      across : (m : Moment) → Named P m → Named (λ n s. All (Named (R n s)) ms) m
      across (touches e) p = all_more P (R e.number e.standing) (λ n t q. f e.number e.standing n t p q) ms (All-tail (Named P) m ms h)
      across (slices s) p = all_more P (R s.number s.standing) (λ n t q. f s.number s.standing n t p q) ms (All-tail (Named P) m ms h)
      across (renews x) p = tt
      across (keeps x w) p = tt

  -- moments that stand so, of which each two are so related
  abbrev pub Ordered : (ℕ → Standing → Type 0) → List Moment → Type 0
  Ordered P ms = AllNamed P ms × EachPair R ms

  pub joined : (P Q S : ℕ → Standing → Type 0) → ((n : ℕ) (s : Standing) → P n s → S n s) → ((n : ℕ) (s : Standing) → Q n s → S n s) → ((n : ℕ) (s : Standing) (m : ℕ) (t : Standing) → P n s → Q m t → R n s m t) →
      (xs ys : List Moment) → Ordered P xs → Ordered Q ys → Ordered S (xs ++ ys)
  joined P Q S p q f xs ys h k = (both_named S xs ys (all_more P S p xs h.0) (all_more Q S q ys k.0), two_lists P Q f xs ys h.0 k.0 h.1 k.1)

  pub weaker : (P S : ℕ → Standing → Type 0) → ((n : ℕ) (s : Standing) → P n s → S n s) → (xs : List Moment) → Ordered P xs → Ordered S xs
  weaker P S f xs h = (all_more P S f xs h.0, h.1)
