-- FIFOs make a forest exactly where no circle leads over them.
use Rattle.std.proofs.Common.{◌≡◌, ℕ, zero, suc, ◌==◌, Bool, true, false, ◌&&◌, ◌||◌, not, List, [], ◌∷◌, length, Option, Some, None, cond, refl, ap, sym, subst, ◌∙◌, true≢false, eqb, eqb-true, inl, inr}
use Rattle.std.specs.List.{list_any}
use Rattle.std.proofs.lemmas.Bool.{eq-eqb}
use Rattle.std.proofs.lemmas.Bool.Decides.{eqb_tells}
use Rattle.sp_core.specs.PlainCore.{PlainNode, PlainCore}
use Rattle.sp_stream.specs.Circles.{AreApart, IsOne, AllOne, Leads, IsCircle}
use Rattle.sp_stream.specs.Proper.{other_end, between, putter, taker, across, are_joined, closes, is_forest}
use Rattle.sp_stream.proofs.Trails.{by_end, trail, walked, among, enough}
use Rattle.sp_stream.proofs.Ways.{or_elim, or_first, or_second, and_elim, both_true, any_elim, joined_on, joined_elim}

pick : (s t : Bool) (p q a : ℕ) → (s ≡ true → q ≡ a) → (s ≡ false → (t ≡ true) × (p ≡ a)) → cond s (Some q) (cond t (Some p) None) ≡ Some a
pick true t p q a f g = ap Some (f refl)
pick false t p q a f g = ap (λ z. cond z (Some p) None) (g refl).0 ∙ ap Some (g refl).1

some_of : {P : Type 0} (c : ℕ) → None ≡ Some c → P
some_of c e = absurd (true≢false (ap (λ o. elim o [ Some z ↦ false | None ↦ true ]) e))

-- a FIFO leads back from where it leads
back : (first second : Option ℕ) (a c : ℕ) → other_end first second a ≡ Some c → other_end first second c ≡ Some a
back (Some p) (Some q) a c e =
    by_end (a == p) (a == q) p q c e
    (λ ap' qc. pick (c == p) (c == q) p q a (λ cp. qc ∙ eqb-true c p cp ∙ sym (eqb-true a p ap')) (λ no. (eq-eqb c q (sym qc), sym (eqb-true a p ap'))))
    (λ aq pc. pick (c == p) (c == q) p q a (λ cp. sym (eqb-true a q aq)) (λ no. absurd (true≢false (sym (eq-eqb c p (sym pc)) ∙ no))))
back None second a c e = some_of c e
back (Some p) None a c e = some_of c e

by_bool : {P : Type 0} (b : Bool) → (b ≡ true → P) → (b ≡ false → P) → P
by_bool true f g = f refl
by_bool false f g = g refl

not_both : (b : Bool) → not b ≡ true → b ≡ true → ⊥
not_both true e f = true≢false (sym e)
not_both false e f = true≢false (sym f)

-- another number is in the rest of a list
drop_one : (m k : ℕ) (rest : List ℕ) → eqb m k ≡ false → IsOne (m ∷ rest) k → IsOne rest k
drop_one m k rest ne is test h =
    or_elim (eqb k m && test m) _ (is (λ z. eqb k z && test z) (both_true (eqb k k) (test k) (eq-eqb k k refl) h))
    (λ e. and_elim (eqb k m) (test m) e (λ s t. absurd (true≢false (sym (eq-eqb m k (sym (eqb-true k m s))) ∙ ne))))
    (λ e. any_elim (λ z. eqb k z && test z) rest e (λ z s one. and_elim (eqb k z) (test z) s (λ x y. one test y)))

neither : {P : Type 0} (a b : Bool) → (a || b) ≡ false → (a ≡ false → b ≡ false → P) → P
neither true b e f = absurd (true≢false e)
neither false b e f = f refl e

clean : (m : ℕ) (rest way : List ℕ) → AllOne (m ∷ rest) way → list_any (eqb m) way ≡ false → AllOne rest way
clean m rest [] o h = tt
clean m rest (k ∷ way) (is, o) h = neither (eqb m k) (list_any (eqb m) way) h (λ e f. (drop_one m k rest e is, clean m rest way o f))

wider : (m : ℕ) (rest way : List ℕ) → AllOne rest way → AllOne (m ∷ rest) way
wider m rest [] o = tt
wider m rest (k ∷ way) (is, o) = ((λ test h. or_second (test m) _ (is test h)), wider m rest way o)

module _ (core : PlainCore) (nodes : List PlainNode) (fifos : List ℕ) where
  abbrev J : ℕ → ℕ → Type 0
  J a b = are_joined core nodes fifos (length fifos) a b ≡ true

  here : (n a b : ℕ) → a ≡ b → are_joined core nodes fifos n a b ≡ true
  here zero a b e = eq-eqb a b e
  here (suc n) a b e = or_first (a == b) _ (eq-eqb a b e)

  joined_then : (n a c m d : ℕ) → are_joined core nodes fifos n a c ≡ true → IsOne fifos m → across core nodes m c ≡ Some d → are_joined core nodes fifos (suc n) a d ≡ true
  joined_then zero a c m d h is e = joined_on core nodes fifos d zero a m d is (ap (across core nodes m) (eqb-true a c h) ∙ e) (here zero d d refl)
  joined_then (suc n) a c m d h is e =
      joined_elim core nodes fifos c n a h
      (λ s. joined_on core nodes fifos d (suc n) a m d is (ap (across core nodes m) (eqb-true a c s) ∙ e) (here (suc n) d d refl))
      (λ k x isk ek r. joined_on core nodes fifos d (suc n) a k x isk ek (joined_then n x c m d r is e))

  round : (n a b : ℕ) → are_joined core nodes fifos n a b ≡ true → are_joined core nodes fifos n b a ≡ true
  round zero a b h = eq-eqb b a (sym (eqb-true a b h))
  round (suc n) a b h =
      joined_elim core nodes fifos b n a h (λ s. here (suc n) b a (sym (eqb-true a b s)))
      (λ m c is e r. joined_then n b c m a (round n c b r) is (back (putter core nodes m) (taker core nodes m) a c e))

  in_turn : (n a c b : ℕ) → are_joined core nodes fifos n a c ≡ true → J c b → J a b
  in_turn zero a c b h k = subst (λ z. J z b) (sym (eqb-true a c h)) k
  in_turn (suc n) a c b h k =
      joined_elim core nodes fifos c n a h (λ s. subst (λ z. J z b) (sym (eqb-true a c s)) k)
      (λ m d is e r. enough core nodes fifos b (suc (length fifos)) a (joined_on core nodes fifos b (length fifos) a m d is e (in_turn n d c b r k)))

  joined_by : (way : List ℕ) (a b : ℕ) → Leads core nodes way a b → AllOne fifos way → J a b
  joined_by way a b w o = enough core nodes fifos b (length way) a (walked core nodes fifos b way a w o)

  -- a way that leads over a FIFO, before it and after it
  split : {P : Type 0} (m : ℕ) (way : List ℕ) (a b : ℕ) → Leads core nodes way a b → AllOne (m ∷ fifos) way → AreApart way → list_any (eqb m) way ≡ true
      → ((y x : ℕ) → across core nodes m y ≡ Some x → J a y → J x b → P) → P
  split m [] a b w o d h f = absurd (true≢false (sym h))
  split m (k ∷ way) a b (c, e, w) (is, o) (n, d) h f = elim (eqb_tells m k) [
    | inl same ↦
        f a c (ap (λ z. across core nodes z a) same.1 ∙ e) (here (length fifos) a a refl)
        (joined_by way c b w (clean m fifos way o (ap (λ z. list_any (eqb z) way) same.1 ∙ n)))
    | inr apart ↦
        split m way c b w o d (ap (λ z. z || list_any (eqb m) way) (sym apart.0) ∙ h)
        (λ y x s l r. f y x s (enough core nodes fifos y (suc (length fifos)) a (joined_on core nodes fifos y (length fifos) a k c (drop_one m k fifos apart.0 is) e l)) r)
  ]

  closing : (first second : Option ℕ) (y x : ℕ) → other_end first second y ≡ Some x → J x y → between (are_joined core nodes fifos (length fifos)) first second ≡ true
  closing (Some p) (Some q) y x e h =
      by_end (y == p) (y == q) p q x e
      (λ yp qx. subst (λ z. J z q) (eqb-true y p yp) (subst (λ z. J y z) (sym qx) (round (length fifos) x y h)))
      (λ yq px. subst (λ z. J p z) (eqb-true y q yq) (subst (λ z. J z y) (sym px) h))
  closing None second y x e h = some_of x e
  closing (Some p) None y x e h = some_of x e

  joined_ends : {P : Type 0} (first second : Option ℕ) → between (are_joined core nodes fifos (length fifos)) first second ≡ true
      → ((p q : ℕ) → other_end first second q ≡ Some p → J p q → P) → P
  joined_ends (Some p) (Some q) h f =
      f p q (back (Some p) (Some q) p q (pick (p == p) (p == q) p q q (λ s. refl) (λ no. absurd (true≢false (sym (eq-eqb p p refl) ∙ no))))) h
  joined_ends None second h f = absurd (true≢false (sym h))
  joined_ends (Some p) None h f = absurd (true≢false (sym h))

module _ (core : PlainCore) (nodes : List PlainNode) where
  no_circle : (fifos : List ℕ) → is_forest core nodes fifos ≡ true → (k : ℕ) (way : List ℕ) (a : ℕ) → AreApart (k ∷ way) → AllOne fifos (k ∷ way) → Leads core nodes (k ∷ way) a a → ⊥
  no_circle [] h k way a d (is, o) w = true≢false (sym (is (λ z. true) refl))
  no_circle (m ∷ rest) h k way a d o w =
      and_elim (is_forest core nodes rest) (not (closes core nodes rest m)) h
      (λ f g. by_bool (list_any (eqb m) (k ∷ way))
      (λ s. split core nodes rest m (k ∷ way) a a w o d s
      (λ y x e l r. not_both (closes core nodes rest m) g
      (closing core nodes rest (putter core nodes m) (taker core nodes m) y x e (in_turn core nodes rest (length rest) x a y r l))))
      (λ s. no_circle rest f k way a d (clean m rest (k ∷ way) o s) w))

  a_circle : {P : Type 0} (fifos : List ℕ) → AreApart fifos → is_forest core nodes fifos ≡ false → ((k : ℕ) (way : List ℕ) (a : ℕ) → AreApart (k ∷ way) → AllOne fifos (k ∷ way) → Leads core nodes (k ∷ way) a a → P) → P
  a_circle [] d h f = absurd (true≢false h)
  a_circle (m ∷ rest) (n, d) h f =
      by_bool (is_forest core nodes rest)
      (λ s. by_bool (closes core nodes rest m)
      (λ t. joined_ends core nodes rest (putter core nodes m) (taker core nodes m) t
      (λ p q e j. trail core nodes rest q (length rest) p j
      (λ way w o apart. f m way q
      (by_bool (list_any (eqb m) way) (λ u. absurd (true≢false (sym (among core nodes rest q way m o u) ∙ n))) (λ u. u), apart)
      ((λ test l. or_first (test m) _ l), wider m rest way o)
      (p, e, w))))
      (λ t. absurd (true≢false (sym (both_true (is_forest core nodes rest) (not (closes core nodes rest m)) s (ap not t)) ∙ h))))
      (λ s. a_circle rest d s (λ k way a apart o w. f k way a apart (wider m rest (k ∷ way) o) w))

  pub forests_have_none : (fifos : List ℕ) → is_forest core nodes fifos ≡ true → (k : ℕ) (way : List ℕ) (a : ℕ) → IsCircle core nodes fifos k way a → ⊥
  forests_have_none fifos h k way a c = no_circle fifos h k way a c.apart c.all c.leads

  pub forest_without : (fifos : List ℕ) → AreApart fifos → ((k : ℕ) (way : List ℕ) (a : ℕ) → IsCircle core nodes fifos k way a → ⊥) → is_forest core nodes fifos ≡ true
  forest_without fifos d none =
      by_bool (is_forest core nodes fifos) (λ s. s)
      (λ s. a_circle fifos d s (λ k way a apart o w. absurd (none k way a (record { apart = apart; all = o; leads = w }))))
