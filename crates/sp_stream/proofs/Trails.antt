-- A way that leads over no FIFO twice has no more steps than there are FIFOs, and each way has one in it.
use Rattle.std.proofs.Common.{◌≡◌, ℕ, zero, suc, ◌+◌, ◌-◌, ◌≤◌, ◌==◌, Bool, true, false, ◌||◌, List, [], ◌∷◌, length, Option, Some, None, cond, refl, ap, sym, subst, ◌∙◌, true≢false, eqb, eqb-true, inl, inr, arith}
use Rattle.std.specs.List.{list_any, IsDistinct, AllByRecursion}
use Rattle.std.specs.Cmp.{nat_eq_equiv}
use Rattle.std.proofs.lemmas.Bool.{eq-eqb}
use Rattle.std.proofs.lemmas.Bool.Decides.{eqb_tells}
use Rattle.std.proofs.lemmas.Map.Made.{length-le_from_is_member}
use Rattle.sp_core.specs.PlainCore.{PlainNode, PlainCore}
use Rattle.sp_stream.specs.Proper.{other_end, putter, taker, across}
use Rattle.sp_stream.specs.Circles.{AreApart, AllOne, Leads}
use Rattle.sp_stream.proofs.Ways.{or_elim, or_first, Joined, joined_on, joined_elim}

none_equal : (m : ℕ) (way : List ℕ) → list_any (eqb m) way ≡ false → AllByRecursion (λ k. eqb m k ≡ false) way
none_equal m [] h = tt
none_equal m (k ∷ way) h = neither (eqb m k) (list_any (eqb m) way) h (λ e f. (e, none_equal m way f))
  where
    neither : {P : Type 0} (a b : Bool) → (a || b) ≡ false → (a ≡ false → b ≡ false → P) → P
    neither true b e f = absurd (true≢false e)
    neither false b e f = f refl e

distinct : (way : List ℕ) → AreApart way → IsDistinct eqb way
unfolding IsDistinct
distinct [] h = tt
distinct (m ∷ way) (n, h) = (none_equal m way n, distinct way h)

some_inside : {A : Type 0} (d : A) (x y : A) → Some x ≡ Some y → x ≡ y
some_inside d x y e = ap (λ o. elim o [ Some z ↦ z | None ↦ d ]) e

pub by_end : {P : Type 0} (s t : Bool) (p q c : ℕ) → cond s (Some q) (cond t (Some p) None) ≡ Some c → (s ≡ true → q ≡ c → P) → (t ≡ true → p ≡ c → P) → P
by_end true t p q c e f g = f refl (some_inside 0 q c e)
by_end false true p q c e f g = g refl (some_inside 0 p c e)
by_end false false p q c e f g = absurd (none_some e)
  where
    none_some : None ≡ Some c → ⊥
    none_some e = true≢false (ap (λ o. elim o [ Some z ↦ false | None ↦ true ]) e)

-- where two steps over one FIFO lead: to where the other one leads, or to where it begins
two_steps : {P : Type 0} (first second : Option ℕ) (a c y x : ℕ) → other_end first second a ≡ Some c → other_end first second y ≡ Some x → (x ≡ a → P) → (x ≡ c → P) → P
two_steps (Some p) (Some q) a c y x e h f g =
    by_end (a == p) (a == q) p q c e
    (λ ap qc. by_end (y == p) (y == q) p q x h (λ yp qx. g (sym qx ∙ qc)) (λ yq px. f (sym px ∙ sym (eqb-true a p ap))))
    (λ aq pc. by_end (y == p) (y == q) p q x h (λ yp qx. f (sym qx ∙ sym (eqb-true a q aq))) (λ yq px. g (sym px ∙ pc)))
two_steps None second a c y x e h f g = absurd (none_is c e)
  where
    none_is : (c : ℕ) → None ≡ Some c → ⊥
    none_is c e = true≢false (ap (λ o. elim o [ Some z ↦ false | None ↦ true ]) e)
two_steps (Some p) None a c y x e h f g = absurd (none_is c e)
  where
    none_is : (c : ℕ) → None ≡ Some c → ⊥
    none_is c e = true≢false (ap (λ o. elim o [ Some z ↦ false | None ↦ true ]) e)

module _ (core : PlainCore) (nodes : List PlainNode) (fifos : List ℕ) (b : ℕ) where
  -- what is left of a walk after a FIFO, if it leads over that one
  cut : {P : Type 0} (m : ℕ) (way : List ℕ) (c : ℕ) → Leads core nodes way c b → AllOne fifos way → AreApart way → (list_any (eqb m) way ≡ false → P)
      → ((rest : List ℕ) (x y : ℕ) → across core nodes m y ≡ Some x → Leads core nodes rest x b → AllOne fifos rest → AreApart rest → list_any (eqb m) rest ≡ false → P) → P
  cut m [] c w o d f g = f refl
  cut m (k ∷ way) c (e, l, w) (i, o) (n, d) f g = elim (eqb_tells m k) [
    | inl same ↦ g way e c (ap (λ z. across core nodes z c) same.1 ∙ l) w o d (ap (λ z. list_any (eqb z) way) same.1 ∙ n)
    | inr apart ↦ cut m way e w o d (λ none. f (ap (λ z. z || list_any (eqb m) way) apart.0 ∙ none)) g
  ]

  -- each way has one in it that leads over no FIFO twice
  pub trail : {P : Type 0} (n a : ℕ) → Joined core nodes fifos b n a → ((way : List ℕ) → Leads core nodes way a b → AllOne fifos way → AreApart way → P) → P
  trail zero a h k = k [] (eqb-true a b h) tt tt
  trail (suc n) a h k =
      joined_elim core nodes fifos b n a h (λ e. k [] (eqb-true a b e) tt tt)
      (λ m c is e r. trail n c r (λ way w o d. cut m way c w o d
      (λ none. k (m ∷ way) (c, e, w) (is, o) (none, d))
      (λ rest x y step v p q none. two_steps (putter core nodes m) (taker core nodes m) a c y x e step
      (λ back. k rest (subst (λ z. Leads core nodes rest z b) back v) p q)
      (λ on. k (m ∷ rest) (c, e, subst (λ z. Leads core nodes rest z b) on v) (is, p) (none, q)))))

  pub walked : (way : List ℕ) (a : ℕ) → Leads core nodes way a b → AllOne fifos way → Joined core nodes fifos b (length way) a
  walked [] a w o = eq-eqb a b w
  walked (m ∷ way) a (c, e, w) (is, o) = joined_on core nodes fifos b (length way) a m c is e (walked way c w o)

  one_more : (n a : ℕ) → Joined core nodes fifos b n a → Joined core nodes fifos b (suc n) a
  one_more zero a h = or_first (a == b) _ h
  one_more (suc n) a h =
      joined_elim core nodes fifos b n a h (λ e. or_first (a == b) _ e)
      (λ m c is e r. joined_on core nodes fifos b (suc n) a m c is e (one_more n c r))

  some_more : (k n most a : ℕ) → k + n ≡ most → Joined core nodes fifos b n a → Joined core nodes fifos b most a
  some_more zero n most a e h = let same : n ≡ most = omega (arith, e) in subst (λ z. Joined core nodes fifos b z a) same h
  some_more (suc k) n most a e h = some_more k (suc n) most a (omega (arith, e)) (one_more n a h)

  pub among : (way : List ℕ) (q : ℕ) → AllOne fifos way → list_any (eqb q) way ≡ true → list_any (eqb q) fifos ≡ true
  among [] q o h = absurd (true≢false (sym h))
  among (m ∷ way) q (is, o) h = or_elim (eqb q m) (list_any (eqb q) way) h (λ e. is (eqb q) e) (λ e. among way q o e)

  few : (way : List ℕ) → AllOne fifos way → AreApart way → length way ≤ length fifos
  few way o d = length-le_from_is_member nat_eq_equiv way fifos (distinct way d) (λ q h. among way q o h)

  pub enough : (n a : ℕ) → Joined core nodes fifos b n a → Joined core nodes fifos b (length fifos) a
  enough n a h =
      trail n a h (λ way w o d.
      let most = few way o d in
      some_more (length fifos - length way) (length way) (length fifos) a (omega (arith, most)) (walked way a w o))
