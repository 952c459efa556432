-- The lanes that have an iteration are the first ones.
use Rattle.std.proofs.Common.{◌≡◌, ℕ, zero, suc, ◌+◌, ◌-◌, ◌<◌, ◌≤◌, Bool, true, false, ◌&&◌, ◌||◌, List, [], ◌∷◌, length, refl, sym, ◌∙◌, ap, subst, arith, inl, inr}
use Rattle.std.proofs.lemmas.Bool.{true≢false, le-leb}
use Rattle.std.proofs.lemmas.Bool.Decides.{eqb_tells}
use Rattle.sp_core.specs.History.{Entry}
use Rattle.sp_core.specs.Scope.{is_some_up_to, is_some_live}
use Rattle.sp_lanes.specs.Bodies.{Body}
use Rattle.sp_lane_groups.specs.WordsStanding.{LanesStand}

module _ (live : ℕ → Bool) where
  -- after a lane that has none, there is none below a number of lanes
  abbrev pub FirstLive : (n : ℕ) → Type 0
  FirstLive n = (a j : ℕ) → a + j < n → live a ≡ false → live (a + j) ≡ false

  up_true : (a m : ℕ) → live a ≡ true → is_some_up_to live a m ≡ true
  up_true a zero e = e
  up_true a (suc m) e = ap (λ b. b || live (a + suc m)) (up_true a m e)

  up_false : (n a m : ℕ) → FirstLive n → a + m < n → live a ≡ false → is_some_up_to live a m ≡ false
  up_false n a zero h lt e = e
  up_false n a (suc m) h lt e = ap (λ b. b || live (a + suc m)) (up_false n a m h (omega (arith, lt)) e) ∙ h a (suc m) lt e

  -- of several lanes some have an iteration where the first does
  pub some_is_first : (n a b : ℕ) → FirstLive n → a ≤ b → b < n → is_some_live live a b ≡ live a
  some_is_first n a b h le lt = ap (λ c. c && is_some_up_to live a (b - a)) (le-leb a b le) ∙ by (live a) refl
    where
      by : (c : Bool) → live a ≡ c → is_some_up_to live a (b - a) ≡ c
      by true e = up_true a (b - a) e
      by false e = up_false n a (b - a) h (omega (arith, le, lt)) e

  all_masked : (es : List Entry) (l : ℕ) (bodies : List Body) → LanesStand live es l bodies [] → (k : ℕ) → l ≤ k → k < l + length bodies → live k ≡ false
  all_masked es l [] h k le lt = absurd (omega (arith, le, lt))
  all_masked es l (b ∷ bodies) h k le lt = elim (eqb_tells l k) [
    | inl same ↦ subst (λ n. live n ≡ false) same.1 h.0
    | inr apart ↦ all_masked es (suc l) bodies h.2 k (past l k le apart.1) (omega (arith, lt))
  ]
    where
      past : (l k : ℕ) → l ≤ k → (l ≡ k → ⊥) → suc l ≤ k
      past l k le ne = omega (arith, le, ne)

  first_from : (es : List Entry) (l : ℕ) (bodies : List Body) (groups : List (List Entry)) → LanesStand live es l bodies groups → (a j : ℕ) → l ≤ a → a + j < l + length bodies → live a ≡ false → live (a + j) ≡ false
  first_from es l [] groups h a j le lt e = absurd (omega (arith, le, lt))
  first_from es l (b ∷ bodies) [] h a j le lt e = all_masked es l (b ∷ bodies) h (a + j) (omega (arith, le)) lt
  first_from es l (b ∷ bodies) (g ∷ groups) h a j le lt e = elim (eqb_tells l a) [
    | inl same ↦ absurd (true≢false (sym h.0 ∙ ap live same.1 ∙ e))
    | inr apart ↦ first_from es (suc l) bodies groups h.3 a j (past l a le apart.1) (omega (arith, lt)) e
  ]
    where
      past : (l k : ℕ) → l ≤ k → (l ≡ k → ⊥) → suc l ≤ k
      past l k le ne = omega (arith, le, ne)

  pub lanes_first : (es : List Entry) (bodies : List Body) (groups : List (List Entry)) → LanesStand live es 0 bodies groups → FirstLive (length bodies)
  lanes_first es bodies groups h a j lt e = first_from es 0 bodies groups h a j (omega arith) (omega (arith, lt)) e
