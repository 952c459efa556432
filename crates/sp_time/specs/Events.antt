-- Events in time: each is done at a place, in a cycle. They stand in the order of the text, in which the cycles need not rise.
use Rattle.std.specs.Prelude.{◌≡◌, ℕ, suc, ◌<◌, ◌≤◌, Bool, cond, ◌&&◌, IsTrue, List, [], ◌∷◌, nat_lt, nat_eq, Option, Some, None}
use Rattle.sp_time.specs.Lists.{Each}

pub record Event (P A : Type 0) : Type 0 where
  pub cycle : ℕ
  pub place : P
  pub act : A

-- those of the cycles before this one
abbrev pub before : {P A : Type 0} → ℕ → List (Event P A) → List (Event P A)
before t [] = []
before t (e ∷ es) = cond (nat_lt e.cycle t) (e ∷ before t es) (before t es)

-- by which places are the same, and by what an act makes of what stands at its place
module _ {P C A : Type 0} (same : P → P → Bool) (does : A → C → C) where
  -- what stands at each place after an event, and after events in the order of the text
  abbrev pub put : Event P A → (P → C) → P → C
  put e s p = cond (same e.place p) (does e.act (s p)) (s p)

  abbrev pub after : List (Event P A) → (P → C) → P → C
  after [] s = s
  after (e ∷ es) s = after es (put e s)

  -- what stands at each place at the beginning of a cycle
  abbrev pub content : List (Event P A) → ℕ → (P → C) → P → C
  content es t s = after (before t es) s

  -- each event finds what it needs, one after the other
  abbrev pub Follows : (A → C → Type 0) → List (Event P A) → (P → C) → Type 0
  Follows Sees [] s = Unit {0}
  Follows Sees (e ∷ es) s = Sees e.act (s e.place) × Follows Sees es (put e s)

  -- each event finds what it needs in its own cycle
  abbrev pub Finds : (A → C → Type 0) → List (Event P A) → (P → C) → Type 0
  Finds Sees es s = Each (λ e. Sees e.act (content es e.cycle s e.place)) es

-- by which acts change what stands at their place
module _ {P A : Type 0} (changes : A → Bool) where
  -- of two events in the order of the text: if they are at one place, then the second one comes in a later cycle, or, where
  -- only it makes a change, in no earlier one
  pub record Waits (e f : Event P A) : Type 0 where
    pub for_change : e.place ≡ f.place → IsTrue (changes e.act) → e.cycle < f.cycle
    pub for_look : e.place ≡ f.place → IsTrue (changes f.act) → e.cycle ≤ f.cycle

  -- the change at a place in a cycle, if there is one
  abbrev pub change_at : (P → P → Bool) → List (Event P A) → ℕ → P → Option A
  change_at same [] t p = None
  change_at same (e ∷ es) t p = cond (nat_eq e.cycle t && (same e.place p && changes e.act)) (Some e.act) (change_at same es t p)

abbrev pub changed_by : {C A : Type 0} → (A → C → C) → Option A → C → C
changed_by does None c = c
changed_by does (Some a) c = does a c

-- Events are found in time: each finds in its cycle what it needs; a cycle makes at most one change at a place, and what
-- stands there in the next cycle is what that change makes of what stood there; and past all of them there stands what stands
-- after all in the order of the text.
pub record InTime {P C A : Type 0} (same : P → P → Bool) (does : A → C → C) (Sees : A → C → Type 0) (changes : A → Bool) (es : List (Event P A)) (s : P → C) : Type 0 where
  pub finds : Finds same does Sees es s
  pub next : (t : ℕ) (p : P) → content same does es (suc t) s p ≡ changed_by does (change_at changes same es t p) (content same does es t s p)
  pub only : (t : ℕ) (p : P) → Each (λ e. e.cycle ≡ t → e.place ≡ p → IsTrue (changes e.act) → change_at changes same es t p ≡ Some e.act) es
  pub last : (t : ℕ) (p : P) → Each (λ e. e.cycle < t) es → content same does es t s p ≡ after same does es s p
