-- What is found at a place of a timeline in a cycle, by the moments of that cycle.
use Rattle.std.proofs.Common.{◌≡◌, ℕ, zero, suc, ◌⊎◌, inl, inr, Bool, true, false, cond, ◌&&◌, IsTrue, List, [], ◌∷◌, nat_eq, Option, Some, None, if◌then◌else◌, refl, sym, ap, subst, ◌∙◌, arith, le-ltb}
use Rattle.std.specs.List.{Contains}
use Rattle.std.proofs.lemmas.Bool.{eqb-true, and_parts, true≢false}
use Rattle.sp_words.specs.declared.kind.Kind.{Kind}
use Rattle.sp_words.specs.declared.kind.Kind.TheVariants.{Reg, Sram, Fifo, LineBuf, Dram, ArgIn, ArgOut}
use Rattle.sp_words.specs.Memory.{Contents}
use Rattle.sp_core.specs.Declarations.{kind_of, dims}
use Rattle.sp_core.specs.Events.{Moment, touches, slices, renews, keeps}
use Rattle.sp_core.specs.Meeting.{element}
use Rattle.sp_core.specs.PlainCore.{PlainCore}
use Rattle.sp_time.specs.Events.{Event, before, after, change_at, changed_by, InTime}
use Rattle.sp_time.specs.Lists.{Each}
use Rattle.sp_time.specs.Places.{Place, is_place}
use Rattle.sp_machine.specs.Found.{events_of, event_of, element_of, does, Sees}
use Rattle.sp_machine.specs.InOrder.{is_done, memory_of, does_change}
use Rattle.sp_machine.specs.Stamps.{Stamped}
use Rattle.sp_memory_words.specs.Moments.{IsAt}
use Rattle.sp_memory_words.specs.Registers.{copy_place, standing}

-- membership
pub none_there : {A : Type 0} (x : A) → Contains [] x → ⊥
none_there x (k, l, e) = absurd (omega (arith, l))

pub there : {A : Type 0} (x y : A) (xs : List A) → Contains xs y → Contains (x ∷ xs) y
there x y xs (k, l, e) = (suc k, omega (arith, l), e)

pub here : {A : Type 0} (x y : A) (xs : List A) → x ≡ y → Contains (x ∷ xs) y
here x y xs e = (zero, omega arith, e)

pub first_or_later : {A : Type 0} (x y : A) (xs : List A) → Contains (x ∷ xs) y → (x ≡ y) ⊎ Contains xs y
first_or_later x y xs (zero, l, e) = inl e
first_or_later x y xs (suc k, l, e) = inr (k, omega (arith, l), e)

pub each_at : {A : Type 0} (P : A → Type 0) (xs : List A) (x : A) → Each P xs → Contains xs x → P x
each_at P [] x h c = absurd (none_there x c)
each_at P (y ∷ xs) x h (zero, l, e) = subst P e h.0
each_at P (y ∷ xs) x h (suc k, l, e) = each_at P xs x h.1 (k, omega (arith, l), e)

abbrev Happening : Type 0
Happening = Event Place Moment

-- the first of some events, where it is done
module _ (Q : Happening → Type 0) where
  head_of : (b : Bool) (e : Happening) (es : List Happening) → b ≡ true → Each Q (if b then e ∷ es else es) → Q e
  head_of true e es t h = h.0
  head_of false e es t h = absurd (true≢false (sym t))

  tail_of : (b : Bool) (e : Happening) (es : List Happening) → Each Q (if b then e ∷ es else es) → Each Q es
  tail_of true e es h = h.1
  tail_of false e es h = h

some_same : {A : Type 0} (a b : A) → Some a ≡ Some b → a ≡ b
some_same a b e = cc (e)

chosen : (c : Bool) (a x : Moment) (o : Option Moment) → cond c (Some a) o ≡ Some x → ((c ≡ true) × (a ≡ x)) ⊎ (o ≡ Some x)
chosen true a x o h = inl (refl, some_same a x h)
chosen false a x o h = inr h

-- whether an event is the change at a place in a cycle
abbrev is_change : ℕ → Place → Happening → Bool
is_change t p e = nat_eq e.cycle t && (is_place e.place p && does_change e.act)

first_change : (b : Bool) (e : Happening) (es : List Happening) (t : ℕ) (p : Place) (x : Moment) → change_at does_change is_place (if b then e ∷ es else es) t p ≡ Some x
    → ((b ≡ true) × (is_change t p e ≡ true) × (e.act ≡ x)) ⊎ (change_at does_change is_place es t p ≡ Some x)
first_change false e es t p x h = inr h
first_change true e es t p x h = elim (chosen (is_change t p e) e.act x (change_at does_change is_place es t p) h) [
  | inl c ↦ inl (refl, c.0, c.1)
  | inr o ↦ inr o
]

module _ (core : PlainCore) where
  -- what is said of each event is said of each moment at which there is something to do
  pub of_event : (Q : Happening → Type 0) (run : List Stamped) (x : Stamped) → is_done core x.moment ≡ true → Each Q (events_of core run) → Contains run x → Q (event_of core x)
  of_event Q [] x d h c = absurd (none_there x c)
  of_event Q (y ∷ run) x d h c = elim (first_or_later y x run c) [
    | inl e ↦ subst (λ z. Q (event_of core z)) e (head_of Q (is_done core y.moment) (event_of core y) (events_of core run) (subst (λ z. is_done core z.moment ≡ true) (sym e) d) h)
    | inr k ↦ of_event Q run x d (tail_of Q (is_done core y.moment) (event_of core y) (events_of core run) h) k
  ]

  -- a moment that changes a place in a cycle
  pub record IsChange (run : List Stamped) (t : ℕ) (p : Place) (x : Moment) : Type 0 where
    pub there : IsAt run t p.copy x
    pub done : is_done core x ≡ true
    pub mem : memory_of x ≡ p.mem
    pub changes : does_change x ≡ true

  abbrev stamp_at : (t c : ℕ) → Moment → Stamped
  stamp_at t c x = record { cycle = t; copy = c; moment = x }

  changed_here : (y : Stamped) (run : List Stamped) (t : ℕ) (p : Place) (x : Moment) → is_done core y.moment ≡ true → is_change t p (event_of core y) ≡ true → y.moment ≡ x → IsChange (y ∷ run) t p x
  changed_here y run t p x d c e =
      let parts = and_parts _ _ c in
      let more = and_parts _ _ parts.1 in
      let place = and_parts _ _ more.0 in
      let copy = and_parts _ _ place.1 in
      let e1 : y.cycle ≡ t = eqb-true _ _ parts.0 in
      let e2 : y.copy ≡ p.copy = eqb-true _ _ copy.0 in
      let same : y ≡ stamp_at t p.copy x = λ i. record { cycle = e1 i; copy = e2 i; moment = e i } in
      let m : memory_of y.moment ≡ p.mem = eqb-true _ _ place.0 in
      record { there = here y (stamp_at t p.copy x) run same; done = subst (λ z. is_done core z ≡ true) e d; mem = subst (λ z. memory_of z ≡ p.mem) e m; changes = subst (λ z. does_change z ≡ true) e more.1 }

  changed_later : (y : Stamped) (run : List Stamped) (t : ℕ) (p : Place) (x : Moment) → IsChange run t p x → IsChange (y ∷ run) t p x
  changed_later y run t p x h = record { there = there y (stamp_at t p.copy x) run h.there; done = h.done; mem = h.mem; changes = h.changes }

  pub changed_at : (run : List Stamped) (t : ℕ) (p : Place) (x : Moment) → change_at does_change is_place (events_of core run) t p ≡ Some x → IsChange run t p x
  changed_at [] t p x h = absurd (cc (h))
  changed_at (y ∷ run) t p x h = elim (first_change (is_done core y.moment) (event_of core y) (events_of core run) t p x h) [
    | inl c ↦ changed_here y run t p x c.0 c.1 c.2
    | inr k ↦ changed_later y run t p x (changed_at run t p x k)
  ]

  -- before all cycles there stands what stood at first
  none_before : (es : List Happening) → before 0 es ≡ []
  none_before [] = refl
  none_before (e ∷ es) = ap (λ b. cond b (e ∷ before 0 es) (before 0 es)) (le-ltb e.cycle 0 (omega arith)) ∙ none_before es

  pub stands_at_first : (run : List Stamped) (first : Place → Option Contents) (p : Place) → standing core run first 0 p ≡ first p
  stands_at_first run first p = ap (λ es. after is_place (does core) es first p) (none_before (events_of core run))

  -- memories that are one element
  abbrev pub IsOne : Kind → Type 0
  IsOne Sram = ⊥
  IsOne Dram = ⊥
  IsOne _ = Unit {0}

  one_element : (k : Kind) (ds is : List ℕ) → IsOne k → element k ds is ≡ 0
  one_element Reg ds is h = refl
  one_element Sram ds is h = absurd h
  one_element Fifo ds is h = refl
  one_element LineBuf ds is h = refl
  one_element Dram ds is h = absurd h
  one_element ArgIn ds is h = refl
  one_element ArgOut ds is h = refl

  at_element : (m : ℕ) → IsOne (kind_of core m) → (x : Moment) → memory_of x ≡ m → element_of core x ≡ 0
  at_element m one (touches e) h = one_element (kind_of core e.mem) (dims core e.mem) e.indices (subst (λ n. IsOne (kind_of core n)) (sym h) one)
  at_element m one (slices x) h = refl
  at_element m one (renews n) h = refl
  at_element m one (keeps n w) h = refl

  module _ (m : ℕ) (one : IsOne (kind_of core m)) (run : List Stamped) (first : Place → Option Contents) (in_time : InTime is_place (does core) (Sees core) does_change (events_of core run) first) where
    at_place : (t c : ℕ) (x : Moment) → memory_of x ≡ m → (event_of core (stamp_at t c x)).place ≡ copy_place m c
    at_place t c x h = let e : element_of core x ≡ 0 = at_element m one x h in λ i. record { mem = h i; copy = c; element = e i }

    -- a moment that is done finds what stands at its copy
    pub finds : (t c : ℕ) (x : Moment) → IsAt run t c x → is_done core x ≡ true → memory_of x ≡ m → Sees core x (standing core run first t (copy_place m c))
    finds t c x there done h =
        subst (λ p. Sees core x (standing core run first t p)) (at_place t c x h) (of_event (λ e. Sees core e.act (standing core run first e.cycle e.place)) run (stamp_at t c x) done in_time.finds there)

    -- and one that changes it is the change there
    pub is_the_change : (t c : ℕ) (x : Moment) → IsAt run t c x → is_done core x ≡ true → memory_of x ≡ m → does_change x ≡ true → change_at does_change is_place (events_of core run) t (copy_place m c) ≡ Some x
    is_the_change t c x there done h changes =
        of_event (λ e. e.cycle ≡ t → e.place ≡ copy_place m c → IsTrue (does_change e.act) → change_at does_change is_place (events_of core run) t (copy_place m c) ≡ Some e.act) run (stamp_at t c x) done (in_time.only t (copy_place m c)) there refl (at_place t c x h) changes

    -- from a cycle to the next one there is a change or none
    pub data Next (t c : ℕ) : Type 0 where
      unchanged : change_at does_change is_place (events_of core run) t (copy_place m c) ≡ None → standing core run first (suc t) (copy_place m c) ≡ standing core run first t (copy_place m c) → Next t c
      changed : (x : Moment) → change_at does_change is_place (events_of core run) t (copy_place m c) ≡ Some x → IsChange run t (copy_place m c) x
          → standing core run first (suc t) (copy_place m c) ≡ does core x (standing core run first t (copy_place m c)) → Next t c

    next_by : (t c : ℕ) (o : Option Moment) → change_at does_change is_place (events_of core run) t (copy_place m c) ≡ o → Next t c
    next_by t c None h = unchanged h (in_time.next t (copy_place m c) ∙ ap (λ o. changed_by (does core) o (standing core run first t (copy_place m c))) h)
    next_by t c (Some x) h = changed x h (changed_at run t (copy_place m c) x h) (in_time.next t (copy_place m c) ∙ ap (λ o. changed_by (does core) o (standing core run first t (copy_place m c))) h)

    pub next : (t c : ℕ) → Next t c
    next t c = next_by t c _ refl
