-- What changes a DRAM, and what is read of it: a store of a word at its element, and the word that stands there.
use Rattle.std.proofs.Common.{◌≡◌, ℕ, ◌<◌, ◌⊎◌, inl, inr, Bool, true, false, cond, ◌&&◌, List, [], ◌∷◌, nat_eq, Option, Some, if◌then◌else◌, refl, sym, ap, subst, ◌∙◌}
use Rattle.std.proofs.lemmas.Bool.{and_parts, eqb-true, false≢true}
use Rattle.sp_words.specs.Memory.{Contents}
use Rattle.sp_words.specs.Ports.{PlainInput}
use Rattle.sp_core.specs.Declarations.{mem, kind_of, dims, dram_number}
use Rattle.sp_core.specs.Elements.{row_major}
use Rattle.sp_core.specs.Events.{Act, reads, writes, puts, takes, resets, turns, Event, Moment, touches, slices, renews, keeps}
use Rattle.sp_core.specs.Meaning.{first_store}
use Rattle.sp_core.specs.Meeting.{changes, element}
use Rattle.sp_core.specs.PlainCore.{PlainCore}
use Rattle.sp_core.specs.Sequential.{has_reset}
use Rattle.sp_time.specs.Events as timed
use Rattle.sp_time.specs.Places.{Place, is_place}
use Rattle.sp_machine.specs.Found.{events_of, event_of, element_of, act_does, does, written_to, is_read_in, ActSees, one_cell}
use Rattle.sp_machine.specs.InOrder.{is_done, memory_of, does_change}
use Rattle.sp_machine.specs.Stamps.{Stamped}
use Rattle.sp_contents.specs.Found.{contents_at, first_contents}
use Rattle.sp_contents.specs.Steady.{MayRead, IsFifo, IsLine, IsReg, IsMade, MayAct, IsAllowed}
use Rattle.sp_dram_words.specs.Laws.{dram_dims, dram_size, dram_place, input_word}
use Rattle.sp_dram_words.proofs.OneCopy.{dram_kind}

abbrev Happening : Type 0
Happening = timed.Event Place Moment

chosen : (c : Bool) (a x : Moment) (o : Option Moment) → cond c (Some a) o ≡ Some x → ((c ≡ true) × (a ≡ x)) ⊎ (o ≡ Some x)
chosen true a x o h = inl (refl, cc (h))
chosen false a x o h = inr h

-- whether an event is the change at a place in a cycle
abbrev is_change : ℕ → Place → Happening → Bool
is_change t p e = nat_eq e.cycle t && (is_place e.place p && does_change e.act)

first_change : (b : Bool) (e : Happening) (es : List Happening) (t : ℕ) (p : Place) (x : Moment) → timed.change_at does_change is_place (if b then e ∷ es else es) t p ≡ Some x
    → ((is_change t p e ≡ true) × (e.act ≡ x)) ⊎ (timed.change_at does_change is_place es t p ≡ Some x)
first_change false e es t p x h = inr h
first_change true e es t p x h = chosen (is_change t p e) e.act x (timed.change_at does_change is_place es t p) h

-- the change at a place is at its element
pub element_changed : (core : PlainCore) (run : List Stamped) (t : ℕ) (p : Place) (x : Moment) → timed.change_at does_change is_place (events_of core run) t p ≡ Some x → element_of core x ≡ p.element
element_changed core [] t p x h = absurd (cc (h))
element_changed core (y ∷ run) t p x h = elim (first_change (is_done core y.moment) (event_of core y) (events_of core run) t p x h) [
  | inl c ↦
      let place = and_parts _ _ (and_parts _ _ (and_parts _ _ c.0).1).0 in
      let same : element_of core y.moment ≡ p.element = eqb-true _ _ (and_parts _ _ place.1).1 in
      subst (λ z. element_of core z ≡ p.element) c.1 same
  | inr later ↦ element_changed core run t p x later
]

-- the act of an event
act_in : Moment → Act
act_in (touches e) = e.act
act_in moment = resets

pub one_word : (e f : Event) (v w : ℕ) → touches e ≡ touches f → e.act ≡ writes v → f.act ≡ writes w → v ≡ w
unfolding act_in
one_word e f v w same p q = let acts : writes v ≡ writes w = sym p ∙ ap act_in same ∙ q in cc (acts)

pub cell_word : (core : PlainCore) (v w : ℕ) → one_cell core v ≡ one_cell core w → v ≡ w
cell_word core v w e = cc (e)

module _ (core : PlainCore) (r : ℕ) where
  -- the element that is touched by what is done to the DRAM
  pub element_at : (m : ℕ) (is : List ℕ) → m ≡ dram_number core r → element (kind_of core m) (dims core m) is ≡ row_major (dram_dims core r) is
  element_at m is h = ap (λ n. element (kind_of core n) (dims core n) is) h ∙ ap (λ k. element k (dram_dims core r) is) (dram_kind core r)

  -- it has the words of the input at first
  pub first_word : (input : PlainInput) (i : ℕ) → first_contents core input (dram_place core r i) ≡ one_cell core (input_word core input r i)
  first_word input i = ap (λ k. contents_at core k (dram_dims core r) (first_store core input (dram_number core r)) i) (dram_kind core r)

  act_stores : (m : ℕ) (is : List ℕ) (a : Act) → m ≡ dram_number core r → changes a ≡ true → MayAct core m is a → (w : ℕ) × (a ≡ writes w)
  act_stores m is (reads w) h c may = absurd (false≢true c)
  act_stores m is (writes w) h c may = (w, refl)
  act_stores m is (puts w) h c may = absurd (subst IsFifo (ap (kind_of core) h ∙ dram_kind core r) may)
  act_stores m is (takes w) h c may = absurd (subst IsFifo (ap (kind_of core) h ∙ dram_kind core r) may)
  act_stores m is resets h c may = absurd (false≢true (subst (λ k. has_reset k (mem core m).start ≡ true) (ap (kind_of core) h ∙ dram_kind core r) may.0))
  act_stores m is turns h c may = absurd (subst IsLine (ap (kind_of core) h ∙ dram_kind core r) may)

  -- a moment is an event that writes a word of the DRAM
  pub record IsStored (x : Moment) : Type 0 where
    pub event : Event
    pub word : ℕ
    pub is : x ≡ touches event
    pub mem_is : event.mem ≡ dram_number core r
    pub act : event.act ≡ writes word

  -- what changes the DRAM is such
  pub change_stores : (x : Moment) → memory_of x ≡ dram_number core r → does_change x ≡ true → IsAllowed core x → IsStored x
  change_stores (touches e) h c may = (let a = act_stores e.mem e.indices e.act h c may in record { event = e; word = a.0; is = refl; mem_is = h; act = a.1 })
  change_stores (slices x) h c may = absurd (false≢true c)
  change_stores (renews n) h c may = absurd (subst IsMade (ap (kind_of core) h ∙ dram_kind core r) may.0)
  change_stores (keeps n w) h c may = absurd (subst IsReg (ap (kind_of core) h ∙ dram_kind core r) may)

  -- and leaves its word there
  pub does_store : (x : Moment) (st : IsStored x) (c : Option Contents) → does core x c ≡ one_cell core st.word
  does_store x st c =
      ap (λ y. does core y c) st.is ∙ ap (λ a. act_does core st.event.mem st.event.indices a c) st.act
      ∙ ap (λ k. written_to core k st.event.mem st.event.indices st.word c) (ap (kind_of core) st.mem_is ∙ dram_kind core r)

  -- what is read of it is inside, and is the word that stands there
  pub may_read : (m : ℕ) (is : List ℕ) (a : Act) (w : ℕ) → m ≡ dram_number core r → a ≡ reads w → MayAct core m is a → row_major (dram_dims core r) is < dram_size core r
  may_read m is a w h act may =
      subst (λ k. MayRead k (dram_dims core r) is) (dram_kind core r) (subst (λ n. MayRead (kind_of core n) (dims core n) is) h (subst (λ b. MayAct core m is b) act may))

  pub seen : (m : ℕ) (is : List ℕ) (a : Act) (w : ℕ) (c : Option Contents) → m ≡ dram_number core r → a ≡ reads w → ActSees core m is a c → c ≡ one_cell core w
  seen m is a w c h act sees = subst (λ k. is_read_in core k m is w c) (ap (kind_of core) h ∙ dram_kind core r) (subst (λ b. ActSees core m is b c) act sees)
