-- The worked DRAM, by hand.
use Rattle.std.proofs.Common.{◌≡◌, ℕ, zero, suc, ◌<◌, true, false, inl, inr, [], ◌∷◌, nat_eq, slice_index, refl, sym, ap, subst, ◌∙◌, arith, eq-eqb}
use Rattle.std.specs.List.{Contains}
use Rattle.std.proofs.lemmas.Bool.{false≢true}
use Rattle.sp_gates.specs.Tested.{is_on}
use Rattle.sp_core.specs.Elements.{row_major}
use Rattle.sp_core.specs.Events.{Act, writes, Event, Moment, touches}
use Rattle.sp_machine.specs.Found.{one_cell}
use Rattle.sp_machine.specs.Stamps.{Stamped}
use Rattle.sp_node_runs.specs.BodiesTold.{SomeHappens}
use Rattle.sp_transfer_runs.specs.Stores.{StoresInTime}
use Rattle.sp_transfer_runs.specs.Told.{DoesAt, Writes}
use Rattle.sp_memory_words.specs.Registers.{standing}
use Rattle.sp_memory_words.proofs.Finding.{none_there, first_or_later}
use Rattle.sp_dram_words.specs.Example.{storing_core, stored, storing_events, first_unit, second_unit, storing_units, storing_signals, words_first, WorkedDram}
use Rattle.sp_dram_words.specs.Laws.{dram_place, IsInOneCopy, DramInTime}
use Rattle.sp_dram_words.specs.Units.{StoreUnit, nets_of, word_after, RunsDram}

-- the first cycles, and all others; and the elements
cycles : (P : ℕ → Type 0) → P 0 → P 1 → P 2 → ((t : ℕ) → P (suc (suc (suc t)))) → (t : ℕ) → P t
cycles P a b c d zero = a
cycles P a b c d (suc zero) = b
cycles P a b c d (suc (suc zero)) = c
cycles P a b c d (suc (suc (suc t))) = d t

elements : (P : ℕ → Type 0) → P 0 → P 1 → P 2 → (i : ℕ) → i < 3 → P i
elements P a b c zero l = a
elements P a b c (suc zero) l = b
elements P a b c (suc (suc zero)) l = c
elements P a b c (suc (suc (suc i))) l = absurd (omega (arith, l))

runs : RunsDram storing_signals 0 3 (slice_index (7 ∷ 8 ∷ 9 ∷ [])) (nets_of storing_units)
runs = record {
  begins = elements (λ i. storing_signals.dram 0 0 i ≡ slice_index (7 ∷ 8 ∷ 9 ∷ []) i) refl refl refl;
  goes = cycles (λ t. (i : ℕ) → i < 3 → storing_signals.dram (suc t) 0 i ≡ word_after (nets_of storing_units) (storing_signals.net t) i (storing_signals.dram t 0 i))
      (elements (λ i. storing_signals.dram 1 0 i ≡ word_after (nets_of storing_units) (storing_signals.net 0) i (storing_signals.dram 0 0 i)) refl refl refl)
      (elements (λ i. storing_signals.dram 2 0 i ≡ word_after (nets_of storing_units) (storing_signals.net 1) i (storing_signals.dram 1 0 i)) refl refl refl)
      (elements (λ i. storing_signals.dram 3 0 i ≡ word_after (nets_of storing_units) (storing_signals.net 2) i (storing_signals.dram 2 0 i)) refl refl refl)
      (λ t i l. refl);
}

-- what holds of each of the four events
abbrev at : (cycle copy : ℕ) → Event → Stamped
at t c e = record { cycle = t; copy = c; moment = touches e }

each_event : (P : Stamped → Type 0) → P (stored 0 2 0 10) → P (stored 1 2 1 11) → P (stored 1 5 2 20) → P (stored 2 5 0 21) → (x : Stamped) → Contains storing_events x → P x
each_event P a b c d x there = elim (first_or_later (stored 0 2 0 10) x (stored 1 2 1 11 ∷ stored 1 5 2 20 ∷ stored 2 5 0 21 ∷ []) there) [
  | inl same ↦ subst P same a
  | inr later ↦ elim (first_or_later (stored 1 2 1 11) x (stored 1 5 2 20 ∷ stored 2 5 0 21 ∷ []) later) [
    | inl same ↦ subst P same b
    | inr last ↦ elim (first_or_later (stored 1 5 2 20) x (stored 2 5 0 21 ∷ []) last) [
      | inl same ↦ subst P same c
      | inr one ↦ elim (first_or_later (stored 2 5 0 21) x [] one) [
        | inl same ↦ subst P same d
        | inr none ↦ absurd (none_there x none)
      ]
    ]
  ]
]

-- what is known of a moment by its event
abbrev Told : (Event → Type 0) → Moment → Type 0
Told P (touches e) = P e
Told P moment = Unit {0}

act_word : Act → ℕ
act_word (writes w) = w
act_word act = 0

other : (a b : ℕ) → nat_eq a b ≡ false → a ≡ b → ⊥
other a b apart same = false≢true (sym apart ∙ eq-eqb a b same)

-- the events of a number are those of its unit
module _ (number ready address word : ℕ) where
  record IsStored (t : ℕ) (e : Event) : Type 0 where
    enabled : is_on storing_signals ready t ≡ true
    at : storing_signals.net t address ≡ row_major (3 ∷ []) e.indices
    word_is : storing_signals.net t word ≡ act_word e.act

  abbrev AreStored : Stamped → Type 0
  AreStored x = Told (λ e. e.number ≡ number → IsStored x.cycle e) x.moment

  in_time : (last : ℕ) → ((x : Stamped) → Contains storing_events x → AreStored x) → ((t : ℕ) → is_on storing_signals ready t ≡ true → Writes storing_events number t) → StoresInTime storing_signals (3 ∷ []) storing_events last number ready address word
  unfolding act_word
  in_time last each only = record {
    enabled = record {
      on = λ t l some. (each (at t some.2.happens.copy some.2.event) some.2.happens.there some.2.happens.numbered).enabled;
      only = λ t l on. only t on;
    };
    at = λ t is w l d. (each (at t d.happens.copy d.event) d.happens.there d.happens.numbered).at ∙ ap (row_major (3 ∷ [])) d.at;
    words = λ t is w l d. (each (at t d.happens.copy d.event) d.happens.there d.happens.numbered).word_is ∙ ap act_word d.does;
  }

first_writes : (t : ℕ) → is_on storing_signals 0 t ≡ true → Writes storing_events 2 t
first_writes = cycles (λ t. is_on storing_signals 0 t ≡ true → Writes storing_events 2 t) (λ on. (0 ∷ [], 10, first_event)) (λ on. (1 ∷ [], 11, second_event)) (λ on. absurd (false≢true on)) (λ t on. absurd (false≢true on))
  where
    first_event : DoesAt storing_events 2 0 (0 ∷ []) (writes 10)
    first_event = record { event = record { number = 2; standing = record { path = []; counters = [] }; mem = 1; indices = 0 ∷ []; act = writes 10 }; happens = record { copy = 0; there = (0, omega arith, refl); numbered = refl }; at = refl; does = refl }

    second_event : DoesAt storing_events 2 1 (1 ∷ []) (writes 11)
    second_event = record { event = record { number = 2; standing = record { path = []; counters = [] }; mem = 1; indices = 1 ∷ []; act = writes 11 }; happens = record { copy = 0; there = (1, omega arith, refl); numbered = refl }; at = refl; does = refl }

second_writes : (t : ℕ) → is_on storing_signals 3 t ≡ true → Writes storing_events 5 t
second_writes = cycles (λ t. is_on storing_signals 3 t ≡ true → Writes storing_events 5 t) (λ on. absurd (false≢true on)) (λ on. (2 ∷ [], 20, third_event)) (λ on. (0 ∷ [], 21, fourth_event)) (λ t on. absurd (false≢true on))
  where
    third_event : DoesAt storing_events 5 1 (2 ∷ []) (writes 20)
    third_event = record { event = record { number = 5; standing = record { path = []; counters = [] }; mem = 1; indices = 2 ∷ []; act = writes 20 }; happens = record { copy = 0; there = (2, omega arith, refl); numbered = refl }; at = refl; does = refl }

    fourth_event : DoesAt storing_events 5 2 (0 ∷ []) (writes 21)
    fourth_event = record { event = record { number = 5; standing = record { path = []; counters = [] }; mem = 1; indices = 0 ∷ []; act = writes 21 }; happens = record { copy = 0; there = (3, omega arith, refl); numbered = refl }; at = refl; does = refl }

first_in_time : (last : ℕ) → StoresInTime storing_signals (3 ∷ []) storing_events last 2 0 1 2
unfolding act_word
first_in_time last = in_time 2 0 1 2 last
    (each_event (AreStored 2 0 1 2) (λ e. record { enabled = refl; at = refl; word_is = refl }) (λ e. record { enabled = refl; at = refl; word_is = refl }) (λ e. absurd (other 5 2 refl e)) (λ e. absurd (other 5 2 refl e))) first_writes

second_in_time : (last : ℕ) → StoresInTime storing_signals (3 ∷ []) storing_events last 5 3 4 5
unfolding act_word
second_in_time last = in_time 5 3 4 5 last
    (each_event (AreStored 5 3 4 5) (λ e. absurd (other 2 5 refl e)) (λ e. absurd (other 2 5 refl e)) (λ e. record { enabled = refl; at = refl; word_is = refl }) (λ e. record { enabled = refl; at = refl; word_is = refl })) second_writes

either_unit : (P : StoreUnit → Type 0) → P first_unit → P second_unit → (u : StoreUnit) → Contains storing_units u → P u
either_unit P a b u there = elim (first_or_later first_unit u (second_unit ∷ []) there) [
  | inl same ↦ subst P same a
  | inr later ↦ elim (first_or_later second_unit u [] later) [
    | inl same ↦ subst P same b
    | inr none ↦ absurd (none_there u none)
  ]
]

abbrev HasUnit : ℕ → Type 0
HasUnit n = (u : StoreUnit) × Contains storing_units u × (u.number ≡ n)

has_each : (n t : ℕ) → SomeHappens storing_events n t → HasUnit n
has_each n t some =
    each_event (λ x. Told (λ e. e.number ≡ n → HasUnit n) x.moment) (λ e. (first_unit, (0, omega arith, refl), e)) (λ e. (first_unit, (0, omega arith, refl), e)) (λ e. (second_unit, (1, omega arith, refl), e)) (λ e. (second_unit, (1, omega arith, refl), e))
    (at t some.1.copy some.0) some.1.there some.1.numbered

acts : (last : ℕ) → DramInTime storing_core storing_signals storing_events last 0 storing_units
acts last = record {
  acts = either_unit (λ u. StoresInTime storing_signals (3 ∷ []) storing_events last u.number u.nets.ready u.nets.address u.nets.word) (first_in_time last) (second_in_time last);
  has_each = λ n t l some. has_each n t some;
}

one_copy : IsInOneCopy storing_events 1
one_copy t c e there h = each_event (λ x. x.copy ≡ 0) refl refl refl refl (at t c e) there

abbrev Stands : (t i : ℕ) → Type 0
Stands t i = standing storing_core storing_events words_first t (dram_place storing_core 0 i) ≡ one_cell storing_core (storing_signals.dram t 0 i)

-- cycle by cycle
words : (t i : ℕ) → t < 4 → i < 3 → Stands t i
words zero i l = elements (Stands 0) refl refl refl i
words (suc zero) i l = elements (Stands 1) refl refl refl i
words (suc (suc zero)) i l = elements (Stands 2) refl refl refl i
words (suc (suc (suc zero))) i l = elements (Stands 3) refl refl refl i
words (suc (suc (suc (suc t)))) i l = absurd (omega (arith, l))

pub worked_dram : WorkedDram
worked_dram = record { first_store = inl (refl, refl); second_store = inr (inl (refl, refl)); units = refl; runs = runs; one = one_copy; in_time = acts; words = words }
