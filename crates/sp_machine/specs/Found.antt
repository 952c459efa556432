-- The moments of a run as events in time, each at an element of a copy of a memory; a moment at which there is nothing to do
-- is none. What is done to all of a memory is done to a register or a FIFO, which is one element.
use Rattle.std.specs.Prelude.{◌≡◌, ℕ, ◌<◌, List, [], ◌∷◌, length, Option, Some, if◌then◌else◌}
use Rattle.sp_words.specs.declared.kind.Kind.{Kind}
use Rattle.sp_words.specs.declared.kind.Kind.TheVariants.{LineBuf}
use Rattle.sp_words.specs.Memory.{Contents, cells}
use Rattle.sp_core.specs.Accesses.{word_in, with_word, with_newest, without_oldest, with_new_row}
use Rattle.sp_core.specs.Declarations.{kind_of, dims, room, fresh}
use Rattle.sp_core.specs.Events.{Act, reads, writes, puts, takes, resets, turns, Moment, touches, slices, renews, keeps}
use Rattle.sp_core.specs.Meeting.{element}
use Rattle.sp_core.specs.PlainCore.{PlainCore}
use Rattle.sp_core.specs.Store.{queue_of}
use Rattle.sp_time.specs.Events.{Event, Follows, InTime}
use Rattle.sp_time.specs.Lists.{Pairs}
use Rattle.sp_time.specs.Places.{Place, is_place}
use Rattle.sp_machine.specs.InOrder.{is_done, memory_of, does_change, AreInOrder}
use Rattle.sp_machine.specs.Stamps.{Stamped}

module _ (core : PlainCore) where
  abbrev pub element_of : Moment → ℕ
  element_of (touches e) = element (kind_of core e.mem) (dims core e.mem) e.indices
  element_of m = 0

  abbrev pub event_of : Stamped → Event Place Moment
  event_of s = record { cycle = s.cycle; place = record { mem = memory_of s.moment; copy = s.copy; element = element_of s.moment }; act = s.moment }

  abbrev pub events_of : List Stamped → List (Event Place Moment)
  events_of [] = []
  events_of (s ∷ rest) = if is_done core s.moment then event_of s ∷ events_of rest else events_of rest

  -- what stands at an element: a cell with a word; of a FIFO or a line buffer all of it
  abbrev pub one_cell : ℕ → Option Contents
  one_cell w = Some (cells (Some w ∷ []))

  abbrev pub written_to : Kind → (mem : ℕ) → (indices : List ℕ) → (word : ℕ) → Option Contents → Option Contents
  written_to LineBuf m is w c = Some (with_word LineBuf (dims core m) is w c)
  written_to kind m is w c = one_cell w

  abbrev pub is_read_in : Kind → (mem : ℕ) → (indices : List ℕ) → (word : ℕ) → Option Contents → Type 0
  is_read_in LineBuf m is w c = word_in LineBuf (dims core m) is c ≡ Some w
  is_read_in kind m is w c = c ≡ one_cell w

  -- what a moment makes of it, and what it needs to find
  abbrev pub act_does : (mem : ℕ) → (indices : List ℕ) → Act → Option Contents → Option Contents
  act_does m is (reads w) c = c
  act_does m is (writes w) c = written_to (kind_of core m) m is w c
  act_does m is (puts w) c = Some (with_newest w c)
  act_does m is (takes w) c = Some (without_oldest c)
  act_does m is resets c = Some (fresh core m)
  act_does m is turns c = Some (with_new_row (dims core m) c)

  abbrev pub does : Moment → Option Contents → Option Contents
  does (touches e) c = act_does e.mem e.indices e.act c
  does (slices x) c = c
  does (renews m) c = Some (fresh core m)
  does (keeps m w) c = one_cell w

  abbrev pub ActSees : (mem : ℕ) → (indices : List ℕ) → Act → Option Contents → Type 0
  ActSees m is (reads w) c = is_read_in (kind_of core m) m is w c
  ActSees m is (puts w) c = length (queue_of c) < room core m
  ActSees m is (takes w) c = (rest : List ℕ) × (queue_of c ≡ w ∷ rest)
  ActSees m is _ c = Unit {0}

  abbrev pub Sees : Moment → Option Contents → Type 0
  Sees (touches e) c = ActSees e.mem e.indices e.act c
  Sees _ c = Unit {0}

-- moments that are in order, and that find what they need one after the other, are found in time
abbrev pub AreFound : PlainCore → Type 0
AreFound core =
    (run : List Stamped) (first : Place → Option Contents) → Pairs (AreInOrder core) run → Follows is_place (does core) (Sees core) (events_of core run) first
    → InTime is_place (does core) (Sees core) does_change (events_of core run) first
