-- What the moments of a timeline do to one memory of a core, and what is said of a run so that its circuits may follow it.
use Rattle.std.specs.Prelude.{◌≡◌, ℕ, true, List, Option}
use Rattle.std.specs.List.{Contains}
use Rattle.sp_words.specs.Memory.{Contents}
use Rattle.sp_core.specs.Events.{writes, puts, takes, resets, Moment, touches, renews, keeps}
use Rattle.sp_core.specs.PlainCore.{PlainCore}
use Rattle.sp_plan.specs.PlainPlan.{PlainPlan}
use Rattle.sp_time.specs.Events.{InTime}
use Rattle.sp_time.specs.Lists.{Each}
use Rattle.sp_time.specs.Places.{Place, is_place}
use Rattle.sp_machine.specs.Found.{events_of, does, Sees}
use Rattle.sp_machine.specs.InOrder.{is_done, does_change}
use Rattle.sp_machine.specs.Stamps.{Stamped}
use Rattle.sp_contents.specs.Steady.{IsAllowed}
use Rattle.sp_core_ports.specs.CopiesLaws.{HasCopy}
use Rattle.sp_tree_events.specs.ToldLaws.{IsOfItem}

-- a moment of a timeline, in a cycle and at a copy
abbrev pub IsAt : List Stamped → (cycle copy : ℕ) → Moment → Type 0
IsAt events t c x = Contains events (record { cycle = t; copy = c; moment = x })

module _ (m : ℕ) where
  -- the word is written to the memory, by an operation or by an FSM that keeps its state
  abbrev pub Writes : (word : ℕ) → Moment → Type 0
  Writes w (touches e) = (e.mem ≡ m) × (e.act ≡ writes w)
  Writes w (keeps n v) = (n ≡ m) × (v ≡ w)
  Writes w _ = ⊥

  -- the word is put into the memory, or taken from it
  abbrev pub Puts : (word : ℕ) → Moment → Type 0
  Puts w (touches e) = (e.mem ≡ m) × (e.act ≡ puts w)
  Puts w _ = ⊥

  abbrev pub Takes : (word : ℕ) → Moment → Type 0
  Takes w (touches e) = (e.mem ≡ m) × (e.act ≡ takes w)
  Takes w _ = ⊥

  -- the memory is made fresh, by a reset or by its owner
  abbrev pub Freshens : PlainCore → Moment → Type 0
  Freshens core (touches e) = (e.mem ≡ m) × (e.act ≡ resets)
  Freshens core (renews n) = (n ≡ m) × (is_done core (renews n) ≡ true)
  Freshens core _ = ⊥

-- Moments from contents on: each finds in its own cycle what it finds in the order of the text, all are allowed, what is done to a
-- memory on the chip is done to a copy that the plan has, and each event is of the operation or the transfer of its number.
pub record HappensWell (core : PlainCore) (plan : PlainPlan) (events : List Stamped) (first : Place → Option Contents) : Type 0 where
  pub in_time : InTime is_place (does core) (Sees core) does_change (events_of core events) first
  pub allowed : Each (λ x. IsAllowed core x.moment) events
  pub copied : Each (λ x. HasCopy core plan x.copy x.moment) events
  pub of_items : Each (λ x. IsOfItem core x.moment) events
