-- The run of a whole core that begins in a later cycle than 0, as statements.
use Rattle.std.specs.Prelude.{◌≡◌, ℕ, ◌≤◌, List, [], ◌∷◌, Option}
use Rattle.std.specs.List.{Contains}
use Rattle.sp_words.specs.Memory.{Contents}
use Rattle.sp_core.specs.Events.{Moment}
use Rattle.sp_core.specs.History.{History}
use Rattle.sp_core.specs.PlainCore.{PlainCore}
use Rattle.sp_plan.specs.PlainPlan.{PlainPlan}
use Rattle.sp_time.specs.Events.{after}
use Rattle.sp_time.specs.Places.{Place, is_place}
use Rattle.sp_machine.specs.Found.{events_of, does}
use Rattle.sp_machine.specs.Stamps.{Stamped, later}
use Rattle.sp_machine.specs.Timeline.{core_timed}
use Rattle.sp_machine.specs.Transfers.{Delays}
use Rattle.sp_node_runs.specs.Runs.{Placed}
use Rattle.sp_node_runs.specs.RunsTold.{all_events}
use Rattle.sp_memory_words.specs.Moments.{HappensWell}

module _ (core : PlainCore) (plan : PlainPlan) (delays : Delays) where
  -- the run from a cycle on, and what happens in it
  abbrev pub run_from : (cycle : ℕ) → History → Placed
  run_from n h = record { cycle = n; standing = record { path = []; counters = [] }; copies = λ m. 0; history = h }

  abbrev pub events_from : (cycle : ℕ) → History → List Stamped
  events_from n h = all_events core plan delays core.root 0 0 (run_from n h ∷ [])

  -- it is the run from cycle 0 on, so many cycles later
  pub record BeginsLater (n : ℕ) (h : History) : Type 0 where
    pub moved : events_from n h ≡ later n (core_timed core plan delays h).events
    -- nothing happens before
    pub not_before : (t c : ℕ) (x : Moment) → Contains (events_from n h) (record { cycle = t; copy = c; moment = x }) → n ≤ t
    -- circuits may follow it as they may that one, and it leaves the same
    pub well : (first : Place → Option Contents) → HappensWell core plan (core_timed core plan delays h).events first → HappensWell core plan (events_from n h) first
    pub ends : (first : Place → Option Contents) (p : Place) → after is_place (does core) (events_of core (events_from n h)) first p ≡ after is_place (does core) (events_of core (core_timed core plan delays h).events) first p

  abbrev pub RunsBeginLater : Type 0
  RunsBeginLater = (n : ℕ) (h : History) → BeginsLater n h
