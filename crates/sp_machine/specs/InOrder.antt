-- When what happens in a run comes in order: of two moments at one place, of which the first one in the order of the text
-- changes it, the second one comes in a later cycle; where only the second one does, in no earlier one.
use Rattle.std.specs.Prelude.{◌≡◌, ℕ, ◌+◌, ◌<◌, ◌≤◌, ◌==◌, ◌&&◌, ◌⊎◌, Bool, true, false, ℤ, List, length, replicate, Option}
use Rattle.sp_bank.specs.Banking.{Banking}
use Rattle.sp_core.specs.declared.access.Meet.{Meet}
use Rattle.sp_core.specs.Declarations.{mem, is_among}
use Rattle.sp_core.specs.Events.{At, Standing, Moment, touches, slices, renews, keeps, events_of}
use Rattle.sp_core.specs.Meeting.{changes, is_one_element, is_group, is_in_stream, owns, are_met}
use Rattle.sp_core.specs.PlainCore.{PlainOp, PlainStages, PlainCore}
use Rattle.sp_core.specs.History.{Entry}
use Rattle.sp_core.specs.Sequential.{has_reset}
use Rattle.sp_plan.specs.Bodies.{are_times_right}
use Rattle.sp_plan.specs.PlainPlan.{PlainNodePlan, inner_plan, outer_plan, PlainPlan}
use Rattle.sp_time.specs.Beats.{Slot, Run, slot_at, run_at, took_at, first_cycle}
use Rattle.sp_time.specs.Orders.{Precedes}
use Rattle.sp_time.specs.Lists.{Each, Pairs}
use Rattle.sp_machine.specs.Laws.{told}
use Rattle.sp_machine.specs.Stamps.{Stamped, Copies, stamp}
use Rattle.sp_machine.specs.Timeline.{body_events, in_copies, first_slot, group_events, slots_of}
use Rattle.sp_machine.specs.Transfers.{Delays}

-- whether there is anything to do: a memory that has no reset holds what it held until it is written
abbrev pub is_done : PlainCore → Moment → Bool
is_done core (touches e) = true
is_done core (slices x) = false
is_done core (renews m) = has_reset (mem core m).kind (mem core m).start
is_done core (keeps m w) = true

abbrev pub memory_of : Moment → ℕ
memory_of (touches e) = e.mem
memory_of (slices x) = 0
memory_of (renews m) = m
memory_of (keeps m w) = m

abbrev pub does_change : Moment → Bool
does_change (touches e) = changes e.act
does_change (slices x) = false
does_change (renews m) = true
does_change (keeps m w) = true

-- at one element of one memory; what is done to all of a memory is at each of its elements
abbrev pub share_place : PlainCore → Moment → Moment → Bool
share_place core (touches e) (touches f) = (e.mem == f.mem) && is_one_element core e f
share_place core m n = memory_of m == memory_of n

-- two moments are at one place of one copy
pub record Clash (core : PlainCore) (s t : Stamped) : Type 0 where
  pub first : is_done core s.moment ≡ true
  pub second : is_done core t.moment ≡ true
  pub copy : s.copy ≡ t.copy
  pub place : share_place core s.moment t.moment ≡ true

-- the second of two in the order of the text waits for the first
pub record AreInOrder (core : PlainCore) (s t : Stamped) : Type 0 where
  pub for_change : Clash core s t → does_change s.moment ≡ true → s.cycle < t.cycle
  pub for_look : Clash core s t → does_change t.moment ≡ true → s.cycle ≤ t.cycle

-- a place in a run, in a group or turn of each controller around, none of which is a `Stream` block, and at a node that is no
-- outer body
pub record IsPlaced (core : PlainCore) (k : ℕ) (st : Standing) : Type 0 where
  pub around : Each (λ (a : At). (is_in_stream core a.node ≡ false) × (is_group a.when a.when ≡ true)) st.path
  pub no_stream : is_in_stream core k ≡ false
  pub no_owner : (m : ℕ) → owns core k m ≡ false

-- what happens in the groups of an inner body comes in order, where its times are right for meets in which its events stand
abbrev pub BodiesInOrder : PlainCore → PlainPlan → Delays → Type 0
BodiesInOrder core plan delays =
    (schemes : List (Option Banking)) (meets : List Meet) (k number : ℕ) (st : Standing) (copies : Copies) (owned : List ℕ) (ops : List PlainOp) (times : List ℕ) (ii latency : ℕ) (serial : Bool) (values : List (List ℤ)) (groups : List (List Entry))
    → IsPlaced core k st → are_times_right core schemes meets number false ops times ii latency serial ≡ true
    → are_met core meets (events_of (told (body_events core plan delays (inner_plan times ii latency serial) copies k number 0 st owned ops values groups))) ≡ true
    → Pairs (AreInOrder core) (body_events core plan delays (inner_plan times ii latency serial) copies k number 0 st owned ops values groups)

-- of each element of one list and each of another one
abbrev pub EachTwo : (Stamped → Stamped → Type 0) → List Stamped → List Stamped → Type 0
EachTwo P xs ys = Each (λ x. Each (P x) ys) xs

-- two moments clash, and one of them changes what stands there
abbrev pub Conflicts : PlainCore → Stamped → Stamped → Type 0
Conflicts core s t = Clash core s t × ((does_change s.moment ≡ true) ⊎ (does_change t.moment ≡ true))

-- In an outer body, by the runs of its stages in each group: a run whose moments clash with those of a later one comes before
-- it, by beats, or by a chain of one beat; and a memory that the loop owns is made fresh after the runs of earlier groups
-- that use its copy, and before those of its own group and later ones.
module _ (core : PlainCore) (plan : PlainPlan) (delays : Delays) (slots : List Slot) (runs : List (List (Run Stamped))) (p : PlainNodePlan) (stages : PlainStages) (copies : Copies) (owned : List ℕ) where
  abbrev pub fresh_beat : (group mem : ℕ) → ℕ
  fresh_beat g m = g + first_slot core plan delays p stages m

  abbrev pub fresh : (group mem : ℕ) → Stamped
  fresh g m = stamp (in_copies core plan delays owned g copies) (first_cycle slots (took_at runs) (fresh_beat g m)) (renews m)

  abbrev pub IsLaterRun : (k s l r : ℕ) → Type 0
  IsLaterRun k s l r = (k < l) ⊎ ((k ≡ l) × (s < r))

  pub record RunsPrecede : Type 0 where
    pub in_turn : (k s l r : ℕ) → IsLaterRun k s l r → EachTwo (λ e f. Conflicts core e f → Precedes slots k s l r) (run_at runs k s).events (run_at runs l r).events
    pub fresh_first : (g m l r : ℕ) → is_among m owned ≡ true → g ≤ l → Each (λ f. Clash core (fresh g m) f → fresh_beat g m ≤ l + (slot_at slots r).slot) (run_at runs l r).events
    pub fresh_after : (k s g m : ℕ) → is_among m owned ≡ true → k < g → g < length runs → Each (λ e. Clash core e (fresh g m) → k + (slot_at slots s).slot < fresh_beat g m) (run_at runs k s).events
    pub fresh_apart : (g m h n : ℕ) → g < h → Clash core (fresh g m) (fresh h n) → fresh_beat g m < fresh_beat h n
    pub fresh_alone : (g : ℕ) → Pairs (λ m n. Clash core (fresh g m) (fresh g n) → fresh_beat g m < fresh_beat g n) owned

-- so what happens in its groups comes in order, where what happens in each run does
abbrev pub OutersInOrder : PlainCore → PlainPlan → Delays → Type 0
OutersInOrder core plan delays =
    (slots : List Slot) (runs : List (List (Run Stamped))) (p : PlainNodePlan) (stages : PlainStages) (copies : Copies) (owned : List ℕ)
    → Each (λ row. (length row ≤ length slots) × Each (λ r. Each (λ e. e.cycle < r.took) r.events × Pairs (AreInOrder core) r.events) row) runs
    → RunsPrecede core plan delays slots runs p stages copies owned
    → Pairs (AreInOrder core) (group_events core plan delays slots runs p stages copies owned 0 runs)

-- stages in one slot and one chain, as those of a `Sequential` loop: their runs come one after the other, whatever happens in
-- them
abbrev pub one_slot : (stages : ℕ) → PlainNodePlan
one_slot n = outer_plan (replicate n 0) (replicate n 0)

abbrev pub OneSlotPrecedes : PlainCore → PlainPlan → Delays → Type 0
OneSlotPrecedes core plan delays =
    (n : ℕ) (runs : List (List (Run Stamped))) (stages : PlainStages) (copies : Copies) (owned : List ℕ) → Pairs (λ a b. a ≡ b → ⊥) owned
    → RunsPrecede core plan delays (slots_of (one_slot n)) runs (one_slot n) stages copies owned
