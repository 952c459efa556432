-- Laws of events in time and of beats, as statements.
use Rattle.std.specs.Prelude.{ℕ, ◌+◌, ◌<◌, ◌≤◌, Bool, IsTrue, List, length}
use Rattle.sp_time.specs.Beats.{Slot, slot_at, Run, run_at, first_cycle, starts, whole, outer_run}
use Rattle.sp_time.specs.Copies.{Owned, in_group, later}
use Rattle.sp_time.specs.Events.{Event, Follows, Waits, InTime}
use Rattle.sp_time.specs.Lists.{Pairs}
use Rattle.sp_time.specs.Orders.{IsInOrder, Precedes, IsOuterSound, MeetIn, over, AreStagesSound}
use Rattle.sp_time.specs.Places.{Place, is_place, Held, Act, does, Sees, changes}

-- events that wait for each other, and that are a run in the order of the text, are found in time
abbrev pub ContentsInTime : Type 0
ContentsInTime = (es : List (Event Place Act)) (s : Place → Held) → Pairs (Waits changes) es → Follows is_place does Sees es s → InTime is_place does Sees changes es s

-- when the runs of a loop's stages begin and end
pub record BeatsGo (slots : List Slot) (took : (group stage : ℕ) → ℕ) : Type 0 where
  -- a run that another one follows is over when that begins
  pub after_run : (k s l r : ℕ) → s < length slots → Precedes slots k s l r → starts slots took k s + took k s ≤ starts slots took l r
  -- the first cycle of a beat comes after the runs of earlier beats, and before the runs of that beat and of later ones
  pub after_beat : (k s b : ℕ) → s < length slots → k + (slot_at slots s).slot < b → starts slots took k s + took k s ≤ first_cycle slots took b
  pub in_beat : (k s b : ℕ) → b ≤ k + (slot_at slots s).slot → first_cycle slots took b < starts slots took k s
  -- a run is over before the whole is
  pub within : (groups k s : ℕ) → k < groups → s < length slots → starts slots took k s + took k s < whole slots took groups

abbrev pub BeatsInOrder : Type 0
BeatsInOrder = (slots : List Slot) (took : (group stage : ℕ) → ℕ) → BeatsGo slots took

-- a loop takes no longer than its cost where no run of a stage does
abbrev pub CostsBound : Type 0
CostsBound = (slots : List Slot) (took costs : (group stage : ℕ) → ℕ) → ((k s : ℕ) → took k s ≤ costs k s) → (groups : ℕ) → whole slots took groups ≤ whole slots costs groups

-- what happens in a loop, its events in the copies of their groups, comes in order where it does in the runs of its stages
-- and where runs that meet come one after the other
abbrev pub OutersInOrder : Type 0
OutersInOrder = (owned : List Owned) (slots : List Slot) (runs : List (List (Run (Event Place Act)))) →
    ((k s : ℕ) → IsInOrder over (Waits changes) (run_at runs k s)) → IsOuterSound (MeetIn owned) slots runs →
    IsInOrder over (Waits changes) (outer_run (λ k s n e. later n (in_group owned k e)) slots runs)

-- the rules of slots, chains and copies suffice for that
abbrev pub StagesSuffice : Type 0
StagesSuffice = (names alters : (stage mem : ℕ) → Bool) (owned : List Owned) (slots : List Slot) (runs : List (List (Run (Event Place Act)))) →
    AreStagesSound (λ s m. IsTrue (names s m)) (λ s m. IsTrue (alters s m)) owned slots runs → IsOuterSound (MeetIn owned) slots runs
