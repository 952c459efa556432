-- The runs of a loop in beats: what was found of each member in each group, and from that the cycles in which all begins.
use Rattle.std.specs.Prelude.{◌≡◌, ℕ, zero, suc, ◌+◌, ◌-◌, ◌≤◌, ◌⊎◌, max, nat_lt, Bool, true, false, List, [], ◌∷◌, ◌++◌, length}
use Rattle.std.specs.List.{Contains}
use Rattle.sp_time.specs.Lists.{total}
use Rattle.sp_part_runs.specs.ControlParts.{Ran}
use Rattle.sp_part_runs.specs.SequencesRuns.{MemberRan, longest}

-- a run that was started in a cycle, with so many groups
pub record BeatsRan : Type 0 where
  pub cycle : ℕ
  pub groups : ℕ
  pub found : (group slot chain member : ℕ) → MemberRan

-- in beat b slot k has group b - k, if there is such a one
abbrev pub has_in : (groups slot beat : ℕ) → Bool
has_in n zero b = nat_lt b n
has_in n (suc k) zero = false
has_in n (suc k) (suc b) = has_in n k b

-- the last group goes through all slots, one beat after another
abbrev pub beats : (groups slots : ℕ) → ℕ
beats zero n = 0
beats (suc g) zero = 0
beats (suc g) (suc n) = suc g + n

-- the longest chain in a beat, of slots from a number on that have a group
abbrev pub slot_lasts : BeatsRan → (beat slot : ℕ) → (sizes : List ℕ) → ℕ
slot_lasts r b k sizes = elim (has_in r.groups k b) [ true ↦ longest (r.found (b - k) k) 0 sizes | false ↦ 0 ]

abbrev pub longest_of : BeatsRan → (beat slot : ℕ) → List (List ℕ) → ℕ
longest_of r b k [] = 0
longest_of r b k (sizes ∷ shape) = max (slot_lasts r b k sizes) (longest_of r b (suc k) shape)

module _ (shape : List (List ℕ)) where
  -- from a beat's first cycle to its end
  abbrev pub beat_lasts : (beat : ℕ) → BeatsRan → ℕ
  beat_lasts b r = max 1 (longest_of r b 0 shape)

  abbrev pub beats_took : (count : ℕ) → BeatsRan → ℕ
  beats_took n r = total (λ b. suc (beat_lasts b r)) n

  -- the first beat has its first cycle in the one after the start
  abbrev pub beat_cycle : (beat : ℕ) → BeatsRan → ℕ
  beat_cycle b r = suc (r.cycle + beats_took b r)

  abbrev pub beats_of : BeatsRan → ℕ
  beats_of r = beats r.groups (length shape)

  -- the whole is over a cycle after its last beat
  abbrev pub whole_run : BeatsRan → Ran
  whole_run r = record { cycle = r.cycle; took = 2 + beats_took (beats_of r) r }

  -- no run begins before those before it are over
  abbrev pub AreInTurn : List BeatsRan → Type 0
  AreInTurn runs = (r q : BeatsRan) → Contains runs r → Contains runs q → r.cycle ≤ q.cycle → (r ≡ q) ⊎ ((whole_run r).cycle + (whole_run r).took ≤ q.cycle)

-- a group or a beat of a run
pub record Turn : Type 0 where
  pub run : BeatsRan
  pub number : ℕ

abbrev pub turns : BeatsRan → (count : ℕ) → List Turn
turns r zero = []
turns r (suc n) = turns r n ++ record { run = r; number = n } ∷ []

-- so many of each run
abbrev pub turns_of : (count : BeatsRan → ℕ) → List BeatsRan → List Turn
turns_of count [] = []
turns_of count (r ∷ runs) = turns r (count r) ++ turns_of count runs

-- a slot works on a group so many beats later as its number says
abbrev pub slot_cycle : (shape : List (List ℕ)) → (slot : ℕ) → Turn → ℕ
slot_cycle shape k x = beat_cycle shape (x.number + k) x.run

abbrev pub slot_found : (slot : ℕ) → Turn → (chain member : ℕ) → MemberRan
slot_found k x = x.run.found x.number k

abbrev pub groups_in : List BeatsRan → List Turn
groups_in runs = turns_of (λ r. r.groups) runs

-- the steps of a run: one in the first cycle of each beat, and one at the end
abbrev pub steps_in : (shape : List (List ℕ)) → List BeatsRan → List Turn
steps_in shape runs = turns_of (λ r. suc (beats_of shape r)) runs

abbrev pub step_cycle : (shape : List (List ℕ)) → Turn → ℕ
step_cycle shape x = beat_cycle shape x.number x.run
