-- When the runs of a loop's stages begin: beat after beat, and in a beat its chains at once. Cycle 0 is the one in which the
-- loop is started, and a run that takes so many cycles lets the next one start that much later.
use Rattle.std.specs.Prelude.{ℕ, zero, suc, ◌+◌, ◌-◌, ◌&&◌, Bool, cond, List, [], map, length, nat_eq, nat_le, slice_index_or}
use Rattle.sp_time.specs.Lists.{joined, total, greatest}

-- where a stage stands: stages of one slot and one chain run one after the other
pub record Slot : Type 0 where
  pub slot : ℕ
  pub chain : ℕ

abbrev pub slot_at : List Slot → ℕ → Slot
slot_at slots s = slice_index_or slots s (record { slot = 0; chain = 0 })

abbrev pub is_slot : Slot → Slot → Bool
is_slot a b = nat_eq a.slot b.slot && nat_eq a.chain b.chain

-- the beats of so many groups, where this is the last slot
abbrev pub beat_count : ℕ → ℕ → ℕ
beat_count zero last = 0
beat_count (suc n) last = suc n + last

-- by how many cycles the run of each stage takes in each group
module _ (slots : List Slot) (took : (group stage : ℕ) → ℕ) where
  -- how far into the members of its beat a run begins, and ends
  abbrev pub offset : (group stage : ℕ) → ℕ
  offset k s = total (λ j. cond (is_slot (slot_at slots j) (slot_at slots s)) (took k j) 0) s

  abbrev pub ends : (group stage : ℕ) → ℕ
  ends k s = offset k s + took k s

  -- how long the members of a beat take: its longest chain
  abbrev pub beat : ℕ → ℕ
  beat b = greatest (λ s. cond (nat_le (slot_at slots s).slot b) (ends (b - (slot_at slots s).slot) s) 0) (length slots)

  -- how many cycles the beats before one take
  abbrev pub begins : ℕ → ℕ
  begins b = total (λ c. suc (beat c)) b

  -- the first cycle of a beat, in which groups move on and memories are made fresh; its members begin in the next one
  abbrev pub first_cycle : ℕ → ℕ
  first_cycle b = suc (begins b)

  abbrev pub starts : (group stage : ℕ) → ℕ
  starts k s = suc (first_cycle (k + (slot_at slots s).slot)) + offset k s

  -- how long all takes
  abbrev pub whole : (groups : ℕ) → ℕ
  whole groups = 2 + begins (beat_count groups (greatest (λ s. (slot_at slots s).slot) (length slots)))

-- a run: how long it takes, and what happens in it in the order of the text, by cycles from its first one on
pub record Run (E : Type 0) : Type 0 where
  pub took : ℕ
  pub events : List E

abbrev pub no_time : {E : Type 0} → Run E
no_time = record { took = 0; events = [] }

-- a table of runs: of each stage in each group
abbrev pub run_at : {E : Type 0} → List (List (Run E)) → (group stage : ℕ) → Run E
run_at runs k s = slice_index_or (slice_index_or runs k []) s no_time

abbrev pub took_at : {E : Type 0} → List (List (Run E)) → (group stage : ℕ) → ℕ
took_at runs k s = (run_at runs k s).took

-- The runs of stages in groups, one after the other. What happens in the run of a stage in a group stands in the whole as it
-- is moved there, by the cycle in which the run begins.
module _ {E : Type 0} (move : (group stage start : ℕ) → E → E) (slots : List Slot) (runs : List (List (Run E))) where
  abbrev pub placed : (group stage : ℕ) → List E
  placed k s = map (move k s (starts slots (took_at runs) k s)) (run_at runs k s).events

  abbrev pub outer_run : Run E
  outer_run = record {
    took = whole slots (took_at runs) (length runs);
    events = joined (λ k. joined (placed k) (length slots)) (length runs);
  }
