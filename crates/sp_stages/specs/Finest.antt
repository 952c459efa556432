-- The finest slots and chains of an outer body.
use Rattle.std.specs.Prelude.{◌≡◌, ℕ, ◌+◌, ◌*◌, ◌==◌, ◌<◌, ◌≤◌, nat_le, nat_lt, Bool, ◌&&◌, IsTrue, List, [], length, slice_index, if◌then◌else◌}
use Rattle.sp_core.specs.declared.access.Meet.{Meet}
use Rattle.sp_core.specs.PlainCore.{PlainCounter, PlainCore}
use Rattle.sp_plan.specs.Slots.{StageRun, is_of_all, run_at, each_run, lane_size, are_slots_right, are_held, are_chains_right}
use Rattle.sp_words.specs.declared.kind.Style.{Style}

-- the stages of a lane stand next to one another, lane by lane, as many in each as in lane 0; one of
-- several lanes stands last
abbrev pub is_in_lane : List StageRun → (first place : ℕ) → Bool
is_in_lane runs first p = nat_le (first * lane_size runs) p && nat_lt p (first * lane_size runs + lane_size runs)

abbrev pub is_in_place : List StageRun → (place : ℕ) → Bool
is_in_place runs p = if is_of_all (run_at runs p) then p + 1 == length runs else is_in_lane runs (run_at runs p).first p

abbrev pub are_in_place : List StageRun → Bool
are_in_place runs = each_run runs (is_in_place runs)

module _ (core : PlainCore) (meets : List Meet) (counters : List PlainCounter) (style : Style) (owned : List ℕ) (runs : List StageRun) where
  -- slots that a plan may have
  pub record AreSlots (slots : List ℕ) : Type 0 where
    pub one_each : length slots ≡ length runs
    pub right : IsTrue (are_slots_right runs slots [] counters style)
    pub held : IsTrue (are_held runs slots [] core owned counters meets)

  -- no other ones are greater anywhere
  pub record AreFinestSlots (slots : List ℕ) : Type 0 where
    pub may_be : AreSlots slots
    pub finest : (others : List ℕ) → AreSlots others → (p : ℕ) → slice_index others p ≤ slice_index slots p

  module _ (slots : List ℕ) where
    -- chains that a plan with these slots may have
    pub record AreChains (chains : List ℕ) : Type 0 where
      pub one_each : length chains ≡ length runs
      pub right : IsTrue (are_chains_right runs slots chains core counters style meets)

    -- two runs, by their places, are in one chain
    pub record AreInOne (chains : List ℕ) (p q : ℕ) : Type 0 where
      pub slot : slice_index slots p ≡ slice_index slots q
      pub chain : slice_index chains p ≡ slice_index chains q

    -- a chain of a lesser number, in the slot of a run, has a run before that one
    pub record HasEarlier (chains : List ℕ) (p c : ℕ) : Type 0 where
      pub place : ℕ
      pub earlier : place < p
      pub slot : slice_index slots place ≡ slice_index slots p
      pub chain : slice_index chains place ≡ c

    -- two runs that are in one chain are so by all others; the chains of a slot are numbered from 0 by their first runs
    pub record AreFinestChains (chains : List ℕ) : Type 0 where
      pub may_be : AreChains chains
      pub finest : (others : List ℕ) → AreChains others → (p q : ℕ) → p < length runs → q < length runs → AreInOne chains p q → AreInOne others p q
      pub numbered : (p c : ℕ) → p < length runs → c < slice_index chains p → HasEarlier chains p c
