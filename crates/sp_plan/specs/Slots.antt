-- When the slots and the chains of an outer body are right.
use Rattle.std.specs.Prelude.{ℕ, ◌+◌, ◌-◌, ◌*◌, ◌==◌, nat_le, nat_lt, Bool, true, false, ◌&&◌, ◌||◌, not, List, [], ◌∷◌, length, filter, slice_index, slice_index_or, if◌then◌else◌}
use Rattle.std.specs.List.{list_all, list_any}
use Rattle.sp_core.specs.declared.access.Meet.{Meet}
use Rattle.sp_core.specs.Elements.{numbers_below}
use Rattle.sp_core.specs.Meeting.{is_parallel, least_of}
use Rattle.sp_core.specs.Numbering.{number_count}
use Rattle.sp_core.specs.PlainCore.{PlainCounter, PlainStages, no_stage, more_stage, PlainCore}
use Rattle.sp_plan.specs.Named.{share_other}
use Rattle.sp_words.specs.declared.kind.Style.{Style}
use Rattle.sp_words.specs.declared.kind.Style.TheVariants.{Sequential}

-- a stage as it stands in the list of an outer body: in these lanes, with the operations from one number up to another
pub record StageRun : Type 0 where
  pub from : ℕ
  pub until : ℕ
  pub first : ℕ
  pub last : ℕ

abbrev pub no_run : StageRun
no_run = record { from = 0; until = 0; first = 0; last = 0 }

-- by the number of the first one's first operation
abbrev pub runs_of : (number : ℕ) → PlainStages → List StageRun
runs_of n no_stage = []
runs_of n (more_stage first last comb node rest) =
    record { from = n; until = n + number_count node; first = first; last = last } ∷ runs_of (n + number_count node) rest

-- of several lanes, as the combination of a loop with lanes is
abbrev pub is_of_all : StageRun → Bool
is_of_all r = not (r.first == r.last)

abbrev pub is_in_lane_0 : StageRun → Bool
is_in_lane_0 r = not (is_of_all r) && (r.first == 0)

abbrev pub is_within : StageRun → (number : ℕ) → Bool
is_within r n = nat_le r.from n && nat_lt n r.until

-- two runs are of one lane
abbrev pub share_lane : StageRun → StageRun → Bool
share_lane a b = nat_le a.first b.last && nat_le b.first a.last

-- the accesses of a meet are of two runs, and may meet in one group
abbrev pub may_meet : PlainCore → (a b : StageRun) → Meet → Bool
may_meet core a b m = (is_within a m.first && is_within b m.second) && (least_of core [] m == 0)

-- a meet holds two runs together, with so many stages from the second one to the first one: its accesses are of these,
-- no more groups apart, over what the loop doesn't own
abbrev pub holds_together : PlainCore → (owned : List ℕ) → (apart : ℕ) → (a b : StageRun) → Meet → Bool
holds_together core owned apart a b m =
    (is_within a m.first && is_within b m.second) && (nat_le (least_of core [] m) apart && share_other core owned m.first m.second)

abbrev pub is_sequential : Style → Bool
is_sequential Sequential = true
is_sequential _ = false

-- a body without counters is done once
abbrev pub is_once : List PlainCounter → Bool
is_once [] = true
is_once _ = false

-- all stages of a `Sequential` loop, and of a `Parallel` block, have one slot
abbrev pub has_one_slot : List PlainCounter → Style → Bool
has_one_slot [] style = is_parallel style
has_one_slot _ style = is_sequential style

abbrev pub is_parallel_block : List PlainCounter → Style → Bool
is_parallel_block [] style = is_parallel style
is_parallel_block _ style = false

module _ (runs : List StageRun) where
  abbrev pub run_at : ℕ → StageRun
  run_at p = slice_index_or runs p no_run

  abbrev pub each_run : (ℕ → Bool) → Bool
  each_run holds = list_all holds (numbers_below (length runs))

  -- the stages of one lane, and the number of the stage at a place: its place in its lane; that of several lanes is the last one
  abbrev pub lane_size : ℕ
  lane_size = length (filter is_in_lane_0 runs)

  abbrev pub stage_of : ℕ → ℕ
  stage_of p = if is_of_all (run_at p) then lane_size else p - (run_at p).first * lane_size

  module _ (slots chains : List ℕ) where
    abbrev pub slot : ℕ → ℕ
    slot p = slice_index slots p

    -- the slots are numbered from 0 without a gap, in the order of the stages; each lane has those of lane 0
    abbrev pub is_next : (before after : ℕ) → Bool
    is_next p q = (slot q == slot p) || (slot q == slot p + 1)

    abbrev pub is_slot_right : ℕ → Bool
    is_slot_right p =
        if stage_of p == 0 then slot p == 0
        else (if is_of_all (run_at p) || ((run_at p).first == 0) then is_next (stage_of p - 1) p else slot p == slot (stage_of p))

    abbrev pub is_slot_right_in : List PlainCounter → Style → ℕ → Bool
    is_slot_right_in counters style p = is_slot_right p && (not (has_one_slot counters style) || (slot p == 0))

    abbrev pub are_slots_right : List PlainCounter → Style → Bool
    are_slots_right counters style = each_run (is_slot_right_in counters style)

    module _ (core : PlainCore) where
      -- a stage of a loop, and an earlier one so many groups later, or as many at most as there are stages between, that may
      -- meet over what the loop doesn't own, are in one slot
      abbrev pub is_pair : (owned : List ℕ) → (p q : ℕ) → Meet → Bool
      is_pair owned p q m = holds_together core owned (stage_of p - stage_of q) (run_at p) (run_at q) m

      abbrev pub is_held : (owned : List ℕ) → List Meet → (p q : ℕ) → Bool
      is_held owned meets p q = (nat_le (stage_of p) (stage_of q) || (slot p == slot q)) || not (list_any (is_pair owned p q) meets)

      abbrev pub are_held_with : (owned : List ℕ) → List Meet → ℕ → Bool
      are_held_with owned meets p = each_run (is_held owned meets p)

      abbrev pub are_held : (owned : List ℕ) → List PlainCounter → List Meet → Bool
      are_held owned counters meets = is_once counters || each_run (are_held_with owned meets)

      -- runs of one slot that are of one lane, or that may meet in one group, are in one chain; children of a `Parallel` block
      -- are where they may meet
      abbrev pub is_meeting : (p q : ℕ) → Meet → Bool
      is_meeting p q m = may_meet core (run_at p) (run_at q) m

      abbrev pub are_joined : (parallel : Bool) → List Meet → (p q : ℕ) → Bool
      are_joined parallel meets p q = (not parallel && share_lane (run_at p) (run_at q)) || list_any (is_meeting p q) meets

      abbrev pub is_chain_right : (parallel : Bool) → List Meet → (p q : ℕ) → Bool
      is_chain_right parallel meets p q =
          ((nat_le q p || not (slot p == slot q)) || (slice_index chains p == slice_index chains q)) || not (are_joined parallel meets p q)

      abbrev pub are_chains_right_of : (parallel : Bool) → List Meet → ℕ → Bool
      are_chains_right_of parallel meets p = each_run (is_chain_right parallel meets p)

      abbrev pub are_chains_right : List PlainCounter → Style → List Meet → Bool
      are_chains_right counters style meets = each_run (are_chains_right_of (is_parallel_block counters style) meets)
