-- A run of two slots: in the first one a member of 3 cycles, and beside it one of 1 cycle and one that is passed over; in the second
-- one a member of 4 cycles. As cycles from the start on:
--   first cycles   1        5
--   starts            2, 2     6     (of the members that are wanted)
--   done                              10
use Rattle.std.specs.Prelude.{◌≡◌, ℕ, zero, suc, true, false, List, [], ◌∷◌}
use Rattle.sp_time.specs.Beats.{Slot, whole, starts}
use Rattle.sp_part_runs.specs.SequencesChains.{turn, child_runs}
use Rattle.sp_part_runs.specs.SequencesRuns.{MemberRan, SequenceRan, first_cycle, whole_run}

abbrev pub found : (slot chain member : ℕ) → MemberRan
found zero zero i = record { wanted = true; took = 3 }
found zero (suc j) zero = record { wanted = true; took = 1 }
found zero (suc j) (suc i) = record { wanted = false; took = 9 }
found (suc k) j i = record { wanted = true; took = 4 }

abbrev pub run : SequenceRan
run = record { cycle = 100; found = found }

abbrev pub shape : List (List ℕ)
shape = (1 ∷ 2 ∷ []) ∷ (1 ∷ []) ∷ []

-- the same as stages of a plan, by slot and chain, and how long each took
abbrev pub stages : List Slot
stages = record { slot = 0; chain = 0 } ∷ record { slot = 0; chain = 1 } ∷ record { slot = 0; chain = 1 } ∷ record { slot = 1; chain = 0 } ∷ []

abbrev pub took : (group stage : ℕ) → ℕ
took zero zero = 3
took zero (suc zero) = 1
took zero (suc (suc zero)) = 2
took zero (suc (suc (suc s))) = 4
took (suc g) s = 0

pub record WorkedSequence : Type 0 where
  pub first_slot : first_cycle shape 0 run ≡ 101
  pub second_slot : first_cycle shape 1 run ≡ 105
  pub long_member : child_runs (turn (first_cycle shape 0) (λ (r : SequenceRan). r.found 0 0) 0) (λ (r : SequenceRan). r.found 0 0 0) (run ∷ []) ≡ record { cycle = 102; took = 3 } ∷ []
  pub passed_over : child_runs (turn (first_cycle shape 0) (λ (r : SequenceRan). r.found 0 1) 1) (λ (r : SequenceRan). r.found 0 1 1) (run ∷ []) ≡ []
  pub last_member : child_runs (turn (first_cycle shape 1) (λ (r : SequenceRan). r.found 1 0) 0) (λ (r : SequenceRan). r.found 1 0 0) (run ∷ []) ≡ record { cycle = 106; took = 4 } ∷ []
  pub over : (whole_run shape run).took ≡ 11
  pub by_timeline : whole stages took 1 ≡ 11
  pub last_stage : starts stages took 0 3 ≡ 6
