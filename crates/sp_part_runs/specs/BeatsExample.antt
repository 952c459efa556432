-- Three groups in two slots of one member each: in the first one it takes 2, 3 and 4 cycles, in the second one 3.
--   cycle               0  1  2  3  4  5  6  7  8  9 10 11 12 13 14 15 16 17
--   first cycles           1        1           1              1
--   first slot                0  0     1  1  1     2  2  2  2
--   second slot                        0  0  0     1  1  1        2  2  2
--   done                                                                   1
use Rattle.std.specs.Prelude.{◌≡◌, ℕ, zero, suc, true, List, [], ◌∷◌}
use Rattle.sp_part_runs.specs.ControlParts.{Ran}
use Rattle.sp_time.specs.Beats.{whole}
use Rattle.sp_part_runs.specs.SequencesChains.{turn, child_runs}
use Rattle.sp_part_runs.specs.BeatsRuns.{BeatsRan, Turn, beat_cycle, beats_of, slot_cycle, slot_found, groups_in, whole_run}

abbrev pub took : (group stage : ℕ) → ℕ
took zero zero = 2
took zero (suc s) = 3
took (suc zero) zero = 3
took (suc zero) (suc s) = 3
took (suc (suc zero)) zero = 4
took (suc (suc zero)) (suc s) = 3
took (suc (suc (suc g))) s = 0

abbrev pub run : BeatsRan
run = record { cycle = 0; groups = 3; found = λ g k j i. record { wanted = true; took = took g k } }

abbrev pub shape : List (List ℕ)
shape = (1 ∷ []) ∷ (1 ∷ []) ∷ []

-- the runs of a slot's only member
abbrev pub member_runs : (slot : ℕ) → List Ran
member_runs k = child_runs (turn (slot_cycle shape k) (λ (x : Turn). slot_found k x 0) 0) (λ (x : Turn). slot_found k x 0 0) (groups_in (run ∷ []))

pub record WorkedRun : Type 0 where
  pub count : beats_of shape run ≡ 4
  pub second_beat : beat_cycle shape 1 run ≡ 4
  pub third_beat : beat_cycle shape 2 run ≡ 8
  pub last_beat : beat_cycle shape 3 run ≡ 13
  pub end : beat_cycle shape 4 run ≡ 17
  pub first_slot : member_runs 0 ≡ record { cycle = 2; took = 2 } ∷ record { cycle = 5; took = 3 } ∷ record { cycle = 9; took = 4 } ∷ []
  pub second_slot : member_runs 1 ≡ record { cycle = 5; took = 3 } ∷ record { cycle = 9; took = 3 } ∷ record { cycle = 14; took = 3 } ∷ []
  pub over : (whole_run shape run).took ≡ 18
  pub by_timeline : whole (record { slot = 0; chain = 0 } ∷ record { slot = 1; chain = 0 } ∷ []) took 3 ≡ 18
