-- The cycles of a loop in beats by a timeline.
use Rattle.std.specs.Prelude.{◌≡◌, ℕ, suc, ◌+◌, ◌<◌, ◌≤◌, List}
use Rattle.sp_time.specs.Beats.{Slot, first_cycle, starts, whole}
use Rattle.sp_part_runs.specs.SequencesChains.{turn}
use Rattle.sp_part_runs.specs.SequencesPlaces.{stage_at, sizes, IsPlace}
use Rattle.sp_part_runs.specs.SequencesRuns.{member_took}
use Rattle.sp_part_runs.specs.BeatsRuns.{BeatsRan, Turn, beat_cycle, beats_of, slot_cycle, slot_found, whole_run}

module _ (places : List (List (List ℕ))) where
  -- a run in which members took as long as their stages did in each group, and there is no other group
  pub record TookAsStages (took : (group stage : ℕ) → ℕ) (r : BeatsRan) : Type 0 where
    pub found : (g k j i : ℕ) → g < r.groups → IsPlace places k j i → member_took (r.found g k j i) ≡ took g (stage_at places k j i)
    pub takes_time : (g k j i : ℕ) → g < r.groups → IsPlace places k j i → 1 ≤ took g (stage_at places k j i)
    pub ended : (g s : ℕ) → r.groups ≤ g → took g s ≡ 0

  -- its beats and members begin, and it is over, when the timeline says
  pub record IsInTimeline (slots : List Slot) (took : (group stage : ℕ) → ℕ) (r : BeatsRan) : Type 0 where
    pub beats : (b : ℕ) → b ≤ beats_of (sizes places) r → beat_cycle (sizes places) b r ≡ r.cycle + first_cycle slots took b
    pub members : (g k j i : ℕ) → g < r.groups → IsPlace places k j i → suc (turn (slot_cycle (sizes places) k) (λ (x : Turn). slot_found k x j) i (record { run = r; number = g })) ≡ r.cycle + starts slots took g (stage_at places k j i)
    pub lasts : (whole_run (sizes places) r).took ≡ whole slots took r.groups
