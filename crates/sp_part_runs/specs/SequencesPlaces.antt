-- The stages of an outer body in the places of members, and what a timeline says of their cycles.
use Rattle.std.specs.Prelude.{◌≡◌, ℕ, zero, suc, ◌+◌, ◌<◌, ◌≤◌, true, false, List, [], ◌∷◌, ◌++◌, length, map, slice_index, slice_index_or}
use Rattle.sp_time.specs.Beats.{Slot, slot_at, is_slot, first_cycle as beat_cycle, starts, whole}
use Rattle.sp_time.specs.Lists.{greatest}
use Rattle.sp_part_runs.specs.SequencesChains.{turn}
use Rattle.sp_part_runs.specs.SequencesRuns.{SequenceRan, member_took, first_cycle, whole_run}

-- of the first stages those of one chain, in their order
abbrev pub stages_in : List Slot → Slot → (stages : ℕ) → List ℕ
stages_in slots p zero = []
stages_in slots p (suc n) = elim (is_slot (slot_at slots n) p) [ true ↦ stages_in slots p n ++ n ∷ [] | false ↦ stages_in slots p n ]

abbrev pub last_slot : List Slot → ℕ
last_slot slots = greatest (λ s. (slot_at slots s).slot) (length slots)

-- the numbers of stages, by slots, chains and members
module _ (places : List (List (List ℕ))) where
  abbrev pub chains_at : (slot : ℕ) → List (List ℕ)
  chains_at k = slice_index_or places k []

  abbrev pub stages_at : (slot chain : ℕ) → List ℕ
  stages_at k j = slice_index_or (chains_at k) j []

  abbrev pub stage_at : (slot chain member : ℕ) → ℕ
  stage_at k j i = slice_index (stages_at k j) i

  -- how many members each chain of each slot has
  abbrev pub sizes : List (List ℕ)
  sizes = map (λ (chains : List (List ℕ)). map (λ (c : List ℕ). length c) chains) places

  abbrev pub IsPlace : (slot chain member : ℕ) → Type 0
  IsPlace k j i = (k < length places) × (j < length (chains_at k)) × (i < length (stages_at k j))

  -- each stage has its place: the chains of a slot are those of its stages, and no slot or chain is empty
  pub record AreArranged (slots : List Slot) : Type 0 where
    pub each : length places ≡ suc (last_slot slots)
    pub some : (k : ℕ) → k < length places → 1 ≤ length (chains_at k)
    pub chains : (k j : ℕ) → k < length places → j < length (chains_at k) → (c : ℕ) × (stages_at k j ≡ stages_in slots (record { slot = k; chain = c }) (length slots)) × (1 ≤ length (stages_at k j))
    pub all : (s : ℕ) → s < length slots → (j : ℕ) × (j < length (chains_at (slot_at slots s).slot)) × (stages_at (slot_at slots s).slot j ≡ stages_in slots (slot_at slots s) (length slots))

  -- a run in which members took as long as their stages did in the one group that there is
  pub record TookAsStages (took : (group stage : ℕ) → ℕ) (r : SequenceRan) : Type 0 where
    pub found : (k j i : ℕ) → IsPlace k j i → member_took (r.found k j i) ≡ took 0 (stage_at k j i)
    pub takes_time : (k j i : ℕ) → IsPlace k j i → 1 ≤ took 0 (stage_at k j i)
    pub alone : (g s : ℕ) → 1 ≤ g → took g s ≡ 0

  -- the cycles of a run, by the timeline of a loop with one group
  pub record IsInTimeline (slots : List Slot) (took : (group stage : ℕ) → ℕ) (r : SequenceRan) : Type 0 where
    pub first_cycles : (k : ℕ) → k < length places → first_cycle sizes k r ≡ r.cycle + beat_cycle slots took k
    pub members : (k j i : ℕ) → IsPlace k j i → suc (turn (first_cycle sizes k) (λ (q : SequenceRan). q.found k j) i r) ≡ r.cycle + starts slots took 0 (stage_at k j i)
    pub lasts : (whole_run sizes r).took ≡ whole slots took 1
