-- Nets of copies around a stage of a worked loop, which owns memory 1 in two copies and gets groups in cycles 1, 4 and 7, after a start in
-- cycle 0. Net 0 is the start, net 1 is 1 where the slot gets a group, and net 2 has the number.
--   cycle       0  1  2  3  4  5  6  7  8
--   net 0       1
--   net 1          1        1        1
--   net 2       1  1  0  0  0  1  1  1  0
use Rattle.std.specs.Prelude.{◌≡◌, ℕ, ◌==◌, if◌then◌else◌, [], ◌∷◌, Some, None}
use Rattle.sp_netlist.specs.Signals.{Signals, idle}
use Rattle.sp_machine.specs.Stamps.{Copies}
use Rattle.sp_beat_words.specs.Example.{start, first}
use Rattle.sp_beat_words.specs.Numbers.{copy_number}
use Rattle.sp_tree_events.specs.CopiesStanding.{CopyNets, AreNumbered, no_numbers, with_numbers, IsNumber}

abbrev pub waves : Signals
waves = record { net = λ t n. if n == 0 then (if start t then 1 else 0) else (if n == 1 then (if first t then 1 else 0) else copy_number start first 2 t); bank = λ t b place. 0; dram = λ t r place. 0; phase = λ t c. idle; asked = λ t. 0 }

abbrev pub in_stage : CopyNets
in_stage = with_numbers no_numbers (1 ∷ []) (λ m. Some 2)

-- the copies at hand in a group
abbrev pub in_copy : (copy : ℕ) → Copies
in_copy c m = if m == 1 then c else 0

pub record WorkedStanding : Type 0 where
  pub own : in_stage 1 ≡ Some 2
  pub other : in_stage 0 ≡ None
  pub net : IsNumber waves 0 1 2 (Some 2)
  pub outside : (t : ℕ) → AreNumbered waves t no_numbers (λ m. 0)
  -- in the beats of groups 0 and 1
  pub first_group : AreNumbered waves 3 in_stage (in_copy 0)
  pub second_group : AreNumbered waves 6 in_stage (in_copy 1)
