-- A worked channel: a transfer of 18 words that is started in cycle 10, whose askings wait for 3 and for 1. By hand it asks in cycle 11,
-- moves 16 words in the cycles 15 to 30, asks again in the last of these, and moves two words in 32 and 33.
use Rattle.std.specs.Prelude.{◌≡◌, ℕ, zero, suc, nat_eq, ◌||◌, true, false, List, [], ◌∷◌, map}
use Rattle.sp_netlist.specs.Signals.{idle, waiting, moving}
use Rattle.sp_channel_runs.specs.Bursts.{taken_by, Burst, first_word, last_word, phase_at, begun, Transfer, transfer_end, all_bursts}

abbrev pub waits : (asking : ℕ) → ℕ
waits zero = 3
waits (suc i) = 1

abbrev pub transfers : List Transfer
transfers = record { start = 10; first = 0; full = 1; rest = 2 } ∷ []

abbrev pub line : List Burst
line = all_bursts waits transfers

pub record WorkedChannel : Type 0 where
  pub bursts : line ≡ record { cycle = 11; wait = 3; words = 16; more = true } ∷ record { cycle = 30; wait = 1; words = 2; more = false } ∷ []
  pub first_words : map first_word line ≡ 15 ∷ 32 ∷ []
  pub last_words : map last_word line ≡ 30 ∷ 33 ∷ []
  pub over : map (transfer_end waits) transfers ≡ 34 ∷ []
  pub phases : map (phase_at line) (11 ∷ 12 ∷ 14 ∷ 15 ∷ 30 ∷ 31 ∷ 32 ∷ 33 ∷ 34 ∷ []) ≡ idle ∷ waiting 2 ∷ waiting 0 ∷ moving 0 ∷ moving 15 ∷ waiting 0 ∷ moving 0 ∷ moving 1 ∷ idle ∷ []
  pub askings : map (begun line) (11 ∷ 12 ∷ 30 ∷ 31 ∷ []) ≡ 0 ∷ 1 ∷ 1 ∷ 2 ∷ []
  -- a channel that asks in these two cycles and takes their numbers
  pub found : map (taken_by (λ t. nat_eq t 11 || nat_eq t 30) (λ t. t) 40) (0 ∷ 1 ∷ 2 ∷ []) ≡ 11 ∷ 30 ∷ 0 ∷ []
