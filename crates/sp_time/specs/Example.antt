-- A loop of three groups with two stages in two slots, and a memory with two copies between them.
use Rattle.std.specs.Prelude.{◌≡◌, ℕ, List, [], ◌∷◌, map}
use Rattle.sp_time.specs.Beats.{Slot, Run, outer_run}
use Rattle.sp_time.specs.Copies.{Owned, in_group, later}
use Rattle.sp_time.specs.Events.{Event}
use Rattle.sp_time.specs.Places.{Place, Act, read, write}

abbrev pub buffer : List Owned
buffer = record { mem = 0; copies = 2 } ∷ []

abbrev pub in_slot : ℕ → Slot
in_slot g = record { slot = g; chain = 0 }

abbrev pub two_slots : List Slot
two_slots = in_slot 0 ∷ in_slot 1 ∷ []

abbrev pub at : (cycle copy : ℕ) → Act → Event Place Act
at cycle copy act = record { cycle = cycle; place = record { mem = 0; copy = copy; element = 5 }; act = act }

-- an inner body of one group and one operation, which acts in the cycle after the start: it costs 2 and the latency 1
abbrev pub one_act : Act → Run (Event Place Act)
one_act act = record { took = 3; events = at 1 0 act ∷ [] }

-- the first stage writes a word, which the second one reads
abbrev pub passed_on : ℕ → List (Run (Event Place Act))
passed_on w = one_act (write w) ∷ one_act (read w) ∷ []

abbrev pub double_buffered : Run (Event Place Act)
double_buffered = outer_run (λ k s n e. later n (in_group buffer k e)) two_slots (map passed_on (10 ∷ 11 ∷ 12 ∷ []))

-- four beats of one cycle and three; each word is read in the beat after the one in which it is written
pub record OverlapExample : Type 0 where
  pub took : double_buffered.took ≡ 18
  pub events : double_buffered.events ≡ at 3 0 (write 10) ∷ at 7 0 (read 10) ∷ at 7 1 (write 11) ∷ at 11 1 (read 11) ∷ at 11 0 (write 12) ∷ at 15 0 (read 12) ∷ []
