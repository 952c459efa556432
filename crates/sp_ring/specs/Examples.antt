-- A worked queue: a word is put in each of the cycles 0, 1 and 2, and one is taken in cycle 2.
use Rattle.std.specs.Prelude.{◌≡◌, ℕ, ◌+◌, ◌==◌, nat_lt, if◌then◌else◌, [], ◌∷◌}
use Rattle.sp_netlist.specs.Signals.{Signals, idle}
use Rattle.sp_ring.specs.declared.part.Asked.{Asked}
use Rattle.sp_ring.specs.Places.{wrapped}
use Rattle.sp_ring.specs.Rings.{queue}

-- net 0 is the put, net 1 the word, net 2 the take, and net 3 is 0
abbrev pub worked_net : (cycle net : ℕ) → ℕ
worked_net t net = if net == 0 then (if nat_lt t 3 then 1 else 0) else (if net == 1 then 10 + t else (if net == 2 then (if t == 2 then 1 else 0) else 0))

abbrev pub worked_signals : Signals
worked_signals = record { net = worked_net; bank = λ t b x. 0; dram = λ t d x. 0; phase = λ t c. idle; asked = λ t. 0 }

abbrev pub worked_asked : Asked
worked_asked = record { put = 0; word = 1; take = 2; fresh = 3 }

pub record WorkedQueue : Type 0 where
  pub two : queue worked_signals worked_asked 2 ≡ 10 ∷ 11 ∷ []
  pub three : queue worked_signals worked_asked 3 ≡ 11 ∷ 12 ∷ []
  pub round : wrapped 4 5 ≡ 1
