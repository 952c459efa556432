-- A queue in one bank, and what its circuit does over time.
use Rattle.std.specs.Prelude.{◌≡◌, ℕ, zero, suc, ◌<◌, Bool, true, if◌then◌else◌, List, [], ◌∷◌, ◌++◌, length}
use Rattle.sp_netlist.specs.Draft.{Draft}
use Rattle.sp_netlist.specs.Signals.{Signals}
use Rattle.sp_gates.specs.Nets.{HasNet}
use Rattle.sp_gates.specs.Tested.{is_on}
use Rattle.sp_access.specs.declared.access.Access.{Access}
use Rattle.sp_taps.specs.declared.store.Store.{Store}
use Rattle.sp_bank_ports.specs.declared.port.WritePort.{WritePort}
use Rattle.sp_bank_ports.specs.Ports.{RunsServed}
use Rattle.sp_ring.specs.declared.part.Asked.{Asked}
use Rattle.sp_ring.specs.declared.part.Ring.{Ring}
use Rattle.sp_ring.specs.Places.{CountsPlaces}

pub record AskedFits (d : Draft) (width : ℕ) (asked : Asked) : Type 0 where
  pub put : HasNet d asked.put 1
  pub word : HasNet d asked.word width
  pub take : HasNet d asked.take 1
  pub fresh : HasNet d asked.fresh 1

-- the ports of the bank, at the places
abbrev pub put_port : Asked → Ring → WritePort
put_port asked ring = record { access = record { on = asked.put; place = ring.tail }; word = asked.word }

abbrev pub take_port : Asked → Ring → Access
take_port asked ring = record { on = asked.take; place = ring.head }

-- a put goes to the place behind the last word, a take is of the first one's place, and both places go on
pub record RunsRing (s : Signals) (bank len : ℕ) (store : Store) (asked : Asked) (ring : Ring) : Type 0 where
  pub head : CountsPlaces s len asked.take asked.fresh ring.head
  pub tail : CountsPlaces s len asked.put asked.fresh ring.tail
  pub served : RunsServed s bank len store (put_port asked ring) (take_port asked ring)

-- all but the first word
abbrev pub rest_of : List ℕ → List ℕ
rest_of [] = []
rest_of (x ∷ xs) = xs

-- the queue after a cycle: one that is made fresh is empty
abbrev pub queue_after : (fresh put take : Bool) (word : ℕ) (queue : List ℕ) → List ℕ
queue_after fresh put take word q = if fresh then [] else (if put then (if take then rest_of q else q) ++ word ∷ [] else (if take then rest_of q else q))

-- the queue in a cycle, by what was asked before it alone
abbrev pub queue : Signals → Asked → (cycle : ℕ) → List ℕ
queue s asked zero = []
queue s asked (suc t) = queue_after (is_on s asked.fresh t) (is_on s asked.put t) (is_on s asked.take t) (s.net t asked.word) (queue s asked t)

-- in the cycle nothing is put into a full queue, and nothing is taken from an empty one, as it stands at the beginning of the cycle
pub record IsAllowed (s : Signals) (len : ℕ) (asked : Asked) (cycle : ℕ) : Type 0 where
  pub room : is_on s asked.put cycle ≡ true → length (queue s asked cycle) < len
  pub some : is_on s asked.take cycle ≡ true → 0 < length (queue s asked cycle)
