-- Laws of queues in a bank.
use Rattle.std.specs.Prelude.{◌≡◌, ℕ, suc, ◌+◌, ◌<◌, ◌≤◌, true, length, slice_index}
use Rattle.sp_netlist.specs.Signals.{Signals}
use Rattle.sp_gates.specs.Tested.{is_on}
use Rattle.sp_taps.specs.declared.store.Store.{Store}
use Rattle.sp_ring.specs.declared.part.Asked.{Asked}
use Rattle.sp_ring.specs.declared.part.Ring.{Ring}
use Rattle.sp_ring.specs.Places.{wrapped}
use Rattle.sp_ring.specs.Rings.{RunsRing, queue, IsAllowed}

-- the bank holds the queue in a cycle: from the head on, and no further than there are places
pub record HoldsQueue (s : Signals) (bank len : ℕ) (asked : Asked) (ring : Ring) (cycle : ℕ) : Type 0 where
  pub fits : length (queue s asked cycle) ≤ len
  pub ends : s.net cycle ring.tail ≡ wrapped len (s.net cycle ring.head + length (queue s asked cycle))
  pub words : (i : ℕ) → i < length (queue s asked cycle) → s.bank cycle bank (wrapped len (s.net cycle ring.head + i)) ≡ slice_index (queue s asked cycle) i

pub record RingLaws : Type 0 where
  pub holds : (s : Signals) (bank len : ℕ) (store : Store) (asked : Asked) (ring : Ring) → RunsRing s bank len store asked ring
      → (t : ℕ) → ((u : ℕ) → u < t → IsAllowed s len asked u) → HoldsQueue s bank len asked ring t
  -- the first word is found in the cycle after it is taken
  pub takes : (s : Signals) (bank len : ℕ) (store : Store) (asked : Asked) (ring : Ring) → RunsRing s bank len store asked ring
      → (t : ℕ) → ((u : ℕ) → u < suc t → IsAllowed s len asked u) → is_on s asked.take t ≡ true → s.net (suc t) store.found ≡ slice_index (queue s asked t) 0
