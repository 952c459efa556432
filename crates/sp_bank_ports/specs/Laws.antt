-- Laws of banks whose ports are shared.
use Rattle.std.specs.Prelude.{◌≡◌, ℕ, suc, ◌<◌, true, List, length, All}
use Rattle.sp_netlist.specs.Signals.{Signals}
use Rattle.sp_gates.specs.Tested.{is_on}
use Rattle.sp_access.specs.declared.access.Access.{Access}
use Rattle.sp_access.specs.Asking.{put, Agree}
use Rattle.sp_taps.specs.declared.store.Store.{Store}
use Rattle.sp_bank_ports.specs.declared.port.WritePort.{WritePort}
use Rattle.sp_bank_ports.specs.Ports.{IsLast, IsLastWrite, RunsServed}

pub record ServedLaws : Type 0 where
  -- a place has the word of the last write to it
  pub writes : (s : Signals) (bank len : ℕ) (store : Store) (write : WritePort) (read : Access) → RunsServed s bank len store write read
      → (t : ℕ) (es : List Access) (words : List ℕ) → IsLastWrite s t es words write → length words ≡ length es → Agree s t es
      → (place : ℕ) → place < len → s.bank (suc t) bank place ≡ put s t es words place (s.bank t bank place)
  -- each access that reads finds the word of its place
  pub reads : (s : Signals) (bank len : ℕ) (store : Store) (write : WritePort) (read : Access) → RunsServed s bank len store write read
      → (t : ℕ) (es : List Access) → IsLast s t es read → Agree s t es
      → All (λ a. is_on s a.on t ≡ true → s.net (suc t) store.found ≡ s.bank t bank (s.net t a.place)) es
