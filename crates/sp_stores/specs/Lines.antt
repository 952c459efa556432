-- Banks and the requests that their ports serve. The banks of one duplicate are its lines: those of copy 0, then those of copy 1, and so on.
use Rattle.std.specs.Prelude.{ℕ, ◌+◌, ◌/◌, ◌%◌, ◌<◌, ◌==◌, List, map, filter, length, slice_index_or}
use Rattle.std.specs.List.{AllZip}
use Rattle.sp_netlist.specs.Draft.{Draft}
use Rattle.sp_netlist.specs.Signals.{Signals}
use Rattle.sp_gates.specs.Runs.{RunsOn}
use Rattle.sp_access.specs.declared.access.Access.{Access}
use Rattle.sp_taps.specs.declared.store.Store.{Store}
use Rattle.sp_bank_ports.specs.declared.port.WritePort.{WritePort}
use Rattle.sp_bank_ports.specs.Ports.{IsLast, IsLastWrite, RunsServed}
use Rattle.sp_requests.specs.declared.part.Request.{Request}
use Rattle.sp_requests.specs.Requests.{Asks}

abbrev pub of_duplicate : (duplicate : ℕ) → List Request → List Request
of_duplicate n rs = filter (λ r. r.duplicate == n) rs

-- the port serves the last of the requests that are for this bank of this copy
pub record ServesWrites (s : Signals) (cycle copy bank : ℕ) (writes : List Request) (port : WritePort) : Type 0 where
  pub accesses : List Access
  pub asks : AllZip (Asks s cycle copy bank) writes accesses
  pub last : IsLastWrite s cycle accesses (map (λ r. r.word) writes) port

pub record ServesReads (s : Signals) (cycle copy bank : ℕ) (reads : List Request) (port : Access) : Type 0 where
  pub accesses : List Access
  pub asks : AllZip (Asks s cycle copy bank) reads accesses
  pub last : IsLast s cycle accesses port

abbrev pub IsWriteLine : Draft → (copy bank : ℕ) → List Request → WritePort → Type 0
IsWriteLine d copy bank writes port = (s : Signals) → RunsOn s d.cells → (t : ℕ) → ServesWrites s t copy bank writes port

abbrev pub IsReadLine : Draft → (copy bank : ℕ) → List Request → Access → Type 0
IsReadLine d copy bank reads port = (s : Signals) → RunsOn s d.cells → (t : ℕ) → ServesReads s t copy bank reads port

-- the ports to write of so many banks of each copy
abbrev pub AreWriteLines : Draft → (banks : ℕ) → (writes : List Request) → List WritePort → Type 0
AreWriteLines d banks writes ports = (i : ℕ) (other : WritePort) → i < length ports → IsWriteLine d (i / banks) (i % banks) writes (slice_index_or ports i other)

-- a bank whose ports serve requests for it
pub record RunsLine (s : Signals) (number len : ℕ) (store : Store) (copy bank : ℕ) (writes reads : List Request) : Type 0 where
  pub write : WritePort
  pub read : Access
  pub served : RunsServed s number len store write read
  pub writes_served : (t : ℕ) → ServesWrites s t copy bank writes write
  pub reads_served : (t : ℕ) → ServesReads s t copy bank reads read

-- so does each bank of a row, with so many lines a duplicate and so many banks a copy
abbrev pub RunLines : Signals → (first len : ℕ) → List Store → (lines banks : ℕ) → (writes reads : List Request) → Type 0
RunLines s first len stores lines banks writes reads = (j : ℕ) (other : Store) → j < length stores
    → RunsLine s (first + j) len (slice_index_or stores j other) (j % lines / banks) (j % lines % banks) writes (of_duplicate (j / lines) reads)
