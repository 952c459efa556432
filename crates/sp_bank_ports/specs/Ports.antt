-- What stands on the ports of a bank.
use Rattle.std.specs.Prelude.{◌≡◌, ℕ, suc, ◌<◌, true, ◌&&◌, ◌==◌, if◌then◌else◌, List}
use Rattle.sp_netlist.specs.Draft.{Draft}
use Rattle.sp_netlist.specs.Signals.{Signals}
use Rattle.sp_gates.specs.Nets.{HasNet}
use Rattle.sp_gates.specs.Tested.{is_on}
use Rattle.sp_access.specs.declared.access.Access.{Access}
use Rattle.sp_access.specs.Asking.{AccessFits, is_asked, last_place, last_word}
use Rattle.sp_taps.specs.declared.store.Store.{Store}
use Rattle.sp_taps.specs.Wires.{IsWire}
use Rattle.sp_bank_ports.specs.declared.port.WritePort.{WritePort}

pub record WriteFits (d : Draft) (width : ℕ) (port : WritePort) : Type 0 where
  pub access : AccessFits d port.access
  pub word : HasNet d port.word width

-- the access is on where one of the others is, at the place of the last one that is
pub record IsLast (s : Signals) (cycle : ℕ) (accesses : List Access) (port : Access) : Type 0 where
  pub on : is_on s port.on cycle ≡ is_asked s cycle accesses
  pub place : s.net cycle port.place ≡ last_place s cycle accesses 0

-- and its word is the last one's
pub record IsLastWrite (s : Signals) (cycle : ℕ) (accesses : List Access) (words : List ℕ) (port : WritePort) : Type 0 where
  pub access : IsLast s cycle accesses port.access
  pub word : s.net cycle port.word ≡ last_word s cycle accesses words 0

-- the nets of the port to read are to be driven
pub record ReadWires (d : Draft) (store : Store) : Type 0 where
  pub read : IsWire d store.read 1
  pub read_at : IsWire d store.read_at 32

-- the nets of a bank's ports have the words of those of the accesses
pub record WriteConnected (s : Signals) (cycle : ℕ) (store : Store) (port : WritePort) : Type 0 where
  pub write : s.net cycle store.write ≡ s.net cycle port.access.on
  pub write_at : s.net cycle store.write_at ≡ s.net cycle port.access.place
  pub word : s.net cycle store.word ≡ s.net cycle port.word

pub record ReadConnected (s : Signals) (cycle : ℕ) (store : Store) (port : Access) : Type 0 where
  pub read : s.net cycle store.read ≡ s.net cycle port.on
  pub read_at : s.net cycle store.read_at ≡ s.net cycle port.place

-- a bank is 0 in the beginning; from each cycle to the next the place that is written takes the word; and the word that is read stands in the next
-- cycle, the one from before a write of the same cycle
pub record RunsServed (s : Signals) (bank len : ℕ) (store : Store) (write : WritePort) (read : Access) : Type 0 where
  pub begins : (place : ℕ) → s.bank 0 bank place ≡ 0
  pub goes : (t place : ℕ) → place < len → s.bank (suc t) bank place ≡ (if is_on s write.access.on t && (s.net t write.access.place == place) then s.net t write.word else s.bank t bank place)
  pub finds : (t : ℕ) → is_on s read.on t ≡ true → s.net (suc t) store.found ≡ s.bank t bank (s.net t read.place)
