-- A worked load: its write acts at the event that writes its SRAM, and not at the one of the same number that reads the DRAM.
use Rattle.std.specs.Prelude.{◌≡◌, ℕ, ◌==◌, if◌then◌else◌, List, [], ◌∷◌, Some, None, codes}
use Rattle.sp_words.specs.declared.kind.Kind.TheVariants.{Sram}
use Rattle.sp_words.specs.Types.{int_type}
use Rattle.sp_netlist.specs.Signals.{Signals, idle}
use Rattle.sp_core.specs.declared.operation.OpKind.TheVariants.{Write}
use Rattle.sp_core.specs.Events.{Act, reads, writes, Event, touches}
use Rattle.sp_core.specs.ExampleForms.{mem_of, port, core}
use Rattle.sp_core.specs.ExampleTransfers.{whole}
use Rattle.sp_core.specs.PlainCore.{PlainCore, load}
use Rattle.sp_machine.specs.Stamps.{Stamped}
use Rattle.sp_memory_words.specs.Answers.{NamesCopies}
use Rattle.sp_access_nets.specs.declared.access.AccessNets.{AccessNets}
use Rattle.sp_stored_cores.specs.ArrayLoads.{LoadsInTime}

-- a core that loads its SRAM, memory 0, from its DRAM, which is memory 1; the load has number 2, behind the ends of its slice
abbrev pub loading_core : PlainCore
loading_core = core (mem_of (codes "t") Sram int_type (4 ∷ []) None ∷ []) (port (codes "a") (4 ∷ []) ∷ []) (load 0 0 (whole 4 ∷ []))

abbrev pub load_event : (mem : ℕ) → Act → Event
load_event m act = record { number = 2; standing = record { path = []; counters = [] }; mem = m; indices = 2 ∷ []; act = act }

-- element 2 of the DRAM is read in cycle 4, and its word 7 is written to the SRAM in cycle 5, in copy 1
abbrev pub loading_events : List Stamped
loading_events = record { cycle = 4; copy = 0; moment = touches (load_event 1 (reads 7)) } ∷ record { cycle = 5; copy = 1; moment = touches (load_event 0 (writes 7)) } ∷ []

-- net 1 is 1 in cycle 5 alone, net 3 is 2, net 5 is 1, and any other one 7
abbrev pub loading_net : (cycle net : ℕ) → ℕ
loading_net t net = if net == 1 then (if t == 5 then 1 else 0) else (if net == 3 then 2 else (if net == 5 then 1 else 7))

abbrev pub loading_signals : Signals
loading_signals = record { net = loading_net; bank = λ t b x. 0; dram = λ t d x. 0; phase = λ t c. idle; asked = λ t. 0 }

-- enabled by net 1, at the index on net 3, with the word on net 4, at the copy on net 5
pub record IsItsWrite (a : AccessNets) : Type 0 where
  pub number_is : a.number ≡ 2
  pub kind_is : a.kind ≡ Write
  pub mem_is : a.mem ≡ 0
  pub enable_is : a.enable ≡ 1
  pub operands_are : a.operands.items ≡ 3 ∷ 4 ∷ []
  pub copy_is : a.copy ≡ Some 5
  pub unanswered : a.answer ≡ None

pub record WorkedLoad : Type 0 where
  pub in_time : (a : AccessNets) (last : ℕ) → IsItsWrite a → LoadsInTime loading_core loading_signals loading_events last (a ∷ [])
  -- it doesn't name the copy of the event that reads the DRAM
  pub not_of_all : (a : AccessNets) → IsItsWrite a → NamesCopies loading_signals loading_events 4 2 a.copy → ⊥
