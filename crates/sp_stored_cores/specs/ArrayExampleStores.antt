-- A worked store: its read acts at the event that reads its SRAM, and not at the one of the same number that writes the DRAM.
use Rattle.std.specs.Prelude.{◌≡◌, ℕ, ◌==◌, ◌||◌, if◌then◌else◌, List, [], ◌∷◌, Some, None, codes}
use Rattle.sp_words.specs.declared.kind.Kind.TheVariants.{Sram}
use Rattle.sp_words.specs.declared.kind.Style.TheVariants.{Pipe}
use Rattle.sp_words.specs.Types.{int_type}
use Rattle.sp_netlist.specs.Signals.{Signals, idle}
use Rattle.sp_core.specs.declared.operation.OpKind.TheVariants.{Read}
use Rattle.sp_core.specs.Events.{Act, reads, writes, Event, touches}
use Rattle.sp_core.specs.ExampleForms.{lit, read, stages, mem_of, port, core}
use Rattle.sp_core.specs.ExampleTransfers.{whole}
use Rattle.sp_core.specs.PlainCore.{PlainCore, inner, outer, store}
use Rattle.sp_plan.specs.PlainPlan.{PlainPlan, mem_plan}
use Rattle.sp_machine.specs.Stamps.{Stamped}
use Rattle.sp_core_ports.specs.UsedReaders.{duplicate_at}
use Rattle.sp_circuit_ops.specs.declared.ops.WordNet.{WordNet}
use Rattle.sp_memory_words.specs.Answers.{IsAnswered, NamesCopies}
use Rattle.sp_bank_words.specs.Accesses.{reads_in}
use Rattle.sp_access_nets.specs.declared.access.AccessNets.{AccessNets}
use Rattle.sp_stored_cores.specs.ArrayStores.{ReadsInTime, StoresReadInTime}

-- a core that stores its SRAM, memory 0, in its DRAM, which is memory 1; the store has number 2, behind the ends of its slice
abbrev pub storing_core : PlainCore
storing_core = core (mem_of (codes "t") Sram int_type (4 ∷ []) None ∷ []) (port (codes "c") (4 ∷ []) ∷ []) (store 0 0 (whole 4 ∷ []))

-- one in which an inner body reads the SRAM before the store does, which has number 4
abbrev pub reading_core : PlainCore
reading_core = core (mem_of (codes "t") Sram int_type (4 ∷ []) None ∷ []) (port (codes "c") (4 ∷ []) ∷ []) (outer [] Pipe [] (stages (inner [] [] (lit 0 ∷ read 0 (0 ∷ []) ∷ []) None ∷ store 0 0 (whole 4 ∷ []) ∷ [])))

abbrev pub store_event : (mem : ℕ) → Act → Event
store_event m act = record { number = 2; standing = record { path = []; counters = [] }; mem = m; indices = 2 ∷ []; act = act }

-- element 2 of the SRAM is read in cycle 4, in copy 1, and its word 7 is written to the DRAM in cycle 6
abbrev pub storing_events : List Stamped
storing_events = record { cycle = 4; copy = 1; moment = touches (store_event 0 (reads 7)) } ∷ record { cycle = 6; copy = 0; moment = touches (store_event 1 (writes 7)) } ∷ []

-- net 1 is 1 in cycle 4 alone, net 2 in cycle 6, too, net 3 is 2, net 5 is 1, and any other one is 7 in cycle 6 alone
abbrev pub storing_net : (cycle net : ℕ) → ℕ
storing_net t net = if net == 1 then (if t == 4 then 1 else 0) else (if net == 2 then (if t == 4 || t == 6 then 1 else 0) else (if net == 3 then 2 else (if net == 5 then 1 else (if t == 6 then 7 else 0))))

abbrev pub storing_signals : Signals
storing_signals = record { net = storing_net; bank = λ t b x. 0; dram = λ t d x. 0; phase = λ t c. idle; asked = λ t. 0 }

-- enabled by net 1, at the index on net 3 and the copy on net 5, and answered two cycles later on net 4
pub record IsItsRead (a : AccessNets) : Type 0 where
  pub number_is : a.number ≡ 2
  pub kind_is : a.kind ≡ Read
  pub mem_is : a.mem ≡ 0
  pub enable_is : a.enable ≡ 1
  pub operands_are : a.operands.items ≡ 3 ∷ []
  pub copy_is : a.copy ≡ Some 5
  pub word : WordNet
  pub answer_is : a.answer ≡ Some word
  pub net_is : word.net ≡ 4
  pub after_is : word.after ≡ 2

pub record WorkedStore : Type 0 where
  pub in_time : (a : AccessNets) (last : ℕ) → IsItsRead a → StoresReadInTime storing_core storing_signals storing_events last (a ∷ [])
  -- the net has the word of the event then
  pub answered : (last : ℕ) → IsAnswered storing_signals (reads_in 0 storing_events) last 2 Read 2 4
  -- it doesn't name the copy of the event that writes the DRAM, and isn't to be enabled there
  pub not_of_all : (a : AccessNets) → IsItsRead a → NamesCopies storing_signals storing_events 6 2 a.copy → ⊥
  pub not_longer : ReadsInTime storing_signals (reads_in 0 storing_events) 6 2 2 (3 ∷ []) → ⊥
  -- where the plan has a duplicate for each, the body reads the first one, and the store the second one
  pub own_duplicate : (plan : PlainPlan) → (mem_plan plan 0).duplicates ≡ 2 → (duplicate_at reading_core plan 0 1 ≡ 0) × (duplicate_at reading_core plan 0 4 ≡ 1)
