-- The reads of stores over the timeline of a run: each is one more access of its SRAM, which acts up to a cycle at those events of its store
-- that read the SRAM, and is answered as a read of an operation is.
use Rattle.std.specs.Prelude.{◌≡◌, ℕ, ◌+◌, ◌≤◌, List, [], Some}
use Rattle.std.specs.List.{Contains}
use Rattle.sp_words.specs.declared.kind.Kind.TheVariants.{Sram}
use Rattle.sp_netlist.specs.Signals.{Signals}
use Rattle.sp_gates.specs.Tested.{is_on}
use Rattle.sp_core.specs.declared.operation.OpKind.TheVariants.{Read}
use Rattle.sp_core.specs.Declarations.{kind_of}
use Rattle.sp_core.specs.Events.{reads, Event}
use Rattle.sp_core.specs.Latency.{read_latency}
use Rattle.sp_core.specs.PlainCore.{PlainCore}
use Rattle.sp_machine.specs.Stamps.{Stamped}
use Rattle.sp_circuit_ops.specs.declared.ops.WordNet.{WordNet}
use Rattle.sp_part_runs.specs.BodiesRuns.{IsOnAt}
use Rattle.sp_node_runs.specs.BodiesTold.{Happens, SomeHappens}
use Rattle.sp_xfer.specs.Moving.{words_at}
use Rattle.sp_transfer_runs.specs.Told.{DoesAt, Reads}
use Rattle.sp_tree_events.specs.PartsAgreeing.{Agree}
use Rattle.sp_tree_events.specs.ToldItems.{transfer, NodeHas}
use Rattle.sp_memory_words.specs.Answers.{IsAnswered, NamesCopies}
use Rattle.sp_bank_words.specs.Accesses.{reads_in}
use Rattle.sp_access_nets.specs.declared.access.AccessNets.{AccessNets}
use Rattle.sp_tree_nets.specs.Emitted.{HasNoTransfer}

-- Up to a cycle an access reads in the cycles of the events that do and in no other, and its nets have the event's element. A store reads the
-- element that is so far into each of its ranges, and an index of each stands on a net.
pub record ReadsInTime (s : Signals) (events : List Stamped) (last number : ℕ) (enable : ℕ) (indices : List ℕ) : Type 0 where
  pub enabled : IsOnAt (is_on s enable) (Reads events number) last
  pub at : (t : ℕ) (is : List ℕ) (w : ℕ) → t ≤ last → DoesAt events number t is (reads w) → is ≡ words_at s t indices

-- the read of a transfer that takes its words from an SRAM: it has the nets of its indices, and is to be answered as late as the SRAM answers
pub record IsStoring (core : PlainCore) (a : AccessNets) : Type 0 where
  pub dram : ℕ
  pub stands : NodeHas core.root 0 a.number (transfer dram a.mem)
  pub sram : kind_of core a.mem ≡ Sram
  pub kind_is : a.kind ≡ Read
  pub word : WordNet
  pub answer : a.answer ≡ Some word
  pub after : word.after ≡ read_latency (kind_of core a.mem)

-- Each transfer that reads an SRAM has such an access. Of the events of its number, of which some are of the DRAM, up to a cycle it acts in the
-- cycles of those that read the SRAM, and in no other, and names their copies.
pub record StoresReadInTime (core : PlainCore) (s : Signals) (events : List Stamped) (last : ℕ) (storing : List AccessNets) : Type 0 where
  pub is_storing : (a : AccessNets) → Contains storing a → IsStoring core a
  pub all_stores : (m n dram t : ℕ) → kind_of core m ≡ Sram → NodeHas core.root 0 n (transfer dram m) → SomeHappens (reads_in m events) n t → (a : AccessNets) × Contains storing a × (a.number ≡ n) × (a.mem ≡ m)
  pub act : (a : AccessNets) → Contains storing a → ReadsInTime s (reads_in a.mem events) last a.number a.enable a.operands.items
  pub named : (a : AccessNets) → Contains storing a → NamesCopies s (reads_in a.mem events) last a.number a.copy

-- in a core without transfers no store reads
abbrev pub NothingIsStored : PlainCore → Type 0
NothingIsStored core = HasNoTransfer core.root → (s : Signals) (events : List Stamped) (last : ℕ) → StoresReadInTime core s events last []

-- all that is read at a number is read from the memory
abbrev pub ReadsStay : List Stamped → (number mem : ℕ) → Type 0
ReadsStay events number m = (t w : ℕ) (e : Event) → Happens events number t e → e.act ≡ reads w → e.mem ≡ m

-- What reads in time by the events of a store's own runs does so by those of the whole that read its memory: where at the store's number the
-- ones are like the others, and all that is read at that number is read from the memory.
abbrev pub StoresReadInWhole : Type 0
StoresReadInWhole =
    (s : Signals) (whole part : List Stamped) (last number m : ℕ) (enable : ℕ) (indices : List ℕ) → Agree whole part number → ReadsStay whole number m
    → ReadsInTime s part last number enable indices → ReadsInTime s (reads_in m whole) last number enable indices

-- and what is answered by those of the whole is answered by the events of its own runs
abbrev pub StoresAreAnswered : Type 0
StoresAreAnswered =
    (s : Signals) (whole part : List Stamped) (last number m after net : ℕ) → Agree whole part number → ReadsStay whole number m → IsAnswered s (reads_in m whole) last number Read after net
    → (t : ℕ) (is : List ℕ) (w : ℕ) → t + after ≤ last → DoesAt part number t is (reads w) → s.net (t + after) net ≡ w
