-- The writes of loads over the timeline of a run: each is one more access of its SRAM, which acts up to a cycle at the events of its load.
use Rattle.std.specs.Prelude.{◌≡◌, ℕ, ◌<◌, List, [], length, None}
use Rattle.std.specs.List.{Contains}
use Rattle.sp_words.specs.declared.kind.Kind.TheVariants.{Sram}
use Rattle.sp_netlist.specs.Signals.{Signals}
use Rattle.sp_core.specs.declared.operation.OpKind.TheVariants.{Write}
use Rattle.sp_core.specs.Declarations.{kind_of}
use Rattle.sp_core.specs.Events.{writes, Event}
use Rattle.sp_core.specs.PlainCore.{PlainCore}
use Rattle.sp_core.specs.Transfers.{loaded_at}
use Rattle.sp_machine.specs.Stamps.{Stamped}
use Rattle.sp_part_runs.specs.ActsEntries.{index_words, word_that_changes}
use Rattle.sp_node_runs.specs.BodiesTold.{Happens, SomeHappens}
use Rattle.sp_transfer_runs.specs.Told.{WritesInTime}
use Rattle.sp_tree_events.specs.PartsAgreeing.{Agree}
use Rattle.sp_tree_events.specs.ToldItems.{transfer, NodeHas}
use Rattle.sp_memory_words.specs.Answers.{NamesCopies}
use Rattle.sp_bank_words.specs.Accesses.{writes_in}
use Rattle.sp_access_nets.specs.declared.access.AccessNets.{AccessNets}
use Rattle.sp_tree_nets.specs.Emitted.{HasNoTransfer}

-- the write of a transfer that fills an SRAM: it has the word behind the indices, and is not to be answered
pub record IsLoading (core : PlainCore) (a : AccessNets) : Type 0 where
  pub dram : ℕ
  pub stands : NodeHas core.root 0 a.number (transfer dram a.mem)
  pub sram : kind_of core a.mem ≡ Sram
  pub kind_is : a.kind ≡ Write
  pub some : 0 < length a.operands.items
  pub unanswered : a.answer ≡ None

-- Each transfer that writes to an SRAM has such an access. Of the events of its number, of which some are of the DRAM, up to a cycle it
-- acts in the cycles of those that write the SRAM, and in no other, and names their copies.
pub record LoadsInTime (core : PlainCore) (s : Signals) (events : List Stamped) (last : ℕ) (loading : List AccessNets) : Type 0 where
  pub is_loading : (a : AccessNets) → Contains loading a → IsLoading core a
  pub all_loads : (m n dram t : ℕ) → kind_of core m ≡ Sram → NodeHas core.root 0 n (transfer dram m) → SomeHappens (writes_in m events) n t → (a : AccessNets) × Contains loading a × (a.number ≡ n) × (a.mem ≡ m)
  pub act : (a : AccessNets) → Contains loading a
      → WritesInTime s (writes_in a.mem events) last a.number (loaded_at core (kind_of core a.mem) a.mem) a.enable (index_words Write a.operands.items) (word_that_changes Write a.operands.items)
  pub named : (a : AccessNets) → Contains loading a → NamesCopies s (writes_in a.mem events) last a.number a.copy

-- in a core without transfers nothing is loaded
abbrev pub NothingIsLoaded : PlainCore → Type 0
NothingIsLoaded core = HasNoTransfer core.root → (s : Signals) (events : List Stamped) (last : ℕ) → LoadsInTime core s events last []

-- What writes in time by the events of a load's own runs does so by those of the whole that write its memory: where at the load's number the
-- ones are like the others, and all that is written at that number is written to the memory.
abbrev pub LoadsWriteInWhole : Type 0
LoadsWriteInWhole =
    (s : Signals) (whole part : List Stamped) (last number m : ℕ) (place : List ℕ → List ℕ) (enable : ℕ) (indices : List ℕ) (word : ℕ) → Agree whole part number
    → ((t w : ℕ) (e : Event) → Happens whole number t e → e.act ≡ writes w → e.mem ≡ m)
    → WritesInTime s part last number place enable indices word → WritesInTime s (writes_in m whole) last number place enable indices word
