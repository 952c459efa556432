-- What stores and loads do by the events of their own runs, among the events of the whole, as statements.
use Rattle.std.specs.Prelude.{◌≡◌, ℕ, List}
use Rattle.sp_netlist.specs.Signals.{Signals}
use Rattle.sp_core.specs.Events.{reads, writes, Event}
use Rattle.sp_machine.specs.Stamps.{Stamped}
use Rattle.sp_node_runs.specs.BodiesTold.{Happens}
use Rattle.sp_transfer_runs.specs.Stores.{StoresInTime}
use Rattle.sp_transfer_runs.specs.Told.{AreFoundInDram}
use Rattle.sp_tree_events.specs.PartsAgreeing.{Agree}
use Rattle.sp_bank_words.specs.Accesses.{reads_in, writes_in}

-- What stores in time by the events of a store's own runs does so by those of the whole that write its DRAM: where at the store's number
-- the ones are like the others, and all that is written at that number is written to the DRAM.
abbrev pub StoresWriteInWhole : Type 0
StoresWriteInWhole =
    (s : Signals) (whole part : List Stamped) (last number m : ℕ) (dims : List ℕ) (ready address word : ℕ) → Agree whole part number
    → ((t w : ℕ) (e : Event) → Happens whole number t e → e.act ≡ writes w → e.mem ≡ m)
    → StoresInTime s dims part last number ready address word → StoresInTime s dims (writes_in m whole) last number ready address word

-- What the events of the whole that read a DRAM find there, those of a load's own runs do, where all that is read at its number is read
-- of the DRAM.
abbrev pub LoadsFindInPart : Type 0
LoadsFindInPart =
    (s : Signals) (whole part : List Stamped) (last number m dram : ℕ) (dims : List ℕ) → Agree whole part number
    → ((t w : ℕ) (e : Event) → Happens whole number t e → e.act ≡ reads w → e.mem ≡ m)
    → AreFoundInDram s dram dims (reads_in m whole) last number → AreFoundInDram s dram dims part last number
