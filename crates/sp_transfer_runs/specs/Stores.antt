-- A store over all runs of its node, as a statement.
use Rattle.std.specs.Prelude.{◌≡◌, ℕ, suc, ◌+◌, ◌≤◌, List}
use Rattle.sp_netlist.specs.Signals.{Signals}
use Rattle.sp_gates.specs.Tested.{is_on}
use Rattle.sp_core.specs.Declarations.{dims, dram_number}
use Rattle.sp_core.specs.Elements.{row_major}
use Rattle.sp_core.specs.Events.{reads, writes}
use Rattle.sp_core.specs.Numbering.{spans_size}
use Rattle.sp_core.specs.PlainCore.{PlainSpan, store, PlainCore}
use Rattle.sp_plan.specs.PlainPlan.{PlainPlan}
use Rattle.sp_machine.specs.Stamps.{Stamped}
use Rattle.sp_machine.specs.Transfers.{Delays}
use Rattle.sp_part_runs.specs.BodiesRuns.{IsOnAt}
use Rattle.sp_part_runs.specs.ControlParts.{Ends}
use Rattle.sp_node_runs.specs.Runs.{Placed}
use Rattle.sp_node_runs.specs.RunsTold.{all_events}
use Rattle.sp_node_runs.specs.ControlLaws.{Does, IsStarted}
use Rattle.sp_node_runs.specs.ControlRuns.{rans}
use Rattle.sp_xfer.specs.declared.part.Store.{Store}
use Rattle.sp_xfer.specs.declared.part.Stored.{Stored}
use Rattle.sp_xfer.specs.Ahead.{RunsStore, store_wires_of}
use Rattle.sp_xfer.specs.Moving.{words_at}
use Rattle.sp_node_runs.specs.BodiesSpans.{SpanNets}
use Rattle.sp_transfer_runs.specs.Runs.{Moves, Asks, TellsWords, TransferRuns}
use Rattle.sp_transfer_runs.specs.Told.{DoesAt, Reads, Writes}
use Rattle.sp_transfer_runs.specs.Words.{moves_of}

-- up to a cycle each word that an event reads stands two cycles later on a net
abbrev pub AreFoundLater : Signals → (net : ℕ) → List Stamped → (last number : ℕ) → Type 0
AreFoundLater s net events last number = (t : ℕ) (is : List ℕ) (w : ℕ) → suc (suc t) ≤ last → DoesAt events number t is (reads w) → s.net (suc (suc t)) net ≡ w

-- up to a cycle an access reads in the cycles of the events that do and in no other, at their elements
pub record ReadsInTime (s : Signals) (events : List Stamped) (last number : ℕ) (enable : ℕ) (indices : List ℕ) : Type 0 where
  pub enabled : IsOnAt (is_on s enable) (Reads events number) last
  pub at : (t : ℕ) (is : List ℕ) (w : ℕ) → t ≤ last → DoesAt events number t is (reads w) → is ≡ words_at s t indices

-- up to a cycle a word goes to a DRAM in the cycles of the events that write there and in no other, to their places
pub record StoresInTime (s : Signals) (dims : List ℕ) (events : List Stamped) (last number : ℕ) (ready address word : ℕ) : Type 0 where
  pub enabled : IsOnAt (is_on s ready) (Writes events number) last
  pub at : (t : ℕ) (is : List ℕ) (w : ℕ) → t ≤ last → DoesAt events number t is (writes w) → s.net t address ≡ row_major dims is
  pub words : (t : ℕ) (is : List ℕ) (w : ℕ) → t ≤ last → DoesAt events number t is (writes w) → s.net t word ≡ w

module _ (core : PlainCore) (plan : PlainPlan) (delays : Delays) where
  -- it is done where its runs are over, asks for the slice of each that has a word, tells where its words are, and reads them on the
  -- chip at the events of the timeline; and its words go to the DRAM at those events, where those that were read are found
  pub record StoreGoes (s : Signals) (part : Store) (nets : Stored) (last k n r m : ℕ) (spans : List PlainSpan) (runs : List Placed) : Type 0 where
    pub ends : IsOnAt (is_on s nets.moving.done) (Ends (rans core plan delays (store r m spans) k n runs)) last
    pub asks : IsOnAt (is_on s part.port.request) (Asks delays k runs) last
    pub tells : TellsWords delays k s (store_wires_of part) (dims core (dram_number core r)) runs last
    pub looks : ReadsInTime s (all_events core plan delays (store r m spans) k n runs) last (n + spans_size spans) nets.read nets.indices.items
    pub acts : AreFoundLater s part.found (all_events core plan delays (store r m spans) k n runs) last (n + spans_size spans)
        → StoresInTime s (dims core (dram_number core r)) (all_events core plan delays (store r m spans) k n runs) last (n + spans_size spans) part.port.ready part.port.address part.port.word

  -- Where it is started in the cycles of its runs, and its channel is ready where their words move, up to a cycle, it goes so up to that
  -- cycle.
  abbrev pub StoresWork : Type 0
  StoresWork =
      (s : Signals) (part : Store) (nets : Stored) (spanned : List SpanNets) (last k n r m : ℕ) (spans : List PlainSpan) (runs : List Placed)
      → RunsStore s part nets → part.moves.items ≡ moves_of spanned → part.dims.items ≡ dims core (dram_number core r)
      → TransferRuns core plan delays s last (store r m spans) k n (dims core (dram_number core r)) spanned runs
      → IsOnAt (is_on s part.port.ready) (Moves delays k runs) last
      → (t : ℕ) → t ≤ last → IsStarted s part.start (rans core plan delays (store r m spans) k n runs) t → StoreGoes s part nets t k n r m spans runs

  -- so it does the runs of its node, as control asks
  abbrev pub StoresDo : Type 0
  StoresDo =
      (s : Signals) (part : Store) (nets : Stored) (spanned : List SpanNets) (last k n r m : ℕ) (spans : List PlainSpan) (runs : List Placed)
      → RunsStore s part nets → part.moves.items ≡ moves_of spanned → part.dims.items ≡ dims core (dram_number core r)
      → TransferRuns core plan delays s last (store r m spans) k n (dims core (dram_number core r)) spanned runs
      → IsOnAt (is_on s part.port.ready) (Moves delays k runs) last
      → Does s (record { start = part.start; done = nets.moving.done }) (rans core plan delays (store r m spans) k n runs) last
