-- A load or a store with its channel, over all runs of its node: what it does follows from where it is started, and from the words of its
-- DRAM, or those that it reads on the chip.
use Rattle.std.specs.Prelude.{◌≡◌, ℕ, ◌+◌, ◌≤◌, List}
use Rattle.std.specs.List.{Contains}
use Rattle.sp_netlist.specs.declared.parts.Child.{Child}
use Rattle.sp_netlist.specs.Cells.{PlainCell}
use Rattle.sp_netlist.specs.Signals.{Setting, Signals, Holds, RunsChannel}
use Rattle.sp_channel_runs.specs.Bursts.{taken}
use Rattle.sp_core.specs.Declarations.{dims, dram_number}
use Rattle.sp_core.specs.Numbering.{spans_size}
use Rattle.sp_core.specs.PlainCore.{PlainSpan, load, store, PlainCore}
use Rattle.sp_plan.specs.PlainPlan.{PlainPlan}
use Rattle.sp_machine.specs.Transfers.{Delays}
use Rattle.sp_node_runs.specs.Runs.{Placed, AreWithin}
use Rattle.sp_node_runs.specs.RunsTold.{all_events}
use Rattle.sp_node_runs.specs.ControlLaws.{IsStarted}
use Rattle.sp_node_runs.specs.ControlRuns.{rans}
use Rattle.sp_node_runs.specs.BodiesSpans.{SpanNets, HaveSpans}
use Rattle.sp_xfer.specs.declared.part.Load.{Load}
use Rattle.sp_xfer.specs.declared.part.Loaded.{Loaded}
use Rattle.sp_xfer.specs.declared.part.Store.{Store}
use Rattle.sp_xfer.specs.declared.part.Stored.{Stored}
use Rattle.sp_xfer.specs.Ahead.{RunsStore}
use Rattle.sp_xfer.specs.Moving.{RunsLoad}
use Rattle.sp_transfer_runs.specs.Channels.{AreTaken}
use Rattle.sp_transfer_runs.specs.Loads.{LoadGoes}
use Rattle.sp_transfer_runs.specs.Runs.{taken_in, DidSlice}
use Rattle.sp_transfer_runs.specs.Stores.{StoreGoes}
use Rattle.sp_transfer_runs.specs.Told.{AreFoundInDram}
use Rattle.sp_transfer_runs.specs.Words.{moves_of}

-- The circuit of a load, by the nets of its spans: its part, started and done by these nets; its channel, which stands after these cells
-- and takes these delays; and the word that its unit gets.
pub record HasLoad (core : PlainCore) (g : Setting) (s : Signals) (bound : ℕ) (took : ℕ → ℕ) (dram : ℕ) (spanned : List SpanNets) (c : Child) : Type 0 where
  pub part : Load
  pub nets : Loaded
  pub runs : RunsLoad s part nets
  pub starts : part.start ≡ c.start
  pub ends : nets.moving.done ≡ c.done
  pub moves : part.moves.items ≡ moves_of spanned
  pub dims_are : part.dims.items ≡ dims core (dram_number core dram)
  pub before : List PlainCell
  pub channel : ℕ
  pub channel_runs : RunsChannel g s before channel part.port.ready part.port.request part.port.last
  pub unit : Holds (λ t. s.net t part.port.word) 0 (λ t. s.net t part.port.ready) (λ t. s.dram t dram (s.net t part.port.address))
  pub takes : (i : ℕ) → took i ≡ taken g s before channel part.port.request part.port.last bound i

-- The circuit of a store, by the nets of its spans: its part, started and done by these nets, and its channel.
pub record HasStore (core : PlainCore) (g : Setting) (s : Signals) (bound : ℕ) (took : ℕ → ℕ) (dram : ℕ) (spanned : List SpanNets) (c : Child) : Type 0 where
  pub part : Store
  pub nets : Stored
  pub runs : RunsStore s part nets
  pub starts : part.start ≡ c.start
  pub ends : nets.moving.done ≡ c.done
  pub moves : part.moves.items ≡ moves_of spanned
  pub dims_are : part.dims.items ≡ dims core (dram_number core dram)
  pub before : List PlainCell
  pub channel : ℕ
  pub channel_runs : RunsChannel g s before channel part.port.ready part.port.request part.port.last
  pub takes : (i : ℕ) → took i ≡ taken g s before channel part.port.request part.port.last bound i

module _ (core : PlainCore) (plan : PlainPlan) (delays : Delays) where
  -- Runs of a load, one after the other, that each took a slice, with the delays that its channel took, found what they read in the DRAM.
  pub record LoadRuns (s : Signals) (took : ℕ → ℕ) (last k n r m : ℕ) (spans : List PlainSpan) (runs : List Placed) : Type 0 where
    pub from : ℕ
    pub until : ℕ
    pub in_turn : AreWithin core plan delays (load r m spans) k n from until runs
    pub did : (q : Placed) → Contains runs q → DidSlice (dims core (dram_number core r)) q.history
    pub delays_are : AreTaken delays k took 0 runs
    pub found : AreFoundInDram s r (dims core (dram_number core r)) (all_events core plan delays (load r m spans) k n runs) last (n + spans_size spans)

  -- Where it is started in the cycles of these runs and the nets of its spans stand there, up to a cycle, it goes as the timeline says up
  -- to that cycle. Nothing is asked of its channel but its equations.
  abbrev pub LoadsMove : Type 0
  LoadsMove =
      (g : Setting) (s : Signals) (bound last k n r m : ℕ) (took : ℕ → ℕ) (spans : List PlainSpan) (spanned : List SpanNets) (c : Child) (runs : List Placed)
      → (w : HasLoad core g s bound took r spanned c) → LoadRuns s took last k n r m spans runs → last ≤ bound
      → (t : ℕ) → t ≤ last → IsStarted s c.start (rans core plan delays (load r m spans) k n runs) t → ((q : Placed) → Contains runs q → q.cycle ≤ t → HaveSpans s q.cycle spanned (taken_in q.history))
      → LoadGoes core plan delays s w.part w.nets t k n r m spans runs

  -- runs of a store, one after the other, that each took a slice, with the delays that its channel took
  pub record StoreRuns (took : ℕ → ℕ) (k n r m : ℕ) (spans : List PlainSpan) (runs : List Placed) : Type 0 where
    pub from : ℕ
    pub until : ℕ
    pub in_turn : AreWithin core plan delays (store r m spans) k n from until runs
    pub did : (q : Placed) → Contains runs q → DidSlice (dims core (dram_number core r)) q.history
    pub delays_are : AreTaken delays k took 0 runs

  -- so does a store
  abbrev pub StoresMove : Type 0
  StoresMove =
      (g : Setting) (s : Signals) (bound k n r m : ℕ) (took : ℕ → ℕ) (spans : List PlainSpan) (spanned : List SpanNets) (c : Child) (runs : List Placed)
      → (w : HasStore core g s bound took r spanned c) → StoreRuns took k n r m spans runs
      → (t : ℕ) → t ≤ bound → IsStarted s c.start (rans core plan delays (store r m spans) k n runs) t → ((q : Placed) → Contains runs q → q.cycle ≤ t → HaveSpans s q.cycle spanned (taken_in q.history))
      → StoreGoes core plan delays s w.part w.nets t k n r m spans runs
