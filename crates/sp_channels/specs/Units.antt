-- What units do over time, in each run of each netlist that begins with a draft's cells.
use Rattle.std.specs.Prelude.{◌≡◌, ℕ, List, ◌∷◌, ◌++◌}
use Rattle.sp_netlist.specs.Cells.{PlainCell, store_unit}
use Rattle.sp_netlist.specs.Signals.{Setting, Signals, IsRun, RunsChannel, Holds}
use Rattle.sp_netlist.specs.Draft.{Draft}
use Rattle.sp_gates.specs.Nets.{HasNet}
use Rattle.sp_channels.specs.declared.ports.LoadPort.{LoadPort}
use Rattle.sp_channels.specs.declared.ports.StorePort.{StorePort}

-- The channel runs by its request and last nets. A word of the DRAM that moves stands on `word` from the next cycle on.
pub record RunsLoadUnit (g : Setting) (s : Signals) (before : List PlainCell) (channel dram : ℕ) (port : LoadPort) : Type 0 where
  pub channel_runs : RunsChannel g s before channel port.ready port.request port.last
  pub moves : Holds (λ t. s.net t port.word) 0 (λ t. s.net t port.ready) (λ t. s.dram t dram (s.net t port.address))

-- `before` are the cells whose channels take their delays first
pub record IsLoadUnit (d : Draft) (channel dram width : ℕ) (port : LoadPort) : Type 0 where
  pub ready : HasNet d port.ready 1
  pub word : HasNet d port.word width
  pub before : List PlainCell
  pub runs : (g : Setting) (s : Signals) (rest : List PlainCell) → IsRun g s → g.cells ≡ d.cells ++ rest → RunsLoadUnit g s before channel dram port

-- the cell stands in the draft, so each word that moves goes to the DRAM, as netlists say
pub record IsStoreUnit (d : Draft) (channel dram : ℕ) (port : StorePort) : Type 0 where
  pub ready : HasNet d port.ready 1
  pub before : List PlainCell
  pub after : List PlainCell
  pub stands : d.cells ≡ before ++ store_unit channel dram port.ready port.request port.last port.address port.word ∷ after
  pub runs : (g : Setting) (s : Signals) (rest : List PlainCell) → IsRun g s → g.cells ≡ d.cells ++ rest → RunsChannel g s before channel port.ready port.request port.last
