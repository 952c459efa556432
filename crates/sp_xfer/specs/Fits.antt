-- When transfers can be emitted, and which nets they give.
use Rattle.std.specs.Prelude.{◌≡◌, ◌≢◌, ℕ, List, length, All}
use Rattle.sp_netlist.specs.Draft.{Draft}
use Rattle.sp_netlist.specs.Rules.{IsWidth}
use Rattle.sp_gates.specs.Nets.{HasNet}
use Rattle.sp_taps.specs.Wires.{IsWire}
use Rattle.sp_slices.specs.declared.part.Move.{Move}
use Rattle.sp_slices.specs.Fits.{MoveFits, IsWalk}
use Rattle.sp_xfer.specs.declared.part.Load.{Load}
use Rattle.sp_xfer.specs.declared.part.Loaded.{Loaded}
use Rattle.sp_xfer.specs.declared.part.Moving.{Moving}
use Rattle.sp_xfer.specs.declared.part.Wires.{Wires}
use Rattle.sp_xfer.specs.declared.part.Store.{Store}
use Rattle.sp_xfer.specs.declared.part.Stored.{Stored}
use Rattle.sp_xfer.specs.Moving.{wires_of}
use Rattle.sp_xfer.specs.Ahead.{store_wires_of}

-- three nets are to be driven
pub record WiresFit (d : Draft) (wires : Wires) : Type 0 where
  pub start : HasNet d wires.start 1
  pub ready : HasNet d wires.ready 1
  pub request : IsWire d wires.request 1
  pub last : IsWire d wires.last 1
  pub address : IsWire d wires.address 32
  pub request_last : wires.request ≢ wires.last
  pub request_address : wires.request ≢ wires.address
  pub last_address : wires.last ≢ wires.address

-- what is taken is told for each dimension
pub record SliceFits (d : Draft) (dims : List ℕ) (moves : List Move) : Type 0 where
  pub moves_fit : All (MoveFits d) moves
  pub each : length dims ≡ length moves

pub record LoadFits (d : Draft) (part : Load) : Type 0 where
  pub wires : WiresFit d (wires_of part)
  pub slice : SliceFits d part.dims.items part.moves.items

pub record IsMoving (d : Draft) (m : Moving) : Type 0 where
  pub walk : IsWalk d m.walk
  pub asks : HasNet d m.asks 1
  pub moved : HasNet d m.moved 1
  pub done : HasNet d m.done 1

pub record IsLoaded (d : Draft) (nets : Loaded) : Type 0 where
  pub moving : IsMoving d nets.moving
  pub write : HasNet d nets.write 1
  pub indices : All (λ net. HasNet d net 32) nets.indices.items

pub record StoreFits (d : Draft) (part : Store) : Type 0 where
  pub wires : WiresFit d (store_wires_of part)
  pub slice : SliceFits d part.dims.items part.moves.items
  pub width : IsWidth part.width
  pub word_wire : IsWire d part.port.word part.width
  pub request_word : part.port.request ≢ part.port.word
  pub last_word : part.port.last ≢ part.port.word
  pub address_word : part.port.address ≢ part.port.word
  pub found : HasNet d part.found part.width

pub record IsStored (d : Draft) (nets : Stored) : Type 0 where
  pub moving : IsMoving d nets.moving
  pub look : IsWalk d nets.look
  pub step : HasNet d nets.step 1
  pub read : HasNet d nets.read 1
  pub indices : All (λ net. HasNet d net 32) nets.indices.items
