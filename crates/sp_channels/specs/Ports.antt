-- The nets of units: where they stand in the row of nets, and which are to be driven.
use Rattle.std.specs.Prelude.{◌≡◌, ℕ, ◌+◌, List, [], ◌∷◌}
use Rattle.sp_netlist.specs.Draft.{Draft}
use Rattle.sp_taps.specs.Wires.{IsWire}
use Rattle.sp_channels.specs.declared.ports.LoadPort.{LoadPort}
use Rattle.sp_channels.specs.declared.ports.StorePort.{StorePort}

-- the nets that are to be driven
abbrev pub load_wires : LoadPort → List ℕ
load_wires port = port.request ∷ port.last ∷ port.address ∷ []

abbrev pub store_wires : StorePort → List ℕ
store_wires port = port.request ∷ port.last ∷ port.address ∷ port.word ∷ []

-- the nets have five numbers in a row
pub record IsLoadRow (first : ℕ) (port : LoadPort) : Type 0 where
  pub request : port.request ≡ first
  pub last : port.last ≡ first + 1
  pub address : port.address ≡ first + 2
  pub ready : port.ready ≡ first + 3
  pub word : port.word ≡ first + 4

pub record IsStoreRow (first : ℕ) (port : StorePort) : Type 0 where
  pub request : port.request ≡ first
  pub last : port.last ≡ first + 1
  pub address : port.address ≡ first + 2
  pub word : port.word ≡ first + 3
  pub ready : port.ready ≡ first + 4

-- they have their widths, and no cell drives them yet
pub record AreLoadWires (d : Draft) (port : LoadPort) : Type 0 where
  pub request : IsWire d port.request 1
  pub last : IsWire d port.last 1
  pub address : IsWire d port.address 32

pub record AreStoreWires (d : Draft) (width : ℕ) (port : StorePort) : Type 0 where
  pub request : IsWire d port.request 1
  pub last : IsWire d port.last 1
  pub address : IsWire d port.address 32
  pub word : IsWire d port.word width
