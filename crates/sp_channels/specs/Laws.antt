-- A law of channels, as a statement.
use Rattle.std.specs.Prelude.{ℕ}
use Rattle.sp_netlist.specs.Draft.{Draft}
use Rattle.sp_gates.specs.Grows.{Grows}
use Rattle.sp_channels.specs.declared.ports.LoadPort.{LoadPort}
use Rattle.sp_channels.specs.declared.ports.StorePort.{StorePort}
use Rattle.sp_channels.specs.Units.{IsLoadUnit, IsStoreUnit}

pub record ChannelLaws : Type 0 where
  pub load_stays : (old new : Draft) (channel dram width : ℕ) (port : LoadPort) → Grows old new → IsLoadUnit old channel dram width port → IsLoadUnit new channel dram width port
  pub store_stays : (old new : Draft) (channel dram : ℕ) (port : StorePort) → Grows old new → IsStoreUnit old channel dram port → IsStoreUnit new channel dram port
