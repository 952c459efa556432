-- The worked transfers.
use Rattle.std.specs.Prelude.{◌≡◌, ℕ, [], ◌∷◌}
use Rattle.sp_netlist.specs.Draft.{Draft}
use Rattle.sp_gates.specs.Nets.{HasNet}
use Rattle.sp_channels.specs.declared.ports.LoadPort.{LoadPort}
use Rattle.sp_channels.specs.declared.ports.StorePort.{StorePort}
use Rattle.sp_slices.specs.declared.part.Move.{Move}
use Rattle.sp_xfer.specs.declared.part.Load.{Load}
use Rattle.sp_xfer.specs.declared.part.Store.{Store}
use Rattle.sp_worked_parts.specs.declared.loading.Seen.{Seen as Loading}
use Rattle.sp_worked_parts.specs.declared.saving.Seen.{Seen as Saving}

-- a range of 24 words
pub record IsLoad (start : ℕ) (port : LoadPort) (from until : ℕ) (part : Load) : Type 0 where
  pub start_is : part.start ≡ start
  pub port_is : part.port ≡ port
  pub dims_are : part.dims.items ≡ 24 ∷ []
  pub moves_are : part.moves.items ≡ Move.Range from until ∷ []

pub record IsStore (start : ℕ) (port : StorePort) (from until found : ℕ) (part : Store) : Type 0 where
  pub start_is : part.start ≡ start
  pub port_is : part.port ≡ port
  pub dims_are : part.dims.items ≡ 24 ∷ []
  pub moves_are : part.moves.items ≡ Move.Range from until ∷ []
  pub found_is : part.found ≡ found
  pub width_is : part.width ≡ 32

-- the nets of both
pub record LoadSeen (d : Draft) (seen : Loading) : Type 0 where
  pub write_net : HasNet d seen.write 1
  pub index_net : HasNet d seen.index 32
  pub done_net : HasNet d seen.done 1

pub record StoreSeen (d : Draft) (seen : Saving) : Type 0 where
  pub read_net : HasNet d seen.read 1
  pub index_net : HasNet d seen.index 32
  pub done_net : HasNet d seen.done 1
