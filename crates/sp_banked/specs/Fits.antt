-- When a memory in banks can be emitted.
use Rattle.std.specs.Prelude.{◌≡◌, ℕ, ◌+◌, ◌*◌, ◌<◌, ◌≤◌, ◌^◌, List, length, All}
use Rattle.sp_words.specs.Types.{width_of}
use Rattle.sp_bank.specs.Places.{bank_length}
use Rattle.sp_netlist.specs.Draft.{Draft}
use Rattle.sp_gates.specs.Nets.{HasNet, Awaits}
use Rattle.sp_mem.specs.Fits.{AreApart}
use Rattle.sp_places.specs.Layouts.{IsLayout, banking_of}
use Rattle.sp_taps.specs.declared.store.Store.{Store}
use Rattle.sp_taps.specs.Wires.{AreInRows, AreWires}
use Rattle.sp_taps.specs.Stores.{AreStores}
use Rattle.sp_requests.specs.Requests.{TouchFits}
use Rattle.sp_banked.specs.declared.part.Banked.{Banked}

-- so many banks for each copy of each duplicate, and so many places in each
abbrev pub bank_count : Banked → ℕ
bank_count part = part.duplicates * (part.copies * part.layout.banks)

abbrev pub bank_size : Banked → ℕ
bank_size part = bank_length (banking_of part.layout) part.layout.dims.items

pub record IsShape (part : Banked) : Type 0 where
  pub layout : IsLayout part.layout
  pub copies : 1 ≤ part.copies
  pub duplicates : 1 ≤ part.duplicates
  pub few : bank_count part < 2 ^ 32
  pub numbers : part.bank + bank_count part < 2 ^ 64

-- the banks were added, and the nets of their ports are to be driven
pub record StoresFit (d : Draft) (part : Banked) (stores : List Store) : Type 0 where
  pub each : length stores ≡ bank_count part
  pub rows : (first : ℕ) × AreInRows first stores
  pub wires : All (AreWires d (width_of part.ty)) stores
  pub banks : AreStores d part.bank (width_of part.ty) (bank_size part) stores

pub record BankedFits (d : Draft) (part : Banked) : Type 0 where
  pub start : HasNet d part.start 1
  pub shape : IsShape part
  pub writes : All (TouchFits d part.layout) part.writes.items
  pub words : All (λ w. HasNet d w.word (width_of part.ty)) part.writes.items
  pub reads : All (TouchFits d part.layout) part.reads.items
  pub found : All (λ r. Awaits d r.word (width_of part.ty)) part.reads.items
  pub duplicates : All (λ r. r.duplicate < part.duplicates) part.reads.items
  pub apart : AreApart part.reads.items
