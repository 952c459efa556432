-- What accesses to a memory in banks ask for.
use Rattle.std.specs.Prelude.{◌≡◌, ℕ, Bool, ◌&&◌, ◌==◌, length, All}
use Rattle.sp_netlist.specs.Draft.{Draft}
use Rattle.sp_netlist.specs.Signals.{Signals}
use Rattle.sp_gates.specs.Nets.{HasNet}
use Rattle.sp_gates.specs.Runs.{RunsOn}
use Rattle.sp_gates.specs.Tested.{is_on}
use Rattle.sp_access.specs.declared.access.Access.{Access}
use Rattle.sp_mem.specs.declared.part.Touch.{Touch}
use Rattle.sp_mem.specs.Copies.{copy_at}
use Rattle.sp_mem.specs.Fits.{CopyFits}
use Rattle.sp_places.specs.declared.layout.Layout.{Layout}
use Rattle.sp_places.specs.declared.layout.Spot.{Spot}
use Rattle.sp_places.specs.Layouts.{IsSpot}
use Rattle.sp_requests.specs.declared.part.Request.{Request}

-- an access with an index for each dimension
pub record TouchFits (d : Draft) (l : Layout) (touch : Touch) : Type 0 where
  pub enable : HasNet d touch.enable 1
  pub copy : CopyFits d touch.copy
  pub rank : length touch.index.items ≡ length l.dims.items
  pub index : All (λ net. HasNet d net 32) touch.index.items

pub record RequestFits (d : Draft) (r : Request) : Type 0 where
  pub enable : HasNet d r.enable 1
  pub copy : HasNet d r.copy 32
  pub bank : HasNet d r.bank 32
  pub place : HasNet d r.place 32

abbrev pub spot_of : Request → Spot
spot_of r = record { bank = r.bank; place = r.place }

-- the request is that of an access
pub record IsRequest (d : Draft) (l : Layout) (touch : Touch) (r : Request) : Type 0 where
  pub fits : RequestFits d r
  pub enable : r.enable ≡ touch.enable
  pub word : r.word ≡ touch.word
  pub duplicate : r.duplicate ≡ touch.duplicate
  pub copy : (s : Signals) → RunsOn s d.cells → (t : ℕ) → s.net t r.copy ≡ copy_at s t touch.copy
  pub spot : IsSpot d l touch.index.items (spot_of r)

-- whether a request is enabled in a cycle, for this bank of this copy
abbrev pub is_for : Signals → (cycle copy bank : ℕ) → Request → Bool
is_for s t copy bank r = is_on s r.enable t && ((s.net t r.copy == copy) && (s.net t r.bank == bank))

-- the access is on where the request is for the bank, at its place
pub record Asks (s : Signals) (cycle copy bank : ℕ) (r : Request) (a : Access) : Type 0 where
  pub on : is_on s a.on cycle ≡ is_for s cycle copy bank r
  pub place : a.place ≡ r.place
