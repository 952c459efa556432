-- What is known of a net of a draft.
use Rattle.std.specs.Prelude.{◌≡◌, ℕ, ◌<◌, length, Some}
use Rattle.sp_netlist.specs.Draft.{Draft, IsReady, IsKept, promised_width, driver_count}

-- the net has this width, and its word stands before any cell that is added next
pub record HasNet (d : Draft) (net width : ℕ) : Type 0 where
  pub wide : promised_width d net ≡ Some width
  pub ready : IsReady d net

-- the net was promised, and no cell drives it yet
pub record IsOpen (d : Draft) (net : ℕ) : Type 0 where
  pub within : net < length d.promised
  pub undriven : driver_count d.cells net ≡ 0

-- a kept net that is still to be driven: cells that are added before it is driven may read it
pub record Awaits (d : Draft) (net width : ℕ) : Type 0 where
  pub wide : promised_width d net ≡ Some width
  pub kept : IsKept d net
  pub undriven : driver_count d.cells net ≡ 0
