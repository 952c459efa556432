-- What private functions of `simulate` know of each other.
use Rattle.std.specs.Prelude.{◌≢◌, ℕ, List}
use Rattle.sp_netlist.specs.Cells.{PlainCell}
use Rattle.sp_netlist.specs.Rules.{IsNetlist}
use Rattle.sp_netlist.specs.Refusals.{IsWithinLimits}
use Rattle.sp_listing.specs.declared.error.ListError.{ListError}
use Rattle.sp_listing.specs.declared.error.ListError.TheVariants as list
use Rattle.sp_listing.specs.Reading.{IsListing}
use Rattle.sp_listing.specs.Refusal.{RefusesText}
use Rattle.sp_top.specs.Status.{PlainStatus, memory, listing_refused}

-- want of memory is a status of its own
abbrev pub list_status : ListError → PlainStatus
list_status (list.NoListing line) = listing_refused (list.NoListing line)
list_status (list.Net error) = listing_refused (list.Net error)
list_status list.Memory = memory

-- the bytes are the listing of this netlist, which is within the limits
pub record ListsNetlist (bytes : List ℕ) (cells : List PlainCell) : Type 0 where
  pub lists : IsListing bytes cells
  pub netlist : IsNetlist cells
  pub within : IsWithinLimits cells

-- why they are that of none
abbrev pub ListsNone : List ℕ → PlainStatus → Type 0
ListsNone bytes (listing_refused error) = RefusesText bytes error × (error ≢ list.Memory)
ListsNone bytes memory = Unit {0}
ListsNone bytes status = ⊥
