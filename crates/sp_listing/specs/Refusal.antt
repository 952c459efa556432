-- Why a text is refused.
use Rattle.std.specs.Prelude.{◌≡◌, ◌≢◌, ℕ, ◌≤◌, List, [], ◌∷◌, ◌++◌, map, count_by}
use Rattle.sp_netlist.specs.declared.error.NetError.{NetError}
use Rattle.sp_netlist.specs.declared.error.NetError.TheVariants as net
use Rattle.sp_netlist.specs.Cells.{PlainCell}
use Rattle.sp_netlist.specs.Rules.{is_done}
use Rattle.sp_netlist.specs.Refusals.{Refuses}
use Rattle.sp_listing.specs.declared.error.ListError.{ListError}
use Rattle.sp_listing.specs.declared.error.ListError.TheVariants.{NoListing, Net, Memory}
use Rattle.sp_listing.specs.Text.{cell_text}
use Rattle.sp_listing.specs.Reading.{pieces, heading, AllStand, BreaksAt, IsListing}

-- want of memory is one refusal
abbrev pub refusal_of : NetError → ListError
refusal_of net.Memory = Memory
refusal_of fault = Net fault

-- A text is refused at the first line that breaks a rule; or it is the listing of cells which are refused as a
-- netlist. Want of memory says nothing.
abbrev pub RefusesText : List ℕ → ListError → Type 0
RefusesText text (NoListing line) = BreaksAt (pieces text) line
RefusesText text (Net fault) = (cells : List PlainCell) × IsListing text cells × Refuses cells fault × (fault ≢ net.Memory)
RefusesText text Memory = Unit {0}

-- the lines are those of a listing of these cells, and why they are those of none
pub record AreLinesOf (lines : List (List ℕ)) (cells : List PlainCell) : Type 0 where
  pub same : lines ≡ heading ∷ (map cell_text cells ++ [] ∷ [])
  pub stand : AllStand lines cells
  pub done : 1 ≤ count_by is_done cells

abbrev pub RefusesLines : List (List ℕ) → ListError → Type 0
RefusesLines lines (NoListing line) = BreaksAt lines line
RefusesLines lines (Net fault) = ⊥
RefusesLines lines Memory = Unit {0}
