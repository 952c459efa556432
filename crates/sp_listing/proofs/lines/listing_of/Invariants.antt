use Rattle.std.proofs.Common.{◌≡◌, take, string_bytes}
use Rattle.sp_netlist.specs.Cells.{plain_cells}
use Rattle.sp_listing.specs.Text.{listing_text}
use Rattle.sp_listing.proofs.lines.listing_of.Given as goal

-- the listing of the cells so far
abbrev pub invariant-loop-cell : goal.invariant-loop-cell
invariant-loop-cell l = string_bytes l.text ≡ listing_text (plain_cells (take l.cell-index l.cells))
