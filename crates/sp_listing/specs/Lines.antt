-- How the cells so far, and the lines that are left, stand to the text.
use Rattle.std.specs.Prelude.{◌≡◌, ◌≢◌, ℕ, ◌+◌, ◌≤◌, List, [], ◌∷◌, ◌++◌, Bool, true, false, length, map, count_by}
use Rattle.sp_netlist.specs.Cells.{PlainCell, plain_cells}
use Rattle.sp_netlist.specs.Rules.{is_done}
use Rattle.sp_listing.specs.declared.reading.Reading.{Reading}
use Rattle.sp_listing.specs.declared.declared_lines.DeclaredLines.{DeclaredLines}
use Rattle.sp_listing.specs.declared.error.ListError.{ListError}
use Rattle.sp_listing.specs.declared.error.ListError.TheVariants.{NoListing, Net, Memory}
use Rattle.sp_listing.specs.Text.{cell_text}
use Rattle.sp_listing.specs.Reading.{MayStand, AllStand, StopsAt}
use Rattle.sp_listing.specs.Standing.{AreCounts, AreNames, AreDeclared}

-- the cells that were read
abbrev pub cells_of : Reading → List PlainCell
cells_of reading = plain_cells reading.cells.items

-- what is kept beside the cells is theirs
pub record IsSound (reading : Reading) : Type 0 where
  pub counts : AreCounts (cells_of reading) reading.counts
  pub names : AreNames (cells_of reading) reading.names

-- the reading has one more cell
pub record Gained (old : Reading) (cell : PlainCell) (new : Reading) : Type 0 where
  pub cells : cells_of new ≡ cells_of old ++ cell ∷ []
  pub sound : IsSound new

-- what a reading does with a line: it takes it, or it is as it was and no cell that may stand has that line
abbrev pub Takes : Reading → DeclaredLines → List ℕ → Bool → Reading → Type 0
Takes old declared line true new =
    (cell : PlainCell) × (line ≡ cell_text cell) × Gained old cell new × ((lines : List (List ℕ)) → AreDeclared lines declared → MayStand lines (cells_of old) cell)
Takes old declared line false new =
    (new ≡ old) × ((lines : List (List ℕ)) → AreDeclared lines declared → (cell : PlainCell) → MayStand lines (cells_of old) cell → line ≢ cell_text cell)

-- the cells of a reading may stand one after the other
abbrev pub MayAllStand : DeclaredLines → Reading → Type 0
MayAllStand declared reading = (lines : List (List ℕ)) → AreDeclared lines declared → AllStand lines (cells_of reading)

-- what it does with the pieces of a text, from no cells on: it takes all lines before what is left at the end,
abbrev pub TakesAll : DeclaredLines → List (List ℕ) → List ℕ → Reading → Type 0
TakesAll declared lines left new = (lines ≡ map cell_text (cells_of new) ++ left ∷ []) × MayAllStand declared new

-- or those before a line that it doesn't take and that isn't the last piece
abbrev pub Stops : DeclaredLines → List (List ℕ) → Reading → Type 0
Stops declared lines new =
    (line : List ℕ) × (rest : List (List ℕ)) × (lines ≡ map cell_text (cells_of new) ++ line ∷ rest) × (1 ≤ length rest) × MayAllStand declared new
    × ((all : List (List ℕ)) → AreDeclared all declared → (cell : PlainCell) → MayStand all (cells_of new) cell → line ≢ cell_text cell)

-- where a text breaks a rule whose lines were all taken but the last piece, which has no line end
abbrev pub EndsAt : DeclaredLines → List PlainCell → List ℕ → ℕ → Type 0
EndsAt declared cells last number =
    (more : List PlainCell) × (rest : List (List ℕ)) × (last ∷ [] ≡ map cell_text more ++ rest) × (number ≡ length (cells ++ more) + 2)
    × ((lines : List (List ℕ)) → AreDeclared lines declared → AllStand lines cells → AllStand lines (cells ++ more) × StopsAt lines (cells ++ more) rest)

-- what is read of the pieces after the heading
abbrev pub ReadsBody : DeclaredLines → List (List ℕ) → List PlainCell → Type 0
ReadsBody declared lines cells =
    (lines ≡ map cell_text cells ++ [] ∷ []) × (1 ≤ count_by is_done cells) × ((all : List (List ℕ)) → AreDeclared all declared → AllStand all cells)

abbrev pub RefusesBody : DeclaredLines → List (List ℕ) → ListError → Type 0
RefusesBody declared lines (NoListing number) =
    (cells : List PlainCell) × (rest : List (List ℕ)) × (lines ≡ map cell_text cells ++ rest) × (number ≡ length cells + 2)
    × ((all : List (List ℕ)) → AreDeclared all declared → AllStand all cells × StopsAt all cells rest)
RefusesBody declared lines (Net e) = ⊥
RefusesBody declared lines Memory = Unit {0}
