use Rattle.std.proofs.Common.{◌≡◌, ℕ, List, ◌++◌, length}
use Rattle.sp_listing.specs.Reading.{pieces}
use Rattle.sp_listing.specs.Standing.{AreDeclared}
use Rattle.sp_listing.proofs.declared_lines.DeclaredLines.of_text.Given as goal

abbrev pub invariant-loop-line : goal.invariant-loop-line
invariant-loop-line l = (before : List (List ℕ)) × (pieces l.text ≡ before ++ pieces l.left) × AreDeclared before l.declared

abbrev pub decreases-loop-line : goal.decreases-loop-line
decreases-loop-line l = length l.left
