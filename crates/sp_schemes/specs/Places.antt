-- Where the forms of each operation of a core stand among those of all accesses.
use Rattle.std.specs.Prelude.{ℕ, ◌+◌, Bool, true, false, List, [], ◌∷◌, map, if◌then◌else◌}
use Rattle.sp_core.specs.Numbered.{Numbered, plain, accesses, transfers, numbers}
use Rattle.sp_core.specs.PlainCore.{PlainCore}

-- accesses and transfers have forms
abbrev pub has_forms : Numbered → Bool
has_forms plain = false
has_forms accesses = true
has_forms (transfers ranges) = true

abbrev pub marks : List Numbered → List Bool
marks numbers = map has_forms numbers

-- for each number how many stand before it, and how many there are
abbrev pub counts_from : (count : ℕ) → List Bool → List ℕ
counts_from count [] = count ∷ []
counts_from count (b ∷ rest) = count ∷ counts_from (if b then count + 1 else count) rest

abbrev pub places_of : PlainCore → List ℕ
places_of core = counts_from 0 (marks (numbers core.root))
