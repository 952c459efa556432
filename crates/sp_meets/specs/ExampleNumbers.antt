-- A worked index over a loop's counter and one of the access's own.
use Rattle.std.specs.Prelude.{ℕ, pos, List, [], ◌∷◌, Some, None}
use Rattle.sp_affine.specs.Affine.{Affine}
use Rattle.sp_deps.specs.declared.access.LoopRange.{LoopRange}
use Rattle.sp_deps.specs.Classes.{Loops}
use Rattle.sp_meets.specs.Steps.{loops_of}

-- a counter from 0 to n
abbrev pub up_to : ℕ → LoopRange
up_to n = record { from = Some (pos 0, pos n); by = 1; par = 1 }

-- the loop's counter goes up to 9
abbrev pub loops_up_to : ℕ → Loops
loops_up_to n = loops_of (up_to 9 ∷ []) (up_to n ∷ []) (up_to n ∷ [])

-- `i + k * j`
abbrev pub index_by : ℕ → List Affine
index_by k = record { coefs = pos 1 ∷ pos k ∷ []; constant = pos 0; symbol = None } ∷ []
