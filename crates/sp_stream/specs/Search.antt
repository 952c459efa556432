-- The ways between two stages on which no step leads back to the stage before. They join the same stages as all ways do,
-- and in a forest there is one at most from a stage to each other one.
use Rattle.std.specs.Prelude.{ℕ, zero, suc, ◌==◌, Bool, ◌&&◌, ◌||◌, not, List, Option, Some}
use Rattle.std.specs.List.{list_any}
use Rattle.sp_core.specs.PlainCore.{PlainNode, PlainCore}
use Rattle.sp_stream.specs.Proper.{is_number, leads_on, across}

-- the next step doesn't lead back, and the way goes on from there
abbrev pub steps_on : (before : Option ℕ) → (goes : ℕ → Bool) → ℕ → Bool
steps_on before goes c = not (is_number c before) && goes c

module _ (core : PlainCore) (nodes : List PlainNode) (fifos : List ℕ) where
  abbrev pub is_found : (steps : ℕ) → (before : Option ℕ) → (a b : ℕ) → Bool
  is_found zero before a b = a == b
  is_found (suc n) before a b = (a == b) || list_any (λ m. leads_on (steps_on before (λ c. is_found n (Some a) c b)) (across core nodes m a)) fifos
