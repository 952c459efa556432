-- Laws of ways over FIFOs.
use Rattle.std.specs.Prelude.{◌≡◌, ◌↔◌, ℕ, true, List, length}
use Rattle.sp_core.specs.PlainCore.{PlainNode, PlainCore}
use Rattle.sp_stream.specs.Circles.{AreApart, IsCircle}
use Rattle.sp_stream.specs.Proper.{are_joined, is_forest}

-- two stages that some way joins are joined by one of at most as many steps as there are FIFOs
abbrev pub StepsSuffice : Type 0
StepsSuffice = (core : PlainCore) (nodes : List PlainNode) (fifos : List ℕ) (steps a b : ℕ) → are_joined core nodes fifos steps a b ≡ true → are_joined core nodes fifos (length fifos) a b ≡ true

-- FIFOs, each named once, make a forest exactly where no circle leads over some of them
abbrev pub ForestsHaveNoCircle : Type 0
ForestsHaveNoCircle = (core : PlainCore) (nodes : List PlainNode) (fifos : List ℕ) → AreApart fifos → (is_forest core nodes fifos ≡ true) ↔ ((first : ℕ) (others : List ℕ) (stage : ℕ) → IsCircle core nodes fifos first others stage → ⊥)
