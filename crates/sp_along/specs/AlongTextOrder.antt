-- In one group of a loop, and in one turn of an FSM, things are done in the order of the text.
use Rattle.std.specs.Prelude.{◌≡◌, ℕ, ◌≤◌, List, [], ◌∷◌}
use Rattle.std.specs.List.{All}
use Rattle.sp_core.specs.Events.{Standing, Moment, core_moments}
use Rattle.sp_core.specs.History.{History}
use Rattle.sp_core.specs.Meeting.{Together, in_loop, in_one_turn, nowhere, together}
use Rattle.sp_core.specs.PlainCore.{PlainCore}
use Rattle.sp_core.specs.Scope.{Reading}
use Rattle.sp_along.specs.Along.{Named}

-- of each two, the first one and then the second one
abbrev pub EachPair : ((first : ℕ) → Standing → (second : ℕ) → Standing → Type 0) → List Moment → Type 0
EachPair R [] = Unit {0}
EachPair R (m ∷ ms) = Named (λ n s. All (Named (R n s)) ms) m × EachPair R ms

-- in one group, or in one turn
abbrev pub IsOneRound : Together → Type 0
IsOneRound (in_loop node g i one_stage) = g ≡ i
IsOneRound in_one_turn = Unit {0}
IsOneRound nowhere = ⊥

-- there the second one has no lesser number
abbrev pub RunsGoUp : PlainCore → Type 0
RunsGoUp core =
    (reading : Reading) (h : History) → EachPair (λ n s m t. IsOneRound (together core s.path t.path) → n ≤ m) (core_moments core reading h)
