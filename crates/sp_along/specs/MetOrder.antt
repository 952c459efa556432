-- In a run the groups of each loop come one after the other.
use Rattle.std.specs.Prelude.{◌≡◌, ℕ, ◌≤◌, Bool, List, [], ◌∷◌}
use Rattle.std.specs.List.{All}
use Rattle.sp_core.specs.Events.{At, When, in_group_of, Standing, Moment, core_moments}
use Rattle.sp_core.specs.History.{History}
use Rattle.sp_core.specs.Meeting.{in_loop, together}
use Rattle.sp_core.specs.PlainCore.{PlainCore}
use Rattle.sp_core.specs.Scope.{Reading}
use Rattle.sp_along.specs.MetTraces.{Stands}

-- of two groups the second isn't the earlier one
abbrev pub IsNoEarlier : When → When → Type 0
IsNoEarlier (in_group_of g s) (in_group_of i r) = g ≤ i
IsNoEarlier when other = Unit {0}

-- so at each controller that is around both, in one group of those around it
abbrev pub AreInOrder : (path other : List At) → Type 0
AreInOrder (a ∷ p) (b ∷ q) = (a.node ≡ b.node → IsNoEarlier a.when b.when) × (a ≡ b → AreInOrder p q)
AreInOrder p q = Unit {0}

-- of each two of the list, the first one and then the second one
abbrev pub EachTwo : (Standing → Standing → Type 0) → List Moment → Type 0
EachTwo R [] = Unit {0}
EachTwo R (m ∷ ms) = Stands (λ s. All (Stands (R s)) ms) m × EachTwo R ms

abbrev pub RunsAreInOrder : PlainCore → Type 0
RunsAreInOrder core = (reading : Reading) (h : History) → EachTwo (λ s t. AreInOrder s.path t.path) (core_moments core reading h)

-- where two are together at a loop, the second stands in no earlier group
abbrev pub LaterGroupsFollow : PlainCore → Type 0
LaterGroupsFollow core = (p q : List At) (node g i : ℕ) → (one_stage : Bool) → AreInOrder p q → together core p q ≡ in_loop node g i one_stage → g ≤ i
