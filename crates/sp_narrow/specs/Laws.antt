-- Laws of cores whose loads and stores each have one lane, as statements.
use Rattle.std.specs.Prelude.{◌≡◌, ℕ, ◌≤◌}
use Rattle.sp_words.specs.Ports.{PlainInput}
use Rattle.sp_core.specs.History.{History}
use Rattle.sp_core.specs.Invariant.{IsCore}
use Rattle.sp_core.specs.Latency.{limit}
use Rattle.sp_core.specs.Meaning.{run_core}
use Rattle.sp_core.specs.PlainCore.{PlainCore}
use Rattle.sp_core.specs.Scope.{Reading}
use Rattle.sp_core.specs.Shape.{shape_of}
use Rattle.sp_core.specs.Step.{went}
use Rattle.sp_core.specs.Store.{Store}
use Rattle.sp_within.specs.Rounds.{rounds}
use Rattle.sp_overlap.specs.Whole.{IsTimed, IsByLane}
use Rattle.sp_narrow.specs.Narrow.{narrow}

-- it does the same in each run, to the same memories
abbrev pub NarrowRunsAlike : PlainCore → Type 0
NarrowRunsAlike core = (reading : Reading) (n : ℕ) (input : PlainInput) → run_core reading n (narrow core) input ≡ run_core reading n core input

-- it is a core
abbrev pub NarrowStaysCore : PlainCore → Type 0
NarrowStaysCore core = IsCore core → IsCore (narrow core)

-- what its loops own is used lane by lane, if it was
abbrev pub NarrowStaysByLane : PlainCore → Type 0
NarrowStaysByLane core = IsByLane core core.root → IsByLane (narrow core) (narrow core).root

-- each of its runs goes around no oftener
abbrev pub NarrowGoesNoOftener : PlainCore → Type 0
NarrowGoesNoOftener core =
    IsCore core → (reading : Reading) (n : ℕ) (input : PlainInput) (h : History) (t : Store) → run_core reading n core input ≡ went h t
    → rounds (narrow core).root (shape_of (narrow core).root h) ≤ rounds core.root (shape_of core.root h)

-- its limit is no greater
abbrev pub NarrowHasLessLimit : PlainCore → Type 0
NarrowHasLessLimit core = IsCore core → (n delay : ℕ) → limit n delay (narrow core) ≤ limit n delay core

-- a core without `Stream` blocks, gathers, scatters and wide transfers is narrow as it is
abbrev pub TimedIsNarrow : PlainCore → Type 0
TimedIsNarrow core = IsTimed core.root → narrow core ≡ core
