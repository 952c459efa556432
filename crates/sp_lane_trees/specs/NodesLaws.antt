-- Laws of branches and FSMs in lanes, as statements.
use Rattle.std.specs.Prelude.{ℕ, List, [], ◌∷◌, ◌++◌}
use Rattle.sp_core.specs.Around.{Around, within}
use Rattle.sp_core.specs.Invariant.{IsCore, owned_in}
use Rattle.sp_core.specs.NodeRules.{with_state}
use Rattle.sp_core.specs.PlainCore.{PlainOp, PlainNode, fsm, branch, PlainCore}
use Rattle.sp_lanes.specs.Order.{memory_order}
use Rattle.sp_lanes.specs.Within.{Within, owning}
use Rattle.sp_lane_rules.specs.Copies.{OwnsInLanes}
use Rattle.sp_lane_groups.specs.InnersAlong.{GoesAlong, StandsIn}

-- where a branch stands, so do both of its parts
abbrev pub BranchesStand : PlainCore → Type 0
BranchesStand core =
    (around inside : Around) (earlier : List ℕ) (w : Within) (test : List PlainOp) (first second : PlainNode) → StandsIn core around inside earlier w (branch test first second)
    → StandsIn core around inside earlier w first × StandsIn core around inside (earlier ++ owned_in first) w second

-- and it goes along where they do
abbrev pub BranchesGo : PlainCore → Type 0
BranchesGo core =
    IsCore core → OwnsInLanes core.root → (turns : ℕ) (around inside : Around) (earlier : List ℕ) (w : Within) (test : List PlainOp) (first second : PlainNode) → StandsIn core around inside earlier w (branch test first second)
    → GoesAlong core turns around w first → GoesAlong core turns around w second → GoesAlong core turns around w (branch test first second)

-- where an FSM stands, so does its body, with the state
abbrev pub FsmsStand : PlainCore → Type 0
FsmsStand core =
    (around inside : Around) (earlier : List ℕ) (w : Within) (start : List PlainOp) (state : ℕ) (test : List PlainOp) (body : PlainNode) (next : List PlainOp) → StandsIn core around inside earlier w (fsm start state test body next)
    → let there : Within = owning (memory_order core) (state ∷ []) w in
    StandsIn core (with_state core around state) (within inside [] (there.number state ∷ [])) (earlier ++ state ∷ []) there body

-- and it goes along where its body does
abbrev pub FsmsGo : PlainCore → Type 0
FsmsGo core =
    IsCore core → OwnsInLanes core.root → (turns : ℕ) (around inside : Around) (earlier : List ℕ) (w : Within) (start : List PlainOp) (state : ℕ) (test : List PlainOp) (body : PlainNode) (next : List PlainOp)
    → StandsIn core around inside earlier w (fsm start state test body next) → GoesAlong core turns (with_state core around state) (owning (memory_order core) (state ∷ []) w) body
    → GoesAlong core turns around w (fsm start state test body next)
