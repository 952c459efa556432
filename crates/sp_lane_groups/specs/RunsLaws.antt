-- Laws of runs of lanes, as statements.
use Rattle.std.specs.Prelude.{◌≡◌, ℕ, true, false, List, [], ◌∷◌, ◌++◌, length, Option, None}
use Rattle.sp_core.specs.Around.{Around}
use Rattle.sp_core.specs.History.{Entry}
use Rattle.sp_core.specs.OperationRules.{is_access, are_operations_right_after}
use Rattle.sp_core.specs.Operations.{operations_after}
use Rattle.sp_core.specs.PlainCore.{PlainOp, PlainCore}
use Rattle.sp_core.specs.Scope.{Scope}
use Rattle.sp_core.specs.Step.{went}
use Rattle.sp_core.specs.Store.{Store}
use Rattle.sp_core.specs.Typed.{Given}
use Rattle.sp_lanes.specs.Bodies.{lane_body}
use Rattle.sp_lanes.specs.Within.{Within}

-- each access names a memory, as the rules of cores have it
abbrev pub AreNamed : List PlainOp → Type 0
AreNamed [] = Unit {0}
AreNamed (op ∷ ops) = (op.mem ≡ None → is_access op.kind ≡ false) × AreNamed ops

-- so do the operations of a list that is right
abbrev pub NameMemories : PlainCore → Type 0
NameMemories core = (around : Around) (earlier : Given) (ops : List PlainOp) → are_operations_right_after core around earlier ops ≡ true → AreNamed ops

-- in a lane that has no iteration in a group the operations of its body go on, and change nothing
abbrev pub MaskedLaneRests : PlainCore → Type 0
MaskedLaneRests lanes =
    (scope : Scope) (counter l at : ℕ) (in_lane : ℕ → Within) (body : List PlainOp) (others : List (Option ℕ)) (done : List Entry) (s : Store)
    → AreNamed body → at ≡ length done → (scope counter).live l ≡ false
    → (es : List Entry) × (operations_after lanes scope done (lane_body counter in_lane body l at others).ops s ≡ went (done ++ es) s)
