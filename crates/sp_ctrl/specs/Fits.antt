-- When parts of control can be emitted.
use Rattle.std.specs.Prelude.{◌≢◌, ℕ, List, [], ◌∷◌}
use Rattle.sp_netlist.specs.declared.parts.Child.{Child}
use Rattle.sp_netlist.specs.Draft.{Draft}
use Rattle.sp_gates.specs.Nets.{HasNet, Awaits}
use Rattle.sp_ctrl.specs.declared.part.Part.{Part}
use Rattle.sp_ctrl.specs.declared.part.Part.TheVariants.{Fsm, Branch}

-- a child whose start is to be driven, and whose done stands
pub record IsChild (d : Draft) (child : Child) : Type 0 where
  pub start : Awaits d child.start 1
  pub done : HasNet d child.done 1

pub record BranchFits (d : Draft) (start : ℕ) (test : Child) (tested : ℕ) (chosen left : Child) : Type 0 where
  pub start_net : HasNet d start 1
  pub tested_net : HasNet d tested 1
  pub test_child : IsChild d test
  pub yes_child : IsChild d chosen
  pub no_child : IsChild d left
  pub yes_apart : chosen.start ≢ test.start
  pub no_apart : left.start ≢ test.start
  pub both_apart : left.start ≢ chosen.start

pub record FsmFits (d : Draft) (start : ℕ) (first test : Child) (tested : ℕ) (body next : Child) : Type 0 where
  pub start_net : HasNet d start 1
  pub tested_net : HasNet d tested 1
  pub first_child : IsChild d first
  pub test_child : IsChild d test
  pub body_child : IsChild d body
  pub next_child : IsChild d next
  pub test_apart : test.start ≢ first.start
  pub body_apart : body.start ≢ first.start
  pub body_test : body.start ≢ test.start
  pub next_apart : next.start ≢ first.start
  pub next_test : next.start ≢ test.start
  pub next_body : next.start ≢ body.start

abbrev pub PartFits : Draft → Part → Type 0
PartFits d (Fsm start first test tested body next) = FsmFits d start first test tested body next
PartFits d (Branch start test tested chosen left) = BranchFits d start test tested chosen left

-- the nets that a part drives
abbrev pub starts_of : Part → List ℕ
starts_of (Fsm start first test tested body next) = first.start ∷ test.start ∷ body.start ∷ next.start ∷ []
starts_of (Branch start test tested chosen left) = test.start ∷ chosen.start ∷ left.start ∷ []
