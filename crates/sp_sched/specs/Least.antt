-- The least plan of an inner body: the least latency, for it the least interval, and for both the least times; or its
-- operations one after the other.
use Rattle.std.specs.Prelude.{◌≡◌, ℕ, ◌+◌, max, Bool, true, false, ◌⊎◌, IsTrue, List, length, Option, Some, None}
use Rattle.sp_bank.specs.Banking.{Banking}
use Rattle.sp_core.specs.declared.access.Meet.{Meet}
use Rattle.sp_core.specs.Numbering.{counters_size}
use Rattle.sp_core.specs.PlainCore.{PlainOp, PlainNode, inner, PlainCore}
use Rattle.sp_modulo.specs.Times.{Obey, in_group, end_of, IsSchedule}
use Rattle.sp_plan.specs.Bodies.{latencies, are_in_turn}
use Rattle.sp_plan.specs.Nodes.{Site, site_at}
use Rattle.sp_plan.specs.Orders.{body_orders}
use Rattle.sp_plan.specs.PlainPlan.{PlainNodePlan, inner_plan, other_plan}

-- operations one after the other, and a group when the last one is over
pub record IsInTurn (core : PlainCore) (ops : List PlainOp) (times : List ℕ) (ii latency : ℕ) : Type 0 where
  pub in_turn : IsTrue (are_in_turn core 0 ops times)
  pub over : end_of (latencies core ops) times ≡ latency
  pub interval : ii ≡ max 1 latency

abbrev pub IsInTurnBy : PlainCore → List PlainOp → (serial : Bool) → (times : List ℕ) → (ii latency : ℕ) → Type 0
IsInTurnBy core ops true times ii latency = IsInTurn core ops times ii latency
IsInTurnBy core ops false times ii latency = ⊥

abbrev pub IsPlanInTurn : PlainCore → List PlainOp → PlainNodePlan → Type 0
IsPlanInTurn core ops (inner_plan times ii latency serial) = IsInTurnBy core ops serial times ii latency
IsPlanInTurn core ops _ = ⊥

module _ (core : PlainCore) (schemes : List (Option Banking)) (meets : List Meet) where
  module _ (number : ℕ) (streamed : Bool) (ops : List PlainOp) where
    -- no times keep the orders within one group
    abbrev pub HaveNone : Type 0
    HaveNone = (times : List ℕ) → ¬ Obey (length ops) (in_group (body_orders core ops schemes number meets)) 0 times

    pub record IsPipelined (times : List ℕ) (ii latency : ℕ) : Type 0 where
      pub alone : streamed ≡ false
      pub over : end_of (latencies core ops) times ≡ latency
      pub least : IsSchedule (latencies core ops) (body_orders core ops schemes number meets) latency ii times

    abbrev pub IsLeastBy : (serial : Bool) → (times : List ℕ) → (ii latency : ℕ) → Type 0
    IsLeastBy true times ii latency = ((streamed ≡ true) ⊎ HaveNone) × IsInTurn core ops times ii latency
    IsLeastBy false times ii latency = IsPipelined times ii latency

    abbrev pub IsLeastBody : PlainNodePlan → Type 0
    IsLeastBody (inner_plan times ii latency serial) = IsLeastBy serial times ii latency
    IsLeastBody _ = ⊥

  -- of a node that is no inner body nothing is planned
  abbrev pub IsLeastOf : Site → PlainNode → PlainNodePlan → Type 0
  IsLeastOf site (inner counters owned ops comb) plan = IsLeastBody (site.number + counters_size counters) site.streamed ops plan
  IsLeastOf site node plan = plan ≡ other_plan

  abbrev pub IsLeastAt : Option Site → PlainNodePlan → Type 0
  IsLeastAt (Some site) plan = IsLeastOf site site.node plan
  IsLeastAt None plan = plan ≡ other_plan

  -- of the node of a number
  abbrev pub IsLeastPlan : (node : ℕ) → PlainNodePlan → Type 0
  IsLeastPlan k plan = IsLeastAt (site_at k 0 false core.root) plan
