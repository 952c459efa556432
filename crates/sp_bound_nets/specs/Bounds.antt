-- The counters of a circuit with the nets of their bounds, for those of a core.
use Rattle.std.specs.Prelude.{◌≡◌, ℕ, ◌+◌, true, List, [], ◌∷◌, ◌++◌, map, length}
use Rattle.std.specs.List.{list_all}
use Rattle.sp_netlist.specs.Draft.{Draft}
use Rattle.sp_netlist.specs.Signals.{Signals}
use Rattle.sp_gates.specs.Runs.{RunsOn}
use Rattle.sp_core.specs.Around.{Around, Near}
use Rattle.sp_core.specs.OperationRules.{is_counter_right}
use Rattle.sp_core.specs.PlainCore.{PlainOp, PlainCounter, PlainCore}
use Rattle.sp_counters.specs.declared.part.Count.{Count}
use Rattle.sp_counters.specs.Fits.{CountFits}
use Rattle.sp_plan.specs.PlainPlan.{PlainPlan}
use Rattle.sp_node_runs.specs.BodiesGiven.{Nets}
use Rattle.sp_op_nets.specs.declared.acted.ActedList.{ActedList}
use Rattle.sp_op_nets.specs.declared.table.AroundNets.{AroundNets}
use Rattle.sp_op_nets.specs.Acted.{answers_in}
use Rattle.sp_op_nets.specs.Reserved.{Reserves}
use Rattle.sp_op_nets.specs.Table.{nets_at, StandAround}
use Rattle.sp_tree_circuits.specs.Parts.{BoundCircuits}
use Rattle.sp_bound_nets.specs.declared.bounds.Bounds.{Bounds}
use Rattle.sp_bound_nets.specs.Direct.{AreActedLists, IsAlwaysActed}

-- the lists of counters: of each its first bound, and then the other one
abbrev pub bound_lists : List PlainCounter → List (List PlainOp)
bound_lists [] = []
bound_lists (c ∷ counters) = c.from ∷ c.until ∷ bound_lists counters

-- some core has the counters right, and those around them stand in the table
pub record AreCountersRight (d : Draft) (table : List AroundNets) (counters : List PlainCounter) : Type 0 where
  pub core : PlainCore
  pub around : Around
  pub right : list_all (is_counter_right core around) counters ≡ true
  pub stand : StandAround d table around.counters

-- how many iterations of each counter one group takes
abbrev pub pars_of : List Count → List ℕ
pars_of counts = map (λ (n : Count). n.par) counts

abbrev pub own_pars : List PlainCounter → List ℕ
own_pars counters = map (λ (c : PlainCounter). c.par) counters

module _ (core : PlainCore) (plan : PlainPlan) (s : Signals) (near : List Near) (env : Nets) (d : Draft) where
  -- the operations that are handed on are those of the nets: of each counter its first bound, then the other one, by their numbers
  abbrev pub BoundsActed : (n : ℕ) (counters : List PlainCounter) (counts : List Count) → BoundCircuits core plan s near env d counters counts → List ActedList → Type 0
  BoundsActed n [] [] w acted = acted ≡ []
  BoundsActed n (c ∷ counters) (count ∷ counts) w (a ∷ b ∷ acted) =
      IsAlwaysActed d n w.0.from.ps a × IsAlwaysActed d (n + length c.from) w.0.until.ps b × BoundsActed (n + (length c.from + length c.until)) counters counts w.1 acted
  BoundsActed n (c ∷ counters) (count ∷ counts) w (a ∷ []) = ⊥
  BoundsActed n (c ∷ counters) (count ∷ counts) w [] = ⊥
  BoundsActed n [] (count ∷ counts) w acted = ⊥
  BoundsActed n (c ∷ counters) [] w acted = ⊥

  pub record BoundsIn (n : ℕ) (counters : List PlainCounter) (counts : List Count) (acted : List ActedList) : Type 0 where
    pub circuits : BoundCircuits core plan s near env d counters counts
    pub acts : BoundsActed n counters counts circuits acted

-- so it is in each run of what the draft became, for each core that has the counters right where those around them stood
abbrev pub AreBounds : (old new : Draft) → List AroundNets → (number : ℕ) → List PlainCounter → List Count → List ActedList → Type 0
AreBounds old new table number counters counts acted =
    (core : PlainCore) (plan : PlainPlan) (around : Around) → list_all (is_counter_right core around) counters ≡ true → StandAround old table around.counters
    → (s : Signals) → RunsOn s new.cells → BoundsIn core plan s around.counters (nets_at table) new number counters counts acted

-- a counter comes behind others, with the operations of its bounds
pub record AddsBound (old new : Draft) (table : List AroundNets) (number : ℕ) (c : PlainCounter) (before after : Bounds) : Type 0 where
  pub count : Count
  pub acted : List ActedList
  pub counts_are : after.counts.items ≡ before.counts.items ++ count ∷ []
  pub acted_are : after.acted.items ≡ before.acted.items ++ acted
  pub par : count.par ≡ c.par
  pub fits : CountFits new count
  pub reserves : Reserves old new (answers_in acted)
  pub lists : AreActedLists new number (bound_lists (c ∷ [])) acted
  pub bounds : AreBounds old new table number (c ∷ []) (count ∷ []) acted
