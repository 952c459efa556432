-- The counters of a body, with their bounds, and what is inside of them.
use Rattle.std.specs.Prelude.{◌≡◌, ℕ, true, List}
use Rattle.std.specs.List.{list_all}
use Rattle.sp_netlist.specs.Draft.{Draft}
use Rattle.sp_netlist.specs.Signals.{Signals}
use Rattle.sp_gates.specs.Runs.{RunsOn}
use Rattle.sp_core.specs.Around.{Around, Near, lanes_of}
use Rattle.sp_core.specs.OperationRules.{is_counter_right}
use Rattle.sp_core.specs.PlainCore.{PlainCounter, PlainCore}
use Rattle.sp_counters.specs.declared.part.Counters.{Counters}
use Rattle.sp_counters.specs.declared.part.Counted.{Counted}
use Rattle.sp_counters.specs.Counting.{CountsGroups}
use Rattle.sp_counters.specs.Counting as counting
use Rattle.sp_node_runs.specs.BodiesGiven.{values_of}
use Rattle.sp_op_nets.specs.declared.table.AroundNets.{AroundNets}
use Rattle.sp_op_nets.specs.Table.{nets_at, StandAround}
use Rattle.sp_plan.specs.PlainPlan.{PlainPlan}
use Rattle.sp_around_tables.specs.Inside.{IsInside}
use Rattle.sp_bound_nets.specs.Bounds.{BoundsIn}
use Rattle.sp_inner_circuits.specs.declared.counting.Counting.{Counting}

-- in a run the counters take their bounds at the start, and go on by the net that is reserved
pub record CountingIn (core : PlainCore) (plan : PlainPlan) (s : Signals) (near : List Near) (table : List AroundNets) (number : ℕ) (counters : List PlainCounter) (start : ℕ) (c : Counting) : Type 0 where
  pub part : Counters
  pub nets : Counted
  pub draft : Draft
  pub started : part.start ≡ start
  pub stepped : part.step ≡ c.groups.step
  pub more : nets.more ≡ c.groups.more
  pub counts : CountsGroups s part nets
  pub lanes : lanes_of counters ≡ counting.lanes_of part.counters.items
  pub runs_on : RunsOn s draft.cells
  pub bounds : BoundsIn core plan s near (nets_at table) draft number counters part.counters.items c.acted.items
  pub inside : IsInside counters table (values_of nets.counters.items) nets.masks.items c.inside.items

-- so they do in each run of what the draft became, whatever stands around them by which a core has them right
abbrev pub IsCounting : (old new : Draft) → List AroundNets → (number : ℕ) → List PlainCounter → (start : ℕ) → Counting → Type 0
IsCounting old new table number counters start c =
    (core : PlainCore) (plan : PlainPlan) (around : Around) → list_all (is_counter_right core around) counters ≡ true → StandAround old table around.counters
    → (s : Signals) → RunsOn s new.cells → CountingIn core plan s around.counters table number counters start c
