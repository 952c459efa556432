-- What is said of forms in runs, as statements.
use Rattle.std.specs.Prelude.{◌≡◌, ℕ, true, List, ◌++◌, length, ℤ}
use Rattle.std.specs.List.{All, list_all}
use Rattle.sp_core.specs.Around.{Around}
use Rattle.sp_core.specs.Events.{Standing, list_moments}
use Rattle.sp_core.specs.Forms.{hold_in}
use Rattle.sp_core.specs.History.{Entry, Bounds}
use Rattle.sp_core.specs.MemoryRules.{are_memories_right}
use Rattle.sp_core.specs.OperationRules.{are_operations_right, is_counter_right}
use Rattle.sp_core.specs.Operations.{operations}
use Rattle.sp_core.specs.PlainCore.{PlainOp, PlainCounter, PlainCore}
use Rattle.sp_core.specs.Scope.{Reading, loops_of, group_values, Scope, in_group}
use Rattle.sp_core.specs.Sequential.{bounds}
use Rattle.sp_core.specs.Step.{went, in_order}
use Rattle.sp_core.specs.Store.{Store}
use Rattle.sp_fitting.specs.Fitting.{StoreFits}
use Rattle.sp_hold.specs.Values.{AreInScope, AreValues}
use Rattle.sp_patterns.specs.Patterns.{patterns_of}
use Rattle.sp_patterns.specs.Ranges.{PlainAround, inside}
use Rattle.sp_forms_hold.specs.RunsStanding.{ListStands}

-- the counters around have these values in a scope, each in its range where that is known
pub record IsPlaced (scope : Scope) (around : PlainAround) (values : List ℤ) : Type 0 where
  pub in_scope : AreInScope scope around.places values
  pub in_ranges : AreValues around.ranges values
  pub each_range : length around.ranges ≡ length around.places

-- where the bounds of a controller's counters were given in a store whose words fit, in each group of its iterations its
-- counters have the group's values, one for each, after those of the counters around it
abbrev pub AreEntered : PlainCore → Type 0
AreEntered core =
    (reading : Reading) (turns : ℕ) (outside : Around) (around : PlainAround) (scope : Scope) (outer : List ℤ) (counters : List PlainCounter) (s t : Store) (bs : List Bounds) →
    are_memories_right core ≡ true → list_all (is_counter_right core outside) counters ≡ true → StoreFits core s → IsPlaced scope around outer → in_order (bounds core reading turns scope) counters s ≡ went bs t →
    All (λ values. IsPlaced (in_group scope (loops_of reading counters bs) values) (inside core.mems around counters) (outer ++ values)) (group_values (loops_of reading counters bs))

-- where a list of operations stands in a core whose counters are in their ranges, in a store whose words fit, each of its
-- accesses is at its forms, in the store in which it happens
abbrev pub ListsHold : PlainCore → Type 0
ListsHold core =
    (outside : Around) (around : PlainAround) (scope : Scope) (n : ℕ) (st : Standing) (ops : List PlainOp) (s t : Store) (es : List Entry) →
    are_memories_right core ≡ true → are_operations_right core outside ops ≡ true → ListStands core n around ops → IsPlaced scope around st.counters → StoreFits core s → operations core scope ops s ≡ went es t →
    hold_in core (patterns_of core) s (list_moments n st ops es) ≡ true
