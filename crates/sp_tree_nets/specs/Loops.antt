-- A loop with stages.
use Rattle.std.specs.Prelude.{ℕ, ◌+◌, List, ◌++◌, Option}
use Rattle.sp_words.specs.declared.kind.Style.{Style}
use Rattle.sp_netlist.specs.declared.parts.Child.{Child}
use Rattle.sp_netlist.specs.Draft.{Draft}
use Rattle.sp_core.specs.Numbering.{counters_size}
use Rattle.sp_core.specs.PlainCore.{PlainCounter, PlainStages, outer, PlainCore}
use Rattle.sp_plan.specs.PlainPlan.{PlainPlan}
use Rattle.sp_op_nets.specs.declared.acted.ActedList.{ActedList}
use Rattle.sp_op_nets.specs.declared.table.AroundNets.{AroundNets}
use Rattle.sp_tree_handed.specs.declared.owners.Keeping.{Keeping}
use Rattle.sp_tree_handed.specs.declared.owners.LoopTurns.{LoopTurns}
use Rattle.sp_tree_handed.specs.declared.moves.TreeMove.{TreeMove}
use Rattle.sp_tree_handed.specs.Lists.{NumberedOps, bounds_in, lists_in_stages}
use Rattle.sp_tree_nets.specs.Emitted.{CanEmit, IsTree}

-- some loop of these counters, memories and stages may be emitted
pub record CanEmitLoop (d : Draft) (core : PlainCore) (plan : PlainPlan) (table : List AroundNets) (ends : List (Option ℕ)) (counters : List PlainCounter) (owned : List ℕ) (stages : PlainStages) (k n : ℕ) : Type 0 where
  pub style : Style
  pub can : CanEmit d core plan table ends (outer counters style owned stages) k n

-- each loop of these counters, memories and stages is what was emitted
abbrev pub IsLoopTree : (old new : Draft) → PlainCore → PlainPlan → List AroundNets → List (Option ℕ) → List PlainCounter → (owned : List ℕ) → PlainStages → (k n : ℕ) → Child → List ActedList → List LoopTurns → List Keeping → List TreeMove → Type 0
IsLoopTree old new core plan table ends counters owned stages k n child acted turns kept moves = (style : Style) → IsTree old new core plan table ends (outer counters style owned stages) k n child acted turns kept moves

-- its lists of operations are those of its bounds, and then those of its stages
abbrev pub lists_of_loop : List PlainCounter → PlainStages → (n : ℕ) → List NumberedOps
lists_of_loop counters stages n = bounds_in counters n ++ lists_in_stages stages (n + counters_size counters)
