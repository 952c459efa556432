-- Worked timelines: small cores, plans that were written by hand, and when what happens in their runs happens.
use Rattle.std.specs.Prelude.{ℕ, List, [], ◌∷◌, map, Option, Some, None, codes}
use Rattle.sp_words.specs.declared.kind.BinOp.TheVariants.{Gt}
use Rattle.sp_words.specs.declared.kind.Kind.TheVariants.{Sram, ArgIn, ArgOut}
use Rattle.sp_words.specs.declared.kind.Style.TheVariants.{Pipe}
use Rattle.sp_words.specs.Types.{int_type}
use Rattle.sp_core.specs.Events.{touches, slices, renews, keeps}
use Rattle.sp_core.specs.ExampleForms.{lit, two, read, write, below, stages, mem_of, core}
use Rattle.sp_core.specs.Meaning.{Outcome, ended}
use Rattle.sp_core.specs.PlainCore.{PlainCore, inner, outer, branch}
use Rattle.sp_plan.specs.ExamplePlans.{plain_mem, timed, plan_of}
use Rattle.sp_plan.specs.PlainPlan.{PlainNodePlan, outer_plan, other_plan, PlainPlan}
use Rattle.sp_machine.specs.Stamps.{Stamped}
use Rattle.sp_machine.specs.Timeline.{core_timed}
use Rattle.sp_machine.specs.Transfers.{Delays}

-- each transfer waits so long each time that it asks
abbrev pub always : ℕ → Delays
always d node path ask = d

-- a moment by its cycle, the memory and its copy; a slice by its cycle alone
pub data Shown : Type 0 where
  at : (cycle mem copy : ℕ) → Shown
  asks_at : (cycle : ℕ) → Shown

abbrev pub shown : Stamped → Shown
shown s = elim s.moment [
  | touches e ↦ at s.cycle e.mem s.copy
  | slices x ↦ asks_at s.cycle
  | renews m ↦ at s.cycle m s.copy
  | keeps m w ↦ at s.cycle m s.copy
]

-- how many cycles a run takes, and its moments, if it ended
abbrev pub took_in : PlainCore → PlainPlan → Delays → Outcome → Option ℕ
took_in c plan delays (ended outs drams h) = Some (core_timed c plan delays h).took
took_in c plan delays _ = None

abbrev pub shown_in : PlainCore → PlainPlan → Delays → Outcome → Option (List Shown)
shown_in c plan delays (ended outs drams h) = Some (map shown (core_timed c plan delays h).events)
shown_in c plan delays _ = None

-- stages in slots of their own, and in one
abbrev pub in_slots : List ℕ → PlainNodePlan
in_slots slots = outer_plan slots (map (λ s. 0) slots)

abbrev pub sum_plan : PlainPlan
sum_plan = plan_of (plain_mem 1 ∷ plain_mem 1 ∷ []) (timed (0 ∷ 0 ∷ 1 ∷ 2 ∷ []) 3 3 ∷ [])

abbrev pub counting_plan : PlainPlan
counting_plan = plan_of (plain_mem 1 ∷ plain_mem 1 ∷ plain_mem 1 ∷ plain_mem 1 ∷ [])
    (in_slots (0 ∷ 1 ∷ []) ∷ other_plan ∷ timed (0 ∷ 0 ∷ 1 ∷ 2 ∷ []) 3 3 ∷ timed (0 ∷ 1 ∷ []) 2 2 ∷ [])

abbrev pub two_loops_plan : PlainPlan
two_loops_plan = plan_of (plain_mem 1 ∷ plain_mem 1 ∷ plain_mem 1 ∷ [])
    (in_slots (0 ∷ 1 ∷ 2 ∷ []) ∷ timed (0 ∷ 0 ∷ 0 ∷ []) 1 1 ∷ timed (0 ∷ 0 ∷ 0 ∷ 0 ∷ 2 ∷ 3 ∷ []) 1 4 ∷ timed (0 ∷ 0 ∷ 2 ∷ []) 1 3 ∷ [])

-- a load and a store in these slots, with so many copies between them
abbrev pub copied_plan : List ℕ → (depth : ℕ) → PlainPlan
copied_plan slots depth = plan_of (plain_mem depth ∷ []) (in_slots (0 ∷ []) ∷ in_slots slots ∷ other_plan ∷ other_plan ∷ [])

abbrev pub copied_at_once_plan : PlainPlan
copied_at_once_plan = plan_of (plain_mem 1 ∷ []) (in_slots (0 ∷ 1 ∷ []) ∷ other_plan ∷ other_plan ∷ [])

-- two lanes, whose stores are one chain
abbrev pub stores_plan : PlainPlan
stores_plan = plan_of (plain_mem 2 ∷ plain_mem 2 ∷ [])
    (in_slots (0 ∷ []) ∷ outer_plan (0 ∷ 1 ∷ 0 ∷ 1 ∷ []) (0 ∷ 0 ∷ 1 ∷ 0 ∷ []) ∷ timed (0 ∷ 0 ∷ 0 ∷ []) 1 1 ∷ other_plan ∷ timed (0 ∷ 0 ∷ 0 ∷ []) 1 1 ∷ other_plan ∷ [])

-- an output that is written where an argument is greater than 2
unfoldable pub chosen : PlainCore
chosen = core (mem_of (codes "x") ArgIn int_type [] None ∷ mem_of (codes "y") ArgOut int_type [] None ∷ []) []
    (outer [] Pipe [] (stages (
    branch (read 0 [] ∷ lit 2 ∷ two Gt 0 1 ∷ []) (inner [] [] (lit 1 ∷ write 1 (0 ∷ []) ∷ []) None) (inner [] [] [] None) ∷
    [])))

abbrev pub chosen_plan : PlainPlan
chosen_plan = plan_of (plain_mem 1 ∷ plain_mem 1 ∷ []) (in_slots (0 ∷ []) ∷ other_plan ∷ timed (0 ∷ 0 ∷ []) 1 1 ∷ timed [] 1 0 ∷ [])

-- a loop without operations, which owns a memory
unfoldable pub idling : PlainCore
idling = core (mem_of (codes "s") Sram int_type (4 ∷ []) None ∷ []) [] (inner (below 0 3 1 1 ∷ []) (0 ∷ []) [] None)

abbrev pub idling_plan : PlainPlan
idling_plan = plan_of (plain_mem 1 ∷ []) (timed [] 1 0 ∷ [])
