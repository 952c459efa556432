-- Which ports a run uses, and when: a small core with two readers of one memory.
use Rattle.std.specs.Prelude.{ℕ, List, [], ◌∷◌, flat_map, Option, Some, None, codes, if◌then◌else◌}
use Rattle.sp_words.specs.declared.kind.Kind.TheVariants.{Sram, Fifo, ArgOut}
use Rattle.sp_words.specs.declared.kind.Style.TheVariants.{Pipe}
use Rattle.sp_words.specs.Types.{int_type}
use Rattle.sp_core.specs.Events.{Act, puts, takes, touches, slices, renews, keeps}
use Rattle.sp_core.specs.ExampleForms.{count, read, write, enq, deq, below, stages, mem_of, port, core}
use Rattle.sp_core.specs.ExampleTransfers.{whole}
use Rattle.sp_core.specs.Meaning.{Outcome, ended}
use Rattle.sp_core.specs.PlainCore.{PlainCore, inner, outer, load}
use Rattle.sp_plan.specs.ExamplePlans.{plain_mem, in_turns, timed, plan_of}
use Rattle.sp_plan.specs.PlainPlan.{PlainMemPlan, outer_plan, other_plan, PlainPlan}
use Rattle.sp_machine.specs.Stamps.{Stamped}
use Rattle.sp_machine.specs.Timeline.{core_timed}
use Rattle.sp_machine.specs.Transfers.{Delays}
use Rattle.sp_core_ports.specs.UsedPorts.{Port, port_of}

-- a port by the cycle in which it is used, the memory, the copy, the duplicate and the bank
pub data Used : Type 0 where
  reads_at : (cycle mem copy duplicate bank : ℕ) → Used
  writes_at : (cycle mem copy bank : ℕ) → Used

abbrev pub used : (cycle : ℕ) → Option Port → List Used
used c None = []
used c (Some p) = (if p.is_written then writes_at c p.mem p.copy p.bank else reads_at c p.mem p.copy p.duplicate p.bank) ∷ []

-- those of a run, if it ended, in the order of the text
abbrev pub used_in : PlainCore → PlainPlan → Delays → Outcome → Option (List Used)
used_in c plan delays (ended outs drams h) = Some (flat_map (λ s. used s.cycle (port_of c plan s)) (core_timed c plan delays h).events)
used_in c plan delays _ = None

-- two stages of a loop that read one memory: `o(i) = t(i)`, and then `q(i) = t(i)`
unfoldable pub two_readers : PlainCore
two_readers = core (mem_of (codes "t") Sram int_type (4 ∷ []) None ∷ mem_of (codes "o") Sram int_type (4 ∷ []) None ∷ mem_of (codes "q") Sram int_type (4 ∷ []) None ∷ []) (port (codes "a") (4 ∷ []) ∷ [])
    (outer [] Pipe (0 ∷ 1 ∷ 2 ∷ []) (stages (
    load 0 0 (whole 4 ∷ []) ∷
    outer (below 0 2 1 1 ∷ []) Pipe [] (stages (
    inner [] [] (count 0 0 ∷ read 0 (0 ∷ []) ∷ write 1 (0 ∷ 1 ∷ []) ∷ []) None ∷
    inner [] [] (count 0 0 ∷ read 0 (0 ∷ []) ∷ write 2 (0 ∷ 1 ∷ []) ∷ []) None ∷
    [])) ∷
    [])))

abbrev pub two_readers_plan : PlainMemPlan → PlainPlan
two_readers_plan t = plan_of (t ∷ in_turns 1 1 ∷ in_turns 1 1 ∷ [])
    (outer_plan (0 ∷ 1 ∷ []) (0 ∷ 0 ∷ []) ∷ other_plan ∷ outer_plan (0 ∷ 1 ∷ []) (0 ∷ 0 ∷ []) ∷ timed (0 ∷ 0 ∷ 2 ∷ []) 1 3 ∷ timed (0 ∷ 0 ∷ 2 ∷ []) 1 3 ∷ [])

-- an end of a FIFO by the cycle in which a word enters or leaves it, the memory and the copy
pub data End : Type 0 where
  enters_at : (cycle mem copy : ℕ) → End
  leaves_at : (cycle mem copy : ℕ) → End

abbrev pub act_end : (cycle mem copy : ℕ) → Act → List End
act_end c m copy (puts w) = enters_at c m copy ∷ []
act_end c m copy (takes w) = leaves_at c m copy ∷ []
act_end c m copy act = []

abbrev pub end_of : Stamped → List End
end_of s = elim s.moment [
  | touches e ↦ act_end s.cycle e.mem s.copy e.act
  | slices x ↦ []
  | renews m ↦ []
  | keeps m w ↦ []
]

abbrev pub ends_in : PlainCore → PlainPlan → Delays → Outcome → Option (List End)
ends_in c plan delays (ended outs drams h) = Some (flat_map end_of (core_timed c plan delays h).events)
ends_in c plan delays _ = None

-- two stages of a loop, of which one puts words into a FIFO and the other one takes them
unfoldable pub queued : PlainCore
queued = core (mem_of (codes "f") Fifo int_type (4 ∷ []) None ∷ mem_of (codes "y") ArgOut int_type [] None ∷ []) []
    (outer [] Pipe (0 ∷ []) (stages (
    outer (below 0 2 1 1 ∷ []) Pipe [] (stages (
    inner [] [] (count 0 0 ∷ enq 0 0 ∷ []) None ∷
    inner [] [] (deq 0 ∷ write 1 (0 ∷ []) ∷ []) None ∷
    [])) ∷
    [])))

abbrev pub queued_plan : PlainPlan
queued_plan = plan_of (plain_mem 1 ∷ plain_mem 1 ∷ [])
    (outer_plan (0 ∷ []) (0 ∷ []) ∷ outer_plan (0 ∷ 0 ∷ []) (0 ∷ 0 ∷ []) ∷ timed (0 ∷ 0 ∷ []) 1 1 ∷ timed (0 ∷ 2 ∷ []) 1 3 ∷ [])
