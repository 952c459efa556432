-- Small cores, and plans for them that are right or break one rule.
use Rattle.std.specs.Prelude.{ℕ, ◌==◌, pos, List, [], ◌∷◌, Some, None, codes, if◌then◌else◌}
use Rattle.sp_words.specs.declared.kind.BinOp.TheVariants.{Add}
use Rattle.sp_words.specs.declared.kind.Kind.TheVariants.{Reg, Sram, ArgIn, ArgOut}
use Rattle.sp_words.specs.declared.kind.Style.TheVariants.{Pipe}
use Rattle.sp_words.specs.Types.{int_type}
use Rattle.sp_core.specs.declared.access.Meet.{Meet}
use Rattle.sp_core.specs.ExampleForms.{lit, count, two, read, write, below, stages, in_lane, mem_of, port, core, meet, form}
use Rattle.sp_core.specs.ExampleTransfers.{whole}
use Rattle.sp_core.specs.Forms.{PlainForms}
use Rattle.sp_core.specs.PlainCore.{PlainCore, inner, outer, load, no_stage}
use Rattle.sp_plan.specs.ExamplePlans.{plain_mem, banked, in_turns, timed, plan_of}
use Rattle.sp_plan.specs.PlainPlan.{PlainMemPlan, outer_plan, other_plan, PlainPlan}
use Rattle.sp_machine.specs.Transfers.{Delays}

-- `r := x; y := r`: r is written in 1 and read in 2
unfoldable pub passed_on : PlainCore
passed_on = core (mem_of (codes "x") ArgIn int_type [] None ∷ mem_of (codes "r") Reg int_type [] None ∷ mem_of (codes "y") ArgOut int_type [] None ∷ []) []
    (outer [] Pipe (1 ∷ []) (stages (
    inner [] [] (read 0 [] ∷ write 1 (0 ∷ []) ∷ read 1 [] ∷ write 2 (2 ∷ []) ∷ []) None ∷
    [])))

abbrev pub passed_on_meets : List Meet
passed_on_meets = meet 1 2 0 ∷ []

abbrev pub passed_on_plan : (times : List ℕ) → (latency : ℕ) → PlainPlan
passed_on_plan times latency = plan_of (plain_mem 1 ∷ plain_mem 1 ∷ plain_mem 1 ∷ []) (outer_plan (0 ∷ []) (0 ∷ []) ∷ timed times 1 latency ∷ [])

-- `r := r + x`, three times: r is read in 2 and written in 5
unfoldable pub added_up : PlainCore
added_up = core (mem_of (codes "x") ArgIn int_type [] None ∷ mem_of (codes "r") Reg int_type [] (Some 0) ∷ []) []
    (outer [] Pipe (1 ∷ []) (stages (
    inner (below 0 3 1 1 ∷ []) [] (read 1 [] ∷ read 0 [] ∷ two Add 0 1 ∷ write 1 (2 ∷ []) ∷ []) None ∷
    [])))

abbrev pub added_up_meets : List Meet
added_up_meets = meet 2 5 0 ∷ meet 5 2 1 ∷ meet 5 5 1 ∷ []

abbrev pub added_up_plan : (ii : ℕ) → PlainPlan
added_up_plan ii = plan_of (plain_mem 1 ∷ plain_mem 1 ∷ []) (outer_plan (0 ∷ []) (0 ∷ []) ∷ timed (0 ∷ 0 ∷ 1 ∷ 2 ∷ []) ii 3 ∷ [])

-- a register that one stage of a loop writes and the next one reads, by the times of that one
abbrev pub between_plan : (slots chains times : List ℕ) → (latency : ℕ) → PlainPlan
between_plan slots chains times latency = plan_of
    (plain_mem 1 ∷ banked 1 1 (0 ∷ []) 1 1 ∷ [])
    (outer_plan (0 ∷ 1 ∷ []) (0 ∷ 0 ∷ []) ∷ outer_plan slots chains ∷ timed (0 ∷ 0 ∷ []) 1 1 ∷ timed times 1 latency ∷ other_plan ∷ [])

-- the node of a number waits so long
abbrev pub waits_at : (node cycles : ℕ) → Delays
waits_at k cycles node path ask = if node == k then cycles else 0

-- `o(i) = t(i) + t(i + 2)`: the load is 2, reads are 6 and 9
unfoldable pub distant : PlainCore
distant = core (mem_of (codes "t") Sram int_type (4 ∷ []) None ∷ mem_of (codes "o") Sram int_type (4 ∷ []) None ∷ []) (port (codes "a") (4 ∷ []) ∷ [])
    (outer [] Pipe (0 ∷ 1 ∷ []) (stages (
    load 0 0 (whole 4 ∷ []) ∷
    inner (below 0 2 1 1 ∷ []) [] (count 0 0 ∷ read 0 (0 ∷ []) ∷ lit 2 ∷ two Add 0 2 ∷ read 0 (3 ∷ []) ∷ two Add 1 4 ∷ write 1 (0 ∷ 5 ∷ []) ∷ []) None ∷
    [])))

abbrev pub distant_meets : List Meet
distant_meets = meet 2 6 0 ∷ meet 2 9 0 ∷ []

abbrev pub distant_plan : (times : List ℕ) → (ii latency : ℕ) → PlainPlan
distant_plan times ii latency = plan_of (in_turns 1 1 ∷ in_turns 1 1 ∷ []) (outer_plan (0 ∷ 1 ∷ []) (0 ∷ 0 ∷ []) ∷ other_plan ∷ timed times ii latency ∷ [])

-- two stages of a loop that read one memory: the load is 2, reads are 6 and 9
unfoldable pub read_twice : PlainCore
read_twice = core (mem_of (codes "t") Sram int_type (4 ∷ []) None ∷ mem_of (codes "o") Sram int_type (4 ∷ []) None ∷ mem_of (codes "q") Sram int_type (4 ∷ []) None ∷ []) (port (codes "a") (4 ∷ []) ∷ [])
    (outer [] Pipe (0 ∷ 1 ∷ 2 ∷ []) (stages (
    load 0 0 (whole 4 ∷ []) ∷
    outer (below 0 3 1 1 ∷ []) Pipe [] (stages (
    inner [] [] (count 0 0 ∷ read 0 (0 ∷ []) ∷ write 1 (0 ∷ 1 ∷ []) ∷ []) None ∷
    inner [] [] (count 0 0 ∷ read 0 (0 ∷ []) ∷ write 2 (0 ∷ 1 ∷ []) ∷ []) None ∷
    [])) ∷
    [])))

abbrev pub read_twice_meets : List Meet
read_twice_meets = meet 2 6 0 ∷ meet 2 9 0 ∷ []

abbrev pub read_twice_plan : (duplicates : ℕ) → PlainPlan
read_twice_plan n = plan_of (in_turns 1 n ∷ in_turns 1 1 ∷ in_turns 1 1 ∷ [])
    (outer_plan (0 ∷ 1 ∷ []) (0 ∷ 0 ∷ []) ∷ other_plan ∷ outer_plan (0 ∷ 1 ∷ []) (0 ∷ 0 ∷ []) ∷ timed (0 ∷ 0 ∷ 2 ∷ []) 1 3 ∷ timed (0 ∷ 0 ∷ 2 ∷ []) 1 3 ∷ [])

-- `o(i) = t(i) + t(i + 1)` of each second i, by two lanes: the load is 2, reads are 6 and 8
unfoldable pub paired : PlainCore
paired = core (mem_of (codes "t") Sram int_type (4 ∷ []) None ∷ mem_of (codes "o") Sram int_type (4 ∷ []) None ∷ []) (port (codes "a") (4 ∷ []) ∷ [])
    (outer [] Pipe (0 ∷ 1 ∷ []) (stages (
    load 0 0 (whole 4 ∷ []) ∷
    inner (below 0 4 1 2 ∷ []) [] (count 0 0 ∷ read 0 (0 ∷ []) ∷ count 0 1 ∷ read 0 (2 ∷ []) ∷ two Add 1 3 ∷ write 1 (0 ∷ 4 ∷ []) ∷ []) None ∷
    [])))

abbrev pub paired_forms : PlainForms
paired_forms = record {
  forms = Some (form [] (pos 0) None ∷ []) ∷ Some (form (pos 1 ∷ []) (pos 0) None ∷ []) ∷ Some (form (pos 1 ∷ []) (pos 1) None ∷ []) ∷ Some (form (pos 1 ∷ []) (pos 0) None ∷ []) ∷ [];
  lengths = Some 4 ∷ [];
}

abbrev pub paired_meets : List Meet
paired_meets = meet 2 6 0 ∷ meet 2 8 0 ∷ []

abbrev pub paired_plan : PlainMemPlan → PlainPlan
paired_plan t = plan_of (t ∷ banked 1 1 (0 ∷ []) 1 1 ∷ []) (outer_plan (0 ∷ 1 ∷ []) (0 ∷ 0 ∷ []) ∷ other_plan ∷ timed (0 ∷ 0 ∷ 0 ∷ 0 ∷ 2 ∷ 3 ∷ []) 1 4 ∷ [])

-- a loop of two lanes that owns r, which the second stage of lane 0 writes in 4 and the first one of lane 1 reads in 5
unfoldable pub across_lanes : PlainCore
across_lanes = core (mem_of (codes "y") ArgOut int_type [] None ∷ mem_of (codes "r") Reg int_type [] (Some 0) ∷ []) []
    (outer [] Pipe [] (stages (
    outer (below 0 2 1 2 ∷ []) Pipe (1 ∷ [])
    (in_lane 0 (inner [] [] (lit 5 ∷ []) None ∷ inner [] [] (lit 7 ∷ write 1 (0 ∷ []) ∷ []) None ∷ [])
    (in_lane 1 (inner [] [] (read 1 [] ∷ write 0 (0 ∷ []) ∷ []) None ∷ inner [] [] (lit 5 ∷ []) None ∷ [])
    no_stage)) ∷
    [])))

abbrev pub across_lanes_meets : List Meet
across_lanes_meets = meet 4 5 0 ∷ []

abbrev pub across_lanes_plan : PlainPlan
across_lanes_plan = plan_of (plain_mem 1 ∷ plain_mem 2 ∷ [])
    (outer_plan (0 ∷ []) (0 ∷ []) ∷ outer_plan (0 ∷ 1 ∷ 0 ∷ 1 ∷ []) (0 ∷ 0 ∷ 0 ∷ 0 ∷ []) ∷ timed (0 ∷ []) 1 0 ∷ timed (0 ∷ 0 ∷ []) 1 1 ∷ timed (0 ∷ 1 ∷ []) 1 2 ∷ timed (0 ∷ []) 1 0 ∷ [])
