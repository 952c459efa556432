-- Cores that break a rule.
use Rattle.std.specs.Prelude.{[], ◌∷◌, Some, None, codes}
use Rattle.sp_words.specs.declared.kind.BinOp.TheVariants.{Add}
use Rattle.sp_words.specs.declared.kind.Kind.TheVariants.{Reg, ArgOut}
use Rattle.sp_words.specs.declared.kind.Style.TheVariants.{Pipe}
use Rattle.sp_words.specs.Types.{int_type}
use Rattle.sp_core.specs.ExampleForms.{lit, count, two, read, write, below, stages, in_lane, mem_of, core}
use Rattle.sp_core.specs.PlainCore.{PlainCore, PlainNode, inner, outer, no_stage}

-- an operation takes a later one
unfoldable pub later_argument : PlainCore
later_argument = core (mem_of (codes "y") ArgOut int_type [] None ∷ []) []
    (inner [] [] (lit 1 ∷ two Add 0 5 ∷ write 0 (1 ∷ []) ∷ []) None)

-- a register is read outside of its owner
unfoldable pub use_outside : PlainCore
use_outside = core (mem_of (codes "y") ArgOut int_type [] None ∷ mem_of (codes "r") Reg int_type [] (Some 0) ∷ []) []
    (outer [] Pipe [] (stages (
    inner [] (1 ∷ []) (lit 1 ∷ write 1 (0 ∷ []) ∷ []) None ∷
    inner [] [] (read 1 [] ∷ write 0 (0 ∷ []) ∷ []) None ∷
    [])))

-- two nodes own one register
unfoldable pub owned_twice : PlainCore
owned_twice = core (mem_of (codes "r") Reg int_type [] (Some 0) ∷ []) []
    (outer [] Pipe [] (stages (
    inner [] (0 ∷ []) (lit 1 ∷ write 0 (0 ∷ []) ∷ []) None ∷
    outer [] Pipe [] (stages (
    inner [] (0 ∷ []) (lit 1 ∷ write 0 (0 ∷ []) ∷ []) None ∷
    [])) ∷
    [])))

-- the counter of a loop is named outside of it
unfoldable pub counter_of_another_loop : PlainCore
counter_of_another_loop = core (mem_of (codes "y") ArgOut int_type [] None ∷ []) []
    (outer [] Pipe [] (stages (
    inner (below 0 4 1 1 ∷ []) [] (count 0 0 ∷ write 0 (0 ∷ []) ∷ []) None ∷
    inner [] [] (count 0 0 ∷ write 0 (0 ∷ []) ∷ []) None ∷
    [])))

abbrev pub write_one : PlainNode
write_one = inner [] [] (lit 1 ∷ write 0 (0 ∷ []) ∷ []) None

-- the second lane has fewer stages than the first, and the third one has as many
unfoldable pub lanes_out_of_order : PlainCore
lanes_out_of_order = core (mem_of (codes "y") ArgOut int_type [] None ∷ []) []
    (outer [] Pipe [] (stages (
    outer (below 0 4 1 4 ∷ []) Pipe [] (in_lane 0 (write_one ∷ write_one ∷ []) (in_lane 1 (write_one ∷ []) (in_lane 2 (write_one ∷ write_one ∷ []) no_stage))) ∷
    [])))

-- nothing owns a register
unfoldable pub memory_without_owner : PlainCore
memory_without_owner = core (mem_of (codes "r") Reg int_type [] (Some 0) ∷ []) [] (inner [] [] [] None)
