-- Worked cores: loops, registers and queues.
use Rattle.std.specs.Prelude.{ℕ, [], ◌∷◌, Some, None, codes}
use Rattle.sp_words.specs.declared.kind.BinOp.TheVariants.{Add, Sub, Mul, Gt, Eq}
use Rattle.sp_words.specs.declared.kind.Kind.TheVariants.{Reg, Sram, Fifo, ArgIn, ArgOut}
use Rattle.sp_words.specs.declared.kind.Style.TheVariants.{Pipe, Stream}
use Rattle.sp_words.specs.Types.{int_type}
use Rattle.sp_core.specs.ExampleForms.{lit, true_bit, count, two, mux, read, write, enq, deq, reset, read_bit, write_bit, under, below, stages, stages_then, mem_of, own_bit, port, core}
use Rattle.sp_core.specs.PlainCore.{PlainCore, range, inner, outer, fsm, store}

-- `y := x + 3`
unfoldable pub sum_core : PlainCore
sum_core = core (mem_of (codes "x") ArgIn int_type [] None ∷ mem_of (codes "y") ArgOut int_type [] None ∷ []) []
    (inner [] [] (read 0 [] ∷ lit 3 ∷ two Add 0 1 ∷ write 1 (2 ∷ []) ∷ []) None)

-- `FSM(x)(s => s > 0){ s => n := n + s }{ s => s - 1 }`
unfoldable pub counting_down : PlainCore
counting_down = core (mem_of (codes "x") ArgIn int_type [] None ∷ mem_of (codes "y") ArgOut int_type [] None ∷ mem_of (codes "n") Reg int_type [] (Some 0) ∷ mem_of (codes "state") Reg int_type [] None ∷ []) []
    (outer [] Pipe (2 ∷ []) (stages (
    fsm (read 0 [] ∷ []) 3 (read 3 [] ∷ lit 0 ∷ two Gt 0 1 ∷ [])
    (inner [] [] (read 2 [] ∷ read 3 [] ∷ two Add 0 1 ∷ write 2 (2 ∷ []) ∷ []) None)
    (read 3 [] ∷ lit 1 ∷ two Sub 0 1 ∷ []) ∷
    inner [] [] (read 2 [] ∷ write 1 (0 ∷ []) ∷ []) None ∷
    [])))

-- one block writes a register and the next reads it
unfoldable pub register_between : PlainCore
register_between = core (mem_of (codes "r") Reg int_type [] (Some 0) ∷ mem_of (codes "s") Sram int_type (4 ∷ []) None ∷ []) (port (codes "c") (4 ∷ []) ∷ [])
    (outer [] Pipe (0 ∷ 1 ∷ []) (stages (
    outer (below 0 4 1 1 ∷ []) Pipe [] (stages (
    inner [] [] (count 0 0 ∷ write 0 (0 ∷ []) ∷ []) None ∷
    inner [] [] (count 0 0 ∷ read 0 [] ∷ lit 10 ∷ two Add 1 2 ∷ write 1 (0 ∷ 3 ∷ []) ∷ []) None ∷
    [])) ∷
    store 0 1 (range (lit 0 ∷ []) (lit 4 ∷ []) ∷ []) ∷
    [])))

-- a register that each iteration declares anew, in an inner body and in an outer one
unfoldable pub fresh_registers : PlainCore
fresh_registers = core (mem_of (codes "y") ArgOut int_type [] None ∷ mem_of (codes "r") Reg int_type [] (Some 5) ∷ mem_of (codes "q") Reg int_type [] (Some 7) ∷ []) []
    (outer (below 0 3 1 1 ∷ []) Pipe (2 ∷ []) (stages (
    inner (below 1 2 1 1 ∷ []) (1 ∷ []) (reset 1 ∷ read 1 [] ∷ lit 1 ∷ two Add 1 2 ∷ write 1 (3 ∷ []) ∷ read 2 [] ∷ read 1 [] ∷ two Add 5 6 ∷ write 2 (7 ∷ []) ∷ []) None ∷
    inner [] [] (read 2 [] ∷ write 0 (0 ∷ []) ∷ []) None ∷
    [])))

-- squares through a FIFO, of which so many are taken
unfoldable pub queued : (taken : ℕ) → PlainCore
queued taken = core (mem_of (codes "f") Fifo int_type (4 ∷ []) None ∷ mem_of (codes "s") Sram int_type (4 ∷ []) None ∷ []) (port (codes "c") (4 ∷ []) ∷ [])
    (outer [] Pipe (0 ∷ 1 ∷ []) (stages (
    inner (below 0 4 1 1 ∷ []) [] (count 0 0 ∷ count 0 0 ∷ two Mul 0 1 ∷ enq 0 2 ∷ []) None ∷
    inner (below 1 taken 1 1 ∷ []) [] (count 1 0 ∷ deq 0 ∷ write 1 (0 ∷ 1 ∷ []) ∷ []) None ∷
    store 0 1 (range (lit 0 ∷ []) (lit 4 ∷ []) ∷ []) ∷
    [])))

-- a MemReduce over three iterations
unfoldable pub memory_reduced : PlainCore
memory_reduced = core (mem_of (codes "acc") Sram int_type (2 ∷ []) None ∷ mem_of (codes "p") Sram int_type (2 ∷ []) None ∷ own_bit (codes "begun") ∷ []) (port (codes "c") (2 ∷ []) ∷ [])
    (outer [] Pipe (0 ∷ 2 ∷ []) (stages (
    outer (below 0 3 1 1 ∷ []) Pipe (1 ∷ []) (stages_then (
    inner (below 1 2 1 1 ∷ []) [] (count 1 0 ∷ count 0 0 ∷ lit 10 ∷ two Mul 1 2 ∷ count 1 0 ∷ two Add 3 4 ∷ write 1 (0 ∷ 5 ∷ []) ∷ []) None ∷
    []) 0 (
    inner (below 2 2 1 1 ∷ []) [] (count 2 0 ∷ read 1 (0 ∷ []) ∷ read_bit 2 ∷ count 2 0 ∷ under 2 (read 0 (3 ∷ [])) ∷ two Add 4 1 ∷ mux 2 5 1 ∷ count 2 0 ∷ write 0 (7 ∷ 6 ∷ []) ∷ count 2 0 ∷ lit 1 ∷ two Eq 9 10 ∷ true_bit ∷ under 11 (write_bit 2 12) ∷ []) (Some 2))) ∷
    store 0 0 (range (lit 0 ∷ []) (lit 2 ∷ []) ∷ []) ∷
    [])))

-- a block of three stages that FIFOs of a depth join, after which so many words of the first FIFO are left
unfoldable pub streamed : (depth taken : ℕ) → PlainCore
streamed depth taken = core (mem_of (codes "y") ArgOut int_type [] None ∷ mem_of (codes "acc") Reg int_type [] (Some 0) ∷ mem_of (codes "f") Fifo int_type (depth ∷ []) None ∷ mem_of (codes "g") Fifo int_type (depth ∷ []) None ∷ own_bit (codes "begun") ∷ []) []
    (outer [] Pipe (1 ∷ []) (stages (
    outer [] Stream (2 ∷ 3 ∷ 4 ∷ []) (stages (
    inner (below 0 8 1 1 ∷ []) [] (count 0 0 ∷ enq 2 0 ∷ []) None ∷
    inner (below 1 taken 1 1 ∷ []) [] (deq 2 ∷ lit 2 ∷ two Mul 0 1 ∷ enq 3 2 ∷ []) None ∷
    inner (below 2 taken 1 1 ∷ []) [] (deq 3 ∷ read_bit 4 ∷ under 1 (read 1 []) ∷ two Add 2 0 ∷ mux 1 3 0 ∷ write 1 (4 ∷ []) ∷ true_bit ∷ write_bit 4 6 ∷ []) (Some 1) ∷
    [])) ∷
    inner [] [] (read 1 [] ∷ write 0 (0 ∷ []) ∷ []) None ∷
    [])))

-- two loops of a hundred iterations, one after the other
unfoldable pub two_loops : PlainCore
two_loops = core (mem_of (codes "y") ArgOut int_type [] None ∷ mem_of (codes "s") Sram int_type (100 ∷ []) None ∷ mem_of (codes "o") Sram int_type (100 ∷ []) None ∷ []) []
    (outer [] Pipe (1 ∷ 2 ∷ []) (stages (
    inner (below 0 100 1 1 ∷ []) [] (count 0 0 ∷ count 0 0 ∷ write 1 (0 ∷ 1 ∷ []) ∷ []) None ∷
    inner (below 1 100 1 1 ∷ []) [] (count 1 0 ∷ count 1 0 ∷ read 1 (1 ∷ []) ∷ lit 1 ∷ two Add 2 3 ∷ write 2 (0 ∷ 4 ∷ []) ∷ []) None ∷
    inner [] [] (lit 99 ∷ read 2 (0 ∷ []) ∷ write 0 (1 ∷ []) ∷ []) None ∷
    [])))

-- `y := x + 3` and `y := x * x`
unfoldable pub two_statements : PlainCore
two_statements = core (mem_of (codes "x") ArgIn int_type [] None ∷ mem_of (codes "y") ArgOut int_type [] None ∷ []) []
    (inner [] [] (read 0 [] ∷ lit 3 ∷ two Add 0 1 ∷ write 1 (2 ∷ []) ∷ read 0 [] ∷ read 0 [] ∷ two Mul 4 5 ∷ write 1 (6 ∷ []) ∷ []) None)

-- the sum of 0 to 4 in a register
unfoldable pub running_sum : PlainCore
running_sum = core (mem_of (codes "y") ArgOut int_type [] None ∷ mem_of (codes "r") Reg int_type [] (Some 0) ∷ []) []
    (outer [] Pipe (1 ∷ []) (stages (
    inner (below 0 5 1 1 ∷ []) [] (read 1 [] ∷ count 0 0 ∷ two Add 0 1 ∷ write 1 (2 ∷ []) ∷ []) None ∷
    inner [] [] (read 1 [] ∷ write 0 (0 ∷ []) ∷ []) None ∷
    [])))

-- `s(i + r) = 1`
unfoldable pub shifted : PlainCore
shifted = core (mem_of (codes "r") Reg int_type [] (Some 2) ∷ mem_of (codes "s") Sram int_type (8 ∷ []) None ∷ []) []
    (outer [] Pipe (0 ∷ 1 ∷ []) (stages (
    inner (below 0 3 1 1 ∷ []) [] (count 0 0 ∷ read 0 [] ∷ two Add 0 1 ∷ lit 1 ∷ write 1 (2 ∷ 3 ∷ []) ∷ []) None ∷
    [])))
