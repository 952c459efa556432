-- The cores of worked programs, by hand.
use Rattle.std.specs.Prelude.{ℕ, [], ◌∷◌, Some, None, codes, false}
use Rattle.sp_words.specs.declared.kind.BinOp.TheVariants.{Add, Sub, Mul, Gt, Eq, And, Max}
use Rattle.sp_words.specs.declared.kind.Kind.TheVariants.{Reg, Sram, Fifo, ArgIn, ArgOut}
use Rattle.sp_words.specs.declared.kind.Style.TheVariants.{Pipe, Sequential, Parallel}
use Rattle.sp_words.specs.declared.types.Ty.TheVariants.{Bit}
use Rattle.sp_words.specs.Types.{int_type}
use Rattle.sp_core.specs.declared.node.SparseKind.TheVariants.{Gather, WideLoad}
use Rattle.sp_core.specs.declared.operation.OpKind.TheVariants.{Two}
use Rattle.sp_core.specs.ExampleForms.{op_at, lit, true_bit, count, two, mux, read, write, enq, deq, reset, read_bit, write_bit, under, from, below, stages, stages_then, mem_of, own_bit, port, core}
use Rattle.sp_core.specs.ExampleTransfers.{tile, whole}
use Rattle.sp_core.specs.PlainCore.{PlainCore, PlainMem, PlainOp, single, range, inner, outer, fsm, branch, load, store, sparse}

-- a register that the compiler adds
abbrev pub own_register : PlainMem
own_register = record { name = codes "crossing"; kind = Reg; ty = int_type; dims = []; start = None; written = false }

abbrev pub own_state : PlainMem
own_state = record { name = codes "state"; kind = Reg; ty = int_type; dims = []; start = None; written = false }

-- a conjunction
abbrev pub both : (a b : ℕ) → PlainOp
both a b = op_at Bit (Two And) (a ∷ b ∷ [])

unfoldable pub counting_down : PlainCore
counting_down = core (mem_of (codes "x") ArgIn int_type [] None ∷ mem_of (codes "y") ArgOut int_type [] None ∷ mem_of (codes "n") Reg int_type [] (Some 0) ∷ own_state ∷ []) []
    (outer [] Pipe (2 ∷ []) (stages (
    fsm (read 0 [] ∷ []) 3 (read 3 [] ∷ lit 0 ∷ two Gt 0 1 ∷ [])
    (inner [] [] (read 2 [] ∷ read 3 [] ∷ two Add 0 1 ∷ write 2 (2 ∷ []) ∷ []) None)
    (read 3 [] ∷ lit 1 ∷ two Sub 0 1 ∷ []) ∷
    inner [] [] (read 2 [] ∷ write 1 (0 ∷ []) ∷ []) None ∷
    [])))

-- one of the two lanes computes the word that is combined, and writes it to register 7
unfoldable pub mixed_stages : PlainCore
mixed_stages = core (mem_of (codes "acc") Reg int_type [] None ∷ mem_of (codes "s") Sram int_type (4 ∷ []) None ∷ mem_of (codes "t") Sram int_type (2 ∷ []) None ∷ mem_of (codes "y") ArgOut int_type [] None ∷ own_bit (codes "begun") ∷ own_register ∷ own_register ∷ own_register ∷ []) (port (codes "a") (4 ∷ []) ∷ [])
    (outer [] Pipe (0 ∷ 4 ∷ []) (stages (
    outer (below 0 4 1 2 ∷ []) Pipe (1 ∷ 2 ∷ 5 ∷ 6 ∷ 7 ∷ []) (stages_then (
    load 0 1 (whole 4 ∷ []) ∷
    inner [] [] (lit 0 ∷ count 0 0 ∷ read 1 (1 ∷ []) ∷ lit 1 ∷ two Add 2 3 ∷ write 2 (0 ∷ 4 ∷ []) ∷ []) None ∷
    inner [] [] (lit 0 ∷ read 1 (0 ∷ []) ∷ write 5 (1 ∷ []) ∷ []) None ∷
    inner [] [] (lit 0 ∷ read 2 (0 ∷ []) ∷ write 6 (1 ∷ []) ∷ []) None ∷
    inner (from 1 (read 5 [] ∷ []) (read 6 [] ∷ []) 1 1 ∷ []) [] (lit 1 ∷ lit 0 ∷ read 2 (1 ∷ []) ∷ count 1 0 ∷ two Mul 2 3 ∷ write 2 (0 ∷ 4 ∷ []) ∷ []) None ∷
    inner [] [] (lit 0 ∷ lit 7 ∷ write 2 (0 ∷ 1 ∷ []) ∷ lit 1 ∷ read 2 (3 ∷ []) ∷ lit 2 ∷ read 1 (5 ∷ []) ∷ two Add 4 6 ∷ write 7 (7 ∷ []) ∷ []) None ∷
    []) 0 (
    inner [] [] (read 7 [] ∷ read_bit 4 ∷ under 1 (read 0 []) ∷ two Add 2 0 ∷ mux 1 3 0 ∷ write 0 (4 ∷ []) ∷ true_bit ∷ write_bit 4 6 ∷ []) (Some 1))) ∷
    inner [] [] (read 0 [] ∷ write 3 (0 ∷ []) ∷ []) None ∷
    [])))

unfoldable pub widely_copied : PlainCore
widely_copied = core (mem_of (codes "s") Sram int_type (4 ∷ []) None ∷ []) (port (codes "a") (8 ∷ []) ∷ port (codes "b") (8 ∷ []) ∷ [])
    (outer [] Pipe [] (stages (
    outer (below 0 8 4 2 ∷ []) Pipe (0 ∷ []) (stages (
    sparse WideLoad 0 0 None (tile 0 4 ∷ []) [] 4 ∷
    store 1 0 (tile 0 4 ∷ []) ∷
    [])) ∷
    [])))

-- a block that isn't proper is a sequence
unfoldable pub streamed_twice : PlainCore
streamed_twice = core (mem_of (codes "y") ArgOut int_type [] None ∷ mem_of (codes "acc") Reg int_type [] (Some 0) ∷ mem_of (codes "f") Fifo int_type (2 ∷ []) None ∷ mem_of (codes "g") Fifo int_type (2 ∷ []) None ∷ mem_of (codes "h") Fifo int_type (2 ∷ []) None ∷ own_bit (codes "begun") ∷ []) []
    (outer [] Pipe (1 ∷ []) (stages (
    outer [] Sequential (2 ∷ 3 ∷ 4 ∷ 5 ∷ []) (stages (
    inner (below 0 8 1 1 ∷ []) [] (count 0 0 ∷ enq 2 0 ∷ count 0 0 ∷ enq 4 2 ∷ []) None ∷
    inner (below 1 8 1 1 ∷ []) [] (deq 2 ∷ deq 4 ∷ two Mul 0 1 ∷ enq 3 2 ∷ []) None ∷
    inner (below 2 8 1 1 ∷ []) [] (deq 3 ∷ read_bit 5 ∷ under 1 (read 1 []) ∷ two Add 2 0 ∷ mux 1 3 0 ∷ write 1 (4 ∷ []) ∷ true_bit ∷ write_bit 5 6 ∷ []) (Some 1) ∷
    [])) ∷
    inner [] [] (read 1 [] ∷ write 0 (0 ∷ []) ∷ []) None ∷
    [])))

unfoldable pub crossing : PlainCore
crossing = core (mem_of (codes "x") ArgIn int_type [] None ∷ mem_of (codes "y") ArgOut int_type [] None ∷ mem_of (codes "z") ArgOut int_type [] None ∷ mem_of (codes "r") Reg int_type [] None ∷ own_register ∷ []) []
    (outer [] Pipe (3 ∷ 4 ∷ []) (stages (
    inner [] [] (read 0 [] ∷ lit 1 ∷ two Add 0 1 ∷ write 4 (2 ∷ []) ∷ lit 2 ∷ two Mul 2 4 ∷ write 3 (5 ∷ []) ∷ []) None ∷
    inner (below 0 5 1 1 ∷ []) [] (read 4 [] ∷ count 0 0 ∷ two Add 0 1 ∷ lit 5 ∷ two Add 2 3 ∷ write 1 (4 ∷ []) ∷ []) None ∷
    inner [] [] (read 3 [] ∷ write 2 (0 ∷ []) ∷ []) None ∷
    [])))

unfoldable pub early_slices : PlainCore
early_slices = core (mem_of (codes "y") ArgOut int_type [] None ∷ mem_of (codes "p") Sram int_type (4 ∷ []) None ∷ mem_of (codes "s") Sram int_type (4 ∷ []) None ∷ own_register ∷ own_register ∷ own_register ∷ []) (port (codes "a") (2 ∷ 8 ∷ []) ∷ port (codes "q") (4 ∷ []) ∷ [])
    (outer [] Pipe (1 ∷ []) (stages (
    load 1 1 (whole 4 ∷ []) ∷
    outer (below 0 2 1 1 ∷ []) Sequential (2 ∷ 3 ∷ 4 ∷ 5 ∷ []) (stages (
    inner [] [] (lit 0 ∷ read 1 (0 ∷ []) ∷ write 3 (1 ∷ []) ∷ lit 0 ∷ read 1 (3 ∷ []) ∷ lit 4 ∷ two Add 4 5 ∷ write 4 (6 ∷ []) ∷ []) None ∷
    load 0 2 (single (count 0 0 ∷ []) ∷ range (read 3 [] ∷ []) (read 4 [] ∷ []) ∷ []) ∷
    inner [] [] (lit 1 ∷ read 1 (0 ∷ []) ∷ write 5 (1 ∷ []) ∷ []) None ∷
    sparse Gather 1 2 (Some 1) [] (read 5 [] ∷ []) 1 ∷
    inner [] [] (lit 2 ∷ read 2 (0 ∷ []) ∷ write 0 (1 ∷ []) ∷ []) None ∷
    [])) ∷
    [])))

unfoldable pub folded_matrix : PlainCore
folded_matrix = core (mem_of (codes "y") ArgOut int_type [] None ∷ mem_of (codes "acc") Sram int_type (1 ∷ 2 ∷ []) None ∷ mem_of (codes "p") Sram int_type (1 ∷ 2 ∷ []) None ∷ mem_of (codes "r") Reg int_type [] None ∷ own_bit (codes "begun") ∷ own_register ∷ []) []
    (outer [] Pipe (1 ∷ 3 ∷ 4 ∷ []) (stages (
    outer (below 0 3 1 1 ∷ []) Pipe (2 ∷ []) (stages_then (
    inner [] [] (lit 0 ∷ lit 0 ∷ count 0 0 ∷ write 2 (0 ∷ 1 ∷ 2 ∷ []) ∷ lit 0 ∷ lit 1 ∷ lit 7 ∷ write 2 (4 ∷ 5 ∷ 6 ∷ []) ∷ []) None ∷
    []) 0 (
    inner (below 3 1 1 1 ∷ below 4 2 1 1 ∷ []) [] (count 3 0 ∷ count 4 0 ∷ read 2 (0 ∷ 1 ∷ []) ∷
    read_bit 4 ∷ count 3 0 ∷ count 4 0 ∷ under 3 (read 1 (4 ∷ 5 ∷ [])) ∷ two Add 6 2 ∷ mux 3 7 2 ∷ count 3 0 ∷ count 4 0 ∷ write 1 (9 ∷ 10 ∷ 8 ∷ []) ∷
    count 3 0 ∷ lit 0 ∷ two Eq 12 13 ∷ count 4 0 ∷ lit 1 ∷ two Eq 15 16 ∷ both 14 17 ∷ true_bit ∷ under 18 (write_bit 4 19) ∷ []) (Some 3))) ∷
    inner [] [] (lit 9 ∷ write 3 (0 ∷ []) ∷ []) None ∷
    outer (below 1 3 1 2 ∷ []) Pipe (5 ∷ []) (stages_then (
    outer [] Parallel [] (stages (
    inner (below 2 1 1 1 ∷ []) [] [] None ∷
    [])) ∷
    inner [] [] (lit 0 ∷ lit 1 ∷ read 1 (0 ∷ 1 ∷ []) ∷ write 5 (2 ∷ []) ∷ []) None ∷
    []) 0 (
    inner [] [] (read 5 [] ∷ read 3 [] ∷ two Max 1 0 ∷ write 3 (2 ∷ []) ∷ []) (Some 1))) ∷
    inner [] [] (read 3 [] ∷ lit 0 ∷ lit 0 ∷ read 1 (1 ∷ 2 ∷ []) ∷ two Add 0 3 ∷ write 0 (4 ∷ []) ∷ []) None ∷
    [])))

unfoldable pub declared_anew : PlainCore
declared_anew = core (mem_of (codes "y") ArgOut int_type [] None ∷ mem_of (codes "q") Reg int_type [] (Some 7) ∷ mem_of (codes "r") Reg int_type [] (Some 5) ∷ mem_of (codes "f") Fifo int_type (1 ∷ []) None ∷ []) []
    (outer [] Pipe (1 ∷ []) (stages (
    inner (below 0 3 1 1 ∷ []) (2 ∷ 3 ∷ []) (
    reset 2 ∷ reset 3 ∷ read 2 [] ∷ enq 3 2 ∷ read 2 [] ∷ lit 1 ∷ two Add 4 5 ∷ write 2 (6 ∷ []) ∷
    read 1 [] ∷ read 2 [] ∷ deq 3 ∷ two Add 9 10 ∷ two Add 8 11 ∷ write 1 (12 ∷ []) ∷ []) None ∷
    inner [] [] (read 1 [] ∷ write 0 (0 ∷ []) ∷ []) None ∷
    [])))

-- the value is in register 3, the state in register 4
unfoldable pub reducing_machine : PlainCore
reducing_machine = core (mem_of (codes "x") ArgIn int_type [] None ∷ mem_of (codes "y") ArgOut int_type [] None ∷ mem_of (codes "n") Reg int_type [] (Some 0) ∷ own_register ∷ own_state ∷ own_bit (codes "begun") ∷ []) []
    (outer [] Pipe (2 ∷ 3 ∷ []) (stages (
    inner [] [] (read 0 [] ∷ lit 2 ∷ two Mul 0 1 ∷ write 3 (2 ∷ []) ∷ []) None ∷
    fsm (read 3 [] ∷ []) 4 (read 4 [] ∷ lit 0 ∷ two Gt 0 1 ∷ [])
    (outer [] Pipe (5 ∷ []) (stages (
    inner (from 0 (lit 0 ∷ []) (read 4 [] ∷ []) 1 1 ∷ []) [] (count 0 0 ∷ read 4 [] ∷ two Add 0 1 ∷ read_bit 5 ∷ under 3 (read 2 []) ∷ two Add 4 2 ∷ mux 3 5 2 ∷ write 2 (6 ∷ []) ∷ true_bit ∷ write_bit 5 8 ∷ []) (Some 3) ∷
    branch (read 4 [] ∷ lit 2 ∷ two Gt 0 1 ∷ []) (inner [] [] (read 2 [] ∷ write 1 (0 ∷ []) ∷ []) None) (inner [] [] [] None) ∷
    [])))
    (read 4 [] ∷ read 3 [] ∷ two Sub 0 1 ∷ []) ∷
    [])))
