-- Worked programs: stream blocks, gathers and scatters, and slices of several lanes.
use Rattle.std.specs.Prelude.{ℕ, false, List, [], ◌∷◌, Some, None}
use Rattle.sp_words.specs.declared.kind.Kind.TheVariants.{Reg, Sram, Fifo, Dram, ArgOut}
use Rattle.sp_words.specs.declared.kind.Style.TheVariants.{Pipe, Stream}
use Rattle.sp_words.specs.Types.{int_type}
use Rattle.sp_tree.specs.declared.statement.Comb.TheVariants.{Add}
use Rattle.sp_tree.specs.ExampleForms.{lit, count, reg, at, oldest, add, mul, from, between, in_lanes, here, at_place, stmts, mem_of, program}
use Rattle.sp_tree.specs.PlainProgram.{PlainProgram, PlainMem}
use Rattle.sp_tree.specs.PlainStatement.{PlainStmt, PlainStmts, declare, name, set_reg, set_out, enq, load_sram, store, gather, scatter, block, foreach, reduce, no_stmt}

-- counter c from 0 to n - 1 around these statements
abbrev pub loop : ℕ → ℕ → List PlainStmt → PlainStmt
loop c n body = here (foreach Pipe (from c (lit 0) (lit n) 1 1 ∷ []) (stmts body))

-- an output, a register that begins with 0, and FIFOs of depth 2
abbrev pub stream_mems : List PlainMem
stream_mems =
    mem_of ArgOut int_type [] None ∷ mem_of Reg int_type [] (Some 0) ∷ mem_of Fifo int_type (2 ∷ []) None ∷ mem_of Fifo int_type (2 ∷ []) None
    ∷ mem_of Fifo int_type (2 ∷ []) None ∷ mem_of Sram int_type (4 ∷ []) None ∷ []

-- 8 words go through two FIFOs into a sum
abbrev pub doubled : PlainStmts
doubled = stmts (
    here (declare 2) ∷ here (declare 3) ∷ loop 0 8 (here (enq 2 (count 0)) ∷ []) ∷ loop 1 8 (here (enq 3 (mul (oldest 2) (lit 2))) ∷ [])
    ∷ here (reduce Pipe false 1 (from 2 (lit 0) (lit 8) 1 1 ∷ []) no_stmt (oldest 3) Add) ∷ [])

unfoldable pub streamed : PlainProgram
streamed = program stream_mems (stmts (here (declare 1) ∷ here (block Stream doubled) ∷ here (set_out 0 (reg 1)) ∷ []))

-- 8 words go into a FIFO and so many come out
unfoldable pub left_over : ℕ → PlainProgram
left_over taken = program stream_mems (stmts (
    at_place 29 (block Stream (stmts (here (declare 2) ∷ loop 0 8 (here (enq 2 (count 0)) ∷ []) ∷ loop 1 taken (here (set_out 0 (oldest 2)) ∷ []) ∷ []))) ∷ []))

-- a second FIFO joins the first two stages
abbrev pub joined_twice : PlainStmts
joined_twice = stmts (
    here (declare 2) ∷ here (declare 3) ∷ here (declare 4)
    ∷ loop 0 8 (at_place 7 (enq 2 (count 0)) ∷ at_place 9 (enq 4 (count 0)) ∷ [])
    ∷ loop 1 8 (here (enq 3 (mul (oldest 2) (oldest 4))) ∷ [])
    ∷ here (reduce Pipe false 1 (from 2 (lit 0) (lit 8) 1 1 ∷ []) no_stmt (oldest 3) Add) ∷ [])

unfoldable pub streamed_twice : PlainProgram
streamed_twice = program stream_mems (stmts (here (declare 1) ∷ here (block Stream joined_twice) ∷ here (set_out 0 (reg 1)) ∷ []))

-- blocks that are proper, and that aren't
abbrev pub lone_stage : PlainStmts
lone_stage = stmts (here (declare 2) ∷ loop 0 2 (here (enq 2 (count 0)) ∷ []) ∷ [])

abbrev pub with_value : PlainStmts
with_value = stmts (here (declare 2) ∷ here (name 0 (lit 1)) ∷ loop 0 2 (here (enq 2 (count 0)) ∷ []) ∷ [])

abbrev pub with_loop_inside : PlainStmts
with_loop_inside = stmts (here (declare 2) ∷ loop 0 2 (loop 1 2 (here (enq 2 (count 0)) ∷ []) ∷ []) ∷ [])

abbrev pub two_put : PlainStmts
two_put = stmts (here (declare 2) ∷ loop 0 2 (here (enq 2 (count 0)) ∷ []) ∷ loop 1 2 (here (enq 2 (count 0)) ∷ []) ∷ [])

abbrev pub two_take : PlainStmts
two_take = stmts (here (declare 2) ∷ loop 0 2 (here (set_out 0 (oldest 2)) ∷ []) ∷ loop 1 2 (here (enq 3 (oldest 2)) ∷ []) ∷ [])

abbrev pub puts_and_takes : PlainStmts
puts_and_takes = stmts (here (declare 2) ∷ loop 0 2 (here (enq 2 (oldest 2)) ∷ []) ∷ [])

-- two stages name a register, which one of them writes; and an outer FIFO
abbrev pub shares_register : PlainStmts
shares_register = stmts (loop 0 2 (here (set_reg 1 (count 0)) ∷ []) ∷ loop 1 2 (here (set_out 0 (reg 1)) ∷ []) ∷ [])

abbrev pub reads_register : PlainStmts
reads_register = stmts (here (declare 2) ∷ loop 0 2 (here (enq 2 (reg 1)) ∷ []) ∷ loop 1 2 (here (set_out 0 (add (oldest 2) (reg 1))) ∷ []) ∷ [])

abbrev pub shares_outer_queue : PlainStmts
shares_outer_queue = stmts (loop 0 2 (here (enq 2 (count 0)) ∷ []) ∷ loop 1 2 (here (set_out 0 (oldest 2)) ∷ []) ∷ [])

abbrev pub bound_in_array : PlainStmts
bound_in_array = stmts (here (foreach Pipe (from 0 (lit 0) (at 5 (lit 0 ∷ [])) 1 1 ∷ []) (stmts (here (set_out 0 (count 0)) ∷ []))) ∷ [])

-- three stages joined in a ring, whatever the directions
abbrev pub ring : PlainStmts
ring = stmts (
    here (declare 2) ∷ here (declare 3) ∷ here (declare 4) ∷ loop 0 2 (here (enq 2 (count 0)) ∷ here (enq 4 (count 0)) ∷ [])
    ∷ loop 1 2 (here (enq 3 (oldest 2)) ∷ []) ∷ loop 2 2 (here (set_out 0 (add (oldest 3) (oldest 4))) ∷ []) ∷ [])

-- words of a DRAM at four places into an SRAM, and from it into another DRAM at the same places
unfoldable pub scattered : PlainProgram
scattered = program (mem_of Dram int_type (8 ∷ []) None ∷ mem_of Dram int_type (4 ∷ []) None ∷ mem_of Dram int_type (8 ∷ []) None ∷ mem_of Sram int_type (4 ∷ []) None ∷ mem_of Sram int_type (4 ∷ []) None ∷ []) (stmts (
    here (declare 3) ∷
    here (declare 4) ∷
    here (load_sram 3 1 (between (lit 0) (lit 4) ∷ [])) ∷
    at_place 136 (gather 4 0 3 (lit 4)) ∷
    here (scatter 2 3 (lit 4) 4) ∷
    []))

-- gathers and scatters that fault: so many words of SRAMs of four, of which the places that are loaded are written
unfoldable pub far_gather : (words loaded : ℕ) → PlainProgram
far_gather words loaded = program (mem_of Dram int_type (8 ∷ []) None ∷ mem_of Dram int_type (4 ∷ []) None ∷ mem_of Sram int_type (4 ∷ []) None ∷ mem_of Sram int_type (2 ∷ []) None ∷ []) (stmts (
    here (declare 2) ∷
    here (declare 3) ∷
    here (load_sram 2 1 (between (lit 0) (lit loaded) ∷ [])) ∷
    at_place 5 (gather 3 0 2 (lit words)) ∷
    []))

unfoldable pub unwritten_scatter : PlainProgram
unwritten_scatter = program (mem_of Dram int_type (8 ∷ []) None ∷ mem_of Dram int_type (4 ∷ []) None ∷ mem_of Sram int_type (4 ∷ []) None ∷ mem_of Sram int_type (2 ∷ []) None ∷ []) (stmts (
    here (declare 2) ∷
    here (declare 3) ∷
    here (load_sram 2 1 (between (lit 0) (lit 4) ∷ [])) ∷
    at_place 5 (scatter 0 2 (lit 2) 3) ∷
    []))

-- tiles of four words, two tiles at once, and four words of each at once as they are loaded
unfoldable pub widely_copied : PlainProgram
widely_copied = program (mem_of Dram int_type (8 ∷ []) None ∷ mem_of Dram int_type (8 ∷ []) None ∷ mem_of Sram int_type (4 ∷ []) None ∷ []) (stmts (
    here (foreach Pipe (from 0 (lit 0) (lit 8) 4 2 ∷ []) (stmts (
    here (declare 2) ∷
    here (load_sram 2 0 (in_lanes (count 0) (add (count 0) (lit 4)) 4 ∷ [])) ∷
    here (store 1 (between (count 0) (add (count 0) (lit 4)) ∷ []) 2) ∷
    []))) ∷
    []))
