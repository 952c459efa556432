-- Worked programs: values that cross, early bounds and slices, memories that are reduced.
use Rattle.std.specs.Prelude.{ℕ, true, false, [], ◌∷◌, Some, None, codes}
use Rattle.sp_words.specs.declared.kind.Kind.TheVariants.{Reg, Sram, Fifo, Dram, ArgIn, ArgOut}
use Rattle.sp_words.specs.declared.kind.Style.TheVariants.{Pipe, Sequential, Parallel, Stream}
use Rattle.sp_words.specs.Types.{int_type}
use Rattle.sp_tree.specs.declared.statement.Comb.TheVariants.{Add, Max}
use Rattle.sp_tree.specs.ExampleForms.{lit, count, val, reg, arg, at, oldest, add, sub, mul, gt, exprs, from, between, here, stmts, mem_of, program, named}
use Rattle.sp_tree.specs.ExampleLoops as loops
use Rattle.sp_tree.specs.ExampleStreams as streams
use Rattle.sp_tree.specs.ExampleTransfers as transfers
use Rattle.sp_tree.specs.PlainProgram.{PlainProgram}
use Rattle.sp_tree.specs.PlainStatement.{single, declare, name, set_reg, set_out, set_sram, enq, load_sram, gather, block, foreach, reduce, mem_reduce, fsm, branch, no_stmt}

-- programs of the language's own examples, with the names of their memories
unfoldable pub sum : PlainProgram
sum = named loops.sum_program (codes "x" ∷ codes "y" ∷ []) [] []

unfoldable pub dot_product : PlainProgram
dot_product = named transfers.dot_product (codes "a" ∷ codes "b" ∷ codes "y" ∷ codes "acc" ∷ codes "ta" ∷ codes "tb" ∷ codes "part" ∷ []) [] (codes "t" ∷ codes "i" ∷ [])

unfoldable pub squares : PlainProgram
squares = named transfers.squares (codes "c" ∷ codes "s" ∷ []) [] (codes "i" ∷ [])

unfoldable pub histogram : PlainProgram
histogram = named transfers.histogram (codes "a" ∷ codes "c" ∷ codes "s" ∷ codes "h" ∷ []) (codes "v" ∷ []) (codes "j" ∷ codes "i" ∷ [])

unfoldable pub register_between : PlainProgram
register_between = named loops.register_between (codes "c" ∷ codes "r" ∷ codes "s" ∷ []) [] (codes "i" ∷ [])

unfoldable pub counting_down : PlainProgram
counting_down = named loops.counting_down (codes "x" ∷ codes "y" ∷ codes "n" ∷ []) (codes "s" ∷ codes "s" ∷ codes "s" ∷ []) []

unfoldable pub line_filter : (width : ℕ) → PlainProgram
line_filter width = named (transfers.line_filter width 0) (codes "img" ∷ codes "res" ∷ codes "lb" ∷ codes "o" ∷ codes "s" ∷ []) [] (codes "r" ∷ codes "c" ∷ codes "i" ∷ codes "j" ∷ [])

unfoldable pub overlapping_stores : PlainProgram
overlapping_stores = named transfers.overlapping_stores (codes "b" ∷ codes "s" ∷ []) [] (codes "t" ∷ codes "j" ∷ [])

unfoldable pub queued : (taken : ℕ) → PlainProgram
queued taken = named (loops.queued taken) (codes "c" ∷ codes "f" ∷ codes "s" ∷ []) [] (codes "i" ∷ codes "j" ∷ [])

unfoldable pub memory_reduced : PlainProgram
memory_reduced = named loops.memory_reduced (codes "c" ∷ codes "acc" ∷ codes "p" ∷ []) [] (codes "k" ∷ codes "i" ∷ [])

unfoldable pub mixed_stages : PlainProgram
mixed_stages = named transfers.mixed_stages (codes "a" ∷ codes "acc" ∷ codes "s" ∷ codes "t" ∷ codes "y" ∷ []) [] (codes "k" ∷ codes "i" ∷ [])

unfoldable pub widely_copied : PlainProgram
widely_copied = named streams.widely_copied (codes "a" ∷ codes "b" ∷ codes "s" ∷ []) [] (codes "t" ∷ [])

-- eight words through two FIFOs into a sum; and the same where a second FIFO joins the first two stages
unfoldable pub streamed : PlainProgram
streamed = named (program (mem_of ArgOut int_type [] None ∷ mem_of Reg int_type [] (Some 0) ∷ mem_of Fifo int_type (2 ∷ []) None ∷ mem_of Fifo int_type (2 ∷ []) None ∷ [])
    (stmts (here (declare 1) ∷ here (block Stream streams.doubled) ∷ here (set_out 0 (reg 1)) ∷ [])))
    (codes "y" ∷ codes "acc" ∷ codes "f" ∷ codes "g" ∷ []) [] (codes "i" ∷ codes "j" ∷ codes "k" ∷ [])

unfoldable pub streamed_twice : PlainProgram
streamed_twice = named (program (mem_of ArgOut int_type [] None ∷ mem_of Reg int_type [] (Some 0) ∷ mem_of Fifo int_type (2 ∷ []) None ∷ mem_of Fifo int_type (2 ∷ []) None ∷ mem_of Fifo int_type (2 ∷ []) None ∷ [])
    (stmts (here (declare 1) ∷ here (block Stream streams.joined_twice) ∷ here (set_out 0 (reg 1)) ∷ [])))
    (codes "y" ∷ codes "acc" ∷ codes "f" ∷ codes "g" ∷ codes "h" ∷ []) [] (codes "i" ∷ codes "j" ∷ codes "k" ∷ [])

-- the value v crosses, since a later stage uses another name of it; u doesn't, nor do k and w, which have no operation
unfoldable pub crossing : PlainProgram
crossing = named (program (mem_of ArgIn int_type [] None ∷ mem_of ArgOut int_type [] None ∷ mem_of ArgOut int_type [] None ∷ mem_of Reg int_type [] None ∷ []) (stmts (
    here (declare 3) ∷
    here (name 0 (add (arg 0) (lit 1))) ∷
    here (name 1 (val 0)) ∷
    here (name 2 (lit 5)) ∷
    here (name 3 (mul (val 0) (lit 2))) ∷
    here (set_reg 3 (val 3)) ∷
    here (foreach Pipe (from 0 (lit 0) (val 2) 1 1 ∷ []) (stmts (
    here (set_out 1 (add (add (val 1) (count 0)) (val 2))) ∷
    []))) ∷
    here (set_out 2 (reg 3)) ∷
    []))) (codes "x" ∷ codes "y" ∷ codes "z" ∷ codes "r" ∷ []) (codes "v" ∷ codes "w" ∷ codes "k" ∷ codes "u" ∷ []) (codes "i" ∷ [])

-- a slice whose second range begins at a word of an SRAM, and as many words of a gather as another one says
unfoldable pub early_slices : PlainProgram
early_slices = named (program (mem_of Dram int_type (2 ∷ 8 ∷ []) None ∷ mem_of Dram int_type (4 ∷ []) None ∷ mem_of ArgOut int_type [] None ∷ mem_of Sram int_type (4 ∷ []) None ∷ mem_of Sram int_type (4 ∷ []) None ∷ []) (stmts (
    here (declare 3) ∷
    here (load_sram 3 1 (between (lit 0) (lit 4) ∷ [])) ∷
    here (foreach Sequential (from 0 (lit 0) (lit 2) 1 1 ∷ []) (stmts (
    here (declare 4) ∷
    here (load_sram 4 0 (single (count 0) ∷ between (at 3 (lit 0 ∷ [])) (add (at 3 (lit 0 ∷ [])) (lit 4)) ∷ [])) ∷
    here (gather 4 1 3 (at 3 (lit 1 ∷ []))) ∷
    here (set_out 2 (at 4 (lit 2 ∷ []))) ∷
    []))) ∷
    []))) (codes "a" ∷ codes "q" ∷ codes "y" ∷ codes "p" ∷ codes "s" ∷ []) [] (codes "r" ∷ [])

-- a MemReduce over a matrix, whose body is one run of statements; and a Fold that takes the greatest of three words, which
-- are values of the last run
unfoldable pub folded_matrix : PlainProgram
folded_matrix = named (program (mem_of ArgOut int_type [] None ∷ mem_of Sram int_type (1 ∷ 2 ∷ []) None ∷ mem_of Sram int_type (1 ∷ 2 ∷ []) None ∷ mem_of Reg int_type [] None ∷ []) (stmts (
    here (declare 1) ∷
    here (mem_reduce Pipe 1 (from 0 (lit 0) (lit 3) 1 1 ∷ []) (stmts (
    here (declare 2) ∷
    here (set_sram 2 (exprs (lit 0 ∷ lit 0 ∷ [])) (count 0)) ∷
    here (set_sram 2 (exprs (lit 0 ∷ lit 1 ∷ [])) (lit 7)) ∷
    [])) 2 Add) ∷
    here (declare 3) ∷
    here (set_reg 3 (lit 9)) ∷
    here (reduce Pipe true 3 (from 1 (lit 0) (lit 3) 1 2 ∷ []) (stmts (
    here (block Parallel (stmts (here (foreach Pipe (from 2 (lit 0) (lit 1) 1 1 ∷ []) no_stmt) ∷ []))) ∷
    here (name 0 (at 1 (lit 0 ∷ lit 1 ∷ []))) ∷
    [])) (val 0) Max) ∷
    here (set_out 0 (add (reg 3) (at 1 (lit 0 ∷ lit 0 ∷ [])))) ∷
    []))) (codes "y" ∷ codes "acc" ∷ codes "p" ∷ codes "r" ∷ []) (codes "v" ∷ []) (codes "k" ∷ codes "i" ∷ codes "j" ∷ [])

-- a register and a FIFO that each iteration declares anew
unfoldable pub declared_anew : PlainProgram
declared_anew = named (program (mem_of ArgOut int_type [] None ∷ mem_of Reg int_type [] (Some 7) ∷ mem_of Reg int_type [] (Some 5) ∷ mem_of Fifo int_type (1 ∷ []) None ∷ []) (stmts (
    here (declare 1) ∷
    here (foreach Pipe (from 0 (lit 0) (lit 3) 1 1 ∷ []) (stmts (
    here (declare 2) ∷
    here (declare 3) ∷
    here (enq 3 (reg 2)) ∷
    here (set_reg 2 (add (reg 2) (lit 1))) ∷
    here (set_reg 1 (add (reg 1) (add (reg 2) (oldest 3)))) ∷
    []))) ∷
    here (set_out 0 (reg 1)) ∷
    []))) (codes "y" ∷ codes "q" ∷ codes "r" ∷ codes "f" ∷ []) [] (codes "i" ∷ [])

-- an FSM whose body reduces words that depend on a value and on another name of its state
unfoldable pub reducing_machine : PlainProgram
reducing_machine = named (program (mem_of ArgIn int_type [] None ∷ mem_of ArgOut int_type [] None ∷ mem_of Reg int_type [] (Some 0) ∷ []) (stmts (
    here (declare 2) ∷
    here (name 0 (mul (arg 0) (lit 2))) ∷
    here (fsm (val 0) 1 (gt (val 1) (lit 0)) 2 (stmts (
    here (name 3 (val 2)) ∷
    here (reduce Pipe false 2 (from 0 (lit 0) (val 3) 1 1 ∷ []) no_stmt (add (count 0) (val 3)) Add) ∷
    here (branch (gt (val 2) (lit 2)) (stmts (here (set_out 1 (reg 2)) ∷ [])) no_stmt) ∷
    [])) 4 (sub (val 4) (val 0))) ∷
    []))) (codes "x" ∷ codes "y" ∷ codes "n" ∷ []) (codes "v" ∷ codes "s" ∷ codes "s" ∷ codes "w" ∷ codes "s" ∷ []) (codes "i" ∷ [])
