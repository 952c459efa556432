-- Worked programs: loops, registers and queues.
use Rattle.std.specs.Prelude.{ℕ, true, [], ◌∷◌, Some, None}
use Rattle.sp_words.specs.declared.kind.Kind.TheVariants.{Reg, Sram, Fifo, Dram, ArgIn, ArgOut}
use Rattle.sp_words.specs.declared.kind.Style.TheVariants.{Pipe}
use Rattle.sp_words.specs.Types.{int_type}
use Rattle.sp_tree.specs.declared.statement.Comb.TheVariants.{Add}
use Rattle.sp_tree.specs.ExampleForms.{lit, count, val, reg, arg, at, add, sub, mul, gt, exprs, from, between, here, at_place, stmts, mem_of, program}
use Rattle.sp_tree.specs.PlainExpression.{expr, get_sram, deq}
use Rattle.sp_tree.specs.PlainProgram.{PlainProgram}
use Rattle.sp_tree.specs.PlainStatement.{declare, set_reg, set_out, set_sram, enq, store, block, foreach, reduce, mem_reduce, fsm, no_stmt}

-- `y := x + 3`
unfoldable pub sum_program : PlainProgram
sum_program = program (mem_of ArgIn int_type [] None ∷ mem_of ArgOut int_type [] None ∷ []) (stmts (
    here (set_out 1 (add (arg 0) (lit 3))) ∷
    []))

-- `Foreach(0 by 1){ i => y := i }`
unfoldable pub one_iteration : PlainProgram
one_iteration = program (mem_of ArgOut int_type [] None ∷ []) (stmts (
    here (foreach Pipe (from 0 (lit 0) (lit 0) 1 1 ∷ []) (stmts (
    here (set_out 0 (count 0)) ∷
    []))) ∷
    []))

-- `Foreach(15 until 0){ i => y := i }`
unfoldable pub no_iteration : PlainProgram
no_iteration = program (mem_of ArgOut int_type [] None ∷ []) (stmts (
    here (foreach Pipe (from 0 (lit 15) (lit 0) 1 1 ∷ []) (stmts (
    here (set_out 0 (count 0)) ∷
    []))) ∷
    []))

-- `Fold(acc)(4 by 1){ i => i }{_ + _}` after `acc := 10`
unfoldable pub folded : PlainProgram
folded = program (mem_of ArgOut int_type [] None ∷ mem_of Reg int_type [] None ∷ []) (stmts (
    here (declare 1) ∷
    here (set_reg 1 (lit 10)) ∷
    here (reduce Pipe true 1 (from 0 (lit 0) (lit 4) 1 1 ∷ []) no_stmt (count 0) Add) ∷
    here (set_out 0 (reg 1)) ∷
    []))

-- a Fold of a register that nothing wrote
unfoldable pub unwritten_fold : PlainProgram
unwritten_fold = program (mem_of ArgOut int_type [] None ∷ mem_of Reg int_type [] None ∷ []) (stmts (
    here (declare 1) ∷
    at_place 9 (reduce Pipe true 1 (from 0 (lit 0) (lit 4) 1 1 ∷ []) no_stmt (count 0) Add) ∷
    []))

-- `FSM(x)(s => s > 0){ s => n := n + s }{ s => s - 1 }`
unfoldable pub counting_down : PlainProgram
counting_down = program (mem_of ArgIn int_type [] None ∷ mem_of ArgOut int_type [] None ∷ mem_of Reg int_type [] (Some 0) ∷ []) (stmts (
    here (declare 2) ∷
    here (fsm (arg 0) 0 (gt (val 0) (lit 0)) 1 (stmts (
    here (set_reg 2 (add (reg 2) (val 1))) ∷
    [])) 2 (sub (val 2) (lit 1))) ∷
    here (set_out 1 (reg 2)) ∷
    []))

-- one block writes a register and the next reads it
unfoldable pub register_between : PlainProgram
register_between = program (mem_of Dram int_type (4 ∷ []) None ∷ mem_of Reg int_type [] (Some 0) ∷ mem_of Sram int_type (4 ∷ []) None ∷ []) (stmts (
    here (declare 1) ∷
    here (declare 2) ∷
    here (foreach Pipe (from 0 (lit 0) (lit 4) 1 1 ∷ []) (stmts (
    here (block Pipe (stmts (
    here (set_reg 1 (count 0)) ∷
    []))) ∷
    here (block Pipe (stmts (
    here (set_sram 2 (exprs (count 0 ∷ [])) (add (reg 1) (lit 10))) ∷
    []))) ∷
    []))) ∷
    here (store 0 (between (lit 0) (lit 4) ∷ []) 2) ∷
    []))

-- `val y = ArgOut[Int]; Accel { val s = SRAM[Int](2); y := s(INDEX) }`
unfoldable pub early_read : (index : ℕ) → PlainProgram
early_read index = program (mem_of ArgOut int_type [] None ∷ mem_of Sram int_type (2 ∷ []) None ∷ []) (stmts (
    at_place 30 (declare 1) ∷
    at_place 51 (set_out 0 (expr 56 int_type (get_sram 1 (exprs (lit index ∷ []))))) ∷
    []))

-- `val y = ArgOut[Int]; Accel { val f = FIFO[Int](4); Foreach(5 by 1){ i => f.enq(i) } }`
unfoldable pub full_queue : PlainProgram
full_queue = program (mem_of ArgOut int_type [] None ∷ mem_of Fifo int_type (4 ∷ []) None ∷ []) (stmts (
    at_place 30 (declare 1) ∷
    at_place 51 (foreach Pipe (from 0 (lit 0) (lit 5) 1 1 ∷ []) (stmts (
    at_place 73 (enq 1 (count 0)) ∷
    []))) ∷
    []))

-- squares through a FIFO, of which so many are taken, at place 7
unfoldable pub queued : (taken : ℕ) → PlainProgram
queued taken = program (mem_of Dram int_type (4 ∷ []) None ∷ mem_of Fifo int_type (4 ∷ []) None ∷ mem_of Sram int_type (4 ∷ []) None ∷ []) (stmts (
    here (declare 1) ∷
    here (declare 2) ∷
    here (foreach Pipe (from 0 (lit 0) (lit 4) 1 1 ∷ []) (stmts (
    here (enq 1 (mul (count 0) (count 0))) ∷
    []))) ∷
    here (foreach Pipe (from 1 (lit 0) (lit taken) 1 1 ∷ []) (stmts (
    here (set_sram 2 (exprs (count 1 ∷ [])) (expr 7 int_type (deq 1))) ∷
    []))) ∷
    here (store 0 (between (lit 0) (lit 4) ∷ []) 2) ∷
    []))

-- a MemReduce over three iterations
unfoldable pub memory_reduced : PlainProgram
memory_reduced = program (mem_of Dram int_type (2 ∷ []) None ∷ mem_of Sram int_type (2 ∷ []) None ∷ mem_of Sram int_type (2 ∷ []) None ∷ []) (stmts (
    here (declare 1) ∷
    here (mem_reduce Pipe 1 (from 0 (lit 0) (lit 3) 1 1 ∷ []) (stmts (
    here (declare 2) ∷
    here (foreach Pipe (from 1 (lit 0) (lit 2) 1 1 ∷ []) (stmts (
    here (set_sram 2 (exprs (count 1 ∷ [])) (add (mul (count 0) (lit 10)) (count 1))) ∷
    []))) ∷
    [])) 2 Add) ∷
    here (store 0 (between (lit 0) (lit 2) ∷ []) 1) ∷
    []))

-- `s(i) = s(i - 1) + 1`
unfoldable pub recurrence : PlainProgram
recurrence = program (mem_of Dram int_type (8 ∷ []) None ∷ mem_of Sram int_type (8 ∷ []) None ∷ []) (stmts (
    here (declare 1) ∷
    here (set_sram 1 (exprs (lit 0 ∷ [])) (lit 0)) ∷
    here (foreach Pipe (from 0 (lit 1) (lit 8) 1 4 ∷ []) (stmts (
    here (set_sram 1 (exprs (count 0 ∷ [])) (add (at 1 (sub (count 0) (lit 1) ∷ [])) (lit 1))) ∷
    []))) ∷
    here (store 0 (between (lit 0) (lit 8) ∷ []) 1) ∷
    []))

-- `s(i) = s(i - 4) + 1`
unfoldable pub far_recurrence : PlainProgram
far_recurrence = program (mem_of Dram int_type (16 ∷ []) None ∷ mem_of Sram int_type (16 ∷ []) None ∷ []) (stmts (
    here (declare 1) ∷
    here (foreach Pipe (from 0 (lit 0) (lit 4) 1 1 ∷ []) (stmts (
    here (set_sram 1 (exprs (count 0 ∷ [])) (lit 0)) ∷
    []))) ∷
    here (foreach Pipe (from 1 (lit 4) (lit 16) 1 4 ∷ []) (stmts (
    here (set_sram 1 (exprs (count 1 ∷ [])) (add (at 1 (sub (count 1) (lit 4) ∷ [])) (lit 1))) ∷
    []))) ∷
    here (store 0 (between (lit 0) (lit 16) ∷ []) 1) ∷
    []))

-- the sum of 0 to 4 in a register
unfoldable pub running_sum : PlainProgram
running_sum = program (mem_of ArgOut int_type [] None ∷ mem_of Reg int_type [] (Some 0) ∷ []) (stmts (
    here (declare 1) ∷
    here (foreach Pipe (from 0 (lit 0) (lit 5) 1 1 ∷ []) (stmts (
    here (set_reg 1 (add (reg 1) (count 0))) ∷
    []))) ∷
    here (set_out 0 (reg 1)) ∷
    []))

-- two loops of a hundred iterations, one after the other
unfoldable pub two_loops : PlainProgram
two_loops = program (mem_of ArgOut int_type [] None ∷ mem_of Sram int_type (100 ∷ []) None ∷ mem_of Sram int_type (100 ∷ []) None ∷ []) (stmts (
    here (declare 1) ∷
    here (declare 2) ∷
    here (foreach Pipe (from 0 (lit 0) (lit 100) 1 1 ∷ []) (stmts (
    here (set_sram 1 (exprs (count 0 ∷ [])) (count 0)) ∷
    []))) ∷
    here (foreach Pipe (from 1 (lit 0) (lit 100) 1 1 ∷ []) (stmts (
    here (set_sram 2 (exprs (count 1 ∷ [])) (add (at 1 (count 1 ∷ [])) (lit 1))) ∷
    []))) ∷
    here (set_out 0 (at 2 (lit 99 ∷ []))) ∷
    []))
