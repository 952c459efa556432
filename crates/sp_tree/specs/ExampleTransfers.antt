-- Worked programs: DRAMs, slices and line buffers.
use Rattle.std.specs.Prelude.{ℕ, false, [], ◌∷◌, Some, None}
use Rattle.sp_words.specs.declared.kind.Kind.TheVariants.{Reg, Sram, LineBuf, Dram, ArgOut}
use Rattle.sp_words.specs.declared.kind.Style.TheVariants.{Pipe}
use Rattle.sp_words.specs.Types.{int_type}
use Rattle.sp_tree.specs.declared.statement.Comb.TheVariants.{Add}
use Rattle.sp_tree.specs.ExampleForms.{lit, count, val, reg, at, in_line, add, sub, mul, ge, exprs, from, between, here, at_place, stmts, mem_of, long_type, program}
use Rattle.sp_tree.specs.PlainProgram.{PlainProgram}
use Rattle.sp_tree.specs.PlainStatement.{single, declare, name, set_out, set_sram, load_sram, load_line, store, foreach, reduce, branch, no_stmt}

-- the dot product of two DRAMs, in tiles of 16
unfoldable pub dot_product : PlainProgram
dot_product = program (mem_of Dram int_type (64 ∷ []) None ∷ mem_of Dram int_type (64 ∷ []) None ∷ mem_of ArgOut int_type [] None ∷ mem_of Reg int_type [] (Some 0) ∷ mem_of Sram int_type (16 ∷ []) None ∷ mem_of Sram int_type (16 ∷ []) None ∷ mem_of Reg int_type [] (Some 0) ∷ []) (stmts (
    here (declare 3) ∷
    here (reduce Pipe false 3 (from 0 (lit 0) (lit 64) 16 1 ∷ []) (stmts (
    here (declare 4) ∷
    here (declare 5) ∷
    here (load_sram 4 0 (between (count 0) (add (count 0) (lit 16)) ∷ [])) ∷
    here (load_sram 5 1 (between (count 0) (add (count 0) (lit 16)) ∷ [])) ∷
    here (declare 6) ∷
    here (reduce Pipe false 6 (from 1 (lit 0) (lit 16) 1 4 ∷ []) no_stmt (mul (at 4 (count 1 ∷ [])) (at 5 (count 1 ∷ []))) Add) ∷
    [])) (reg 6) Add) ∷
    here (set_out 2 (reg 3)) ∷
    []))

-- `s(i) = i * i` with four lanes, the last group of which has two
unfoldable pub squares : PlainProgram
squares = program (mem_of Dram int_type (10 ∷ []) None ∷ mem_of Sram int_type (10 ∷ []) None ∷ []) (stmts (
    here (declare 1) ∷
    here (foreach Pipe (from 0 (lit 0) (lit 10) 1 4 ∷ []) (stmts (
    here (set_sram 1 (exprs (count 0 ∷ [])) (mul (count 0) (count 0))) ∷
    []))) ∷
    here (store 0 (between (lit 0) (lit 10) ∷ []) 1) ∷
    []))

-- how often each of 0 to 3 stands in a DRAM
unfoldable pub histogram : PlainProgram
histogram = program (mem_of Dram int_type (8 ∷ []) None ∷ mem_of Dram int_type (4 ∷ []) None ∷ mem_of Sram int_type (8 ∷ []) None ∷ mem_of Sram int_type (4 ∷ []) None ∷ []) (stmts (
    here (declare 2) ∷
    here (declare 3) ∷
    here (load_sram 2 0 (between (lit 0) (lit 8) ∷ [])) ∷
    here (foreach Pipe (from 0 (lit 0) (lit 4) 1 1 ∷ []) (stmts (
    here (set_sram 3 (exprs (count 0 ∷ [])) (lit 0)) ∷
    []))) ∷
    here (foreach Pipe (from 1 (lit 0) (lit 8) 1 1 ∷ []) (stmts (
    here (name 0 (at 2 (count 1 ∷ []))) ∷
    here (set_sram 3 (exprs (val 0 ∷ [])) (add (at 3 (val 0 ∷ [])) (lit 1))) ∷
    []))) ∷
    here (store 1 (between (lit 0) (lit 4) ∷ []) 3) ∷
    []))

-- a matrix, column by column
unfoldable pub transposed : PlainProgram
transposed = program (mem_of Dram int_type (16 ∷ []) None ∷ mem_of Sram int_type (4 ∷ 4 ∷ []) None ∷ mem_of Sram int_type (16 ∷ []) None ∷ []) (stmts (
    here (declare 1) ∷
    here (declare 2) ∷
    here (foreach Pipe (from 0 (lit 0) (lit 4) 1 1 ∷ from 1 (lit 0) (lit 4) 1 4 ∷ []) (stmts (
    here (set_sram 1 (exprs (count 0 ∷ count 1 ∷ [])) (add (mul (count 0) (lit 4)) (count 1))) ∷
    []))) ∷
    here (foreach Pipe (from 2 (lit 0) (lit 4) 1 1 ∷ from 3 (lit 0) (lit 4) 1 4 ∷ []) (stmts (
    here (set_sram 2 (exprs (add (mul (count 2) (lit 4)) (count 3) ∷ [])) (at 1 (count 3 ∷ count 2 ∷ []))) ∷
    []))) ∷
    here (store 0 (between (lit 0) (lit 16) ∷ []) 2) ∷
    []))

-- `o(i) = s(i) + s(i + 2)`
unfoldable pub sums_of_two : PlainProgram
sums_of_two = program (mem_of Dram int_type (8 ∷ []) None ∷ mem_of Dram int_type (6 ∷ []) None ∷ mem_of Sram int_type (8 ∷ []) None ∷ mem_of Sram int_type (6 ∷ []) None ∷ []) (stmts (
    here (declare 2) ∷
    here (declare 3) ∷
    here (load_sram 2 0 (between (lit 0) (lit 8) ∷ [])) ∷
    here (foreach Pipe (from 0 (lit 0) (lit 6) 1 1 ∷ []) (stmts (
    here (set_sram 3 (exprs (count 0 ∷ [])) (add (at 2 (count 0 ∷ [])) (at 2 (add (count 0) (lit 2) ∷ [])))) ∷
    []))) ∷
    here (store 1 (between (lit 0) (lit 6) ∷ []) 3) ∷
    []))

-- `o(i) = s(i) + s(i + 2) + s(i + 4)`
unfoldable pub sums_of_three : PlainProgram
sums_of_three = program (mem_of Dram int_type (8 ∷ []) None ∷ mem_of Dram int_type (4 ∷ []) None ∷ mem_of Sram int_type (8 ∷ []) None ∷ mem_of Sram int_type (4 ∷ []) None ∷ []) (stmts (
    here (declare 2) ∷
    here (declare 3) ∷
    here (load_sram 2 0 (between (lit 0) (lit 8) ∷ [])) ∷
    here (foreach Pipe (from 0 (lit 0) (lit 4) 1 1 ∷ []) (stmts (
    here (set_sram 3 (exprs (count 0 ∷ [])) (add (add (at 2 (count 0 ∷ [])) (at 2 (add (count 0) (lit 2) ∷ []))) (at 2 (add (count 0) (lit 4) ∷ [])))) ∷
    []))) ∷
    here (store 1 (between (lit 0) (lit 4) ∷ []) 3) ∷
    []))

-- `o(i) = t(p(i))`
unfoldable pub gathered : PlainProgram
gathered = program (mem_of Dram int_type (8 ∷ []) None ∷ mem_of Dram int_type (8 ∷ []) None ∷ mem_of Dram int_type (8 ∷ []) None ∷ mem_of Sram int_type (8 ∷ []) None ∷ mem_of Sram int_type (8 ∷ []) None ∷ mem_of Sram int_type (8 ∷ []) None ∷ []) (stmts (
    here (declare 3) ∷
    here (declare 4) ∷
    here (declare 5) ∷
    here (load_sram 3 0 (between (lit 0) (lit 8) ∷ [])) ∷
    here (load_sram 4 1 (between (lit 0) (lit 8) ∷ [])) ∷
    here (foreach Pipe (from 0 (lit 0) (lit 8) 1 4 ∷ []) (stmts (
    here (set_sram 5 (exprs (count 0 ∷ [])) (at 3 (at 4 (count 0 ∷ []) ∷ []))) ∷
    []))) ∷
    here (store 2 (between (lit 0) (lit 8) ∷ []) 5) ∷
    []))

-- sums of three rows and three columns of an image, by a line buffer; its load begins at a place
unfoldable pub line_filter : (width : ℕ) → (place : ℕ) → PlainProgram
line_filter width place = program (mem_of Dram int_type (4 ∷ 5 ∷ []) None ∷ mem_of Dram int_type (2 ∷ 3 ∷ []) None ∷ mem_of LineBuf int_type (3 ∷ width ∷ []) None ∷ mem_of Sram int_type (3 ∷ []) None ∷ mem_of Reg int_type [] (Some 0) ∷ []) (stmts (
    here (declare 2) ∷
    here (declare 3) ∷
    here (foreach Pipe (from 0 (lit 0) (lit 4) 1 1 ∷ []) (stmts (
    at_place place (load_line 2 0 (single (count 0) ∷ between (lit 0) (lit 5) ∷ [])) ∷
    here (branch (ge (count 0) (lit 2)) (stmts (
    here (foreach Pipe (from 1 (lit 0) (lit 3) 1 1 ∷ []) (stmts (
    here (declare 4) ∷
    here (reduce Pipe false 4 (from 2 (lit 0) (lit 3) 1 1 ∷ from 3 (lit 0) (lit 3) 1 1 ∷ []) no_stmt (in_line 2 (count 2) (add (count 1) (count 3))) Add) ∷
    here (set_sram 3 (exprs (count 1 ∷ [])) (reg 4)) ∷
    []))) ∷
    here (store 1 (single (sub (count 0) (lit 2)) ∷ between (lit 0) (lit 3) ∷ []) 3) ∷
    [])) no_stmt) ∷
    []))) ∷
    []))

-- a DRAM to another in tiles of four
unfoldable pub copied : PlainProgram
copied = program (mem_of Dram int_type (8 ∷ []) None ∷ mem_of Dram int_type (8 ∷ []) None ∷ mem_of Sram int_type (4 ∷ []) None ∷ []) (stmts (
    here (foreach Pipe (from 0 (lit 0) (lit 8) 4 1 ∷ []) (stmts (
    here (declare 2) ∷
    here (load_sram 2 0 (between (count 0) (add (count 0) (lit 4)) ∷ [])) ∷
    here (store 1 (between (count 0) (add (count 0) (lit 4)) ∷ []) 2) ∷
    []))) ∷
    []))

-- slices that meet, in the order of the iterations
unfoldable pub overlapping_stores : PlainProgram
overlapping_stores = program (mem_of Dram int_type (5 ∷ []) None ∷ mem_of Sram int_type (2 ∷ []) None ∷ []) (stmts (
    here (foreach Pipe (from 0 (lit 0) (lit 4) 1 2 ∷ []) (stmts (
    here (declare 1) ∷
    here (foreach Pipe (from 1 (lit 0) (lit 2) 1 1 ∷ []) (stmts (
    here (set_sram 1 (exprs (count 1 ∷ [])) (count 0)) ∷
    []))) ∷
    here (store 0 (between (count 0) (add (count 0) (lit 2)) ∷ []) 1) ∷
    []))) ∷
    []))

-- nothing, beside a DRAM of 64-bit words
unfoldable pub wide_words : PlainProgram
wide_words = program (mem_of Dram long_type (2 ∷ []) None ∷ []) no_stmt

-- a slice without words, outside of its DRAM, is no fault
unfoldable pub empty_slice : PlainProgram
empty_slice = program (mem_of Dram int_type (4 ∷ []) None ∷ mem_of Sram int_type (4 ∷ []) None ∷ []) (stmts (
    here (declare 1) ∷
    here (load_sram 1 0 (between (lit 9) (lit 9) ∷ [])) ∷
    []))

-- a slice that ends outside of its DRAM
unfoldable pub slice_outside : PlainProgram
slice_outside = program (mem_of Dram int_type (4 ∷ []) None ∷ mem_of Sram int_type (8 ∷ []) None ∷ []) (stmts (
    here (declare 1) ∷
    at_place 5 (load_sram 1 0 (between (lit 1) (lit 5) ∷ [])) ∷
    []))

-- a slice longer than its SRAM
unfoldable pub long_slice : PlainProgram
long_slice = program (mem_of Dram int_type (4 ∷ []) None ∷ mem_of Sram int_type (2 ∷ []) None ∷ []) (stmts (
    here (declare 1) ∷
    at_place 5 (load_sram 1 0 (between (lit 1) (lit 4) ∷ [])) ∷
    []))

-- a Reduce of two lanes over a body of stages, one of which computes a bound
unfoldable pub mixed_stages : PlainProgram
mixed_stages = program (mem_of Dram int_type (4 ∷ []) None ∷ mem_of Reg int_type [] None ∷ mem_of Sram int_type (4 ∷ []) None ∷ mem_of Sram int_type (2 ∷ []) None ∷ mem_of ArgOut int_type [] None ∷ []) (stmts (
    here (declare 1) ∷
    here (reduce Pipe false 1 (from 0 (lit 0) (lit 4) 1 2 ∷ []) (stmts (
    here (declare 2) ∷
    here (declare 3) ∷
    here (load_sram 2 0 (between (lit 0) (lit 4) ∷ [])) ∷
    here (set_sram 3 (exprs (lit 0 ∷ [])) (add (at 2 (count 0 ∷ [])) (lit 1))) ∷
    here (foreach Pipe (from 1 (at 2 (lit 0 ∷ [])) (at 3 (lit 0 ∷ [])) 1 1 ∷ []) (stmts (
    here (set_sram 3 (exprs (lit 1 ∷ [])) (mul (at 3 (lit 0 ∷ [])) (count 1))) ∷
    []))) ∷
    here (set_sram 3 (exprs (lit 0 ∷ [])) (lit 7)) ∷
    [])) (add (at 3 (lit 1 ∷ [])) (at 2 (lit 2 ∷ []))) Add) ∷
    here (set_out 4 (reg 1)) ∷
    []))
