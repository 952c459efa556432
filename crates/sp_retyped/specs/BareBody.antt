-- Statements and programs without their places.
use Rattle.std.specs.Prelude.{◌≡◌, map}
use Rattle.sp_tree.specs.Invariant.{IsProgram}
use Rattle.sp_tree.specs.PlainProgram.{PlainProgram}
use Rattle.sp_tree.specs.PlainStatement.{PlainSpan, single, range, PlainCounter, PlainStmtKind, PlainStmts, stmt, declare, name, set_reg, set_out, set_sram, enq, load_sram, load_line, store, gather, scatter, block, foreach, reduce, mem_reduce, fsm, branch, no_stmt, more_stmt}
use Rattle.sp_reader.specs.PlainStatement.{PlainSyntax}
use Rattle.sp_printed.specs.StatementTrees.{IsProgramTree}
use Rattle.sp_typed.specs.Programs.{program_of}
use Rattle.sp_retyped.specs.Bare.{bare, bare_all}
use Rattle.sp_retyped.specs.BareMems.{bare_mem}

abbrev pub bare_span : PlainSpan → PlainSpan
bare_span (single e) = single (bare e)
bare_span (range a b par) = range (bare a) (bare b) par

abbrev pub bare_counter : PlainCounter → PlainCounter
bare_counter c = record { number = c.number; from = bare c.from; until = bare c.until; step = c.step; par = c.par }

abbrev mutual
  pub bare_body : PlainStmts → PlainStmts
  bare_body no_stmt = no_stmt
  bare_body (more_stmt (stmt place kind) rest) = more_stmt (stmt 0 (bare_stmt kind)) (bare_body rest)

  pub bare_stmt : PlainStmtKind → PlainStmtKind
  bare_stmt (declare m) = declare m
  bare_stmt (name v e) = name v (bare e)
  bare_stmt (set_reg m e) = set_reg m (bare e)
  bare_stmt (set_out m e) = set_out m (bare e)
  bare_stmt (set_sram m indices e) = set_sram m (bare_all indices) (bare e)
  bare_stmt (enq m e) = enq m (bare e)
  bare_stmt (load_sram sram dram spans) = load_sram sram dram (map bare_span spans)
  bare_stmt (load_line line dram spans) = load_line line dram (map bare_span spans)
  bare_stmt (store dram spans sram) = store dram (map bare_span spans) sram
  bare_stmt (gather sram dram places count) = gather sram dram places (bare count)
  bare_stmt (scatter dram places count sram) = scatter dram places (bare count) sram
  bare_stmt (block style body) = block style (bare_body body)
  bare_stmt (foreach style counters body) = foreach style (map bare_counter counters) (bare_body body)
  bare_stmt (reduce style fold acc counters body word comb) = reduce style fold acc (map bare_counter counters) (bare_body body) (bare word) comb
  bare_stmt (mem_reduce style acc counters body part comb) = mem_reduce style acc (map bare_counter counters) (bare_body body) part comb
  bare_stmt (fsm start tested test state body last next) = fsm (bare start) tested (bare test) state (bare_body body) last (bare next)
  bare_stmt (branch test first second) = branch (bare test) (bare_body first) (bare_body second)

-- a program with all places 0
abbrev pub bare_program : PlainProgram → PlainProgram
bare_program p = record { ports = p.ports; mems = map bare_mem p.mems; vals = p.vals; counters = p.counters; body = bare_body p.body }

-- the typed program of a program's tree is the program, but for places
abbrev pub ProgramsComeBack : Type 0
ProgramsComeBack = (p : PlainProgram) (s : PlainSyntax) → IsProgram p → IsProgramTree p s → bare_program (program_of s) ≡ bare_program p
