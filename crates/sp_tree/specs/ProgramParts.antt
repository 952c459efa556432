-- The parts of a program: all of them plain but the body, which stands as it is declared.
use Rattle.std.specs.Prelude.{ℕ, List}
use Rattle.sp_words.specs.Ports.{PlainPorts}
use Rattle.sp_tree.specs.declared.statement.Stmt.{Stmt}
use Rattle.sp_tree.specs.PlainProgram.{PlainMem, PlainProgram}
use Rattle.sp_tree.specs.PlainTree.{plain_stmts}

pub record ProgramParts : Type 0 where
  pub ports : PlainPorts
  pub mems : List PlainMem
  pub vals : List (List ℕ)
  pub counters : List (List ℕ)
  pub body : List Stmt

-- the program without where its parts lie in memory
abbrev pub plain_program : ProgramParts → PlainProgram
plain_program p = record { ports = p.ports; mems = p.mems; vals = p.vals; counters = p.counters; body = plain_stmts p.body }
