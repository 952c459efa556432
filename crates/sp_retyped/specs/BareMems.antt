-- Memories without their places, and what a tree declares.
use Rattle.std.specs.Prelude.{◌≡◌, map}
use Rattle.sp_tree.specs.Invariant.{IsProgram}
use Rattle.sp_tree.specs.PlainProgram.{PlainMem, PlainProgram}
use Rattle.sp_reader.specs.PlainStatement.{PlainSyntax}
use Rattle.sp_printed.specs.StatementTrees.{IsProgramTree}
use Rattle.sp_typed.specs.Programs.{program_of}

abbrev pub bare_mem : PlainMem → PlainMem
bare_mem m = record { name = m.name; kind = m.kind; ty = m.ty; dims = m.dims; start = m.start; place = 0 }

-- two programs declare the same memories, but for places, values and counters, and have the same ports
pub record DeclareAlike (p q : PlainProgram) : Type 0 where
  pub mems : map bare_mem p.mems ≡ map bare_mem q.mems
  pub vals : p.vals ≡ q.vals
  pub counters : p.counters ≡ q.counters
  pub ports : p.ports ≡ q.ports

-- the typed program of a program's tree declares what the program does
abbrev pub DeclarationsComeBack : Type 0
DeclarationsComeBack = (p : PlainProgram) (s : PlainSyntax) → IsProgram p → IsProgramTree p s → DeclareAlike (program_of s) p
