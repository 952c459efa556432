-- Programs as plain values.
use Rattle.std.specs.Prelude.{ℕ, List, [], Option, None}
use Rattle.sp_words.specs.declared.kind.Kind.{Kind}
use Rattle.sp_words.specs.declared.kind.Kind.TheVariants.{Reg}
use Rattle.sp_words.specs.declared.types.Ty.{Ty}
use Rattle.sp_words.specs.declared.types.Ty.TheVariants.{Bit}
use Rattle.sp_words.specs.Ports.{PlainPorts}
use Rattle.sp_tree.specs.PlainStatement.{PlainStmts}

pub record PlainMem : Type 0 where
  pub name : List ℕ
  pub kind : Kind
  pub ty : Ty
  pub dims : List ℕ
  pub start : Option ℕ
  pub place : ℕ

-- what has no declaration
abbrev pub no_mem : PlainMem
no_mem = record { name = []; kind = Reg; ty = Bit; dims = []; start = None; place = 0 }

-- memories, values and counters stand at their numbers
pub record PlainProgram : Type 0 where
  pub ports : PlainPorts
  pub mems : List PlainMem
  pub vals : List (List ℕ)
  pub counters : List (List ℕ)
  pub body : PlainStmts
