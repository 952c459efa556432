-- What is said of a tree without refusals.
use Rattle.std.specs.Prelude.{◌≡◌, ℕ, [], All}
use Rattle.sp_words.specs.declared.types.Ty.{Ty}
use Rattle.sp_reader.specs.PlainTree.{PlainExpr}
use Rattle.sp_reader.specs.PlainStatement.{PlainStmts, PlainSyntax}
use Rattle.sp_tree.specs.Declarations.{IsDeclaration}
use Rattle.sp_tree.specs.Footprint.{Names}
use Rattle.sp_tree.specs.Invariant.{IsProgram}
use Rattle.sp_tree.specs.Limits.{IsWithinLimits}
use Rattle.sp_tree.specs.PlainProgram.{PlainProgram}
use Rattle.sp_tree.specs.Typing.{Scope, all_but}
use Rattle.sp_types.specs.declared.own.Ask.{Ask}
use Rattle.sp_types.specs.Expressions.{expr_refusals}
use Rattle.sp_types.specs.Statements.{body_refusals, refusals}
use Rattle.sp_types.specs.Visible.{Visible}
use Rattle.sp_typed.specs.Declarations.{mems_declared, vals_declared, counters_declared}
use Rattle.sp_typed.specs.Expressions.{typed}
use Rattle.sp_typed.specs.Named.{Here}
use Rattle.sp_typed.specs.Programs.{program_of}
use Rattle.sp_typed.specs.ReadTree.{IsReadExpr, IsReadBody, IsReadTree}
use Rattle.sp_typing.specs.Places.{Place, Declares, IsAround, BodyRight}

-- an expression that is read, and has no refusals at a place, names no accumulator around it
abbrev pub IsAlone : PlainProgram → Scope → Here → Visible → Ask → Ty → PlainExpr → Type 0
IsAlone p scope here seen ask ty e =
    Place p scope here.names seen.names → IsReadExpr e → expr_refusals seen ask e ≡ [] → (acc : ℕ) → IsAround p seen acc → Names (all_but p acc) (typed here ty e)

-- a body that is read, and has no refusals at a place, is typed there where the program holds what it declares
abbrev pub IsBodyRight : PlainProgram → Scope → Here → Visible → PlainStmts → Type 0
IsBodyRight p scope here seen ss =
    All IsDeclaration p.mems → Place p scope here.names seen.names → Declares p here (mems_declared ss) (vals_declared ss) (counters_declared ss)
    → IsReadBody ss → body_refusals seen ss ≡ [] → BodyRight p scope here seen ss

-- a tree that is read, has no refusals, and is within the limits spells a program
abbrev pub SpellsProgram : PlainSyntax → Type 0
SpellsProgram s = IsReadTree s → refusals s ≡ [] → IsWithinLimits (program_of s) → IsProgram (program_of s)
