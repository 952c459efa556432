-- What is said of the rules of names and types.
use Rattle.std.specs.Prelude.{◌≡◌, [], ◌↔◌}
use Rattle.sp_reader.specs.PlainStatement.{PlainSyntax}
use Rattle.sp_tree.specs.Invariant.{IsProgram}
use Rattle.sp_tree.specs.Limits.{IsWithinLimits}
use Rattle.sp_tree.specs.PlainProgram.{PlainProgram}
use Rattle.sp_types.specs.Statements.{refusals}
use Rattle.sp_typed.specs.Programs.{program_of}
use Rattle.sp_typed.specs.ReadTree.{IsReadTree}
use Rattle.sp_rules.specs.StatementRules.{IsRightTree}

-- a tree has a program where it keeps the rules: the one that it spells, and no other
abbrev pub IsTyped : PlainSyntax → PlainProgram → Type 0
IsTyped s p = IsRightTree s × (p ≡ program_of s)

-- a tree that is read has no refusals exactly where it keeps the rules
abbrev pub IsRefusedExactly : PlainSyntax → Type 0
IsRefusedExactly s = IsReadTree s → ((refusals s ≡ []) ↔ IsRightTree s)

-- what a tree that is read has as its program, within the limits, keeps what every program keeps
abbrev pub HasProgram : PlainSyntax → PlainProgram → Type 0
HasProgram s p = IsReadTree s → IsTyped s p → IsWithinLimits p → IsProgram p
