use Rattle.std.proofs.Common.{◌≡◌, ◌++◌, drop}
use Rattle.sp_reader.specs.PlainProgram.{plain_decls}
use Rattle.sp_typed.specs.Declarations.{ports_declared}
use Rattle.sp_check.specs.Lists.{lists_of}
use Rattle.sp_check.proofs.declared.Declared.ports.Given as goal

abbrev pub invariant-loop-decl : goal.invariant-loop-decl
invariant-loop-decl l =
    record (lists_of l.self) { mems = (lists_of l.self).mems ++ ports_declared (plain_decls (drop l.decl-index l.decls)) }
    ≡ record (lists_of l.fn.self) { mems = (lists_of l.fn.self).mems ++ ports_declared (plain_decls l.decls) }
