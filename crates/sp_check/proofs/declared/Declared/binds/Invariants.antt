use Rattle.std.proofs.Common.{◌≡◌, ◌++◌, drop}
use Rattle.sp_reader.specs.PlainProgram.{plain_idents}
use Rattle.sp_typed.specs.Declarations.{texts}
use Rattle.sp_check.specs.Lists.{lists_of}
use Rattle.sp_check.proofs.declared.Declared.binds.Given as goal

abbrev pub invariant-loop-name : goal.invariant-loop-name
invariant-loop-name l =
    record (lists_of l.self) { counters = (lists_of l.self).counters ++ texts (plain_idents (drop l.name-index l.binds)) }
    ≡ record (lists_of l.fn.self) { counters = (lists_of l.fn.self).counters ++ texts (plain_idents l.binds) }
