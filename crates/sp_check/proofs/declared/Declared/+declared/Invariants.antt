use Rattle.std.proofs.Common.{◌≡◌, drop}
use Rattle.sp_reader.specs.PlainProgram.{plain_stmts}
use Rattle.sp_reader.specs.PlainStatement.{body}
use Rattle.sp_check.specs.Lists.{lists_of, joined, of_body}
use Rattle.sp_check.proofs.declared.Declared.+declared.Given as goal

abbrev pub invariant-body-loop-stmt : goal.invariant-body-loop-stmt
invariant-body-loop-stmt l =
    joined (lists_of l.self) (of_body (body (plain_stmts (drop l.stmt-index l.body)))) ≡ joined (lists_of l.fn.self) (of_body (body (plain_stmts l.body)))
