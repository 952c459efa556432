use Rattle.std.proofs.Common.{◌≡◌, drop}
use Rattle.sp_reader.specs.PlainProgram.{plain_stmts}
use Rattle.sp_reader.specs.PlainStatement.{body}
use Rattle.sp_types.specs.First.{notes}
use Rattle.sp_types.specs.Plain.{visible_of}
use Rattle.sp_types.specs.Statements.{after_all, body_refusals}
use Rattle.sp_types.proofs.statement.+statement.Given as goal

abbrev pub invariant-check_body-loop-stmt : goal.invariant-check_body-loop-stmt
invariant-check_body-loop-stmt l =
    (after_all (visible_of l.scope) (body (plain_stmts (drop l.stmt-index l.body))) ≡ after_all (visible_of l.fn.scope) (body (plain_stmts l.body)))
    × (notes l.finding.first (body_refusals (visible_of l.scope) (body (plain_stmts (drop l.stmt-index l.body)))) ≡ notes l.fn.finding.first (body_refusals (visible_of l.fn.scope) (body (plain_stmts l.body))))
