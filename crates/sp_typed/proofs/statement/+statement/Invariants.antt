use Rattle.std.proofs.Common.{◌≡◌, drop}
use Rattle.sp_reader.specs.PlainProgram.{plain_stmts}
use Rattle.sp_reader.specs.PlainStatement.{body}
use Rattle.sp_tree.specs.PlainTree as program
use Rattle.sp_typed.specs.Declarations.{after_all}
use Rattle.sp_typed.specs.Plain.{here_of}
use Rattle.sp_typed.specs.Statements.{body_typed}
use Rattle.sp_typed.proofs.StatementLemmas.{joined_stmts}
use Rattle.sp_typed.proofs.statement.+statement.Given as goal

abbrev pub invariant-body_typed-loop-stmt : goal.invariant-body_typed-loop-stmt
invariant-body_typed-loop-stmt l =
    (after_all (here_of l.scope) (body (plain_stmts (drop l.stmt-index l.body))) ≡ after_all (here_of l.fn.scope) (body (plain_stmts l.body)))
    × (joined_stmts (program.plain_stmts l.typed_body.items) (body_typed (here_of l.scope) (body (plain_stmts (drop l.stmt-index l.body)))) ≡ body_typed (here_of l.fn.scope) (body (plain_stmts l.body)))
