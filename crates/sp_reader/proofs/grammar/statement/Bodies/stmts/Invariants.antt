use Rattle.std.proofs.Common.{◌≡◌, ◌-◌, length, []}
use Rattle.sp_reader.specs.PlainProgram.{plain_stmts}
use Rattle.sp_reader.specs.Steps.{semicolons}
use Rattle.sp_reader.specs.StatementRules.{stmts_from, stmt}
use Rattle.sp_reader.proofs.grammar.statement.Bodies.stmts.Given as goal

abbrev pub invariant-loop-turn : goal.invariant-loop-turn
invariant-loop-turn g l = stmts_from (stmt l.self.parser.source.now l.self.depth) (length l.fn.tokens) [] (semicolons l.fn.tokens) ≡ stmts_from (stmt l.self.parser.source.now l.self.depth) (l._turn-end - l._turn) (plain_stmts l.found.items) l.rest
