use Rattle.std.proofs.Common.{◌≡◌, ◌-◌, length, []}
use Rattle.sp_reader.specs.PlainProgram.{plain_stmts}
use Rattle.sp_reader.specs.Steps.{semicolons}
use Rattle.sp_reader.specs.StatementRules.{valued_from, stmt}
use Rattle.sp_reader.proofs.grammar.statement.Bodies.valued.Given as goal

abbrev pub invariant-loop-turn : goal.invariant-loop-turn
invariant-loop-turn g l = valued_from l.self.parser.source.now (stmt l.self.parser.source.now l.self.depth) (length l.fn.tokens) [] (semicolons l.fn.tokens) ≡ valued_from l.self.parser.source.now (stmt l.self.parser.source.now l.self.depth) (l._turn-end - l._turn) (plain_stmts l.found.items) l.rest
