-- A function value that reads statements, for a depth.
use Rattle.std.specs.Prelude.{ℕ, List, Result}
use denote.Ref.{Bor}
use Rattle.sp_reader.specs.declared.token.Token.{Token}
use Rattle.sp_reader.specs.declared.error.Stop.{Stop}
use Rattle.sp_reader.specs.declared.syntax.statement.SynStmt.{SynStmt}
use Rattle.sp_reader.specs.declared.grammar.parser.Parser.{Parser}
use Rattle.sp_reader.specs.PlainProgram.{plain_stmt}
use Rattle.sp_reader.specs.Steps.{Gives}
use Rattle.sp_reader.specs.StatementRules.{stmt}

pub record NestsStatements (depth : ℕ) (pre : Parser → ℕ → Bor (List Token) → Type 0)
    (post : Parser → ℕ → Bor (List Token) → Result (SynStmt × Bor (List Token)) Stop → Type 0) : Type 0 where
  pub callable : (p : Parser) (ts : Bor (List Token)) → pre p depth ts
  pub reads : (p : Parser) (ts : Bor (List Token)) (r : Result (SynStmt × Bor (List Token)) Stop) → post p depth ts r
      → Gives (λ x. (plain_stmt x.0, x.1.now)) r (stmt p.source.now depth ts.now)
