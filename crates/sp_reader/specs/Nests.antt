-- A function value that reads expressions, for a depth.
use Rattle.std.specs.Prelude.{ℕ, List, Result}
use denote.Ref.{Bor}
use Rattle.sp_reader.specs.declared.token.Token.{Token}
use Rattle.sp_reader.specs.declared.error.Stop.{Stop}
use Rattle.sp_reader.specs.declared.syntax.expression.SynExpr.{SynExpr}
use Rattle.sp_reader.specs.declared.grammar.parser.Parser.{Parser}
use Rattle.sp_reader.specs.Plain.{plain_expr}
use Rattle.sp_reader.specs.Steps.{Gives}
use Rattle.sp_reader.specs.ExpressionRules.{expr}

pub record Nests (depth : ℕ) (pre : Parser → ℕ → ℕ → Bor (List Token) → Type 0)
    (post : Parser → ℕ → ℕ → Bor (List Token) → Result (SynExpr × Bor (List Token)) Stop → Type 0) : Type 0 where
  pub callable : (p : Parser) (level : ℕ) (ts : Bor (List Token)) → pre p depth level ts
  pub reads : (p : Parser) (level : ℕ) (ts : Bor (List Token)) (r : Result (SynExpr × Bor (List Token)) Stop) → post p depth level ts r
      → Gives (λ x. (plain_expr x.0, x.1.now)) r (expr p.source.now depth level ts.now)
