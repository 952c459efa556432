use Rattle.std.proofs.Common.{◌≡◌, ap, arith, rules}
use Rattle.std.proofs.lemmas.Grind.{common_steps}
use Rattle.sp_reader.specs.StatementRules.{stmt}
use Rattle.sp_reader.proofs.Turns.{deeper}
use Rattle.sp_reader.proofs.grammar.statement.+stmt.Goals as goal

pub returns-then-depth-eq0 : goal.returns-then-depth-eq0
unfolding stmt
returns-then-depth-eq0 t c =
    let none : c.args.depth ≡ 0 = omega arith in
    let e = ap (λ n. stmt c.args.parser.source.now n c.args.tokens.now) none in
    first_of (search rules, grind (arith, common_steps))

pub returns-in_err-kind : goal.returns-in_err-kind
unfolding stmt
returns-in_err-kind t c =
    let e = deeper (λ n. stmt c.args.parser.source.now n c.args.tokens.now) c.args.depth (omega arith) in
    first_of (search rules, grind (arith, common_steps))

pub returns : goal.returns
unfolding stmt
returns t c =
    let e = deeper (λ n. stmt c.args.parser.source.now n c.args.tokens.now) c.args.depth (omega arith) in
    first_of (search rules, grind (arith, common_steps))
