use Rattle.std.proofs.Common.{rules, arith, length, []}
use Rattle.std.proofs.lemmas.Grind.{common_steps}
use Rattle.sp_reader.specs.Plain.{plain_expr}
use Rattle.sp_reader.specs.ExpressionRules.{chain_from, expr}
use Rattle.sp_reader.proofs.Turns.{one_more, no_more}
use Rattle.sp_reader.proofs.grammar.expression.Operands.chain_from.Goals as goal

pub returns-in_err-whole-in-Some : goal.returns-in_err-whole-in-Some
unfolding chain_from
returns-in_err-whole-in-Some g c =
    let e = one_more (λ n. chain_from c.args.self.now.parser.source.now (expr c.args.self.now.parser.source.now c.args.self.now.depth) c.args.level n (plain_expr c.loop-turn.left) c.loop-turn.rest.now) _ c.loop-turn._turn c.loop-turn-test.true c.loop-turn.invariant in
    first_of (search rules, grind (arith, common_steps))

pub returns-in_default : goal.returns-in_default
unfolding chain_from
returns-in_default g c =
    let e = one_more (λ n. chain_from c.args.self.now.parser.source.now (expr c.args.self.now.parser.source.now c.args.self.now.depth) c.args.level n (plain_expr c.loop-turn.left) c.loop-turn.rest.now) _ c.loop-turn._turn c.loop-turn-test.true c.loop-turn.invariant in
    first_of (search rules, grind (arith, common_steps))

pub loop-turn-preserved : goal.loop-turn-preserved
unfolding chain_from
loop-turn-preserved g c =
    let e = one_more (λ n. chain_from c.args.self.now.parser.source.now (expr c.args.self.now.parser.source.now c.args.self.now.depth) c.args.level n (plain_expr c.loop-turn.left) c.loop-turn.rest.now) _ c.loop-turn._turn c.loop-turn-test.true c.loop-turn.invariant in
    first_of (search rules, grind (arith, common_steps))

pub returns : goal.returns
unfolding chain_from
returns g c =
    let e = no_more (λ n. chain_from c.args.self.now.parser.source.now (expr c.args.self.now.parser.source.now c.args.self.now.depth) c.args.level n (plain_expr c.loop-turn.left) c.loop-turn.rest.now) _ c.loop-turn._turn c.loop-turn-test.false c.loop-turn.invariant in
    first_of (search rules, grind (arith, common_steps))
