use Rattle.std.proofs.Common.{rules, arith, length, []}
use Rattle.std.proofs.lemmas.Grind.{common_steps}
use Rattle.sp_reader.specs.Plain.{plain_expr}
use Rattle.sp_reader.specs.ExpressionRules.{casts_from}
use Rattle.sp_reader.proofs.Turns.{one_more, no_more}
use Rattle.sp_reader.proofs.grammar.parser.Parser.casts.Goals as goal

pub returns-then-not-sees : goal.returns-then-not-sees
unfolding casts_from
returns-then-not-sees c =
    let e = one_more (λ n. casts_from c.args.self.now.source.now c.args.at n (plain_expr c.loop-turn.whole) c.loop-turn.rest.now) _ c.loop-turn._turn c.loop-turn-test.true c.loop-turn.invariant in
    first_of (search rules, grind (arith, common_steps))

pub returns-in_err-ty : goal.returns-in_err-ty
unfolding casts_from
returns-in_err-ty c =
    let e = one_more (λ n. casts_from c.args.self.now.source.now c.args.at n (plain_expr c.loop-turn.whole) c.loop-turn.rest.now) _ c.loop-turn._turn c.loop-turn-test.true c.loop-turn.invariant in
    first_of (search rules, grind (arith, common_steps))

pub loop-turn-preserved : goal.loop-turn-preserved
unfolding casts_from
loop-turn-preserved c =
    let e = one_more (λ n. casts_from c.args.self.now.source.now c.args.at n (plain_expr c.loop-turn.whole) c.loop-turn.rest.now) _ c.loop-turn._turn c.loop-turn-test.true c.loop-turn.invariant in
    first_of (search rules, grind (arith, common_steps))

pub returns : goal.returns
unfolding casts_from
returns c =
    let e = no_more (λ n. casts_from c.args.self.now.source.now c.args.at n (plain_expr c.loop-turn.whole) c.loop-turn.rest.now) _ c.loop-turn._turn c.loop-turn-test.false c.loop-turn.invariant in
    first_of (search rules, grind (arith, common_steps))
