use Rattle.std.proofs.Common.{rules, arith, length, []}
use Rattle.std.proofs.lemmas.Grind.{common_steps}
use Rattle.sp_reader.specs.ExpressionRules.{signs_from}
use Rattle.sp_reader.proofs.Turns.{one_more, no_more}
use Rattle.sp_reader.proofs.grammar.expression.signs_of.Goals as goal

pub returns-in_default : goal.returns-in_default
unfolding signs_from
returns-in_default c =
    let e = one_more (λ n. signs_from n c.loop-turn.found.items c.loop-turn.rest.now) _ c.loop-turn._turn c.loop-turn-test.true c.loop-turn.invariant in
    first_of (search rules, grind (arith, common_steps))

pub loop-turn-preserved : goal.loop-turn-preserved
unfolding signs_from
loop-turn-preserved c =
    let e = one_more (λ n. signs_from n c.loop-turn.found.items c.loop-turn.rest.now) _ c.loop-turn._turn c.loop-turn-test.true c.loop-turn.invariant in
    first_of (search rules, grind (arith, common_steps))

pub returns : goal.returns
unfolding signs_from
returns c =
    let e = no_more (λ n. signs_from n c.loop-turn.found.items c.loop-turn.rest.now) _ c.loop-turn._turn c.loop-turn-test.false c.loop-turn.invariant in
    first_of (search rules, grind (arith, common_steps))
