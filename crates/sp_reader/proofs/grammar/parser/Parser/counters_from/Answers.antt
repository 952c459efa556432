use Rattle.std.proofs.Common.{rules, arith, length, []}
use Rattle.std.proofs.lemmas.Grind.{common_steps}
use Rattle.sp_reader.specs.PlainProgram.{plain_counters}
use Rattle.sp_reader.specs.SpanRules.{counters_from}
use Rattle.sp_reader.proofs.Turns.{one_more, no_more}
use Rattle.sp_reader.proofs.grammar.parser.Parser.counters_from.Goals as goal

pub returns-in_err-next : goal.returns-in_err-next
unfolding counters_from
returns-in_err-next c =
    let e = one_more (λ n. counters_from c.args.self.now.source.now n (plain_counters c.loop-turn.found.items) c.loop-turn.rest.now) _ c.loop-turn._turn c.loop-turn-test.true c.loop-turn.invariant in
    first_of (search rules, grind (arith, common_steps))

pub returns-then-not-sees : goal.returns-then-not-sees
unfolding counters_from
returns-then-not-sees c =
    let e = one_more (λ n. counters_from c.args.self.now.source.now n (plain_counters c.loop-turn.found.items) c.loop-turn.rest.now) _ c.loop-turn._turn c.loop-turn-test.true c.loop-turn.invariant in
    first_of (search rules, grind (arith, common_steps))

pub loop-turn-preserved : goal.loop-turn-preserved
unfolding counters_from
loop-turn-preserved c =
    let e = one_more (λ n. counters_from c.args.self.now.source.now n (plain_counters c.loop-turn.found.items) c.loop-turn.rest.now) _ c.loop-turn._turn c.loop-turn-test.true c.loop-turn.invariant in
    first_of (search rules, grind (arith, common_steps))

pub returns : goal.returns
unfolding counters_from
returns c =
    let e = no_more (λ n. counters_from c.args.self.now.source.now n (plain_counters c.loop-turn.found.items) c.loop-turn.rest.now) _ c.loop-turn._turn c.loop-turn-test.false c.loop-turn.invariant in
    first_of (search rules, grind (arith, common_steps))

pub returns-in_err-last : goal.returns-in_err-last
unfolding counters_from
returns-in_err-last c =
    let e = no_more (λ n. counters_from c.args.self.now.source.now n (plain_counters c.loop-turn.found.items) c.loop-turn.rest.now) _ c.loop-turn._turn c.loop-turn-test.false c.loop-turn.invariant in
    first_of (search rules, grind (arith, common_steps))
