use Rattle.std.proofs.Common.{rules, arith, length, []}
use Rattle.std.proofs.lemmas.Grind.{common_steps}
use Rattle.sp_reader.specs.PlainProgram.{plain_stmts}
use Rattle.sp_reader.specs.Steps.{semicolons}
use Rattle.sp_reader.specs.StatementRules.{valued_from, stmt}
use Rattle.sp_reader.proofs.Turns.{one_more, no_more}
use Rattle.sp_reader.proofs.grammar.statement.Bodies.valued.Goals as goal

pub returns-in_err-is_value : goal.returns-in_err-is_value
unfolding valued_from
returns-in_err-is_value g c =
    let e = one_more (λ n. valued_from c.args.self.now.parser.source.now (stmt c.args.self.now.parser.source.now c.args.self.now.depth) n (plain_stmts c.loop-turn.found.items) c.loop-turn.rest.now) _ c.loop-turn._turn c.loop-turn-test.true c.loop-turn.invariant in
    first_of (search rules, grind (arith, common_steps))

pub returns-then-branch : goal.returns-then-branch
unfolding valued_from
returns-then-branch g c =
    let e = one_more (λ n. valued_from c.args.self.now.parser.source.now (stmt c.args.self.now.parser.source.now c.args.self.now.depth) n (plain_stmts c.loop-turn.found.items) c.loop-turn.rest.now) _ c.loop-turn._turn c.loop-turn-test.true c.loop-turn.invariant in
    first_of (search rules, grind (arith, common_steps))

pub returns-in_err-next : goal.returns-in_err-next
unfolding valued_from
returns-in_err-next g c =
    let e = one_more (λ n. valued_from c.args.self.now.parser.source.now (stmt c.args.self.now.parser.source.now c.args.self.now.depth) n (plain_stmts c.loop-turn.found.items) c.loop-turn.rest.now) _ c.loop-turn._turn c.loop-turn-test.true c.loop-turn.invariant in
    first_of (search rules, grind (arith, common_steps))

pub returns-in_err-after : goal.returns-in_err-after
unfolding valued_from
returns-in_err-after g c =
    let e = one_more (λ n. valued_from c.args.self.now.parser.source.now (stmt c.args.self.now.parser.source.now c.args.self.now.depth) n (plain_stmts c.loop-turn.found.items) c.loop-turn.rest.now) _ c.loop-turn._turn c.loop-turn-test.true c.loop-turn.invariant in
    first_of (search rules, grind (arith, common_steps))

pub loop-turn-preserved : goal.loop-turn-preserved
unfolding valued_from
loop-turn-preserved g c =
    let e = one_more (λ n. valued_from c.args.self.now.parser.source.now (stmt c.args.self.now.parser.source.now c.args.self.now.depth) n (plain_stmts c.loop-turn.found.items) c.loop-turn.rest.now) _ c.loop-turn._turn c.loop-turn-test.true c.loop-turn.invariant in
    first_of (search rules, grind (arith, common_steps))

pub returns : goal.returns
unfolding valued_from
returns g c =
    let e = no_more (λ n. valued_from c.args.self.now.parser.source.now (stmt c.args.self.now.parser.source.now c.args.self.now.depth) n (plain_stmts c.loop-turn.found.items) c.loop-turn.rest.now) _ c.loop-turn._turn c.loop-turn-test.false c.loop-turn.invariant in
    first_of (search rules, grind (arith, common_steps))
