use Rattle.std.proofs.Common.{rules, arith, length, []}
use Rattle.std.proofs.lemmas.Grind.{common_steps}
use Rattle.sp_reader.specs.PlainProgram.{plain_decls}
use Rattle.sp_reader.specs.Steps.{semicolons}
use Rattle.sp_reader.specs.ProgramRules.{decls_from}
use Rattle.sp_reader.proofs.Turns.{one_more, no_more}
use Rattle.sp_reader.proofs.grammar.parser.Parser.decls.Goals as goal

pub returns-then-sees : goal.returns-then-sees
unfolding decls_from
returns-then-sees c =
    let e = one_more (λ n. decls_from c.args.self.now.source.now n (plain_decls c.loop-turn.found.items) c.loop-turn.rest.now) _ c.loop-turn._turn c.loop-turn-test.true c.loop-turn.invariant in
    first_of (search rules, grind (arith, common_steps))

pub returns-in_err-next : goal.returns-in_err-next
unfolding decls_from
returns-in_err-next c =
    let e = one_more (λ n. decls_from c.args.self.now.source.now n (plain_decls c.loop-turn.found.items) c.loop-turn.rest.now) _ c.loop-turn._turn c.loop-turn-test.true c.loop-turn.invariant in
    first_of (search rules, grind (arith, common_steps))

pub returns-in_err-after : goal.returns-in_err-after
unfolding decls_from
returns-in_err-after c =
    let e = one_more (λ n. decls_from c.args.self.now.source.now n (plain_decls c.loop-turn.found.items) c.loop-turn.rest.now) _ c.loop-turn._turn c.loop-turn-test.true c.loop-turn.invariant in
    first_of (search rules, grind (arith, common_steps))

pub loop-turn-preserved : goal.loop-turn-preserved
unfolding decls_from
loop-turn-preserved c =
    let e = one_more (λ n. decls_from c.args.self.now.source.now n (plain_decls c.loop-turn.found.items) c.loop-turn.rest.now) _ c.loop-turn._turn c.loop-turn-test.true c.loop-turn.invariant in
    first_of (search rules, grind (arith, common_steps))

pub returns : goal.returns
unfolding decls_from
returns c =
    let e = no_more (λ n. decls_from c.args.self.now.source.now n (plain_decls c.loop-turn.found.items) c.loop-turn.rest.now) _ c.loop-turn._turn c.loop-turn-test.false c.loop-turn.invariant in
    first_of (search rules, grind (arith, common_steps))
