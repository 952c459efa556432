use Rattle.std.proofs.Common.{◌≡◌, ◌≤◌, ◌-◌, ◌+◌, ◌++◌, length, sym, rules, arith}
use Rattle.std.proofs.lemmas.Grind.{common_steps}
use Rattle.sp_reader.specs.Tokens.{scan_from, scanned}
use Rattle.sp_reader.proofs.Turns.{one_more, no_more}
use Rattle.sp_reader.proofs.Scanning.{goes_on, is_done, runs_out}
use Rattle.sp_reader.proofs.scan.scan.Goals as goal

pub returns-then-is_empty : goal.returns-then-is_empty
returns-then-is_empty c =
    let none : length c.loop-turn.rest.now ≡ 0 = grind arith in
    sym (is_done _ c.loop-turn.found.items _ c.loop-turn.at c.loop-turn.breaks c.loop-turn.rest.now none c.loop-turn.invariant.0)

pub loop-turn-preserved : goal.loop-turn-preserved
loop-turn-preserved c =
    let some : 1 ≤ length c.loop-turn.rest.now = grind arith in
    let more = one_more (λ n. c.loop-turn.found.items ++ scan_from n c.loop-turn.at c.loop-turn.breaks c.loop-turn.rest.now) _ c.loop-turn._turn c.loop-turn-test.true c.loop-turn.invariant.0 in
    let e = goes_on (scanned c.args.text.now) c.loop-turn.found.items (length c.args.text.now - (c.loop-turn._turn + 1)) c.loop-turn.at c.loop-turn.breaks c.loop-turn.rest.now some more in
    first_of (search rules, grind (arith, common_steps))

pub returns : goal.returns
returns c =
    let e = no_more (λ n. c.loop-turn.found.items ++ scan_from n c.loop-turn.at c.loop-turn.breaks c.loop-turn.rest.now) _ c.loop-turn._turn c.loop-turn-test.false c.loop-turn.invariant.0 in
    sym (runs_out (scanned c.args.text.now) c.loop-turn.found.items c.loop-turn.at c.loop-turn.breaks c.loop-turn.rest.now e)
