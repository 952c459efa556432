use Rattle.std.proofs.Common.{map, ap, arith}
use Rattle.std.proofs.lemmas.List.{drop_all}
use Rattle.sp_words.specs.Ports.{plain_port}
use Rattle.sp_top.specs.ResultText.{out_line}
use Rattle.sp_top.proofs.ResultLemmas.{drop-turn, no_values, no_ports, line_more, line_last}
use Rattle.sp_top.proofs.result_text.push_outs.Goals as goal

-- no word is left
pub returns-in_default : goal.returns-in_default
returns-in_default c = line_last out_line _ _ _ _ (no_values out_line _ _ (drop_all c.loop-i.i c.args.words.now c.in_default.ensures.lookup.3)) c.loop-i.invariant

pub loop-i-preserved : goal.loop-i-preserved
loop-i-preserved c =
    let found = c.in-Some.ensures.lookup in
    line_more out_line _ _ _ _ _ _ _ _ _ (ap (map plain_port) (drop-turn c.args.ports.now c.loop-i.i c.index-ports-i.result c.loop-i-test.true c.index-ports-i.is))
    (drop-turn c.args.words.now c.loop-i.i c.in-Some.word.now found.3.0 found.1) c.in_ok-push_out.ensures c.loop-i.invariant

-- no port is left
pub returns : goal.returns
returns c = line_last out_line _ _ _ _ (no_ports out_line _ _ (ap (map plain_port) (drop_all c.loop-i.i c.args.ports.now (omega arith)))) c.loop-i.invariant
