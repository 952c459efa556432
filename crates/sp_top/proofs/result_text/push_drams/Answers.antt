use Rattle.std.proofs.Common.{ℕ, List, map, ap, arith}
use Rattle.std.proofs.lemmas.List.{drop_all}
use Rattle.std.specs.Global.{Vec}
use Rattle.sp_words.specs.Ports.{plain_port}
use Rattle.sp_top.specs.ResultText.{dram_line}
use Rattle.sp_top.proofs.ResultLemmas.{drop-turn, no_values, no_ports, line_more, line_last}
use Rattle.sp_top.proofs.result_text.push_drams.Goals as goal

abbrev items : Vec ℕ → List ℕ
items words = words.items

-- no DRAM's words are left
pub returns-in_default : goal.returns-in_default
returns-in_default c = line_last dram_line _ _ _ _ (no_values dram_line _ _ (ap (map items) (drop_all c.loop-i.i c.args.drams.now c.in_default.ensures.lookup.3))) c.loop-i.invariant

pub loop-i-preserved : goal.loop-i-preserved
loop-i-preserved c =
    let found = c.in-Some.ensures.lookup in
    line_more dram_line _ _ _ _ _ _ _ _ _ (ap (map plain_port) (drop-turn c.args.ports.now c.loop-i.i c.index-ports-i.result c.loop-i-test.true c.index-ports-i.is))
    (ap (map items) (drop-turn c.args.drams.now c.loop-i.i c.in-Some.words.now found.3.0 found.1)) (rw c.deref.ensures.value at c.in_ok-push_dram.ensures) c.loop-i.invariant

-- no port is left
pub returns : goal.returns
returns c = line_last dram_line _ _ _ _ (no_ports dram_line _ _ (ap (map plain_port) (drop_all c.loop-i.i c.args.ports.now (omega arith)))) c.loop-i.invariant
