use Rattle.sp_gen.specs.Text.{last_lines}
use Rattle.sp_gen.proofs.TextLemmas.{along, three}
use Rattle.sp_gen.proofs.text.push_last.Goals as goal

pub returns : goal.returns
unfolding last_lines
returns c = along c.writeln.result _ _ _ (three _ _ _ _ _ _ c.in_ok-push_whole.ensures c.in_ok-push_str.ensures.bytes) c.writeln.ensures.bytes
