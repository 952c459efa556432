use Rattle.sp_gen.specs.Text.{load_line}
use Rattle.sp_gen.proofs.TextLemmas.{along, three}
use Rattle.sp_gen.proofs.text.push_load.Goals as goal

pub returns : goal.returns
unfolding load_line
returns c = along c.writeln.result _ _ _ (three _ _ _ _ _ _ c.in_ok-push_str.ensures.bytes c.in_ok-push_range.ensures) c.writeln.ensures.bytes
