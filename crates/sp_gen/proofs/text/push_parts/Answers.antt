use Rattle.sp_gen.specs.Text.{part_lines}
use Rattle.sp_gen.proofs.TextLemmas.{along, three}
use Rattle.sp_gen.proofs.text.push_parts.Goals as goal

pub returns : goal.returns
unfolding part_lines
returns c = along c.writeln.result _ _ _ (three _ _ _ _ _ _ c.in_ok-push_str.ensures.bytes c.in_ok-push_part.ensures) c.writeln.ensures.bytes
