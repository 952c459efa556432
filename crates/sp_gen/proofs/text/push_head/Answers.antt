use Rattle.sp_gen.specs.Text.{head_lines}
use Rattle.sp_gen.proofs.TextLemmas.{along, six}
use Rattle.sp_gen.proofs.text.push_head.Goals as goal

pub returns : goal.returns
unfolding head_lines
returns c =
    along c.push_tiles.result _ _ _
    (six _ _ _ _ _ _ _ _ _ _ _ _ c.in_ok-push_dram.ensures c.in_ok-push_dram-2.ensures c.in_ok-push_str.ensures.bytes c.in_ok-push_str-2.ensures.bytes c.in_ok-push_str-3.ensures.bytes)
    c.push_tiles.ensures
