use Rattle.sp_dram_words.proofs.Items.{moves_are_items}
use Rattle.sp_dram_words.proofs.moves.moves_are_items.Goals as goal

pub returns : goal.returns
returns c node = moves_are_items node
