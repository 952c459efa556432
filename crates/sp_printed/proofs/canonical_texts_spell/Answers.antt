use Rattle.sp_printed.proofs.Programs.{spells}
use Rattle.sp_printed.proofs.canonical_texts_spell.Goals as goal

-- src/lib.rt:8:1
pub returns : goal.returns
returns c = spells
