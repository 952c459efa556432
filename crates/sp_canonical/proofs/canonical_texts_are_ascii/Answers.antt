use Rattle.sp_canonical.proofs.Ascii.{text_ascii}
use Rattle.sp_canonical.proofs.canonical_texts_are_ascii.Goals as goal

-- src/lib.rt:16:1
pub returns : goal.returns
returns c = text_ascii
