use Rattle.sp_canonical.proofs.Reprinted.{one_text}
use Rattle.sp_canonical.proofs.canonical_texts_have_no_places.Goals as goal

-- src/lib.rt:21:1
pub returns : goal.returns
returns c = one_text
