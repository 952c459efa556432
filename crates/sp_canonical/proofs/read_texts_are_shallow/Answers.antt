use Rattle.sp_canonical.proofs.Depths.{is_shallow}
use Rattle.sp_canonical.proofs.read_texts_are_shallow.Goals as goal

-- src/lib.rt:49:1
pub returns : goal.returns
returns c = λ text tree h. is_shallow text ((c.texts_are_read.ensures text tree).0 h).0.within
