use Rattle.sp_printer.specs.Program.{canonical_text}
use Rattle.sp_printed.proofs.Programs.{spells}
use Rattle.sp_printed.proofs.canonical_texts_are_read.Goals as goal

-- src/lib.rt:17:1
pub returns : goal.returns
returns c = λ p is within. let s = spells p is in record { tree = s.tree; is_read = (c.texts_are_read.ensures (canonical_text p) s.tree).1 (within, s.spelled); is_tree = s.is_tree }
