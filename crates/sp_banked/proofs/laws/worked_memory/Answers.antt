use Rattle.sp_banked.proofs.Worked.{count, size, number, place, written, other_element, other_copy}
use Rattle.sp_banked.proofs.laws.worked_memory.Goals as goal

pub returns : goal.returns
returns c = record { count = count; size = size; number = number; place = place; written = written; other_element = other_element; other_copy = other_copy }
