use Rattle.std.proofs.Common.{◌≡◌, ◌++◌, length, drop}
use Rattle.csv.specs.Records.{fields_of}
use Rattle.sp_words.specs.Ports.{plain_port}
use Rattle.sp_setup.specs.Cells.{record_check, record_words}
use Rattle.sp_setup.proofs.cells.read_record.Given as goal

abbrev pub invariant-loop-cell : goal.invariant-loop-cell
invariant-loop-cell l = record {
  same : l.cell-iterator.row.now ≡ l.fn.cells;
  check : record_check (plain_port l.port) l.row (length l.words.items) (drop l.cell-iterator.at (fields_of l.fn.cells)) ≡ record_check (plain_port l.port) l.row (length l.initial.words.items) (fields_of l.fn.cells);
  words : l.words.items ++ record_words l.port.ty (drop l.cell-iterator.at (fields_of l.fn.cells)) ≡ l.initial.words.items ++ record_words l.port.ty (fields_of l.fn.cells);
}
