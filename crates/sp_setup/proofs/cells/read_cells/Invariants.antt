use Rattle.std.proofs.Common.{◌≡◌, ◌<◌}
use Rattle.csv.specs.Reading.{Ready, default_config}
use Rattle.csv.specs.declared.reader.Trim.TheVariants as trim
use Rattle.sp_words.specs.Ports.{plain_port}
use Rattle.sp_setup.proofs.FileLemmas.{CellsSoFar}
use Rattle.sp_setup.proofs.cells.read_cells.Given as goal

abbrev pub invariant-loop-line : goal.invariant-loop-line
invariant-loop-line l = record {
  plain : l.line-iterator.rdr.trim ≡ trim.None;
  ready : Ready l.line-iterator.rdr;
  left : 0 < l.line-iterator.left;
  config : l.line-iterator.rdr.config ≡ default_config;
  so_far : CellsSoFar (plain_port l.port) l.fn.bytes l.line-iterator.rdr l.row l.words.items;
}
