use Rattle.std.proofs.Common.{refl}
use Rattle.sp_netlist.specs.Cells.{plain_cell}
use Rattle.sp_listing.specs.Lines.{cells_of}
use Rattle.sp_listing.proofs.ReadingLemmas.{not_admitted}
use Rattle.sp_listing.proofs.reading.Reading.take.Goals as goal

pub returns-then-not-admits : goal.returns-then-not-admits
returns-then-not-admits c =
    let read = rw c.in-Some.is at c.in_ok-cell.ensures in
    (refl, λ lines k. not_admitted lines (cells_of c.args.self.now) c.args.line.now (plain_cell c.in-Some.cell) c.admits.result read.0 read.1 (c.admits.ensures lines k) c.if-not-admits.true)
