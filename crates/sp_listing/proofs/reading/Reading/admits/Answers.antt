use Rattle.sp_netlist.specs.Cells.{plain_cell}
use Rattle.sp_listing.specs.Lines.{cells_of}
use Rattle.sp_listing.proofs.ReadingLemmas.{refused, order_part, names_part, both_parts}
use Rattle.sp_listing.proofs.reading.Reading.admits.Goals as goal

pub returns-then-not-admit : goal.returns-then-not-admit
returns-then-not-admit c = λ lines k.
    refused c.admit.result (c.admit.ensures (cells_of c.args.self.now) c.requires.counts) c.if-not-admit.true (λ h. order_part (cells_of c.args.self.now) (plain_cell c.args.cell.now) h.0)

pub returns-then-not-admit-2 : goal.returns-then-not-admit-2
returns-then-not-admit-2 c = λ lines k.
    refused c.admit-2.result (c.admit-2.ensures (cells_of c.args.self.now) c.requires.names) c.if-not-admit-2.true (λ h. names_part (cells_of c.args.self.now) (plain_cell c.args.cell.now) h.0)

pub returns : goal.returns
returns c = λ lines k.
    let order = (c.admit.ensures (cells_of c.args.self.now) c.requires.counts).0 c.if-not-admit.false in
    let new = (c.admit-2.ensures (cells_of c.args.self.now) c.requires.names).0 c.if-not-admit-2.false in
    let named = c.admit-3.ensures lines k in
    ((λ t. (both_parts (cells_of c.args.self.now) (plain_cell c.args.cell.now) order new, named.0 t)), λ h. named.1 h.1)
