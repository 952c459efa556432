use Rattle.sp_listing.specs.Lines.{cells_of}
use Rattle.sp_listing.proofs.ReadingLemmas.{gained}
use Rattle.sp_listing.proofs.reading.Reading.add.Goals as goal

pub returns : goal.returns
returns c =
    gained c.args.self.now _ c.args.cell c.in_ok-push.ensures.items c.requires.sound c.add.ensures (c.in_ok-add.ensures (cells_of c.args.self.now) c.requires.sound.names)
