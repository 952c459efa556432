use Rattle.std.proofs.Common.{◌≡◌, ◌++◌, length, map}
use Rattle.sp_listing.specs.Text.{cell_text}
use Rattle.sp_listing.specs.Reading.{pieces}
use Rattle.sp_listing.specs.Lines.{cells_of, IsSound, MayAllStand}
use Rattle.sp_listing.proofs.reading.Reading.take_all.Given as goal

abbrev pub invariant-loop-line : goal.invariant-loop-line
invariant-loop-line l = record {
  sound : IsSound l.self;
  read : pieces l.text ≡ map cell_text (cells_of l.self) ++ pieces l.left;
  stand : MayAllStand l.declared l.self;
}

abbrev pub decreases-loop-line : goal.decreases-loop-line
decreases-loop-line l = length l.left
