use Rattle.std.proofs.Common.{take, map, decimal}
use Rattle.std.specs.Fmt.{HasWritten, IsPlainFormatter}
use Rattle.sp_listing.specs.Text.{spaced}
use Rattle.sp_listing.proofs.words.NumbersDisplay.fmt.Given as goal

abbrev pub invariant-loop-number : goal.invariant-loop-number
invariant-loop-number g l =
    IsPlainFormatter l.initial.f → HasWritten g.W.Write.write_str_gives l.initial.f (spaced (map decimal (take l.number-index l.number-items))) l.f
