use Rattle.std.proofs.Common.{take, map, decimal}
use Rattle.std.specs.Fmt.{HasWritten, IsPlainFormatter}
use Rattle.sp_listing.specs.Text.{spaced}
use Rattle.sp_listing.proofs.words.DimensionsDisplay.fmt.Given as goal

abbrev pub invariant-loop-dim : goal.invariant-loop-dim
invariant-loop-dim g l =
    IsPlainFormatter l.initial.f → HasWritten g.W.Write.write_str_gives l.initial.f (spaced (map decimal (take l.dim-index l.dim-items))) l.f
