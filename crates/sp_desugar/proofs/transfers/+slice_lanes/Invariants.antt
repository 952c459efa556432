use Rattle.std.proofs.Common.{length}
use Rattle.sp_desugar.proofs.transfers.+slice_lanes.Given as goal

abbrev pub decreases-slice_lanes : goal.decreases-slice_lanes
decreases-slice_lanes l = length l.spans.now
