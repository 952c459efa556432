use Rattle.std.proofs.Common.{map, sym}
use Rattle.std.proofs.lemmas.Iterator.Adapters.{position_from-zero}
use Rattle.sp_tree.specs.Streams.{puts_into}
use Rattle.sp_counts.specs.Streams.{stage_of}
use Rattle.sp_counts.proofs.stream.place_of_put.Goals as goal

pub loop-i-init : goal.loop-i-init
loop-i-init c = sym (position_from-zero (puts_into c.args.m) (map stage_of c.args.stages.now))
