use Rattle.std.proofs.Common.{map, drop, length}
use Rattle.sp_words.specs.Ports.{plain_port}
use Rattle.sp_frames.proofs.Adding.{HasOutputs}
use Rattle.sp_frames.proofs.closing.add_outputs.Given as goal

abbrev pub invariant-loop-port : goal.invariant-loop-port
invariant-loop-port l = HasOutputs l.fn.builder l.builder (map plain_port l.outs) l.nets (map plain_port (drop (length l.yielded) l.outs)) (drop (length l.yielded) l.nets)
