use Rattle.std.proofs.Common.{map, take, drop}
use Rattle.sp_words.specs.Ports.{plain_port}
use Rattle.sp_frames.proofs.Adding.{HasInputs}
use Rattle.sp_frames.proofs.inputs.add_inputs.Given as goal

abbrev pub invariant-loop-port : goal.invariant-loop-port
invariant-loop-port l = HasInputs l.builder (map plain_port (take l.port-index l.args)) l.nets.items (map plain_port (drop l.port-index l.args))
