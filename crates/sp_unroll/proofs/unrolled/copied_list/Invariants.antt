use Rattle.std.proofs.Common.{◌≡◌, ◌++◌, drop, map}
use Rattle.sp_words.specs.Ports.{plain_port}
use Rattle.sp_unroll.proofs.unrolled.copied_list.Given as goal

abbrev pub invariant-loop-port : goal.invariant-loop-port
invariant-loop-port l = map plain_port l.made.items ++ map plain_port (drop l.port-index l.ports) ≡ map plain_port l.ports
