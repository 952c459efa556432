use Rattle.std.proofs.Common.{◌≡◌, map, drop}
use Rattle.sp_words.specs.Ports.{plain_port}
use Rattle.sp_frames.proofs.Adding.{HasDrams}
use Rattle.sp_frames.proofs.drams.add_drams.Given as goal

abbrev pub invariant-loop-port : goal.invariant-loop-port
invariant-loop-port l = (l.dram ≡ l.port-index) × HasDrams l.fn.builder l.builder (map plain_port l.drams) (map plain_port (drop l.port-index l.drams)) l.dram
