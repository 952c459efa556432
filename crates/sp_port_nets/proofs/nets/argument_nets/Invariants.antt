use Rattle.std.proofs.Common.{◌≡◌, ◌++◌, drop, map}
use Rattle.sp_core.specs.Plain.{plain_mem}
use Rattle.sp_port_nets.specs.Nets.{nets_of_arguments}
use Rattle.sp_port_nets.proofs.nets.argument_nets.Given as goal

abbrev pub invariant-loop-mem : goal.invariant-loop-mem
invariant-loop-mem l = l.nets.items ++ nets_of_arguments (map plain_mem (drop l.mem-index l.mem-items)) l.left ≡ nets_of_arguments (map plain_mem l.mem-items) l.ports
