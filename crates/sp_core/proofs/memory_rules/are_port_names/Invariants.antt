use Rattle.std.proofs.Common.{◌≡◌, length, map}
use Rattle.sp_words.specs.Ports.{plain_port}
use Rattle.sp_core.specs.MemoryRules.{names_of, are_port_names}
use Rattle.sp_core.proofs.memory_rules.are_port_names.Given as goal

abbrev pub invariant-loop-port : goal.invariant-loop-port
invariant-loop-port l = are_port_names (names_of (map plain_port l.left)) ≡ are_port_names (names_of (map plain_port l.ports))

abbrev pub decreases-loop-port : goal.decreases-loop-port
decreases-loop-port l = length l.left
