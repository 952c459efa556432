use Rattle.std.proofs.Common.{◌≡◌, drop, map}
use Rattle.std.specs.List.{list_any}
use Rattle.std.specs.Str.{bytes_eq}
use Rattle.sp_words.specs.Ports.{plain_port}
use Rattle.sp_core.specs.MemoryRules.{names_of}
use Rattle.sp_core.proofs.memory_rules.is_named.Given as goal

abbrev pub invariant-loop-port : goal.invariant-loop-port
invariant-loop-port l = list_any (λ other. bytes_eq l.name other) (names_of (map plain_port (drop l.port-index l.ports))) ≡ list_any (λ other. bytes_eq l.name other) (names_of (map plain_port l.ports))
