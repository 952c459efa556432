use Rattle.std.proofs.Common.{◌≡◌, ◌≤◌, length, drop, map, filter}
use Rattle.std.specs.Prelude.{if◌then◌else◌}
use Rattle.sp_words.specs.Ports.{plain_port}
use Rattle.sp_core.specs.Meaning.{is_arg, is_out}
use Rattle.sp_core.specs.MemoryRules.{are_ports_of}
use Rattle.sp_core.specs.Plain.{plain_mem}
use Rattle.sp_core.proofs.memory_rules.are_ports_of.Given as goal

abbrev pub invariant-loop-mem : goal.invariant-loop-mem
invariant-loop-mem l = (l.at ≤ length l.ports) × (are_ports_of (map plain_port (drop l.at l.ports)) (filter (λ m. if l.outs then is_out m.kind else is_arg m.kind) (map plain_mem (drop l.mem-index l.mems))) ≡ are_ports_of (map plain_port l.ports) (filter (λ m. if l.outs then is_out m.kind else is_arg m.kind) (map plain_mem l.mems)))
