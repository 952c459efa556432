use Rattle.std.proofs.Common.{◌≡◌, drop, map}
use Rattle.sp_words.specs.Ports.{plain_ports}
use Rattle.sp_tree.specs.Invariant.{ports_of}
use Rattle.sp_tree.specs.Plain.{plain_mem}
use Rattle.sp_check.specs.Lists.{joined_ports}
use Rattle.sp_check.proofs.ports.ports_of.Given as goal

abbrev pub invariant-loop-mem : goal.invariant-loop-mem
invariant-loop-mem l = joined_ports (plain_ports l.ports) (ports_of (map plain_mem (drop l.mem-index l.mems))) ≡ ports_of (map plain_mem l.mems)
