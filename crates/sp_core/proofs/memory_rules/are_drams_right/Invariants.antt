use Rattle.std.proofs.Common.{◌≡◌, drop, map}
use Rattle.std.specs.List.{list_all}
use Rattle.sp_words.specs.Ports.{plain_port}
use Rattle.sp_core.specs.MemoryRules.{is_dram_right}
use Rattle.sp_core.proofs.memory_rules.are_drams_right.Given as goal

abbrev pub invariant-loop-dram : goal.invariant-loop-dram
invariant-loop-dram l = list_all is_dram_right (map plain_port (drop l.dram-index l.drams)) ≡ list_all is_dram_right (map plain_port l.drams)
