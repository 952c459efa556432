-- The parts of a program, as it shows them.
use Rattle.std.specs.Prelude.{map, string_bytes}
use Rattle.sp_words.specs.Ports.{plain_ports}
use Rattle.sp_tree.specs.Plain.{plain_mem}
use Rattle.sp_tree.specs.ProgramParts.{ProgramParts}
use Rattle.sp_check.specs.declared.parts.Parts.{Parts}

abbrev pub parts_of : Parts → ProgramParts
parts_of p = record { ports = plain_ports p.ports; mems = map plain_mem p.mems.items; vals = map string_bytes p.vals.items; counters = map string_bytes p.counters.items; body = p.body.items }
