-- The parts of which a core is to be made, and what stands around a node, as plain values.
use Rattle.std.specs.Prelude.{map}
use Rattle.sp_words.specs.Ports.{plain_ports}
use Rattle.sp_core.specs.declared.parts.Parts.{Parts}
use Rattle.sp_core.specs.declared.parts.Near.{Near}
use Rattle.sp_core.specs.declared.parts.Around.{Around}
use Rattle.sp_core.specs.Around as plain
use Rattle.sp_core.specs.Plain.{plain_mem, plain_node}
use Rattle.sp_core.specs.PlainCore.{PlainCore}

abbrev pub core_of : Parts → PlainCore
core_of p = record { mems = map plain_mem p.mems.items; ports = plain_ports p.ports; root = plain_node p.root }

abbrev pub near_of : Near → plain.Near
near_of near = record { number = near.number; lanes = near.lanes }

abbrev pub around_of : Around → plain.Around
around_of around = record { counters = map near_of around.counters.items; owned = around.owned.items }
