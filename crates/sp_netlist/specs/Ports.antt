-- The ports of a netlist: its `in`, `out` and `dram` cells in order.
use Rattle.std.specs.Prelude.{List, [], filter_map, Option, Some, None}
use Rattle.sp_words.specs.Ports.{PlainPort, PlainPorts}
use Rattle.sp_netlist.specs.Cells.{PlainCell, in_cell, out_cell, dram_cell}

-- what a cell declares of each kind: an argument and an output have no dimensions
abbrev pub in_port : PlainCell → Option PlainPort
in_port (in_cell name net ty) = Some (record { name = name; ty = ty; dims = [] })
in_port cell = None

abbrev pub out_port : PlainCell → Option PlainPort
out_port (out_cell name net ty) = Some (record { name = name; ty = ty; dims = [] })
out_port cell = None

abbrev pub dram_port : PlainCell → Option PlainPort
dram_port (dram_cell dram name ty dims) = Some (record { name = name; ty = ty; dims = dims })
dram_port cell = None

abbrev pub ports_of : List PlainCell → PlainPorts
ports_of cells = record { args = filter_map in_port cells; outs = filter_map out_port cells; drams = filter_map dram_port cells }
