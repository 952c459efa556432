use Rattle.std.proofs.Common.{filter_map, string_bytes}
use Rattle.sp_netlist.specs.Rules.{in_name, out_name, dram_name}
use Rattle.sp_listing.proofs.NameLemmas.{new_tested}
use Rattle.sp_listing.proofs.names.Names.admit.Goals as goal

pub returns-in-In : goal.returns-in-In
returns-in-In c = λ before k. rw c.in-In.is (new_tested (filter_map in_name before) (string_bytes c.in-In.name) c.has_name.result (rw c.deref.ensures at (c.has_name.ensures (filter_map in_name before) k.ins)))

pub returns-in-Out : goal.returns-in-Out
returns-in-Out c = λ before k. rw c.in-Out.is (new_tested (filter_map out_name before) (string_bytes c.in-Out.name) c.has_name-in-Out.result (rw c.deref-in-Out.ensures at (c.has_name-in-Out.ensures (filter_map out_name before) k.outs)))

pub returns-in-Dram : goal.returns-in-Dram
returns-in-Dram c = λ before k. rw c.in-Dram.is (new_tested (filter_map dram_name before) (string_bytes c.in-Dram.name) c.has_name-in-Dram.result (rw c.deref-in-Dram.ensures at (c.has_name-in-Dram.ensures (filter_map dram_name before) k.drams)))
