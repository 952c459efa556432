use Rattle.sp_netlist.specs.Rules.{in_name, out_name, dram_name}
use Rattle.std.proofs.Common.{filter_map, string_bytes}
use Rattle.sp_netlist.specs.Cells.{in_cell, out_cell, dram_cell}
use Rattle.sp_listing.proofs.NameLemmas.{names_push, names_same, same_names, on_ok}
use Rattle.sp_listing.proofs.names.Names.add.Goals as goal

pub returns-in-In : goal.returns-in-In
returns-in-In c = rw c.in-In.is (on_ok c.add_name.result (λ h before k. names_push before (in_cell (string_bytes c.in-In.name) c.in-In.field-1 c.in-In.field-2) _ (h (filter_map in_name before) k.ins) (same_names (filter_map out_name before) c.args.self.now.outs k.outs) (same_names (filter_map dram_name before) c.args.self.now.drams k.drams)) (rw c.deref.ensures at c.add_name.ensures))

pub returns-in-Out : goal.returns-in-Out
returns-in-Out c = rw c.in-Out.is (on_ok c.add_name-in-Out.result (λ h before k. names_push before (out_cell (string_bytes c.in-Out.name) c.in-Out.field-1 c.in-Out.field-2) _ (same_names (filter_map in_name before) c.args.self.now.ins k.ins) (h (filter_map out_name before) k.outs) (same_names (filter_map dram_name before) c.args.self.now.drams k.drams)) (rw c.deref-in-Out.ensures at c.add_name-in-Out.ensures))

pub returns-in-Dram : goal.returns-in-Dram
returns-in-Dram c = rw c.in-Dram.is (on_ok c.add_name-in-Dram.result (λ h before k. names_push before (dram_cell c.in-Dram.field-0 (string_bytes c.in-Dram.name) c.in-Dram.field-2 c.in-Dram.field-3.items) _ (same_names (filter_map in_name before) c.args.self.now.ins k.ins) (same_names (filter_map out_name before) c.args.self.now.outs k.outs) (h (filter_map dram_name before) k.drams)) (rw c.deref-in-Dram.ensures at c.add_name-in-Dram.ensures))

pub returns-in_default : goal.returns-in_default
returns-in_default c = λ before k. names_same c.args.cell.now c.in_default.not-In c.in_default.not-Out c.in_default.not-Dram before c.args.self.now k
