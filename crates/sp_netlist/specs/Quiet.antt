-- Runs in which all that no cell drives or keeps is 0, so that what the cells drive and keep tells them whole.
use Rattle.std.specs.Prelude.{◌≡◌, ℕ, ◌≤◌, length, count_by, Contains}
use Rattle.sp_netlist.specs.Rules.{is_bank, is_dram, is_unit, driven_nets, IsNetlist}
use Rattle.sp_netlist.specs.Signals.{Setting, Signals, idle, IsRun}

pub record IsQuiet (g : Setting) (s : Signals) : Type 0 where
  pub run : IsRun g s
  pub nets : (t net : ℕ) → ((width : ℕ) → Contains (driven_nets g.cells) (net, width) → ⊥) → s.net t net ≡ 0
  pub banks : (t bank addr : ℕ) → count_by is_bank g.cells ≤ bank → s.bank t bank addr ≡ 0
  pub drams : (t dram addr : ℕ) → count_by is_dram g.cells ≤ dram → length g.drams ≤ dram → s.dram t dram addr ≡ 0
  pub phases : (t channel : ℕ) → count_by is_unit g.cells ≤ channel → s.phase t channel ≡ idle

-- every netlist, however it is set up, has such a run
abbrev pub HasQuietRun : Type 0
HasQuietRun = (g : Setting) → IsNetlist g.cells → (s : Signals) × IsQuiet g s
