-- What a draft's cells say of the runs of the netlists that begin with them.
use Rattle.std.specs.Prelude.{◌≡◌, ℕ, ◌<◌, List, ◌++◌, count_by}
use Rattle.sp_netlist.specs.Cells.{PlainCell}
use Rattle.sp_netlist.specs.Rules.{is_bank}
use Rattle.sp_netlist.specs.Signals.{Setting, Signals, IsRun}
use Rattle.sp_netlist.specs.Parts.{NoCell, names_bank}

-- The signals are a run of some netlist that begins with these cells. No later cell has a tap on a bank of theirs, so
-- their taps are all that change its words.
pub record RunsOn (s : Signals) (cells : List PlainCell) : Type 0 where
  pub setting : Setting
  pub rest : List PlainCell
  pub run : IsRun setting s
  pub stands : setting.cells ≡ cells ++ rest
  pub banks : (bank : ℕ) → bank < count_by is_bank cells → NoCell (names_bank bank) rest
