-- Laws of nets of numbers, as statements.
use Rattle.std.specs.Prelude.{ℕ, List}
use Rattle.sp_netlist.specs.Draft.{Draft}
use Rattle.sp_op_nets.specs.Reserved.{Reserves}
use Rattle.sp_copy_nets.specs.declared.part.SlotNumbers.{SlotNumbers}
use Rattle.sp_copy_nets.specs.Fits.{NumbersFit}
use Rattle.sp_copy_nets.specs.Numbers.{StandNumbers}
use Rattle.sp_copy_nets.specs.Table.{slot_numbers}

-- nets that were promised still await what drives them, whatever is reserved behind them
abbrev pub NumbersStay : Type 0
NumbersStay = (first second : Draft) (copies : List ℕ) (numbers : List SlotNumbers) (nets : List ℕ) → Reserves first second nets → NumbersFit first copies numbers → NumbersFit second copies numbers

-- nets that are to be driven stand: of each slot they may be read
abbrev pub NumbersStand : Type 0
NumbersStand = (d : Draft) (copies : List ℕ) (numbers : List SlotNumbers) (slot : ℕ) → NumbersFit d copies numbers → StandNumbers d (slot_numbers numbers slot)
