-- What stands in a draft, or in each run of what it became, does so for a draft that grew.
use Rattle.std.proofs.Common.{ℕ, List}
use Rattle.sp_words.specs.declared.types.Ty.{Ty}
use Rattle.sp_netlist.specs.declared.parts.Child.{Child}
use Rattle.sp_netlist.specs.Draft.{Draft}
use Rattle.sp_gates.specs.Grows.{Grows}
use Rattle.sp_gates.proofs.Growing.{HasNet-stays}
use Rattle.sp_gates.proofs.Running.{runs_earlier}
use Rattle.sp_core.specs.Around.{Near}
use Rattle.sp_core.specs.PlainCore.{PlainOp, PlainCore}
use Rattle.sp_op_nets.specs.declared.acted.ActedList.{ActedList}
use Rattle.sp_op_nets.specs.declared.table.AroundNets.{AroundNets}
use Rattle.sp_op_nets.specs.Table.{StandAround}
use Rattle.sp_list_circuits.specs.Turns.{IsInTurns, IsWordRight}

pub stand_later : (a b : Draft) (table : List AroundNets) (near : List Near) → Grows a b → StandAround a table near → StandAround b table near
stand_later a b table near g h c lane has = (let there = h c lane has in record { within = there.within; value = HasNet-stays a b _ _ g there.value; has = there.has; masks = λ i lt. HasNet-stays a b _ _ g (there.masks i lt) })

pub word_later : (a b : Draft) (core : PlainCore) (table : List AroundNets) (ops : List PlainOp) (ty : Ty) → Grows a b → IsWordRight a core table ops ty → IsWordRight b core table ops ty
word_later a b core table ops ty g h = record { around = h.around; right = h.right; stand = stand_later a b table h.around.counters g h.stand }

-- begun earlier, and in runs of what the draft became later
pub turns_kept : (a b c d : Draft) (core : PlainCore) (table : List AroundNets) (n : ℕ) (ops : List PlainOp) (child : Child) (word : ℕ) (acted : ActedList) → Grows a b → Grows c d → IsInTurns b c core table n ops child word acted → IsInTurns a d core table n ops child word acted
turns_kept a b c d core table n ops child word acted g h turns plan around right stand s run = turns plan around right (stand_later a b table around.counters g stand) s (runs_earlier c d s h run)
