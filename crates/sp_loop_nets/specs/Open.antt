-- A loop of which the bounds, the counters and the rows were emitted, and nothing else yet.
use Rattle.std.specs.Prelude.{◌≡◌, ℕ, ◌≤◌, List, length, Contains}
use Rattle.sp_netlist.specs.Draft.{Draft}
use Rattle.sp_gates.specs.Grows.{Grows}
use Rattle.sp_core.specs.Around.{lanes_of}
use Rattle.sp_core.specs.PlainCore.{PlainCounter}
use Rattle.sp_counters.specs.declared.part.Count.{Count}
use Rattle.sp_counters.specs.declared.part.Counters.{Counters}
use Rattle.sp_counters.specs.declared.part.Counted.{Counted}
use Rattle.sp_counters.specs.Counting as counting
use Rattle.sp_op_nets.specs.declared.acted.ActedList.{ActedList}
use Rattle.sp_op_nets.specs.declared.table.AroundNets.{AroundNets}
use Rattle.sp_bound_nets.specs.Bounds.{AreBounds, bound_lists}
use Rattle.sp_bound_nets.specs.Direct.{AreActedLists}

-- the bounds of counters were emitted on the way, and the operations that are handed on are theirs
pub record HasBounds (old new : Draft) (table : List AroundNets) (number : ℕ) (counters : List PlainCounter) (counts : List Count) (acted : List ActedList) : Type 0 where
  pub draft : Draft
  pub grows : Grows draft new
  pub lists : AreActedLists draft number (bound_lists counters) acted
  pub bounds : AreBounds old draft table number counters counts acted

-- the lanes of a core's counters are those of the circuit's, and there is a mask for each; without counters nothing is asked
abbrev pub LanesFit : List PlainCounter → Counters → Counted → Type 0
LanesFit counters part nets = (c : PlainCounter) → Contains counters c → (lanes_of counters ≡ counting.lanes_of part.counters.items) × (lanes_of counters ≤ length nets.masks.items)
