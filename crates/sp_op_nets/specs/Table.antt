-- The nets of the counters around as a table, and which of them an operation needs.
use Rattle.std.specs.Prelude.{◌≡◌, ℕ, zero, suc, ◌<◌, ◌≤◌, true, List, [], ◌∷◌, length, slice_index}
use Rattle.sp_netlist.specs.Draft.{Draft}
use Rattle.sp_gates.specs.Nets.{HasNet}
use Rattle.sp_core.specs.declared.operation.OpKind.{OpKind}
use Rattle.sp_core.specs.declared.operation.OpKind.TheVariants.{Count, Live}
use Rattle.sp_core.specs.Around.{Near, has_lane}
use Rattle.sp_node_runs.specs.BodiesGiven.{Nets}
use Rattle.sp_op_nets.specs.declared.table.AroundNets.{AroundNets}

-- by the number of the counter
abbrev pub nets_at : List AroundNets → Nets
nets_at [] c = record { value = 0; step = 0; masks = [] }
nets_at (a ∷ table) zero = record { value = a.value; step = a.step; masks = a.masks.items }
nets_at (a ∷ table) (suc c) = nets_at table c

-- a counter stands in the table, its nets are nets of the draft, and it has the lane
pub record IsCounterAt (d : Draft) (table : List AroundNets) (c lane : ℕ) : Type 0 where
  pub within : c < length table
  pub value : HasNet d (nets_at table c).value 32
  pub has : lane < length (nets_at table c).masks
  pub masks : (i : ℕ) → i < length (nets_at table c).masks → HasNet d (slice_index (nets_at table c).masks i) 1

-- so does what an operation of this kind takes its word from
abbrev pub StandsAt : Draft → List AroundNets → OpKind → Type 0
StandsAt d table (Count c lane) = IsCounterAt d table c lane
StandsAt d table (Live c first last) = (first ≤ last) × IsCounterAt d table c last
StandsAt d table kind = Unit {0}

-- the counter is around, and its controller has the lane
abbrev pub HasLane : List Near → OpKind → Type 0
HasLane near (Count c lane) = has_lane near c lane ≡ true
HasLane near (Live c first last) = has_lane near c last ≡ true
HasLane near kind = Unit {0}

-- each counter around stands in the table, with each lane of its controller
abbrev pub StandAround : Draft → List AroundNets → List Near → Type 0
StandAround d table near = (c lane : ℕ) → has_lane near c lane ≡ true → IsCounterAt d table c lane
