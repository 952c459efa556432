-- The nets of the counters around, inside of a controller.
use Rattle.std.specs.Prelude.{◌≡◌, ℕ, ◌<◌, ◌≤◌, List, length, slice_index, All, Contains}
use Rattle.sp_netlist.specs.Draft.{Draft}
use Rattle.sp_gates.specs.Grows.{Grows}
use Rattle.sp_gates.specs.Nets.{HasNet}
use Rattle.sp_core.specs.Around.{Near, lanes_of}
use Rattle.sp_core.specs.PlainCore.{PlainCounter}
use Rattle.sp_node_runs.specs.BodiesGiven.{CounterNets, net_step, with_nets}
use Rattle.sp_node_runs.specs.BodiesLaws.{own_near}
use Rattle.sp_op_nets.specs.declared.table.AroundNets.{AroundNets}
use Rattle.sp_op_nets.specs.Table.{nets_at, StandAround}

-- the entry of a counter, by those behind it
abbrev pub entry_of : PlainCounter → (behind : List PlainCounter) → (value : ℕ) → (masks : List ℕ) → CounterNets
entry_of c behind value masks = record { value = value; step = net_step c behind; masks = masks }

-- A table has the nets of counters at their numbers, and at each other number what the table around has. Each of the counters has a
-- value.
pub record HasEntries (counters : List PlainCounter) (around : List AroundNets) (values masks : List ℕ) (table : List AroundNets) : Type 0 where
  pub many : length values ≡ length counters
  pub nets : (number : ℕ) → nets_at table number ≡ with_nets (nets_at around) counters values masks number
  pub longer : length around ≤ length table
  pub within : (c : PlainCounter) → Contains counters c → c.number < length table

-- so it is inside of a controller with these counters, where each lane has a net
pub record IsInside (counters : List PlainCounter) (around : List AroundNets) (values masks : List ℕ) (table : List AroundNets) : Type 0 where
  pub many : length values ≡ length counters
  pub lanes : (c : PlainCounter) → Contains counters c → lanes_of counters ≤ length masks
  pub nets : (number : ℕ) → nets_at table number ≡ with_nets (nets_at around) counters values masks number
  pub longer : length around ≤ length table
  pub within : (c : PlainCounter) → Contains counters c → c.number < length table

-- where the counters around stand, and there is a net for each value and each lane of its own, all stand inside
abbrev pub StandInside : Type 0
StandInside =
    (d : Draft) (near : List Near) (counters : List PlainCounter) (around table : List AroundNets) (values masks : List ℕ) → IsInside counters around values masks table → StandAround d around near
    → All (λ v. HasNet d v 32) values → ((i : ℕ) → i < length masks → HasNet d (slice_index masks i) 1) → ((c : PlainCounter) → Contains counters c → lanes_of counters ≤ length masks)
    → StandAround d table (own_near counters near)

-- they still stand in a later draft
abbrev pub StandLater : Type 0
StandLater = (d later : Draft) (near : List Near) (table : List AroundNets) → StandAround d table near → Grows d later → StandAround later table near
