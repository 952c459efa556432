-- Nets of one bit.
use Rattle.std.specs.Prelude.{◌≡◌, ℕ, ◌≤◌}
use Rattle.sp_netlist.specs.Signals.{Signals}
use Rattle.sp_netlist.specs.Draft.{Draft}
use Rattle.sp_gates.specs.Nets.{HasNet}
use Rattle.sp_gates.specs.Runs.{RunsOn}

-- the net's word is 0 or 1 in each cycle of each run
pub record HasBit (d : Draft) (net : ℕ) : Type 0 where
  pub net_stands : HasNet d net 1
  pub is_bit : (s : Signals) → RunsOn s d.cells → (t : ℕ) → s.net t net ≤ 1

-- the net's word is 1 in each cycle of each run
pub record IsOne (d : Draft) (net : ℕ) : Type 0 where
  pub net_stands : HasNet d net 1
  pub always : (s : Signals) → RunsOn s d.cells → (t : ℕ) → s.net t net ≡ 1
