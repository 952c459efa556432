-- Places that go round.
use Rattle.std.specs.Prelude.{◌≡◌, ℕ, suc, ◌+◌, ◌-◌, ◌<◌, Bool, nat_lt, if◌then◌else◌}
use Rattle.sp_netlist.specs.Signals.{Signals}
use Rattle.sp_gates.specs.Tested.{is_on}

-- a place below twice as many as there are, gone round once where it is past the last one
abbrev pub wrapped : (len place : ℕ) → ℕ
wrapped len place = if nat_lt place len then place else place - len

-- a place that goes on or stays, or to the first one
abbrev pub moved_place : (len : ℕ) (fresh on : Bool) (place : ℕ) → ℕ
moved_place len fresh on place = if fresh then 0 else (if on then wrapped len (place + 1) else place)

-- a register that goes round so many places
pub record CountsPlaces (s : Signals) (len on fresh net : ℕ) : Type 0 where
  pub begins : s.net 0 net ≡ 0
  pub below : (t : ℕ) → s.net t net < len
  pub goes : (t : ℕ) → s.net (suc t) net ≡ moved_place len (is_on s fresh t) (is_on s on t) (s.net t net)
