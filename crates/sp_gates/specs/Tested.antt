-- Nets of one bit by what is asked of them: whether they are 1.
use Rattle.std.specs.Prelude.{ℕ, ◌==◌, Bool}
use Rattle.sp_netlist.specs.Signals.{Signals}

-- whether a net is 1 in a cycle
abbrev pub is_on : Signals → (net cycle : ℕ) → Bool
is_on s net t = s.net t net == 1
