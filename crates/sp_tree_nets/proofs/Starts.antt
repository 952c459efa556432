-- Starts that are reserved before a part is emitted, and driven behind it.
use Rattle.std.proofs.Common.{ℕ, List, [], ◌∷◌}
use Rattle.sp_netlist.specs.Draft.{Draft}
use Rattle.sp_gates.specs.Grows.{Opens}
use Rattle.sp_gates.specs.Nets.{Awaits}
use Rattle.sp_op_nets.specs.Reserved.{Reserves}
use Rattle.sp_op_nets.proofs.Reserving.{one_reserved, reserved_join}

pub opened : (a b c : Draft) (net : ℕ) (nets : List ℕ) → Opens a b net → Awaits b net 1 → Reserves b c nets → Reserves a c (net ∷ nets)
opened a b c net nets o w r = reserved_join a b c (net ∷ []) nets (one_reserved a b net 1 o w) r
