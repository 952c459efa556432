use Rattle.std.proofs.Common.{ℕ, zero, suc, ◌<◌, [], ◌∷◌, slice_index, arith}
use Rattle.sp_netlist.specs.Draft.{Draft}
use Rattle.sp_gates.specs.Nets.{HasNet}
use Rattle.circuit_tests.proofs.lane_nets.lanes_are_joined.Goals as goal

both : (d : Draft) (net : ℕ) → HasNet d net 1 → (i : ℕ) → i < 2 → HasNet d (slice_index (net ∷ net ∷ []) i) 1
both d net h zero l = h
both d net h (suc zero) l = h
both d net h (suc (suc i)) l = absurd (omega (arith, l))

pub some_live-requires-clause-masks : goal.some_live-requires-clause-masks
some_live-requires-clause-masks o c = both _ _ c.in_ok-mask.ensures.one.net_stands
