use Rattle.std.proofs.Common.{◌≡◌, drop}
use Rattle.sp_unroll.specs.Entries.{number_in, owned_at}
use Rattle.sp_unroll.proofs.within.push_names.Given as goal

abbrev pub invariant-loop-m : goal.invariant-loop-m
invariant-loop-m l =
    owned_at l.order (drop l.m-index l.owned) l.copy (number_in l.order l.names.items) ≡ owned_at l.order l.owned l.copy (number_in l.order l.initial.names.items)
