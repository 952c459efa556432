use Rattle.std.proofs.Common.{◌≡◌, true}
use Rattle.std.specs.List.{list_all}
use Rattle.sp_core.specs.Elements.{numbers_below}
use Rattle.sp_core.specs.Invariant.{has_owner, owned_in}
use Rattle.sp_core.specs.PartsPlain.{core_of}
use Rattle.sp_core.specs.Plain.{plain_node}
use Rattle.sp_core.proofs.shown.have_owners.Given as goal

abbrev pub invariant-loop-i : goal.invariant-loop-i
invariant-loop-i l = (l.owned.items ≡ owned_in (plain_node l.parts.root)) × (list_all (has_owner (core_of l.parts)) (numbers_below l.i) ≡ true)
