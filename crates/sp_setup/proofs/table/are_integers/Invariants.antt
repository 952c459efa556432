use Rattle.std.proofs.Common.{◌≡◌, drop}
use Rattle.toml.specs.View.{items_view}
use Rattle.sp_setup.specs.Checks.{are_integers}
use Rattle.sp_setup.proofs.table.are_integers.Given as goal

abbrev pub invariant-loop-item : goal.invariant-loop-item
invariant-loop-item l = are_integers (items_view (drop l.item-index l.items)) ≡ are_integers (items_view l.items)
