use Rattle.std.proofs.Common.{◌≡◌, ◌++◌, length, drop}
use Rattle.toml.specs.View.{items_view}
use Rattle.sp_setup.specs.Checks.{delay_fault, delays_in}
use Rattle.sp_setup.proofs.table.read_delay_list.Given as goal

abbrev pub invariant-loop-item : goal.invariant-loop-item
invariant-loop-item l = record {
  check : delay_fault (length l.delays.items) (items_view (drop l.item-index l.items)) ≡ delay_fault 0 (items_view l.items);
  delays : l.delays.items ++ delays_in (items_view (drop l.item-index l.items)) ≡ delays_in (items_view l.items);
}
