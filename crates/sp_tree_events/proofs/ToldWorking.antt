-- Items of the worked core.
use Rattle.std.proofs.Common.{inl, inr, arith, refl}
use Rattle.sp_machine.specs.Examples.{chosen}
use Rattle.sp_tree_events.specs.ToldItems.{operation}
use Rattle.sp_tree_events.specs.ToldExample.{WorkedItems}
use Rattle.sp_tree_events.proofs.ToldRanges.{node_range}

pub worked : WorkedItems
unfolding chosen
worked = record {
  test = inr (inl (inl (record { place = 2; within = omega arith; is = refl; numbered = refl })));
  write = inr (inl (inr (inl (inr (record { place = 1; within = omega arith; is = refl; numbered = refl })))));
  none = λ op h. (let l = (node_range chosen.root 0).below 5 (operation op) h in omega (arith, l));
}
