-- Items of a worked core: a branch, whose test has three operations, and of which the one body has two.
use Rattle.std.specs.Prelude.{[], ◌∷◌}
use Rattle.sp_words.specs.declared.kind.BinOp.TheVariants.{Gt}
use Rattle.sp_core.specs.ExampleForms.{two, write}
use Rattle.sp_core.specs.PlainCore.{PlainOp}
use Rattle.sp_machine.specs.Examples.{chosen}
use Rattle.sp_tree_events.specs.ToldItems.{operation, NodeHas}

pub record WorkedItems : Type 0 where
  -- the last operation of the test, and the write of the body
  pub test : NodeHas chosen.root 0 2 (operation (two Gt 0 1))
  pub write : NodeHas chosen.root 0 4 (operation (write 1 (0 ∷ [])))
  -- the other body has none
  pub none : (op : PlainOp) → NodeHas chosen.root 0 5 (operation op) → ⊥
