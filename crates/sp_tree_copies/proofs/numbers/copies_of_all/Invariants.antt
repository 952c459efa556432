use Rattle.std.proofs.Common.{◌≡◌, map, take}
use Rattle.sp_plan.specs.Plain.{plain_plan}
use Rattle.sp_tree_copies.specs.Loops.{some_copies}
use Rattle.sp_tree_copies.proofs.numbers.copies_of_all.Given as goal

abbrev pub invariant-loop-index : goal.invariant-loop-index
invariant-loop-index l = l.copies.items ≡ map (some_copies (plain_plan l.plan)) (take l.index l.owned)
