use Rattle.std.proofs.Common.{◌≡◌, ◌++◌, map, drop}
use Rattle.sp_tree.specs.Plain.{plain_mem}
use Rattle.sp_tree.specs.PlainTree.{plain_stmts}
use Rattle.sp_tree.specs.Structure.{own_mems}
use Rattle.sp_sugar.specs.Numbers.{mem_number}
use Rattle.sp_desugar.proofs.combines.push_own.Given as goal

abbrev pub invariant-loop-s : goal.invariant-loop-s
invariant-loop-s l =
    l.out.items ++ map (mem_number (map plain_mem l.mems)) (own_mems (plain_stmts (drop l.s-index l.body)))
    ≡ l.fn.out.items ++ map (mem_number (map plain_mem l.mems)) (own_mems (plain_stmts l.body))
