use Rattle.std.proofs.Common.{◌≡◌, ◌++◌, drop, length, map}
use Rattle.sp_core.specs.Plain as core
use Rattle.sp_tree.specs.Plain.{plain_mem}
use Rattle.sp_tree.specs.PlainTree.{plain_stmts}
use Rattle.sp_sugar.specs.Registers.{registers, owned_registers}
use Rattle.sp_sugar.specs.Stages.{Combines, stages}
use Rattle.sp_desugar.specs.Crossings.{onto}
use Rattle.sp_desugar.specs.Names.{plain_ending}
use Rattle.sp_operations.specs.Running.{run_of}
use Rattle.sp_desugar.proofs.tree.+tree.Given as goal

abbrev pub invariant-add_statements-loop-s : goal.invariant-add_statements-loop-s
invariant-add_statements-loop-s l = record {
  counted : l.at ≡ l.s-index;
  regs : map core.plain_mem l.regs.items ++ registers (plain_stmts (drop l.s-index l.body)) (plain_ending l.ending)
      ≡ map core.plain_mem l.fn.regs.items ++ registers (plain_stmts l.body) (plain_ending l.ending);
  owned : l.owned.items ++ owned_registers (length (map core.plain_mem l.regs.items)) (plain_stmts (drop l.s-index l.body)) (plain_ending l.ending)
      ≡ l.fn.owned.items ++ owned_registers (length (map core.plain_mem l.fn.regs.items)) (plain_stmts l.body) (plain_ending l.ending);
  stages : (c : Combines)
      → onto l.out.items (stages (map plain_mem l.mems) l.counters (run_of l.run) (length (map core.plain_mem l.regs.items)) (plain_stmts (drop l.s-index l.body)) (plain_ending l.ending) c)
      ≡ onto l.fn.out.items (stages (map plain_mem l.mems) l.counters (run_of l.fn.run) (length (map core.plain_mem l.fn.regs.items)) (plain_stmts l.body) (plain_ending l.ending) c);
}
