-- The report of a plan: a line for each memory of the program's text, then a line for each node, in preorder.
use Rattle.std.specs.Prelude.{ℕ, List, ◌++◌}
use Rattle.sp_core.specs.PlainCore.{PlainCore}
use Rattle.sp_plan.specs.PlainPlan.{PlainPlan}
use Rattle.sp_report.specs.Memories.{mem_lines}
use Rattle.sp_report.specs.Nodes.{node_lines}

abbrev pub report_text : PlainCore → PlainPlan → List ℕ
report_text core plan = mem_lines 0 core.mems plan.mems ++ node_lines plan 0 core.root
