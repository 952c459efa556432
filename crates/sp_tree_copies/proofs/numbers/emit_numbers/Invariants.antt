use Rattle.std.proofs.Common.{[], All, take}
use Rattle.std.specs.List.{AllZip}
use Rattle.sp_netlist.specs.Signals.{Signals}
use Rattle.sp_gates.specs.Grows.{Fills}
use Rattle.sp_gates.specs.Runs.{RunsOn}
use Rattle.sp_plan.specs.Plain.{plain_plan}
use Rattle.sp_tree_copies.specs.Loops.{HasCopies, CopiesStand}
use Rattle.sp_tree_copies.proofs.numbers.emit_numbers.Given as goal

abbrev pub invariant-loop-own : goal.invariant-loop-own
invariant-loop-own l = record {
  fills : Fills l.fn.builder l.builder [];
  copies : (s : Signals) → RunsOn s l.builder.cells → AllZip (HasCopies (plain_plan l.plan) s) (take l.own-index l.turns) l.all.items;
  stand : All (CopiesStand l.builder) l.all.items;
}
