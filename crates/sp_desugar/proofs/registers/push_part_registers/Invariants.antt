use Rattle.std.proofs.Common.{◌≡◌, ◌++◌, map, drop}
use Rattle.sp_core.specs.Plain as core
use Rattle.sp_tree.specs.PlainTree.{plain_span}
use Rattle.sp_sugar.specs.Early.{parts_of, registers_for}
use Rattle.sp_desugar.specs.Crossings.{crosses_of}
use Rattle.sp_desugar.proofs.registers.push_part_registers.Given as goal

abbrev pub invariant-loop-span : goal.invariant-loop-span
invariant-loop-span l =
    map core.plain_mem l.out.items ++ registers_for (crosses_of l.crossing) (parts_of (map plain_span (drop l.span-index l.spans)))
    ≡ map core.plain_mem l.fn.out.items ++ registers_for (crosses_of l.crossing) (parts_of (map plain_span l.spans))
