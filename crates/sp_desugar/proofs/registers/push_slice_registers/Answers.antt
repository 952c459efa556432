use Rattle.std.proofs.Common.{◌++◌, map, ap, ◌∙◌}
use Rattle.sp_core.specs.Plain as core
use Rattle.sp_tree.specs.PlainTree.{plain_span}
use Rattle.sp_sugar.specs.Early.{parts_of, registers_for}
use Rattle.sp_desugar.specs.Crossings.{crosses_of}
use Rattle.sp_desugar.specs.declared.early.Crossing.TheVariants.{Part}
use Rattle.sp_desugar.proofs.registers.push_slice_registers.Goals as goal

pub returns : goal.returns
returns c =
    c.in_ok-push_part_registers.ensures
    ∙ ap (λ early. map core.plain_mem c.args.out.now.items ++ registers_for (crosses_of (Part early)) (parts_of (map plain_span c.args.spans.now))) c.is_early_slice-early.ensures
