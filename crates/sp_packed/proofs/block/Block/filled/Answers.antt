use Rattle.std.proofs.Common.{replicate, length, ap, ◌∙◌}
use Rattle.std.proofs.lemmas.List.{length-replicate}
use Rattle.sp_packed.proofs.Places.{all_held}
use Rattle.sp_packed.proofs.block.Block.filled.Goals as goal

pub invariant_of-result : goal.invariant_of-result
invariant_of-result g c =
    let got = c.in_ok-base.ensures in let n = c.args.len in let x = c.args.value in
    let held = all_held c.write_all.new.cells.slots (replicate n x) c.write_all.ensures.1 in
    (c.write_all.ensures.0 ∙ got.0, held.0, ap length held.1 ∙ length-replicate n x, got.2, got.3, got.4)

pub returns : goal.returns
returns g c = (all_held c.write_all.new.cells.slots (replicate c.args.len c.args.value) c.write_all.ensures.1).1
