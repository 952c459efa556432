use Rattle.std.proofs.Common.{arith}
use Rattle.sp_packed.proofs.Places.{all_written}
use Rattle.sp_packed.proofs.block.write_all.Goals as goal

pub returns : goal.returns
returns g c =
    let inv = c.loop-i.invariant in
    (inv.0, all_written c.loop-i.cells.slots c.args.len c.args.value inv.1 (λ k h. inv.2 k (omega (arith, c.loop-i-test.false, c.loop-i.auto))))
