-- Each is computed.
use Rattle.std.proofs.Common.{◌<◌, arith}
use Rattle.sp_core.specs.ExampleTransfers.{copied}
use Rattle.sp_core_ports.proofs.copies_examples.worked_copies.Goals as goal

pub returns-clause-second : goal.returns-clause-second
unfolding copied
returns-clause-second c there = omega arith

pub returns-clause-third : goal.returns-clause-third
unfolding copied
returns-clause-third c h = let x : 2 < 2 = h (omega arith) in absurd (omega (arith, x))

pub returns-clause-dram : goal.returns-clause-dram
unfolding copied
returns-clause-dram c there = let x : 1 < 1 = there in absurd (omega (arith, x))
