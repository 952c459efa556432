use Rattle.sp_memory_nets.proofs.ArrayWires.{arrays_are_open}
use Rattle.sp_memory_nets.proofs.array_laws.arrays_are_open.Goals as goal

pub returns : goal.returns
returns c = arrays_are_open
