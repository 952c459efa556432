use Rattle.sp_memory_nets.proofs.ArrayWires.{arrays_stay}
use Rattle.sp_memory_nets.proofs.array_laws.arrays_stay.Goals as goal

pub returns : goal.returns
returns c = arrays_stay
