use Rattle.sp_memory_nets.proofs.ArrayTouched.{array_is}
use Rattle.sp_memory_nets.proofs.array_arrays.array_of.Goals as goal

pub returns-clause-array : goal.returns-clause-array
returns-clause-array c =
    let e = c.in_ok-part.ensures in
    array_is _ _ _ c.args.m c.in_ok-part.part c.in_ok-writes.writes.items c.in_ok-reads.reads.items e.shape e.writes e.reads c.in_ok-writes.ensures c.in_ok-reads.ensures
