use Rattle.std.proofs.Common.{◌≡◌, ◌++◌, drop, map, slice_index}
use Rattle.sp_core.specs.Meaning.{is_out, numbers_of}
use Rattle.sp_core.specs.Plain.{plain_mem}
use Rattle.sp_port_nets.proofs.nets.output_nets.Given as goal

abbrev pub invariant-loop-m : goal.invariant-loop-m
invariant-loop-m l = l.nets.items ++ map (slice_index l.words) (numbers_of is_out l.m (map plain_mem (drop l.m l.mem-items))) ≡ map (slice_index l.words) (numbers_of is_out 0 (map plain_mem l.mem-items))
