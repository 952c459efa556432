use Rattle.std.proofs.Common.{◌≡◌, map}
use Rattle.sp_core.specs.CoreParts.{plain_core}
use Rattle.sp_core.specs.Elements.{numbers_below}
use Rattle.sp_core.specs.Plain.{plain_counter}
use Rattle.sp_plan.specs.Slots.{is_parallel_block}
use Rattle.sp_stages.specs.Chains.{chain_number, leaders}
use Rattle.sp_plan.specs.Runs.{plain_run}
use Rattle.sp_stages.proofs.chaining.chains_of.Given as goal

abbrev pub invariant-loop-p : goal.invariant-loop-p
invariant-loop-p l =
    l.chains.items ≡ map (chain_number l.slots (leaders (plain_core l.fn.core) l.fn.meets (is_parallel_block (map plain_counter l.fn.counters) l.fn.style) (map plain_run l.runs) l.slots)) (numbers_below l.p)
