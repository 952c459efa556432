use Rattle.std.proofs.Common.{◌≡◌, ◌+◌, ◌≤◌, ◌^◌, true, drop, map}
use Rattle.std.specs.List.{list_all}
use Rattle.sp_core.specs.CoreParts.{plain_core}
use Rattle.sp_core.specs.Elements.{numbers_below}
use Rattle.sp_core.specs.Numbering.{number_count_in}
use Rattle.sp_core.specs.Plain.{plain_counter, plain_stage_list}
use Rattle.sp_plan.specs.Slots.{runs_of, are_chains_right_of, is_parallel_block}
use Rattle.sp_plan.proofs.chains.are_chains_right.Given as goal

abbrev pub invariant-loop-p : goal.invariant-loop-p
invariant-loop-p l =
    (list_all (are_chains_right_of (runs_of l.fn.number (plain_stage_list l.stages)) l.slots l.chains (plain_core l.core) (is_parallel_block (map plain_counter l.counters) l.fn.style) l.meets) (numbers_below l.p) ≡ true)
    × (runs_of l.from (plain_stage_list (drop l.p l.stages)) ≡ drop l.p (runs_of l.fn.number (plain_stage_list l.stages)))
    × (l.from + number_count_in (plain_stage_list (drop l.p l.stages)) ≤ 2 ^ 30)
