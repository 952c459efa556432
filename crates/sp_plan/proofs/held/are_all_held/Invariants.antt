use Rattle.std.proofs.Common.{◌≡◌, ◌+◌, ◌≤◌, ◌^◌, true, [], drop}
use Rattle.std.specs.List.{list_all}
use Rattle.sp_core.specs.CoreParts.{plain_core}
use Rattle.sp_core.specs.Elements.{numbers_below}
use Rattle.sp_core.specs.Numbering.{number_count_in}
use Rattle.sp_core.specs.Plain.{plain_stage_list}
use Rattle.sp_plan.specs.Slots.{runs_of, are_held_with}
use Rattle.sp_plan.proofs.held.are_all_held.Given as goal

abbrev pub invariant-loop-p : goal.invariant-loop-p
invariant-loop-p l =
    (list_all (are_held_with (runs_of l.fn.number (plain_stage_list l.stages)) l.slots [] (plain_core l.core) l.owned l.meets) (numbers_below l.p) ≡ true)
    × (runs_of l.from (plain_stage_list (drop l.p l.stages)) ≡ drop l.p (runs_of l.fn.number (plain_stage_list l.stages)))
    × (l.from + number_count_in (plain_stage_list (drop l.p l.stages)) ≤ 2 ^ 30)
