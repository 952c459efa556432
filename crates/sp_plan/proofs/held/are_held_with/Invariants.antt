use Rattle.std.proofs.Common.{◌≡◌, ◌+◌, ◌≤◌, ◌^◌, true, [], drop}
use Rattle.std.specs.List.{list_all}
use Rattle.sp_core.specs.CoreParts.{plain_core}
use Rattle.sp_core.specs.Elements.{numbers_below}
use Rattle.sp_core.specs.Numbering.{number_count_in}
use Rattle.sp_core.specs.Plain.{plain_stage_list}
use Rattle.sp_plan.specs.Slots.{runs_of, is_held}
use Rattle.sp_plan.proofs.held.are_held_with.Given as goal

abbrev pub invariant-loop-q : goal.invariant-loop-q
invariant-loop-q l =
    (list_all (is_held (runs_of l.fn.number (plain_stage_list l.stages)) l.slots [] (plain_core l.core) l.owned l.meets l.p) (numbers_below l.q) ≡ true)
    × (runs_of l.from (plain_stage_list (drop l.q l.stages)) ≡ drop l.q (runs_of l.fn.number (plain_stage_list l.stages)))
    × (l.from + number_count_in (plain_stage_list (drop l.q l.stages)) ≤ 2 ^ 30)
