use Rattle.sp_owner_runs.proofs.owners.laws_below.Goals as goal

pub returns : goal.returns
returns c core plan delays = record {
  tells_all = c.timelines_tell_all.ensures core plan delays;
  runs_own = c.runs_own.ensures core;
  owners_do = c.owners_do.ensures core;
  sides_turn = c.sides_come_in_turn.ensures core plan delays;
  bodies_turn = c.bodies_come_in_turn.ensures core plan delays;
  stages_turn = c.stages_come_in_turn.ensures core plan delays;
  parts = c.parts_are_done.ensures.parts core plan delays;
  fits = c.parts_fit.ensures core plan delays;
  takes = c.stages_take_time.ensures core plan delays;
  sides_own = c.sides_own.ensures core plan delays;
  bodies_own = c.bodies_own.ensures core plan delays;
  stages_own = c.stages_own.ensures core plan delays;
  loops = c.loops_renew.ensures core plan delays;
  machines = c.machines_keep.ensures core plan delays;
  numbers = c.numbers_stand.ensures core plan delays;
  within = c.numbers_are_within.ensures core;
  stages_told = c.stages_are_told.ensures core plan delays;
  sides_agree = c.sides_agree.ensures core plan delays;
  machines_agree = c.machines_agree.ensures core plan delays;
  stages_agree = c.stages_agree.ensures core plan delays;
  tests_agree = c.branch_tests_agree.ensures core plan delays;
  lists_agree = c.machine_lists_agree.ensures core plan delays;
  inners_name = c.inners_name_copies.ensures core plan delays;
  lists_name = c.lists_name_copies.ensures core plan delays;
  loads_name = c.loads_name_copies.ensures core plan delays;
  stores_name = c.stores_name_copies.ensures core plan delays;
  one = c.numbers_stand_for_one.ensures;
}
