use Rattle.sp_tree_circuits.proofs.laws.laws_below.Goals as goal

pub returns : goal.returns
returns c core plan delays = record {
  tells_all = c.timelines_tell_all.ensures core plan delays;
  sides_turn = c.sides_come_in_turn.ensures core plan delays;
  bodies_turn = c.bodies_come_in_turn.ensures core plan delays;
  stages_turn = c.stages_come_in_turn.ensures core plan delays;
  sides_told = c.sides_are_told.ensures core plan delays;
  bodies_told = c.bodies_are_told.ensures core plan delays;
  stages_told = c.stages_are_told.ensures core plan delays;
  branches = c.branches_of_nodes_work.ensures core plan delays;
  machines = c.machines_of_nodes_work.ensures core plan delays;
  loops = c.loops_of_nodes_work.ensures core plan delays;
  fits = c.parts_fit.ensures core plan delays;
  takes = c.stages_take_time.ensures core plan delays;
  parts = c.parts_are_done.ensures.parts core plan delays;
  done = c.parts_are_done.ensures.bodies core plan delays;
  found = c.inners_run_so.ensures.found core plan delays;
  inners = c.inners_run_so.ensures.runs core plan delays;
  tests = c.tests_tell.ensures core plan delays;
  turns = c.turns_tell.ensures core plan delays;
  groups = c.loops_have_groups.ensures core plan delays;
  counted = c.counted_inners_work.ensures core plan delays;
  single = c.single_inners_work.ensures core plan delays;
  lists = c.lists_work.ensures core;
  bounds = c.bounds_stand.ensures;
  spans = c.spans_stand.ensures;
  rows = c.rows_stand.ensures core plan delays;
  tell = c.loops_tell.ensures core plan delays;
  order = c.beats_in_order.ensures;
  timeline = c.loops_are_in_timeline.ensures;
  words = c.words_go_along.ensures;
}
