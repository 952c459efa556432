use Rattle.sp_lane_trees.proofs.Tree.{nodes_go}
use Rattle.sp_lane_trees.proofs.laws.nodes_go.Goals as goal

pub returns : goal.returns
returns c core = nodes_go core (record {
  inners = c.inners_go.ensures core;
  combined = c.combined_inners_go.ensures core;
  transfers = c.transfers_go.ensures core;
  branches_stand = c.branches_stand.ensures core;
  branches = c.branches_go.ensures core;
  fsms_stand = c.fsms_stand.ensures core;
  fsms = c.fsms_go.ensures core;
  outers_stand = c.outers_stand.ensures core;
  outers = c.outers_go.ensures core;
  stages = c.stages_go.ensures core;
  reductions = c.reductions_go.ensures core;
  elements = c.elements_go.ensures core;
})
