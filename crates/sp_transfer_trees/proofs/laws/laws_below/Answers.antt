use Rattle.sp_transfer_trees.proofs.laws.laws_below.Goals as goal

pub returns : goal.returns
returns c core plan delays = record {
  sides_turn = c.sides_come_in_turn.ensures core plan delays;
  bodies_turn = c.bodies_come_in_turn.ensures core plan delays;
  stages_turn = c.stages_come_in_turn.ensures core plan delays;
  fits = c.parts_fit.ensures core plan delays;
  parts = c.parts_are_done.ensures.parts core plan delays;
  moved = c.transfers_move_all.ensures core plan delays;
  loads = c.loads_move.ensures core plan delays;
  stores = c.stores_move.ensures core plan delays;
}
