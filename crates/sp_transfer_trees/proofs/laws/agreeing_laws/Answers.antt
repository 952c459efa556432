use Rattle.sp_transfer_trees.proofs.laws.agreeing_laws.Goals as goal

pub returns : goal.returns
returns c core plan delays = record {
  agreement = c.agreement.ensures;
  sides = c.sides_agree.ensures core plan delays;
  machines = c.machines_agree.ensures core plan delays;
  stages = c.stages_agree.ensures core plan delays;
  parts = c.parts_are_done.ensures.parts core plan delays;
}
