-- The laws of the crates below by which transfers of trees are shown to go, together.
use Rattle.sp_core.specs.PlainCore.{PlainCore}
use Rattle.sp_plan.specs.PlainPlan.{PlainPlan}
use Rattle.sp_machine.specs.Transfers.{Delays}
use Rattle.sp_node_runs.specs.FitsLaws.{PartsFit}
use Rattle.sp_node_runs.specs.RunsLaws.{SidesComeInTurn, BodiesComeInTurn, StagesComeInTurn}
use Rattle.sp_tree_runs.specs.BodiesScoped.{ScopedParts}
use Rattle.sp_transfer_runs.specs.Trees.{TransfersMoveAll}
use Rattle.sp_transfer_runs.specs.Moving.{LoadsMove, StoresMove}

pub record Laws (core : PlainCore) (plan : PlainPlan) (delays : Delays) : Type 0 where
  pub sides_turn : SidesComeInTurn core plan delays
  pub bodies_turn : BodiesComeInTurn core plan delays
  pub stages_turn : StagesComeInTurn core plan delays
  pub fits : PartsFit core plan delays
  pub parts : ScopedParts core plan delays
  pub moved : TransfersMoveAll core plan delays
  pub loads : LoadsMove core plan delays
  pub stores : StoresMove core plan delays
