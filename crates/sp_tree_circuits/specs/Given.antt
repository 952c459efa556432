-- The laws of the crates below by which a circuit of a tree is shown to go, together.
use Rattle.sp_core.specs.PlainCore.{PlainNode, PlainCore}
use Rattle.sp_part_runs.specs.BeatsLaws.{LoopsAreInTimeline}
use Rattle.sp_part_runs.specs.WordsLaws.{WordsGoAlong}
use Rattle.sp_time.specs.Laws.{BeatsInOrder}
use Rattle.sp_plan.specs.PlainPlan.{PlainPlan}
use Rattle.sp_machine.specs.Laws.{TellsAll}
use Rattle.sp_machine.specs.Transfers.{Delays}
use Rattle.sp_node_runs.specs.RunsLaws.{SidesComeInTurn, BodiesComeInTurn, StagesComeInTurn}
use Rattle.sp_node_runs.specs.RunsTold.{SidesAreTold, BodiesAreTold, StagesAreTold}
use Rattle.sp_node_runs.specs.ControlBeating.{LoopsOfNodesWork}
use Rattle.sp_node_runs.specs.ControlLaws.{BranchesOfNodesWork, MachinesOfNodesWork}
use Rattle.sp_node_runs.specs.FitsLaws.{PartsFit, StagesTakeTime}
use Rattle.sp_node_runs.specs.BodiesBounds.{BoundsStand}
use Rattle.sp_node_runs.specs.BodiesLaws.{CountedInnersWork, SingleInnersWork}
use Rattle.sp_node_runs.specs.BodiesLists.{ListsWork}
use Rattle.sp_node_runs.specs.BodiesRows.{RowsStand}
use Rattle.sp_node_runs.specs.BodiesSpans.{SpansStand}
use Rattle.sp_node_runs.specs.BodiesSteps.{LoopsTell}
use Rattle.sp_tree_runs.specs.BodiesLanes.{LoopsHaveGroups}
use Rattle.sp_tree_runs.specs.BodiesScoped.{ScopedParts, DoneSo}
use Rattle.sp_tree_runs.specs.BodiesScopes.{ScopesAreFound, InnersRunSo, TestsTell}
use Rattle.sp_tree_runs.specs.BodiesTurns.{TurnsTell}

pub record Laws (core : PlainCore) (plan : PlainPlan) (delays : Delays) : Type 0 where
  pub tells_all : (node : PlainNode) → TellsAll core plan delays node
  pub sides_turn : SidesComeInTurn core plan delays
  pub bodies_turn : BodiesComeInTurn core plan delays
  pub stages_turn : StagesComeInTurn core plan delays
  pub sides_told : SidesAreTold core plan delays
  pub bodies_told : BodiesAreTold core plan delays
  pub stages_told : StagesAreTold core plan delays
  pub branches : BranchesOfNodesWork core plan delays
  pub machines : MachinesOfNodesWork core plan delays
  pub loops : LoopsOfNodesWork core plan delays
  pub fits : PartsFit core plan delays
  pub takes : StagesTakeTime core plan delays
  pub parts : ScopedParts core plan delays
  pub done : DoneSo core plan delays
  pub found : ScopesAreFound core plan delays
  pub inners : InnersRunSo core plan delays
  pub tests : TestsTell core plan delays
  pub turns : TurnsTell core plan delays
  pub groups : LoopsHaveGroups core plan delays
  pub counted : CountedInnersWork core plan delays
  pub single : SingleInnersWork core plan delays
  pub lists : ListsWork core
  pub bounds : BoundsStand
  pub spans : SpansStand
  pub rows : RowsStand core plan delays
  pub tell : LoopsTell core plan delays
  pub order : BeatsInOrder
  pub timeline : LoopsAreInTimeline
  pub words : WordsGoAlong
