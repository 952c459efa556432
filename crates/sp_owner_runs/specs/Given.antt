-- The laws of the crates below by which owners are shown to act and operations to name copies, together.
use Rattle.sp_core.specs.PlainCore.{PlainNode, PlainCore}
use Rattle.sp_plan.specs.PlainPlan.{PlainPlan}
use Rattle.sp_machine.specs.Laws.{TellsAll}
use Rattle.sp_machine.specs.Transfers.{Delays}
use Rattle.sp_node_runs.specs.FitsLaws.{PartsFit, StagesTakeTime}
use Rattle.sp_node_runs.specs.RunsTold.{StagesAreTold}
use Rattle.sp_node_runs.specs.RunsLaws.{SidesComeInTurn, BodiesComeInTurn, StagesComeInTurn}
use Rattle.sp_tree_runs.specs.BodiesScoped.{ScopedParts}
use Rattle.sp_tree_events.specs.ActsKeeping.{MachinesKeep}
use Rattle.sp_tree_events.specs.ActsRenewing.{LoopsRenew}
use Rattle.sp_tree_events.specs.CopiesLaws.{NumbersStand, InnersNameCopies, ListsNameCopies, LoadsNameCopies, StoresNameCopies}
use Rattle.sp_tree_events.specs.OwnersOwning.{RunsOwn, SidesOwn, BodiesOwn, StagesOwn}
use Rattle.sp_tree_events.specs.PartsAgreeing.{SidesAgree, MachinesAgree, StagesAgree}
use Rattle.sp_tree_events.specs.PartsLists.{BranchTestsAgree, MachineListsAgree}
use Rattle.sp_tree_events.specs.ToldLaws.{NumbersAreWithin, NumbersStandForOne}
use Rattle.sp_owner_runs.specs.Deeds.{OwnersDo}

pub record Laws (core : PlainCore) (plan : PlainPlan) (delays : Delays) : Type 0 where
  pub tells_all : (node : PlainNode) → TellsAll core plan delays node
  pub runs_own : (node : PlainNode) → RunsOwn core node
  pub owners_do : (node : PlainNode) → OwnersDo core node
  pub sides_turn : SidesComeInTurn core plan delays
  pub bodies_turn : BodiesComeInTurn core plan delays
  pub stages_turn : StagesComeInTurn core plan delays
  pub parts : ScopedParts core plan delays
  pub fits : PartsFit core plan delays
  pub takes : StagesTakeTime core plan delays
  pub sides_own : SidesOwn core plan delays
  pub bodies_own : BodiesOwn core plan delays
  pub stages_own : StagesOwn core plan delays
  pub loops : LoopsRenew core plan delays
  pub machines : MachinesKeep core plan delays
  pub numbers : NumbersStand core plan delays
  pub within : (node : PlainNode) → NumbersAreWithin core node
  pub stages_told : StagesAreTold core plan delays
  pub sides_agree : SidesAgree core plan delays
  pub machines_agree : MachinesAgree core plan delays
  pub stages_agree : StagesAgree core plan delays
  pub tests_agree : BranchTestsAgree core plan delays
  pub lists_agree : MachineListsAgree core plan delays
  pub inners_name : InnersNameCopies core plan delays
  pub lists_name : ListsNameCopies core plan delays
  pub loads_name : LoadsNameCopies core plan delays
  pub stores_name : StoresNameCopies core plan delays
  pub one : (node : PlainNode) → NumbersStandForOne node
