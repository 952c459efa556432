-- At the number of a transfer of a tree, what happens in its own runs is what happens in the whole.
use Rattle.std.specs.Prelude.{ℕ, ◌+◌, List}
use Rattle.sp_netlist.specs.declared.parts.Child.{Child}
use Rattle.sp_netlist.specs.Signals.{Signals}
use Rattle.sp_core.specs.Around.{Near}
use Rattle.sp_core.specs.Numbering.{spans_size, number_count}
use Rattle.sp_core.specs.PlainCore.{PlainNode, load, store, PlainCore}
use Rattle.sp_plan.specs.PlainPlan.{PlainPlan}
use Rattle.sp_machine.specs.Stamps.{Stamped}
use Rattle.sp_machine.specs.Transfers.{Delays}
use Rattle.sp_overlap.specs.Whole.{IsTimed}
use Rattle.sp_node_runs.specs.RunsTold.{all_events}
use Rattle.sp_node_runs.specs.BodiesGiven.{Nets}
use Rattle.sp_node_runs.specs.BodiesSpans.{SpanNets}
use Rattle.sp_tree_events.specs.PartsAgreeing.{Agree, AgreeIn, AgreeLaws, SidesAgree, MachinesAgree, StagesAgree}
use Rattle.sp_tree_runs.specs.BodiesScoped.{Scoped, ScopedParts, placed}
use Rattle.sp_tree_circuits.specs.Answers.{EachTransfer}
use Rattle.sp_tree_circuits.specs.Circuits.{Circuit}

-- the laws below by which it is so
pub record AgreeingLaws (core : PlainCore) (plan : PlainPlan) (delays : Delays) : Type 0 where
  pub agreement : AgreeLaws
  pub sides : SidesAgree core plan delays
  pub machines : MachinesAgree core plan delays
  pub stages : StagesAgree core plan delays
  pub parts : ScopedParts core plan delays

module _ (core : PlainCore) (plan : PlainPlan) (delays : Delays) (whole : List Stamped) where
  abbrev pub TransferAgrees : PlainNode → (node n : ℕ) → List Scoped → Child → List SpanNets → Type 0
  TransferAgrees (load r m spans) k n qs c nets = Agree whole (all_events core plan delays (load r m spans) k n (placed qs)) (n + spans_size spans)
  TransferAgrees (store r m spans) k n qs c nets = Agree whole (all_events core plan delays (store r m spans) k n (placed qs)) (n + spans_size spans)
  TransferAgrees node k n qs c nets = Unit {0}

  -- where so it is at all numbers of a node, it is at those of its transfers
  abbrev pub TransfersAgree : Type 0
  TransfersAgree =
      (s : Signals) (node : PlainNode) (near : List Near) (env : Nets) (k n : ℕ) (qs : List Scoped) (c : Child) → IsTimed node
      → AgreeIn whole (all_events core plan delays node k n (placed qs)) n (n + number_count node) → (w : Circuit core plan s node near env k c) → EachTransfer core plan delays s TransferAgrees node near env k n qs c w
