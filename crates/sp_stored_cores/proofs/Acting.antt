-- What a circuit's transfers do.
use Rattle.std.proofs.Common.{ℕ, suc, ◌+◌, true, false, List, length}
use Rattle.sp_netlist.specs.declared.parts.Child.{Child}
use Rattle.sp_netlist.specs.Signals.{Signals}
use Rattle.sp_core.specs.Around.{Near}
use Rattle.sp_core.specs.Numbering.{counters_size, node_count, number_count}
use Rattle.sp_core.specs.PlainCore.{PlainNode, PlainStages, inner, outer, fsm, branch, load, store, sparse, no_stage, more_stage, PlainCore}
use Rattle.sp_plan.specs.PlainPlan.{PlainPlan, node_plan}
use Rattle.sp_time.specs.Beats.{slot_at}
use Rattle.sp_machine.specs.Stamps.{Stamped}
use Rattle.sp_machine.specs.Timeline.{slots_of}
use Rattle.sp_machine.specs.Transfers.{Delays}
use Rattle.sp_node_runs.specs.BodiesGiven.{Nets}
use Rattle.sp_node_runs.specs.BodiesLaws.{own_near}
use Rattle.sp_node_runs.specs.BodiesSpans.{SpanNets}
use Rattle.sp_tree_runs.specs.BodiesScoped.{Scoped, scoped_sides, scoped_bodies, scoped_stages}
use Rattle.sp_tree_circuits.specs.Acts.{PartGoes, Acts, StagesAct}
use Rattle.sp_tree_circuits.specs.Answers.{EachTransfer, EachInStages, SlicesStand}
use Rattle.sp_tree_circuits.specs.Circuits.{slot_nets, Circuit, StageCircuits}

module _ (core : PlainCore) (plan : PlainPlan) (delays : Delays) (s : Signals) (events : List Stamped) (t : ℕ) where
  pub record TransferActs (node : PlainNode) (k n : ℕ) (qs : List Scoped) (c : Child) (nets : List SpanNets) : Type 0 where
    pub part : PartGoes core plan delays s events t node k n qs c
    pub slices : SlicesStand core plan delays s qs nets t

  mutual
    pub transfers_act : (node : PlainNode) (near : List Near) (env : Nets) (k n : ℕ) (qs : List Scoped) (c : Child) (w : Circuit core plan s node near env k c) → Acts core plan delays s events t node near env k n qs c w
        → EachTransfer core plan delays s TransferActs node near env k n qs c w
    transfers_act (branch ops first second) near env k n qs c w a = (
      transfers_act first near env (suc k) (n + length ops) (scoped_sides core plan delays ops k true qs) w.chosen w.one a.2,
      transfers_act second near env (suc k + node_count first) (n + (length ops + number_count first)) (scoped_sides core plan delays ops k false qs) w.left w.other a.3,
    )
    transfers_act (fsm start state ops node after) near env k n qs c w a = transfers_act node near env (suc k) (n + (length start + length ops)) (scoped_bodies core plan delays start ops after node k n qs) w.body w.goes a.4
    transfers_act (outer counters style owned stages) near env k n qs c w a =
        stages_act stages (own_near counters near) (suc k) (n + counters_size counters) 0 (λ i. slot_nets w.nets w.rows env counters (slot_at (slots_of (node_plan plan k)) i).slot) (λ i. scoped_stages core plan delays counters owned stages k n i qs) w.child w.parts a.2
    transfers_act (inner counters owned ops comb) near env k n qs c w a = tt
    transfers_act (load r m spans) near env k n qs c w a = record { part = a.0; slices = a.1 }
    transfers_act (store r m spans) near env k n qs c w a = record { part = a.0; slices = a.1 }
    transfers_act (sparse kind r m places spans count par) near env k n qs c w a = absurd a

    stages_act : (stages : PlainStages) (near : List Near) (j n i : ℕ) (nets : (stage : ℕ) → Nets) (qs : (stage : ℕ) → List Scoped) (child : (stage : ℕ) → Child) (w : StageCircuits core plan s stages near j i nets child) → StagesAct core plan delays s events t stages near j n i nets qs child w
        → EachInStages core plan delays s TransferActs stages near j n i nets qs child w
    stages_act no_stage near j n i nets qs child w a = tt
    stages_act (more_stage first last comb node rest) near j n i nets qs child w a =
        (transfers_act node near (nets i) j n (qs i) (child i) w.0 a.0, stages_act rest near (j + node_count node) (n + number_count node) (suc i) nets qs child w.1 a.1)
