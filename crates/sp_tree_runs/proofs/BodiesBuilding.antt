-- Inner bodies of a tree act as the timeline says.
use Rattle.std.proofs.Common.{ℕ, suc, ◌+◌, ◌≤◌, true, false, List, map, length, Option, sym, subst}
use Rattle.sp_netlist.specs.declared.parts.Child.{Child}
use Rattle.sp_netlist.specs.Signals.{Signals}
use Rattle.sp_core.specs.Numbering.{counters_size, node_count, number_count}
use Rattle.sp_core.specs.PlainCore.{PlainOp, PlainCounter, PlainNode, PlainStages, inner, outer, fsm, branch, load, store, sparse, no_stage, more_stage, PlainCore}
use Rattle.sp_part_runs.specs.ControlBranches.{test_run}
use Rattle.sp_part_runs.specs.ControlMachines.{tests, nexts, first_run}
use Rattle.sp_part_runs.specs.ControlParts.{Ran, runs_of}
use Rattle.sp_plan.specs.PlainPlan.{PlainPlan}
use Rattle.sp_machine.specs.Transfers.{Delays}
use Rattle.sp_node_runs.specs.Runs.{Placed, side_runs, body_runs, stage_runs}
use Rattle.sp_node_runs.specs.ControlLaws.{Does, IsStarted}
use Rattle.sp_node_runs.specs.ControlRuns.{rans, branch_of, machine_of}
use Rattle.sp_node_runs.specs.BodiesLaws.{InnerGoes, CountedInnersWork, SingleInnersWork}
use Rattle.sp_node_runs.specs.BodiesLists.{ListsWork}
use Rattle.sp_tree_runs.specs.ControlStarting.{AllGo, StagesGo, TreesGo}
use Rattle.sp_tree_runs.specs.ControlTrees.{Controls, StagesControl}
use Rattle.sp_tree_runs.specs.BodiesBuilt.{Issued, counted, single, InnerPart, ListPart, Built, StagesBuilt, ListActs, BodiesGo, StageBodiesGo, BodiesGoAsTold, ListsDo}
use Rattle.sp_tree_runs.proofs.BodiesTurning.{part_goes, part_does}

module _ (core : PlainCore) (plan : PlainPlan) (delays : Delays) (many : CountedInnersWork core plan delays) (one : SingleInnersWork core plan delays) (lists : ListsWork core) where
  module _ (s : Signals) (last : ℕ) where
    -- an inner body that is started in its runs goes
    inner_goes : (k n : ℕ) (counters : List PlainCounter) (owned : List ℕ) (ops : List PlainOp) (comb : Option ℕ) (runs : List Placed) (c : Child) (w : InnerPart core plan delays s last k n counters owned ops comb runs c) (t : ℕ) → t ≤ last
        → IsStarted s c.start (rans core plan delays (inner counters owned ops comb) k n runs) t → InnerGoes core plan delays s w.draft w.ps w.issue c.done t k n counters owned ops comb runs
    inner_goes k n counters owned ops comb runs c w t le started = by counters c w w.issued started
      where
        by : (counters : List PlainCounter) (c : Child) (w : InnerPart core plan delays s last k n counters owned ops comb runs c) → Issued core plan delays s last w.near w.env k counters ops w.ps runs w.issue c
            → IsStarted s c.start (rans core plan delays (inner counters owned ops comb) k n runs) t → InnerGoes core plan delays s w.draft w.ps w.issue c.done t k n counters owned ops comb runs
        by _ _ w (counted {counters} part nets counts issues given lanes bounds) started =
            many s w.draft part nets w.ps w.issue _ last k n counters owned ops comb w.near w.env w.scopes runs w.runs_on counts issues w.paced w.timed given lanes w.did bounds w.answered t le started
        by _ _ w (single {start = start} issues given) started =
            one s w.draft start w.ps w.issue _ last k n owned ops comb w.near w.env w.scopes runs w.runs_on issues w.paced w.timed given w.did w.answered t le started

    -- what is built is control
    abbrev mutual
      control : (node : PlainNode) (k n : ℕ) (runs : List Placed) (c : Child) → Built core plan delays s last node k n runs c → Controls core plan delays s last node k n runs c
      control (branch ops first second) k n runs c w = record {
        test = w.0.test;
        tested = w.0.tested;
        chosen = w.0.chosen;
        left = w.0.left;
        circuit = w.0.circuit;
        does = w.0.does;
        tells = w.0.tells;
        one = control first (suc k) (n + length ops) (side_runs core plan delays ops k true runs) w.0.chosen w.0.one;
        other = control second (suc k + node_count first) (n + (length ops + number_count first)) (side_runs core plan delays ops k false runs) w.0.left w.0.other;
      }
      control (fsm start state ops node after) k n runs c w = record {
        first = w.0.first;
        test = w.0.test;
        tested = w.0.tested;
        body = w.0.body;
        next = w.0.next;
        circuit = w.0.circuit;
        begins = w.0.begins;
        does = w.0.does;
        tells = w.0.tells;
        goes = control node (suc k) (n + (length start + length ops)) (body_runs core plan delays start ops after node k n runs) w.0.body w.0.goes;
        steps = w.0.steps;
      }
      control (outer counters style owned stages) k n runs c w = record {
        more = w.more;
        step = w.step;
        slots = w.slots;
        firsts = w.firsts;
        places = w.places;
        child = w.child;
        circuit = w.circuit;
        arranged = w.arranged;
        size = w.size;
        shaped = w.shaped;
        tells = w.tells;
        members = w.members;
        parts = stages_control stages (suc k) (n + counters_size counters) 0 (λ i. stage_runs core plan delays counters owned stages k n i runs) w.child w.parts;
      }
      control (inner counters owned ops comb) k n runs c w = λ t le started. (inner_goes k n counters owned ops comb runs c w t le started).ends
      control (load r m spans) k n runs c w = w
      control (store r m spans) k n runs c w = w
      control (sparse kind r m places spans count par) k n runs c w = w

      stages_control : (stages : PlainStages) (j n i : ℕ) (runs : (stage : ℕ) → List Placed) (child : (stage : ℕ) → Child) → StagesBuilt core plan delays s last stages j n i runs child → StagesControl core plan delays s last stages j n i runs child
      stages_control no_stage j n i runs child w = tt
      stages_control (more_stage first final comb node rest) j n i runs child w = (control node j n (runs i) (child i) w.0, stages_control rest (j + node_count node) (n + number_count node) (suc i) runs child w.1)

    module _ (t : ℕ) (le : t ≤ last) where
      -- a list that is started in its runs acts
      list_acts : (n : ℕ) (ops : List PlainOp) (rans : List Ran) (c : Child) (w : ListPart core plan delays s last n ops rans c) → IsStarted s c.start rans t → ListActs core plan delays s last t n ops rans c w
      list_acts n ops rans c w started =
          part_goes core plan delays lists s last n ops w.near w.env w.lists c w.word w.part w.did t le (subst (λ xs. IsStarted s c.start xs t) (sym w.same) started)

      mutual
        bodies_go : (node : PlainNode) (k n : ℕ) (runs : List Placed) (c : Child) (w : Built core plan delays s last node k n runs c) → AllGo core plan delays s last t node k n runs c (control node k n runs c w) → BodiesGo core plan delays s last t node k n runs c w
        bodies_go (branch ops first second) k n runs c w g = (
          list_acts n ops (runs_of (map (λ r. test_run (branch_of core plan delays k n ops first second r)) runs)) w.0.test w.1 g.1,
          bodies_go first (suc k) (n + length ops) (side_runs core plan delays ops k true runs) w.0.chosen w.0.one g.2,
          bodies_go second (suc k + node_count first) (n + (length ops + number_count first)) (side_runs core plan delays ops k false runs) w.0.left w.0.other g.3,
        )
        bodies_go (fsm start state ops node after) k n runs c w g = (
          list_acts n start (map (λ r. first_run (machine_of core plan delays k n start ops node after r)) runs) w.0.first w.1 g.1,
          list_acts (n + length start) ops (runs_of (tests (map (machine_of core plan delays k n start ops node after) runs))) w.0.test w.2 g.2,
          list_acts (n + (length start + (length ops + number_count node))) after (nexts (map (machine_of core plan delays k n start ops node after) runs)) w.0.next w.3 g.3,
          bodies_go node (suc k) (n + (length start + length ops)) (body_runs core plan delays start ops after node k n runs) w.0.body w.0.goes g.4,
        )
        bodies_go (outer counters style owned stages) k n runs c w g = stages_go stages (suc k) (n + counters_size counters) 0 (λ i. stage_runs core plan delays counters owned stages k n i runs) w.child w.parts g.2
        bodies_go (inner counters owned ops comb) k n runs c w g = inner_goes k n counters owned ops comb runs c w t le g.starts
        bodies_go (load r m spans) k n runs c w g = tt
        bodies_go (store r m spans) k n runs c w g = tt
        bodies_go (sparse kind r m places spans count par) k n runs c w g = tt

        stages_go : (stages : PlainStages) (j n i : ℕ) (runs : (stage : ℕ) → List Placed) (child : (stage : ℕ) → Child) (w : StagesBuilt core plan delays s last stages j n i runs child)
            → StagesGo core plan delays s last t stages j n i runs child (stages_control stages j n i runs child w) → StageBodiesGo core plan delays s last t stages j n i runs child w
        stages_go no_stage j n i runs child w g = tt
        stages_go (more_stage first final comb node rest) j n i runs child w g = (bodies_go node j n (runs i) (child i) w.0 g.0, stages_go rest (j + node_count node) (n + number_count node) (suc i) runs child w.1 g.1)

  pub bodies_go_as_told : TreesGo core plan delays → BodiesGoAsTold core plan delays
  bodies_go_as_told trees s last node k n from until runs c is fits within w t le started =
      bodies_go s last t le node k n runs c w (trees s last node k n from until runs c is fits within (control s last node k n runs c w) t le started)

pub lists_do : (core : PlainCore) (plan : PlainPlan) (delays : Delays) → ListsWork core → ListsDo core plan delays
lists_do core plan delays lists s last n ops rans c w =
    subst (λ xs. Does s c xs last) w.same (part_does core plan delays lists s last n ops w.near w.env w.lists c w.word w.part w.did)
