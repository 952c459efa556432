-- Circuits over a tree of nodes: control as in `sp_tree_runs`, put together down to transfers, of which it is asked that they do their
-- runs, and to inner bodies and lists of operations, of which it is asked that they are circuits of their operations, which are given and
-- answered what the timeline says.
use Rattle.std.specs.Prelude.{◌≡◌, ℕ, suc, ◌+◌, ◌≤◌, true, false, List, [], length, map, slice_index, Option}
use Rattle.std.specs.List.{Contains}
use Rattle.sp_netlist.specs.declared.parts.Child.{Child}
use Rattle.sp_netlist.specs.Draft.{Draft}
use Rattle.sp_netlist.specs.Signals.{Signals}
use Rattle.sp_gates.specs.Runs.{RunsOn}
use Rattle.sp_gates.specs.Tested.{is_on}
use Rattle.sp_core.specs.Around.{Near, lanes_of}
use Rattle.sp_core.specs.Numbering.{counters_size, node_count, number_count}
use Rattle.sp_core.specs.PlainCore.{PlainOp, PlainCounter, PlainNode, PlainStages, inner, outer, fsm, branch, load, store, sparse, no_stage, more_stage, PlainCore}
use Rattle.sp_counters.specs.declared.part.Counters.{Counters}
use Rattle.sp_counters.specs.declared.part.Counted.{Counted}
use Rattle.sp_counters.specs.Counting.{CountsGroups}
use Rattle.sp_counters.specs.Counting as counting
use Rattle.sp_counters.specs.Laws.{AreLoopsAt}
use Rattle.sp_pipe.specs.declared.part.PipeOp.{PipeOp}
use Rattle.sp_pipe.specs.Issues.{IssuesOne, IssuesAll}
use Rattle.sp_part_runs.specs.ControlBranches.{test_run}
use Rattle.sp_part_runs.specs.ControlMachines.{tests, nexts, first_run}
use Rattle.sp_part_runs.specs.ControlParts.{Ran, runs_of}
use Rattle.sp_plan.specs.PlainPlan.{PlainPlan, node_plan}
use Rattle.sp_machine.specs.Timeline.{times_of, interval_of, latency_of}
use Rattle.sp_machine.specs.Transfers.{Delays}
use Rattle.sp_overlap.specs.Whole.{IsTimed}
use Rattle.sp_node_runs.specs.Runs.{Placed, AreWithin, side_runs, body_runs, stage_runs}
use Rattle.sp_node_runs.specs.RunsTold.{all_events}
use Rattle.sp_node_runs.specs.ControlLaws.{Does, IsStarted}
use Rattle.sp_node_runs.specs.ControlRuns.{rans, branch_of, machine_of}
use Rattle.sp_node_runs.specs.FitsLaws.{AllFit}
use Rattle.sp_node_runs.specs.Bodies.{Scopes, loops_in, AreTimedOps, IsPaced}
use Rattle.sp_node_runs.specs.BodiesGiven.{Nets, with_nets, values_of, AreGivenBy}
use Rattle.sp_node_runs.specs.BodiesLaws.{own_near, InnerRuns, InnerGoes}
use Rattle.sp_node_runs.specs.BodiesLists.{DidList, ListRun, list_ran, ListGoes}
use Rattle.sp_node_runs.specs.BodiesTold.{AreAnsweredInTime}
use Rattle.sp_tree_runs.specs.ControlTrees.{BranchPart, MachinePart, LoopPart}
use Rattle.sp_tree_runs.specs.BodiesScopes.{TestPart}

module _ (core : PlainCore) (plan : PlainPlan) (delays : Delays) (s : Signals) (last : ℕ) where
  -- what issues the groups of a body, and gives its operations their words: counters of its own, with the bounds of their loops where a
  -- run starts, or its start alone
  pub data Issued (near : List Near) (env : Nets) (k : ℕ) : (counters : List PlainCounter) → List PlainOp → List PipeOp → List Placed → (issue : ℕ) → Child → Type 0 where
    counted : {counters : List PlainCounter} {ops : List PlainOp} {ps : List PipeOp} {runs : List Placed} {issue done : ℕ} (part : Counters) (nets : Counted) → CountsGroups s part nets
        → IssuesAll (is_on s part.start) (is_on s nets.more) (is_on s part.step) (is_on s issue) (is_on s done) (interval_of (node_plan plan k)) (latency_of (node_plan plan k))
        → AreGivenBy s (own_near counters near) (with_nets env counters (values_of nets.counters.items) nets.masks.items) ops ps → lanes_of counters ≡ counting.lanes_of part.counters.items
        → ((r : Placed) → Contains runs r → r.cycle ≤ last → AreLoopsAt s r.cycle part.counters.items (loops_in counters r.history)) → Issued near env k counters ops ps runs issue (record { start = part.start; done = done })
    single : {ops : List PlainOp} {ps : List PipeOp} {runs : List Placed} {issue start done : ℕ} → IssuesOne (is_on s start) (is_on s issue) (is_on s done) (latency_of (node_plan plan k)) → AreGivenBy s near env ops ps → Issued near env k [] ops ps runs issue (record { start = start; done = done })

  -- an inner body, whose runs did their groups while the counters around stood, and whose reads are answered
  pub record InnerPart (k n : ℕ) (counters : List PlainCounter) (owned : List ℕ) (ops : List PlainOp) (comb : Option ℕ) (runs : List Placed) (c : Child) : Type 0 where
    pub draft : Draft
    pub ps : List PipeOp
    pub issue : ℕ
    pub near : List Near
    pub env : Nets
    pub scopes : Scopes
    pub runs_on : RunsOn s draft.cells
    pub issued : Issued near env k counters ops ps runs issue c
    pub paced : IsPaced core ops (node_plan plan k)
    pub timed : AreTimedOps draft ops ps (slice_index (times_of (node_plan plan k)))
    pub did : InnerRuns core plan delays s last k n counters owned ops comb near env scopes runs
    pub answered : AreAnsweredInTime s (all_events core plan delays (inner counters owned ops comb) k n runs) last (n + counters_size counters) ops ps

  -- a list of operations over runs in these cycles, with what is around each and what its operations did there
  pub record ListPart (n : ℕ) (ops : List PlainOp) (rans : List Ran) (c : Child) : Type 0 where
    pub lists : List ListRun
    pub same : map (list_ran core ops) lists ≡ rans
    pub near : List Near
    pub env : Nets
    pub word : ℕ
    pub part : TestPart core plan delays s last n ops near env lists c word
    pub did : (r : ListRun) → Contains lists r → DidList r.scope ops r.entries

  abbrev mutual
    pub Built : PlainNode → (node n : ℕ) → List Placed → Child → Type 0
    Built (branch ops first second) k n runs c =
        (w : BranchPart core plan delays s last (Built first (suc k) (n + length ops) (side_runs core plan delays ops k true runs)) (Built second (suc k + node_count first) (n + (length ops + number_count first)) (side_runs core plan delays ops k false runs)) k n ops first second runs c)
        × ListPart n ops (runs_of (map (λ r. test_run (branch_of core plan delays k n ops first second r)) runs)) w.test
    Built (fsm start state ops node after) k n runs c =
        (w : MachinePart core plan delays s last (Built node (suc k) (n + (length start + length ops)) (body_runs core plan delays start ops after node k n runs)) k n start ops node after runs c)
        × ListPart n start (map (λ r. first_run (machine_of core plan delays k n start ops node after r)) runs) w.first
        × ListPart (n + length start) ops (runs_of (tests (map (machine_of core plan delays k n start ops node after) runs))) w.test
        × ListPart (n + (length start + (length ops + number_count node))) after (nexts (map (machine_of core plan delays k n start ops node after) runs)) w.next
    Built (outer counters style owned stages) k n runs c =
        LoopPart core plan delays s last (λ child. StagesBuilt stages (suc k) (n + counters_size counters) 0 (λ i. stage_runs core plan delays counters owned stages k n i runs) child) k n counters owned stages runs c
    Built (inner counters owned ops comb) k n runs c = InnerPart k n counters owned ops comb runs c
    Built (load r m spans) k n runs c = Does s c (rans core plan delays (load r m spans) k n runs) last
    Built (store r m spans) k n runs c = Does s c (rans core plan delays (store r m spans) k n runs) last
    Built (sparse kind r m places spans count par) k n runs c = Does s c (rans core plan delays (sparse kind r m places spans count par) k n runs) last

    pub StagesBuilt : PlainStages → (node n stage : ℕ) → (runs : (stage : ℕ) → List Placed) → (child : (stage : ℕ) → Child) → Type 0
    StagesBuilt no_stage j n i runs child = Unit {0}
    StagesBuilt (more_stage first final comb node rest) j n i runs child = Built node j n (runs i) (child i) × StagesBuilt rest (j + node_count node) (n + number_count node) (suc i) runs child

  -- each inner body and each list of operations of the tree is done where its runs are over, and its accesses act at the events of
  -- the timeline, up to a cycle
  module _ (t : ℕ) where
    abbrev pub ListActs : (n : ℕ) (ops : List PlainOp) (rans : List Ran) (c : Child) → ListPart n ops rans c → Type 0
    ListActs n ops rans c w = ListGoes core s w.part.draft w.part.ps w.part.issue c.done t n ops w.lists

    abbrev mutual
      pub BodiesGo : (node : PlainNode) (k n : ℕ) (runs : List Placed) (c : Child) → Built node k n runs c → Type 0
      BodiesGo (branch ops first second) k n runs c w =
          ListActs n ops _ w.0.test w.1
          × BodiesGo first (suc k) (n + length ops) (side_runs core plan delays ops k true runs) w.0.chosen w.0.one
          × BodiesGo second (suc k + node_count first) (n + (length ops + number_count first)) (side_runs core plan delays ops k false runs) w.0.left w.0.other
      BodiesGo (fsm start state ops node after) k n runs c w =
          ListActs n start _ w.0.first w.1 × ListActs (n + length start) ops _ w.0.test w.2 × ListActs (n + (length start + (length ops + number_count node))) after _ w.0.next w.3
          × BodiesGo node (suc k) (n + (length start + length ops)) (body_runs core plan delays start ops after node k n runs) w.0.body w.0.goes
      BodiesGo (outer counters style owned stages) k n runs c w = StageBodiesGo stages (suc k) (n + counters_size counters) 0 (λ i. stage_runs core plan delays counters owned stages k n i runs) w.child w.parts
      BodiesGo (inner counters owned ops comb) k n runs c w = InnerGoes core plan delays s w.draft w.ps w.issue c.done t k n counters owned ops comb runs
      BodiesGo (load r m spans) k n runs c w = Unit {0}
      BodiesGo (store r m spans) k n runs c w = Unit {0}
      BodiesGo (sparse kind r m places spans count par) k n runs c w = Unit {0}

      pub StageBodiesGo : (stages : PlainStages) (j n i : ℕ) (runs : (stage : ℕ) → List Placed) (child : (stage : ℕ) → Child) → StagesBuilt stages j n i runs child → Type 0
      StageBodiesGo no_stage j n i runs child w = Unit {0}
      StageBodiesGo (more_stage first final comb node rest) j n i runs child w = BodiesGo node j n (runs i) (child i) w.0 × StageBodiesGo rest (j + node_count node) (n + number_count node) (suc i) runs child w.1

abbrev pub BodiesGoAsTold : PlainCore → PlainPlan → Delays → Type 0
BodiesGoAsTold core plan delays =
    (s : Signals) (last : ℕ) (node : PlainNode) (k n from until : ℕ) (runs : List Placed) (c : Child) → IsTimed node → AllFit core plan delays node runs → AreWithin core plan delays node k n from until runs
    → (w : Built core plan delays s last node k n runs c) → (t : ℕ) → t ≤ last → IsStarted s c.start (rans core plan delays node k n runs) t → BodiesGo core plan delays s last t node k n runs c w

-- a list of operations in what is built does its runs, as control asks
abbrev pub ListsDo : PlainCore → PlainPlan → Delays → Type 0
ListsDo core plan delays = (s : Signals) (last n : ℕ) (ops : List PlainOp) (rans : List Ran) (c : Child) → ListPart core plan delays s last n ops rans c → Does s c rans last
