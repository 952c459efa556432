-- What the circuit of a tree does up to a cycle: each part is started in the cycles of its runs and done where these are over, and each
-- access acts at the events of the whole that have its operation's number.
use Rattle.std.specs.Prelude.{◌≡◌, ℕ, suc, ◌+◌, ◌<◌, ◌≤◌, true, false, List, map, length}
use Rattle.sp_netlist.specs.declared.parts.Child.{Child}
use Rattle.sp_netlist.specs.Draft.{Draft}
use Rattle.sp_netlist.specs.Signals.{Signals}
use Rattle.sp_gates.specs.Tested.{is_on}
use Rattle.sp_core.specs.Around.{Near}
use Rattle.sp_core.specs.Events.{Event}
use Rattle.sp_core.specs.Numbering.{counters_size, node_count, number_count}
use Rattle.sp_core.specs.PlainCore.{PlainOp, PlainNode, PlainStages, inner, outer, fsm, branch, load, store, sparse, no_stage, more_stage, PlainCore}
use Rattle.sp_pipe.specs.declared.part.PipeOp.{PipeOp}
use Rattle.sp_pipe.specs.Acts.{ActsAt}
use Rattle.sp_pipe.specs.Right.{IsAt}
use Rattle.sp_part_runs.specs.ActsEntries.{IsOpAt, touches_memory}
use Rattle.sp_part_runs.specs.BodiesRuns.{IsOnAt}
use Rattle.sp_part_runs.specs.ControlParts.{Ends}
use Rattle.sp_plan.specs.PlainPlan.{PlainPlan, node_plan}
use Rattle.sp_time.specs.Beats.{slot_at}
use Rattle.sp_machine.specs.Stamps.{Stamped}
use Rattle.sp_machine.specs.Timeline.{slots_of}
use Rattle.sp_machine.specs.Transfers.{Delays}
use Rattle.sp_node_runs.specs.ControlBeating.{LoopGoes}
use Rattle.sp_node_runs.specs.ControlLaws.{IsStarted}
use Rattle.sp_node_runs.specs.ControlRuns.{rans}
use Rattle.sp_node_runs.specs.BodiesGiven.{Nets}
use Rattle.sp_node_runs.specs.BodiesLaws.{own_near}
use Rattle.sp_node_runs.specs.BodiesLists.{ListRun, ListGoes}
use Rattle.sp_node_runs.specs.BodiesTold.{Happens, ActsInTime}
use Rattle.sp_tree_runs.specs.BodiesScoped.{Scoped, placed, scoped_sides, scoped_bodies, scoped_stages}
use Rattle.sp_tree_runs.specs.BodiesScopes.{test_list}
use Rattle.sp_tree_runs.specs.BodiesTurns.{start_list, test_lists, next_lists}
use Rattle.sp_tree_circuits.specs.Parts.{ListCircuit}
use Rattle.sp_tree_circuits.specs.Circuits.{slot_nets, Circuit, StageCircuits}
use Rattle.sp_tree_circuits.specs.Answers.{SlicesStand}

-- an event of a number happens in a cycle that does the same at the same element
abbrev pub Alike : List Stamped → (number t : ℕ) → Event → Type 0
Alike events number t e = (x : Event) × Happens events number t x × (x.indices ≡ e.indices) × (x.act ≡ e.act)

-- the events of a part among those of the whole: they are those of so many numbers from one on
pub record AreEventsOf (whole part : List Stamped) (first count : ℕ) : Type 0 where
  pub within : (number t : ℕ) (e : Event) → Happens part number t e → Alike whole number t e
  pub all : (number t : ℕ) (e : Event) → first ≤ number → number < first + count → Happens whole number t e → Alike part number t e

module _ (core : PlainCore) (plan : PlainPlan) (delays : Delays) (s : Signals) (events : List Stamped) (t : ℕ) where
  -- each access of a list acts at the events of its number, counted from that of the first operation
  abbrev pub AccessesAct : Draft → List PipeOp → (issue n : ℕ) → List PlainOp → Type 0
  AccessesAct d ps issue n ops =
      (i : ℕ) (op : PlainOp) (p : PipeOp) (enable : ℕ) (operands : List ℕ) → IsOpAt ops i op → touches_memory op.kind ≡ true → IsAt ps i p → ActsAt d issue ps p enable operands
      → ActsInTime s events t (n + i) op.kind enable operands

  -- a part of a node is started in the cycles of its runs and in no other, and done where they are over
  pub record PartGoes (node : PlainNode) (k n : ℕ) (qs : List Scoped) (c : Child) : Type 0 where
    pub starts : IsStarted s c.start (rans core plan delays node k n (placed qs)) t
    pub ends : IsOnAt (is_on s c.done) (Ends (rans core plan delays node k n (placed qs))) t

  -- a list of operations in its runs: it is over in time, and its word is that of the run
  pub record ListActs (n : ℕ) (ops : List PlainOp) (near : List Near) (env : Nets) (lists : List ListRun) (c : Child) (word : ℕ) (w : ListCircuit core plan s near env ops c word) : Type 0 where
    pub goes : ListGoes core s w.draft w.ps w.issue c.done t n ops lists
    pub acts : AccessesAct w.draft w.ps w.issue n ops

  abbrev mutual
    pub Acts : (node : PlainNode) (near : List Near) (env : Nets) (k n : ℕ) (qs : List Scoped) (c : Child) → Circuit core plan s node near env k c → Type 0
    Acts (branch ops first second) near env k n qs c w =
        PartGoes (branch ops first second) k n qs c × ListActs n ops near env (map (test_list k) qs) w.test w.tested w.tests
        × Acts first near env (suc k) (n + length ops) (scoped_sides core plan delays ops k true qs) w.chosen w.one
        × Acts second near env (suc k + node_count first) (n + (length ops + number_count first)) (scoped_sides core plan delays ops k false qs) w.left w.other
    Acts (fsm start state ops node after) near env k n qs c w =
        PartGoes (fsm start state ops node after) k n qs c
        × ListActs n start near env (map (start_list core plan delays k n start ops node after) qs) w.first w.begun w.begins
        × ListActs (n + length start) ops near env (test_lists core plan delays k n start ops node after qs) w.test w.tested w.tests
        × ListActs (n + (length start + (length ops + number_count node))) after near env (next_lists core plan delays k n start ops node after qs) w.next w.stepped w.steps
        × Acts node near env (suc k) (n + (length start + length ops)) (scoped_bodies core plan delays start ops after node k n qs) w.body w.goes
    Acts (outer counters style owned stages) near env k n qs c w =
        PartGoes (outer counters style owned stages) k n qs c × LoopGoes core plan delays k n counters owned stages w.places s w.part.step w.slots w.firsts c.done t style (placed qs)
        × StagesAct stages (own_near counters near) (suc k) (n + counters_size counters) 0 (λ i. slot_nets w.nets w.rows env counters (slot_at (slots_of (node_plan plan k)) i).slot) (λ i. scoped_stages core plan delays counters owned stages k n i qs) w.child w.parts
    Acts (inner counters owned ops comb) near env k n qs c w = PartGoes (inner counters owned ops comb) k n qs c × AccessesAct w.draft w.ps w.issue (n + counters_size counters) ops
    Acts (load r m spans) near env k n qs c w = PartGoes (load r m spans) k n qs c × SlicesStand core plan delays s qs w.nets t
    Acts (store r m spans) near env k n qs c w = PartGoes (store r m spans) k n qs c × SlicesStand core plan delays s qs w.nets t
    Acts (sparse kind r m places spans count par) near env k n qs c w = ⊥

    pub StagesAct : (stages : PlainStages) (near : List Near) (j n i : ℕ) (nets : (stage : ℕ) → Nets) (qs : (stage : ℕ) → List Scoped) (child : (stage : ℕ) → Child) → StageCircuits core plan s stages near j i nets child → Type 0
    StagesAct no_stage near j n i nets qs child w = Unit {0}
    StagesAct (more_stage first last comb node rest) near j n i nets qs child w =
        Acts node near (nets i) j n (qs i) (child i) w.0 × StagesAct rest near (j + node_count node) (n + number_count node) (suc i) nets qs child w.1
