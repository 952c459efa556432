-- The counters around the runs of a node, by the cycles in which they begin; and what the laws of inner bodies and of tests ask of
-- runs, as statements.
use Rattle.std.specs.Prelude.{◌≡◌, ℕ, suc, ◌<◌, ◌≤◌, ◌==◌, true, false, IsTrue, List, [], ◌∷◌, map, length, Option}
use Rattle.std.specs.List.{Contains}
use Rattle.sp_netlist.specs.declared.parts.Child.{Child}
use Rattle.sp_netlist.specs.Draft.{Draft}
use Rattle.sp_netlist.specs.Signals.{Signals}
use Rattle.sp_gates.specs.Runs.{RunsOn}
use Rattle.sp_gates.specs.Tested.{is_on}
use Rattle.sp_core.specs.Around.{Around, Near}
use Rattle.sp_core.specs.Events.{inside_at, in_turn}
use Rattle.sp_core.specs.History.{Entry, History, branch_ran}
use Rattle.sp_core.specs.Invariant.{IsRight}
use Rattle.sp_core.specs.Latency.{latency_of_all}
use Rattle.sp_core.specs.PlainCore.{PlainOp, PlainCounter, PlainNode, inner, branch, PlainCore}
use Rattle.sp_core.specs.Scope.{no_scope}
use Rattle.sp_pipe.specs.declared.part.PipeOp.{PipeOp}
use Rattle.sp_pipe.specs.Acts.{HasWord}
use Rattle.sp_pipe.specs.Issues.{IssuesOne}
use Rattle.sp_pipe.specs.Right.{IsAt}
use Rattle.sp_pipe.specs.Values.{gives_word, time_of}
use Rattle.sp_part_runs.specs.ControlBranches.{test_run}
use Rattle.sp_part_runs.specs.ControlParts.{Tells, runs_of}
use Rattle.sp_plan.specs.PlainPlan.{PlainPlan}
use Rattle.sp_machine.specs.Transfers.{Delays}
use Rattle.sp_overlap.specs.Whole.{IsTimed}
use Rattle.sp_node_runs.specs.Runs.{AreWithin, over_at}
use Rattle.sp_node_runs.specs.ControlLaws.{Does}
use Rattle.sp_node_runs.specs.ControlRuns.{branch_of}
use Rattle.sp_node_runs.specs.FitsLaws.{AllFit}
use Rattle.sp_node_runs.specs.Bodies.{Scopes, AreTimedOps}
use Rattle.sp_node_runs.specs.BodiesGiven.{Nets, AreStanding, AreGivenBy}
use Rattle.sp_node_runs.specs.BodiesLaws.{InnerRuns}
use Rattle.sp_node_runs.specs.BodiesLists.{ListRun, turn_time, all_listed}
use Rattle.sp_node_runs.specs.BodiesTold.{AreAnsweredInTime}
use Rattle.sp_tree_runs.specs.BodiesScoped.{Scoped, placed, AllAreDone}

abbrev pub scopes_of : List Scoped → Scopes
scopes_of [] r = no_scope
scopes_of (q ∷ qs) r = elim (q.run.cycle == r.cycle) [ true ↦ q.scope | false ↦ scopes_of qs r ]

-- what the test of a branch did
abbrev pub tested_in : History → List Entry
tested_in (branch_ran es side h) = es
tested_in h = []

-- its run begins a cycle after that of the branch
abbrev pub test_list : (node : ℕ) → Scoped → ListRun
test_list k q = record { cycle = suc q.run.cycle; standing = inside_at q.run.standing k (in_turn 0) []; copies = q.run.copies; scope = q.scope; entries = tested_in q.run.history }

module _ (core : PlainCore) (plan : PlainPlan) (delays : Delays) where
  -- no two runs of a node begin in one cycle
  abbrev pub ScopesAreFound : Type 0
  ScopesAreFound =
      (node : PlainNode) (k n from until : ℕ) (qs : List Scoped) → IsTimed node → AllFit core plan delays node (placed qs) → AreWithin core plan delays node k n from until (placed qs) → (q : Scoped) → Contains qs q → scopes_of qs q.run ≡ q.scope

  -- the runs of an inner body, where the counters around each stand while it goes on
  abbrev pub InnersRunSo : Type 0
  InnersRunSo =
      (s : Signals) (last : ℕ) (k n : ℕ) (counters : List PlainCounter) (owned : List ℕ) (ops : List PlainOp) (comb : Option ℕ) (near : List Near) (env : Nets) (around : Around) (earlier : List ℕ) (from until : ℕ) (qs : List Scoped)
      → IsRight core around earlier (inner counters owned ops comb) → AllAreDone (inner counters owned ops comb) qs → AllFit core plan delays (inner counters owned ops comb) (placed qs) → AreWithin core plan delays (inner counters owned ops comb) k n from until (placed qs)
      → ((q : Scoped) (t : ℕ) → Contains qs q → q.run.cycle < t → t < over_at core plan delays (inner counters owned ops comb) k n q.run → t ≤ last → AreStanding s t near env q.scope)
      → InnerRuns core plan delays s last k n counters owned ops comb near env (scopes_of qs) (placed qs)

  -- the circuit of a list of operations whose last word tells a net where the list is over; counters around its runs stand where they
  -- are issued, and its reads are answered
  pub record TestPart (s : Signals) (last n : ℕ) (ops : List PlainOp) (near : List Near) (env : Nets) (runs : List ListRun) (c : Child) (tested : ℕ) : Type 0 where
    pub draft : Draft
    pub ps : List PipeOp
    pub issue : ℕ
    pub runs_on : RunsOn s draft.cells
    pub issues : IssuesOne (is_on s c.start) (is_on s issue) (is_on s c.done) (latency_of_all core ops)
    pub timed : AreTimedOps draft ops ps (turn_time core ops)
    pub given : AreGivenBy s near env ops ps
    pub stand : (r : ListRun) → Contains runs r → suc r.cycle ≤ last → AreStanding s (suc r.cycle) near env r.scope
    pub answered : AreAnsweredInTime s (all_listed core n ops runs) last n ops ps
    pub place : ℕ
    pub is_last : suc place ≡ length ops
    pub gives : (p : PipeOp) → IsAt ps place p → IsTrue (gives_word p.act)
    pub in_time : (p : PipeOp) → IsAt ps place p → time_of p.act p.mask p.time ≤ latency_of_all core ops
    pub word : HasWord draft tested (latency_of_all core ops) ps place

  -- so the test of a branch does its runs, and tells in each which side was taken
  abbrev pub TestsTell : Type 0
  TestsTell =
      (s : Signals) (last : ℕ) (k n : ℕ) (ops : List PlainOp) (first second : PlainNode) (near : List Near) (env : Nets) (around : Around) (earlier : List ℕ) (qs : List Scoped) (c : Child) (tested : ℕ)
      → IsRight core around earlier (branch ops first second) → AllAreDone (branch ops first second) qs → AllFit core plan delays (branch ops first second) (placed qs) → TestPart s last n ops near env (map (test_list k) qs) c tested
      → Does s c (runs_of (map (λ r. test_run (branch_of core plan delays k n ops first second r)) (placed qs))) last
      × Tells (is_on s c.start) (is_on s tested) (map (λ r. test_run (branch_of core plan delays k n ops first second r)) (placed qs)) last
