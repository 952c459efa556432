-- What a circuit of a tree of nodes does, as statements.
use Rattle.std.specs.Prelude.{ℕ, suc, ◌<◌, ◌≤◌, List, [], ◌∷◌}
use Rattle.std.specs.List.{Contains}
use Rattle.sp_netlist.specs.declared.parts.Child.{Child}
use Rattle.sp_netlist.specs.Signals.{Signals}
use Rattle.sp_core.specs.Around.{Around, Near}
use Rattle.sp_core.specs.History.{History}
use Rattle.sp_core.specs.Invariant.{IsRight, IsCore}
use Rattle.sp_core.specs.Numbering.{number_count}
use Rattle.sp_core.specs.PlainCore.{PlainNode, PlainCore}
use Rattle.sp_core.specs.Scope.{in_lanes, no_scope}
use Rattle.sp_fitting.specs.Fitting.{HistoryFits}
use Rattle.sp_plan.specs.PlainPlan.{PlainPlan}
use Rattle.sp_machine.specs.Stamps.{Stamped}
use Rattle.sp_machine.specs.Transfers.{Delays}
use Rattle.sp_overlap.specs.Whole.{IsTimed}
use Rattle.sp_node_runs.specs.Runs.{AreWithin, over_at}
use Rattle.sp_node_runs.specs.RunsTold.{all_events}
use Rattle.sp_node_runs.specs.ControlLaws.{IsStarted}
use Rattle.sp_node_runs.specs.ControlRuns.{rans}
use Rattle.sp_node_runs.specs.FitsLaws.{AllFit}
use Rattle.sp_node_runs.specs.BodiesGiven.{Nets, AreStanding}
use Rattle.sp_tree_runs.specs.BodiesBuilt.{Built}
use Rattle.sp_tree_runs.specs.BodiesDone.{AllDone}
use Rattle.sp_tree_runs.specs.BodiesScoped.{Scoped, placed, AllAreDone}
use Rattle.sp_tree_circuits.specs.Circuits.{Circuit}
use Rattle.sp_tree_circuits.specs.Answers.{Answered, TransfersMove}
use Rattle.sp_tree_circuits.specs.Acts.{AreEventsOf, Acts}

module _ (core : PlainCore) (plan : PlainPlan) (delays : Delays) where
  -- runs of a node, one after the other, that did what its operations do
  pub record DidRuns (node : PlainNode) (k n from until : ℕ) (qs : List Scoped) : Type 0 where
    pub done : AllAreDone node qs
    pub fits : AllFit core plan delays node (placed qs)
    pub in_turn : AreWithin core plan delays node k n from until (placed qs)

  -- up to a cycle the counters around each of them stand as long as it goes on
  abbrev pub StandAround : Signals → PlainNode → List Near → Nets → (node n : ℕ) → List Scoped → (t : ℕ) → Type 0
  StandAround s node near env k n qs t = (q : Scoped) (u : ℕ) → Contains qs q → q.run.cycle ≤ u → u < over_at core plan delays node k n q.run → u ≤ t → AreStanding s u near env q.scope

  -- Where a circuit is started in the cycles of its node's runs, up to a cycle, the counters around it stand, what it reads is
  -- answered and its transfers move in time, each part of it goes as the timeline says and each access acts at the events of its
  -- operation and at no other, up to that cycle.
  abbrev pub CircuitsGo : Type 0
  CircuitsGo =
      (s : Signals) (events : List Stamped) (last : ℕ) (node : PlainNode) (near : List Near) (env : Nets) (around : Around) (earlier : List ℕ) (k n from until : ℕ) (qs : List Scoped) (c : Child)
      → IsTimed node → IsRight core around earlier node → DidRuns node k n from until qs → AreEventsOf events (all_events core plan delays node k n (placed qs)) n (number_count node)
      → (w : Circuit core plan s node near env k c) → Answered core plan s events last node near env k n c w → TransfersMove core plan delays s last node near env k n qs c w
      → (t : ℕ) → t ≤ last → StandAround s node near env k n qs t → IsStarted s c.start (rans core plan delays node k n (placed qs)) t → Acts core plan delays s events t node near env k n qs c w

  -- and it is built as the laws of trees ask for it, where it is started in time up to the cycle before
  abbrev pub CircuitsAreBuilt : Type 0
  CircuitsAreBuilt =
      (s : Signals) (events : List Stamped) (last : ℕ) (node : PlainNode) (near : List Near) (env : Nets) (around : Around) (earlier : List ℕ) (k n from until : ℕ) (qs : List Scoped) (c : Child)
      → IsTimed node → IsRight core around earlier node → DidRuns node k n from until qs → AreEventsOf events (all_events core plan delays node k n (placed qs)) n (number_count node)
      → (w : Circuit core plan s node near env k c) → Answered core plan s events last node near env k n c w → TransfersMove core plan delays s last node near env k n qs c w
      → (t : ℕ) → t ≤ last → StandAround s node near env k n qs t → ((u : ℕ) → suc u ≤ t → IsStarted s c.start (rans core plan delays node k n (placed qs)) u) → Built core plan delays s t node k n (placed qs) c

  -- the run of the whole core, from cycle 0 on, and what happens in it
  abbrev pub core_run : History → Scoped
  core_run h = record { run = record { cycle = 0; standing = record { path = []; counters = [] }; copies = λ m. 0; history = h }; scope = no_scope }

  abbrev pub core_events : History → List Stamped
  core_events h = all_events core plan delays core.root 0 0 (placed (core_run h ∷ []))

  -- so it is of the circuit of a core's root, around which nothing stands
  abbrev pub CoresGo : Type 0
  CoresGo =
      (s : Signals) (last : ℕ) (env : Nets) (h : History) (c : Child) → IsCore core → IsTimed core.root → AllDone in_lanes core.root no_scope h → HistoryFits core core.root h
      → (w : Circuit core plan s core.root [] env 0 c) → Answered core plan s (core_events h) last core.root [] env 0 0 c w → TransfersMove core plan delays s last core.root [] env 0 0 (core_run h ∷ []) c w
      → (t : ℕ) → t ≤ last → IsStarted s c.start (rans core plan delays core.root 0 0 (placed (core_run h ∷ []))) t → Acts core plan delays s (core_events h) t core.root [] env 0 0 (core_run h ∷ []) c w

  -- and where its answers up to a cycle follow from what was done before that cycle, all of it goes: the one induction on the cycle
  abbrev pub CirclesClose : Type 0
  CirclesClose =
      (s : Signals) (last : ℕ) (env : Nets) (h : History) (c : Child) → IsCore core → IsTimed core.root → AllDone in_lanes core.root no_scope h → HistoryFits core core.root h → (w : Circuit core plan s core.root [] env 0 c)
      → IsStarted s c.start (rans core plan delays core.root 0 0 (placed (core_run h ∷ []))) last
      → Answered core plan s (core_events h) 0 core.root [] env 0 0 c w → TransfersMove core plan delays s 0 core.root [] env 0 0 (core_run h ∷ []) c w
      → ((t : ℕ) → t < last → Acts core plan delays s (core_events h) t core.root [] env 0 0 (core_run h ∷ []) c w
      → Answered core plan s (core_events h) (suc t) core.root [] env 0 0 c w × TransfersMove core plan delays s (suc t) core.root [] env 0 0 (core_run h ∷ []) c w)
      → (t : ℕ) → t ≤ last → Acts core plan delays s (core_events h) t core.root [] env 0 0 (core_run h ∷ []) c w
