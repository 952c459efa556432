-- The transfers of a tree over all runs of its root: each goes as the timeline says where it is started and the nets of its slice stand.
use Rattle.std.specs.Prelude.{◌≡◌, ℕ, ◌+◌, ◌≤◌, true, List, [], ◌∷◌}
use Rattle.sp_netlist.specs.declared.parts.Child.{Child}
use Rattle.sp_netlist.specs.Signals.{Setting, Signals}
use Rattle.sp_core.specs.Around.{Around, Near}
use Rattle.sp_core.specs.Declarations.{dims, dram_number}
use Rattle.sp_core.specs.History.{History}
use Rattle.sp_core.specs.Invariant.{IsRight, IsCore}
use Rattle.sp_core.specs.MemoryRules.{are_memories_right}
use Rattle.sp_core.specs.Numbering.{spans_size}
use Rattle.sp_core.specs.PlainCore.{PlainSpan, PlainNode, load, store, PlainCore}
use Rattle.sp_core.specs.Scope.{in_lanes, no_scope}
use Rattle.sp_fitting.specs.Fitting.{HistoryFits}
use Rattle.sp_plan.specs.PlainPlan.{PlainPlan}
use Rattle.sp_machine.specs.Transfers.{Delays}
use Rattle.sp_overlap.specs.Whole.{IsTimed}
use Rattle.sp_node_runs.specs.RunsTold.{all_events}
use Rattle.sp_node_runs.specs.ControlLaws.{IsStarted}
use Rattle.sp_node_runs.specs.ControlRuns.{rans}
use Rattle.sp_node_runs.specs.BodiesGiven.{Nets}
use Rattle.sp_node_runs.specs.BodiesSpans.{SpanNets}
use Rattle.sp_tree_runs.specs.BodiesDone.{AllDone}
use Rattle.sp_tree_runs.specs.BodiesScoped.{Scoped, placed}
use Rattle.sp_tree_circuits.specs.Answers.{EachTransfer, SlicesStand, MovesInTime, TransfersMove}
use Rattle.sp_tree_circuits.specs.Circuits.{Circuit}
use Rattle.sp_tree_circuits.specs.Laws.{DidRuns, core_run}
use Rattle.sp_transfer_runs.specs.Loads.{LoadGoes}
use Rattle.sp_transfer_runs.specs.Stores.{StoreGoes}
use Rattle.sp_transfer_runs.specs.Told.{AreFoundInDram}
use Rattle.sp_transfer_runs.specs.Trees.{AllMoved, EachMoved}
use Rattle.sp_transfer_runs.specs.Delays.{delays_of, AllTaken}
use Rattle.sp_transfer_runs.specs.Moving.{HasLoad, HasStore}

module _ (core : PlainCore) (plan : PlainPlan) (delays : Delays) (g : Setting) (s : Signals) (bound last : ℕ) (took : (node ask : ℕ) → ℕ) where
  -- a transfer has its circuit and its channel, and what a load reads is found in its DRAM
  abbrev pub HasTransfer : PlainNode → (node n : ℕ) → List Scoped → Child → List SpanNets → Type 0
  HasTransfer (load r m spans) k n qs c nets =
      HasLoad core g s bound (took k) r nets c × AreFoundInDram s r (dims core (dram_number core r)) (all_events core plan delays (load r m spans) k n (placed qs)) last (n + spans_size spans)
  HasTransfer (store r m spans) k n qs c nets = HasStore core g s bound (took k) r nets c
  HasTransfer node k n qs c nets = MovesInTime core plan delays s last node k n qs c nets

  -- up to a cycle it goes as the timeline says, by whichever parts it has its circuit and its channel
  pub record LoadGoesSo (r m : ℕ) (spans : List PlainSpan) (k n : ℕ) (qs : List Scoped) (c : Child) (nets : List SpanNets) : Type 0 where
    pub has : HasLoad core g s bound (took k) r nets c
    pub goes : (w : HasLoad core g s bound (took k) r nets c) (t : ℕ) → t ≤ last → IsStarted s c.start (rans core plan delays (load r m spans) k n (placed qs)) t → SlicesStand core plan delays s qs nets t → LoadGoes core plan delays s w.part w.nets t k n r m spans (placed qs)

  -- so does a store
  pub record StoreGoesSo (r m : ℕ) (spans : List PlainSpan) (k n : ℕ) (qs : List Scoped) (c : Child) (nets : List SpanNets) : Type 0 where
    pub has : HasStore core g s bound (took k) r nets c
    pub goes : (w : HasStore core g s bound (took k) r nets c) (t : ℕ) → t ≤ last → IsStarted s c.start (rans core plan delays (store r m spans) k n (placed qs)) t → SlicesStand core plan delays s qs nets t → StoreGoes core plan delays s w.part w.nets t k n r m spans (placed qs)

  abbrev pub TransferGoes : PlainNode → (node n : ℕ) → List Scoped → Child → List SpanNets → Type 0
  TransferGoes (load r m spans) k n qs c nets = LoadGoesSo r m spans k n qs c nets
  TransferGoes (store r m spans) k n qs c nets = StoreGoesSo r m spans k n qs c nets
  TransferGoes node k n qs c nets = MovesInTime core plan delays s last node k n qs c nets

  -- so each of a tree does that has its circuit, in runs whose transfers moved all words and took the delays of their channels
  abbrev pub TreesTransfer : Type 0
  TreesTransfer =
      (node : PlainNode) (near : List Near) (env : Nets) (around : Around) (earlier : List ℕ) (k n from until : ℕ) (qs : List Scoped) (c : Child)
      → IsTimed node → are_memories_right core ≡ true → IsRight core around earlier node → DidRuns core plan delays node k n from until qs → EachMoved core node (placed qs) → AllTaken core plan delays took node k n (placed qs)
      → (w : Circuit core plan s node near env k c) → last ≤ bound → EachTransfer core plan delays s HasTransfer node near env k n qs c w → EachTransfer core plan delays s TransferGoes node near env k n qs c w

  -- and then it is done in time
  abbrev pub GoingIsMoving : Type 0
  GoingIsMoving =
      (node : PlainNode) (near : List Near) (env : Nets) (k n : ℕ) (qs : List Scoped) (c : Child) (w : Circuit core plan s node near env k c)
      → EachTransfer core plan delays s TransferGoes node near env k n qs c w → TransfersMove core plan delays s last node near env k n qs c w

-- So it is of the whole core, with the delays that are chosen by what its channels took.
abbrev pub CoresTransfer : PlainCore → PlainPlan → Type 0
CoresTransfer core plan =
    (g : Setting) (s : Signals) (bound last : ℕ) (took : (node ask : ℕ) → ℕ) (env : Nets) (h : History) (c : Child) → IsCore core → IsTimed core.root → AllDone in_lanes core.root no_scope h → HistoryFits core core.root h → AllMoved core core.root h
    → (w : Circuit core plan s core.root [] env 0 c) → last ≤ bound
    → EachTransfer core plan (delays_of core h took) s (HasTransfer core plan (delays_of core h took) g s bound last took) core.root [] env 0 0 (core_run core plan (delays_of core h took) h ∷ []) c w
    → EachTransfer core plan (delays_of core h took) s (TransferGoes core plan (delays_of core h took) g s bound last took) core.root [] env 0 0 (core_run core plan (delays_of core h took) h ∷ []) c w
