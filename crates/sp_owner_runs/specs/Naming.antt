-- By their nets the operations and transfers in the circuit of a tree name the copies of the events of their numbers, as statements.
use Rattle.std.specs.Prelude.{◌≡◌, ℕ, suc, ◌+◌, ◌<◌, ◌≤◌, List, [], ◌∷◌, length, slice_index_or, Option, None}
use Rattle.sp_netlist.specs.declared.parts.Child.{Child}
use Rattle.sp_netlist.specs.Signals.{Signals}
use Rattle.sp_core.specs.declared.access.Meet.{Meet}
use Rattle.sp_core.specs.Around.{Around, Near}
use Rattle.sp_core.specs.Events.{Event}
use Rattle.sp_core.specs.Forms.{PlainForms}
use Rattle.sp_core.specs.History.{History}
use Rattle.sp_core.specs.Invariant.{IsRight, IsCore}
use Rattle.sp_core.specs.Numbering.{number_count}
use Rattle.sp_core.specs.PlainCore.{PlainOp, PlainNode, PlainCore}
use Rattle.sp_core.specs.Scope.{in_lanes, no_scope}
use Rattle.sp_fitting.specs.Fitting.{HistoryFits}
use Rattle.sp_plan.specs.PlainPlan.{PlainPlan}
use Rattle.sp_machine.specs.Stamps.{Stamped}
use Rattle.sp_machine.specs.Told.{IsKept}
use Rattle.sp_machine.specs.Transfers.{Delays}
use Rattle.sp_overlap.specs.Whole.{IsTimed, HasPlan}
use Rattle.sp_mem.specs.Copies.{copy_at}
use Rattle.sp_node_runs.specs.RunsTold.{all_events}
use Rattle.sp_node_runs.specs.BodiesGiven.{Nets}
use Rattle.sp_node_runs.specs.BodiesTold.{Happens}
use Rattle.sp_tree_runs.specs.BodiesDone.{AllDone}
use Rattle.sp_tree_runs.specs.BodiesScoped.{Scoped, placed}
use Rattle.sp_tree_circuits.specs.Circuits.{Circuit}
use Rattle.sp_tree_circuits.specs.Acts.{Acts}
use Rattle.sp_tree_circuits.specs.Laws.{DidRuns, core_run, core_events}
use Rattle.sp_tree_events.specs.CopiesStanding.{CopyNets, no_numbers}
use Rattle.sp_tree_events.specs.ToldItems.{operation, transfer, NodeHas}
use Rattle.sp_memory_words.specs.Answers.{NamesCopies}
use Rattle.sp_bank_words.specs.Accesses.{reads_in, writes_in}
use Rattle.sp_tree_handed.specs.declared.owners.Keeping.{Keeping}
use Rattle.sp_tree_handed.specs.declared.owners.Renewal.{Renewal}
use Rattle.sp_tree_copies.specs.Naming.{HaveCopies, AreNamed}
use Rattle.sp_owner_runs.specs.Standing.{StandCopies}

-- a memory that is named at a number: any of an operation's events, and of a transfer's its own, not the DRAM
abbrev pub IsNamed : PlainNode → (first number mem : ℕ) → Type 0
IsNamed node n number m = (dram k : ℕ) → NodeHas node n number (transfer dram k) → m ≡ k

-- up to a cycle the nets of a list name the copies of the events of the numbers from one on, in order, that are of these memories
abbrev pub NameCopies : (Of : (number mem : ℕ) → Type 0) → Signals → (events : List Stamped) → (t first : ℕ) → List (Option ℕ) → Type 0
NameCopies Of s events t first names = (i : ℕ) → i < length names → (u : ℕ) (e : Event) (h : Happens events (first + i) u e) → u ≤ t → Of (first + i) e.mem → copy_at s u (slice_index_or names i None) ≡ h.copy

module _ (core : PlainCore) (plan : PlainPlan) (delays : Delays) where
  -- Where the circuit of a node goes as the timeline says, up to a cycle, in runs that did what its operations do, and up to the cycle after
  -- it the numbers of copies around it stand, each of its operations and transfers has a net, which names the copies of its events, of a
  -- transfer those of its events that touch its memory on the chip.
  abbrev pub TreesNameCopies : Type 0
  TreesNameCopies =
      (s : Signals) (events : List Stamped) (node : PlainNode) (near : List Near) (env : Nets) (around : Around) (earlier : List ℕ) (k n from until : ℕ) (qs : List Scoped) (c : Child)
      → IsTimed node → IsRight core around earlier node → DidRuns core plan delays node k n from until qs → HaveCopies core plan → IsKept plan k node
      → (w : Circuit core plan s node near env k c) (copies : CopyNets) (names : List (Option ℕ)) (renewals : List Renewal) (keepings : List Keeping) → AreNamed core plan s node near env k c w copies names renewals keepings
      → (t : ℕ) → StandCopies core plan delays s node k n qs copies (suc t) → Acts core plan delays s events t node near env k n qs c w
      → (length names ≡ number_count node) × NameCopies (IsNamed node n) s (all_events core plan delays node k n (placed qs)) t n names

  -- In a run of the whole core, whose circuit goes as the timeline says up to a cycle: what is said of its events and of the nets by numbers.
  abbrev pub InCores : ((s : Signals) (events : List Stamped) (t : ℕ) (names : List (Option ℕ)) → Type 0) → Type 0
  InCores Said =
      (s : Signals) (env : Nets) (h : History) (c : Child) → IsCore core → IsTimed core.root → AllDone in_lanes core.root no_scope h → HistoryFits core core.root h → HaveCopies core plan → IsKept plan 0 core.root
      → (w : Circuit core plan s core.root [] env 0 c) (names : List (Option ℕ)) (renewals : List Renewal) (keepings : List Keeping) → AreNamed core plan s core.root [] env 0 c w no_numbers names renewals keepings
      → (t : ℕ) → Acts core plan delays s (core_events core plan delays h) t core.root [] env 0 0 (core_run core plan delays h ∷ []) c w
      → Said s (core_events core plan delays h) t names

  -- the net of each operation names the copies of its events
  abbrev pub CoresNameCopies : Type 0
  CoresNameCopies = InCores (λ s events t names. (number : ℕ) (op : PlainOp) → NodeHas core.root 0 number (operation op) → NamesCopies s events t number (slice_index_or names number None))

  -- and that of each load those of its writes to its memory; some events of its number are of the DRAM
  abbrev pub CoresNameLoads : Type 0
  CoresNameLoads =
      InCores (λ s events t names. (number dram m : ℕ) → NodeHas core.root 0 number (transfer dram m) → NamesCopies s (writes_in m events) t number (slice_index_or names number None))

  -- and that of each store those of its reads of its memory
  abbrev pub CoresNameStores : Type 0
  CoresNameStores =
      InCores (λ s events t names. (number dram m : ℕ) → NodeHas core.root 0 number (transfer dram m) → NamesCopies s (reads_in m events) t number (slice_index_or names number None))

-- What these laws ask of a plan: each memory of the core has a copy, and the times of loop bodies are kept.
pub record HasNumbers (core : PlainCore) (plan : PlainPlan) : Type 0 where
  pub copies : HaveCopies core plan
  pub kept : IsKept plan 0 core.root

-- a valid plan has it
abbrev pub PlansHaveNumbers : PlainCore → PlainPlan → Type 0
PlansHaveNumbers core plan = (forms : PlainForms) (meets : List Meet) → HasPlan core forms meets plan → HasNumbers core plan
