-- By their nets the owners in the circuit of a tree do to their memories what the timeline says, as statements.
use Rattle.std.specs.Prelude.{◌≡◌, ℕ, suc, ◌≤◌, true, List, [], ◌∷◌, Option}
use Rattle.std.specs.List.{Contains}
use Rattle.sp_netlist.specs.declared.parts.Child.{Child}
use Rattle.sp_netlist.specs.Signals.{Signals}
use Rattle.sp_gates.specs.Tested.{is_on}
use Rattle.sp_core.specs.Around.{Around, Near}
use Rattle.sp_core.specs.History.{History}
use Rattle.sp_core.specs.Invariant.{IsRight, IsCore}
use Rattle.sp_core.specs.PlainCore.{PlainNode, PlainCore}
use Rattle.sp_core.specs.Scope.{in_lanes, no_scope}
use Rattle.sp_fitting.specs.Fitting.{HistoryFits}
use Rattle.sp_plan.specs.PlainPlan.{PlainPlan}
use Rattle.sp_machine.specs.Stamps.{Stamped}
use Rattle.sp_machine.specs.Transfers.{Delays}
use Rattle.sp_overlap.specs.Whole.{IsTimed}
use Rattle.sp_mem.specs.Copies.{copy_at}
use Rattle.sp_node_runs.specs.RunsTold.{all_events}
use Rattle.sp_node_runs.specs.BodiesGiven.{Nets}
use Rattle.sp_tree_runs.specs.BodiesDone.{AllDone}
use Rattle.sp_tree_runs.specs.BodiesScoped.{Scoped, placed}
use Rattle.sp_tree_circuits.specs.Circuits.{Circuit}
use Rattle.sp_tree_circuits.specs.Acts.{Acts}
use Rattle.sp_tree_circuits.specs.Laws.{DidRuns, core_run, core_events}
use Rattle.sp_tree_events.specs.CopiesStanding.{CopyNets, no_numbers}
use Rattle.sp_tree_events.specs.OwnersOwning.{renewed, kept, Shows}
use Rattle.sp_tree_handed.specs.declared.owners.Keeping.{Keeping}
use Rattle.sp_tree_handed.specs.declared.owners.Renewal.{Renewal}
use Rattle.sp_tree_copies.specs.Naming.{HaveCopies, AreNamed}
use Rattle.sp_owner_runs.specs.Deeds.{CountsFresh}
use Rattle.sp_owner_runs.specs.Standing.{StandCopies}

module _ (s : Signals) (cycle mem copy : ℕ) where
  -- one of these nets tells in a cycle that a memory is made fresh in a copy
  abbrev pub IsRenewed : List Renewal → Type 0
  IsRenewed renewals = (r : Renewal) × Contains renewals r × (r.mem ≡ mem) × (is_on s r.first cycle ≡ true) × (copy_at s cycle r.copy ≡ copy)

  -- or that a state is kept, with its word
  abbrev pub IsKept : List Keeping → (word : ℕ) → Type 0
  IsKept keepings word = (k : Keeping) × Contains keepings k × (k.mem ≡ mem) × (is_on s k.done cycle ≡ true) × (s.net cycle k.word ≡ word) × (copy_at s cycle k.copy ≡ copy)

-- Up to a cycle owners do so in the cycles in which the events say it, in the copy whose number stands there, and in no other. What an
-- inner body makes fresh is left out: it is told by the operations of the body.
pub record OwnersAct (core : PlainCore) (s : Signals) (events : List Stamped) (t : ℕ) (renewals : List Renewal) (keepings : List Keeping) : Type 0 where
  pub renews : (r : Renewal) (u : ℕ) → Contains renewals r → u ≤ t → is_on s r.first u ≡ true → Shows events u (copy_at s u r.copy) (renewed r.mem)
  pub keeps : (k : Keeping) (u : ℕ) → Contains keepings k → u ≤ t → is_on s k.done u ≡ true → Shows events u (copy_at s u k.copy) (kept k.mem (s.net u k.word))
  pub all_renewals : (u c m : ℕ) → u ≤ t → CountsFresh core m → Shows events u c (renewed m) → IsRenewed s u m c renewals
  pub all_keepings : (u c m v : ℕ) → u ≤ t → Shows events u c (kept m v) → IsKept s u m c keepings v

module _ (core : PlainCore) (plan : PlainPlan) (delays : Delays) where
  -- Where the circuit of a node goes as the timeline says, up to a cycle, in runs that did what its operations do, and up to the cycle after
  -- it the numbers of copies around it stand, so do its owners.
  abbrev pub TreesOwn : Type 0
  TreesOwn =
      (s : Signals) (events : List Stamped) (node : PlainNode) (near : List Near) (env : Nets) (around : Around) (earlier : List ℕ) (k n from until : ℕ) (qs : List Scoped) (c : Child)
      → IsTimed node → IsRight core around earlier node → DidRuns core plan delays node k n from until qs → HaveCopies core plan
      → (w : Circuit core plan s node near env k c) (copies : CopyNets) (names : List (Option ℕ)) (renewals : List Renewal) (keepings : List Keeping) → AreNamed core plan s node near env k c w copies names renewals keepings
      → (t : ℕ) → StandCopies core plan delays s node k n qs copies (suc t) → Acts core plan delays s events t node near env k n qs c w → OwnersAct core s (all_events core plan delays node k n (placed qs)) t renewals keepings

  -- so it is in a run of the whole core, around which each memory is in its first copy
  abbrev pub CoresOwn : Type 0
  CoresOwn =
      (s : Signals) (env : Nets) (h : History) (c : Child) → IsCore core → IsTimed core.root → AllDone in_lanes core.root no_scope h → HistoryFits core core.root h → HaveCopies core plan
      → (w : Circuit core plan s core.root [] env 0 c) (names : List (Option ℕ)) (renewals : List Renewal) (keepings : List Keeping) → AreNamed core plan s core.root [] env 0 c w no_numbers names renewals keepings
      → (t : ℕ) → Acts core plan delays s (core_events core plan delays h) t core.root [] env 0 0 (core_run core plan delays h ∷ []) c w → OwnersAct core s (core_events core plan delays h) t renewals keepings
