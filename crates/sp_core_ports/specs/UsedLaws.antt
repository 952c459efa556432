-- Laws of readers, and of the ports that parts of a run use, as statements.
use Rattle.std.specs.Prelude.{◌≡◌, ℕ, ◌<◌, ◌≤◌, true, List, length}
use Rattle.std.specs.List.{list_all}
use Rattle.sp_core.specs.Around.{Around}
use Rattle.sp_core.specs.Events.{Standing}
use Rattle.sp_core.specs.Forms.{PlainForms}
use Rattle.sp_core.specs.History.{Entry, Taken, moved}
use Rattle.sp_core.specs.NodeRules.{is_span_right}
use Rattle.sp_core.specs.PlainCore.{PlainOp, PlainSpan, PlainNode, PlainStages, load, store, PlainCore}
use Rattle.sp_plan.specs.Copies.{readers}
use Rattle.sp_plan.specs.PlainPlan.{PlainNodePlan, PlainPlan}
use Rattle.sp_time.specs.Beats.{Slot, Run, run_at}
use Rattle.sp_time.specs.Lists.{Each, Pairs}
use Rattle.sp_time.specs.Orders.{Sooner, Precedes}
use Rattle.sp_machine.specs.InOrder.{AreInOrder, EachTwo}
use Rattle.sp_machine.specs.Stamps.{Stamped, Copies, ◌▸◌, list_run, kept_run}
use Rattle.sp_machine.specs.Timeline.{timed, group_events}
use Rattle.sp_machine.specs.Transfers.{Delays}
use Rattle.sp_core_ports.specs.UsedPorts.{AreAtPort, UseNoPortTwice}
use Rattle.sp_core_ports.specs.UsedQueues.{UseNoEndTwice}
use Rattle.sp_core_ports.specs.UsedReaders.{readers_in, readers_of, over_at, reader_at}

-- a memory has as many readers in a node as a plan counts
abbrev pub ReadersAreCounted : PlainCore → Type 0
ReadersAreCounted core = (m n : ℕ) (node : PlainNode) → length (readers_in core m n node) ≡ readers core m node

-- and each is over before the next one begins
abbrev pub ReadersAreInOrder : PlainCore → Type 0
ReadersAreInOrder core = (m n : ℕ) (node : PlainNode) → Pairs (λ a b. a.until ≤ b.from) (readers_in core m n node)

-- so at each number that the first one does none is over, at each of the second one one is, and so on
abbrev pub ReadersHavePlaces : PlainCore → Type 0
ReadersHavePlaces core = (m i x : ℕ) → i < length (readers_of core m) → (reader_at (readers_of core m) i).from ≤ x → x < (reader_at (readers_of core m) i).until → over_at x (readers_of core m) ≡ i

module _ (core : PlainCore) (plan : PlainPlan) (delays : Delays) where
  -- no two operations of a start, a test or a next
  abbrev pub ListsUseNoPortTwice : Type 0
  ListsUseNoPortTwice =
      (forms : PlainForms) (copies : Copies) (n : ℕ) (st : Standing) (ops : List PlainOp) (es : List Entry) (state word : ℕ)
      → Pairs (UseNoPortTwice core plan forms) (list_run core copies n st ops es).events × Pairs (UseNoPortTwice core plan forms) (kept_run core copies n st ops es state word).events

  -- no two words of a load or of a store, whose slice is right
  abbrev pub TransfersUseNoPortTwice : Type 0
  TransfersUseNoPortTwice =
      (forms : PlainForms) (around : Around) (r m : ℕ) (spans : List PlainSpan) (k n : ℕ) (st : Standing) (copies : Copies) (taken : List Taken) (words : List ℕ)
      → list_all (is_span_right core around) spans ≡ true
      → Pairs (UseNoPortTwice core plan forms) (timed core plan delays (load r m spans) k n st copies (moved taken words)).events
      × Pairs (UseNoPortTwice core plan forms) (timed core plan delays (store r m spans) k n st copies (moved taken words)).events

  -- nothing of two parts one of which comes after the other, as those of an FSM and of a branch
  abbrev pub PartsUseNoPortTwice : Type 0
  PartsUseNoPortTwice =
      (forms : PlainForms) (a b : Run Stamped)
      → Each (λ e. e.cycle < a.took) a.events → Pairs (UseNoPortTwice core plan forms) a.events → Pairs (UseNoPortTwice core plan forms) b.events
      → Pairs (UseNoPortTwice core plan forms) (a ▸ b).events

  -- two runs of stages that use one port come one after the other, by beats or in a chain
  abbrev pub TakeTurns : List Slot → List (List (Run Stamped)) → Type 0
  TakeTurns slots runs = (k s l r : ℕ) → Sooner k s l r → EachTwo (λ e f. AreAtPort core plan e f → Precedes slots k s l r) (run_at runs k s).events (run_at runs l r).events

  -- then nothing of an outer body's groups, where nothing of each run by itself does
  abbrev pub OutersUseNoPortTwice : Type 0
  OutersUseNoPortTwice =
      (forms : PlainForms) (slots : List Slot) (runs : List (List (Run Stamped))) (p : PlainNodePlan) (stages : PlainStages) (copies : Copies) (owned : List ℕ)
      → Each (λ row. (length row ≤ length slots) × Each (λ r. Each (λ e. e.cycle < r.took) r.events × Pairs (UseNoPortTwice core plan forms) r.events) row) runs
      → TakeTurns slots runs
      → Pairs (UseNoPortTwice core plan forms) (group_events core plan delays slots runs p stages copies owned 0 runs)

-- what comes in order uses no end of a FIFO twice in one cycle
abbrev pub OrderedUseNoEndTwice : PlainCore → Type 0
OrderedUseNoEndTwice core = (es : List Stamped) → Pairs (AreInOrder core) es → Pairs (UseNoEndTwice core) es
