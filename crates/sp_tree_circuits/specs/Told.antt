-- What a loop in beats is told, as a statement.
use Rattle.std.specs.Prelude.{ℕ, suc, ◌≤◌, List, map}
use Rattle.sp_words.specs.declared.kind.Style.{Style}
use Rattle.sp_netlist.specs.declared.parts.Child.{Child}
use Rattle.sp_netlist.specs.Signals.{Signals}
use Rattle.sp_core.specs.Around.{Around, Near}
use Rattle.sp_core.specs.Invariant.{IsRight}
use Rattle.sp_core.specs.Numbering.{number_count}
use Rattle.sp_core.specs.PlainCore.{PlainCounter, PlainStages, outer, PlainCore}
use Rattle.sp_sequence.specs.declared.part.Chain.{Chain}
use Rattle.sp_sequence.specs.declared.part.Member.{Member}
use Rattle.sp_sequence.specs.declared.part.Slot.{Slot}
use Rattle.sp_part_runs.specs.SequencesChains.{Numbered, SaysWanted, turn}
use Rattle.sp_part_runs.specs.SequencesRuns.{shape_of}
use Rattle.sp_part_runs.specs.BeatsLaws.{TellsMore}
use Rattle.sp_part_runs.specs.BeatsRuns.{slot_cycle, slot_found, groups_in}
use Rattle.sp_plan.specs.PlainPlan.{PlainPlan}
use Rattle.sp_machine.specs.Stamps.{Stamped}
use Rattle.sp_machine.specs.Transfers.{Delays}
use Rattle.sp_overlap.specs.Whole.{IsTimed}
use Rattle.sp_node_runs.specs.RunsTold.{all_events}
use Rattle.sp_node_runs.specs.ControlBeating.{beats_ran, LoopGoes}
use Rattle.sp_node_runs.specs.ControlLaws.{IsStarted}
use Rattle.sp_node_runs.specs.ControlRuns.{rans}
use Rattle.sp_node_runs.specs.BodiesGiven.{Nets}
use Rattle.sp_node_runs.specs.BodiesTold.{AreAnsweredInTime}
use Rattle.sp_tree_runs.specs.BodiesScoped.{Scoped, placed}
use Rattle.sp_tree_circuits.specs.Acts.{AreEventsOf}
use Rattle.sp_tree_circuits.specs.Answers.{EachBound}
use Rattle.sp_tree_circuits.specs.Circuits.{Circuit}
use Rattle.sp_tree_circuits.specs.Laws.{DidRuns, StandAround}

module _ (core : PlainCore) (plan : PlainPlan) (delays : Delays) where
  -- Where a loop goes as the timeline says up to a cycle, it is told, one cycle further, in each step whether a group comes, and of each
  -- member, in the cycle in which its turn is told, whether it is wanted: so no circle is left within a cycle.
  abbrev pub LoopsAreTold : Type 0
  LoopsAreTold =
      (s : Signals) (events : List Stamped) (last : ℕ) (near : List Near) (env : Nets) (around : Around) (earlier : List ℕ) (k n from until : ℕ) (counters : List PlainCounter) (style : Style) (owned : List ℕ) (stages : PlainStages) (qs : List Scoped) (c : Child)
      → IsTimed (outer counters style owned stages) → IsRight core around earlier (outer counters style owned stages) → DidRuns core plan delays (outer counters style owned stages) k n from until qs
      → AreEventsOf events (all_events core plan delays (outer counters style owned stages) k n (placed qs)) n (number_count (outer counters style owned stages))
      → (w : Circuit core plan s (outer counters style owned stages) near env k c) → EachBound core plan s (AreAnsweredInTime s events last) near env w.draft n counters w.part.counters.items w.bounds
      → (t : ℕ) → suc t ≤ last → StandAround core plan delays s (outer counters style owned stages) near env k n qs (suc t) → IsStarted s c.start (rans core plan delays (outer counters style owned stages) k n (placed qs)) t
      → LoopGoes core plan delays k n counters owned stages w.places s w.part.step w.slots w.firsts c.done t style (placed qs)
      → TellsMore s w.nets.more w.slots (suc t) (map (beats_ran core plan delays k n counters owned stages w.places) (placed qs))
      × Numbered (λ x (slot : Slot). Numbered (λ j (chain : Chain). Numbered (λ i (m : Member).
      SaysWanted s m.wanted (turn (slot_cycle (shape_of w.slots) x) (λ q. slot_found x q j) i) (λ q. slot_found x q j i) (groups_in (map (beats_ran core plan delays k n counters owned stages w.places) (placed qs))) (suc t)) 0 chain.members.items) 0 slot.chains.items) 0 w.slots
