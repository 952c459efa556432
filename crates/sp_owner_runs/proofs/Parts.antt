-- The parts of a node did their runs where the node did, and what stands around them.
use Rattle.std.proofs.Common.{◌≡◌, ℕ, suc, ◌+◌, ◌<◌, true, false, List, length, sym, subst, arith}
use Rattle.sp_words.specs.declared.kind.Style.{Style}
use Rattle.sp_netlist.specs.declared.parts.Child.{Child}
use Rattle.sp_netlist.specs.Signals.{Signals}
use Rattle.sp_core.specs.Around.{Around, Near}
use Rattle.sp_core.specs.Declarations.{is_among}
use Rattle.sp_core.specs.Invariant.{owned_in, IsRight}
use Rattle.sp_core.specs.Numbering.{counters_size, node_count, number_count}
use Rattle.sp_core.specs.PlainCore.{PlainOp, PlainCounter, PlainNode, PlainStages, outer, fsm, branch, PlainCore}
use Rattle.sp_plan.specs.PlainPlan.{PlainPlan, node_plan}
use Rattle.sp_plan.specs.Validity.{stage_count}
use Rattle.sp_time.specs.Beats.{slot_at}
use Rattle.sp_machine.specs.Stamps.{Stamped}
use Rattle.sp_machine.specs.Timeline.{slots_of}
use Rattle.sp_machine.specs.Transfers.{Delays}
use Rattle.sp_overlap.specs.Whole.{IsTimed}
use Rattle.sp_node_runs.specs.Runs.{AreWithin, stage_at, node_at, number_at}
use Rattle.sp_node_runs.specs.RunsTold.{all_events}
use Rattle.sp_node_runs.specs.ControlBeating.{LoopGoes}
use Rattle.sp_node_runs.specs.ControlLaws.{IsStarted}
use Rattle.sp_node_runs.specs.ControlRuns.{rans}
use Rattle.sp_node_runs.specs.FitsLaws.{AllFit}
use Rattle.sp_node_runs.specs.BodiesGiven.{Nets}
use Rattle.sp_tree_runs.specs.BodiesScoped.{Scoped, placed, scoped_sides, scoped_bodies, scoped_stages}
use Rattle.sp_tree_circuits.specs.Circuits.{Circuit}
use Rattle.sp_tree_circuits.specs.Laws.{DidRuns}
use Rattle.sp_tree_events.specs.CopiesStanding.{CopyNets, with_numbers}
use Rattle.sp_tree_events.specs.OwnersOwning.{OwnAgree}
use Rattle.sp_tree_events.specs.PartsAgreeing.{AgreeIn}
use Rattle.sp_tree_copies.specs.Naming.{HaveCopies, LoopNumbers}
use Rattle.sp_owner_runs.specs.Given.{Laws}
use Rattle.sp_owner_runs.specs.Standing.{StandCopies}
use Rattle.sp_owner_runs.proofs.Apart.{in_stages, not_of_loop, not_of_others}
use Rattle.sp_owner_runs.proofs.Loops.{stage_stands}
use Rattle.sp_owner_runs.proofs.Stages.{EachStage, each_from}

module _ (core : PlainCore) (plan : PlainPlan) (delays : Delays) (laws : Laws core plan delays) where
  -- runs of the parts of a node that did its runs
  pub sides_did : (k n from until : ℕ) (ops : List PlainOp) (first second : PlainNode) (qs : List Scoped) → DidRuns core plan delays (branch ops first second) k n from until qs
      → DidRuns core plan delays first (suc k) (n + length ops) from until (scoped_sides core plan delays ops k true qs)
      × DidRuns core plan delays second (suc k + node_count first) (n + (length ops + number_count first)) from until (scoped_sides core plan delays ops k false qs)
  sides_did k n from until ops first second qs did =
      let done = laws.parts.sides_done k ops first second qs did.done in
      let fits = laws.fits.branches k ops first second (placed qs) did.fits in
      let turns = laws.sides_turn k n ops first second from until (placed qs) did.in_turn in (
        record {
          done = done.0;
          fits = subst (AllFit core plan delays first) (sym (laws.parts.sides k ops true qs)) fits.1;
          in_turn = subst (AreWithin core plan delays first (suc k) (n + length ops) from until) (sym (laws.parts.sides k ops true qs)) turns.0;
        },
        record {
          done = done.1;
          fits = subst (AllFit core plan delays second) (sym (laws.parts.sides k ops false qs)) fits.2;
          in_turn = subst (AreWithin core plan delays second (suc k + node_count first) (n + (length ops + number_count first)) from until) (sym (laws.parts.sides k ops false qs)) turns.1;
        },
      )

  pub bodies_did : (k n from until : ℕ) (start : List PlainOp) (state : ℕ) (ops : List PlainOp) (node : PlainNode) (after : List PlainOp) (qs : List Scoped) → DidRuns core plan delays (fsm start state ops node after) k n from until qs
      → DidRuns core plan delays node (suc k) (n + (length start + length ops)) from until (scoped_bodies core plan delays start ops after node k n qs)
  bodies_did k n from until start state ops node after qs did = record {
    done = laws.parts.bodies_done k n start state ops node after qs did.done;
    fits = subst (AllFit core plan delays node) (sym (laws.parts.bodies k n start ops node after qs)) (laws.fits.machines k n start state ops node after (placed qs) did.fits).1;
    in_turn = subst (AreWithin core plan delays node (suc k) (n + (length start + length ops)) from until) (sym (laws.parts.bodies k n start ops node after qs)) (laws.bodies_turn k n start state ops node after from until (placed qs) did.in_turn);
  }

  stages_did : (k n from until : ℕ) (counters : List PlainCounter) (style : Style) (owned : List ℕ) (stages : PlainStages) (qs : List Scoped) → length (slots_of (node_plan plan k)) ≡ stage_count stages → DidRuns core plan delays (outer counters style owned stages) k n from until qs
      → (i : ℕ) → i < stage_count stages → DidRuns core plan delays (stage_at stages i) (node_at stages (suc k) i) (number_at stages (n + counters_size counters) i) from until (scoped_stages core plan delays counters owned stages k n i qs)
  stages_did k n from until counters style owned stages qs size did i few = record {
    done = laws.parts.stages_done k n counters style owned stages i qs did.done;
    fits = subst (AllFit core plan delays (stage_at stages i)) (sym (laws.parts.stages k n counters owned stages i qs)) ((laws.fits.outers k n counters style owned stages (placed qs) did.fits).1 i);
    in_turn = subst (AreWithin core plan delays (stage_at stages i) (node_at stages (suc k) i) (number_at stages (n + counters_size counters) i) from until) (sym (laws.parts.stages k n counters owned stages i qs))
        (laws.stages_turn k n counters style owned stages i (omega (arith, size, few)) from until (placed qs) did.in_turn);
  }

  module _ (s : Signals) (t : ℕ) where
    -- a stage did its runs, the numbers of its slot stand around it, and what happens in it is what happens in the whole: to its memories,
    -- and at its numbers
    pub record IsStage (whole : List Stamped) (from until : ℕ) (qs : (stage : ℕ) → List Scoped) (copies : (stage : ℕ) → CopyNets) (node : PlainNode) (j n i : ℕ) : Type 0 where
      pub did : DidRuns core plan delays node j n from until (qs i)
      pub stand : StandCopies core plan delays s node j n (qs i) (copies i) (suc t)
      pub agree : (m : ℕ) → is_among m (owned_in node) ≡ true → OwnAgree whole (all_events core plan delays node j n (placed (qs i))) m
      pub agree_at : AgreeIn whole (all_events core plan delays node j n (placed (qs i))) n (n + number_count node)

    module _ (have : HaveCopies core plan) (near : List Near) (env : Nets) (around : Around) (earlier : List ℕ) (k n : ℕ) (counters : List PlainCounter) (style : Style) (owned : List ℕ) (stages : PlainStages) (from until : ℕ) (qs : List Scoped) (c : Child)
        (is : IsTimed (outer counters style owned stages)) (right : IsRight core around earlier (outer counters style owned stages)) (did : DidRuns core plan delays (outer counters style owned stages) k n from until qs) (w : Circuit core plan s (outer counters style owned stages) near env k c)
        (copies : CopyNets) (stand : StandCopies core plan delays s (outer counters style owned stages) k n qs copies (suc t)) (loop : LoopNumbers plan s c.start w.firsts owned)
        (started : IsStarted s c.start (rans core plan delays (outer counters style owned stages) k n (placed qs)) t) (goes : LoopGoes core plan delays k n counters owned stages w.places s w.part.step w.slots w.firsts c.done t style (placed qs)) where
      abbrev whole : List Stamped
      whole = all_events core plan delays (outer counters style owned stages) k n (placed qs)

      abbrev scoped : (stage : ℕ) → List Scoped
      scoped i = scoped_stages core plan delays counters owned stages k n i qs

      abbrev numbers : (stage : ℕ) → CopyNets
      numbers i = with_numbers copies owned (loop.numbers (slot_at (slots_of (node_plan plan k)) i).slot)

      pub each_stage : EachStage (IsStage whole from until scoped numbers) stages (suc k) (n + counters_size counters) 0
      each_stage =
          each_from (IsStage whole from until scoped numbers) stages (suc k) (n + counters_size counters) 0
          (λ i few. subst (IsStage whole from until scoped numbers (stage_at stages i) (node_at stages (suc k) i) (number_at stages (n + counters_size counters) i)) {x = i} {y = 0 + i} (omega arith) (record {
            did = stages_did k n from until counters style owned stages qs w.size did i few;
            stand = stage_stands core plan delays laws have s t near env around earlier k n counters style owned stages from until qs c is right did w copies stand loop started goes i few;
            agree = λ m own.
                subst (λ rs. OwnAgree whole (all_events core plan delays (stage_at stages i) (node_at stages (suc k) i) (number_at stages (n + counters_size counters) i) rs) m) (sym (laws.parts.stages k n counters owned stages i qs))
                (laws.stages_own k n counters style owned stages (placed qs) m is.1 (not_of_loop core around earlier counters style owned stages right m (in_stages core stages i m own)) i few (not_of_others core around earlier counters style owned stages right m i own));
            agree_at =
                subst (λ rs. AgreeIn whole (all_events core plan delays (stage_at stages i) (node_at stages (suc k) i) (number_at stages (n + counters_size counters) i) rs) (number_at stages (n + counters_size counters) i) (number_at stages (n + counters_size counters) i + number_count (stage_at stages i))) (sym (laws.parts.stages k n counters owned stages i qs))
                (laws.stages_agree k n counters style owned stages (placed qs) is.1 i few);
          }))
