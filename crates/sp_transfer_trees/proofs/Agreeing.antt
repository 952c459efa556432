-- What happens at the number of a transfer: one induction over the tree.
use Rattle.std.proofs.Common.{◌≡◌, ℕ, zero, suc, ◌+◌, ◌<◌, ◌≤◌, true, false, List, length, sym, subst, arith}
use Rattle.sp_netlist.specs.declared.parts.Child.{Child}
use Rattle.sp_netlist.specs.Signals.{Signals}
use Rattle.sp_core.specs.Around.{Near}
use Rattle.sp_core.specs.Numbering.{counters_size, spans_size, node_count, number_count, number_count_in}
use Rattle.sp_core.specs.PlainCore.{PlainNode, PlainStages, inner, outer, fsm, branch, load, store, sparse, no_stage, more_stage, PlainCore}
use Rattle.sp_plan.specs.PlainPlan.{PlainPlan, node_plan}
use Rattle.sp_plan.specs.Validity.{stage_count}
use Rattle.sp_time.specs.Beats.{slot_at}
use Rattle.sp_machine.specs.Stamps.{Stamped}
use Rattle.sp_machine.specs.Timeline.{slots_of}
use Rattle.sp_machine.specs.Transfers.{Delays}
use Rattle.sp_overlap.specs.Whole.{IsTimed, AreTimed}
use Rattle.sp_node_runs.specs.Runs.{Placed, stage_at, node_at, number_at, stage_runs}
use Rattle.sp_node_runs.specs.RunsTold.{all_events}
use Rattle.sp_node_runs.specs.BodiesGiven.{Nets}
use Rattle.sp_node_runs.specs.BodiesLaws.{own_near}
use Rattle.sp_tree_events.specs.PartsAgreeing.{AgreeIn}
use Rattle.sp_tree_runs.specs.BodiesScoped.{Scoped, placed, scoped_sides, scoped_bodies, scoped_stages}
use Rattle.sp_tree_circuits.specs.Answers.{EachTransfer, EachInStages}
use Rattle.sp_tree_circuits.specs.Circuits.{slot_nets, Circuit, StageCircuits}
use Rattle.sp_transfer_trees.specs.Agreeing.{AgreeingLaws, TransferAgrees, TransfersAgree}

-- numbers of stages stand behind those of the first one, and end with those of the last one
from_first : (stages : PlainStages) (n i : ℕ) → n ≤ number_at stages n i
from_first no_stage n i = omega arith
from_first (more_stage first last comb node rest) n zero = omega arith
from_first (more_stage first last comb node rest) n (suc i) = let l = from_first rest (n + number_count node) i in omega (arith, l)

up_to_last : (stages : PlainStages) (n i : ℕ) → i < stage_count stages → number_at stages n i + number_count (stage_at stages i) ≤ n + number_count_in stages
up_to_last no_stage n i l = absurd (omega (arith, l))
up_to_last (more_stage first last comb node rest) n zero l = omega arith
up_to_last (more_stage first last comb node rest) n (suc i) l = let u = up_to_last rest (n + number_count node) i (omega (arith, l)) in omega (arith, u)

module _ (core : PlainCore) (plan : PlainPlan) (delays : Delays) (laws : AgreeingLaws core plan delays) (whole : List Stamped) where
  -- a part of a node, by numbers that are the node's
  narrow : (all part : List Stamped) (low high from until : ℕ) → low ≤ from → until ≤ high → AgreeIn whole all low high → AgreeIn all part from until → AgreeIn whole part from until
  narrow all part low high from until l h one other x a b = laws.agreement.through whole all part x (one x (omega (arith, l, a)) (omega (arith, h, b))) (other x a b)

  abbrev AgreesSo : PlainNode → (k n : ℕ) → List Placed → Type 0
  AgreesSo node k n runs = AgreeIn whole (all_events core plan delays node k n runs) n (n + number_count node)

  module _ (s : Signals) where
    mutual
      pub go : (node : PlainNode) (near : List Near) (env : Nets) (k n : ℕ) (qs : List Scoped) (c : Child) → IsTimed node → AgreesSo node k n (placed qs) → (w : Circuit core plan s node near env k c)
          → EachTransfer core plan delays s (TransferAgrees core plan delays whole) node near env k n qs c w
      go (branch ops first second) near env k n qs c is agree w =
          let each = laws.sides k n ops first second (placed qs) is.0 is.1 in (
            go first near env (suc k) (n + length ops) (scoped_sides core plan delays ops k true qs) w.chosen is.0
                (subst (AgreesSo first (suc k) (n + length ops)) (sym (laws.parts.sides k ops true qs)) (narrow _ _ n (n + number_count (branch ops first second)) (n + length ops) (n + length ops + number_count first) (omega arith) (omega arith) agree each.0)) w.one,
            go second near env (suc k + node_count first) (n + (length ops + number_count first)) (scoped_sides core plan delays ops k false qs) w.left is.1
                (subst (AgreesSo second (suc k + node_count first) (n + (length ops + number_count first))) (sym (laws.parts.sides k ops false qs)) (narrow _ _ n (n + number_count (branch ops first second)) (n + (length ops + number_count first)) (n + (length ops + number_count first) + number_count second) (omega arith) (omega arith) agree each.1)) w.other,
          )
      go (fsm start state ops node after) near env k n qs c is agree w =
          go node near env (suc k) (n + (length start + length ops)) (scoped_bodies core plan delays start ops after node k n qs) w.body is
          (subst (AgreesSo node (suc k) (n + (length start + length ops))) (sym (laws.parts.bodies k n start ops node after qs))
          (narrow _ _ n (n + number_count (fsm start state ops node after)) (n + (length start + length ops)) (n + (length start + length ops) + number_count node) (omega arith) (omega arith) agree (laws.machines k n start state ops node after (placed qs) is))) w.goes
      go (outer counters style owned stages) near env k n qs c is agree w =
          go_stages stages (own_near counters near) (suc k) (n + counters_size counters) 0 (λ i. slot_nets w.nets w.rows env counters (slot_at (slots_of (node_plan plan k)) i).slot) (λ i. scoped_stages core plan delays counters owned stages k n i qs) w.child is.1
          (λ i less. subst (λ j. AgreesSo (stage_at stages i) (node_at stages (suc k) i) (number_at stages (n + counters_size counters) i) (placed (scoped_stages core plan delays counters owned stages k n j qs))) {x = i} {y = 0 + i} (omega arith)
          (subst (AgreesSo (stage_at stages i) (node_at stages (suc k) i) (number_at stages (n + counters_size counters) i)) (sym (laws.parts.stages k n counters owned stages i qs))
          (let a = from_first stages (n + counters_size counters) i in
          let b = up_to_last stages (n + counters_size counters) i less in
          narrow _ _ n (n + number_count (outer counters style owned stages)) (number_at stages (n + counters_size counters) i) (number_at stages (n + counters_size counters) i + number_count (stage_at stages i)) (omega (arith, a)) (omega (arith, b)) agree
          (laws.stages k n counters style owned stages (placed qs) is.1 i less)))) w.parts
      go (inner counters owned ops comb) near env k n qs c is agree w = tt
      go (load r m spans) near env k n qs c is agree w = agree (n + spans_size spans) (omega arith) (omega arith)
      go (store r m spans) near env k n qs c is agree w = agree (n + spans_size spans) (omega arith) (omega arith)
      go (sparse kind r m places spans count par) near env k n qs c is agree w = elim is [ ]

      go_stages : (stages : PlainStages) (near : List Near) (j n i : ℕ) (nets : (stage : ℕ) → Nets) (qs : (stage : ℕ) → List Scoped) (child : (stage : ℕ) → Child) → AreTimed stages
          → ((m : ℕ) → m < stage_count stages → AgreesSo (stage_at stages m) (node_at stages j m) (number_at stages n m) (placed (qs (i + m)))) → (w : StageCircuits core plan s stages near j i nets child)
          → EachInStages core plan delays s (TransferAgrees core plan delays whole) stages near j n i nets qs child w
      go_stages no_stage near j n i nets qs child is each w = tt
      go_stages (more_stage first final comb node rest) near j n i nets qs child is each w = (
        go node near (nets i) j n (qs i) (child i) is.0 (subst (λ x. AgreesSo node j n (placed (qs x))) {x = i + 0} {y = i} (omega arith) (each 0 (omega arith))) w.0,
        go_stages rest near (j + node_count node) (n + number_count node) (suc i) nets qs child is.1
            (λ m less. subst (λ x. AgreesSo (stage_at rest m) (node_at rest (j + node_count node) m) (number_at rest (n + number_count node) m) (placed (qs x))) {x = i + suc m} {y = suc i + m} (omega arith) (each (suc m) (omega (arith, less)))) w.1,
      )

pub transfers_agree : (core : PlainCore) (plan : PlainPlan) (delays : Delays) → AgreeingLaws core plan delays → (whole : List Stamped) → TransfersAgree core plan delays whole
transfers_agree core plan delays laws whole s node near env k n qs c is agree w = go core plan delays laws whole s node near env k n qs c is agree w
