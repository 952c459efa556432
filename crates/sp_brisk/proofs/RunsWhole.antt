-- By a valid plan that is brisk, costs are within the limit, and runs end within it.
use Rattle.std.proofs.Common.{◌≡◌, ℕ, suc, ◌+◌, ◌<◌, ◌≤◌, Bool, true, false, List, [], ◌∷◌, ◌++◌, length, max, arith, refl, sym, ◌∙◌}
use Rattle.std.proofs.lemmas.Bool.{and_parts, eqb-true, leb-true, false≢true}
use Rattle.std.specs.Prelude.{◌==◌, ◌&&◌, ◌||◌, nat_le, nat_lt, Option}
use Rattle.sp_words.specs.declared.kind.Style.{Style}
use Rattle.sp_core.specs.declared.access.Meet.{Meet}
use Rattle.sp_core.specs.declared.node.SparseKind.{SparseKind}
use Rattle.sp_core.specs.declared.node.SparseKind.TheVariants.{Gather, Scatter, WideLoad, WideStore}
use Rattle.sp_core.specs.Around.{Around, lanes_of, within, nothing}
use Rattle.sp_core.specs.Cost as cost
use Rattle.sp_core.specs.Cost.{Timings, greatest_of}
use Rattle.sp_core.specs.Declarations.{mem, dram, is_stream}
use Rattle.sp_core.specs.Forms.{PlainForms}
use Rattle.sp_core.specs.Invariant.{IsRight, AreRight, owned_in}
use Rattle.sp_core.specs.Latency.{latency_of_all}
use Rattle.sp_core.specs.NodeRules.{are_lanes_right, is_slice_right, is_sram_here, fits_sram, are_places, is_pick_right, is_none, is_wide_right, is_sparse_right, with_state}
use Rattle.sp_core.specs.Numbering.{counters_size, node_count, number_count}
use Rattle.sp_core.specs.OperationRules.{is_bound}
use Rattle.sp_core.specs.PlainCore.{PlainOp, PlainCounter, PlainSpan, PlainNode, PlainStages, inner, outer, fsm, branch, load, store, sparse, no_stage, more_stage, PlainCore}
use Rattle.sp_plan.specs.Nodes.{holds_of_each, holds_of_stages}
use Rattle.sp_plan.specs.PlainPlan.{PlainNodePlan, inner_plan, outer_plan, other_plan, PlainPlan, node_plan}
use Rattle.sp_plan.specs.Slots.{StageRun, runs_of, is_slot_right, is_slot_right_in, are_slots_right}
use Rattle.sp_plan.specs.Validity.{stage_count, has_slots, is_kind_of, are_divided_right, are_runs_right, kind_rule, slot_rule}
use Rattle.sp_machine.specs.Laws.{EndsInCost}
use Rattle.sp_machine.specs.Told.{timing_of, plan_timings}
use Rattle.sp_machine.specs.Transfers.{Delays}
use Rattle.sp_overlap.proofs.Lanes.{all_below, stand_in_lanes}
use Rattle.sp_overlap.proofs.Planned.{node_planned}
use Rattle.sp_within.specs.Laws.{stages_in, IsBrisk, AreBrisk, CostsAreWithin}
use Rattle.sp_brisk.specs.RunsBrisk.{is_brisk, brisk_rule}
use Rattle.sp_brisk.specs.RunsLaws.{BriskPlansCostWithin, BriskRunsEndWithin}
use Rattle.sp_brisk.proofs.RunsSlots.{runs_length, greatest_under, slots_under}

count_same : (stages : PlainStages) → stage_count stages ≡ stages_in stages
count_same no_stage = refl
count_same (more_stage first last comb node rest) = let a : stage_count rest ≡ stages_in rest = count_same rest in omega arith

module _ (core : PlainCore) (forms : PlainForms) (meets : List Meet) (plan : PlainPlan) where
  -- of an inner body by its plan
  inner_case : (p : PlainNodePlan) (counters : List PlainCounter) (owned : List ℕ) (ops : List PlainOp) (comb : Option ℕ) → is_kind_of (inner counters owned ops comb) p ≡ true → is_brisk core ops p ≡ true
      → (cost.latency_of (timing_of p) ≤ latency_of_all core ops) × (cost.ii_of (timing_of p) ≤ max 1 (cost.latency_of (timing_of p)))
  inner_case (inner_plan times ii latency serial) counters owned ops comb e b =
      let q = and_parts (nat_le latency (latency_of_all core ops)) (nat_le ii (max 1 latency)) b in
      (leb-true _ _ q.0, leb-true _ _ q.1)
  inner_case (outer_plan slots chains) counters owned ops comb e b = absurd (false≢true e)
  inner_case other_plan counters owned ops comb e b = absurd (false≢true e)

  -- of an outer one: a `Stream` block has no slots
  outer_case : (p : PlainNodePlan) (n : ℕ) (counters : List PlainCounter) (style : Style) (owned : List ℕ) (stages : PlainStages) → is_kind_of (outer counters style owned stages) p ≡ true
      → are_runs_right core forms meets plan n (outer counters style owned stages) p ≡ true → are_lanes_right (lanes_of counters) stages ≡ true → greatest_of (cost.slots_of (timing_of p)) ≤ stages_in stages
  outer_case (outer_plan slots chains) n counters style owned stages e w lanes = go (is_stream style) e w
    where
      go : (b : Bool) → has_slots b (stage_count stages) (length slots) (length chains) ≡ true
          → (b || are_divided_right core meets (runs_of (n + counters_size counters) stages) counters style owned slots chains) ≡ true → greatest_of slots ≤ stages_in stages
      go true e w =
          let none : length slots ≡ 0 = eqb-true _ _ (and_parts (length slots == 0) (length chains == 0) e).0 in
          greatest_under slots (stages_in stages) (λ i l. absurd (omega (arith, none, l)))
      go false e w =
          let runs : List StageRun = runs_of (n + counters_size counters) stages in
          let many : length slots ≡ stage_count stages = eqb-true _ _ (and_parts (length slots == stage_count stages) (length chains == stage_count stages) e).0 in
          let same : length runs ≡ stages_in stages = runs_length (n + counters_size counters) stages in
          let right : are_slots_right runs slots chains counters style ≡ true = (and_parts (are_slots_right runs slots chains counters style) _ w).0 in
          let each : (p : ℕ) → p < length runs → is_slot_right runs slots chains p ≡ true = λ p l. (and_parts (is_slot_right runs slots chains p) _ (all_below (is_slot_right_in runs slots chains counters style) (length runs) p right l)).0 in
          let under : greatest_of slots ≤ length runs = slots_under runs slots chains (stand_in_lanes counters (n + counters_size counters) stages lanes) each (many ∙ count_same stages ∙ sym same) in
          omega (arith, under, same)
  outer_case (inner_plan times ii latency serial) n counters style owned stages e w lanes = absurd (false≢true e)
  outer_case other_plan n counters style owned stages e w lanes = absurd (false≢true e)

  -- a transfer of several lanes has one
  sparse_case : (around : Around) (kind : SparseKind) (r m : ℕ) (places : Option ℕ) (spans : List PlainSpan) (count : List PlainOp) (par : ℕ) → is_sparse_right core around kind r m places spans count par ≡ true → 1 ≤ par
  sparse_case around kind r m places spans count par = go kind
    where
      pick : is_pick_right core around r m places spans count par ≡ true → 1 ≤ par
      pick h =
          let x = and_parts ((nat_lt r (length core.ports.drams) && (length (dram core r).dims == 1)) && (is_sram_here core around r m && (length (mem core m).dims == 1))) ((are_places core around places && is_bound core around count) && ((length spans == 0) && (par == 1))) h in
          let y = and_parts (are_places core around places && is_bound core around count) ((length spans == 0) && (par == 1)) x.1 in
          let e : par ≡ 1 = eqb-true _ _ (and_parts (length spans == 0) (par == 1) y.1).1 in
          omega arith

      wide : is_wide_right core around r m places spans count par ≡ true → 1 ≤ par
      wide h =
          let x = and_parts (is_slice_right core around r spans && fits_sram core around r m spans) ((is_none core around places && (length count == 0)) && (nat_le 1 par && nat_le par 16)) h in
          let y = and_parts (is_none core around places && (length count == 0)) (nat_le 1 par && nat_le par 16) x.1 in
          leb-true 1 par (and_parts (nat_le 1 par) (nat_le par 16) y.1).0

      go : (kind : SparseKind) → is_sparse_right core around kind r m places spans count par ≡ true → 1 ≤ par
      go Gather h = pick h
      go Scatter h = pick h
      go WideLoad h = wide h
      go WideStore h = wide h

  -- three rules at once
  record Keeps (k n : ℕ) (streamed : Bool) (node : PlainNode) : Type 0 where
    pub kind : holds_of_each (kind_rule core forms meets plan) k n streamed node ≡ true
    pub slots : holds_of_each (slot_rule core forms meets plan) k n streamed node ≡ true
    pub brisk : holds_of_each (brisk_rule core plan) k n streamed node ≡ true

  record AllKeep (k n : ℕ) (streamed : Bool) (stages : PlainStages) : Type 0 where
    pub kind : holds_of_stages (kind_rule core forms meets plan) k n streamed stages ≡ true
    pub slots : holds_of_stages (slot_rule core forms meets plan) k n streamed stages ≡ true
    pub brisk : holds_of_stages (brisk_rule core plan) k n streamed stages ≡ true

  mutual
    node_brisk : (node : PlainNode) (k n : ℕ) (streamed : Bool) (around : Around) (earlier : List ℕ) → IsRight core around earlier node → Keeps k n streamed node → IsBrisk core (plan_timings plan) node k
    node_brisk (inner counters owned ops comb) k n st around earlier right w = inner_case (node_plan plan k) counters owned ops comb w.kind w.brisk
    node_brisk (outer counters style owned stages) k n st around earlier right w =
        let kind = and_parts (kind_rule core forms meets plan k n st (outer counters style owned stages)) (holds_of_stages (kind_rule core forms meets plan) (suc k) (n + counters_size counters) (is_stream style) stages) w.kind in
        let slots = and_parts (slot_rule core forms meets plan k n st (outer counters style owned stages)) (holds_of_stages (slot_rule core forms meets plan) (suc k) (n + counters_size counters) (is_stream style) stages) w.slots in (
          outer_case (node_plan plan k) n counters style owned stages kind.0 slots.0 (and_parts _ _ (and_parts _ _ right.0).0).1,
          stages_brisk stages (suc k) (n + counters_size counters) (is_stream style) (within around counters owned) (earlier ++ owned) right.1 (record { kind = kind.1; slots = slots.1; brisk = w.brisk }),
        )
    node_brisk (fsm start state test body next) k n st around earlier right w =
        node_brisk body (suc k) (n + (length start + length test)) false (with_state core around state) (earlier ++ state ∷ []) right.1 (record {
          kind = (and_parts (kind_rule core forms meets plan k n st (fsm start state test body next)) _ w.kind).1;
          slots = (and_parts (slot_rule core forms meets plan k n st (fsm start state test body next)) _ w.slots).1;
          brisk = w.brisk;
        })
    node_brisk (branch test first second) k n st around earlier right w =
        let kind = and_parts (holds_of_each (kind_rule core forms meets plan) (suc k) (n + length test) false first) _ (and_parts (kind_rule core forms meets plan k n st (branch test first second)) _ w.kind).1 in
        let slots = and_parts (holds_of_each (slot_rule core forms meets plan) (suc k) (n + length test) false first) _ (and_parts (slot_rule core forms meets plan k n st (branch test first second)) _ w.slots).1 in
        let brisk = and_parts (holds_of_each (brisk_rule core plan) (suc k) (n + length test) false first) _ w.brisk in (
          node_brisk first (suc k) (n + length test) false around earlier right.1 (record { kind = kind.0; slots = slots.0; brisk = brisk.0 }),
          node_brisk second (suc k + node_count first) ((n + length test) + number_count first) false around (earlier ++ owned_in first) right.2 (record { kind = kind.1; slots = slots.1; brisk = brisk.1 }),
        )
    node_brisk (load r m spans) k n st around earlier right w = tt
    node_brisk (store r m spans) k n st around earlier right w = tt
    node_brisk (sparse kind r m places spans count par) k n st around earlier right w = sparse_case around kind r m places spans count par (and_parts _ _ right).0

    stages_brisk : (stages : PlainStages) (k n : ℕ) (streamed : Bool) (around : Around) (earlier : List ℕ) → AreRight core around earlier stages → AllKeep k n streamed stages → AreBrisk core (plan_timings plan) stages k
    stages_brisk no_stage k n st around earlier right w = tt
    stages_brisk (more_stage first last comb node rest) k n st around earlier right w =
        let kind = and_parts (holds_of_each (kind_rule core forms meets plan) k n st node) _ w.kind in
        let slots = and_parts (holds_of_each (slot_rule core forms meets plan) k n st node) _ w.slots in
        let brisk = and_parts (holds_of_each (brisk_rule core plan) k n st node) _ w.brisk in (
          node_brisk node k n st around earlier right.0 (record { kind = kind.0; slots = slots.0; brisk = brisk.0 }),
          stages_brisk rest (k + node_count node) (n + number_count node) st around (earlier ++ owned_in node) right.1 (record { kind = kind.1; slots = slots.1; brisk = brisk.1 }),
        )

pub plans_cost_within : ((core : PlainCore) (timings : Timings) (d : ℕ) → CostsAreWithin core timings d) → (core : PlainCore) (plan : PlainPlan) (d : ℕ) → BriskPlansCostWithin core plan d
plans_cost_within law core plan d forms meets ok valid brisk =
    law core (plan_timings plan) d (node_brisk core forms meets plan core.root 0 0 false nothing [] ok.nodes (record { kind = valid.kinds; slots = valid.slots; brisk = brisk }))

pub runs_end_within : ((core : PlainCore) (timings : Timings) (d : ℕ) → CostsAreWithin core timings d) → ((core : PlainCore) (plan : PlainPlan) (delays : Delays) (d : ℕ) → EndsInCost core plan delays d)
    → (core : PlainCore) (plan : PlainPlan) (delays : Delays) (d : ℕ) → BriskRunsEndWithin core plan delays d
runs_end_within law ends core plan delays d waited forms meets ok timed valid brisk turns scope s t h went n l =
    let a = ends core plan delays d waited (node_planned core forms meets plan core.root 0 0 timed valid.kinds) turns scope s t h went in
    let b = plans_cost_within law core plan d forms meets ok valid brisk h n l in
    omega (arith, a, b)
