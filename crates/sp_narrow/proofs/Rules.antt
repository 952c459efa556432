-- A narrow core keeps the rules of cores.
use mathlib.Core.Path.{fun_ext}
use Rattle.std.proofs.Common.{◌≡◌, ℕ, ◌+◌, ◌<◌, ◌≤◌, ◌^◌, Bool, true, false, ◌&&◌, ◌||◌, List, [], ◌∷◌, ◌++◌, length, Option, Some, None, refl, sym, ◌∙◌, ap, subst, arith, nat_le, nat_lt, ◌==◌}
use Rattle.std.proofs.lemmas.Bool.{and_parts, and_from, or_left, leb-true, ltb-true, lt-ltb}
use Rattle.std.specs.Prelude.{not}
use Rattle.std.specs.List.{list_all}
use Rattle.sp_words.specs.declared.types.Ty.{Ty}
use Rattle.sp_words.specs.declared.types.Ty.TheVariants.{Bit}
use Rattle.sp_words.specs.Types.{int_type}
use Rattle.sp_core.specs.declared.node.SparseKind.TheVariants.{Gather, Scatter, WideLoad, WideStore}
use Rattle.sp_core.specs.Around.{Around, lanes_of, within, nothing, is_port_kind}
use Rattle.sp_core.specs.Declarations.{mem, dram, is_among}
use Rattle.sp_core.specs.Elements.{numbers_below}
use Rattle.sp_core.specs.Invariant.{IsCore, IsRight, AreRight, is_right_here, owned_in, owned_in_stages, is_small}
use Rattle.sp_core.specs.NodeRules.{single_lanes, after_singles, are_stages, is_of_all_lanes, are_lanes_right, count_zeros, are_lane_by_lane, is_no_lane, are_counters_right, is_span_right, is_slice_right, fits_sram, fits_line, is_wide_right, is_none, with_state, is_owned_once, owned_by, is_node_right, is_reg, is_pick_right, are_places, is_sram_here}
use Rattle.sp_core.specs.Numbering.{node_count, node_count_in, operation_count, operation_count_in, core_size}
use Rattle.sp_core.specs.OperationRules.{is_in_range, names_rightly, indices_of, is_mask, is_operation_right, are_operations_right_after, is_word_list, is_early_at, is_early, is_bound, is_counter_right}
use Rattle.sp_core.specs.PlainCore.{PlainOp, PlainCounter, PlainSpan, single, range, PlainNode, PlainStages, inner, outer, fsm, branch, load, store, sparse, no_stage, more_stage, PlainCore}
use Rattle.sp_core.specs.Typed.{Given, given_type, taken_types, give_all, last_gives}
use Rattle.sp_narrow.specs.Narrow.{narrow_node, narrow_stages, narrow}
use Rattle.sp_narrow.proofs.Rounds.{HasLanes, HaveLanes}

-- what stands below owns the same
mutual
  pub same_owned : (node : PlainNode) → owned_in (narrow_node node) ≡ owned_in node
  same_owned (inner counters owned ops comb) = refl
  same_owned (outer counters style owned stages) = ap (λ l. owned ++ l) (same_owned_in stages)
  same_owned (fsm start state test body next) = ap (λ l. state ∷ l) (same_owned body)
  same_owned (branch test first second) = ap (λ l. l ++ owned_in (narrow_node second)) (same_owned first) ∙ ap (λ l. owned_in first ++ l) (same_owned second)
  same_owned (load r m spans) = refl
  same_owned (store r m spans) = refl
  same_owned (sparse Gather r m places spans count par) = refl
  same_owned (sparse Scatter r m places spans count par) = refl
  same_owned (sparse WideLoad r m places spans count par) = refl
  same_owned (sparse WideStore r m places spans count par) = refl

  same_owned_in : (stages : PlainStages) → owned_in_stages (narrow_stages stages) ≡ owned_in_stages stages
  same_owned_in no_stage = refl
  same_owned_in (more_stage first last comb node rest) = ap (λ l. l ++ owned_in_stages (narrow_stages rest)) (same_owned node) ∙ ap (λ l. owned_in node ++ l) (same_owned_in rest)

-- stages stand in the same lanes
same_singles : (stages : PlainStages) → single_lanes (narrow_stages stages) ≡ single_lanes stages
same_singles no_stage = refl
same_singles (more_stage first last comb node rest) = ap (λ (others : List ℕ). elim (first == last) as (λ _. List ℕ) [ true ↦ first ∷ others | false ↦ [] ]) (same_singles rest)

same_after : (stages : PlainStages) → after_singles (narrow_stages stages) ≡ narrow_stages (after_singles stages)
same_after no_stage = refl
same_after (more_stage first last comb node rest) = side (same_after rest) (first == last)
  where
    side : after_singles (narrow_stages rest) ≡ narrow_stages (after_singles rest) → (b : Bool) → (elim b as (λ _. PlainStages) [ true ↦ after_singles (narrow_stages rest) | false ↦ more_stage first last comb (narrow_node node) (narrow_stages rest) ])
        ≡ narrow_stages (elim b as (λ _. PlainStages) [ true ↦ after_singles rest | false ↦ more_stage first last comb node rest ])
    side others true = others
    side others false = refl

same_of_all : (lanes : ℕ) (stages : PlainStages) → is_of_all_lanes lanes (narrow_stages stages) ≡ is_of_all_lanes lanes stages
same_of_all lanes no_stage = refl
same_of_all lanes (more_stage first last comb node no_stage) = refl
same_of_all lanes (more_stage first last comb node (more_stage f l c n rest)) = refl

same_are_stages : (stages : PlainStages) → are_stages (narrow_stages stages) ≡ are_stages stages
same_are_stages no_stage = refl
same_are_stages (more_stage first last comb node rest) = refl

same_lanes : (lanes : ℕ) (stages : PlainStages) → are_lanes_right lanes (narrow_stages stages) ≡ are_lanes_right lanes stages
same_lanes lanes stages =
    ap (λ b. by b (single_lanes (narrow_stages stages)) (is_of_all_lanes lanes (after_singles (narrow_stages stages)))) (same_are_stages stages)
    ∙ ap (λ l. by (are_stages stages) l (is_of_all_lanes lanes (after_singles (narrow_stages stages)))) (same_singles stages)
    ∙ ap (by (are_stages stages) (single_lanes stages)) (ap (is_of_all_lanes lanes) (same_after stages) ∙ same_of_all lanes (after_singles stages))
  where
    by : Bool → List ℕ → Bool → Bool
    by some singles all = (some && list_all (λ l. nat_lt l lanes) singles) && ((is_no_lane singles || are_lane_by_lane (count_zeros singles) 0 singles) && all)

module _ (core : PlainCore) where
  module _ (around : Around) where
    operation_same : (earlier : Given) (op : PlainOp) → is_operation_right (narrow core) around earlier op ≡ is_operation_right core around earlier op
    operation_same earlier op = by op.mem op.mask
      where
        by : (m mask : Option ℕ) → ((is_in_range op.kind op.ty around && names_rightly (narrow core) around op.kind op.ty m) && (give_all earlier op.args (taken_types op.kind op.ty (indices_of (narrow core) around m)) && is_mask (narrow core) around earlier mask))
            ≡ ((is_in_range op.kind op.ty around && names_rightly core around op.kind op.ty m) && (give_all earlier op.args (taken_types op.kind op.ty (indices_of core around m)) && is_mask core around earlier mask))
        by None None = refl
        by None (Some k) = refl
        by (Some m) None = refl
        by (Some m) (Some k) = refl

    operations_same : (earlier : Given) (ops : List PlainOp) → are_operations_right_after (narrow core) around earlier ops ≡ are_operations_right_after core around earlier ops
    operations_same earlier [] = refl
    operations_same earlier (op ∷ ops) =
        ap (λ b. b && are_operations_right_after (narrow core) around (earlier ++ given_type op.kind op.ty ∷ []) ops) (operation_same earlier op)
        ∙ ap (λ b. is_operation_right core around earlier op && b) (operations_same (earlier ++ given_type op.kind op.ty ∷ []) ops)

    list_same : (ops : List PlainOp) (ty : Ty) → is_word_list (narrow core) around ops ty ≡ is_word_list core around ops ty
    list_same ops ty = ap (λ b. b && last_gives ops ty) (operations_same [] ops)

    early_same : is_early (narrow core) around ≡ is_early core around
    early_same = fun_ext (λ op. by op op.mem)
      where
        by : (op : PlainOp) (m : Option ℕ) → is_early_at (narrow core) around op.kind m ≡ is_early_at core around op.kind m
        by op None = refl
        by op (Some m) = refl

    bound_same : (ops : List PlainOp) → is_bound (narrow core) around ops ≡ is_bound core around ops
    bound_same ops =
        ap (λ b. b && list_all (is_early (narrow core) around) ops) (list_same ops int_type)
        ∙ ap (λ (early : PlainOp → Bool). is_word_list core around ops int_type && list_all early ops) early_same

    counter_same : (c : PlainCounter) → is_counter_right (narrow core) around c ≡ is_counter_right core around c
    counter_same c =
        ap (λ b. (b && is_bound (narrow core) around c.until) && ((nat_le 1 c.by && nat_lt c.by (2 ^ 31)) && (nat_le 1 c.par && nat_le c.par 16))) (bound_same c.from)
        ∙ ap (λ b. (is_bound core around c.from && b) && ((nat_le 1 c.by && nat_lt c.by (2 ^ 31)) && (nat_le 1 c.par && nat_le c.par 16))) (bound_same c.until)

    counters_same : (counters : List PlainCounter) → are_counters_right (narrow core) around counters ≡ are_counters_right core around counters
    counters_same counters = ap (λ (each : PlainCounter → Bool). (nat_le (length counters) 4 && nat_le (length counters + length around.counters) 1000) && list_all each counters) (fun_ext counter_same)

    span_same : (span : PlainSpan) → is_span_right (narrow core) around span ≡ is_span_right core around span
    span_same (single ops) = bound_same ops
    span_same (range a b) = ap (λ c. c && is_bound (narrow core) around b) (bound_same a) ∙ ap (λ c. is_bound core around a && c) (bound_same b)

    slice_same : (r : ℕ) (spans : List PlainSpan) → is_slice_right (narrow core) around r spans ≡ is_slice_right core around r spans
    slice_same r spans = ap (λ (each : PlainSpan → Bool). (nat_lt r (length core.ports.drams) && (length spans == length (dram core r).dims)) && list_all each spans) (fun_ext span_same)

    places_same : (places : Option ℕ) → are_places (narrow core) around places ≡ are_places core around places
    places_same None = refl
    places_same (Some p) = refl

    pick_same : (r m : ℕ) (places : Option ℕ) (spans : List PlainSpan) (count : List PlainOp) (par : ℕ) → is_pick_right (narrow core) around r m places spans count par ≡ is_pick_right core around r m places spans count par
    pick_same r m places spans count par =
        ap (λ b. here && ((b && is_bound (narrow core) around count) && ((length spans == 0) && (par == 1)))) (places_same places)
        ∙ ap (λ b. here && ((are_places core around places && b) && ((length spans == 0) && (par == 1)))) (bound_same count)
      where
        here : Bool
        here = (nat_lt r (length core.ports.drams) && (length (dram core r).dims == 1)) && (is_sram_here core around r m && (length (mem core m).dims == 1))

  once_same : (earlier ms : List ℕ) → is_owned_once (narrow core) earlier ms ≡ is_owned_once core earlier ms
  once_same earlier [] = refl
  once_same earlier (m ∷ ms) = ap (λ b. ((nat_lt m (length core.mems) && not (is_port_kind (mem core m).kind)) && not (is_among m earlier)) && b) (once_same (earlier ++ m ∷ []) ms)

  -- a node keeps its rules
  module _ (around : Around) where
    wide_load : (r m : ℕ) (places : Option ℕ) (spans : List PlainSpan) (count : List PlainOp) (par : ℕ) → is_wide_right core around r m places spans count par ≡ true
        → (is_slice_right (narrow core) around r spans && (fits_sram core around r m spans || fits_line core around r m spans)) ≡ true
    wide_load r m places spans count par e =
        let slice = and_parts (is_slice_right core around r spans) (fits_sram core around r m spans) (and_parts (is_slice_right core around r spans && fits_sram core around r m spans) _ e).0 in
        and_from _ _ (slice_same around r spans ∙ slice.0) (or_left (fits_sram core around r m spans) (fits_line core around r m spans) slice.1)

    wide_store : (r m : ℕ) (places : Option ℕ) (spans : List PlainSpan) (count : List PlainOp) (par : ℕ) → is_wide_right core around r m places spans count par ≡ true
        → (is_slice_right (narrow core) around r spans && fits_sram core around r m spans) ≡ true
    wide_store r m places spans count par e =
        let slice = and_parts (is_slice_right core around r spans) (fits_sram core around r m spans) (and_parts (is_slice_right core around r spans && fits_sram core around r m spans) _ e).0 in
        and_from _ _ (slice_same around r spans ∙ slice.0) slice.1

    has_lane : (r m : ℕ) (places : Option ℕ) (spans : List PlainSpan) (count : List PlainOp) (par : ℕ) → is_wide_right core around r m places spans count par ≡ true → 0 < par
    has_lane r m places spans count par e =
        let rest = (and_parts (is_slice_right core around r spans && fits_sram core around r m spans) ((is_none core around places && (length count == 0)) && (nat_le 1 par && nat_le par 16)) e).1 in
        let lanes = (and_parts (is_none core around places && (length count == 0)) (nat_le 1 par && nat_le par 16) rest).1 in
        let one : 1 ≤ par = leb-true 1 par (and_parts (nat_le 1 par) (nat_le par 16) lanes).0 in
        omega (arith, one)

    rules_kept : (node : PlainNode) → is_node_right core around node ≡ true → is_node_right (narrow core) around (narrow_node node) ≡ true
    rules_kept (inner counters owned ops comb) e =
        ap (λ b. b && are_operations_right_after (narrow core) (within around counters owned) [] ops) (counters_same around counters)
        ∙ ap (λ b. are_counters_right core around counters && b) (operations_same (within around counters owned) [] ops) ∙ e
    rules_kept (outer counters style owned stages) e =
        ap (λ b. b && are_lanes_right (lanes_of counters) (narrow_stages stages)) (counters_same around counters)
        ∙ ap (λ b. are_counters_right core around counters && b) (same_lanes (lanes_of counters) stages) ∙ e
    rules_kept (fsm start state test body next) e =
        ap (λ b. (is_reg (mem core state).kind && b) && (is_word_list (narrow core) (with_state core around state) test Bit && is_word_list (narrow core) (with_state core around state) next (mem core state).ty)) (list_same around start (mem core state).ty)
        ∙ ap (λ b. (is_reg (mem core state).kind && is_word_list core around start (mem core state).ty) && (b && is_word_list (narrow core) (with_state core around state) next (mem core state).ty)) (list_same (with_state core around state) test Bit)
        ∙ ap (λ b. (is_reg (mem core state).kind && is_word_list core around start (mem core state).ty) && (is_word_list core (with_state core around state) test Bit && b)) (list_same (with_state core around state) next (mem core state).ty) ∙ e
    rules_kept (branch test first second) e = list_same around test Bit ∙ e
    rules_kept (load r m spans) e = ap (λ b. b && (fits_sram core around r m spans || fits_line core around r m spans)) (slice_same around r spans) ∙ e
    rules_kept (store r m spans) e = ap (λ b. b && fits_sram core around r m spans) (slice_same around r spans) ∙ e
    rules_kept (sparse Gather r m places spans count par) e = pick_same around r m places spans count par ∙ e
    rules_kept (sparse Scatter r m places spans count par) e = pick_same around r m places spans count par ∙ e
    rules_kept (sparse WideLoad r m places spans count par) e = wide_load r m places spans count par e
    rules_kept (sparse WideStore r m places spans count par) e = wide_store r m places spans count par e

  own_same : (node : PlainNode) → owned_by (narrow core) (narrow_node node) ≡ owned_by core node
  own_same (inner counters owned ops comb) = refl
  own_same (outer counters style owned stages) = refl
  own_same (fsm start state test body next) = refl
  own_same (branch test first second) = refl
  own_same (load r m spans) = refl
  own_same (store r m spans) = refl
  own_same (sparse Gather r m places spans count par) = refl
  own_same (sparse Scatter r m places spans count par) = refl
  own_same (sparse WideLoad r m places spans count par) = refl
  own_same (sparse WideStore r m places spans count par) = refl

  here_kept : (around : Around) (earlier : List ℕ) (node : PlainNode) → is_right_here core around earlier node ≡ true → is_right_here (narrow core) around earlier (narrow_node node) ≡ true
  here_kept around earlier node e =
      let both = and_parts (is_node_right core around node) (is_owned_once core earlier (owned_by core node)) e in
      and_from _ _ (rules_kept around node both.0) (ap (is_owned_once (narrow core) earlier) (own_same node) ∙ once_same earlier (owned_by core node) ∙ both.1)

  mutual
    right_kept : (around : Around) (earlier : List ℕ) (node : PlainNode) → IsRight core around earlier node → IsRight (narrow core) around earlier (narrow_node node)
    right_kept around earlier (inner counters owned ops comb) h = here_kept around earlier (inner counters owned ops comb) h
    right_kept around earlier (outer counters style owned stages) h = (here_kept around earlier (outer counters style owned stages) h.0, stages_kept (within around counters owned) (earlier ++ owned) stages h.1)
    right_kept around earlier (fsm start state test body next) h = (here_kept around earlier (fsm start state test body next) h.0, right_kept (with_state core around state) (earlier ++ state ∷ []) body h.1)
    right_kept around earlier (branch test first second) h = (
      here_kept around earlier (branch test first second) h.0,
      right_kept around earlier first h.1,
      subst (λ l. IsRight (narrow core) around (earlier ++ l) (narrow_node second)) (sym (same_owned first)) (right_kept around (earlier ++ owned_in first) second h.2),
    )
    right_kept around earlier (load r m spans) h = here_kept around earlier (load r m spans) h
    right_kept around earlier (store r m spans) h = here_kept around earlier (store r m spans) h
    right_kept around earlier (sparse Gather r m places spans count par) h = here_kept around earlier (sparse Gather r m places spans count par) h
    right_kept around earlier (sparse Scatter r m places spans count par) h = here_kept around earlier (sparse Scatter r m places spans count par) h
    right_kept around earlier (sparse WideLoad r m places spans count par) h = here_kept around earlier (sparse WideLoad r m places spans count par) h
    right_kept around earlier (sparse WideStore r m places spans count par) h = here_kept around earlier (sparse WideStore r m places spans count par) h

    stages_kept : (around : Around) (earlier : List ℕ) (stages : PlainStages) → AreRight core around earlier stages → AreRight (narrow core) around earlier (narrow_stages stages)
    stages_kept around earlier no_stage h = tt
    stages_kept around earlier (more_stage first last comb node rest) h =
        (right_kept around earlier node h.0, subst (λ l. AreRight (narrow core) around (earlier ++ l) (narrow_stages rest)) (sym (same_owned node)) (stages_kept around (earlier ++ owned_in node) rest h.1))

  mutual
    pub has_lanes : (around : Around) (earlier : List ℕ) (node : PlainNode) → IsRight core around earlier node → HasLanes node
    has_lanes around earlier (inner counters owned ops comb) h = tt
    has_lanes around earlier (outer counters style owned stages) h = have_lanes (within around counters owned) (earlier ++ owned) stages h.1
    has_lanes around earlier (fsm start state test body next) h = has_lanes (with_state core around state) (earlier ++ state ∷ []) body h.1
    has_lanes around earlier (branch test first second) h = (has_lanes around earlier first h.1, has_lanes around (earlier ++ owned_in first) second h.2)
    has_lanes around earlier (load r m spans) h = tt
    has_lanes around earlier (store r m spans) h = tt
    has_lanes around earlier (sparse Gather r m places spans count par) h = tt
    has_lanes around earlier (sparse Scatter r m places spans count par) h = tt
    has_lanes around earlier (sparse WideLoad r m places spans count par) h = has_lane around r m places spans count par (and_parts (is_wide_right core around r m places spans count par) true h).0
    has_lanes around earlier (sparse WideStore r m places spans count par) h = has_lane around r m places spans count par (and_parts (is_wide_right core around r m places spans count par) true h).0

    have_lanes : (around : Around) (earlier : List ℕ) (stages : PlainStages) → AreRight core around earlier stages → HaveLanes stages
    have_lanes around earlier no_stage h = tt
    have_lanes around earlier (more_stage first last comb node rest) h = (has_lanes around earlier node h.0, have_lanes around (earlier ++ owned_in node) rest h.1)

-- it is no larger
mutual
  same_nodes : (node : PlainNode) → node_count (narrow_node node) ≡ node_count node
  same_nodes (inner counters owned ops comb) = refl
  same_nodes (outer counters style owned stages) = ap (λ n. 1 + n) (same_nodes_in stages)
  same_nodes (fsm start state test body next) = ap (λ n. 1 + n) (same_nodes body)
  same_nodes (branch test first second) = let a = same_nodes first in let b = same_nodes second in omega (arith, a, b)
  same_nodes (load r m spans) = refl
  same_nodes (store r m spans) = refl
  same_nodes (sparse Gather r m places spans count par) = refl
  same_nodes (sparse Scatter r m places spans count par) = refl
  same_nodes (sparse WideLoad r m places spans count par) = refl
  same_nodes (sparse WideStore r m places spans count par) = refl

  same_nodes_in : (stages : PlainStages) → node_count_in (narrow_stages stages) ≡ node_count_in stages
  same_nodes_in no_stage = refl
  same_nodes_in (more_stage first last comb node rest) = let a = same_nodes node in let b = same_nodes_in rest in omega (arith, a, b)

mutual
  fewer_operations : (node : PlainNode) → operation_count (narrow_node node) ≤ operation_count node
  fewer_operations (inner counters owned ops comb) = omega arith
  fewer_operations (outer counters style owned stages) = let a = fewer_operations_in stages in omega (arith, a)
  fewer_operations (fsm start state test body next) = let a = fewer_operations body in omega (arith, a)
  fewer_operations (branch test first second) = let a = fewer_operations first in let b = fewer_operations second in omega (arith, a, b)
  fewer_operations (load r m spans) = omega arith
  fewer_operations (store r m spans) = omega arith
  fewer_operations (sparse Gather r m places spans count par) = omega arith
  fewer_operations (sparse Scatter r m places spans count par) = omega arith
  fewer_operations (sparse WideLoad r m places spans count par) = omega arith
  fewer_operations (sparse WideStore r m places spans count par) = omega arith

  fewer_operations_in : (stages : PlainStages) → operation_count_in (narrow_stages stages) ≤ operation_count_in stages
  fewer_operations_in no_stage = omega arith
  fewer_operations_in (more_stage first last comb node rest) = let a = fewer_operations node in let b = fewer_operations_in rest in omega (arith, a, b)

pub stays_core : (core : PlainCore) → IsCore core → IsCore (narrow core)
stays_core core h = record {
  memories = h.memories;
  ports = h.ports;
  owners = ap (λ l. list_all (λ m. is_port_kind (mem core m).kind || is_among m l) (numbers_below (length core.mems))) (same_owned core.root) ∙ h.owners;
  size = small;
  nodes = right_kept core nothing [] core.root h.nodes;
}
  where
    small : is_small (narrow core) ≡ true
    small =
        let a = same_nodes core.root in
        let b = fewer_operations core.root in
        let c : core_size core < 2 ^ 29 = ltb-true (core_size core) (2 ^ 29) h.size in
        lt-ltb (core_size (narrow core)) (2 ^ 29) (omega (arith, a, b, c))
