-- The operations of a core that keeps the rules name memories on the chip.
use Rattle.std.proofs.Common.{◌≡◌, ℕ, zero, suc, ◌+◌, ◌<◌, true, ◌&&◌, ◌||◌, List, [], ◌∷◌, ◌++◌, length, slice_index_or, Option, Some, None, inl, inr, ap, subst, ◌∙◌, arith}
use Rattle.std.specs.List.{list_all}
use Rattle.std.proofs.lemmas.Bool.{and_parts, ltb-true}
use Rattle.sp_words.specs.declared.types.Ty.{Ty}
use Rattle.sp_words.specs.declared.types.Ty.TheVariants.{Bit}
use Rattle.sp_words.specs.Types.{int_type}
use Rattle.sp_core.specs.declared.operation.OpKind.{OpKind}
use Rattle.sp_core.specs.Around.{Around, lanes_of, within, is_usable}
use Rattle.sp_core.specs.Declarations.{mem}
use Rattle.sp_core.specs.Invariant.{IsRight, AreRight, owned_in}
use Rattle.sp_core.specs.NodeRules.{are_counters_right, are_lanes_right, is_node_right, is_owned_once, owned_by, is_reg, with_state, is_span_right, is_slice_right, fits_sram, fits_line}
use Rattle.sp_core.specs.Numbering.{counters_size, number_count}
use Rattle.sp_core.specs.OperationRules.{is_access, is_in_range, names_rightly, is_operation_right, are_operations_right, are_operations_right_after, is_word_list, is_early, is_bound, is_counter_right}
use Rattle.sp_core.specs.PlainCore.{PlainOp, PlainCounter, PlainSpan, single, range, PlainNode, PlainStages, inner, outer, fsm, branch, load, store, sparse, no_stage, more_stage, PlainCore}
use Rattle.sp_core.specs.Typed.{Given, given_type, last_gives}
use Rattle.sp_overlap.specs.Whole.{IsTimed, AreTimed}
use Rattle.sp_tree_events.specs.ToldItems.{Item, operation, ListHas, CountersHave, SpansHave, NodeHas, StagesHave}

module _ (core : PlainCore) where
  -- the operations at numbers name memories on the chip
  abbrev AreOnChip : (ℕ → Item → Type 0) → Type 0
  AreOnChip Has = (x : ℕ) (op : PlainOp) → Has x (operation op) → (k : ℕ) → op.mem ≡ Some k → k < length core.mems

  named : (around : Around) (kind : OpKind) (ty : Ty) (m : Option ℕ) → names_rightly core around kind ty m ≡ true → (k : ℕ) → m ≡ Some k → k < length core.mems
  named around kind ty None h k e = absurd (cc (e))
  named around kind ty (Some m) h k e =
      let usable = (and_parts (is_access kind) (is_usable core around m) (and_parts (is_access kind && is_usable core around m) _ h).0).1 in
      let chip : m < length core.mems = ltb-true _ _ (and_parts _ _ usable).0 in
      let same : m ≡ k = cc (e) in
      subst (λ j. j < length core.mems) same chip

  at_place : (around : Around) (given : Given) (ops : List PlainOp) → are_operations_right_after core around given ops ≡ true → (place : ℕ) (op : PlainOp) → place < length ops → slice_index_or ops place op ≡ op → (k : ℕ) → op.mem ≡ Some k → k < length core.mems
  at_place around given [] h place op l e k m = absurd (omega (arith, l))
  at_place around given (o ∷ ops) h zero op l e k m =
      let all = and_parts (is_operation_right core around given o) (are_operations_right_after core around (given ++ given_type o.kind o.ty ∷ []) ops) h in
      let one = and_parts (is_in_range o.kind o.ty around && names_rightly core around o.kind o.ty o.mem) _ all.0 in
      named around o.kind o.ty o.mem (and_parts (is_in_range o.kind o.ty around) (names_rightly core around o.kind o.ty o.mem) one.0).1 k (ap (λ (z : PlainOp). z.mem) e ∙ m)
  at_place around given (o ∷ ops) h (suc place) op l e k m =
      at_place around (given ++ given_type o.kind o.ty ∷ []) ops (and_parts (is_operation_right core around given o) (are_operations_right_after core around (given ++ given_type o.kind o.ty ∷ []) ops) h).1 place op (omega (arith, l)) e k m

  list_chip : (around : Around) (ops : List PlainOp) (n : ℕ) → are_operations_right core around ops ≡ true → AreOnChip (ListHas ops n)
  list_chip around ops n h x op i k m = at_place around [] ops h i.place op i.within i.is k m

  word_chip : (around : Around) (ops : List PlainOp) (ty : Ty) (n : ℕ) → is_word_list core around ops ty ≡ true → AreOnChip (ListHas ops n)
  word_chip around ops ty n h = list_chip around ops n (and_parts (are_operations_right core around ops) (last_gives ops ty) h).0

  bound_chip : (around : Around) (ops : List PlainOp) (n : ℕ) → is_bound core around ops ≡ true → AreOnChip (ListHas ops n)
  bound_chip around ops n h = word_chip around ops int_type n (and_parts (is_word_list core around ops int_type) (list_all (is_early core around) ops) h).0

  each_counter : (around : Around) (counters : List PlainCounter) (n : ℕ) → list_all (is_counter_right core around) counters ≡ true → AreOnChip (CountersHave counters n)
  each_counter around [] n h x op i = absurd i
  each_counter around (c ∷ counters) n h x op i =
      let all = and_parts (is_counter_right core around c) (list_all (is_counter_right core around) counters) h in
      let bounds = and_parts (is_bound core around c.from) (is_bound core around c.until) (and_parts (is_bound core around c.from && is_bound core around c.until) _ all.0).0 in
      elim i [
        | inl two ↦ elim two [ inl j ↦ bound_chip around c.from n bounds.0 x op j | inr j ↦ bound_chip around c.until (n + length c.from) bounds.1 x op j ]
        | inr j ↦ each_counter around counters (n + (length c.from + length c.until)) all.1 x op j
      ]

  counters_chip : (around : Around) (counters : List PlainCounter) (n : ℕ) → are_counters_right core around counters ≡ true → AreOnChip (CountersHave counters n)
  counters_chip around counters n h = each_counter around counters n (and_parts _ (list_all (is_counter_right core around) counters) h).1

  each_span : (around : Around) (spans : List PlainSpan) (n : ℕ) → list_all (is_span_right core around) spans ≡ true → AreOnChip (SpansHave spans n)
  each_span around [] n h x op i = absurd i
  each_span around (single ops ∷ spans) n h x op i =
      let all = and_parts (is_bound core around ops) (list_all (is_span_right core around) spans) h in
      elim i [ inl j ↦ bound_chip around ops n all.0 x op j | inr j ↦ each_span around spans (n + length ops) all.1 x op j ]
  each_span around (range a b ∷ spans) n h x op i =
      let all = and_parts (is_bound core around a && is_bound core around b) (list_all (is_span_right core around) spans) h in
      let both = and_parts (is_bound core around a) (is_bound core around b) all.0 in
      elim i [
        | inl two ↦ elim two [ inl j ↦ bound_chip around a n both.0 x op j | inr j ↦ bound_chip around b (n + length a) both.1 x op j ]
        | inr j ↦ each_span around spans (n + (length a + length b)) all.1 x op j
      ]

  slice_chip : (around : Around) (r : ℕ) (spans : List PlainSpan) (n : ℕ) → is_slice_right core around r spans ≡ true → AreOnChip (SpansHave spans n)
  slice_chip around r spans n h = each_span around spans n (and_parts _ (list_all (is_span_right core around) spans) h).1

  -- what is right of a node itself
  here : (around : Around) (earlier : List ℕ) (node : PlainNode) → (is_node_right core around node && is_owned_once core earlier (owned_by core node)) ≡ true → is_node_right core around node ≡ true
  here around earlier node h = (and_parts (is_node_right core around node) (is_owned_once core earlier (owned_by core node)) h).0

  mutual
    pub node_chip : (node : PlainNode) (around : Around) (earlier : List ℕ) (n : ℕ) → IsRight core around earlier node → IsTimed node → AreOnChip (NodeHas node n)
    node_chip (inner counters owned ops comb) around earlier n right timed x op i =
        let both = and_parts (are_counters_right core around counters) (are_operations_right core (within around counters owned) ops) (here around earlier (inner counters owned ops comb) right) in
        elim i [ inl j ↦ counters_chip around counters n both.0 x op j | inr j ↦ list_chip (within around counters owned) ops (n + counters_size counters) both.1 x op j ]
    node_chip (outer counters style owned stages) around earlier n right timed x op i =
        let both = and_parts (are_counters_right core around counters) (are_lanes_right (lanes_of counters) stages) (here around earlier (outer counters style owned stages) right.0) in
        elim i [ inl j ↦ counters_chip around counters n both.0 x op j | inr j ↦ stages_chip stages (within around counters owned) (earlier ++ owned) (n + counters_size counters) right.1 timed.1 x op j ]
    node_chip (fsm start state test body next) around earlier n right timed x op i =
        let inside = with_state core around state in
        let both = and_parts (is_reg (mem core state).kind && is_word_list core around start (mem core state).ty) (is_word_list core inside test Bit && is_word_list core inside next (mem core state).ty) (here around earlier (fsm start state test body next) right.0) in
        let first = and_parts (is_reg (mem core state).kind) (is_word_list core around start (mem core state).ty) both.0 in
        let rest = and_parts (is_word_list core inside test Bit) (is_word_list core inside next (mem core state).ty) both.1 in
        elim i [
          | inl two ↦ elim two [ inl j ↦ word_chip around start (mem core state).ty n first.1 x op j | inr j ↦ word_chip inside test Bit (n + length start) rest.0 x op j ]
          | inr two ↦ elim two [
            | inl j ↦ node_chip body inside (earlier ++ state ∷ []) (n + (length start + length test)) right.1 timed x op j
            | inr j ↦ word_chip inside next (mem core state).ty (n + (length start + (length test + number_count body))) rest.1 x op j
          ]
        ]
    node_chip (branch test first second) around earlier n right timed x op i =
        elim i [
          | inl j ↦ word_chip around test Bit n (here around earlier (branch test first second) right.0) x op j
          | inr two ↦ elim two [ inl j ↦ node_chip first around earlier (n + length test) right.1 timed.0 x op j | inr j ↦ node_chip second around (earlier ++ owned_in first) (n + (length test + number_count first)) right.2 timed.1 x op j ]
        ]
    node_chip (load r m spans) around earlier n right timed x op i =
        let both = and_parts (is_slice_right core around r spans) (fits_sram core around r m spans || fits_line core around r m spans) (here around earlier (load r m spans) right) in
        elim i [ inl j ↦ slice_chip around r spans n both.0 x op j | inr j ↦ absurd j ]
    node_chip (store r m spans) around earlier n right timed x op i =
        let both = and_parts (is_slice_right core around r spans) (fits_sram core around r m spans) (here around earlier (store r m spans) right) in
        elim i [ inl j ↦ slice_chip around r spans n both.0 x op j | inr j ↦ absurd j ]
    node_chip (sparse kind r m places spans count par) around earlier n right timed x op i = absurd timed

    stages_chip : (stages : PlainStages) (around : Around) (earlier : List ℕ) (n : ℕ) → AreRight core around earlier stages → AreTimed stages → AreOnChip (StagesHave stages n)
    stages_chip no_stage around earlier n right timed x op i = absurd i
    stages_chip (more_stage first last comb node rest) around earlier n right timed x op i =
        elim i [ inl j ↦ node_chip node around earlier n right.0 timed.0 x op j | inr j ↦ stages_chip rest around (earlier ++ owned_in node) (n + number_count node) right.1 timed.1 x op j ]
