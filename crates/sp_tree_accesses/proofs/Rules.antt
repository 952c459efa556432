-- The lists of a core's tree keep the core's rules.
use Rattle.std.proofs.Common.{◌≡◌, ℕ, ◌+◌, Bool, true, ◌&&◌, List, [], ◌∷◌, ◌++◌, length, Option, refl, arith}
use Rattle.std.proofs.lemmas.Bool.{and_parts, eqb-true, false≢true}
use Rattle.std.specs.Prelude.{◌==◌}
use Rattle.std.specs.List.{list_all}
use Rattle.sp_words.specs.declared.types.Ty.{Ty}
use Rattle.sp_words.specs.Types.{int_type}
use Rattle.sp_core.specs.declared.node.SparseKind.{SparseKind}
use Rattle.sp_core.specs.declared.node.SparseKind.TheVariants.{Gather, Scatter, WideLoad, WideStore}
use Rattle.sp_core.specs.Around.{Around, within}
use Rattle.sp_core.specs.Invariant.{owned_in, is_right_here, IsRight, AreRight}
use Rattle.sp_core.specs.NodeRules.{is_span_right, is_slice_right, fits_sram, are_counters_right, are_places, is_sparse_right, with_state, owned_by, is_owned_once, is_node_right}
use Rattle.sp_core.specs.Numbering.{counters_size, spans_size, number_count}
use Rattle.sp_core.specs.OperationRules.{are_operations_right, is_word_list, is_early, is_bound, is_counter_right}
use Rattle.sp_core.specs.PlainCore.{PlainOp, PlainCounter, PlainSpan, single, range, PlainNode, PlainStages, inner, outer, fsm, branch, load, store, sparse, no_stage, more_stage, PlainCore}
use Rattle.sp_core.specs.Typed.{last_gives}
use Rattle.sp_time.specs.Lists.{Each}
use Rattle.sp_tree_handed.specs.Lists.{NumberedOps, numbered, standing, bounds_in, spans_in, lists_in, lists_in_stages}

pub record IsListRight (core : PlainCore) (list : NumberedOps) : Type 0 where
  pub around : Around
  pub right : are_operations_right core around list.ops ≡ true
  pub early : list.at_once ≡ true → list_all (is_early core around) list.ops ≡ true

each_append : {A : Type 0} (Q : A → Type 0) (xs ys : List A) → Each Q xs → Each Q ys → Each Q (xs ++ ys)
each_append Q [] ys h k = k
each_append Q (x ∷ xs) ys h k = (h.0, each_append Q xs ys h.1 k)

module _ (core : PlainCore) where
  bound_right : (around : Around) (n : ℕ) (ops : List PlainOp) → is_bound core around ops ≡ true → IsListRight core (standing n ops)
  bound_right around n ops h =
      let both = and_parts (is_word_list core around ops int_type) (list_all (is_early core around) ops) h in
      record { around = around; right = (and_parts (are_operations_right core around ops) (last_gives ops int_type) both.0).0; early = λ e. both.1 }

  turns_right : (around : Around) (n : ℕ) (ops : List PlainOp) → are_operations_right core around ops ≡ true → IsListRight core (numbered n ops)
  turns_right around n ops h = record { around = around; right = h; early = λ e. absurd (false≢true e) }

  word_right : (around : Around) (n : ℕ) (ops : List PlainOp) (ty : Ty) → is_word_list core around ops ty ≡ true → IsListRight core (numbered n ops)
  word_right around n ops ty h = turns_right around n ops (and_parts (are_operations_right core around ops) (last_gives ops ty) h).0

  bounds_right : (around : Around) (counters : List PlainCounter) (n : ℕ) → list_all (is_counter_right core around) counters ≡ true → Each (IsListRight core) (bounds_in counters n)
  bounds_right around [] n h = tt
  bounds_right around (c ∷ counters) n h =
      let both = and_parts (is_counter_right core around c) (list_all (is_counter_right core around) counters) h in
      let own = and_parts (is_bound core around c.from && is_bound core around c.until) _ both.0 in
      let ends = and_parts (is_bound core around c.from) (is_bound core around c.until) own.0 in
      (bound_right around n c.from ends.0, (bound_right around (n + length c.from) c.until ends.1, bounds_right around counters (n + (length c.from + length c.until)) both.1))

  spans_right : (around : Around) (spans : List PlainSpan) (n : ℕ) → list_all (is_span_right core around) spans ≡ true → Each (IsListRight core) (spans_in spans n)
  spans_right around [] n h = tt
  spans_right around (single ops ∷ spans) n h =
      let both = and_parts (is_span_right core around (single ops)) (list_all (is_span_right core around) spans) h in
      (bound_right around n ops both.0, spans_right around spans (n + length ops) both.1)
  spans_right around (range a b ∷ spans) n h =
      let both = and_parts (is_span_right core around (range a b)) (list_all (is_span_right core around) spans) h in
      let ends = and_parts (is_bound core around a) (is_bound core around b) both.0 in
      (bound_right around n a ends.0, (bound_right around (n + length a) b ends.1, spans_right around spans (n + (length a + length b)) both.1))

  counters_right : (around : Around) (counters : List PlainCounter) (n : ℕ) → are_counters_right core around counters ≡ true → Each (IsListRight core) (bounds_in counters n)
  counters_right around counters n h = bounds_right around counters n (and_parts _ (list_all (is_counter_right core around) counters) h).1

  slice_right : (around : Around) (r : ℕ) (spans : List PlainSpan) (n : ℕ) → is_slice_right core around r spans ≡ true → Each (IsListRight core) (spans_in spans n)
  slice_right around r spans n h = spans_right around spans n (and_parts _ (list_all (is_span_right core around) spans) h).1

  no_spans : (spans : List PlainSpan) (n : ℕ) → (length spans == 0) ≡ true → Each (IsListRight core) (spans_in spans n)
  no_spans [] n h = tt
  no_spans (span ∷ spans) n h = (let e = eqb-true (length (span ∷ spans)) 0 h in absurd (omega (arith, e)))

  no_count : (around : Around) (n : ℕ) (count : List PlainOp) → (length count == 0) ≡ true → IsListRight core (numbered n count)
  no_count around n [] h = turns_right around n [] refl
  no_count around n (op ∷ count) h = (let e = eqb-true (length (op ∷ count)) 0 h in absurd (omega (arith, e)))

  pick_right : (around : Around) (places : Option ℕ) (spans : List PlainSpan) (count : List PlainOp) (n m : ℕ) (a b : Bool) → (a && ((are_places core around places && is_bound core around count) && ((length spans == 0) && b))) ≡ true
      → Each (IsListRight core) (spans_in spans n ++ numbered m count ∷ [])
  pick_right around places spans count n m a b h =
      let x = (and_parts a _ h).1 in
      let y = and_parts (are_places core around places && is_bound core around count) _ x in
      let z = (and_parts (are_places core around places) (is_bound core around count) y.0).1 in
      each_append (IsListRight core) (spans_in spans n) (numbered m count ∷ []) (no_spans spans n (and_parts (length spans == 0) b y.1).0)
      (word_right around m count int_type (and_parts (is_word_list core around count int_type) (list_all (is_early core around) count) z).0, tt)

  wide_right : (around : Around) (r : ℕ) (spans : List PlainSpan) (count : List PlainOp) (n m : ℕ) (a b c : Bool) → ((is_slice_right core around r spans && a) && ((b && (length count == 0)) && c)) ≡ true → Each (IsListRight core) (spans_in spans n ++ numbered m count ∷ [])
  wide_right around r spans count n m a b c h =
      let x = and_parts (is_slice_right core around r spans && a) _ h in
      let y = (and_parts (b && (length count == 0)) c x.1).0 in
      each_append (IsListRight core) (spans_in spans n) (numbered m count ∷ []) (slice_right around r spans n (and_parts (is_slice_right core around r spans) a x.0).0)
      (no_count around m count (and_parts b (length count == 0) y).1, tt)

  sparse_right : (around : Around) (kind : SparseKind) (r m : ℕ) (places : Option ℕ) (spans : List PlainSpan) (count : List PlainOp) (par n x : ℕ) → is_sparse_right core around kind r m places spans count par ≡ true
      → Each (IsListRight core) (spans_in spans n ++ numbered x count ∷ [])
  sparse_right around Gather r m places spans count par n x h = pick_right around places spans count n x _ (par == 1) h
  sparse_right around Scatter r m places spans count par n x h = pick_right around places spans count n x _ (par == 1) h
  sparse_right around WideLoad r m places spans count par n x h = wide_right around r spans count n x (fits_sram core around r m spans) _ _ h
  sparse_right around WideStore r m places spans count par n x h = wide_right around r spans count n x (fits_sram core around r m spans) _ _ h

  here : (around : Around) (earlier : List ℕ) (node : PlainNode) → is_right_here core around earlier node ≡ true → is_node_right core around node ≡ true
  here around earlier node h = (and_parts (is_node_right core around node) (is_owned_once core earlier (owned_by core node)) h).0

  mutual
    pub lists_right : (node : PlainNode) (around : Around) (earlier : List ℕ) (n : ℕ) → IsRight core around earlier node → Each (IsListRight core) (lists_in node n)
    lists_right (inner counters owned ops comb) around earlier n h =
        let both = and_parts (are_counters_right core around counters) (are_operations_right core (within around counters owned) ops) (here around earlier (inner counters owned ops comb) h) in
        each_append (IsListRight core) (bounds_in counters n) (numbered (n + counters_size counters) ops ∷ []) (counters_right around counters n both.0) (turns_right (within around counters owned) (n + counters_size counters) ops both.1, tt)
    lists_right (outer counters style owned stages) around earlier n h =
        let both = and_parts (are_counters_right core around counters) _ (here around earlier (outer counters style owned stages) h.0) in
        each_append (IsListRight core) (bounds_in counters n) (lists_in_stages stages (n + counters_size counters)) (counters_right around counters n both.0)
        (stages_right stages (within around counters owned) (earlier ++ owned) (n + counters_size counters) h.1)
    lists_right (fsm start state test body next) around earlier n h =
        let both = and_parts _ _ (here around earlier (fsm start state test body next) h.0) in
        let begins = (and_parts _ (is_word_list core around start _) both.0).1 in
        let goes = and_parts (is_word_list core (with_state core around state) test _) (is_word_list core (with_state core around state) next _) both.1 in (
          word_right around n start _ begins,
          (
            word_right (with_state core around state) (n + length start) test _ goes.0,
            each_append (IsListRight core) (lists_in body (n + (length start + length test))) (numbered (n + (length start + (length test + number_count body))) next ∷ [])
                (lists_right body (with_state core around state) (earlier ++ state ∷ []) (n + (length start + length test)) h.1)
                (word_right (with_state core around state) (n + (length start + (length test + number_count body))) next _ goes.1, tt),
          ),
        )
    lists_right (branch test first second) around earlier n h = (
      word_right around n test _ (here around earlier (branch test first second) h.0),
      each_append (IsListRight core) (lists_in first (n + length test)) (lists_in second (n + (length test + number_count first))) (lists_right first around earlier (n + length test) h.1)
          (lists_right second around (earlier ++ owned_in first) (n + (length test + number_count first)) h.2),
    )
    lists_right (load r m spans) around earlier n h = slice_right around r spans n (and_parts (is_slice_right core around r spans) _ (here around earlier (load r m spans) h)).0
    lists_right (store r m spans) around earlier n h = slice_right around r spans n (and_parts (is_slice_right core around r spans) _ (here around earlier (store r m spans) h)).0
    lists_right (sparse kind r m places spans count par) around earlier n h =
        sparse_right around kind r m places spans count par n (n + spans_size spans) (here around earlier (sparse kind r m places spans count par) h)

    stages_right : (stages : PlainStages) (around : Around) (earlier : List ℕ) (n : ℕ) → AreRight core around earlier stages → Each (IsListRight core) (lists_in_stages stages n)
    stages_right no_stage around earlier n h = tt
    stages_right (more_stage first last comb node rest) around earlier n h =
        each_append (IsListRight core) (lists_in node n) (lists_in_stages rest (n + number_count node)) (lists_right node around earlier n h.0)
        (stages_right rest around (earlier ++ owned_in node) (n + number_count node) h.1)
