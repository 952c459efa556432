-- What stands neither around a node nor is owned in it, the node doesn't name, by the rules of cores.
use Rattle.std.proofs.Common.{◌≡◌, ℕ, suc, ◌<◌, inl, inr, Bool, true, false, List, [], ◌∷◌, ◌++◌, length, arith, refl, sym, subst, ap, ◌∙◌}
use Rattle.std.proofs.lemmas.Bool.{and_parts, ne_eqb, eqb-true, or_parts, or_from, true≢false, false≢true}
use Rattle.std.specs.List.{list_all, list_any}
use Rattle.std.specs.Prelude.{◌==◌, ◌&&◌, ◌||◌, nat_lt, nat_le, Option, Some, None}
use Rattle.sp_core.specs.declared.node.SparseKind.{SparseKind}
use Rattle.sp_core.specs.declared.node.SparseKind.TheVariants.{Gather, Scatter, WideLoad, WideStore}
use Rattle.sp_core.specs.Around.{Around, within, is_port_kind, is_usable}
use Rattle.sp_core.specs.Declarations.{is_among, mem, dram_number}
use Rattle.sp_core.specs.Invariant.{owned_in, owned_in_stages}
use Rattle.sp_core.specs.NodeRules.{with_state, is_span_right, is_slice_right, is_sram_here, fits_sram, fits_line, are_places, is_none, is_pick_right, is_wide_right, is_sparse_right, are_counters_right}
use Rattle.sp_core.specs.OperationRules.{is_access, names_rightly, is_operation_right, are_operations_right_after, are_operations_right, is_bound, is_counter_right}
use Rattle.sp_core.specs.PlainCore.{PlainOp, PlainCounter, PlainSpan, single, range, PlainNode, PlainStages, inner, outer, fsm, branch, load, store, sparse, no_stage, more_stage, PlainCore}
use Rattle.sp_core.specs.Typed.{Given, given_type}
use Rattle.sp_lane_rules.specs.UnrolledRight.{EachRight, AllRight}
use Rattle.sp_plan.specs.Named.{named_by, list_names, counters_names, spans_names, names, stages_names}
use Rattle.sp_overlap.proofs.Lanes.{or_choose}
use Rattle.sp_overlap.proofs.Parts.{among_right, not_left}

any_append : (p : List ℕ → Bool) (a b : List (List ℕ)) → list_any p a ≡ false → list_any p b ≡ false → list_any p (a ++ b) ≡ false
any_append p [] b h k = k
any_append p (x ∷ a) b h k = let q = or_parts (p x) (list_any p a) h in or_from (p x) (list_any p (a ++ b)) q.0 (any_append p a b q.1 k)

not_right : (m : ℕ) (a b : List ℕ) → is_among m (a ++ b) ≡ false → is_among m b ≡ false
not_right m a b h = go (is_among m b) refl
  where
    go : (t : Bool) → is_among m b ≡ t → is_among m b ≡ false
    go true e = absurd (true≢false (sym (among_right m a b e) ∙ h))
    go false e = e

pub not_either : (m : ℕ) (a b : List ℕ) → is_among m a ≡ false → is_among m b ≡ false → is_among m (a ++ b) ≡ false
not_either m [] b h k = k
not_either m (x ∷ a) b h k = let q = or_parts (m == x) (is_among m a) h in or_from (m == x) (is_among m (a ++ b)) q.0 (not_either m a b q.1 k)

module _ (core : PlainCore) (m : ℕ) (on_chip : m < length core.mems) (no_port : is_port_kind (mem core m).kind ≡ false) where
  -- it isn't usable, so it isn't named
  other : (around : Around) → is_among m around.owned ≡ false → (x : ℕ) → is_usable core around x ≡ true → (m == x) ≡ false
  other around free x u = go (m == x) refl
    where
      go : (b : Bool) → (m == x) ≡ b → (m == x) ≡ false
      go false e = e
      go true e =
          let same : m ≡ x = eqb-true m x e in
          let here : (is_port_kind (mem core m).kind || is_among m around.owned) ≡ true = subst (λ y. (is_port_kind (mem core y).kind || is_among y around.owned) ≡ true) (sym same) (and_parts (nat_lt x (length core.mems)) _ u).1 in
          absurd (true≢false (sym here ∙ or_from (is_port_kind (mem core m).kind) (is_among m around.owned) no_port free))

  alone : (x : ℕ) → (m == x) ≡ false → is_among m (x ∷ []) ≡ false
  alone x e = or_from (m == x) false e refl

  op_free : (around : Around) → is_among m around.owned ≡ false → (op : PlainOp) (earlier : Given) → is_operation_right core around earlier op ≡ true → is_among m (named_by op.mem) ≡ false
  op_free around free op earlier h = go op.mem (and_parts _ _ (and_parts _ _ h).0).1
    where
      go : (x : Option ℕ) → names_rightly core around op.kind op.ty x ≡ true → is_among m (named_by x) ≡ false
      go None e = refl
      go (Some x) e = alone x (other around free x (and_parts (is_access op.kind) (is_usable core around x) (and_parts _ _ e).0).1)

  list_free : (around : Around) → is_among m around.owned ≡ false → (earlier : Given) (ops : List PlainOp) → are_operations_right_after core around earlier ops ≡ true → list_any (is_among m) (list_names ops) ≡ false
  list_free around free earlier [] h = refl
  list_free around free earlier (op ∷ ops) h =
      let q = and_parts (is_operation_right core around earlier op) _ h in
      or_from (is_among m (named_by op.mem)) (list_any (is_among m) (list_names ops)) (op_free around free op earlier q.0) (list_free around free (earlier ++ given_type op.kind op.ty ∷ []) ops q.1)

  words_free : (around : Around) → is_among m around.owned ≡ false → (ops : List PlainOp) (b : Bool) → (are_operations_right core around ops && b) ≡ true → list_any (is_among m) (list_names ops) ≡ false
  words_free around free ops b h = list_free around free [] ops (and_parts _ _ h).0

  bound_free : (around : Around) → is_among m around.owned ≡ false → (ops : List PlainOp) → is_bound core around ops ≡ true → list_any (is_among m) (list_names ops) ≡ false
  bound_free around free ops h = words_free around free ops _ (and_parts _ _ h).0

  counters_free : (around : Around) → is_among m around.owned ≡ false → (counters : List PlainCounter) → list_all (is_counter_right core around) counters ≡ true → list_any (is_among m) (counters_names counters) ≡ false
  counters_free around free [] h = refl
  counters_free around free (c ∷ counters) h =
      let q = and_parts (is_counter_right core around c) (list_all (is_counter_right core around) counters) h in
      let both = and_parts (is_bound core around c.from) (is_bound core around c.until) (and_parts _ _ q.0).0 in
      any_append (is_among m) (list_names c.from ++ list_names c.until) (counters_names counters)
      (any_append (is_among m) (list_names c.from) (list_names c.until) (bound_free around free c.from both.0) (bound_free around free c.until both.1)) (counters_free around free counters q.1)

  spans_free : (around : Around) → is_among m around.owned ≡ false → (spans : List PlainSpan) → list_all (is_span_right core around) spans ≡ true → list_any (is_among m) (spans_names spans) ≡ false
  spans_free around free [] h = refl
  spans_free around free (single ops ∷ spans) h =
      let q = and_parts (is_bound core around ops) (list_all (is_span_right core around) spans) h in
      any_append (is_among m) (list_names ops) (spans_names spans) (bound_free around free ops q.0) (spans_free around free spans q.1)
  spans_free around free (range a b ∷ spans) h =
      let q = and_parts (is_bound core around a && is_bound core around b) (list_all (is_span_right core around) spans) h in
      let both = and_parts (is_bound core around a) (is_bound core around b) q.0 in
      any_append (is_among m) (list_names a ++ list_names b) (spans_names spans)
      (any_append (is_among m) (list_names a) (list_names b) (bound_free around free a both.0) (bound_free around free b both.1)) (spans_free around free spans q.1)

  no_dram : (r : ℕ) → (m == dram_number core r) ≡ false
  no_dram r = ne_eqb m (dram_number core r) (λ e. absurd (omega (arith, on_chip, e)))

  transfer_free : (around : Around) → is_among m around.owned ≡ false → (r x : ℕ) → is_usable core around x ≡ true → list_any (is_among m) ((dram_number core r ∷ x ∷ []) ∷ []) ≡ false
  transfer_free around free r x u = or_from (is_among m (dram_number core r ∷ x ∷ [])) false (or_from (m == dram_number core r) (is_among m (x ∷ [])) (no_dram r) (alone x (other around free x u))) refl

  sram_usable : (around : Around) (r x : ℕ) (spans : List PlainSpan) → fits_sram core around r x spans ≡ true → is_usable core around x ≡ true
  sram_usable around r x spans h = (and_parts _ _ (and_parts _ _ (and_parts _ _ h).0).0).0

  line_usable : (around : Around) (r x : ℕ) (spans : List PlainSpan) → fits_line core around r x spans ≡ true → is_usable core around x ≡ true
  line_usable around r x spans h = (and_parts _ _ (and_parts _ _ (and_parts _ _ h).0).0).0

  slice_spans : (around : Around) (r : ℕ) (spans : List PlainSpan) → is_slice_right core around r spans ≡ true → list_all (is_span_right core around) spans ≡ true
  slice_spans around r spans h = (and_parts _ _ h).1

  -- a gather, a scatter or a wide transfer
  none_of : {A : Type 0} (xs : List A) (f : List A → List (List ℕ)) → f [] ≡ [] → (length xs == 0) ≡ true → list_any (is_among m) (f xs) ≡ false
  none_of [] f e h = ap (list_any (is_among m)) e
  none_of (x ∷ xs) f e h = absurd (omega (arith, eqb-true (suc (length xs)) 0 h))

  sparse_names : (r x : ℕ) (places : Option ℕ) (spans : List PlainSpan) (count : List PlainOp) → list_any (is_among m) (spans_names spans) ≡ false → list_any (is_among m) (list_names count) ≡ false → (m == x) ≡ false → is_among m (named_by places) ≡ false
      → list_any (is_among m) (spans_names spans ++ (list_names count ++ (dram_number core r ∷ x ∷ named_by places) ∷ [])) ≡ false
  sparse_names r x places spans count s c e p =
      any_append (is_among m) (spans_names spans) (list_names count ++ (dram_number core r ∷ x ∷ named_by places) ∷ []) s
      (any_append (is_among m) (list_names count) ((dram_number core r ∷ x ∷ named_by places) ∷ []) c
      (or_from (is_among m (dram_number core r ∷ x ∷ named_by places)) false (or_from (m == dram_number core r) (is_among m (x ∷ named_by places)) (no_dram r) (or_from (m == x) (is_among m (named_by places)) e p)) refl))

  places_free : (around : Around) → is_among m around.owned ≡ false → (places : Option ℕ) → are_places core around places ≡ true → is_among m (named_by places) ≡ false
  places_free around free None h = refl
  places_free around free (Some p) h = alone p (other around free p (and_parts _ _ (and_parts _ _ h).0).0)

  no_places : (around : Around) (places : Option ℕ) → is_none core around places ≡ true → is_among m (named_by places) ≡ false
  no_places around None h = refl
  no_places around (Some p) h = absurd (false≢true h)

  pick_free : (around : Around) → is_among m around.owned ≡ false → (r x : ℕ) (places : Option ℕ) (spans : List PlainSpan) (count : List PlainOp) (par : ℕ) → is_pick_right core around r x places spans count par ≡ true
      → list_any (is_among m) (spans_names spans ++ (list_names count ++ (dram_number core r ∷ x ∷ named_by places) ∷ [])) ≡ false
  pick_free around free r x places spans count par h =
      let a = and_parts _ _ h in
      let memory = and_parts (is_sram_here core around r x) (length (mem core x).dims == 1) (and_parts _ _ a.0).1 in
      let b = and_parts (are_places core around places && is_bound core around count) ((length spans == 0) && (par == 1)) a.1 in
      let c = and_parts (are_places core around places) (is_bound core around count) b.0 in
      sparse_names r x places spans count (none_of spans spans_names refl (and_parts (length spans == 0) (par == 1) b.1).0) (bound_free around free count c.1)
      (other around free x (and_parts _ _ (and_parts _ _ memory.0).0).0) (places_free around free places c.0)

  wide_free : (around : Around) → is_among m around.owned ≡ false → (r x : ℕ) (places : Option ℕ) (spans : List PlainSpan) (count : List PlainOp) (par : ℕ) → is_wide_right core around r x places spans count par ≡ true
      → list_any (is_among m) (spans_names spans ++ (list_names count ++ (dram_number core r ∷ x ∷ named_by places) ∷ [])) ≡ false
  wide_free around free r x places spans count par h =
      let a = and_parts (is_slice_right core around r spans && fits_sram core around r x spans) ((is_none core around places && (length count == 0)) && (nat_le 1 par && nat_le par 16)) h in
      let b = and_parts (is_slice_right core around r spans) (fits_sram core around r x spans) a.0 in
      let c = and_parts (is_none core around places) (length count == 0) (and_parts (is_none core around places && (length count == 0)) (nat_le 1 par && nat_le par 16) a.1).0 in
      sparse_names r x places spans count (spans_free around free spans (slice_spans around r spans b.0)) (none_of count list_names refl c.1) (other around free x (sram_usable around r x spans b.1)) (no_places around places c.0)

  sparse_free : (kind : SparseKind) (around : Around) → is_among m around.owned ≡ false → (r x : ℕ) (places : Option ℕ) (spans : List PlainSpan) (count : List PlainOp) (par : ℕ) → is_sparse_right core around kind r x places spans count par ≡ true
      → list_any (is_among m) (spans_names spans ++ (list_names count ++ (dram_number core r ∷ x ∷ named_by places) ∷ [])) ≡ false
  sparse_free Gather around free r x places spans count par h = pick_free around free r x places spans count par h
  sparse_free Scatter around free r x places spans count par h = pick_free around free r x places spans count par h
  sparse_free WideLoad around free r x places spans count par h = wide_free around free r x places spans count par h
  sparse_free WideStore around free r x places spans count par h = wide_free around free r x places spans count par h

  mutual
    pub node_free : (node : PlainNode) (around : Around) → EachRight core around node → is_among m around.owned ≡ false → is_among m (owned_in node) ≡ false → list_any (is_among m) (names core node) ≡ false
    node_free (inner counters owned ops comb) around r free own =
        let q = and_parts (are_counters_right core around counters) _ r in
        any_append (is_among m) (counters_names counters) (list_names ops) (counters_free around free counters (and_parts _ _ q.0).1)
        (list_free (within around counters owned) (not_either m owned around.owned own free) [] ops q.1)
    node_free (outer counters style owned stages) around r free own =
        let q = and_parts (are_counters_right core around counters) _ r.0 in
        any_append (is_among m) (counters_names counters) (stages_names core stages) (counters_free around free counters (and_parts _ _ q.0).1)
        (stages_free stages (within around counters owned) r.1 (not_either m owned around.owned (not_left m owned (owned_in_stages stages) own) free) (not_right m owned (owned_in_stages stages) own))
    node_free (fsm start state test body next) around r free own =
        let q = and_parts _ _ r.0 in
        let first = and_parts _ _ q.0 in
        let others = and_parts _ _ q.1 in
        let parts = or_parts (m == state) (is_among m (owned_in body)) own in
        let here : is_among m (state ∷ around.owned) ≡ false = or_from (m == state) (is_among m around.owned) parts.0 free in
        any_append (is_among m) (list_names start ++ list_names test) (names core body ++ list_names next)
        (any_append (is_among m) (list_names start) (list_names test) (words_free around free start _ first.1) (words_free (with_state core around state) here test _ others.0))
        (any_append (is_among m) (names core body) (list_names next) (node_free body (with_state core around state) r.1 here parts.1) (words_free (with_state core around state) here next _ others.1))
    node_free (branch test first second) around r free own =
        any_append (is_among m) (list_names test) (names core first ++ names core second) (words_free around free test _ r.0)
        (any_append (is_among m) (names core first) (names core second) (node_free first around r.1 free (not_left m (owned_in first) (owned_in second) own))
        (node_free second around r.2 free (not_right m (owned_in first) (owned_in second) own)))
    node_free (load r x spans) around h free own =
        let q = and_parts _ _ h in
        any_append (is_among m) (spans_names spans) ((dram_number core r ∷ x ∷ []) ∷ []) (spans_free around free spans (slice_spans around r spans q.0)) (transfer_free around free r x (usable q.1))
      where
        usable : (fits_sram core around r x spans || fits_line core around r x spans) ≡ true → is_usable core around x ≡ true
        usable e = elim (or_choose (fits_sram core around r x spans) (fits_line core around r x spans) e) [
          | inl z ↦ sram_usable around r x spans z
          | inr z ↦ line_usable around r x spans z
        ]
    node_free (store r x spans) around h free own =
        let q = and_parts _ _ h in
        any_append (is_among m) (spans_names spans) ((dram_number core r ∷ x ∷ []) ∷ []) (spans_free around free spans (slice_spans around r spans q.0)) (transfer_free around free r x (sram_usable around r x spans q.1))
    node_free (sparse kind r x places spans count par) around h free own = sparse_free kind around free r x places spans count par h

    stages_free : (stages : PlainStages) (around : Around) → AllRight core around stages → is_among m around.owned ≡ false → is_among m (owned_in_stages stages) ≡ false → list_any (is_among m) (stages_names core stages) ≡ false
    stages_free no_stage around r free own = refl
    stages_free (more_stage first last comb node rest) around r free own =
        any_append (is_among m) (names core node) (stages_names core rest) (node_free node around r.0 free (not_left m (owned_in node) (owned_in_stages rest) own))
        (stages_free rest around r.1 free (not_right m (owned_in node) (owned_in_stages rest) own))
