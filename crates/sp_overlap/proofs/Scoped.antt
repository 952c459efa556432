-- What a stage owns within, no other stage names or owns, by the rules of cores.
use Rattle.std.proofs.Common.{◌≡◌, ℕ, zero, suc, ◌<◌, ◌≤◌, ◌⊎◌, inl, inr, Bool, true, false, List, [], ◌∷◌, ◌++◌, length, arith, refl, sym, subst, ap, ◌∙◌}
use Rattle.std.proofs.lemmas.Bool.{and_parts, cases_lt, cases_order, cases_Bool, eq-eqb, ne_eqb, eqb-true, ltb-true, or_parts, or_from, true≢false, false≢true}
use Rattle.std.specs.List.{list_all, list_any}
use Rattle.std.specs.Prelude.{◌==◌, ◌&&◌, ◌||◌, not, nat_lt, Option, Some, None}
use Rattle.sp_core.specs.Around.{Around, within, is_port_kind, is_usable}
use Rattle.sp_core.specs.Declarations.{is_among, mem, dram_number}
use Rattle.sp_core.specs.Invariant.{owned_in, owned_in_stages, IsRight, AreRight}
use Rattle.sp_core.specs.NodeRules.{with_state, is_owned_once, is_span_right, is_slice_right, fits_sram, fits_line, are_counters_right}
use Rattle.sp_core.specs.OperationRules.{is_access, names_rightly, is_operation_right, are_operations_right_after, are_operations_right, is_bound, is_counter_right}
use Rattle.sp_core.specs.PlainCore.{PlainOp, PlainCounter, PlainSpan, single, range, PlainNode, PlainStages, inner, outer, fsm, branch, load, store, sparse, no_stage, more_stage, PlainCore}
use Rattle.sp_core.specs.Typed.{Given, given_type}
use Rattle.sp_plan.specs.Named.{named_by, list_names, counters_names, spans_names, names, stages_names, uses}
use Rattle.sp_plan.specs.Validity.{stage_count}
use Rattle.sp_time.specs.Lists.{Each, Pairs}
use Rattle.sp_overlap.specs.Apart.{no_node, node_at, ArePrivate}
use Rattle.sp_overlap.specs.Whole.{IsTimed, AreTimed}
use Rattle.sp_overlap.proofs.Lanes.{or_choose}
use Rattle.sp_overlap.proofs.Parts.{among_left, among_right, not_left}

any_append : (p : List ℕ → Bool) (a b : List (List ℕ)) → list_any p a ≡ false → list_any p b ≡ false → list_any p (a ++ b) ≡ false
any_append p [] b h k = k
any_append p (x ∷ a) b h k = let q = or_parts (p x) (list_any p a) h in or_from (p x) (list_any p (a ++ b)) q.0 (any_append p a b q.1 k)

pub not_right : (m : ℕ) (a b : List ℕ) → is_among m (a ++ b) ≡ false → is_among m b ≡ false
not_right m a b h = go (is_among m b) refl
  where
    go : (t : Bool) → is_among m b ≡ t → is_among m b ≡ false
    go true e = absurd (true≢false (sym (among_right m a b e) ∙ h))
    go false e = e

pub not_either : (m : ℕ) (a b : List ℕ) → is_among m a ≡ false → is_among m b ≡ false → is_among m (a ++ b) ≡ false
not_either m [] b h k = k
not_either m (x ∷ a) b h k = let q = or_parts (m == x) (is_among m a) h in or_from (m == x) (is_among m (a ++ b)) q.0 (not_either m a b q.1 k)

module _ (core : PlainCore) (m : ℕ) (on_chip : m < length core.mems) (no_port : is_port_kind (mem core m).kind ≡ false) where
  -- it isn't usable, so it isn't named
  other : (around : Around) → is_among m around.owned ≡ false → (x : ℕ) → is_usable core around x ≡ true → (m == x) ≡ false
  other around free x u = go (m == x) refl
    where
      go : (b : Bool) → (m == x) ≡ b → (m == x) ≡ false
      go false e = e
      go true e =
          let same : m ≡ x = eqb-true m x e in
          let here : (is_port_kind (mem core m).kind || is_among m around.owned) ≡ true = subst (λ y. (is_port_kind (mem core y).kind || is_among y around.owned) ≡ true) (sym same) (and_parts (nat_lt x (length core.mems)) _ u).1 in
          absurd (true≢false (sym here ∙ or_from (is_port_kind (mem core m).kind) (is_among m around.owned) no_port free))

  alone : (x : ℕ) → (m == x) ≡ false → is_among m (x ∷ []) ≡ false
  alone x e = or_from (m == x) false e refl

  op_free : (around : Around) → is_among m around.owned ≡ false → (op : PlainOp) (earlier : Given) → is_operation_right core around earlier op ≡ true → is_among m (named_by op.mem) ≡ false
  op_free around free op earlier h = go op.mem (and_parts _ _ (and_parts _ _ h).0).1
    where
      go : (x : Option ℕ) → names_rightly core around op.kind op.ty x ≡ true → is_among m (named_by x) ≡ false
      go None e = refl
      go (Some x) e = alone x (other around free x (and_parts (is_access op.kind) (is_usable core around x) (and_parts _ _ e).0).1)

  list_free : (around : Around) → is_among m around.owned ≡ false → (earlier : Given) (ops : List PlainOp) → are_operations_right_after core around earlier ops ≡ true → list_any (is_among m) (list_names ops) ≡ false
  list_free around free earlier [] h = refl
  list_free around free earlier (op ∷ ops) h =
      let q = and_parts (is_operation_right core around earlier op) _ h in
      or_from (is_among m (named_by op.mem)) (list_any (is_among m) (list_names ops)) (op_free around free op earlier q.0) (list_free around free (earlier ++ given_type op.kind op.ty ∷ []) ops q.1)

  words_free : (around : Around) → is_among m around.owned ≡ false → (ops : List PlainOp) (b : Bool) → (are_operations_right core around ops && b) ≡ true → list_any (is_among m) (list_names ops) ≡ false
  words_free around free ops b h = list_free around free [] ops (and_parts _ _ h).0

  bound_free : (around : Around) → is_among m around.owned ≡ false → (ops : List PlainOp) → is_bound core around ops ≡ true → list_any (is_among m) (list_names ops) ≡ false
  bound_free around free ops h = words_free around free ops _ (and_parts _ _ h).0

  counters_free : (around : Around) → is_among m around.owned ≡ false → (counters : List PlainCounter) → list_all (is_counter_right core around) counters ≡ true → list_any (is_among m) (counters_names counters) ≡ false
  counters_free around free [] h = refl
  counters_free around free (c ∷ counters) h =
      let q = and_parts (is_counter_right core around c) (list_all (is_counter_right core around) counters) h in
      let both = and_parts (is_bound core around c.from) (is_bound core around c.until) (and_parts _ _ q.0).0 in
      any_append (is_among m) (list_names c.from ++ list_names c.until) (counters_names counters)
      (any_append (is_among m) (list_names c.from) (list_names c.until) (bound_free around free c.from both.0) (bound_free around free c.until both.1)) (counters_free around free counters q.1)

  spans_free : (around : Around) → is_among m around.owned ≡ false → (spans : List PlainSpan) → list_all (is_span_right core around) spans ≡ true → list_any (is_among m) (spans_names spans) ≡ false
  spans_free around free [] h = refl
  spans_free around free (single ops ∷ spans) h =
      let q = and_parts (is_bound core around ops) (list_all (is_span_right core around) spans) h in
      any_append (is_among m) (list_names ops) (spans_names spans) (bound_free around free ops q.0) (spans_free around free spans q.1)
  spans_free around free (range a b ∷ spans) h =
      let q = and_parts (is_bound core around a && is_bound core around b) (list_all (is_span_right core around) spans) h in
      let both = and_parts (is_bound core around a) (is_bound core around b) q.0 in
      any_append (is_among m) (list_names a ++ list_names b) (spans_names spans)
      (any_append (is_among m) (list_names a) (list_names b) (bound_free around free a both.0) (bound_free around free b both.1)) (spans_free around free spans q.1)

  no_dram : (r : ℕ) → (m == dram_number core r) ≡ false
  no_dram r = ne_eqb m (dram_number core r) (λ e. absurd (omega (arith, on_chip, e)))

  transfer_free : (around : Around) → is_among m around.owned ≡ false → (r x : ℕ) → is_usable core around x ≡ true → list_any (is_among m) ((dram_number core r ∷ x ∷ []) ∷ []) ≡ false
  transfer_free around free r x u = or_from (is_among m (dram_number core r ∷ x ∷ [])) false (or_from (m == dram_number core r) (is_among m (x ∷ [])) (no_dram r) (alone x (other around free x u))) refl

  sram_usable : (around : Around) (r x : ℕ) (spans : List PlainSpan) → fits_sram core around r x spans ≡ true → is_usable core around x ≡ true
  sram_usable around r x spans h = (and_parts _ _ (and_parts _ _ (and_parts _ _ h).0).0).0

  line_usable : (around : Around) (r x : ℕ) (spans : List PlainSpan) → fits_line core around r x spans ≡ true → is_usable core around x ≡ true
  line_usable around r x spans h = (and_parts _ _ (and_parts _ _ (and_parts _ _ h).0).0).0

  slice_spans : (around : Around) (r : ℕ) (spans : List PlainSpan) → is_slice_right core around r spans ≡ true → list_all (is_span_right core around) spans ≡ true
  slice_spans around r spans h = (and_parts _ _ h).1

  mutual
    pub node_free : (node : PlainNode) (around : Around) (earlier : List ℕ) → IsTimed node → IsRight core around earlier node → is_among m around.owned ≡ false → is_among m (owned_in node) ≡ false → list_any (is_among m) (names core node) ≡ false
    node_free (inner counters owned ops comb) around earlier t r free own =
        let q = and_parts (are_counters_right core around counters) _ (and_parts _ _ r).0 in
        any_append (is_among m) (counters_names counters) (list_names ops) (counters_free around free counters (and_parts _ _ q.0).1)
        (list_free (within around counters owned) (not_either m owned around.owned own free) [] ops q.1)
    node_free (outer counters style owned stages) around earlier t r free own =
        let q = and_parts (are_counters_right core around counters) _ (and_parts _ _ r.0).0 in
        any_append (is_among m) (counters_names counters) (stages_names core stages) (counters_free around free counters (and_parts _ _ q.0).1)
        (stages_free stages (within around counters owned) (earlier ++ owned) t.1 r.1 (not_either m owned around.owned (not_left m owned (owned_in_stages stages) own) free) (not_right m owned (owned_in_stages stages) own))
    node_free (fsm start state test body next) around earlier t r free own =
        let q = and_parts _ _ (and_parts _ _ r.0).0 in
        let first = and_parts _ _ q.0 in
        let others = and_parts _ _ q.1 in
        let parts = or_parts (m == state) (is_among m (owned_in body)) own in
        let here : is_among m (state ∷ around.owned) ≡ false = or_from (m == state) (is_among m around.owned) parts.0 free in
        any_append (is_among m) (list_names start ++ list_names test) (names core body ++ list_names next)
        (any_append (is_among m) (list_names start) (list_names test) (words_free around free start _ first.1) (words_free (with_state core around state) here test _ others.0))
        (any_append (is_among m) (names core body) (list_names next) (node_free body (with_state core around state) (earlier ++ state ∷ []) t r.1 here parts.1) (words_free (with_state core around state) here next _ others.1))
    node_free (branch test first second) around earlier t r free own =
        any_append (is_among m) (list_names test) (names core first ++ names core second) (words_free around free test _ (and_parts _ _ r.0).0)
        (any_append (is_among m) (names core first) (names core second) (node_free first around earlier t.0 r.1 free (not_left m (owned_in first) (owned_in second) own))
        (node_free second around (earlier ++ owned_in first) t.1 r.2 free (not_right m (owned_in first) (owned_in second) own)))
    node_free (load r x spans) around earlier t h free own =
        let q = and_parts _ _ (and_parts _ _ h).0 in
        any_append (is_among m) (spans_names spans) ((dram_number core r ∷ x ∷ []) ∷ []) (spans_free around free spans (slice_spans around r spans q.0)) (transfer_free around free r x (usable q.1))
      where
        usable : (fits_sram core around r x spans || fits_line core around r x spans) ≡ true → is_usable core around x ≡ true
        usable e = elim (or_choose (fits_sram core around r x spans) (fits_line core around r x spans) e) [
          | inl z ↦ sram_usable around r x spans z
          | inr z ↦ line_usable around r x spans z
        ]
    node_free (store r x spans) around earlier t h free own =
        let q = and_parts _ _ (and_parts _ _ h).0 in
        any_append (is_among m) (spans_names spans) ((dram_number core r ∷ x ∷ []) ∷ []) (spans_free around free spans (slice_spans around r spans q.0)) (transfer_free around free r x (sram_usable around r x spans q.1))
    node_free (sparse kind r x places spans count par) around earlier t h free own = absurd t

    stages_free : (stages : PlainStages) (around : Around) (earlier : List ℕ) → AreTimed stages → AreRight core around earlier stages → is_among m around.owned ≡ false → is_among m (owned_in_stages stages) ≡ false → list_any (is_among m) (stages_names core stages) ≡ false
    stages_free no_stage around earlier t r free own = refl
    stages_free (more_stage first last comb node rest) around earlier t r free own =
        any_append (is_among m) (names core node) (stages_names core rest) (node_free node around earlier t.0 r.0 free (not_left m (owned_in node) (owned_in_stages rest) own))
        (stages_free rest around (earlier ++ owned_in node) t.1 r.1 free (not_right m (owned_in node) (owned_in_stages rest) own))

module _ (core : PlainCore) where
  -- what a node owns, no node before it owns; and it is a memory on the chip and no port
  pub record IsNew (earlier : List ℕ) (m : ℕ) : Type 0 where
    pub new : is_among m earlier ≡ false
    pub on_chip : m < length core.mems
    pub no_port : is_port_kind (mem core m).kind ≡ false

  less_new : (a b : List ℕ) (m : ℕ) → IsNew (a ++ b) m → IsNew a m
  less_new a b m h = record { new = not_left m a b h.new; on_chip = h.on_chip; no_port = h.no_port }

  from_not : (b : Bool) → not b ≡ true → b ≡ false
  from_not true e = absurd (false≢true e)
  from_not false e = refl

  head_new : (earlier : List ℕ) (x : ℕ) (owned : List ℕ) → is_owned_once core earlier (x ∷ owned) ≡ true → IsNew earlier x
  head_new earlier x owned h =
      let q = and_parts _ _ (and_parts _ _ h).0 in
      let r = and_parts (nat_lt x (length core.mems)) (not (is_port_kind (mem core x).kind)) q.0 in
      record { new = from_not _ q.1; on_chip = ltb-true _ _ r.0; no_port = from_not _ r.1 }

  pub owned_new : (earlier owned : List ℕ) → is_owned_once core earlier owned ≡ true → (m : ℕ) → is_among m owned ≡ true → IsNew earlier m
  owned_new earlier [] h m e = absurd (false≢true e)
  owned_new earlier (x ∷ owned) h m e = go (λ k. owned_new (earlier ++ x ∷ []) owned (and_parts _ _ h).1 m k) (m == x) refl e
    where
      go : (is_among m owned ≡ true → IsNew (earlier ++ x ∷ []) m) → (b : Bool) → (m == x) ≡ b → (b || is_among m owned) ≡ true → IsNew earlier m
      go rest true q k = subst (IsNew earlier) (sym (eqb-true m x q)) (head_new earlier x owned h)
      go rest false q k = less_new earlier (x ∷ []) m (rest k)

  -- no two of what a node owns are the same
  pub owned_apart : (earlier owned : List ℕ) → is_owned_once core earlier owned ≡ true → Pairs (λ a b. a ≡ b → ⊥) owned
  owned_apart earlier [] h = tt
  owned_apart earlier (x ∷ owned) h = (each (earlier ++ x ∷ []) owned (among_right x earlier (x ∷ []) (ap (λ b. b || false) (eq-eqb x x refl))) (and_parts _ _ h).1, owned_apart (earlier ++ x ∷ []) owned (and_parts _ _ h).1)
    where
      each : (before owned : List ℕ) → is_among x before ≡ true → is_owned_once core before owned ≡ true → Each (λ b. x ≡ b → ⊥) owned
      each before [] i h = tt
      each before (y ∷ owned) i h =
          ((λ e. true≢false (sym i ∙ ap (λ z. is_among z before) e ∙ (head_new before y owned h).new)), each (before ++ y ∷ []) owned (among_left x before (y ∷ []) i) (and_parts _ _ h).1)

  pub in_two : (m : ℕ) (a b : List ℕ) → is_among m (a ++ b) ≡ true → (is_among m a ≡ true) ⊎ (is_among m b ≡ true)
  in_two m a b e = elim (cases_Bool (is_among m a)) [
    | inl x ↦ inl x
    | inr x ↦ elim (cases_Bool (is_among m b)) [
      | inl y ↦ inr y
      | inr y ↦ absurd (true≢false (sym e ∙ not_either m a b x y))
    ]
  ]

  mutual
    pub within_new : (node : PlainNode) (around : Around) (earlier : List ℕ) → IsRight core around earlier node → (m : ℕ) → is_among m (owned_in node) ≡ true → IsNew earlier m
    within_new (inner counters owned ops comb) around earlier r m e = owned_new earlier owned (and_parts _ _ r).1 m e
    within_new (outer counters style owned stages) around earlier r m e = elim (in_two m owned (owned_in_stages stages) e) [
      | inl x ↦ owned_new earlier owned (and_parts _ _ r.0).1 m x
      | inr x ↦ less_new earlier owned m (stages_new stages (within around counters owned) (earlier ++ owned) r.1 m x)
    ]
    within_new (fsm start state test body next) around earlier r m e = elim (or_choose (m == state) (is_among m (owned_in body)) e) [
      | inl x ↦ owned_new earlier (state ∷ []) (and_parts _ _ r.0).1 m (ap (λ b. b || false) x)
      | inr x ↦ less_new earlier (state ∷ []) m (within_new body (with_state core around state) (earlier ++ state ∷ []) r.1 m x)
    ]
    within_new (branch test first second) around earlier r m e = elim (in_two m (owned_in first) (owned_in second) e) [
      | inl x ↦ within_new first around earlier r.1 m x
      | inr x ↦ less_new earlier (owned_in first) m (within_new second around (earlier ++ owned_in first) r.2 m x)
    ]
    within_new (load r x spans) around earlier h m e = absurd (false≢true e)
    within_new (store r x spans) around earlier h m e = absurd (false≢true e)
    within_new (sparse kind r x places spans count par) around earlier h m e = absurd (false≢true e)

    pub stages_new : (stages : PlainStages) (around : Around) (earlier : List ℕ) → AreRight core around earlier stages → (m : ℕ) → is_among m (owned_in_stages stages) ≡ true → IsNew earlier m
    stages_new no_stage around earlier r m e = absurd (false≢true e)
    stages_new (more_stage first last comb node rest) around earlier r m e = elim (in_two m (owned_in node) (owned_in_stages rest) e) [
      | inl x ↦ within_new node around earlier r.0 m x
      | inr x ↦ less_new earlier (owned_in node) m (stages_new rest around (earlier ++ owned_in node) r.1 m x)
    ]

  -- a stage at a place, by what stages before it own
  record IsStage (around : Around) (earlier : List ℕ) (stages : PlainStages) (p : ℕ) : Type 0 where
    before : List ℕ
    right : IsRight core around before (node_at stages p)
    timed : IsTimed (node_at stages p)
    more : (m : ℕ) → is_among m earlier ≡ true → is_among m before ≡ true
    those : (q m : ℕ) → q < p → is_among m (owned_in (node_at stages q)) ≡ true → is_among m before ≡ true

  stage_there : (around : Around) (earlier : List ℕ) (stages : PlainStages) → AreTimed stages → AreRight core around earlier stages → (p : ℕ) → p < stage_count stages → IsStage around earlier stages p
  stage_there around earlier no_stage t r p l = absurd (omega (arith, l))
  stage_there around earlier (more_stage first last comb node rest) t r zero l = record { before = earlier; right = r.0; timed = t.0; more = λ m e. e; those = λ q m z e. absurd (omega (arith, z)) }
  stage_there around earlier (more_stage first last comb node rest) t r (suc p) l =
      let s : IsStage around (earlier ++ owned_in node) rest p = stage_there around (earlier ++ owned_in node) rest t.1 r.1 p (omega arith) in
      record {
        before = s.before;
        right = s.right;
        timed = s.timed;
        more = λ m e. s.more m (among_left m earlier (owned_in node) e);
        those = λ q m z e. earlier_one s q m z e;
      }
    where
      earlier_one : (s : IsStage around (earlier ++ owned_in node) rest p) → (q m : ℕ) → q < suc p → is_among m (owned_in (node_at (more_stage first last comb node rest) q)) ≡ true → is_among m s.before ≡ true
      earlier_one s zero m z e = s.more m (among_right m earlier (owned_in node) e)
      earlier_one s (suc q) m z e = s.those q m (omega arith) e

  no_more : (stages : PlainStages) (p : ℕ) → stage_count stages ≤ p → node_at stages p ≡ no_node
  no_more no_stage p l = refl
  no_more (more_stage first last comb node rest) zero l = absurd (omega (arith, l))
  no_more (more_stage first last comb node rest) (suc p) l = no_more rest p (omega arith)

  module _ (around : Around) (earlier owned : List ℕ) (stages : PlainStages) (t : AreTimed stages) (r : AreRight core around earlier stages) (scoped : (m : ℕ) → is_among m around.owned ≡ true → is_among m earlier ≡ true) (own : (m : ℕ) → is_among m owned ≡ true → is_among m earlier ≡ true) where
    inside : (p m : ℕ) → is_among m (owned_in (node_at stages p)) ≡ true → p < stage_count stages
    inside p m e = elim (cases_lt p (stage_count stages)) [
      | inl l ↦ l
      | inr l ↦ absurd (false≢true (sym (ap (λ x. is_among m (owned_in x)) (no_more stages p l)) ∙ e))
    ]

    no_two : (p q m : ℕ) → p < q → is_among m (owned_in (node_at stages p)) ≡ true → is_among m (owned_in (node_at stages q)) ≡ true → ⊥
    no_two p q m l e f =
        let s : IsStage around earlier stages q = stage_there around earlier stages t r q (inside q m f) in
        true≢false (sym (s.those p m l e) ∙ (within_new (node_at stages q) around s.before s.right m f).new)

    never : (p q m : ℕ) → (p ≡ q → ⊥) → is_among m (owned_in (node_at stages p)) ≡ true → is_among m (owned_in (node_at stages q)) ≡ false
    never p q m n e = go (is_among m (owned_in (node_at stages q))) refl
      where
        go : (b : Bool) → is_among m (owned_in (node_at stages q)) ≡ b → is_among m (owned_in (node_at stages q)) ≡ false
        go false f = f
        go true f = elim (cases_order p q) [
          | inl x ↦ absurd (n x)
          | inr (inl x) ↦ absurd (no_two p q m x e f)
          | inr (inr x) ↦ absurd (no_two q p m x f e)
        ]

    not_one : (before ms : List ℕ) (m : ℕ) → ((x : ℕ) → is_among x ms ≡ true → is_among x before ≡ true) → is_among m before ≡ false → is_among m ms ≡ false
    not_one before ms m h e = go (is_among m ms) refl
      where
        go : (b : Bool) → is_among m ms ≡ b → is_among m ms ≡ false
        go false f = f
        go true f = absurd (true≢false (sym (h m f) ∙ e))

    new_at : (p m : ℕ) → is_among m (owned_in (node_at stages p)) ≡ true → IsNew earlier m
    new_at p m e =
        let s : IsStage around earlier stages p = stage_there around earlier stages t r p (inside p m e) in
        let w : IsNew s.before m = within_new (node_at stages p) around s.before s.right m e in
        record { new = not_one s.before earlier m s.more w.new; on_chip = w.on_chip; no_port = w.no_port }

    pub stages_private : ArePrivate core owned stages
    stages_private = record {
      unnamed = λ p q m n e. elim (cases_lt q (stage_count stages)) [
        | inl l ↦ (
            let s : IsStage around earlier stages q = stage_there around earlier stages t r q l in
            let w : IsNew earlier m = new_at p m e in
            node_free core m w.on_chip w.no_port (node_at stages q) around s.before s.timed s.right (not_one earlier around.owned m scoped w.new) (never p q m n e)
            )
        | inr l ↦ ap (λ x. uses core m x) (no_more stages q l)
      ];
      unowned = never;
      within = λ p m e. not_one earlier owned m own (new_at p m e).new;
    }
