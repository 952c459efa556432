-- All that happens in a run of a core is allowed.
use Rattle.std.proofs.Common.{◌≡◌, ℕ, zero, suc, ◌+◌, ◌-◌, ◌<◌, ◌≤◌, ◌⊎◌, inl, inr, Bool, true, false, cond, ℤ, List, [], ◌∷◌, ◌++◌, map, length, arith, refl, sym, subst, ap, ◌∙◌, lt-ltb, le-ltb}
use Rattle.std.proofs.lemmas.Bool.{and_parts, cases_lt, eq-eqb, eqb-true, leb-true, ltb-true, or_left, or_right, true≢false, false≢true}
use Rattle.std.specs.List.{list_all}
use Rattle.std.specs.Prelude.{◌==◌, ◌&&◌, ◌||◌, flat_map, Option, Some, None, slice_index_or}
use Rattle.sp_words.specs.declared.kind.Kind.{Kind}
use Rattle.sp_words.specs.declared.kind.Kind.TheVariants as kinds
use Rattle.sp_words.specs.Interface.{word_count}
use Rattle.sp_core.specs.declared.operation.OpKind.{OpKind}
use Rattle.sp_core.specs.declared.operation.OpKind.TheVariants as ops
use Rattle.sp_core.specs.Around.{Around, nothing, within, is_port_kind, is_usable}
use Rattle.sp_core.specs.Declarations.{is_among, mem, dram, kind_of, dims, dram_number}
use Rattle.sp_core.specs.Elements.{row_major}
use Rattle.sp_core.specs.Events.{Standing, inside_at, before, in_group_of, in_turn, Moment, slices, first_of, renews, keeps, act_of, event_of, entry_moments, list_moments, bounds_moments, spans_moments, rows_turn, load_moments, store_moments, slice_moments, renewal_in_body, body_moments, moments, group_moments, stage_moments, turn_moments}
use Rattle.sp_core.specs.History.{Entry, left_out, gave, touched, last_word, Bounds, Taken, one, both, History, Groups, Runs, Turns, inner_ran, outer_ran, fsm_ran, branch_ran, moved, no_group, more_group, no_run, masked_run, more_run, no_turn, more_turn}
use Rattle.sp_core.specs.Invariant.{IsRight, AreRight, owned_in}
use Rattle.sp_core.specs.MemoryRules.{has_rank, has_words, is_mem_right}
use Rattle.sp_core.specs.NodeRules.{with_state, is_reg, is_sram, is_line, is_owned_once, is_span_right, fits_sram, fits_line}
use Rattle.sp_core.specs.Numbering.{counters_size, spans_size, node_count, number_count}
use Rattle.sp_core.specs.OperationRules.{can_read, can_write, is_fifo, names_rightly, is_operation_right, are_operations_right_after, are_operations_right, is_bound, is_counter_right}
use Rattle.sp_core.specs.PlainCore.{PlainOp, PlainCounter, PlainSpan, single, range, PlainNode, PlainStages, PlainMem, inner, outer, fsm, branch, load, store, sparse, no_stage, more_stage, no_mem, PlainCore}
use Rattle.sp_core.specs.Scope.{in_lanes, loops_of, group_values}
use Rattle.sp_core.specs.Sequential.{has_reset}
use Rattle.sp_core.specs.Transfers.{Part, part_of, lengths, has_none, are_parts_inside, all_offsets, places_of, loaded_at}
use Rattle.sp_core.specs.Typed.{Given, given_type}
use Rattle.sp_time.specs.Lists.{Each}
use Rattle.sp_overlap.specs.Whole.{IsTimed, AreTimed}
use Rattle.sp_overlap.proofs.Lanes.{or_choose}
use Rattle.sp_overlap.proofs.Scoped.{IsNew, owned_new}
use Rattle.sp_contents.specs.Held.{AreLines}
use Rattle.sp_contents.specs.Inside.{IsInside, AreInside, RunsInside, TurnsInside, RunsAreAllowed}
use Rattle.sp_contents.specs.Steady.{MayWrite, MayRead, IsFifo, IsLine, IsReg, IsMade, IsOnChip, IsAllowed}
use Rattle.sp_contents.proofs.Offsets.{offsets_below}

-- what the kinds of memory allow
may_read : (k : Kind) (ds is : List ℕ) → can_read k ≡ true → MayRead k ds is
may_read kinds.Reg ds is h = tt
may_read kinds.Sram ds is h = tt
may_read kinds.LineBuf ds is h = tt
may_read kinds.ArgIn ds is h = tt
may_read kinds.Fifo ds is h = absurd (false≢true h)
may_read kinds.Dram ds is h = absurd (false≢true h)
may_read kinds.ArgOut ds is h = absurd (false≢true h)

may_write : (k : Kind) (ds is : List ℕ) → can_write k ≡ true → MayWrite k ds is
may_write kinds.Reg ds is h = tt
may_write kinds.Sram ds is h = tt
may_write kinds.ArgOut ds is h = tt
may_write kinds.LineBuf ds is h = absurd (false≢true h)
may_write kinds.ArgIn ds is h = absurd (false≢true h)
may_write kinds.Fifo ds is h = absurd (false≢true h)
may_write kinds.Dram ds is h = absurd (false≢true h)

fifo_is : (k : Kind) → is_fifo k ≡ true → IsFifo k
fifo_is kinds.Fifo h = tt
fifo_is kinds.Reg h = absurd (false≢true h)
fifo_is kinds.Sram h = absurd (false≢true h)
fifo_is kinds.LineBuf h = absurd (false≢true h)
fifo_is kinds.ArgIn h = absurd (false≢true h)
fifo_is kinds.ArgOut h = absurd (false≢true h)
fifo_is kinds.Dram h = absurd (false≢true h)

reg_is : (k : Kind) → is_reg k ≡ true → IsReg k
reg_is kinds.Reg h = tt
reg_is kinds.Fifo h = absurd (false≢true h)
reg_is kinds.Sram h = absurd (false≢true h)
reg_is kinds.LineBuf h = absurd (false≢true h)
reg_is kinds.ArgIn h = absurd (false≢true h)
reg_is kinds.ArgOut h = absurd (false≢true h)
reg_is kinds.Dram h = absurd (false≢true h)

made_is : (k : Kind) (n : ℕ) → is_port_kind k ≡ false → has_rank k n ≡ true → IsMade k
made_is kinds.Reg n p h = tt
made_is kinds.Sram n p h = tt
made_is kinds.Fifo n p h = tt
made_is kinds.LineBuf n p h = tt
made_is kinds.Dram n p h = absurd (false≢true h)
made_is kinds.ArgIn n p h = absurd (true≢false p)
made_is kinds.ArgOut n p h = absurd (true≢false p)

sram_written : (k : Kind) (ds is : List ℕ) → is_sram k ≡ true → MayWrite k ds is × MayRead k ds is
sram_written kinds.Sram ds is h = (tt, tt)
sram_written kinds.Reg ds is h = absurd (false≢true h)
sram_written kinds.Fifo ds is h = absurd (false≢true h)
sram_written kinds.LineBuf ds is h = absurd (false≢true h)
sram_written kinds.ArgIn ds is h = absurd (false≢true h)
sram_written kinds.ArgOut ds is h = absurd (false≢true h)
sram_written kinds.Dram ds is h = absurd (false≢true h)

line_written : (k : Kind) (ds is : List ℕ) → is_line k ≡ true → MayWrite k ds is
line_written kinds.LineBuf ds is h = tt
line_written kinds.Sram ds is h = absurd (false≢true h)
line_written kinds.Reg ds is h = absurd (false≢true h)
line_written kinds.Fifo ds is h = absurd (false≢true h)
line_written kinds.ArgIn ds is h = absurd (false≢true h)
line_written kinds.ArgOut ds is h = absurd (false≢true h)
line_written kinds.Dram ds is h = absurd (false≢true h)

module _ (core : PlainCore) (right_mems : list_all is_mem_right core.mems ≡ true) where
  abbrev All : List Moment → Type 0
  All ms = Each (IsAllowed core) ms

  all_append : (a b : List Moment) → All a → All b → All (a ++ b)
  all_append [] b h k = k
  all_append (x ∷ a) b h k = (h.0, all_append a b h.1 k)

  -- a memory by its number
  on_chip : (m : ℕ) → m < length core.mems → IsOnChip core m
  on_chip m l = record {
    kind_is = ap (λ b. cond b (mem core m).kind kinds.Dram) (lt-ltb m (length core.mems) l);
    dims_are = ap (λ b. cond b (mem core m).dims (dram core (m - length core.mems)).dims) (lt-ltb m (length core.mems) l);
  }

  mem_right : (m : ℕ) → m < length core.mems → is_mem_right (mem core m) ≡ true
  mem_right m l = at core.mems m right_mems l
    where
      at : (ms : List PlainMem) (m : ℕ) → list_all is_mem_right ms ≡ true → m < length ms → is_mem_right (slice_index_or ms m no_mem) ≡ true
      at [] m h l = absurd (omega (arith, l))
      at (x ∷ ms) zero h l = (and_parts (is_mem_right x) (list_all is_mem_right ms) h).0
      at (x ∷ ms) (suc m) h l = at ms m (and_parts (is_mem_right x) (list_all is_mem_right ms) h).1 (omega arith)

  pub no_dram_here : (m : ℕ) → m < length core.mems → (mem core m).kind ≡ kinds.Dram → ⊥
  no_dram_here m l e = false≢true (subst (λ k. has_rank k (length (mem core m).dims) ≡ true) e (and_parts _ _ (and_parts _ _ (mem_right m l)).0).0)

  usable_below : (around : Around) (m : ℕ) → is_usable core around m ≡ true → m < length core.mems
  usable_below around m u = ltb-true _ _ (and_parts _ _ u).0

  by_kind : (P : Kind → Type 0) (m : ℕ) → m < length core.mems → P (mem core m).kind → P (kind_of core m)
  by_kind P m l h = subst P (sym (on_chip m l).kind_is) h

  -- a memory that is made
  made : (earlier : List ℕ) (m : ℕ) → IsNew core earlier m → IsMade (kind_of core m) × IsOnChip core m
  made earlier m w = (
    by_kind IsMade m w.on_chip (made_is (mem core m).kind (length (mem core m).dims) w.no_port (and_parts _ _ (and_parts _ _ (mem_right m w.on_chip)).0).0),
    on_chip m w.on_chip,
  )

  -- lists of operations
  module _ (around : Around) where
    entry_allowed : (n : ℕ) (st : Standing) (op : PlainOp) (given : Given) (e : Entry) → is_operation_right core around given op ≡ true → All (entry_moments n st op.kind op.mem e)
    entry_allowed n st op given left_out h = tt
    entry_allowed n st op given (gave w) h = tt
    entry_allowed n st op given (touched is w) h = go op.mem op.kind (and_parts _ _ (and_parts _ _ h).0).1
      where
        go : (m : Option ℕ) (kind : OpKind) → names_rightly core around kind op.ty m ≡ true → All (event_of n st m is (act_of kind w))
        go None ops.Read q = tt
        go None ops.Write q = tt
        go None ops.Enq q = tt
        go None ops.Deq q = tt
        go None ops.Reset q = tt
        go None kind q = tt
        go (Some m) ops.Read q =
            let l : m < length core.mems = usable_below around m (and_parts _ _ q).0 in
            (by_kind (λ k. MayRead k (dims core m) is) m l (may_read (mem core m).kind (dims core m) is (and_parts _ _ (and_parts _ _ q).1).0), tt)
        go (Some m) ops.Write q =
            let l : m < length core.mems = usable_below around m (and_parts _ _ q).0 in
            (by_kind (λ k. MayWrite k (dims core m) is) m l (may_write (mem core m).kind (dims core m) is (and_parts _ _ (and_parts _ _ q).1).0), tt)
        go (Some m) ops.Enq q = let l : m < length core.mems = usable_below around m (and_parts _ _ q).0 in (by_kind IsFifo m l (fifo_is (mem core m).kind (and_parts _ _ (and_parts _ _ q).1).0), tt)
        go (Some m) ops.Deq q = let l : m < length core.mems = usable_below around m (and_parts _ _ q).0 in (by_kind IsFifo m l (fifo_is (mem core m).kind (and_parts _ _ (and_parts _ _ q).1).0), tt)
        go (Some m) ops.Reset q =
            let l : m < length core.mems = usable_below around m (and_parts _ _ q).0 in
            ((by_kind (λ k. has_reset k (mem core m).start ≡ true) m l (and_parts _ _ (and_parts _ _ q).1).0, on_chip m l), tt)
        go (Some m) kind q = tt

    list_allowed : (n : ℕ) (st : Standing) (given : Given) (os : List PlainOp) (es : List Entry) → are_operations_right_after core around given os ≡ true → All (list_moments n st os es)
    list_allowed n st given (op ∷ os) (e ∷ es) h =
        let q = and_parts (is_operation_right core around given op) _ h in
        all_append (entry_moments n st op.kind op.mem e) (list_moments (suc n) st os es) (entry_allowed n st op given e q.0) (list_allowed (suc n) st (given ++ given_type op.kind op.ty ∷ []) os es q.1)
    list_allowed n st given [] es h = tt
    list_allowed n st given (op ∷ os) [] h = tt

    bound_allowed : (n : ℕ) (st : Standing) (os : List PlainOp) (es : List Entry) → is_bound core around os ≡ true → All (list_moments n st os es)
    bound_allowed n st os es h = list_allowed n st [] os es (and_parts _ _ (and_parts _ _ h).0).0

    bounds_allowed : (n : ℕ) (st : Standing) (counters : List PlainCounter) (bs : List Bounds) → list_all (is_counter_right core around) counters ≡ true → All (bounds_moments n st counters bs)
    bounds_allowed n st (c ∷ counters) (b ∷ bs) h =
        let q = and_parts (is_counter_right core around c) (list_all (is_counter_right core around) counters) h in
        let two = and_parts (is_bound core around c.from) (is_bound core around c.until) (and_parts _ _ q.0).0 in
        all_append (list_moments n st c.from b.from ++ list_moments (n + length c.from) st c.until b.until) (bounds_moments (n + (length c.from + length c.until)) st counters bs)
        (all_append (list_moments n st c.from b.from) (list_moments (n + length c.from) st c.until b.until) (bound_allowed n st c.from b.from two.0) (bound_allowed (n + length c.from) st c.until b.until two.1))
        (bounds_allowed (n + (length c.from + length c.until)) st counters bs q.1)
    bounds_allowed n st [] bs h = tt
    bounds_allowed n st (c ∷ counters) [] h = tt

    spans_allowed : (n : ℕ) (st : Standing) (spans : List PlainSpan) (taken : List Taken) → list_all (is_span_right core around) spans ≡ true → All (spans_moments n st spans taken)
    spans_allowed n st (single os ∷ spans) (one es ∷ taken) h =
        let q = and_parts (is_bound core around os) (list_all (is_span_right core around) spans) h in
        all_append (list_moments n st os es) (spans_moments (n + length os) st spans taken) (bound_allowed n st os es q.0) (spans_allowed (n + length os) st spans taken q.1)
    spans_allowed n st (range a b ∷ spans) (both es fs ∷ taken) h =
        let q = and_parts (is_bound core around a && is_bound core around b) (list_all (is_span_right core around) spans) h in
        let two = and_parts (is_bound core around a) (is_bound core around b) q.0 in
        all_append (list_moments n st a es ++ list_moments (n + length a) st b fs) (spans_moments (n + (length a + length b)) st spans taken)
        (all_append (list_moments n st a es) (list_moments (n + length a) st b fs) (bound_allowed n st a es two.0) (bound_allowed (n + length a) st b fs two.1))
        (spans_allowed (n + (length a + length b)) st spans taken q.1)
    spans_allowed n st [] taken h = tt
    spans_allowed n st (single os ∷ spans) [] h = tt
    spans_allowed n st (single os ∷ spans) (both es fs ∷ taken) h = tt
    spans_allowed n st (range a b ∷ spans) [] h = tt
    spans_allowed n st (range a b ∷ spans) (one es ∷ taken) h = tt

    body_allowed : (k n g : ℕ) (st : Standing) (counters : List PlainCounter) (owned earlier : List ℕ) (os : List PlainOp) (values : List (List ℤ)) (groups : List (List Entry)) → is_owned_once core earlier owned ≡ true → are_operations_right core around os ≡ true
        → All (body_moments core in_lanes k n g st owned os values groups)
    body_allowed k n g st counters owned earlier os (v ∷ values) (es ∷ groups) o r =
        all_append (flat_map (renewal_in_body core) owned ++ list_moments n (inside_at st k (in_group_of g 0) v) os es) (body_moments core in_lanes k n (suc g) st owned os values groups)
        (all_append (flat_map (renewal_in_body core) owned) (list_moments n (inside_at st k (in_group_of g 0) v) os es) (renewed owned (owned_new core earlier owned o)) (list_allowed n (inside_at st k (in_group_of g 0) v) [] os es r))
        (body_allowed k n (suc g) st counters owned earlier os values groups o r)
      where
        renewed : (ms : List ℕ) → ((m : ℕ) → is_among m ms ≡ true → IsNew core earlier m) → All (flat_map (renewal_in_body core) ms)
        renewed ms new = go ms new
          where
            one_made : (m : ℕ) → IsNew core earlier m → (b : Bool) → All (elim b as (λ _. List Moment) [ true ↦ [] | false ↦ renews m ∷ [] ])
            one_made m w true = tt
            one_made m w false = (made earlier m w, tt)

            go : (ms : List ℕ) → ((m : ℕ) → is_among m ms ≡ true → IsNew core earlier m) → All (flat_map (renewal_in_body core) ms)
            go [] new = tt
            go (m ∷ ms) new = all_append (renewal_in_body core m) (flat_map (renewal_in_body core) ms) (one_made m (new m (or_left (m == m) (is_among m ms) (eq-eqb m m refl))) (has_reset (mem core m).kind (mem core m).start)) (go ms (λ x e. new x (or_right (x == m) (is_among x ms) e)))
    body_allowed k n g st counters owned earlier os [] groups o r = tt
    body_allowed k n g st counters owned earlier os (v ∷ values) [] o r = tt

  owned_allowed : (earlier ms : List ℕ) → ((m : ℕ) → is_among m ms ≡ true → IsNew core earlier m) → All (map renews ms)
  owned_allowed earlier [] new = tt
  owned_allowed earlier (m ∷ ms) new = (made earlier m (new m (or_left (m == m) (is_among m ms) (eq-eqb m m refl))), owned_allowed earlier ms (λ x e. new x (or_right (x == m) (is_among x ms) e)))

  -- transfers
  dram_kind : (r : ℕ) → kind_of core (dram_number core r) ≡ kinds.Dram
  dram_kind r = ap (λ b. cond b (mem core (dram_number core r)).kind kinds.Dram) (le-ltb (dram_number core r) (length core.mems) (omega arith))

  module _ (n : ℕ) (st : Standing) (r m : ℕ) (may : (is : List ℕ) → MayWrite (kind_of core m) (dims core m) is) (parts : List Part) where
    loads_allowed : (offsets : List (List ℕ)) (words : List ℕ) → Each (λ o. row_major (dims core (dram_number core r)) (places_of parts o) < word_count (dims core (dram_number core r))) offsets → All (load_moments core n st r m parts offsets words)
    loads_allowed (o ∷ offsets) (w ∷ words) h = (
      subst (λ k. MayRead k (dims core (dram_number core r)) (places_of parts o)) (sym (dram_kind r)) h.0,
      (may (loaded_at core (kind_of core m) m o), loads_allowed offsets words h.1),
    )
    loads_allowed [] words h = tt
    loads_allowed (o ∷ offsets) [] h = tt

    rows_allowed : (kind : Kind) → kind_of core m ≡ kind → All (rows_turn core n st kind m)
    rows_allowed kinds.LineBuf e = (subst IsLine (sym e) tt, tt)
    rows_allowed kinds.Reg e = tt
    rows_allowed kinds.Sram e = tt
    rows_allowed kinds.Fifo e = tt
    rows_allowed kinds.Dram e = tt
    rows_allowed kinds.ArgIn e = tt
    rows_allowed kinds.ArgOut e = tt

  module _ (n : ℕ) (st : Standing) (r m : ℕ) (may : (is : List ℕ) → MayRead (kind_of core m) (dims core m) is) (parts : List Part) where
    stores_allowed : (offsets : List (List ℕ)) (words : List ℕ) → Each (λ o. row_major (dims core (dram_number core r)) (places_of parts o) < word_count (dims core (dram_number core r))) offsets → All (store_moments core n st r m parts offsets words)
    stores_allowed (o ∷ offsets) (w ∷ words) h = (
      may o,
      (subst (λ k. MayWrite k (dims core (dram_number core r)) (places_of parts o)) (sym (dram_kind r)) h.0, stores_allowed offsets words h.1),
    )
    stores_allowed [] words h = tt
    stores_allowed (o ∷ offsets) [] h = tt

  slice_allowed : (n : ℕ) (st : Standing) (r : ℕ) (parts : List Part) (ms : List Moment) → (has_none (lengths parts) ≡ true) ⊎ (are_parts_inside (dims core (dram_number core r)) parts ≡ true) → (are_parts_inside (dims core (dram_number core r)) parts ≡ true → All ms) → All (slice_moments core n st parts ms)
  slice_allowed n st r parts ms h f = go (has_none (lengths parts)) refl h
    where
      asked : Moment
      asked = slices (record { number = n; standing = st; firsts = map first_of parts; lengths = lengths parts })

      go : (b : Bool) → has_none (lengths parts) ≡ b → (has_none (lengths parts) ≡ true) ⊎ (are_parts_inside (dims core (dram_number core r)) parts ≡ true) → All (elim b as (λ _. List Moment) [ true ↦ [] | false ↦ asked ∷ ms ])
      go true e h = tt
      go false e (inl z) = absurd (true≢false (sym z ∙ e))
      go false e (inr z) = (tt, f z)

  sram_below : (around : Around) (r m : ℕ) (spans : List PlainSpan) → fits_sram core around r m spans ≡ true → m < length core.mems
  sram_below around r m spans h = usable_below around m (and_parts _ _ (and_parts _ _ (and_parts _ _ h).0).0).0

  load_may : (around : Around) (r m : ℕ) (spans : List PlainSpan) → (fits_sram core around r m spans || fits_line core around r m spans) ≡ true → (is : List ℕ) → MayWrite (kind_of core m) (dims core m) is
  load_may around r m spans h is = elim (or_choose (fits_sram core around r m spans) (fits_line core around r m spans) h) [
    | inl e ↦ by_kind (λ k. MayWrite k (dims core m) is) m (sram_below around r m spans e) (sram_written (mem core m).kind (dims core m) is (and_parts _ _ (and_parts _ _ (and_parts _ _ e).0).0).1).0
    | inr e ↦ (
        let q = and_parts _ _ (and_parts _ _ (and_parts _ _ e).0).0 in
        by_kind (λ k. MayWrite k (dims core m) is) m (usable_below around m q.0) (line_written (mem core m).kind (dims core m) is q.1)
        )
  ]

  mutual
    unfolding moments

    pub node_allowed : (node : PlainNode) (k n : ℕ) (st : Standing) (h : History) (around : Around) (earlier : List ℕ) → IsRight core around earlier node → IsTimed node → IsInside core node h → All (moments core in_lanes node k n st h)
    node_allowed (inner counters owned os comb) k n st (inner_ran bs counts groups) around earlier right t w =
        let q = and_parts _ _ (and_parts _ _ right).0 in
        all_append (bounds_moments n (inside_at st k before []) counters bs) _ (bounds_allowed around n (inside_at st k before []) counters bs (and_parts _ _ q.0).1)
        (body_allowed (within around counters owned) k (n + counters_size counters) 0 st counters owned earlier os (group_values (loops_of in_lanes counters bs)) groups (and_parts _ _ right).1 q.1)
    node_allowed (outer counters style owned stages) k n st (outer_ran bs counts groups) around earlier right t w =
        let q = and_parts _ _ (and_parts _ _ right.0).0 in
        all_append (bounds_moments n (inside_at st k before []) counters bs) _ (bounds_allowed around n (inside_at st k before []) counters bs (and_parts _ _ q.0).1)
        (groups_allowed stages k (n + counters_size counters) 0 st counters owned (group_values (loops_of in_lanes counters bs)) groups around earlier (owned_new core earlier owned (and_parts _ _ right.0).1) right.1 t.1 w)
    node_allowed (fsm start state test body next) k n st (fsm_ran first ts last) around earlier right t w =
        let rules = and_parts _ _ (and_parts _ _ right.0).0 in
        let new : IsNew core earlier state = owned_new core earlier (state ∷ []) (and_parts _ _ right.0).1 state (or_left (state == state) false (eq-eqb state state refl)) in
        let kept : IsReg (kind_of core state) = by_kind IsReg state new.on_chip (reg_is (mem core state).kind (and_parts _ _ rules.0).0) in
        all_append (list_moments n (inside_at st k before []) start first ++ keeps state (last_word first) ∷ []) _
        (all_append (list_moments n (inside_at st k before []) start first) (keeps state (last_word first) ∷ []) (list_allowed around n (inside_at st k before []) [] start first (and_parts _ _ (and_parts _ _ rules.0).1).0) (kept, tt))
        (turns_allowed start state test body next k n 0 st ts last (with_state core around state) (earlier ++ state ∷ []) kept right.1 t (and_parts _ _ (and_parts _ _ rules.1).0).0 (and_parts _ _ (and_parts _ _ rules.1).1).0 w)
    node_allowed (branch test first second) k n st (branch_ran es true h) around earlier right t w =
        all_append (list_moments n (inside_at st k (in_turn 0) []) test es) _ (list_allowed around n (inside_at st k (in_turn 0) []) [] test es (and_parts _ _ (and_parts _ _ right.0).0).0)
        (node_allowed first (suc k) (n + length test) (inside_at st k (in_turn 0) []) h around earlier right.1 t.0 w)
    node_allowed (branch test first second) k n st (branch_ran es false h) around earlier right t w =
        all_append (list_moments n (inside_at st k (in_turn 0) []) test es) _ (list_allowed around n (inside_at st k (in_turn 0) []) [] test es (and_parts _ _ (and_parts _ _ right.0).0).0)
        (node_allowed second (suc k + node_count first) (n + (length test + number_count first)) (inside_at st k (in_turn 0) []) h around (earlier ++ owned_in first) right.2 t.1 w)
    node_allowed (load r m spans) k n st (moved taken words) around earlier right t w =
        let rules = and_parts _ _ (and_parts _ _ right).0 in
        let may : (is : List ℕ) → MayWrite (kind_of core m) (dims core m) is = load_may around r m spans rules.1 in
        all_append (spans_moments n st spans taken) _ (spans_allowed around n st spans taken (and_parts _ _ rules.0).1)
        (slice_allowed (n + spans_size spans) st r (map part_of taken) _ w
        (λ inside. all_append (rows_turn core (n + spans_size spans) st (kind_of core m) m) (load_moments core (n + spans_size spans) st r m (map part_of taken) (all_offsets (map part_of taken)) words)
        (rows_allowed (n + spans_size spans) st r m may (map part_of taken) (kind_of core m) refl)
        (loads_allowed (n + spans_size spans) st r m may (map part_of taken) (all_offsets (map part_of taken)) words (offsets_below (dims core (dram_number core r)) (map part_of taken) inside))))
    node_allowed (store r m spans) k n st (moved taken words) around earlier right t w =
        let rules = and_parts _ _ (and_parts _ _ right).0 in
        let l : m < length core.mems = sram_below around r m spans rules.1 in
        let may : (is : List ℕ) → MayRead (kind_of core m) (dims core m) is = (λ is. by_kind (λ k. MayRead k (dims core m) is) m l (sram_written (mem core m).kind (dims core m) is (and_parts _ _ (and_parts _ _ (and_parts _ _ rules.1).0).0).1).1) in
        all_append (spans_moments n st spans taken) _ (spans_allowed around n st spans taken (and_parts _ _ rules.0).1)
        (slice_allowed (n + spans_size spans) st r (map part_of taken) _ w
        (λ inside. stores_allowed (n + spans_size spans) st r m may (map part_of taken) (all_offsets (map part_of taken)) words (offsets_below (dims core (dram_number core r)) (map part_of taken) inside)))
    node_allowed (sparse kind r m places spans count par) k n st h around earlier right t w = absurd t
    node_allowed node k n st h around earlier right t w = tt

    groups_allowed : (stages : PlainStages) (k n g : ℕ) (st : Standing) (counters : List PlainCounter) (owned : List ℕ) (values : List (List ℤ)) (groups : Groups) (around : Around) (earlier : List ℕ) → ((m : ℕ) → is_among m owned ≡ true → IsNew core earlier m) → AreRight core (within around counters owned) (earlier ++ owned) stages → AreTimed stages → AreInside core stages groups
        → All (group_moments core in_lanes stages k n g st owned values groups)
    groups_allowed stages k n g st counters owned (v ∷ values) (more_group rs rest) around earlier new right t w =
        all_append (map renews owned ++ stage_moments core in_lanes stages k n 0 g (suc k) v st rs) (group_moments core in_lanes stages k n (suc g) st owned values rest)
        (all_append (map renews owned) (stage_moments core in_lanes stages k n 0 g (suc k) v st rs) (owned_allowed earlier owned new) (stages_allowed stages k n 0 g (suc k) v st rs (within around counters owned) (earlier ++ owned) right t w.0))
        (groups_allowed stages k n (suc g) st counters owned values rest around earlier new right t w.1)
    groups_allowed stages k n g st counters owned [] groups around earlier new right t w = tt
    groups_allowed stages k n g st counters owned (v ∷ values) no_group around earlier new right t w = tt

    stages_allowed : (stages : PlainStages) (k n s g j : ℕ) (v : List ℤ) (st : Standing) (rs : Runs) (around : Around) (earlier : List ℕ) → AreRight core around earlier stages → AreTimed stages → RunsInside core stages rs → All (stage_moments core in_lanes stages k n s g j v st rs)
    stages_allowed (more_stage first last comb node rest) k n s g j v st (more_run h rs) around earlier right t w =
        all_append (moments core in_lanes node j n (inside_at st k (in_group_of g s) v) h) (stage_moments core in_lanes rest k (n + number_count node) (suc s) g (j + node_count node) v st rs)
        (node_allowed node j n (inside_at st k (in_group_of g s) v) h around earlier right.0 t.0 w.0) (stages_allowed rest k (n + number_count node) (suc s) g (j + node_count node) v st rs around (earlier ++ owned_in node) right.1 t.1 w.1)
    stages_allowed (more_stage first last comb node rest) k n s g j v st (masked_run rs) around earlier right t w = stages_allowed rest k (n + number_count node) (suc s) g (j + node_count node) v st rs around (earlier ++ owned_in node) right.1 t.1 w
    stages_allowed (more_stage first last comb node rest) k n s g j v st no_run around earlier right t w = tt
    stages_allowed no_stage k n s g j v st rs around earlier right t w = tt

    turns_allowed : (start : List PlainOp) (state : ℕ) (test : List PlainOp) (body : PlainNode) (next : List PlainOp) (k n t : ℕ) (st : Standing) (ts : Turns) (last : List Entry) (around : Around) (earlier : List ℕ) → IsReg (kind_of core state) → IsRight core around earlier body → IsTimed body → are_operations_right core around test ≡ true → are_operations_right core around next ≡ true → TurnsInside core body ts
        → All (turn_moments core in_lanes start state test body next k n t st ts last)
    turns_allowed start state test body next k n t st no_turn last around earlier kept right w rt rn inside = list_allowed around (n + length start) (inside_at st k (in_turn t) []) [] test last rt
    turns_allowed start state test body next k n t st (more_turn es h ns rest) last around earlier kept right w rt rn inside =
        let at : Standing = inside_at st k (in_turn t) [] in
        let a : List Moment = list_moments (n + length start) at test es in
        let b : List Moment = moments core in_lanes body (suc k) (n + (length start + length test)) at h in
        let c : List Moment = list_moments (n + (length start + (length test + number_count body))) at next ns in
        all_append (a ++ (b ++ (c ++ keeps state (last_word ns) ∷ []))) (turn_moments core in_lanes start state test body next k n (suc t) st rest last)
        (all_append a (b ++ (c ++ keeps state (last_word ns) ∷ [])) (list_allowed around (n + length start) at [] test es rt)
        (all_append b (c ++ keeps state (last_word ns) ∷ []) (node_allowed body (suc k) (n + (length start + length test)) at h around earlier right w inside.0)
        (all_append c (keeps state (last_word ns) ∷ []) (list_allowed around (n + (length start + (length test + number_count body))) at [] next ns rn) (kept, tt))))
        (turns_allowed start state test body next k n (suc t) st rest last around earlier kept right w rt rn inside.1)

  -- a line buffer has rows
  lines_are : AreLines core
  lines_are m e = elim (cases_lt m (length core.mems)) [
    | inl l ↦ (
        let right = mem_right m l in
        let o : IsOnChip core m = on_chip m l in
        let here = rows_of_dims (mem core m).dims (subst (λ k. has_rank k (length (mem core m).dims) ≡ true) (sym o.kind_is ∙ e) (and_parts _ _ (and_parts _ _ right).0).0) (and_parts _ _ right).1 in
        (here.0, here.1, o.dims_are ∙ here.2)
        )
    | inr l ↦ absurd (subst IsLine (sym (sym (ap (λ b. cond b (mem core m).kind kinds.Dram) (le-ltb m (length core.mems) l)) ∙ e)) tt)
  ]
    where
      rows_of_dims : (ds : List ℕ) → has_rank kinds.LineBuf (length ds) ≡ true → has_words 4194304 ds ≡ true → (r : ℕ) × (n : ℕ) × (ds ≡ suc r ∷ n ∷ [])
      rows_of_dims [] h w = absurd (false≢true h)
      rows_of_dims (a ∷ []) h w = absurd (false≢true h)
      rows_of_dims (zero ∷ b ∷ []) h w = absurd (let x : 1 ≤ word_count (zero ∷ b ∷ []) = leb-true _ _ (and_parts _ _ w).0 in omega (arith, x))
      rows_of_dims (suc a ∷ b ∷ []) h w = (a, b, refl)
      rows_of_dims (a ∷ b ∷ c ∷ ds) h w = absurd (three (length ds) (eqb-true _ _ h))
        where
          three : (n : ℕ) → suc (suc (suc n)) ≡ 2 → ⊥
          three n e = omega (arith, e)

pub runs_allowed : (core : PlainCore) → RunsAreAllowed core
runs_allowed core w t =
    let mems : list_all is_mem_right core.mems ≡ true = (and_parts _ _ w.memories).0 in
    (lines_are core mems, λ h inside. node_allowed core mems core.root 0 0 (record { path = []; counters = [] }) h nothing [] w.nodes t inside)
