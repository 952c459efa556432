-- What happens in a run of a part leaves each register and argument that the part doesn't change.
use Rattle.std.proofs.Common.{◌≡◌, ℕ, suc, ◌+◌, ◌-◌, ◌<◌, ◌==◌, Bool, true, false, ◌&&◌, ◌||◌, not, if◌then◌else◌, nat_lt, nat_le, ⊎_elim, ℤ, List, [], ◌∷◌, ◌++◌, length, map, flat_map, Option, Some, None, refl, sym, ap, subst, ◌∙◌, arith}
use Rattle.std.specs.List.{All, list_all}
use Rattle.std.proofs.lemmas.Bool.{and_parts, or_parts, or_cases, or_from, eqb-true, false≢true, le-ltb}
use Rattle.std.proofs.lemmas.List.Elements.{All-nil, All-cons, All-append}
use Rattle.sp_words.specs.declared.kind.Kind.{Kind}
use Rattle.sp_words.specs.declared.kind.Kind.TheVariants.{Reg, Sram, Fifo, LineBuf, Dram, ArgIn, ArgOut}
use Rattle.sp_words.specs.declared.types.Ty.{Ty}
use Rattle.sp_words.specs.Memory.{Contents}
use Rattle.sp_core.specs.declared.node.SparseKind.TheVariants.{Gather, Scatter, WideLoad, WideStore}
use Rattle.sp_core.specs.declared.operation.OpKind.{OpKind}
use Rattle.sp_core.specs.declared.operation.OpKind.TheVariants.{Word, Count, Live, Read, Write, Enq, Deq, Reset, One, Two, Shift, Mux, Cast}
use Rattle.sp_core.specs.Around.{Around, within, lanes_of, is_port_kind, is_usable}
use Rattle.sp_core.specs.Declarations.{mem, dram, kind_of, dram_number, is_among}
use Rattle.sp_core.specs.Elements.{index_value, natural}
use Rattle.sp_core.specs.Events.{Act, reads, writes, puts, takes, resets, turns, before, in_group_of, in_turn, Standing, inside_at, Moment, touches, slices, renews, keeps, act_of, event_of, entry_moments, list_moments, bounds_moments, spans_moments, first_of, dram_event, mem_event, rows_turn, load_moments, store_moments, slice_moments, loaded, stored, gather_moments, scatter_moments, picked_moments, renewal_in_body, body_moments, moments, group_moments, stage_moments, turn_moments}
use Rattle.sp_core.specs.History.{Entry, left_out, gave, touched, last_word, Bounds, Taken, one, both, History, Groups, Runs, Turns, inner_ran, outer_ran, fsm_ran, branch_ran, moved, picked, no_group, more_group, no_run, masked_run, more_run, no_turn, more_turn}
use Rattle.sp_core.specs.Invariant.{owned_in, IsRight, AreRight}
use Rattle.sp_core.specs.NodeRules.{are_counters_right, are_lanes_right, is_span_right, is_slice_right, is_sram, is_line, is_sram_here, fits_sram, fits_line, range_count, ends_in_range, are_places, is_pick_right, is_none, is_wide_right, with_state, is_node_right}
use Rattle.sp_core.specs.Numbering.{counters_size, spans_size, node_count, number_count}
use Rattle.sp_core.specs.OperationRules.{can, is_access, is_fifo, names_rightly, are_operations_right_after, are_operations_right, is_word_list, is_bound, is_counter_right}
use Rattle.sp_core.specs.PlainCore.{PlainOp, PlainCounter, PlainSpan, single, range, PlainNode, PlainStages, inner, outer, fsm, branch, load, store, sparse, no_stage, more_stage, PlainCore}
use Rattle.sp_core.specs.Replay.{after_moment}
use Rattle.sp_core.specs.Scope.{Reading, loops_of, group_values}
use Rattle.sp_core.specs.Sequential.{has_reset}
use Rattle.sp_core.specs.Store.{Store, hold}
use Rattle.sp_core.specs.Transfers.{Part, part_of, lengths, has_none, places_of, all_offsets, loaded_at}
use Rattle.sp_core.specs.Typed.{Given, is_type, given_type}
use Rattle.sp_patterns.specs.Forms.{is_change}
use Rattle.sp_meets.specs.Around.{named, changed_by, changed_by_bounds, changed_by_spans, changed_in, changed_in_stages}
use Rattle.sp_fitting.proofs.Lists.{first_right}
use Rattle.sp_fitting.proofs.Rules.{word_list_right, bound_right, counter_right, counters_right, load_right, store_right, wide_right, pick_right, no_pick, machine_right, here_right}
use Rattle.sp_along.specs.AlongSymbols.{holds_symbol}

-- a number is in neither of two lists
pub none_of_both : (x : ℕ) (a b : List ℕ) → is_among x (a ++ b) ≡ false → (is_among x a ≡ false) × (is_among x b ≡ false)
none_of_both x [] b h = (refl, h)
none_of_both x (m ∷ a) b h =
    let p = or_parts (x == m) (is_among x (a ++ b)) h in
    let q = none_of_both x a b p.1 in
    (or_from (x == m) (is_among x a) p.0 q.0, q.1)

-- kinds whose words are no symbols
sram_none : (k : Kind) → is_sram k ≡ true → holds_symbol k ≡ false
sram_none Sram h = refl
sram_none Reg h = absurd (false≢true h)
sram_none Fifo h = absurd (false≢true h)
sram_none LineBuf h = absurd (false≢true h)
sram_none Dram h = absurd (false≢true h)
sram_none ArgIn h = absurd (false≢true h)
sram_none ArgOut h = absurd (false≢true h)

line_none : (k : Kind) → is_line k ≡ true → holds_symbol k ≡ false
line_none LineBuf h = refl
line_none Reg h = absurd (false≢true h)
line_none Fifo h = absurd (false≢true h)
line_none Sram h = absurd (false≢true h)
line_none Dram h = absurd (false≢true h)
line_none ArgIn h = absurd (false≢true h)
line_none ArgOut h = absurd (false≢true h)

fifo_none : (k : Kind) → is_fifo k ≡ true → holds_symbol k ≡ false
fifo_none Fifo h = refl
fifo_none Reg h = absurd (false≢true h)
fifo_none LineBuf h = absurd (false≢true h)
fifo_none Sram h = absurd (false≢true h)
fifo_none Dram h = absurd (false≢true h)
fifo_none ArgIn h = absurd (false≢true h)
fifo_none ArgOut h = absurd (false≢true h)

-- a memory that is declared has the kind of its declaration, and each one after these is a DRAM
declared_kind : (core : PlainCore) (m : ℕ) → nat_lt m (length core.mems) ≡ true → kind_of core m ≡ (mem core m).kind
declared_kind core m h = ap (λ b. if b then (mem core m).kind else Dram) h

dram_kind : (core : PlainCore) (r : ℕ) → kind_of core (dram_number core r) ≡ Dram
dram_kind core r = ap (λ b. if b then (mem core (dram_number core r)).kind else Dram) (le-ltb (dram_number core r) (length core.mems) (omega arith))

usable_there : (core : PlainCore) (around : Around) (m : ℕ) → is_usable core around m ≡ true → nat_lt m (length core.mems) ≡ true
usable_there core around m e = (and_parts (nat_lt m (length core.mems)) (is_port_kind (mem core m).kind || is_among m around.owned) e).0

module _ (core : PlainCore) (x : ℕ) (symbol : holds_symbol (kind_of core x) ≡ true) where
  -- a moment leaves what the memory holds
  abbrev pub Leaves : Moment → Type 0
  Leaves m = (s : Store) → after_moment core m s x ≡ s x

  abbrev pub AllLeave : List Moment → Type 0
  AllLeave ms = All Leaves ms

  none_leave : AllLeave []
  none_leave = All-nil Leaves

  more_leave : (m : Moment) (ms : List Moment) → Leaves m → AllLeave ms → AllLeave (m ∷ ms)
  more_leave m ms p h = All-cons Leaves m ms p h

  one_leaves : (m : Moment) → Leaves m → AllLeave (m ∷ [])
  one_leaves m p = more_leave m [] p none_leave

  both_leave : (ms ns : List Moment) → AllLeave ms → AllLeave ns → AllLeave (ms ++ ns)
  both_leave ms ns h k = All-append Leaves ms ns h k

  -- what is done to another memory
  other_holds : (m : ℕ) → (x == m) ≡ false → (s : Store) (c : Contents) → hold s m c x ≡ s x
  other_holds m h s c = ap (λ b. elim b as (λ _. Option Contents) [ true ↦ Some c | false ↦ s x ]) h

  renew_leaves : (m : ℕ) → (x == m) ≡ false → Leaves (renews m)
  renew_leaves m h = λ s. other_holds m h s _

  keep_leaves : (m w : ℕ) → (x == m) ≡ false → Leaves (keeps m w)
  keep_leaves m w h = λ s. other_holds m h s _

  -- a memory whose words are no symbols is another one
  is_other : (m : ℕ) → holds_symbol (kind_of core m) ≡ false → (x == m) ≡ false
  is_other m h = go (x == m) refl
    where
      go : (b : Bool) → (x == m) ≡ b → b ≡ false
      go false e = refl
      go true e = absurd (false≢true (sym h ∙ ap (λ n. holds_symbol (kind_of core n)) (sym (eqb-true x m e)) ∙ symbol))

  dram_other : (r : ℕ) → (x == dram_number core r) ≡ false
  dram_other r = is_other (dram_number core r) (ap holds_symbol (dram_kind core r))

  declared_other : (m : ℕ) → nat_lt m (length core.mems) ≡ true → holds_symbol (mem core m).kind ≡ false → (x == m) ≡ false
  declared_other m there h = is_other m (ap holds_symbol (declared_kind core m there) ∙ h)

  module _ (around : Around) where
    sram_other : (r m : ℕ) → is_sram_here core around r m ≡ true → (x == m) ≡ false
    sram_other r m e =
        let a = and_parts (is_usable core around m && is_sram (mem core m).kind) (is_type (mem core m).ty (dram core r).ty) e in
        let b = and_parts (is_usable core around m) (is_sram (mem core m).kind) a.0 in
        declared_other m (usable_there core around m b.0) (sram_none (mem core m).kind b.1)

    fits_other : (r m : ℕ) (spans : List PlainSpan) → fits_sram core around r m spans ≡ true → (x == m) ≡ false
    fits_other r m spans e = sram_other r m (and_parts (is_sram_here core around r m) (range_count spans == length (mem core m).dims) e).0

    line_other : (r m : ℕ) (spans : List PlainSpan) → fits_line core around r m spans ≡ true → (x == m) ≡ false
    line_other r m spans e =
        let a = and_parts ((is_usable core around m && is_line (mem core m).kind) && is_type (mem core m).ty (dram core r).ty) ((range_count spans == 1) && ends_in_range spans) e in
        let b = and_parts (is_usable core around m && is_line (mem core m).kind) (is_type (mem core m).ty (dram core r).ty) a.0 in
        let c = and_parts (is_usable core around m) (is_line (mem core m).kind) b.0 in
        declared_other m (usable_there core around m c.0) (line_none (mem core m).kind c.1)

    load_other : (r m : ℕ) (spans : List PlainSpan) → is_node_right core around (load r m spans) ≡ true → (x == m) ≡ false
    load_other r m spans e =
        let a = and_parts (is_slice_right core around r spans) (fits_sram core around r m spans || fits_line core around r m spans) e in
        ⊎_elim (fits_other r m spans) (line_other r m spans) (or_cases (fits_sram core around r m spans) (fits_line core around r m spans) a.1)

    wide_other : (r m : ℕ) (index : Option ℕ) (spans : List PlainSpan) (count : List PlainOp) (par : ℕ) → is_wide_right core around r m index spans count par ≡ true → (x == m) ≡ false
    wide_other r m index spans count par e =
        let a = and_parts (is_slice_right core around r spans && fits_sram core around r m spans) ((is_none core around index && (length count == 0)) && (nat_le 1 par && nat_le par 16)) e in
        fits_other r m spans (and_parts (is_slice_right core around r spans) (fits_sram core around r m spans) a.0).1

    pick_other : (r m : ℕ) (index : Option ℕ) (spans : List PlainSpan) (count : List PlainOp) (par : ℕ) → is_pick_right core around r m index spans count par ≡ true → (x == m) ≡ false
    pick_other r m index spans count par e =
        let a = and_parts ((nat_lt r (length core.ports.drams) && (length (dram core r).dims == 1)) && (is_sram_here core around r m && (length (mem core m).dims == 1)))
        ((are_places core around index && is_bound core around count) && ((length spans == 0) && (par == 1))) e in
        let b = and_parts (nat_lt r (length core.ports.drams) && (length (dram core r).dims == 1)) (is_sram_here core around r m && (length (mem core m).dims == 1)) a.0 in
        sram_other r m (and_parts (is_sram_here core around r m) (length (mem core m).dims == 1) b.1).0

    -- a gather or scatter has no span
    no_spans : (spans : List PlainSpan) → (length spans == 0) ≡ true → list_all (is_span_right core around) spans ≡ true
    no_spans [] h = refl
    no_spans (span ∷ spans) h = let e = eqb-true (length (span ∷ spans)) 0 h in absurd (omega (arith, e))

    no_spans_right : (r m : ℕ) (index : Option ℕ) (spans : List PlainSpan) (count : List PlainOp) (par : ℕ) → is_pick_right core around r m index spans count par ≡ true → list_all (is_span_right core around) spans ≡ true
    no_spans_right r m index spans count par e =
        let a = and_parts ((nat_lt r (length core.ports.drams) && (length (dram core r).dims == 1)) && (is_sram_here core around r m && (length (mem core m).dims == 1)))
        ((are_places core around index && is_bound core around count) && ((length spans == 0) && (par == 1))) e in
        let b = and_parts (are_places core around index && is_bound core around count) ((length spans == 0) && (par == 1)) a.1 in
        no_spans spans (and_parts (length spans == 0) (par == 1) b.1).0

    no_event : (n : ℕ) (st : Standing) (m : Option ℕ) (is : List ℕ) → AllLeave (event_of n st m is None)
    no_event n st None is = none_leave
    no_event n st (Some m) is = none_leave

    fifo_other : (kind : OpKind) (ty : Ty) (m : ℕ) → (can kind (mem core m).kind (mem core m).start ≡ true → is_fifo (mem core m).kind ≡ true) → names_rightly core around kind ty (Some m) ≡ true → (x == m) ≡ false
    fifo_other kind ty m f e =
        let a = and_parts (is_access kind && is_usable core around m) (can kind (mem core m).kind (mem core m).start && is_type ty (mem core m).ty) e in
        let b = and_parts (is_access kind) (is_usable core around m) a.0 in
        declared_other m (usable_there core around m b.1) (fifo_none (mem core m).kind (f (and_parts (can kind (mem core m).kind (mem core m).start) (is_type ty (mem core m).ty) a.1).0))

    not_named : (m : ℕ) → is_among x (m ∷ []) ≡ false → (x == m) ≡ false
    not_named m h = (or_parts (x == m) false h).0

    entry_leaves : (n : ℕ) (st : Standing) (kind : OpKind) (ty : Ty) (m : Option ℕ) (e : Entry) → names_rightly core around kind ty m ≡ true → is_among x (if is_change kind then named m else []) ≡ false → AllLeave (entry_moments n st kind m e)
    entry_leaves n st kind ty m left_out r h = none_leave
    entry_leaves n st kind ty m (gave w) r h = none_leave
    entry_leaves n st (Word v) ty m (touched is w) r h = no_event n st m is
    entry_leaves n st (Count c lane) ty m (touched is w) r h = no_event n st m is
    entry_leaves n st (Live c first last) ty m (touched is w) r h = no_event n st m is
    entry_leaves n st (One op) ty m (touched is w) r h = no_event n st m is
    entry_leaves n st (Two op) ty m (touched is w) r h = no_event n st m is
    entry_leaves n st (Shift left by) ty m (touched is w) r h = no_event n st m is
    entry_leaves n st Mux ty m (touched is w) r h = no_event n st m is
    entry_leaves n st (Cast to) ty m (touched is w) r h = no_event n st m is
    entry_leaves n st Read ty None (touched is w) r h = none_leave
    entry_leaves n st Write ty None (touched is w) r h = none_leave
    entry_leaves n st Enq ty None (touched is w) r h = none_leave
    entry_leaves n st Deq ty None (touched is w) r h = none_leave
    entry_leaves n st Reset ty None (touched is w) r h = none_leave
    entry_leaves n st Read ty (Some m) (touched is w) r h = one_leaves _ (λ s. refl)
    entry_leaves n st Write ty (Some m) (touched is w) r h = one_leaves _ (λ s. other_holds m (not_named m h) s _)
    entry_leaves n st Enq ty (Some m) (touched is w) r h = one_leaves _ (λ s. other_holds m (fifo_other Enq ty m (λ c. c) r) s _)
    entry_leaves n st Deq ty (Some m) (touched is w) r h = one_leaves _ (λ s. other_holds m (fifo_other Deq ty m (λ c. c) r) s _)
    entry_leaves n st Reset ty (Some m) (touched is w) r h = one_leaves _ (λ s. other_holds m (not_named m h) s _)

    after_leave : (given : Given) (n : ℕ) (st : Standing) (ops : List PlainOp) (es : List Entry) → are_operations_right_after core around given ops ≡ true → is_among x (changed_by ops) ≡ false → AllLeave (list_moments n st ops es)
    after_leave given n st [] es e h = none_leave
    after_leave given n st (op ∷ ops) [] e h = none_leave
    after_leave given n st (op ∷ ops) (y ∷ es) e h =
        let r = first_right core around given op ops e in
        let q = none_of_both x (if is_change op.kind then named op.mem else []) (changed_by ops) h in
        both_leave _ _ (entry_leaves n st op.kind op.ty op.mem y r.0.names q.0) (after_leave (given ++ given_type op.kind op.ty ∷ []) (suc n) st ops es r.1 q.1)

    list_leaves : (n : ℕ) (st : Standing) (ops : List PlainOp) (es : List Entry) → are_operations_right core around ops ≡ true → is_among x (changed_by ops) ≡ false → AllLeave (list_moments n st ops es)
    list_leaves n st ops es e h = after_leave [] n st ops es e h

    bounds_leave : (n : ℕ) (st : Standing) (counters : List PlainCounter) (bs : List Bounds) → list_all (is_counter_right core around) counters ≡ true → is_among x (changed_by_bounds counters) ≡ false → AllLeave (bounds_moments n st counters bs)
    bounds_leave n st [] bs e h = none_leave
    bounds_leave n st (c ∷ counters) [] e h = none_leave
    bounds_leave n st (c ∷ counters) (b ∷ bs) e h =
        let r = and_parts (is_counter_right core around c) (list_all (is_counter_right core around) counters) e in
        let q = counter_right core around c r.0 in
        let i = none_of_both x (changed_by c.from ++ changed_by c.until) (changed_by_bounds counters) h in
        let j = none_of_both x (changed_by c.from) (changed_by c.until) i.0 in
        both_leave _ _ (both_leave _ _ (list_leaves n st c.from b.from q.0 j.0) (list_leaves (n + length c.from) st c.until b.until q.1 j.1)) (bounds_leave (n + (length c.from + length c.until)) st counters bs r.1 i.1)

    spans_leave : (n : ℕ) (st : Standing) (spans : List PlainSpan) (ts : List Taken) → list_all (is_span_right core around) spans ≡ true → is_among x (changed_by_spans spans) ≡ false → AllLeave (spans_moments n st spans ts)
    spans_leave n st [] ts e h = none_leave
    spans_leave n st (single ops ∷ spans) [] e h = none_leave
    spans_leave n st (range a b ∷ spans) [] e h = none_leave
    spans_leave n st (single ops ∷ spans) (one es ∷ ts) e h =
        let r = and_parts (is_span_right core around (single ops)) (list_all (is_span_right core around) spans) e in
        let i = none_of_both x (changed_by ops) (changed_by_spans spans) h in
        both_leave _ _ (list_leaves n st ops es (bound_right core around ops r.0) i.0) (spans_leave (n + length ops) st spans ts r.1 i.1)
    spans_leave n st (single ops ∷ spans) (both es fs ∷ ts) e h = none_leave
    spans_leave n st (range a b ∷ spans) (one es ∷ ts) e h = none_leave
    spans_leave n st (range a b ∷ spans) (both es fs ∷ ts) e h =
        let r = and_parts (is_span_right core around (range a b)) (list_all (is_span_right core around) spans) e in
        let q = and_parts (is_bound core around a) (is_bound core around b) r.0 in
        let i = none_of_both x (changed_by a ++ changed_by b) (changed_by_spans spans) h in
        let j = none_of_both x (changed_by a) (changed_by b) i.0 in
        both_leave _ _ (both_leave _ _ (list_leaves n st a es (bound_right core around a q.0) j.0) (list_leaves (n + length a) st b fs (bound_right core around b q.1) j.1)) (spans_leave (n + (length a + length b)) st spans ts r.1 i.1)

  all_renew : (owned : List ℕ) → is_among x owned ≡ false → AllLeave (map renews owned)
  all_renew [] h = none_leave
  all_renew (m ∷ owned) h = let p = or_parts (x == m) (is_among x owned) h in more_leave (renews m) (map renews owned) (renew_leaves m p.0) (all_renew owned p.1)

  renewal_leaves : (m : ℕ) → (x == m) ≡ false → AllLeave (renewal_in_body core m)
  renewal_leaves m h = go (has_reset (mem core m).kind (mem core m).start)
    where
      go : (b : Bool) → AllLeave (elim b as (λ _. List Moment) [ true ↦ [] | false ↦ renews m ∷ [] ])
      go true = none_leave
      go false = one_leaves (renews m) (renew_leaves m h)

  all_renew_in_body : (owned : List ℕ) → is_among x owned ≡ false → AllLeave (flat_map (renewal_in_body core) owned)
  all_renew_in_body [] h = none_leave
  all_renew_in_body (m ∷ owned) h = let p = or_parts (x == m) (is_among x owned) h in both_leave (renewal_in_body core m) _ (renewal_leaves m p.0) (all_renew_in_body owned p.1)

  -- transfers
  module _ (n : ℕ) (st : Standing) where
    row_turns : (kind : Kind) (m : ℕ) → (x == m) ≡ false → AllLeave (rows_turn core n st kind m)
    row_turns LineBuf m h = one_leaves _ (λ s. other_holds m h s _)
    row_turns Reg m h = none_leave
    row_turns Sram m h = none_leave
    row_turns Fifo m h = none_leave
    row_turns Dram m h = none_leave
    row_turns ArgIn m h = none_leave
    row_turns ArgOut m h = none_leave

    slice_leaves : (parts : List Part) (ms : List Moment) → AllLeave ms → AllLeave (slice_moments core n st parts ms)
    slice_leaves parts ms h = go (has_none (lengths parts))
      where
        go : (b : Bool) → AllLeave (elim b as (λ _. List Moment) [ true ↦ [] | false ↦ slices (record { number = n; standing = st; firsts = map first_of parts; lengths = lengths parts }) ∷ ms ])
        go true = none_leave
        go false = more_leave (slices (record { number = n; standing = st; firsts = map first_of parts; lengths = lengths parts })) ms (λ s. refl) h

    module _ (r m : ℕ) (other : (x == m) ≡ false) where
      loads_leave : (parts : List Part) (offsets : List (List ℕ)) (ws : List ℕ) → AllLeave (load_moments core n st r m parts offsets ws)
      loads_leave parts [] ws = none_leave
      loads_leave parts (o ∷ offsets) [] = none_leave
      loads_leave parts (o ∷ offsets) (w ∷ ws) =
          let put : Moment = mem_event core n st m (loaded_at core (kind_of core m) m o) (writes w) in
          more_leave (dram_event core n st r (places_of parts o) (reads w)) (put ∷ load_moments core n st r m parts offsets ws) (λ s. refl)
          (more_leave put (load_moments core n st r m parts offsets ws) (λ s. other_holds m other s _) (loads_leave parts offsets ws))

      stores_leave : (parts : List Part) (offsets : List (List ℕ)) (ws : List ℕ) → AllLeave (store_moments core n st r m parts offsets ws)
      stores_leave parts [] ws = none_leave
      stores_leave parts (o ∷ offsets) [] = none_leave
      stores_leave parts (o ∷ offsets) (w ∷ ws) =
          let put : Moment = dram_event core n st r (places_of parts o) (writes w) in
          more_leave (mem_event core n st m o (reads w)) (put ∷ store_moments core n st r m parts offsets ws) (λ s. refl)
          (more_leave put (store_moments core n st r m parts offsets ws) (λ s. other_holds (dram_number core r) (dram_other r) s _) (stores_leave parts offsets ws))

      loaded_leaves : (parts : List Part) (ws : List ℕ) → AllLeave (loaded core n st r m parts ws)
      loaded_leaves parts ws = slice_leaves parts _ (both_leave (rows_turn core n st (kind_of core m) m) _ (row_turns (kind_of core m) m other) (loads_leave parts (all_offsets parts) ws))

      stored_leaves : (parts : List Part) (ws : List ℕ) → AllLeave (stored core n st r m parts ws)
      stored_leaves parts ws = slice_leaves parts _ (stores_leave parts (all_offsets parts) ws)

      module _ (p : ℕ) where
        gathers_leave : (k : ℕ) (ws : List (ℕ × ℕ)) → AllLeave (gather_moments core n st r m p k ws)
        gathers_leave k [] = none_leave
        gathers_leave k ((i, w) ∷ ws) =
            let found : Moment = dram_event core n st r (natural (index_value i) ∷ []) (reads w) in
            let put : Moment = mem_event core n st m (k ∷ []) (writes w) in
            let rest : List Moment = gather_moments core n st r m p (suc k) ws in
            more_leave (mem_event core n st p (k ∷ []) (reads i)) (found ∷ put ∷ rest) (λ s. refl)
            (more_leave found (put ∷ rest) (λ s. refl) (more_leave put rest (λ s. other_holds m other s _) (gathers_leave (suc k) ws)))

        scatters_leave : (k : ℕ) (ws : List (ℕ × ℕ)) → AllLeave (scatter_moments core n st r m p k ws)
        scatters_leave k [] = none_leave
        scatters_leave k ((i, w) ∷ ws) =
            let found : Moment = mem_event core n st m (k ∷ []) (reads w) in
            let put : Moment = dram_event core n st r (natural (index_value i) ∷ []) (writes w) in
            let rest : List Moment = scatter_moments core n st r m p (suc k) ws in
            more_leave (mem_event core n st p (k ∷ []) (reads i)) (found ∷ put ∷ rest) (λ s. refl)
            (more_leave found (put ∷ rest) (λ s. refl) (more_leave put rest (λ s. other_holds (dram_number core r) (dram_other r) s _) (scatters_leave (suc k) ws)))

        picked_leave : (ws : List (ℕ × ℕ)) (ms : List Moment) → AllLeave ms → AllLeave (picked_moments core n st ws ms)
        picked_leave [] ms h = none_leave
        picked_leave (w ∷ ws) ms h = more_leave (slices (record { number = n; standing = st; firsts = []; lengths = length (w ∷ ws) ∷ [] })) ms (λ s. refl) h

  module _ (reading : Reading) where
    body_leaves : (around : Around) (k n g : ℕ) (st : Standing) (owned : List ℕ) (ops : List PlainOp) (values : List (List ℤ)) (groups : List (List Entry)) → are_operations_right core around ops ≡ true → is_among x owned ≡ false → is_among x (changed_by ops) ≡ false
        → AllLeave (body_moments core reading k n g st owned ops values groups)
    body_leaves around k n g st owned ops [] groups e h i = none_leave
    body_leaves around k n g st owned ops (v ∷ values) [] e h i = none_leave
    body_leaves around k n g st owned ops (v ∷ values) (es ∷ groups) e h i =
        both_leave _ _ (both_leave _ _ (all_renew_in_body owned h) (list_leaves around n (inside_at st k (in_group_of g 0) v) ops es e i)) (body_leaves around k n (suc g) st owned ops values groups e h i)

    mutual
      unfolding moments group_moments stage_moments turn_moments

      pub node_leaves : (node : PlainNode) (around : Around) (earlier : List ℕ) → IsRight core around earlier node → is_among x (changed_in node) ≡ false → (h : History) (k n : ℕ) (st : Standing) → AllLeave (moments core reading node k n st h)
      node_leaves (inner counters owned ops comb) around earlier right q (inner_ran bs counts groups) k n st =
          let a = and_parts (are_counters_right core around counters) (are_operations_right core (within around counters owned) ops) (here_right core around earlier (inner counters owned ops comb) right).0 in
          let b = none_of_both x (changed_by_bounds counters) (owned ++ changed_by ops) q in
          let c = none_of_both x owned (changed_by ops) b.1 in
          both_leave _ _ (bounds_leave around n (inside_at st k before []) counters bs (counters_right core around counters a.0) b.0)
          (body_leaves (within around counters owned) k (n + counters_size counters) 0 st owned ops (group_values (loops_of reading counters bs)) groups a.1 c.0 c.1)
      node_leaves (outer counters style owned stages) around earlier right q (outer_ran bs counts groups) k n st =
          let a = and_parts (are_counters_right core around counters) (are_lanes_right (lanes_of counters) stages) (here_right core around earlier (outer counters style owned stages) right.0).0 in
          let b = none_of_both x (changed_by_bounds counters) (owned ++ changed_in_stages stages) q in
          let c = none_of_both x owned (changed_in_stages stages) b.1 in
          both_leave _ _ (bounds_leave around n (inside_at st k before []) counters bs (counters_right core around counters a.0) b.0)
          (groups_leave stages (within around counters owned) (earlier ++ owned) right.1 c.1 groups k (n + counters_size counters) 0 st owned c.0 (group_values (loops_of reading counters bs)))
      node_leaves (fsm start state test body next) around earlier right q (fsm_ran first ts last) k n st =
          let a = here_right core around earlier (fsm start state test body next) right.0 in
          let m = machine_right core around start state test body next a.0 in
          let b = or_parts (x == state) (is_among x ((changed_by start ++ changed_by test) ++ (changed_in body ++ changed_by next))) q in
          let c = none_of_both x (changed_by start ++ changed_by test) (changed_in body ++ changed_by next) b.1 in
          let d = none_of_both x (changed_by start) (changed_by test) c.0 in
          let f = none_of_both x (changed_in body) (changed_by next) c.1 in
          both_leave _ _ (both_leave _ _ (list_leaves around n (inside_at st k before []) start first (word_list_right core around start _ m.start_right).0 d.0) (one_leaves _ (keep_leaves state (last_word first) b.0)))
          (turns_leave start state test body next around (earlier ++ state ∷ []) right.1 m.test_right (word_list_right core (with_state core around state) next _ m.next_right).0 b.0 d.1 f.0 f.1 ts last k n 0 st)
      node_leaves (branch test first second) around earlier right q (branch_ran es true y) k n st =
          let b = none_of_both x (changed_by test) (changed_in first ++ changed_in second) q in
          let c = none_of_both x (changed_in first) (changed_in second) b.1 in
          both_leave _ _ (list_leaves around n (inside_at st k (in_turn 0) []) test es (word_list_right core around test _ (here_right core around earlier (branch test first second) right.0).0).0 b.0)
          (node_leaves first around earlier right.1 c.0 y (suc k) (n + length test) (inside_at st k (in_turn 0) []))
      node_leaves (branch test first second) around earlier right q (branch_ran es false y) k n st =
          let b = none_of_both x (changed_by test) (changed_in first ++ changed_in second) q in
          let c = none_of_both x (changed_in first) (changed_in second) b.1 in
          both_leave _ _ (list_leaves around n (inside_at st k (in_turn 0) []) test es (word_list_right core around test _ (here_right core around earlier (branch test first second) right.0).0).0 b.0)
          (node_leaves second around (earlier ++ owned_in first) right.2 c.1 y (suc k + node_count first) (n + (length test + number_count first)) (inside_at st k (in_turn 0) []))
      node_leaves (load r m spans) around earlier right q (moved ts ws) k n st =
          let e = (here_right core around earlier (load r m spans) right).0 in
          both_leave _ _ (spans_leave around n st spans ts (load_right core around r m spans e).spans_right q) (loaded_leaves (n + spans_size spans) st r m (load_other around r m spans e) (map part_of ts) ws)
      node_leaves (store r m spans) around earlier right q (moved ts ws) k n st =
          let e = (here_right core around earlier (store r m spans) right).0 in
          both_leave _ _ (spans_leave around n st spans ts (store_right core around r m spans e).spans_right q)
          (stored_leaves (n + spans_size spans) st r m (fits_other around r m spans (and_parts (is_slice_right core around r spans) (fits_sram core around r m spans) e).1) (map part_of ts) ws)
      node_leaves (sparse WideLoad r m index spans count par) around earlier right q (moved ts ws) k n st =
          let e = (here_right core around earlier (sparse WideLoad r m index spans count par) right).0 in
          let b = none_of_both x (changed_by_spans spans) (changed_by count) q in
          both_leave _ _ (spans_leave around n st spans ts (wide_right core around r m index spans count par e).spans_right b.0)
          (loaded_leaves (n + (spans_size spans + length count)) st r m (wide_other around r m index spans count par e) (map part_of ts) ws)
      node_leaves (sparse WideStore r m index spans count par) around earlier right q (moved ts ws) k n st =
          let e = (here_right core around earlier (sparse WideStore r m index spans count par) right).0 in
          let b = none_of_both x (changed_by_spans spans) (changed_by count) q in
          both_leave _ _ (spans_leave around n st spans ts (wide_right core around r m index spans count par e).spans_right b.0)
          (stored_leaves (n + (spans_size spans + length count)) st r m (wide_other around r m index spans count par e) (map part_of ts) ws)
      node_leaves (sparse Gather r m (Some p) spans count par) around earlier right q (picked es ws) k n st =
          let e = (here_right core around earlier (sparse Gather r m (Some p) spans count par) right).0 in
          let b = none_of_both x (changed_by_spans spans) (changed_by count) q in
          let o = pick_other around r m (Some p) spans count par e in
          both_leave _ _ (list_leaves around (n + spans_size spans) st count es (pick_right core around r m p spans count par e).count_right b.1)
          (picked_leave (n + (spans_size spans + length count)) st r m o p ws _ (gathers_leave (n + (spans_size spans + length count)) st r m o p 0 ws))
      node_leaves (sparse Gather r m (Some p) spans count par) around earlier right q (moved ts ws) k n st =
          let e = (here_right core around earlier (sparse Gather r m (Some p) spans count par) right).0 in
          let b = none_of_both x (changed_by_spans spans) (changed_by count) q in
          both_leave _ _ (spans_leave around n st spans ts (no_spans_right around r m (Some p) spans count par e) b.0)
          (loaded_leaves (n + (spans_size spans + length count)) st r m (pick_other around r m (Some p) spans count par e) (map part_of ts) ws)
      node_leaves (sparse Gather r m None spans count par) around earlier right q y k n st =
          absurd (no_pick core around r m spans count par (here_right core around earlier (sparse Gather r m None spans count par) right).0)
      node_leaves (sparse Scatter r m (Some p) spans count par) around earlier right q (picked es ws) k n st =
          let e = (here_right core around earlier (sparse Scatter r m (Some p) spans count par) right).0 in
          let b = none_of_both x (changed_by_spans spans) (changed_by count) q in
          let o = pick_other around r m (Some p) spans count par e in
          both_leave _ _ (list_leaves around (n + spans_size spans) st count es (pick_right core around r m p spans count par e).count_right b.1)
          (picked_leave (n + (spans_size spans + length count)) st r m o p ws _ (scatters_leave (n + (spans_size spans + length count)) st r m o p 0 ws))
      node_leaves (sparse Scatter r m (Some p) spans count par) around earlier right q (moved ts ws) k n st =
          let e = (here_right core around earlier (sparse Scatter r m (Some p) spans count par) right).0 in
          let b = none_of_both x (changed_by_spans spans) (changed_by count) q in
          both_leave _ _ (spans_leave around n st spans ts (no_spans_right around r m (Some p) spans count par e) b.0)
          (loaded_leaves (n + (spans_size spans + length count)) st r m (pick_other around r m (Some p) spans count par e) (map part_of ts) ws)
      node_leaves (sparse Scatter r m None spans count par) around earlier right q y k n st =
          absurd (no_pick core around r m spans count par (here_right core around earlier (sparse Scatter r m None spans count par) right).0)
      node_leaves node around earlier right q y k n st = none_leave

      groups_leave : (stages : PlainStages) (around : Around) (earlier : List ℕ) → AreRight core around earlier stages → is_among x (changed_in_stages stages) ≡ false → (groups : Groups) (k n g : ℕ) (st : Standing) (owned : List ℕ) → is_among x owned ≡ false → (values : List (List ℤ))
          → AllLeave (group_moments core reading stages k n g st owned values groups)
      groups_leave stages around earlier right q no_group k n g st owned h [] = none_leave
      groups_leave stages around earlier right q no_group k n g st owned h (v ∷ values) = none_leave
      groups_leave stages around earlier right q (more_group runs rest) k n g st owned h [] = none_leave
      groups_leave stages around earlier right q (more_group runs rest) k n g st owned h (v ∷ values) =
          both_leave _ _ (both_leave _ _ (all_renew owned h) (stages_leave stages around earlier right q runs k n 0 g (suc k) v st)) (groups_leave stages around earlier right q rest k n (suc g) st owned h values)

      stages_leave : (stages : PlainStages) (around : Around) (earlier : List ℕ) → AreRight core around earlier stages → is_among x (changed_in_stages stages) ≡ false → (runs : Runs) (k n s g j : ℕ) (v : List ℤ) (st : Standing)
          → AllLeave (stage_moments core reading stages k n s g j v st runs)
      stages_leave no_stage around earlier right q runs k n s g j v st = none_leave
      stages_leave (more_stage first last comb node rest) around earlier right q no_run k n s g j v st = none_leave
      stages_leave (more_stage first last comb node rest) around earlier right q (masked_run hs) k n s g j v st =
          stages_leave rest around (earlier ++ owned_in node) right.1 (none_of_both x (changed_in node) (changed_in_stages rest) q).1 hs k (n + number_count node) (suc s) g (j + node_count node) v st
      stages_leave (more_stage first last comb node rest) around earlier right q (more_run y hs) k n s g j v st =
          let b = none_of_both x (changed_in node) (changed_in_stages rest) q in
          both_leave _ _ (node_leaves node around earlier right.0 b.0 y j n (inside_at st k (in_group_of g s) v)) (stages_leave rest around (earlier ++ owned_in node) right.1 b.1 hs k (n + number_count node) (suc s) g (j + node_count node) v st)

      turns_leave : (start : List PlainOp) (state : ℕ) (test : List PlainOp) (body : PlainNode) (next : List PlainOp) (around : Around) (earlier : List ℕ) → IsRight core (with_state core around state) earlier body
          → are_operations_right core (with_state core around state) test ≡ true → are_operations_right core (with_state core around state) next ≡ true
          → (x == state) ≡ false → is_among x (changed_by test) ≡ false → is_among x (changed_in body) ≡ false → is_among x (changed_by next) ≡ false
          → (ts : Turns) (last : List Entry) (k n t : ℕ) (st : Standing) → AllLeave (turn_moments core reading start state test body next k n t st ts last)
      turns_leave start state test body next around earlier right tested stepped a b c d no_turn last k n t st = list_leaves (with_state core around state) (n + length start) (inside_at st k (in_turn t) []) test last tested b
      turns_leave start state test body next around earlier right tested stepped a b c d (more_turn es y ns rest) last k n t st =
          both_leave _ _
          (both_leave _ _ (list_leaves (with_state core around state) (n + length start) (inside_at st k (in_turn t) []) test es tested b)
          (both_leave _ _ (node_leaves body (with_state core around state) earlier right c y (suc k) (n + (length start + length test)) (inside_at st k (in_turn t) []))
          (both_leave _ _ (list_leaves (with_state core around state) (n + (length start + (length test + number_count body))) (inside_at st k (in_turn t) []) next ns stepped d)
          (one_leaves _ (keep_leaves state (last_word ns) a)))))
          (turns_leave start state test body next around earlier right tested stepped a b c d rest last k n (suc t) st)
