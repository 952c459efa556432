-- What happens in a run whose history fits has words of their types, and each store of it fits.
use Rattle.std.proofs.Common.{◌≡◌, ℕ, suc, ◌+◌, Bool, true, false, ℤ, List, [], ◌∷◌, ◌++◌, length, map, flat_map, Option, Some, None, All, sym, subst}
use Rattle.std.proofs.lemmas.Bool.{and_parts}
use Rattle.std.proofs.lemmas.List.Elements.{All-nil, All-cons, All-head, All-tail, All-append}
use Rattle.std.specs.List.{AllZip, list_all}
use Rattle.std.specs.Prelude.{nat_lt}
use Rattle.sp_words.specs.declared.kind.Kind.{Kind}
use Rattle.sp_words.specs.declared.kind.Kind.TheVariants.{Reg, Sram, Fifo, LineBuf, Dram, ArgIn, ArgOut}
use Rattle.sp_words.specs.declared.types.Ty.{Ty}
use Rattle.sp_words.specs.Types.{int_type}
use Rattle.sp_words.specs.Words.{IsWord}
use Rattle.sp_core.specs.declared.node.SparseKind.TheVariants.{Gather, Scatter, WideLoad, WideStore}
use Rattle.sp_core.specs.declared.operation.OpKind.{OpKind}
use Rattle.sp_core.specs.declared.operation.OpKind.TheVariants.{Word, Count, Live, Read, Write, Enq, Deq, Reset, One, Two, Shift, Mux, Cast}
use Rattle.sp_core.specs.Around.{Around, lanes_of, within}
use Rattle.sp_core.specs.Declarations.{mem, kind_of, dims}
use Rattle.sp_core.specs.Elements.{index_value, natural}
use Rattle.sp_core.specs.Events.{Act, reads, writes, puts, takes, resets, turns, before, in_group_of, in_turn, Standing, inside_at, Moment, touches, slices, renews, keeps, act_of, event_of, entry_moments, list_moments, bounds_moments, spans_moments, first_of, dram_event, mem_event, rows_turn, load_moments, store_moments, slice_moments, loaded, stored, gather_moments, scatter_moments, picked_moments, renewal_in_body, body_moments, moments, group_moments, stage_moments, turn_moments}
use Rattle.sp_core.specs.History.{Entry, left_out, gave, touched, last_word, Bounds, Taken, one, both, History, Groups, Runs, Turns, inner_ran, outer_ran, fsm_ran, branch_ran, moved, picked, no_group, more_group, no_run, masked_run, more_run, no_turn, more_turn}
use Rattle.sp_core.specs.Invariant.{IsRight, AreRight, owned_in}
use Rattle.sp_core.specs.MemoryRules.{are_memories_right}
use Rattle.sp_core.specs.NodeRules.{are_counters_right, are_lanes_right, is_span_right, with_state}
use Rattle.sp_core.specs.Numbering.{counters_size, spans_size, node_count, number_count}
use Rattle.sp_core.specs.OperationRules.{names_rightly, are_operations_right_after, are_operations_right, is_word_list, is_bound, is_counter_right}
use Rattle.sp_core.specs.PlainCore.{PlainOp, PlainCounter, PlainSpan, single, range, PlainNode, PlainStages, inner, outer, fsm, branch, load, store, sparse, no_stage, more_stage, PlainCore}
use Rattle.sp_core.specs.Replay.{after_act, after_moment}
use Rattle.sp_core.specs.Scope.{Reading, loops_of, group_values}
use Rattle.sp_core.specs.Sequential.{has_reset}
use Rattle.sp_core.specs.Store.{Store}
use Rattle.sp_core.specs.Transfers.{Part, part_of, lengths, has_none, places_of, all_offsets, loaded_at}
use Rattle.sp_core.specs.Typed.{Given, is_type, given_type}
use Rattle.sp_fitting.specs.Fitting.{type_at, IsCell, StoreFits, EntriesFit, BoundsFit, SpanFits, OfDram, IsPicked, HistoryFits, GroupsFit, RunsFit, TurnsFit, MomentFits, EachStore}
use Rattle.sp_fitting.proofs.Contents.{word_put, newest_put, oldest_taken, rows_turned, fresh_fits, held, type_of_mem, same_word_back}
use Rattle.sp_fitting.proofs.Lists.{EntryFits, first_right, typed_at, into_memory, last_fits}
use Rattle.sp_fitting.proofs.Rules.{word_list_right, bound_right, counter_right, counters_right, load_right, store_right, wide_right, pick_right, no_pick, machine_right, state_there, here_right}
use Rattle.sp_fitting.proofs.Transfers.{AreAlike, alike}

module _ (core : PlainCore) where
  abbrev pub AreFit : List Moment → Type 0
  AreFit ms = All (MomentFits core) ms

  none_fit : AreFit []
  none_fit = All-nil (MomentFits core)

  one_fits : (m : Moment) → MomentFits core m → AreFit (m ∷ [])
  one_fits m p = All-cons (MomentFits core) m [] p none_fit

  more_fit : (m : Moment) (ms : List Moment) → MomentFits core m → AreFit ms → AreFit (m ∷ ms)
  more_fit m ms p h = All-cons (MomentFits core) m ms p h

  both_fit : (ms ns : List Moment) → AreFit ms → AreFit ns → AreFit (ms ++ ns)
  both_fit ms ns h k = All-append (MomentFits core) ms ns h k

  -- one moment, and all of a run, from a store whose words fit
  moment_keeps : are_memories_right core ≡ true → (m : Moment) (s : Store) → MomentFits core m → StoreFits core s → StoreFits core (after_moment core m s)
  moment_keeps memories (touches e) s p fits = act e.mem e.indices e.act p
    where
      act : (m : ℕ) (is : List ℕ) (a : Act) → MomentFits core (touches (record { number = e.number; standing = e.standing; mem = m; indices = is; act = a })) → StoreFits core (after_act core m is a s)
      act m is (reads w) p = fits
      act m is (writes w) p = held core s m _ (word_put (type_at core m) (kind_of core m) (dims core m) is w (s m) p (fits m)) fits
      act m is (puts w) p = held core s m _ (newest_put (type_at core m) w (s m) p (fits m)) fits
      act m is (takes w) p = held core s m _ (oldest_taken (type_at core m) (s m) (fits m)) fits
      act m is resets p = held core s m _ (fresh_fits core m memories) fits
      act m is turns p = held core s m _ (rows_turned (type_at core m) (dims core m) (s m) (fits m)) fits
  moment_keeps memories (slices slice) s p fits = fits
  moment_keeps memories (renews m) s p fits = held core s m _ (fresh_fits core m memories) fits
  moment_keeps memories (keeps m w) s p fits = held core s m _ (All-cons (IsCell (type_at core m)) (Some w) [] p (All-nil (IsCell (type_at core m)))) fits

  pub stores_fit : are_memories_right core ≡ true → (ms : List Moment) (s : Store) → AreFit ms → StoreFits core s → EachStore core (StoreFits core) ms s
  stores_fit memories [] s h fits = fits
  stores_fit memories (m ∷ ms) s h fits = (fits, stores_fit memories ms (after_moment core m s) (All-tail (MomentFits core) m ms h) (moment_keeps memories m s (All-head (MomentFits core) m ms h) fits))

  -- what holds in each store that fits holds in each store of such a run
  pub each_store : (P R : Store → Type 0) → ((s : Store) → P s → R s) → (ms : List Moment) (s : Store) → EachStore core P ms s → EachStore core R ms s
  each_store P R f [] s h = f s h
  each_store P R f (m ∷ ms) s h = (f s h.0, each_store P R f ms (after_moment core m s) h.1)

  module _ (around : Around) where
    event_fits : (n : ℕ) (st : Standing) (kind : OpKind) (ty : Ty) (m : Option ℕ) (is : List ℕ) (w : ℕ) → names_rightly core around kind ty m ≡ true → EntryFits kind ty (touched is w) → AreFit (event_of n st m is (act_of kind w))
    event_fits n st kind ty None is w e p = none_fit
    event_fits n st Read ty (Some m) is w e p = one_fits _ (into_memory core around ty m w (typed_at core around Read ty m e) p)
    event_fits n st Write ty (Some m) is w e p = one_fits _ (into_memory core around ty m w (typed_at core around Write ty m e) p)
    event_fits n st Enq ty (Some m) is w e p = one_fits _ (into_memory core around ty m w (typed_at core around Enq ty m e) p)
    event_fits n st Deq ty (Some m) is w e p = one_fits _ (into_memory core around ty m w (typed_at core around Deq ty m e) p)
    event_fits n st Reset ty (Some m) is w e p = one_fits _ tt
    event_fits n st (Word x) ty (Some m) is w e p = none_fit
    event_fits n st (Count c lane) ty (Some m) is w e p = none_fit
    event_fits n st (Live c first last) ty (Some m) is w e p = none_fit
    event_fits n st (One op) ty (Some m) is w e p = none_fit
    event_fits n st (Two op) ty (Some m) is w e p = none_fit
    event_fits n st (Shift left by) ty (Some m) is w e p = none_fit
    event_fits n st Mux ty (Some m) is w e p = none_fit
    event_fits n st (Cast to) ty (Some m) is w e p = none_fit

    entry_fits : (n : ℕ) (st : Standing) (kind : OpKind) (ty : Ty) (m : Option ℕ) (x : Entry) → names_rightly core around kind ty m ≡ true → EntryFits kind ty x → AreFit (entry_moments n st kind m x)
    entry_fits n st kind ty m left_out e p = none_fit
    entry_fits n st kind ty m (gave w) e p = none_fit
    entry_fits n st kind ty m (touched is w) e p = event_fits n st kind ty m is w e p

    after_fit : (given : Given) (n : ℕ) (st : Standing) (ops : List PlainOp) (es : List Entry) → are_operations_right_after core around given ops ≡ true → EntriesFit ops es → AreFit (list_moments n st ops es)
    after_fit given n st [] es e h = none_fit
    after_fit given n st (op ∷ ops) [] e h = none_fit
    after_fit given n st (op ∷ ops) (x ∷ es) e h =
        let r = first_right core around given op ops e in
        both_fit _ _ (entry_fits n st op.kind op.ty op.mem x r.0.names h.0) (after_fit (given ++ given_type op.kind op.ty ∷ []) (suc n) st ops es r.1 h.1)

    pub list_fit : (n : ℕ) (st : Standing) (ops : List PlainOp) (es : List Entry) → are_operations_right core around ops ≡ true → EntriesFit ops es → AreFit (list_moments n st ops es)
    list_fit n st ops es e h = after_fit [] n st ops es e h

    bounds_fit : (n : ℕ) (st : Standing) (counters : List PlainCounter) (bs : List Bounds) → list_all (is_counter_right core around) counters ≡ true → AllZip BoundsFit counters bs → AreFit (bounds_moments n st counters bs)
    bounds_fit n st [] bs e h = none_fit
    bounds_fit n st (c ∷ counters) [] e h = none_fit
    bounds_fit n st (c ∷ counters) (b ∷ bs) e h =
        let r = and_parts (is_counter_right core around c) (list_all (is_counter_right core around) counters) e in
        let q = counter_right core around c r.0 in
        both_fit _ _ (both_fit _ _ (list_fit n st c.from b.from q.0 h.0.0) (list_fit (n + length c.from) st c.until b.until q.1 h.0.1)) (bounds_fit (n + (length c.from + length c.until)) st counters bs r.1 h.1)

    spans_fit : (n : ℕ) (st : Standing) (spans : List PlainSpan) (ts : List Taken) → list_all (is_span_right core around) spans ≡ true → AllZip SpanFits spans ts → AreFit (spans_moments n st spans ts)
    spans_fit n st [] ts e h = none_fit
    spans_fit n st (single ops ∷ spans) [] e h = none_fit
    spans_fit n st (range a b ∷ spans) [] e h = none_fit
    spans_fit n st (single ops ∷ spans) (one es ∷ ts) e h =
        let r = and_parts (is_span_right core around (single ops)) (list_all (is_span_right core around) spans) e in
        both_fit _ _ (list_fit n st ops es (bound_right core around ops r.0) h.0) (spans_fit (n + length ops) st spans ts r.1 h.1)
    spans_fit n st (single ops ∷ spans) (both es fs ∷ ts) e h = none_fit
    spans_fit n st (range a b ∷ spans) (one es ∷ ts) e h = none_fit
    spans_fit n st (range a b ∷ spans) (both es fs ∷ ts) e h =
        let r = and_parts (is_span_right core around (range a b)) (list_all (is_span_right core around) spans) e in
        let q = and_parts (is_bound core around a) (is_bound core around b) r.0 in
        both_fit _ _ (both_fit _ _ (list_fit n st a es (bound_right core around a q.0) h.0.0) (list_fit (n + length a) st b fs (bound_right core around b q.1) h.0.1)) (spans_fit (n + (length a + length b)) st spans ts r.1 h.1)

  all_renew : (owned : List ℕ) → AreFit (map renews owned)
  all_renew [] = none_fit
  all_renew (m ∷ owned) = more_fit (renews m) (map renews owned) tt (all_renew owned)

  renewal_fits : (m : ℕ) → AreFit (renewal_in_body core m)
  renewal_fits m = go (has_reset (mem core m).kind (mem core m).start)
    where
      go : (b : Bool) → AreFit (elim b as (λ _. List Moment) [ true ↦ [] | false ↦ renews m ∷ [] ])
      go true = none_fit
      go false = one_fits (renews m) tt

  all_renew_in_body : (owned : List ℕ) → AreFit (flat_map (renewal_in_body core) owned)
  all_renew_in_body [] = none_fit
  all_renew_in_body (m ∷ owned) = both_fit (renewal_in_body core m) _ (renewal_fits m) (all_renew_in_body owned)

  -- transfers
  module _ (n : ℕ) (st : Standing) where
    row_turns : (kind : Kind) (m : ℕ) → AreFit (rows_turn core n st kind m)
    row_turns LineBuf m = one_fits _ tt
    row_turns Reg m = none_fit
    row_turns Sram m = none_fit
    row_turns Fifo m = none_fit
    row_turns Dram m = none_fit
    row_turns ArgIn m = none_fit
    row_turns ArgOut m = none_fit

    slice_fits : (parts : List Part) (ms : List Moment) → AreFit ms → AreFit (slice_moments core n st parts ms)
    slice_fits parts ms h = go (has_none (lengths parts))
      where
        go : (b : Bool) → AreFit (elim b as (λ _. List Moment) [ true ↦ [] | false ↦ slices (record { number = n; standing = st; firsts = map first_of parts; lengths = lengths parts }) ∷ ms ])
        go true = none_fit
        go false = more_fit (slices (record { number = n; standing = st; firsts = map first_of parts; lengths = lengths parts })) ms tt h

    module _ (r m : ℕ) (same : AreAlike core r m) where
      loads_fit : (parts : List Part) (offsets : List (List ℕ)) (ws : List ℕ) → All (OfDram core r) ws → AreFit (load_moments core n st r m parts offsets ws)
      loads_fit parts [] ws h = none_fit
      loads_fit parts (o ∷ offsets) [] h = none_fit
      loads_fit parts (o ∷ offsets) (w ∷ ws) h =
          let p = All-head (OfDram core r) w ws h in
          let put : Moment = mem_event core n st m (loaded_at core (kind_of core m) m o) (writes w) in
          more_fit (dram_event core n st r (places_of parts o) (reads w)) (put ∷ load_moments core n st r m parts offsets ws) p
          (more_fit put (load_moments core n st r m parts offsets ws) (same.loads w p) (loads_fit parts offsets ws (All-tail (OfDram core r) w ws h)))

      stores_fit_in : (parts : List Part) (offsets : List (List ℕ)) (ws : List ℕ) → All (OfDram core r) ws → AreFit (store_moments core n st r m parts offsets ws)
      stores_fit_in parts [] ws h = none_fit
      stores_fit_in parts (o ∷ offsets) [] h = none_fit
      stores_fit_in parts (o ∷ offsets) (w ∷ ws) h =
          let p = All-head (OfDram core r) w ws h in
          let put : Moment = dram_event core n st r (places_of parts o) (writes w) in
          more_fit (mem_event core n st m o (reads w)) (put ∷ store_moments core n st r m parts offsets ws) (same.loads w p)
          (more_fit put (store_moments core n st r m parts offsets ws) p (stores_fit_in parts offsets ws (All-tail (OfDram core r) w ws h)))

      loaded_fits : (parts : List Part) (ws : List ℕ) → All (OfDram core r) ws → AreFit (loaded core n st r m parts ws)
      loaded_fits parts ws h = slice_fits parts _ (both_fit (rows_turn core n st (kind_of core m) m) _ (row_turns (kind_of core m) m) (loads_fit parts (all_offsets parts) ws h))

      stored_fits : (parts : List Part) (ws : List ℕ) → All (OfDram core r) ws → AreFit (stored core n st r m parts ws)
      stored_fits parts ws h = slice_fits parts _ (stores_fit_in parts (all_offsets parts) ws h)

      module _ (p : ℕ) (places : (w : ℕ) → IsWord int_type w → IsWord (type_at core p) w) where
        gathers_fit : (k : ℕ) (ws : List (ℕ × ℕ)) → All (IsPicked core r) ws → AreFit (gather_moments core n st r m p k ws)
        gathers_fit k [] h = none_fit
        gathers_fit k ((i, w) ∷ ws) h =
            let q = All-head (IsPicked core r) (i, w) ws h in
            let found : Moment = dram_event core n st r (natural (index_value i) ∷ []) (reads w) in
            let put : Moment = mem_event core n st m (k ∷ []) (writes w) in
            let rest : List Moment = gather_moments core n st r m p (suc k) ws in
            more_fit (mem_event core n st p (k ∷ []) (reads i)) (found ∷ put ∷ rest) (places i q.0)
            (more_fit found (put ∷ rest) q.1 (more_fit put rest (same.loads w q.1) (gathers_fit (suc k) ws (All-tail (IsPicked core r) (i, w) ws h))))

        scatters_fit : (k : ℕ) (ws : List (ℕ × ℕ)) → All (IsPicked core r) ws → AreFit (scatter_moments core n st r m p k ws)
        scatters_fit k [] h = none_fit
        scatters_fit k ((i, w) ∷ ws) h =
            let q = All-head (IsPicked core r) (i, w) ws h in
            let found : Moment = mem_event core n st m (k ∷ []) (reads w) in
            let put : Moment = dram_event core n st r (natural (index_value i) ∷ []) (writes w) in
            let rest : List Moment = scatter_moments core n st r m p (suc k) ws in
            more_fit (mem_event core n st p (k ∷ []) (reads i)) (found ∷ put ∷ rest) (places i q.0)
            (more_fit found (put ∷ rest) (same.loads w q.1) (more_fit put rest q.1 (scatters_fit (suc k) ws (All-tail (IsPicked core r) (i, w) ws h))))

        picked_fit : (ws : List (ℕ × ℕ)) (ms : List Moment) → AreFit ms → AreFit (picked_moments core n st ws ms)
        picked_fit [] ms h = none_fit
        picked_fit (w ∷ ws) ms h = more_fit (slices (record { number = n; standing = st; firsts = []; lengths = length (w ∷ ws) ∷ [] })) ms tt h

  into_places : (p : ℕ) → nat_lt p (length core.mems) ≡ true → is_type (mem core p).ty int_type ≡ true → (w : ℕ) → IsWord int_type w → IsWord (type_at core p) w
  into_places p there same w h = subst (λ ty. IsWord ty w) (sym (type_of_mem core p there)) (same_word_back (mem core p).ty int_type w same h)

  module _ (reading : Reading) where
    body_fits : (around : Around) (k n g : ℕ) (st : Standing) (owned : List ℕ) (ops : List PlainOp) (values : List (List ℤ)) (groups : List (List Entry)) → are_operations_right core around ops ≡ true → All (EntriesFit ops) groups
        → AreFit (body_moments core reading k n g st owned ops values groups)
    body_fits around k n g st owned ops [] groups e h = none_fit
    body_fits around k n g st owned ops (v ∷ values) [] e h = none_fit
    body_fits around k n g st owned ops (v ∷ values) (es ∷ groups) e h =
        both_fit _ _ (both_fit _ _ (all_renew_in_body owned) (list_fit around n (inside_at st k (in_group_of g 0) v) ops es e (All-head (EntriesFit ops) es groups h)))
        (body_fits around k n (suc g) st owned ops values groups e (All-tail (EntriesFit ops) es groups h))

    -- a register keeps a word
    keeps_fit : (around : Around) (state : ℕ) (ops : List PlainOp) (es : List Entry) → nat_lt state (length core.mems) ≡ true → is_word_list core around ops (mem core state).ty ≡ true → EntriesFit ops es → AreFit (keeps state (last_word es) ∷ [])
    keeps_fit around state ops es there e h =
        one_fits _ (subst (λ ty. IsWord ty (last_word es)) (sym (type_of_mem core state there)) (last_fits ops es (mem core state).ty (word_list_right core around ops (mem core state).ty e).1 h))

    mutual
      unfolding moments group_moments stage_moments turn_moments

      pub node_fits : (node : PlainNode) (around : Around) (earlier : List ℕ) → IsRight core around earlier node → (h : History) → HistoryFits core node h → (k n : ℕ) (st : Standing) → AreFit (moments core reading node k n st h)
      node_fits (inner counters owned ops comb) around earlier right (inner_ran bs counts groups) h k n st =
          let a = and_parts (are_counters_right core around counters) (are_operations_right core (within around counters owned) ops) (here_right core around earlier (inner counters owned ops comb) right).0 in
          both_fit _ _ (bounds_fit around n (inside_at st k before []) counters bs (counters_right core around counters a.0) h.0)
          (body_fits (within around counters owned) k (n + counters_size counters) 0 st owned ops (group_values (loops_of reading counters bs)) groups a.1 h.1)
      node_fits (outer counters style owned stages) around earlier right (outer_ran bs counts groups) h k n st =
          let a = and_parts (are_counters_right core around counters) (are_lanes_right (lanes_of counters) stages) (here_right core around earlier (outer counters style owned stages) right.0).0 in
          both_fit _ _ (bounds_fit around n (inside_at st k before []) counters bs (counters_right core around counters a.0) h.0)
          (groups_fit stages (within around counters owned) (earlier ++ owned) right.1 groups h.1 k (n + counters_size counters) 0 st owned (group_values (loops_of reading counters bs)))
      node_fits (fsm start state test body next) around earlier right (fsm_ran first ts last) h k n st =
          let a = here_right core around earlier (fsm start state test body next) right.0 in
          let m = machine_right core around start state test body next a.0 in
          let there = state_there core around earlier state a.1 in
          both_fit _ _ (both_fit _ _ (list_fit around n (inside_at st k before []) start first (word_list_right core around start _ m.start_right).0 h.0) (keeps_fit around state start first there m.start_right h.0))
          (turns_fit start state test body next around (earlier ++ state ∷ []) right.1 there m.test_right m.next_right ts h.1.0 last h.1.1 k n 0 st)
      node_fits (branch test first second) around earlier right (branch_ran es true x) h k n st =
          both_fit _ _ (list_fit around n (inside_at st k (in_turn 0) []) test es (word_list_right core around test _ (here_right core around earlier (branch test first second) right.0).0).0 h.0)
          (node_fits first around earlier right.1 x h.1 (suc k) (n + length test) (inside_at st k (in_turn 0) []))
      node_fits (branch test first second) around earlier right (branch_ran es false x) h k n st =
          both_fit _ _ (list_fit around n (inside_at st k (in_turn 0) []) test es (word_list_right core around test _ (here_right core around earlier (branch test first second) right.0).0).0 h.0)
          (node_fits second around (earlier ++ owned_in first) right.2 x h.1 (suc k + node_count first) (n + (length test + number_count first)) (inside_at st k (in_turn 0) []))
      node_fits (load r m spans) around earlier right (moved ts ws) h k n st =
          let s = load_right core around r m spans (here_right core around earlier (load r m spans) right).0 in
          both_fit _ _ (spans_fit around n st spans ts s.spans_right h.0) (loaded_fits (n + spans_size spans) st r m (alike core r m s.memory.there s.memory.same) (map part_of ts) ws h.1)
      node_fits (store r m spans) around earlier right (moved ts ws) h k n st =
          let s = store_right core around r m spans (here_right core around earlier (store r m spans) right).0 in
          both_fit _ _ (spans_fit around n st spans ts s.spans_right h.0) (stored_fits (n + spans_size spans) st r m (alike core r m s.memory.there s.memory.same) (map part_of ts) ws h.1)
      node_fits (sparse Gather r m (Some p) spans count par) around earlier right (picked es ws) h k n st =
          let s = pick_right core around r m p spans count par (here_right core around earlier (sparse Gather r m (Some p) spans count par) right).0 in
          let same = alike core r m s.memory.there s.memory.same in
          let places = into_places p s.places_there s.places_typed in
          both_fit _ _ (list_fit around (n + spans_size spans) st count es s.count_right h.0)
          (picked_fit (n + (spans_size spans + length count)) st r m same p places ws _ (gathers_fit (n + (spans_size spans + length count)) st r m same p places 0 ws h.1))
      node_fits (sparse Scatter r m (Some p) spans count par) around earlier right (picked es ws) h k n st =
          let s = pick_right core around r m p spans count par (here_right core around earlier (sparse Scatter r m (Some p) spans count par) right).0 in
          let same = alike core r m s.memory.there s.memory.same in
          let places = into_places p s.places_there s.places_typed in
          both_fit _ _ (list_fit around (n + spans_size spans) st count es s.count_right h.0)
          (picked_fit (n + (spans_size spans + length count)) st r m same p places ws _ (scatters_fit (n + (spans_size spans + length count)) st r m same p places 0 ws h.1))
      node_fits (sparse Gather r m None spans count par) around earlier right x h k n st = absurd (no_pick core around r m spans count par (here_right core around earlier (sparse Gather r m None spans count par) right).0)
      node_fits (sparse Scatter r m None spans count par) around earlier right x h k n st = absurd (no_pick core around r m spans count par (here_right core around earlier (sparse Scatter r m None spans count par) right).0)
      node_fits (sparse WideLoad r m index spans count par) around earlier right (moved ts ws) h k n st =
          let s = wide_right core around r m index spans count par (here_right core around earlier (sparse WideLoad r m index spans count par) right).0 in
          both_fit _ _ (spans_fit around n st spans ts s.spans_right h.0) (loaded_fits (n + (spans_size spans + length count)) st r m (alike core r m s.memory.there s.memory.same) (map part_of ts) ws h.1)
      node_fits (sparse WideStore r m index spans count par) around earlier right (moved ts ws) h k n st =
          let s = wide_right core around r m index spans count par (here_right core around earlier (sparse WideStore r m index spans count par) right).0 in
          both_fit _ _ (spans_fit around n st spans ts s.spans_right h.0) (stored_fits (n + (spans_size spans + length count)) st r m (alike core r m s.memory.there s.memory.same) (map part_of ts) ws h.1)
      node_fits node around earlier right x h k n st = absurd h

      groups_fit : (stages : PlainStages) (around : Around) (earlier : List ℕ) → AreRight core around earlier stages → (groups : Groups) → GroupsFit core stages groups → (k n g : ℕ) (st : Standing) (owned : List ℕ) (values : List (List ℤ))
          → AreFit (group_moments core reading stages k n g st owned values groups)
      groups_fit stages around earlier right no_group h k n g st owned [] = none_fit
      groups_fit stages around earlier right no_group h k n g st owned (v ∷ values) = none_fit
      groups_fit stages around earlier right (more_group runs rest) h k n g st owned [] = none_fit
      groups_fit stages around earlier right (more_group runs rest) h k n g st owned (v ∷ values) =
          both_fit _ _ (both_fit _ _ (all_renew owned) (stages_fit stages around earlier right runs h.0 k n 0 g (suc k) v st)) (groups_fit stages around earlier right rest h.1 k n (suc g) st owned values)

      stages_fit : (stages : PlainStages) (around : Around) (earlier : List ℕ) → AreRight core around earlier stages → (runs : Runs) → RunsFit core stages runs → (k n s g j : ℕ) (v : List ℤ) (st : Standing)
          → AreFit (stage_moments core reading stages k n s g j v st runs)
      stages_fit no_stage around earlier right runs h k n s g j v st = none_fit
      stages_fit (more_stage first last comb node rest) around earlier right no_run h k n s g j v st = none_fit
      stages_fit (more_stage first last comb node rest) around earlier right (masked_run hs) h k n s g j v st =
          stages_fit rest around (earlier ++ owned_in node) right.1 hs h k (n + number_count node) (suc s) g (j + node_count node) v st
      stages_fit (more_stage first last comb node rest) around earlier right (more_run x hs) h k n s g j v st =
          both_fit _ _ (node_fits node around earlier right.0 x h.0 j n (inside_at st k (in_group_of g s) v)) (stages_fit rest around (earlier ++ owned_in node) right.1 hs h.1 k (n + number_count node) (suc s) g (j + node_count node) v st)

      turns_fit : (start : List PlainOp) (state : ℕ) (test : List PlainOp) (body : PlainNode) (next : List PlainOp) (around : Around) (earlier : List ℕ) → IsRight core (with_state core around state) earlier body → nat_lt state (length core.mems) ≡ true
          → are_operations_right core (with_state core around state) test ≡ true → is_word_list core (with_state core around state) next (mem core state).ty ≡ true
          → (ts : Turns) → TurnsFit core test body next ts → (last : List Entry) → EntriesFit test last → (k n t : ℕ) (st : Standing) → AreFit (turn_moments core reading start state test body next k n t st ts last)
      turns_fit start state test body next around earlier right there tested stepped no_turn h last l k n t st = list_fit (with_state core around state) (n + length start) (inside_at st k (in_turn t) []) test last tested l
      turns_fit start state test body next around earlier right there tested stepped (more_turn es x ns rest) h last l k n t st =
          both_fit _ _
          (both_fit _ _ (list_fit (with_state core around state) (n + length start) (inside_at st k (in_turn t) []) test es tested h.0.0)
          (both_fit _ _ (node_fits body (with_state core around state) earlier right x h.0.1.0 (suc k) (n + (length start + length test)) (inside_at st k (in_turn t) []))
          (both_fit _ _ (list_fit (with_state core around state) (n + (length start + (length test + number_count body))) (inside_at st k (in_turn t) []) next ns (word_list_right core (with_state core around state) next _ stepped).0 h.0.1.1)
          (keeps_fit (with_state core around state) state next ns there stepped h.0.1.1))))
          (turns_fit start state test body next around earlier right there tested stepped rest h.1 last l k n (suc t) st)
