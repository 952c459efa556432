-- The events of a run of a node have the numbers of its operations.
use Rattle.std.proofs.Common.{◌≡◌, ℕ, suc, ◌+◌, ◌<◌, ◌≤◌, ◌⊎◌, inl, inr, Bool, true, false, ℤ, List, [], ◌∷◌, ◌++◌, map, flat_map, length, Option, Some, None, ap, subst, arith}
use Rattle.std.specs.List.{Contains}
use Rattle.std.proofs.lemmas.List.Elements.{Contains-append_cases}
use Rattle.sp_words.specs.declared.kind.Kind.{Kind}
use Rattle.sp_words.specs.declared.kind.Kind.TheVariants.{LineBuf}
use Rattle.sp_core.specs.Declarations.{mem, kind_of, dram_number}
use Rattle.sp_core.specs.Events.{Act, reads, writes, Standing, inside_at, before, in_group_of, in_turn, Event, Moment, touches, slices, renews, keeps, act_of, event_of, entry_moments, list_moments, bounds_moments, spans_moments, first_of, rows_turn, load_moments, store_moments, slice_moments, loaded, stored, renewal_in_body, body_moments, moments, group_moments, stage_moments, turn_moments, dram_event, mem_event}
use Rattle.sp_core.specs.History.{Entry, left_out, gave, touched, Bounds, Taken, one, both, last_word, History, Groups, Runs, Turns, inner_ran, outer_ran, fsm_ran, branch_ran, moved, no_group, more_group, no_run, masked_run, more_run, no_turn, more_turn}
use Rattle.sp_core.specs.Numbering.{counters_size, spans_size, node_count, number_count, number_count_in}
use Rattle.sp_core.specs.PlainCore.{PlainOp, PlainCounter, PlainSpan, single, range, PlainNode, PlainStages, inner, outer, fsm, branch, load, store, sparse, no_stage, more_stage, PlainCore}
use Rattle.sp_core.specs.Scope.{in_lanes, loops_of, group_values}
use Rattle.sp_core.specs.Sequential.{has_reset}
use Rattle.sp_core.specs.Transfers.{Part, part_of, lengths, has_none, places_of, all_offsets, loaded_at}
use Rattle.sp_plan.specs.PlainPlan.{PlainPlan}
use Rattle.sp_machine.specs.Laws.{told, TellsAll}
use Rattle.sp_machine.specs.Stamps.{Stamped, moved as moved_by}
use Rattle.sp_machine.specs.Timeline.{timed}
use Rattle.sp_machine.specs.Transfers.{Delays}
use Rattle.sp_overlap.specs.Whole.{IsTimed, AreTimed}
use Rattle.sp_node_runs.specs.Runs.{Placed, events_of}
use Rattle.sp_node_runs.specs.RunsTold.{all_events}
use Rattle.sp_node_runs.specs.BodiesTold.{Happens}
use Rattle.sp_node_runs.proofs.BodiesListed.{none_there, first_or_later, mapped_to, mapped_from, joined_from}

-- events of a list have numbers from one on and below another
abbrev pub Within : (from until : ℕ) → List Moment → Type 0
Within a b ms = (e : Event) → Contains ms (touches e) → (a ≤ e.number) × (e.number < b)

within_none : (a b : ℕ) → Within a b []
within_none a b e c = absurd (none_there (touches e) c)

within_both : (a b : ℕ) (xs ys : List Moment) → Within a b xs → Within a b ys → Within a b (xs ++ ys)
within_both a b xs ys f g e c = by (Contains-append_cases xs ys (touches e) c)
  where
    by : Contains xs (touches e) ⊎ Contains ys (touches e) → (a ≤ e.number) × (e.number < b)
    by (inl d) = f e d
    by (inr d) = g e d

within_wider : (a b c d : ℕ) (xs : List Moment) → c ≤ a → b ≤ d → Within a b xs → Within c d xs
within_wider a b c d xs low high f e h = let r = f e h in (let x = r.0 in omega (arith, x, low), let x = r.1 in omega (arith, x, high))

within_first : (a b : ℕ) (m : Moment) (xs : List Moment) → ((e : Event) → m ≡ touches e → (a ≤ e.number) × (e.number < b)) → Within a b xs → Within a b (m ∷ xs)
within_first a b m xs f g e c = by (first_or_later m (touches e) xs c)
  where
    by : (m ≡ touches e) ⊎ Contains xs (touches e) → (a ≤ e.number) × (e.number < b)
    by (inl d) = f e d
    by (inr d) = g e d

-- of one event, and of moments that are none
its_number : (x e : Event) → touches x ≡ touches e → x.number ≡ e.number
its_number x e h = cc (h)

at_number : (a b : ℕ) (x e : Event) → a ≤ x.number → x.number < b → touches x ≡ touches e → (a ≤ e.number) × (e.number < b)
at_number a b x e low high h = let s = its_number x e h in (omega (arith, low, s), omega (arith, high, s))

within_renews : (a b : ℕ) (ms : List ℕ) → Within a b (map renews ms)
within_renews a b [] = within_none a b
within_renews a b (m ∷ ms) = within_first a b (renews m) (map renews ms) (λ e h. absurd (cc (h))) (within_renews a b ms)

within_kept : (a b state word : ℕ) → Within a b (keeps state word ∷ [])
within_kept a b state word = within_first a b (keeps state word) [] (λ e h. absurd (cc (h))) (within_none a b)

-- of an operation
within_event : (n : ℕ) (st : Standing) (m : Option ℕ) (is : List ℕ) (a : Option Act) → Within n (suc n) (event_of n st m is a)
within_event n st None is a = within_none n (suc n)
within_event n st (Some m) is None = within_none n (suc n)
within_event n st (Some m) is (Some act) = within_first n (suc n) _ [] (λ e h. at_number n (suc n) (record { number = n; standing = st; mem = m; indices = is; act = act }) e (omega arith) (omega arith) h) (within_none n (suc n))

within_entry : (n : ℕ) (st : Standing) (op : PlainOp) (e : Entry) → Within n (suc n) (entry_moments n st op.kind op.mem e)
within_entry n st op (touched is w) = within_event n st op.mem is (act_of op.kind w)
within_entry n st op (gave w) = within_none n (suc n)
within_entry n st op left_out = within_none n (suc n)

pub within_list : (n : ℕ) (st : Standing) (ops : List PlainOp) (es : List Entry) → Within n (n + length ops) (list_moments n st ops es)
within_list n st [] es = within_none n (n + 0)
within_list n st (op ∷ ops) [] = within_none n (n + suc (length ops))
within_list n st (op ∷ ops) (e ∷ es) =
    within_both n (n + suc (length ops)) (entry_moments n st op.kind op.mem e) (list_moments (suc n) st ops es) (within_wider n (suc n) n (n + suc (length ops)) _ (omega arith) (omega arith) (within_entry n st op e))
    (within_wider (suc n) (suc n + length ops) n (n + suc (length ops)) _ (omega arith) (omega arith) (within_list (suc n) st ops es))

pub within_bounds : (n : ℕ) (st : Standing) (counters : List PlainCounter) (bs : List Bounds) → Within n (n + counters_size counters) (bounds_moments n st counters bs)
within_bounds n st [] bs = within_none n (n + 0)
within_bounds n st (c ∷ counters) [] = within_none n (n + counters_size (c ∷ counters))
within_bounds n st (c ∷ counters) (b ∷ bs) =
    within_both n (n + ((length c.from + length c.until) + counters_size counters)) (list_moments n st c.from b.from ++ list_moments (n + length c.from) st c.until b.until) _
    (within_both n (n + ((length c.from + length c.until) + counters_size counters)) (list_moments n st c.from b.from) (list_moments (n + length c.from) st c.until b.until)
    (within_wider n (n + length c.from) n (n + ((length c.from + length c.until) + counters_size counters)) _ (omega arith) (omega arith) (within_list n st c.from b.from))
    (within_wider (n + length c.from) (n + length c.from + length c.until) n (n + ((length c.from + length c.until) + counters_size counters)) _ (omega arith) (omega arith) (within_list (n + length c.from) st c.until b.until)))
    (within_wider (n + (length c.from + length c.until)) (n + (length c.from + length c.until) + counters_size counters) n (n + ((length c.from + length c.until) + counters_size counters)) _ (omega arith) (omega arith)
    (within_bounds (n + (length c.from + length c.until)) st counters bs))

within_spans : (n : ℕ) (st : Standing) (spans : List PlainSpan) (ts : List Taken) → Within n (n + spans_size spans) (spans_moments n st spans ts)
within_spans n st [] ts = within_none n (n + 0)
within_spans n st (single ops ∷ spans) [] = within_none n (n + (length ops + spans_size spans))
within_spans n st (single ops ∷ spans) (both es fs ∷ ts) = within_none n (n + (length ops + spans_size spans))
within_spans n st (single ops ∷ spans) (one es ∷ ts) =
    within_both n (n + (length ops + spans_size spans)) (list_moments n st ops es) _ (within_wider n (n + length ops) n (n + (length ops + spans_size spans)) _ (omega arith) (omega arith) (within_list n st ops es))
    (within_wider (n + length ops) (n + length ops + spans_size spans) n (n + (length ops + spans_size spans)) _ (omega arith) (omega arith) (within_spans (n + length ops) st spans ts))
within_spans n st (range a b ∷ spans) [] = within_none n (n + ((length a + length b) + spans_size spans))
within_spans n st (range a b ∷ spans) (one es ∷ ts) = within_none n (n + ((length a + length b) + spans_size spans))
within_spans n st (range a b ∷ spans) (both es fs ∷ ts) =
    within_both n (n + ((length a + length b) + spans_size spans)) (list_moments n st a es ++ list_moments (n + length a) st b fs) _
    (within_both n (n + ((length a + length b) + spans_size spans)) (list_moments n st a es) (list_moments (n + length a) st b fs) (within_wider n (n + length a) n (n + ((length a + length b) + spans_size spans)) _ (omega arith) (omega arith) (within_list n st a es))
    (within_wider (n + length a) (n + length a + length b) n (n + ((length a + length b) + spans_size spans)) _ (omega arith) (omega arith) (within_list (n + length a) st b fs)))
    (within_wider (n + (length a + length b)) (n + (length a + length b) + spans_size spans) n (n + ((length a + length b) + spans_size spans)) _ (omega arith) (omega arith) (within_spans (n + (length a + length b)) st spans ts))

module _ (core : PlainCore) where
  -- of a transfer
  module _ (n : ℕ) (st : Standing) where
    this : (m : ℕ) (is : List ℕ) (act : Act) (e : Event) → touches (record { number = n; standing = st; mem = m; indices = is; act = act }) ≡ touches e → (n ≤ e.number) × (e.number < suc n)
    this m is act e h = at_number n (suc n) (record { number = n; standing = st; mem = m; indices = is; act = act }) e (omega arith) (omega arith) h

    within_loads : (r m : ℕ) (parts : List Part) (offsets : List (List ℕ)) (ws : List ℕ) → Within n (suc n) (load_moments core n st r m parts offsets ws)
    within_loads r m parts [] ws = within_none n (suc n)
    within_loads r m parts (o ∷ offsets) [] = within_none n (suc n)
    within_loads r m parts (o ∷ offsets) (w ∷ ws) =
        within_first n (suc n) (dram_event core n st r (places_of parts o) (reads w)) (mem_event core n st m (loaded_at core (kind_of core m) m o) (writes w) ∷ load_moments core n st r m parts offsets ws) (this (dram_number core r) (places_of parts o) (reads w))
        (within_first n (suc n) (mem_event core n st m (loaded_at core (kind_of core m) m o) (writes w)) (load_moments core n st r m parts offsets ws) (this m (loaded_at core (kind_of core m) m o) (writes w)) (within_loads r m parts offsets ws))

    within_stores : (r m : ℕ) (parts : List Part) (offsets : List (List ℕ)) (ws : List ℕ) → Within n (suc n) (store_moments core n st r m parts offsets ws)
    within_stores r m parts [] ws = within_none n (suc n)
    within_stores r m parts (o ∷ offsets) [] = within_none n (suc n)
    within_stores r m parts (o ∷ offsets) (w ∷ ws) =
        within_first n (suc n) (mem_event core n st m o (reads w)) (dram_event core n st r (places_of parts o) (writes w) ∷ store_moments core n st r m parts offsets ws) (this m o (reads w))
        (within_first n (suc n) (dram_event core n st r (places_of parts o) (writes w)) (store_moments core n st r m parts offsets ws) (this (dram_number core r) (places_of parts o) (writes w)) (within_stores r m parts offsets ws))

    within_slice : (parts : List Part) (ms : List Moment) → Within n (suc n) ms → Within n (suc n) (slice_moments core n st parts ms)
    within_slice parts ms f = go (has_none (lengths parts))
      where
        go : (b : Bool) → Within n (suc n) (elim b as (λ _. List Moment) [ true ↦ [] | false ↦ slices (record { number = n; standing = st; firsts = map first_of parts; lengths = lengths parts }) ∷ ms ])
        go true = within_none n (suc n)
        go false = within_first n (suc n) _ ms (λ e h. absurd (cc (h))) f

    within_rows : (kind : Kind) (m : ℕ) → Within n (suc n) (rows_turn core n st kind m)
    within_rows LineBuf m = within_first n (suc n) _ [] (this _ _ _) (within_none n (suc n))
    within_rows kind m = within_none n (suc n)

    within_loaded : (r m : ℕ) (parts : List Part) (ws : List ℕ) → Within n (suc n) (loaded core n st r m parts ws)
    within_loaded r m parts ws = within_slice parts _ (within_both n (suc n) (rows_turn core n st (kind_of core m) m) _ (within_rows (kind_of core m) m) (within_loads r m parts (all_offsets parts) ws))

    within_stored : (r m : ℕ) (parts : List Part) (ws : List ℕ) → Within n (suc n) (stored core n st r m parts ws)
    within_stored r m parts ws = within_slice parts _ (within_stores r m parts (all_offsets parts) ws)

  -- of the groups of an inner body
  within_renewal : (a b m : ℕ) → Within a b (renewal_in_body core m)
  within_renewal a b m = go (has_reset (mem core m).kind (mem core m).start)
    where
      go : (c : Bool) → Within a b (elim c as (λ _. List Moment) [ true ↦ [] | false ↦ renews m ∷ [] ])
      go true = within_none a b
      go false = within_first a b (renews m) [] (λ e h. absurd (cc (h))) (within_none a b)

  within_renewals : (a b : ℕ) (ms : List ℕ) → Within a b (flat_map (renewal_in_body core) ms)
  within_renewals a b [] = within_none a b
  within_renewals a b (m ∷ ms) = within_both a b (renewal_in_body core m) (flat_map (renewal_in_body core) ms) (within_renewal a b m) (within_renewals a b ms)

  within_body : (k n g : ℕ) (st : Standing) (owned : List ℕ) (ops : List PlainOp) (values : List (List ℤ)) (groups : List (List Entry)) → Within n (n + length ops) (body_moments core in_lanes k n g st owned ops values groups)
  within_body k n g st owned ops [] groups = within_none n (n + length ops)
  within_body k n g st owned ops (v ∷ values) [] = within_none n (n + length ops)
  within_body k n g st owned ops (v ∷ values) (es ∷ groups) =
      within_both n (n + length ops) (flat_map (renewal_in_body core) owned ++ list_moments n (inside_at st k (in_group_of g 0) v) ops es) _
      (within_both n (n + length ops) (flat_map (renewal_in_body core) owned) _ (within_renewals n (n + length ops) owned) (within_list n (inside_at st k (in_group_of g 0) v) ops es))
      (within_body k n (suc g) st owned ops values groups)

  mutual
    unfolding moments group_moments stage_moments turn_moments

    within_node : (node : PlainNode) (k n : ℕ) (st : Standing) (h : History) → IsTimed node → Within n (n + number_count node) (moments core in_lanes node k n st h)
    within_node (inner counters owned ops comb) k n st (inner_ran bs counts groups) is =
        within_both n (n + (counters_size counters + length ops)) (bounds_moments n (inside_at st k before []) counters bs) _
        (within_wider n (n + counters_size counters) n (n + (counters_size counters + length ops)) _ (omega arith) (omega arith) (within_bounds n (inside_at st k before []) counters bs))
        (within_wider (n + counters_size counters) (n + counters_size counters + length ops) n (n + (counters_size counters + length ops)) _ (omega arith) (omega arith)
        (within_body k (n + counters_size counters) 0 st owned ops (group_values (loops_of in_lanes counters bs)) groups))
    within_node (outer counters style owned stages) k n st (outer_ran bs counts groups) is =
        within_both n (n + (counters_size counters + number_count_in stages)) (bounds_moments n (inside_at st k before []) counters bs) _
        (within_wider n (n + counters_size counters) n (n + (counters_size counters + number_count_in stages)) _ (omega arith) (omega arith) (within_bounds n (inside_at st k before []) counters bs))
        (within_wider (n + counters_size counters) (n + counters_size counters + number_count_in stages) n (n + (counters_size counters + number_count_in stages)) _ (omega arith) (omega arith)
        (within_groups stages k (n + counters_size counters) 0 st owned (group_values (loops_of in_lanes counters bs)) groups is.1))
    within_node (fsm start state test body next) k n st (fsm_ran first ts last) is =
        within_both n (n + ((length start + length test) + (number_count body + length next))) (list_moments n (inside_at st k before []) start first ++ keeps state (last_word first) ∷ []) _
        (within_both n (n + ((length start + length test) + (number_count body + length next))) (list_moments n (inside_at st k before []) start first) _
        (within_wider n (n + length start) n (n + ((length start + length test) + (number_count body + length next))) _ (omega arith) (omega arith) (within_list n (inside_at st k before []) start first))
        (within_kept n (n + ((length start + length test) + (number_count body + length next))) state (last_word first)))
        (within_turns start state test body next k n 0 st ts last is)
    within_node (branch test first second) k n st (branch_ran es true h) is =
        within_both n (n + (length test + (number_count first + number_count second))) (list_moments n (inside_at st k (in_turn 0) []) test es) _
        (within_wider n (n + length test) n (n + (length test + (number_count first + number_count second))) _ (omega arith) (omega arith) (within_list n (inside_at st k (in_turn 0) []) test es))
        (within_wider (n + length test) (n + length test + number_count first) n (n + (length test + (number_count first + number_count second))) _ (omega arith) (omega arith) (within_node first (suc k) (n + length test) (inside_at st k (in_turn 0) []) h is.0))
    within_node (branch test first second) k n st (branch_ran es false h) is =
        within_both n (n + (length test + (number_count first + number_count second))) (list_moments n (inside_at st k (in_turn 0) []) test es) _
        (within_wider n (n + length test) n (n + (length test + (number_count first + number_count second))) _ (omega arith) (omega arith) (within_list n (inside_at st k (in_turn 0) []) test es))
        (within_wider (n + (length test + number_count first)) (n + (length test + number_count first) + number_count second) n (n + (length test + (number_count first + number_count second))) _ (omega arith) (omega arith)
        (within_node second (suc k + node_count first) (n + (length test + number_count first)) (inside_at st k (in_turn 0) []) h is.1))
    within_node (load r m spans) k n st (moved ts ws) is =
        within_both n (n + (spans_size spans + 1)) (spans_moments n st spans ts) _ (within_wider n (n + spans_size spans) n (n + (spans_size spans + 1)) _ (omega arith) (omega arith) (within_spans n st spans ts))
        (within_wider (n + spans_size spans) (suc (n + spans_size spans)) n (n + (spans_size spans + 1)) _ (omega arith) (omega arith) (within_loaded (n + spans_size spans) st r m (map part_of ts) ws))
    within_node (store r m spans) k n st (moved ts ws) is =
        within_both n (n + (spans_size spans + 1)) (spans_moments n st spans ts) _ (within_wider n (n + spans_size spans) n (n + (spans_size spans + 1)) _ (omega arith) (omega arith) (within_spans n st spans ts))
        (within_wider (n + spans_size spans) (suc (n + spans_size spans)) n (n + (spans_size spans + 1)) _ (omega arith) (omega arith) (within_stored (n + spans_size spans) st r m (map part_of ts) ws))
    within_node (sparse kind r m places spans count par) k n st h is = elim is [ ]
    within_node (inner counters owned ops comb) k n st h is = within_none n (n + (counters_size counters + length ops))
    within_node (outer counters style owned stages) k n st h is = within_none n (n + (counters_size counters + number_count_in stages))
    within_node (fsm start state test body next) k n st h is = within_none n (n + ((length start + length test) + (number_count body + length next)))
    within_node (branch test first second) k n st h is = within_none n (n + (length test + (number_count first + number_count second)))
    within_node (load r m spans) k n st h is = within_none n (n + (spans_size spans + 1))
    within_node (store r m spans) k n st h is = within_none n (n + (spans_size spans + 1))

    within_groups : (stages : PlainStages) (k n g : ℕ) (st : Standing) (owned : List ℕ) (values : List (List ℤ)) (groups : Groups) → AreTimed stages → Within n (n + number_count_in stages) (group_moments core in_lanes stages k n g st owned values groups)
    within_groups stages k n g st owned [] groups is = within_none n (n + number_count_in stages)
    within_groups stages k n g st owned (v ∷ values) no_group is = within_none n (n + number_count_in stages)
    within_groups stages k n g st owned (v ∷ values) (more_group row rest) is =
        within_both n (n + number_count_in stages) (map renews owned ++ stage_moments core in_lanes stages k n 0 g (suc k) v st row) _
        (within_both n (n + number_count_in stages) (map renews owned) _ (within_renews n (n + number_count_in stages) owned) (within_stages stages k n 0 g (suc k) v st row is))
        (within_groups stages k n (suc g) st owned values rest is)

    within_stages : (stages : PlainStages) (k n s g j : ℕ) (v : List ℤ) (st : Standing) (row : Runs) → AreTimed stages → Within n (n + number_count_in stages) (stage_moments core in_lanes stages k n s g j v st row)
    within_stages no_stage k n s g j v st row is = within_none n (n + 0)
    within_stages (more_stage first last comb node rest) k n s g j v st no_run is = within_none n (n + (number_count node + number_count_in rest))
    within_stages (more_stage first last comb node rest) k n s g j v st (masked_run hs) is =
        within_wider (n + number_count node) (n + number_count node + number_count_in rest) n (n + (number_count node + number_count_in rest)) _ (omega arith) (omega arith) (within_stages rest k (n + number_count node) (suc s) g (j + node_count node) v st hs is.1)
    within_stages (more_stage first last comb node rest) k n s g j v st (more_run h hs) is =
        within_both n (n + (number_count node + number_count_in rest)) (moments core in_lanes node j n (inside_at st k (in_group_of g s) v) h) _
        (within_wider n (n + number_count node) n (n + (number_count node + number_count_in rest)) _ (omega arith) (omega arith) (within_node node j n (inside_at st k (in_group_of g s) v) h is.0))
        (within_wider (n + number_count node) (n + number_count node + number_count_in rest) n (n + (number_count node + number_count_in rest)) _ (omega arith) (omega arith) (within_stages rest k (n + number_count node) (suc s) g (j + node_count node) v st hs is.1))

    within_turns : (start : List PlainOp) (state : ℕ) (test : List PlainOp) (body : PlainNode) (next : List PlainOp) (k n t : ℕ) (st : Standing) (ts : Turns) (last : List Entry) → IsTimed body
        → Within n (n + ((length start + length test) + (number_count body + length next))) (turn_moments core in_lanes start state test body next k n t st ts last)
    within_turns start state test body next k n t st no_turn last is =
        within_wider (n + length start) (n + length start + length test) n (n + ((length start + length test) + (number_count body + length next))) _ (omega arith) (omega arith) (within_list (n + length start) (inside_at st k (in_turn t) []) test last)
    within_turns start state test body next k n t st (more_turn es h ns rest) last is =
        let here : Standing = inside_at st k (in_turn t) [] in
        let top : ℕ = n + ((length start + length test) + (number_count body + length next)) in
        let m : ℕ = n + (length start + length test) in
        let o : ℕ = n + (length start + (length test + number_count body)) in
        within_both n top (list_moments (n + length start) here test es ++ (moments core in_lanes body (suc k) m here h ++ (list_moments o here next ns ++ keeps state (last_word ns) ∷ []))) _
        (within_both n top (list_moments (n + length start) here test es) _ (within_wider (n + length start) (n + length start + length test) n top _ (omega arith) (omega arith) (within_list (n + length start) here test es))
        (within_both n top (moments core in_lanes body (suc k) m here h) _ (within_wider m (m + number_count body) n top _ (omega arith) (omega arith) (within_node body (suc k) m here h is))
        (within_both n top (list_moments o here next ns) _ (within_wider o (o + length next) n top _ (omega arith) (omega arith) (within_list o here next ns)) (within_kept n top state (last_word ns)))))
        (within_turns start state test body next k n (suc t) st rest last is)

-- so have those of all runs of a node, by the law that a timeline tells its moments
pub numbers_within : (core : PlainCore) (plan : PlainPlan) (delays : Delays) (node : PlainNode) → TellsAll core plan delays node → IsTimed node → (k n : ℕ) (runs : List Placed) (number t : ℕ) (e : Event) → Happens (all_events core plan delays node k n runs) number t e
    → (n ≤ number) × (number < n + number_count node)
numbers_within core plan delays node tells is k n runs number t e h =
    let x = joined_from (events_of core plan delays node k n) runs (record { cycle = t; copy = h.copy; moment = touches e }) h.there in
    let r : Placed = x.0 in
    let y = mapped_from (moved_by r.cycle) (timed core plan delays node k n r.standing r.copies r.history).events (record { cycle = t; copy = h.copy; moment = touches e }) x.2 in
    let same : y.0.moment ≡ touches e = ap (λ (z : Stamped). z.moment) {x = moved_by r.cycle y.0} y.2 in
    let there = mapped_to (λ (z : Stamped). z.moment) (timed core plan delays node k n r.standing r.copies r.history).events y.0 y.1 in
    let w = within_node core node k n r.standing r.history is e (subst (λ ms. Contains ms (touches e)) (tells k n r.standing r.copies r.history) (subst (λ m. Contains (told (timed core plan delays node k n r.standing r.copies r.history).events) m) same there)) in
    let z = h.numbered in
    (let a = w.0 in omega (arith, a, z), let a = w.1 in omega (arith, a, z))
