-- The events of inner bodies, lists of operations, loads and stores are at the copies whose numbers stand.
use Rattle.std.proofs.Common.{◌≡◌, ℕ, zero, suc, ◌+◌, ◌<◌, ◌≤◌, ◌⊎◌, inl, inr, Bool, true, false, ℤ, List, [], ◌∷◌, ◌++◌, length, map, take, refl, sym, ap, subst, ◌∙◌, arith}
use Rattle.std.specs.List.{Contains}
use Rattle.std.specs.Prelude.{flat_map, Option}
use Rattle.std.proofs.lemmas.List.Elements.{Contains-append_cases}
use Rattle.sp_netlist.specs.Signals.{Signals}
use Rattle.sp_core.specs.Declarations.{kind_of}
use Rattle.sp_core.specs.Events.{Standing, Event, Moment, touches, slices, inside_at, in_group_of, before, first_of, entry_moments, bounds_moments, spans_moments, rows_turn, renewal_in_body}
use Rattle.sp_core.specs.History.{Entry, History, inner_ran, outer_ran, fsm_ran, branch_ran, moved, picked}
use Rattle.sp_core.specs.Latency.{latency_of_all}
use Rattle.sp_core.specs.Numbering.{counters_size, spans_size}
use Rattle.sp_core.specs.PlainCore.{PlainOp, PlainCounter, PlainSpan, PlainNode, inner, load, store, PlainCore}
use Rattle.sp_core.specs.Scope.{in_lanes, loops_of, group_values}
use Rattle.sp_core.specs.Transfers.{Part, part_of, lengths, has_none, all_offsets}
use Rattle.sp_plan.specs.PlainPlan.{PlainNodePlan, PlainPlan, node_plan}
use Rattle.sp_time.specs.Lists.{Each}
use Rattle.sp_machine.specs.Laws.{HappensWithin}
use Rattle.sp_machine.specs.Stamps.{Stamped, Copies, copy_of, stamped, moved as moved_on, later, list_stamped, in_a_row, list_run}
use Rattle.sp_machine.specs.Timeline.{timed, issued_by, issued, body_events}
use Rattle.sp_machine.specs.Transfers.{Delays, load_stamped, slice_stamped, store_stamped}
use Rattle.sp_mem.specs.Copies.{copy_at}
use Rattle.sp_node_runs.specs.Runs.{told, events_of}
use Rattle.sp_node_runs.proofs.ControlBeatRuns.{here, there, mapped_from}
use Rattle.sp_node_runs.specs.BodiesLists.{list_events}
use Rattle.sp_tree_events.specs.CopiesStanding.{CopyNets, AreNumbered}
use Rattle.sp_tree_events.specs.CopiesLaws.{InnersNameCopies, ListsNameCopies, LoadsNameCopies, StoresNameCopies}

each_append : {A : Type 0} (Q : A → Type 0) (xs ys : List A) → Each Q xs → Each Q ys → Each Q (xs ++ ys)
each_append Q [] ys h k = k
each_append Q (x ∷ xs) ys h k = (h.0, each_append Q xs ys h.1 k)

each_at : {A : Type 0} (P : A → Type 0) (xs : List A) (x : A) → Each P xs → Contains xs x → P x
each_at P [] x h (k, l, e) = absurd (omega (arith, l))
each_at P (y ∷ xs) x h (zero, l, e) = subst P e h.0
each_at P (y ∷ xs) x h (suc k, l, e) = each_at P xs x h.1 (k, omega (arith, l), e)

joined_from : {A B : Type 0} (f : A → List B) (xs : List A) (y : B) → Contains (flat_map f xs) y → (x : A) × Contains xs x × Contains (f x) y
joined_from f [] y (k, l, e) = absurd (omega (arith, l))
joined_from f (z ∷ xs) y c = by (Contains-append_cases (f z) (flat_map f xs) y c) (joined_from f xs y)
  where
    by : Contains (f z) y ⊎ Contains (flat_map f xs) y → (Contains (flat_map f xs) y → (x : _) × Contains xs x × Contains (f x) y) → (x : _) × Contains (z ∷ xs) x × Contains (f x) y
    by (inl d) rest = (z, here z xs, d)
    by (inr d) rest = let r = rest d in (r.0, there z r.0 xs r.1, r.2)

-- at the copies at hand
abbrev IsCopied : Copies → Stamped → Type 0
IsCopied copies x = x.copy ≡ copy_of copies x.moment

module _ (copies : Copies) where
  stamped_copied : (t : ℕ) (ms : List Moment) → Each (IsCopied copies) (stamped copies t ms)
  stamped_copied t [] = tt
  stamped_copied t (m ∷ ms) = (refl, stamped_copied t ms)

  list_copied : (f : ℕ → ℕ) (i n : ℕ) (st : Standing) (ops : List PlainOp) (es : List Entry) → Each (IsCopied copies) (list_stamped copies f i n st ops es)
  list_copied f i n st [] es = tt
  list_copied f i n st (op ∷ ops) [] = tt
  list_copied f i n st (op ∷ ops) (e ∷ es) =
      each_append (IsCopied copies) (stamped copies (f i) (entry_moments n st op.kind op.mem e)) (list_stamped copies f (suc i) (suc n) st ops es) (stamped_copied (f i) (entry_moments n st op.kind op.mem e)) (list_copied f (suc i) (suc n) st ops es)

  -- and in cycles that are less than a bound, where those of all places are
  list_within : (f : ℕ → ℕ) (bound : ℕ) → (i n : ℕ) (st : Standing) (ops : List PlainOp) (es : List Entry) → ((j : ℕ) → j < length ops → f (i + j) < bound) → Each (λ x. x.cycle < bound) (list_stamped copies f i n st ops es)
  list_within f bound i n st [] es h = tt
  list_within f bound i n st (op ∷ ops) [] h = tt
  list_within f bound i n st (op ∷ ops) (e ∷ es) h =
      each_append (λ x. x.cycle < bound) (stamped copies (f i) (entry_moments n st op.kind op.mem e)) (list_stamped copies f (suc i) (suc n) st ops es) (all_in (f i) (entry_moments n st op.kind op.mem e) (subst (λ k. f k < bound) {x = i + 0} {y = i} (omega arith) (h 0 (omega arith))))
      (list_within f bound (suc i) (suc n) st ops es (λ j l. subst (λ k. f k < bound) {x = i + suc j} {y = suc i + j} (omega arith) (h (suc j) (omega (arith, l)))))
    where
      all_in : (t : ℕ) (ms : List Moment) → t < bound → Each (λ x. x.cycle < bound) (stamped copies t ms)
      all_in t [] l = tt
      all_in t (m ∷ ms) l = (l, all_in t ms l)

module _ (core : PlainCore) where
  latency_taken : (ops : List PlainOp) (i : ℕ) → latency_of_all core (take i ops) ≤ latency_of_all core ops
  latency_taken ops zero = omega arith
  latency_taken [] (suc i) = omega arith
  latency_taken (op ∷ ops) (suc i) = let h = latency_taken ops i in omega (arith, h)

  row_copied : (copies : Copies) (n : ℕ) (st : Standing) (ops : List PlainOp) (es : List Entry) → Each (IsCopied copies) (list_run core copies n st ops es).events
  row_copied copies n st ops es = list_copied copies (in_a_row core ops) 0 n st ops es

  row_within : (copies : Copies) (n : ℕ) (st : Standing) (ops : List PlainOp) (es : List Entry) → Each (λ x. x.cycle < 2 + latency_of_all core ops) (list_run core copies n st ops es).events
  row_within copies n st ops es = list_within copies (in_a_row core ops) (2 + latency_of_all core ops) 0 n st ops es (λ j l. let h = latency_taken ops (0 + j) in omega (arith, h))

  module _ (plan : PlainPlan) (delays : Delays) where
    body_copied : (p : PlainNodePlan) (copies : Copies) (k n g : ℕ) (st : Standing) (owned : List ℕ) (ops : List PlainOp) (values : List (List ℤ)) (groups : List (List Entry)) → Each (IsCopied copies) (body_events core plan delays p copies k n g st owned ops values groups)
    body_copied p copies k n g st owned ops [] groups = tt
    body_copied p copies k n g st owned ops (v ∷ values) [] = tt
    body_copied p copies k n g st owned ops (v ∷ values) (es ∷ groups) =
        each_append (IsCopied copies) _ (body_events core plan delays p copies k n (suc g) st owned ops values groups)
        (each_append (IsCopied copies) (stamped copies (issued core plan delays p g) (flat_map (renewal_in_body core) owned)) _ (stamped_copied copies (issued core plan delays p g) (flat_map (renewal_in_body core) owned)) (list_copied copies _ 0 n (inside_at st k (in_group_of g 0) v) ops es))
        (body_copied p copies k n (suc g) st owned ops values groups)

    inner_copied : (k n : ℕ) (counters : List PlainCounter) (owned : List ℕ) (ops : List PlainOp) (comb : Option ℕ) (st : Standing) (copies : Copies) (h : History) → Each (IsCopied copies) (timed core plan delays (inner counters owned ops comb) k n st copies h).events
    unfolding timed
    inner_copied k n counters owned ops comb st copies (inner_ran bs counts groups) =
        each_append (IsCopied copies) (stamped copies 0 (bounds_moments n (inside_at st k before []) counters bs)) _ (stamped_copied copies 0 (bounds_moments n (inside_at st k before []) counters bs))
        (body_copied (issued_by core ops (node_plan plan k)) copies k (n + counters_size counters) 0 st owned ops (group_values (loops_of in_lanes counters bs)) groups)
    inner_copied k n counters owned ops comb st copies (outer_ran bs counts groups) = stamped_copied copies 0 _
    inner_copied k n counters owned ops comb st copies (fsm_ran first ts last) = stamped_copied copies 0 _
    inner_copied k n counters owned ops comb st copies (branch_ran es side h) = stamped_copied copies 0 _
    inner_copied k n counters owned ops comb st copies (moved taken words) = stamped_copied copies 0 _
    inner_copied k n counters owned ops comb st copies (picked es words) = stamped_copied copies 0 _

    -- the words of a load, each of which is read from the DRAM and written in the cycle after it
    module _ (delay : ℕ → ℕ) (copies : Copies) (n : ℕ) (st : Standing) (r m : ℕ) (parts : List Part) where
      words_copied : (j : ℕ) (offsets : List (List ℕ)) (words : List ℕ) → Each (IsCopied copies) (load_stamped delay core copies n st r m parts j offsets words)
      words_copied j (o ∷ offsets) (w ∷ words) = (refl, (refl, words_copied (suc j) offsets words))
      words_copied j [] words = tt
      words_copied j (o ∷ offsets) [] = tt

      -- and those of a store, each of which is read before it is written to the DRAM
      looks_copied : (j : ℕ) (offsets : List (List ℕ)) (words : List ℕ) → Each (IsCopied copies) (store_stamped delay core copies n st r m parts j offsets words)
      looks_copied j (o ∷ offsets) (w ∷ words) = (refl, (refl, looks_copied (suc j) offsets words))
      looks_copied j [] words = tt
      looks_copied j (o ∷ offsets) [] = tt

      slice_copied : (es : List Stamped) → Each (IsCopied copies) es → Each (IsCopied copies) (slice_stamped delay core copies n st parts es)
      slice_copied es h = go (has_none (lengths parts))
        where
          asked : Moment
          asked = slices (record { number = n; standing = st; firsts = map first_of parts; lengths = lengths parts })

          go : (b : Bool) → Each (IsCopied copies) (elim b as (λ _. List Stamped) [ true ↦ [] | false ↦ stamped copies 1 (asked ∷ []) ++ es ])
          go true = tt
          go false = (refl, h)

    load_copied : (k n r m : ℕ) (spans : List PlainSpan) (st : Standing) (copies : Copies) (h : History) → Each (IsCopied copies) (timed core plan delays (load r m spans) k n st copies h).events
    unfolding timed
    load_copied k n r m spans st copies (moved taken words) =
        each_append (IsCopied copies) (stamped copies 0 (spans_moments n st spans taken)) _ (stamped_copied copies 0 (spans_moments n st spans taken))
        (slice_copied (delays k st.path) copies (n + spans_size spans) st r m (map part_of taken) _
        (each_append (IsCopied copies) (stamped copies 1 (rows_turn core (n + spans_size spans) st (kind_of core m) m)) _ (stamped_copied copies 1 (rows_turn core (n + spans_size spans) st (kind_of core m) m))
        (words_copied (delays k st.path) copies (n + spans_size spans) st r m (map part_of taken) 0 (all_offsets (map part_of taken)) words)))
    load_copied k n r m spans st copies (inner_ran bs counts groups) = stamped_copied copies 0 _
    load_copied k n r m spans st copies (outer_ran bs counts groups) = stamped_copied copies 0 _
    load_copied k n r m spans st copies (fsm_ran first ts last) = stamped_copied copies 0 _
    load_copied k n r m spans st copies (branch_ran es side h) = stamped_copied copies 0 _
    load_copied k n r m spans st copies (picked es words) = stamped_copied copies 0 _

    store_copied : (k n r m : ℕ) (spans : List PlainSpan) (st : Standing) (copies : Copies) (h : History) → Each (IsCopied copies) (timed core plan delays (store r m spans) k n st copies h).events
    unfolding timed
    store_copied k n r m spans st copies (moved taken words) =
        each_append (IsCopied copies) (stamped copies 0 (spans_moments n st spans taken)) _ (stamped_copied copies 0 (spans_moments n st spans taken))
        (slice_copied (delays k st.path) copies (n + spans_size spans) st r m (map part_of taken) _ (looks_copied (delays k st.path) copies (n + spans_size spans) st r m (map part_of taken) 0 (all_offsets (map part_of taken)) words))
    store_copied k n r m spans st copies (inner_ran bs counts groups) = stamped_copied copies 0 _
    store_copied k n r m spans st copies (outer_ran bs counts groups) = stamped_copied copies 0 _
    store_copied k n r m spans st copies (fsm_ran first ts last) = stamped_copied copies 0 _
    store_copied k n r m spans st copies (branch_ran es side h) = stamped_copied copies 0 _
    store_copied k n r m spans st copies (picked es words) = stamped_copied copies 0 _

-- a moment that is moved on by the cycle of its run
module _ (s : Signals) (last : ℕ) (nets : CopyNets) (start bound t copy : ℕ) (copies : Copies) (e : Event) (events : List Stamped)
    (copied : Each (IsCopied copies) events) (within : Each (λ x. x.cycle < bound) events) (stand : (u : ℕ) → start ≤ u → u < start + bound → u ≤ last → AreNumbered s u nets copies) where
  named : Contains (later start events) (record { cycle = t; copy = copy; moment = touches e }) → t ≤ last → copy_at s t (nets e.mem) ≡ copy
  named c l =
      let y = mapped_from (moved_on start) events (record { cycle = t; copy = copy; moment = touches e }) c in
      let cycle : start + y.0.cycle ≡ t = ap (λ (x : Stamped). x.cycle) y.2 in
      let is_copy : y.0.copy ≡ copy = ap (λ (x : Stamped). x.copy) y.2 in
      let moment : y.0.moment ≡ touches e = ap (λ (x : Stamped). x.moment) y.2 in
      let below = each_at (λ x. x.cycle < bound) events y.0 within y.1 in
      stand t (omega (arith, cycle)) (omega (arith, cycle, below)) l e.mem ∙ sym (ap (copy_of copies) moment) ∙ sym (each_at (IsCopied copies) events y.0 copied y.1) ∙ is_copy

pub inners_name_copies : (core : PlainCore) (plan : PlainPlan) (delays : Delays) → ((node : PlainNode) → HappensWithin core plan delays node) → InnersNameCopies core plan delays
inners_name_copies core plan delays happens s last k n counters owned ops comb nets runs kept stand number t e h late =
    let r = joined_from (events_of core plan delays (inner counters owned ops comb) k n) runs _ h.there in
    named s last nets r.0.cycle (told core plan delays (inner counters owned ops comb) k n r.0).took t h.copy r.0.copies e (told core plan delays (inner counters owned ops comb) k n r.0).events
    (inner_copied core plan delays k n counters owned ops comb r.0.standing r.0.copies r.0.history) (happens (inner counters owned ops comb) k n r.0.standing r.0.copies r.0.history tt kept)
    (λ u a b c. stand r.0 u r.1 a b c) r.2 late

pub lists_name_copies : (core : PlainCore) (plan : PlainPlan) (delays : Delays) → ListsNameCopies core plan delays
lists_name_copies core plan delays s last n ops nets runs stand number t e h late =
    let r = joined_from (list_events core n ops) runs _ h.there in
    named s last nets r.0.cycle (2 + latency_of_all core ops) t h.copy r.0.copies e (list_run core r.0.copies n r.0.standing ops r.0.entries).events
    (row_copied core r.0.copies n r.0.standing ops r.0.entries) (row_within core r.0.copies n r.0.standing ops r.0.entries) (λ u a b c. stand r.0 u r.1 a b c) r.2 late

pub loads_name_copies : (core : PlainCore) (plan : PlainPlan) (delays : Delays) → ((node : PlainNode) → HappensWithin core plan delays node) → LoadsNameCopies core plan delays
loads_name_copies core plan delays happens s last k n dram m spans nets runs stand number t e h late =
    let r = joined_from (events_of core plan delays (load dram m spans) k n) runs _ h.there in
    named s last nets r.0.cycle (told core plan delays (load dram m spans) k n r.0).took t h.copy r.0.copies e (told core plan delays (load dram m spans) k n r.0).events
    (load_copied core plan delays k n dram m spans r.0.standing r.0.copies r.0.history) (happens (load dram m spans) k n r.0.standing r.0.copies r.0.history tt tt)
    (λ u a b c. stand r.0 u r.1 a b c) r.2 late

pub stores_name_copies : (core : PlainCore) (plan : PlainPlan) (delays : Delays) → ((node : PlainNode) → HappensWithin core plan delays node) → StoresNameCopies core plan delays
stores_name_copies core plan delays happens s last k n dram m spans nets runs stand number t e h late =
    let r = joined_from (events_of core plan delays (store dram m spans) k n) runs _ h.there in
    named s last nets r.0.cycle (told core plan delays (store dram m spans) k n r.0).took t h.copy r.0.copies e (told core plan delays (store dram m spans) k n r.0).events
    (store_copied core plan delays k n dram m spans r.0.standing r.0.copies r.0.history) (happens (store dram m spans) k n r.0.standing r.0.copies r.0.history tt tt)
    (λ u a b c. stand r.0 u r.1 a b c) r.2 late
