-- What owners do in runs of a node is done to memories that the node owns.
use Rattle.std.proofs.Common.{◌≡◌, ℕ, suc, ◌+◌, Bool, true, false, ◌||◌, ◌==◌, ℤ, List, [], ◌∷◌, ◌++◌, map, length, flat_map, Option, Some, None, refl, sym, ap}
use Rattle.std.proofs.lemmas.Bool.{eq-eqb, true≢false}
use Rattle.sp_words.specs.declared.kind.Kind.{Kind}
use Rattle.sp_words.specs.declared.kind.Kind.TheVariants.{Reg, Sram, Fifo, LineBuf, Dram, ArgIn, ArgOut}
use Rattle.sp_core.specs.Declarations.{mem, kind_of, is_among}
use Rattle.sp_core.specs.Events.{Act, act_of, Standing, inside_at, before, in_group_of, in_turn, Moment, slices, renews, keeps, first_of, event_of, entry_moments, list_moments, bounds_moments, spans_moments, rows_turn, load_moments, store_moments, slice_moments, loaded, stored, renewal_in_body, body_moments, moments, group_moments, stage_moments, turn_moments}
use Rattle.sp_core.specs.History.{Entry, left_out, gave, touched, last_word, Bounds, Taken, one, both, History, Groups, Runs, Turns, inner_ran, outer_ran, fsm_ran, branch_ran, moved, no_group, more_group, no_run, masked_run, more_run, no_turn, more_turn}
use Rattle.sp_core.specs.Invariant.{owned_in, owned_in_stages}
use Rattle.sp_core.specs.Numbering.{counters_size, spans_size, node_count, number_count}
use Rattle.sp_core.specs.PlainCore.{PlainOp, PlainCounter, PlainSpan, single, range, PlainNode, PlainStages, inner, outer, fsm, branch, load, store, sparse, no_stage, more_stage, PlainCore}
use Rattle.sp_core.specs.Scope.{in_lanes, loops_of, group_values}
use Rattle.sp_core.specs.Sequential.{has_reset}
use Rattle.sp_core.specs.Transfers.{Part, part_of, lengths, has_none, all_offsets}
use Rattle.sp_time.specs.Lists.{Each}
use Rattle.sp_overlap.specs.Whole.{IsTimed, AreTimed}
use Rattle.sp_tree_events.specs.OwnersOwning.{IsOwned, RunsOwn}

pub each_append : {A : Type 0} (Q : A → Type 0) (xs ys : List A) → Each Q xs → Each Q ys → Each Q (xs ++ ys)
each_append Q [] ys h k = k
each_append Q (x ∷ xs) ys h k = (h.0, each_append Q xs ys h.1 k)

-- what is among the one list or the other one is among both
among_left : (m : ℕ) (xs ys : List ℕ) → is_among m xs ≡ true → is_among m (xs ++ ys) ≡ true
among_left m [] ys h = absurd (true≢false (sym h))
among_left m (x ∷ xs) ys h = by (m == x) h (among_left m xs ys)
  where
    by : (b : Bool) → (b || is_among m xs) ≡ true → (is_among m xs ≡ true → is_among m (xs ++ ys) ≡ true) → (b || is_among m (xs ++ ys)) ≡ true
    by true h rest = refl
    by false h rest = rest h

among_right : (m : ℕ) (xs ys : List ℕ) → is_among m ys ≡ true → is_among m (xs ++ ys) ≡ true
among_right m [] ys h = h
among_right m (x ∷ xs) ys h = by (m == x) (among_right m xs ys h)
  where
    by : (b : Bool) → is_among m (xs ++ ys) ≡ true → (b || is_among m (xs ++ ys)) ≡ true
    by true h = refl
    by false h = h

pub among_first : (m : ℕ) (xs : List ℕ) → is_among m (m ∷ xs) ≡ true
among_first m xs = ap (λ b. b || is_among m xs) (eq-eqb m m refl)

pub among_rest : (m x : ℕ) (xs : List ℕ) → is_among m xs ≡ true → is_among m (x ∷ xs) ≡ true
among_rest m x xs h = among_right m (x ∷ []) xs h

module _ (core : PlainCore) where
  abbrev AreOwned : List ℕ → List Moment → Type 0
  AreOwned os ms = Each (IsOwned os) ms

  join : (os : List ℕ) (a b : List Moment) → AreOwned os a → AreOwned os b → AreOwned os (a ++ b)
  join os a b h k = each_append (IsOwned os) a b h k

  -- of more memories
  abbrev IsMore : (os more : List ℕ) → Type 0
  IsMore os more = (m : ℕ) → is_among m os ≡ true → is_among m more ≡ true

  event_owned : (os : List ℕ) (n : ℕ) (st : Standing) (is : List ℕ) (m : Option ℕ) (a : Option Act) → AreOwned os (event_of n st m is a)
  event_owned os n st is None a = tt
  event_owned os n st is (Some m) None = tt
  event_owned os n st is (Some m) (Some a) = (tt, tt)

  pub entry_owned : (os : List ℕ) (n : ℕ) (st : Standing) (op : PlainOp) (e : Entry) → AreOwned os (entry_moments n st op.kind op.mem e)
  entry_owned os n st op left_out = tt
  entry_owned os n st op (gave w) = tt
  entry_owned os n st op (touched is w) = event_owned os n st is op.mem (act_of op.kind w)

  list_owned : (os : List ℕ) (ops : List PlainOp) (es : List Entry) (n : ℕ) (st : Standing) → AreOwned os (list_moments n st ops es)
  list_owned os [] es n st = tt
  list_owned os (op ∷ ops) [] n st = tt
  list_owned os (op ∷ ops) (e ∷ es) n st = join os (entry_moments n st op.kind op.mem e) (list_moments (suc n) st ops es) (entry_owned os n st op e) (list_owned os ops es (suc n) st)

  pub bounds_owned : (os : List ℕ) (counters : List PlainCounter) (bs : List Bounds) (n : ℕ) (st : Standing) → AreOwned os (bounds_moments n st counters bs)
  bounds_owned os [] bs n st = tt
  bounds_owned os (c ∷ counters) [] n st = tt
  bounds_owned os (c ∷ counters) (b ∷ bs) n st =
      join os (list_moments n st c.from b.from ++ list_moments (n + length c.from) st c.until b.until) (bounds_moments (n + (length c.from + length c.until)) st counters bs)
      (join os (list_moments n st c.from b.from) (list_moments (n + length c.from) st c.until b.until) (list_owned os c.from b.from n st) (list_owned os c.until b.until (n + length c.from) st))
      (bounds_owned os counters bs (n + (length c.from + length c.until)) st)

  spans_owned : (os : List ℕ) (spans : List PlainSpan) (ts : List Taken) (n : ℕ) (st : Standing) → AreOwned os (spans_moments n st spans ts)
  spans_owned os [] ts n st = tt
  spans_owned os (single ops ∷ spans) [] n st = tt
  spans_owned os (single ops ∷ spans) (one es ∷ ts) n st = join os (list_moments n st ops es) (spans_moments (n + length ops) st spans ts) (list_owned os ops es n st) (spans_owned os spans ts (n + length ops) st)
  spans_owned os (single ops ∷ spans) (both es fs ∷ ts) n st = tt
  spans_owned os (range a b ∷ spans) [] n st = tt
  spans_owned os (range a b ∷ spans) (one es ∷ ts) n st = tt
  spans_owned os (range a b ∷ spans) (both es fs ∷ ts) n st =
      join os (list_moments n st a es ++ list_moments (n + length a) st b fs) (spans_moments (n + (length a + length b)) st spans ts)
      (join os (list_moments n st a es) (list_moments (n + length a) st b fs) (list_owned os a es n st) (list_owned os b fs (n + length a) st)) (spans_owned os spans ts (n + (length a + length b)) st)

  module _ (os : List ℕ) (n r m : ℕ) (st : Standing) where
    load_owned : (parts : List Part) (offsets : List (List ℕ)) (ws : List ℕ) → AreOwned os (load_moments core n st r m parts offsets ws)
    load_owned parts [] ws = tt
    load_owned parts (o ∷ offsets) [] = tt
    load_owned parts (o ∷ offsets) (w ∷ ws) = (tt, (tt, load_owned parts offsets ws))

    store_owned : (parts : List Part) (offsets : List (List ℕ)) (ws : List ℕ) → AreOwned os (store_moments core n st r m parts offsets ws)
    store_owned parts [] ws = tt
    store_owned parts (o ∷ offsets) [] = tt
    store_owned parts (o ∷ offsets) (w ∷ ws) = (tt, (tt, store_owned parts offsets ws))

    rows_owned : (k : Kind) → AreOwned os (rows_turn core n st k m)
    rows_owned Reg = tt
    rows_owned Sram = tt
    rows_owned Fifo = tt
    rows_owned LineBuf = (tt, tt)
    rows_owned Dram = tt
    rows_owned ArgIn = tt
    rows_owned ArgOut = tt

    slice_owned : (parts : List Part) (ms : List Moment) → AreOwned os ms → AreOwned os (slice_moments core n st parts ms)
    slice_owned parts ms h = by (has_none (lengths parts))
      where
        by : (b : Bool) → AreOwned os (elim b as (λ _. List Moment) [ true ↦ [] | false ↦ slices (record { number = n; standing = st; firsts = map first_of parts; lengths = lengths parts }) ∷ ms ])
        by true = tt
        by false = (tt, h)

    loaded_owned : (parts : List Part) (ws : List ℕ) → AreOwned os (loaded core n st r m parts ws)
    loaded_owned parts ws = slice_owned parts _ (join os (rows_turn core n st (kind_of core m) m) (load_moments core n st r m parts (all_offsets parts) ws) (rows_owned (kind_of core m)) (load_owned parts (all_offsets parts) ws))

    stored_owned : (parts : List Part) (ws : List ℕ) → AreOwned os (stored core n st r m parts ws)
    stored_owned parts ws = slice_owned parts _ (store_owned parts (all_offsets parts) ws)

  renewal_owned : (os : List ℕ) (m : ℕ) → is_among m os ≡ true → AreOwned os (renewal_in_body core m)
  renewal_owned os m h = by (has_reset (mem core m).kind (mem core m).start)
    where
      by : (b : Bool) → AreOwned os (elim b as (λ _. List Moment) [ true ↦ [] | false ↦ renews m ∷ [] ])
      by true = tt
      by false = (h, tt)

  renewals_owned : (os own : List ℕ) → IsMore own os → AreOwned os (flat_map (renewal_in_body core) own)
  renewals_owned os [] more = tt
  renewals_owned os (m ∷ own) more = join os (renewal_in_body core m) (flat_map (renewal_in_body core) own) (renewal_owned os m (more m (among_first m own))) (renewals_owned os own (λ x h. more x (among_rest x m own h)))

  renews_owned : (os own : List ℕ) → IsMore own os → AreOwned os (map renews own)
  renews_owned os [] more = tt
  renews_owned os (m ∷ own) more = (more m (among_first m own), renews_owned os own (λ x h. more x (among_rest x m own h)))

  body_owned : (os own : List ℕ) → IsMore own os → (ops : List PlainOp) (k n g : ℕ) (st : Standing) (values : List (List ℤ)) (groups : List (List Entry)) → AreOwned os (body_moments core in_lanes k n g st own ops values groups)
  body_owned os own more ops k n g st [] groups = tt
  body_owned os own more ops k n g st (v ∷ values) [] = tt
  body_owned os own more ops k n g st (v ∷ values) (es ∷ groups) =
      join os (flat_map (renewal_in_body core) own ++ list_moments n (inside_at st k (in_group_of g 0) v) ops es) (body_moments core in_lanes k n (suc g) st own ops values groups)
      (join os (flat_map (renewal_in_body core) own) (list_moments n (inside_at st k (in_group_of g 0) v) ops es) (renewals_owned os own more) (list_owned os ops es n (inside_at st k (in_group_of g 0) v)))
      (body_owned os own more ops k n (suc g) st values groups)

  mutual
    unfolding moments group_moments stage_moments turn_moments

    node_owns : (node : PlainNode) (k n : ℕ) (st : Standing) (h : History) → IsTimed node → (os : List ℕ) → IsMore (owned_in node) os → AreOwned os (moments core in_lanes node k n st h)
    node_owns (inner counters owned ops comb) k n st (inner_ran bs counts groups) timed os more =
        join os (bounds_moments n (inside_at st k before []) counters bs) (body_moments core in_lanes k (n + counters_size counters) 0 st owned ops (group_values (loops_of in_lanes counters bs)) groups)
        (bounds_owned os counters bs n (inside_at st k before [])) (body_owned os owned more ops k (n + counters_size counters) 0 st (group_values (loops_of in_lanes counters bs)) groups)
    node_owns (outer counters style owned stages) k n st (outer_ran bs counts groups) timed os more =
        join os (bounds_moments n (inside_at st k before []) counters bs) (group_moments core in_lanes stages k (n + counters_size counters) 0 st owned (group_values (loops_of in_lanes counters bs)) groups)
        (bounds_owned os counters bs n (inside_at st k before []))
        (groups_own stages k (n + counters_size counters) 0 st owned (group_values (loops_of in_lanes counters bs)) groups timed.1 os (λ x h. more x (among_left x owned (owned_in_stages stages) h)) (λ x h. more x (among_right x owned (owned_in_stages stages) h)))
    node_owns (fsm start state test body next) k n st (fsm_ran first ts last) timed os more =
        join os (list_moments n (inside_at st k before []) start first ++ keeps state (last_word first) ∷ []) (turn_moments core in_lanes start state test body next k n 0 st ts last)
        (join os (list_moments n (inside_at st k before []) start first) (keeps state (last_word first) ∷ []) (list_owned os start first n (inside_at st k before [])) (more state (among_first state (owned_in body)), tt))
        (turns_own start state test body next k n 0 st ts last timed os (more state (among_first state (owned_in body))) (λ x h. more x (among_rest x state (owned_in body) h)))
    node_owns (branch test first second) k n st (branch_ran es true h) timed os more =
        join os (list_moments n (inside_at st k (in_turn 0) []) test es) (moments core in_lanes first (suc k) (n + length test) (inside_at st k (in_turn 0) []) h)
        (list_owned os test es n (inside_at st k (in_turn 0) [])) (node_owns first (suc k) (n + length test) (inside_at st k (in_turn 0) []) h timed.0 os (λ x q. more x (among_left x (owned_in first) (owned_in second) q)))
    node_owns (branch test first second) k n st (branch_ran es false h) timed os more =
        join os (list_moments n (inside_at st k (in_turn 0) []) test es) (moments core in_lanes second (suc k + node_count first) (n + (length test + number_count first)) (inside_at st k (in_turn 0) []) h)
        (list_owned os test es n (inside_at st k (in_turn 0) [])) (node_owns second (suc k + node_count first) (n + (length test + number_count first)) (inside_at st k (in_turn 0) []) h timed.1 os (λ x q. more x (among_right x (owned_in first) (owned_in second) q)))
    node_owns (load r m spans) k n st (moved taken words) timed os more =
        join os (spans_moments n st spans taken) (loaded core (n + spans_size spans) st r m (map part_of taken) words) (spans_owned os spans taken n st) (loaded_owned os (n + spans_size spans) r m st (map part_of taken) words)
    node_owns (store r m spans) k n st (moved taken words) timed os more =
        join os (spans_moments n st spans taken) (stored core (n + spans_size spans) st r m (map part_of taken) words) (spans_owned os spans taken n st) (stored_owned os (n + spans_size spans) r m st (map part_of taken) words)
    node_owns (sparse kind r m places spans count par) k n st h timed os more = absurd timed
    node_owns node k n st h timed os more = tt

    groups_own : (stages : PlainStages) (k n g : ℕ) (st : Standing) (owned : List ℕ) (values : List (List ℤ)) (groups : Groups) → AreTimed stages → (os : List ℕ) → IsMore owned os → IsMore (owned_in_stages stages) os → AreOwned os (group_moments core in_lanes stages k n g st owned values groups)
    groups_own stages k n g st owned (v ∷ values) (more_group rs rest) timed os own more =
        join os (map renews owned ++ stage_moments core in_lanes stages k n 0 g (suc k) v st rs) (group_moments core in_lanes stages k n (suc g) st owned values rest)
        (join os (map renews owned) (stage_moments core in_lanes stages k n 0 g (suc k) v st rs) (renews_owned os owned own) (stages_own stages k n 0 g (suc k) v st rs timed os more))
        (groups_own stages k n (suc g) st owned values rest timed os own more)
    groups_own stages k n g st owned [] groups timed os own more = tt
    groups_own stages k n g st owned (v ∷ values) no_group timed os own more = tt

    stages_own : (stages : PlainStages) (k n s g j : ℕ) (v : List ℤ) (st : Standing) (rs : Runs) → AreTimed stages → (os : List ℕ) → IsMore (owned_in_stages stages) os → AreOwned os (stage_moments core in_lanes stages k n s g j v st rs)
    stages_own (more_stage first last comb node rest) k n s g j v st (more_run h hs) timed os more =
        join os (moments core in_lanes node j n (inside_at st k (in_group_of g s) v) h) (stage_moments core in_lanes rest k (n + number_count node) (suc s) g (j + node_count node) v st hs)
        (node_owns node j n (inside_at st k (in_group_of g s) v) h timed.0 os (λ x q. more x (among_left x (owned_in node) (owned_in_stages rest) q)))
        (stages_own rest k (n + number_count node) (suc s) g (j + node_count node) v st hs timed.1 os (λ x q. more x (among_right x (owned_in node) (owned_in_stages rest) q)))
    stages_own (more_stage first last comb node rest) k n s g j v st (masked_run hs) timed os more =
        stages_own rest k (n + number_count node) (suc s) g (j + node_count node) v st hs timed.1 os (λ x q. more x (among_right x (owned_in node) (owned_in_stages rest) q))
    stages_own (more_stage first last comb node rest) k n s g j v st no_run timed os more = tt
    stages_own no_stage k n s g j v st rs timed os more = tt

    turns_own : (start : List PlainOp) (state : ℕ) (test : List PlainOp) (body : PlainNode) (next : List PlainOp) (k n t : ℕ) (st : Standing) (ts : Turns) (last : List Entry) → IsTimed body → (os : List ℕ) → is_among state os ≡ true → IsMore (owned_in body) os
        → AreOwned os (turn_moments core in_lanes start state test body next k n t st ts last)
    turns_own start state test body next k n t st no_turn last timed os own more = list_owned os test last (n + length start) (inside_at st k (in_turn t) [])
    turns_own start state test body next k n t st (more_turn es h ns rest) last timed os own more =
        let at : Standing = inside_at st k (in_turn t) [] in
        let after : ℕ = n + (length start + (length test + number_count body)) in
        join os (list_moments (n + length start) at test es ++ (moments core in_lanes body (suc k) (n + (length start + length test)) at h ++ (list_moments after at next ns ++ keeps state (last_word ns) ∷ []))) (turn_moments core in_lanes start state test body next k n (suc t) st rest last)
        (join os (list_moments (n + length start) at test es) (moments core in_lanes body (suc k) (n + (length start + length test)) at h ++ (list_moments after at next ns ++ keeps state (last_word ns) ∷ []))
        (list_owned os test es (n + length start) at)
        (join os (moments core in_lanes body (suc k) (n + (length start + length test)) at h) (list_moments after at next ns ++ keeps state (last_word ns) ∷ [])
        (node_owns body (suc k) (n + (length start + length test)) at h timed os more)
        (join os (list_moments after at next ns) (keeps state (last_word ns) ∷ []) (list_owned os next ns after at) (own, tt))))
        (turns_own start state test body next k n (suc t) st rest last timed os own more)

pub runs_own : (core : PlainCore) (node : PlainNode) → RunsOwn core node
runs_own core node timed k n st h = node_owns core node k n st h timed (owned_in node) (λ x q. q)
