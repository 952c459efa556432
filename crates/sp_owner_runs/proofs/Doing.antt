-- What owners do in runs of a node is done by its loops and its FSMs.
use Rattle.std.proofs.Common.{◌≡◌, ℕ, suc, ◌+◌, Bool, true, false, ℤ, List, [], ◌∷◌, ◌++◌, map, length, flat_map, Option, Some, None, refl, sym, ◌∙◌}
use Rattle.std.proofs.lemmas.Bool.{true≢false}
use Rattle.sp_words.specs.declared.kind.Kind.{Kind}
use Rattle.sp_words.specs.declared.kind.Kind.TheVariants.{Reg, Sram, Fifo, LineBuf, Dram, ArgIn, ArgOut}
use Rattle.sp_core.specs.Declarations.{mem, kind_of, is_among}
use Rattle.sp_core.specs.Events.{Act, act_of, Event, Slice, Standing, inside_at, before, in_group_of, in_turn, Moment, touches, slices, renews, keeps, first_of, event_of, entry_moments, list_moments, bounds_moments, spans_moments, rows_turn, load_moments, store_moments, slice_moments, loaded, stored, renewal_in_body, body_moments, moments, group_moments, stage_moments, turn_moments}
use Rattle.sp_core.specs.History.{Entry, left_out, gave, touched, last_word, Bounds, Taken, one, both, History, Groups, Runs, Turns, inner_ran, outer_ran, fsm_ran, branch_ran, moved, no_group, more_group, no_run, masked_run, more_run, no_turn, more_turn}
use Rattle.sp_core.specs.Numbering.{counters_size, spans_size, node_count, number_count}
use Rattle.sp_core.specs.PlainCore.{PlainOp, PlainCounter, PlainSpan, single, range, PlainNode, PlainStages, inner, outer, fsm, branch, load, store, sparse, no_stage, more_stage, PlainCore}
use Rattle.sp_core.specs.Scope.{in_lanes, loops_of, group_values}
use Rattle.sp_core.specs.Sequential.{has_reset}
use Rattle.sp_core.specs.Transfers.{Part, part_of, lengths, has_none, all_offsets}
use Rattle.sp_time.specs.Lists.{Each}
use Rattle.sp_overlap.specs.Whole.{IsTimed, AreTimed}
use Rattle.sp_owner_runs.specs.Deeds.{renewed_in, renewed_in_stages, kept_in, kept_in_stages, IsDeed, OwnersDo}
use Rattle.sp_owner_runs.proofs.Among.{among_left, among_right, among_first, among_rest}
use Rattle.sp_tree_events.proofs.OwnersDeeds.{each_append}

-- what holds of each moment of a run: of all but deeds of owners, and of the deeds that a node's parts do
module _ (core : PlainCore) (Q : Moment → Type 0) (touched_so : (e : Event) → Q (touches e)) (sliced_so : (x : Slice) → Q (slices x)) (body_so : (m : ℕ) → has_reset (mem core m).kind (mem core m).start ≡ false → Q (renews m)) where
  abbrev AreSo : List Moment → Type 0
  AreSo ms = Each Q ms

  join : (a b : List Moment) → AreSo a → AreSo b → AreSo (a ++ b)
  join a b h k = each_append Q a b h k

  abbrev IsFresh : List ℕ → Type 0
  IsFresh own = (m : ℕ) → is_among m own ≡ true → Q (renews m)

  abbrev IsState : List ℕ → Type 0
  IsState states = (m w : ℕ) → is_among m states ≡ true → Q (keeps m w)

  event_so : (n : ℕ) (st : Standing) (is : List ℕ) (m : Option ℕ) (a : Option Act) → AreSo (event_of n st m is a)
  event_so n st is None a = tt
  event_so n st is (Some m) None = tt
  event_so n st is (Some m) (Some a) = (touched_so _, tt)

  entry_so : (n : ℕ) (st : Standing) (op : PlainOp) (e : Entry) → AreSo (entry_moments n st op.kind op.mem e)
  entry_so n st op left_out = tt
  entry_so n st op (gave w) = tt
  entry_so n st op (touched is w) = event_so n st is op.mem (act_of op.kind w)

  list_so : (ops : List PlainOp) (es : List Entry) (n : ℕ) (st : Standing) → AreSo (list_moments n st ops es)
  list_so [] es n st = tt
  list_so (op ∷ ops) [] n st = tt
  list_so (op ∷ ops) (e ∷ es) n st = join (entry_moments n st op.kind op.mem e) (list_moments (suc n) st ops es) (entry_so n st op e) (list_so ops es (suc n) st)

  bounds_so : (counters : List PlainCounter) (bs : List Bounds) (n : ℕ) (st : Standing) → AreSo (bounds_moments n st counters bs)
  bounds_so [] bs n st = tt
  bounds_so (c ∷ counters) [] n st = tt
  bounds_so (c ∷ counters) (b ∷ bs) n st =
      join (list_moments n st c.from b.from ++ list_moments (n + length c.from) st c.until b.until) (bounds_moments (n + (length c.from + length c.until)) st counters bs)
      (join (list_moments n st c.from b.from) (list_moments (n + length c.from) st c.until b.until) (list_so c.from b.from n st) (list_so c.until b.until (n + length c.from) st))
      (bounds_so counters bs (n + (length c.from + length c.until)) st)

  spans_so : (spans : List PlainSpan) (ts : List Taken) (n : ℕ) (st : Standing) → AreSo (spans_moments n st spans ts)
  spans_so [] ts n st = tt
  spans_so (single ops ∷ spans) [] n st = tt
  spans_so (single ops ∷ spans) (one es ∷ ts) n st = join (list_moments n st ops es) (spans_moments (n + length ops) st spans ts) (list_so ops es n st) (spans_so spans ts (n + length ops) st)
  spans_so (single ops ∷ spans) (both es fs ∷ ts) n st = tt
  spans_so (range a b ∷ spans) [] n st = tt
  spans_so (range a b ∷ spans) (one es ∷ ts) n st = tt
  spans_so (range a b ∷ spans) (both es fs ∷ ts) n st =
      join (list_moments n st a es ++ list_moments (n + length a) st b fs) (spans_moments (n + (length a + length b)) st spans ts)
      (join (list_moments n st a es) (list_moments (n + length a) st b fs) (list_so a es n st) (list_so b fs (n + length a) st)) (spans_so spans ts (n + (length a + length b)) st)

  module _ (n r m : ℕ) (st : Standing) where
    load_so : (parts : List Part) (offsets : List (List ℕ)) (ws : List ℕ) → AreSo (load_moments core n st r m parts offsets ws)
    load_so parts [] ws = tt
    load_so parts (o ∷ offsets) [] = tt
    load_so parts (o ∷ offsets) (w ∷ ws) = (touched_so _, (touched_so _, load_so parts offsets ws))

    store_so : (parts : List Part) (offsets : List (List ℕ)) (ws : List ℕ) → AreSo (store_moments core n st r m parts offsets ws)
    store_so parts [] ws = tt
    store_so parts (o ∷ offsets) [] = tt
    store_so parts (o ∷ offsets) (w ∷ ws) = (touched_so _, (touched_so _, store_so parts offsets ws))

    rows_so : (k : Kind) → AreSo (rows_turn core n st k m)
    rows_so Reg = tt
    rows_so Sram = tt
    rows_so Fifo = tt
    rows_so LineBuf = (touched_so _, tt)
    rows_so Dram = tt
    rows_so ArgIn = tt
    rows_so ArgOut = tt

    slice_so : (parts : List Part) (ms : List Moment) → AreSo ms → AreSo (slice_moments core n st parts ms)
    slice_so parts ms h = by (has_none (lengths parts))
      where
        by : (b : Bool) → AreSo (elim b as (λ _. List Moment) [ true ↦ [] | false ↦ slices (record { number = n; standing = st; firsts = map first_of parts; lengths = lengths parts }) ∷ ms ])
        by true = tt
        by false = (sliced_so _, h)

    loaded_so : (parts : List Part) (ws : List ℕ) → AreSo (loaded core n st r m parts ws)
    loaded_so parts ws = slice_so parts _ (join (rows_turn core n st (kind_of core m) m) (load_moments core n st r m parts (all_offsets parts) ws) (rows_so (kind_of core m)) (load_so parts (all_offsets parts) ws))

    stored_so : (parts : List Part) (ws : List ℕ) → AreSo (stored core n st r m parts ws)
    stored_so parts ws = slice_so parts _ (store_so parts (all_offsets parts) ws)

  renewal_so : (m : ℕ) → AreSo (renewal_in_body core m)
  renewal_so m = by (has_reset (mem core m).kind (mem core m).start) refl
    where
      by : (b : Bool) → has_reset (mem core m).kind (mem core m).start ≡ b → AreSo (elim b as (λ _. List Moment) [ true ↦ [] | false ↦ renews m ∷ [] ])
      by true e = tt
      by false e = (body_so m e, tt)

  renewals_so : (own : List ℕ) → AreSo (flat_map (renewal_in_body core) own)
  renewals_so [] = tt
  renewals_so (m ∷ own) = join (renewal_in_body core m) (flat_map (renewal_in_body core) own) (renewal_so m) (renewals_so own)

  renews_so : (own : List ℕ) → IsFresh own → AreSo (map renews own)
  renews_so [] more = tt
  renews_so (m ∷ own) more = (more m (among_first m own), renews_so own (λ x h. more x (among_rest x m own h)))

  ops_so : (own : List ℕ) (ops : List PlainOp) (k n g : ℕ) (st : Standing) (values : List (List ℤ)) (groups : List (List Entry)) → AreSo (body_moments core in_lanes k n g st own ops values groups)
  ops_so own ops k n g st [] groups = tt
  ops_so own ops k n g st (v ∷ values) [] = tt
  ops_so own ops k n g st (v ∷ values) (es ∷ groups) =
      join (flat_map (renewal_in_body core) own ++ list_moments n (inside_at st k (in_group_of g 0) v) ops es) (body_moments core in_lanes k n (suc g) st own ops values groups)
      (join (flat_map (renewal_in_body core) own) (list_moments n (inside_at st k (in_group_of g 0) v) ops es) (renewals_so own) (list_so ops es n (inside_at st k (in_group_of g 0) v)))
      (ops_so own ops k n (suc g) st values groups)

  mutual
    unfolding moments group_moments stage_moments turn_moments

    node_does : (node : PlainNode) (k n : ℕ) (st : Standing) (h : History) → IsTimed node → IsFresh (renewed_in node) → IsState (kept_in node) → AreSo (moments core in_lanes node k n st h)
    node_does (inner counters owned ops comb) k n st (inner_ran bs counts groups) timed fresh states =
        join (bounds_moments n (inside_at st k before []) counters bs) (body_moments core in_lanes k (n + counters_size counters) 0 st owned ops (group_values (loops_of in_lanes counters bs)) groups)
        (bounds_so counters bs n (inside_at st k before [])) (ops_so owned ops k (n + counters_size counters) 0 st (group_values (loops_of in_lanes counters bs)) groups)
    node_does (outer counters style owned stages) k n st (outer_ran bs counts groups) timed fresh states =
        join (bounds_moments n (inside_at st k before []) counters bs) (group_moments core in_lanes stages k (n + counters_size counters) 0 st owned (group_values (loops_of in_lanes counters bs)) groups)
        (bounds_so counters bs n (inside_at st k before []))
        (groups_do stages k (n + counters_size counters) 0 st owned (group_values (loops_of in_lanes counters bs)) groups timed.1 (λ x h. fresh x (among_left x owned (renewed_in_stages stages) h)) (λ x h. fresh x (among_right x owned (renewed_in_stages stages) h)) states)
    node_does (fsm start state test body next) k n st (fsm_ran first ts last) timed fresh states =
        join (list_moments n (inside_at st k before []) start first ++ keeps state (last_word first) ∷ []) (turn_moments core in_lanes start state test body next k n 0 st ts last)
        (join (list_moments n (inside_at st k before []) start first) (keeps state (last_word first) ∷ []) (list_so start first n (inside_at st k before [])) (states state (last_word first) (among_first state (kept_in body)), tt))
        (turns_do start state test body next k n 0 st ts last timed fresh (λ w. states state w (among_first state (kept_in body))) (λ x w h. states x w (among_rest x state (kept_in body) h)))
    node_does (branch test first second) k n st (branch_ran es true h) timed fresh states =
        join (list_moments n (inside_at st k (in_turn 0) []) test es) (moments core in_lanes first (suc k) (n + length test) (inside_at st k (in_turn 0) []) h)
        (list_so test es n (inside_at st k (in_turn 0) []))
        (node_does first (suc k) (n + length test) (inside_at st k (in_turn 0) []) h timed.0 (λ x q. fresh x (among_left x (renewed_in first) (renewed_in second) q)) (λ x w q. states x w (among_left x (kept_in first) (kept_in second) q)))
    node_does (branch test first second) k n st (branch_ran es false h) timed fresh states =
        join (list_moments n (inside_at st k (in_turn 0) []) test es) (moments core in_lanes second (suc k + node_count first) (n + (length test + number_count first)) (inside_at st k (in_turn 0) []) h)
        (list_so test es n (inside_at st k (in_turn 0) []))
        (node_does second (suc k + node_count first) (n + (length test + number_count first)) (inside_at st k (in_turn 0) []) h timed.1 (λ x q. fresh x (among_right x (renewed_in first) (renewed_in second) q)) (λ x w q. states x w (among_right x (kept_in first) (kept_in second) q)))
    node_does (load r m spans) k n st (moved taken words) timed fresh states =
        join (spans_moments n st spans taken) (loaded core (n + spans_size spans) st r m (map part_of taken) words) (spans_so spans taken n st) (loaded_so (n + spans_size spans) r m st (map part_of taken) words)
    node_does (store r m spans) k n st (moved taken words) timed fresh states =
        join (spans_moments n st spans taken) (stored core (n + spans_size spans) st r m (map part_of taken) words) (spans_so spans taken n st) (stored_so (n + spans_size spans) r m st (map part_of taken) words)
    node_does (sparse kind r m places spans count par) k n st h timed fresh states = absurd timed
    node_does node k n st h timed fresh states = tt

    groups_do : (stages : PlainStages) (k n g : ℕ) (st : Standing) (owned : List ℕ) (values : List (List ℤ)) (groups : Groups) → AreTimed stages → IsFresh owned → IsFresh (renewed_in_stages stages) → IsState (kept_in_stages stages) → AreSo (group_moments core in_lanes stages k n g st owned values groups)
    groups_do stages k n g st owned (v ∷ values) (more_group rs rest) timed own fresh states =
        join (map renews owned ++ stage_moments core in_lanes stages k n 0 g (suc k) v st rs) (group_moments core in_lanes stages k n (suc g) st owned values rest)
        (join (map renews owned) (stage_moments core in_lanes stages k n 0 g (suc k) v st rs) (renews_so owned own) (stages_do stages k n 0 g (suc k) v st rs timed fresh states))
        (groups_do stages k n (suc g) st owned values rest timed own fresh states)
    groups_do stages k n g st owned [] groups timed own fresh states = tt
    groups_do stages k n g st owned (v ∷ values) no_group timed own fresh states = tt

    stages_do : (stages : PlainStages) (k n s g j : ℕ) (v : List ℤ) (st : Standing) (rs : Runs) → AreTimed stages → IsFresh (renewed_in_stages stages) → IsState (kept_in_stages stages) → AreSo (stage_moments core in_lanes stages k n s g j v st rs)
    stages_do (more_stage first last comb node rest) k n s g j v st (more_run h hs) timed fresh states =
        join (moments core in_lanes node j n (inside_at st k (in_group_of g s) v) h) (stage_moments core in_lanes rest k (n + number_count node) (suc s) g (j + node_count node) v st hs)
        (node_does node j n (inside_at st k (in_group_of g s) v) h timed.0 (λ x q. fresh x (among_left x (renewed_in node) (renewed_in_stages rest) q)) (λ x w q. states x w (among_left x (kept_in node) (kept_in_stages rest) q)))
        (stages_do rest k (n + number_count node) (suc s) g (j + node_count node) v st hs timed.1 (λ x q. fresh x (among_right x (renewed_in node) (renewed_in_stages rest) q)) (λ x w q. states x w (among_right x (kept_in node) (kept_in_stages rest) q)))
    stages_do (more_stage first last comb node rest) k n s g j v st (masked_run hs) timed fresh states =
        stages_do rest k (n + number_count node) (suc s) g (j + node_count node) v st hs timed.1 (λ x q. fresh x (among_right x (renewed_in node) (renewed_in_stages rest) q)) (λ x w q. states x w (among_right x (kept_in node) (kept_in_stages rest) q))
    stages_do (more_stage first last comb node rest) k n s g j v st no_run timed fresh states = tt
    stages_do no_stage k n s g j v st rs timed fresh states = tt

    turns_do : (start : List PlainOp) (state : ℕ) (test : List PlainOp) (body : PlainNode) (next : List PlainOp) (k n t : ℕ) (st : Standing) (ts : Turns) (last : List Entry) → IsTimed body → IsFresh (renewed_in body) → ((w : ℕ) → Q (keeps state w)) → IsState (kept_in body)
        → AreSo (turn_moments core in_lanes start state test body next k n t st ts last)
    turns_do start state test body next k n t st no_turn last timed fresh own states = list_so test last (n + length start) (inside_at st k (in_turn t) [])
    turns_do start state test body next k n t st (more_turn es h ns rest) last timed fresh own states =
        let at : Standing = inside_at st k (in_turn t) [] in
        let after : ℕ = n + (length start + (length test + number_count body)) in
        join (list_moments (n + length start) at test es ++ (moments core in_lanes body (suc k) (n + (length start + length test)) at h ++ (list_moments after at next ns ++ keeps state (last_word ns) ∷ []))) (turn_moments core in_lanes start state test body next k n (suc t) st rest last)
        (join (list_moments (n + length start) at test es) (moments core in_lanes body (suc k) (n + (length start + length test)) at h ++ (list_moments after at next ns ++ keeps state (last_word ns) ∷ []))
        (list_so test es (n + length start) at)
        (join (moments core in_lanes body (suc k) (n + (length start + length test)) at h) (list_moments after at next ns ++ keeps state (last_word ns) ∷ [])
        (node_does body (suc k) (n + (length start + length test)) at h timed fresh states)
        (join (list_moments after at next ns) (keeps state (last_word ns) ∷ []) (list_so next ns after at) (own (last_word ns), tt))))
        (turns_do start state test body next k n (suc t) st rest last timed fresh own states)

pub owners_do : (core : PlainCore) (node : PlainNode) → OwnersDo core node
owners_do core node timed k n st h =
    node_does core (IsDeed core (renewed_in node) (kept_in node)) (λ e. tt) (λ x. tt) (λ m e is. absurd (true≢false (sym is ∙ e))) node k n st h timed (λ m q is. q) (λ m w q. q)
