-- A timeline without its cycles and copies is the list of the run's moments.
use Rattle.std.proofs.Common.{◌≡◌, ℕ, suc, ◌+◌, Bool, true, false, ℤ, List, [], ◌∷◌, ◌++◌, map, length, append_assoc, refl, sym, ◌∙◌, ap}
use Rattle.std.proofs.lemmas.List.{map-append}
use Rattle.std.specs.Prelude.{flat_map}
use Rattle.sp_core.specs.Declarations.{kind_of}
use Rattle.sp_core.specs.Events.{Standing, inside_at, before, in_group_of, in_turn, Moment, renews, slices, keeps, reads, writes, dram_event, mem_event, first_of, list_moments, entry_moments, bounds_moments, spans_moments, rows_turn, load_moments, store_moments, slice_moments, loaded, stored, renewal_in_body, body_moments, moments, group_moments, stage_moments, turn_moments}
use Rattle.sp_core.specs.History.{Entry, last_word, History, Groups, Runs, Turns, inner_ran, outer_ran, fsm_ran, branch_ran, moved, no_group, more_group, no_run, masked_run, more_run, no_turn, more_turn}
use Rattle.sp_core.specs.Numbering.{counters_size, spans_size, node_count, number_count}
use Rattle.sp_core.specs.PlainCore.{PlainOp, PlainNode, PlainStages, inner, outer, fsm, branch, load, store, no_stage, more_stage, PlainCore}
use Rattle.sp_core.specs.Scope.{in_lanes, loops_of, group_values}
use Rattle.sp_core.specs.Transfers.{Part, part_of, lengths, has_none, places_of, all_offsets, loaded_at}
use Rattle.sp_plan.specs.PlainPlan.{PlainNodePlan, PlainPlan, node_plan}
use Rattle.sp_time.specs.Beats.{Slot, Run, took_at, starts}
use Rattle.sp_machine.specs.Laws.{told}
use Rattle.sp_machine.specs.Stamps.{Stamped, Copies, stamped, later, list_stamped, ◌▸◌, inside_of, list_run, kept_run, in_a_row}
use Rattle.sp_machine.specs.Timeline.{timed, group_runs, stage_runs, turn_runs, body_events, stage_events, fresh_events, group_events, in_copies, slots_of, issued, issued_by}
use Rattle.sp_machine.specs.Transfers.{Delays, load_stamped, store_stamped, slice_stamped, load_run, store_run}

pub told_append : (a b : List Stamped) → told (a ++ b) ≡ told a ++ told b
told_append a b = map-append (λ (s : Stamped). s.moment) a b

-- two lists, each of which tells something
pub told_both : (a b : List Stamped) (x y : List Moment) → told a ≡ x → told b ≡ y → told (a ++ b) ≡ x ++ y
told_both a b x y e f = told_append a b ∙ ap (λ z. z ++ told b) e ∙ ap (λ z. x ++ z) f

pub told_stamped : (copies : Copies) (cycle : ℕ) (ms : List Moment) → told (stamped copies cycle ms) ≡ ms
told_stamped copies cycle [] = refl
told_stamped copies cycle (m ∷ ms) = ap (λ z. m ∷ z) (told_stamped copies cycle ms)

pub told_later : (n : ℕ) (es : List Stamped) → told (later n es) ≡ told es
told_later n [] = refl
told_later n (e ∷ es) = ap (λ z. e.moment ∷ z) (told_later n es)

pub told_list : (copies : Copies) (f : ℕ → ℕ) (i n : ℕ) (st : Standing) (ops : List PlainOp) (es : List Entry) → told (list_stamped copies f i n st ops es) ≡ list_moments n st ops es
told_list copies f i n st (op ∷ ops) (e ∷ es) =
    told_both (stamped copies (f i) (entry_moments n st op.kind op.mem e)) (list_stamped copies f (suc i) (suc n) st ops es) (entry_moments n st op.kind op.mem e) (list_moments (suc n) st ops es)
    (told_stamped copies (f i) (entry_moments n st op.kind op.mem e)) (told_list copies f (suc i) (suc n) st ops es)
told_list copies f i n st [] es = refl
told_list copies f i n st (op ∷ ops) [] = refl

-- runs one after the other, and inside of a controller
pub told_then : (a b : Run Stamped) (x y : List Moment) → told a.events ≡ x → told b.events ≡ y → told (a ▸ b).events ≡ x ++ y
told_then a b x y e f = told_both a.events (later a.took b.events) x y e (told_later a.took b.events ∙ f)

pub told_inside : (r : Run Stamped) (x : List Moment) → told r.events ≡ x → told (inside_of r).events ≡ x
told_inside r x e = told_later 1 r.events ∙ e

-- a turn's moments, put together from the right
turn_joined : (a b c d : List Moment) → a ++ (b ++ (c ++ d)) ≡ (a ++ (b ++ c)) ++ d
turn_joined a b c d = ap (λ z. a ++ z) (sym (append_assoc b c d)) ∙ sym (append_assoc a (b ++ c) d)

module _ (core : PlainCore) where
  pub told_kept : (copies : Copies) (n : ℕ) (st : Standing) (ops : List PlainOp) (es : List Entry) (state word : ℕ) → told (kept_run core copies n st ops es state word).events ≡ list_moments n st ops es ++ keeps state word ∷ []
  told_kept copies n st ops es state word = told_both (list_run core copies n st ops es).events _ (list_moments n st ops es) (keeps state word ∷ []) (told_list copies (in_a_row core ops) 0 n st ops es) refl

  -- transfers
  module _ (delay : ℕ → ℕ) (copies : Copies) (n : ℕ) (st : Standing) (r m : ℕ) (parts : List Part) where
    pub told_load : (j : ℕ) (offsets : List (List ℕ)) (words : List ℕ) → told (load_stamped delay core copies n st r m parts j offsets words) ≡ load_moments core n st r m parts offsets words
    told_load j (o ∷ offsets) (w ∷ words) = ap (λ z. dram_event core n st r (places_of parts o) (reads w) ∷ mem_event core n st m (loaded_at core (kind_of core m) m o) (writes w) ∷ z) (told_load (suc j) offsets words)
    told_load j [] words = refl
    told_load j (o ∷ offsets) [] = refl

    pub told_store : (j : ℕ) (offsets : List (List ℕ)) (words : List ℕ) → told (store_stamped delay core copies n st r m parts j offsets words) ≡ store_moments core n st r m parts offsets words
    told_store j (o ∷ offsets) (w ∷ words) = ap (λ z. mem_event core n st m o (reads w) ∷ dram_event core n st r (places_of parts o) (writes w) ∷ z) (told_store (suc j) offsets words)
    told_store j [] words = refl
    told_store j (o ∷ offsets) [] = refl

    pub told_slice : (es : List Stamped) (ms : List Moment) → told es ≡ ms → told (slice_stamped delay core copies n st parts es) ≡ slice_moments core n st parts ms
    told_slice es ms e = go (has_none (lengths parts))
      where
        asked : Moment
        asked = slices (record { number = n; standing = st; firsts = map first_of parts; lengths = lengths parts })

        go : (b : Bool) → told (elim b as (λ _. List Stamped) [ true ↦ [] | false ↦ stamped copies 1 (asked ∷ []) ++ es ]) ≡ elim b as (λ _. List Moment) [ true ↦ [] | false ↦ asked ∷ ms ]
        go true = refl
        go false = ap (λ z. asked ∷ z) e

    pub told_load_run : (words : List ℕ) → told (load_run delay core copies n st r m parts words) ≡ loaded core n st r m parts words
    told_load_run words = told_slice _ _ (told_both _ _ (rows_turn core n st (kind_of core m) m) _ (told_stamped copies 1 (rows_turn core n st (kind_of core m) m)) (told_load 0 (all_offsets parts) words))

    pub told_store_run : (words : List ℕ) → told (store_run delay core copies n st r m parts words) ≡ stored core n st r m parts words
    told_store_run words = told_slice _ _ (told_store 0 (all_offsets parts) words)

  module _ (plan : PlainPlan) (delays : Delays) where
    -- the groups of an inner body
    pub told_body : (p : PlainNodePlan) (copies : Copies) (k n g : ℕ) (st : Standing) (owned : List ℕ) (ops : List PlainOp) (values : List (List ℤ)) (groups : List (List Entry))
        → told (body_events core plan delays p copies k n g st owned ops values groups) ≡ body_moments core in_lanes k n g st owned ops values groups
    told_body p copies k n g st owned ops (v ∷ values) (es ∷ groups) =
        let at : Standing = inside_at st k (in_group_of g 0) v in
        told_both _ _ (flat_map (renewal_in_body core) owned ++ list_moments n at ops es) (body_moments core in_lanes k n (suc g) st owned ops values groups)
        (told_both _ _ (flat_map (renewal_in_body core) owned) (list_moments n at ops es) (told_stamped copies (issued core plan delays p g) (flat_map (renewal_in_body core) owned)) (told_list copies _ 0 n at ops es))
        (told_body p copies k n (suc g) st owned ops values groups)
    told_body p copies k n g st owned ops [] groups = refl
    told_body p copies k n g st owned ops (v ∷ values) [] = refl

    pub told_fresh : (slots : List Slot) (runs : List (List (Run Stamped))) (p : PlainNodePlan) (stages : PlainStages) (copies : Copies) (g : ℕ) (owned : List ℕ) → told (fresh_events core plan delays slots runs p stages copies g owned) ≡ map renews owned
    told_fresh slots runs p stages copies g [] = refl
    told_fresh slots runs p stages copies g (m ∷ owned) = ap (λ z. renews m ∷ z) (told_fresh slots runs p stages copies g owned)

    mutual
      unfolding timed moments group_runs group_moments stage_runs stage_moments turn_runs turn_moments

      pub told_node : (node : PlainNode) (k n : ℕ) (st : Standing) (copies : Copies) (h : History) → told (timed core plan delays node k n st copies h).events ≡ moments core in_lanes node k n st h
      told_node (inner counters owned ops comb) k n st copies (inner_ran bs counts groups) =
          told_both _ _ (bounds_moments n (inside_at st k before []) counters bs) _ (told_stamped copies 0 _)
          (told_body (issued_by core ops (node_plan plan k)) copies k (n + counters_size counters) 0 st owned ops (group_values (loops_of in_lanes counters bs)) groups)
      told_node (outer counters style owned stages) k n st copies (outer_ran bs counts groups) =
          let runs = group_runs core plan delays stages k (n + counters_size counters) 0 st owned copies (group_values (loops_of in_lanes counters bs)) groups in
          told_both _ _ (bounds_moments n (inside_at st k before []) counters bs) _ (told_stamped copies 0 _)
          (told_groups (slots_of (node_plan plan k)) runs (node_plan plan k) stages stages k (n + counters_size counters) 0 st owned copies (group_values (loops_of in_lanes counters bs)) groups)
      told_node (fsm start state test body next) k n st copies (fsm_ran first ts last) =
          let begin : Run Stamped = kept_run core copies n (inside_at st k before []) start first state (last_word first) in
          let rest : Run Stamped = turn_runs core plan delays start state test body next k n 0 st copies ts last in
          told_inside (begin ▸ rest) _ (told_then begin rest _ _ (told_kept copies n (inside_at st k before []) start first state (last_word first)) (told_turns start state test body next k n 0 st copies ts last))
      told_node (branch test first second) k n st copies (branch_ran es true h) =
          let asked : Run Stamped = list_run core copies n (inside_at st k (in_turn 0) []) test es in
          let taken : Run Stamped = timed core plan delays first (suc k) (n + length test) (inside_at st k (in_turn 0) []) copies h in
          told_inside (asked ▸ taken) _ (told_then asked taken _ _ (told_list copies (in_a_row core test) 0 n (inside_at st k (in_turn 0) []) test es) (told_node first (suc k) (n + length test) (inside_at st k (in_turn 0) []) copies h))
      told_node (branch test first second) k n st copies (branch_ran es false h) =
          let asked : Run Stamped = list_run core copies n (inside_at st k (in_turn 0) []) test es in
          let taken : Run Stamped = timed core plan delays second (suc k + node_count first) (n + (length test + number_count first)) (inside_at st k (in_turn 0) []) copies h in
          told_inside (asked ▸ taken) _ (told_then asked taken _ _ (told_list copies (in_a_row core test) 0 n (inside_at st k (in_turn 0) []) test es) (told_node second (suc k + node_count first) (n + (length test + number_count first)) (inside_at st k (in_turn 0) []) copies h))
      told_node (load r m spans) k n st copies (moved taken words) =
          told_both _ _ (spans_moments n st spans taken) _ (told_stamped copies 0 _) (told_load_run (delays k st.path) copies (n + spans_size spans) st r m (map part_of taken) words)
      told_node (store r m spans) k n st copies (moved taken words) =
          told_both _ _ (spans_moments n st spans taken) _ (told_stamped copies 0 _) (told_store_run (delays k st.path) copies (n + spans_size spans) st r m (map part_of taken) words)
      told_node node k n st copies h = told_stamped copies 0 (moments core in_lanes node k n st h)

      pub told_groups : (slots : List Slot) (runs : List (List (Run Stamped))) (p : PlainNodePlan) (all stages : PlainStages) (k n g : ℕ) (st : Standing) (owned : List ℕ) (copies : Copies) (values : List (List ℤ)) (groups : Groups)
          → told (group_events core plan delays slots runs p all copies owned g (group_runs core plan delays stages k n g st owned copies values groups)) ≡ group_moments core in_lanes stages k n g st owned values groups
      told_groups slots runs p all stages k n g st owned copies (v ∷ values) (more_group rs rest) =
          told_both _ _ (map renews owned ++ stage_moments core in_lanes stages k n 0 g (suc k) v st rs) _
          (told_both _ _ (map renews owned) _ (told_fresh slots runs p all (in_copies core plan delays owned g copies) g owned) (told_stages slots runs g 0 stages k n 0 g (suc k) v st (in_copies core plan delays owned g copies) rs))
          (told_groups slots runs p all stages k n (suc g) st owned copies values rest)
      told_groups slots runs p all stages k n g st owned copies [] groups = refl
      told_groups slots runs p all stages k n g st owned copies (v ∷ values) no_group = refl

      pub told_stages : (slots : List Slot) (runs : List (List (Run Stamped))) (h t : ℕ) (stages : PlainStages) (k n s g j : ℕ) (v : List ℤ) (st : Standing) (copies : Copies) (rs : Runs)
          → told (stage_events core plan delays slots runs h t (stage_runs core plan delays stages k n s g j v st copies rs)) ≡ stage_moments core in_lanes stages k n s g j v st rs
      told_stages slots runs h t (more_stage first last comb node rest) k n s g j v st copies (more_run x rs) =
          told_both _ _ _ _ (told_later (starts slots (took_at runs) h t) _ ∙ told_node node j n (inside_at st k (in_group_of g s) v) copies x)
          (told_stages slots runs h (suc t) rest k (n + number_count node) (suc s) g (j + node_count node) v st copies rs)
      told_stages slots runs h t (more_stage first last comb node rest) k n s g j v st copies (masked_run rs) =
          told_stages slots runs h (suc t) rest k (n + number_count node) (suc s) g (j + node_count node) v st copies rs
      told_stages slots runs h t (more_stage first last comb node rest) k n s g j v st copies no_run = refl
      told_stages slots runs h t no_stage k n s g j v st copies rs = refl

      pub told_turns : (start : List PlainOp) (state : ℕ) (test : List PlainOp) (body : PlainNode) (next : List PlainOp) (k n t : ℕ) (st : Standing) (copies : Copies) (ts : Turns) (last : List Entry)
          → told (turn_runs core plan delays start state test body next k n t st copies ts last).events ≡ turn_moments core in_lanes start state test body next k n t st ts last
      told_turns start state test body next k n t st copies no_turn last = told_list copies (in_a_row core test) 0 (n + length start) (inside_at st k (in_turn t) []) test last
      told_turns start state test body next k n t st copies (more_turn es h ns rest) last =
          let at : Standing = inside_at st k (in_turn t) [] in
          let here = list_moments (n + length start) at test es in
          let inner = moments core in_lanes body (suc k) (n + (length start + length test)) at h in
          let kept = list_moments (n + (length start + (length test + number_count body))) at next ns ++ keeps state (last_word ns) ∷ [] in
          let more = turn_moments core in_lanes start state test body next k n (suc t) st rest last in
          let tested : Run Stamped = list_run core copies (n + length start) at test es in
          let body_run : Run Stamped = timed core plan delays body (suc k) (n + (length start + length test)) at copies h in
          let next_run : Run Stamped = kept_run core copies (n + (length start + (length test + number_count body))) at next ns state (last_word ns) in
          let others : Run Stamped = turn_runs core plan delays start state test body next k n (suc t) st copies rest last in
          told_then tested (body_run ▸ next_run ▸ others) here (inner ++ (kept ++ more)) (told_list copies (in_a_row core test) 0 (n + length start) at test es)
          (told_then body_run (next_run ▸ others) inner (kept ++ more) (told_node body (suc k) (n + (length start + length test)) at copies h)
          (told_then next_run others kept more (told_kept copies (n + (length start + (length test + number_count body))) at next ns state (last_word ns)) (told_turns start state test body next k n (suc t) st copies rest last)))
          ∙ turn_joined here inner kept more
