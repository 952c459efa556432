-- What happens in a node of a core happens in it: in all of its runs.
use Rattle.std.proofs.Common.{◌≡◌, ℕ, suc, ◌+◌, ◌<◌, ◌≤◌, Bool, true, false, cond, ℤ, List, [], ◌∷◌, ◌++◌, map, length, arith, refl, sym, ap, ◌∙◌}
use Rattle.std.proofs.lemmas.Bool.{eq-eqb, or_left, or_right, true≢false, false≢true}
use Rattle.std.specs.Prelude.{◌==◌, ◌||◌, ◌%◌, flat_map, slice_index}
use Rattle.sp_words.specs.declared.kind.Kind.{Kind}
use Rattle.sp_words.specs.declared.kind.Kind.TheVariants as kinds
use Rattle.sp_core.specs.Declarations.{is_among, kind_of, dram_number, mem}
use Rattle.sp_core.specs.Events.{At, Standing, inside_at, before, in_group_of, in_turn, Moment, slices, renews, reads, writes, turns, first_of, bounds_moments, spans_moments, rows_turn, renewal_in_body, moments}
use Rattle.sp_core.specs.History.{Entry, last_word, History, Groups, Runs, Turns, inner_ran, outer_ran, fsm_ran, branch_ran, moved, no_group, more_group, no_run, masked_run, more_run, no_turn, more_turn}
use Rattle.sp_core.specs.Invariant.{owned_in, owned_in_stages}
use Rattle.sp_core.specs.Numbering.{counters_size, spans_size, node_count, number_count, number_count_in}
use Rattle.sp_core.specs.PlainCore.{PlainOp, PlainSpan, PlainNode, PlainStages, inner, outer, fsm, branch, load, store, sparse, no_stage, more_stage, PlainCore}
use Rattle.sp_core.specs.Scope.{in_lanes, loops_of, group_values}
use Rattle.sp_core.specs.Sequential.{has_reset}
use Rattle.sp_core.specs.Transfers.{Part, part_of, lengths, has_none, all_offsets, places_of, loaded_at}
use Rattle.sp_plan.proofs.NamedAt.{list_length, two_length, counters_length, spans_length, node_length}
use Rattle.sp_plan.specs.Named.{list_names, counters_names, spans_names, names, stages_names, names_at}
use Rattle.sp_plan.specs.PlainPlan.{PlainNodePlan, PlainPlan, mem_plan, node_plan}
use Rattle.sp_time.specs.Beats.{Slot, Run, took_at, starts}
use Rattle.sp_machine.specs.Stamps.{Stamped, Copies, stamped, later, list_stamped, in_a_row, ◌▸◌, inside_of, list_run, kept_run}
use Rattle.sp_machine.specs.Timeline.{timed, group_runs, stage_runs, turn_runs, body_events, issued, issued_by, fresh_events, stage_events, group_events, in_copies, slots_of, times_of}
use Rattle.sp_machine.specs.Told.{IsPlanned, ArePlanned}
use Rattle.sp_machine.specs.Transfers.{Delays, load_stamped, store_stamped, slice_stamped}
use Rattle.sp_overlap.specs.Apart.{StandAt}
use Rattle.sp_overlap.proofs.Inside.{BeginsAt, AllIn, stand_left, stand_right, in_append, in_later, out, in_stamped, event_in, stamped_list_in, bounds_in, spans_in}

append_nil : (path : List At) → path ++ [] ≡ path
append_nil [] = refl
append_nil (a ∷ path) = ap (λ p. a ∷ p) (append_nil path)

-- what is among one of two lists
pub among_left : (m : ℕ) (a b : List ℕ) → is_among m a ≡ true → is_among m (a ++ b) ≡ true
among_left m [] b h = absurd (false≢true h)
among_left m (x ∷ a) b h = go (λ e. among_left m a b e) (m == x) h
  where
    go : (is_among m a ≡ true → is_among m (a ++ b) ≡ true) → (t : Bool) → (t || is_among m a) ≡ true → (t || is_among m (a ++ b)) ≡ true
    go rest true e = refl
    go rest false e = rest e

pub among_right : (m : ℕ) (a b : List ℕ) → is_among m b ≡ true → is_among m (a ++ b) ≡ true
among_right m [] b h = h
among_right m (x ∷ a) b h = or_right (m == x) (is_among m (a ++ b)) (among_right m a b h)

pub not_left : (m : ℕ) (a b : List ℕ) → is_among m (a ++ b) ≡ false → is_among m a ≡ false
not_left m a b h = go (is_among m a) refl
  where
    go : (t : Bool) → is_among m a ≡ t → is_among m a ≡ false
    go true e = absurd (true≢false (sym (among_left m a b e) ∙ h))
    go false e = e

pub among_head : (m : ℕ) (ms : List ℕ) → is_among m (m ∷ ms) ≡ true
among_head m ms = or_left (m == m) (is_among m ms) (eq-eqb m m refl)

module _ (core : PlainCore) where
  -- a transfer
  module _ (delay : ℕ → ℕ) (path : List At) (copies : Copies) (hidden : List ℕ) (j from until : ℕ) (n : ℕ) (st : Standing) (there : st.path ≡ path ++ []) (low : from ≤ n) (high : n < until) (r m : ℕ) (named : names_at core n ≡ dram_number core r ∷ m ∷ []) where
    dram_named : is_among (dram_number core r) (names_at core n) ≡ true
    dram_named = ap (is_among (dram_number core r)) named ∙ among_head (dram_number core r) (m ∷ [])

    mem_named : is_among m (names_at core n) ≡ true
    mem_named = ap (is_among m) named ∙ or_right (m == dram_number core r) (is_among m (m ∷ [])) (among_head m [])

    loads_in : (parts : List Part) (i : ℕ) (offsets : List (List ℕ)) (words : List ℕ) → AllIn core path copies hidden j from until (load_stamped delay core copies n st r m parts i offsets words)
    loads_in parts i (o ∷ offsets) (w ∷ words) = (
      event_in core path [] copies hidden j from until st there tt n (dram_number core r) (places_of parts o) (reads w) low high dram_named,
      (event_in core path [] copies hidden j from until st there tt n m (loaded_at core (kind_of core m) m o) (writes w) low high mem_named, loads_in parts (suc i) offsets words),
    )
    loads_in parts i [] words = tt
    loads_in parts i (o ∷ offsets) [] = tt

    stores_in : (parts : List Part) (i : ℕ) (offsets : List (List ℕ)) (words : List ℕ) → AllIn core path copies hidden j from until (store_stamped delay core copies n st r m parts i offsets words)
    stores_in parts i (o ∷ offsets) (w ∷ words) = (
      event_in core path [] copies hidden j from until st there tt n m o (reads w) low high mem_named,
      (event_in core path [] copies hidden j from until st there tt n (dram_number core r) (places_of parts o) (writes w) low high dram_named, stores_in parts (suc i) offsets words),
    )
    stores_in parts i [] words = tt
    stores_in parts i (o ∷ offsets) [] = tt

    rows_in : (kind : Kind) → AllIn core path copies hidden j from until (stamped copies 1 (rows_turn core n st kind m))
    rows_in kinds.LineBuf = (event_in core path [] copies hidden j from until st there tt n m [] turns low high mem_named, tt)
    rows_in kind = tt

    slice_in : (parts : List Part) (es : List Stamped) → AllIn core path copies hidden j from until es → AllIn core path copies hidden j from until (slice_stamped delay core copies n st parts es)
    slice_in parts es h = go (has_none (lengths parts))
      where
        asked : Moment
        asked = slices (record { number = n; standing = st; firsts = map first_of parts; lengths = lengths parts })

        go : (b : Bool) → AllIn core path copies hidden j from until (elim b as (λ _. List Stamped) [ true ↦ [] | false ↦ stamped copies 1 (asked ∷ []) ++ es ])
        go true = tt
        go false = (tt, h)

    pub load_in : (parts : List Part) (words : List ℕ) → AllIn core path copies hidden j from until (slice_stamped delay core copies n st parts (stamped copies 1 (rows_turn core n st (kind_of core m) m) ++ load_stamped delay core copies n st r m parts 0 (all_offsets parts) words))
    load_in parts words = slice_in parts _ (in_append core path copies hidden j from until _ _ (rows_in (kind_of core m)) (loads_in parts 0 (all_offsets parts) words))

    pub store_in : (parts : List Part) (words : List ℕ) → AllIn core path copies hidden j from until (slice_stamped delay core copies n st parts (store_stamped delay core copies n st r m parts 0 (all_offsets parts) words))
    store_in parts words = slice_in parts _ (stores_in parts 0 (all_offsets parts) words)

  -- memories that an inner body makes fresh, and those of an outer one
  renewals_in : (path : List At) (copies : Copies) (hidden : List ℕ) (j from until cycle : ℕ) (owned : List ℕ) → ((m : ℕ) → is_among m owned ≡ true → is_among m hidden ≡ true) → AllIn core path copies hidden j from until (stamped copies cycle (flat_map (renewal_in_body core) owned))
  renewals_in path copies hidden j from until cycle [] h = tt
  renewals_in path copies hidden j from until cycle (m ∷ owned) h =
      go (has_reset (mem core m).kind (mem core m).start) (renewals_in path copies hidden j from until cycle owned (λ x e. h x (or_right (x == m) (is_among x owned) e)))
    where
      go : (b : Bool) → AllIn core path copies hidden j from until (stamped copies cycle (flat_map (renewal_in_body core) owned))
          → AllIn core path copies hidden j from until (stamped copies cycle (elim b as (λ _. List Moment) [ true ↦ [] | false ↦ renews m ∷ [] ] ++ flat_map (renewal_in_body core) owned))
      go true e = e
      go false e = (h m (among_head m owned), e)

  transfer_named : (n : ℕ) (spans : List PlainSpan) (r m : ℕ) → StandAt core n (spans_names spans ++ (dram_number core r ∷ m ∷ []) ∷ []) → names_at core (n + spans_size spans) ≡ dram_number core r ∷ m ∷ []
  transfer_named n spans r m named =
      ap (names_at core) (let e : n + spans_size spans ≡ n + spans_size spans + 0 = omega arith in e)
      ∙ stand_right core n (n + spans_size spans) (spans_names spans) ((dram_number core r ∷ m ∷ []) ∷ []) (ap (λ x. n + x) (spans_length spans)) named 0 (omega arith)

  module _ (plan : PlainPlan) (delays : Delays) where
    fresh_in : (path : List At) (copies given : Copies) (hidden : List ℕ) (j from until : ℕ) (slots : List Slot) (runs : List (List (Run Stamped))) (p : PlainNodePlan) (stages : PlainStages) (g : ℕ) (owned : List ℕ) → ((m : ℕ) → is_among m owned ≡ true → is_among m hidden ≡ true)
        → AllIn core path copies hidden j from until (fresh_events core plan delays slots runs p stages given g owned)
    fresh_in path copies given hidden j from until slots runs p stages g [] h = tt
    fresh_in path copies given hidden j from until slots runs p stages g (m ∷ owned) h =
        (h m (among_head m owned), fresh_in path copies given hidden j from until slots runs p stages g owned (λ x e. h x (or_right (x == m) (is_among x owned) e)))

    body_in : (path : List At) (copies : Copies) (hidden : List ℕ) (from until : ℕ) (p : PlainNodePlan) (k n g : ℕ) (st : Standing) (owned : List ℕ) (ops : List PlainOp) (values : List (List ℤ)) (groups : List (List Entry)) → st.path ≡ path
        → from ≤ n → n + length ops ≤ until → StandAt core n (list_names ops) → ((m : ℕ) → is_among m owned ≡ true → is_among m hidden ≡ true)
        → AllIn core path copies hidden k from until (body_events core plan delays p copies k n g st owned ops values groups)
    body_in path copies hidden from until p k n g st owned ops (v ∷ values) (es ∷ groups) e l u named h =
        in_append core path copies hidden k from until _ (body_events core plan delays p copies k n (suc g) st owned ops values groups)
        (in_append core path copies hidden k from until (stamped copies (issued core plan delays p g) (flat_map (renewal_in_body core) owned)) (list_stamped copies (λ i. issued core plan delays p g + slice_index (times_of p) i) 0 n (inside_at st k (in_group_of g 0) v) ops es)
        (renewals_in path copies hidden k from until (issued core plan delays p g) owned h)
        (stamped_list_in core path (record { node = k; when = in_group_of g 0 } ∷ []) copies hidden k from until (inside_at st k (in_group_of g 0) v) (ap (λ x. x ++ record { node = k; when = in_group_of g 0 } ∷ []) e) refl _ 0 n ops es l u named))
        (body_in path copies hidden from until p k n (suc g) st owned ops values groups e l u named h)
    body_in path copies hidden from until p k n g st owned ops [] groups e l u named h = tt
    body_in path copies hidden from until p k n g st owned ops (v ∷ values) [] e l u named h = tt

    -- runs of stages in a group, and those of all groups
    abbrev pub RowIn : PlainStages → (k g s j n : ℕ) → List At → Copies → List (Run Stamped) → Type 0
    RowIn stages k g s j n path copies [] = Unit {0}
    RowIn (more_stage first last comb node rest) k g s j n path copies (r ∷ row) =
        AllIn core (path ++ record { node = k; when = in_group_of g s } ∷ []) copies (owned_in node) j n (n + number_count node) r.events × RowIn rest k g (suc s) (j + node_count node) (n + number_count node) path copies row
    RowIn no_stage k g s j n path copies (r ∷ row) = ⊥

    abbrev pub TableIn : PlainStages → (k g n : ℕ) → List At → (owned : List ℕ) → Copies → List (List (Run Stamped)) → Type 0
    TableIn stages k g n path owned copies [] = Unit {0}
    TableIn stages k g n path owned copies (row ∷ rows) = RowIn stages k g 0 (suc k) n path (in_copies core plan delays owned g copies) row × TableIn stages k (suc g) n path owned copies rows

    -- so they happen in the whole body
    not_owned : (owned : List ℕ) (g : ℕ) (copies : Copies) (m : ℕ) → is_among m owned ≡ false → in_copies core plan delays owned g copies m ≡ copies m
    not_owned owned g copies m e = ap (λ b. cond b (g % (mem_plan plan m).depth) (copies m)) e

    row_out : (slots : List Slot) (runs : List (List (Run Stamped))) (all : List ℕ) (owned : List ℕ) (k g s j n from until : ℕ) (path : List At) (copies : Copies) (stages : PlainStages) (row : List (Run Stamped)) → from ≤ n → n + number_count_in stages ≤ until
        → ((m : ℕ) → is_among m (owned_in_stages stages) ≡ true → is_among m all ≡ true) → ((m : ℕ) → is_among m all ≡ false → is_among m owned ≡ false)
        → RowIn stages k g s j n path (in_copies core plan delays owned g copies) row → AllIn core path copies all k from until (stage_events core plan delays slots runs g s row)
    row_out slots runs all owned k g s j n from until path copies stages [] l u more less h = tt
    row_out slots runs all owned k g s j n from until path copies (more_stage first last comb node rest) (r ∷ row) l u more less h =
        in_append core path copies all k from until (later (starts slots (took_at runs) g s) r.events) (stage_events core plan delays slots runs g (suc s) row)
        (in_later core path copies all k from until (starts slots (took_at runs) g s) r.events
        (out core path (record { node = k; when = in_group_of g s }) copies (in_copies core plan delays owned g copies) all (owned_in node) k from until n (n + number_count node) j refl l (omega arith)
        (λ m e. more m (among_left m (owned_in node) (owned_in_stages rest) e)) (λ m e. not_owned owned g copies m (less m e)) r.events h.0))
        (row_out slots runs all owned k g (suc s) (j + node_count node) (n + number_count node) from until path copies rest row (omega arith) (omega arith)
        (λ m e. more m (among_right m (owned_in node) (owned_in_stages rest) e)) less h.1)
    row_out slots runs all owned k g s j n from until path copies no_stage (r ∷ row) l u more less h = absurd h

    pub table_out : (slots : List Slot) (runs : List (List (Run Stamped))) (p : PlainNodePlan) (stages : PlainStages) (owned : List ℕ) (k g n from until : ℕ) (path : List At) (copies : Copies) (rows : List (List (Run Stamped))) → from ≤ n → n + number_count_in stages ≤ until
        → TableIn stages k g n path owned copies rows → AllIn core path copies (owned ++ owned_in_stages stages) k from until (group_events core plan delays slots runs p stages copies owned g rows)
    table_out slots runs p stages owned k g n from until path copies [] l u h = tt
    table_out slots runs p stages owned k g n from until path copies (row ∷ rows) l u h =
        in_append core path copies (owned ++ owned_in_stages stages) k from until _ (group_events core plan delays slots runs p stages copies owned (suc g) rows)
        (in_append core path copies (owned ++ owned_in_stages stages) k from until (fresh_events core plan delays slots runs p stages (in_copies core plan delays owned g copies) g owned) (stage_events core plan delays slots runs g 0 row)
        (fresh_in path copies (in_copies core plan delays owned g copies) (owned ++ owned_in_stages stages) k from until slots runs p stages g owned (λ m e. among_left m owned (owned_in_stages stages) e))
        (row_out slots runs (owned ++ owned_in_stages stages) owned k g 0 (suc k) n from until path copies stages row l u (λ m e. among_right m owned (owned_in_stages stages) e) (λ m e. not_left m owned (owned_in_stages stages) e) h.0))
        (table_out slots runs p stages owned k (suc g) n from until path copies rows l u h.1)

    -- runs after each other and inside of a controller
    then_in : (path : List At) (copies : Copies) (hidden : List ℕ) (j from until : ℕ) (a b : Run Stamped) → AllIn core path copies hidden j from until a.events → AllIn core path copies hidden j from until b.events → AllIn core path copies hidden j from until (a ▸ b).events
    then_in path copies hidden j from until a b h k = in_append core path copies hidden j from until a.events (later a.took b.events) h (in_later core path copies hidden j from until a.took b.events k)

    inside_in : (path : List At) (copies : Copies) (hidden : List ℕ) (j from until : ℕ) (r : Run Stamped) → AllIn core path copies hidden j from until r.events → AllIn core path copies hidden j from until (inside_of r).events
    inside_in path copies hidden j from until r h = in_later core path copies hidden j from until 1 r.events h

    row_in : (path rest : List At) (copies : Copies) (hidden : List ℕ) (j from until : ℕ) (st : Standing) → st.path ≡ path ++ rest → BeginsAt j rest → (n : ℕ) (ops : List PlainOp) (es : List Entry) → from ≤ n → n + length ops ≤ until → StandAt core n (list_names ops)
        → AllIn core path copies hidden j from until (list_run core copies n st ops es).events
    row_in path rest copies hidden j from until st there begins n ops es l u named = stamped_list_in core path rest copies hidden j from until st there begins (in_a_row core ops) 0 n ops es l u named

    kept_in : (path rest : List At) (copies : Copies) (hidden : List ℕ) (j from until : ℕ) (st : Standing) → st.path ≡ path ++ rest → BeginsAt j rest → (n : ℕ) (ops : List PlainOp) (es : List Entry) (state word : ℕ) → from ≤ n → n + length ops ≤ until → StandAt core n (list_names ops) → is_among state hidden ≡ true
        → AllIn core path copies hidden j from until (kept_run core copies n st ops es state word).events
    kept_in path rest copies hidden j from until st there begins n ops es state word l u named h =
        in_append core path copies hidden j from until (list_run core copies n st ops es).events _ (row_in path rest copies hidden j from until st there begins n ops es l u named) (h, tt)

    mutual
      unfolding timed group_runs stage_runs turn_runs moments

      pub node_in : (node : PlainNode) (k n : ℕ) (st : Standing) (copies : Copies) (h : History) → IsPlanned plan k node → StandAt core n (names core node) → AllIn core st.path copies (owned_in node) k n (n + number_count node) (timed core plan delays node k n st copies h).events
      node_in (inner counters owned ops comb) k n st copies (inner_ran bs counts groups) p named =
          in_append core st.path copies owned k n (n + (counters_size counters + length ops)) (stamped copies 0 (bounds_moments n (inside_at st k before []) counters bs)) _
          (in_stamped core st.path (record { node = k; when = before } ∷ []) copies owned k n (n + (counters_size counters + length ops)) (inside_at st k before []) refl refl 0 _
          (bounds_in core st.path (record { node = k; when = before } ∷ []) copies owned k n (n + (counters_size counters + length ops)) (inside_at st k before []) refl refl n counters bs (omega arith) (omega arith) (stand_left core n (counters_names counters) (list_names ops) named)))
          (body_in st.path copies owned n (n + (counters_size counters + length ops)) (issued_by core ops (node_plan plan k)) k (n + counters_size counters) 0 st owned ops (group_values (loops_of in_lanes counters bs)) groups refl (omega arith) (omega arith)
          (stand_right core n (n + counters_size counters) (counters_names counters) (list_names ops) (ap (λ x. n + x) (counters_length counters)) named) (λ m e. e))
      node_in (outer counters style owned stages) k n st copies (outer_ran bs counts groups) p named =
          let runs = group_runs core plan delays stages k (n + counters_size counters) 0 st owned copies (group_values (loops_of in_lanes counters bs)) groups in
          in_append core st.path copies (owned ++ owned_in_stages stages) k n (n + (counters_size counters + number_count_in stages)) (stamped copies 0 (bounds_moments n (inside_at st k before []) counters bs)) _
          (in_stamped core st.path (record { node = k; when = before } ∷ []) copies (owned ++ owned_in_stages stages) k n (n + (counters_size counters + number_count_in stages)) (inside_at st k before []) refl refl 0 _
          (bounds_in core st.path (record { node = k; when = before } ∷ []) copies (owned ++ owned_in_stages stages) k n (n + (counters_size counters + number_count_in stages)) (inside_at st k before []) refl refl n counters bs (omega arith) (omega arith)
          (stand_left core n (counters_names counters) (stages_names core stages) named)))
          (table_out (slots_of (node_plan plan k)) runs (node_plan plan k) stages owned k 0 (n + counters_size counters) n (n + (counters_size counters + number_count_in stages)) st.path copies runs (omega arith) (omega arith)
          (groups_in stages k (n + counters_size counters) 0 st owned copies (group_values (loops_of in_lanes counters bs)) groups p.2
          (stand_right core n (n + counters_size counters) (counters_names counters) (stages_names core stages) (ap (λ x. n + x) (counters_length counters)) named)))
      node_in (fsm start state test body next) k n st copies (fsm_ran first ts last) p named =
          let until : ℕ = n + ((length start + length test) + (number_count body + length next)) in
          inside_in st.path copies (state ∷ owned_in body) k n until (kept_run core copies n (inside_at st k before []) start first state (last_word first) ▸ turn_runs core plan delays start state test body next k n 0 st copies ts last)
          (then_in st.path copies (state ∷ owned_in body) k n until (kept_run core copies n (inside_at st k before []) start first state (last_word first)) (turn_runs core plan delays start state test body next k n 0 st copies ts last)
          (kept_in st.path (record { node = k; when = before } ∷ []) copies (state ∷ owned_in body) k n until (inside_at st k before []) refl refl n start first state (last_word first) (omega arith) (omega arith)
          (stand_left core n (list_names start) (list_names test) (stand_left core n (list_names start ++ list_names test) (names core body ++ list_names next) named)) (among_head state (owned_in body)))
          (turns_in start state test body next k n 0 st copies ts last p named))
      node_in (branch test first second) k n st copies (branch_ran es true h) p named =
          let until : ℕ = n + (length test + (number_count first + number_count second)) in
          let at : Standing = inside_at st k (in_turn 0) [] in
          let others = stand_right core n (n + length test) (list_names test) (names core first ++ names core second) (ap (λ x. n + x) (list_length test)) named in
          inside_in st.path copies (owned_in first ++ owned_in second) k n until (list_run core copies n at test es ▸ timed core plan delays first (suc k) (n + length test) at copies h)
          (then_in st.path copies (owned_in first ++ owned_in second) k n until (list_run core copies n at test es) (timed core plan delays first (suc k) (n + length test) at copies h)
          (row_in st.path (record { node = k; when = in_turn 0 } ∷ []) copies (owned_in first ++ owned_in second) k n until at refl refl n test es (omega arith) (omega arith) (stand_left core n (list_names test) (names core first ++ names core second) named))
          (out core st.path (record { node = k; when = in_turn 0 }) copies copies (owned_in first ++ owned_in second) (owned_in first) k n until (n + length test) (n + length test + number_count first) (suc k) refl (omega arith) (omega arith)
          (λ m e. among_left m (owned_in first) (owned_in second) e) (λ m e. refl) _ (node_in first (suc k) (n + length test) at copies h p.0 (stand_left core (n + length test) (names core first) (names core second) others))))
      node_in (branch test first second) k n st copies (branch_ran es false h) p named =
          let until : ℕ = n + (length test + (number_count first + number_count second)) in
          let at : Standing = inside_at st k (in_turn 0) [] in
          let others = stand_right core n (n + length test) (list_names test) (names core first ++ names core second) (ap (λ x. n + x) (list_length test)) named in
          inside_in st.path copies (owned_in first ++ owned_in second) k n until (list_run core copies n at test es ▸ timed core plan delays second (suc k + node_count first) (n + (length test + number_count first)) at copies h)
          (then_in st.path copies (owned_in first ++ owned_in second) k n until (list_run core copies n at test es) (timed core plan delays second (suc k + node_count first) (n + (length test + number_count first)) at copies h)
          (row_in st.path (record { node = k; when = in_turn 0 } ∷ []) copies (owned_in first ++ owned_in second) k n until at refl refl n test es (omega arith) (omega arith) (stand_left core n (list_names test) (names core first ++ names core second) named))
          (out core st.path (record { node = k; when = in_turn 0 }) copies copies (owned_in first ++ owned_in second) (owned_in second) k n until (n + (length test + number_count first)) (n + (length test + number_count first) + number_count second) (suc k + node_count first) refl (omega arith) (omega arith)
          (λ m e. among_right m (owned_in first) (owned_in second) e) (λ m e. refl) _
          (node_in second (suc k + node_count first) (n + (length test + number_count first)) at copies h p.1
          (stand_right core (n + length test) (n + (length test + number_count first)) (names core first) (names core second) (let e : length (names core first) ≡ number_count first = node_length core first in omega arith) others))))
      node_in (load r m spans) k n st copies (moved taken words) p named =
          in_append core st.path copies [] k n (n + (spans_size spans + 1)) (stamped copies 0 (spans_moments n st spans taken)) _
          (in_stamped core st.path [] copies [] k n (n + (spans_size spans + 1)) st (sym (append_nil st.path)) tt 0 _
          (spans_in core st.path [] copies [] k n (n + (spans_size spans + 1)) st (sym (append_nil st.path)) tt n spans taken (omega arith) (omega arith) (stand_left core n (spans_names spans) ((dram_number core r ∷ m ∷ []) ∷ []) named)))
          (load_in (delays k st.path) st.path copies [] k n (n + (spans_size spans + 1)) (n + spans_size spans) st (sym (append_nil st.path)) (omega arith) (omega arith) r m (transfer_named n spans r m named) (map part_of taken) words)
      node_in (store r m spans) k n st copies (moved taken words) p named =
          in_append core st.path copies [] k n (n + (spans_size spans + 1)) (stamped copies 0 (spans_moments n st spans taken)) _
          (in_stamped core st.path [] copies [] k n (n + (spans_size spans + 1)) st (sym (append_nil st.path)) tt 0 _
          (spans_in core st.path [] copies [] k n (n + (spans_size spans + 1)) st (sym (append_nil st.path)) tt n spans taken (omega arith) (omega arith) (stand_left core n (spans_names spans) ((dram_number core r ∷ m ∷ []) ∷ []) named)))
          (store_in (delays k st.path) st.path copies [] k n (n + (spans_size spans + 1)) (n + spans_size spans) st (sym (append_nil st.path)) (omega arith) (omega arith) r m (transfer_named n spans r m named) (map part_of taken) words)
      node_in (sparse kind r m places spans count par) k n st copies h p named = absurd p
      node_in node k n st copies h p named = tt

      pub groups_in : (stages : PlainStages) (k n g : ℕ) (st : Standing) (owned : List ℕ) (copies : Copies) (values : List (List ℤ)) (groups : Groups) → ArePlanned plan (suc k) stages → StandAt core n (stages_names core stages)
          → TableIn stages k g n st.path owned copies (group_runs core plan delays stages k n g st owned copies values groups)
      groups_in stages k n g st owned copies (v ∷ values) (more_group rs rest) p named =
          (stages_in stages k n 0 g (suc k) v st (in_copies core plan delays owned g copies) rs p named, groups_in stages k n (suc g) st owned copies values rest p named)
      groups_in stages k n g st owned copies [] groups p named = tt
      groups_in stages k n g st owned copies (v ∷ values) no_group p named = tt

      stages_in : (stages : PlainStages) (k n s g j : ℕ) (v : List ℤ) (st : Standing) (copies : Copies) (rs : Runs) → ArePlanned plan j stages → StandAt core n (stages_names core stages)
          → RowIn stages k g s j n st.path copies (stage_runs core plan delays stages k n s g j v st copies rs)
      stages_in (more_stage first last comb node rest) k n s g j v st copies (more_run h rs) p named = (
        node_in node j n (inside_at st k (in_group_of g s) v) copies h p.0 (stand_left core n (names core node) (stages_names core rest) named),
        stages_in rest k (n + number_count node) (suc s) g (j + node_count node) v st copies rs p.1 (stand_right core n (n + number_count node) (names core node) (stages_names core rest) (ap (λ x. n + x) (node_length core node)) named),
      )
      stages_in (more_stage first last comb node rest) k n s g j v st copies (masked_run rs) p named = (
        tt,
        stages_in rest k (n + number_count node) (suc s) g (j + node_count node) v st copies rs p.1 (stand_right core n (n + number_count node) (names core node) (stages_names core rest) (ap (λ x. n + x) (node_length core node)) named),
      )
      stages_in (more_stage first last comb node rest) k n s g j v st copies no_run p named = tt
      stages_in no_stage k n s g j v st copies rs p named = tt

      turns_in : (start : List PlainOp) (state : ℕ) (test : List PlainOp) (body : PlainNode) (next : List PlainOp) (k n t : ℕ) (st : Standing) (copies : Copies) (ts : Turns) (last : List Entry) → IsPlanned plan (suc k) body → StandAt core n ((list_names start ++ list_names test) ++ (names core body ++ list_names next))
          → AllIn core st.path copies (state ∷ owned_in body) k n (n + ((length start + length test) + (number_count body + length next))) (turn_runs core plan delays start state test body next k n t st copies ts last).events
      turns_in start state test body next k n t st copies no_turn last p named =
          row_in st.path (record { node = k; when = in_turn t } ∷ []) copies (state ∷ owned_in body) k n (n + ((length start + length test) + (number_count body + length next))) (inside_at st k (in_turn t) []) refl refl (n + length start) test last (omega arith) (omega arith)
          (stand_right core n (n + length start) (list_names start) (list_names test) (ap (λ x. n + x) (list_length start)) (stand_left core n (list_names start ++ list_names test) (names core body ++ list_names next) named))
      turns_in start state test body next k n t st copies (more_turn es h ns rest) last p named =
          let until : ℕ = n + ((length start + length test) + (number_count body + length next)) in
          let hidden : List ℕ = state ∷ owned_in body in
          let at : Standing = inside_at st k (in_turn t) [] in
          let tested : Run Stamped = list_run core copies (n + length start) at test es in
          let body_run : Run Stamped = timed core plan delays body (suc k) (n + (length start + length test)) at copies h in
          let next_run : Run Stamped = kept_run core copies (n + (length start + (length test + number_count body))) at next ns state (last_word ns) in
          let others : Run Stamped = turn_runs core plan delays start state test body next k n (suc t) st copies rest last in
          let below = stand_right core n (n + (length start + length test)) (list_names start ++ list_names test) (names core body ++ list_names next) (ap (λ x. n + x) (two_length start test)) named in
          then_in st.path copies hidden k n until tested (body_run ▸ next_run ▸ others)
          (row_in st.path (record { node = k; when = in_turn t } ∷ []) copies hidden k n until at refl refl (n + length start) test es (omega arith) (omega arith)
          (stand_right core n (n + length start) (list_names start) (list_names test) (ap (λ x. n + x) (list_length start)) (stand_left core n (list_names start ++ list_names test) (names core body ++ list_names next) named)))
          (then_in st.path copies hidden k n until body_run (next_run ▸ others)
          (out core st.path (record { node = k; when = in_turn t }) copies copies hidden (owned_in body) k n until (n + (length start + length test)) (n + (length start + length test) + number_count body) (suc k) refl (omega arith) (omega arith)
          (λ m e. or_right (m == state) (is_among m (owned_in body)) e) (λ m e. refl) body_run.events (node_in body (suc k) (n + (length start + length test)) at copies h p (stand_left core (n + (length start + length test)) (names core body) (list_names next) below)))
          (then_in st.path copies hidden k n until next_run others
          (kept_in st.path (record { node = k; when = in_turn t } ∷ []) copies hidden k n until at refl refl (n + (length start + (length test + number_count body))) next ns state (last_word ns) (omega arith) (omega arith)
          (stand_right core (n + (length start + length test)) (n + (length start + (length test + number_count body))) (names core body) (list_names next) (let e : length (names core body) ≡ number_count body = node_length core body in omega arith) below) (among_head state (owned_in body)))
          (turns_in start state test body next k n (suc t) st copies rest last p named)))
