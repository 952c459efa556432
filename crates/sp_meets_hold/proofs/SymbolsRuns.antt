-- In a run each controller on the way to a place keeps the symbols that it doesn't change.
use Rattle.std.proofs.Common.{◌≡◌, ℕ, zero, suc, ◌+◌, ◌≤◌, Bool, true, false, ℤ, List, [], ◌∷◌, ◌++◌, length, map, flat_map, Option, Some, None, refl, sym, ap, ap₂, subst, ◌∙◌, arith}
use Rattle.std.specs.List.{All}
use Rattle.std.proofs.lemmas.Bool.{and_parts}
use Rattle.sp_core.specs.declared.node.SparseKind.TheVariants.{Gather, Scatter, WideLoad, WideStore}
use Rattle.sp_core.specs.Around.{Around, within, nothing}
use Rattle.sp_core.specs.Declarations.{kind_of, is_among}
use Rattle.sp_core.specs.Events.{At, When, before, in_group_of, in_turn, Standing, inside_at, Moment, touches, slices, renews, keeps, list_moments, bounds_moments, spans_moments, renewal_in_body, body_moments, moments, group_moments, stage_moments, turn_moments, core_moments, loaded, stored, gather_moments, scatter_moments, picked_moments}
use Rattle.sp_core.specs.History.{Entry, last_word, Bounds, Taken, History, Groups, Runs, Turns, inner_ran, outer_ran, fsm_ran, branch_ran, moved, picked, no_group, more_group, no_run, masked_run, more_run, no_turn, more_turn}
use Rattle.sp_core.specs.Invariant.{owned_in, IsRight, AreRight, IsCore}
use Rattle.sp_core.specs.NodeRules.{with_state}
use Rattle.sp_core.specs.Numbering.{counters_size, spans_size, node_count, number_count}
use Rattle.sp_core.specs.PlainCore.{PlainOp, PlainCounter, PlainSpan, PlainNode, PlainStages, inner, outer, fsm, branch, load, store, sparse, no_stage, more_stage, PlainCore}
use Rattle.sp_core.specs.Replay.{after_moment, after_all}
use Rattle.sp_core.specs.Scope.{Reading, loops_of, group_values}
use Rattle.sp_core.specs.Store.{Store}
use Rattle.sp_core.specs.Transfers.{part_of}
use Rattle.sp_meets.specs.Around.{changed_in}
use Rattle.sp_along.specs.MetTraces.{Stands, group_in, stage_in, turn_in}
use Rattle.sp_along.proofs.MetTraces.{AllStand, none, both_stand, list_stands, bounds_stand, spans_stand, loaded_stands, stored_stands, gathers_stand, scatters_stand, picked_stands, renew_stand, renewals_stand, keeps_stand}
use Rattle.sp_along.specs.AlongControllers.{Ran, ran_in, ran_in_groups, ran_in_stages, ran_in_turns}
use Rattle.sp_along.specs.AlongSymbols.{holds_symbol, EachIn, SymbolsAreKept}
use Rattle.sp_meets_hold.proofs.SymbolsLeaving.{node_leaves}
use Rattle.sp_meets_hold.proofs.SymbolsKept.{each_more, each_both, each_append, each_of_all, Same, all_same, Kept, KeptDeeper, IsKept, IsKeptDeeper, stands_both, IsShallow, shallow_kept, no_path_kept, kept_whole, KeptRun, below}

abbrev by_path : Store → (At → List At → Store) → List At → Store
by_path s f [] = s
by_path s f (a ∷ p) = f a p

abbrev by_number : {A : Type 0} → A → (ℕ → A) → ℕ → A
by_number first others zero = first
by_number first others (suc k) = others k

head_same : {A : Type 0} (a b : A) (xs ys : List A) → (a ∷ xs) ≡ (b ∷ ys) → a ≡ b
head_same a b xs ys e = cc

tail_same : {A : Type 0} (a b : A) (xs ys : List A) → (a ∷ xs) ≡ (b ∷ ys) → xs ≡ ys
tail_same a b xs ys e = cc

append_none : {A : Type 0} (xs : List A) → xs ≡ xs ++ []
append_none [] = refl
append_none (x ∷ xs) = ap (λ ys. x ∷ ys) (append_none xs)

here_shallow : (st : Standing) → IsShallow st.path st
here_shallow st = record { path = []; is = append_none st.path; short = omega arith }

at_shallow : (st : Standing) (k : ℕ) (when : When) (values : List ℤ) → IsShallow st.path (inside_at st k when values)
at_shallow st k when values = record { path = record { node = k; when = when } ∷ []; is = refl; short = omega arith }

module _ (core : PlainCore) (reading : Reading) where
  -- a stage of a group of an outer body, from stage r on
  record InStage (path : List At) (k g r : ℕ) (ran : ℕ → List At → Ran) (begun : ℕ → List At → Store) (s : Store) (st : Standing) : Type 0 where
    stage : ℕ
    local : List At
    is : st.path ≡ path ++ (record { node = k; when = in_group_of g (r + stage) } ∷ local)
    kept : Kept core (ran stage) (begun stage) s local

  record InGroup (path : List At) (k g : ℕ) (ran : ℕ → ℕ → List At → Ran) (begun : ℕ → ℕ → List At → Store) (s : Store) (st : Standing) : Type 0 where
    group : ℕ
    stage : ℕ
    local : List At
    is : st.path ≡ path ++ (record { node = k; when = in_group_of (g + group) stage } ∷ local)
    kept : Kept core (ran group stage) (begun group stage) s local

  record InTurn (path : List At) (k t : ℕ) (ran : ℕ → List At → Ran) (begun : ℕ → List At → Store) (s : Store) (st : Standing) : Type 0 where
    turn : ℕ
    local : List At
    is : st.path ≡ path ++ (record { node = k; when = in_turn (t + turn) } ∷ local)
    kept : Kept core (ran turn) (begun turn) s local

  record StagesKept (path : List At) (k g r : ℕ) (ran : ℕ → List At → Ran) (s : Store) (ms : List Moment) : Type 0 where
    begun : ℕ → List At → Store
    kept : EachIn core (λ s m. Stands (InStage path k g r ran begun s) m) s ms

  record GroupsKept (path : List At) (k g : ℕ) (ran : ℕ → ℕ → List At → Ran) (s : Store) (ms : List Moment) : Type 0 where
    begun : ℕ → ℕ → List At → Store
    kept : EachIn core (λ s m. Stands (InGroup path k g ran begun s) m) s ms

  record TurnsKept (path : List At) (k t : ℕ) (ran : ℕ → List At → Ran) (s : Store) (ms : List Moment) : Type 0 where
    begun : ℕ → List At → Store
    kept : EachIn core (λ s m. Stands (InTurn path k t ran begun s) m) s ms

  record DeeperRun (path : List At) (ran : List At → Ran) (s : Store) (ms : List Moment) : Type 0 where
    begun : List At → Store
    from : begun [] ≡ s
    kept : EachIn core (λ s m. Stands (IsKeptDeeper core path ran begun s) m) s ms

  -- moments at a controller itself
  shallow_each : (path : List At) (ran : List At → Ran) (begun : List At → Store) (s : Store) (ms : List Moment) → AllStand (IsShallow path) ms → EachIn core (λ s m. Stands (IsKeptDeeper core path ran begun s) m) s ms
  shallow_each path ran begun s ms h =
      each_more core (λ _ m. Stands (IsShallow path) m) (λ s m. Stands (IsKeptDeeper core path ran begun s) m) (λ s m g. stands_both core (IsShallow path) (IsKeptDeeper core path ran begun s) (λ st. shallow_kept core path ran begun s st) m g) ms s
      (each_of_all core (Stands (IsShallow path)) ms s h)

  shallow_run : (path : List At) (ran : List At → Ran) (s : Store) (ms : List Moment) → AllStand (IsShallow path) ms → DeeperRun path ran s ms
  shallow_run path ran s ms h = record { begun = by_path s (λ a p. s); from = refl; kept = shallow_each path ran (by_path s (λ a p. s)) s ms h }

  -- renewals stand nowhere
  renewed : (P : Store → Standing → Type 0) (owned : List ℕ) (s : Store) → EachIn core (λ s m. Stands (P s) m) s (map renews owned)
  renewed P owned s =
      each_more core (λ _ m. Stands (λ st. ⊥) m) (λ s m. Stands (P s) m) (λ s m g. stands_both core (λ st. ⊥) (P s) (λ st e. absurd e) m g) (map renews owned) s
      (each_of_all core (Stands (λ st. ⊥)) (map renews owned) s (renew_stand (λ st. ⊥) owned))

  body_shallow : (k n g : ℕ) (st : Standing) (owned : List ℕ) (ops : List PlainOp) (values : List (List ℤ)) (groups : List (List Entry)) → AllStand (IsShallow st.path) (body_moments core reading k n g st owned ops values groups)
  body_shallow k n g st owned ops [] groups = none (IsShallow st.path)
  body_shallow k n g st owned ops (v ∷ values) [] = none (IsShallow st.path)
  body_shallow k n g st owned ops (v ∷ values) (es ∷ groups) =
      let P = IsShallow st.path in
      both_stand P _ _ (both_stand P _ _ (renewals_stand P core owned) (list_stands P (inside_at st k (in_group_of g 0) v) (at_shallow st k (in_group_of g 0) v) n ops es)) (body_shallow k n (suc g) st owned ops values groups)

  -- from the groups of an outer body to the body
  of_group : (k : ℕ) (counters : List PlainCounter) (style : _) (owned : List ℕ) (stages : PlainStages) (bs : List Bounds) (counts : List ℕ) (groups : Groups) (path : List At) (begun : ℕ → ℕ → List At → Store) (first s : Store) (st : Standing)
      → InGroup path k 0 (ran_in_groups stages groups) begun s st
      → IsKeptDeeper core path (ran_in (outer counters style owned stages) (outer_ran bs counts groups)) (by_path first (λ a p. begun (group_in a.when) (stage_in a.when) p)) s st
  of_group k counters style owned stages bs counts groups path begun first s st h = record { path = record { node = k; when = in_group_of (0 + h.group) h.stage } ∷ h.local; is = h.is; kept = go }
    where
      go : KeptDeeper core (ran_in (outer counters style owned stages) (outer_ran bs counts groups)) (by_path first (λ a p. begun (group_in a.when) (stage_in a.when) p)) s (record { node = k; when = in_group_of (0 + h.group) h.stage } ∷ h.local)
      go a here around rest x e symbol q =
          let same = head_same _ a h.local (around ++ here ∷ rest) e in
          let g : h.group ≡ group_in a.when = none_plus h.group ∙ ap (λ (b : At). group_in b.when) same in
          let r : h.stage ≡ stage_in a.when = ap (λ (b : At). stage_in b.when) same in
          h.kept around rest here x (tail_same _ a h.local (around ++ here ∷ rest) e) symbol (ap₂ (λ i j. is_among x (changed_in (ran_in_groups stages groups i j around).node)) g r ∙ q)
          ∙ ap₂ (λ i j. begun i j around x) g r
        where
          none_plus : (n : ℕ) → n ≡ 0 + n
          none_plus n = omega arith

  of_turn : (k : ℕ) (start : List PlainOp) (state : ℕ) (test : List PlainOp) (body : PlainNode) (next : List PlainOp) (first_es : List Entry) (ts : Turns) (last : List Entry) (path : List At) (begun : ℕ → List At → Store) (first s : Store) (st : Standing)
      → InTurn path k 0 (ran_in_turns body ts) begun s st
      → IsKeptDeeper core path (ran_in (fsm start state test body next) (fsm_ran first_es ts last)) (by_path first (λ a p. begun (turn_in a.when) p)) s st
  of_turn k start state test body next first_es ts last path begun first s st h = record { path = record { node = k; when = in_turn (0 + h.turn) } ∷ h.local; is = h.is; kept = go }
    where
      go : KeptDeeper core (ran_in (fsm start state test body next) (fsm_ran first_es ts last)) (by_path first (λ a p. begun (turn_in a.when) p)) s (record { node = k; when = in_turn (0 + h.turn) } ∷ h.local)
      go a here around rest x e symbol q =
          let same = head_same _ a h.local (around ++ here ∷ rest) e in
          let t : h.turn ≡ turn_in a.when = none_plus h.turn ∙ ap (λ (b : At). turn_in b.when) same in
          h.kept around rest here x (tail_same _ a h.local (around ++ here ∷ rest) e) symbol (ap (λ i. is_among x (changed_in (ran_in_turns body ts i around).node)) t ∙ q)
          ∙ ap (λ i. begun i around x) t
        where
          none_plus : (n : ℕ) → n ≡ 0 + n
          none_plus n = omega arith

  -- a part of a branch, wherever its controller stands
  of_branch : (k : ℕ) (ran inner_ran' : List At → Ran) → ((a : At) (p : List At) → ran (a ∷ p) ≡ inner_ran' p) → (path : List At) (begun : List At → Store) (first s : Store) (st : Standing)
      → IsKept core (path ++ record { node = k; when = in_turn 0 } ∷ []) inner_ran' begun s st → IsKeptDeeper core path ran (by_path first (λ a p. begun p)) s st
  of_branch k ran inner_ran' same path begun first s st h = record { path = record { node = k; when = in_turn 0 } ∷ h.path; is = below core path (record { node = k; when = in_turn 0 }) st.path h.path h.is; kept = go }
    where
      go : KeptDeeper core ran (by_path first (λ a p. begun p)) s (record { node = k; when = in_turn 0 } ∷ h.path)
      go a here around rest x e symbol q = h.kept around rest here x (tail_same _ a h.path (around ++ here ∷ rest) e) symbol (ap (λ (r : Ran). is_among x (changed_in r.node)) (sym (same a around)) ∙ q)

  -- moments in a turn, outside of the body
  abbrev AtTurn : (path : List At) (k t : ℕ) → Standing → Type 0
  AtTurn path k t st = st.path ≡ path ++ (record { node = k; when = in_turn t } ∷ [])

  in_turn_each : (path : List At) (k t : ℕ) (ran : ℕ → List At → Ran) (begun : ℕ → List At → Store) (s : Store) (ms : List Moment) → AllStand (λ st. st.path ≡ path ++ (record { node = k; when = in_turn t } ∷ [])) ms
      → EachIn core (λ s m. Stands (InTurn path k t ran begun s) m) s ms
  in_turn_each path k t ran begun s ms h =
      each_more core (λ _ m. Stands (AtTurn path k t) m) (λ s m. Stands (InTurn path k t ran begun s) m) (λ s m g. stands_both core (AtTurn path k t) (InTurn path k t ran begun s) (λ st e. record { turn = 0; local = []; is = e ∙ ap (λ n. path ++ (record { node = k; when = in_turn n } ∷ [])) (omega arith); kept = no_path_kept core (ran 0) (begun 0) s }) m g) ms s
      (each_of_all core (Stands (AtTurn path k t)) ms s h)

  -- with the controller itself
  whole_of : (node : PlainNode) (around : Around) (earlier : List ℕ) → IsRight core around earlier node → (h : History) (k n : ℕ) (st : Standing) (s : Store) → DeeperRun st.path (ran_in node h) s (moments core reading node k n st h)
      → KeptRun core st.path (ran_in node h) s (moments core reading node k n st h)
  whole_of node around earlier right h k n st s d = record {
    begun = d.begun;
    kept = each_both core (λ t m. Same core node s t) (λ t m. Stands (IsKeptDeeper core st.path (ran_in node h) d.begun t) m) (λ t m. Stands (IsKept core st.path (ran_in node h) d.begun t) m)
        (λ t m same deep. stands_both core (IsKeptDeeper core st.path (ran_in node h) d.begun t) (IsKept core st.path (ran_in node h) d.begun t) (λ q. kept_whole core st.path node (ran_in node h) d.begun s t q refl d.from same) m deep)
        (moments core reading node k n st h) s
        (all_same core node s (moments core reading node k n st h) (λ x symbol q. node_leaves core x symbol reading node around earlier right q h k n st) s (λ x symbol q. refl)) d.kept;
  }

  mutual
    unfolding moments group_moments stage_moments turn_moments

    node_deeper : (node : PlainNode) (around : Around) (earlier : List ℕ) → IsRight core around earlier node → (h : History) (k n : ℕ) (st : Standing) (s : Store) → DeeperRun st.path (ran_in node h) s (moments core reading node k n st h)
    node_deeper (inner counters owned ops comb) around earlier right (inner_ran bs counts groups) k n st s =
        let P = IsShallow st.path in
        shallow_run st.path _ s _
        (both_stand P _ _ (bounds_stand P (inside_at st k before []) (at_shallow st k before []) n counters bs) (body_shallow k (n + counters_size counters) 0 st owned ops (group_values (loops_of reading counters bs)) groups))
    node_deeper (outer counters style owned stages) around earlier right (outer_ran bs counts groups) k n st s =
        let P = IsShallow st.path in
        let bounds = bounds_moments n (inside_at st k before []) counters bs in
        let ran = ran_in (outer counters style owned stages) (outer_ran bs counts groups) in
        let g = groups_kept stages (within around counters owned) (earlier ++ owned) right.1 groups k (n + counters_size counters) 0 st owned (group_values (loops_of reading counters bs)) (after_all core bounds s) in
        let begun = by_path s (λ a p. g.begun (group_in a.when) (stage_in a.when) p) in
        record {
          begun = begun;
          from = refl;
          kept = each_append core _ bounds _ s (shallow_each st.path ran begun s bounds (bounds_stand P (inside_at st k before []) (at_shallow st k before []) n counters bs))
              (each_more core (λ t m. Stands (InGroup st.path k 0 (ran_in_groups stages groups) g.begun t) m) (λ t m. Stands (IsKeptDeeper core st.path ran begun t) m)
              (λ t m h. stands_both core _ (IsKeptDeeper core st.path ran begun t) (λ q. of_group k counters style owned stages bs counts groups st.path g.begun s t q) m h) _ (after_all core bounds s) g.kept);
        }
    node_deeper (fsm start state test body next) around earlier right (fsm_ran first ts last) k n st s =
        let P = IsShallow st.path in
        let front = list_moments n (inside_at st k before []) start first ++ keeps state (last_word first) ∷ [] in
        let ran = ran_in (fsm start state test body next) (fsm_ran first ts last) in
        let g = turns_kept start state test body next around (earlier ++ state ∷ []) right.1 ts last k n 0 st (after_all core front s) in
        let begun = by_path s (λ a p. g.begun (turn_in a.when) p) in
        record {
          begun = begun;
          from = refl;
          kept = each_append core _ front _ s (shallow_each st.path ran begun s front (both_stand P _ _ (list_stands P (inside_at st k before []) (at_shallow st k before []) n start first) (keeps_stand core reading P state (last_word first))))
              (each_more core (λ t m. Stands (InTurn st.path k 0 (ran_in_turns body ts) g.begun t) m) (λ t m. Stands (IsKeptDeeper core st.path ran begun t) m)
              (λ t m h. stands_both core _ (IsKeptDeeper core st.path ran begun t) (λ q. of_turn k start state test body next first ts last st.path g.begun s t q) m h) _ (after_all core front s) g.kept);
        }
    node_deeper (branch test first second) around earlier right (branch_ran es true h) k n st s =
        let P = IsShallow st.path in
        let front = list_moments n (inside_at st k (in_turn 0) []) test es in
        let ran = ran_in (branch test first second) (branch_ran es true h) in
        let g = whole_of first around earlier right.1 h (suc k) (n + length test) (inside_at st k (in_turn 0) []) (after_all core front s) (node_deeper first around earlier right.1 h (suc k) (n + length test) (inside_at st k (in_turn 0) []) (after_all core front s)) in
        let begun = by_path s (λ a p. g.begun p) in
        record {
          begun = begun;
          from = refl;
          kept = each_append core _ front _ s (shallow_each st.path ran begun s front (list_stands P (inside_at st k (in_turn 0) []) (at_shallow st k (in_turn 0) []) n test es))
              (each_more core (λ t m. Stands (IsKept core (st.path ++ record { node = k; when = in_turn 0 } ∷ []) (ran_in first h) g.begun t) m) (λ t m. Stands (IsKeptDeeper core st.path ran begun t) m)
              (λ t m x. stands_both core _ (IsKeptDeeper core st.path ran begun t) (λ q. of_branch k ran (ran_in first h) (λ a p. refl) st.path g.begun s t q) m x) _ (after_all core front s) g.kept);
        }
    node_deeper (branch test first second) around earlier right (branch_ran es false h) k n st s =
        let P = IsShallow st.path in
        let front = list_moments n (inside_at st k (in_turn 0) []) test es in
        let ran = ran_in (branch test first second) (branch_ran es false h) in
        let g = whole_of second around (earlier ++ owned_in first) right.2 h (suc k + node_count first) (n + (length test + number_count first)) (inside_at st k (in_turn 0) []) (after_all core front s) (node_deeper second around (earlier ++ owned_in first) right.2 h (suc k + node_count first) (n + (length test + number_count first)) (inside_at st k (in_turn 0) []) (after_all core front s)) in
        let begun = by_path s (λ a p. g.begun p) in
        record {
          begun = begun;
          from = refl;
          kept = each_append core _ front _ s (shallow_each st.path ran begun s front (list_stands P (inside_at st k (in_turn 0) []) (at_shallow st k (in_turn 0) []) n test es))
              (each_more core (λ t m. Stands (IsKept core (st.path ++ record { node = k; when = in_turn 0 } ∷ []) (ran_in second h) g.begun t) m) (λ t m. Stands (IsKeptDeeper core st.path ran begun t) m)
              (λ t m x. stands_both core _ (IsKeptDeeper core st.path ran begun t) (λ q. of_branch k ran (ran_in second h) (λ a p. refl) st.path g.begun s t q) m x) _ (after_all core front s) g.kept);
        }
    node_deeper (load r m spans) around earlier right (moved ts ws) k n st s =
        let P = IsShallow st.path in
        shallow_run st.path _ s _
        (both_stand P _ _ (spans_stand P st (here_shallow st) n spans ts) (loaded_stands P st (here_shallow st) core (n + spans_size spans) r m (map part_of ts) ws))
    node_deeper (store r m spans) around earlier right (moved ts ws) k n st s =
        let P = IsShallow st.path in
        shallow_run st.path _ s _
        (both_stand P _ _ (spans_stand P st (here_shallow st) n spans ts) (stored_stands P st (here_shallow st) core (n + spans_size spans) r m (map part_of ts) ws))
    node_deeper (sparse Gather r m (Some p) spans count par) around earlier right (picked es ws) k n st s =
        let P = IsShallow st.path in
        shallow_run st.path _ s _
        (both_stand P _ _ (list_stands P st (here_shallow st) (n + spans_size spans) count es) (picked_stands P st (here_shallow st) core (n + (spans_size spans + length count)) r m p ws _ (gathers_stand P st (here_shallow st) core (n + (spans_size spans + length count)) r m p 0 ws)))
    node_deeper (sparse Scatter r m (Some p) spans count par) around earlier right (picked es ws) k n st s =
        let P = IsShallow st.path in
        shallow_run st.path _ s _
        (both_stand P _ _ (list_stands P st (here_shallow st) (n + spans_size spans) count es) (picked_stands P st (here_shallow st) core (n + (spans_size spans + length count)) r m p ws _ (scatters_stand P st (here_shallow st) core (n + (spans_size spans + length count)) r m p 0 ws)))
    node_deeper (sparse WideStore r m places spans count par) around earlier right (moved ts ws) k n st s =
        let P = IsShallow st.path in
        shallow_run st.path _ s _
        (both_stand P _ _ (spans_stand P st (here_shallow st) n spans ts) (stored_stands P st (here_shallow st) core (n + (spans_size spans + length count)) r m (map part_of ts) ws))
    node_deeper (sparse WideLoad r m places spans count par) around earlier right (moved ts ws) k n st s =
        let P = IsShallow st.path in
        shallow_run st.path _ s _
        (both_stand P _ _ (spans_stand P st (here_shallow st) n spans ts) (loaded_stands P st (here_shallow st) core (n + (spans_size spans + length count)) r m (map part_of ts) ws))
    node_deeper (sparse Gather r m (Some p) spans count par) around earlier right (moved ts ws) k n st s =
        let P = IsShallow st.path in
        shallow_run st.path _ s _
        (both_stand P _ _ (spans_stand P st (here_shallow st) n spans ts) (loaded_stands P st (here_shallow st) core (n + (spans_size spans + length count)) r m (map part_of ts) ws))
    node_deeper (sparse Gather r m None spans count par) around earlier right (moved ts ws) k n st s =
        let P = IsShallow st.path in
        shallow_run st.path _ s _
        (both_stand P _ _ (spans_stand P st (here_shallow st) n spans ts) (loaded_stands P st (here_shallow st) core (n + (spans_size spans + length count)) r m (map part_of ts) ws))
    node_deeper (sparse Scatter r m (Some p) spans count par) around earlier right (moved ts ws) k n st s =
        let P = IsShallow st.path in
        shallow_run st.path _ s _
        (both_stand P _ _ (spans_stand P st (here_shallow st) n spans ts) (loaded_stands P st (here_shallow st) core (n + (spans_size spans + length count)) r m (map part_of ts) ws))
    node_deeper (sparse Scatter r m None spans count par) around earlier right (moved ts ws) k n st s =
        let P = IsShallow st.path in
        shallow_run st.path _ s _
        (both_stand P _ _ (spans_stand P st (here_shallow st) n spans ts) (loaded_stands P st (here_shallow st) core (n + (spans_size spans + length count)) r m (map part_of ts) ws))
    node_deeper (sparse Gather r m None spans count par) around earlier right (picked es ws) k n st s = shallow_run st.path _ s _ (none (IsShallow st.path))
    node_deeper (sparse Scatter r m None spans count par) around earlier right (picked es ws) k n st s = shallow_run st.path _ s _ (none (IsShallow st.path))
    node_deeper node around earlier right h k n st s = shallow_run st.path _ s _ (none (IsShallow st.path))

    groups_kept : (stages : PlainStages) (around : Around) (earlier : List ℕ) → AreRight core around earlier stages → (groups : Groups) (k n g : ℕ) (st : Standing) (owned : List ℕ) (values : List (List ℤ)) (s : Store)
        → GroupsKept st.path k g (ran_in_groups stages groups) s (group_moments core reading stages k n g st owned values groups)
    groups_kept stages around earlier right no_group k n g st owned [] s = record { begun = λ i j p. s; kept = tt }
    groups_kept stages around earlier right no_group k n g st owned (v ∷ values) s = record { begun = λ i j p. s; kept = tt }
    groups_kept stages around earlier right (more_group runs rest) k n g st owned [] s = record { begun = λ i j p. s; kept = tt }
    groups_kept stages around earlier right (more_group runs rest) k n g st owned (v ∷ values) s =
        let front = map renews owned in
        let first = stages_kept stages around earlier right runs k n 0 g (suc k) v st (after_all core front s) in
        let ones = stage_moments core reading stages k n 0 g (suc k) v st runs in
        let others = groups_kept stages around earlier right rest k n (suc g) st owned values (after_all core (front ++ ones) s) in
        let begun = by_number first.begun others.begun in
        record {
          begun = begun;
          kept = each_append core _ (front ++ ones) _ s
              (each_append core _ front ones s (renewed (λ t. InGroup st.path k g (ran_in_groups stages (more_group runs rest)) begun t) owned s)
              (each_more core (λ t m. Stands (InStage st.path k g 0 (ran_in_stages stages runs) first.begun t) m) (λ t m. Stands (InGroup st.path k g (ran_in_groups stages (more_group runs rest)) begun t) m)
              (λ t m h. stands_both core _ (InGroup st.path k g (ran_in_groups stages (more_group runs rest)) begun t)
              (λ q i. record { group = 0; stage = InStage.stage i; local = InStage.local i; is = InStage.is i ∙ ap₂ (λ x y. st.path ++ (record { node = k; when = in_group_of x y } ∷ InStage.local i)) (omega arith) (omega arith); kept = InStage.kept i }) m h) ones (after_all core front s) first.kept))
              (each_more core (λ t m. Stands (InGroup st.path k (suc g) (ran_in_groups stages rest) others.begun t) m) (λ t m. Stands (InGroup st.path k g (ran_in_groups stages (more_group runs rest)) begun t) m)
              (λ t m h. stands_both core _ (InGroup st.path k g (ran_in_groups stages (more_group runs rest)) begun t)
              (λ q i. record { group = suc (InGroup.group i); stage = InGroup.stage i; local = InGroup.local i; is = InGroup.is i ∙ ap (λ x. st.path ++ (record { node = k; when = in_group_of x (InGroup.stage i) } ∷ InGroup.local i)) (omega arith); kept = InGroup.kept i }) m h) _ (after_all core (front ++ ones) s) others.kept);
        }

    stages_kept : (stages : PlainStages) (around : Around) (earlier : List ℕ) → AreRight core around earlier stages → (runs : Runs) (k n r g j : ℕ) (v : List ℤ) (st : Standing) (s : Store)
        → StagesKept st.path k g r (ran_in_stages stages runs) s (stage_moments core reading stages k n r g j v st runs)
    stages_kept no_stage around earlier right runs k n r g j v st s = record { begun = λ i p. s; kept = tt }
    stages_kept (more_stage first last comb node rest) around earlier right no_run k n r g j v st s = record { begun = λ i p. s; kept = tt }
    stages_kept (more_stage first last comb node rest) around earlier right (masked_run hs) k n r g j v st s =
        let others = stages_kept rest around (earlier ++ owned_in node) right.1 hs k (n + number_count node) (suc r) g (j + node_count node) v st s in
        record {
          begun = by_number (λ p. s) others.begun;
          kept = each_more core (λ t m. Stands (InStage st.path k g (suc r) (ran_in_stages rest hs) others.begun t) m) (λ t m. Stands (InStage st.path k g r (ran_in_stages (more_stage first last comb node rest) (masked_run hs)) (by_number (λ p. s) others.begun) t) m)
              (λ t m h. stands_both core _ (InStage st.path k g r (ran_in_stages (more_stage first last comb node rest) (masked_run hs)) (by_number (λ p. s) others.begun) t)
              (λ q i. record { stage = suc (InStage.stage i); local = InStage.local i; is = InStage.is i ∙ ap (λ x. st.path ++ (record { node = k; when = in_group_of g x } ∷ InStage.local i)) (omega arith); kept = InStage.kept i }) m h) _ s others.kept;
        }
    stages_kept (more_stage first last comb node rest) around earlier right (more_run h hs) k n r g j v st s =
        let here = whole_of node around earlier right.0 h j n (inside_at st k (in_group_of g r) v) s (node_deeper node around earlier right.0 h j n (inside_at st k (in_group_of g r) v) s) in
        let ones = moments core reading node j n (inside_at st k (in_group_of g r) v) h in
        let others = stages_kept rest around (earlier ++ owned_in node) right.1 hs k (n + number_count node) (suc r) g (j + node_count node) v st (after_all core ones s) in
        let begun = by_number here.begun others.begun in
        let ran = ran_in_stages (more_stage first last comb node rest) (more_run h hs) in
        record {
          begun = begun;
          kept = each_append core _ ones _ s
              (each_more core (λ t m. Stands (IsKept core (st.path ++ record { node = k; when = in_group_of g r } ∷ []) (ran_in node h) here.begun t) m) (λ t m. Stands (InStage st.path k g r ran begun t) m)
              (λ t m x. stands_both core _ (InStage st.path k g r ran begun t)
              (λ q i. record { stage = 0; local = i.path; is = below core st.path (record { node = k; when = in_group_of g r }) q.path i.path i.is ∙ ap (λ y. st.path ++ (record { node = k; when = in_group_of g y } ∷ i.path)) (omega arith); kept = i.kept }) m x) ones s here.kept)
              (each_more core (λ t m. Stands (InStage st.path k g (suc r) (ran_in_stages rest hs) others.begun t) m) (λ t m. Stands (InStage st.path k g r ran begun t) m)
              (λ t m x. stands_both core _ (InStage st.path k g r ran begun t)
              (λ q i. record { stage = suc (InStage.stage i); local = InStage.local i; is = InStage.is i ∙ ap (λ y. st.path ++ (record { node = k; when = in_group_of g y } ∷ InStage.local i)) (omega arith); kept = InStage.kept i }) m x) _ (after_all core ones s) others.kept);
        }

    turns_kept : (start : List PlainOp) (state : ℕ) (test : List PlainOp) (body : PlainNode) (next : List PlainOp) (around : Around) (earlier : List ℕ) → IsRight core (with_state core around state) earlier body → (ts : Turns) (last : List Entry) (k n t : ℕ) (st : Standing) (s : Store)
        → TurnsKept st.path k t (ran_in_turns body ts) s (turn_moments core reading start state test body next k n t st ts last)
    turns_kept start state test body next around earlier right no_turn last k n t st s =
        record { begun = λ i p. s; kept = in_turn_each st.path k t (ran_in_turns body no_turn) (λ i p. s) s _ (list_stands (λ q. q.path ≡ st.path ++ (record { node = k; when = in_turn t } ∷ [])) (inside_at st k (in_turn t) []) refl (n + length start) test last) }
    turns_kept start state test body next around earlier right (more_turn es h ns rest) last k n t st s =
        let P : Standing → Type 0 = λ q. q.path ≡ st.path ++ (record { node = k; when = in_turn t } ∷ []) in
        let tested = list_moments (n + length start) (inside_at st k (in_turn t) []) test es in
        let here = whole_of body (with_state core around state) earlier right h (suc k) (n + (length start + length test)) (inside_at st k (in_turn t) []) (after_all core tested s) (node_deeper body (with_state core around state) earlier right h (suc k) (n + (length start + length test)) (inside_at st k (in_turn t) []) (after_all core tested s)) in
        let ones = moments core reading body (suc k) (n + (length start + length test)) (inside_at st k (in_turn t) []) h in
        let stepped = list_moments (n + (length start + (length test + number_count body))) (inside_at st k (in_turn t) []) next ns ++ keeps state (last_word ns) ∷ [] in
        let all = tested ++ (ones ++ stepped) in
        let others = turns_kept start state test body next around earlier right rest last k n (suc t) st (after_all core all s) in
        let begun = by_number here.begun others.begun in
        let ran = ran_in_turns body (more_turn es h ns rest) in
        record {
          begun = begun;
          kept = each_append core _ all _ s
              (each_append core _ tested (ones ++ stepped) s (in_turn_each st.path k t ran begun s tested (list_stands P (inside_at st k (in_turn t) []) refl (n + length start) test es))
              (each_append core _ ones stepped (after_all core tested s)
              (each_more core (λ u m. Stands (IsKept core (st.path ++ record { node = k; when = in_turn t } ∷ []) (ran_in body h) here.begun u) m) (λ u m. Stands (InTurn st.path k t ran begun u) m)
              (λ u m x. stands_both core _ (InTurn st.path k t ran begun u)
              (λ q i. record { turn = 0; local = i.path; is = below core st.path (record { node = k; when = in_turn t }) q.path i.path i.is ∙ ap (λ y. st.path ++ (record { node = k; when = in_turn y } ∷ i.path)) (omega arith); kept = i.kept }) m x) ones (after_all core tested s) here.kept)
              (in_turn_each st.path k t ran begun (after_all core ones (after_all core tested s)) stepped
              (both_stand P _ _ (list_stands P (inside_at st k (in_turn t) []) refl (n + (length start + (length test + number_count body))) next ns) (keeps_stand core reading P state (last_word ns))))))
              (each_more core (λ u m. Stands (InTurn st.path k (suc t) (ran_in_turns body rest) others.begun u) m) (λ u m. Stands (InTurn st.path k t ran begun u) m)
              (λ u m x. stands_both core _ (InTurn st.path k t ran begun u)
              (λ q i. record { turn = suc (InTurn.turn i); local = InTurn.local i; is = InTurn.is i ∙ ap (λ y. st.path ++ (record { node = k; when = in_turn y } ∷ InTurn.local i)) (omega arith); kept = InTurn.kept i }) m x) _ (after_all core all s) others.kept);
        }

pub all_kept : (core : PlainCore) (reading : Reading) (h : History) (first : Store) → IsCore core → SymbolsAreKept core reading h first
all_kept core reading h first right =
    let r = whole_of core reading core.root nothing [] right.nodes h 0 0 (record { path = []; counters = [] }) first (node_deeper core reading core.root nothing [] right.nodes h 0 0 (record { path = []; counters = [] }) first) in
    record {
      begun = r.begun;
      kept = each_more core _ _ (λ s m x. stands_both core _ _ (λ st i around rest here y e symbol q. i.kept around rest here y (sym i.is ∙ e) symbol q) m x) _ first r.kept;
    }
