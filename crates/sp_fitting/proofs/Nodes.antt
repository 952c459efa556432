-- Nodes, in a store whose words fit.
use Rattle.std.proofs.Common.{◌≡◌, ℕ, Bool, true, false, List, [], ◌∷◌, ◌++◌, length, Some, None, All, sym, subst}
use Rattle.std.proofs.lemmas.Bool.{and_parts}
use Rattle.std.proofs.lemmas.List.Elements.{All-nil, All-cons, All-head, All-tail, All-weaker}
use Rattle.std.specs.List.{AllZip, list_all}
use Rattle.std.specs.Prelude.{◌==◌, nat_lt, nat_le}
use Rattle.sp_words.specs.declared.kind.Style.{Style}
use Rattle.sp_words.specs.declared.kind.Style.TheVariants.{Pipe, Sequential, Parallel, Stream}
use Rattle.sp_words.specs.Types.{int_type}
use Rattle.sp_words.specs.Words.{IsWord}
use Rattle.sp_core.specs.declared.node.SparseKind.TheVariants.{Gather, Scatter, WideLoad, WideStore}
use Rattle.sp_core.specs.Around.{Around, lanes_of, within}
use Rattle.sp_core.specs.Declarations.{mem, depth}
use Rattle.sp_core.specs.Elements.{index_value, natural, numbers_below}
use Rattle.sp_core.specs.History.{Entry, Taken, one, both, last_word, History, Runs, Turn, branch_ran, moved, picked, masked_run, more_run, groups_of, turns_of}
use Rattle.sp_core.specs.Invariant.{IsRight, AreRight, owned_in}
use Rattle.sp_core.specs.MemoryRules.{are_memories_right}
use Rattle.sp_core.specs.NodeRules.{are_counters_right, are_lanes_right, is_span_right, with_state}
use Rattle.sp_core.specs.OperationRules.{are_operations_right, is_word_list, is_bound, is_counter_right}
use Rattle.sp_core.specs.PlainCore.{PlainOp, PlainCounter, PlainSpan, single, range, PlainNode, PlainStages, inner, outer, fsm, branch, load, store, sparse, no_stage, more_stage, PlainCore}
use Rattle.sp_core.specs.Scope.{Reading, Scope, loops_of, group_values, is_live, is_some_live, in_group}
use Rattle.sp_core.specs.Sequential.{has_reset, renew, renew_in_body, holds_depth, end_of_group, bounds, taken, state_now, run, run_stages}
use Rattle.sp_core.specs.Step.{Step, pure, ◌>>=◌, in_order}
use Rattle.sp_core.specs.Transfers.{load_slice, store_slice}
use Rattle.sp_core.specs.Typed.{is_type}
use Rattle.sp_fitting.specs.Fitting.{type_at, IsCell, EntriesFit, BoundsFit, SpanFits, OfDram, IsPicked, HistoryFits, GroupsFit, RunsFit, TurnsFit}
use Rattle.sp_fitting.proofs.Contents.{type_of_mem, fresh_fits, same_word}
use Rattle.sp_fitting.proofs.Keeping.{Keeps, Anything, bind_keeps, pure_keeps, weaker_keeps, then_keeps, ensure_keeps, look_keeps, each_keeps, repeated_keeps, hold_keeps}
use Rattle.sp_fitting.proofs.Lists.{list_keeps, last_fits}
use Rattle.sp_fitting.proofs.Rules.{word_list_right, bound_right, counter_right, counters_right, IsSlice, load_right, store_right, wide_right, pick_right, no_pick, machine_right, state_there, here_right}
use Rattle.sp_fitting.proofs.Transfers.{AreAlike, alike, Picked, slice_loaded, slice_stored, all_gathered, all_scattered}
use Rattle.sp_fitting.proofs.Words.{Operators}

module _ (core : PlainCore) (known : Operators) (memories : are_memories_right core ≡ true) (reading : Reading) (most : ℕ) where
  renew_keeps : (m : ℕ) → Keeps core Anything (renew core reading most m)
  renew_keeps m = hold_keeps core m _ (fresh_fits core m memories)

  renew_in_body_keeps : (m : ℕ) → Keeps core Anything (renew_in_body core reading most m)
  renew_in_body_keeps m = go (has_reset (mem core m).kind (mem core m).start)
    where
      go : (b : Bool) → Keeps core Anything (elim b as (λ _. Step (Unit {0})) [ true ↦ pure tt | false ↦ renew core reading most m ])
      go true = pure_keeps core _ tt tt
      go false = renew_keeps m

  all_renewed : (owned : List ℕ) → Keeps core Anything (in_order (renew core reading most) owned)
  all_renewed owned = weaker_keeps core _ _ _ (λ us h. tt) (each_keeps core _ Anything renew_keeps owned)

  all_renewed_in_body : (owned : List ℕ) → Keeps core Anything (in_order (renew_in_body core reading most) owned)
  all_renewed_in_body owned = weaker_keeps core _ _ _ (λ us h. tt) (each_keeps core _ Anything renew_in_body_keeps owned)

  depth_keeps : (m : ℕ) → Keeps core Anything (holds_depth core reading most m)
  depth_keeps m = then_keeps core _ _ _ (look_keeps core _ _ (λ s fits. tt)) (λ ws. ensure_keeps core (nat_le (length ws) (depth core m)))

  group_ends : (style : Style) (owned : List ℕ) → Keeps core Anything (end_of_group core reading most style owned)
  group_ends Stream owned = weaker_keeps core _ _ _ (λ us h. tt) (each_keeps core _ Anything depth_keeps owned)
  group_ends Pipe owned = pure_keeps core _ _ tt
  group_ends Sequential owned = pure_keeps core _ _ tt
  group_ends Parallel owned = pure_keeps core _ _ tt

  module _ (around : Around) (scope : Scope) where
    bounds_keep : (c : PlainCounter) → is_counter_right core around c ≡ true → Keeps core (BoundsFit c) (bounds core reading most scope c)
    bounds_keep c e =
        let h = counter_right core around c e in
        bind_keeps core _ _ (EntriesFit c.from) _ (list_keeps core known memories around scope c.from h.0) (λ a p.
        bind_keeps core _ _ (EntriesFit c.until) _ (list_keeps core known memories around scope c.until h.1) (λ b q. pure_keeps core _ _ (p, q)))

    all_bounds_keep : (counters : List PlainCounter) → list_all (is_counter_right core around) counters ≡ true → Keeps core (AllZip BoundsFit counters) (in_order (bounds core reading most scope) counters)
    unfolding in_order
    all_bounds_keep [] e = pure_keeps core _ [] tt
    all_bounds_keep (c ∷ counters) e =
        let h = and_parts (is_counter_right core around c) (list_all (is_counter_right core around) counters) e in
        bind_keeps core _ _ (BoundsFit c) _ (bounds_keep c h.0) (λ b p.
        bind_keeps core _ _ (AllZip BoundsFit counters) _ (all_bounds_keep counters h.1) (λ bs q. pure_keeps core _ (b ∷ bs) (p, q)))

    span_keeps : (span : PlainSpan) → is_span_right core around span ≡ true → Keeps core (SpanFits span) (taken core reading most scope span)
    span_keeps (single ops) e = bind_keeps core _ _ (EntriesFit ops) _ (list_keeps core known memories around scope ops (bound_right core around ops e)) (λ a p. pure_keeps core _ (one a) p)
    span_keeps (range from until) e =
        let h = and_parts (is_bound core around from) (is_bound core around until) e in
        bind_keeps core _ _ (EntriesFit from) _ (list_keeps core known memories around scope from (bound_right core around from h.0)) (λ a p.
        bind_keeps core _ _ (EntriesFit until) _ (list_keeps core known memories around scope until (bound_right core around until h.1)) (λ b q. pure_keeps core _ (both a b) (p, q)))

    all_taken_keep : (spans : List PlainSpan) → list_all (is_span_right core around) spans ≡ true → Keeps core (AllZip SpanFits spans) (in_order (taken core reading most scope) spans)
    unfolding in_order
    all_taken_keep [] e = pure_keeps core _ [] tt
    all_taken_keep (span ∷ spans) e =
        let h = and_parts (is_span_right core around span) (list_all (is_span_right core around) spans) e in
        bind_keeps core _ _ (SpanFits span) _ (span_keeps span h.0) (λ t p.
        bind_keeps core _ _ (AllZip SpanFits spans) _ (all_taken_keep spans h.1) (λ ts q. pure_keeps core _ (t ∷ ts) (p, q)))

    -- a register takes the word of a list
    state_keeps : (state : ℕ) (ops : List PlainOp) → nat_lt state (length core.mems) ≡ true → is_word_list core around ops (mem core state).ty ≡ true → Keeps core (EntriesFit ops) (state_now core reading most scope state ops)
    state_keeps state ops there e =
        let h = word_list_right core around ops (mem core state).ty e in
        bind_keeps core _ _ (EntriesFit ops) _ (list_keeps core known memories around scope ops h.0) (λ es p.
        then_keeps core _ _ _ (hold_keeps core state _
        (All-cons (IsCell (type_at core state)) (Some (last_word es)) [] (subst (λ ty. IsWord ty (last_word es)) (sym (type_of_mem core state there)) (last_fits ops es (mem core state).ty h.1 p)) (All-nil (IsCell (type_at core state)))))
        (λ u. pure_keeps core _ es p))

    abbrev Moved : (r : ℕ) → List PlainSpan → History → Type 0
    Moved r spans h = (ts : List Taken) × (ws : List ℕ) × (h ≡ moved ts ws) × (AllZip SpanFits spans ts × All (OfDram core r) ws)

    load_keeps : (r m : ℕ) (spans : List PlainSpan) → IsSlice core around r m spans → Keeps core (Moved r spans) (in_order (taken core reading most scope) spans >>= load_slice core r m)
    load_keeps r m spans h = bind_keeps core _ _ (AllZip SpanFits spans) _ (all_taken_keep spans h.spans_right) (λ ts p.
        weaker_keeps core _ _ _ (λ x d. (ts, d.0, d.1, (p, d.2))) (slice_loaded core r m (alike core r m h.memory.there h.memory.same) ts))

    store_keeps : (r m : ℕ) (spans : List PlainSpan) → IsSlice core around r m spans → Keeps core (Moved r spans) (in_order (taken core reading most scope) spans >>= store_slice core r m)
    store_keeps r m spans h = bind_keeps core _ _ (AllZip SpanFits spans) _ (all_taken_keep spans h.spans_right) (λ ts p.
        weaker_keeps core _ _ _ (λ x d. (ts, d.0, d.1, (p, d.2))) (slice_stored core r m (alike core r m h.memory.there h.memory.same) ts))

  -- the history of a transfer is put in
  put_in : (P : History → Type 0) (h : History) (ts : List Taken) (ws : List ℕ) → h ≡ moved ts ws → P (moved ts ws) → P h
  put_in P h ts ws e p = subst P (sym e) p

  places_fit : (p : ℕ) → nat_lt p (length core.mems) ≡ true → is_type (mem core p).ty int_type ≡ true → (w : ℕ) → IsWord (type_at core p) w → IsWord int_type w
  places_fit p there same w h = same_word (mem core p).ty int_type w same (subst (λ ty. IsWord ty w) (type_of_mem core p there) h)

  picked_fit : (r m : ℕ) (same : AreAlike core r m) (p : ℕ) → ((w : ℕ) → IsWord (type_at core p) w → IsWord int_type w) → (ws : List (ℕ × ℕ)) → All (Picked core r m same p) ws → All (IsPicked core r) ws
  picked_fit r m same p places ws h = All-weaker (Picked core r m same p) (IsPicked core r) (λ w g. (places w.0 g.0, g.1)) ws h

  groups_fit : (stages : PlainStages) (groups : List Runs) → All (RunsFit core stages) groups → GroupsFit core stages (groups_of groups)
  groups_fit stages [] h = tt
  groups_fit stages (g ∷ groups) h = (All-head (RunsFit core stages) g groups h, groups_fit stages groups (All-tail (RunsFit core stages) g groups h))

  abbrev TurnFits : (test : List PlainOp) → PlainNode → (next : List PlainOp) → Turn → Type 0
  TurnFits test body next t = EntriesFit test t.test × (HistoryFits core body t.body × EntriesFit next t.next)

  turns_fit : (test : List PlainOp) (body : PlainNode) (next : List PlainOp) (turns : List Turn) → All (TurnFits test body next) turns → TurnsFit core test body next (turns_of turns)
  turns_fit test body next [] h = tt
  turns_fit test body next (t ∷ turns) h = (All-head (TurnFits test body next) t turns h, turns_fit test body next turns (All-tail (TurnFits test body next) t turns h))

  -- a branch, by which of its blocks was taken
  block_keeps : (test : List PlainOp) (first second : PlainNode) (es : List Entry) (taken_step other_step : Step History) → Keeps core (HistoryFits core first) taken_step → Keeps core (HistoryFits core second) other_step → EntriesFit test es
      → (b : Bool) → Keeps core (λ h. HistoryFits core (branch test first second) (branch_ran es b h)) (elim b as (λ _. Step History) [ true ↦ taken_step | false ↦ other_step ])
  block_keeps test first second es taken_step other_step f g p true = weaker_keeps core _ _ _ (λ h q. (p, q)) f
  block_keeps test first second es taken_step other_step f g p false = weaker_keeps core _ _ _ (λ h q. (p, q)) g

  mutual
    unfolding run run_stages

    pub node_keeps : (node : PlainNode) (around : Around) (earlier : List ℕ) (scope : Scope) → IsRight core around earlier node → Keeps core (HistoryFits core node) (run core reading most node scope)
    node_keeps (inner counters owned ops comb) around earlier scope right =
        let a = and_parts (are_counters_right core around counters) (are_operations_right core (within around counters owned) ops) (here_right core around earlier (inner counters owned ops comb) right).0 in
        bind_keeps core _ _ (AllZip BoundsFit counters) _ (all_bounds_keep around scope counters (counters_right core around counters a.0)) (λ bs p.
        bind_keeps core _ _ (All (EntriesFit ops)) _ (each_keeps core _ (EntriesFit ops) (λ v.
        then_keeps core _ _ _ (all_renewed_in_body owned) (λ u. list_keeps core known memories (within around counters owned) (in_group scope (loops_of reading counters bs) v) ops a.1)) (group_values (loops_of reading counters bs)))
        (λ groups q. pure_keeps core _ _ (p, q)))
    node_keeps (outer counters style owned stages) around earlier scope right =
        let a = and_parts (are_counters_right core around counters) (are_lanes_right (lanes_of counters) stages) (here_right core around earlier (outer counters style owned stages) right.0).0 in
        bind_keeps core _ _ (AllZip BoundsFit counters) _ (all_bounds_keep around scope counters (counters_right core around counters a.0)) (λ bs p.
        bind_keeps core _ _ (All (RunsFit core stages)) _ (each_keeps core _ (RunsFit core stages) (λ v.
        then_keeps core _ _ _ (all_renewed owned) (λ u.
        bind_keeps core _ _ (RunsFit core stages) _ (stages_keep stages (within around counters owned) (earlier ++ owned) (is_live (loops_of reading counters bs) v) (in_group scope (loops_of reading counters bs) v) right.1) (λ runs q.
        then_keeps core _ _ _ (group_ends style owned) (λ w. pure_keeps core _ runs q)))) (group_values (loops_of reading counters bs)))
        (λ groups q. pure_keeps core _ _ (p, groups_fit stages groups q)))
    node_keeps (fsm start state test body next) around earlier scope right =
        let a = here_right core around earlier (fsm start state test body next) right.0 in
        let m = machine_right core around start state test body next a.0 in
        let there = state_there core around earlier state a.1 in
        bind_keeps core _ _ (EntriesFit start) _ (state_keeps around scope state start there m.start_right) (λ first p.
        bind_keeps core _ _ (λ r. All (TurnFits test body next) r.0 × EntriesFit test r.1) _
        (repeated_keeps core (EntriesFit test) (TurnFits test body next) _ _ _ (list_keeps core known memories (with_state core around state) scope test m.test_right) (λ tested q.
        bind_keeps core _ _ (HistoryFits core body) _ (node_keeps body (with_state core around state) (earlier ++ state ∷ []) scope right.1) (λ h f.
        bind_keeps core _ _ (EntriesFit next) _ (state_keeps (with_state core around state) scope state next there m.next_right) (λ es n. pure_keeps core _ _ (q, (f, n))))) most)
        (λ r q. pure_keeps core _ _ (p, (turns_fit test body next r.0 q.0, q.1))))
    node_keeps (branch test first second) around earlier scope right =
        bind_keeps core _ _ (EntriesFit test) _ (list_keeps core known memories around scope test (word_list_right core around test _ (here_right core around earlier (branch test first second) right.0).0).0) (λ es p.
        bind_keeps core _ _ (λ h. HistoryFits core (branch test first second) (branch_ran es (last_word es == 1) h)) _
        (block_keeps test first second es _ _ (node_keeps first around earlier scope right.1) (node_keeps second around (earlier ++ owned_in first) scope right.2) p (last_word es == 1))
        (λ h q. pure_keeps core _ _ q))
    node_keeps (load r m spans) around earlier scope right =
        weaker_keeps core _ _ _ (λ h d. put_in (HistoryFits core (load r m spans)) h d.0 d.1 d.2 d.3) (load_keeps around scope r m spans (load_right core around r m spans (here_right core around earlier (load r m spans) right).0))
    node_keeps (store r m spans) around earlier scope right =
        weaker_keeps core _ _ _ (λ h d. put_in (HistoryFits core (store r m spans)) h d.0 d.1 d.2 d.3) (store_keeps around scope r m spans (store_right core around r m spans (here_right core around earlier (store r m spans) right).0))
    node_keeps (sparse Gather r m (Some p) spans count par) around earlier scope right =
        let h = pick_right core around r m p spans count par (here_right core around earlier (sparse Gather r m (Some p) spans count par) right).0 in
        bind_keeps core _ _ (EntriesFit count) _ (list_keeps core known memories around scope count h.count_right) (λ es q.
        bind_keeps core _ _ _ _ (all_gathered core r m (alike core r m h.memory.there h.memory.same) p (numbers_below (natural (index_value (last_word es)))))
        (λ ws f. pure_keeps core _ (picked es ws) (q, picked_fit r m (alike core r m h.memory.there h.memory.same) p (places_fit p h.places_there h.places_typed) ws f)))
    node_keeps (sparse Scatter r m (Some p) spans count par) around earlier scope right =
        let h = pick_right core around r m p spans count par (here_right core around earlier (sparse Scatter r m (Some p) spans count par) right).0 in
        bind_keeps core _ _ (EntriesFit count) _ (list_keeps core known memories around scope count h.count_right) (λ es q.
        bind_keeps core _ _ _ _ (all_scattered core r m (alike core r m h.memory.there h.memory.same) p (numbers_below (natural (index_value (last_word es)))))
        (λ ws f. pure_keeps core _ (picked es ws) (q, picked_fit r m (alike core r m h.memory.there h.memory.same) p (places_fit p h.places_there h.places_typed) ws f)))
    node_keeps (sparse Gather r m None spans count par) around earlier scope right = absurd (no_pick core around r m spans count par (here_right core around earlier (sparse Gather r m None spans count par) right).0)
    node_keeps (sparse Scatter r m None spans count par) around earlier scope right = absurd (no_pick core around r m spans count par (here_right core around earlier (sparse Scatter r m None spans count par) right).0)
    node_keeps (sparse WideLoad r m index spans count par) around earlier scope right =
        weaker_keeps core _ _ _ (λ h d. put_in (HistoryFits core (sparse WideLoad r m index spans count par)) h d.0 d.1 d.2 d.3)
        (load_keeps around scope r m spans (wide_right core around r m index spans count par (here_right core around earlier (sparse WideLoad r m index spans count par) right).0))
    node_keeps (sparse WideStore r m index spans count par) around earlier scope right =
        weaker_keeps core _ _ _ (λ h d. put_in (HistoryFits core (sparse WideStore r m index spans count par)) h d.0 d.1 d.2 d.3)
        (store_keeps around scope r m spans (wide_right core around r m index spans count par (here_right core around earlier (sparse WideStore r m index spans count par) right).0))

    stages_keep : (stages : PlainStages) (around : Around) (earlier : List ℕ) (live : ℕ → Bool) (scope : Scope) → AreRight core around earlier stages → Keeps core (RunsFit core stages) (run_stages core reading most stages live scope)
    stages_keep no_stage around earlier live scope right = pure_keeps core _ _ tt
    stages_keep (more_stage first last comb node rest) around earlier live scope right = choose (node_keeps node around earlier scope right.0) (stages_keep rest around (earlier ++ owned_in node) live scope right.1) (is_some_live live first last)
      where
        choose : Keeps core (HistoryFits core node) (run core reading most node scope) → Keeps core (RunsFit core rest) (run_stages core reading most rest live scope) → (b : Bool)
            → Keeps core (RunsFit core (more_stage first last comb node rest)) (elim b as (λ _. Step Runs) [ true ↦ run core reading most node scope >>= (λ h. run_stages core reading most rest live scope >>= (λ others. pure (more_run h others))) | false ↦ run_stages core reading most rest live scope >>= (λ others. pure (masked_run others)) ])
        choose f g true = bind_keeps core _ _ (HistoryFits core node) _ f (λ h p. bind_keeps core _ _ (RunsFit core rest) _ g (λ hs q. pure_keeps core _ (more_run h hs) (p, q)))
        choose f g false = bind_keeps core _ _ (RunsFit core rest) _ g (λ hs q. pure_keeps core _ (masked_run hs) q)
