-- The moments of every run.
use Rattle.std.proofs.Common.{◌≡◌, ℕ, zero, suc, ◌+◌, Bool, true, false, List, [], ◌∷◌, ◌++◌, Some, None, refl, sym, ◌∙◌, ap, subst, append_assoc}
use Rattle.std.specs.Prelude.{length, map, flat_map, ◌==◌, ℤ}
use Rattle.sp_words.specs.declared.kind.Style.{Style}
use Rattle.sp_core.specs.declared.node.SparseKind.TheVariants.{Gather, Scatter, WideLoad, WideStore}
use Rattle.sp_core.specs.Elements.{index_value, natural}
use Rattle.sp_core.specs.Events.{before, in_group_of, in_turn, Standing, inside_at, Moment, renews, keeps, list_moments, bounds_moments, spans_moments, renewal_in_body, loaded, stored, body_moments, moments, group_moments, stage_moments, turn_moments}
use Rattle.sp_core.specs.History.{Entry, Taken, last_word, History, Runs, Turn, branch_ran, moved, masked_run, more_run, groups_of, turns_of}
use Rattle.sp_core.specs.Laws.{IsReplayed}
use Rattle.sp_core.specs.Numbering.{counters_size, spans_size, node_count, number_count}
use Rattle.sp_core.specs.Operations.{operations}
use Rattle.sp_core.specs.PlainCore.{PlainOp, PlainSpan, PlainNode, PlainStages, inner, outer, fsm, branch, load, store, sparse, no_stage, more_stage, PlainCore}
use Rattle.sp_core.specs.Replay.{Happens, after_all}
use Rattle.sp_core.specs.Scope.{Reading, Scope, loops_of, group_values, is_live, is_some_live, in_group}
use Rattle.sp_core.specs.Sequential.{renew, renew_in_body, end_of_group, taken, state_now, run, run_stages}
use Rattle.sp_core.specs.Step.{Step, pure, ◌>>=◌, ◌>>◌, out_of_turns, in_order, repeated}
use Rattle.sp_core.specs.Transfers.{part_of, load_slice, store_slice}
use Rattle.sp_core.proofs.Replays.{Does, bind_does, pure_does, no_turn_does, weaker_does, still_then, then_pure}
use Rattle.sp_core.proofs.ReplayLists.{append_nil, both_known, after_known, operations_do, all_bounds_do, all_taken_do, state_does, all_renewed, all_renewed_in_body, group_ends}
use Rattle.sp_core.proofs.ReplayTransfers.{slice_loaded, slice_stored, words_gathered, words_scattered}

module _ (core : PlainCore) (reading : Reading) (most : ℕ) where
  body_does : (scope : List ℤ → Scope) (k n : ℕ) (st : Standing) (owned : List ℕ) (ops : List PlainOp) (g : ℕ) (values : List (List ℤ))
      → Does core (λ groups ms. ms ≡ body_moments core reading k n g st owned ops values groups) (in_order (λ v. in_order (renew_in_body core reading most) owned >> operations core (scope v) ops) values)
  unfolding in_order
  body_does scope k n st owned ops g [] = pure_does core _ _ refl
  body_does scope k n st owned ops g (v ∷ values) =
      after_known core _ _ (λ es. flat_map (renewal_in_body core) owned ++ list_moments n (inside_at st k (in_group_of g 0) v) ops es) _
      (after_known core _ _ (λ _. flat_map (renewal_in_body core) owned) _ (all_renewed_in_body core reading most owned) (λ _. weaker_does core _ _ _ (λ es ms e. ap (λ x. flat_map (renewal_in_body core) owned ++ x) e) (operations_do core (scope v) (inside_at st k (in_group_of g 0) v) n ops)))
      (λ es. then_pure core _ _ _ _ (body_does scope k n st owned ops (suc g) values) (λ groups ms e. ap (λ x. (flat_map (renewal_in_body core) owned ++ list_moments n (inside_at st k (in_group_of g 0) v) ops es) ++ x) e))

  -- the groups of an outer, whose stages do so
  groups_do : (stages : PlainStages) (k n : ℕ) (st : Standing) (style : Style) (owned : List ℕ) (live : List ℤ → ℕ → Bool) (scope : List ℤ → Scope)
      → ((g : ℕ) (v : List ℤ) → Does core (λ runs ms. ms ≡ stage_moments core reading stages k n 0 g (suc k) v st runs) (run_stages core reading most stages (live v) (scope v)))
      → (g : ℕ) (values : List (List ℤ)) → Does core (λ groups ms. ms ≡ group_moments core reading stages k n g st owned values (groups_of groups))
      (in_order (λ v. in_order (renew core reading most) owned >> (run_stages core reading most stages (live v) (scope v) >>= (λ runs. end_of_group core reading most style owned >> pure runs))) values)
  unfolding in_order group_moments
  groups_do stages k n st style owned live scope h g [] = pure_does core _ _ refl
  groups_do stages k n st style owned live scope h g (v ∷ values) =
      after_known core _ _ (λ runs. map renews owned ++ stage_moments core reading stages k n 0 g (suc k) v st runs) _
      (after_known core _ _ (λ _. map renews owned) _ (all_renewed core reading most owned) (λ _.
      bind_does core _ _ _ _ (h g v) (λ runs ms e. still_then core _ _ _ (group_ends core reading most style owned) (λ _. pure_does core _ _ (ap (λ x. map renews owned ++ x) (append_nil ms ∙ e))))))
      (λ runs. then_pure core _ _ _ _ (groups_do stages k n st style owned live scope h (suc g) values) (λ groups ms e. ap (λ x. (map renews owned ++ stage_moments core reading stages k n 0 g (suc k) v st runs) ++ x) e))

  -- the turns of an FSM, whose body does so
  module _ (start : List PlainOp) (state : ℕ) (test : List PlainOp) (body : PlainNode) (next : List PlainOp) (k n : ℕ) (st : Standing) (scope : Scope)
      (h : (t : ℕ) → Does core (λ h ms. ms ≡ moments core reading body (suc k) (n + (length start + length test)) (inside_at st k (in_turn t) []) h) (run core reading most body scope)) where
    abbrev turn_step : List Entry → Step Turn
    turn_step tested = run core reading most body scope >>= (λ h. state_now core reading most scope state next >>= (λ es. pure (record { test = tested; body = h; next = es })))

    abbrev tested_at : ℕ → List Entry → List Moment
    tested_at t es = list_moments (n + length start) (inside_at st k (in_turn t) []) test es

    abbrev turn_at : ℕ → Turn → List Moment
    turn_at t r = moments core reading body (suc k) (n + (length start + length test)) (inside_at st k (in_turn t) []) r.body
        ++ (list_moments (n + (length start + (length test + number_count body))) (inside_at st k (in_turn t) []) next r.next ++ keeps state (last_word r.next) ∷ [])

    abbrev All : ℕ → List Turn × List Entry → List Moment → Type 0
    All t r ms = ms ≡ turn_moments core reading start state test body next k n t st (turns_of r.0) r.1

    one_turn : (t : ℕ) (tested : List Entry) → Does core (λ r ms. (r.test ≡ tested) × (ms ≡ turn_at t r)) (turn_step tested)
    one_turn t tested = after_known core _ _ _ _ (h t) (λ b. then_pure core _ _ _ _ (state_does core scope (inside_at st k (in_turn t) []) reading most (n + (length start + (length test + number_count body))) state next) (λ es ms e.
        (refl, ap (λ x. moments core reading body (suc k) (n + (length start + length test)) (inside_at st k (in_turn t) []) b ++ x) e)))

    ended_at : (t : ℕ) (es : List Entry) → Does core (λ r ms. All t r (tested_at t es ++ ms)) (pure ([], es))
    unfolding turn_moments
    ended_at t es = pure_does core _ _ (append_nil _)

    -- a test and its turn come before those after them
    in_turns : (t : ℕ) (es : List Entry) (first : Turn) (ms ns rest : List Moment) → first.test ≡ es → ms ≡ turn_at t first → ns ≡ rest → tested_at t es ++ (ms ++ ns) ≡ (tested_at t first.test ++ turn_at t first) ++ rest
    in_turns t es first ms ns rest e f g =
        both_known (ap (tested_at t) (sym e)) (both_known f g) ∙ sym (append_assoc (tested_at t first.test) (turn_at t first) rest)

    choose_last : (t : ℕ) (es : List Entry) (b : Bool) → Does core (λ r ms. All t r (tested_at t es ++ ms)) (elim b [ true ↦ out_of_turns | false ↦ pure ([], es) ])
    choose_last t es true = no_turn_does core _
    choose_last t es false = ended_at t es

    abbrev Repeated : ℕ → Step (List Turn × List Entry)
    Repeated many = repeated many (operations core scope test) (λ es. last_word es == 1) turn_step

    module _ (many : ℕ) (t : ℕ) (others : Does core (All (suc t)) (Repeated many)) where
      choose : (es : List Entry) (b : Bool) → Does core (λ r ms. All t r (tested_at t es ++ ms)) (elim b [ true ↦ turn_step es >>= (λ first. Repeated many >>= (λ r. pure (first ∷ r.0, r.1))) | false ↦ pure ([], es) ])
      unfolding turn_moments
      choose es true = bind_does core _ _ _ _ (one_turn t es) (λ first ms p. then_pure core _ _ _ _ others (λ r ns e. in_turns t es first ms ns _ p.0 p.1 e))
      choose es false = ended_at t es

    turns_do : (many t : ℕ) → Does core (All t) (Repeated many)
    unfolding repeated
    turns_do zero t = after_known core _ _ (tested_at t) _ (operations_do core scope (inside_at st k (in_turn t) []) (n + length start) test) (λ es. choose_last t es (last_word es == 1))
    turns_do (suc many) t = after_known core _ _ (tested_at t) _ (operations_do core scope (inside_at st k (in_turn t) []) (n + length start) test) (λ es. choose many t (turns_do many (suc t)) es (last_word es == 1))

  load_does : (scope : Scope) (r m : ℕ) (spans : List PlainSpan) (n at : ℕ) (st : Standing) → Does core (λ h ms. (ts : List Taken) × (ws : List ℕ) × (h ≡ moved ts ws) × (ms ≡ spans_moments n st spans ts ++ loaded core at st r m (map part_of ts) ws)) (in_order (taken core reading most scope) spans >>= load_slice core r m)
  load_does scope r m spans n at st = after_known core _ _ _ _ (all_taken_do core scope st reading most n spans) (λ ts. weaker_does core _ _ _ (λ h ms d. (ts, d.0, d.1, ap (λ x. spans_moments n st spans ts ++ x) d.2)) (slice_loaded core at st r m ts))

  store_does : (scope : Scope) (r m : ℕ) (spans : List PlainSpan) (n at : ℕ) (st : Standing) → Does core (λ h ms. (ts : List Taken) × (ws : List ℕ) × (h ≡ moved ts ws) × (ms ≡ spans_moments n st spans ts ++ stored core at st r m (map part_of ts) ws)) (in_order (taken core reading most scope) spans >>= store_slice core r m)
  store_does scope r m spans n at st = after_known core _ _ _ _ (all_taken_do core scope st reading most n spans) (λ ts. weaker_does core _ _ _ (λ h ms d. (ts, d.0, d.1, ap (λ x. spans_moments n st spans ts ++ x) d.2)) (slice_stored core at st r m ts))

  -- a branch, by which of its blocks was taken
  module _ (test : List PlainOp) (first second : PlainNode) (k n : ℕ) (st : Standing) (es : List Entry) where
    abbrev Taken_block : Bool → History → List Moment → Type 0
    Taken_block b h ms = list_moments n (inside_at st k (in_turn 0) []) test es ++ ms ≡ moments core reading (branch test first second) k n st (branch_ran es b h)

    block_does : (one two : Step History)
        → Does core (λ h ms. ms ≡ moments core reading first (suc k) (n + length test) (inside_at st k (in_turn 0) []) h) one
        → Does core (λ h ms. ms ≡ moments core reading second (suc k + node_count first) (n + (length test + number_count first)) (inside_at st k (in_turn 0) []) h) two
        → (b : Bool) → Does core (Taken_block b) (elim b [ true ↦ one | false ↦ two ])
    unfolding moments
    block_does one two f g true = weaker_does core _ _ _ (λ h ms e. ap (λ x. list_moments n (inside_at st k (in_turn 0) []) test es ++ x) e) f
    block_does one two f g false = weaker_does core _ _ _ (λ h ms e. ap (λ x. list_moments n (inside_at st k (in_turn 0) []) test es ++ x) e) g

  -- the history of a transfer is put in
  put_in : (f : History → List Moment) (h : History) (ts : List Taken) (ws : List ℕ) (ms : List Moment) → h ≡ moved ts ws → ms ≡ f (moved ts ws) → ms ≡ f h
  put_in f h ts ws ms e p = p ∙ ap f (sym e)

  -- a stage is run, or all its lanes are masked
  stage_does : (node : PlainNode) (rest : PlainStages) (first last : ℕ) (comb : Bool) (k n s g j : ℕ) (v : List ℤ) (st : Standing) (one : Step History) (others : Step Runs)
      → Does core (λ h ms. ms ≡ moments core reading node j n (inside_at st k (in_group_of g s) v) h) one
      → Does core (λ runs ms. ms ≡ stage_moments core reading rest k (n + number_count node) (suc s) g (j + node_count node) v st runs) others
      → (b : Bool) → Does core (λ runs ms. ms ≡ stage_moments core reading (more_stage first last comb node rest) k n s g j v st runs)
      (elim b [ true ↦ one >>= (λ h. others >>= (λ runs. pure (more_run h runs))) | false ↦ others >>= (λ runs. pure (masked_run runs)) ])
  unfolding stage_moments
  stage_does node rest first last comb k n s g j v st one others f h true =
      after_known core _ _ _ _ f (λ a. then_pure core _ _ _ _ h (λ runs ms e. ap (λ x. moments core reading node j n (inside_at st k (in_group_of g s) v) a ++ x) e))
  stage_does node rest first last comb k n s g j v st one others f h false = then_pure core _ _ _ _ h (λ runs ms e. e)

  mutual
    unfolding run run_stages moments

    pub run_does : (node : PlainNode) (k n : ℕ) (st : Standing) (scope : Scope) → Does core (λ h ms. ms ≡ moments core reading node k n st h) (run core reading most node scope)
    run_does (inner counters owned ops comb) k n st scope =
        after_known core _ _ _ _ (all_bounds_do core scope (inside_at st k before []) reading most n counters) (λ bs.
        then_pure core _ _ _ _ (body_does (λ v. in_group scope (loops_of reading counters bs) v) k (n + counters_size counters) st owned ops 0 (group_values (loops_of reading counters bs)))
        (λ groups ms e. ap (λ x. bounds_moments n (inside_at st k before []) counters bs ++ x) e))
    run_does (outer counters style owned stages) k n st scope =
        after_known core _ _ _ _ (all_bounds_do core scope (inside_at st k before []) reading most n counters) (λ bs.
        then_pure core _ _ _ _ (groups_do stages k (n + counters_size counters) st style owned (λ v. is_live (loops_of reading counters bs) v) (λ v. in_group scope (loops_of reading counters bs) v)
        (λ g v. stages_do stages k (n + counters_size counters) 0 g (suc k) v st (is_live (loops_of reading counters bs) v) (in_group scope (loops_of reading counters bs) v)) 0 (group_values (loops_of reading counters bs)))
        (λ groups ms e. ap (λ x. bounds_moments n (inside_at st k before []) counters bs ++ x) e))
    run_does (fsm start state test body next) k n st scope =
        after_known core _ _ _ _ (state_does core scope (inside_at st k before []) reading most n state start) (λ first.
        then_pure core _ _ _ _ (turns_do start state test body next k n st scope (λ t. run_does body (suc k) (n + (length start + length test)) (inside_at st k (in_turn t) []) scope) most 0)
        (λ r ms e. ap (λ x. (list_moments n (inside_at st k before []) start first ++ keeps state (last_word first) ∷ []) ++ x) e))
    run_does (branch test first second) k n st scope =
        after_known core _ _ _ _ (operations_do core scope (inside_at st k (in_turn 0) []) n test) (λ es.
        then_pure core _ _ _ _ (block_does test first second k n st es _ _
        (run_does first (suc k) (n + length test) (inside_at st k (in_turn 0) []) scope)
        (run_does second (suc k + node_count first) (n + (length test + number_count first)) (inside_at st k (in_turn 0) []) scope) (last_word es == 1))
        (λ h ms e. e))
    run_does (load r m spans) k n st scope =
        weaker_does core _ _ _ (λ h ms d. put_in (moments core reading (load r m spans) k n st) h d.0 d.1 ms d.2 d.3) (load_does scope r m spans n (n + spans_size spans) st)
    run_does (store r m spans) k n st scope =
        weaker_does core _ _ _ (λ h ms d. put_in (moments core reading (store r m spans) k n st) h d.0 d.1 ms d.2 d.3) (store_does scope r m spans n (n + spans_size spans) st)
    run_does (sparse Gather r m (Some p) spans count par) k n st scope =
        after_known core _ _ _ _ (operations_do core scope st (n + spans_size spans) count) (λ es.
        then_pure core _ _ _ _ (words_gathered core (n + (spans_size spans + length count)) st r m p (natural (index_value (last_word es)))) (λ ws ms e. ap (λ x. list_moments (n + spans_size spans) st count es ++ x) e))
    run_does (sparse Scatter r m (Some p) spans count par) k n st scope =
        after_known core _ _ _ _ (operations_do core scope st (n + spans_size spans) count) (λ es.
        then_pure core _ _ _ _ (words_scattered core (n + (spans_size spans + length count)) st r m p (natural (index_value (last_word es)))) (λ ws ms e. ap (λ x. list_moments (n + spans_size spans) st count es ++ x) e))
    run_does (sparse Gather r m None spans count par) k n st scope =
        weaker_does core _ _ _ (λ h ms d. put_in (moments core reading (sparse Gather r m None spans count par) k n st) h d.0 d.1 ms d.2 d.3) (load_does scope r m spans n (n + (spans_size spans + length count)) st)
    run_does (sparse Scatter r m None spans count par) k n st scope =
        weaker_does core _ _ _ (λ h ms d. put_in (moments core reading (sparse Scatter r m None spans count par) k n st) h d.0 d.1 ms d.2 d.3) (load_does scope r m spans n (n + (spans_size spans + length count)) st)
    run_does (sparse WideLoad r m places spans count par) k n st scope =
        weaker_does core _ _ _ (λ h ms d. put_in (moments core reading (sparse WideLoad r m places spans count par) k n st) h d.0 d.1 ms d.2 d.3) (load_does scope r m spans n (n + (spans_size spans + length count)) st)
    run_does (sparse WideStore r m places spans count par) k n st scope =
        weaker_does core _ _ _ (λ h ms d. put_in (moments core reading (sparse WideStore r m places spans count par) k n st) h d.0 d.1 ms d.2 d.3) (store_does scope r m spans n (n + (spans_size spans + length count)) st)

    pub stages_do : (stages : PlainStages) (k n s g j : ℕ) (v : List ℤ) (st : Standing) (live : ℕ → Bool) (scope : Scope) → Does core (λ runs ms. ms ≡ stage_moments core reading stages k n s g j v st runs) (run_stages core reading most stages live scope)
    stages_do no_stage k n s g j v st live scope = pure_does core _ _ refl
    stages_do (more_stage first last comb node rest) k n s g j v st live scope =
        stage_does node rest first last comb k n s g j v st _ _ (run_does node j n (inside_at st k (in_group_of g s) v) scope)
        (stages_do rest k (n + number_count node) (suc s) g (j + node_count node) v st live scope) (is_some_live live first last)

pub replayed : (core : PlainCore) (reading : Reading) (node : PlainNode) → IsReplayed core reading node
replayed core reading node turns scope s t h e k n st =
    let d = run_does core reading turns node k n st scope s t h e in
    (subst (λ ms. Happens core ms s) d.1 d.2, subst (λ ms. after_all core ms s ≡ t) d.1 d.3)
