-- In the cycle in which a controller without counters is started nothing happens.
use Rattle.std.proofs.Common.{◌≡◌, ℕ, zero, suc, ◌+◌, ◌≤◌, true, false, ℤ, List, [], ◌∷◌, ◌++◌, flat_map, length, arith, refl, sym, ap, subst, ◌∙◌}
use Rattle.std.proofs.lemmas.List.{append-nil}
use Rattle.sp_core.specs.Events.{Standing, Moment, entry_moments, renewal_in_body, inside_at, in_turn, before}
use Rattle.sp_core.specs.History.{History, Entry, last_word, inner_ran, outer_ran, fsm_ran, branch_ran, moved, picked}
use Rattle.sp_core.specs.Numbering.{counters_size, node_count, number_count}
use Rattle.sp_core.specs.PlainCore.{PlainOp, PlainNode, PlainStages, inner, outer, fsm, branch, load, store, sparse, PlainCore}
use Rattle.sp_core.specs.Scope.{in_lanes, no_scope, loops_of, group_values}
use Rattle.sp_plan.specs.PlainPlan.{PlainNodePlan, PlainPlan, node_plan}
use Rattle.sp_time.specs.Beats.{Slot, Run}
use Rattle.sp_time.specs.Lists.{Each}
use Rattle.sp_machine.specs.Stamps.{Stamped, Copies, stamped, later, list_stamped, list_run, kept_run, ◌▸◌}
use Rattle.sp_machine.specs.Timeline.{core_timed, timed, body_events, stage_events, fresh_events, group_events, group_runs, turn_runs, inner_took, interval_of, issued_by, issued, latency_of, slots_of}
use Rattle.sp_machine.specs.Transfers.{Delays}
use Rattle.sp_tree_runs.specs.BodiesDone.{AllDone}
use Rattle.sp_tree_circuits.specs.Laws.{core_events}
use Rattle.sp_stored_cores.specs.Quiet.{HasNoCounters}

abbrev pub IsLate : Stamped → Type 0
IsLate x = 1 ≤ x.cycle

both : (xs ys : List Stamped) → Each IsLate xs → Each IsLate ys → Each IsLate (xs ++ ys)
both [] ys a b = b
both (x ∷ xs) ys a b = (a.0, both xs ys a.1 b)

pub are_moved : (n : ℕ) → 1 ≤ n → (xs : List Stamped) → Each IsLate (later n xs)
are_moved n l [] = tt
are_moved n l (x ∷ xs) = (omega (arith, l), are_moved n l xs)

at_zero : (xs : List Stamped) → later 0 xs ≡ xs
at_zero [] = refl
at_zero (x ∷ xs) =
    let same : 0 + x.cycle ≡ x.cycle = omega arith in
    ap (λ n. record { cycle = n; copy = x.copy; moment = x.moment } ∷ later 0 xs) same ∙ ap (λ ys. x ∷ ys) (at_zero xs)

are_stamped : (copies : Copies) (n : ℕ) → 1 ≤ n → (ms : List Moment) → Each IsLate (stamped copies n ms)
are_stamped copies n l [] = tt
are_stamped copies n l (m ∷ ms) = (l, are_stamped copies n l ms)

are_listed : (copies : Copies) (at : ℕ → ℕ) → ((i : ℕ) → 1 ≤ at i) → (i n : ℕ) (st : Standing) (ops : List PlainOp) (es : List Entry) → Each IsLate (list_stamped copies at i n st ops es)
are_listed copies at l i n st [] es = tt
are_listed copies at l i n st (op ∷ ops) [] = tt
are_listed copies at l i n st (op ∷ ops) (e ∷ es) = both _ _ (are_stamped copies (at i) (l i) (entry_moments n st op.kind op.mem e)) (are_listed copies at l (suc i) (suc n) st ops es)

module _ (core : PlainCore) (plan : PlainPlan) (delays : Delays) where
  in_body : (p : PlainNodePlan) (copies : Copies) (k n g : ℕ) (st : Standing) (owned : List ℕ) (ops : List PlainOp) (values : List (List ℤ)) (groups : List (List Entry))
      → Each IsLate (body_events core plan delays p copies k n g st owned ops values groups)
  in_body p copies k n g st owned ops [] groups = tt
  in_body p copies k n g st owned ops (v ∷ values) [] = tt
  in_body p copies k n g st owned ops (v ∷ values) (es ∷ groups) =
      both _ _ (both _ _ (are_stamped copies (issued core plan delays p g) (omega arith) (flat_map (renewal_in_body core) owned)) (are_listed copies _ (λ i. omega arith) 0 n _ ops es))
      (in_body p copies k n (suc g) st owned ops values groups)

  module _ (slots : List Slot) (runs : List (List (Run Stamped))) where
    in_stages : (g s : ℕ) (row : List (Run Stamped)) → Each IsLate (stage_events core plan delays slots runs g s row)
    in_stages g s [] = tt
    in_stages g s (r ∷ row) = both _ _ (are_moved _ (omega arith) r.events) (in_stages g (suc s) row)

    made_fresh : (p : PlainNodePlan) (stages : PlainStages) (copies : Copies) (g : ℕ) (owned : List ℕ) → Each IsLate (fresh_events core plan delays slots runs p stages copies g owned)
    made_fresh p stages copies g [] = tt
    made_fresh p stages copies g (m ∷ owned) = (omega arith, made_fresh p stages copies g owned)

    in_groups : (p : PlainNodePlan) (stages : PlainStages) (copies : Copies) (owned : List ℕ) (g : ℕ) (rows : List (List (Run Stamped))) → Each IsLate (group_events core plan delays slots runs p stages copies owned g rows)
    in_groups p stages copies owned g [] = tt
    in_groups p stages copies owned g (row ∷ rows) = both _ _ (both _ _ (made_fresh p stages _ g owned) (in_stages g 0 row)) (in_groups p stages copies owned (suc g) rows)

  in_node : (node : PlainNode) (k n : ℕ) (st : Standing) (copies : Copies) (h : History) → HasNoCounters node → AllDone in_lanes node no_scope h → Each IsLate (timed core plan delays node k n st copies h).events
  unfolding timed
  in_node (inner [] owned ops comb) k n st copies (inner_ran bs counts groups) none done =
      in_body (issued_by core ops (node_plan plan k)) copies k (n + counters_size []) 0 st owned ops (group_values (loops_of in_lanes [] bs)) groups
  in_node (outer [] style owned stages) k n st copies (outer_ran bs counts groups) none done =
      let runs : List (List (Run Stamped)) = group_runs core plan delays stages k (n + counters_size []) 0 st owned copies (group_values (loops_of in_lanes [] bs)) groups in
      in_groups (slots_of (node_plan plan k)) runs (node_plan plan k) stages copies owned 0 runs
  in_node (fsm start state test body next) k n st copies (fsm_ran first ts last) none done =
      are_moved 1 (omega arith) (kept_run core copies n (inside_at st k before []) start first state (last_word first) ▸ turn_runs core plan delays start state test body next k n 0 st copies ts last).events
  in_node (branch test first second) k n st copies (branch_ran es true h) none done =
      are_moved 1 (omega arith) (list_run core copies n (inside_at st k (in_turn 0) []) test es ▸ timed core plan delays first (suc k) (n + length test) (inside_at st k (in_turn 0) []) copies h).events
  in_node (branch test first second) k n st copies (branch_ran es false h) none done =
      are_moved 1 (omega arith) (list_run core copies n (inside_at st k (in_turn 0) []) test es ▸ timed core plan delays second (suc k + node_count first) (n + (length test + number_count first)) (inside_at st k (in_turn 0) []) copies h).events
  in_node (inner [] owned ops comb) k n st copies (outer_ran bs counts groups) none done = elim done [ ]
  in_node (inner [] owned ops comb) k n st copies (fsm_ran first ts last) none done = elim done [ ]
  in_node (inner [] owned ops comb) k n st copies (branch_ran es side h) none done = elim done [ ]
  in_node (inner [] owned ops comb) k n st copies (moved ts ws) none done = elim done [ ]
  in_node (inner [] owned ops comb) k n st copies (picked es ws) none done = elim done [ ]
  in_node (outer [] style owned stages) k n st copies (inner_ran bs counts groups) none done = elim done [ ]
  in_node (outer [] style owned stages) k n st copies (fsm_ran first ts last) none done = elim done [ ]
  in_node (outer [] style owned stages) k n st copies (branch_ran es side h) none done = elim done [ ]
  in_node (outer [] style owned stages) k n st copies (moved ts ws) none done = elim done [ ]
  in_node (outer [] style owned stages) k n st copies (picked es ws) none done = elim done [ ]
  in_node (fsm start state test body next) k n st copies (inner_ran bs counts groups) none done = elim done [ ]
  in_node (fsm start state test body next) k n st copies (outer_ran bs counts groups) none done = elim done [ ]
  in_node (fsm start state test body next) k n st copies (branch_ran es side h) none done = elim done [ ]
  in_node (fsm start state test body next) k n st copies (moved ts ws) none done = elim done [ ]
  in_node (fsm start state test body next) k n st copies (picked es ws) none done = elim done [ ]
  in_node (branch test first second) k n st copies (inner_ran bs counts groups) none done = elim done [ ]
  in_node (branch test first second) k n st copies (outer_ran bs counts groups) none done = elim done [ ]
  in_node (branch test first second) k n st copies (fsm_ran es ts last) none done = elim done [ ]
  in_node (branch test first second) k n st copies (moved ts ws) none done = elim done [ ]
  in_node (branch test first second) k n st copies (picked es ws) none done = elim done [ ]
  in_node (inner (c ∷ counters) owned ops comb) k n st copies h none done = elim none [ ]
  in_node (outer (c ∷ counters) style owned stages) k n st copies h none done = elim none [ ]
  in_node (load r m spans) k n st copies h none done = elim none [ ]
  in_node (store r m spans) k n st copies h none done = elim none [ ]
  in_node (sparse kind r m places spans count par) k n st copies h none done = elim none [ ]

  long : (groups ii latency : ℕ) → 1 ≤ inner_took groups ii latency
  long zero ii latency = omega arith
  long (suc g) ii latency = omega arith

  takes : (node : PlainNode) (k n : ℕ) (st : Standing) (copies : Copies) (h : History) → HasNoCounters node → AllDone in_lanes node no_scope h → 1 ≤ (timed core plan delays node k n st copies h).took
  unfolding timed
  takes (inner [] owned ops comb) k n st copies (inner_ran bs counts groups) none done = long (length groups) (interval_of (issued_by core ops (node_plan plan k))) (latency_of (issued_by core ops (node_plan plan k)))
  takes (outer [] style owned stages) k n st copies (outer_ran bs counts groups) none done = omega arith
  takes (fsm start state test body next) k n st copies (fsm_ran first ts last) none done = omega arith
  takes (branch test first second) k n st copies (branch_ran es true h) none done = omega arith
  takes (branch test first second) k n st copies (branch_ran es false h) none done = omega arith
  takes (inner [] owned ops comb) k n st copies (outer_ran bs counts groups) none done = elim done [ ]
  takes (inner [] owned ops comb) k n st copies (fsm_ran first ts last) none done = elim done [ ]
  takes (inner [] owned ops comb) k n st copies (branch_ran es side h) none done = elim done [ ]
  takes (inner [] owned ops comb) k n st copies (moved ts ws) none done = elim done [ ]
  takes (inner [] owned ops comb) k n st copies (picked es ws) none done = elim done [ ]
  takes (outer [] style owned stages) k n st copies (inner_ran bs counts groups) none done = elim done [ ]
  takes (outer [] style owned stages) k n st copies (fsm_ran first ts last) none done = elim done [ ]
  takes (outer [] style owned stages) k n st copies (branch_ran es side h) none done = elim done [ ]
  takes (outer [] style owned stages) k n st copies (moved ts ws) none done = elim done [ ]
  takes (outer [] style owned stages) k n st copies (picked es ws) none done = elim done [ ]
  takes (fsm start state test body next) k n st copies (inner_ran bs counts groups) none done = elim done [ ]
  takes (fsm start state test body next) k n st copies (outer_ran bs counts groups) none done = elim done [ ]
  takes (fsm start state test body next) k n st copies (branch_ran es side h) none done = elim done [ ]
  takes (fsm start state test body next) k n st copies (moved ts ws) none done = elim done [ ]
  takes (fsm start state test body next) k n st copies (picked es ws) none done = elim done [ ]
  takes (branch test first second) k n st copies (inner_ran bs counts groups) none done = elim done [ ]
  takes (branch test first second) k n st copies (outer_ran bs counts groups) none done = elim done [ ]
  takes (branch test first second) k n st copies (fsm_ran es ts last) none done = elim done [ ]
  takes (branch test first second) k n st copies (moved ts ws) none done = elim done [ ]
  takes (branch test first second) k n st copies (picked es ws) none done = elim done [ ]
  takes (inner (c ∷ counters) owned ops comb) k n st copies h none done = elim none [ ]
  takes (outer (c ∷ counters) style owned stages) k n st copies h none done = elim none [ ]
  takes (load r m spans) k n st copies h none done = elim none [ ]
  takes (store r m spans) k n st copies h none done = elim none [ ]
  takes (sparse kind r m places spans count par) k n st copies h none done = elim none [ ]

  pub are_timed : (h : History) → core_events core plan delays h ≡ (core_timed core plan delays h).events
  are_timed h = append-nil _ ∙ at_zero _

  pub none_at_once : HasNoCounters core.root → (h : History) → AllDone in_lanes core.root no_scope h → Each (λ (x : Stamped). 1 ≤ x.cycle) (core_events core plan delays h)
  none_at_once none h done = subst (Each IsLate) (sym (are_timed h)) (in_node core.root 0 0 _ _ h none done)

  pub takes_time : HasNoCounters core.root → (h : History) → AllDone in_lanes core.root no_scope h → 1 ≤ (core_timed core plan delays h).took
  takes_time none h done = takes core.root 0 0 _ _ h none done
