-- Runs of parts with the counters around them.
use Rattle.std.proofs.Common.{◌≡◌, ℕ, zero, suc, ◌<◌, ◌^◌, Bool, true, false, ◌&&◌, nat_le, nat_lt, ℤ, List, [], ◌∷◌, ◌++◌, flat_map, length, slice_index_or, Option, Some, None, refl, ap, subst, ◌∙◌, arith}
use Rattle.std.specs.List.{All, AllZip, list_all}
use Rattle.std.proofs.lemmas.Bool.{and_parts}
use Rattle.std.proofs.lemmas.List.{map-append}
use Rattle.std.proofs.lemmas.List.Elements.{All-head, All-tail}
use Rattle.sp_words.specs.declared.kind.Style.{Style}
use Rattle.sp_words.specs.Types.{int_type}
use Rattle.sp_core.specs.Around.{Around, lanes_of, within}
use Rattle.sp_core.specs.History.{Entry, Bounds, Taken, one, both, History, Groups, Runs, Turns, inner_ran, outer_ran, fsm_ran, branch_ran, no_group, more_group, no_run, masked_run, more_run, no_turn, more_turn}
use Rattle.sp_core.specs.Invariant.{IsRight}
use Rattle.sp_core.specs.NodeRules.{is_span_right, are_counters_right, are_lanes_right, is_node_right}
use Rattle.sp_core.specs.OperationRules.{are_operations_right, is_word_list, is_early, is_bound, is_counter_right}
use Rattle.sp_core.specs.PlainCore.{PlainOp, PlainCounter, PlainSpan, single, range, PlainNode, PlainStages, inner, outer, fsm, branch, load, store, no_stage, more_stage, PlainCore}
use Rattle.sp_core.specs.Scope.{Loop, Scope, in_lanes, loops_of, group_values, is_live, in_group}
use Rattle.sp_fitting.specs.Fitting.{HistoryFits, EntriesFit, BoundsFit, SpanFits, MasksAreBits}
use Rattle.sp_fitting.proofs.Lists.{last_fits, masks_are_bits}
use Rattle.sp_fitting.proofs.Rules.{here_right, word_list_right, counters_right, load_right, store_right}
use Rattle.sp_plan.specs.PlainPlan.{PlainPlan}
use Rattle.sp_machine.specs.Transfers.{Delays}
use Rattle.sp_node_runs.specs.Runs.{Placed, side_in, turns_from, body_in, stage_at, stage_history, stage_of, groups_from, stage_in}
use Rattle.sp_part_runs.specs.ActsEntries.{AreEntries}
use Rattle.sp_part_runs.proofs.ActsIndices.{indices_are_words, group_indices}
use Rattle.sp_node_runs.specs.Bodies.{DidGroups}
use Rattle.sp_node_runs.specs.BodiesBounds.{DidBound, DidBounds}
use Rattle.sp_node_runs.specs.BodiesSpans.{DidSpans}
use Rattle.sp_tree_runs.specs.BodiesDone.{BoundsDone, SpanDone, AllDone, GroupsDone, RunsDone, TurnsDone}
use Rattle.sp_tree_runs.specs.BodiesScoped.{Scoped, placed, with_scope, AllAreDone, scoped_groups, scoped_stage_in, ScopedParts, DoneSo}

abbrev run_of : Scoped → Placed
run_of q = q.run

-- the runs without their scopes
placed_back : (scope : Scope) (runs : List Placed) → placed (with_scope scope runs) ≡ runs
placed_back scope [] = refl
placed_back scope (r ∷ runs) = ap (λ rest. r ∷ rest) (placed_back scope runs)

placed_both : (xs ys : List Scoped) → placed (xs ++ ys) ≡ placed xs ++ placed ys
placed_both xs ys = map-append (λ (q : Scoped). q.run) xs ys

placed_parts : (parts : Scoped → List Scoped) (plain : Placed → List Placed) → ((q : Scoped) → placed (parts q) ≡ plain q.run) → (qs : List Scoped) → placed (flat_map parts qs) ≡ flat_map plain (placed qs)
placed_parts parts plain same [] = refl
placed_parts parts plain same (q ∷ qs) = placed_both (parts q) (flat_map parts qs) ∙ ap (λ xs. xs ++ placed (flat_map parts qs)) (same q) ∙ ap (λ xs. plain q.run ++ xs) (placed_parts parts plain same qs)

both_done : (node : PlainNode) (xs ys : List Scoped) → AllAreDone node xs → AllAreDone node ys → AllAreDone node (xs ++ ys)
both_done node [] ys f g = g
both_done node (x ∷ xs) ys f g = (f.0, both_done node xs ys f.1 g)

each_done : (whole part : PlainNode) (parts : Scoped → List Scoped) → ((q : Scoped) → AllDone in_lanes whole q.scope q.run.history → AllAreDone part (parts q)) → (qs : List Scoped) → AllAreDone whole qs → AllAreDone part (flat_map parts qs)
each_done whole part parts step [] h = tt
each_done whole part parts step (q ∷ qs) h = both_done part (parts q) (flat_map parts qs) (step q h.0) (each_done whole part parts step qs h.1)

-- the history of a stage that has a lane
stage_done : (stages : PlainStages) (live : ℕ → Bool) (scope : Scope) (hs : Runs) (s : ℕ) (h : History) → RunsDone in_lanes stages live scope hs → stage_history stages hs s ≡ Some h → AllDone in_lanes (stage_at stages s) scope h
stage_done (more_stage first last comb node rest) live scope (more_run b hs) zero h f e = let same : b ≡ h = cc in subst (λ x. AllDone in_lanes node scope x) same f.1
stage_done (more_stage first last comb node rest) live scope (more_run b hs) (suc s) h f e = stage_done rest live scope hs s h f.2 e
stage_done (more_stage first last comb node rest) live scope (masked_run hs) (suc s) h f e = stage_done rest live scope hs s h f.1 e
stage_done (more_stage first last comb node rest) live scope (masked_run hs) zero h f e = let z : None ≡ Some h = e in absurd (cc)
stage_done (more_stage first last comb node rest) live scope no_run s h f e = elim f [ ]
stage_done no_stage live scope hs s h f e = let z : None ≡ Some h = e in absurd (cc)

module _ (core : PlainCore) (plan : PlainPlan) (delays : Delays) where
  module _ (k : ℕ) (test : List PlainOp) (first second : PlainNode) where
    first_done : (r : Placed) (scope : Scope) (h : History) → AllDone in_lanes (branch test first second) scope h → AllAreDone first (with_scope scope (side_in core plan delays test k true r h))
    first_done r scope (branch_ran es true h) f = (f.2, tt)
    first_done r scope (branch_ran es false h) f = tt
    first_done r scope h f = elim f [ ]

    second_done : (r : Placed) (scope : Scope) (h : History) → AllDone in_lanes (branch test first second) scope h → AllAreDone second (with_scope scope (side_in core plan delays test k false r h))
    second_done r scope (branch_ran es true h) f = tt
    second_done r scope (branch_ran es false h) f = (f.2, tt)
    second_done r scope h f = elim f [ ]

  module _ (k n : ℕ) (start : List PlainOp) (state : ℕ) (test : List PlainOp) (body : PlainNode) (next : List PlainOp) where
    turns_are_done : (r : Placed) (scope : Scope) (ts : Turns) (t c : ℕ) → TurnsDone in_lanes test body next scope ts → AllAreDone body (with_scope scope (turns_from core plan delays start test next body k n r t c ts))
    turns_are_done r scope no_turn t c f = tt
    turns_are_done r scope (more_turn es h ns rest) t c f = (f.0.2, turns_are_done r scope rest (suc t) _ f.1)

    body_done : (r : Placed) (scope : Scope) (h : History) → AllDone in_lanes (fsm start state test body next) scope h → AllAreDone body (with_scope scope (body_in core plan delays start test next body k n r h))
    body_done r scope (fsm_ran first ts last) f = turns_are_done r scope ts 0 _ f.1
    body_done r scope h f = elim f [ ]

  module _ (k n : ℕ) (counters : List PlainCounter) (owned : List ℕ) (stages : PlainStages) (s : ℕ) where
    groups_placed : (q : Scoped) (begins : ℕ → ℕ) (loops : List Loop) (g : ℕ) (values : List (List ℤ)) (groups : Groups) → placed (scoped_groups core plan delays counters owned stages k n s q begins loops g values groups) ≡ groups_from core plan delays counters owned stages k n s q.run begins g values groups
    groups_placed q begins loops g [] groups = refl
    groups_placed q begins loops g (v ∷ values) no_group = refl
    groups_placed q begins loops g (v ∷ values) (more_group row rest) =
        placed_both (with_scope (in_group q.scope loops v) (stage_of core plan delays counters owned stages k n s q.run (begins g) g v (stage_history stages row s))) (scoped_groups core plan delays counters owned stages k n s q begins loops (suc g) values rest)
        ∙ ap (λ xs. xs ++ placed (scoped_groups core plan delays counters owned stages k n s q begins loops (suc g) values rest)) (placed_back (in_group q.scope loops v) (stage_of core plan delays counters owned stages k n s q.run (begins g) g v (stage_history stages row s)))
        ∙ ap (λ xs. stage_of core plan delays counters owned stages k n s q.run (begins g) g v (stage_history stages row s) ++ xs) (groups_placed q begins loops (suc g) values rest)

    stage_placed : (q : Scoped) (h : History) → placed (scoped_stage_in core plan delays counters owned stages k n s q h) ≡ stage_in core plan delays counters owned stages k n s q.run h
    stage_placed q (outer_ran bs counts groups) = groups_placed q _ (loops_of in_lanes counters bs) 0 (group_values (loops_of in_lanes counters bs)) groups
    stage_placed q h = refl

    groups_are_done : (q : Scoped) (begins : ℕ → ℕ) (loops : List Loop) (g : ℕ) (values : List (List ℤ)) (groups : Groups) → GroupsDone in_lanes stages q.scope loops values groups → AllAreDone (stage_at stages s) (scoped_groups core plan delays counters owned stages k n s q begins loops g values groups)
    groups_are_done q begins loops g [] groups f = tt
    groups_are_done q begins loops g (v ∷ values) no_group f = elim f [ ]
    groups_are_done q begins loops g (v ∷ values) (more_group row rest) f =
        both_done (stage_at stages s) (with_scope (in_group q.scope loops v) (stage_of core plan delays counters owned stages k n s q.run (begins g) g v (stage_history stages row s))) _ (by (stage_history stages row s) refl f.0) (groups_are_done q begins loops (suc g) values rest f.1)
      where
        by : (o : Option History) → stage_history stages row s ≡ o → RunsDone in_lanes stages (is_live loops v) (in_group q.scope loops v) row → AllAreDone (stage_at stages s) (with_scope (in_group q.scope loops v) (stage_of core plan delays counters owned stages k n s q.run (begins g) g v o))
        by None e f = tt
        by (Some h) e f = (stage_done stages (is_live loops v) (in_group q.scope loops v) row s h f e, tt)

    stage_is_done : (style : Style) (q : Scoped) (h : History) → AllDone in_lanes (outer counters style owned stages) q.scope h → AllAreDone (stage_at stages s) (scoped_stage_in core plan delays counters owned stages k n s q h)
    stage_is_done style q (outer_ran bs counts groups) f = groups_are_done q _ (loops_of in_lanes counters bs) 0 (group_values (loops_of in_lanes counters bs)) groups f.1
    stage_is_done style q h f = elim f [ ]

  pub scoped_parts : ScopedParts core plan delays
  scoped_parts = record {
    sides = λ k test side qs. placed_parts (λ (q : Scoped). with_scope q.scope (side_in core plan delays test k side q.run q.run.history)) (λ r. side_in core plan delays test k side r r.history) (λ q. placed_back q.scope (side_in core plan delays test k side q.run q.run.history)) qs;
    bodies = λ k n start test body next qs. placed_parts (λ (q : Scoped). with_scope q.scope (body_in core plan delays start test next body k n q.run q.run.history)) (λ r. body_in core plan delays start test next body k n r r.history) (λ q. placed_back q.scope (body_in core plan delays start test next body k n q.run q.run.history)) qs;
    stages = λ k n counters owned stages s qs. placed_parts (λ (q : Scoped). scoped_stage_in core plan delays counters owned stages k n s q q.run.history) (λ r. stage_in core plan delays counters owned stages k n s r r.history) (λ q. stage_placed k n counters owned stages s q q.run.history) qs;
    sides_done = λ k test first second qs f. (
      each_done (branch test first second) first (λ (q : Scoped). with_scope q.scope (side_in core plan delays test k true q.run q.run.history)) (λ q g. first_done k test first second q.run q.scope q.run.history g) qs f,
      each_done (branch test first second) second (λ (q : Scoped). with_scope q.scope (side_in core plan delays test k false q.run q.run.history)) (λ q g. second_done k test first second q.run q.scope q.run.history g) qs f,
    );
    bodies_done = λ k n start state test body next qs f. each_done (fsm start state test body next) body (λ (q : Scoped). with_scope q.scope (body_in core plan delays start test next body k n q.run q.run.history)) (λ q g. body_done k n start state test body next q.run q.scope q.run.history g) qs f;
    stages_done = λ k n counters style owned stages s qs f. each_done (outer counters style owned stages) (stage_at stages s) (λ (q : Scoped). scoped_stage_in core plan delays counters owned stages k n s q q.run.history) (λ q g. stage_is_done k n counters owned stages s style q q.run.history g) qs f;
  }

-- lists that go along with one another
zip_length : {A B : Type 0} (P : A → B → Type 0) (xs : List A) (ys : List B) → AllZip P xs ys → length ys ≡ length xs
zip_length P [] [] h = refl
zip_length P [] (y ∷ ys) h = elim h [ ]
zip_length P (x ∷ xs) [] h = elim h [ ]
zip_length P (x ∷ xs) (y ∷ ys) h = ap suc (zip_length P xs ys h.1)

zip_at : {A B : Type 0} (P : A → B → Type 0) (xs : List A) (ys : List B) (a : A) (b : B) (i : ℕ) → AllZip P xs ys → i < length ys → P (slice_index_or xs i a) (slice_index_or ys i b)
zip_at P [] [] a b i h l = absurd (omega (arith, l))
zip_at P [] (y ∷ ys) a b i h l = elim h [ ]
zip_at P (x ∷ xs) [] a b i h l = elim h [ ]
zip_at P (x ∷ xs) (y ∷ ys) a b zero h l = h.0
zip_at P (x ∷ xs) (y ∷ ys) a b (suc i) h l = zip_at P xs ys a b i h.1 (omega (arith, l))

module _ (core : PlainCore) where
  bits_of : (around : Around) (ops : List PlainOp) → are_operations_right core around ops ≡ true → (groups : List (List Entry)) → All (EntriesFit ops) groups → (g : ℕ) → g < length groups → MasksAreBits ops (slice_index_or groups g [])
  bits_of around ops right [] h g l = absurd (omega (arith, l))
  bits_of around ops right (es ∷ groups) h zero l = masks_are_bits core around ops es right (All-head (EntriesFit ops) es groups h)
  bits_of around ops right (es ∷ groups) h (suc g) l = bits_of around ops right groups (All-tail (EntriesFit ops) es groups h) g (omega (arith, l))

  bound_did : (around : Around) (scope : Scope) (ops : List PlainOp) (es : List Entry) → is_bound core around ops ≡ true → AreEntries scope ops es → EntriesFit ops es → DidBound scope ops es
  bound_did around scope ops es right done fits =
      let w = word_list_right core around ops int_type (and_parts (is_word_list core around ops int_type) (list_all (is_early core around) ops) right).0 in
      record { list = record { entries = done; bits = masks_are_bits core around ops es w.0 fits; indices = indices_are_words core around ops es w.0 fits }; fits = last_fits ops es int_type w.1 fits }

  all_bounds : (around : Around) (scope : Scope) (counters : List PlainCounter) (bs : List Bounds) → list_all (is_counter_right core around) counters ≡ true → AllZip (BoundsDone scope) counters bs → AllZip BoundsFit counters bs → DidBounds scope counters bs
  all_bounds around scope [] [] right done fits = tt
  all_bounds around scope [] (b ∷ bs) right done fits = elim done [ ]
  all_bounds around scope (c ∷ counters) [] right done fits = elim done [ ]
  all_bounds around scope (c ∷ counters) (b ∷ bs) right done fits =
      let ok = and_parts (is_counter_right core around c) (list_all (is_counter_right core around) counters) right in
      let two = and_parts (is_bound core around c.from) (is_bound core around c.until) (and_parts (is_bound core around c.from && is_bound core around c.until) ((nat_le 1 c.by && nat_lt c.by (2 ^ 31)) && (nat_le 1 c.par && nat_le c.par 16)) ok.0).0 in
      (bound_did around scope c.from b.from two.0 done.0.0 fits.0.0, bound_did around scope c.until b.until two.1 done.0.1 fits.0.1, all_bounds around scope counters bs ok.1 done.1 fits.1)

  groups_did : (around : Around) (earlier : List ℕ) (counters : List PlainCounter) (owned : List ℕ) (ops : List PlainOp) (comb : Option ℕ) (scope : Scope) (h : History) → IsRight core around earlier (inner counters owned ops comb) → HistoryFits core (inner counters owned ops comb) h
      → AllDone in_lanes (inner counters owned ops comb) scope h → DidGroups scope counters ops h
  groups_did around earlier counters owned ops comb scope (inner_ran bs counts groups) right fits done =
      let p = and_parts (are_counters_right core around counters) (are_operations_right core (within around counters owned) ops) (here_right core around earlier (inner counters owned ops comb) right).0 in
      record {
        bounds = bs;
        counts = counts;
        groups = groups;
        is = refl;
        each = zip_length (BoundsDone scope) counters bs done.0;
        done = record {
          each = zip_length (λ v es. AreEntries (in_group scope (loops_of in_lanes counters bs) v) ops es) (group_values (loops_of in_lanes counters bs)) groups done.1;
          entries = λ g l. zip_at (λ v es. AreEntries (in_group scope (loops_of in_lanes counters bs) v) ops es) (group_values (loops_of in_lanes counters bs)) groups [] [] g done.1 l;
          bits = bits_of (within around counters owned) ops p.1 groups fits.1;
          indices = group_indices core (within around counters owned) ops p.1 groups fits.1;
        };
      }
  groups_did around earlier counters owned ops comb scope h right fits done = elim done [ ]

  spans_did : (around : Around) (scope : Scope) (spans : List PlainSpan) (ts : List Taken) → list_all (is_span_right core around) spans ≡ true → AllZip (SpanDone scope) spans ts → AllZip SpanFits spans ts → DidSpans scope spans ts
  spans_did around scope [] [] right done fits = tt
  spans_did around scope [] (t ∷ ts) right done fits = elim done [ ]
  spans_did around scope (x ∷ spans) [] right done fits = elim done [ ]
  spans_did around scope (single ops ∷ spans) (one es ∷ ts) right done fits =
      let ok = and_parts (is_bound core around ops) (list_all (is_span_right core around) spans) right in
      ((bound_did around scope ops es ok.0 done.0 fits.0).list, spans_did around scope spans ts ok.1 done.1 fits.1)
  spans_did around scope (single ops ∷ spans) (both es fs ∷ ts) right done fits = elim done.0 [ ]
  spans_did around scope (range a b ∷ spans) (one es ∷ ts) right done fits = elim done.0 [ ]
  spans_did around scope (range a b ∷ spans) (both es fs ∷ ts) right done fits =
      let ok = and_parts (is_bound core around a && is_bound core around b) (list_all (is_span_right core around) spans) right in
      let two = and_parts (is_bound core around a) (is_bound core around b) ok.0 in
      ((bound_did around scope a es two.0 done.0.0 fits.0.0).list, (bound_did around scope b fs two.1 done.0.1 fits.0.1).list, spans_did around scope spans ts ok.1 done.1 fits.1)

  pub done_so : (plan : PlainPlan) (delays : Delays) → DoneSo core plan delays
  done_so plan delays = record {
    groups = groups_did;
    bounds = λ around earlier counters owned ops comb scope bs counts gs right fits done.
        let p = and_parts (are_counters_right core around counters) (are_operations_right core (within around counters owned) ops) (here_right core around earlier (inner counters owned ops comb) right).0 in
        all_bounds around scope counters bs (counters_right core around counters p.0) done.0 fits.0;
    loops = λ around earlier counters style owned stages scope bs counts gs right fits done.
        let p = and_parts (are_counters_right core around counters) (are_lanes_right (lanes_of counters) stages) (and_parts (is_node_right core around (outer counters style owned stages)) _ right.0).0 in
        all_bounds around scope counters bs (counters_right core around counters p.0) done.0 fits.0;
    loads = λ around earlier r m spans scope ts ws right fits done. spans_did around scope spans ts (load_right core around r m spans (here_right core around earlier (load r m spans) right).0).spans_right done fits.0;
    stores = λ around earlier r m spans scope ts ws right fits done. spans_did around scope spans ts (store_right core around r m spans (here_right core around earlier (store r m spans) right).0).spans_right done fits.0;
  }
