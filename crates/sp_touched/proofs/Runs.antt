-- In every run each event touches a target of its spot.
use Rattle.std.proofs.Common.{◌≡◌, ℕ, zero, suc, ◌+◌, inl, inr, arith, Bool, true, false, ◌&&◌, ◌||◌, List, [], ◌∷◌, ◌++◌, Option, Some, None, All, refl, sym, ◌∙◌, ap, subst, append_assoc, append-nil}
use Rattle.std.proofs.lemmas.Bool.{and_parts, or_cases}
use Rattle.std.specs.List.{Contains}
use Rattle.std.proofs.lemmas.List.Elements.{All-head, All-tail}
use Rattle.std.specs.Prelude.{length, map, flat_map, ◌==◌, nat_le, nat_lt, ℤ}
use Rattle.sp_words.specs.declared.kind.Style.{Style}
use Rattle.sp_core.specs.declared.node.SparseKind.TheVariants.{Gather, Scatter, WideLoad, WideStore}
use Rattle.sp_core.specs.Around.{Around, lanes_of, within, is_usable}
use Rattle.sp_core.specs.Declarations.{mem, dram, kind_of}
use Rattle.sp_core.specs.Typed.{is_type}
use Rattle.sp_words.specs.Types.{int_type}
use Rattle.sp_words.specs.declared.kind.Kind.TheVariants.{Sram}
use Rattle.sp_core.specs.Events.{before, in_group_of, in_turn, Standing, inside_at, Moment, renews, keeps, list_moments, bounds_moments, renewal_in_body, body_moments, moments, group_moments, stage_moments, turn_moments}
use Rattle.sp_core.specs.History.{Entry, Taken, last_word, History, Runs, Turn, branch_ran, moved, picked, masked_run, more_run, groups_of, turns_of}
use Rattle.sp_core.specs.Invariant.{IsRight, AreRight, owned_in}
use Rattle.sp_core.specs.NodeRules.{are_counters_right, are_lanes_right, is_slice_right, is_sram, is_sram_here, fits_sram, fits_line, is_pick_right, are_places, is_none, is_wide_right, with_state}
use Rattle.sp_core.specs.Numbering.{counters_size, spans_size, node_count, number_count}
use Rattle.sp_core.specs.OperationRules.{are_operations_right, is_bound}
use Rattle.sp_core.specs.Operations.{operations}
use Rattle.sp_core.specs.PlainCore.{PlainOp, PlainCounter, PlainSpan, PlainNode, PlainStages, inner, outer, fsm, branch, load, store, sparse, no_stage, more_stage, PlainCore}
use Rattle.sp_core.specs.Scope.{Reading, Scope, loops_of, group_values, is_live, is_some_live, in_group}
use Rattle.sp_core.specs.Sequential.{renew, renew_in_body, end_of_group, state_now, run, run_stages}
use Rattle.sp_core.specs.Step.{Step, went, pure, ◌>>=◌, ◌>>◌, out_of_turns, in_order, repeated}
use Rattle.sp_core.specs.Store.{Store}
use Rattle.sp_core.proofs.ReplayLists.{append_nil, both_known}
use Rattle.sp_fitting.specs.Fitting.{StoreFits}
use Rattle.sp_fitting.proofs.Rules.{word_list_right, counters_right, load_right, store_right, wide_right, pick_right, no_pick, machine_right, state_there, here_right}
use Rattle.sp_fitting.proofs.Transfers.{alike}
use Rattle.sp_patterns.specs.Ranges.{PlainAround, inside}
use Rattle.sp_forms_hold.specs.RunsLaws.{IsPlaced}
use Rattle.sp_forms_hold.specs.RunsStanding.{ListStands, NodeStands, StagesStand}
use Rattle.sp_forms_hold.proofs.HoldLists.{Known}
use Rattle.sp_forms_hold.proofs.HoldNodes.{placed_at}
use Rattle.sp_meets.specs.Around.{PlainLevel, in_part, changed_in, inner_level, outer_level, once}
use Rattle.sp_meets.specs.Spots.{list_spots, bounds_spots, spans_spots, slice_spot, pick_spot, node_spots, stages_spots, spots}
use Rattle.sp_along.specs.AlongSymbols.{EachIn}
use Rattle.sp_along.proofs.AlongNamed.{plus_assoc}
use Rattle.sp_touched.specs.Touched.{Touches}
use Rattle.sp_touched.proofs.Arounds.{around_counters, around_once}
use Rattle.sp_touched.proofs.Doing.{Holds, bind_holds, pure_holds, no_turn_holds, weaker_holds, after_given, after_known, then_answer, still_then}
use Rattle.sp_touched.proofs.Lists.{IsAround}
use Rattle.sp_touched.proofs.Steps.{AreSpots, left_spots, right_spots, list_holds, Entered, controller_holds, state_now_holds, owner_holds, body_owner_holds, end_holds}
use Rattle.sp_touched.proofs.Transferring.{sram_here, sram_right, line_right, places_kind, sram_loaded, line_loaded, sram_stored, load_holds, store_holds, gather_holds, scatter_holds}

last_one : {A : Type 0} (x : A) → Contains (x ∷ []) x
last_one x = (0, omega arith, refl)

three : (n a b c : ℕ) → ((n + a) + b) + c ≡ n + (a + (b + c))
three n a b c = omega arith

module _ (core : PlainCore) (known : Known core) (reading : Reading) (most : ℕ) where
  -- the groups of an inner body
  module _ (outside : Around) (around : PlainAround) (counters : List PlainCounter) (owned : List ℕ) (ops : List PlainOp) (right : are_operations_right core (within outside counters owned) ops ≡ true) (scope : List ℤ → Scope) (k n : ℕ) (st : Standing) (stands : ListStands core n (inside core.mems around counters) ops)
      (path : List PlainLevel) (is_around : IsAround path (inside core.mems around counters)) (spotted : AreSpots core (list_spots path n ops)) where
    abbrev Placed : List ℤ → Type 0
    Placed v = IsPlaced (scope v) (inside core.mems around counters) (st.counters ++ v)

    abbrev group_at : ℕ → List ℤ → List Entry → List Moment
    group_at g v es = flat_map (renewal_in_body core) owned ++ list_moments n (inside_at st k (in_group_of g 0) v) ops es

    group_holds : (g : ℕ) (v : List ℤ) → Placed v → Holds core (λ es ms. ms ≡ group_at g v es) (in_order (renew_in_body core reading most) owned >> operations core (scope v) ops)
    group_holds g v placed =
        after_known core _ _ (λ _. flat_map (renewal_in_body core) owned) _ (body_owner_holds core known reading most owned)
        (λ _. weaker_holds core _ _ _ (λ es ms e. ap (λ x. flat_map (renewal_in_body core) owned ++ x) e) (list_holds core known (within outside counters owned) (inside core.mems around counters) (scope v) (inside_at st k (in_group_of g 0) v) placed path is_around n ops right stands spotted))

    body_holds : (g : ℕ) (values : List (List ℤ)) → All Placed values → Holds core (λ groups ms. ms ≡ body_moments core reading k n g st owned ops values groups) (in_order (λ v. in_order (renew_in_body core reading most) owned >> operations core (scope v) ops) values)
    unfolding in_order
    body_holds g [] h = pure_holds core _ _ refl
    body_holds g (v ∷ values) h =
        after_known core _ _ (group_at g v) _ (group_holds g v (All-head Placed v values h))
        (λ es. then_answer core _ _ _ _ (body_holds (suc g) values (All-tail Placed v values h)) (λ groups ms e. ap (λ x. group_at g v es ++ x) e))

  -- the groups of an outer, whose stages hold
  groups_hold : (stages : PlainStages) (k n : ℕ) (st : Standing) (style : Style) (owned : List ℕ) (live : List ℤ → ℕ → Bool) (scope : List ℤ → Scope) (Placed : List ℤ → Type 0)
      → ((g : ℕ) (v : List ℤ) → Placed v → Holds core (λ runs ms. ms ≡ stage_moments core reading stages k n 0 g (suc k) v st runs) (run_stages core reading most stages (live v) (scope v)))
      → (g : ℕ) (values : List (List ℤ)) → All Placed values → Holds core (λ groups ms. ms ≡ group_moments core reading stages k n g st owned values (groups_of groups))
      (in_order (λ v. in_order (renew core reading most) owned >> (run_stages core reading most stages (live v) (scope v) >>= (λ runs. end_of_group core reading most style owned >> pure runs))) values)
  unfolding in_order group_moments
  groups_hold stages k n st style owned live scope Placed h g [] all = pure_holds core _ _ refl
  groups_hold stages k n st style owned live scope Placed h g (v ∷ values) all =
      after_known core _ _ (λ runs. map renews owned ++ stage_moments core reading stages k n 0 g (suc k) v st runs) _
      (after_known core _ _ (λ _. map renews owned) _ (owner_holds core known reading most owned) (λ _.
      bind_holds core _ _ _ _ (h g v (All-head Placed v values all)) (λ runs ms e. still_then core _ _ _ (end_holds core known reading most style owned) (λ _. pure_holds core _ _ (ap (λ x. map renews owned ++ x) (append_nil ms ∙ e))))))
      (λ runs. then_answer core _ _ _ _ (groups_hold stages k n st style owned live scope Placed h (suc g) values (All-tail Placed v values all)) (λ groups ms e. ap (λ x. (map renews owned ++ stage_moments core reading stages k n 0 g (suc k) v st runs) ++ x) e))

  -- the turns of an FSM, whose lists and body hold
  module _ (start : List PlainOp) (state : ℕ) (test : List PlainOp) (body : PlainNode) (next : List PlainOp) (k n : ℕ) (st : Standing) (scope : Scope)
      (tests : (t : ℕ) → Holds core (λ es ms. ms ≡ list_moments (n + length start) (inside_at st k (in_turn t) []) test es) (operations core scope test))
      (bodies : (t : ℕ) → Holds core (λ h ms. ms ≡ moments core reading body (suc k) (n + (length start + length test)) (inside_at st k (in_turn t) []) h) (run core reading most body scope))
      (nexts : (t : ℕ) → Holds core (λ es ms. ms ≡ list_moments (n + (length start + (length test + number_count body))) (inside_at st k (in_turn t) []) next es ++ keeps state (last_word es) ∷ []) (state_now core reading most scope state next)) where
    abbrev turn_step : List Entry → Step Turn
    turn_step tested = run core reading most body scope >>= (λ h. state_now core reading most scope state next >>= (λ es. pure (record { test = tested; body = h; next = es })))

    abbrev tested_at : ℕ → List Entry → List Moment
    tested_at t es = list_moments (n + length start) (inside_at st k (in_turn t) []) test es

    abbrev turn_at : ℕ → Turn → List Moment
    turn_at t r = moments core reading body (suc k) (n + (length start + length test)) (inside_at st k (in_turn t) []) r.body
        ++ (list_moments (n + (length start + (length test + number_count body))) (inside_at st k (in_turn t) []) next r.next ++ keeps state (last_word r.next) ∷ [])

    abbrev AreAll : ℕ → List Turn × List Entry → List Moment → Type 0
    AreAll t r ms = ms ≡ turn_moments core reading start state test body next k n t st (turns_of r.0) r.1

    one_turn : (t : ℕ) (tested : List Entry) → Holds core (λ r ms. (r.test ≡ tested) × (ms ≡ turn_at t r)) (turn_step tested)
    one_turn t tested = after_known core _ _ _ _ (bodies t) (λ b. then_answer core _ _ _ _ (nexts t) (λ es ms e.
        (refl, ap (λ x. moments core reading body (suc k) (n + (length start + length test)) (inside_at st k (in_turn t) []) b ++ x) e)))

    ended_at : (t : ℕ) (es : List Entry) → Holds core (λ r ms. AreAll t r (tested_at t es ++ ms)) (pure ([], es))
    unfolding turn_moments
    ended_at t es = pure_holds core _ _ (append_nil _)

    -- a test and its turn come before those after them
    in_turns : (t : ℕ) (es : List Entry) (first : Turn) (ms ns rest : List Moment) → first.test ≡ es → ms ≡ turn_at t first → ns ≡ rest → tested_at t es ++ (ms ++ ns) ≡ (tested_at t first.test ++ turn_at t first) ++ rest
    in_turns t es first ms ns rest e f g = both_known (ap (tested_at t) (sym e)) (both_known f g) ∙ sym (append_assoc (tested_at t first.test) (turn_at t first) rest)

    choose_last : (t : ℕ) (es : List Entry) (b : Bool) → Holds core (λ r ms. AreAll t r (tested_at t es ++ ms)) (elim b [ true ↦ out_of_turns | false ↦ pure ([], es) ])
    choose_last t es true = no_turn_holds core _
    choose_last t es false = ended_at t es

    abbrev Repeated : ℕ → Step (List Turn × List Entry)
    Repeated many = repeated many (operations core scope test) (λ es. last_word es == 1) turn_step

    module _ (many : ℕ) (t : ℕ) (others : Holds core (AreAll (suc t)) (Repeated many)) where
      choose : (es : List Entry) (b : Bool) → Holds core (λ r ms. AreAll t r (tested_at t es ++ ms)) (elim b [ true ↦ turn_step es >>= (λ first. Repeated many >>= (λ r. pure (first ∷ r.0, r.1))) | false ↦ pure ([], es) ])
      unfolding turn_moments
      choose es true = bind_holds core _ _ _ _ (one_turn t es) (λ first ms p. then_answer core _ _ _ _ others (λ r ns e. in_turns t es first ms ns _ p.0 p.1 e))
      choose es false = ended_at t es

    turns_hold : (many t : ℕ) → Holds core (AreAll t) (Repeated many)
    unfolding repeated
    turns_hold zero t = after_known core _ _ (tested_at t) _ (tests t) (λ es. choose_last t es (last_word es == 1))
    turns_hold (suc many) t = after_known core _ _ (tested_at t) _ (tests t) (λ es. choose many t (turns_hold many (suc t)) es (last_word es == 1))

  -- a branch, by which of its blocks was taken
  module _ (test : List PlainOp) (first second : PlainNode) (k n : ℕ) (st : Standing) (es : List Entry) where
    abbrev Taken_block : Bool → History → List Moment → Type 0
    Taken_block b h ms = list_moments n (inside_at st k (in_turn 0) []) test es ++ ms ≡ moments core reading (branch test first second) k n st (branch_ran es b h)

    block_holds : (one two : Step History)
        → Holds core (λ h ms. ms ≡ moments core reading first (suc k) (n + length test) (inside_at st k (in_turn 0) []) h) one
        → Holds core (λ h ms. ms ≡ moments core reading second (suc k + node_count first) (n + (length test + number_count first)) (inside_at st k (in_turn 0) []) h) two
        → (b : Bool) → Holds core (Taken_block b) (elim b [ true ↦ one | false ↦ two ])
    unfolding moments
    block_holds one two f g true = weaker_holds core _ _ _ (λ h ms e. ap (λ x. list_moments n (inside_at st k (in_turn 0) []) test es ++ x) e) f
    block_holds one two f g false = weaker_holds core _ _ _ (λ h ms e. ap (λ x. list_moments n (inside_at st k (in_turn 0) []) test es ++ x) e) g

  -- the history of a transfer is put in
  put_in : (f : History → List Moment) (h : History) (ts : List Taken) (ws : List ℕ) (ms : List Moment) → h ≡ moved ts ws → ms ≡ f (moved ts ws) → ms ≡ f h
  put_in f h ts ws ms e p = p ∙ ap f (sym e)

  put_picked : (f : History → List Moment) (h : History) (es : List Entry) (ws : List (ℕ × ℕ)) (ms : List Moment) → h ≡ picked es ws → ms ≡ f (picked es ws) → ms ≡ f h
  put_picked f h es ws ms e p = p ∙ ap f (sym e)

  -- a stage is run, or all its lanes are masked
  stage_holds : (node : PlainNode) (rest : PlainStages) (first last : ℕ) (comb : Bool) (k n s g j : ℕ) (v : List ℤ) (st : Standing) (one : Step History) (others : Step Runs)
      → Holds core (λ h ms. ms ≡ moments core reading node j n (inside_at st k (in_group_of g s) v) h) one
      → Holds core (λ runs ms. ms ≡ stage_moments core reading rest k (n + number_count node) (suc s) g (j + node_count node) v st runs) others
      → (b : Bool) → Holds core (λ runs ms. ms ≡ stage_moments core reading (more_stage first last comb node rest) k n s g j v st runs)
      (elim b [ true ↦ one >>= (λ h. others >>= (λ runs. pure (more_run h runs))) | false ↦ others >>= (λ runs. pure (masked_run runs)) ])
  unfolding stage_moments
  stage_holds node rest first last comb k n s g j v st one others f h true =
      after_known core _ _ _ _ f (λ a. then_answer core _ _ _ _ h (λ runs ms e. ap (λ x. moments core reading node j n (inside_at st k (in_group_of g s) v) a ++ x) e))
  stage_holds node rest first last comb k n s g j v st one others f h false = then_answer core _ _ _ _ h (λ runs ms e. e)

  -- what the rules say of a slice and of a count
  wide_parts : (outside : Around) (r m : ℕ) (index : Option ℕ) (spans : List PlainSpan) (count : List PlainOp) (par : ℕ) → is_wide_right core outside r m index spans count par ≡ true → (is_slice_right core outside r spans ≡ true) × (fits_sram core outside r m spans ≡ true)
  wide_parts outside r m index spans count par e =
      and_parts (is_slice_right core outside r spans) (fits_sram core outside r m spans) (and_parts (is_slice_right core outside r spans && fits_sram core outside r m spans) ((is_none core outside index && (length count == 0)) && (nat_le 1 par && nat_le par 16)) e).0

  pick_kinds : (outside : Around) (r m p : ℕ) (spans : List PlainSpan) (count : List PlainOp) (par : ℕ) → is_pick_right core outside r m (Some p) spans count par ≡ true → (kind_of core m ≡ Sram) × (kind_of core p ≡ Sram)
  pick_kinds outside r m p spans count par e =
      let a = and_parts ((nat_lt r (length core.ports.drams) && (length (dram core r).dims == 1)) && (is_sram_here core outside r m && (length (mem core m).dims == 1))) ((are_places core outside (Some p) && is_bound core outside count) && ((length spans == 0) && (par == 1))) e in
      let b = and_parts (nat_lt r (length core.ports.drams) && (length (dram core r).dims == 1)) (is_sram_here core outside r m && (length (mem core m).dims == 1)) a.0 in
      let c = and_parts (is_sram_here core outside r m) (length (mem core m).dims == 1) b.1 in
      let d = and_parts (are_places core outside (Some p) && is_bound core outside count) ((length spans == 0) && (par == 1)) a.1 in
      let f = and_parts (are_places core outside (Some p)) (is_bound core outside count) d.0 in
      let g = and_parts (is_usable core outside p && is_sram (mem core p).kind) (is_type (mem core p).ty int_type && (length (mem core p).dims == 1)) f.0 in
      ((sram_here core outside r m c.0).0, places_kind core outside p g.0)

  -- the spot of a transfer, by its number
  pick_there : (path : List PlainLevel) (loads : Bool) (r m q a b : ℕ) → a ≡ b → AreSpots core (pick_spot core path a loads r m (Some q) ∷ []) → Contains (spots core) (pick_spot core path b loads r m (Some q))
  pick_there path loads r m q a b e h = subst (λ j. Contains (spots core) (pick_spot core path j loads r m (Some q))) e (h (pick_spot core path a loads r m (Some q)) (last_one (pick_spot core path a loads r m (Some q))))

  slice_there : (path : List PlainLevel) (loads : Bool) (r m : ℕ) (spans : List PlainSpan) (a b : ℕ) → a ≡ b → AreSpots core (slice_spot core path a loads r m spans ∷ []) → Contains (spots core) (slice_spot core path b loads r m spans)
  slice_there path loads r m spans a b e h = subst (λ j. Contains (spots core) (slice_spot core path j loads r m spans)) e (h (slice_spot core path a loads r m spans) (last_one (slice_spot core path a loads r m spans)))

  count_right : (outside : Around) (r m : ℕ) (index : Option ℕ) (spans : List PlainSpan) (count : List PlainOp) (par : ℕ) → is_pick_right core outside r m index spans count par ≡ true → is_bound core outside count ≡ true
  count_right outside r m index spans count par e =
      let a = and_parts _ ((are_places core outside index && is_bound core outside count) && ((length spans == 0) && (par == 1))) e in
      let b = and_parts (are_places core outside index && is_bound core outside count) ((length spans == 0) && (par == 1)) a.1 in
      (and_parts (are_places core outside index) (is_bound core outside count) b.0).1

  mutual
    unfolding run run_stages moments

    pub run_holds : (node : PlainNode) (outside : Around) (earlier : List ℕ) (around : PlainAround) (k n : ℕ) (st : Standing) (scope : Scope) (path : List PlainLevel) → IsRight core outside earlier node → NodeStands core n around node → IsPlaced scope around st.counters → IsAround path around → AreSpots core (node_spots core path around.places n node)
        → Holds core (λ h ms. ms ≡ moments core reading node k n st h) (run core reading most node scope)
    run_holds (inner counters owned ops comb) outside earlier around k n st scope path right stands placed is_around spotted =
        let a = and_parts (are_counters_right core outside counters) (are_operations_right core (within outside counters owned) ops) (here_right core outside earlier (inner counters owned ops comb) right).0 in
        let p = known.parts.inner_body n around counters owned ops comb stands in
        let level = inner_level core.mems around.places counters (changed_in (inner counters owned ops comb)) in
        let outer_spots = bounds_spots path n counters in
        let inner_spots = list_spots (path ++ level ∷ []) (n + counters_size counters) ops in
        let st_before = inside_at st k before [] in
        after_given core _ _ (λ bs. bounds_moments n st_before counters bs) (λ bs. Entered core known outside around scope st_before (placed_at scope around st k before placed) path is_around reading most counters bs) _
        (controller_holds core known outside around scope st_before (placed_at scope around st k before placed) path is_around reading most n counters (counters_right core outside counters a.0) p.0 (left_spots core outer_spots inner_spots spotted)) (λ bs entered.
        then_answer core _ _ _ _ (body_holds outside around counters owned ops a.1 (λ v. in_group scope (loops_of reading counters bs) v) k (n + counters_size counters) st p.1 (path ++ level ∷ []) (around_counters core outside path around level counters is_around refl (counters_right core outside counters a.0)) (right_spots core outer_spots inner_spots spotted) 0 (group_values (loops_of reading counters bs))
        (subst (λ cs. All (λ v. IsPlaced (in_group scope (loops_of reading counters bs) v) (inside core.mems around counters) (cs ++ v)) (group_values (loops_of reading counters bs))) (append-nil st.counters) entered))
        (λ groups ms e. ap (λ x. bounds_moments n st_before counters bs ++ x) e))
    run_holds (outer counters style owned stages) outside earlier around k n st scope path right stands placed is_around spotted =
        let a = and_parts (are_counters_right core outside counters) (are_lanes_right (lanes_of counters) stages) (here_right core outside earlier (outer counters style owned stages) right.0).0 in
        let p = known.parts.outer_body n around counters style owned stages stands in
        let level = outer_level core.mems around.places counters style owned (changed_in (outer counters style owned stages)) in
        let outer_spots = bounds_spots path n counters in
        let inner_spots = stages_spots core path level (inside core.mems around counters).places 0 (n + counters_size counters) stages in
        let st_before = inside_at st k before [] in
        after_given core _ _ (λ bs. bounds_moments n st_before counters bs) (λ bs. Entered core known outside around scope st_before (placed_at scope around st k before placed) path is_around reading most counters bs) _
        (controller_holds core known outside around scope st_before (placed_at scope around st k before placed) path is_around reading most n counters (counters_right core outside counters a.0) p.0 (left_spots core outer_spots inner_spots spotted)) (λ bs entered.
        then_answer core _ _ _ _ (groups_hold stages k (n + counters_size counters) st style owned (λ v. is_live (loops_of reading counters bs) v) (λ v. in_group scope (loops_of reading counters bs) v)
        (λ v. IsPlaced (in_group scope (loops_of reading counters bs) v) (inside core.mems around counters) (st.counters ++ v))
        (λ g v here. stages_hold stages (within outside counters owned) (earlier ++ owned) (inside core.mems around counters) k (n + counters_size counters) 0 g (suc k) v st (is_live (loops_of reading counters bs) v) (in_group scope (loops_of reading counters bs) v) path level (λ s. around_counters core outside path around (in_part s level) counters is_around refl (counters_right core outside counters a.0)) right.1 p.1 here (right_spots core outer_spots inner_spots spotted))
        0 (group_values (loops_of reading counters bs))
        (subst (λ cs. All (λ v. IsPlaced (in_group scope (loops_of reading counters bs) v) (inside core.mems around counters) (cs ++ v)) (group_values (loops_of reading counters bs))) (append-nil st.counters) entered))
        (λ groups ms e. ap (λ x. bounds_moments n st_before counters bs ++ x) e))
    run_holds (fsm start state test body next) outside earlier around k n st scope path right stands placed is_around spotted =
        let a = here_right core outside earlier (fsm start state test body next) right.0 in
        let m = machine_right core outside start state test body next a.0 in
        let there = state_there core outside earlier state a.1 in
        let p = known.parts.machine n around start state test body next stands in
        let changed = changed_in (fsm start state test body next) in
        let starts = list_spots path n start in
        let tests = list_spots (path ++ once changed ∷ []) (n + length start) test in
        let bodies = node_spots core (path ++ in_part 1 (once changed) ∷ []) around.places ((n + length start) + length test) body in
        let nexts = list_spots (path ++ in_part 2 (once changed) ∷ []) (((n + length start) + length test) + number_count body) next in
        let front = left_spots core (starts ++ tests) (bodies ++ nexts) spotted in
        let back = right_spots core (starts ++ tests) (bodies ++ nexts) spotted in
        after_known core _ _ (λ first. list_moments n (inside_at st k before []) start first ++ keeps state (last_word first) ∷ []) _
        (state_now_holds core known outside around scope (inside_at st k before []) (placed_at scope around st k before placed) path is_around reading most n state start there m.start_right p.0.0 (left_spots core starts tests front)) (λ first.
        then_answer core _ _ _ _ (turns_hold start state test body next k n st scope
        (λ t. list_holds core known (with_state core outside state) around scope (inside_at st k (in_turn t) []) (placed_at scope around st k (in_turn t) placed) (path ++ once changed ∷ []) (around_once path around (once changed) is_around refl) (n + length start) test m.test_right p.0.1 (right_spots core starts tests front))
        (λ t. run_holds body (with_state core outside state) (earlier ++ state ∷ []) around (suc k) (n + (length start + length test)) (inside_at st k (in_turn t) []) scope (path ++ in_part 1 (once changed) ∷ []) right.1 p.1.0 (placed_at scope around st k (in_turn t) placed) (around_once path around (in_part 1 (once changed)) is_around refl)
        (subst (λ j. AreSpots core (node_spots core (path ++ in_part 1 (once changed) ∷ []) around.places j body)) (sym (plus_assoc n (length start) (length test))) (left_spots core bodies nexts back)))
        (λ t. state_now_holds core known (with_state core outside state) around scope (inside_at st k (in_turn t) []) (placed_at scope around st k (in_turn t) placed) (path ++ in_part 2 (once changed) ∷ []) (around_once path around (in_part 2 (once changed)) is_around refl) reading most (n + (length start + (length test + number_count body))) state next there m.next_right p.1.1
        (subst (λ j. AreSpots core (list_spots (path ++ in_part 2 (once changed) ∷ []) j next)) (three n (length start) (length test) (number_count body)) (right_spots core bodies nexts back))) most 0)
        (λ r ms e. ap (λ x. (list_moments n (inside_at st k before []) start first ++ keeps state (last_word first) ∷ []) ++ x) e))
    run_holds (branch test first second) outside earlier around k n st scope path right stands placed is_around spotted =
        let p = known.parts.blocks n around test first second stands in
        let here = placed_at scope around st k (in_turn 0) placed in
        let changed = changed_in (branch test first second) in
        let tests = list_spots (path ++ once changed ∷ []) n test in
        let firsts = node_spots core (path ++ in_part 1 (once changed) ∷ []) around.places (n + length test) first in
        let seconds = node_spots core (path ++ in_part 2 (once changed) ∷ []) around.places ((n + length test) + number_count first) second in
        let back = right_spots core tests (firsts ++ seconds) spotted in
        after_known core _ _ (λ es. list_moments n (inside_at st k (in_turn 0) []) test es) _
        (list_holds core known outside around scope (inside_at st k (in_turn 0) []) here (path ++ once changed ∷ []) (around_once path around (once changed) is_around refl) n test (word_list_right core outside test _ (here_right core outside earlier (branch test first second) right.0).0).0 p.0 (left_spots core tests (firsts ++ seconds) spotted)) (λ es.
        then_answer core _ _ _ _ (block_holds test first second k n st es _ _
        (run_holds first outside earlier around (suc k) (n + length test) (inside_at st k (in_turn 0) []) scope (path ++ in_part 1 (once changed) ∷ []) right.1 p.1.0 here (around_once path around (in_part 1 (once changed)) is_around refl) (left_spots core firsts seconds back))
        (run_holds second outside (earlier ++ owned_in first) around (suc k + node_count first) (n + (length test + number_count first)) (inside_at st k (in_turn 0) []) scope (path ++ in_part 2 (once changed) ∷ []) right.2 p.1.1 here (around_once path around (in_part 2 (once changed)) is_around refl)
        (subst (λ j. AreSpots core (node_spots core (path ++ in_part 2 (once changed) ∷ []) around.places j second)) (sym (plus_assoc n (length test) (number_count first))) (right_spots core firsts seconds back))) (last_word es == 1))
        (λ h ms e. e))
    run_holds (load r m spans) outside earlier around k n st scope path right stands placed is_around spotted =
        let e = (here_right core outside earlier (load r m spans) right).0 in
        let f = and_parts (is_slice_right core outside r spans) (fits_sram core outside r m spans || fits_line core outside r m spans) e in
        let p = known.parts.loaded n around r m spans stands in
        let at = n + spans_size spans in
        let spot = slice_spot core path at true r m spans in
        let firsts = left_spots core (spans_spots path n spans) (spot ∷ []) spotted in
        let has = right_spots core (spans_spots path n spans) (spot ∷ []) spotted spot (last_one spot) in
        let between = load_right core outside r m spans e in
        weaker_holds core _ _ _ (λ h ms d. put_in (moments core reading (load r m spans) k n st) h d.0 d.1 ms d.2 d.3)
        (load_holds core known outside around scope st placed path is_around reading most r m spans n at f.0 between p.0 p.1 firsts (elim (or_cases (fits_sram core outside r m spans) (fits_line core outside r m spans) f.1) [
          | inl s ↦ sram_loaded core known outside around scope st placed path is_around reading most r m spans n at f.0 between p.0 p.1 firsts has (sram_right core outside r m spans s)
          | inr l ↦ line_loaded core known outside around scope st placed path is_around reading most r m spans n at f.0 between p.0 p.1 firsts has (line_right core outside r m spans l)
        ]))
    run_holds (store r m spans) outside earlier around k n st scope path right stands placed is_around spotted =
        let e = (here_right core outside earlier (store r m spans) right).0 in
        let f = and_parts (is_slice_right core outside r spans) (fits_sram core outside r m spans) e in
        let p = known.parts.stored n around r m spans stands in
        let at = n + spans_size spans in
        let spot = slice_spot core path at false r m spans in
        let firsts = left_spots core (spans_spots path n spans) (spot ∷ []) spotted in
        let has = right_spots core (spans_spots path n spans) (spot ∷ []) spotted spot (last_one spot) in
        let between = store_right core outside r m spans e in
        weaker_holds core _ _ _ (λ h ms d. put_in (moments core reading (store r m spans) k n st) h d.0 d.1 ms d.2 d.3)
        (store_holds core known outside around scope st placed path is_around reading most r m spans n at f.0 between p.0 p.1 firsts
        (sram_stored core known outside around scope st placed path is_around reading most r m spans n at f.0 between p.0 p.1 firsts has (sram_right core outside r m spans f.1)))
    run_holds (sparse Gather r m (Some q) spans count par) outside earlier around k n st scope path right stands placed is_around spotted =
        let e = (here_right core outside earlier (sparse Gather r m (Some q) spans count par) right).0 in
        let g = pick_right core outside r m q spans count par e in
        let kinds = pick_kinds outside r m q spans count par e in
        let p = known.parts.sparsely n around Gather r m (Some q) spans count par stands in
        let at = n + (spans_size spans + length count) in
        let counts = list_spots path (n + spans_size spans) count in
        let later = right_spots core (spans_spots path n spans) (counts ++ pick_spot core path ((n + spans_size spans) + length count) true r m (Some q) ∷ []) spotted in
        let has = pick_there path true r m q ((n + spans_size spans) + length count) at (sym (plus_assoc n (spans_size spans) (length count))) (right_spots core counts (pick_spot core path ((n + spans_size spans) + length count) true r m (Some q) ∷ []) later) in
        weaker_holds core _ _ _ (λ h ms d. put_picked (moments core reading (sparse Gather r m (Some q) spans count par) k n st) h d.0 d.1 ms d.2 d.3)
        (gather_holds core known outside around scope st placed path is_around r m q (alike core r m g.memory.there g.memory.same) count (n + spans_size spans) at (count_right outside r m (Some q) spans count par e) p.1.0 p.1.1
        (left_spots core counts (pick_spot core path ((n + spans_size spans) + length count) true r m (Some q) ∷ []) later) kinds.0 kinds.1 has)
    run_holds (sparse Scatter r m (Some q) spans count par) outside earlier around k n st scope path right stands placed is_around spotted =
        let e = (here_right core outside earlier (sparse Scatter r m (Some q) spans count par) right).0 in
        let g = pick_right core outside r m q spans count par e in
        let kinds = pick_kinds outside r m q spans count par e in
        let p = known.parts.sparsely n around Scatter r m (Some q) spans count par stands in
        let at = n + (spans_size spans + length count) in
        let counts = list_spots path (n + spans_size spans) count in
        let later = right_spots core (spans_spots path n spans) (counts ++ pick_spot core path ((n + spans_size spans) + length count) false r m (Some q) ∷ []) spotted in
        let has = pick_there path false r m q ((n + spans_size spans) + length count) at (sym (plus_assoc n (spans_size spans) (length count))) (right_spots core counts (pick_spot core path ((n + spans_size spans) + length count) false r m (Some q) ∷ []) later) in
        weaker_holds core _ _ _ (λ h ms d. put_picked (moments core reading (sparse Scatter r m (Some q) spans count par) k n st) h d.0 d.1 ms d.2 d.3)
        (scatter_holds core known outside around scope st placed path is_around r m q (alike core r m g.memory.there g.memory.same) count (n + spans_size spans) at (count_right outside r m (Some q) spans count par e) p.1.0 p.1.1
        (left_spots core counts (pick_spot core path ((n + spans_size spans) + length count) false r m (Some q) ∷ []) later) kinds.0 kinds.1 has)
    run_holds (sparse Gather r m None spans count par) outside earlier around k n st scope path right stands placed is_around spotted = absurd (no_pick core outside r m spans count par (here_right core outside earlier (sparse Gather r m None spans count par) right).0)
    run_holds (sparse Scatter r m None spans count par) outside earlier around k n st scope path right stands placed is_around spotted = absurd (no_pick core outside r m spans count par (here_right core outside earlier (sparse Scatter r m None spans count par) right).0)
    run_holds (sparse WideLoad r m index spans count par) outside earlier around k n st scope path right stands placed is_around spotted =
        let e = (here_right core outside earlier (sparse WideLoad r m index spans count par) right).0 in
        let f = wide_parts outside r m index spans count par e in
        let p = known.parts.sparsely n around WideLoad r m index spans count par stands in
        let at = n + (spans_size spans + length count) in
        let counts = list_spots path (n + spans_size spans) count in
        let firsts = left_spots core (spans_spots path n spans) (counts ++ slice_spot core path ((n + spans_size spans) + length count) true r m spans ∷ []) spotted in
        let has = slice_there path true r m spans ((n + spans_size spans) + length count) at (sym (plus_assoc n (spans_size spans) (length count)))
        (right_spots core counts (slice_spot core path ((n + spans_size spans) + length count) true r m spans ∷ []) (right_spots core (spans_spots path n spans) (counts ++ slice_spot core path ((n + spans_size spans) + length count) true r m spans ∷ []) spotted)) in
        let between = wide_right core outside r m index spans count par e in
        weaker_holds core _ _ _ (λ h ms d. put_in (moments core reading (sparse WideLoad r m index spans count par) k n st) h d.0 d.1 ms d.2 d.3)
        (load_holds core known outside around scope st placed path is_around reading most r m spans n at f.0 between p.0 p.1.1 firsts
        (sram_loaded core known outside around scope st placed path is_around reading most r m spans n at f.0 between p.0 p.1.1 firsts has (sram_right core outside r m spans f.1)))
    run_holds (sparse WideStore r m index spans count par) outside earlier around k n st scope path right stands placed is_around spotted =
        let e = (here_right core outside earlier (sparse WideStore r m index spans count par) right).0 in
        let f = wide_parts outside r m index spans count par e in
        let p = known.parts.sparsely n around WideStore r m index spans count par stands in
        let at = n + (spans_size spans + length count) in
        let counts = list_spots path (n + spans_size spans) count in
        let firsts = left_spots core (spans_spots path n spans) (counts ++ slice_spot core path ((n + spans_size spans) + length count) false r m spans ∷ []) spotted in
        let has = slice_there path false r m spans ((n + spans_size spans) + length count) at (sym (plus_assoc n (spans_size spans) (length count)))
        (right_spots core counts (slice_spot core path ((n + spans_size spans) + length count) false r m spans ∷ []) (right_spots core (spans_spots path n spans) (counts ++ slice_spot core path ((n + spans_size spans) + length count) false r m spans ∷ []) spotted)) in
        let between = wide_right core outside r m index spans count par e in
        weaker_holds core _ _ _ (λ h ms d. put_in (moments core reading (sparse WideStore r m index spans count par) k n st) h d.0 d.1 ms d.2 d.3)
        (store_holds core known outside around scope st placed path is_around reading most r m spans n at f.0 between p.0 p.1.1 firsts
        (sram_stored core known outside around scope st placed path is_around reading most r m spans n at f.0 between p.0 p.1.1 firsts has (sram_right core outside r m spans f.1)))

    pub stages_hold : (stages : PlainStages) (outside : Around) (earlier : List ℕ) (around : PlainAround) (k n s g j : ℕ) (v : List ℤ) (st : Standing) (live : ℕ → Bool) (scope : Scope) (path : List PlainLevel) (level : PlainLevel) (is_around : (i : ℕ) → IsAround (path ++ in_part i level ∷ []) around) → AreRight core outside earlier stages → StagesStand core n around stages → IsPlaced scope around (st.counters ++ v) → AreSpots core (stages_spots core path level around.places s n stages)
        → Holds core (λ runs ms. ms ≡ stage_moments core reading stages k n s g j v st runs) (run_stages core reading most stages live scope)
    stages_hold no_stage outside earlier around k n s g j v st live scope path level is_around right stands placed spotted = pure_holds core _ _ refl
    stages_hold (more_stage first last comb node rest) outside earlier around k n s g j v st live scope path level is_around right stands placed spotted =
        let here = node_spots core (path ++ in_part s level ∷ []) around.places n node in
        let later = stages_spots core path level around.places (suc s) (n + number_count node) rest in
        let p = known.parts.stages n around first last comb node rest stands in
        stage_holds node rest first last comb k n s g j v st _ _ (run_holds node outside earlier around j n (inside_at st k (in_group_of g s) v) scope (path ++ in_part s level ∷ []) right.0 p.0 placed (is_around s) (left_spots core here later spotted))
        (stages_hold rest outside (earlier ++ owned_in node) around k (n + number_count node) (suc s) g (j + node_count node) v st live scope path level is_around right.1 p.1 placed (right_spots core here later spotted)) (is_some_live live first last)

  pub node_holds : (node : PlainNode) (outside : Around) (earlier : List ℕ) (around : PlainAround) (k n : ℕ) (st : Standing) (scope : Scope) (path : List PlainLevel) (s t : Store) (h : History) → IsRight core outside earlier node → NodeStands core n around node → IsPlaced scope around st.counters
      → IsAround path around → AreSpots core (node_spots core path around.places n node) → StoreFits core s → run core reading most node scope s ≡ went h t → EachIn core (Touches core) s (moments core reading node k n st h)
  node_holds node outside earlier around k n st scope path s t h right stands placed is_around spotted fits e =
      let d = run_holds node outside earlier around k n st scope path right stands placed is_around spotted s t h fits e in
      subst (λ ms. EachIn core (Touches core) s ms) d.1 d.2.hold
