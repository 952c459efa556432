-- What each run in lanes of a core reads and writes is inside.
use Rattle.std.proofs.Common.{◌≡◌, ℕ, suc, ◌+◌, ◌⊎◌, Bool, true, false, ℤ, List, [], ◌∷◌, ◌++◌, map, length, sym, subst}
use Rattle.std.proofs.lemmas.Bool.{and_parts, true≢false}
use Rattle.std.specs.Prelude.{◌==◌, flat_map}
use Rattle.sp_core.specs.Around.{Around, nothing, within}
use Rattle.sp_core.specs.Events.{Standing, inside_at, before, in_group_of, in_turn, Moment, touches, slices, renews, keeps, list_moments, bounds_moments, spans_moments, renewal_in_body, body_moments, moments, group_moments, stage_moments, turn_moments}
use Rattle.sp_core.specs.History.{Entry, Taken, last_word, History, Runs, Turn, inner_ran, outer_ran, fsm_ran, branch_ran, moved, picked, no_run, masked_run, more_run, groups_of, turns_of}
use Rattle.sp_core.specs.Invariant.{owned_in, IsRight, AreRight}
use Rattle.sp_core.specs.Meaning.{run_core}
use Rattle.sp_core.specs.NodeRules.{with_state, fits_sram, fits_line}
use Rattle.sp_core.specs.Numbering.{counters_size, spans_size, node_count, number_count}
use Rattle.sp_core.specs.Operations.{operations}
use Rattle.sp_core.specs.PlainCore.{PlainOp, PlainSpan, PlainNode, PlainStages, inner, outer, fsm, branch, load, store, sparse, no_stage, more_stage, PlainCore}
use Rattle.sp_core.specs.Scope.{in_lanes, Scope, loops_of, group_values, is_live, is_some_live, in_group}
use Rattle.sp_core.specs.Sequential.{bounds, taken, run, run_stages}
use Rattle.sp_core.specs.Step.{Step, pure, ◌>>=◌, in_order}
use Rattle.sp_core.specs.Transfers.{part_of, load_words, store_words}
use Rattle.sp_meets.specs.Spots.{are_ranges}
use Rattle.sp_plan.specs.PlainPlan.{PlainPlan}
use Rattle.sp_time.specs.Lists.{Each}
use Rattle.sp_machine.specs.InOrder.{is_done}
use Rattle.sp_machine.specs.Laws.{told}
use Rattle.sp_machine.specs.Stamps.{Stamped}
use Rattle.sp_machine.specs.Timeline.{core_timed}
use Rattle.sp_machine.specs.Transfers.{Delays}
use Rattle.sp_machine.proofs.AtOnce.{renewals_idle}
use Rattle.sp_machine.proofs.CountedRuns.{Gives, gives_bind, gives_pure, gives_after}
use Rattle.sp_machine.proofs.Told.{told_node}
use Rattle.sp_contents.specs.Held.{AreLines}
use Rattle.sp_overlap.specs.Whole.{IsTimed, AreTimed}
use Rattle.sp_overlap.proofs.Lanes.{or_choose}
use Rattle.sp_touched.proofs.Moved.{gave_parts}
use Rattle.sp_touched.proofs.SliceForms.{AreParts}
use Rattle.sp_chosen_runs.specs.InsideLaws.{IsInside, RunsStayInside, TimelinesStayInside}
use Rattle.sp_chosen_runs.proofs.InsideGiven.{Paired, gives_as, gives_paired, gives_all, gives_turns}
use Rattle.sp_chosen_runs.proofs.InsideListed.{AllInside, ListInside, BoundsInside, SpanInside, inside_append, list_inside, bounds_inside, spans_inside, list_given, bounds_given, span_given}
use Rattle.sp_chosen_runs.proofs.InsideMoving.{IsTaken, MovedAs, transfer_given, loaded_inside, stored_inside}

module _ (core : PlainCore) (lines : AreLines core) where
  -- a run of a node, of stages in a group, and of an FSM in a turn
  abbrev NodeInside : PlainNode → History → Type 0
  NodeInside node h = (k n : ℕ) (st : Standing) → AllInside core (moments core in_lanes node k n st h)

  abbrev StagesInside : PlainStages → Runs → Type 0
  StagesInside stages runs = (k n s g j : ℕ) (v : List ℤ) (st : Standing) → AllInside core (stage_moments core in_lanes stages k n s g j v st runs)

  abbrev TurnInside : (test : List PlainOp) → PlainNode → (next : List PlainOp) → Turn → Type 0
  TurnInside test body next t = ListInside core test t.test × NodeInside body t.body × ListInside core next t.next

  idle_inside : (ms : List Moment) → Each (λ m. is_done core m ≡ false) ms → AllInside core ms
  idle_inside [] h = tt
  idle_inside (m ∷ ms) h = (go m h.0, idle_inside ms h.1)
    where
      go : (m : Moment) → is_done core m ≡ false → IsInside core m
      go (touches e) q = absurd (true≢false q)
      go (slices z) q = tt
      go (renews m) q = tt
      go (keeps m w) q = tt

  body_inside : (k n g : ℕ) (st : Standing) (owned : List ℕ) (ops : List PlainOp) (values : List (List ℤ)) (groups : List (List Entry)) → Each (ListInside core ops) groups → AllInside core (body_moments core in_lanes k n g st owned ops values groups)
  body_inside k n g st owned ops [] groups h = tt
  body_inside k n g st owned ops (v ∷ values) [] h = tt
  body_inside k n g st owned ops (v ∷ values) (es ∷ groups) h =
      inside_append core (flat_map (renewal_in_body core) owned ++ list_moments n (inside_at st k (in_group_of g 0) v) ops es) (body_moments core in_lanes k n (suc g) st owned ops values groups)
      (inside_append core (flat_map (renewal_in_body core) owned) (list_moments n (inside_at st k (in_group_of g 0) v) ops es) (idle_inside (flat_map (renewal_in_body core) owned) (renewals_idle core owned)) (list_inside core n (inside_at st k (in_group_of g 0) v) ops es h.0))
      (body_inside k n (suc g) st owned ops values groups h.1)

  fresh_inside : (owned : List ℕ) → AllInside core (map renews owned)
  fresh_inside [] = tt
  fresh_inside (m ∷ owned) = (tt, fresh_inside owned)

  groups_inside : (stages : PlainStages) (k n g : ℕ) (st : Standing) (owned : List ℕ) (values : List (List ℤ)) (groups : List Runs) → Each (StagesInside stages) groups → AllInside core (group_moments core in_lanes stages k n g st owned values (groups_of groups))
  unfolding group_moments
  groups_inside stages k n g st owned [] [] h = tt
  groups_inside stages k n g st owned [] (rs ∷ groups) h = tt
  groups_inside stages k n g st owned (v ∷ values) [] h = tt
  groups_inside stages k n g st owned (v ∷ values) (rs ∷ groups) h =
      inside_append core (map renews owned ++ stage_moments core in_lanes stages k n 0 g (suc k) v st rs) (group_moments core in_lanes stages k n (suc g) st owned values (groups_of groups))
      (inside_append core (map renews owned) (stage_moments core in_lanes stages k n 0 g (suc k) v st rs) (fresh_inside owned) (h.0 k n 0 g (suc k) v st)) (groups_inside stages k n (suc g) st owned values groups h.1)

  turns_inside : (start : List PlainOp) (state : ℕ) (test : List PlainOp) (body : PlainNode) (next : List PlainOp) (k n t : ℕ) (st : Standing) (turns : List Turn) (last : List Entry) → Each (TurnInside test body next) turns → ListInside core test last → AllInside core (turn_moments core in_lanes start state test body next k n t st (turns_of turns) last)
  unfolding turn_moments
  turns_inside start state test body next k n t st [] last h l = list_inside core (n + length start) (inside_at st k (in_turn t) []) test last l
  turns_inside start state test body next k n t st (x ∷ turns) last h l =
      let at : Standing = inside_at st k (in_turn t) [] in
      let tested : List Moment = list_moments (n + length start) at test x.test in
      let done : List Moment = moments core in_lanes body (suc k) (n + (length start + length test)) at x.body in
      let nexts : List Moment = list_moments (n + (length start + (length test + number_count body))) at next x.next in
      inside_append core (tested ++ (done ++ (nexts ++ keeps state (last_word x.next) ∷ []))) (turn_moments core in_lanes start state test body next k n (suc t) st (turns_of turns) last)
      (inside_append core tested (done ++ (nexts ++ keeps state (last_word x.next) ∷ [])) (list_inside core (n + length start) at test x.test h.0.0)
      (inside_append core done (nexts ++ keeps state (last_word x.next) ∷ []) (h.0.1 (suc k) (n + (length start + length test)) at)
      (inside_append core nexts (keeps state (last_word x.next) ∷ []) (list_inside core (n + (length start + (length test + number_count body))) at next x.next h.0.2) (tt, tt))))
      (turns_inside start state test body next k n (suc t) st turns last h.1 l)

  -- transfers
  abbrev SliceInside : (r m : ℕ) → List PlainSpan → List Taken → Type 0
  SliceInside r m spans ts = Paired (SpanInside core) spans ts × IsTaken core r m spans ts

  as_load : (around : Around) (r m : ℕ) (spans : List PlainSpan) → (fits_sram core around r m spans ≡ true) ⊎ (fits_line core around r m spans ≡ true) → (h : History) → MovedAs core (SliceInside r m spans) h → NodeInside (load r m spans) h
  unfolding moments
  as_load around r m spans fits (moved ts ws) w k n st = inside_append core (spans_moments n st spans ts) _ (spans_inside core n st spans ts w.0) (loaded_inside core lines around r m spans fits (n + spans_size spans) st ts w.1 ws)
  as_load around r m spans fits (inner_ran bs counts groups) w k n st = tt
  as_load around r m spans fits (outer_ran bs counts groups) w k n st = tt
  as_load around r m spans fits (fsm_ran first ts last) w k n st = tt
  as_load around r m spans fits (branch_ran es b h) w k n st = tt
  as_load around r m spans fits (picked es ws) w k n st = tt

  as_store : (around : Around) (r m : ℕ) (spans : List PlainSpan) → fits_sram core around r m spans ≡ true → (h : History) → MovedAs core (SliceInside r m spans) h → NodeInside (store r m spans) h
  unfolding moments
  as_store around r m spans fits (moved ts ws) w k n st = inside_append core (spans_moments n st spans ts) _ (spans_inside core n st spans ts w.0) (stored_inside core around r m spans fits (n + spans_size spans) st ts w.1 ws)
  as_store around r m spans fits (inner_ran bs counts groups) w k n st = tt
  as_store around r m spans fits (outer_ran bs counts groups) w k n st = tt
  as_store around r m spans fits (fsm_ran first ts last) w k n st = tt
  as_store around r m spans fits (branch_ran es b h) w k n st = tt
  as_store around r m spans fits (picked es ws) w k n st = tt

  module _ (most : ℕ) where
    spans_known : (scope : Scope) (spans : List PlainSpan) → Gives (λ ts. Paired (SpanInside core) spans ts × AreParts (are_ranges spans) (map part_of ts)) (in_order (taken core in_lanes most scope) spans)
    spans_known scope spans = λ s t ts e. (gives_paired (taken core in_lanes most scope) (SpanInside core) (span_given core scope in_lanes most) spans s t ts e, gave_parts core in_lanes most scope spans s t ts e)

    block_given : (es : List Entry) (test : List PlainOp) (first second : PlainNode) (one two : Step History) → ListInside core test es → Gives (NodeInside first) one → Gives (NodeInside second) two → (b : Bool) → Gives (λ h. NodeInside (branch test first second) (branch_ran es b h)) (elim b as (λ _. Step History) [ true ↦ one | false ↦ two ])
    unfolding moments
    block_given es test first second one two l f g true = gives_as _ _ _ (λ h w k n st. inside_append core (list_moments n (inside_at st k (in_turn 0) []) test es) _ (list_inside core n (inside_at st k (in_turn 0) []) test es l) (w (suc k) (n + length test) (inside_at st k (in_turn 0) []))) f
    block_given es test first second one two l f g false = gives_as _ _ _ (λ h w k n st. inside_append core (list_moments n (inside_at st k (in_turn 0) []) test es) _ (list_inside core n (inside_at st k (in_turn 0) []) test es l) (w (suc k + node_count first) (n + (length test + number_count first)) (inside_at st k (in_turn 0) []))) g

    mutual
      unfolding run run_stages moments stage_moments

      pub node_given : (node : PlainNode) (scope : Scope) (around : Around) (earlier : List ℕ) → IsRight core around earlier node → IsTimed node → Gives (NodeInside node) (run core in_lanes most node scope)
      node_given (inner counters owned ops comb) scope around earlier right w =
          gives_bind _ _ _ _ (gives_paired (bounds core in_lanes most scope) (BoundsInside core) (bounds_given core scope in_lanes most) counters)
          (λ bs b. gives_bind _ _ _ _ (gives_all _ (ListInside core ops) (λ v. gives_after _ _ _ (λ u. list_given core (in_group scope (loops_of in_lanes counters bs) v) ops)) (group_values (loops_of in_lanes counters bs)))
          (λ groups h. gives_pure _ _ (λ k n st. inside_append core (bounds_moments n (inside_at st k before []) counters bs) _ (bounds_inside core n (inside_at st k before []) counters bs b)
          (body_inside k (n + counters_size counters) 0 st owned ops (group_values (loops_of in_lanes counters bs)) groups h))))
      node_given (outer counters style owned stages) scope around earlier right w =
          gives_bind _ _ _ _ (gives_paired (bounds core in_lanes most scope) (BoundsInside core) (bounds_given core scope in_lanes most) counters)
          (λ bs b. gives_bind _ _ _ _ (gives_all _ (StagesInside stages) (λ v.
          gives_after _ _ _ (λ u. gives_bind _ _ _ _ (stages_given stages (is_live (loops_of in_lanes counters bs) v) (in_group scope (loops_of in_lanes counters bs) v) (within around counters owned) (earlier ++ owned) right.1 w.1)
          (λ runs h. gives_after _ _ _ (λ z. gives_pure _ runs h)))) (group_values (loops_of in_lanes counters bs)))
          (λ groups h. gives_pure _ _ (λ k n st. inside_append core (bounds_moments n (inside_at st k before []) counters bs) _ (bounds_inside core n (inside_at st k before []) counters bs b)
          (groups_inside stages k (n + counters_size counters) 0 st owned (group_values (loops_of in_lanes counters bs)) groups h))))
      node_given (fsm start state test body next) scope around earlier right w =
          gives_bind _ _ (ListInside core start) _ (gives_bind _ _ _ _ (list_given core scope start) (λ es h. gives_after _ _ _ (λ u. gives_pure _ es h)))
          (λ first f. gives_bind _ _ _ _ (gives_turns (TurnInside test body next) (ListInside core test) (operations core scope test) _ _ (list_given core scope test)
          (λ tested q. gives_bind _ _ _ _ (node_given body scope (with_state core around state) (earlier ++ state ∷ []) right.1 w)
          (λ h c. gives_bind _ _ (ListInside core next) _ (gives_bind _ _ _ _ (list_given core scope next) (λ es d. gives_after _ _ _ (λ u. gives_pure _ es d))) (λ es d. gives_pure _ _ (q, c, d)))) most)
          (λ r h. gives_pure _ _ (λ k n st.
          inside_append core (list_moments n (inside_at st k before []) start first ++ keeps state (last_word first) ∷ []) _
          (inside_append core (list_moments n (inside_at st k before []) start first) (keeps state (last_word first) ∷ []) (list_inside core n (inside_at st k before []) start first f) (tt, tt))
          (turns_inside start state test body next k n 0 st r.0 r.1 h.0 h.1))))
      node_given (branch test first second) scope around earlier right w =
          gives_bind _ _ _ _ (list_given core scope test) (λ es l. gives_bind _ _ _ _ (block_given es test first second _ _ l (node_given first scope around earlier right.1 w.0) (node_given second scope around (earlier ++ owned_in first) right.2 w.1) (last_word es == 1))
          (λ h c. gives_pure _ _ c))
      node_given (load r m spans) scope around earlier right w =
          let rules = and_parts _ _ (and_parts _ _ right).0 in
          gives_bind _ _ _ _ (spans_known scope spans)
          (λ ts q. gives_as (MovedAs core (SliceInside r m spans)) (NodeInside (load r m spans)) _ (as_load around r m spans (or_choose (fits_sram core around r m spans) (fits_line core around r m spans) rules.1))
          (transfer_given core r m spans ts (load_words core r m (map part_of ts)) (SliceInside r m spans) q.1 (λ z. (q.0, z))))
      node_given (store r m spans) scope around earlier right w =
          let rules = and_parts _ _ (and_parts _ _ right).0 in
          gives_bind _ _ _ _ (spans_known scope spans)
          (λ ts q. gives_as (MovedAs core (SliceInside r m spans)) (NodeInside (store r m spans)) _ (as_store around r m spans rules.1)
          (transfer_given core r m spans ts (store_words core r m (map part_of ts)) (SliceInside r m spans) q.1 (λ z. (q.0, z))))
      node_given (sparse kind r m index spans count par) scope around earlier right w = absurd w

      stages_given : (stages : PlainStages) (live : ℕ → Bool) (scope : Scope) (around : Around) (earlier : List ℕ) → AreRight core around earlier stages → AreTimed stages → Gives (StagesInside stages) (run_stages core in_lanes most stages live scope)
      stages_given no_stage live scope around earlier right w = gives_pure _ no_run (λ k n s g j v st. tt)
      stages_given (more_stage first last comb node rest) live scope around earlier right w =
          choose (node_given node scope around earlier right.0 w.0) (stages_given rest live scope around (earlier ++ owned_in node) right.1 w.1) (is_some_live live first last)
        where
          choose : Gives (NodeInside node) (run core in_lanes most node scope) → Gives (StagesInside rest) (run_stages core in_lanes most rest live scope) → (b : Bool)
              → Gives (StagesInside (more_stage first last comb node rest)) (elim b as (λ _. Step Runs) [ true ↦ run core in_lanes most node scope >>= (λ h. run_stages core in_lanes most rest live scope >>= (λ others. pure (more_run h others))) | false ↦ run_stages core in_lanes most rest live scope >>= (λ others. pure (masked_run others)) ])
          choose f g true = gives_bind _ _ _ _ f (λ h c. gives_bind _ _ _ _ g (λ hs d. gives_pure _ (more_run h hs) (λ k n s g j v st. inside_append core (moments core in_lanes node j n (inside_at st k (in_group_of g s) v) h) _ (c j n (inside_at st k (in_group_of g s) v)) (d k (n + number_count node) (suc s) g (j + node_count node) v st))))
          choose f g false = gives_bind _ _ _ _ g (λ hs d. gives_pure _ (masked_run hs) (λ k n s g j v st. d k (n + number_count node) (suc s) g (j + node_count node) v st))

pub runs_stay_inside : (core : PlainCore) → AreLines core → RunsStayInside core
unfolding run_core
runs_stay_inside core lines is_core timed input turns h t e = node_given core lines turns core.root _ nothing [] is_core.nodes timed _ t h e 0 0 (record { path = []; counters = [] })

pub timelines_stay_inside : (core : PlainCore) (plan : PlainPlan) (delays : Delays) → RunsStayInside core → TimelinesStayInside core plan delays
timelines_stay_inside core plan delays runs is_core timed input turns h t e =
    from_told (core_timed core plan delays h).events (subst (λ ms. Each (IsInside core) ms) (sym (told_node core plan delays core.root 0 0 (record { path = []; counters = [] }) (λ m. 0) h)) (runs is_core timed input turns h t e))
  where
    from_told : (es : List Stamped) → Each (IsInside core) (told es) → Each (λ (s : Stamped). IsInside core s.moment) es
    from_told [] w = tt
    from_told (s ∷ es) w = (w.0, from_told es w.1)
