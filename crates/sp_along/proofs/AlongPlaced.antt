-- Each event of a run has a spot whose controllers are those of its path.
use Rattle.std.proofs.Common.{◌≡◌, ℕ, suc, ◌+◌, true, false, ℤ, List, [], ◌∷◌, ◌++◌, length, map, append_assoc, append-nil, Some, None, arith, refl, sym, ap, ◌∙◌, subst}
use Rattle.std.proofs.lemmas.List.Elements.{Contains-append_left, Contains-append_right}
use Rattle.std.specs.List.{Contains}
use Rattle.sp_words.specs.declared.kind.Style.{Style}
use Rattle.sp_core.specs.declared.node.SparseKind.TheVariants.{Gather, Scatter, WideLoad, WideStore}
use Rattle.sp_core.specs.Declarations.{is_stream}
use Rattle.sp_core.specs.Events.{At, When, before, in_group_of, in_turn, Standing, inside_at, Moment, list_moments, spans_moments, body_moments, moments, group_moments, stage_moments, turn_moments, core_moments}
use Rattle.sp_core.specs.History.{Entry, Taken, last_word, History, Groups, Runs, Turns, inner_ran, outer_ran, fsm_ran, branch_ran, moved, picked, no_group, more_group, no_run, masked_run, more_run, no_turn, more_turn}
use Rattle.sp_core.specs.Meeting.{Outer, are_at_once, outers, outers_in}
use Rattle.sp_core.specs.Numbering.{counters_size, spans_size, node_count, number_count}
use Rattle.sp_core.specs.PlainCore.{PlainOp, PlainCounter, PlainSpan, PlainNode, PlainStages, inner, outer, fsm, branch, load, store, sparse, no_stage, more_stage, PlainCore}
use Rattle.sp_core.specs.Scope.{Reading, loops_of, group_values}
use Rattle.sp_core.specs.Transfers.{part_of}
use Rattle.sp_patterns.specs.declared.place.CounterPlace.{CounterPlace}
use Rattle.sp_patterns.specs.Ranges.{places_in}
use Rattle.sp_meets.specs.Around.{PlainLevel, in_part, changed_in, inner_level, outer_level, once}
use Rattle.sp_meets.specs.Spots.{PlainSpot, list_spots, bounds_spots, spans_spots, slice_spot, sparse_spot, node_spots, stages_spots, spots}
use Rattle.sp_along.specs.Along.{counters_at, level_of, nodes_before, IsPart, IsOuter, IsLevelAt, IsAlong, HasSpot}
use Rattle.sp_along.specs.AlongControllers.{Ran, ran_in, ran_in_groups, ran_in_stages, ran_in_turns}
use Rattle.sp_along.proofs.AlongNamed.{plus_assoc, AllNamed, AreAt, none, both_named, list_named, bounds_named, spans_named, loaded_named, stored_named, gathers_named, scatters_named, picked_named, renew_named, renewals_named, keeps_named}

-- a path that begins at a controller of this number
abbrev StartsAt : ℕ → List At → Type 0
StartsAt k [] = Unit {0}
StartsAt k (b ∷ p) = b.node ≡ k

-- every element of one list is one of the other
abbrev Within : {A : Type 0} → List A → List A → Type 0
Within {A = A} xs all = (x : A) → Contains xs x → Contains all x

within_left : {A : Type 0} (xs ys all : List A) → Within (xs ++ ys) all → Within xs all
within_left xs ys all h x c = h x (Contains-append_left xs ys x c)

within_right : {A : Type 0} (xs ys all : List A) → Within (xs ++ ys) all → Within ys all
within_right xs ys all h x c = h x (Contains-append_right xs ys x c)

-- a spot that stands last
last_one : {A : Type 0} (x : A) → Contains (x ∷ []) x
last_one x = (0, omega arith, refl)

same_along : (core : PlainCore) (ran other : List At → Ran) → ((p : List At) → ran p ≡ other p) → (places : List CounterPlace) (levels : List PlainLevel) (path : List At) → IsAlong core ran places levels path → IsAlong core other places levels path
same_along core ran other same places [] [] h = tt
same_along core ran other same places [] (a ∷ []) h = h
same_along core ran other same places [] (a ∷ b ∷ p) h = absurd h
same_along core ran other same places (l ∷ levels) [] h = absurd h
same_along core ran other same places (l ∷ levels) (a ∷ p) h = (
  subst (λ r. IsLevelAt core r places a p l) (same []) h.0,
  same_along core (λ q. ran (a ∷ q)) (λ q. other (a ∷ q)) (λ q. same (a ∷ q)) (places ++ places_in (counters_at (other []).node)) levels p
      (subst (λ r. IsAlong core (λ q. ran (a ∷ q)) (places ++ places_in (counters_at r.node)) levels p) (same []) h.1),
)

module _ (core : PlainCore) (reading : Reading) (whole : History) where
  abbrev Spotted : ℕ → Standing → Type 0
  Spotted n s = HasSpot core whole n s

  abbrev AreSpots : List PlainSpot → Type 0
  AreSpots xs = Within xs (spots core)

  abbrev AreOuters : List Outer → Type 0
  AreOuters os = Within os (outers 0 core.root)

  -- what stands further on, along these controllers, stands among the spots; by the first number of a path further on, the
  -- controllers around, and where it stands
  abbrev Follows : (k : ℕ) → (ran : List At → Ran) → List CounterPlace → List PlainLevel → List At → Type 0
  Follows k ran places path front =
      (s : Standing) (levels : List PlainLevel) (p : List At) → s.path ≡ front ++ p → StartsAt k p → IsAlong core ran places levels p →
      (x : PlainSpot) → Contains (spots core) x → x.path ≡ path ++ levels → HasSpot core whole x.number s

  flat_path : (x : PlainSpot) (path : List PlainLevel) → x.path ≡ path → x.path ≡ path ++ []
  flat_path x path e = e ∙ sym (append-nil path)

  -- at a controller before its groups, which is outside of it
  at_bounds : (k j : ℕ) (ran : List At → Ran) (places : List CounterPlace) (path : List PlainLevel) (st : Standing) → Follows k ran places path st.path →
      (xs : List PlainSpot) → AreSpots xs → AreAt Spotted (inside_at st k before []) path xs
  at_bounds k j ran places path st follows xs spotted x c e =
      follows (inside_at st k before []) [] (record { node = k; when = before } ∷ []) refl refl refl x (spotted x c) (flat_path x path e)

  -- in a part of a controller's body
  at_part : (k : ℕ) (ran : List At → Ran) (places : List CounterPlace) (path : List PlainLevel) (st : Standing) (w : When) (v : List ℤ) (l : PlainLevel) → Follows k ran places path st.path →
      IsLevelAt core (ran []) places (record { node = k; when = w }) [] l → (xs : List PlainSpot) → AreSpots xs → AreAt Spotted (inside_at st k w v) (path ++ l ∷ []) xs
  at_part k ran places path st w v l follows level xs spotted x c e =
      follows (inside_at st k w v) (l ∷ []) (record { node = k; when = w } ∷ []) refl refl (level, tt) x (spotted x c) e

  -- what stands further on in a part of a controller's body
  in_child : (k j : ℕ) (ran inside : List At → Ran) (places : List CounterPlace) (path : List PlainLevel) (st : Standing) (w : When) (v : List ℤ) (l : PlainLevel) → Follows k ran places path st.path →
      ((p : List At) → StartsAt j p → IsLevelAt core (ran []) places (record { node = k; when = w }) p l) → ((p : List At) → inside p ≡ ran (record { node = k; when = w } ∷ p)) →
      Follows j inside (places ++ places_in (counters_at (ran []).node)) (path ++ l ∷ []) (inside_at st k w v).path
  in_child k j ran inside places path st w v l follows level same s levels p e starts along x has is =
      follows s (l ∷ levels) (record { node = k; when = w } ∷ p) (e ∙ append_assoc st.path (record { node = k; when = w } ∷ []) p) refl
      (level p starts, same_along core inside (λ q. ran (record { node = k; when = w } ∷ q)) same (places ++ places_in (counters_at (ran []).node)) levels p along)
      x has (is ∙ append_assoc path (l ∷ []) levels)

  -- where a transfer or a list of operations stands outside of any controller of its own
  at_here : (k : ℕ) (ran : List At → Ran) (places : List CounterPlace) (path : List PlainLevel) (st : Standing) → Follows k ran places path st.path → (xs : List PlainSpot) → AreSpots xs → AreAt Spotted st path xs
  at_here k ran places path st follows xs spotted x c e = follows st [] [] (sym (append-nil st.path)) tt tt x (spotted x c) (flat_path x path e)

  -- the levels of controllers
  inner_at : (ran : Ran) (places : List CounterPlace) (k g : ℕ) (counters : List PlainCounter) (owned : List ℕ) (ops : List PlainOp) (comb : _) → ran.node ≡ inner counters owned ops comb →
      IsLevelAt core ran places (record { node = k; when = in_group_of g 0 }) [] (inner_level core.mems places counters (changed_in (inner counters owned ops comb)))
  inner_at ran places k g counters owned ops comb e = record {
    is = ap (λ n. in_part 0 (level_of core.mems places n)) (sym e);
    later = λ b. cc;
    part = subst (λ n. IsPart n (in_group_of g 0) 0) (sym e) (refl, refl);
    on = tt;
    outer = subst (IsOuter (outers 0 core.root) k) (sym e) tt;
  }

  -- of a loop with stages
  module _ (counters : List PlainCounter) (style : Style) (owned : List ℕ) (stages : PlainStages) where
    abbrev stage_level : List CounterPlace → PlainLevel
    stage_level places = outer_level core.mems places counters style owned (changed_in (outer counters style owned stages))

    stage_at : (h : History) (places : List CounterPlace) (k g s j : ℕ) → Contains (outers 0 core.root) (record { node = k; stream = is_stream style; at_once = are_at_once counters style; owned = owned }) → j ≡ suc k + nodes_before stages s → (p : List At) → StartsAt j p →
        IsLevelAt core (record { node = outer counters style owned stages; history = h }) places (record { node = k; when = in_group_of g s }) p (in_part s (stage_level places))
    stage_at h places k g s j has e [] starts = record { is = refl; later = λ b. cc; part = refl; on = tt; outer = has }
    stage_at h places k g s j has e (b ∷ p) starts = record { is = refl; later = λ b. cc; part = refl; on = (tt, refl, starts ∙ e); outer = has }

  -- of an FSM and a branch
  machine_level : (h : History) (places : List CounterPlace) (k t s : ℕ) (start : List PlainOp) (state : ℕ) (test : List PlainOp) (body : PlainNode) (next : List PlainOp) →
      IsLevelAt core (record { node = fsm start state test body next; history = h }) places (record { node = k; when = in_turn t }) [] (in_part s (once (changed_in (fsm start state test body next))))
  machine_level h places k t s start state test body next = record { is = refl; later = λ b. cc; part = tt; on = tt; outer = tt }

  machine_body : (h : History) (places : List CounterPlace) (k t : ℕ) (start : List PlainOp) (state : ℕ) (test : List PlainOp) (body : PlainNode) (next : List PlainOp) (p : List At) → StartsAt (suc k) p →
      IsLevelAt core (record { node = fsm start state test body next; history = h }) places (record { node = k; when = in_turn t }) p (in_part 1 (once (changed_in (fsm start state test body next))))
  machine_body h places k t start state test body next [] starts = machine_level h places k t 1 start state test body next
  machine_body h places k t start state test body next (b ∷ p) starts = record { is = refl; later = λ b. cc; part = tt; on = (tt, refl, starts); outer = tt }

  branch_level : (h : History) (places : List CounterPlace) (k s : ℕ) (test : List PlainOp) (first second : PlainNode) →
      IsLevelAt core (record { node = branch test first second; history = h }) places (record { node = k; when = in_turn 0 }) [] (in_part s (once (changed_in (branch test first second))))
  branch_level h places k s test first second = record { is = refl; later = λ b. cc; part = tt; on = tt; outer = tt }

  first_block : (es : List Entry) (h : History) (places : List CounterPlace) (k : ℕ) (test : List PlainOp) (first second : PlainNode) (p : List At) → StartsAt (suc k) p →
      IsLevelAt core (record { node = branch test first second; history = branch_ran es true h }) places (record { node = k; when = in_turn 0 }) p (in_part 1 (once (changed_in (branch test first second))))
  first_block es h places k test first second [] starts = branch_level (branch_ran es true h) places k 1 test first second
  first_block es h places k test first second (b ∷ p) starts = record { is = refl; later = λ b. cc; part = tt; on = (tt, refl, starts); outer = tt }

  second_block : (es : List Entry) (h : History) (places : List CounterPlace) (k : ℕ) (test : List PlainOp) (first second : PlainNode) (p : List At) → StartsAt (suc k + node_count first) p →
      IsLevelAt core (record { node = branch test first second; history = branch_ran es false h }) places (record { node = k; when = in_turn 0 }) p (in_part 2 (once (changed_in (branch test first second))))
  second_block es h places k test first second [] starts = branch_level (branch_ran es false h) places k 2 test first second
  second_block es h places k test first second (b ∷ p) starts = record { is = refl; later = λ b. cc; part = tt; on = (tt, refl, starts); outer = tt }

  -- the groups of an inner body
  body_placed : (k n g : ℕ) (st : Standing) (path : List PlainLevel) (owned : List ℕ) (ops : List PlainOp) (values : List (List ℤ)) (groups : List (List Entry)) →
      ((g : ℕ) (v : List ℤ) → AreAt Spotted (inside_at st k (in_group_of g 0) v) path (list_spots path n ops)) → AllNamed Spotted (body_moments core reading k n g st owned ops values groups)
  body_placed k n g st path owned ops [] groups here = none Spotted
  body_placed k n g st path owned ops (v ∷ values) [] here = none Spotted
  body_placed k n g st path owned ops (v ∷ values) (es ∷ groups) here =
      both_named Spotted _ _
      (both_named Spotted _ _ (renewals_named Spotted core owned) (list_named Spotted (inside_at st k (in_group_of g 0) v) path n ops es (here g v)))
      (body_placed k n (suc g) st path owned ops values groups here)

  none_plus : (n : ℕ) → n ≡ 0 + n
  none_plus n = omega arith

  plus_none : (n : ℕ) → n + 0 ≡ n
  plus_none n = omega arith

  plus_next : (n m : ℕ) → n + suc m ≡ suc n + m
  plus_next n m = omega arith

  next_stage : (j c b k d : ℕ) → j + (c + b) ≡ suc k + d → (j + c) + b ≡ suc k + d
  next_stage j c b k d e = omega (arith, e)

  at_group : (ran : List At → Ran) (k g h s r : ℕ) → g ≡ h → s ≡ r → (p : List At) → ran (record { node = k; when = in_group_of g s } ∷ p) ≡ ran (record { node = k; when = in_group_of h r } ∷ p)
  at_group ran k g h s r e f p = ap (λ x. ran (record { node = k; when = in_group_of x s } ∷ p)) e ∙ ap (λ x. ran (record { node = k; when = in_group_of h x } ∷ p)) f

  at_turn : (ran : List At → Ran) (k t u : ℕ) → t ≡ u → (p : List At) → ran (record { node = k; when = in_turn t } ∷ p) ≡ ran (record { node = k; when = in_turn u } ∷ p)
  at_turn ran k t u e p = ap (λ x. ran (record { node = k; when = in_turn x } ∷ p)) e

  -- a transfer: its spans, and then its words
  moved_placed : (k n at : ℕ) (ran : List At → Ran) (places : List CounterPlace) (path : List PlainLevel) (st : Standing) (spans : List PlainSpan) (ts : List Taken) (ms : List Moment) (x : PlainSpot) → Follows k ran places path st.path →
      x.path ≡ path → x.number ≡ at → AreSpots (spans_spots path n spans ++ x ∷ []) → (HasSpot core whole at st → AllNamed Spotted ms) → AllNamed Spotted (spans_moments n st spans ts ++ ms)
  moved_placed k n at ran places path st spans ts ms x follows e number spotted words =
      both_named Spotted _ _ (spans_named Spotted st path n spans ts (at_here k ran places path st follows (spans_spots path n spans) (within_left (spans_spots path n spans) (x ∷ []) (spots core) spotted)))
      (words (subst (λ z. HasSpot core whole z st) number (at_here k ran places path st follows (x ∷ []) (within_right (spans_spots path n spans) (x ∷ []) (spots core) spotted) x (last_one x) e)))

  -- an FSM and a branch have no counters
  same_places : (places : List CounterPlace) (F : List CounterPlace → Type 0) → F (places ++ []) → F places
  same_places places F h = subst F (append-nil places) h

  three : (n a b c : ℕ) → ((n + a) + b) + c ≡ n + (a + (b + c))
  three n a b c = omega arith

  -- a transfer that has a count
  wide_placed : (k n : ℕ) (ran : List At → Ran) (places : List CounterPlace) (path : List PlainLevel) (st : Standing) (spans : List PlainSpan) (count : List PlainOp) (ts : List Taken) (ms : List Moment) (x : PlainSpot) → Follows k ran places path st.path →
      x.path ≡ path → x.number ≡ (n + spans_size spans) + length count → AreSpots (spans_spots path n spans ++ (list_spots path (n + spans_size spans) count ++ x ∷ [])) → (HasSpot core whole (n + (spans_size spans + length count)) st → AllNamed Spotted ms) → AllNamed Spotted (spans_moments n st spans ts ++ ms)
  wide_placed k n ran places path st spans count ts ms x follows e number spotted words =
      let first = spans_spots path n spans in
      let second = list_spots path (n + spans_size spans) count in
      both_named Spotted _ _ (spans_named Spotted st path n spans ts (at_here k ran places path st follows first (within_left first (second ++ x ∷ []) (spots core) spotted)))
      (words (subst (λ z. HasSpot core whole z st) (number ∙ sym (plus_assoc n (spans_size spans) (length count))) (at_here k ran places path st follows (x ∷ []) (within_right second (x ∷ []) (spots core) (within_right first (second ++ x ∷ []) (spots core) spotted)) x (last_one x) e)))

  picked_placed : (k n : ℕ) (ran : List At → Ran) (places : List CounterPlace) (path : List PlainLevel) (st : Standing) (spans : List PlainSpan) (count : List PlainOp) (es : List Entry) (ms : List Moment) (x : PlainSpot) → Follows k ran places path st.path →
      x.path ≡ path → x.number ≡ (n + spans_size spans) + length count → AreSpots (spans_spots path n spans ++ (list_spots path (n + spans_size spans) count ++ x ∷ [])) → (HasSpot core whole (n + (spans_size spans + length count)) st → AllNamed Spotted ms) → AllNamed Spotted (list_moments (n + spans_size spans) st count es ++ ms)
  picked_placed k n ran places path st spans count es ms x follows e number spotted words =
      let first = spans_spots path n spans in
      let second = list_spots path (n + spans_size spans) count in
      let later : AreSpots (second ++ x ∷ []) = within_right first (second ++ x ∷ []) (spots core) spotted in
      both_named Spotted _ _ (list_named Spotted st path (n + spans_size spans) count es (at_here k ran places path st follows second (within_left second (x ∷ []) (spots core) later)))
      (words (subst (λ z. HasSpot core whole z st) (number ∙ sym (plus_assoc n (spans_size spans) (length count))) (at_here k ran places path st follows (x ∷ []) (within_right second (x ∷ []) (spots core) later) x (last_one x) e)))

  mutual
    unfolding moments group_moments stage_moments turn_moments

    node_placed : (node : PlainNode) (h : History) (k n : ℕ) (st : Standing) (places : List CounterPlace) (path : List PlainLevel) → Follows k (ran_in node h) places path st.path →
        AreSpots (node_spots core path places n node) → AreOuters (outers k node) → AllNamed Spotted (moments core reading node k n st h)
    node_placed (inner counters owned ops comb) (inner_ran bs counts groups) k n st places path follows spotted outers_are =
        let node = inner counters owned ops comb in
        let ran = ran_in node (inner_ran bs counts groups) in
        let level = inner_level core.mems places counters (changed_in node) in
        let first = bounds_spots path n counters in
        let second = list_spots (path ++ level ∷ []) (n + counters_size counters) ops in
        both_named Spotted _ _
        (bounds_named Spotted (inside_at st k before []) path n counters bs (at_bounds k k ran places path st follows first (within_left first second (spots core) spotted)))
        (body_placed k (n + counters_size counters) 0 st (path ++ level ∷ []) owned ops (group_values (loops_of reading counters bs)) groups
        (λ g v. at_part k ran places path st (in_group_of g 0) v level follows (inner_at (ran []) places k g counters owned ops comb refl) second (within_right first second (spots core) spotted)))
    node_placed (outer counters style owned stages) (outer_ran bs counts groups) k n st places path follows spotted outers_are =
        let node = outer counters style owned stages in
        let ran = ran_in node (outer_ran bs counts groups) in
        let first = bounds_spots path n counters in
        let second = stages_spots core path (stage_level counters style owned stages places) (places ++ places_in counters) 0 (n + counters_size counters) stages in
        let own : Outer = record { node = k; stream = is_stream style; at_once = are_at_once counters style; owned = owned } in
        both_named Spotted _ _
        (bounds_named Spotted (inside_at st k before []) path n counters bs (at_bounds k k ran places path st follows first (within_left first second (spots core) spotted)))
        (groups_placed counters style owned stages stages (outer_ran bs counts groups) groups k (n + counters_size counters) 0 st places path (group_values (loops_of reading counters bs)) follows (λ j s p. ap (λ x. ran_in_groups stages groups x s p) (none_plus j))
        (within_right first second (spots core) spotted) (outers_are own (Contains-append_left (own ∷ []) (outers_in (suc k) stages) own (last_one own)))
        (within_right (own ∷ []) (outers_in (suc k) stages) (outers 0 core.root) outers_are))
    node_placed (fsm start state test body next) (fsm_ran first ts last) k n st places path follows spotted outers_are =
        let node = fsm start state test body next in
        let ran = ran_in node (fsm_ran first ts last) in
        let starts = list_spots path n start in
        let tests = list_spots (path ++ once (changed_in node) ∷ []) (n + length start) test in
        let rest = node_spots core (path ++ in_part 1 (once (changed_in node)) ∷ []) places ((n + length start) + length test) body
        ++ list_spots (path ++ in_part 2 (once (changed_in node)) ∷ []) (((n + length start) + length test) + number_count body) next in
        both_named Spotted _ _
        (both_named Spotted _ _ (list_named Spotted (inside_at st k before []) path n start first (at_bounds k k ran places path st follows starts (within_left starts tests (spots core) (within_left (starts ++ tests) rest (spots core) spotted))))
        (keeps_named Spotted state (last_word first)))
        (turns_placed start state test body next (fsm_ran first ts last) ts last k n 0 st places path follows (λ j p. ap (λ x. ran_in_turns body ts x p) (none_plus j))
        (within_right starts tests (spots core) (within_left (starts ++ tests) rest (spots core) spotted)) (within_right (starts ++ tests) rest (spots core) spotted) outers_are)
    node_placed (branch test first second) (branch_ran es true x) k n st places path follows spotted outers_are =
        let node = branch test first second in
        let ran = ran_in node (branch_ran es true x) in
        let tests = list_spots (path ++ once (changed_in node) ∷ []) n test in
        let firsts = node_spots core (path ++ in_part 1 (once (changed_in node)) ∷ []) places (n + length test) first in
        let seconds = node_spots core (path ++ in_part 2 (once (changed_in node)) ∷ []) places ((n + length test) + number_count first) second in
        both_named Spotted _ _
        (list_named Spotted (inside_at st k (in_turn 0) []) (path ++ once (changed_in node) ∷ []) n test es
        (at_part k ran places path st (in_turn 0) [] (once (changed_in node)) follows (branch_level (branch_ran es true x) places k 0 test first second) tests (within_left tests (firsts ++ seconds) (spots core) spotted)))
        (node_placed first x (suc k) (n + length test) (inside_at st k (in_turn 0) []) places (path ++ in_part 1 (once (changed_in node)) ∷ [])
        (same_places places (λ ps. Follows (suc k) (ran_in first x) ps (path ++ in_part 1 (once (changed_in node)) ∷ []) (inside_at st k (in_turn 0) []).path)
        (in_child k (suc k) ran (ran_in first x) places path st (in_turn 0) [] (in_part 1 (once (changed_in node))) follows (first_block es x places k test first second) (λ p. refl)))
        (within_left firsts seconds (spots core) (within_right tests (firsts ++ seconds) (spots core) spotted))
        (within_left (outers (suc k) first) (outers (suc k + node_count first) second) (outers 0 core.root) outers_are))
    node_placed (branch test first second) (branch_ran es false x) k n st places path follows spotted outers_are =
        let node = branch test first second in
        let ran = ran_in node (branch_ran es false x) in
        let tests = list_spots (path ++ once (changed_in node) ∷ []) n test in
        let firsts = node_spots core (path ++ in_part 1 (once (changed_in node)) ∷ []) places (n + length test) first in
        let seconds = node_spots core (path ++ in_part 2 (once (changed_in node)) ∷ []) places ((n + length test) + number_count first) second in
        both_named Spotted _ _
        (list_named Spotted (inside_at st k (in_turn 0) []) (path ++ once (changed_in node) ∷ []) n test es
        (at_part k ran places path st (in_turn 0) [] (once (changed_in node)) follows (branch_level (branch_ran es false x) places k 0 test first second) tests (within_left tests (firsts ++ seconds) (spots core) spotted)))
        (node_placed second x (suc k + node_count first) (n + (length test + number_count first)) (inside_at st k (in_turn 0) []) places (path ++ in_part 2 (once (changed_in node)) ∷ [])
        (same_places places (λ ps. Follows (suc k + node_count first) (ran_in second x) ps (path ++ in_part 2 (once (changed_in node)) ∷ []) (inside_at st k (in_turn 0) []).path)
        (in_child k (suc k + node_count first) ran (ran_in second x) places path st (in_turn 0) [] (in_part 2 (once (changed_in node))) follows (second_block es x places k test first second) (λ p. refl)))
        (subst (λ m. AreSpots (node_spots core (path ++ in_part 2 (once (changed_in node)) ∷ []) places m second)) (sym (plus_assoc n (length test) (number_count first)))
        (within_right firsts seconds (spots core) (within_right tests (firsts ++ seconds) (spots core) spotted)))
        (within_right (outers (suc k) first) (outers (suc k + node_count first) second) (outers 0 core.root) outers_are))
    node_placed (load r m spans) (moved ts ws) k n st places path follows spotted outers_are =
        moved_placed k n (n + spans_size spans) (ran_in (load r m spans) (moved ts ws)) places path st spans ts _ (slice_spot core path (n + spans_size spans) true r m spans) follows refl refl spotted
        (λ here. loaded_named Spotted core (n + spans_size spans) st here r m (map part_of ts) ws)
    node_placed (store r m spans) (moved ts ws) k n st places path follows spotted outers_are =
        moved_placed k n (n + spans_size spans) (ran_in (store r m spans) (moved ts ws)) places path st spans ts _ (slice_spot core path (n + spans_size spans) false r m spans) follows refl refl spotted
        (λ here. stored_named Spotted core (n + spans_size spans) st here r m (map part_of ts) ws)
    node_placed (sparse Gather r m (Some p) spans count par) (picked es ws) k n st places path follows spotted outers_are =
        picked_placed k n (ran_in (sparse Gather r m (Some p) spans count par) (picked es ws)) places path st spans count es _ (sparse_spot core path ((n + spans_size spans) + length count) Gather r m (Some p) spans) follows refl refl spotted
        (λ here. picked_named Spotted core (n + (spans_size spans + length count)) st here r m p ws _ (gathers_named Spotted core (n + (spans_size spans + length count)) st here r m p 0 ws))
    node_placed (sparse Scatter r m (Some p) spans count par) (picked es ws) k n st places path follows spotted outers_are =
        picked_placed k n (ran_in (sparse Scatter r m (Some p) spans count par) (picked es ws)) places path st spans count es _ (sparse_spot core path ((n + spans_size spans) + length count) Scatter r m (Some p) spans) follows refl refl spotted
        (λ here. picked_named Spotted core (n + (spans_size spans + length count)) st here r m p ws _ (scatters_named Spotted core (n + (spans_size spans + length count)) st here r m p 0 ws))
    node_placed (sparse WideStore r m places spans count par) (moved ts ws) k n st around path follows spotted outers_are =
        wide_placed k n (ran_in (sparse WideStore r m places spans count par) (moved ts ws)) around path st spans count ts _ (sparse_spot core path ((n + spans_size spans) + length count) WideStore r m places spans) follows refl refl spotted
        (λ here. stored_named Spotted core (n + (spans_size spans + length count)) st here r m (map part_of ts) ws)
    node_placed (sparse WideLoad r m places spans count par) (moved ts ws) k n st around path follows spotted outers_are =
        wide_placed k n (ran_in (sparse WideLoad r m places spans count par) (moved ts ws)) around path st spans count ts _ (sparse_spot core path ((n + spans_size spans) + length count) WideLoad r m places spans) follows refl refl spotted
        (λ here. loaded_named Spotted core (n + (spans_size spans + length count)) st here r m (map part_of ts) ws)
    node_placed (sparse Gather r m (Some q) spans count par) (moved ts ws) k n st around path follows spotted outers_are =
        wide_placed k n (ran_in (sparse Gather r m (Some q) spans count par) (moved ts ws)) around path st spans count ts _ (sparse_spot core path ((n + spans_size spans) + length count) Gather r m (Some q) spans) follows refl refl spotted
        (λ here. loaded_named Spotted core (n + (spans_size spans + length count)) st here r m (map part_of ts) ws)
    node_placed (sparse Gather r m None spans count par) (moved ts ws) k n st around path follows spotted outers_are =
        wide_placed k n (ran_in (sparse Gather r m None spans count par) (moved ts ws)) around path st spans count ts _ (sparse_spot core path ((n + spans_size spans) + length count) Gather r m None spans) follows refl refl spotted
        (λ here. loaded_named Spotted core (n + (spans_size spans + length count)) st here r m (map part_of ts) ws)
    node_placed (sparse Scatter r m (Some q) spans count par) (moved ts ws) k n st around path follows spotted outers_are =
        wide_placed k n (ran_in (sparse Scatter r m (Some q) spans count par) (moved ts ws)) around path st spans count ts _ (sparse_spot core path ((n + spans_size spans) + length count) Scatter r m (Some q) spans) follows refl refl spotted
        (λ here. loaded_named Spotted core (n + (spans_size spans + length count)) st here r m (map part_of ts) ws)
    node_placed (sparse Scatter r m None spans count par) (moved ts ws) k n st around path follows spotted outers_are =
        wide_placed k n (ran_in (sparse Scatter r m None spans count par) (moved ts ws)) around path st spans count ts _ (sparse_spot core path ((n + spans_size spans) + length count) Scatter r m None spans) follows refl refl spotted
        (λ here. loaded_named Spotted core (n + (spans_size spans + length count)) st here r m (map part_of ts) ws)
    node_placed (sparse Gather r m None spans count par) (picked es ws) k n st places path follows spotted outers_are = none Spotted
    node_placed (sparse Scatter r m None spans count par) (picked es ws) k n st places path follows spotted outers_are = none Spotted
    node_placed node h k n st places path follows spotted outers_are = none Spotted

    turns_placed : (start : List PlainOp) (state : ℕ) (test : List PlainOp) (body : PlainNode) (next : List PlainOp) (whole_history : History) (ts : Turns) (last : List Entry) (k n t : ℕ) (st : Standing) (places : List CounterPlace) (path : List PlainLevel) →
        Follows k (ran_in (fsm start state test body next) whole_history) places path st.path →
        ((j : ℕ) (p : List At) → ran_in_turns body ts j p ≡ ran_in (fsm start state test body next) whole_history (record { node = k; when = in_turn (t + j) } ∷ p)) →
        AreSpots (list_spots (path ++ once (changed_in (fsm start state test body next)) ∷ []) (n + length start) test) →
        AreSpots (node_spots core (path ++ in_part 1 (once (changed_in (fsm start state test body next))) ∷ []) places ((n + length start) + length test) body
        ++ list_spots (path ++ in_part 2 (once (changed_in (fsm start state test body next))) ∷ []) (((n + length start) + length test) + number_count body) next) →
        AreOuters (outers (suc k) body) → AllNamed Spotted (turn_moments core reading start state test body next k n t st ts last)
    turns_placed start state test body next wh no_turn last k n t st places path follows same tests rest outers_are =
        let node = fsm start state test body next in
        list_named Spotted (inside_at st k (in_turn t) []) (path ++ once (changed_in node) ∷ []) (n + length start) test last
        (at_part k (ran_in node wh) places path st (in_turn t) [] (once (changed_in node)) follows (machine_level wh places k t 0 start state test body next) (list_spots (path ++ once (changed_in node) ∷ []) (n + length start) test) tests)
    turns_placed start state test body next wh (more_turn es x ns others) last k n t st places path follows same tests rest outers_are =
        let node = fsm start state test body next in
        let ran = ran_in node wh in
        let bodies = node_spots core (path ++ in_part 1 (once (changed_in node)) ∷ []) places ((n + length start) + length test) body in
        let nexts = list_spots (path ++ in_part 2 (once (changed_in node)) ∷ []) (((n + length start) + length test) + number_count body) next in
        both_named Spotted _ _
        (both_named Spotted _ _
        (list_named Spotted (inside_at st k (in_turn t) []) (path ++ once (changed_in node) ∷ []) (n + length start) test es
        (at_part k ran places path st (in_turn t) [] (once (changed_in node)) follows (machine_level wh places k t 0 start state test body next) (list_spots (path ++ once (changed_in node) ∷ []) (n + length start) test) tests))
        (both_named Spotted _ _
        (node_placed body x (suc k) (n + (length start + length test)) (inside_at st k (in_turn t) []) places (path ++ in_part 1 (once (changed_in node)) ∷ [])
        (same_places places (λ ps. Follows (suc k) (ran_in body x) ps (path ++ in_part 1 (once (changed_in node)) ∷ []) (inside_at st k (in_turn t) []).path)
        (in_child k (suc k) ran (ran_in body x) places path st (in_turn t) [] (in_part 1 (once (changed_in node))) follows (machine_body wh places k t start state test body next) (λ p. same 0 p ∙ at_turn ran k (t + 0) t (plus_none t) p)))
        (subst (λ m. AreSpots (node_spots core (path ++ in_part 1 (once (changed_in node)) ∷ []) places m body)) (sym (plus_assoc n (length start) (length test))) (within_left bodies nexts (spots core) rest)) outers_are)
        (both_named Spotted _ _
        (list_named Spotted (inside_at st k (in_turn t) []) (path ++ in_part 2 (once (changed_in node)) ∷ []) (n + (length start + (length test + number_count body))) next ns
        (at_part k ran places path st (in_turn t) [] (in_part 2 (once (changed_in node))) follows (machine_level wh places k t 2 start state test body next) (list_spots (path ++ in_part 2 (once (changed_in node)) ∷ []) (n + (length start + (length test + number_count body))) next)
        (subst (λ m. AreSpots (list_spots (path ++ in_part 2 (once (changed_in node)) ∷ []) m next)) (three n (length start) (length test) (number_count body)) (within_right bodies nexts (spots core) rest))))
        (keeps_named Spotted state (last_word ns)))))
        (turns_placed start state test body next wh others last k n (suc t) st places path follows (λ j p. same (suc j) p ∙ at_turn ran k (t + suc j) (suc t + j) (plus_next t j) p) tests rest outers_are)

    groups_placed : (counters : List PlainCounter) (style : Style) (owned : List ℕ) (all stages : PlainStages) (whole_history : History) (groups : Groups) (k n g : ℕ) (st : Standing) (places : List CounterPlace) (path : List PlainLevel) (values : List (List ℤ)) →
        Follows k (ran_in (outer counters style owned stages) whole_history) places path st.path →
        ((j s : ℕ) (p : List At) → ran_in_groups stages groups j s p ≡ ran_in (outer counters style owned stages) whole_history (record { node = k; when = in_group_of (g + j) s } ∷ p)) →
        AreSpots (stages_spots core path (stage_level counters style owned stages places) (places ++ places_in counters) 0 n stages) →
        Contains (outers 0 core.root) (record { node = k; stream = is_stream style; at_once = are_at_once counters style; owned = owned }) → AreOuters (outers_in (suc k) stages) →
        AllNamed Spotted (group_moments core reading stages k n g st owned values groups)
    groups_placed counters style owned all stages wh no_group k n g st places path [] follows same spotted own outers_are = none Spotted
    groups_placed counters style owned all stages wh no_group k n g st places path (v ∷ values) follows same spotted own outers_are = none Spotted
    groups_placed counters style owned all stages wh (more_group runs rest) k n g st places path [] follows same spotted own outers_are = none Spotted
    groups_placed counters style owned all stages wh (more_group runs rest) k n g st places path (v ∷ values) follows same spotted own outers_are =
        both_named Spotted _ _
        (both_named Spotted _ _ (renew_named Spotted owned)
        (stages_placed counters style owned stages stages wh runs k n 0 g (suc k) v st places path follows (λ j p. same 0 j p ∙ at_group (ran_in (outer counters style owned stages) wh) k (g + 0) g j (0 + j) (plus_none g) (none_plus j) p) (λ i. ap (λ x. suc k + nodes_before stages x) (none_plus i)) spotted own outers_are))
        (groups_placed counters style owned all stages wh rest k n (suc g) st places path values follows
        (λ j s p. same (suc j) s p ∙ at_group (ran_in (outer counters style owned stages) wh) k (g + suc j) (suc g + j) s s (plus_next g j) refl p) spotted own outers_are)

    stages_placed : (counters : List PlainCounter) (style : Style) (owned : List ℕ) (all stages : PlainStages) (whole_history : History) (runs : Runs) (k n s g j : ℕ) (v : List ℤ) (st : Standing) (places : List CounterPlace) (path : List PlainLevel) →
        Follows k (ran_in (outer counters style owned all) whole_history) places path st.path →
        ((i : ℕ) (p : List At) → ran_in_stages stages runs i p ≡ ran_in (outer counters style owned all) whole_history (record { node = k; when = in_group_of g (s + i) } ∷ p)) →
        ((i : ℕ) → j + nodes_before stages i ≡ suc k + nodes_before all (s + i)) →
        AreSpots (stages_spots core path (stage_level counters style owned all places) (places ++ places_in counters) s n stages) →
        Contains (outers 0 core.root) (record { node = k; stream = is_stream style; at_once = are_at_once counters style; owned = owned }) → AreOuters (outers_in j stages) →
        AllNamed Spotted (stage_moments core reading stages k n s g j v st runs)
    stages_placed counters style owned all no_stage wh no_run k n s g j v st places path follows same next spotted own outers_are = none Spotted
    stages_placed counters style owned all no_stage wh (masked_run hs) k n s g j v st places path follows same next spotted own outers_are = none Spotted
    stages_placed counters style owned all no_stage wh (more_run x hs) k n s g j v st places path follows same next spotted own outers_are = none Spotted
    stages_placed counters style owned all (more_stage first last comb node rest) wh no_run k n s g j v st places path follows same next spotted own outers_are = none Spotted
    stages_placed counters style owned all (more_stage first last comb node rest) wh (masked_run hs) k n s g j v st places path follows same next spotted own outers_are =
        let level = stage_level counters style owned all places in
        let here = node_spots core (path ++ in_part s level ∷ []) (places ++ places_in counters) n node in
        let later = stages_spots core path level (places ++ places_in counters) (suc s) (n + number_count node) rest in
        stages_placed counters style owned all rest wh hs k (n + number_count node) (suc s) g (j + node_count node) v st places path follows
        (λ i p. same (suc i) p ∙ at_group (ran_in (outer counters style owned all) wh) k g g (s + suc i) (suc s + i) refl (plus_next s i) p)
        (λ i. next_stage j (node_count node) (nodes_before rest i) k (nodes_before all (suc s + i)) (next (suc i) ∙ ap (λ x. suc k + nodes_before all x) (plus_next s i)))
        (within_right here later (spots core) spotted) own (within_right (outers j node) (outers_in (j + node_count node) rest) (outers 0 core.root) outers_are)
    stages_placed counters style owned all (more_stage first last comb node rest) wh (more_run x hs) k n s g j v st places path follows same next spotted own outers_are =
        let level = stage_level counters style owned all places in
        let here = node_spots core (path ++ in_part s level ∷ []) (places ++ places_in counters) n node in
        let later = stages_spots core path level (places ++ places_in counters) (suc s) (n + number_count node) rest in
        let ran = ran_in (outer counters style owned all) wh in
        both_named Spotted _ _
        (node_placed node x j n (inside_at st k (in_group_of g s) v) (places ++ places_in counters) (path ++ in_part s level ∷ [])
        (in_child k j ran (ran_in node x) places path st (in_group_of g s) v (in_part s level) follows
        (stage_at counters style owned all wh places k g s j own (sym (plus_none j) ∙ next 0 ∙ ap (λ x. suc k + nodes_before all x) (plus_none s)))
        (λ p. same 0 p ∙ at_group ran k g g (s + 0) s refl (plus_none s) p))
        (within_left here later (spots core) spotted) (within_left (outers j node) (outers_in (j + node_count node) rest) (outers 0 core.root) outers_are))
        (stages_placed counters style owned all rest wh hs k (n + number_count node) (suc s) g (j + node_count node) v st places path follows
        (λ i p. same (suc i) p ∙ at_group (ran_in (outer counters style owned all) wh) k g g (s + suc i) (suc s + i) refl (plus_next s i) p)
        (λ i. next_stage j (node_count node) (nodes_before rest i) k (nodes_before all (suc s + i)) (next (suc i) ∙ ap (λ x. suc k + nodes_before all x) (plus_next s i)))
        (within_right here later (spots core) spotted) own (within_right (outers j node) (outers_in (j + node_count node) rest) (outers 0 core.root) outers_are))

  pub events_placed : AllNamed Spotted (core_moments core reading whole)
  events_placed = node_placed core.root whole 0 0 (record { path = []; counters = [] }) [] (once (changed_in core.root) ∷ []) begun (λ x c. c) (λ o c. c)
    where
      begun : Follows 0 (ran_in core.root whole) [] (once (changed_in core.root) ∷ []) []
      begun s levels p e starts along x has is = record { spot = x; has = has; is_number = refl; levels = levels; path = is; along = subst (λ q. IsAlong core (ran_in core.root whole) [] levels q) (sym e) along }
