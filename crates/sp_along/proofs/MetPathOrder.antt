-- The groups of a loop come one after the other in a run.
use Rattle.std.proofs.Common.{◌≡◌, ℕ, suc, ◌+◌, ◌≤◌, Bool, true, false, ◌&&◌, not, ℤ, List, [], ◌∷◌, ◌++◌, length, map, append_assoc, Some, None, inl, inr, arith, refl, sym, ap, ◌∙◌, subst}
use Rattle.std.proofs.lemmas.Bool.{and_parts, eqb-true}
use Rattle.std.proofs.lemmas.List.Elements.{All-head, All-tail, All-append}
use Rattle.std.specs.List.{All}
use Rattle.std.specs.Prelude.{◌==◌}
use Rattle.sp_core.specs.declared.node.SparseKind.TheVariants.{Gather, Scatter, WideLoad, WideStore}
use Rattle.sp_core.specs.Events.{At, When, before, in_group_of, in_turn, Standing, inside_at, Moment, touches, slices, renews, keeps, list_moments, body_moments, moments, group_moments, stage_moments, turn_moments, core_moments}
use Rattle.sp_core.specs.History.{Entry, last_word, History, Groups, Runs, Turns, inner_ran, outer_ran, fsm_ran, branch_ran, moved, picked, no_group, more_group, no_run, masked_run, more_run, no_turn, more_turn}
use Rattle.sp_core.specs.Meeting.{in_loop, is_group, is_in_stream, go_on, together, together_at}
use Rattle.sp_core.specs.Numbering.{counters_size, spans_size, node_count, number_count}
use Rattle.sp_core.specs.PlainCore.{PlainOp, PlainNode, PlainStages, inner, outer, fsm, branch, load, store, sparse, no_stage, more_stage, PlainCore}
use Rattle.sp_core.specs.Scope.{Reading, loops_of, group_values}
use Rattle.sp_core.specs.Transfers.{part_of}
use Rattle.sp_along.proofs.MetTogether.{choose, no_turns, same_when, same_at}
use Rattle.sp_along.proofs.MetTraces.{AllStand, none, both_stand, list_stands, bounds_stand, spans_stand, loaded_stands, stored_stands, gathers_stand, scatters_stand, picked_stands, renew_stand, renewals_stand, all_more, keeps_stand, IsWithin, node_traced}
use Rattle.sp_along.specs.MetOrder.{IsNoEarlier, AreInOrder, EachTwo}
use Rattle.sp_along.specs.MetTraces.{loops_in, Stands}

-- of lists of moments
module _ (R : Standing → Standing → Type 0) where
  by_first : (m : Moment) (xs ys : List Moment) → Stands (λ s. All (Stands (R s)) xs) m → Stands (λ s. All (Stands (R s)) ys) m → Stands (λ s. All (Stands (R s)) (xs ++ ys)) m
  by_first (touches e) xs ys h k = All-append (Stands (R e.standing)) xs ys h k
  by_first (slices s) xs ys h k = All-append (Stands (R s.standing)) xs ys h k
  by_first (renews m) xs ys h k = tt
  by_first (keeps m w) xs ys h k = tt

  two_lists : (P Q : Standing → Type 0) → ((s t : Standing) → P s → Q t → R s t) → (xs ys : List Moment) → AllStand P xs → AllStand Q ys → EachTwo R xs → EachTwo R ys → EachTwo R (xs ++ ys)
  two_lists P Q f [] ys h k a b = b
  two_lists P Q f (m ∷ xs) ys h k a b =
      (by_first m xs ys a.0 (across m (All-head (Stands P) m xs h)), two_lists P Q f xs ys (All-tail (Stands P) m xs h) k a.1 b)
    where
      across : (m : Moment) → Stands P m → Stands (λ s. All (Stands (R s)) ys) m
      across (touches e) p = all_more Q (R e.standing) (λ t q. f e.standing t p q) ys k
      across (slices s) p = all_more Q (R s.standing) (λ t q. f s.standing t p q) ys k
      across (renews x) p = tt
      across (keeps x w) p = tt

  -- where all stand at one place, or else in one way
  all_alike : (P : Standing → Type 0) → ((s t : Standing) → P s → P t → R s t) → (ms : List Moment) → AllStand P ms → EachTwo R ms
  all_alike P f [] h = tt
  all_alike P f (m ∷ ms) h = (across m (All-head (Stands P) m ms h), all_alike P f ms (All-tail (Stands P) m ms h))
    where
      across : (m : Moment) → Stands P m → Stands (λ s. All (Stands (R s)) ms) m
      across (touches e) p = all_more P (R e.standing) (λ t q. f e.standing t p q) ms (All-tail (Stands P) m ms h)
      across (slices s) p = all_more P (R s.standing) (λ t q. f s.standing t p q) ms (All-tail (Stands P) m ms h)
      across (renews x) p = tt
      across (keeps x w) p = tt

-- of paths
same_group : (w : When) → IsNoEarlier w w
same_group before = tt
same_group (in_group_of g s) = omega arith
same_group (in_turn t) = tt

same_path : (p : List At) → AreInOrder p p
same_path [] = tt
same_path (a ∷ p) = (λ e. same_group a.when, λ e. same_path p)

before_nothing : (p : List At) → AreInOrder p []
before_nothing [] = tt
before_nothing (a ∷ p) = tt

behind : (front p q : List At) → AreInOrder p q → AreInOrder (front ++ p) (front ++ q)
behind [] p q h = h
behind (a ∷ front) p q h = (λ e. same_group a.when, λ e. behind front p q h)

abbrev InPathOrder : Standing → Standing → Type 0
InPathOrder s t = AreInOrder s.path t.path

by_paths : (s t : Standing) (p q : List At) → s.path ≡ p → t.path ≡ q → AreInOrder p q → InPathOrder s t
by_paths s t p q e f h = subst (λ x. AreInOrder x t.path) (sym e) (subst (λ y. AreInOrder p y) (sym f) h)

abbrev IsAt : List At → Standing → Type 0
IsAt path s = s.path ≡ path

record IsBelow (path : List At) (s : Standing) : Type 0 where
  rest : List At
  is : s.path ≡ path ++ rest

record IsAtLevel (front : List At) (k : ℕ) (A : When → Type 0) (s : Standing) : Type 0 where
  when : When
  rest : List At
  is : s.path ≡ front ++ (record { node = k; when = when } ∷ rest)
  ok : A when

nothing_more : (xs : List At) → xs ≡ xs ++ []
nothing_more [] = refl
nothing_more (x ∷ xs) = ap (λ ys. x ∷ ys) (nothing_more xs)

at_then_below : (path : List At) (s t : Standing) → IsAt path s → IsBelow path t → InPathOrder s t
at_then_below path s t e f = by_paths s t (path ++ []) (path ++ f.rest) (e ∙ nothing_more path) f.is (behind path [] f.rest tt)

below_then_at : (path : List At) (s t : Standing) → IsBelow path s → IsAt path t → InPathOrder s t
below_then_at path s t e f = by_paths s t (path ++ e.rest) (path ++ []) e.is (f ∙ nothing_more path) (behind path e.rest [] (before_nothing e.rest))

flat : (path : List At) (ms : List Moment) → AllStand (IsAt path) ms → EachTwo InPathOrder ms
flat path ms h = all_alike InPathOrder (IsAt path) (λ s t e f. by_paths s t path path e f (same_path path)) ms h

-- at one controller, at times of which none of the first is one of the second
levels : (front : List At) (k : ℕ) (A B : When → Type 0) → ((w x : When) → A w → B x → IsNoEarlier w x × (w ≡ x → ⊥)) → (s t : Standing) → IsAtLevel front k A s → IsAtLevel front k B t → InPathOrder s t
levels front k A B f s t a b =
    let apart = f a.when b.when a.ok b.ok in
    by_paths s t (front ++ (record { node = k; when = a.when } ∷ a.rest)) (front ++ (record { node = k; when = b.when } ∷ b.rest)) a.is b.is
    (behind front (record { node = k; when = a.when } ∷ a.rest) (record { node = k; when = b.when } ∷ b.rest) (λ e. apart.0, λ e. absurd (apart.1 (ap (λ (x : At). x.when) e))))

abbrev IsBefore : When → Type 0
IsBefore w = w ≡ before

abbrev InGroup : ℕ → When → Type 0
InGroup g w = (r : ℕ) × (w ≡ in_group_of g r)

abbrev InGroupsFrom : ℕ → When → Type 0
InGroupsFrom g w = (i : ℕ) × (r : ℕ) × (w ≡ in_group_of i r) × (g ≤ i)

abbrev InStage : ℕ → ℕ → When → Type 0
InStage g s w = w ≡ in_group_of g s

abbrev InStagesFrom : ℕ → ℕ → When → Type 0
InStagesFrom g s w = (r : ℕ) × (w ≡ in_group_of g r) × (s ≤ r)

abbrev InTurn : ℕ → When → Type 0
InTurn t w = w ≡ in_turn t

abbrev InTurnsFrom : ℕ → When → Type 0
InTurnsFrom t w = (u : ℕ) × (w ≡ in_turn u) × (t ≤ u)

-- the times of the first and of the second
of_times : (w x u v : When) → w ≡ u → x ≡ v → IsNoEarlier u v × (u ≡ v → ⊥) → IsNoEarlier w x × (w ≡ x → ⊥)
of_times w x u v e f h = subst (λ z. IsNoEarlier z x × (z ≡ x → ⊥)) (sym e) (subst (λ z. IsNoEarlier u z × (u ≡ z → ⊥)) (sym f) h)

before_groups : (w x : When) → IsBefore w → InGroupsFrom 0 x → IsNoEarlier w x × (w ≡ x → ⊥)
before_groups w x e (i, r, f, l) = of_times w x before (in_group_of i r) e f (tt, λ z. absurd (cc))

before_turns : (w x : When) → IsBefore w → InTurnsFrom 0 x → IsNoEarlier w x × (w ≡ x → ⊥)
before_turns w x e (u, f, l) = of_times w x before (in_turn u) e f (tt, λ z. absurd (cc))

next_groups : (g : ℕ) (w x : When) → InGroup g w → InGroupsFrom (suc g) x → IsNoEarlier w x × (w ≡ x → ⊥)
next_groups g w x (s, e) (i, r, f, l) = of_times w x (in_group_of g s) (in_group_of i r) e f (omega (arith, l), λ z. differ z)
  where
    differ : in_group_of g s ≡ in_group_of i r → ⊥
    differ z = let same : g ≡ i = cc in absurd (omega (arith, same, l))

next_stages : (g s : ℕ) (w x : When) → InStage g s w → InStagesFrom g (suc s) x → IsNoEarlier w x × (w ≡ x → ⊥)
next_stages g s w x e (r, f, l) = of_times w x (in_group_of g s) (in_group_of g r) e f (omega arith, λ z. differ z)
  where
    differ : in_group_of g s ≡ in_group_of g r → ⊥
    differ z = let same : s ≡ r = cc in absurd (omega (arith, same, l))

next_turns : (t : ℕ) (w x : When) → InTurn t w → InTurnsFrom (suc t) x → IsNoEarlier w x × (w ≡ x → ⊥)
next_turns t w x e (u, f, l) = of_times w x (in_turn t) (in_turn u) e f (tt, λ z. differ z)
  where
    differ : in_turn t ≡ in_turn u → ⊥
    differ z = let same : t ≡ u = cc in absurd (omega (arith, same, l))

level_more : (front : List At) (k : ℕ) (A B : When → Type 0) → ((w : When) → A w → B w) → (s : Standing) → IsAtLevel front k A s → IsAtLevel front k B s
level_more front k A B f s a = record { when = a.when; rest = a.rest; is = a.is; ok = f a.when a.ok }

-- what stands below a place at a controller stands at that controller
below_level : (st : Standing) (k : ℕ) (w : When) (v : List ℤ) (A : When → Type 0) → A w → (s : Standing) → IsBelow (inside_at st k w v).path s → IsAtLevel st.path k A s
below_level st k w v A ok s b = record { when = w; rest = b.rest; is = b.is ∙ append_assoc st.path (record { node = k; when = w } ∷ []) b.rest; ok = ok }

at_level : (st : Standing) (k : ℕ) (w : When) (A : When → Type 0) (v : List ℤ) → A w → IsAtLevel st.path k A (inside_at st k w v)
at_level st k w A v ok = record { when = w; rest = []; is = refl; ok = ok }

abbrev nowhere_at : Standing → Type 0
nowhere_at s = ⊥

module _ (core : PlainCore) (reading : Reading) where
  node_below : (node : PlainNode) (h : History) (k n : ℕ) (st : Standing) → AllStand (IsBelow st.path) (moments core reading node k n st h)
  node_below node h k n st = all_more (IsWithin (loops_in reading node h) st) (IsBelow st.path) (λ s w. record { rest = w.path; is = w.path_is }) _ (node_traced core reading node h k n st)

  body_at : (k n g : ℕ) (st : Standing) (owned : List ℕ) (ops : List PlainOp) (values : List (List ℤ)) (groups : List (List Entry)) → AllStand (IsAtLevel st.path k (InGroupsFrom g)) (body_moments core reading k n g st owned ops values groups)
  body_at k n g st owned ops [] groups = none _
  body_at k n g st owned ops (v ∷ values) [] = none _
  body_at k n g st owned ops (v ∷ values) (es ∷ groups) =
      let P = IsAtLevel st.path k (InGroupsFrom g) in
      both_stand P _ _
      (both_stand P _ _ (renewals_stand P core owned) (list_stands P (inside_at st k (in_group_of g 0) v) (at_level st k (in_group_of g 0) (InGroupsFrom g) v (g, 0, refl, omega arith)) n ops es))
      (all_more (IsAtLevel st.path k (InGroupsFrom (suc g))) P (level_more st.path k (InGroupsFrom (suc g)) (InGroupsFrom g) (λ w (i, r, e, l). (i, r, e, omega arith))) _ (body_at k n (suc g) st owned ops values groups))

  body_ordered : (k n g : ℕ) (st : Standing) (owned : List ℕ) (ops : List PlainOp) (values : List (List ℤ)) (groups : List (List Entry)) → EachTwo InPathOrder (body_moments core reading k n g st owned ops values groups)
  body_ordered k n g st owned ops [] groups = tt
  body_ordered k n g st owned ops (v ∷ values) [] = tt
  body_ordered k n g st owned ops (v ∷ values) (es ∷ groups) =
      let here : Standing = inside_at st k (in_group_of g 0) v in
      let P = IsAtLevel st.path k (InGroup g) in
      two_lists InPathOrder P (IsAtLevel st.path k (InGroupsFrom (suc g))) (levels st.path k (InGroup g) (InGroupsFrom (suc g)) (next_groups g)) _ _
      (both_stand P _ _ (renewals_stand P core owned) (list_stands P here (at_level st k (in_group_of g 0) (InGroup g) v (0, refl)) n ops es))
      (body_at k n (suc g) st owned ops values groups)
      (flat here.path _ (both_stand (IsAt here.path) _ _ (renewals_stand (IsAt here.path) core owned) (list_stands (IsAt here.path) here refl n ops es)))
      (body_ordered k n (suc g) st owned ops values groups)

  mutual
    unfolding moments group_moments stage_moments turn_moments

    groups_at : (stages : PlainStages) (groups : Groups) (k n g : ℕ) (st : Standing) (owned : List ℕ) (values : List (List ℤ)) → AllStand (IsAtLevel st.path k (InGroupsFrom g)) (group_moments core reading stages k n g st owned values groups)
    groups_at stages no_group k n g st owned [] = none _
    groups_at stages no_group k n g st owned (v ∷ values) = none _
    groups_at stages (more_group runs rest) k n g st owned [] = none _
    groups_at stages (more_group runs rest) k n g st owned (v ∷ values) =
        let P = IsAtLevel st.path k (InGroupsFrom g) in
        both_stand P _ _
        (both_stand P _ _ (renew_stand P owned) (all_more (IsAtLevel st.path k (InStagesFrom g 0)) P (level_more st.path k (InStagesFrom g 0) (InGroupsFrom g) (λ w (r, e, l). (g, r, e, omega arith))) _ (stages_at stages runs k n 0 g (suc k) v st)))
        (all_more (IsAtLevel st.path k (InGroupsFrom (suc g))) P (level_more st.path k (InGroupsFrom (suc g)) (InGroupsFrom g) (λ w (i, r, e, l). (i, r, e, omega arith))) _ (groups_at stages rest k n (suc g) st owned values))

    stages_at : (stages : PlainStages) (runs : Runs) (k n s g j : ℕ) (v : List ℤ) (st : Standing) → AllStand (IsAtLevel st.path k (InStagesFrom g s)) (stage_moments core reading stages k n s g j v st runs)
    stages_at no_stage no_run k n s g j v st = none _
    stages_at no_stage (masked_run hs) k n s g j v st = none _
    stages_at no_stage (more_run x hs) k n s g j v st = none _
    stages_at (more_stage first last comb node rest) no_run k n s g j v st = none _
    stages_at (more_stage first last comb node rest) (masked_run hs) k n s g j v st =
        all_more (IsAtLevel st.path k (InStagesFrom g (suc s))) (IsAtLevel st.path k (InStagesFrom g s)) (level_more st.path k (InStagesFrom g (suc s)) (InStagesFrom g s) (λ w (r, e, l). (r, e, omega arith))) _
        (stages_at rest hs k (n + number_count node) (suc s) g (j + node_count node) v st)
    stages_at (more_stage first last comb node rest) (more_run x hs) k n s g j v st =
        let P = IsAtLevel st.path k (InStagesFrom g s) in
        both_stand P _ _
        (all_more (IsBelow (inside_at st k (in_group_of g s) v).path) P (below_level st k (in_group_of g s) v (InStagesFrom g s) (s, refl, omega arith)) _ (node_below node x j n (inside_at st k (in_group_of g s) v)))
        (all_more (IsAtLevel st.path k (InStagesFrom g (suc s))) P (level_more st.path k (InStagesFrom g (suc s)) (InStagesFrom g s) (λ w (r, e, l). (r, e, omega arith))) _
        (stages_at rest hs k (n + number_count node) (suc s) g (j + node_count node) v st))

    turns_at : (start : List PlainOp) (state : ℕ) (test : List PlainOp) (body : PlainNode) (next : List PlainOp) (ts : Turns) (last : List Entry) (k n t : ℕ) (st : Standing) → AllStand (IsAtLevel st.path k (InTurnsFrom t)) (turn_moments core reading start state test body next k n t st ts last)
    turns_at start state test body next no_turn last k n t st =
        let P = IsAtLevel st.path k (InTurnsFrom t) in
        list_stands P (inside_at st k (in_turn t) []) (at_level st k (in_turn t) (InTurnsFrom t) [] (t, refl, omega arith)) (n + length start) test last
    turns_at start state test body next (more_turn es x ns rest) last k n t st =
        let P = IsAtLevel st.path k (InTurnsFrom t) in
        let here : P (inside_at st k (in_turn t) []) = at_level st k (in_turn t) (InTurnsFrom t) [] (t, refl, omega arith) in
        both_stand P _ _
        (both_stand P _ _ (list_stands P (inside_at st k (in_turn t) []) here (n + length start) test es)
        (both_stand P _ _
        (all_more (IsBelow (inside_at st k (in_turn t) []).path) P (below_level st k (in_turn t) [] (InTurnsFrom t) (t, refl, omega arith)) _ (node_below body x (suc k) (n + (length start + length test)) (inside_at st k (in_turn t) [])))
        (both_stand P _ _ (list_stands P (inside_at st k (in_turn t) []) here (n + (length start + (length test + number_count body))) next ns) (keeps_stand core reading P state (last_word ns)))))
        (all_more (IsAtLevel st.path k (InTurnsFrom (suc t))) P (level_more st.path k (InTurnsFrom (suc t)) (InTurnsFrom t) (λ w (u, e, l). (u, e, omega arith))) _ (turns_at start state test body next rest last k n (suc t) st))

  renewed : (owned : List ℕ) → EachTwo InPathOrder (map renews owned)
  renewed owned = all_alike InPathOrder nowhere_at (λ s t p q. absurd p) (map renews owned) (renew_stand nowhere_at owned)

  mutual
    unfolding moments group_moments stage_moments turn_moments

    node_ordered : (node : PlainNode) (h : History) (k n : ℕ) (st : Standing) → EachTwo InPathOrder (moments core reading node k n st h)
    node_ordered (inner counters owned ops comb) (inner_ran bs counts groups) k n st =
        let here : Standing = inside_at st k before [] in
        two_lists InPathOrder (IsAtLevel st.path k IsBefore) (IsAtLevel st.path k (InGroupsFrom 0)) (levels st.path k IsBefore (InGroupsFrom 0) before_groups) _ _
        (bounds_stand (IsAtLevel st.path k IsBefore) here (at_level st k before IsBefore [] refl) n counters bs)
        (body_at k (n + counters_size counters) 0 st owned ops (group_values (loops_of reading counters bs)) groups)
        (flat here.path _ (bounds_stand (IsAt here.path) here refl n counters bs))
        (body_ordered k (n + counters_size counters) 0 st owned ops (group_values (loops_of reading counters bs)) groups)
    node_ordered (outer counters style owned stages) (outer_ran bs counts groups) k n st =
        let here : Standing = inside_at st k before [] in
        two_lists InPathOrder (IsAtLevel st.path k IsBefore) (IsAtLevel st.path k (InGroupsFrom 0)) (levels st.path k IsBefore (InGroupsFrom 0) before_groups) _ _
        (bounds_stand (IsAtLevel st.path k IsBefore) here (at_level st k before IsBefore [] refl) n counters bs)
        (groups_at stages groups k (n + counters_size counters) 0 st owned (group_values (loops_of reading counters bs)))
        (flat here.path _ (bounds_stand (IsAt here.path) here refl n counters bs))
        (groups_ordered stages groups k (n + counters_size counters) 0 st owned (group_values (loops_of reading counters bs)))
    node_ordered (fsm start state test body next) (fsm_ran first ts last) k n st =
        let here : Standing = inside_at st k before [] in
        let P = IsAtLevel st.path k IsBefore in
        two_lists InPathOrder P (IsAtLevel st.path k (InTurnsFrom 0)) (levels st.path k IsBefore (InTurnsFrom 0) before_turns) _ _
        (both_stand P _ _ (list_stands P here (at_level st k before IsBefore [] refl) n start first) (keeps_stand core reading P state (last_word first)))
        (turns_at start state test body next ts last k n 0 st)
        (flat here.path _ (both_stand (IsAt here.path) _ _ (list_stands (IsAt here.path) here refl n start first) (keeps_stand core reading (IsAt here.path) state (last_word first))))
        (turns_ordered start state test body next ts last k n 0 st)
    node_ordered (branch test first second) (branch_ran es true x) k n st =
        let here : Standing = inside_at st k (in_turn 0) [] in
        two_lists InPathOrder (IsAt here.path) (IsBelow here.path) (at_then_below here.path) _ _
        (list_stands (IsAt here.path) here refl n test es)
        (node_below first x (suc k) (n + length test) here)
        (flat here.path _ (list_stands (IsAt here.path) here refl n test es))
        (node_ordered first x (suc k) (n + length test) here)
    node_ordered (branch test first second) (branch_ran es false x) k n st =
        let here : Standing = inside_at st k (in_turn 0) [] in
        two_lists InPathOrder (IsAt here.path) (IsBelow here.path) (at_then_below here.path) _ _
        (list_stands (IsAt here.path) here refl n test es)
        (node_below second x (suc k + node_count first) (n + (length test + number_count first)) here)
        (flat here.path _ (list_stands (IsAt here.path) here refl n test es))
        (node_ordered second x (suc k + node_count first) (n + (length test + number_count first)) here)
    node_ordered (load r m spans) (moved ts ws) k n st =
        let P = IsAt st.path in
        flat st.path _ (both_stand P _ _ (spans_stand P st refl n spans ts) (loaded_stands P st refl core (n + spans_size spans) r m (map part_of ts) ws))
    node_ordered (store r m spans) (moved ts ws) k n st =
        let P = IsAt st.path in
        flat st.path _ (both_stand P _ _ (spans_stand P st refl n spans ts) (stored_stands P st refl core (n + spans_size spans) r m (map part_of ts) ws))
    node_ordered (sparse Gather r m (Some p) spans count par) (picked es ws) k n st =
        let P = IsAt st.path in
        flat st.path _ (both_stand P _ _ (list_stands P st refl (n + spans_size spans) count es)
        (picked_stands P st refl core (n + (spans_size spans + length count)) r m p ws _ (gathers_stand P st refl core (n + (spans_size spans + length count)) r m p 0 ws)))
    node_ordered (sparse Scatter r m (Some p) spans count par) (picked es ws) k n st =
        let P = IsAt st.path in
        flat st.path _ (both_stand P _ _ (list_stands P st refl (n + spans_size spans) count es)
        (picked_stands P st refl core (n + (spans_size spans + length count)) r m p ws _ (scatters_stand P st refl core (n + (spans_size spans + length count)) r m p 0 ws)))
    node_ordered (sparse WideStore r m places spans count par) (moved ts ws) k n st =
        let P = IsAt st.path in
        flat st.path _ (both_stand P _ _ (spans_stand P st refl n spans ts) (stored_stands P st refl core (n + (spans_size spans + length count)) r m (map part_of ts) ws))
    node_ordered (sparse WideLoad r m places spans count par) (moved ts ws) k n st =
        let P = IsAt st.path in
        flat st.path _ (both_stand P _ _ (spans_stand P st refl n spans ts) (loaded_stands P st refl core (n + (spans_size spans + length count)) r m (map part_of ts) ws))
    node_ordered (sparse Gather r m (Some p) spans count par) (moved ts ws) k n st =
        let P = IsAt st.path in
        flat st.path _ (both_stand P _ _ (spans_stand P st refl n spans ts) (loaded_stands P st refl core (n + (spans_size spans + length count)) r m (map part_of ts) ws))
    node_ordered (sparse Gather r m None spans count par) (moved ts ws) k n st =
        let P = IsAt st.path in
        flat st.path _ (both_stand P _ _ (spans_stand P st refl n spans ts) (loaded_stands P st refl core (n + (spans_size spans + length count)) r m (map part_of ts) ws))
    node_ordered (sparse Scatter r m (Some p) spans count par) (moved ts ws) k n st =
        let P = IsAt st.path in
        flat st.path _ (both_stand P _ _ (spans_stand P st refl n spans ts) (loaded_stands P st refl core (n + (spans_size spans + length count)) r m (map part_of ts) ws))
    node_ordered (sparse Scatter r m None spans count par) (moved ts ws) k n st =
        let P = IsAt st.path in
        flat st.path _ (both_stand P _ _ (spans_stand P st refl n spans ts) (loaded_stands P st refl core (n + (spans_size spans + length count)) r m (map part_of ts) ws))
    node_ordered (sparse Gather r m None spans count par) (picked es ws) k n st = tt
    node_ordered (sparse Scatter r m None spans count par) (picked es ws) k n st = tt
    node_ordered node h k n st = tt

    groups_ordered : (stages : PlainStages) (groups : Groups) (k n g : ℕ) (st : Standing) (owned : List ℕ) (values : List (List ℤ)) → EachTwo InPathOrder (group_moments core reading stages k n g st owned values groups)
    groups_ordered stages no_group k n g st owned [] = tt
    groups_ordered stages no_group k n g st owned (v ∷ values) = tt
    groups_ordered stages (more_group runs rest) k n g st owned [] = tt
    groups_ordered stages (more_group runs rest) k n g st owned (v ∷ values) =
        let P = IsAtLevel st.path k (InGroup g) in
        two_lists InPathOrder P (IsAtLevel st.path k (InGroupsFrom (suc g))) (levels st.path k (InGroup g) (InGroupsFrom (suc g)) (next_groups g)) _ _
        (both_stand P _ _ (renew_stand P owned) (all_more (IsAtLevel st.path k (InStagesFrom g 0)) P (level_more st.path k (InStagesFrom g 0) (InGroup g) (λ w (r, e, l). (r, e))) _ (stages_at stages runs k n 0 g (suc k) v st)))
        (groups_at stages rest k n (suc g) st owned values)
        (two_lists InPathOrder nowhere_at (IsAtLevel st.path k (InStagesFrom g 0)) (λ s t p q. absurd p) _ _ (renew_stand nowhere_at owned) (stages_at stages runs k n 0 g (suc k) v st) (renewed owned) (stages_ordered stages runs k n 0 g (suc k) v st))
        (groups_ordered stages rest k n (suc g) st owned values)

    stages_ordered : (stages : PlainStages) (runs : Runs) (k n s g j : ℕ) (v : List ℤ) (st : Standing) → EachTwo InPathOrder (stage_moments core reading stages k n s g j v st runs)
    stages_ordered no_stage no_run k n s g j v st = tt
    stages_ordered no_stage (masked_run hs) k n s g j v st = tt
    stages_ordered no_stage (more_run x hs) k n s g j v st = tt
    stages_ordered (more_stage first last comb node rest) no_run k n s g j v st = tt
    stages_ordered (more_stage first last comb node rest) (masked_run hs) k n s g j v st = stages_ordered rest hs k (n + number_count node) (suc s) g (j + node_count node) v st
    stages_ordered (more_stage first last comb node rest) (more_run x hs) k n s g j v st =
        two_lists InPathOrder (IsAtLevel st.path k (InStage g s)) (IsAtLevel st.path k (InStagesFrom g (suc s))) (levels st.path k (InStage g s) (InStagesFrom g (suc s)) (next_stages g s)) _ _
        (all_more (IsBelow (inside_at st k (in_group_of g s) v).path) (IsAtLevel st.path k (InStage g s)) (below_level st k (in_group_of g s) v (InStage g s) refl) _ (node_below node x j n (inside_at st k (in_group_of g s) v)))
        (stages_at rest hs k (n + number_count node) (suc s) g (j + node_count node) v st)
        (node_ordered node x j n (inside_at st k (in_group_of g s) v))
        (stages_ordered rest hs k (n + number_count node) (suc s) g (j + node_count node) v st)

    turns_ordered : (start : List PlainOp) (state : ℕ) (test : List PlainOp) (body : PlainNode) (next : List PlainOp) (ts : Turns) (last : List Entry) (k n t : ℕ) (st : Standing) → EachTwo InPathOrder (turn_moments core reading start state test body next k n t st ts last)
    turns_ordered start state test body next no_turn last k n t st =
        let here : Standing = inside_at st k (in_turn t) [] in
        flat here.path _ (list_stands (IsAt here.path) here refl (n + length start) test last)
    turns_ordered start state test body next (more_turn es x ns rest) last k n t st =
        let here : Standing = inside_at st k (in_turn t) [] in
        let P = IsAtLevel st.path k (InTurn t) in
        let at : IsAt here.path here = refl in
        let inside : P here = at_level st k (in_turn t) (InTurn t) [] refl in
        let tests : AllStand (IsAt here.path) (list_moments (n + length start) here test es) = list_stands (IsAt here.path) here at (n + length start) test es in
        let steps : AllStand (IsAt here.path) (list_moments (n + (length start + (length test + number_count body))) here next ns ++ keeps state (last_word ns) ∷ []) =
        both_stand (IsAt here.path) _ _ (list_stands (IsAt here.path) here at (n + (length start + (length test + number_count body))) next ns) (keeps_stand core reading (IsAt here.path) state (last_word ns)) in
        let runs : AllStand (IsBelow here.path) (moments core reading body (suc k) (n + (length start + length test)) here x) = node_below body x (suc k) (n + (length start + length test)) here in
        let lower : (s : Standing) → IsAt here.path s → IsBelow here.path s = λ s e. record { rest = []; is = e ∙ nothing_more here.path } in
        let later : AllStand (IsBelow here.path) (moments core reading body (suc k) (n + (length start + length test)) here x ++ (list_moments (n + (length start + (length test + number_count body))) here next ns ++ keeps state (last_word ns) ∷ [])) =
        both_stand (IsBelow here.path) _ _ runs (all_more (IsAt here.path) (IsBelow here.path) lower _ steps) in
        two_lists InPathOrder P (IsAtLevel st.path k (InTurnsFrom (suc t))) (levels st.path k (InTurn t) (InTurnsFrom (suc t)) (next_turns t)) _ _
        (all_more (IsBelow here.path) P (below_level st k (in_turn t) [] (InTurn t) refl) _ (both_stand (IsBelow here.path) _ _ (all_more (IsAt here.path) (IsBelow here.path) lower _ tests) later))
        (turns_at start state test body next rest last k n (suc t) st)
        (two_lists InPathOrder (IsAt here.path) (IsBelow here.path) (at_then_below here.path) _ _ tests later (flat here.path _ tests)
        (two_lists InPathOrder (IsBelow here.path) (IsAt here.path) (below_then_at here.path) _ _ runs steps (node_ordered body x (suc k) (n + (length start + length test)) here) (flat here.path _ steps)))
        (turns_ordered start state test body next rest last k n (suc t) st)

  pub runs_ordered : (h : History) → EachTwo (λ s t. AreInOrder s.path t.path) (core_moments core reading h)
  runs_ordered h = node_ordered core.root h 0 0 (record { path = []; counters = [] })

order_here : (w x : When) (k node g i : ℕ) (one : Bool) → IsNoEarlier w x → together_at k w x ≡ in_loop node g i one → g ≤ i
order_here (in_group_of u s) (in_group_of v r) k node g i one h e =
    let first : u ≡ g = cc in
    let second : v ≡ i = cc in
    omega (arith, h, first, second)
order_here (in_turn t) (in_turn u) k node g i one h e = absurd (no_turns (t == u) node g i one e)
order_here before x k node g i one h e = absurd (cc)
order_here (in_group_of u s) before k node g i one h e = absurd (cc)
order_here (in_group_of u s) (in_turn t) k node g i one h e = absurd (cc)
order_here (in_turn t) before k node g i one h e = absurd (cc)
order_here (in_turn t) (in_group_of u s) k node g i one h e = absurd (cc)

pub groups_follow : (core : PlainCore) (p q : List At) (node g i : ℕ) (one : Bool) → AreInOrder p q → together core p q ≡ in_loop node g i one → g ≤ i
groups_follow core [] q node g i one h e = absurd (cc)
groups_follow core (a ∷ p) [] node g i one h e = absurd (cc)
groups_follow core (a ∷ p) (b ∷ q) node g i one h e =
    let chosen = choose ((a.node == b.node) && not (is_in_stream core a.node)) (go_on p q) (is_group a.when b.when) (together core p q) (together_at a.node a.when b.when) node g i one e in
    let node_is : a.node ≡ b.node = eqb-true a.node b.node (and_parts (a.node == b.node) (not (is_in_stream core a.node)) chosen.0).0 in
    elim chosen.1 [
      | inl (group, rest) ↦ groups_follow core p q node g i one (h.1 (same_at a b node_is (same_when a.when b.when group))) rest
      | inr here ↦ order_here a.when b.when a.node node g i one (h.0 node_is) here
    ]
