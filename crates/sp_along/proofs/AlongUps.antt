-- In one group of a loop, and in one turn of an FSM, things are done in the order of the text.
use Rattle.std.proofs.Common.{◌≡◌, ℕ, suc, ◌+◌, ◌<◌, ◌≤◌, true, false, ℤ, List, [], ◌∷◌, ◌++◌, length, map, flat_map, append_assoc, append-nil, Option, Some, None, arith, refl, sym, ◌∙◌, subst}
use Rattle.std.specs.Prelude.{◌==◌}
use Rattle.std.proofs.lemmas.List.Elements.{All-nil}
use Rattle.sp_core.specs.declared.node.SparseKind.TheVariants.{Gather, Scatter, WideLoad, WideStore}
use Rattle.sp_core.specs.Events.{Act, At, When, before, in_group_of, in_turn, Standing, inside_at, Moment, touches, renews, keeps, act_of, event_of, entry_moments, list_moments, bounds_moments, spans_moments, renewal_in_body, body_moments, moments, group_moments, stage_moments, turn_moments, core_moments}
use Rattle.sp_core.specs.History.{Entry, left_out, gave, touched, Bounds, Taken, one, both, last_word, History, Groups, Runs, Turns, inner_ran, outer_ran, fsm_ran, branch_ran, moved, picked, no_group, more_group, no_run, masked_run, more_run, no_turn, more_turn}
use Rattle.sp_core.specs.Meeting.{together}
use Rattle.sp_core.specs.Numbering.{counters_size, spans_size, node_count, number_count, number_count_in}
use Rattle.sp_core.specs.PlainCore.{PlainOp, PlainCounter, PlainSpan, single, range, PlainNode, PlainStages, inner, outer, fsm, branch, load, store, sparse, no_stage, more_stage, PlainCore}
use Rattle.sp_core.specs.Scope.{Reading, loops_of, group_values}
use Rattle.sp_core.specs.Transfers.{part_of}
use Rattle.sp_along.specs.Along.{Named}
use Rattle.sp_along.specs.AlongTextOrder.{EachPair, IsOneRound}
use Rattle.sp_along.proofs.AlongNamed.{AllNamed, none, single_one, loaded_named, stored_named, gathers_named, scatters_named, picked_named, renew_named, renewals_named, keeps_named}
use Rattle.sp_along.proofs.AlongRounds.{IsOtherRound, other_rounds, all_alike, Ordered, joined, weaker}

abbrev Means : Type 1
Means = ℕ → Standing → Type 0

record IsBelow (front : List At) (s : Standing) : Type 0 where
  rest : List At
  is : s.path ≡ front ++ rest

-- at a controller, in some of its rounds
record AtRound (front : List At) (k : ℕ) (A : When → Type 0) (s : Standing) : Type 0 where
  when : When
  rest : List At
  is : s.path ≡ front ++ (record { node = k; when = when } ∷ rest)
  ok : A when

abbrev InGroup : ℕ → When → Type 0
InGroup g w = (r : ℕ) × (w ≡ in_group_of g r)

abbrev InGroupsFrom : ℕ → When → Type 0
InGroupsFrom g w = (i : ℕ) × (r : ℕ) × (w ≡ in_group_of i r) × (g ≤ i)

abbrev InTurn : ℕ → When → Type 0
InTurn t w = w ≡ in_turn t

abbrev InTurnsFrom : ℕ → When → Type 0
InTurnsFrom t w = (u : ℕ) × (w ≡ in_turn u) × (t ≤ u)

next_groups : (g : ℕ) (w x : When) → InGroup g w → InGroupsFrom (suc g) x → IsOtherRound w x
next_groups g w x (s, e) (i, r, f, l) = subst (λ z. IsOtherRound z x) (sym e) (subst (λ z. IsOtherRound (in_group_of g s) z) (sym f) (λ q. absurd (omega (arith, q, l))))

next_turns : (t : ℕ) (w x : When) → InTurn t w → InTurnsFrom (suc t) x → IsOtherRound w x
next_turns t w x e (u, f, l) = subst (λ z. IsOtherRound z x) (sym e) (subst (λ z. IsOtherRound (in_turn t) z) (sym f) (λ q. absurd (omega (arith, q, l))))

group_from : (g : ℕ) (w : When) → InGroup g w → InGroupsFrom g w
group_from g w (r, e) = (g, r, e, omega arith)

groups_from : (g : ℕ) (w : When) → InGroupsFrom (suc g) w → InGroupsFrom g w
groups_from g w (i, r, e, l) = (i, r, e, omega (arith, l))

turn_from : (t : ℕ) (w : When) → InTurn t w → InTurnsFrom t w
turn_from t w e = (t, e, omega arith)

turns_from : (t : ℕ) (w : When) → InTurnsFrom (suc t) w → InTurnsFrom t w
turns_from t w (u, e, l) = (u, e, omega (arith, l))

at_more : (front : List At) (k : ℕ) (A B : When → Type 0) → ((w : When) → A w → B w) → (s : Standing) → AtRound front k A s → AtRound front k B s
at_more front k A B f s a = record { when = a.when; rest = a.rest; is = a.is; ok = f a.when a.ok }

at_here : (st : Standing) (k : ℕ) (w : When) (v : List ℤ) (A : When → Type 0) → A w → AtRound st.path k A (inside_at st k w v)
at_here st k w v A ok = record { when = w; rest = []; is = refl; ok = ok }

at_below : (st : Standing) (k : ℕ) (w : When) (v : List ℤ) (A : When → Type 0) → A w → (s : Standing) → IsBelow (inside_at st k w v).path s → AtRound st.path k A s
at_below st k w v A ok s b = record { when = w; rest = b.rest; is = b.is ∙ append_assoc st.path (record { node = k; when = w } ∷ []) b.rest; ok = ok }

below_here : (st : Standing) (k : ℕ) (w : When) (v : List ℤ) → IsBelow st.path (inside_at st k w v)
below_here st k w v = record { rest = record { node = k; when = w } ∷ []; is = refl }

below_at : (front : List At) (k : ℕ) (A : When → Type 0) (s : Standing) → AtRound front k A s → IsBelow front s
below_at front k A s a = record { rest = record { node = k; when = a.when } ∷ a.rest; is = a.is }

below_more : (st : Standing) (k : ℕ) (w : When) (v : List ℤ) (s : Standing) → IsBelow (inside_at st k w v).path s → IsBelow st.path s
below_more st k w v s b = record { rest = record { node = k; when = w } ∷ b.rest; is = b.is ∙ append_assoc st.path (record { node = k; when = w } ∷ []) b.rest }

it_is : (st : Standing) → IsBelow st.path st
it_is st = record { rest = []; is = sym (append-nil st.path) }

same_number : (k : ℕ) → (k == k) ≡ true
same_number k = grind arith

module _ (core : PlainCore) (reading : Reading) where
  abbrev pub UpTo : ℕ → Standing → ℕ → Standing → Type 0
  UpTo n s m t = IsOneRound (together core s.path t.path) → n ≤ m

  abbrev Goes : Means → List Moment → Type 0
  Goes P ms = Ordered UpTo P ms

  -- numbers below one, and then numbers from it on
  by_number : (P : Means) (mid : ℕ) (xs ys : List Moment) → Goes (λ i s. (i < mid) × P i s) xs → Goes (λ i s. (mid ≤ i) × P i s) ys → Goes P (xs ++ ys)
  by_number P mid xs ys h k = joined UpTo (λ i s. (i < mid) × P i s) (λ i s. (mid ≤ i) × P i s) P (λ i s p. p.1) (λ i s p. p.1) (λ n s m t p q r. omega (arith, p.0, q.0)) xs ys h k

  -- one group or turn, and then others
  by_round : (P : Means) (front : List At) (k : ℕ) (A B : When → Type 0) → ((w x : When) → A w → B x → IsOtherRound w x) → (xs ys : List Moment) → Goes (λ i s. AtRound front k A s × P i s) xs → Goes (λ i s. AtRound front k B s × P i s) ys → Goes P (xs ++ ys)
  by_round P front k A B f xs ys h j =
      joined UpTo (λ i s. AtRound front k A s × P i s) (λ i s. AtRound front k B s × P i s) P (λ i s p. p.1) (λ i s p. p.1) (λ n s m t p q r. absurd (apart s t p.0 q.0 r)) xs ys h j
    where
      apart : (s t : Standing) → AtRound front k A s → AtRound front k B t → IsOneRound (together core s.path t.path) → ⊥
      apart s t a b r =
          other_rounds core front (record { node = k; when = a.when }) (record { node = k; when = b.when }) a.rest b.rest (same_number k) (f a.when b.when a.ok b.ok)
          (subst (λ q. IsOneRound (together core (front ++ (record { node = k; when = a.when } ∷ a.rest)) q)) b.is (subst (λ p. IsOneRound (together core p t.path)) a.is r))

  -- what has no number
  silent : (P : Means) (ms : List Moment) → AllNamed (λ n s. ⊥) ms → Goes P ms
  silent P ms h = weaker UpTo (λ n s. ⊥) P (λ n s e. absurd e) ms (h, all_alike UpTo (λ n s. ⊥) (λ n s m t e f r. absurd e) ms h)

  -- what has one number
  one_number : (P : Means) (n : ℕ) (ms : List Moment) → AllNamed (λ i s. (i ≡ n) × P i s) ms → Goes P ms
  one_number P n ms h = weaker UpTo (λ i s. (i ≡ n) × P i s) P (λ i s p. p.1) ms (h, all_alike UpTo (λ i s. (i ≡ n) × P i s) (λ a s b t p q r. omega (arith, p.0, q.0)) ms h)

  module _ (st : Standing) where
    event_up : (P : Means) (n : ℕ) (m : Option ℕ) (is : List ℕ) (act : Option Act) → P n st → Goes P (event_of n st m is act)
    event_up P n None is None h = (none P, tt)
    event_up P n None is (Some act) h = (none P, tt)
    event_up P n (Some m) is None h = (none P, tt)
    event_up P n (Some m) is (Some act) h =
        let e : Moment = touches (record { number = n; standing = st; mem = m; indices = is; act = act }) in
        (single_one P e h, (All-nil (Named (UpTo n st)), tt))

    entry_up : (P : Means) (n : ℕ) (op : PlainOp) (y : Entry) → P n st → Goes P (entry_moments n st op.kind op.mem y)
    entry_up P n op left_out h = (none P, tt)
    entry_up P n op (gave w) h = (none P, tt)
    entry_up P n op (touched is w) h = event_up P n op.mem is (act_of op.kind w) h

    -- each number of a list, or of bounds, may be used here
    abbrev Between : Means → (from until : ℕ) → Type 0
    Between P from until = (i : ℕ) → from ≤ i → i < until → P i st

    list_up : (P : Means) (n : ℕ) (ops : List PlainOp) (es : List Entry) → Between P n (n + length ops) → Goes P (list_moments n st ops es)
    list_up P n [] es f = (none P, tt)
    list_up P n (op ∷ ops) [] f = (none P, tt)
    list_up P n (op ∷ ops) (y ∷ es) f =
        by_number P (suc n) (entry_moments n st op.kind op.mem y) (list_moments (suc n) st ops es)
        (entry_up (λ i s. (i < suc n) × P i s) n op y (omega arith, f n (omega arith) (omega arith)))
        (list_up (λ i s. (suc n ≤ i) × P i s) (suc n) ops es (λ i a b. (a, f i (omega (arith, a)) (omega (arith, b)))))

    bounds_up : (P : Means) (n : ℕ) (counters : List PlainCounter) (bs : List Bounds) → Between P n (n + counters_size counters) → Goes P (bounds_moments n st counters bs)
    bounds_up P n [] bs f = (none P, tt)
    bounds_up P n (c ∷ counters) [] f = (none P, tt)
    bounds_up P n (c ∷ counters) (b ∷ bs) f =
        let mid = n + (length c.from + length c.until) in
        by_number P mid (list_moments n st c.from b.from ++ list_moments (n + length c.from) st c.until b.until) (bounds_moments mid st counters bs)
        (by_number (λ i s. (i < mid) × P i s) (n + length c.from) (list_moments n st c.from b.from) (list_moments (n + length c.from) st c.until b.until)
        (list_up (λ i s. (i < n + length c.from) × ((i < mid) × P i s)) n c.from b.from (λ i x y. (y, (omega (arith, y), f i x (omega (arith, y))))))
        (list_up (λ i s. (n + length c.from ≤ i) × ((i < mid) × P i s)) (n + length c.from) c.until b.until (λ i x y. (x, (omega (arith, y), f i (omega (arith, x)) (omega (arith, y)))))))
        (bounds_up (λ i s. (mid ≤ i) × P i s) mid counters bs (λ i x y. (x, f i (omega (arith, x)) (omega (arith, y)))))

    spans_up : (P : Means) (n : ℕ) (spans : List PlainSpan) (ts : List Taken) → Between P n (n + spans_size spans) → Goes P (spans_moments n st spans ts)
    spans_up P n [] ts f = (none P, tt)
    spans_up P n (single ops ∷ spans) [] f = (none P, tt)
    spans_up P n (range a b ∷ spans) [] f = (none P, tt)
    spans_up P n (single ops ∷ spans) (both es fs ∷ ts) f = (none P, tt)
    spans_up P n (range a b ∷ spans) (one es ∷ ts) f = (none P, tt)
    spans_up P n (single ops ∷ spans) (one es ∷ ts) f =
        by_number P (n + length ops) (list_moments n st ops es) (spans_moments (n + length ops) st spans ts)
        (list_up (λ i s. (i < n + length ops) × P i s) n ops es (λ i x y. (y, f i x (omega (arith, y)))))
        (spans_up (λ i s. (n + length ops ≤ i) × P i s) (n + length ops) spans ts (λ i x y. (x, f i (omega (arith, x)) (omega (arith, y)))))
    spans_up P n (range a b ∷ spans) (both es fs ∷ ts) f =
        let mid = n + (length a + length b) in
        by_number P mid (list_moments n st a es ++ list_moments (n + length a) st b fs) (spans_moments mid st spans ts)
        (by_number (λ i s. (i < mid) × P i s) (n + length a) (list_moments n st a es) (list_moments (n + length a) st b fs)
        (list_up (λ i s. (i < n + length a) × ((i < mid) × P i s)) n a es (λ i x y. (y, (omega (arith, y), f i x (omega (arith, y))))))
        (list_up (λ i s. (n + length a ≤ i) × ((i < mid) × P i s)) (n + length a) b fs (λ i x y. (x, (omega (arith, y), f i (omega (arith, x)) (omega (arith, y)))))))
        (spans_up (λ i s. (mid ≤ i) × P i s) mid spans ts (λ i x y. (x, f i (omega (arith, x)) (omega (arith, y)))))

  -- spans, and then a transfer of this number
  moved_up : (P : Means) (st : Standing) (n at : ℕ) (spans : List PlainSpan) (ts : List Taken) (ms : List Moment) → n + spans_size spans ≤ at → ((i : ℕ) → n ≤ i → i ≤ at → P i st) → ((Q : Means) → Q at st → AllNamed Q ms) → Goes P (spans_moments n st spans ts ++ ms)
  moved_up P st n at spans ts ms l f words =
      by_number P at (spans_moments n st spans ts) ms
      (spans_up st (λ i s. (i < at) × P i s) n spans ts (λ i x y. (omega (arith, y, l), f i x (omega (arith, y, l)))))
      (one_number (λ i s. (at ≤ i) × P i s) at ms (words (λ i s. (i ≡ at) × ((at ≤ i) × P i s)) (refl, (omega arith, f at (omega (arith, l)) (omega arith)))))

  -- the groups of an inner body
  body_up : (P : Means) (k n g : ℕ) (st : Standing) (owned : List ℕ) (ops : List PlainOp) (values : List (List ℤ)) (groups : List (List Entry)) →
      ((i : ℕ) (s : Standing) → n ≤ i → i < n + length ops → AtRound st.path k (InGroupsFrom g) s → P i s) → Goes P (body_moments core reading k n g st owned ops values groups)
  body_up P k n g st owned ops [] groups f = (none P, tt)
  body_up P k n g st owned ops (v ∷ values) [] f = (none P, tt)
  body_up P k n g st owned ops (v ∷ values) (es ∷ groups) f =
      let here = inside_at st k (in_group_of g 0) v in
      let Q : Means = λ i s. AtRound st.path k (InGroup g) s × P i s in
      let at : AtRound st.path k (InGroup g) here = at_here st k (in_group_of g 0) v (InGroup g) (0, refl) in
      by_round P st.path k (InGroup g) (InGroupsFrom (suc g)) (next_groups g) (flat_map (renewal_in_body core) owned ++ list_moments n here ops es) (body_moments core reading k n (suc g) st owned ops values groups)
      (by_number Q 0 (flat_map (renewal_in_body core) owned) (list_moments n here ops es) (silent (λ i s. (i < 0) × Q i s) (flat_map (renewal_in_body core) owned) (renewals_named (λ n s. ⊥) core owned))
      (list_up here (λ i s. (0 ≤ i) × Q i s) n ops es (λ i a b. (omega arith, (at, f i here a b (at_more st.path k (InGroup g) (InGroupsFrom g) (group_from g) here at))))))
      (body_up (λ i s. AtRound st.path k (InGroupsFrom (suc g)) s × P i s) k n (suc g) st owned ops values groups (λ i s a b c. (c, f i s a b (at_more st.path k (InGroupsFrom (suc g)) (InGroupsFrom g) (groups_from g) s c))))

  one_after : (n a b i : ℕ) → i < n + a → i < n + (a + b)
  one_after n a b i h = omega (arith, h)

  mutual
    unfolding moments group_moments stage_moments turn_moments

    node_up : (P : Means) (node : PlainNode) (h : History) (k n : ℕ) (st : Standing) → ((i : ℕ) (s : Standing) → n ≤ i → i < n + number_count node → IsBelow st.path s → P i s) → Goes P (moments core reading node k n st h)
    node_up P (inner counters owned ops comb) (inner_ran bs counts groups) k n st f =
        let here = inside_at st k before [] in
        let mid = n + counters_size counters in
        by_number P mid (bounds_moments n here counters bs) (body_moments core reading k mid 0 st owned ops (group_values (loops_of reading counters bs)) groups)
        (bounds_up here (λ i s. (i < mid) × P i s) n counters bs (λ i a b. (b, f i here a (omega (arith, b)) (below_here st k before []))))
        (body_up (λ i s. (mid ≤ i) × P i s) k mid 0 st owned ops (group_values (loops_of reading counters bs)) groups (λ i s a b c. (a, f i s (omega (arith, a)) (omega (arith, b)) (below_at st.path k (InGroupsFrom 0) s c))))
    node_up P (outer counters style owned stages) (outer_ran bs counts groups) k n st f =
        let here = inside_at st k before [] in
        let mid = n + counters_size counters in
        by_number P mid (bounds_moments n here counters bs) (group_moments core reading stages k mid 0 st owned (group_values (loops_of reading counters bs)) groups)
        (bounds_up here (λ i s. (i < mid) × P i s) n counters bs (λ i a b. (b, f i here a (omega (arith, b)) (below_here st k before []))))
        (groups_up (λ i s. (mid ≤ i) × P i s) stages groups k mid 0 st owned (group_values (loops_of reading counters bs)) (λ i s a b c. (a, f i s (omega (arith, a)) (omega (arith, b)) (below_at st.path k (InGroupsFrom 0) s c))))
    node_up P (fsm start state test body next) (fsm_ran first ts last) k n st f =
        let here = inside_at st k before [] in
        let mid = n + length start in
        by_number P mid (list_moments n here start first ++ keeps state (last_word first) ∷ []) (turn_moments core reading start state test body next k n 0 st ts last)
        (by_number (λ i s. (i < mid) × P i s) mid (list_moments n here start first) (keeps state (last_word first) ∷ [])
        (list_up here (λ i s. (i < mid) × ((i < mid) × P i s)) n start first (λ i a b. (b, (b, f i here a (omega (arith, b)) (below_here st k before [])))))
        (silent (λ i s. (mid ≤ i) × ((i < mid) × P i s)) (keeps state (last_word first) ∷ []) (keeps_named (λ n s. ⊥) state (last_word first))))
        (turns_up (λ i s. (mid ≤ i) × P i s) start state test body next ts last k n 0 st (λ i s a b c. (a, f i s (omega (arith, a)) (omega (arith, b)) (below_at st.path k (InTurnsFrom 0) s c))))
    node_up P (branch test first second) (branch_ran es true x) k n st f =
        let here = inside_at st k (in_turn 0) [] in
        let mid = n + length test in
        by_number P mid (list_moments n here test es) (moments core reading first (suc k) mid here x)
        (list_up here (λ i s. (i < mid) × P i s) n test es (λ i a b. (b, f i here a (omega (arith, b)) (below_here st k (in_turn 0) []))))
        (node_up (λ i s. (mid ≤ i) × P i s) first x (suc k) mid here (λ i s a b c. (a, f i s (omega (arith, a)) (omega (arith, b)) (below_more st k (in_turn 0) [] s c))))
    node_up P (branch test first second) (branch_ran es false x) k n st f =
        let here = inside_at st k (in_turn 0) [] in
        let mid = n + (length test + number_count first) in
        by_number P mid (list_moments n here test es) (moments core reading second (suc k + node_count first) mid here x)
        (list_up here (λ i s. (i < mid) × P i s) n test es (λ i a b. (omega (arith, b), f i here a (omega (arith, b)) (below_here st k (in_turn 0) []))))
        (node_up (λ i s. (mid ≤ i) × P i s) second x (suc k + node_count first) mid here (λ i s a b c. (a, f i s (omega (arith, a)) (omega (arith, b)) (below_more st k (in_turn 0) [] s c))))
    node_up P (load r m spans) (moved ts ws) k n st f =
        let at = n + spans_size spans in
        moved_up P st n at spans ts _ (omega arith) (λ i a b. f i st a (omega (arith, b)) (it_is st)) (λ Q q. loaded_named Q core at st q r m (map part_of ts) ws)
    node_up P (store r m spans) (moved ts ws) k n st f =
        let at = n + spans_size spans in
        moved_up P st n at spans ts _ (omega arith) (λ i a b. f i st a (omega (arith, b)) (it_is st)) (λ Q q. stored_named Q core at st q r m (map part_of ts) ws)
    node_up P (sparse Gather r m (Some p) spans count par) (picked es ws) k n st f =
        let at = n + (spans_size spans + length count) in
        by_number P at (list_moments (n + spans_size spans) st count es) _
        (list_up st (λ i s. (i < at) × P i s) (n + spans_size spans) count es (λ i a b. (omega (arith, b), f i st (omega (arith, a)) (omega (arith, b)) (it_is st))))
        (one_number (λ i s. (at ≤ i) × P i s) at _
        (picked_named (λ i s. (i ≡ at) × ((at ≤ i) × P i s)) core at st (refl, (omega arith, f at st (omega arith) (omega arith) (it_is st))) r m p ws _
        (gathers_named (λ i s. (i ≡ at) × ((at ≤ i) × P i s)) core at st (refl, (omega arith, f at st (omega arith) (omega arith) (it_is st))) r m p 0 ws)))
    node_up P (sparse Scatter r m (Some p) spans count par) (picked es ws) k n st f =
        let at = n + (spans_size spans + length count) in
        by_number P at (list_moments (n + spans_size spans) st count es) _
        (list_up st (λ i s. (i < at) × P i s) (n + spans_size spans) count es (λ i a b. (omega (arith, b), f i st (omega (arith, a)) (omega (arith, b)) (it_is st))))
        (one_number (λ i s. (at ≤ i) × P i s) at _
        (picked_named (λ i s. (i ≡ at) × ((at ≤ i) × P i s)) core at st (refl, (omega arith, f at st (omega arith) (omega arith) (it_is st))) r m p ws _
        (scatters_named (λ i s. (i ≡ at) × ((at ≤ i) × P i s)) core at st (refl, (omega arith, f at st (omega arith) (omega arith) (it_is st))) r m p 0 ws)))
    node_up P (sparse WideStore r m q spans count par) (moved ts ws) k n st f =
        let at = n + (spans_size spans + length count) in
        moved_up P st n at spans ts _ (omega arith) (λ i a b. f i st a (omega (arith, b)) (it_is st)) (λ Q q. stored_named Q core at st q r m (map part_of ts) ws)
    node_up P (sparse WideLoad r m q spans count par) (moved ts ws) k n st f =
        let at = n + (spans_size spans + length count) in
        moved_up P st n at spans ts _ (omega arith) (λ i a b. f i st a (omega (arith, b)) (it_is st)) (λ Q q. loaded_named Q core at st q r m (map part_of ts) ws)
    node_up P (sparse Gather r m (Some q) spans count par) (moved ts ws) k n st f =
        let at = n + (spans_size spans + length count) in
        moved_up P st n at spans ts _ (omega arith) (λ i a b. f i st a (omega (arith, b)) (it_is st)) (λ Q q. loaded_named Q core at st q r m (map part_of ts) ws)
    node_up P (sparse Gather r m None spans count par) (moved ts ws) k n st f =
        let at = n + (spans_size spans + length count) in
        moved_up P st n at spans ts _ (omega arith) (λ i a b. f i st a (omega (arith, b)) (it_is st)) (λ Q q. loaded_named Q core at st q r m (map part_of ts) ws)
    node_up P (sparse Scatter r m (Some q) spans count par) (moved ts ws) k n st f =
        let at = n + (spans_size spans + length count) in
        moved_up P st n at spans ts _ (omega arith) (λ i a b. f i st a (omega (arith, b)) (it_is st)) (λ Q q. loaded_named Q core at st q r m (map part_of ts) ws)
    node_up P (sparse Scatter r m None spans count par) (moved ts ws) k n st f =
        let at = n + (spans_size spans + length count) in
        moved_up P st n at spans ts _ (omega arith) (λ i a b. f i st a (omega (arith, b)) (it_is st)) (λ Q q. loaded_named Q core at st q r m (map part_of ts) ws)
    node_up P (sparse Gather r m None spans count par) (picked es ws) k n st f = (none P, tt)
    node_up P (sparse Scatter r m None spans count par) (picked es ws) k n st f = (none P, tt)
    node_up P node h k n st f = (none P, tt)

    groups_up : (P : Means) (stages : PlainStages) (groups : Groups) (k n g : ℕ) (st : Standing) (owned : List ℕ) (values : List (List ℤ)) →
        ((i : ℕ) (s : Standing) → n ≤ i → i < n + number_count_in stages → AtRound st.path k (InGroupsFrom g) s → P i s) → Goes P (group_moments core reading stages k n g st owned values groups)
    groups_up P stages no_group k n g st owned [] f = (none P, tt)
    groups_up P stages no_group k n g st owned (v ∷ values) f = (none P, tt)
    groups_up P stages (more_group runs rest) k n g st owned [] f = (none P, tt)
    groups_up P stages (more_group runs rest) k n g st owned (v ∷ values) f =
        let Q : Means = λ i s. AtRound st.path k (InGroup g) s × P i s in
        by_round P st.path k (InGroup g) (InGroupsFrom (suc g)) (next_groups g) (map renews owned ++ stage_moments core reading stages k n 0 g (suc k) v st runs) (group_moments core reading stages k n (suc g) st owned values rest)
        (by_number Q 0 (map renews owned) (stage_moments core reading stages k n 0 g (suc k) v st runs) (silent (λ i s. (i < 0) × Q i s) (map renews owned) (renew_named (λ n s. ⊥) owned))
        (stages_up (λ i s. (0 ≤ i) × Q i s) stages runs k n 0 g (suc k) v st (λ i s a b c. (omega arith, (c, f i s a b (at_more st.path k (InGroup g) (InGroupsFrom g) (group_from g) s c))))))
        (groups_up (λ i s. AtRound st.path k (InGroupsFrom (suc g)) s × P i s) stages rest k n (suc g) st owned values (λ i s a b c. (c, f i s a b (at_more st.path k (InGroupsFrom (suc g)) (InGroupsFrom g) (groups_from g) s c))))

    stages_up : (P : Means) (stages : PlainStages) (runs : Runs) (k n s g j : ℕ) (v : List ℤ) (st : Standing) →
        ((i : ℕ) (x : Standing) → n ≤ i → i < n + number_count_in stages → AtRound st.path k (InGroup g) x → P i x) → Goes P (stage_moments core reading stages k n s g j v st runs)
    stages_up P no_stage no_run k n s g j v st f = (none P, tt)
    stages_up P no_stage (masked_run hs) k n s g j v st f = (none P, tt)
    stages_up P no_stage (more_run x hs) k n s g j v st f = (none P, tt)
    stages_up P (more_stage first last comb node rest) no_run k n s g j v st f = (none P, tt)
    stages_up P (more_stage first last comb node rest) (masked_run hs) k n s g j v st f =
        stages_up P rest hs k (n + number_count node) (suc s) g (j + node_count node) v st (λ i x a b c. f i x (omega (arith, a)) (omega (arith, b)) c)
    stages_up P (more_stage first last comb node rest) (more_run x hs) k n s g j v st f =
        let mid = n + number_count node in
        by_number P mid (moments core reading node j n (inside_at st k (in_group_of g s) v) x) (stage_moments core reading rest k mid (suc s) g (j + node_count node) v st hs)
        (node_up (λ i z. (i < mid) × P i z) node x j n (inside_at st k (in_group_of g s) v) (λ i z a b c. (b, f i z a (omega (arith, b)) (at_below st k (in_group_of g s) v (InGroup g) (s, refl) z c))))
        (stages_up (λ i z. (mid ≤ i) × P i z) rest hs k mid (suc s) g (j + node_count node) v st (λ i z a b c. (a, f i z (omega (arith, a)) (omega (arith, b)) c)))

    -- from the test on
    turns_up : (P : Means) (start : List PlainOp) (state : ℕ) (test : List PlainOp) (body : PlainNode) (next : List PlainOp) (ts : Turns) (last : List Entry) (k n t : ℕ) (st : Standing) →
        ((i : ℕ) (s : Standing) → n + length start ≤ i → i < n + ((length start + length test) + (number_count body + length next)) → AtRound st.path k (InTurnsFrom t) s → P i s) →
        Goes P (turn_moments core reading start state test body next k n t st ts last)
    turns_up P start state test body next no_turn last k n t st f =
        let here = inside_at st k (in_turn t) [] in
        list_up here P (n + length start) test last (λ i a b. f i here a (omega (arith, b)) (at_here st k (in_turn t) [] (InTurnsFrom t) (t, refl, omega arith)))
    turns_up P start state test body next (more_turn es x ns rest) last k n t st f =
        let here = inside_at st k (in_turn t) [] in
        let Q : Means = λ i s. AtRound st.path k (InTurn t) s × P i s in
        let first = n + (length start + length test) in
        let second = n + (length start + (length test + number_count body)) in
        let at : AtRound st.path k (InTurn t) here = at_here st k (in_turn t) [] (InTurn t) refl in
        let so : (i : ℕ) → n + length start ≤ i → i < n + ((length start + length test) + (number_count body + length next)) → Q i here = λ i a b. (at, f i here a b (at_more st.path k (InTurn t) (InTurnsFrom t) (turn_from t) here at)) in
        by_round P st.path k (InTurn t) (InTurnsFrom (suc t)) (next_turns t) _ (turn_moments core reading start state test body next k n (suc t) st rest last)
        (by_number Q first (list_moments (n + length start) here test es) _
        (list_up here (λ i s. (i < first) × Q i s) (n + length start) test es (λ i a b. (omega (arith, b), so i a (omega (arith, b)))))
        (by_number (λ i s. (first ≤ i) × Q i s) second (moments core reading body (suc k) first here x) _
        (node_up (λ i s. (i < second) × ((first ≤ i) × Q i s)) body x (suc k) first here
        (λ i s a b c. let z : AtRound st.path k (InTurn t) s = at_below st k (in_turn t) [] (InTurn t) refl s c in (omega (arith, b), (a, (z, f i s (omega (arith, a)) (omega (arith, b)) (at_more st.path k (InTurn t) (InTurnsFrom t) (turn_from t) s z))))))
        (by_number (λ i s. (second ≤ i) × ((first ≤ i) × Q i s)) (second + length next) (list_moments second here next ns) (keeps state (last_word ns) ∷ [])
        (list_up here (λ i s. (i < second + length next) × ((second ≤ i) × ((first ≤ i) × Q i s))) second next ns (λ i a b. (b, (a, (omega (arith, a), so i (omega (arith, a)) (omega (arith, b)))))))
        (silent (λ i s. (second + length next ≤ i) × ((second ≤ i) × ((first ≤ i) × Q i s))) (keeps state (last_word ns) ∷ []) (keeps_named (λ n s. ⊥) state (last_word ns))))))
        (turns_up (λ i s. AtRound st.path k (InTurnsFrom (suc t)) s × P i s) start state test body next rest last k n (suc t) st (λ i s a b c. (c, f i s a b (at_more st.path k (InTurnsFrom (suc t)) (InTurnsFrom t) (turns_from t) s c))))

  pub runs_up : (h : History) → EachPair UpTo (core_moments core reading h)
  runs_up h = (node_up (λ i s. Unit {0}) core.root h 0 0 (record { path = []; counters = [] }) (λ i s a b c. tt)).1
