-- Each event of a run is of an operation, or of a load or a store that does what such a transfer does. One induction over the tree.
use Rattle.std.proofs.Common.{◌≡◌, ◌⊎◌, ℕ, suc, ◌+◌, inl, inr, Bool, true, false, ℤ, List, [], ◌∷◌, ◌++◌, map, length, Option, Some, None, refl, sym, subst, arith}
use Rattle.std.specs.Prelude.{flat_map}
use Rattle.sp_words.specs.declared.kind.Kind.{Kind}
use Rattle.sp_words.specs.declared.kind.Kind.TheVariants.{Reg, Sram, Fifo, LineBuf, Dram, ArgIn, ArgOut}
use Rattle.sp_core.specs.Declarations.{mem, kind_of}
use Rattle.sp_core.specs.Events.{Act, act_of, Standing, inside_at, before, in_group_of, in_turn, Moment, touches, slices, renews, keeps, first_of, event_of, entry_moments, list_moments, bounds_moments, spans_moments, rows_turn, load_moments, store_moments, slice_moments, loaded, stored, renewal_in_body, body_moments, moments, group_moments, stage_moments, turn_moments}
use Rattle.sp_core.specs.History.{Entry, left_out, gave, touched, last_word, Bounds, Taken, one, both, History, Groups, Runs, Turns, inner_ran, outer_ran, fsm_ran, branch_ran, moved, no_group, more_group, no_run, masked_run, more_run, no_turn, more_turn}
use Rattle.sp_core.specs.Numbering.{counters_size, spans_size, node_count, number_count}
use Rattle.sp_core.specs.PlainCore.{PlainOp, PlainCounter, PlainSpan, single, range, PlainNode, PlainStages, inner, outer, fsm, branch, load, store, sparse, no_stage, more_stage, PlainCore}
use Rattle.sp_core.specs.Scope.{in_lanes, loops_of, group_values}
use Rattle.sp_core.specs.Sequential.{has_reset}
use Rattle.sp_core.specs.Transfers.{Part, part_of, lengths, has_none, all_offsets}
use Rattle.sp_plan.specs.PlainPlan.{PlainPlan}
use Rattle.sp_time.specs.Lists.{Each}
use Rattle.sp_machine.specs.Laws.{told, TellsAll}
use Rattle.sp_machine.specs.Stamps.{Stamped}
use Rattle.sp_machine.specs.Timeline.{core_timed}
use Rattle.sp_machine.specs.Transfers.{Delays}
use Rattle.sp_overlap.specs.Whole.{IsTimed, AreTimed}
use Rattle.sp_tree_events.specs.ToldItems.{Item, operation, transfer, ListHas, CountersHave, SpansHave, NodeHas, StagesHave}
use Rattle.sp_dram_words.specs.Moves.{Move, loads, stores, NodeMoves, StagesMove, MovesIn, IsActed, TimelinesAreActed}

each_append : {A : Type 0} (Q : A → Type 0) (xs ys : List A) → Each Q xs → Each Q ys → Each Q (xs ++ ys)
each_append Q [] ys h k = k
each_append Q (x ∷ xs) ys h k = (h.0, each_append Q xs ys h.1 k)

module _ (core : PlainCore) where
  -- what is said of a moment by the operations and the moves at numbers
  abbrev IsOf : (ℕ → Item → Type 0) → (ℕ → Move → Type 0) → Moment → Type 0
  IsOf Has Moves (touches e) = ((op : PlainOp) × Has e.number (operation op) × (op.mem ≡ Some e.mem)) ⊎ ((v : Move) × Moves e.number v × MovesIn core v e)
  IsOf Has Moves _ = Unit {0}

  abbrev AreOf : (ℕ → Item → Type 0) → (ℕ → Move → Type 0) → List Moment → Type 0
  AreOf Has Moves ms = Each (IsOf Has Moves) ms

  abbrev Holds : (Has More : ℕ → Item → Type 0) → Type 0
  Holds Has More = (x : ℕ) (i : Item) → Has x i → More x i

  abbrev Goes : (Has More : ℕ → Move → Type 0) → Type 0
  Goes Has More = (x : ℕ) (v : Move) → Has x v → More x v

  join : (More : ℕ → Item → Type 0) (Moves : ℕ → Move → Type 0) (a b : List Moment) → AreOf More Moves a → AreOf More Moves b → AreOf More Moves (a ++ b)
  join More Moves a b h k = each_append (IsOf More Moves) a b h k

  event_has : (More : ℕ → Item → Type 0) (Moves : ℕ → Move → Type 0) (n : ℕ) (st : Standing) (op : PlainOp) (is : List ℕ) → More n (operation op) → (m : Option ℕ) (a : Option Act) → op.mem ≡ m → AreOf More Moves (event_of n st m is a)
  event_has More Moves n st op is has None a e = tt
  event_has More Moves n st op is has (Some m) None e = tt
  event_has More Moves n st op is has (Some m) (Some a) e = (inl (op, has, e), tt)

  entry_has : (More : ℕ → Item → Type 0) (Moves : ℕ → Move → Type 0) (n : ℕ) (st : Standing) (op : PlainOp) (e : Entry) → More n (operation op) → AreOf More Moves (entry_moments n st op.kind op.mem e)
  entry_has More Moves n st op left_out has = tt
  entry_has More Moves n st op (gave w) has = tt
  entry_has More Moves n st op (touched is w) has = event_has More Moves n st op is has op.mem (act_of op.kind w) refl

  list_later : (op : PlainOp) (ops : List PlainOp) (n x : ℕ) (i : Item) → ListHas ops (suc n) x i → ListHas (op ∷ ops) n x i
  list_later op ops n x (operation o) h = record { place = suc h.place; within = (let l = h.within in omega (arith, l)); is = h.is; numbered = (let e = h.numbered in omega (arith, e)) }
  list_later op ops n x (transfer r m) h = h

  list_first : (op : PlainOp) (ops : List PlainOp) (n : ℕ) → ListHas (op ∷ ops) n n (operation op)
  list_first op ops n = record { place = 0; within = omega arith; is = refl; numbered = omega arith }

  list_has : (More : ℕ → Item → Type 0) (Moves : ℕ → Move → Type 0) (ops : List PlainOp) (es : List Entry) (n : ℕ) (st : Standing) → Holds (ListHas ops n) More → AreOf More Moves (list_moments n st ops es)
  list_has More Moves [] es n st into = tt
  list_has More Moves (op ∷ ops) [] n st into = tt
  list_has More Moves (op ∷ ops) (e ∷ es) n st into =
      join More Moves (entry_moments n st op.kind op.mem e) (list_moments (suc n) st ops es) (entry_has More Moves n st op e (into n (operation op) (list_first op ops n)))
      (list_has More Moves ops es (suc n) st (λ x i h. into x i (list_later op ops n x i h)))

  bounds_has : (More : ℕ → Item → Type 0) (Moves : ℕ → Move → Type 0) (counters : List PlainCounter) (bs : List Bounds) (n : ℕ) (st : Standing) → Holds (CountersHave counters n) More → AreOf More Moves (bounds_moments n st counters bs)
  bounds_has More Moves [] bs n st into = tt
  bounds_has More Moves (c ∷ counters) [] n st into = tt
  bounds_has More Moves (c ∷ counters) (b ∷ bs) n st into =
      join More Moves (list_moments n st c.from b.from ++ list_moments (n + length c.from) st c.until b.until) (bounds_moments (n + (length c.from + length c.until)) st counters bs)
      (join More Moves (list_moments n st c.from b.from) (list_moments (n + length c.from) st c.until b.until)
      (list_has More Moves c.from b.from n st (λ x i h. into x i (inl (inl h)))) (list_has More Moves c.until b.until (n + length c.from) st (λ x i h. into x i (inl (inr h)))))
      (bounds_has More Moves counters bs (n + (length c.from + length c.until)) st (λ x i h. into x i (inr h)))

  spans_has : (More : ℕ → Item → Type 0) (Moves : ℕ → Move → Type 0) (spans : List PlainSpan) (ts : List Taken) (n : ℕ) (st : Standing) → Holds (SpansHave spans n) More → AreOf More Moves (spans_moments n st spans ts)
  spans_has More Moves [] ts n st into = tt
  spans_has More Moves (single ops ∷ spans) [] n st into = tt
  spans_has More Moves (single ops ∷ spans) (one es ∷ ts) n st into =
      join More Moves (list_moments n st ops es) (spans_moments (n + length ops) st spans ts) (list_has More Moves ops es n st (λ x i h. into x i (inl h))) (spans_has More Moves spans ts (n + length ops) st (λ x i h. into x i (inr h)))
  spans_has More Moves (single ops ∷ spans) (both es fs ∷ ts) n st into = tt
  spans_has More Moves (range a b ∷ spans) [] n st into = tt
  spans_has More Moves (range a b ∷ spans) (one es ∷ ts) n st into = tt
  spans_has More Moves (range a b ∷ spans) (both es fs ∷ ts) n st into =
      join More Moves (list_moments n st a es ++ list_moments (n + length a) st b fs) (spans_moments (n + (length a + length b)) st spans ts)
      (join More Moves (list_moments n st a es) (list_moments (n + length a) st b fs) (list_has More Moves a es n st (λ x i h. into x i (inl (inl h)))) (list_has More Moves b fs (n + length a) st (λ x i h. into x i (inl (inr h)))))
      (spans_has More Moves spans ts (n + (length a + length b)) st (λ x i h. into x i (inr h)))

  -- a load, and a store
  module _ (More : ℕ → Item → Type 0) (Moves : ℕ → Move → Type 0) (n r m : ℕ) (st : Standing) where
    load_has : Moves n (loads r m) → (parts : List Part) (offsets : List (List ℕ)) (ws : List ℕ) → AreOf More Moves (load_moments core n st r m parts offsets ws)
    load_has here parts [] ws = tt
    load_has here parts (o ∷ offsets) [] = tt
    load_has here parts (o ∷ offsets) (w ∷ ws) = (inr (loads r m, here, inl (refl, w, refl)), (inr (loads r m, here, inr (refl, refl)), load_has here parts offsets ws))

    store_has : Moves n (stores r m) → (parts : List Part) (offsets : List (List ℕ)) (ws : List ℕ) → AreOf More Moves (store_moments core n st r m parts offsets ws)
    store_has here parts [] ws = tt
    store_has here parts (o ∷ offsets) [] = tt
    store_has here parts (o ∷ offsets) (w ∷ ws) = (inr (stores r m, here, inl (refl, w, refl)), (inr (stores r m, here, inr (refl, w, refl)), store_has here parts offsets ws))

    rows_has : Moves n (loads r m) → (k : Kind) → AreOf More Moves (rows_turn core n st k m)
    rows_has here Reg = tt
    rows_has here Sram = tt
    rows_has here Fifo = tt
    rows_has here LineBuf = (inr (loads r m, here, inr (refl, refl)), tt)
    rows_has here Dram = tt
    rows_has here ArgIn = tt
    rows_has here ArgOut = tt

    slice_has : (parts : List Part) (ms : List Moment) → AreOf More Moves ms → AreOf More Moves (slice_moments core n st parts ms)
    slice_has parts ms h = by (has_none (lengths parts))
      where
        by : (b : Bool) → AreOf More Moves (elim b as (λ _. List Moment) [ true ↦ [] | false ↦ slices (record { number = n; standing = st; firsts = map first_of parts; lengths = lengths parts }) ∷ ms ])
        by true = tt
        by false = (tt, h)

    loaded_has : Moves n (loads r m) → (parts : List Part) (ws : List ℕ) → AreOf More Moves (loaded core n st r m parts ws)
    loaded_has here parts ws =
        slice_has parts _ (join More Moves (rows_turn core n st (kind_of core m) m) (load_moments core n st r m parts (all_offsets parts) ws) (rows_has here (kind_of core m)) (load_has here parts (all_offsets parts) ws))

    stored_has : Moves n (stores r m) → (parts : List Part) (ws : List ℕ) → AreOf More Moves (stored core n st r m parts ws)
    stored_has here parts ws = slice_has parts _ (store_has here parts (all_offsets parts) ws)

  -- what an owner makes fresh is no event
  renewal_has : (More : ℕ → Item → Type 0) (Moves : ℕ → Move → Type 0) (m : ℕ) → AreOf More Moves (renewal_in_body core m)
  renewal_has More Moves m = by (has_reset (mem core m).kind (mem core m).start)
    where
      by : (b : Bool) → AreOf More Moves (elim b as (λ _. List Moment) [ true ↦ [] | false ↦ renews m ∷ [] ])
      by true = tt
      by false = (tt, tt)

  renewals_have : (More : ℕ → Item → Type 0) (Moves : ℕ → Move → Type 0) (owned : List ℕ) → AreOf More Moves (flat_map (renewal_in_body core) owned)
  renewals_have More Moves [] = tt
  renewals_have More Moves (m ∷ owned) = join More Moves (renewal_in_body core m) (flat_map (renewal_in_body core) owned) (renewal_has More Moves m) (renewals_have More Moves owned)

  renews_have : (More : ℕ → Item → Type 0) (Moves : ℕ → Move → Type 0) (owned : List ℕ) → AreOf More Moves (map renews owned)
  renews_have More Moves [] = tt
  renews_have More Moves (m ∷ owned) = (tt, renews_have More Moves owned)

  body_has : (More : ℕ → Item → Type 0) (Moves : ℕ → Move → Type 0) (ops : List PlainOp) (k n : ℕ) → Holds (ListHas ops n) More → (g : ℕ) (st : Standing) (owned : List ℕ) (values : List (List ℤ)) (groups : List (List Entry)) → AreOf More Moves (body_moments core in_lanes k n g st owned ops values groups)
  body_has More Moves ops k n into g st owned [] groups = tt
  body_has More Moves ops k n into g st owned (v ∷ values) [] = tt
  body_has More Moves ops k n into g st owned (v ∷ values) (es ∷ groups) =
      join More Moves (flat_map (renewal_in_body core) owned ++ list_moments n (inside_at st k (in_group_of g 0) v) ops es) (body_moments core in_lanes k n (suc g) st owned ops values groups)
      (join More Moves (flat_map (renewal_in_body core) owned) (list_moments n (inside_at st k (in_group_of g 0) v) ops es) (renewals_have More Moves owned) (list_has More Moves ops es n (inside_at st k (in_group_of g 0) v) into))
      (body_has More Moves ops k n into (suc g) st owned values groups)

  mutual
    unfolding moments group_moments stage_moments turn_moments

    node_has : (node : PlainNode) (k n : ℕ) (st : Standing) (h : History) → IsTimed node → (More : ℕ → Item → Type 0) (Moves : ℕ → Move → Type 0) → Holds (NodeHas node n) More → Goes (NodeMoves node n) Moves → AreOf More Moves (moments core in_lanes node k n st h)
    node_has (inner counters owned ops comb) k n st (inner_ran bs counts groups) timed More Moves into going =
        join More Moves (bounds_moments n (inside_at st k before []) counters bs) (body_moments core in_lanes k (n + counters_size counters) 0 st owned ops (group_values (loops_of in_lanes counters bs)) groups)
        (bounds_has More Moves counters bs n (inside_at st k before []) (λ x i h. into x i (inl h))) (body_has More Moves ops k (n + counters_size counters) (λ x i h. into x i (inr h)) 0 st owned (group_values (loops_of in_lanes counters bs)) groups)
    node_has (outer counters style owned stages) k n st (outer_ran bs counts groups) timed More Moves into going =
        join More Moves (bounds_moments n (inside_at st k before []) counters bs) (group_moments core in_lanes stages k (n + counters_size counters) 0 st owned (group_values (loops_of in_lanes counters bs)) groups)
        (bounds_has More Moves counters bs n (inside_at st k before []) (λ x i h. into x i (inl h)))
        (groups_have stages k (n + counters_size counters) 0 st owned (group_values (loops_of in_lanes counters bs)) groups timed.1 More Moves (λ x i h. into x i (inr h)) going)
    node_has (fsm start state test body next) k n st (fsm_ran first ts last) timed More Moves into going =
        join More Moves (list_moments n (inside_at st k before []) start first ++ keeps state (last_word first) ∷ []) (turn_moments core in_lanes start state test body next k n 0 st ts last)
        (join More Moves (list_moments n (inside_at st k before []) start first) (keeps state (last_word first) ∷ []) (list_has More Moves start first n (inside_at st k before []) (λ x i h. into x i (inl (inl h)))) (tt, tt))
        (turns_have start state test body next k n 0 st ts last timed More Moves into going)
    node_has (branch test first second) k n st (branch_ran es true h) timed More Moves into going =
        join More Moves (list_moments n (inside_at st k (in_turn 0) []) test es) (moments core in_lanes first (suc k) (n + length test) (inside_at st k (in_turn 0) []) h)
        (list_has More Moves test es n (inside_at st k (in_turn 0) []) (λ x i h. into x i (inl h))) (node_has first (suc k) (n + length test) (inside_at st k (in_turn 0) []) h timed.0 More Moves (λ x i h. into x i (inr (inl h))) (λ x v q. going x v (inl q)))
    node_has (branch test first second) k n st (branch_ran es false h) timed More Moves into going =
        join More Moves (list_moments n (inside_at st k (in_turn 0) []) test es) (moments core in_lanes second (suc k + node_count first) (n + (length test + number_count first)) (inside_at st k (in_turn 0) []) h)
        (list_has More Moves test es n (inside_at st k (in_turn 0) []) (λ x i h. into x i (inl h))) (node_has second (suc k + node_count first) (n + (length test + number_count first)) (inside_at st k (in_turn 0) []) h timed.1 More Moves (λ x i h. into x i (inr (inr h))) (λ x v q. going x v (inr q)))
    node_has (load r m spans) k n st (moved taken words) timed More Moves into going =
        join More Moves (spans_moments n st spans taken) (loaded core (n + spans_size spans) st r m (map part_of taken) words)
        (spans_has More Moves spans taken n st (λ x i h. into x i (inl h))) (loaded_has More Moves (n + spans_size spans) r m st (going (n + spans_size spans) (loads r m) (refl, refl)) (map part_of taken) words)
    node_has (store r m spans) k n st (moved taken words) timed More Moves into going =
        join More Moves (spans_moments n st spans taken) (stored core (n + spans_size spans) st r m (map part_of taken) words)
        (spans_has More Moves spans taken n st (λ x i h. into x i (inl h))) (stored_has More Moves (n + spans_size spans) r m st (going (n + spans_size spans) (stores r m) (refl, refl)) (map part_of taken) words)
    node_has (sparse kind r m places spans count par) k n st h timed More Moves into going = absurd timed
    node_has node k n st h timed More Moves into going = tt

    groups_have : (stages : PlainStages) (k n g : ℕ) (st : Standing) (owned : List ℕ) (values : List (List ℤ)) (groups : Groups) → AreTimed stages → (More : ℕ → Item → Type 0) (Moves : ℕ → Move → Type 0) → Holds (StagesHave stages n) More → Goes (StagesMove stages n) Moves → AreOf More Moves (group_moments core in_lanes stages k n g st owned values groups)
    groups_have stages k n g st owned (v ∷ values) (more_group rs rest) timed More Moves into going =
        join More Moves (map renews owned ++ stage_moments core in_lanes stages k n 0 g (suc k) v st rs) (group_moments core in_lanes stages k n (suc g) st owned values rest)
        (join More Moves (map renews owned) (stage_moments core in_lanes stages k n 0 g (suc k) v st rs) (renews_have More Moves owned) (stages_have stages k n 0 g (suc k) v st rs timed More Moves into going))
        (groups_have stages k n (suc g) st owned values rest timed More Moves into going)
    groups_have stages k n g st owned [] groups timed More Moves into going = tt
    groups_have stages k n g st owned (v ∷ values) no_group timed More Moves into going = tt

    stages_have : (stages : PlainStages) (k n s g j : ℕ) (v : List ℤ) (st : Standing) (rs : Runs) → AreTimed stages → (More : ℕ → Item → Type 0) (Moves : ℕ → Move → Type 0) → Holds (StagesHave stages n) More → Goes (StagesMove stages n) Moves → AreOf More Moves (stage_moments core in_lanes stages k n s g j v st rs)
    stages_have (more_stage first last comb node rest) k n s g j v st (more_run h hs) timed More Moves into going =
        join More Moves (moments core in_lanes node j n (inside_at st k (in_group_of g s) v) h) (stage_moments core in_lanes rest k (n + number_count node) (suc s) g (j + node_count node) v st hs)
        (node_has node j n (inside_at st k (in_group_of g s) v) h timed.0 More Moves (λ x i q. into x i (inl q)) (λ x u q. going x u (inl q))) (stages_have rest k (n + number_count node) (suc s) g (j + node_count node) v st hs timed.1 More Moves (λ x i q. into x i (inr q)) (λ x u q. going x u (inr q)))
    stages_have (more_stage first last comb node rest) k n s g j v st (masked_run hs) timed More Moves into going =
        stages_have rest k (n + number_count node) (suc s) g (j + node_count node) v st hs timed.1 More Moves (λ x i q. into x i (inr q)) (λ x u q. going x u (inr q))
    stages_have (more_stage first last comb node rest) k n s g j v st no_run timed More Moves into going = tt
    stages_have no_stage k n s g j v st rs timed More Moves into going = tt

    turns_have : (start : List PlainOp) (state : ℕ) (test : List PlainOp) (body : PlainNode) (next : List PlainOp) (k n t : ℕ) (st : Standing) (ts : Turns) (last : List Entry) → IsTimed body → (More : ℕ → Item → Type 0) (Moves : ℕ → Move → Type 0) → Holds (NodeHas (fsm start state test body next) n) More → Goes (NodeMoves body (n + (length start + length test))) Moves
        → AreOf More Moves (turn_moments core in_lanes start state test body next k n t st ts last)
    turns_have start state test body next k n t st no_turn last timed More Moves into going = list_has More Moves test last (n + length start) (inside_at st k (in_turn t) []) (λ x i h. into x i (inl (inr h)))
    turns_have start state test body next k n t st (more_turn es h ns rest) last timed More Moves into going =
        let at : Standing = inside_at st k (in_turn t) [] in
        let after : ℕ = n + (length start + (length test + number_count body)) in
        join More Moves (list_moments (n + length start) at test es ++ (moments core in_lanes body (suc k) (n + (length start + length test)) at h ++ (list_moments after at next ns ++ keeps state (last_word ns) ∷ []))) (turn_moments core in_lanes start state test body next k n (suc t) st rest last)
        (join More Moves (list_moments (n + length start) at test es) (moments core in_lanes body (suc k) (n + (length start + length test)) at h ++ (list_moments after at next ns ++ keeps state (last_word ns) ∷ []))
        (list_has More Moves test es (n + length start) at (λ x i q. into x i (inl (inr q))))
        (join More Moves (moments core in_lanes body (suc k) (n + (length start + length test)) at h) (list_moments after at next ns ++ keeps state (last_word ns) ∷ [])
        (node_has body (suc k) (n + (length start + length test)) at h timed More Moves (λ x i q. into x i (inr (inl q))) going)
        (join More Moves (list_moments after at next ns) (keeps state (last_word ns) ∷ []) (list_has More Moves next ns after at (λ x i q. into x i (inr (inr q)))) (tt, tt))))
        (turns_have start state test body next k n (suc t) st rest last timed More Moves into going)

  are_acted : (ms : List Moment) → AreOf (NodeHas core.root 0) (NodeMoves core.root 0) ms → Each (IsActed core) ms
  are_acted [] h = tt
  are_acted (touches e ∷ ms) h = (h.0, are_acted ms h.1)
  are_acted (slices x ∷ ms) h = (tt, are_acted ms h.1)
  are_acted (renews m ∷ ms) h = (tt, are_acted ms h.1)
  are_acted (keeps m w ∷ ms) h = (tt, are_acted ms h.1)

-- what holds of each moment that is told
each_told : (P : Moment → Type 0) (es : List Stamped) → Each P (told es) → Each (λ x. P x.moment) es
each_told P [] h = tt
each_told P (e ∷ es) h = (h.0, each_told P es h.1)

pub timelines_are_acted : (core : PlainCore) (plan : PlainPlan) (delays : Delays) → TellsAll core plan delays core.root → TimelinesAreActed core plan delays
timelines_are_acted core plan delays tells timed h =
    each_told (IsActed core) (core_timed core plan delays h).events
    (subst (Each (IsActed core)) (sym (tells 0 0 (record { path = []; counters = [] }) (λ m. 0) h))
    (are_acted core _ (node_has core core.root 0 0 (record { path = []; counters = [] }) h timed (NodeHas core.root 0) (NodeMoves core.root 0) (λ x i q. q) (λ x v q. q))))
