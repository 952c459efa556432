-- A run of a node is taken apart into what its operations did.
use Rattle.std.proofs.Common.{◌≡◌, ℕ, zero, suc, ◌==◌, Bool, true, false, ℤ, List, [], ◌∷◌, map, refl, subst}
use Rattle.std.specs.List.{AllZip}
use Rattle.sp_core.specs.History.{Entry, Taken, one, both, last_word, History, Runs, Turn, groups_of, turns_of, inner_ran, outer_ran, fsm_ran, branch_ran, moved, no_run, masked_run, more_run}
use Rattle.sp_core.specs.Operations.{operations}
use Rattle.sp_core.specs.PlainCore.{PlainOp, PlainCounter, PlainSpan, single, range, PlainNode, PlainStages, inner, outer, fsm, branch, load, store, sparse, no_stage, more_stage, PlainCore}
use Rattle.sp_core.specs.Scope.{Loop, Reading, Scope, loops_of, counts_of, group_values, is_live, is_some_live, in_group}
use Rattle.sp_core.specs.Sequential.{bounds, taken, state_now, run, run_stages}
use Rattle.sp_core.specs.Step.{Step, went, pure, ◌>>=◌, ◌>>◌, ensure, out_of_turns, in_order, repeated}
use Rattle.sp_core.specs.Store.{Store}
use Rattle.sp_core.specs.Declarations.{dims, kind_of, dram_number}
use Rattle.sp_core.specs.Transfers.{part_of, lengths, has_none, are_parts_inside, do_fit, range_limits, transfer}
use Rattle.sp_overlap.specs.Whole.{IsTimed, AreTimed}
use Rattle.sp_hold.proofs.Steps.{bound, was_pure}
use Rattle.sp_part_runs.specs.ActsEntries.{AreEntries}
use Rattle.sp_part_runs.proofs.ActsListed.{entries_done}
use Rattle.sp_tree_runs.specs.BodiesDone.{BoundsDone, SpanDone, AllDone, GroupsDone, RunsDone, TurnsDone, RunsAreDone}

-- what a step gives, where it goes on
abbrev Gives : {A : Type 0} → (A → Type 0) → Step A → Type 0
Gives {A = A} P step = (s t : Store) (a : A) → step s ≡ went a t → P a

abbrev Anything : {A : Type 0} → A → Type 0
Anything a = Unit {0}

gives_bound : {A B : Type 0} (step : Step A) (rest : A → Step B) (P : A → Type 0) (R : B → Type 0) → Gives P step → ((a : A) → P a → Gives R (rest a)) → Gives R (step >>= rest)
gives_bound step rest P R f g s t b e = let x = bound step rest s b t e in g x.value (f s x.middle x.value x.first) x.middle t b x.later

gives_then : {A B : Type 0} (step : Step A) (rest : A → Step B) (R : B → Type 0) → ((a : A) → Gives R (rest a)) → Gives R (step >>= rest)
gives_then step rest R g = gives_bound step rest Anything R (λ s t a e. tt) (λ a u. g a)

gives_pure : {A : Type 0} (P : A → Type 0) (a : A) → P a → Gives P (pure a)
gives_pure P a p s t b e = subst P (was_pure a b s t e).value p

gives_none : {A : Type 0} (P : A → Type 0) → Gives P out_of_turns
unfolding out_of_turns
gives_none P s t a e = cc

gives_each : {A B : Type 0} (step : A → Step B) (P : A → B → Type 0) → ((a : A) → Gives (P a) (step a)) → (xs : List A) → Gives (λ ys. AllZip P xs ys) (in_order step xs)
unfolding in_order
gives_each step P f [] = gives_pure (λ ys. AllZip P [] ys) [] tt
gives_each step P f (x ∷ xs) = gives_bound (step x) _ (P x) _ (f x) (λ y p. gives_bound (in_order step xs) _ (λ ys. AllZip P xs ys) _ (gives_each step P f xs) (λ ys h. gives_pure (λ zs. AllZip P (x ∷ xs) zs) (y ∷ ys) (p, h)))

-- each element of a list
abbrev EachOf : {A : Type 0} → (A → Type 0) → List A → Type 0
EachOf P [] = Unit {0}
EachOf P (x ∷ xs) = P x × EachOf P xs

-- the turns of an FSM, and its last test
gives_repeated : {A B : Type 0} (Q : A → Type 0) (P : B → Type 0) (test : Step A) (holds : A → Bool) (turn : A → Step B) → Gives Q test → ((a : A) → Q a → holds a ≡ true → Gives P (turn a)) → (many : ℕ) → Gives (λ r. EachOf P r.0 × Q r.1 × (holds r.1 ≡ false)) (repeated many test holds turn)
unfolding repeated
gives_repeated {A = A} {B = B} Q P test holds turn q f zero = gives_bound test _ Q _ q (λ a h. choose (holds a) a refl h)
  where
    choose : (b : Bool) (a : A) → holds a ≡ b → Q a → Gives (λ (r : List B × A). EachOf P r.0 × Q r.1 × (holds r.1 ≡ false)) (elim b as (λ _. Step (List B × A)) [ true ↦ out_of_turns | false ↦ pure ([], a) ])
    choose true a e h = gives_none _
    choose false a e h = gives_pure _ ([], a) (tt, h, e)
gives_repeated {A = A} {B = B} Q P test holds turn q f (suc many) = gives_bound test _ Q _ q (λ a h. choose (gives_repeated Q P test holds turn q f many) (holds a) a refl h)
  where
    choose : Gives (λ (r : List B × A). EachOf P r.0 × Q r.1 × (holds r.1 ≡ false)) (repeated many test holds turn) → (b : Bool) (a : A) → holds a ≡ b → Q a
        → Gives (λ (r : List B × A). EachOf P r.0 × Q r.1 × (holds r.1 ≡ false)) (elim b as (λ _. Step (List B × A)) [ true ↦ turn a >>= (λ first. repeated many test holds turn >>= (λ r. pure (first ∷ r.0, r.1))) | false ↦ pure ([], a) ])
    choose others true a e h = gives_bound (turn a) _ P _ (f a h e) (λ b p. gives_bound (repeated many test holds turn) _ _ _ others (λ r hs. gives_pure _ (b ∷ r.0, r.1) ((p, hs.0), hs.1, hs.2)))
    choose others false a e h = gives_pure _ ([], a) (tt, h, e)

module _ (core : PlainCore) (reading : Reading) (most : ℕ) where
  list_gives : (scope : Scope) (ops : List PlainOp) → Gives (AreEntries scope ops) (operations core scope ops)
  list_gives scope ops s t es e = entries_done core scope ops s t es e

  bounds_give : (scope : Scope) (c : PlainCounter) → Gives (BoundsDone scope c) (bounds core reading most scope c)
  bounds_give scope c =
      gives_bound (operations core scope c.from) _ (AreEntries scope c.from) _ (list_gives scope c.from) (λ a p. gives_bound (operations core scope c.until) _ (AreEntries scope c.until) _ (list_gives scope c.until)
      (λ b q. gives_pure (BoundsDone scope c) (record { from = a; until = b }) (p, q)))

  taken_gives : (scope : Scope) (x : PlainSpan) → Gives (SpanDone scope x) (taken core reading most scope x)
  taken_gives scope (single ops) = gives_bound (operations core scope ops) _ (AreEntries scope ops) _ (list_gives scope ops) (λ es p. gives_pure (SpanDone scope (single ops)) (one es) p)
  taken_gives scope (range a b) =
      gives_bound (operations core scope a) _ (AreEntries scope a) _ (list_gives scope a) (λ es p. gives_bound (operations core scope b) _ (AreEntries scope b) _ (list_gives scope b) (λ fs q. gives_pure (SpanDone scope (range a b)) (both es fs) (p, q)))

  state_gives : (scope : Scope) (state : ℕ) (ops : List PlainOp) → Gives (AreEntries scope ops) (state_now core reading most scope state ops)
  state_gives scope state ops = gives_bound (operations core scope ops) _ (AreEntries scope ops) _ (list_gives scope ops) (λ es p. gives_then _ _ _ (λ u. gives_pure (AreEntries scope ops) es p))

  groups_done : (stages : PlainStages) (scope : Scope) (loops : List Loop) (values : List (List ℤ)) (rows : List Runs) → AllZip (λ v row. RunsDone reading stages (is_live loops v) (in_group scope loops v) row) values rows → GroupsDone reading stages scope loops values (groups_of rows)
  groups_done stages scope loops [] [] h = tt
  groups_done stages scope loops (v ∷ values) (row ∷ rows) h = (h.0, groups_done stages scope loops values rows h.1)
  groups_done stages scope loops [] (row ∷ rows) h = elim h [ ]
  groups_done stages scope loops (v ∷ values) [] h = elim h [ ]

  abbrev TurnDone : (test : List PlainOp) → PlainNode → (next : List PlainOp) → Scope → Turn → Type 0
  TurnDone test body next scope t = AreEntries scope test t.test × ((last_word t.test == 1) ≡ true) × AllDone reading body scope t.body × AreEntries scope next t.next

  turns_done : (test : List PlainOp) (body : PlainNode) (next : List PlainOp) (scope : Scope) (turns : List Turn) → EachOf (TurnDone test body next scope) turns → TurnsDone reading test body next scope (turns_of turns)
  turns_done test body next scope [] h = tt
  turns_done test body next scope (t ∷ turns) h = (h.0, turns_done test body next scope turns h.1)

  -- a branch, by which of its blocks was taken
  block_gives : (test : List PlainOp) (first second : PlainNode) (scope : Scope) (es : List Entry) (taken_step other_step : Step History) → Gives (AllDone reading first scope) taken_step → Gives (AllDone reading second scope) other_step → AreEntries scope test es
      → (b : Bool) → (last_word es == 1) ≡ b → Gives (λ h. AllDone reading (branch test first second) scope (branch_ran es b h)) (elim b as (λ _. Step History) [ true ↦ taken_step | false ↦ other_step ])
  block_gives test first second scope es taken_step other_step f g p true e s t h ran = (p, e, f s t h ran)
  block_gives test first second scope es taken_step other_step f g p false e s t h ran = (p, e, g s t h ran)

  -- a transfer, whatever words it moves
  moved_gives : (P : History → Type 0) (r m : ℕ) (ts : List Taken) (move : Step (List ℕ)) → ((ws : List ℕ) → P (moved ts ws)) → Gives P (transfer core r m ts move)
  moved_gives P r m ts move p = go (has_none (lengths (map part_of ts)))
    where
      go : (none : Bool) → Gives P (elim none as (λ _. Step History) [ true ↦ pure (moved ts []) | false ↦ ensure (are_parts_inside (dims core (dram_number core r)) (map part_of ts)) >> (ensure (do_fit (range_limits (kind_of core m) (dims core m)) (lengths (map part_of ts))) >> (move >>= (λ ws. pure (moved ts ws)))) ])
      go true = gives_pure P (moved ts []) (p [])
      go false = gives_then _ _ _ (λ u. gives_then _ _ _ (λ v. gives_then _ _ _ (λ ws. gives_pure P (moved ts ws) (p ws))))

  mutual
    unfolding run run_stages

    node_gives : (node : PlainNode) (scope : Scope) → IsTimed node → Gives (AllDone reading node scope) (run core reading most node scope)
    node_gives (inner counters owned ops comb) scope is =
        gives_bound (in_order (bounds core reading most scope) counters) _ (λ bs. AllZip (BoundsDone scope) counters bs) _ (gives_each (bounds core reading most scope) (BoundsDone scope) (bounds_give scope) counters) (λ bs p.
        gives_bound _ _ (λ groups. AllZip (λ v es. AreEntries (in_group scope (loops_of reading counters bs) v) ops es) (group_values (loops_of reading counters bs)) groups) _
        (gives_each _ (λ v es. AreEntries (in_group scope (loops_of reading counters bs) v) ops es) (λ v. gives_then _ _ _ (λ u. list_gives (in_group scope (loops_of reading counters bs) v) ops)) (group_values (loops_of reading counters bs)))
        (λ groups q. gives_pure _ (inner_ran bs (counts_of (loops_of reading counters bs)) groups) (p, q)))
    node_gives (outer counters style owned stages) scope is =
        gives_bound (in_order (bounds core reading most scope) counters) _ (λ bs. AllZip (BoundsDone scope) counters bs) _ (gives_each (bounds core reading most scope) (BoundsDone scope) (bounds_give scope) counters) (λ bs p.
        gives_bound _ _ (λ rows. AllZip (λ v row. RunsDone reading stages (is_live (loops_of reading counters bs) v) (in_group scope (loops_of reading counters bs) v) row) (group_values (loops_of reading counters bs)) rows) _
        (gives_each _ (λ v row. RunsDone reading stages (is_live (loops_of reading counters bs) v) (in_group scope (loops_of reading counters bs) v) row)
        (λ v. gives_then _ _ _ (λ u. gives_bound _ _ (RunsDone reading stages (is_live (loops_of reading counters bs) v) (in_group scope (loops_of reading counters bs) v)) _ (stages_give stages (is_live (loops_of reading counters bs) v) (in_group scope (loops_of reading counters bs) v) is.1)
        (λ row q. gives_then _ _ _ (λ w. gives_pure _ row q))))
        (group_values (loops_of reading counters bs)))
        (λ rows q. gives_pure _ (outer_ran bs (counts_of (loops_of reading counters bs)) (groups_of rows)) (p, groups_done stages scope (loops_of reading counters bs) (group_values (loops_of reading counters bs)) rows q)))
    node_gives (fsm start state test body next) scope is =
        gives_bound (state_now core reading most scope state start) _ (AreEntries scope start) _ (state_gives scope state start) (λ first p.
        gives_bound _ _ (λ r. EachOf (TurnDone test body next scope) r.0 × AreEntries scope test r.1 × ((last_word r.1 == 1) ≡ false)) _
        (gives_repeated (AreEntries scope test) (TurnDone test body next scope) (operations core scope test) (λ es. last_word es == 1) _ (list_gives scope test)
        (λ tested q e. gives_bound (run core reading most body scope) _ (AllDone reading body scope) _ (node_gives body scope is) (λ h f.
        gives_bound (state_now core reading most scope state next) _ (AreEntries scope next) _ (state_gives scope state next) (λ es m. gives_pure _ (record { test = tested; body = h; next = es }) (q, e, f, m)))) most)
        (λ r q. gives_pure _ (fsm_ran first (turns_of r.0) r.1) (p, turns_done test body next scope r.0 q.0, q.1, q.2)))
    node_gives (branch test first second) scope is =
        gives_bound (operations core scope test) _ (AreEntries scope test) _ (list_gives scope test) (λ es p.
        gives_bound _ _ (λ h. AllDone reading (branch test first second) scope (branch_ran es (last_word es == 1) h)) _
        (block_gives test first second scope es _ _ (node_gives first scope is.0) (node_gives second scope is.1) p (last_word es == 1) refl)
        (λ h q. gives_pure _ (branch_ran es (last_word es == 1) h) q))
    node_gives (load r m spans) scope is = gives_bound (in_order (taken core reading most scope) spans) _ (λ ts. AllZip (SpanDone scope) spans ts) _ (gives_each (taken core reading most scope) (SpanDone scope) (taken_gives scope) spans) (λ ts p. moved_gives (AllDone reading (load r m spans) scope) r m ts _ (λ ws. p))
    node_gives (store r m spans) scope is = gives_bound (in_order (taken core reading most scope) spans) _ (λ ts. AllZip (SpanDone scope) spans ts) _ (gives_each (taken core reading most scope) (SpanDone scope) (taken_gives scope) spans) (λ ts p. moved_gives (AllDone reading (store r m spans) scope) r m ts _ (λ ws. p))
    node_gives (sparse kind r m index spans count par) scope is = elim is [ ]

    stages_give : (stages : PlainStages) (live : ℕ → Bool) (scope : Scope) → AreTimed stages → Gives (RunsDone reading stages live scope) (run_stages core reading most stages live scope)
    stages_give no_stage live scope is = gives_pure _ no_run tt
    stages_give (more_stage first last comb node rest) live scope is = choose (node_gives node scope is.0) (stages_give rest live scope is.1) (is_some_live live first last) refl
      where
        choose : Gives (AllDone reading node scope) (run core reading most node scope) → Gives (RunsDone reading rest live scope) (run_stages core reading most rest live scope) → (b : Bool) → is_some_live live first last ≡ b
            → Gives (RunsDone reading (more_stage first last comb node rest) live scope) (elim b as (λ _. Step Runs) [ true ↦ run core reading most node scope >>= (λ h. run_stages core reading most rest live scope >>= (λ others. pure (more_run h others))) | false ↦ run_stages core reading most rest live scope >>= (λ others. pure (masked_run others)) ])
        choose f g true e = gives_bound (run core reading most node scope) _ (AllDone reading node scope) _ f (λ h p. gives_bound (run_stages core reading most rest live scope) _ (RunsDone reading rest live scope) _ g (λ hs q. gives_pure _ (more_run h hs) (e, p, q)))
        choose f g false e = gives_bound (run_stages core reading most rest live scope) _ (RunsDone reading rest live scope) _ g (λ hs q. gives_pure _ (masked_run hs) (e, q))

pub runs_are_done : RunsAreDone
runs_are_done core reading turns node scope s t h is ran = node_gives core reading turns node scope is s t h ran
