-- What the transfers of a tree move, taken apart from its run.
use Rattle.std.proofs.Common.{◌≡◌, ℕ, zero, suc, ◌==◌, ◌⊎◌, inl, inr, Bool, true, false, List, [], ◌∷◌, subst}
use Rattle.std.specs.List.{Contains}
use Rattle.sp_core.specs.History.{Entry, last_word, History, Runs, Turn, groups_of, turns_of, outer_ran, fsm_ran, branch_ran, no_run, masked_run, more_run}
use Rattle.sp_core.specs.Operations.{operations}
use Rattle.sp_core.specs.PlainCore.{PlainOp, PlainNode, PlainStages, inner, outer, fsm, branch, load, store, sparse, no_stage, more_stage, PlainCore}
use Rattle.sp_core.specs.Scope.{Reading, Scope, loops_of, counts_of, group_values, is_live, is_some_live, in_group}
use Rattle.sp_core.specs.Sequential.{bounds, state_now, run, run_stages}
use Rattle.sp_core.specs.Step.{Step, pure, ◌>>=◌, out_of_turns, in_order, repeated}
use Rattle.sp_plan.specs.PlainPlan.{PlainPlan}
use Rattle.sp_machine.specs.Transfers.{Delays}
use Rattle.sp_overlap.specs.Whole.{IsTimed, AreTimed}
use Rattle.sp_time.specs.Lists.{Each}
use Rattle.sp_node_runs.specs.Runs.{Placed}
use Rattle.sp_node_runs.specs.FitsLaws.{AllFit}
use Rattle.sp_fitting.specs.Fitting.{HistoryFits}
use Rattle.sp_transfer_runs.specs.Trees.{AllMoved, GroupsMoved, RunsMoved, TurnsMoved, EachMoved, TransfersMoveAll}
use Rattle.sp_transfer_runs.proofs.Cycles.{in_split, in_none}
use Rattle.sp_transfer_runs.proofs.Parts.{sides, bodies, stages_in}
use Rattle.sp_transfer_runs.proofs.Taken.{Gives, gives_bound, gives_pure, load_run_gives, store_run_gives, load_did, store_did}

gives_then : {A B : Type 0} (step : Step A) (rest : A → Step B) (R : B → Type 0) → ((a : A) → Gives R (rest a)) → Gives R (step >>= rest)
gives_then step rest R g = gives_bound step rest (λ a. Unit {0}) R (λ s t a e. tt) (λ a u. g a)

gives_none : {A : Type 0} (P : A → Type 0) → Gives P out_of_turns
unfolding out_of_turns
gives_none P s t a e = cc

gives_each : {A B : Type 0} (step : A → Step B) (P : B → Type 0) → ((a : A) → Gives P (step a)) → (xs : List A) → Gives (Each P) (in_order step xs)
unfolding in_order
gives_each step P f [] = gives_pure (Each P) [] tt
gives_each step P f (x ∷ xs) = gives_bound (step x) _ P _ (f x) (λ y p. gives_bound (in_order step xs) _ (Each P) _ (gives_each step P f xs) (λ ys h. gives_pure (Each P) (y ∷ ys) (p, h)))

-- the turns of an FSM
gives_repeated : {A B : Type 0} (P : B → Type 0) (test : Step A) (holds : A → Bool) (turn : A → Step B) → ((a : A) → Gives P (turn a)) → (many : ℕ) → Gives (λ (r : List B × A). Each P r.0) (repeated many test holds turn)
unfolding repeated
gives_repeated {A = A} {B = B} P test holds turn f zero = gives_then test _ _ (λ a. choose (holds a) a)
  where
    choose : (b : Bool) (a : A) → Gives (λ (r : List B × A). Each P r.0) (elim b as (λ _. Step (List B × A)) [ true ↦ out_of_turns | false ↦ pure ([], a) ])
    choose true a = gives_none _
    choose false a = gives_pure _ ([], a) tt
gives_repeated {A = A} {B = B} P test holds turn f (suc many) = gives_then test _ _ (λ a. choose (gives_repeated P test holds turn f many) (holds a) a)
  where
    choose : Gives (λ (r : List B × A). Each P r.0) (repeated many test holds turn) → (b : Bool) (a : A)
        → Gives (λ (r : List B × A). Each P r.0) (elim b as (λ _. Step (List B × A)) [ true ↦ turn a >>= (λ first. repeated many test holds turn >>= (λ r. pure (first ∷ r.0, r.1))) | false ↦ pure ([], a) ])
    choose others true a = gives_bound (turn a) _ P _ (f a) (λ b p. gives_bound (repeated many test holds turn) _ _ _ others (λ r hs. gives_pure _ (b ∷ r.0, r.1) (p, hs)))
    choose others false a = gives_pure _ ([], a) tt

module _ (core : PlainCore) (reading : Reading) (most : ℕ) where
  groups_moved : (stages : PlainStages) (rows : List Runs) → Each (RunsMoved core stages) rows → GroupsMoved core stages (groups_of rows)
  groups_moved stages [] h = tt
  groups_moved stages (row ∷ rows) h = (h.0, groups_moved stages rows h.1)

  turns_moved : (body : PlainNode) (turns : List Turn) → Each (λ (t : Turn). AllMoved core body t.body) turns → TurnsMoved core body (turns_of turns)
  turns_moved body [] h = tt
  turns_moved body (t ∷ turns) h = (h.0, turns_moved body turns h.1)

  -- a branch, by which of its blocks was taken
  block_gives : (test : List PlainOp) (first second : PlainNode) (es : List Entry) (taken_step other_step : Step History) → Gives (AllMoved core first) taken_step → Gives (AllMoved core second) other_step
      → (b : Bool) → Gives (λ h. AllMoved core (branch test first second) (branch_ran es b h)) (elim b as (λ _. Step History) [ true ↦ taken_step | false ↦ other_step ])
  block_gives test first second es taken_step other_step f g true s t h ran = f s t h ran
  block_gives test first second es taken_step other_step f g false s t h ran = g s t h ran

  mutual
    unfolding run run_stages

    node_gives : (node : PlainNode) (scope : Scope) → IsTimed node → Gives (AllMoved core node) (run core reading most node scope)
    node_gives (inner counters owned ops comb) scope is = λ s t h e. tt
    node_gives (outer counters style owned stages) scope is =
        gives_then (in_order (bounds core reading most scope) counters) _ _ (λ bs.
        gives_bound _ _ (Each (RunsMoved core stages)) _
        (gives_each _ (RunsMoved core stages)
        (λ v. gives_then _ _ _ (λ u. gives_bound _ _ (RunsMoved core stages) _ (stages_give stages (is_live (loops_of reading counters bs) v) (in_group scope (loops_of reading counters bs) v) is.1)
        (λ row q. gives_then _ _ _ (λ w. gives_pure _ row q))))
        (group_values (loops_of reading counters bs)))
        (λ rows q. gives_pure _ (outer_ran bs (counts_of (loops_of reading counters bs)) (groups_of rows)) (groups_moved stages rows q)))
    node_gives (fsm start state test body next) scope is =
        gives_then (state_now core reading most scope state start) _ _ (λ first.
        gives_bound _ _ (λ r. Each (λ (t : Turn). AllMoved core body t.body) r.0) _
        (gives_repeated (λ (t : Turn). AllMoved core body t.body) (operations core scope test) (λ es. last_word es == 1) _
        (λ tested. gives_bound (run core reading most body scope) _ (AllMoved core body) _ (node_gives body scope is) (λ h f.
        gives_then (state_now core reading most scope state next) _ _ (λ es. gives_pure _ (record { test = tested; body = h; next = es }) f))) most)
        (λ r q. gives_pure _ (fsm_ran first (turns_of r.0) r.1) (turns_moved body r.0 q)))
    node_gives (branch test first second) scope is =
        gives_then (operations core scope test) _ _ (λ es.
        gives_bound _ _ (λ h. AllMoved core (branch test first second) (branch_ran es (last_word es == 1) h)) _
        (block_gives test first second es _ _ (node_gives first scope is.0) (node_gives second scope is.1) (last_word es == 1))
        (λ h q. gives_pure _ (branch_ran es (last_word es == 1) h) q))
    node_gives (load r m spans) scope is = load_run_gives core reading most r m spans scope
    node_gives (store r m spans) scope is = store_run_gives core reading most r m spans scope
    node_gives (sparse kind r m index spans count par) scope is = elim is [ ]

    stages_give : (stages : PlainStages) (live : ℕ → Bool) (scope : Scope) → AreTimed stages → Gives (RunsMoved core stages) (run_stages core reading most stages live scope)
    stages_give no_stage live scope is = gives_pure _ no_run tt
    stages_give (more_stage first last comb node rest) live scope is = choose (node_gives node scope is.0) (stages_give rest live scope is.1) (is_some_live live first last)
      where
        choose : Gives (AllMoved core node) (run core reading most node scope) → Gives (RunsMoved core rest) (run_stages core reading most rest live scope) → (b : Bool)
            → Gives (RunsMoved core (more_stage first last comb node rest)) (elim b as (λ _. Step Runs) [ true ↦ run core reading most node scope >>= (λ h. run_stages core reading most rest live scope >>= (λ others. pure (more_run h others))) | false ↦ run_stages core reading most rest live scope >>= (λ others. pure (masked_run others)) ])
        choose f g true = gives_bound (run core reading most node scope) _ (AllMoved core node) _ f (λ h p. gives_bound (run_stages core reading most rest live scope) _ (RunsMoved core rest) _ g (λ hs q. gives_pure _ (more_run h hs) (p, q)))
        choose f g false = gives_bound (run_stages core reading most rest live scope) _ (RunsMoved core rest) _ g (λ hs q. gives_pure _ (masked_run hs) q)

-- one of the runs
module _ (core : PlainCore) (plan : PlainPlan) (delays : Delays) where
  fits_in : (node : PlainNode) (runs : List Placed) → AllFit core plan delays node runs → (q : Placed) → Contains runs q → HistoryFits core node q.history
  fits_in node [] f q c = absurd (in_none q c)
  fits_in node (r ∷ runs) f q c = by (fits_in node runs f.1 q) (in_split r runs q c)
    where
      by : (Contains runs q → HistoryFits core node q.history) → (r ≡ q) ⊎ Contains runs q → HistoryFits core node q.history
      by rest (inl e) = subst (λ (x : Placed). HistoryFits core node x.history) e f.0
      by rest (inr d) = rest d

  moved_in : (node : PlainNode) (runs : List Placed) → EachMoved core node runs → (q : Placed) → Contains runs q → AllMoved core node q.history
  moved_in node [] f q c = absurd (in_none q c)
  moved_in node (r ∷ runs) f q c = by (moved_in node runs f.1 q) (in_split r runs q c)
    where
      by : (Contains runs q → AllMoved core node q.history) → (r ≡ q) ⊎ Contains runs q → AllMoved core node q.history
      by rest (inl e) = subst (λ (x : Placed). AllMoved core node x.history) e f.0
      by rest (inr d) = rest d

  pub transfers_move_all : TransfersMoveAll core plan delays
  transfers_move_all = record {
    in_run = λ reading turns node scope s t h is ran. node_gives core reading turns node scope is s t h ran;
    sides = sides core plan delays;
    bodies = bodies core plan delays;
    stages = stages_in core plan delays;
    loads = λ around earlier r m spans runs mems right fits moves q c. load_did core around earlier r m spans q.history mems right (moved_in (load r m spans) runs moves q c) (fits_in (load r m spans) runs fits q c);
    stores = λ around earlier r m spans runs mems right fits moves q c. store_did core around earlier r m spans q.history mems right (moved_in (store r m spans) runs moves q c) (fits_in (store r m spans) runs fits q c);
  }
