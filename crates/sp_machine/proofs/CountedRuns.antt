-- The history of a run has no more groups than its counts say.
use Rattle.std.proofs.Common.{◌≡◌, ℕ, zero, suc, ◌≤◌, Bool, true, false, List, [], ◌∷◌, length, refl, sym, subst, ap}
use Rattle.std.specs.Prelude.{◌==◌}
use Rattle.sp_core.specs.Cost.{group_count}
use Rattle.sp_core.specs.History.{Entry, last_word, History, Runs, Turn, branch_ran, no_run, masked_run, more_run, groups_of, turns_of}
use Rattle.sp_core.specs.Operations.{operations}
use Rattle.sp_core.specs.PlainCore.{PlainNode, PlainStages, inner, outer, fsm, branch, load, store, sparse, no_stage, more_stage, PlainCore}
use Rattle.sp_core.specs.Scope.{in_lanes, Scope, loops_of, counts_of, group_values, is_live, is_some_live, in_group}
use Rattle.sp_core.specs.Sequential.{run, run_stages}
use Rattle.sp_core.specs.Step.{Step, Went, went, stopped, more, pure, ◌>>=◌, out_of_turns, in_order, repeated}
use Rattle.sp_core.specs.Store.{Store}
use Rattle.sp_core.proofs.Replays.{not_stopped, not_more, same_value}
use Rattle.sp_machine.specs.Told.{IsCounted, AreCounted, RunsCounted, TurnsCounted}
use Rattle.sp_machine.proofs.GroupCounts.{groups_few}

-- what a step gives, where it goes on
abbrev pub Gives : {A : Type 0} → (A → Type 0) → Step A → Type 0
Gives {A = A} P step = (s t : Store) (a : A) → step s ≡ went a t → P a

pub gives_bind : {A B : Type 0} (step : Step A) (rest : A → Step B) (P : A → Type 0) (R : B → Type 0) → Gives P step → ((a : A) → P a → Gives R (rest a)) → Gives R (step >>= rest)
unfolding ◌>>=◌
gives_bind {A = A} {B = B} step rest P R f g s t b e = go (step s) refl e
  where
    go : (w : Went A) → step s ≡ w → (elim w as (λ _. Went B) [ went a s ↦ rest a s | stopped ↦ stopped | more ↦ more ]) ≡ went b t → R b
    go (went a u) h k = g a (f s u a h) u t b k
    go stopped h k = not_stopped b t k
    go more h k = not_more b t k

pub gives_pure : {A : Type 0} (P : A → Type 0) (a : A) → P a → Gives P (pure a)
unfolding pure
gives_pure P a p s t b e = subst P (same_value a b s t e) p

pub gives_none : {A : Type 0} (P : A → Type 0) → Gives P out_of_turns
unfolding out_of_turns
gives_none P s t a e = not_more a t e

-- whatever it gives
abbrev pub Anything : {A : Type 0} → A → Type 0
Anything a = Unit {0}

pub gives_after : {A B : Type 0} (step : Step A) (rest : A → Step B) (R : B → Type 0) → ((a : A) → Gives R (rest a)) → Gives R (step >>= rest)
gives_after step rest R g = gives_bind step rest Anything R (λ s t a e. tt) (λ a u. g a)

-- of each element of a list, and as many
abbrev pub Each : {A : Type 0} → (A → Type 0) → List A → Type 0
Each P [] = Unit {0}
Each P (x ∷ xs) = P x × Each P xs

pub gives_each : {A B : Type 0} (step : A → Step B) (P : B → Type 0) → ((a : A) → Gives P (step a)) → (xs : List A) → Gives (λ ys. (length ys ≡ length xs) × Each P ys) (in_order step xs)
unfolding in_order
gives_each step P f [] = gives_pure _ [] (refl, tt)
gives_each step P f (x ∷ xs) = gives_bind (step x) _ P _ (f x) (λ y p. gives_bind (in_order step xs) _ _ _ (gives_each step P f xs) (λ ys h. gives_pure _ (y ∷ ys) (ap suc h.0, (p, h.1))))

-- the turns of an FSM
pub gives_repeated : {A B : Type 0} (P : B → Type 0) (test : Step A) (holds : A → Bool) (turn : A → Step B) → ((a : A) → Gives P (turn a)) → (many : ℕ) → Gives (λ r. Each P r.0) (repeated many test holds turn)
unfolding repeated
gives_repeated {A = A} {B = B} P test holds turn f zero = gives_after test _ _ (λ a. choose (holds a) a)
  where
    choose : (b : Bool) (a : A) → Gives (λ (r : List B × A). Each P r.0) (elim b as (λ _. Step (List B × A)) [ true ↦ out_of_turns | false ↦ pure ([], a) ])
    choose true a = gives_none _
    choose false a = gives_pure _ ([], a) tt
gives_repeated {A = A} {B = B} P test holds turn f (suc many) = gives_after test _ _ (λ a. choose (gives_repeated P test holds turn f many) (holds a) a)
  where
    choose : Gives (λ (r : List B × A). Each P r.0) (repeated many test holds turn) → (b : Bool) (a : A)
        → Gives (λ (r : List B × A). Each P r.0) (elim b as (λ _. Step (List B × A)) [ true ↦ turn a >>= (λ first. repeated many test holds turn >>= (λ r. pure (first ∷ r.0, r.1))) | false ↦ pure ([], a) ])
    choose h true a = gives_bind (turn a) _ P _ (f a) (λ b p. gives_bind (repeated many test holds turn) _ _ _ h (λ r hs. gives_pure _ (b ∷ r.0, r.1) (p, hs)))
    choose h false a = gives_pure _ ([], a) tt

groups_counted : (stages : PlainStages) (groups : List Runs) → Each (RunsCounted stages) groups → AreCounted stages (groups_of groups)
groups_counted stages [] h = tt
groups_counted stages (g ∷ groups) h = (h.0, groups_counted stages groups h.1)

turns_counted : (body : PlainNode) (turns : List Turn) → Each (λ t. IsCounted body t.body) turns → TurnsCounted body (turns_of turns)
turns_counted body [] h = tt
turns_counted body (t ∷ turns) h = (h.0, turns_counted body turns h.1)

module _ (core : PlainCore) (most : ℕ) where
  block_counted : (test : List Entry) (first second : PlainNode) (one two : Step History) → Gives (IsCounted first) one → Gives (IsCounted second) two
      → (ops : _) (b : Bool) → Gives (λ h. IsCounted (branch ops first second) (branch_ran test b h)) (elim b as (λ _. Step History) [ true ↦ one | false ↦ two ])
  block_counted test first second one two f g ops true = f
  block_counted test first second one two f g ops false = g

  mutual
    unfolding run run_stages

    pub node_counted : (node : PlainNode) (scope : Scope) → Gives (IsCounted node) (run core in_lanes most node scope)
    node_counted (inner counters owned ops comb) scope =
        gives_after _ _ _ (λ bs. gives_bind _ _ _ _ (gives_each _ Anything (λ v s t a e. tt) (group_values (loops_of in_lanes counters bs)))
        (λ groups h. gives_pure _ _ (subst (λ n. n ≤ group_count counters (counts_of (loops_of in_lanes counters bs))) (sym h.0) (groups_few counters bs))))
    node_counted (outer counters style owned stages) scope =
        gives_after _ _ _ (λ bs. gives_bind _ _ _ _ (gives_each _ (RunsCounted stages) (λ v.
        gives_after _ _ _ (λ u. gives_bind _ _ _ _ (stages_counted stages (is_live (loops_of in_lanes counters bs) v) (in_group scope (loops_of in_lanes counters bs) v))
        (λ runs h. gives_after _ _ _ (λ w. gives_pure _ runs h)))) (group_values (loops_of in_lanes counters bs)))
        (λ groups h. gives_pure _ _ (groups_counted stages groups h.1)))
    node_counted (fsm start state test body next) scope =
        gives_after _ _ _ (λ first. gives_bind _ _ _ _ (gives_repeated (λ t. IsCounted body t.body) (operations core scope test) _ _
        (λ tested. gives_bind _ _ _ _ (node_counted body scope) (λ h c. gives_after _ _ _ (λ es. gives_pure _ _ c))) most)
        (λ r h. gives_pure _ _ (turns_counted body r.0 h)))
    node_counted (branch test first second) scope =
        gives_after _ _ _ (λ es. gives_bind _ _ _ _ (block_counted es first second _ _ (node_counted first scope) (node_counted second scope) test (last_word es == 1))
        (λ h c. gives_pure _ _ c))
    node_counted (load r m spans) scope = λ s t h e. tt
    node_counted (store r m spans) scope = λ s t h e. tt
    node_counted (sparse kind r m index spans count par) scope = λ s t h e. tt

    stages_counted : (stages : PlainStages) (live : ℕ → Bool) (scope : Scope) → Gives (RunsCounted stages) (run_stages core in_lanes most stages live scope)
    stages_counted no_stage live scope = gives_pure _ no_run tt
    stages_counted (more_stage first last comb node rest) live scope = choose (node_counted node scope) (stages_counted rest live scope) (is_some_live live first last)
      where
        choose : Gives (IsCounted node) (run core in_lanes most node scope) → Gives (RunsCounted rest) (run_stages core in_lanes most rest live scope) → (b : Bool)
            → Gives (RunsCounted (more_stage first last comb node rest)) (elim b as (λ _. Step Runs) [ true ↦ run core in_lanes most node scope >>= (λ h. run_stages core in_lanes most rest live scope >>= (λ others. pure (more_run h others))) | false ↦ run_stages core in_lanes most rest live scope >>= (λ others. pure (masked_run others)) ])
        choose f g true = gives_bind _ _ _ _ f (λ h c. gives_bind _ _ _ _ g (λ hs d. gives_pure _ (more_run h hs) (c, d)))
        choose f g false = gives_bind _ _ _ _ g (λ hs d. gives_pure _ (masked_run hs) d)
