-- With more turns a run goes the same way, unless it needs more.
use Rattle.std.proofs.Common.{◌≡◌, ℕ, zero, suc, ◌≤◌, Bool, true, false, List, [], ◌∷◌, Some, None, refl, sym, subst, arith}
use Rattle.std.specs.Prelude.{◌==◌}
use Rattle.sp_core.specs.declared.node.SparseKind.TheVariants.{Gather, Scatter, WideLoad, WideStore}
use Rattle.sp_core.specs.History.{last_word}
use Rattle.sp_core.specs.Laws.{GoesOnAs, TurnsSuffice}
use Rattle.sp_core.specs.PlainCore.{PlainNode, PlainStages, inner, outer, fsm, branch, load, store, sparse, no_stage, more_stage, PlainCore}
use Rattle.sp_core.specs.Scope.{Reading, Scope, is_some_live}
use Rattle.sp_core.specs.Sequential.{run, run_stages}
use Rattle.sp_core.specs.Step.{Step, Went, went, stopped, more, pure, ◌>>=◌, out_of_turns, in_order, repeated}
use Rattle.sp_core.specs.Store.{Store}

abbrev Lasts : {A : Type 0} → Step A → Step A → Type 0
Lasts one two = (s : Store) → GoesOnAs (one s) (two s)

same_way : {A : Type 0} (w : Went A) → GoesOnAs w w
same_way (went a s) = refl
same_way stopped = refl
same_way more = tt

same : {A : Type 0} (step : Step A) → Lasts step step
same step s = same_way (step s)

bind_lasts : {A B : Type 0} (one two : Step A) (f g : A → Step B) → Lasts one two → ((a : A) → Lasts (f a) (g a)) → Lasts (one >>= f) (two >>= g)
unfolding ◌>>=◌
bind_lasts {A = A} {B = B} one two f g h k s = go (one s) (two s) (h s)
  where
    after : (A → Step B) → Went A → Went B
    after r w = elim w as (λ _. Went B) [ went a s ↦ r a s | stopped ↦ stopped | more ↦ more ]

    go : (v w : Went A) → GoesOnAs v w → GoesOnAs (elim v as (λ _. Went B) [ went a s ↦ f a s | stopped ↦ stopped | more ↦ more ]) (elim w as (λ _. Went B) [ went a s ↦ g a s | stopped ↦ stopped | more ↦ more ])
    go (went a t) w e = let P : Went A → Type 0 = λ x. GoesOnAs (f a t) (elim x as (λ _. Went B) [ went a s ↦ g a s | stopped ↦ stopped | more ↦ more ]) in subst P (sym e) (k a t)
    go stopped w e = let P : Went A → Type 0 = λ x. (elim x as (λ _. Went B) [ went a s ↦ g a s | stopped ↦ stopped | more ↦ more ]) ≡ stopped in subst P (sym e) refl
    go more w e = tt

-- the same first step
then_lasts : {A B : Type 0} (step : Step A) (f g : A → Step B) → ((a : A) → Lasts (f a) (g a)) → Lasts (step >>= f) (step >>= g)
then_lasts step f g k = bind_lasts step step f g (same step) k

-- the same last step
first_lasts : {A B : Type 0} (one two : Step A) (rest : A → Step B) → Lasts one two → Lasts (one >>= rest) (two >>= rest)
first_lasts one two rest h = bind_lasts one two rest rest h (λ a. same (rest a))

in_order_lasts : {A B : Type 0} (f g : A → Step B) → ((a : A) → Lasts (f a) (g a)) → (xs : List A) → Lasts (in_order f xs) (in_order g xs)
unfolding in_order
in_order_lasts f g h [] = same (pure [])
in_order_lasts f g h (x ∷ xs) = bind_lasts _ _ _ _ (h x) (λ first. first_lasts _ _ _ (in_order_lasts f g h xs))

none_lasts : {A : Type 0} (one two rest : Step A) (b : Bool) → Lasts (elim b as (λ _. Step A) [ true ↦ out_of_turns | false ↦ rest ]) (elim b as (λ _. Step A) [ true ↦ two | false ↦ rest ])
unfolding out_of_turns
none_lasts one two rest true s = tt
none_lasts one two rest false s = same_way (rest s)

either_lasts : {A : Type 0} (a b c d : Step A) → Lasts a c → Lasts b d → (flag : Bool) → Lasts (elim flag as (λ _. Step A) [ true ↦ a | false ↦ b ]) (elim flag as (λ _. Step A) [ true ↦ c | false ↦ d ])
either_lasts a b c d h k true = h
either_lasts a b c d h k false = k

repeated_lasts : {A B : Type 0} (n m : ℕ) → n ≤ m → (test : Step A) (holds : A → Bool) (f g : A → Step B) → ((a : A) → Lasts (f a) (g a)) → Lasts (repeated n test holds f) (repeated m test holds g)
unfolding repeated
repeated_lasts zero zero le test holds f g h = same _
repeated_lasts zero (suc m) le test holds f g h = then_lasts _ _ _ (λ tested. none_lasts (pure ([], tested)) _ _ (holds tested))
repeated_lasts (suc n) zero le test holds f g h = absurd (omega arith)
repeated_lasts (suc n) (suc m) le test holds f g h = then_lasts _ _ _ (λ tested.
    either_lasts _ _ _ _ (bind_lasts _ _ _ _ (h tested) (λ first. first_lasts _ _ _ (repeated_lasts n m (omega arith) test holds f g h))) (same _) (holds tested))

module _ (core : PlainCore) (reading : Reading) (n m : ℕ) (le : n ≤ m) where
  mutual
    unfolding run run_stages

    run_lasts : (node : PlainNode) (scope : Scope) → Lasts (run core reading n node scope) (run core reading m node scope)
    run_lasts (inner counters owned ops comb) scope = same _
    run_lasts (outer counters style owned stages) scope =
        then_lasts _ _ _ (λ bs. first_lasts _ _ _ (in_order_lasts _ _ (λ values. then_lasts _ _ _ (λ _. first_lasts _ _ _ (stages_last stages _ _))) _))
    run_lasts (fsm start state test body next) scope =
        then_lasts _ _ _ (λ first. first_lasts _ _ _ (repeated_lasts n m le _ _ _ _ (λ tested. first_lasts _ _ _ (run_lasts body scope))))
    run_lasts (branch test first second) scope =
        then_lasts _ _ _ (λ es. first_lasts _ _ _ (either_lasts _ _ _ _ (run_lasts first scope) (run_lasts second scope) (last_word es == 1)))
    run_lasts (load r mem spans) scope = same _
    run_lasts (store r mem spans) scope = same _
    run_lasts (sparse Gather r mem (Some p) spans count par) scope = same _
    run_lasts (sparse Scatter r mem (Some p) spans count par) scope = same _
    run_lasts (sparse Gather r mem None spans count par) scope = same _
    run_lasts (sparse Scatter r mem None spans count par) scope = same _
    run_lasts (sparse WideLoad r mem places spans count par) scope = same _
    run_lasts (sparse WideStore r mem places spans count par) scope = same _

    stages_last : (stages : PlainStages) (live : ℕ → Bool) (scope : Scope) → Lasts (run_stages core reading n stages live scope) (run_stages core reading m stages live scope)
    stages_last no_stage live scope = same _
    stages_last (more_stage first last comb node rest) live scope =
        either_lasts _ _ _ _
        (bind_lasts _ _ _ _ (run_lasts node scope) (λ h. first_lasts _ _ _ (stages_last rest live scope)))
        (first_lasts _ _ _ (stages_last rest live scope)) (is_some_live live first last)

pub turns_suffice : (core : PlainCore) (reading : Reading) (node : PlainNode) (scope : Scope) (s : Store) → TurnsSuffice core reading node scope s
turns_suffice core reading node scope s n m le = run_lasts core reading n m le node scope s
