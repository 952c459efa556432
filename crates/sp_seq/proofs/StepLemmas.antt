-- How sequences of steps go, by how their parts do.
use Rattle.std.proofs.Common.{◌≡◌, ℕ, Bool, true, false, refl, sym, ◌∙◌, ap}
use Rattle.std.specs.Prelude.{Result, Ok, Err}
use Rattle.sp_tree.specs.declared.statement.FaultKind.{FaultKind}
use Rattle.sp_tree.specs.Step.{Step, Went, went, faulted, more, ◌>>=◌, ◌>>◌, pure, fault, ensure}
use Rattle.sp_tree.specs.Store.{Store}
use Rattle.sp_seq.specs.declared.state.Stop.{Stop}
use Rattle.sp_seq.specs.declared.state.Stop.TheVariants.{Fault, Turns}
use Rattle.std.specs.Result.{IsErrAnd}
use Rattle.sp_seq.specs.declared.state.State.{State}
use Rattle.sp_seq.specs.Evaluating.{with_answer}
use Rattle.sp_seq.specs.States.{halted, Ran}

module _ {A B : Type 0} (step : Step A) (rest : A → Step B) (left : ℕ) (s : Store) where
  then_with : Went A → Went B
  then_with w = elim w as (λ _. Went B) [ went a l s ↦ rest a l s | faulted kind place ↦ faulted kind place | more ↦ more ]

  pub bind_went : (a : A) (l : ℕ) (t : Store) → step left s ≡ went a l t → (step >>= rest) left s ≡ rest a l t
  unfolding ◌>>=◌ then_with
  bind_went a l t e = ap then_with e

  pub bind_halted : (stop : Stop) → step left s ≡ halted stop → (step >>= rest) left s ≡ halted stop
  unfolding ◌>>=◌ then_with
  bind_halted (Fault kind place) e = ap then_with e
  bind_halted Turns e = ap then_with e

-- nothing done after a step, and two steps after it
pub bind_pure : {A : Type 0} (step : Step A) (left : ℕ) (s : Store) → (step >>= pure) left s ≡ step left s
unfolding ◌>>=◌ pure
bind_pure {A = A} step left s = same (step left s)
  where
    same : (w : Went A) → elim w as (λ _. Went A) [ went a l s ↦ went a l s | faulted kind place ↦ faulted kind place | more ↦ more ] ≡ w
    same (went a l s) = refl
    same (faulted kind place) = refl
    same more = refl

pub bind_bind : {A B C : Type 0} (step : Step A) (next : A → Step B) (rest : B → Step C) (left : ℕ) (s : Store) → ((step >>= next) >>= rest) left s ≡ (step >>= (λ a. next a >>= rest)) left s
unfolding ◌>>=◌
bind_bind {A = A} {B = B} {C = C} step next rest left s = same (step left s)
  where
    after : Went B → Went C
    after w = elim w as (λ _. Went C) [ went b l s ↦ rest b l s | faulted kind place ↦ faulted kind place | more ↦ more ]

    same : (w : Went A) → elim (elim w as (λ _. Went B) [ went a l s ↦ next a l s | faulted kind place ↦ faulted kind place | more ↦ more ]) as (λ _. Went C) [ went b l s ↦ rest b l s | faulted kind place ↦ faulted kind place | more ↦ more ]
        ≡ elim w as (λ _. Went C) [ went a l s ↦ elim (next a l s) as (λ _. Went C) [ went b l s ↦ rest b l s | faulted kind place ↦ faulted kind place | more ↦ more ] | faulted kind place ↦ faulted kind place | more ↦ more ]
    same (went a l s) = refl
    same (faulted kind place) = refl
    same more = refl

-- what came back at a stop
pub ran_stop : {A : Type 0} (w : Went A) (r : Result A Stop) (t : State) (stop : Stop) → IsErrAnd r (λ y. y ≡ stop) → w ≡ halted stop → Ran w r t
ran_stop w (Ok a) t stop h e = absurd h
ran_stop w (Err y) t stop h e = e ∙ ap halted (sym h)

pub ran_stop_with : {A B : Type 0} (w : Went A) (a : A) (r : Result B Stop) (t : State) (stop : Stop) → IsErrAnd r (λ y. y ≡ stop) → w ≡ halted stop → Ran w (with_answer a r) t
ran_stop_with w a (Ok b) t stop h e = absurd h
ran_stop_with w a (Err y) t stop h e = e ∙ ap halted (sym h)

-- a test that is passed, and one that isn't
module _ {B : Type 0} (kind : FaultKind) (place : ℕ) (rest : Step B) (left : ℕ) (s : Store) where
  tested : Bool → Went B
  tested b = (ensure b kind place >> rest) left s

  pub ensure_true : (b : Bool) → b ≡ true → (ensure b kind place >> rest) left s ≡ rest left s
  unfolding ◌>>=◌ pure tested
  ensure_true b e = ap tested e

  pub ensure_false : (b : Bool) → b ≡ false → (ensure b kind place >> rest) left s ≡ faulted kind place
  unfolding ◌>>=◌ fault tested
  ensure_false b e = ap tested e
