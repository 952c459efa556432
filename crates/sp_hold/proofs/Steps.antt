-- Steps that went, one after the other.
use Rattle.std.proofs.Common.{◌≡◌, Bool, true, false, refl}
use Rattle.sp_core.specs.Step.{Step, Went, went, stopped, more, pure, stop, ensure, look, change, ◌>>=◌}
use Rattle.sp_core.specs.Store.{Store}

pub record Bound {A B : Type 0} (step : Step A) (rest : A → Step B) (s : Store) (b : B) (t : Store) : Type 0 where
  pub value : A
  pub middle : Store
  pub first : step s ≡ went value middle
  pub later : rest value middle ≡ went b t

pub bound : {A B : Type 0} (step : Step A) (rest : A → Step B) (s : Store) (b : B) (t : Store) → (step >>= rest) s ≡ went b t → Bound step rest s b t
unfolding ◌>>=◌
bound {A} {B} step rest s b t h = by_step (step s) refl h
  where
    by_step : (r : Went A) → step s ≡ r → (elim r as (λ x. Went B) [ went a u ↦ rest a u | stopped ↦ stopped | more ↦ more ]) ≡ went b t → Bound step rest s b t
    by_step (went a u) is g = record { value = a; middle = u; first = is; later = g }
    by_step stopped is g = cc
    by_step more is g = cc

pub record Same {A : Type 0} (x a : A) (s t : Store) : Type 0 where
  pub value : x ≡ a
  pub store : s ≡ t

pub was_pure : {A : Type 0} (x a : A) (s t : Store) → pure x s ≡ went a t → Same x a s t
unfolding pure
was_pure x a s t h = record { value = cc; store = cc }

pub was_looked : {A : Type 0} (at : Store → A) (a : A) (s t : Store) → look at s ≡ went a t → Same (at s) a s t
unfolding look
was_looked at a s t h = record { value = cc; store = cc }

pub was_changed : (next : Store → Store) (a : Unit {0}) (s t : Store) → change next s ≡ went a t → next s ≡ t
unfolding change
was_changed next a s t h = cc

pub no_stop : {A : Type 0} {B : Type 0} (a : A) (s t : Store) → stop s ≡ went a t → B
unfolding stop
no_stop a s t h = cc

pub was_ensured : (test : Bool) (a : Unit {0}) (s t : Store) → ensure test s ≡ went a t → (test ≡ true) × (s ≡ t)
was_ensured true a s t h = (refl, (was_pure tt a s t h).store)
was_ensured false a s t h = no_stop a s t h
