-- Steps of a program that went on, taken apart; and steps of a core that go on, put together.
use Rattle.std.proofs.Common.{◌≡◌, ℕ, zero, suc, refl, sym, ap, subst}
use Rattle.sp_tree.specs.declared.statement.FaultKind.{FaultKind}
use Rattle.sp_tree.specs.Step as program
use Rattle.sp_tree.specs.Store as program_store
use Rattle.sp_core.specs.Step as core
use Rattle.sp_core.specs.Store as core_store

abbrev WentOn : {A : Type 0} → program.Went A → Type 0
WentOn (program.went a left s) = Unit {0}
WentOn _ = ⊥

pub not_faulted : {A B : Type 0} (kind : FaultKind) (place : ℕ) (a : A) (left : ℕ) (s : program_store.Store) → program.faulted kind place ≡ program.went a left s → B
not_faulted {A = A} kind place a left s e = absurd (subst (λ (w : program.Went A). WentOn w) (sym e) tt)

pub not_more : {A B : Type 0} (a : A) (left : ℕ) (s : program_store.Store) → program.more ≡ program.went a left s → B
not_more {A = A} a left s e = absurd (subst (λ (w : program.Went A). WentOn w) (sym e) tt)

answer_or : {A : Type 0} → A → program.Went A → A
answer_or b (program.went a left s) = a
answer_or b _ = b

left_or : {A : Type 0} → ℕ → program.Went A → ℕ
left_or n (program.went a left s) = left
left_or n _ = n

store_or : {A : Type 0} → program_store.Store → program.Went A → program_store.Store
store_or t (program.went a left s) = s
store_or t _ = t

module _ {A : Type 0} (a b : A) (left rest : ℕ) (s t : program_store.Store) (e : program.went a left s ≡ program.went b rest t) where
  pub same_answer : a ≡ b
  unfolding answer_or
  same_answer = ap (answer_or a) e

  pub same_left : left ≡ rest
  unfolding left_or
  same_left = ap (left_or left) e

  pub same_store : s ≡ t
  unfolding store_or
  same_store = ap (store_or s) e

-- what is known of a step that went one way, of any way in which it went
pub as_it_went : {A : Type 0} (P : A → ℕ → program_store.Store → Type 0) (a b : A) (left rest : ℕ) (s t : program_store.Store) → program.went a left s ≡ program.went b rest t → P a left s → P b rest t
as_it_went P a b left rest s t e h =
    subst (λ u. P b rest u) (same_store a b left rest s t e) (subst (λ n. P b n s) (same_left a b left rest s t e) (subst (λ x. P x left s) (same_answer a b left rest s t e) h))

-- a step and what follows it
pub record Between {A B : Type 0} (step : program.Step A) (more : A → program.Step B) (left : ℕ) (s : program_store.Store) (b : B) (rest : ℕ) (t : program_store.Store) : Type 0 where
  pub answer : A
  pub between : ℕ
  pub store : program_store.Store
  pub first : step left s ≡ program.went answer between store
  pub second : more answer between store ≡ program.went b rest t

pub taken_apart : {A B : Type 0} (step : program.Step A) (more : A → program.Step B) (left : ℕ) (s : program_store.Store) (b : B) (rest : ℕ) (t : program_store.Store)
    → program.◌>>=◌ step more left s ≡ program.went b rest t → Between step more left s b rest t
unfolding program.◌>>=◌
taken_apart {A = A} {B = B} step more left s b rest t e = go (step left s) refl e
  where
    go : (w : program.Went A) → step left s ≡ w → (elim w as (λ _. program.Went B) [ program.went a left s ↦ more a left s | program.faulted kind place ↦ program.faulted kind place | program.more ↦ program.more ]) ≡ program.went b rest t → Between step more left s b rest t
    go (program.went a n u) h k = record { answer = a; between = n; store = u; first = h; second = k }
    go (program.faulted kind place) h k = not_faulted kind place b rest t k
    go program.more h k = not_more b rest t k

-- a turn changes nothing
pub turn_taken : (x : Unit {0}) (left rest : ℕ) (s t : program_store.Store) → program.turn left s ≡ program.went x rest t → t ≡ s
unfolding program.turn
turn_taken x zero rest s t e = not_more x rest t e
turn_taken x (suc left) rest s t e = sym (same_store tt x left rest s t e)

-- a step of a core that goes on, before another one
pub then_on : {A B : Type 0} (step : core.Step A) (more : A → core.Step B) (s : core_store.Store) (a : A) (t : core_store.Store) → step s ≡ core.went a t → core.◌>>=◌ step more s ≡ more a t
unfolding core.◌>>=◌
then_on {A = A} {B = B} step more s a t e = ap (λ (w : core.Went A). elim w as (λ _. core.Went B) [ core.went a s ↦ more a s | core.stopped ↦ core.stopped | core.more ↦ core.more ]) e

CoreWent : {A : Type 0} → core.Went A → Type 0
CoreWent (core.went a s) = Unit {0}
CoreWent _ = ⊥

pub not_stopped : {A B : Type 0} (a : A) (s : core_store.Store) → core.stopped ≡ core.went a s → B
unfolding CoreWent
not_stopped {A = A} a s e = absurd (subst (λ (w : core.Went A). CoreWent w) (sym e) tt)

pub no_turns : {A B : Type 0} (a : A) (s : core_store.Store) → core.more ≡ core.went a s → B
unfolding CoreWent
no_turns {A = A} a s e = absurd (subst (λ (w : core.Went A). CoreWent w) (sym e) tt)

core_answer_or : {A : Type 0} → A → core.Went A → A
core_answer_or b (core.went a s) = a
core_answer_or b _ = b

core_store_or : {A : Type 0} → core_store.Store → core.Went A → core_store.Store
core_store_or t (core.went a s) = s
core_store_or t _ = t

module _ {A : Type 0} (a b : A) (s t : core_store.Store) (e : core.went a s ≡ core.went b t) where
  pub same_core_answer : a ≡ b
  unfolding core_answer_or
  same_core_answer = ap (core_answer_or a) e

  pub same_core_store : s ≡ t
  unfolding core_store_or
  same_core_store = ap (core_store_or s) e

pub record CoreBetween {A B : Type 0} (step : core.Step A) (more : A → core.Step B) (s : core_store.Store) (b : B) (t : core_store.Store) : Type 0 where
  pub answer : A
  pub store : core_store.Store
  pub first : step s ≡ core.went answer store
  pub second : more answer store ≡ core.went b t

pub core_apart : {A B : Type 0} (step : core.Step A) (more : A → core.Step B) (s : core_store.Store) (b : B) (t : core_store.Store)
    → core.◌>>=◌ step more s ≡ core.went b t → CoreBetween step more s b t
unfolding core.◌>>=◌
core_apart {A = A} {B = B} step more s b t e = go (step s) refl e
  where
    go : (w : core.Went A) → step s ≡ w → (elim w as (λ _. core.Went B) [ core.went a s ↦ more a s | core.stopped ↦ core.stopped | core.more ↦ core.more ]) ≡ core.went b t → CoreBetween step more s b t
    go (core.went a u) h k = record { answer = a; store = u; first = h; second = k }
    go core.stopped h k = not_stopped b t k
    go core.more h k = no_turns b t k
