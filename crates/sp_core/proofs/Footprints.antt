-- A run changes and looks at only the memories that its nodes name.
use Rattle.std.proofs.Common.{◌≡◌, ℕ, Bool, true, false, IsTrue, Option, Some, refl, sym, ◌∙◌, ap, subst, eqb-true}
use Rattle.std.specs.Prelude.{◌==◌}
use Rattle.sp_words.specs.Memory.{Contents}
use Rattle.sp_core.specs.Footprint.{NodeNames}
use Rattle.sp_core.specs.Laws.{Agree, WentAlike, LeftAlone, IsWithin}
use Rattle.sp_core.specs.PlainCore.{PlainNode, PlainCore}
use Rattle.sp_core.specs.Scope.{Reading, Scope}
use Rattle.sp_core.specs.Sequential.{run}
use Rattle.sp_core.specs.Step.{Step, Went, went, stopped, more, pure, ◌>>=◌, stop, out_of_turns, look, change}
use Rattle.sp_core.specs.Store.{Store, hold}
use Rattle.sp_core.proofs.Closure.{IsClosed, run_Q}

module _ (is : ℕ → Bool) where
  abbrev Changes : (A : Type 0) → Step A → Type 0
  Changes A step = (s : Store) → LeftAlone is s (step s)

  abbrev Looks : (A : Type 0) → Step A → Type 0
  Looks A step = (s t : Store) → Agree is s t → WentAlike is (step s) (step t)

  after_alone : {A : Type 0} (s t : Store) → ((m : ℕ) → is m ≡ false → t m ≡ s m) → (w : Went A) → LeftAlone is t w → LeftAlone is s w
  after_alone s t h (went a u) k = λ m e. k m e ∙ h m e
  after_alone s t h stopped k = tt
  after_alone s t h more k = tt

  bind_changes : {A B : Type 0} (step : Step A) (rest : A → Step B) → Changes A step → ((a : A) → Changes B (rest a)) → Changes B (step >>= rest)
  unfolding ◌>>=◌
  bind_changes {A = A} {B = B} step rest f g s = go (step s) (f s)
    where
      go : (w : Went A) → LeftAlone is s w → LeftAlone is s (elim w as (λ _. Went B) [ went a s ↦ rest a s | stopped ↦ stopped | more ↦ more ])
      go (went a t) h = after_alone s t h (rest a t) (g a t)
      go stopped h = tt
      go more h = tt

  apart : (k m : ℕ) → IsTrue (is m) → is k ≡ false → (b : Bool) → (k == m) ≡ b → {A : Type 0} (x y : A) → (elim b as (λ _. A) [ true ↦ x | false ↦ y ]) ≡ y
  apart k m h e true t x y = let bad : false ≡ true = sym e ∙ ap is (eqb-true k m t) ∙ h in cc
  apart k m h e false t x y = refl

  change_changes : (m : ℕ) (f : Option Contents → Contents) → IsTrue (is m) → Changes (Unit {0}) (change (λ s. hold s m (f (s m))))
  unfolding change
  change_changes m f h s k e = apart k m h e (k == m) refl (Some (f (s m))) (s k)

  changes_closed : IsClosed Changes is
  unfolding pure stop out_of_turns look
  changes_closed = record {
    of_pure = λ a s m e. refl;
    of_bind = bind_changes;
    of_stop = λ s. tt;
    of_no_turn = λ s. tt;
    of_look = λ m f h s k e. refl;
    of_change = change_changes;
  }

  bind_looks : {A B : Type 0} (step : Step A) (rest : A → Step B) → Looks A step → ((a : A) → Looks B (rest a)) → Looks B (step >>= rest)
  unfolding ◌>>=◌
  bind_looks {A = A} {B = B} step rest f g s t agree = go (step s) (step t) (f s t agree)
    where
      then : Went A → Went B
      then w = elim w as (λ _. Went B) [ went a s ↦ rest a s | stopped ↦ stopped | more ↦ more ]

      go : (v w : Went A) → WentAlike is v w → WentAlike is (then v) (then w)
      go (went a s) (went b t) h = subst (λ x. WentAlike is (rest a s) (rest x t)) h.0 (g a s t h.1)
      go stopped stopped h = tt
      go more more h = tt
      go (went a s) stopped h = absurd h
      go (went a s) more h = absurd h
      go stopped (went b t) h = absurd h
      go stopped more h = absurd h
      go more (went b t) h = absurd h
      go more stopped h = absurd h

  changed_alike : (m k : ℕ) (x y : Option Contents) (a b : Option Contents) → ((k == m) ≡ true → x ≡ y) → a ≡ b → (c : Bool) → (k == m) ≡ c → (elim c as (λ _. Option Contents) [ true ↦ x | false ↦ a ]) ≡ (elim c as (λ _. Option Contents) [ true ↦ y | false ↦ b ])
  changed_alike m k x y a b h e true t = h t
  changed_alike m k x y a b h e false t = e

  change_looks : (m : ℕ) (f : Option Contents → Contents) → IsTrue (is m) → Looks (Unit {0}) (change (λ s. hold s m (f (s m))))
  unfolding change
  change_looks m f h s t agree = (refl, λ k e. changed_alike m k (Some (f (s m))) (Some (f (t m))) (s k) (t k) (λ _. ap (λ x. Some (f x)) (agree m h)) (agree k e) (k == m) refl)

  looks_closed : IsClosed Looks is
  unfolding pure stop out_of_turns look
  looks_closed = record {
    of_pure = λ a s t agree. (refl, agree);
    of_bind = bind_looks;
    of_stop = λ s t agree. tt;
    of_no_turn = λ s t agree. tt;
    of_look = λ m f h s t agree. (ap f (agree m h), agree);
    of_change = change_looks;
  }

  pub within : (core : PlainCore) (reading : Reading) (most : ℕ) (node : PlainNode) (scope : Scope) → NodeNames core is node → IsWithin is (run core reading most node scope)
  within core reading most node scope named = record {
    changes = run_Q Changes is changes_closed core reading most node scope named;
    looks = run_Q Looks is looks_closed core reading most node scope named;
  }
