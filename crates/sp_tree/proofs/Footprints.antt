-- A run changes and looks at only the memories that its statements name.
use Rattle.std.proofs.Common.{◌≡◌, ℕ, zero, suc, Bool, true, false, IsTrue, refl, sym, ◌∙◌, ap, subst, eqb-true}
use Rattle.std.specs.Prelude.{◌==◌, Some}
use Rattle.sp_words.specs.Memory.{Contents}
use Rattle.sp_tree.specs.Laws.{Agree, WentAlike, LeftAlone}
use Rattle.sp_tree.specs.Step.{Step, Went, went, faulted, more, pure, ◌>>=◌, ◌>>◌, turn, out_of_turns, fault, read, change, as_long_as}
use Rattle.sp_tree.specs.Store.{Store, changed, hold}
use Rattle.sp_tree.proofs.Closure.{IsClosed, Loops, repeated_Q}

module _ (is : ℕ → Bool) where
  abbrev pub Changes : (A : Type 0) → Step A → Type 0
  Changes A step = (left : ℕ) (s : Store) → LeftAlone is s (step left s)

  abbrev pub Looks : (A : Type 0) → Step A → Type 0
  Looks A step = (left : ℕ) (s t : Store) → Agree is s t → WentAlike is (step left s) (step left t)

  after_alone : {A : Type 0} (s t : Store) → ((m : ℕ) → is m ≡ false → t.held m ≡ s.held m) → (w : Went A) → LeftAlone is t w → LeftAlone is s w
  after_alone s t h (went a l u) k = λ m e. k m e ∙ h m e
  after_alone s t h (faulted kind place) k = tt
  after_alone s t h more k = tt

  bind_changes : {A B : Type 0} (step : Step A) (rest : A → Step B) → Changes A step → ((a : A) → Changes B (rest a)) → Changes B (step >>= rest)
  unfolding ◌>>=◌
  bind_changes {A = A} {B = B} step rest f g left s = go (step left s) (f left s)
    where
      go : (w : Went A) → LeftAlone is s w → LeftAlone is s (elim w as (λ _. Went B) [ went a l s ↦ rest a l s | faulted kind place ↦ faulted kind place | more ↦ more ])
      go (went a l t) h = after_alone s t h (rest a l t) (g a l t)
      go (faulted kind place) h = tt
      go more h = tt

  apart : (k m : ℕ) → IsTrue (is m) → is k ≡ false → (b : Bool) → (k == m) ≡ b → {A : Type 0} (x y : A) → (elim b as (λ _. A) [ true ↦ x | false ↦ y ]) ≡ y
  apart k m h e true t x y = let bad : false ≡ true = sym e ∙ ap is (eqb-true k m t) ∙ h in cc
  apart k m h e false t x y = refl

  hold_changes : (m : ℕ) (contents : Contents) → IsTrue (is m) → Changes (Unit {0}) (change (λ s. hold s m contents))
  unfolding change
  hold_changes m contents h left s k e = apart k m h e (k == m) refl (Some contents) (s.held k)

  turn_changes : Changes (Unit {0}) turn
  unfolding turn
  turn_changes zero s = tt
  turn_changes (suc left) s = λ m e. refl

  pub changes_closed : IsClosed Changes is
  unfolding pure out_of_turns fault read change
  changes_closed = record {
    of_pure = λ a left s m e. refl;
    of_bind = bind_changes;
    of_turn = turn_changes;
    of_no_turn = λ left s. tt;
    of_fault = λ kind place left s. tt;
    of_held = λ m f h left s k e. refl;
    of_value = λ v left s m e. refl;
    of_count = λ c left s m e. refl;
    of_hold = hold_changes;
    of_name = λ v w left s m e. refl;
    of_set = λ c w left s m e. refl;
  }

  pub changes_loops : Loops Changes
  unfolding as_long_as
  changes_loops A B test step t q a left s =
      repeated_Q Changes is changes_closed test (λ x. turn >> step x) t (λ x. bind_changes turn (λ _. step x) turn_changes (λ _. q x)) left a left s

  bind_looks : {A B : Type 0} (step : Step A) (rest : A → Step B) → Looks A step → ((a : A) → Looks B (rest a)) → Looks B (step >>= rest)
  unfolding ◌>>=◌
  bind_looks {A = A} {B = B} step rest f g left s t agree = go (step left s) (step left t) (f left s t agree)
    where
      then : Went A → Went B
      then w = elim w as (λ _. Went B) [ went a l s ↦ rest a l s | faulted kind place ↦ faulted kind place | more ↦ more ]

      go : (v w : Went A) → WentAlike is v w → WentAlike is (then v) (then w)
      go (went a l s) (went b k t) h = subst (λ x. WentAlike is (rest a l s) (rest x k t)) h.0 (subst (λ n. WentAlike is (rest a l s) (rest a n t)) h.1 (g a l s t h.2))
      go (faulted kind place) (faulted other at) h = h
      go more more h = tt
      go (went a l s) (faulted other at) h = absurd h
      go (went a l s) more h = absurd h
      go (faulted kind place) (went b k t) h = absurd h
      go (faulted kind place) more h = absurd h
      go more (went b k t) h = absurd h
      go more (faulted other at) h = absurd h

  changed_alike : {A : Type 0} (f g : ℕ → A) (n k : ℕ) (x : A) → f k ≡ g k → changed f n x k ≡ changed g n x k
  changed_alike {A = A} f g n k x e = elim (k == n) as (λ b. (elim b as (λ _. A) [ true ↦ x | false ↦ f k ]) ≡ (elim b as (λ _. A) [ true ↦ x | false ↦ g k ])) [ true ↦ refl | false ↦ e ]

  turn_looks : Looks (Unit {0}) turn
  unfolding turn
  turn_looks zero s t agree = tt
  turn_looks (suc left) s t agree = (refl, refl, agree)

  pub looks_closed : IsClosed Looks is
  unfolding pure out_of_turns fault read change
  looks_closed = record {
    of_pure = λ a left s t agree. (refl, refl, agree);
    of_bind = bind_looks;
    of_turn = turn_looks;
    of_no_turn = λ left s t agree. tt;
    of_fault = λ kind place left s t agree. (refl, refl);
    of_held = λ m f h left s t agree. (ap f (agree.held m h), refl, agree);
    of_value = λ v left s t agree. (agree.values v, refl, agree);
    of_count = λ c left s t agree. (agree.counts c, refl, agree);
    of_hold = λ m contents h left s t agree. (refl, refl, record { held = λ k e. changed_alike s.held t.held m k (Some contents) (agree.held k e); values = agree.values; counts = agree.counts });
    of_name = λ v w left s t agree. (refl, refl, record { held = agree.held; values = λ k. changed_alike s.values t.values v k w (agree.values k); counts = agree.counts });
    of_set = λ c w left s t agree. (refl, refl, record { held = agree.held; values = agree.values; counts = λ k. changed_alike s.counts t.counts c k w (agree.counts k) });
  }

  pub looks_loops : Loops Looks
  unfolding as_long_as
  looks_loops A B test step t q a left s u agree =
      repeated_Q Looks is looks_closed test (λ x. turn >> step x) t (λ x. bind_looks turn (λ _. step x) turn_looks (λ _. q x)) left a left s u agree
