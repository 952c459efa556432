-- Steps of a core and steps of another one that do the same to a memory of the one and to a memory of the other.
use Rattle.std.proofs.Common.{◌≡◌, ℕ, Bool, true, false, Option, Some, None, refl, sym, ◌∙◌, ap}
use Rattle.std.proofs.lemmas.Bool.{true≢false, eq-eqb, ne_eqb}
use Rattle.sp_words.specs.Memory.{Contents}
use Rattle.sp_core.specs.Accesses.{written, first_of_queue}
use Rattle.sp_core.specs.Step.{Step, Went, went, stopped, more, pure, ◌>>=◌, stop, ensure, look, change}
use Rattle.sp_core.specs.Store.{Store, hold}
use Rattle.std.specs.Prelude.{List, [], ◌∷◌}

-- all but one memory holds what it did
abbrev pub Kept : ℕ → (before after : Store) → Type 0
Kept m s after = (k : ℕ) → (k ≡ m → ⊥) → after k ≡ s k

abbrev pub did_go : {A : Type 0} → Went A → Bool
did_go (went a s) = true
did_go stopped = false
did_go more = false

-- where the one goes on, so does the other, with the same answer, and both memories hold the same after it
module _ (m n : ℕ) where
  abbrev pub Along : (A : Type 0) → Step A → Step A → Type 0
  Along A one two = (s t : Store) → t n ≡ s m → (a : A) (after : Store) → one s ≡ went a after → (ended : Store) × (two t ≡ went a ended) × (ended n ≡ after m) × Kept m s after × Kept n t ended

abbrev pub answer_of : {A : Type 0} → A → Went A → A
answer_of a (went b s) = b
answer_of a stopped = a
answer_of a more = a

abbrev pub store_of : {A : Type 0} → Store → Went A → Store
store_of s (went b t) = t
store_of s stopped = s
store_of s more = s

hold_here : (s : Store) (m : ℕ) (c : Contents) → hold s m c m ≡ Some c
hold_here s m c = ap (λ b. elim b as (λ _. Option Contents) [ true ↦ Some c | false ↦ s m ]) (eq-eqb m m refl)

hold_other : (s : Store) (m : ℕ) (c : Contents) → Kept m s (hold s m c)
hold_other s m c k ne = ap (λ b. elim b as (λ _. Option Contents) [ true ↦ Some c | false ↦ s k ]) (ne_eqb k m ne)

module _ (m n : ℕ) where
  -- nothing is done
  pub pure_along : {A : Type 0} (a : A) → Along m n A (pure a) (pure a)
  unfolding pure
  pure_along a s t h b after e =
      let same : s ≡ after = ap (store_of s) e in
      (t, ap (λ x. went x t) (ap (answer_of a) e), h ∙ ap (λ (u : Store). u m) same, (λ k ne. ap (λ (u : Store). u k) (sym same)), (λ k ne. refl))

  pub stop_along : {A : Type 0} → Along m n A stop stop
  unfolding stop
  stop_along s t h b after e = absurd (true≢false (sym (ap did_go e)))

  pub ensure_along : (b : Bool) → Along m n (Unit {0}) (ensure b) (ensure b)
  ensure_along true = pure_along tt
  ensure_along false = stop_along

  pub written_along : (o : Option ℕ) → Along m n ℕ (written o) (written o)
  written_along None = stop_along
  written_along (Some w) = pure_along w

  pub first_along : (ws : List ℕ) → Along m n ℕ (first_of_queue ws) (first_of_queue ws)
  first_along [] = stop_along
  first_along (w ∷ ws) = pure_along w

  -- one step after another
  pub bind_along : {A B : Type 0} (P Q : Step A) (R S : A → Step B) → Along m n A P Q → ((a : A) → Along m n B (R a) (S a)) → Along m n B (P >>= R) (Q >>= S)
  unfolding ◌>>=◌
  bind_along {A = A} {B = B} P Q R S f g s t h b after e = by (P s) refl e
    where
      by : (r : Went A) → P s ≡ r → elim r as (λ _. Went B) [ went a u ↦ R a u | stopped ↦ stopped | more ↦ more ] ≡ went b after
          → (ended : Store) × (elim (Q t) as (λ _. Went B) [ went a u ↦ S a u | stopped ↦ stopped | more ↦ more ] ≡ went b ended) × (ended n ≡ after m) × Kept m s after × Kept n t ended
      by (went a u) i e =
          let x = f s t h a u i in
          let y = g a u x.0 x.2 b after e in
          (y.0, ap (λ (r : Went A). elim r as (λ _. Went B) [ went a u ↦ S a u | stopped ↦ stopped | more ↦ more ]) x.1 ∙ y.1, y.2, (λ k ne. y.3 k ne ∙ x.3 k ne), (λ k ne. y.4 k ne ∙ x.4 k ne))
      by stopped i e = absurd (true≢false (sym (ap did_go e)))
      by more i e = absurd (true≢false (sym (ap did_go e)))

  -- what stands in a store
  pub look_along : {X : Type 0} (f g : Store → X) → ((s t : Store) → t n ≡ s m → g t ≡ f s) → Along m n X (look f) (look g)
  unfolding look
  look_along f g same s t h b after e =
      let still : s ≡ after = ap (store_of s) e in
      (t, ap (λ x. went x t) (same s t h ∙ ap (answer_of (f s)) e), h ∙ ap (λ (u : Store). u m) still, (λ k ne. ap (λ (u : Store). u k) (sym still)), (λ k ne. refl))

  -- the memory holds something else, by what it held
  pub change_along : (f g : Option Contents → Contents) → ((c : Option Contents) → g c ≡ f c) → Along m n (Unit {0}) (change (λ s. hold s m (f (s m)))) (change (λ t. hold t n (g (t n))))
  unfolding change
  change_along f g same s t h b after e =
      let now : hold s m (f (s m)) ≡ after = ap (store_of s) e in (
        hold t n (g (t n)),
        ap (λ x. went x (hold t n (g (t n)))) (ap (answer_of tt) e),
        hold_here t n (g (t n)) ∙ ap Some (same (t n) ∙ ap f h) ∙ sym (hold_here s m (f (s m))) ∙ ap (λ (u : Store). u m) now,
        (λ k ne. ap (λ (u : Store). u k) (sym now) ∙ hold_other s m (f (s m)) k ne),
        hold_other t n (g (t n)),
      )
