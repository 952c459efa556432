-- Memories that a controller makes fresh.
use Rattle.std.proofs.Common.{◌≡◌, ℕ, Bool, true, false, ◌||◌, List, [], ◌∷◌, Option, Some, refl, sym, ◌∙◌, ap, ◌==◌}
use Rattle.std.proofs.lemmas.Bool.{true≢false, eqb-true, eq-eqb, ne_eqb}
use Rattle.sp_words.specs.Memory.{Contents}
use Rattle.sp_core.specs.Declarations.{fresh, is_among}
use Rattle.sp_core.specs.MemoryRules.{are_memories_right}
use Rattle.sp_core.specs.PlainCore.{PlainCore}
use Rattle.sp_core.specs.Scope.{Reading}
use Rattle.sp_core.specs.Sequential.{renew}
use Rattle.sp_core.specs.Step.{went, pure, change, in_order}
use Rattle.sp_core.specs.Store.{Store, hold}
use Rattle.sp_fitting.specs.Fitting.{StoreFits}
use Rattle.sp_fitting.proofs.Contents.{fresh_fits}
use Rattle.sp_fitting.proofs.Keeping.{Anything, each_keeps, hold_keeps}
use Rattle.sp_lane_groups.proofs.Renewed.{order_on}

module _ (core : PlainCore) (reading : Reading) (turns : ℕ) where
  -- these are fresh, and all others hold what they did
  pub record Made (xs : List ℕ) (t : Store) : Type 0 where
    pub answers : List (Unit {0})
    pub after : Store
    pub ran : in_order (renew core reading turns) xs t ≡ went answers after
    pub inside : (n : ℕ) → is_among n xs ≡ true → after n ≡ Some (fresh core n)
    pub outside : (n : ℕ) → is_among n xs ≡ false → after n ≡ t n

  abbrev one_made : ℕ → Store → Store
  one_made x t = hold t x (fresh core x)

  makes_one : (x : ℕ) (t : Store) → renew core reading turns x t ≡ went tt (one_made x t)
  unfolding change
  makes_one x t = refl

  made_here : (x n : ℕ) (t : Store) → n ≡ x → one_made x t n ≡ Some (fresh core n)
  made_here x n t e = ap (λ b. elim b as (λ _. Option Contents) [ true ↦ Some (fresh core x) | false ↦ t n ]) (eq-eqb n x e) ∙ ap (λ k. Some (fresh core k)) (sym e)

  made_there : (x n : ℕ) (t : Store) → (n ≡ x → ⊥) → one_made x t n ≡ t n
  made_there x n t ne = ap (λ b. elim b as (λ _. Option Contents) [ true ↦ Some (fresh core x) | false ↦ t n ]) (ne_eqb n x ne)

  pub make_all : (xs : List ℕ) (t : Store) → Made xs t
  unfolding in_order pure
  make_all [] t = record { answers = []; after = t; ran = refl; inside = λ n e. absurd (true≢false (sym e)); outside = λ n e. refl }
  make_all (x ∷ xs) t =
      let rest : Made xs (one_made x t) = make_all xs (one_made x t) in
      record {
        answers = tt ∷ rest.answers;
        after = rest.after;
        ran = order_on (renew core reading turns) x xs t (one_made x t) rest.after tt rest.answers (makes_one x t) rest.ran;
        inside = λ n e. by n rest.after (is_among n xs) refl (rest.inside n) (rest.outside n) e;
        outside = λ n e. (let p = neither (n == x) (is_among n xs) e in rest.outside n p.1 ∙ made_there x n t (λ s. true≢false (sym (eq-eqb n x s) ∙ p.0)));
      }
    where
      neither : (a b : Bool) → (a || b) ≡ false → (a ≡ false) × (b ≡ false)
      neither true b e = absurd (true≢false e)
      neither false b e = (refl, e)

      only : (a b : Bool) → b ≡ false → (a || b) ≡ true → a ≡ true
      only true b e f = refl
      only false b e f = absurd (true≢false (sym f ∙ e))

      by : (n : ℕ) (after : Store) (b : Bool) → is_among n xs ≡ b → (is_among n xs ≡ true → after n ≡ Some (fresh core n)) → (is_among n xs ≡ false → after n ≡ one_made x t n) → ((n == x) || is_among n xs) ≡ true → after n ≡ Some (fresh core n)
      by n after true i f g e = f i
      by n after false i f g e = g i ∙ made_here x n t (eqb-true n x (only (n == x) (is_among n xs) i e))

  -- words still fit
  pub made_fit : are_memories_right core ≡ true → (xs : List ℕ) (s t : Store) (a : List (Unit {0})) → StoreFits core s → in_order (renew core reading turns) xs s ≡ went a t → StoreFits core t
  made_fit memories xs s t a fits ran = (each_keeps core (renew core reading turns) Anything (λ m. hold_keeps core m (fresh core m) (fresh_fits core m memories)) xs s t a fits ran).0
