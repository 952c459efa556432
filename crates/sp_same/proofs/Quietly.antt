-- Steps of a program that change nothing, one after the other, and those of its core.
use Rattle.std.proofs.Common.{◌≡◌, ℕ, List, [], ◌∷◌, refl, sym, ◌∙◌, ap, subst}
use Rattle.sp_tree.specs.Step as program
use Rattle.sp_tree.specs.Store as program_store
use Rattle.sp_core.specs.Step as core
use Rattle.sp_core.specs.Store as core_store
use Rattle.sp_sugar.proofs.StepLemmas.{same_answer, taken_apart, then_on}
use Rattle.sp_same.proofs.StillWords.{unchanged}

-- pairs of elements of two lists that belong together
abbrev pub Pairs : {A B : Type 0} → (A → B → Type 0) → List A → List B → Type 0
Pairs R [] [] = Unit {0}
Pairs R (a ∷ al) (b ∷ bs) = R a b × Pairs R al bs
Pairs R _ _ = ⊥

-- and of elements of three
abbrev pub Triples : {X B A : Type 0} → (X → B → A → Type 0) → List X → List B → List A → Type 0
Triples R [] [] [] = Unit {0}
Triples R (x ∷ xs) (b ∷ bs) (a ∷ al) = R x b a × Triples R xs bs al
Triples R _ _ _ = ⊥

module _ {X A Y B : Type 0} (f : X → program.Step A) (g : Y → core.Step B) (R : X → B → A → Type 0) (left : ℕ) (s : program_store.Store) (t : core_store.Store) where
  -- where the program's step goes on it changes nothing, and the core's does the same
  abbrev pub Quietly : X → Y → Type 0
  Quietly x y = (a : A) (n : ℕ) (u : program_store.Store) → f x left s ≡ program.went a n u → (n ≡ left) × (u ≡ s) × (b : B) × (g y t ≡ core.went b t) × R x b a

  pub quiet_order : (xs : List X) (ys : List Y) (al : List A) (n : ℕ) (u : program_store.Store) → Pairs Quietly xs ys → program.in_order f xs left s ≡ program.went al n u
      → (n ≡ left) × (u ≡ s) × (bs : List B) × (core.in_order g ys t ≡ core.went bs t) × Triples R xs bs al
  unfolding program.in_order core.in_order program.pure core.pure
  quiet_order [] [] al n u q e = let c = unchanged [] al left n s u e in (c.0, c.1, [], refl, subst (λ l. Triples R [] [] l) (same_answer [] al left n s u e) tt)
  quiet_order [] (y ∷ ys) al n u q e = absurd q
  quiet_order (x ∷ xs) [] al n u q e = absurd q
  quiet_order (x ∷ xs) (y ∷ ys) al n u q e =
      let b = taken_apart (f x) (λ first. program.◌>>=◌ (program.in_order f xs) (λ others. program.pure (first ∷ others))) left s al n u e in
      let d = taken_apart (program.in_order f xs) (λ others. program.pure (b.answer ∷ others)) b.between b.store al n u b.second in
      let one = q.0 b.answer b.between b.store b.first in
      let here : program.in_order f xs left s ≡ program.went d.answer d.between d.store = ap (λ k. program.in_order f xs k s) (sym one.0) ∙ ap (λ v. program.in_order f xs b.between v) (sym one.1) ∙ d.first in
      let more = quiet_order xs ys d.answer d.between d.store q.1 here in
      let c = unchanged (b.answer ∷ d.answer) al d.between n d.store u d.second in (
        c.0 ∙ more.0,
        c.1 ∙ more.1,
        one.2 ∷ more.2,
        then_on (g y) (λ first. core.◌>>=◌ (core.in_order g ys) (λ others. core.pure (first ∷ others))) t one.2 t one.3
            ∙ then_on (core.in_order g ys) (λ others. core.pure (one.2 ∷ others)) t more.2 t more.3,
        subst (λ l. Triples R (x ∷ xs) (one.2 ∷ more.2) l) (same_answer (b.answer ∷ d.answer) al d.between n d.store u d.second) (one.4, more.4),
      )
