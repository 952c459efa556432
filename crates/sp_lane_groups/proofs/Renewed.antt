-- Steps in order, and memories that are renewed at the beginning of a body.
use Rattle.std.proofs.Common.{◌≡◌, ℕ, Bool, true, false, cond, ◌||◌, List, [], ◌∷◌, Option, Some, refl, sym, ◌∙◌, ap, subst, ◌==◌}
use Rattle.std.proofs.lemmas.Bool.{true≢false, eq-eqb, eqb-true, ne_eqb}
use Rattle.sp_words.specs.Memory.{Contents}
use Rattle.sp_core.specs.Declarations.{mem, is_among, fresh}
use Rattle.sp_core.specs.PlainCore.{PlainCore}
use Rattle.sp_core.specs.Scope.{plainly}
use Rattle.sp_core.specs.Sequential.{has_reset, renew_in_body}
use Rattle.sp_core.specs.Step.{Step, Went, went, stopped, more, pure, ◌>>=◌, change, in_order}
use Rattle.sp_core.specs.Store.{Store, hold}
use Rattle.sp_lane_groups.proofs.LiveAlong.{did_go, answer_of, store_of}

-- one step and what comes after it
pub bind_known : {A B : Type 0} (step : Step A) (rest : A → Step B) (s u : Store) (a : A) → step s ≡ went a u → (step >>= rest) s ≡ rest a u
unfolding ◌>>=◌
bind_known {A = A} {B = B} step rest s u a e = ap (λ (r : Went A). elim r as (λ _. Went B) [ went a v ↦ rest a v | stopped ↦ stopped | more ↦ more ]) e

pub bind_split : {A B : Type 0} (step : Step A) (rest : A → Step B) (s v : Store) (b : B) → (step >>= rest) s ≡ went b v → (a : A) × (u : Store) × (step s ≡ went a u) × (rest a u ≡ went b v)
unfolding ◌>>=◌
bind_split {A = A} {B = B} step rest s v b e = by (step s) refl e
  where
    by : (r : Went A) → step s ≡ r → elim r as (λ _. Went B) [ went a u ↦ rest a u | stopped ↦ stopped | more ↦ more ] ≡ went b v → (a : A) × (u : Store) × (step s ≡ went a u) × (rest a u ≡ went b v)
    by (went a u) i j = (a, u, i, j)
    by stopped i j = absurd (true≢false (sym (ap did_go j)))
    by more i j = absurd (true≢false (sym (ap did_go j)))

-- steps in order
pub order_on : {A B : Type 0} (step : A → Step B) (x : A) (xs : List A) (s u v : Store) (b : B) (bs : List B) → step x s ≡ went b u → in_order step xs u ≡ went bs v → in_order step (x ∷ xs) s ≡ went (b ∷ bs) v
unfolding in_order pure
order_on step x xs s u v b bs i j =
    bind_known (step x) (λ first. in_order step xs >>= (λ others. pure (first ∷ others))) s u b i
    ∙ bind_known (in_order step xs) (λ others. pure (b ∷ others)) u v bs j

pub order_split : {A B : Type 0} (step : A → Step B) (x : A) (xs : List A) (s v : Store) (all : List B) → in_order step (x ∷ xs) s ≡ went all v
    → (b : B) × (u : Store) × (bs : List B) × (step x s ≡ went b u) × (in_order step xs u ≡ went bs v) × (b ∷ bs ≡ all)
unfolding in_order pure
order_split step x xs s v all e =
    let first = bind_split (step x) (λ first. in_order step xs >>= (λ others. pure (first ∷ others))) s v all e in
    let second = bind_split (in_order step xs) (λ others. pure (first.0 ∷ others)) first.1 v all first.3 in
    (first.0, first.1, second.0, first.2, second.2 ∙ ap (λ z. went second.0 z) (ap (store_of v) second.3), ap (answer_of all) second.3)

pub order_none : {A B : Type 0} (step : A → Step B) (s v : Store) (all : List B) → in_order step [] s ≡ went all v → (s ≡ v) × ([] ≡ all)
unfolding in_order pure
order_none step s v all e = (ap (store_of s) e, ap (answer_of all) e)

module _ (core : PlainCore) where
  abbrev is_kept : ℕ → Bool
  is_kept n = has_reset (mem core n).kind (mem core n).start

  abbrev one_renewed : ℕ → Store → Store
  one_renewed x t = cond (is_kept x) t (hold t x (fresh core x))

  renews_one : (x : ℕ) (t : Store) → renew_in_body core plainly 0 x t ≡ went tt (one_renewed x t)
  unfolding pure change
  renews_one x t = by (is_kept x)
    where
      by : (b : Bool) → (elim b as (λ _. Step (Unit {0})) [ true ↦ pure tt | false ↦ change (λ s. hold s x (fresh core x)) ]) t ≡ went tt (cond b t (hold t x (fresh core x)))
      by true = refl
      by false = refl

  renewed_here : (x : ℕ) (t : Store) → is_kept x ≡ false → one_renewed x t x ≡ Some (fresh core x)
  renewed_here x t e = ap (λ b. cond b t (hold t x (fresh core x)) x) e ∙ ap (λ b. elim b as (λ _. Option Contents) [ true ↦ Some (fresh core x) | false ↦ t x ]) (eq-eqb x x refl)

  renewed_there : (x : ℕ) (t : Store) (n : ℕ) → (n ≡ x → ⊥) → one_renewed x t n ≡ t n
  renewed_there x t n ne = by (is_kept x)
    where
      by : (b : Bool) → cond b t (hold t x (fresh core x)) n ≡ t n
      by true = refl
      by false = ap (λ b. elim b as (λ _. Option Contents) [ true ↦ Some (fresh core x) | false ↦ t n ]) (ne_eqb n x ne)

  -- memories are renewed, and all others hold what they did
  pub record Renewed (xs : List ℕ) (t : Store) : Type 0 where
    pub answers : List (Unit {0})
    pub after : Store
    pub ran : in_order (renew_in_body core plainly 0) xs t ≡ went answers after
    pub inside : (n : ℕ) → is_among n xs ≡ true → has_reset (mem core n).kind (mem core n).start ≡ false → after n ≡ Some (fresh core n)
    pub outside : (n : ℕ) → is_among n xs ≡ false → after n ≡ t n

  pub renew_all : (xs : List ℕ) (t : Store) → Renewed xs t
  unfolding in_order pure
  renew_all [] t = record { answers = []; after = t; ran = refl; inside = λ n e k. absurd (true≢false (sym e)); outside = λ n e. refl }
  renew_all (x ∷ xs) t =
      let rest : Renewed xs (one_renewed x t) = renew_all xs (one_renewed x t) in
      record {
        answers = tt ∷ rest.answers;
        after = rest.after;
        ran = order_on (renew_in_body core plainly 0) x xs t (one_renewed x t) rest.after tt rest.answers (renews_one x t) rest.ran;
        inside = λ n e k. by n rest.after (one_renewed x t) (is_among n xs) refl (λ a. rest.inside n a k) (λ a. rest.outside n a) e (λ same. subst (λ j. one_renewed x t j ≡ Some (fresh core j)) same (renewed_here x t (ap is_kept same ∙ k)));
        outside = λ n e. (let p = neither (n == x) (is_among n xs) e in rest.outside n p.1 ∙ renewed_there x t n (λ s. true≢false (sym (eq-eqb n x s) ∙ p.0)));
      }
    where
      neither : (a b : Bool) → (a || b) ≡ false → (a ≡ false) × (b ≡ false)
      neither true b e = absurd (true≢false e)
      neither false b e = (refl, e)

      by : (n : ℕ) (after u : Store) (b : Bool) → is_among n xs ≡ b → (is_among n xs ≡ true → after n ≡ Some (fresh core n)) → (is_among n xs ≡ false → after n ≡ u n) → ((n == x) || is_among n xs) ≡ true
          → (x ≡ n → u n ≡ Some (fresh core n)) → after n ≡ Some (fresh core n)
      by n after u true i f g e h = f i
      by n after u false i f g e h = g i ∙ h (sym (eqb-true n x (only (n == x) (ap (λ c. (n == x) || c) (sym i) ∙ e))))
        where
          only : (a : Bool) → (a || false) ≡ true → a ≡ true
          only true e = refl
          only false e = e
