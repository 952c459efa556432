-- Entries of a table, by their numbers.
use Rattle.std.proofs.Common.{◌≡◌, ℕ, zero, suc, ◌<◌, ◌==◌, Bool, true, false, List, [], ◌∷◌, ◌++◌, length, slice_index_or, slice_set, take, refl, sym, ◌∙◌, ap, subst, arith}
use Rattle.std.proofs.lemmas.Bool.{true≢false, eqb-true, eq-eqb}
use Rattle.sp_core.specs.Store.{changed}
use Rattle.sp_node_runs.specs.BodiesGiven.{CounterNets}
use Rattle.sp_op_nets.specs.declared.table.AroundNets.{AroundNets}
use Rattle.sp_op_nets.specs.Table.{nets_at}

abbrev pub plain : AroundNets → CounterNets
plain a = record { value = a.value; step = a.step; masks = a.masks.items }

abbrev pub none : CounterNets
none = record { value = 0; step = 0; masks = [] }

pub empty_behind : (xs : List AroundNets) (a : AroundNets) → plain a ≡ none → (n : ℕ) → nets_at (xs ++ a ∷ []) n ≡ nets_at xs n
empty_behind [] a e zero = e
empty_behind [] a e (suc n) = refl
empty_behind (x ∷ xs) a e zero = refl
empty_behind (x ∷ xs) a e (suc n) = empty_behind xs a e n

pub same_behind : (xs ys : List AroundNets) (a b : AroundNets) (i : ℕ) → length xs ≡ i → i < length ys → b ≡ slice_index_or ys i b → plain a ≡ plain b → ((n : ℕ) → nets_at xs n ≡ nets_at (take i ys) n) → (n : ℕ) → nets_at (xs ++ a ∷ []) n ≡ nets_at (take (suc i) ys) n
same_behind xs [] a b i long lt is e h n = absurd (omega (arith, lt))
same_behind [] (y ∷ ys) a b zero long lt is e h zero = e ∙ ap plain is
same_behind [] (y ∷ ys) a b zero long lt is e h (suc n) = refl
same_behind [] (y ∷ ys) a b (suc i) long lt is e h n = absurd (omega (arith, long))
same_behind (x ∷ xs) (y ∷ ys) a b zero long lt is e h n = absurd (omega (arith, long))
same_behind (x ∷ xs) (y ∷ ys) a b (suc i) long lt is e h zero = h zero
same_behind (x ∷ xs) (y ∷ ys) a b (suc i) long lt is e h (suc n) = same_behind xs ys a b i (omega (arith, long)) (omega (arith, lt)) is e (λ m. h (suc m)) n

-- what is so of what is set at a number and else of what was there is so after the change
pub changed_case : {A : Type 0} (P : A → Type 0) (was : ℕ → A) (number : ℕ) (now : A) (k : ℕ) → (k ≡ number → P now) → ((k ≡ number → ⊥) → P (was k)) → P (changed was number now k)
changed_case {A = A} P was number now k here there = by (k == number) refl
  where
    by : (b : Bool) → (k == number) ≡ b → P (elim b [ true ↦ now | false ↦ was k ])
    by true e = here (eqb-true k number e)
    by false e = there (λ same. true≢false (sym (eq-eqb k number same) ∙ e))

pub set_at : (xs : List AroundNets) (i : ℕ) (a : AroundNets) → i < length xs → (n : ℕ) → nets_at (slice_set xs i a) n ≡ changed (nets_at xs) i (plain a) n
set_at xs i a lt n = changed_case (λ r. nets_at (slice_set xs i a) n ≡ r) (nets_at xs) i (plain a) n (λ e. subst (λ m. nets_at (slice_set xs i a) m ≡ plain a) (sym e) (here xs i a lt)) (λ other. there xs i a n other)
  where
    here : (xs : List AroundNets) (i : ℕ) (a : AroundNets) → i < length xs → nets_at (slice_set xs i a) i ≡ plain a
    here [] i a lt = absurd (omega (arith, lt))
    here (x ∷ xs) zero a lt = refl
    here (x ∷ xs) (suc i) a lt = here xs i a (omega (arith, lt))

    there : (xs : List AroundNets) (i : ℕ) (a : AroundNets) (n : ℕ) → (n ≡ i → ⊥) → nets_at (slice_set xs i a) n ≡ nets_at xs n
    there [] i a n other = refl
    there (x ∷ xs) zero a zero other = absurd (other refl)
    there (x ∷ xs) zero a (suc n) other = refl
    there (x ∷ xs) (suc i) a zero other = refl
    there (x ∷ xs) (suc i) a (suc n) other = there xs i a n (λ e. other (ap suc e))

pub made_none : (a : AroundNets) → a.value ≡ 0 → a.step ≡ 0 → a.masks.items ≡ [] → plain a ≡ none
made_none a v s m = ap (λ x. record { value = x; step = a.step; masks = a.masks.items }) v ∙ ap (λ x. record { value = 0; step = x; masks = a.masks.items }) s ∙ ap (λ xs. record { value = 0; step = 0; masks = xs }) m

pub made_same : (a b : AroundNets) → a.value ≡ b.value → a.step ≡ b.step → a.masks.items ≡ b.masks.items → plain a ≡ plain b
made_same a b v s m = ap (λ x. record { value = x; step = a.step; masks = a.masks.items }) v ∙ ap (λ x. record { value = b.value; step = x; masks = a.masks.items }) s ∙ ap (λ xs. record { value = b.value; step = b.step; masks = xs }) m

pub changed_same : (was other : ℕ → CounterNets) (number : ℕ) (now new : CounterNets) (n : ℕ) → was n ≡ other n → now ≡ new → changed was number now n ≡ changed other number new n
changed_same was other number now new n e f = ap (λ r. elim (n == number) [ true ↦ now | false ↦ r ]) e ∙ ap (λ r. elim (n == number) [ true ↦ r | false ↦ other n ]) f
