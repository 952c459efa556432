-- Lists of nets by memories.
use Rattle.std.proofs.Common.{◌≡◌, ℕ, zero, suc, ◌+◌, ◌-◌, ◌<◌, ◌≤◌, ◌==◌, ◌||◌, ◌⊎◌, ⊎_elim, inl, inr, if◌then◌else◌, Bool, true, false, List, [], ◌∷◌, ◌++◌, length, take, drop, Contains, slice_set, slice_index_or, Option, Some, None, refl, sym, ap, ◌∙◌, arith}
use Rattle.std.proofs.lemmas.Bool.{eqb-true, eqb-false}
use Rattle.std.proofs.lemmas.Grind.{get_or-set_at}
use Rattle.std.proofs.lemmas.List.{get_or-set_other}
use Rattle.sp_netlist.specs.Draft.{Draft}
use Rattle.sp_core.specs.Declarations.{is_among}
use Rattle.sp_sequence.proofs.Cycles.{first_and_rest}
use Rattle.sp_tree_events.specs.CopiesStanding.{CopyNets, with_numbers}
use Rattle.sp_copy_nets.specs.Numbers.{StandNumbers}
use Rattle.sp_copy_nets.specs.Table.{numbers_at, own_numbers}

numbers_get : (nets : List (Option ℕ)) (m : ℕ) → numbers_at nets m ≡ slice_index_or nets m None
numbers_get [] zero = refl
numbers_get [] (suc m) = refl
numbers_get (x ∷ nets) zero = refl
numbers_get (x ∷ nets) (suc m) = numbers_get nets m

pub first_of : (xs : List ℕ) → 1 ≤ length xs → xs ≡ slice_index_or xs 0 0 ∷ take (length xs - 1) (drop 1 xs)
first_of [] l = absurd (omega (arith, l))
first_of (x ∷ xs) l = first_and_rest (x ∷ xs) x l refl

-- a list in which the net of one more memory is set
pub table_set : (around : CopyNets) (nets : List (Option ℕ)) (o : ℕ) (owned : List ℕ) (net : Option ℕ) (own : List (Option ℕ)) → o < length nets → ((m : ℕ) → numbers_at nets m ≡ with_numbers around owned (own_numbers owned own) m)
    → (m : ℕ) → numbers_at (slice_set nets o net) m ≡ with_numbers around (o ∷ owned) (own_numbers (o ∷ owned) (net ∷ own)) m
table_set around nets o owned net own lt h m = by (m == o) refl
  where
    by : (b : Bool) → (m == o) ≡ b → numbers_at (slice_set nets o net) m ≡ (if b || is_among m owned then (if b then net else own_numbers owned own m) else around m)
    by true e = numbers_get (slice_set nets o net) m ∙ get_or-set_at nets o m net None (eqb-true m o e) lt
    by false e = numbers_get (slice_set nets o net) m ∙ get_or-set_other nets o m net None (eqb-false m o e) ∙ sym (numbers_get nets m) ∙ h m

-- a list of so many memories without a net
abbrev pub nothing : (memories : ℕ) → List (Option ℕ)
nothing zero = []
nothing (suc n) = None ∷ nothing n

nothing_next : (n : ℕ) → nothing n ++ None ∷ [] ≡ nothing (suc n)
nothing_next zero = refl
nothing_next (suc n) = ap (λ nets. None ∷ nets) (nothing_next n)

pub nothing_more : (n : ℕ) → nothing n ++ None ∷ [] ≡ nothing (n + 1)
nothing_more n = (let e : suc n ≡ n + 1 = omega arith in nothing_next n ∙ ap nothing e)

pub nothing_at : (n m : ℕ) → numbers_at (nothing n) m ≡ None
nothing_at zero m = refl
nothing_at (suc n) zero = refl
nothing_at (suc n) (suc m) = nothing_at n m

pub nothing_stands : (d : Draft) (n : ℕ) → StandNumbers d (nothing n)
nothing_stands d zero net k = absurd (let l = k.1 in omega (arith, l))
nothing_stands d (suc n) net (zero, l, e) = absurd (cc)
nothing_stands d (suc n) net (suc k, l, e) = nothing_stands d n net (k, omega (arith, l), e)

-- where one more net is set, all that there are still stand
set_there : (nets : List (Option ℕ)) (o : ℕ) (net : Option ℕ) (n : ℕ) → Contains (slice_set nets o net) (Some n) → Contains nets (Some n) ⊎ (net ≡ Some n)
set_there [] o net n k = absurd (let l = k.1 in omega (arith, l))
set_there (x ∷ nets) zero net n (zero, l, e) = inr e
set_there (x ∷ nets) zero net n (suc k, l, e) = inl (suc k, omega (arith, l), e)
set_there (x ∷ nets) (suc o) net n (zero, l, e) = inl (zero, omega arith, e)
set_there (x ∷ nets) (suc o) net n (suc k, l, e) = ⊎_elim (λ h. inl (suc h.0, (let b = h.1 in omega (arith, b)), h.2)) (λ h. inr h) (set_there nets o net n (k, omega (arith, l), e))

pub set_stands : (d : Draft) (nets : List (Option ℕ)) (o : ℕ) (net : Option ℕ) (own : List (Option ℕ)) → StandNumbers d nets → StandNumbers d (net ∷ own) → StandNumbers d (slice_set nets o net)
set_stands d nets o net own h g n k = ⊎_elim (λ l. h n l) (λ e. g n (zero, omega arith, e)) (set_there nets o net n k)

pub rest_stands : (d : Draft) (net : Option ℕ) (own : List (Option ℕ)) → StandNumbers d (net ∷ own) → StandNumbers d own
rest_stands d net own h n k = h n (suc k.0, (let b = k.1 in omega (arith, b)), k.2)
