-- The elements of a memory beside the groups of the loop over its elements, and which of them is the last one.
use Rattle.std.proofs.Common.{◌≡◌, ℕ, zero, suc, ◌-◌, ◌<◌, ◌≤◌, true, false, ◌==◌, List, [], ◌∷◌, ◌++◌, refl, sym, ap, subst, arith}
use Rattle.std.proofs.lemmas.Bool.{and_parts, and_from, eqb-true, eq-eqb}
use Rattle.std.specs.Prelude.{ℤ, map, flat_map, All}
use Rattle.sp_words.specs.Interface.{word_count, IsCount}
use Rattle.sp_tree.specs.Elements.{numbers_below, tuples, row_major}
use Rattle.sp_core.specs.Scope.{Loop}
use Rattle.sp_sugar.proofs.Declared.{some_words}
use Rattle.sp_sugar.proofs.NumberLemmas.{either}
use Rattle.sp_same.proofs.BoundsTaken.{IsLive}
use Rattle.sp_same.proofs.Quietly.{Pairs}
use Rattle.sp_same.proofs.Values.{Each, each_both, Fit, word_of_value}
use Rattle.sp_outcomes.proofs.ElementLoops.{other_counts}
use Rattle.sp_outcomes.proofs.ElementOrder.{AreBelow, AreLast, elements_in_order, last_is_last, ends_last}
use Rattle.sp_outcomes.proofs.ElementWords.{are_last}

-- the test finds the last indices, and no others
finds_last : (ds js : List ℕ) → AreBelow ds js → All IsCount ds → AreLast ds js → are_last ds js ≡ true
finds_last [] js b h l = refl
finds_last (d ∷ ds) [] b h l = refl
finds_last (d ∷ ds) (j ∷ js) b h l = and_from _ _ (eq-eqb j (d - 1) (omega (arith, l.0))) (finds_last ds js b.1 (other_counts d ds h) l.1)

found_last : (ds js : List ℕ) → AreBelow ds js → All IsCount ds → are_last ds js ≡ true → AreLast ds js
found_last [] [] b h e = tt
found_last [] (j ∷ js) b h e = absurd b
found_last (d ∷ ds) [] b h e = absurd b
found_last (d ∷ ds) (j ∷ js) b h e =
    let both = and_parts (j == d - 1) (are_last ds js) e in
    let at : j ≡ d - 1 = eqb-true j (d - 1) both.0 in
    (omega (arith, at, b.0), found_last ds js b.1 (other_counts d ds h) both.1)

pub at_last : (ds js : List ℕ) → AreBelow ds js → All IsCount ds → suc (row_major ds js) ≡ word_count ds → are_last ds js ≡ true
at_last ds js b h e = finds_last ds js b h (ends_last ds js b e)

pub before_last : (ds js : List ℕ) → AreBelow ds js → All IsCount ds → suc (row_major ds js) < word_count ds → are_last ds js ≡ false
before_last ds js b h lt = either (are_last ds js)
    (λ e. let same = last_is_last ds js b (found_last ds js b h e) in absurd (omega (arith, same, lt)))
    (λ e. e)

-- only the last number of a list is the last one below
abbrev pub OnlyLast : (count : ℕ) → List ℕ → Type 0
OnlyLast count [] = ⊥
OnlyLast count (k ∷ []) = suc k ≡ count
OnlyLast count (k ∷ l ∷ ks) = (suc k < count) × OnlyLast count (l ∷ ks)

only_last : (count : ℕ) (ks : List ℕ) (k : ℕ) → Each (λ j. suc j < count) ks → suc k ≡ count → OnlyLast count (ks ++ k ∷ [])
only_last count [] k each e = e
only_last count (j ∷ []) k each e = (each.0, e)
only_last count (j ∷ l ∷ ks) k each e = (each.0, only_last count (l ∷ ks) k each.1 e)

each_number : (P : ℕ → Type 0) (n : ℕ) → ((k : ℕ) → k < n → P k) → Each P (numbers_below n)
each_number P zero f = tt
each_number P (suc n) f = each_both P (numbers_below n) (n ∷ []) (each_number P n (λ k lt. f k (omega (arith, lt)))) (f n (omega arith), tt)

numbers_end : (n : ℕ) → 1 ≤ n → OnlyLast n (numbers_below n)
numbers_end zero le = absurd (omega (arith, le))
numbers_end (suc n) le = only_last (suc n) (numbers_below n) n (each_number (λ j. suc j < suc n) n (λ k lt. omega (arith, lt))) refl

pub elements_end : (ds : List ℕ) → All IsCount ds → OnlyLast (word_count ds) (numbers_below (word_count ds))
elements_end ds h = numbers_end (word_count ds) (some_words ds h)

-- each tuple of indices is inside
one_below : (d : ℕ) (ds : List ℕ) (j : ℕ) → j < d → (ts : List (List ℕ)) → Each (AreBelow ds) ts → Each (AreBelow (d ∷ ds)) (map (λ others. j ∷ others) ts)
one_below d ds j lt [] e = tt
one_below d ds j lt (t ∷ ts) e = ((lt, e.0), one_below d ds j lt ts e.1)

all_below : (d : ℕ) (ds : List ℕ) (ts : List (List ℕ)) → Each (AreBelow ds) ts → (js : List ℕ) → Each (λ j. j < d) js → Each (AreBelow (d ∷ ds)) (flat_map (λ j. map (λ others. j ∷ others) ts) js)
all_below d ds ts h [] e = tt
all_below d ds ts h (j ∷ js) e = each_both (AreBelow (d ∷ ds)) (map (λ others. j ∷ others) ts) (flat_map (λ j. map (λ others. j ∷ others) ts) js) (one_below d ds j e.0 ts h) (all_below d ds ts h js e.1)

tuples_below : (ds : List ℕ) → Each (AreBelow ds) (tuples (map numbers_below ds))
tuples_below [] = (tt, tt)
tuples_below (d ∷ ds) = all_below d ds (tuples (map numbers_below ds)) (tuples_below ds) (numbers_below d) (each_number (λ j. j < d) d (λ k lt. lt))

-- an element by its number, and the group of its indices
abbrev pub IsElement : (ds : List ℕ) → List Loop → (at : ℕ) → List ℤ → Type 0
IsElement ds ls at vs = Fit IsLive ls vs × AreBelow ds (map word_of_value vs) × (row_major ds (map word_of_value vs) ≡ at)

abbrev Same : List Loop → List ℕ → List ℤ → Type 0
Same ls ws vs = (map word_of_value vs ≡ ws) × Fit IsLive ls vs

numbered : (ds : List ℕ) (ls : List Loop) (ts : List (List ℕ)) (vss : List (List ℤ)) → Each (AreBelow ds) ts → Pairs (Same ls) ts vss → Pairs (IsElement ds ls) (map (row_major ds) ts) vss
numbered ds ls [] [] e q = tt
numbered ds ls [] (vs ∷ vss) e q = absurd q
numbered ds ls (t ∷ ts) [] e q = absurd q
numbered ds ls (t ∷ ts) (vs ∷ vss) e q = ((q.0.1, subst (AreBelow ds) (sym q.0.0) e.0, ap (row_major ds) q.0.0), numbered ds ls ts vss e.1 q.1)

pub elements_paired : (ds : List ℕ) (ls : List Loop) (vss : List (List ℤ)) → Pairs (Same ls) (tuples (map numbers_below ds)) vss → Pairs (IsElement ds ls) (numbers_below (word_count ds)) vss
elements_paired ds ls vss q = subst (λ ks. Pairs (IsElement ds ls) ks vss) (elements_in_order ds) (numbered ds ls (tuples (map numbers_below ds)) vss (tuples_below ds) q)
