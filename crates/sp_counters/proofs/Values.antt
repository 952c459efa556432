-- The values of a counter from one on.
use Rattle.std.proofs.Common.{◌≡◌, ℕ, zero, suc, ◌+◌, ◌-◌, ◌*◌, ◌≤◌, Bool, true, false, ℤ, pos, negsuc, ◌+ℤ◌, ◌-ℤ◌, ◌≤ℤ◌, ◌<ℤ◌, List, [], ◌∷◌, ◌++◌, map, refl, sym, ap, ap₂, ◌∙◌, arith, if◌then◌else◌}
use Rattle.std.specs.Prelude.{◌/◌, int_lt}
use Rattle.std.proofs.lemmas.Int.{ints}
use Rattle.std.proofs.lemmas.List.{map-append}
use Rattle.std.proofs.Math.Nat.{add-div_right, div-eq_of_lt}
use Rattle.sp_core.specs.Elements.{natural, numbers_below, length_between, count_below, values_below}

-- the numbers below n + 1 are 0 and the successors of those below n
numbers_from_zero : (n : ℕ) → numbers_below (suc n) ≡ 0 ∷ map (λ k. suc k) (numbers_below n)
numbers_from_zero zero = refl
numbers_from_zero (suc n) = ap (λ xs. xs ++ suc n ∷ []) (numbers_from_zero n) ∙ ap (λ xs. 0 ∷ xs) (sym (map-append (λ k. suc k) (numbers_below n) (n ∷ [])))

natural_is : (z : ℤ) (n : ℕ) → z ≡ pos n → natural z ≡ n
natural_is z n e = ap natural e

natural_none : (z : ℤ) → z ≤ℤ pos 0 → natural z ≡ 0
natural_none (pos n) h = omega (arith, ints, h)
natural_none (negsuc n) h = refl

natural_less : (z : ℤ) (n : ℕ) → natural (z -ℤ pos n) ≡ natural z - n
natural_less (pos m) n = by_order (n - m) refl
  where
    by_order : (e : ℕ) → n - m ≡ e → natural (pos m -ℤ pos n) ≡ m - n
    by_order zero q = natural_is (pos m -ℤ pos n) (m - n) (omega (arith, ints, q))
    by_order (suc e) q = natural_none (pos m -ℤ pos n) (omega (arith, ints, q)) ∙ omega (arith, q)
natural_less (negsuc m) n = natural_none (negsuc m -ℤ pos n) (omega (arith, ints)) ∙ omega arith

-- one more than a step fewer, rounded up
rounded : (n step : ℕ) → 1 ≤ n → 1 ≤ step → (n + (step - 1)) / step ≡ suc ((n - step + (step - 1)) / step)
rounded n step few some = by_order (step - n) refl
  where
    one_more : (m : ℕ) → n + (step - 1) ≡ m + step → (n + (step - 1)) / step ≡ suc (m / step)
    one_more m e = ap (λ k. k / step) e ∙ add-div_right m (omega (arith, some)) ∙ omega arith

    by_order : (e : ℕ) → step - n ≡ e → (n + (step - 1)) / step ≡ suc ((n - step + (step - 1)) / step)
    by_order zero q = one_more (n - step + (step - 1)) (omega (arith, q, some, few))
    by_order (suc e) q =
        one_more (n - 1) (omega (arith, q, some, few))
        ∙ ap (λ k. suc k) (div-eq_of_lt {n = n - 1} {m = step} (omega (arith, q, few)) ∙ sym (div-eq_of_lt {n = n - step + (step - 1)} {m = step} (omega (arith, q, some))))

none_counted : (step : ℕ) → 1 ≤ step → (0 + (step - 1)) / step ≡ 0
none_counted step some = div-eq_of_lt {n = 0 + (step - 1)} {m = step} (omega (arith, some))

pub is_less : (a b : ℤ) → int_lt a b ≡ true → a <ℤ b
is_less a b e = grind (arith, ints)

pub not_less : (a b : ℤ) → int_lt a b ≡ false → b ≤ℤ a
not_less a b e = grind (arith, ints)

some_between : (z : ℤ) → pos 0 <ℤ z → 1 ≤ natural z
some_between (pos n) h = omega (arith, ints, h)
some_between (negsuc n) h = absurd (omega (arith, ints, h))

shifted_map : (f g : ℕ → ℤ) → ((k : ℕ) → f (suc k) ≡ g k) → (ks : List ℕ) → map f (map (λ k. suc k) ks) ≡ map g ks
shifted_map f g h [] = refl
shifted_map f g h (k ∷ ks) = ap₂ (λ x xs. x ∷ xs) (h k) (shifted_map f g h ks)

-- so many values, and the others
one_more_value : (a : ℤ) (step n : ℕ) → map (λ k. a +ℤ pos (k * step)) (numbers_below (suc n)) ≡ a ∷ map (λ k. (a +ℤ pos step) +ℤ pos (k * step)) (numbers_below n)
one_more_value a step n =
    ap (map (λ k. a +ℤ pos (k * step))) (numbers_from_zero n)
    ∙ ap₂ (λ x xs. x ∷ xs) (omega (arith, ints))
    (shifted_map (λ k. a +ℤ pos (k * step)) (λ k. (a +ℤ pos step) +ℤ pos (k * step)) (λ k. omega (arith, ints)) (numbers_below n))

pub values_go_on : (a b : ℤ) (step : ℕ) → 1 ≤ step → values_below a b step ≡ (if int_lt a b then a ∷ values_below (a +ℤ pos step) b step else [])
values_go_on a b step some = by_test (int_lt a b) refl
  where
    fewer : length_between (a +ℤ pos step) b ≡ length_between a b - step
    fewer = let e : (b -ℤ (a +ℤ pos step)) ≡ ((b -ℤ a) -ℤ pos step) = omega (arith, ints) in ap natural e ∙ natural_less (b -ℤ a) step

    by_test : (t : Bool) → int_lt a b ≡ t → values_below a b step ≡ (if t then a ∷ values_below (a +ℤ pos step) b step else [])
    by_test true e =
        let l = is_less a b e in
        let few : 1 ≤ length_between a b = some_between (b -ℤ a) (omega (arith, ints, l)) in
        ap (λ n. map (λ k. a +ℤ pos (k * step)) (numbers_below n)) (rounded (length_between a b) step few some ∙ ap (λ n. suc ((n + (step - 1)) / step)) (sym fewer))
        ∙ one_more_value a step (count_below (a +ℤ pos step) b step)
    by_test false e =
        let l = not_less a b e in
        ap (λ n. map (λ k. a +ℤ pos (k * step)) (numbers_below ((n + (step - 1)) / step))) (natural_none (b -ℤ a) (omega (arith, ints, l)))
        ∙ ap (λ n. map (λ k. a +ℤ pos (k * step)) (numbers_below n)) (none_counted step some)
