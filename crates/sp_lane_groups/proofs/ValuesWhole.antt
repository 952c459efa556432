-- The values of one counter, and those in its lanes.
use Rattle.std.proofs.Common.{◌≡◌, ℕ, zero, suc, ◌+◌, ◌-◌, ◌*◌, ◌/◌, ◌<◌, ◌≤◌, Bool, true, false, ℤ, pos, negsuc, ◌+ℤ◌, ◌-ℤ◌, List, map, inl, inr, arith, refl, sym, ap, ◌∙◌, subst, nat_lt}
use Rattle.std.proofs.lemmas.Bool.{cases_lt, lt-ltb}
use Rattle.std.proofs.lemmas.Int.{ints}
use Rattle.std.proofs.lemmas.Nat.{div_below, le-div}
use Rattle.std.specs.Prelude.{filter, flat_map, int_lt}
use Rattle.sp_core.specs.Elements.{natural, numbers_below, length_between, count_below, values_below}
use Rattle.sp_lane_groups.proofs.ValuesLists.{map_two, map_flat, flat_mapped, as_many, least, numbers_cut, first_kept}

-- so many steps from one number are below another one
abbrev IsCount : (n step q : ℕ) → Type 0
IsCount n step q = (k : ℕ) → (k < q → k * step < n) × (k * step < n → k < q)

counted : (n step : ℕ) → 1 ≤ step → IsCount n step ((n + (step - 1)) / step)
counted n step le k = (below, above)
  where
    below : k < (n + (step - 1)) / step → k * step < n
    below lt = elim (cases_lt (k * step) n) [
      | inl q ↦ q
      | inr q ↦ absurd (let h : (n + (step - 1)) / step < suc k = div_below (n + (step - 1)) step (suc k) (omega (arith, le)) (more n step (k * step) (suc k * step) (omega arith) le q) in omega (arith, h, lt))
    ]
      where
        more : (n step a b : ℕ) → b ≡ a + step → 1 ≤ step → n ≤ a → n + (step - 1) < b
        more n step a b e le h = omega (arith, e, le, h)

    above : k * step < n → k < (n + (step - 1)) / step
    above lt = let h : suc k ≤ (n + (step - 1)) / step = le-div (suc k) (n + (step - 1)) step (omega (arith, le)) (most n step (k * step) (suc k * step) (omega arith) le lt) in omega (arith, h)
      where
        most : (n step a b : ℕ) → b ≡ a + step → 1 ≤ step → a < n → b ≤ n + (step - 1)
        most n step a b e le h = omega (arith, e, le, h)

-- a number some steps on is below another one where it is so many less
on_below : (a b : ℤ) (x : ℕ) → int_lt (a +ℤ pos x) b ≡ nat_lt x (length_between a b)
on_below a b x = by (b -ℤ a) refl
  where
    by : (d : ℤ) → b -ℤ a ≡ d → int_lt (a +ℤ pos x) b ≡ nat_lt x (natural d)
    by (pos n) e = elim (cases_lt x n) [
      | inl q ↦ grind (arith, ints)
      | inr q ↦ grind (arith, ints)
    ]
    by (negsuc n) e = grind (arith, ints)

-- by the bounds of a counter, its step, and how many steps are taken at once
module _ (a b : ℤ) (by par : ℕ) (step : 1 ≤ by) (some : 1 ≤ par) where
  abbrev many : ℕ
  many = count_below a b by

  abbrev groups : ℕ
  groups = count_below a b (by * par)

  step_of_group : 1 ≤ by * par
  step_of_group = product by par step some
    where
      product : (m n : ℕ) → 1 ≤ m → 1 ≤ n → 1 ≤ m * n
      product zero n h k = absurd (omega arith)
      product (suc m) zero h k = absurd (omega arith)
      product (suc m) (suc n) h k = omega arith

  abbrev is_counted : IsCount (length_between a b) by many
  is_counted = counted (length_between a b) by step

  -- a group begins where its first lane has an iteration
  group_below : (g : ℕ) → (g < groups → g * par < many) × (g * par < many → g < groups)
  group_below g =
      let h = counted (length_between a b) (by * par) step_of_group g in
      let k = counted (length_between a b) by step (g * par) in
      let same : g * (by * par) ≡ (g * par) * by = omega arith in
      (λ lt. k.1 (subst (λ n. n < length_between a b) same (h.0 lt)), λ lt. h.1 (subst (λ n. n < length_between a b) (sym same) (k.0 lt)))

  all_groups : least many (groups * par) ≡ many
  all_groups = elim (cases_lt (groups * par) many) [
    | inl q ↦ absurd (let h = (group_below groups).1 q in omega (arith, h))
    | inr q ↦ omega (arith, q)
  ]

  -- the value of a counter in a lane of a group
  abbrev first_value : ℕ → ℤ
  first_value g = a +ℤ pos (g * (by * par))

  in_lane : (g l : ℕ) → first_value g +ℤ pos (l * by) ≡ a +ℤ pos ((g * par + l) * by)
  in_lane g l = joined a (g * (by * par)) (l * by) ((g * par + l) * by) (omega arith)
    where
      joined : (a : ℤ) (x y z : ℕ) → z ≡ x + y → (a +ℤ pos x) +ℤ pos y ≡ a +ℤ pos z
      joined a x y z e = omega (arith, ints)

  -- how many lanes of a group have an iteration
  abbrev pub lanes_at : ℕ → ℕ
  lanes_at g = least par (many - g * par)

  abbrev pub is_live_at : ℤ → ℕ → Bool
  is_live_at v l = int_lt (v +ℤ pos (l * by)) b

  live_is : (g l : ℕ) → is_live_at (first_value g) l ≡ nat_lt ((g * par + l) * by) (length_between a b)
  live_is g l = ap (λ v. int_lt v b) (in_lane g l) ∙ on_below a b ((g * par + l) * by)

  pub live_before : (g l : ℕ) → l < lanes_at g → is_live_at (first_value g) l ≡ true
  live_before g l lt = live_is g l ∙ lt-ltb ((g * par + l) * by) (length_between a b) ((is_counted (g * par + l)).0 (in_all (g * par) l par many lt))
    where
      in_all : (x l par n : ℕ) → l < least par (n - x) → x + l < n
      in_all x l par n lt = omega (arith, lt)

  pub masked_from : (g l : ℕ) → lanes_at g ≤ l → l < par → is_live_at (first_value g) l ≡ false
  masked_from g l ge lt = live_is g l ∙ not_below ((g * par + l) * by) (length_between a b) (λ h. past (g * par) l par many ge lt ((is_counted (g * par + l)).1 h))
    where
      past : (x l par n : ℕ) → least par (n - x) ≤ l → l < par → x + l < n → ⊥
      past x l par n ge lt h = omega (arith, ge, lt, h)

      not_below : (x y : ℕ) → (x < y → ⊥) → nat_lt x y ≡ false
      not_below x y h = elim (cases_lt x y) [
        | inl q ↦ absurd (h q)
        | inr q ↦ grind (arith)
      ]

  pub lanes_kept : (g : ℕ) → filter (is_live_at (first_value g)) (numbers_below par) ≡ numbers_below (lanes_at g)
  lanes_kept g = first_kept (is_live_at (first_value g)) (lanes_at g) par (omega arith) (live_before g) (masked_from g)

  pub lanes_some : (g : ℕ) → g < groups → 1 ≤ lanes_at g
  lanes_some g lt = one (g * par) par many some ((group_below g).0 lt)
    where
      one : (x par n : ℕ) → 1 ≤ par → x < n → 1 ≤ least par (n - x)
      one x par n h k = omega (arith, h, k)

  -- its values are those in the lanes of its groups that have an iteration
  abbrev pub lane_values_at : ℤ → List ℤ
  lane_values_at v = map (λ l. v +ℤ pos (l * by)) (filter (is_live_at v) (numbers_below par))

  pub values_cut : values_below a b by ≡ flat_map lane_values_at (values_below a b (by * par))
  values_cut =
      ap (λ xs. map (λ k. a +ℤ pos (k * by)) xs) (as_many many (least many (groups * par)) (sym all_groups) ∙ numbers_cut par many groups)
      ∙ map_flat (λ k. a +ℤ pos (k * by)) (λ g. map (λ l. g * par + l) (numbers_below (lanes_at g))) (λ g. lane_values_at (first_value g)) here (numbers_below groups)
      ∙ sym (flat_mapped lane_values_at first_value (λ g. lane_values_at (first_value g)) (λ g. refl) (numbers_below groups))
    where
      here : (g : ℕ) → map (λ k. a +ℤ pos (k * by)) (map (λ l. g * par + l) (numbers_below (lanes_at g))) ≡ lane_values_at (first_value g)
      here g =
          map_two (λ k. a +ℤ pos (k * by)) (λ l. g * par + l) (λ l. first_value g +ℤ pos (l * by)) (λ l. sym (in_lane g l)) (numbers_below (lanes_at g))
          ∙ ap (λ xs. map (λ l. first_value g +ℤ pos (l * by)) xs) (sym (lanes_kept g))
