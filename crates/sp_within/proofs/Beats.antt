-- The beats of an outer body cost no more than all that its stages do, a cycle for each beat beside it.
use Rattle.std.proofs.Common.{◌≡◌, ℕ, zero, suc, ◌+◌, ◌-◌, ◌<◌, ◌≤◌, Bool, true, false, cond, List, [], ◌∷◌, length, nat_le, nat_lt, inl, inr, arith, refl, sym, subst, ap, ◌∙◌}
use Rattle.std.proofs.lemmas.Bool.{cases_order, leb-true, ltb-true}
use Rattle.std.specs.Prelude.{◌==◌, ◌&&◌, slice_index, slice_index_or}
use Rattle.sp_core.specs.Cost.{sum_below, greatest_below, greatest_of, sum_of, cost_at, is_chain, is_at_work, work, chain_cost, beat_cost, beat_count, beats_cost}

-- sums of two things, and one by one
sum_both : (f g : ℕ → ℕ) (n : ℕ) → sum_below (λ i. f i + g i) n ≡ sum_below f n + sum_below g n
sum_both f g zero = refl
sum_both f g (suc n) = let a : sum_below (λ i. f i + g i) n ≡ sum_below f n + sum_below g n = sum_both f g n in omega arith

sum_each : (f g : ℕ → ℕ) (n : ℕ) → ((i : ℕ) → f i ≤ g i) → sum_below f n ≤ sum_below g n
sum_each f g zero h = omega arith
sum_each f g (suc n) h = let a : sum_below f n ≤ sum_below g n = sum_each f g n h in let b : f n ≤ g n = h n in omega arith

sum_ones : (f : ℕ → ℕ) (n : ℕ) → sum_below (λ i. 1 + f i) n ≡ n + sum_below f n
sum_ones f zero = refl
sum_ones f (suc n) = let a : sum_below (λ i. 1 + f i) n ≡ n + sum_below f n = sum_ones f n in omega arith

sum_none : (f : ℕ → ℕ) (n : ℕ) → ((i : ℕ) → f i ≡ 0) → sum_below f n ≡ 0
sum_none f zero h = refl
sum_none f (suc n) h = let a : sum_below f n ≡ 0 = sum_none f n h in let b : f n ≡ 0 = h n in omega arith

-- row by row, or column by column
sum_turned : (f : ℕ → ℕ → ℕ) (n m : ℕ) → sum_below (λ i. sum_below (f i) m) n ≡ sum_below (λ j. sum_below (λ i. f i j) n) m
sum_turned f n zero = sum_none (λ i. 0) n (λ i. refl)
sum_turned f n (suc m) = sum_both (λ i. sum_below (f i) m) (λ i. f i m) n ∙ ap (λ x. x + sum_below (λ i. f i m) n) (sum_turned f n m)

greatest_each : (f : ℕ → ℕ) (n m : ℕ) → ((i : ℕ) → f i ≤ m) → greatest_below f n ≤ m
greatest_each f zero m h = omega arith
greatest_each f (suc n) m h = let a : greatest_below f n ≤ m = greatest_each f n m h in let b : f n ≤ m = h n in omega arith

-- the first one and the others
first_off : (f : ℕ → ℕ) (n : ℕ) → sum_below f (suc n) ≡ f 0 + sum_below (λ i. f (suc i)) n
first_off f zero = omega arith
first_off f (suc n) = let a : sum_below f (suc n) ≡ f 0 + sum_below (λ i. f (suc i)) n = first_off f n in omega arith

-- what stands in a list, as far as it goes
sum_listed : (ns : List ℕ) (n : ℕ) → sum_below (slice_index ns) n ≤ sum_of ns
sum_listed ns zero = omega arith
sum_listed [] (suc n) = let a : sum_below (slice_index []) (suc n) ≡ 0 = sum_none (slice_index []) (suc n) (λ i. refl) in omega arith
sum_listed (x ∷ ns) (suc n) = let a : sum_below (slice_index ns) n ≤ sum_of ns = sum_listed ns n in let b : sum_below (slice_index (x ∷ ns)) (suc n) ≡ x + sum_below (slice_index ns) n = first_off (slice_index (x ∷ ns)) n in omega arith

-- a number that is passed so many cycles later, and no other one, adds what those passed add
window : (f : ℕ → ℕ) (s n : ℕ) (g : ℕ → ℕ) → ((b : ℕ) → b < s → g b ≡ 0) → ((k : ℕ) → k < n → g (s + k) ≤ f k) → ((k : ℕ) → n ≤ k → g (s + k) ≡ 0) → (m : ℕ) → sum_below g m ≤ sum_below f n
window f s n g before here after m = elim (cases_order m s) [
  | inl e ↦ let z : sum_below g m ≡ 0 = early m (omega (arith, e)) in omega arith
  | inr (inl l) ↦ let z : sum_below g m ≡ 0 = early m (omega (arith, l)) in omega arith
  | inr (inr l) ↦ let e : m ≡ s + (m - s) = omega (arith, l) in let a : sum_below g (s + (m - s)) ≤ sum_below f n = late (m - s) in subst (λ x. sum_below g x ≤ sum_below f n) (sym e) a
]
  where
    early : (m : ℕ) → m ≤ s → sum_below g m ≡ 0
    early zero l = refl
    early (suc m) l = let a : sum_below g m ≡ 0 = early m (omega (arith, l)) in let b : g m ≡ 0 = before m (omega (arith, l)) in omega arith

    up_to : (k : ℕ) → k ≤ n → sum_below g (s + k) ≤ sum_below f k
    up_to zero l = let z : sum_below g s ≡ 0 = early s (omega arith) in let e : s + 0 ≡ s = omega arith in subst (λ x. sum_below g x ≤ 0) (sym e) (omega arith)
    up_to (suc k) l =
        let a : sum_below g (s + k) ≤ sum_below f k = up_to k (omega (arith, l)) in
        let b : g (s + k) ≤ f k = here k (omega (arith, l)) in
        let e : s + suc k ≡ suc (s + k) = omega arith in
        subst (λ x. sum_below g x ≤ sum_below f (suc k)) (sym e) (omega arith)

    late : (k : ℕ) → sum_below g (s + k) ≤ sum_below f n
    late zero = let z : sum_below g s ≡ 0 = early s (omega arith) in let e : s + 0 ≡ s = omega arith in subst (λ x. sum_below g x ≤ sum_below f n) (sym e) (omega arith)
    late (suc k) = elim (cases_order (suc k) n) [
      | inl e ↦ subst (λ x. sum_below g (s + suc k) ≤ sum_below f x) e (up_to (suc k) (omega (arith, e)))
      | inr (inl l) ↦ let a : sum_below g (s + suc k) ≤ sum_below f (suc k) = up_to (suc k) (omega (arith, l)) in let b : sum_below f (suc k) ≤ sum_below f n = sum_longer (suc k) n (omega (arith, l)) in omega arith
      | inr (inr l) ↦ let a : sum_below g (s + k) ≤ sum_below f n = late k in let b : g (s + k) ≡ 0 = after k (omega (arith, l)) in let e : s + suc k ≡ suc (s + k) = omega arith in subst (λ x. sum_below g x ≤ sum_below f n) (sym e) (omega arith)
    ]
      where
        sum_longer : (a b : ℕ) → a ≤ b → sum_below f a ≤ sum_below f b
        sum_longer a zero l = let e : a ≡ 0 = omega (arith, l) in subst (λ x. sum_below f x ≤ 0) (sym e) (omega arith)
        sum_longer a (suc b) l = elim (cases_order a (suc b)) [
          | inl e ↦ subst (λ x. sum_below f x ≤ sum_below f (suc b)) (sym e) (omega arith)
          | inr (inl q) ↦ let r : sum_below f a ≤ sum_below f b = sum_longer a b (omega (arith, q)) in omega arith
          | inr (inr q) ↦ absurd (omega (arith, q, l))
        ]

-- all that rows have
abbrev pub all_of : List (List ℕ) → ℕ
all_of [] = 0
all_of (row ∷ rows) = sum_of row + all_of rows

sum_rows : (rows : List (List ℕ)) → sum_below (λ k. sum_of (slice_index_or rows k [])) (length rows) ≤ all_of rows
sum_rows [] = omega arith
sum_rows (row ∷ rows) =
    let a : sum_below (λ k. sum_of (slice_index_or rows k [])) (length rows) ≤ all_of rows = sum_rows rows in
    let b : sum_below (λ k. sum_of (slice_index_or (row ∷ rows) k [])) (suc (length rows)) ≡ sum_of row + sum_below (λ k. sum_of (slice_index_or rows k [])) (length rows) = first_off (λ k. sum_of (slice_index_or (row ∷ rows) k [])) (length rows) in
    omega arith

cond_under : (b : Bool) (x y : ℕ) → x ≤ y → cond b x 0 ≤ y
cond_under true x y l = l
cond_under false x y l = omega arith

module _ (slots chains : List ℕ) (costs : List (List ℕ)) where
  abbrev slot : ℕ → ℕ
  slot r = slice_index slots r

  -- in which beat a stage does what
  too_early : (r b : ℕ) → b < slot r → work slots chains costs b r ≡ 0
  too_early r b l = go (nat_le (slot r) b) refl
    where
      go : (x : Bool) → nat_le (slot r) b ≡ x → work slots chains costs b r ≡ 0
      go true e = let q : slot r ≤ b = leb-true _ _ e in absurd (omega (arith, q, l))
      go false e = ap (λ x. cond (x && nat_lt (b - slot r) (length costs)) (cost_at slots chains costs (b - slot r) r) 0) e

  in_time : (r k : ℕ) → work slots chains costs (slot r + k) r ≤ cost_at slots chains costs k r
  in_time r k =
      let e : (slot r + k) - slot r ≡ k = omega arith in
      cond_under (is_at_work slots chains costs (slot r + k) r) _ _ (subst (λ x. cost_at slots chains costs x r ≤ cost_at slots chains costs k r) (sym e) (omega arith))

  too_late : (r k : ℕ) → length costs ≤ k → work slots chains costs (slot r + k) r ≡ 0
  too_late r k l = go (nat_le (slot r) (slot r + k)) (nat_lt ((slot r + k) - slot r) (length costs)) refl refl
    where
      go : (x z : Bool) → nat_le (slot r) (slot r + k) ≡ x → nat_lt ((slot r + k) - slot r) (length costs) ≡ z → work slots chains costs (slot r + k) r ≡ 0
      go x true e q = let a : (slot r + k) - slot r < length costs = ltb-true _ _ q in absurd (omega (arith, a, l))
      go x false e q = ap (λ z. cond (nat_le (slot r) (slot r + k) && z) (cost_at slots chains costs ((slot r + k) - slot r) r) 0) q ∙ none (nat_le (slot r) (slot r + k)) _
        where
          none : (x : Bool) (c : ℕ) → cond (x && false) c 0 ≡ 0
          none true c = refl
          none false c = refl

  column_under : (m r : ℕ) → sum_below (λ b. work slots chains costs b r) m ≤ sum_below (λ k. cost_at slots chains costs k r) (length costs)
  column_under m r = window (λ k. cost_at slots chains costs k r) (slot r) (length costs) (λ b. work slots chains costs b r) (too_early r) (λ k l. in_time r k) (too_late r) m

  beat_cost_under : (b : ℕ) → beat_cost slots chains costs b ≤ 1 + sum_below (work slots chains costs b) (length slots)
  beat_cost_under b =
      let a : greatest_below (chain_cost slots chains costs b) (length slots) ≤ sum_below (work slots chains costs b) (length slots) =
      greatest_each (chain_cost slots chains costs b) (length slots) _ (λ s. sum_each _ (work slots chains costs b) (length slots) (λ r. cond_under (is_chain slots chains costs s r) _ _ (omega arith))) in
      omega arith

  works_under : (m : ℕ) → sum_below (λ b. sum_below (work slots chains costs b) (length slots)) m ≤ all_of costs
  works_under m =
      let n : ℕ = length slots in
      let a : sum_below (λ b. sum_below (work slots chains costs b) n) m ≡ sum_below (λ r. sum_below (λ b. work slots chains costs b r) m) n = sum_turned (work slots chains costs) m n in
      let b : sum_below (λ r. sum_below (λ b. work slots chains costs b r) m) n ≤ sum_below (λ r. sum_below (λ k. cost_at slots chains costs k r) (length costs)) n = sum_each _ _ n (column_under m) in
      let c : sum_below (λ k. sum_below (cost_at slots chains costs k) n) (length costs) ≡ sum_below (λ r. sum_below (λ k. cost_at slots chains costs k r) (length costs)) n = sum_turned (cost_at slots chains costs) (length costs) n in
      let e : sum_below (λ k. sum_below (cost_at slots chains costs k) n) (length costs) ≤ sum_below (λ k. sum_of (slice_index_or costs k [])) (length costs) = sum_each _ _ (length costs) (λ k. sum_listed (slice_index_or costs k []) n) in
      let f : sum_below (λ k. sum_of (slice_index_or costs k [])) (length costs) ≤ all_of costs = sum_rows costs in
      omega arith

  pub beats_under : beats_cost slots chains costs ≤ 2 + ((length costs + greatest_of slots) + all_of costs)
  beats_under =
      let m : ℕ = beat_count slots chains costs in
      let a : sum_below (beat_cost slots chains costs) m ≤ sum_below (λ b. 1 + sum_below (work slots chains costs b) (length slots)) m = sum_each _ _ m beat_cost_under in
      let b : sum_below (λ b. 1 + sum_below (work slots chains costs b) (length slots)) m ≡ m + sum_below (λ b. sum_below (work slots chains costs b) (length slots)) m = sum_ones _ m in
      let c : sum_below (λ b. sum_below (work slots chains costs b) (length slots)) m ≤ all_of costs = works_under m in
      let e : m ≤ length costs + greatest_of slots = few (length costs == 0) in
      omega arith
    where
      few : (x : Bool) → cond x 0 (length costs + greatest_of slots) ≤ length costs + greatest_of slots
      few true = omega arith
      few false = omega arith
