-- The places of the cells that compute, sorted by the numbers of their components.
use Rattle.std.proofs.Common.{◌≡◌, ◌≢◌, ℕ, zero, suc, ◌+◌, ◌<◌, ◌≤◌, List, [], ◌∷◌, ◌++◌, Bool, true, false, cond, IsTrue, length, get_or, map, filter, count_by, sum_by, ◌==◌, eq-eqb, ne_eqb, All, Contains, slice_get, slice_index, Option, Some, None, refl, sym, ap, ◌∙◌, subst, arith, ⊎_elim, inl, inr, ◌⊎◌}
use Rattle.std.specs.List.{range_with_len}
use Rattle.std.specs.List.Sorted.{IsPermutation, IsNonDecreasingBy}
use Rattle.std.proofs.lemmas.Bool.{cases_Bool, cases_lt, cases_eq, cond-true, cond-false, false≢true}
use Rattle.std.proofs.lemmas.List.{get_or_default, get_or_at, length-append, get_or-append-add}
use Rattle.std.proofs.lemmas.List.Elements.{Contains-append_cases, All-contains, Contains-get_or, Contains-append_right}
use Rattle.std.proofs.lemmas.List.FromFn.{length-range_with_len, get_or-range_with_len, fill_by_all}
use Rattle.std.proofs.lemmas.List.Sorted.{Contains-permutation, IsPermutation-sym, length_permutation, sum_by-IsPermutation}
use Rattle.std.proofs.lemmas.List.Sums.{length-filter}
use Rattle.sp_graph.specs.Edges.{IsEdge}
use Rattle.sp_graph.specs.Components.{AreComponents}
use Rattle.sp_netlist.specs.Cells.{PlainCell, done_cell, op_cell, not_cell, shift_cell, cast_cell, mux_cell}
use Rattle.sp_netlist.specs.Rules.{is_computed, drives, reads, IsNetlist}
use Rattle.sp_netlist.specs.CellGraph.{computed_net, operands, computed_at, operands_at, ComputedOnce, IsCellGraph}
use Rattle.sp_netlist.specs.Order.{IsComputing, IsOrder}
use Rattle.sp_netlist.proofs.CellGraphs.{at_place, looped_from}
use Rattle.sp_netlist.proofs.Endings.{no_loop}
use Rattle.sp_netlist.proofs.Splits.{count-cons, count-cons_yes, count-cons_no}
use Rattle.sp_netlist.proofs.DraftLemmas.{count_by-map}

-- what is filtered
Contains-filter : {X : Type 0} (p : X → Bool) (xs : List X) (x : X) → Contains xs x → p x ≡ true → Contains (filter p xs) x
Contains-filter p [] x c e = let l = c.1 in absurd (omega arith)
Contains-filter {X} p (y ∷ ys) x c e = at (Contains-filter p ys x) c.0 c.1 c.2
  where
    more : Contains (filter p ys) x → Contains (cond (p y) (y ∷ filter p ys) (filter p ys)) x
    more k = ⊎_elim
        (λ t. subst (λ zs. Contains zs x) (sym (cond-true (p y) (y ∷ filter p ys) (filter p ys) t)) (suc k.0, let l = k.1 in omega arith, k.2))
        (λ t. subst (λ zs. Contains zs x) (sym (cond-false (p y) (y ∷ filter p ys) (filter p ys) t)) k)
        (cases_Bool (p y))

    at : (Contains ys x → p x ≡ true → Contains (filter p ys) x) → (k : ℕ) → k < length (y ∷ ys) → get_or (y ∷ ys) k x ≡ x → Contains (filter p (y ∷ ys)) x
    at rest zero l same = subst (λ zs. Contains zs x) (sym (cond-true (p y) (y ∷ filter p ys) (filter p ys) (ap p same ∙ e))) (0, omega arith, same)
    at rest (suc k) l same = more (rest (k, omega arith, same) e)

Contains-from_filter : {X : Type 0} (p : X → Bool) (xs : List X) (x : X) → Contains (filter p xs) x → Contains xs x × (p x ≡ true)
Contains-from_filter p [] x c = let l = c.1 in absurd (omega arith)
Contains-from_filter {X} p (y ∷ ys) x c = go (Contains-from_filter p ys x) (cases_Bool (p y))
  where
    later : Contains ys x × (p x ≡ true) → Contains (y ∷ ys) x × (p x ≡ true)
    later k = ((suc k.0.0, let l = k.0.1 in omega arith, k.0.2), k.1)

    first : (Contains (filter p ys) x → Contains ys x × (p x ≡ true)) → p y ≡ true → (k : ℕ) → k < length (y ∷ filter p ys) → get_or (y ∷ filter p ys) k x ≡ x → Contains (y ∷ ys) x × (p x ≡ true)
    first rest t zero l e = ((0, omega arith, e), ap p (sym e) ∙ t)
    first rest t (suc k) l e = later (rest (k, omega arith, e))

    go : (Contains (filter p ys) x → Contains ys x × (p x ≡ true)) → (p y ≡ true) ⊎ (p y ≡ false) → Contains (y ∷ ys) x × (p x ≡ true)
    go rest (inl t) = let d = subst (λ zs. Contains zs x) (cond-true (p y) (y ∷ filter p ys) (filter p ys) t) c in first rest t d.0 d.1 d.2
    go rest (inr t) = later (rest (subst (λ zs. Contains zs x) (cond-false (p y) (y ∷ filter p ys) (filter p ys) t) c))

-- what is counted place by place, and what is left of a count by a filter
count_by_places : (cells : List PlainCell) → count_by (λ at. is_computed (get_or cells at (done_cell 0))) (range_with_len 0 (length cells)) ≡ count_by is_computed cells
count_by_places cells =
    sym (count_by-map is_computed (λ at. get_or cells at (done_cell 0)) (range_with_len 0 (length cells)))
    ∙ ap (count_by is_computed) (sym (fill_by_all (λ at. get_or cells at (done_cell 0)) cells (length cells) (done_cell 0) refl (λ k h. refl)))

few_in_filter : (p : ℕ → Bool) (at : ℕ) (xs : List ℕ) → count_by (λ x. x == at) (filter p xs) ≤ count_by (λ x. x == at) xs
few_in_filter p at [] = omega arith
few_in_filter p at (x ∷ xs) = go (few_in_filter p at xs) (cases_Bool (p x))
  where
    go : count_by (λ x. x == at) (filter p xs) ≤ count_by (λ x. x == at) xs → (p x ≡ true) ⊎ (p x ≡ false) → count_by (λ x. x == at) (filter p (x ∷ xs)) ≤ count_by (λ x. x == at) (x ∷ xs)
    go rest (inl t) =
        let e = ap (count_by (λ (n : ℕ). n == at)) (cond-true (p x) (x ∷ filter p xs) (filter p xs) t) in
        let a = count-cons (λ (n : ℕ). n == at) x (filter p xs) in
        let b = count-cons (λ (n : ℕ). n == at) x xs in
        omega (arith, e, a, b, rest)
    go rest (inr t) =
        let e = ap (count_by (λ (n : ℕ). n == at)) (cond-false (p x) (x ∷ filter p xs) (filter p xs) t) in
        let b = count-cons (λ (n : ℕ). n == at) x xs in
        omega (arith, e, b, rest)

none_below : (a n at : ℕ) → at < a → count_by (λ x. x == at) (range_with_len a n) ≡ 0
none_below a zero at l = refl
none_below a (suc n) at l = count-cons_no (λ (x : ℕ). x == at) a (range_with_len (a + 1) n) (ne_eqb a at (λ e. omega (arith, e, l))) ∙ none_below (a + 1) n at (omega arith)

once_in_range : (a n at : ℕ) → count_by (λ x. x == at) (range_with_len a n) ≤ 1
once_in_range a zero at = omega arith
once_in_range a (suc n) at = ⊎_elim
    (λ same. let none = none_below (a + 1) n at (omega (arith, same)) in let all = count-cons_yes (λ (x : ℕ). x == at) a (range_with_len (a + 1) n) (eq-eqb a at same) in omega (arith, none, all))
    (λ other. let rest = once_in_range (a + 1) n at in let all = count-cons_no (λ (x : ℕ). x == at) a (range_with_len (a + 1) n) (ne_eqb a at other) in omega (arith, rest, all))
    (cases_eq a at)

in_range : (n at : ℕ) → at < n → Contains (range_with_len 0 n) at
in_range n at l = (at, let e = length-range_with_len 0 n in omega arith, get_or-range_with_len 0 n at at l ∙ omega arith)

below_range : (n at : ℕ) → Contains (range_with_len 0 n) at → at < n
below_range n at c =
    let l : c.0 < n = let k = c.1 in let e = length-range_with_len 0 n in omega arith in
    let e = get_or-range_with_len 0 n c.0 at l in
    omega (arith, e, c.2)

-- a cell that computes: its net, and its operands are the nets that it reads
record Computes (cells : List PlainCell) (x : PlainCell) : Type 0 where
  pub net : ℕ
  pub is : computed_net x ≡ Some net
  pub reads_it : (a : ℕ) → Contains (map (λ p. p.0) (reads cells x)) a → Contains (operands x) a
  pub drives_it : (n : ℕ) → Contains (map (λ p. p.0) (drives cells x)) n → net ≡ n

only_net : (x y : ℕ) → Contains (x ∷ []) y → x ≡ y
only_net x y c = at c.0 c.1 c.2
  where
    at : (k : ℕ) → k < length (x ∷ []) → get_or (x ∷ []) k y ≡ y → x ≡ y
    at zero l e = e
    at (suc k) l e = absurd (omega arith)

computes : (cells : List PlainCell) (x : PlainCell) → is_computed x ≡ true → Computes cells x
computes cells (op_cell net ty op a b) e = record { net = net; is = refl; reads_it = λ n c. c; drives_it = λ n c. only_net net n c }
computes cells (not_cell net ty a) e = record { net = net; is = refl; reads_it = λ n c. c; drives_it = λ n c. only_net net n c }
computes cells (shift_cell net ty side a places) e = record { net = net; is = refl; reads_it = λ n c. c; drives_it = λ n c. only_net net n c }
computes cells (cast_cell net from to a) e = record { net = net; is = refl; reads_it = λ n c. c; drives_it = λ n c. only_net net n c }
computes cells (mux_cell net width choice a b) e = record { net = net; is = refl; reads_it = λ n c. c; drives_it = λ n c. only_net net n c }
computes cells _ e = absurd (false≢true e)

slice_get_at : (cells : List PlainCell) (at : ℕ) → at < length cells → slice_get cells at ≡ Some (get_or cells at (done_cell 0))
slice_get_at [] at l = absurd (omega arith)
slice_get_at (x ∷ cells) zero l = refl
slice_get_at (x ∷ cells) (suc at) l = slice_get_at cells at (omega arith)

module _ (cells : List PlainCell) (h : IsNetlist cells) (graph : List (List ℕ)) (numbers : List ℕ) (once : ComputedOnce cells) (of : IsCellGraph cells graph) (parts : AreComponents graph numbers) where
  -- an operand's number is lower
  lower : (at driver net : ℕ) → IsComputing cells at → IsComputing cells driver → Contains (map (λ p. p.0) (reads cells (get_or cells at (done_cell 0)))) net
      → Contains (map (λ p. p.0) (drives cells (get_or cells driver (done_cell 0)))) net → slice_index numbers driver < slice_index numbers at
  lower at driver net ca cd r d =
      let a = computes cells (get_or cells at (done_cell 0)) ca.1 in
      let b = computes cells (get_or cells driver (done_cell 0)) cd.1 in
      let pa = at_place cells at (get_or cells at (done_cell 0)) (slice_get_at cells at ca.0) in
      let pb = at_place cells driver (get_or cells driver (done_cell 0)) (slice_get_at cells driver cd.0) in
      let edge : IsEdge graph at driver = (of.edges at driver).1 (net, subst (λ xs. Contains xs net) (sym pa.1) (a.reads_it net r), pb.0 ∙ b.is ∙ ap (λ n. Some n) (b.drives_it net d)) in
      let down = parts.falling at driver edge in
      let apart : slice_index numbers driver ≢ slice_index numbers at =
      λ same. no_loop cells h a.net (looped_from cells graph numbers once of parts a.net (at, pa.0 ∙ a.is, (driver, edge, same))) in
      omega (arith, down, apart)

  pub sorted_order : (places order : List ℕ) → places ≡ filter (λ at. is_computed (get_or cells at (done_cell 0))) (range_with_len 0 (length cells)) → IsPermutation places order
      → IsNonDecreasingBy (λ at. slice_index numbers at) order → IsOrder cells order
  sorted_order places order e p up = record {
    computing = λ k d l. is_computing (get_or order k d) (Contains-get_or order k d l);
    complete = in_order;
    number = length_permutation places order p ∙ ap length e ∙ length-filter (λ at. is_computed (get_or cells at (done_cell 0))) (range_with_len 0 (length cells)) ∙ count_by_places cells;
    once = λ at. (let same = sum_by-IsPermutation (λ other. cond (other == at) 1 0) places order p in let none = few_in_filter (λ i. is_computed (get_or cells i (done_cell 0))) at (range_with_len 0 (length cells)) in let one = once_in_range 0 (length cells) at in let was = ap (count_by (λ other. other == at)) e in omega (arith, same, none, one, was));
    operands_first = λ before at after split net driver r c d.
        let computing_at = is_computing at (subst (λ xs. Contains xs at) (sym split) (Contains-append_right before (at ∷ after) at (0, omega arith, refl))) in
        let low = lower at driver net computing_at c r d in
        ⊎_elim (λ k. k) (λ k. absurd (late before at after split driver k low))
        (Contains-append_cases before (at ∷ after) driver (subst (λ xs. Contains xs driver) split (in_order driver c)));
  }
    where
      is_computing : (at : ℕ) → Contains order at → IsComputing cells at
      is_computing at c =
          let was = subst (λ xs. Contains xs at) e (Contains-permutation order places at (IsPermutation-sym places order p) c) in
          let k = Contains-from_filter (λ i. is_computed (get_or cells i (done_cell 0))) (range_with_len 0 (length cells)) at was in
          (below_range (length cells) at k.0, k.1)

      in_order : (at : ℕ) → IsComputing cells at → Contains order at
      in_order at c =
          Contains-permutation places order at p (subst (λ xs. Contains xs at) (sym e) (Contains-filter (λ i. is_computed (get_or cells i (done_cell 0))) (range_with_len 0 (length cells)) at (in_range (length cells) at c.0) c.1))

      late : (before : List ℕ) (at : ℕ) (after : List ℕ) → order ≡ before ++ at ∷ after → (driver : ℕ) → Contains (at ∷ after) driver → slice_index numbers driver < slice_index numbers at → ⊥
      late before at after split driver k low =
          let n = length before in
          let long : n + k.0 < length order = let l = k.1 in omega (arith, ap length split, length-append before (at ∷ after)) in
          let first : get_or order n driver ≡ at = ap (λ xs. get_or xs n driver) split ∙ get_or_at before at after driver n refl in
          let second : get_or order (n + k.0) driver ≡ driver = ap (λ xs. get_or xs (n + k.0) driver) split ∙ get_or-append-add before (at ∷ after) k.0 driver ∙ k.2 in
          let rise = up n (n + k.0) driver (omega arith) long in
          let rise2 : slice_index numbers at ≤ slice_index numbers driver = subst (λ i. slice_index numbers i ≤ slice_index numbers driver) first (subst (λ i. slice_index numbers (get_or order n driver) ≤ slice_index numbers i) second rise) in
          omega (arith, rise2, low)
